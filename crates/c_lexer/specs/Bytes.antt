-- Definition: the classes of bytes that tokens are made of (C11 5.2.1, 6.4).
use Rattle.std.specs.Prelude.{ℕ, Bool, ◌||◌, ◌==◌}
use Rattle.std.specs.Char.{is_ascii_digit, is_ascii_alphabetic}
use Rattle.std.specs.Int.{is_in_range}

-- space, horizontal tab, vertical tab, form feed and carriage return (6.4p3; carriage return is own)
abbrev pub is_blank : ℕ → Bool
is_blank b = (b == 32 || b == 9) || is_in_range 11 13 b

-- a nondigit (6.4.2.1)
abbrev pub is_nondigit : ℕ → Bool
is_nondigit b = is_ascii_alphabetic b || b == 95

-- a nondigit or a digit
abbrev pub is_word_byte : ℕ → Bool
is_word_byte b = is_nondigit b || is_ascii_digit b

-- a letter behind which a sign belongs to a preprocessing number (6.4.8)
abbrev pub is_exponent : ℕ → Bool
is_exponent b = (b == 101 || b == 69) || (b == 112 || b == 80)

-- an octal digit (6.4.4.1)
abbrev pub is_octal : ℕ → Bool
is_octal b = is_in_range 48 55 b

-- behind a backslash: a quote, a question mark, a backslash, one of a b f n r t v, or an octal digit (6.4.4.4)
abbrev pub is_escape : ℕ → Bool
is_escape b = ((b == 39 || b == 34) || (b == 63 || b == 92)) || (((b == 97 || b == 98) || (b == 102 || b == 110)) || ((b == 114 || b == 116) || (b == 118 || is_octal b)))
