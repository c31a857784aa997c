-- Definition: which preprocessing numbers are integer constants and which are floating constants (C11 6.4.4.1, 6.4.4.2), and how many characters a character constant has (6.4.4.4).
use Rattle.std.specs.Prelude.{ℕ, suc, ◌-◌, Bool, true, false, not, ◌&&◌, ◌||◌, ◌==◌, nat_lt, nat_le, List, [], ◌∷◌, if◌then◌else◌}
use Rattle.std.specs.Char.{is_ascii_digit, is_ascii_hexdigit}
use Rattle.c_lexer.specs.Bytes.{is_octal}
use Rattle.c_lexer.specs.declared.constants.Counting.{Counting}
use Rattle.c_lexer.specs.declared.constants.Counting.TheVariants.{Byte, Escape, Octals, Hexes, Named}

-- what stands behind the digits with which a text begins
abbrev pub behind_digits : List ℕ → List ℕ
behind_digits [] = []
behind_digits (b ∷ bs) = if is_ascii_digit b then behind_digits bs else b ∷ bs

abbrev pub behind_octals : List ℕ → List ℕ
behind_octals [] = []
behind_octals (b ∷ bs) = if is_octal b then behind_octals bs else b ∷ bs

abbrev pub behind_hexes : List ℕ → List ℕ
behind_hexes [] = []
behind_hexes (b ∷ bs) = if is_ascii_hexdigit b then behind_hexes bs else b ∷ bs

abbrev pub is_u : ℕ → Bool
is_u b = b == 117 || b == 85

abbrev pub is_l : ℕ → Bool
is_l b = b == 108 || b == 76

-- an integer suffix, or none: u, l and ll in either order, where both letters of ll have one case
abbrev pub is_suffix : List ℕ → Bool
is_suffix [] = true
is_suffix (a ∷ []) = is_u a || is_l a
is_suffix (a ∷ b ∷ []) = ((is_u a && is_l b) || (is_l a && is_u b)) || (is_l a && a == b)
is_suffix (a ∷ b ∷ c ∷ []) = (is_u a && (is_l b && b == c)) || ((is_l a && a == b) && is_u c)
is_suffix (a ∷ b ∷ c ∷ d ∷ more) = false

abbrev pub is_x : ℕ → Bool
is_x b = b == 120 || b == 88

abbrev pub begins_hex : List ℕ → Bool
begins_hex [] = false
begins_hex (b ∷ bs) = is_ascii_hexdigit b

abbrev pub begins_digit : List ℕ → Bool
begins_digit [] = false
begins_digit (b ∷ bs) = is_ascii_digit b

-- behind the 0 of an octal or hexadecimal constant
abbrev pub is_integer_behind_zero : List ℕ → Bool
is_integer_behind_zero [] = true
is_integer_behind_zero (b ∷ bs) = if is_x b then begins_hex bs && is_suffix (behind_hexes bs) else is_suffix (behind_octals (b ∷ bs))

-- an integer constant: decimal, octal or hexadecimal
abbrev pub is_integer : List ℕ → Bool
is_integer [] = false
is_integer (b ∷ bs) = if b == 48 then is_integer_behind_zero bs else is_ascii_digit b && is_suffix (behind_digits bs)

-- a floating suffix, or none
abbrev pub is_floating_suffix : List ℕ → Bool
is_floating_suffix [] = true
is_floating_suffix (b ∷ []) = (b == 102 || b == 70) || is_l b
is_floating_suffix (b ∷ c ∷ bs) = false

abbrev pub is_sign : ℕ → Bool
is_sign b = b == 43 || b == 45

abbrev pub behind_sign : List ℕ → List ℕ
behind_sign [] = []
behind_sign (b ∷ bs) = if is_sign b then bs else b ∷ bs

-- behind the letter of an exponent: digits, perhaps with a sign, and a suffix
abbrev pub is_power : List ℕ → Bool
is_power text = begins_digit (behind_sign text) && is_floating_suffix (behind_digits (behind_sign text))

abbrev pub is_e : ℕ → Bool
is_e b = b == 101 || b == 69

abbrev pub is_p : ℕ → Bool
is_p b = b == 112 || b == 80

-- behind the digits and the dot of a decimal floating constant: an exponent, or none, and a suffix
abbrev pub is_behind_fraction : List ℕ → Bool
is_behind_fraction [] = true
is_behind_fraction (b ∷ bs) = if is_e b then is_power bs else is_floating_suffix (b ∷ bs)

-- behind the first digits of a decimal floating constant, of which there may be none
abbrev pub is_behind_whole : Bool → List ℕ → Bool
is_behind_whole some [] = false
is_behind_whole some (b ∷ bs) = if b == 46 then (some || begins_digit bs) && is_behind_fraction (behind_digits bs) else (some && is_e b) && is_power bs

abbrev pub is_decimal_floating : List ℕ → Bool
is_decimal_floating text = is_behind_whole (begins_digit text) (behind_digits text)

-- behind the digits and the dot of a hexadecimal floating constant: its exponent
abbrev pub is_behind_hex_fraction : List ℕ → Bool
is_behind_hex_fraction [] = false
is_behind_hex_fraction (b ∷ bs) = is_p b && is_power bs

abbrev pub is_behind_hex_whole : Bool → List ℕ → Bool
is_behind_hex_whole some [] = false
is_behind_hex_whole some (b ∷ bs) = if b == 46 then (some || begins_hex bs) && is_behind_hex_fraction (behind_hexes bs) else (some && is_p b) && is_power bs

abbrev pub is_hex_floating : List ℕ → Bool
is_hex_floating [] = false
is_hex_floating (a ∷ []) = false
is_hex_floating (a ∷ b ∷ bs) = (a == 48 && is_x b) && is_behind_hex_whole (begins_hex bs) (behind_hexes bs)

-- a floating constant: decimal or hexadecimal
abbrev pub is_floating : List ℕ → Bool
is_floating text = is_decimal_floating text || is_hex_floating text

-- behind the opening quote of a character constant, whose prefix has none
abbrev pub behind_quote : List ℕ → List ℕ
behind_quote [] = []
behind_quote (b ∷ bs) = if b == 39 then bs else behind_quote bs

-- whether the byte begins a character: digits that belong to the escape sequence before them begin none
abbrev pub begins_character : Counting → ℕ → Bool
begins_character Byte b = true
begins_character Escape b = false
begins_character (Octals left) b = not (nat_lt 0 left && is_octal b)
begins_character Hexes b = not (is_ascii_hexdigit b)
begins_character (Named left) b = nat_le left 0

-- behind a byte that begins a character
abbrev pub behind_start : ℕ → Counting
behind_start b = if b == 92 then Escape else Byte

-- behind the byte that tells which escape sequence it is
abbrev pub behind_escape : ℕ → Counting
behind_escape b = if is_octal b then Octals 2 else (if b == 120 then Hexes else (if b == 117 then Named 4 else (if b == 85 then Named 8 else Byte)))

-- behind a byte that begins none
abbrev pub behind_inner : Counting → ℕ → Counting
behind_inner Byte b = Byte
behind_inner Escape b = behind_escape b
behind_inner (Octals left) b = Octals (left - 1)
behind_inner Hexes b = Hexes
behind_inner (Named left) b = Named (left - 1)

-- the characters up to the closing quote
abbrev pub count : Counting → List ℕ → ℕ
count counting [] = 0
count counting (b ∷ bs) = if begins_character counting b then (if b == 39 then 0 else suc (count (behind_start b) bs)) else count (behind_inner counting b) bs

-- how many characters a character constant has
abbrev pub characters : List ℕ → ℕ
characters text = count Byte (behind_quote text)

-- whether a literal has a universal character name (6.4.3); `escaped` tells that a backslash that begins an escape sequence stands before
abbrev pub has_universal : Bool → List ℕ → Bool
has_universal escaped [] = false
has_universal escaped (b ∷ bs) = if escaped && (b == 117 || b == 85) then true else has_universal (not escaped && b == 92) bs
