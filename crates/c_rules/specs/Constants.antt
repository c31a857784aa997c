-- Definition: the values of integer constants, character constants and string literals as they are written (C11 6.4.4.1, 6.4.4.4, 6.4.5).
use Rattle.std.specs.Prelude.{ℕ, suc, ◌+◌, ◌-◌, ◌*◌, ◌==◌, Bool, true, false, ◌&&◌, ◌||◌, nat_lt, nat_le, ℤ, pos, int_le, List, [], ◌∷◌, ◌++◌, Option, Some, None, drop, if◌then◌else◌}
use Rattle.std.specs.Char.{is_ascii_digit, is_ascii_hexdigit}
use Rattle.cil_base.specs.declared.kinds.Abi.{Abi}
use Rattle.cil_base.specs.declared.kinds.IntKind.{IntKind}
use Rattle.cil_base.specs.declared.kinds.IntKind.TheVariants.{Char, Int, UInt, LLong, ULLong}
use Rattle.cil_base.specs.Integer.{greatest, wrapped, long_of, ulong_of}

-- integer constants (6.4.4.1)

abbrev pub is_between : ℕ → ℕ → ℕ → Bool
is_between low high b = nat_le low b && nat_le b high

-- the value of a hexadecimal digit, and so of a decimal and an octal one (p4)
abbrev pub digit : ℕ → ℕ
digit b = if is_ascii_digit b then b - 48 else (if is_between 97 102 b then b - 87 else b - 55)

-- the digits with which a text begins, read to a base behind those that gave n (p4), and what stands behind them
abbrev pub digits_from : ℕ → (ℕ → Bool) → ℕ → List ℕ → ℕ × List ℕ
digits_from base is n [] = (n, [])
digits_from base is n (b ∷ bs) = elim (is b) [ true ↦ digits_from base is (n * base + digit b) bs | false ↦ (n, b ∷ bs) ]

abbrev pub is_x : ℕ → Bool
is_x b = b == 120 || b == 88

-- whether a constant is decimal, its value, and its suffix
pub record Written : Type 0 where
  pub decimal : Bool
  pub value : ℕ
  pub suffix : List ℕ

abbrev pub written : Bool → ℕ × List ℕ → Written
written decimal read = record { decimal = decimal; value = read.0; suffix = read.1 }

-- behind a first digit 0: hexadecimal behind `x`, else octal, of which the 0 is one digit (p3)
abbrev pub read_behind_zero : List ℕ → Written
read_behind_zero [] = written false (0, [])
read_behind_zero (b ∷ bs) = elim (is_x b) [ true ↦ written false (digits_from 16 is_ascii_hexdigit 0 bs) | false ↦ written false (digits_from 8 is_ascii_digit 0 (b ∷ bs)) ]

abbrev pub read_integer : List ℕ → Written
read_integer [] = written true (0, [])
read_integer (b ∷ bs) = elim (b == 48) [ true ↦ read_behind_zero bs | false ↦ written true (digits_from 10 is_ascii_digit 0 (b ∷ bs)) ]

abbrev pub is_u : ℕ → Bool
is_u b = b == 117 || b == 85

abbrev pub has_u : List ℕ → Bool
has_u [] = false
has_u (b ∷ bs) = is_u b || has_u bs

-- how many letters l or L
abbrev pub longs : List ℕ → ℕ
longs [] = 0
longs (b ∷ bs) = if b == 108 || b == 76 then suc (longs bs) else longs bs

-- the list of types from which a constant takes its own (p5): unsigned ones behind u; signed ones for a decimal constant; both in turn for another. From long on behind l, from long long on behind ll; long and unsigned long are the data model's kinds
abbrev pub candidates : Abi → Bool → Bool → ℕ → List IntKind
candidates abi decimal true ls = drop ls (UInt ∷ ulong_of abi ∷ ULLong ∷ [])
candidates abi true false ls = drop ls (Int ∷ long_of abi ∷ LLong ∷ [])
candidates abi false false ls = drop (2 * ls) (Int ∷ UInt ∷ long_of abi ∷ ulong_of abi ∷ LLong ∷ ULLong ∷ [])

-- the first type of the list that has the value (p5), none where none has it (6.4.4p2)
abbrev pub first_holding : ℕ → List IntKind → Option (IntKind × ℤ)
first_holding n [] = None
first_holding n (k ∷ ks) = elim (int_le (pos n) (greatest k)) [ true ↦ Some (k, pos n) | false ↦ first_holding n ks ]

abbrev pub of_written : Abi → Written → Option (IntKind × ℤ)
of_written abi w = first_holding w.value (candidates abi w.decimal (has_u w.suffix) (longs w.suffix))

-- the type and the value of an integer constant in a data model
abbrev pub integer_constant : Abi → List ℕ → Option (IntKind × ℤ)
integer_constant abi text = of_written abi (read_integer text)

-- characters (6.4.4.4)

abbrev pub is_octal : ℕ → Bool
is_octal b = is_between 48 55 b

-- \a \b \f \n \r \t \v; behind another backslash stands a character for itself (6.4.4.4p4, 5.2.2p2)
abbrev pub simple_escape : ℕ → ℕ
simple_escape b =
    if b == 97 then 7 else (if b == 98 then 8 else (if b == 102 then 12 else (if b == 110 then 10
    else (if b == 114 then 13 else (if b == 116 then 9 else (if b == 118 then 11 else b))))))

-- where a reading of characters stands: between characters, behind a backslash, in an octal escape with its value and how many digits it has, in a hexadecimal one
pub data Mode : Type 0 where
  Between : Mode
  Escaped : Mode
  Octal : (value count : ℕ) → Mode
  Hexadecimal : (value : ℕ) → Mode

-- the values of the characters up to a closing quote (6.4.4.4p5 to p8): an octal escape has at most three digits, a hexadecimal one as many as there are
abbrev pub characters : ℕ → Mode → List ℕ → List ℕ
characters quote Between [] = []
characters quote Escaped [] = []
characters quote (Octal n count) [] = n ∷ []
characters quote (Hexadecimal n) [] = n ∷ []
characters quote Between (b ∷ bs) = elim (b == quote) [ true ↦ [] | false ↦ elim (b == 92) [ true ↦ characters quote Escaped bs | false ↦ b ∷ characters quote Between bs ] ]
characters quote Escaped (b ∷ bs) = elim (is_octal b) [ true ↦ characters quote (Octal (digit b) 1) bs | false ↦ elim (b == 120) [ true ↦ characters quote (Hexadecimal 0) bs | false ↦ simple_escape b ∷ characters quote Between bs ] ]
characters quote (Octal n count) (b ∷ bs) = elim (is_octal b && nat_lt count 3) [ true ↦ characters quote (Octal (n * 8 + digit b) (suc count)) bs | false ↦ n ∷ elim (b == quote) [ true ↦ [] | false ↦ elim (b == 92) [ true ↦ characters quote Escaped bs | false ↦ b ∷ characters quote Between bs ] ] ]
characters quote (Hexadecimal n) (b ∷ bs) = elim (is_ascii_hexdigit b) [ true ↦ characters quote (Hexadecimal (n * 16 + digit b)) bs | false ↦ n ∷ elim (b == quote) [ true ↦ [] | false ↦ elim (b == 92) [ true ↦ characters quote Escaped bs | false ↦ b ∷ characters quote Between bs ] ] ]

-- behind the opening quote
abbrev pub between_quotes : ℕ → List ℕ → List ℕ
between_quotes quote [] = []
between_quotes quote (b ∷ bs) = characters quote Between bs

-- an escape is not above the values of unsigned char (6.4.4.4p9)
abbrev pub all_bytes : List ℕ → Bool
all_bytes [] = true
all_bytes (n ∷ ns) = nat_le n 255 && all_bytes ns

-- the value of the first character, converted from char to int (6.4.4.4p10)
abbrev pub first_character : List ℕ → ℤ
first_character [] = pos 0
first_character (n ∷ ns) = wrapped Char (pos n)

abbrev pub character_of : List ℕ → Option ℤ
character_of ns = if all_bytes ns then Some (first_character ns) else None

-- a character constant, between single quotes
abbrev pub character_constant : List ℕ → Option ℤ
character_constant text = character_of (between_quotes 39 text)

-- adjacent literals are joined (6.4.5p5), between double quotes
abbrev pub joined_characters : List (List ℕ) → List ℕ
joined_characters [] = []
joined_characters (t ∷ ts) = between_quotes 34 t ++ joined_characters ts

abbrev pub bytes_of : List ℕ → Option (List ℕ)
bytes_of ns = if all_bytes ns then Some (ns ++ 0 ∷ []) else None

-- the bytes of a string literal, a zero byte behind them (6.4.5p6)
abbrev pub string_literal : List (List ℕ) → Option (List ℕ)
string_literal texts = bytes_of (joined_characters texts)
