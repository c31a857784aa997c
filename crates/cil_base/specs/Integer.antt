-- Definition: the integer types of C11 6.2.5, with the sizes and signs of the two data models, and the conversions of 6.3.1.
use Rattle.std.specs.Prelude.{List, [], codes, ℕ, ◌-◌, ◌*◌, ◌^◌, Bool, true, false, if◌then◌else◌, ℤ, pos, neg_ℤ, ◌-ℤ◌, ◌≤ℤ◌, int_lt}
use Rattle.std.specs.Int.{int_rem_euclid}
use Rattle.std.specs.Ordering.{int_eq}
use Rattle.cil_base.specs.declared.kinds.Abi.{Abi}
use Rattle.cil_base.specs.declared.kinds.Abi.TheVariants.{Lp64, Ilp32}
use Rattle.cil_base.specs.declared.kinds.IntKind.{IntKind}
use Rattle.cil_base.specs.declared.kinds.IntKind.TheVariants.{Bool as Boolean, Char, SChar, UChar, Short, UShort, Int, UInt, Long, ULong, LLong, ULLong, Long4, ULong4}

-- the size of a kind in bytes (own); long and unsigned long are Long and ULong in one data model, Long4 and ULong4 in the other
abbrev pub size_of : IntKind → ℕ
size_of Boolean = 1
size_of Char = 1
size_of SChar = 1
size_of UChar = 1
size_of Short = 2
size_of UShort = 2
size_of Int = 4
size_of UInt = 4
size_of Long = 8
size_of ULong = 8
size_of LLong = 8
size_of ULLong = 8
size_of Long4 = 4
size_of ULong4 = 4

-- the number of bits of a kind's object representation (C11 6.2.6.1p4): a byte has 8. At int and wider kinds, which have no padding bits, it is the width of 6.2.6.2p6
abbrev pub width_of : IntKind → ℕ
width_of kind = 8 * size_of kind

-- the conversion rank (C11 6.3.1.1p1): a signed type and its unsigned one have the same
abbrev pub rank_of : IntKind → ℕ
rank_of Boolean = 0
rank_of Char = 1
rank_of SChar = 1
rank_of UChar = 1
rank_of Short = 2
rank_of UShort = 2
rank_of Int = 3
rank_of UInt = 3
rank_of Long = 4
rank_of ULong = 4
rank_of LLong = 5
rank_of ULLong = 5
rank_of Long4 = 4
rank_of ULong4 = 4

-- whether the kind has negative values (C11 6.2.5p4, p6, p15); plain char is signed (own)
abbrev pub is_signed : IntKind → Bool
is_signed Boolean = false
is_signed Char = true
is_signed SChar = true
is_signed UChar = false
is_signed Short = true
is_signed UShort = false
is_signed Int = true
is_signed UInt = false
is_signed Long = true
is_signed ULong = false
is_signed LLong = true
is_signed ULLong = false
is_signed Long4 = true
is_signed ULong4 = false

-- the least value of a kind (C11 5.2.4.2.1, two's complement)
abbrev pub least : IntKind → ℤ
least Boolean = pos 0
least Char = neg_ℤ (pos (2 ^ 7))
least SChar = neg_ℤ (pos (2 ^ 7))
least UChar = pos 0
least Short = neg_ℤ (pos (2 ^ 15))
least UShort = pos 0
least Int = neg_ℤ (pos (2 ^ 31))
least UInt = pos 0
least Long = neg_ℤ (pos (2 ^ 63))
least ULong = pos 0
least LLong = neg_ℤ (pos (2 ^ 63))
least ULLong = pos 0
least Long4 = neg_ℤ (pos (2 ^ 31))
least ULong4 = pos 0

-- the greatest value of a kind (C11 5.2.4.2.1; _Bool holds 0 and 1, 6.2.5p2)
abbrev pub greatest : IntKind → ℤ
greatest Boolean = pos 1
greatest Char = pos (2 ^ 7 - 1)
greatest SChar = pos (2 ^ 7 - 1)
greatest UChar = pos (2 ^ 8 - 1)
greatest Short = pos (2 ^ 15 - 1)
greatest UShort = pos (2 ^ 16 - 1)
greatest Int = pos (2 ^ 31 - 1)
greatest UInt = pos (2 ^ 32 - 1)
greatest Long = pos (2 ^ 63 - 1)
greatest ULong = pos (2 ^ 64 - 1)
greatest LLong = pos (2 ^ 63 - 1)
greatest ULLong = pos (2 ^ 64 - 1)
greatest Long4 = pos (2 ^ 31 - 1)
greatest ULong4 = pos (2 ^ 32 - 1)

-- the number is a value of the kind
abbrev pub IsOf : IntKind → ℤ → Type 0
IsOf kind v = (least kind ≤ℤ v) × (v ≤ℤ greatest kind)

-- C11 6.3.1.2: 0 for zero, else 1
abbrev pub truth : ℤ → ℤ
truth v = if int_eq v (pos 0) then pos 0 else pos 1

-- C11 6.3.1.3p2: the number from 0 to modulus - 1 that differs by a multiple of the modulus
abbrev pub reduced : ℕ → ℤ → ℤ
reduced modulus v = int_rem_euclid v (pos modulus)

-- C11 6.3.1.3p1 and p3 (own: it wraps): the number from -half to half - 1 that differs by a multiple of 2 half
abbrev pub balanced : ℕ → ℤ → ℤ
balanced half v = if int_lt (reduced (2 * half) v) (pos half) then reduced (2 * half) v else reduced (2 * half) v -ℤ pos (2 * half)

-- the number converted to the kind (C11 6.3.1.2, 6.3.1.3)
abbrev pub wrapped : IntKind → ℤ → ℤ
wrapped Boolean v = truth v
wrapped Char v = balanced (2 ^ 7) v
wrapped SChar v = balanced (2 ^ 7) v
wrapped UChar v = reduced (2 ^ 8) v
wrapped Short v = balanced (2 ^ 15) v
wrapped UShort v = reduced (2 ^ 16) v
wrapped Int v = balanced (2 ^ 31) v
wrapped UInt v = reduced (2 ^ 32) v
wrapped Long v = balanced (2 ^ 63) v
wrapped ULong v = reduced (2 ^ 64) v
wrapped LLong v = balanced (2 ^ 63) v
wrapped ULLong v = reduced (2 ^ 64) v
wrapped Long4 v = balanced (2 ^ 31) v
wrapped ULong4 v = reduced (2 ^ 32) v

-- the words that name the type (C11 6.7.2p2)
abbrev pub words_of : IntKind → List ℕ
words_of Boolean = codes "_Bool"
words_of Char = codes "char"
words_of SChar = codes "signed char"
words_of UChar = codes "unsigned char"
words_of Short = codes "short"
words_of UShort = codes "unsigned short"
words_of Int = codes "int"
words_of UInt = codes "unsigned int"
words_of Long = codes "long"
words_of ULong = codes "unsigned long"
words_of LLong = codes "long long"
words_of ULLong = codes "unsigned long long"
words_of Long4 = codes "long"
words_of ULong4 = codes "unsigned long"

-- the suffix of a constant of the kind (C11 6.4.4.1); a narrower kind has no constants, and none
abbrev pub suffix_of : IntKind → List ℕ
suffix_of Boolean = []
suffix_of Char = []
suffix_of SChar = []
suffix_of UChar = []
suffix_of Short = []
suffix_of UShort = []
suffix_of Int = []
suffix_of UInt = codes "U"
suffix_of Long = codes "L"
suffix_of ULong = codes "UL"
suffix_of LLong = codes "LL"
suffix_of ULLong = codes "ULL"
suffix_of Long4 = codes "L"
suffix_of ULong4 = codes "UL"

-- whether the data model is LP64, in which long and pointers have 8 bytes, and whether it is ILP32, in which they have 4
abbrev pub is_lp64 : Abi → Bool
is_lp64 Lp64 = true
is_lp64 Ilp32 = false

abbrev pub is_ilp32 : Abi → Bool
is_ilp32 Lp64 = false
is_ilp32 Ilp32 = true

-- whether the data model has the kind: it has one kind of long and one of unsigned long (own), and every other kind
abbrev pub has_kind : Abi → IntKind → Bool
has_kind abi Boolean = true
has_kind abi Char = true
has_kind abi SChar = true
has_kind abi UChar = true
has_kind abi Short = true
has_kind abi UShort = true
has_kind abi Int = true
has_kind abi UInt = true
has_kind abi Long = is_lp64 abi
has_kind abi ULong = is_lp64 abi
has_kind abi LLong = true
has_kind abi ULLong = true
has_kind abi Long4 = is_ilp32 abi
has_kind abi ULong4 = is_ilp32 abi

-- the kinds of long and ptrdiff_t, and of unsigned long and size_t (C11 7.19; own)
abbrev pub long_of : Abi → IntKind
long_of Lp64 = Long
long_of Ilp32 = Long4

abbrev pub ulong_of : Abi → IntKind
ulong_of Lp64 = ULong
ulong_of Ilp32 = ULong4

-- the kind of a data model that has the words and the suffix of a kind of LP64: long and unsigned long are written alike in each
abbrev pub kind_in : Abi → IntKind → IntKind
kind_in abi Long = long_of abi
kind_in abi ULong = ulong_of abi
kind_in abi kind = kind

-- the size of a pointer in bytes (own): that of long
abbrev pub pointer_size_of : Abi → ℕ
pointer_size_of Lp64 = 8
pointer_size_of Ilp32 = 4
