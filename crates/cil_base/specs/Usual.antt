-- Definition: the integer promotions (C11 6.3.1.1p2) and the common kind of two operands (6.3.1.8p1), by rank and by the values that kinds have.
use Rattle.std.specs.Prelude.{Bool, true, false, ◌&&◌, if◌then◌else◌, nat_le, int_le}
use Rattle.cil_base.specs.declared.kinds.IntKind.{IntKind}
use Rattle.cil_base.specs.declared.kinds.IntKind.TheVariants.{Bool as Boolean, Char, SChar, UChar, Short, UShort, Int, UInt, Long, ULong, LLong, ULLong, Long4, ULong4}
use Rattle.cil_base.specs.Integer.{rank_of, is_signed, least, greatest}

-- each value of the second kind is one of the first
abbrev pub has_values_of : IntKind → IntKind → Bool
has_values_of kind other = int_le (least kind) (least other) && int_le (greatest other) (greatest kind)

-- the unsigned kind that corresponds to a signed one, and to plain char, whose values are those of signed char (C11 6.2.5p6, p15); an unsigned kind itself
abbrev pub unsigned_of : IntKind → IntKind
unsigned_of Boolean = Boolean
unsigned_of Char = UChar
unsigned_of SChar = UChar
unsigned_of UChar = UChar
unsigned_of Short = UShort
unsigned_of UShort = UShort
unsigned_of Int = UInt
unsigned_of UInt = UInt
unsigned_of Long = ULong
unsigned_of ULong = ULong
unsigned_of LLong = ULLong
unsigned_of ULLong = ULLong
unsigned_of Long4 = ULong4
unsigned_of ULong4 = ULong4

-- C11 6.3.1.1p2: a kind whose rank is at most that of int is converted to int where int has all its values, and else to unsigned int; every other kind stays
abbrev pub promoted : IntKind → IntKind
promoted kind = if nat_le (rank_of kind) (rank_of Int) then (if has_values_of Int kind then Int else UInt) else kind

-- C11 6.3.1.8p1, of operands one of which is unsigned and one is signed: the unsigned kind where its rank is not the smaller one; else the signed kind where it has all values of the unsigned one; else the unsigned kind that corresponds to the signed one
abbrev pub mixed : IntKind → IntKind → IntKind
mixed unsigned signed = if nat_le (rank_of signed) (rank_of unsigned) then unsigned else (if has_values_of signed unsigned then signed else unsigned_of signed)

-- C11 6.3.1.8p1, of promoted operands: where both are signed or both unsigned, the kind of the greater rank
abbrev pub common_of_promoted : IntKind → IntKind → IntKind
common_of_promoted a b = by (is_signed a) (is_signed b)
  where
    by : Bool → Bool → IntKind
    by true true = if nat_le (rank_of b) (rank_of a) then a else b
    by false false = if nat_le (rank_of b) (rank_of a) then a else b
    by true false = mixed b a
    by false true = mixed a b

-- C11 6.3.1.8p1: the integer promotions are performed on both operands first
abbrev pub common : IntKind → IntKind → IntKind
common a b = common_of_promoted (promoted a) (promoted b)
