-- Device: worked rows and laws of the integer promotions and of the usual arithmetic conversions.
use Rattle.std.proofs.Common.{◌≡◌, Bool, true, false, nat_le, refl}
use Rattle.cil_base.specs.declared.kinds.IntKind.{IntKind}
use Rattle.cil_base.specs.declared.kinds.IntKind.TheVariants as kind
use Rattle.cil_base.specs.declared.kinds.IntKind.TheVariants.{Bool as Boolean, Char, SChar, UChar, Short, UShort, Int, UInt, Long, ULong, LLong, ULLong, Long4, ULong4}
use Rattle.cil_base.specs.Integer.{rank_of}
use Rattle.cil_base.specs.Usual.{promoted, common}

bool_to_int : promoted Boolean ≡ Int
bool_to_int = refl

ushort_to_int : promoted UShort ≡ Int
ushort_to_int = refl

uint_stays : promoted UInt ≡ UInt
uint_stays = refl

chars : common Char UChar ≡ Int
chars = refl

long_has_uint : common Long UInt ≡ Long
long_has_uint = refl

llong_lacks_ulong : common LLong ULong ≡ ULLong
llong_lacks_ulong = refl

ulong_and_long : common ULong Long ≡ ULong
ulong_and_long = refl

-- where long has 4 bytes it lacks values of unsigned int, and long long has those of unsigned long
long4_lacks_uint : common Long4 UInt ≡ ULong4
long4_lacks_uint = refl

uint_and_long4 : common UInt Long4 ≡ ULong4
uint_and_long4 = refl

long4_over_int : common Int Long4 ≡ Long4
long4_over_int = refl

ulong4_over_uint : common ULong4 UInt ≡ ULong4
ulong4_over_uint = refl

ulong4_and_long4 : common ULong4 Long4 ≡ ULong4
ulong4_and_long4 = refl

llong_has_ulong4 : common LLong ULong4 ≡ LLong
llong_has_ulong4 = refl

-- a promoted kind is int or wider
pub promoted_wide : (k : IntKind) → nat_le (rank_of Int) (rank_of (promoted k)) ≡ true
promoted_wide k = elim k as (λ v. nat_le (rank_of Int) (rank_of (promoted v)) ≡ true) [ kind.Bool ↦ refl | kind.Char ↦ refl | kind.SChar ↦ refl | kind.UChar ↦ refl | kind.Short ↦ refl | kind.UShort ↦ refl | kind.Int ↦ refl | kind.UInt ↦ refl | kind.Long ↦ refl | kind.ULong ↦ refl | kind.LLong ↦ refl | kind.ULLong ↦ refl | kind.Long4 ↦ refl | kind.ULong4 ↦ refl ]

-- promotion keeps a promoted kind
pub promoted_again : (k : IntKind) → promoted (promoted k) ≡ promoted k
promoted_again k = elim k as (λ v. promoted (promoted v) ≡ promoted v) [ kind.Bool ↦ refl | kind.Char ↦ refl | kind.SChar ↦ refl | kind.UChar ↦ refl | kind.Short ↦ refl | kind.UShort ↦ refl | kind.Int ↦ refl | kind.UInt ↦ refl | kind.Long ↦ refl | kind.ULong ↦ refl | kind.LLong ↦ refl | kind.ULLong ↦ refl | kind.Long4 ↦ refl | kind.ULong4 ↦ refl ]
