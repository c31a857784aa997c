-- Device: the test of equal kinds tells equality, a pointer has few bytes, and the kinds of a data model.
use Rattle.std.proofs.Common.{◌≡◌, ◌≤◌, true, pos, refl, rules, lit≤}
use denote.Enum.Bare.{same_true}
use Rattle.cil_base.specs.contracts.kinds.IntKind.{the_type}
use Rattle.cil_base.specs.declared.kinds.IntKind.{IntKind}
use Rattle.cil_base.specs.declared.kinds.IntKind.TheVariants as kind
use Rattle.cil_base.specs.declared.kinds.Abi.{Abi}
use Rattle.cil_base.specs.declared.kinds.Abi.TheVariants.{Lp64, Ilp32}
use Rattle.cil_base.specs.Integer.{size_of, has_kind, long_of, ulong_of, pointer_size_of}
use Rattle.cil_base.specs.Arithmetic.{fits}
use Rattle.cil_base.specs.Kinds.{same_kind}

pub kind_told : (k l : IntKind) → same_kind k l ≡ true → k ≡ l
kind_told k l e = same_true the_type (search rules) k l e

pub kind_itself : (k : IntKind) → same_kind k k ≡ true
kind_itself k = elim k as (λ v. same_kind v v ≡ true) [ kind.Bool ↦ refl | kind.Char ↦ refl | kind.SChar ↦ refl | kind.UChar ↦ refl | kind.Short ↦ refl | kind.UShort ↦ refl | kind.Int ↦ refl | kind.UInt ↦ refl | kind.Long ↦ refl | kind.ULong ↦ refl | kind.LLong ↦ refl | kind.ULLong ↦ refl | kind.Long4 ↦ refl | kind.ULong4 ↦ refl ]

pub pointer_small : (abi : Abi) → pointer_size_of abi ≤ 8
pointer_small Lp64 = lit≤ tt
pointer_small Ilp32 = lit≤ tt

-- each model has its kinds of long and unsigned long, which have the size of a pointer
pub long_there : (abi : Abi) → has_kind abi (long_of abi) ≡ true
long_there Lp64 = refl
long_there Ilp32 = refl

pub ulong_there : (abi : Abi) → has_kind abi (ulong_of abi) ≡ true
ulong_there Lp64 = refl
ulong_there Ilp32 = refl

-- a model that has the one kind of long, or of unsigned long, has no other
pub long_is : (abi : Abi) → has_kind abi kind.Long ≡ true → long_of abi ≡ kind.Long
long_is Lp64 h = refl
long_is Ilp32 h = absurd (cc h)

pub ulong_is : (abi : Abi) → has_kind abi kind.ULong ≡ true → ulong_of abi ≡ kind.ULong
ulong_is Lp64 h = refl
ulong_is Ilp32 h = absurd (cc h)

pub long4_is : (abi : Abi) → has_kind abi kind.Long4 ≡ true → long_of abi ≡ kind.Long4
long4_is Lp64 h = absurd (cc h)
long4_is Ilp32 h = refl

pub ulong4_is : (abi : Abi) → has_kind abi kind.ULong4 ≡ true → ulong_of abi ≡ kind.ULong4
ulong4_is Lp64 h = absurd (cc h)
ulong4_is Ilp32 h = refl

pub long_as_pointer : (abi : Abi) → size_of (long_of abi) ≡ pointer_size_of abi
long_as_pointer Lp64 = refl
long_as_pointer Ilp32 = refl

pub ulong_as_pointer : (abi : Abi) → size_of (ulong_of abi) ≡ pointer_size_of abi
ulong_as_pointer Lp64 = refl
ulong_as_pointer Ilp32 = refl

-- 0 is a value of each kind
pub zero_fits : (k : IntKind) → fits k (pos 0) ≡ true
zero_fits k = elim k as (λ v. fits v (pos 0) ≡ true) [ kind.Bool ↦ refl | kind.Char ↦ refl | kind.SChar ↦ refl | kind.UChar ↦ refl | kind.Short ↦ refl | kind.UShort ↦ refl | kind.Int ↦ refl | kind.UInt ↦ refl | kind.Long ↦ refl | kind.ULong ↦ refl | kind.LLong ↦ refl | kind.ULLong ↦ refl | kind.Long4 ↦ refl | kind.ULong4 ↦ refl ]
