-- Definition: what casts, operators and tests of C give of values of types (C11 6.2.5, 6.3, 6.5), whichever types a program or a translation unit has; None is what is undefined.
use Rattle.std.specs.Prelude.{ℕ, Bool, true, false, not, List, [], ◌∷◌, Option, Some, None, option_map}
use Rattle.cil_base.specs.declared.kinds.Abi.{Abi}
use Rattle.cil_base.specs.declared.kinds.IntKind.TheVariants.{Int as int}
use Rattle.cil_base.specs.declared.operators.BinOp.{BinOp}
use Rattle.cil_base.specs.declared.operators.BinOp.TheVariants.{Add, Sub}
use Rattle.cil_base.specs.declared.operators.UnOp.{UnOp}
use Rattle.cil_base.specs.declared.operators.UnOp.TheVariants.{Neg, Compl, Not}
use Rattle.cil_base.specs.Arithmetic.{told}
use Rattle.type_graph.specs.Shapes.{Shape, Shapes, VoidType, IntType, PtrType, ArrayType, FuncType, AggType, NoTypes, MoreTypes}
use Rattle.byte_mem.specs.declared.values.Scalar.{Scalar}
use Rattle.byte_mem.specs.declared.values.Scalar.TheVariants.{Int as OfKind, Ptr as OfPointer}
use Rattle.byte_mem.specs.declared.values.Value.{Value}
use Rattle.byte_mem.specs.declared.values.Value.TheVariants.{Int, Unknown}
use Rattle.byte_mem.specs.Steps.{◌>>=◌}
use Rattle.byte_mem.specs.Memory.{Memory}
use Rattle.byte_mem.specs.Operator.{converted, truth, compared, pointer_sum, pointer_less, pointer_difference, computed, unary}
use Rattle.execution.specs.Data.{Kind, OfVoid, OfScalar, OfAggregate, Datum, Single, Bytes}

-- what operators ask of the types of a program or of a translation unit: the data model, the size of each complete object type in bytes (C11 6.5.3.4), and which numbers of aggregates name enumerated types
pub record TypeSizes : Type 0 where
  pub abi : Abi
  pub size : Shape → Option ℕ
  pub is_enum : ℕ → Bool

-- kinds (6.2.5)

-- an enumerated type is an int (own), a structure or union has a size
abbrev pub aggregate_kind : Bool → Option ℕ → Option Kind
aggregate_kind true size = Some (OfScalar (OfKind int))
aggregate_kind false size = option_map OfAggregate size

-- the kind of a type, by which calls, loads and stores go; functions, arrays and what is incomplete have none, but for void and an enum
abbrev pub kind_in : TypeSizes → Shape → Option Kind
kind_in t VoidType = Some OfVoid
kind_in t (IntType kind) = Some (OfScalar (OfKind kind))
kind_in t (PtrType q s) = Some (OfScalar OfPointer)
kind_in t (ArrayType q s bound) = None
kind_in t (FuncType ret params proto variadic) = None
kind_in t (AggType a) = aggregate_kind (t.is_enum a) (t.size (AggType a))

-- the kinds of parameters
abbrev pub kinds_of : TypeSizes → Shapes → List (Option Kind)
kinds_of t NoTypes = []
kinds_of t (MoreTypes s more) = kind_in t s ∷ kinds_of t more

abbrev pub scalar_kind : Kind → Option Scalar
scalar_kind (OfScalar s) = Some s
scalar_kind OfVoid = None
scalar_kind (OfAggregate size) = None

abbrev pub scalar_in : TypeSizes → Shape → Option Scalar
scalar_in t s = kind_in t s >>= scalar_kind

abbrev pub single_in : Datum → Option Value
single_in (Single v) = Some v
single_in (Bytes bytes) = None

-- conversions (6.3, 6.5.4)

-- a cast to void uses nothing of the value (6.3.2.2)
abbrev pub cast_value : TypeSizes → Shape → Datum → Option Value
cast_value t VoidType d = Some Unknown
cast_value t to d = scalar_in t to >>= λ k. single_in d >>= λ v. Some (converted t.abi k v)

-- operators, on operands of the types to which these were promoted or converted (6.3.1.1p2, 6.3.1.8)

-- `-` and `~`; `!` is a test (6.5.3.3)
abbrev pub unary_value : TypeSizes → Memory → UnOp → Shape → Value → Option Value
unary_value t m Not s v = scalar_in t s >>= λ k. truth m k v >>= λ holds. Some (Int (told (not holds)))
unary_value t m Neg (IntType kind) v = unary Neg kind v
unary_value t m Neg s v = None
unary_value t m Compl (IntType kind) v = unary Compl kind v
unary_value t m Compl s v = None

-- an integer added to a pointer or subtracted from it (6.5.6p8)
abbrev pub moved_value : Memory → BinOp → Value → Value → ℕ → Option Value
moved_value m Add v i size = pointer_sum m v i size
moved_value m Sub v i size = pointer_less m v i size
moved_value m op v i size = None

-- a pointer added to an integer (6.5.6p8)
abbrev pub summed_value : Memory → BinOp → Value → Value → ℕ → Option Value
summed_value m Add i v size = pointer_sum m v i size
summed_value m op i v size = None

-- two pointers: a difference (6.5.6p9), an order or an equality (6.5.8p5, 6.5.9p6)
abbrev pub pointers_value : TypeSizes → Memory → BinOp → Shape → Value → Value → Option Value
pointers_value t m Sub s v w = t.size s >>= pointer_difference t.abi m v w
pointers_value t m op s v w = compared m op v w >>= λ holds. Some (Int (told holds))

-- a binary operator, by the types of its operands (6.5.5 to 6.5.12)
abbrev pub binary_value : TypeSizes → Memory → BinOp → Shape → Shape → Value → Value → Option Value
binary_value t m op (IntType k) (IntType l) v w = computed op k v w
binary_value t m op (PtrType q s) (IntType l) v w = t.size s >>= moved_value m op v w
binary_value t m op (IntType k) (PtrType q s) v w = t.size s >>= summed_value m op v w
binary_value t m op (PtrType p s) (PtrType q r) v w = pointers_value t m op s v w
binary_value t m op _ _ v w = None

-- tests (6.8.4.1p2, 6.5.13p3): whether a value compares unequal to 0
abbrev pub holds_of : TypeSizes → Memory → Shape → Datum → Option Bool
holds_of t m s d = scalar_in t s >>= λ k. single_in d >>= truth m k
