-- Definition: values of C's types over those of a translation unit (C11 6.2.5, 6.3, 6.5): operators, lvalues and parts; None is what is undefined.
use Rattle.std.specs.Prelude.{ℕ, ◌+◌, ◌-◌, ◌*◌, Bool, true, false, List, [], ◌∷◌, ◌++◌, length, replicate, map, Option, Some, None, option_map, pos}
use Rattle.cil_base.specs.declared.kinds.Abi.{Abi}
use Rattle.cil_base.specs.declared.operators.BinOp.{BinOp}
use Rattle.cil_base.specs.declared.operators.UnOp.{UnOp}
use Rattle.type_graph.specs.Shapes.{Shape, Shapes, VoidType, ArrayType, AggType}
use Rattle.byte_mem.specs.declared.pointers.ObjName.{ObjName}
use Rattle.byte_mem.specs.declared.values.Byte.{Byte}
use Rattle.byte_mem.specs.declared.values.Byte.TheVariants.{Known, Unknown as Blank}
use Rattle.byte_mem.specs.declared.values.Scalar.{Scalar}
use Rattle.byte_mem.specs.declared.values.Value.{Value}
use Rattle.byte_mem.specs.declared.values.Value.TheVariants.{Ptr, Unknown}
use Rattle.byte_mem.specs.Steps.{◌>>=◌}
use Rattle.byte_mem.specs.Scalar.{scalar_size, value_of}
use Rattle.byte_mem.specs.Object.{part_at}
use Rattle.byte_mem.specs.Memory.{Memory}
use Rattle.byte_mem.specs.Operator.{member_place}
use Rattle.execution.specs.Data.{Kind, OfVoid, OfScalar, OfAggregate, Datum, Single, Bytes, load_datum, store_datum, zero_from}
use Rattle.typed_values.specs.Values as typed
use Rattle.typed_values.specs.Values.{TypeSizes}
use Rattle.typed_tree.specs.declared.initialisers.Step.{Step as PathStep}
use Rattle.typed_tree.specs.declared.initialisers.Step.TheVariants.{Field, Index}
use Rattle.c_rules.specs.Types.{CType, Types, is_integer, size_in, offset_in, has_constant}
use Rattle.c_rules.specs.Conversions.{alike, decays}
use Rattle.c_typing.specs.Initialisers.{Path, part_of}

-- what operators ask of a unit's types
abbrev pub sizes_of : Types → TypeSizes
sizes_of t = record { abi = t.abi; size = size_in t; is_enum = λ a. is_integer t (AggType a) }

-- kinds, casts, operators and tests over a unit's types (6.2.5, 6.5.3.3, 6.5.4, 6.5.5 to 6.5.12, 6.8.4.1)
abbrev pub kind_of : Types → Shape → Option Kind
kind_of t s = typed.kind_in (sizes_of t) s

abbrev pub kinds_of : Types → Shapes → List (Option Kind)
kinds_of t params = typed.kinds_of (sizes_of t) params

abbrev pub scalar_of : Types → Shape → Option Scalar
scalar_of t s = typed.scalar_in (sizes_of t) s

abbrev pub cast_value : Types → Shape → Datum → Option Value
cast_value t to d = typed.cast_value (sizes_of t) to d

abbrev pub unary_value : Types → Memory → UnOp → Shape → Value → Option Value
unary_value t m op s v = typed.unary_value (sizes_of t) m op s v

abbrev pub binary_value : Types → Memory → BinOp → Shape → Shape → Value → Value → Option Value
binary_value t m op s r v w = typed.binary_value (sizes_of t) m op s r v w

abbrev pub holds_of : Types → Memory → Shape → Datum → Option Bool
holds_of t m s d = typed.holds_of (sizes_of t) m s d

-- a value of one type as one of another; one of a compatible type stays as it is (6.3p2)
abbrev pub as_type : Types → Shape → Shape → Datum → Option Datum
as_type t from to d = elim (alike from to) [ true ↦ Some d | false ↦ option_map Single (cast_value t to d) ]

-- lvalues

-- a place of void type has no value that is used
abbrev pub loaded : Types → Memory → Shape → Value → Option Datum
loaded t m VoidType at = Some (Single Unknown)
loaded t m s at = kind_of t s >>= λ k. load_datum t.abi m k at

-- the value of what a place designates: an array is its first element's address, a function its own (6.3.2.1p2 to p4)
abbrev pub value_at : Types → Memory → Shape → Value → Option Datum
value_at t m s at = elim (decays s) [ true ↦ Some (Single at) | false ↦ loaded t m s at ]

-- the place of a member (6.5.2.3p3)
abbrev pub member_at : Types → Memory → ℕ → ℕ → Value → Option Value
member_at t m a i at = offset_in t a i >>= member_place m at

-- a part of the bytes of a structure or union, as a value of its kind
abbrev pub part_value : Abi → Kind → ℕ → List Byte → Option Datum
part_value abi OfVoid at bytes = None
part_value abi (OfScalar k) at bytes = Some (Single (value_of abi k (part_at at (scalar_size abi k) bytes)))
part_value abi (OfAggregate size) at bytes = Some (Bytes (part_at at size bytes))

abbrev pub bytes_in : Datum → Option (List Byte)
bytes_in (Single v) = None
bytes_in (Bytes bytes) = Some bytes

-- a member of a value (6.5.2.3p3)
abbrev pub member_value : Types → ℕ → ℕ → Shape → Datum → Option Datum
member_value t a i s d = bytes_in d >>= λ bytes. offset_in t a i >>= λ at. kind_of t s >>= λ k. part_value t.abi k at bytes

-- a value with what is beside it in the outermost value of which it is a part, unknown bytes (own), and the offset of a member of it there
abbrev pub in_outermost : ℕ × ℕ → List Byte → List Byte
in_outermost outer bytes = replicate outer.0 Blank ++ (bytes ++ replicate (outer.1 - (outer.0 + length bytes)) Blank)

abbrev pub around_member : Types → Option (ℕ × ℕ) → ℕ → ℕ → Datum → Option (List Byte × ℕ)
around_member t outer a i d = bytes_in d >>= λ bytes. offset_in t a i >>= λ at. outer >>= λ (x : ℕ × ℕ). Some (in_outermost x bytes, x.0 + at)

-- parts of an object by their paths (6.7.9p17), with their offsets

abbrev pub offset_of_step : Types → Shape → PathStep → Option ℕ
offset_of_step t (AggType a) (Field i) = offset_in t a i
offset_of_step t (ArrayType q s bound) (Index i) = size_in t s >>= λ size. Some (i * size)
offset_of_step t s step = None

abbrev pub number_of_step : PathStep → ℕ
number_of_step (Field i) = i
number_of_step (Index i) = i

abbrev pub part_from : Types → Path → Shape → ℕ → Option (Shape × ℕ)
part_from t [] s at = Some (s, at)
part_from t (x ∷ xs) s at = part_of t s (number_of_step x) >>= λ p. offset_of_step t s x >>= λ o. part_from t xs p.1.shape (at + o)

-- an object that is defined with a const type (6.7.3p6): the qualifiers of an array are those of its elements (6.7.3p9)
abbrev pub is_const : CType → Bool
is_const c = has_constant (λ a. false) c.quals c.shape

abbrev pub known_bytes : List ℕ → List Byte
known_bytes bytes = map Known bytes

abbrev pub object_pointer : ObjName → ℕ → Value
object_pointer name at = Ptr (record { name = name; offset = pos at })

-- writing

abbrev pub stored : Types → Shape → Value → Datum → Memory → Option Memory
stored t s at d m = kind_of t s >>= λ k. store_datum t.abi m k at d

-- all bytes of a part become zero (6.7.9p21; padding too, own)
abbrev pub zeroed : Types → Shape → Value → Memory → Option Memory
zeroed t s at m = size_in t s >>= λ size. zero_from m size at

-- the first bytes of a part become those (6.7.9p14)
abbrev pub filled : Types → List ℕ → Value → Memory → Option Memory
filled t bytes at m = store_datum t.abi m (OfAggregate (length bytes)) at (Bytes (known_bytes bytes))
