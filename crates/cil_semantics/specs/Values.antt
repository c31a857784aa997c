-- Definition: what expressions and lvalues of CIL mean in a memory (C11 6.3.2.1, 6.5); they change nothing, and None is what is undefined. An lvalue's meaning, its place, is a value (own).
use Rattle.std.specs.Prelude.{ℕ, Bool, Option, Some, option_map, List, slice_get, pos}
use Rattle.cil_base.specs.declared.kinds.Abi.{Abi}
use Rattle.cil_base.specs.declared.operators.BinOp.{BinOp}
use Rattle.cil_base.specs.declared.operators.UnOp.{UnOp}
use Rattle.type_graph.specs.declared.layout.Layout.{Layout}
use Rattle.type_graph.specs.Shapes.{Shape}
use Rattle.type_graph.specs.Arena.{Graph}
use Rattle.type_graph.specs.Layouts.{offset}
use Rattle.byte_mem.specs.declared.pointers.ObjName.{ObjName}
use Rattle.byte_mem.specs.declared.pointers.ObjName.TheVariants.{Entity}
use Rattle.byte_mem.specs.declared.values.Scalar.{Scalar}
use Rattle.byte_mem.specs.declared.values.Value.{Value}
use Rattle.byte_mem.specs.declared.values.Value.TheVariants.{Int, Ptr}
use Rattle.byte_mem.specs.Steps.{◌>>=◌}
use Rattle.byte_mem.specs.Memory.{Memory}
use Rattle.byte_mem.specs.Operator.{place_of, member_place, element_place}
use Rattle.execution.specs.Data.{Kind, Datum, Single, load_datum, local_name}
use Rattle.typed_values.specs.Values as typed
use Rattle.typed_values.specs.Values.{TypeSizes, single_in}
use Rattle.cil_tree.specs.Tree.{Exp, Const, Value as ValueOf, Un, Bin, Cast, AddrOf, StartOf, Host, Global, Var, At, Offsets, Here, Field, Index, Lval, Place}
use Rattle.cil_tree.specs.Typing.{Scope, names_enum, member_type, element_of, type_of, host_type, place_type}
use Rattle.cil_tree.specs.Globals.{aggregate_of}
use Rattle.cil_tree.specs.Text.{shape_layout}

-- where statements run: their function and program, the run's number of each global of the program, and the number of the activation
pub record Activation : Type 0 where
  pub scope : Scope
  pub entities : List ℕ
  pub number : ℕ

abbrev pub graph_of : Activation → Graph
graph_of a = a.scope.program.graph

abbrev pub abi_of : Activation → Abi
abi_of a = a.scope.program.graph.abi

-- the size of a complete type in bytes (C11 6.5.3.4), by the layout of its own program
abbrev pub size_in : Graph → Shape → Option ℕ
size_in g s = option_map (λ (l : Layout). l.size) (shape_layout g s)

-- what operators ask of a program's types
abbrev pub sizes_of : Graph → TypeSizes
sizes_of g = record { abi = g.abi; size = size_in g; is_enum = names_enum g }

-- kinds, operators and casts over a program's types (C11 6.2.5, 6.5.3.3, 6.5.4, 6.5.5 to 6.5.12)
abbrev pub kind_in : Graph → Shape → Option Kind
kind_in g s = typed.kind_in (sizes_of g) s

abbrev pub scalar_in : Graph → Shape → Option Scalar
scalar_in g s = typed.scalar_in (sizes_of g) s

abbrev pub unary_value : Graph → Memory → UnOp → Shape → Value → Option Value
unary_value g m op s v = typed.unary_value (sizes_of g) m op s v

abbrev pub binary_value : Graph → Memory → BinOp → Shape → Shape → Value → Value → Option Value
binary_value g m op s t v w = typed.binary_value (sizes_of g) m op s t v w

abbrev pub cast_value : Graph → Shape → Datum → Option Value
cast_value g to d = typed.cast_value (sizes_of g) to d

-- the place of an object or function is a pointer to it
abbrev pub pointer_at : ObjName → Value
pointer_at name = Ptr (record { name = name; offset = pos 0 })

abbrev pub global_place : Activation → ℕ → Option Value
global_place a n = slice_get a.entities n >>= λ e. Some (pointer_at (Entity (record { 0 = e })))

abbrev pub member_offset : Activation → Shape → ℕ → Option ℕ
member_offset a s n = aggregate_of s >>= λ x. offset (graph_of a) x n

abbrev mutual
  pub value : Activation → Memory → Exp → Option Datum
  value a m (Const kind n) = Some (Single (Int (pos n)))
  value a m (ValueOf p) = place_type a.scope p >>= kind_in (graph_of a) >>= λ k. place a m p >>= load_datum (abi_of a) m k
  value a m (Un op e) = type_of a.scope e >>= λ s. value a m e >>= single_in >>= λ v. option_map Single (unary_value (graph_of a) m op s v)
  value a m (Bin op left right) =
      type_of a.scope left >>= λ s. type_of a.scope right >>= λ t. value a m left >>= single_in >>= λ v. value a m right >>= single_in >>= λ w.
      option_map Single (binary_value (graph_of a) m op s t v w)
  value a m (Cast to e) = to >>= λ t. value a m e >>= λ d. option_map Single (cast_value (graph_of a) t d)
  -- C11 6.5.3.2p3: the place itself, so that `& * e` is e
  value a m (AddrOf p) = option_map Single (place a m p)
  -- C11 6.3.2.1p3: an array's first element stands where the array does
  value a m (StartOf p) = option_map Single (place a m p)

  pub host_place : Activation → Memory → Host → Option Value
  host_place a m (Global n) = global_place a n
  host_place a m (Var n) = Some (pointer_at (local_name a.number n))
  host_place a m (At e) = value a m e >>= single_in >>= place_of

  -- C11 6.5.2.3p3, 6.5.2.1p2: the place of a part, from the place of a whole of that type
  pub part_place : Activation → Memory → Offsets → Shape → Value → Option Value
  part_place a m Here s v = Some v
  part_place a m (Field n more) s v = member_type (graph_of a) s n >>= λ t. member_offset a s n >>= λ o. member_place m v o >>= part_place a m more t
  part_place a m (Index e more) s v =
      element_of s >>= λ t. size_in (graph_of a) t >>= λ size. value a m e >>= single_in >>= λ i. element_place m v i size >>= part_place a m more t

  pub place : Activation → Memory → Lval → Option Value
  place a m (Place host offsets) = host_type a.scope host >>= λ s. host_place a m host >>= part_place a m offsets s

-- the value of an expression of scalar type
abbrev pub scalar_value : Activation → Memory → Exp → Option Value
scalar_value a m e = value a m e >>= single_in

-- C11 6.8.4.1p2: whether a value compares unequal to 0
abbrev pub holds_of : Activation → Memory → Exp → Option Bool
holds_of a m e = type_of a.scope e >>= λ s. value a m e >>= typed.holds_of (sizes_of (graph_of a)) m s
