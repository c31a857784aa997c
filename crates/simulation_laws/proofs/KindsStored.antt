-- Device: a complete type that is no array has a kind and its size.
use Rattle.std.proofs.Common.{◌≡◌, ℕ, Bool, true, false, not, ◌&&◌, List, Option, Some, None, is_some, slice_get, refl, ap, ◌∙◌}
use Rattle.std.specs.Prelude.{if◌then◌else◌}
use Rattle.std.specs.Option.{option_map, option_and_then}
use Rattle.cil_base.specs.declared.kinds.IntKind.TheVariants.{Int as int}
use Rattle.cil_base.specs.Integer.{size_of}
use Rattle.byte_mem.specs.declared.values.Scalar.TheVariants.{Int as OfKind, Ptr as OfPointer}
use Rattle.type_graph.specs.declared.aggregates.AggKind.{AggKind}
use Rattle.type_graph.specs.declared.aggregates.AggKind.TheVariants.{Struct, Union, Enum}
use Rattle.type_graph.specs.declared.aggregates.Aggregate.{Aggregate}
use Rattle.type_graph.specs.declared.aggregates.Member.{Member}
use Rattle.type_graph.specs.declared.layout.Layout.{Layout}
use Rattle.type_graph.specs.Shapes.{Shape, VoidType, IntType, PtrType, ArrayType, FuncType, AggType, shape}
use Rattle.type_graph.specs.Arena.{Graph, IsArena, complete_shape, members_of}
use Rattle.type_graph.specs.Layouts.{AggLayout, members_layout, member_in, aggregate_in, whole_of, agg_layout}
use Rattle.type_graph.proofs.LayoutLaws.{agg_layout_is, agg_layout_there}
use Rattle.execution.specs.Data.{OfScalar, OfAggregate}
use Rattle.cil_tree.specs.Typing.{Scope, is_array, is_enum, is_readable, read_type, names_enum}
use Rattle.typed_values.specs.Values.{aggregate_kind}
use Rattle.cil_semantics.specs.Values.{size_in}
use Rattle.simulation_laws.specs.Kinds.{IsStored, TypesAreStored}

readable : (g : Graph) (s : Shape) → complete_shape g.aggs s ≡ true → is_array s ≡ false → (c : Scope) → c.program.graph ≡ g → read_type c s ≡ Some s
readable g s h i c e = ap (λ (x : Graph). if is_readable x s then Some s else None) e ∙ (ap (λ b. if b && not (is_array s) then Some s else None) h ∙ ap (λ b. if true && not b then Some s else None) i)

some_there : {A : Type 0} (o : Option A) → is_some o ≡ true → (a : A) × (o ≡ Some a)
some_there (Some a) e = (a, refl)
some_there None e = cc

-- an enum has the size of an int (6.7.2.2p4, own)
enum_size : (g : Graph) (aggs : ℕ → Option Layout) (x : Aggregate) → is_enum x.kind ≡ true → is_some x.members ≡ true → option_map (λ (l : Layout). l.size) (whole_of (aggregate_in g.abi g.nodes aggs x)) ≡ Some (size_of int)
enum_size g aggs x h i = by x.kind x.members h i
  where
    by : (k : AggKind) (ms : Option (List Member)) → is_enum k ≡ true → is_some ms ≡ true
        → option_map (λ (l : Layout). l.size) (whole_of (option_and_then (members_layout k (λ (m : Member). member_in g.abi aggs (shape g.nodes m.ty.of.0))) ms)) ≡ Some (size_of int)
    by Enum (Some ms) h i = refl
    by Enum None h i = cc
    by Struct ms h i = cc
    by Union ms h i = cc

aggregate_stored : (g : Graph) (a : ℕ) → IsArena g → is_some (members_of g.aggs a) ≡ true → IsStored g (AggType a)
aggregate_stored g a w h = by (names_enum g a) refl
  where
    enum : (o : Option Aggregate) → is_some (option_and_then (λ (x : Aggregate). x.members) o) ≡ true → ◌≡◌ {A = Bool} (elim o [ None ↦ false | Some x ↦ is_enum x.kind ]) true
        → option_map (λ (l : Layout). l.size) (whole_of (option_and_then (aggregate_in g.abi g.nodes (λ b. whole_of (agg_layout g b))) o)) ≡ Some (size_of int)
    enum None i e = cc
    enum (Some x) i e = enum_size g (λ b. whole_of (agg_layout g b)) x e i

    by : (b : Bool) → names_enum g a ≡ b → IsStored g (AggType a)
    by true e = record {
      kind = OfScalar (OfKind int);
      kind_is = ap (λ b. aggregate_kind b (size_in g (AggType a))) e;
      size_is = ap (λ (o : Option AggLayout). option_map (λ (l : Layout). l.size) (whole_of o)) (agg_layout_is g w a) ∙ enum (slice_get g.aggs a) h e;
      read = readable g (AggType a) h refl;
    }
    by false e =
        let l = some_there (agg_layout g a) (agg_layout_there g w a ∙ h) in
        let size : size_in g (AggType a) ≡ Some l.0.whole.size = ap (λ (o : Option AggLayout). option_map (λ (l : Layout). l.size) (whole_of o)) l.1 in
        record {
          kind = OfAggregate l.0.whole.size;
          kind_is = ap (λ b. aggregate_kind b (size_in g (AggType a))) e ∙ ap (option_map OfAggregate) size;
          size_is = size;
          read = readable g (AggType a) h refl;
        }

pub types_stored : TypesAreStored
types_stored g (IntType k) w h i = record { kind = OfScalar (OfKind k); kind_is = refl; size_is = refl; read = readable g (IntType k) h i }
types_stored g (PtrType q s) w h i = record { kind = OfScalar OfPointer; kind_is = refl; size_is = refl; read = readable g (PtrType q s) h i }
types_stored g (AggType a) w h i = aggregate_stored g a w h
types_stored g VoidType w h i = cc
types_stored g (ArrayType q s n) w h i = cc
types_stored g (FuncType r ss p v) w h i = cc
