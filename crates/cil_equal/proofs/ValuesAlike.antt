-- Device: what expressions and places mean depends on nothing but what the equality of programs speaks of.
use Rattle.std.proofs.Common.{◌≡◌, ℕ, slice_get, List, option_map, refl, ap}
use Rattle.std.specs.Option.{option_and_then}
use Rattle.cil_base.specs.declared.operators.BinOp.{BinOp}
use Rattle.cil_base.specs.declared.operators.UnOp.{UnOp}
use Rattle.type_graph.specs.declared.layout.Layout.{Layout}
use Rattle.type_graph.specs.Shapes.{Shape}
use Rattle.type_graph.specs.Layouts.{AggLayout, offset}
use Rattle.byte_mem.specs.declared.values.Value.{Value}
use Rattle.byte_mem.specs.Steps.{◌>>=◌}
use Rattle.byte_mem.specs.Memory.{Memory}
use Rattle.byte_mem.specs.Operator.{place_of, member_place, element_place}
use Rattle.execution.specs.Data.{Datum, Single, load_datum}
use Rattle.typed_values.specs.Values as typed
use Rattle.typed_values.specs.Values.{TypeSizes}
use Rattle.cil_tree.specs.Tree.{Exp, Const, Value as ValueOf, Un, Bin, Cast, AddrOf, StartOf, Host, Global, Var, At, Offsets, Here, Field, Index, Lval, Place, Local, Program}
use Rattle.cil_tree.specs.Typing.{element_of}
use Rattle.cil_tree.specs.Globals.{aggregate_of}
use Rattle.typed_values.specs.Values.{single_in}
use Rattle.cil_semantics.specs.Values.{Activation, sizes_of, size_in, kind_in, scalar_in, unary_value, binary_value, cast_value, member_offset, value, host_place, part_place, place, scalar_value, holds_of}
use Rattle.cil_text.proofs.Alike.{enum_alike, type_alike}
use Rattle.cil_text.proofs.TypedAlike.{Equal, in_scope, agg_alike, layout_alike, exp_type_alike, host_type_alike, place_type_alike}

-- an activation of a function with these locals and labels
abbrev pub act_in : Program → List Local → List (List ℕ) → List ℕ → ℕ → Activation
act_in p locals labels entities number = record { scope = in_scope p locals labels; entities = entities; number = number }

-- sizes, kinds and offsets

pub size_alike : (p q : Program) → Equal p q → (s : Shape) → size_in p.graph s ≡ size_in q.graph s
size_alike p q same s = ap (option_map (λ (l : Layout). l.size)) (layout_alike p q same s)

sizes_alike : (p q : Program) → Equal p q → sizes_of p.graph ≡ sizes_of q.graph
sizes_alike p q same = λ i. record { abi = same.abi i; size = λ s. size_alike p q same s i; is_enum = λ a. enum_alike p q same.aggregates a i }

pub kind_alike : (p q : Program) → Equal p q → (s : Shape) → kind_in p.graph s ≡ kind_in q.graph s
kind_alike p q same s = ap (λ (t : TypeSizes). typed.kind_in t s) (sizes_alike p q same)

pub scalar_in_alike : (p q : Program) → Equal p q → (s : Shape) → scalar_in p.graph s ≡ scalar_in q.graph s
scalar_in_alike p q same s = ap (λ (t : TypeSizes). typed.scalar_in t s) (sizes_alike p q same)

pub offset_alike : (p q : Program) → Equal p q → (a n : ℕ) → offset p.graph a n ≡ offset q.graph a n
offset_alike p q same a n = λ i. option_and_then (λ (l : AggLayout). slice_get l.offsets n) (agg_alike p q same a i)

-- operators

unary_alike : (p q : Program) → Equal p q → (m : Memory) (op : UnOp) (s : Shape) (v : Value) → unary_value p.graph m op s v ≡ unary_value q.graph m op s v
unary_alike p q same m op s v = ap (λ (t : TypeSizes). typed.unary_value t m op s v) (sizes_alike p q same)

binary_alike : (p q : Program) → Equal p q → (m : Memory) (op : BinOp) (s r : Shape) (v w : Value) → binary_value p.graph m op s r v w ≡ binary_value q.graph m op s r v w
binary_alike p q same m op s r v w = ap (λ (t : TypeSizes). typed.binary_value t m op s r v w) (sizes_alike p q same)

cast_alike : (p q : Program) → Equal p q → (s : Shape) (d : Datum) → cast_value p.graph s d ≡ cast_value q.graph s d
cast_alike p q same s d = ap (λ (t : TypeSizes). typed.cast_value t s d) (sizes_alike p q same)

member_offset_alike : (p q : Program) → Equal p q → (ls : List Local) (bs : List (List ℕ)) (es : List ℕ) (act : ℕ) (s : Shape) (n : ℕ) → member_offset (act_in p ls bs es act) s n ≡ member_offset (act_in q ls bs es act) s n
member_offset_alike p q same ls bs es act s n = λ i. aggregate_of s >>= λ x. offset_alike p q same x n i

-- expressions

mutual
  pub value_alike : (p q : Program) → Equal p q → (ls : List Local) (bs : List (List ℕ)) (es : List ℕ) (act : ℕ) (m : Memory) (e : Exp) → value (act_in p ls bs es act) m e ≡ value (act_in q ls bs es act) m e
  value_alike p q same ls bs es act m (Const k n) = refl
  value_alike p q same ls bs es act m (ValueOf x) =
      λ i. (place_type_alike p q same ls bs x i >>= λ s. kind_alike p q same s i) >>= λ k. place_alike p q same ls bs es act m x i >>= load_datum (same.abi i) m k
  value_alike p q same ls bs es act m (Un op e) =
      λ i. exp_type_alike p q same ls bs e i >>= λ s. (value_alike p q same ls bs es act m e i >>= single_in) >>= λ v. option_map Single (unary_alike p q same m op s v i)
  value_alike p q same ls bs es act m (Bin op left right) =
      λ i. exp_type_alike p q same ls bs left i >>= λ s. exp_type_alike p q same ls bs right i >>= λ t. (value_alike p q same ls bs es act m left i >>= single_in) >>= λ v.
      (value_alike p q same ls bs es act m right i >>= single_in) >>= λ w. option_map Single (binary_alike p q same m op s t v w i)
  value_alike p q same ls bs es act m (Cast to e) = λ i. to >>= λ t. value_alike p q same ls bs es act m e i >>= λ d. option_map Single (cast_alike p q same t d i)
  value_alike p q same ls bs es act m (AddrOf x) = ap (option_map Single) (place_alike p q same ls bs es act m x)
  value_alike p q same ls bs es act m (StartOf x) = ap (option_map Single) (place_alike p q same ls bs es act m x)

  host_place_alike : (p q : Program) → Equal p q → (ls : List Local) (bs : List (List ℕ)) (es : List ℕ) (act : ℕ) (m : Memory) (h : Host) → host_place (act_in p ls bs es act) m h ≡ host_place (act_in q ls bs es act) m h
  host_place_alike p q same ls bs es act m (Global n) = refl
  host_place_alike p q same ls bs es act m (Var n) = refl
  host_place_alike p q same ls bs es act m (At e) = λ i. (value_alike p q same ls bs es act m e i >>= single_in) >>= place_of

  part_place_alike : (p q : Program) → Equal p q → (ls : List Local) (bs : List (List ℕ)) (es : List ℕ) (act : ℕ) (m : Memory) (o : Offsets) (s : Shape) (v : Value) →
      part_place (act_in p ls bs es act) m o s v ≡ part_place (act_in q ls bs es act) m o s v
  part_place_alike p q same ls bs es act m Here s v = refl
  part_place_alike p q same ls bs es act m (Field n more) s v =
      λ i. type_alike p q same.aggregates s n i >>= λ t. member_offset_alike p q same ls bs es act s n i >>= λ o. member_place m v o >>= λ w. part_place_alike p q same ls bs es act m more t w i
  part_place_alike p q same ls bs es act m (Index e more) s v =
      λ i. element_of s >>= λ t. size_alike p q same t i >>= λ size. (value_alike p q same ls bs es act m e i >>= single_in) >>= λ n. element_place m v n size >>= λ w. part_place_alike p q same ls bs es act m more t w i

  pub place_alike : (p q : Program) → Equal p q → (ls : List Local) (bs : List (List ℕ)) (es : List ℕ) (act : ℕ) (m : Memory) (x : Lval) → place (act_in p ls bs es act) m x ≡ place (act_in q ls bs es act) m x
  place_alike p q same ls bs es act m (Place host offsets) =
      λ i. host_type_alike p q same ls bs host i >>= λ s. host_place_alike p q same ls bs es act m host i >>= λ v. part_place_alike p q same ls bs es act m offsets s v i

pub scalar_value_alike : (p q : Program) → Equal p q → (ls : List Local) (bs : List (List ℕ)) (es : List ℕ) (act : ℕ) (m : Memory) (e : Exp) → scalar_value (act_in p ls bs es act) m e ≡ scalar_value (act_in q ls bs es act) m e
scalar_value_alike p q same ls bs es act m e = λ i. value_alike p q same ls bs es act m e i >>= single_in

pub holds_alike : (p q : Program) → Equal p q → (ls : List Local) (bs : List (List ℕ)) (es : List ℕ) (act : ℕ) (m : Memory) (e : Exp) → holds_of (act_in p ls bs es act) m e ≡ holds_of (act_in q ls bs es act) m e
holds_alike p q same ls bs es act m e = λ i. exp_type_alike p q same ls bs e i >>= λ s. value_alike p q same ls bs es act m e i >>= typed.holds_of (sizes_alike p q same i) m s
