-- Device: what a step leads to is the part of the definition.
use Rattle.std.proofs.Common.{◌≡◌, ℕ, zero, suc, ◌+◌, ◌*◌, ◌<◌, ◌≤◌, Bool, true, false, nat_lt, Option, Some, None, List, [], ◌∷◌, length, drop, map, get_or, slice_get, refl, sym, ap, ◌∙◌, arith, if◌then◌else◌}
use Rattle.std.specs.Option.{option_map, option_and_then}
use Rattle.type_graph.specs.declared.aggregates.AggKind.{AggKind}
use Rattle.type_graph.specs.declared.aggregates.Aggregate.{Aggregate}
use Rattle.type_graph.specs.declared.aggregates.Member.{Member}
use Rattle.type_graph.specs.declared.layout.Layout.{Layout}
use Rattle.type_graph.specs.declared.nodes.Quals.{Quals}
use Rattle.type_graph.specs.Shapes.{Shape, ArrayType, AggType, shape}
use Rattle.type_graph.specs.Arena.{Graph, members_of}
use Rattle.type_graph.specs.Layouts.{layout, offset}
use Rattle.unit_types.specs.Classes.{kind_of, offset_in}
use Rattle.cil_tree.specs.declared.globals.Step.{Step}
use Rattle.cil_tree.specs.Tree as plain
use Rattle.cil_tree.specs.Tree.{ToField, ToIndex}
use Rattle.cil_tree.specs.View.{step_of}
use Rattle.cil_tree.specs.Typing.{is_enum, member_of, member_type}
use Rattle.cil_tree.specs.Globals.{Part, member_part, element_part, path_part}
use Rattle.init_expand.specs.Spots.{step_part}

-- the type of a member that an aggregate has
typed : (g : Graph) (a i : ℕ) (kind : AggKind) (m : Member) → kind_of g a ≡ Some kind → is_enum kind ≡ false → Some m ≡ option_and_then (λ (ms : List Member). slice_get ms i) (members_of g.aggs a) → member_type g (AggType a) i ≡ Some (shape g.nodes m.ty.of.0)
typed g a i kind m kinded record_kind found = by (slice_get g.aggs a) kinded found
  where
    by : (o : Option Aggregate) → option_map (λ (x : Aggregate). x.kind) o ≡ Some kind → Some m ≡ option_and_then (λ (ms : List Member). slice_get ms i) (option_and_then (λ (x : Aggregate). x.members) o)
        → option_map (λ (y : Member). shape g.nodes y.ty.of.0) (option_and_then (λ (x : Aggregate). member_of g x i) o) ≡ Some (shape g.nodes m.ty.of.0)
    by None k f = cc
    by (Some x) k f =
        let same : x.kind ≡ kind = cc in
        ap (λ (b : Bool). option_map (λ (y : Member). shape g.nodes y.ty.of.0) (if b then None else option_and_then (λ (ms : List Member). slice_get ms i) x.members)) (ap is_enum same ∙ record_kind)
        ∙ ap (option_map (λ (y : Member). shape g.nodes y.ty.of.0)) (sym f)

pub member_is : (g : Graph) (s : Shape) (a i at off : ℕ) (kind : AggKind) (m : Member) → s ≡ AggType a → kind_of g a ≡ Some kind → is_enum kind ≡ false → Some off ≡ offset_in g s i
    → Some m ≡ option_and_then (λ (ms : List Member). slice_get ms i) (members_of g.aggs a) → member_part g i (s, at) ≡ Some (shape g.nodes m.ty.of.0, at + off)
member_is g s a i at off kind m is kinded record_kind there found =
    ap (λ (t : Shape). member_part g i (t, at)) is
    ∙ ap (option_and_then (λ (t : Shape). option_map (λ (to : ℕ). (let r : Part = (t, at + to) in r)) (offset g a i))) (typed g a i kind m kinded record_kind found)
    ∙ ap (option_map (λ (to : ℕ). (let r : Part = (shape g.nodes m.ty.of.0, at + to) in r))) (sym (there ∙ ap (λ (t : Shape). offset_in g t i) is))

pub element_is : (g : Graph) (s : Shape) (q : Quals) (e n i at size : ℕ) → s ≡ ArrayType q (shape g.nodes e) (Some n) → i < n → Some size ≡ option_map (λ (l : Layout). l.size) (layout g e)
    → element_part g i (s, at) ≡ Some (shape g.nodes e, at + i * size)
element_is g s q e n i at size is h known = ap (λ (t : Shape). element_part g i (t, at)) is ∙ by (nat_lt i n) (grind arith) (layout g e) known
  where
    by : (b : Bool) → b ≡ true → (o : Option Layout) → Some size ≡ option_map (λ (x : Layout). x.size) o → (if b then option_map {U = Part} (λ (x : Layout). (shape g.nodes e, at + i * x.size)) o else None) ≡ Some (shape g.nodes e, at + i * size)
    by false f o k = cc
    by true f None k = cc
    by true f (Some x) k = let same : x.size ≡ size = cc in ap (λ m. Some (shape g.nodes e, at + i * m)) same

-- the part that the steps from one on lead to
pub path_next : (g : Graph) (steps : List Step) (i : ℕ) (d : Step) (part next : Part) → i < length steps → step_part g (step_of (get_or steps i d)) part ≡ Some next
    → path_part g (map step_of (drop i steps)) part ≡ path_part g (map step_of (drop (suc i) steps)) next
path_next g [] i d part next h leads = absurd (omega arith)
path_next g (x ∷ steps) zero d part next h leads = by (step_of x) leads
  where
    by : (p : plain.Step) → step_part g p part ≡ Some next → path_part g (p ∷ map step_of steps) part ≡ path_part g (map step_of steps) next
    by (ToField number) l = ap (option_and_then (path_part g (map step_of steps))) l
    by (ToIndex index) l = ap (option_and_then (path_part g (map step_of steps))) l
path_next g (x ∷ steps) (suc i) d part next h leads = path_next g steps i d part next (omega arith) leads

pub path_end : (g : Graph) (steps : List Step) (i : ℕ) (part : Part) → length steps ≤ i → path_part g (map step_of (drop i steps)) part ≡ Some part
path_end g [] zero part h = refl
path_end g [] (suc i) part h = refl
path_end g (x ∷ steps) zero part h = absurd (omega arith)
path_end g (x ∷ steps) (suc i) part h = path_end g steps i part (omega arith)
