-- Device: the things of units are a web: the aggregates come first, and a type names what stands before it.
use Rattle.std.proofs.Common.{◌≡◌, inl, inr, ℕ, zero, suc, ◌+◌, ◌-◌, ◌<◌, ◌≤◌, Bool, true, false, List, [], ◌∷◌, ◌++◌, Option, Some, None, map, length, take, slice_get, MatchOption, subst, refl, sym, ap, ◌∙◌, append_assoc, append-nil, arith, true≢false}
use Rattle.std.specs.Option.{option_map, option_and_then}
use Rattle.cil_base.specs.declared.numbers.TypeId.{TypeId}
use Rattle.type_graph.specs.declared.aggregates.Aggregate.{Aggregate}
use Rattle.type_graph.specs.declared.nodes.Node.{Node}
use Rattle.type_graph.specs.declared.nodes.Node.TheVariants as node
use Rattle.type_graph.specs.Arena.{Graph, IsArena, NamesBelow, EachType}
use Rattle.type_things.specs.declared.web.Label.{Label}
use Rattle.type_things.specs.declared.web.Head.{Head}
use Rattle.type_things.specs.declared.web.Head.TheVariants.{Void, Int, Ptr, Array, Func, Agg, Tagged}
use Rattle.type_things.specs.Things.{Thing}
use Rattle.type_things.specs.Webs.{AllBelow, IsWeb, is_type, AreWhole}
use Rattle.type_things.specs.Units.{plain, aggregate_thing, type_thing, aggregates_from, types_from, aggregate_count, firsts_from, things}
use Rattle.type_things.specs.Weaving.{AllArenas, type_count}
use Rattle.type_things.proofs.NumberLaws.{less_or}

get_left : {X : Type 0} (xs ys : List X) (i : ℕ) → i < length xs → slice_get (xs ++ ys) i ≡ slice_get xs i
get_left [] ys i h = absurd (omega (arith, h))
get_left (x ∷ xs) ys zero h = refl
get_left (x ∷ xs) ys (suc i) h = get_left xs ys i (omega (arith, h))

get_right : {X : Type 0} (xs ys : List X) (i : ℕ) → slice_get (xs ++ ys) (length xs + i) ≡ slice_get ys i
get_right [] ys i = ap (slice_get ys) (omega arith)
get_right (x ∷ xs) ys i = (let e : suc (length xs) + i ≡ suc (length xs + i) = omega arith in ap (slice_get (x ∷ (xs ++ ys))) e ∙ get_right xs ys i)

pub get_map : {X Y : Type 0} (f : X → Y) (xs : List X) (i : ℕ) (y : Y) → slice_get (map f xs) i ≡ Some y → (x : X) × (slice_get xs i ≡ Some x) × (f x ≡ y)
get_map f [] i y e = (let bad : ⊥ = cc in absurd bad)
get_map f (x ∷ xs) zero y e = (x, refl, (let h : f x ≡ y = cc in h))
get_map f (x ∷ xs) (suc i) y e = get_map f xs i y e

get_there : {X : Type 0} (xs : List X) (i : ℕ) → i < length xs → (x : X) × (slice_get xs i ≡ Some x)
get_there [] i h = absurd (omega (arith, h))
get_there (x ∷ xs) zero h = (x, refl)
get_there (x ∷ xs) (suc i) h = get_there xs i (omega (arith, h))

pub map_length : {X Y : Type 0} (f : X → Y) (xs : List X) → length (map f xs) ≡ length xs
map_length f [] = refl
map_length f (x ∷ xs) = ap suc (map_length f xs)

append_length : {X : Type 0} (xs ys : List X) → length (xs ++ ys) ≡ length xs + length ys
append_length [] ys = omega arith
append_length (x ∷ xs) ys = (let h = append_length xs ys in omega (arith, h))

abbrev tagged : Head → Bool
tagged Void = false
tagged (Int k) = false
tagged Ptr = false
tagged (Array n) = false
tagged (Func p v) = false
tagged Agg = false
tagged (Tagged k s) = true

type_not_tagged : (aggs types : ℕ) (n : Node) → tagged (type_thing aggs types n).head ≡ false
type_not_tagged aggs types node.Void = refl
type_not_tagged aggs types (node.Int k) = refl
type_not_tagged aggs types (node.Ptr q) = refl
type_not_tagged aggs types (node.Array q b) = refl
type_not_tagged aggs types (node.Func p v r ps) = refl
type_not_tagged aggs types (node.Agg a) = refl

params_below : (types j : ℕ) (ps : List TypeId) → EachType j ps → AllBelow (types + j) (map (λ (p : TypeId). (plain, types + p.0)) ps)
params_below types j [] h = tt
params_below types j (p ∷ ps) h = (omega (arith, h.0), params_below types j ps h.1)

type_below : (aggs types j m : ℕ) (n : Node) → aggs + m ≤ types → NamesBelow j m n → MatchOption (type_thing aggs types n).inside (Unit {0}) (AllBelow (types + j))
type_below aggs types j m node.Void le h = tt
type_below aggs types j m (node.Int k) le h = tt
type_below aggs types j m (node.Ptr q) le h = (omega (arith, h), tt)
type_below aggs types j m (node.Array q b) le h = (omega (arith, h), tt)
type_below aggs types j m (node.Func p v r ps) le h = (omega (arith, h.0), params_below types j ps h.1)
type_below aggs types j m (node.Agg a) le h = (omega (arith, h, le), tt)

-- what is known of each of the types of units, the first of which have these numbers
types_known : (aggs types : ℕ) (gs : List Graph) → aggs + aggregate_count gs ≤ types → AllArenas gs → (i : ℕ) (t : Thing Head Label) → slice_get (types_from aggs types gs) i ≡ Some t → (tagged t.head ≡ false) × MatchOption t.inside (Unit {0}) (AllBelow (types + i))
types_known aggs types [] le h i t e = (let bad : ⊥ = cc in absurd bad)
types_known aggs types (g ∷ gs) le h i t e = elim (less_or i (length g.nodes)) [
  | inl a ↦ (
      let n = get_map (type_thing aggs types) g.nodes i t (sym (get_left (map (type_thing aggs types) g.nodes) (types_from (aggs + length g.aggs) (types + length g.nodes) gs) i (omega (arith, a, map_length (type_thing aggs types) g.nodes))) ∙ e) in (
        ap (λ (k : Thing Head Label). tagged k.head) (sym n.2) ∙ type_not_tagged aggs types n.0,
        subst (λ (k : Thing Head Label). MatchOption k.inside (Unit {0}) (AllBelow (types + i))) n.2 (type_below aggs types i (length g.aggs) n.0 (omega (arith, le)) (h.0.grounded i n.0 n.1)),
      ))
  | inr a ↦ (
      let len = map_length (type_thing aggs types) g.nodes in
      let at : i ≡ length (map (type_thing aggs types) g.nodes) + (i - length g.nodes) = omega (arith, a, len) in
      let rest = types_known (aggs + length g.aggs) (types + length g.nodes) gs (omega (arith, le)) h.1 (i - length g.nodes) t
      (sym (get_right (map (type_thing aggs types) g.nodes) (types_from (aggs + length g.aggs) (types + length g.nodes) gs) (i - length g.nodes)) ∙ ap (slice_get (types_from aggs types (g ∷ gs))) (sym at) ∙ e) in
      let same : types + length g.nodes + (i - length g.nodes) ≡ types + i = omega (arith, a) in
      (rest.0, subst (λ k. MatchOption t.inside (Unit {0}) (AllBelow k)) same rest.1))
]

aggregates_length : (names : List (List ℕ)) (types : ℕ) (gs : List Graph) → length (aggregates_from names types gs) ≡ aggregate_count gs
aggregates_length names types [] = refl
aggregates_length names types (g ∷ gs) =
    append_length (map (aggregate_thing names types) g.aggs) (aggregates_from names (types + length g.nodes) gs)
    ∙ ap (λ k. k + length (aggregates_from names (types + length g.nodes) gs)) (map_length (aggregate_thing names types) g.aggs)
    ∙ ap (λ k. length g.aggs + k) (aggregates_length names (types + length g.nodes) gs)

aggregates_tagged : (names : List (List ℕ)) (types : ℕ) (gs : List Graph) (i : ℕ) (t : Thing Head Label) → slice_get (aggregates_from names types gs) i ≡ Some t → tagged t.head ≡ true
aggregates_tagged names types [] i t e = (let bad : ⊥ = cc in absurd bad)
aggregates_tagged names types (g ∷ gs) i t e = elim (less_or i (length g.aggs)) [
  | inl a ↦ (
      let n = get_map (aggregate_thing names types) g.aggs i t (sym (get_left (map (aggregate_thing names types) g.aggs) (aggregates_from names (types + length g.nodes) gs) i (omega (arith, a, map_length (aggregate_thing names types) g.aggs))) ∙ e) in
      ap (λ (k : Thing Head Label). tagged k.head) (sym n.2))
  | inr a ↦ (
      let at : i ≡ length (map (aggregate_thing names types) g.aggs) + (i - length g.aggs) = omega (arith, a, map_length (aggregate_thing names types) g.aggs) in
      aggregates_tagged names (types + length g.nodes) gs (i - length g.aggs) t
      (sym (get_right (map (aggregate_thing names types) g.aggs) (aggregates_from names (types + length g.nodes) gs) (i - length g.aggs)) ∙ ap (slice_get (aggregates_from names types (g ∷ gs))) (sym at) ∙ e))
]

-- a thing behind the aggregates is a type
type_at : (names : List (List ℕ)) (gs : List Graph) (x : ℕ) (t : Thing Head Label) → aggregate_count gs ≤ x → slice_get (things names gs) x ≡ Some t → slice_get (types_from 0 (aggregate_count gs) gs) (x - aggregate_count gs) ≡ Some t
type_at names gs x t h e =
    let len = aggregates_length names (aggregate_count gs) gs in
    let at : x ≡ length (aggregates_from names (aggregate_count gs) gs) + (x - aggregate_count gs) = omega (arith, h, len) in
    sym (get_right (aggregates_from names (aggregate_count gs) gs) (types_from 0 (aggregate_count gs) gs) (x - aggregate_count gs)) ∙ ap (slice_get (things names gs)) (sym at) ∙ e

some_thing : {X Y : Type 0} (f : X → Option Y) (o : Option X) (y : Y) → option_and_then f o ≡ Some y → (x : X) × (o ≡ Some x) × (f x ≡ Some y)
some_thing f None y e = (let bad : ⊥ = cc in absurd bad)
some_thing f (Some x) y e = (x, refl, e)

some_head : (o : Option (Thing Head Label)) (h : Head) → option_map (λ (t : Thing Head Label). t.head) o ≡ Some h → (t : Thing Head Label) × (o ≡ Some t) × (t.head ≡ h)
some_head None h e = (let bad : ⊥ = cc in absurd bad)
some_head (Some t) h e = (t, refl, (let k : t.head ≡ h = cc in k))

pub things_web : (names : List (List ℕ)) (gs : List Graph) → AllArenas gs → IsWeb (things names gs) (aggregate_count gs)
things_web names gs h = record {
  sorted = λ x y e hx. elim (less_or y (aggregate_count gs)) [
    | inl a ↦ a
    | inr a ↦ (
        let len = aggregates_length names (aggregate_count gs) gs in
        let s = get_there (aggregates_from names (aggregate_count gs) gs) x (omega (arith, hx, len)) in
        let at_x = get_left (aggregates_from names (aggregate_count gs) gs) (types_from 0 (aggregate_count gs) gs) x (omega (arith, hx, len)) ∙ s.1 in
        let t = some_head (slice_get (things names gs) y) s.0.head (sym e ∙ ap (option_map (λ (k : Thing Head Label). k.head)) at_x) in
        let known = types_known 0 (aggregate_count gs) gs (omega arith) h (y - aggregate_count gs) t.0 (type_at names gs y t.0 a t.1) in
        absurd (true≢false (sym (aggregates_tagged names (aggregate_count gs) gs x s.0 s.1) ∙ ap tagged (sym t.2) ∙ known.0)))
  ];
  grounded = λ x ps hx e. (
      let t = some_thing (λ (k : Thing Head Label). k.inside) (slice_get (things names gs) x) ps e in
      let known = types_known 0 (aggregate_count gs) gs (omega arith) h (x - aggregate_count gs) t.0 (type_at names gs x t.0 hx t.1) in
      let same : aggregate_count gs + (x - aggregate_count gs) ≡ x = omega (arith, hx) in
      subst (λ k. AllBelow k ps) same (subst (λ o. MatchOption o (Unit {0}) (AllBelow (aggregate_count gs + (x - aggregate_count gs)))) t.2 known.1));
}

pub things_aggregates : (names : List (List ℕ)) (gs : List Graph) → aggregate_count gs ≤ length (things names gs)
things_aggregates names gs = (
    let a = append_length (aggregates_from names (aggregate_count gs) gs) (types_from 0 (aggregate_count gs) gs) in
    let b = aggregates_length names (aggregate_count gs) gs in
    omega (arith, a, b))

-- the types of units have parts
abbrev Parted : Thing Head Label → Type 0
Parted t = is_type t.head ≡ true → (ps : List (Label × ℕ)) × (t.inside ≡ Some ps)

type_parted : (aggs types : ℕ) (n : Node) → Parted (type_thing aggs types n)
type_parted aggs types node.Void = λ q. ([], refl)
type_parted aggs types (node.Int k) = λ q. ([], refl)
type_parted aggs types (node.Ptr p) = λ q. ((plain, types + p.of.0) ∷ [], refl)
type_parted aggs types (node.Array p b) = λ q. ((plain, types + p.of.0) ∷ [], refl)
type_parted aggs types (node.Func p v r ps) = λ q. ((plain, types + r.0) ∷ map (λ (z : TypeId). (plain, types + z.0)) ps, refl)
type_parted aggs types (node.Agg a) = λ q. ((plain, aggs + a.0) ∷ [], refl)

aggregate_parted : (names : List (List ℕ)) (types : ℕ) (x : Aggregate) → Parted (aggregate_thing names types x)
aggregate_parted names types x = λ q. absurd (true≢false (sym q))

at_either : {X : Type 0} (P : X → Type 0) (xs ys : List X) → ((i : ℕ) (x : X) → slice_get xs i ≡ Some x → P x) → ((i : ℕ) (x : X) → slice_get ys i ≡ Some x → P x) → (i : ℕ) (x : X) → slice_get (xs ++ ys) i ≡ Some x → P x
at_either P [] ys f g i x e = g i x e
at_either P (z ∷ xs) ys f g zero x e = f 0 x e
at_either P (z ∷ xs) ys f g (suc i) x e = at_either P xs ys (λ j y q. f (suc j) y q) g i x e

types_parted : (aggs types : ℕ) (gs : List Graph) (i : ℕ) (t : Thing Head Label) → slice_get (types_from aggs types gs) i ≡ Some t → Parted t
types_parted aggs types [] i t e = (let bad : ⊥ = cc in absurd bad)
types_parted aggs types (g ∷ gs) i t e = at_either Parted (map (type_thing aggs types) g.nodes) (types_from (aggs + length g.aggs) (types + length g.nodes) gs)
    (λ j x q. (let n = get_map (type_thing aggs types) g.nodes j x q in subst Parted n.2 (type_parted aggs types n.0))) (types_parted (aggs + length g.aggs) (types + length g.nodes) gs) i t e

aggregates_parted : (names : List (List ℕ)) (types : ℕ) (gs : List Graph) (i : ℕ) (t : Thing Head Label) → slice_get (aggregates_from names types gs) i ≡ Some t → Parted t
aggregates_parted names types [] i t e = (let bad : ⊥ = cc in absurd bad)
aggregates_parted names types (g ∷ gs) i t e = at_either Parted (map (aggregate_thing names types) g.aggs) (aggregates_from names (types + length g.nodes) gs)
    (λ j x q. (let n = get_map (aggregate_thing names types) g.aggs j x q in subst Parted n.2 (aggregate_parted names types n.0))) (aggregates_parted names (types + length g.nodes) gs) i t e

pub things_whole : (names : List (List ℕ)) (gs : List Graph) → AreWhole (things names gs)
things_whole names gs = λ x h e q. (
    let t = some_head (slice_get (things names gs) x) h e in
    let p = at_either Parted (aggregates_from names (aggregate_count gs) gs) (types_from 0 (aggregate_count gs) gs) (aggregates_parted names (aggregate_count gs) gs) (types_parted 0 (aggregate_count gs) gs) x t.0 t.1 (ap is_type t.2 ∙ q) in
    (p.0, ap (λ (o : Option (Thing Head Label)). option_and_then (λ (k : Thing Head Label). k.inside) o) t.1 ∙ p.1))

-- the things of one unit more
pub take_none : {X : Type 0} (xs : List X) → take 0 xs ≡ []
take_none [] = refl
take_none (x ∷ xs) = refl

pub aggregates_next : (names : List (List ℕ)) (aggs types : ℕ) (gs : List Graph) (u x y : ℕ) (g : Graph) → slice_get (firsts_from aggs types gs) u ≡ Some (x, y) → slice_get gs u ≡ Some g
    → aggregates_from names types (take (suc u) gs) ≡ aggregates_from names types (take u gs) ++ map (aggregate_thing names y) g.aggs
aggregates_next names aggs types [] u x y g e f = (let bad : ⊥ = cc in absurd bad)
aggregates_next names aggs types (h ∷ gs) zero x y g e f =
    let same : h ≡ g = cc in
    let pair : ◌≡◌ {A = ℕ × ℕ} (aggs, types) (x, y) = cc in
    ap (λ l. map (aggregate_thing names types) h.aggs ++ aggregates_from names (types + length h.nodes) l) (take_none gs)
    ∙ append-nil (map (aggregate_thing names types) h.aggs)
    ∙ ap (λ (k : Graph). map (aggregate_thing names types) k.aggs) same
    ∙ ap (λ (p : ℕ × ℕ). map (aggregate_thing names p.1) g.aggs) pair
aggregates_next names aggs types (h ∷ gs) (suc u) x y g e f =
    ap (λ l. map (aggregate_thing names types) h.aggs ++ l) (aggregates_next names (aggs + length h.aggs) (types + length h.nodes) gs u x y g e f)
    ∙ sym (append_assoc (map (aggregate_thing names types) h.aggs) (aggregates_from names (types + length h.nodes) (take u gs)) (map (aggregate_thing names y) g.aggs))

pub types_next : (aggs types : ℕ) (gs : List Graph) (u x y : ℕ) (g : Graph) → slice_get (firsts_from aggs types gs) u ≡ Some (x, y) → slice_get gs u ≡ Some g
    → types_from aggs types (take (suc u) gs) ≡ types_from aggs types (take u gs) ++ map (type_thing x y) g.nodes
types_next aggs types [] u x y g e f = (let bad : ⊥ = cc in absurd bad)
types_next aggs types (h ∷ gs) zero x y g e f =
    let same : h ≡ g = cc in
    let pair : ◌≡◌ {A = ℕ × ℕ} (aggs, types) (x, y) = cc in
    ap (λ l. map (type_thing aggs types) h.nodes ++ types_from (aggs + length h.aggs) (types + length h.nodes) l) (take_none gs)
    ∙ append-nil (map (type_thing aggs types) h.nodes)
    ∙ ap (λ (k : Graph). map (type_thing aggs types) k.nodes) same
    ∙ ap (λ (p : ℕ × ℕ). map (type_thing p.0 p.1) g.nodes) pair
types_next aggs types (h ∷ gs) (suc u) x y g e f =
    ap (λ l. map (type_thing aggs types) h.nodes ++ l) (types_next (aggs + length h.aggs) (types + length h.nodes) gs u x y g e f)
    ∙ sym (append_assoc (map (type_thing aggs types) h.nodes) (types_from (aggs + length h.aggs) (types + length h.nodes) (take u gs)) (map (type_thing x y) g.nodes))

-- the first numbers of one unit more
pub count_next : (gs : List Graph) (u : ℕ) (g : Graph) → slice_get gs u ≡ Some g → aggregate_count (take (suc u) gs) ≡ aggregate_count (take u gs) + length g.aggs
count_next [] u g f = (let bad : ⊥ = cc in absurd bad)
count_next (h ∷ gs) zero g f = (let same : h ≡ g = cc in let n = ap aggregate_count (take_none gs) in let k : length h.aggs ≡ length g.aggs = ap (λ (z : Graph). length z.aggs) same in omega (arith, n, k))
count_next (h ∷ gs) (suc u) g f = (let r = count_next gs u g f in omega (arith, r))

pub type_count_next : (gs : List Graph) (u : ℕ) (g : Graph) → slice_get gs u ≡ Some g → type_count (take (suc u) gs) ≡ type_count (take u gs) + length g.nodes
type_count_next [] u g f = (let bad : ⊥ = cc in absurd bad)
type_count_next (h ∷ gs) zero g f = (let same : h ≡ g = cc in let n = ap type_count (take_none gs) in let k : length h.nodes ≡ length g.nodes = ap (λ (z : Graph). length z.nodes) same in omega (arith, n, k))
type_count_next (h ∷ gs) (suc u) g f = (let r = type_count_next gs u g f in omega (arith, r))

pub firsts_next : (aggs types : ℕ) (gs : List Graph) (u : ℕ) (g : Graph) → slice_get gs u ≡ Some g → firsts_from aggs types (take (suc u) gs) ≡ firsts_from aggs types (take u gs) ++ (aggs + aggregate_count (take u gs), types + type_count (take u gs)) ∷ []
firsts_next aggs types [] u g f = (let bad : ⊥ = cc in absurd bad)
firsts_next aggs types (h ∷ gs) zero g f =
    let a : aggs ≡ aggs + aggregate_count [] = omega arith in
    let t : types ≡ types + type_count [] = omega arith in
    ap (λ l. (aggs, types) ∷ firsts_from (aggs + length h.aggs) (types + length h.nodes) l) (take_none gs) ∙ ap (λ n. (n, types) ∷ []) a ∙ ap (λ n. (aggs + aggregate_count [], n) ∷ []) t
firsts_next aggs types (h ∷ gs) (suc u) g f =
    let a : aggs + length h.aggs + aggregate_count (take u gs) ≡ aggs + (length h.aggs + aggregate_count (take u gs)) = omega arith in
    let t : types + length h.nodes + type_count (take u gs) ≡ types + (length h.nodes + type_count (take u gs)) = omega arith in
    ap (λ l. (aggs, types) ∷ l) (firsts_next (aggs + length h.aggs) (types + length h.nodes) gs u g f)
    ∙ ap (λ n. (aggs, types) ∷ (firsts_from (aggs + length h.aggs) (types + length h.nodes) (take u gs) ++ (n, types + length h.nodes + type_count (take u gs)) ∷ [])) a
    ∙ ap (λ n. (aggs, types) ∷ (firsts_from (aggs + length h.aggs) (types + length h.nodes) (take u gs) ++ (aggs + (length h.aggs + aggregate_count (take u gs)), n) ∷ [])) t

pub arenas_next : (gs : List Graph) (u : ℕ) (g : Graph) → slice_get gs u ≡ Some g → IsArena g → AllArenas (take u gs) → AllArenas (take (suc u) gs)
arenas_next [] u g f a h = (let bad : ⊥ = cc in absurd bad)
arenas_next (k ∷ gs) zero g f a h = (let same : k ≡ g = cc in (subst IsArena (sym same) a, subst AllArenas (sym (take_none gs)) tt))
arenas_next (k ∷ gs) (suc u) g f a h = (h.0, arenas_next gs u g f a h.1)
