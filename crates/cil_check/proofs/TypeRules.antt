-- Device: the rules of types, gathered by type and by aggregate, are the rules of types.
use Rattle.std.proofs.Common.{◌≡◌, ◌↔◌, ℕ, zero, suc, ◌+◌, ◌<◌, ◌≤◌, Bool, true, false, ◌&&◌, ◌||◌, not, Option, Some, None, List, [], ◌∷◌, length, slice_get, refl, sym, ap, ◌∙◌, subst, arith, true≢false}
use Rattle.std.specs.List.{list_all}
use Rattle.type_graph.specs.declared.aggregates.Aggregate.{Aggregate}
use Rattle.type_graph.specs.declared.aggregates.Member.{Member}
use Rattle.type_graph.specs.declared.nodes.Node.{Node}
use Rattle.type_graph.specs.Shapes.{shape}
use Rattle.type_graph.specs.Arena.{Graph, members_fit}
use Rattle.cil_tree.specs.Typing.{is_enum}
use Rattle.layout_lp64.specs.Tables.{AllFit, AggregatesFit, IsLeastTooBig}
use Rattle.cil_tree.specs.WellFormedTypes.{AreTypes, is_unqualified, member_fits, is_nonempty, node_is_unqualified, members_are_unqualified, has_tag, enum_is_complete, members_have_kind, has_member, flexible_is_last, enums_first, stands_after, all_stand_after, array_fits, function_fits, prototype_fits}
use Rattle.cil_check.specs.Rules.{node_rules, node_fits_at, members_rules, aggregate_rules, aggregate_fits_at, member_is_after, KeepRules}

both : (p q : Bool) → p && q ≡ true → (p ≡ true) × (q ≡ true)
both true q e = (refl, e)
both false q e = cc

joined : (p q : Bool) → p ≡ true → q ≡ true → p && q ≡ true
joined p q e f = ap (λ b. b && q) e ∙ f

below : {A : Type 0} (xs : List A) (i : ℕ) (x : A) → slice_get xs i ≡ Some x → i < length xs
below [] i x e = cc
below (y ∷ ys) zero x e = omega arith
below (y ∷ ys) (suc i) x e = let h : i < length ys = below ys i x e in omega (arith, h)

-- a test of all is one of each
all_of_each : {A : Type 0} (of : A → Bool) (xs : List A) → ((i : ℕ) (x : A) → slice_get xs i ≡ Some x → of x ≡ true) → list_all of xs ≡ true
all_of_each of [] h = refl
all_of_each of (x ∷ xs) h = joined (of x) (list_all of xs) (h 0 x refl) (all_of_each of xs (λ i. h (suc i)))

each_of_all : {A : Type 0} (of : A → Bool) (xs : List A) → list_all of xs ≡ true → (i : ℕ) (x : A) → slice_get xs i ≡ Some x → of x ≡ true
each_of_all of [] h i x e = cc
each_of_all of (y ∷ ys) h zero x e = let same : y ≡ x = cc in subst (λ z. of z ≡ true) same (both (of y) (list_all of ys) h).0
each_of_all of (y ∷ ys) h (suc i) x e = each_of_all of ys (both (of y) (list_all of ys) h).1 i x e

-- where all three tests hold the rules are kept, and where one does not they are not
pub keep : (g : Graph) → ((t : ℕ) → t < length g.nodes → node_fits_at g t ≡ true) → enums_first g.aggs ≡ true → ((a : ℕ) → a < length g.aggs → aggregate_fits_at g a ≡ true) → KeepRules g
keep g n e a = record { nodes = n; aggregates = a; enums = e }

node_at : (g : Graph) (t : ℕ) (n : Node) → slice_get g.nodes t ≡ Some n → node_fits_at g t ≡ node_rules g n (shape g.nodes t)
node_at g t n e = ap (λ o. elim o [ None ↦ true | Some x ↦ node_rules g x (shape g.nodes t) ]) e

aggregate_at : (g : Graph) (a : ℕ) (x : Aggregate) → slice_get g.aggs a ≡ Some x → aggregate_fits_at g a ≡ aggregate_rules g a x
aggregate_at g a x e = ap (λ o. elim o [ None ↦ true | Some y ↦ aggregate_rules g a y ]) e

-- each of the seven rules of an aggregate, over its kind, its tag and its members
record Seven (g : Graph) (a : ℕ) (x : Aggregate) : Type 0 where
  unqualified : members_are_unqualified x ≡ true
  tagged : has_tag x ≡ true
  whole : enum_is_complete x ≡ true
  kinds : members_have_kind g x ≡ true
  some : has_member x ≡ true
  flexible : flexible_is_last g x ≡ true
  after : stands_after g a x ≡ true

yes_or : (p : Bool) → p || true ≡ true
yes_or true = refl
yes_or false = refl

from_none : (g : Graph) (a : ℕ) (x : Aggregate) → aggregate_rules g a (record x { members = None }) ≡ true → Seven g a (record x { members = None })
from_none g a x e =
    let h = both (has_tag x) (not (is_enum x.kind)) e in
    record { unqualified = refl; tagged = h.0; whole = ap (λ b. b || false) h.1; kinds = refl; some = refl; flexible = refl; after = refl }

from_some : (g : Graph) (a : ℕ) (x : Aggregate) (ms : List Member) → aggregate_rules g a (record x { members = Some ms }) ≡ true → Seven g a (record x { members = Some ms })
from_some g a x ms e =
    let h = both (has_tag x) (members_rules g a x.kind ms) e in
    let i = both (list_all (λ (m : Member). is_unqualified m.ty.quals) ms) (list_all (member_fits g (is_enum x.kind)) ms && (is_nonempty ms && (members_fit g x.kind false ms && list_all (member_is_after g a) ms))) h.1 in
    let j = both (list_all (member_fits g (is_enum x.kind)) ms) (is_nonempty ms && (members_fit g x.kind false ms && list_all (member_is_after g a) ms)) i.1 in
    let k = both (is_nonempty ms) (members_fit g x.kind false ms && list_all (member_is_after g a) ms) j.1 in
    let l = both (members_fit g x.kind false ms) (list_all (member_is_after g a) ms) k.1 in
    record { unqualified = i.0; tagged = h.0; whole = yes_or (not (is_enum x.kind)); kinds = j.0; some = k.0; flexible = l.0; after = l.1 }

rules_of : (g : Graph) (a : ℕ) (x : Aggregate) → aggregate_rules g a x ≡ true → Seven g a x
rules_of g a x e = by x.members (from_none g a x) (from_some g a x) e
  where
    by : (o : Option (List Member)) → (aggregate_rules g a (record x { members = None }) ≡ true → Seven g a (record x { members = None }))
        → ((ms : List Member) → aggregate_rules g a (record x { members = Some ms }) ≡ true → Seven g a (record x { members = Some ms }))
        → aggregate_rules g a (record x { members = o }) ≡ true → Seven g a (record x { members = o })
    by None f h e = f e
    by (Some ms) f h e = h ms e

to_some : (g : Graph) (a : ℕ) (x : Aggregate) (ms : List Member) → Seven g a (record x { members = Some ms }) → aggregate_rules g a (record x { members = Some ms }) ≡ true
to_some g a x ms r = joined (has_tag x) (members_rules g a x.kind ms) r.tagged (
    joined (list_all (λ (m : Member). is_unqualified m.ty.quals) ms) (list_all (member_fits g (is_enum x.kind)) ms && (is_nonempty ms && (members_fit g x.kind false ms && list_all (member_is_after g a) ms))) r.unqualified (
    joined (list_all (member_fits g (is_enum x.kind)) ms) (is_nonempty ms && (members_fit g x.kind false ms && list_all (member_is_after g a) ms)) r.kinds (
    joined (is_nonempty ms) (members_fit g x.kind false ms && list_all (member_is_after g a) ms) r.some (
    joined (members_fit g x.kind false ms) (list_all (member_is_after g a) ms) r.flexible r.after))))

to_none : (g : Graph) (a : ℕ) (x : Aggregate) → Seven g a (record x { members = None }) → aggregate_rules g a (record x { members = None }) ≡ true
to_none g a x r = joined (has_tag x) (not (is_enum x.kind)) r.tagged (or_no (not (is_enum x.kind)) r.whole)
  where
    or_no : (p : Bool) → p || false ≡ true → p ≡ true
    or_no true e = refl
    or_no false e = e

of_rules : (g : Graph) (a : ℕ) (x : Aggregate) → Seven g a x → aggregate_rules g a x ≡ true
of_rules g a x r = by x.members (to_none g a x) (to_some g a x) r
  where
    by : (o : Option (List Member)) → (Seven g a (record x { members = None }) → aggregate_rules g a (record x { members = None }) ≡ true)
        → ((ms : List Member) → Seven g a (record x { members = Some ms }) → aggregate_rules g a (record x { members = Some ms }) ≡ true)
        → Seven g a (record x { members = o }) → aggregate_rules g a (record x { members = o }) ≡ true
    by None f h r = f r
    by (Some ms) f h r = h ms r

-- aggregates in order, each of which stands after what it holds
after_each : (g : Graph) (first : ℕ) (xs : List Aggregate) → ((i : ℕ) (x : Aggregate) → slice_get xs i ≡ Some x → stands_after g (first + i) x ≡ true) → all_stand_after g first xs ≡ true
after_each g first [] h = refl
after_each g first (x ∷ xs) h =
    let here : first + 0 ≡ first = omega arith in
    joined (stands_after g first x) (all_stand_after g (suc first) xs) (subst (λ k. stands_after g k x ≡ true) here (h 0 x refl))
    (after_each g (suc first) xs (λ i y e. let next : first + suc i ≡ suc first + i = omega arith in subst (λ k. stands_after g k y ≡ true) next (h (suc i) y e)))

each_after : (g : Graph) (first : ℕ) (xs : List Aggregate) → all_stand_after g first xs ≡ true → (i : ℕ) (x : Aggregate) → slice_get xs i ≡ Some x → stands_after g (first + i) x ≡ true
each_after g first [] h i x e = cc
each_after g first (y ∷ ys) h zero x e =
    let same : y ≡ x = cc in
    let here : first ≡ first + 0 = omega arith in
    subst (λ z. stands_after g (first + 0) z ≡ true) same (subst (λ k. stands_after g k y ≡ true) here (both (stands_after g first y) (all_stand_after g (suc first) ys) h).0)
each_after g first (y ∷ ys) h (suc i) x e =
    let next : suc first + i ≡ first + suc i = omega arith in
    subst (λ k. stands_after g k x ≡ true) next (each_after g (suc first) ys (both (stands_after g first y) (all_stand_after g (suc first) ys) h).1 i x e)

record Four (g : Graph) (t : ℕ) (n : Node) : Type 0 where
  unqualified : node_is_unqualified n ≡ true
  array : array_fits g n ≡ true
  function : function_fits (shape g.nodes t) ≡ true
  prototype : prototype_fits (shape g.nodes t) ≡ true

four_of : (g : Graph) (t : ℕ) (n : Node) → node_rules g n (shape g.nodes t) ≡ true → Four g t n
four_of g t n e =
    let h = both (node_is_unqualified n) (array_fits g n && (function_fits (shape g.nodes t) && prototype_fits (shape g.nodes t))) e in
    let i = both (array_fits g n) (function_fits (shape g.nodes t) && prototype_fits (shape g.nodes t)) h.1 in
    let j = both (function_fits (shape g.nodes t)) (prototype_fits (shape g.nodes t)) i.1 in
    record { unqualified = h.0; array = i.0; function = j.0; prototype = j.1 }

there : {A : Type 0} (xs : List A) (i : ℕ) → i < length xs → (x : A) × (slice_get xs i ≡ Some x)
there [] i h = absurd (omega arith)
there (x ∷ xs) zero h = (x, refl)
there (x ∷ xs) (suc i) h = there xs i (omega arith)

to_types : (g : Graph) → KeepRules g → AllFit g → AggregatesFit g → AreTypes g
to_types g k f whole = record {
  fit = record {
    unqualified = all_of_each node_is_unqualified g.nodes (λ t n e. (nodes t n e).unqualified);
    members_unqualified = all_of_each members_are_unqualified g.aggs (λ a x e. (aggs a x e).unqualified);
    enums_complete = all_of_each enum_is_complete g.aggs (λ a x e. (aggs a x e).whole);
    members_kind = all_of_each (members_have_kind g) g.aggs (λ a x e. (aggs a x e).kinds);
    members = all_of_each has_member g.aggs (λ a x e. (aggs a x e).some);
    flexible = all_of_each (flexible_is_last g) g.aggs (λ a x e. (aggs a x e).flexible);
    arrays = all_of_each (array_fits g) g.nodes (λ t n e. (nodes t n e).array);
    functions = λ t h. let n = there g.nodes t h in (nodes t n.0 n.1).function;
    prototypes = λ t h. let n = there g.nodes t h in (nodes t n.0 n.1).prototype;
    small = f.each;
    small_aggregates = whole.each;
  };
  tagged = all_of_each has_tag g.aggs (λ a x e. (aggs a x e).tagged);
  enums_first = k.enums;
  ordered = after_each g 0 g.aggs (λ a x e. let same : a ≡ 0 + a = omega arith in subst (λ j. stands_after g j x ≡ true) same (aggs a x e).after);
}
  where
    nodes : (t : ℕ) (n : Node) → slice_get g.nodes t ≡ Some n → Four g t n
    nodes t n e = four_of g t n (sym (node_at g t n e) ∙ k.nodes t (below g.nodes t n e))

    aggs : (a : ℕ) (x : Aggregate) → slice_get g.aggs a ≡ Some x → Seven g a x
    aggs a x e = rules_of g a x (sym (aggregate_at g a x e) ∙ k.aggregates a (below g.aggs a x e))

from_types : (g : Graph) → AreTypes g → KeepRules g
from_types g r = record { nodes = nodes; aggregates = aggs; enums = r.enums_first }
  where
    nodes : (t : ℕ) → t < length g.nodes → node_fits_at g t ≡ true
    nodes t h =
        let n = there g.nodes t h in
        node_at g t n.0 n.1 ∙ joined (node_is_unqualified n.0) (array_fits g n.0 && (function_fits (shape g.nodes t) && prototype_fits (shape g.nodes t))) (each_of_all node_is_unqualified g.nodes r.fit.unqualified t n.0 n.1)
        (joined (array_fits g n.0) (function_fits (shape g.nodes t) && prototype_fits (shape g.nodes t)) (each_of_all (array_fits g) g.nodes r.fit.arrays t n.0 n.1)
        (joined (function_fits (shape g.nodes t)) (prototype_fits (shape g.nodes t)) (r.fit.functions t h) (r.fit.prototypes t h)))

    aggs : (a : ℕ) → a < length g.aggs → aggregate_fits_at g a ≡ true
    aggs a h =
        let x = there g.aggs a h in
        let same : 0 + a ≡ a = omega arith in
        aggregate_at g a x.0 x.1 ∙ of_rules g a x.0 (record {
          unqualified = each_of_all members_are_unqualified g.aggs r.fit.members_unqualified a x.0 x.1;
          tagged = each_of_all has_tag g.aggs r.tagged a x.0 x.1;
          whole = each_of_all enum_is_complete g.aggs r.fit.enums_complete a x.0 x.1;
          kinds = each_of_all (members_have_kind g) g.aggs r.fit.members_kind a x.0 x.1;
          some = each_of_all has_member g.aggs r.fit.members a x.0 x.1;
          flexible = each_of_all (flexible_is_last g) g.aggs r.fit.flexible a x.0 x.1;
          after = subst (λ j. stands_after g j x.0 ≡ true) same (each_after g 0 g.aggs r.ordered a x.0 x.1);
        })

-- where the rules are not kept the types are not well-formed
pub types_unfit : (g : Graph) (b : Bool) → (b ≡ true) ↔ KeepRules g → b ≡ false → (false ≡ true) ↔ AreTypes g
types_unfit g b k e = (λ h. absurd (true≢false (sym h)), λ r. sym e ∙ k.1 (from_types g r))

-- where they are, the layouts tell whether the types are well-formed
pub sizes_tell : (g : Graph) (b : Bool) → KeepRules g → AllFit g → (b ≡ true) ↔ AggregatesFit g → (b ≡ true) ↔ AreTypes g
sizes_tell g b k f h = (λ e. to_types g k f (h.0 e), λ r. h.1 (record { each = r.fit.small_aggregates }))

-- a type that is too big breaks them
pub too_big : (g : Graph) (t : ℕ) → IsLeastTooBig g t → (false ≡ true) ↔ AreTypes g
too_big g t l = (λ h. absurd (true≢false (sym h)), λ r. let h : l.large.size ≤ 2147483647 = r.fit.small t l.large l.is in absurd (omega (arith, h, l.size)))
