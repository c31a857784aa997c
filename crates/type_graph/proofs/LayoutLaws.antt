-- Device: layouts of an arena: those of complete types are there, each is made of those within it, and growth keeps them.
use Rattle.std.proofs.Common.{◌≡◌, ℕ, zero, suc, ◌^◌, ◌<◌, ◌≤◌, Bool, true, false, ◌||◌, List, [], ◌∷◌, length, slice_get, is_some, Option, Some, None, refl, sym, ap, ◌∙◌, subst, arith}
use Rattle.std.specs.Option.{option_and_then, option_map}
use Rattle.cil_base.specs.declared.kinds.Abi.{Abi}
use Rattle.cil_base.specs.declared.numbers.AggId.{AggId}
use Rattle.type_graph.specs.declared.aggregates.AggKind.{AggKind}
use Rattle.type_graph.specs.declared.aggregates.AggKind.TheVariants.{Struct, Union, Enum}
use Rattle.type_graph.specs.declared.aggregates.Member.{Member}
use Rattle.type_graph.specs.declared.aggregates.Aggregate.{Aggregate}
use Rattle.type_graph.specs.declared.layout.Layout.{Layout}
use Rattle.type_graph.specs.declared.nodes.Node.{Node}
use Rattle.type_graph.specs.Shapes.{Shape, VoidType, IntType, PtrType, ArrayType, FuncType, AggType, shape}
use Rattle.type_graph.specs.Arena.{Graph, IsArena, members_of, complete, complete_shape, has_room, held, rank, EachBelow, EachFits}
use Rattle.type_graph.specs.Growth.{Grows}
use Rattle.type_graph.specs.Layouts.{AggLayout, Placed, layout_in, member_in, placed_behind, placed_over, placed_all, nothing_placed, finished, members_layout, aggregate_in, whole_of, agg_at, agg_layout, layout, array_of, without_elements}
use Rattle.type_graph.proofs.ArenaLaws.{some_there, is_some_from, each_has_room, HeldBelow-at, count_within, rank_within}
use Rattle.type_graph.proofs.ShapeLaws.{kept}

-- what is there stays
abbrev pub Keeps : {T : Type 0} → Option T → Option T → Type 0
Keeps {T} o u = (x : T) → o ≡ Some x → u ≡ Some x

keeps_map : {S T : Type 0} (f : S → T) (o u : Option S) → Keeps o u → Keeps (option_map f o) (option_map f u)
keeps_map f None u k x e = cc
keeps_map f (Some s) u k x e = ap (option_map f) (k s refl) ∙ e

keeps_then : {S T : Type 0} (f g : S → Option T) (o u : Option S) → Keeps o u → ((s : S) → Keeps (f s) (g s)) → Keeps (option_and_then f o) (option_and_then g u)
keeps_then f g None u k h x e = cc
keeps_then f g (Some s) u k h x e = ap (option_and_then g) (k s refl) ∙ h s x e

pub both_keep : {T : Type 0} (o u : Option T) → Keeps o u → Keeps u o → o ≡ u
both_keep None None p q = refl
both_keep None (Some x) p q = q x refl
both_keep (Some x) u p q = sym (p x refl)

-- a layout depends on the aggregates within the type
pub layout_in-keeps : (abi : Abi) (f g : ℕ → Option Layout) (s : Shape) → ((b : ℕ) → held s ≡ Some b → Keeps (f b) (g b)) → Keeps (layout_in abi f s) (layout_in abi g s)
layout_in-keeps abi f g VoidType k x e = cc
layout_in-keeps abi f g (IntType kind) k x e = e
layout_in-keeps abi f g (PtrType quals s) k x e = e
layout_in-keeps abi f g (ArrayType quals s None) k x e = cc
layout_in-keeps abi f g (ArrayType quals s (Some n)) k x e = keeps_map (array_of n) (layout_in abi f s) (layout_in abi g s) (layout_in-keeps abi f g s k) x e
layout_in-keeps abi f g (FuncType ret params proto variadic) k x e = cc
layout_in-keeps abi f g (AggType a) k x e = k a refl x e

member_in-keeps : (abi : Abi) (f g : ℕ → Option Layout) (s : Shape) → ((b : ℕ) → held s ≡ Some b → Keeps (f b) (g b)) → Keeps (member_in abi f s) (member_in abi g s)
member_in-keeps abi f g VoidType k x e = cc
member_in-keeps abi f g (IntType kind) k x e = e
member_in-keeps abi f g (PtrType quals s) k x e = e
member_in-keeps abi f g (ArrayType quals s None) k x e = keeps_map without_elements (layout_in abi f s) (layout_in abi g s) (layout_in-keeps abi f g s k) x e
member_in-keeps abi f g (ArrayType quals s (Some n)) k x e = keeps_map (array_of n) (layout_in abi f s) (layout_in abi g s) (layout_in-keeps abi f g s k) x e
member_in-keeps abi f g (FuncType ret params proto variadic) k x e = cc
member_in-keeps abi f g (AggType a) k x e = k a refl x e

abbrev EachKeeps : (Member → Option Layout) → (Member → Option Layout) → List Member → Type 0
EachKeeps f g [] = Unit {0}
EachKeeps f g (m ∷ ms) = Keeps (f m) (g m) × EachKeeps f g ms

placed_all-keeps : (step : Placed → Layout → Placed) (f g : Member → Option Layout) (p : Placed) (ms : List Member) → EachKeeps f g ms → Keeps (placed_all step f p ms) (placed_all step g p ms)
placed_all-keeps step f g p [] k x e = e
placed_all-keeps step f g p (m ∷ ms) k x e =
    keeps_then (λ (l : Layout). placed_all step f (step p l) ms) (λ (l : Layout). placed_all step g (step p l) ms) (f m) (g m) k.0 (λ l. placed_all-keeps step f g (step p l) ms k.1) x e

members_layout-keeps : (kind : AggKind) (f g : Member → Option Layout) (ms : List Member) → EachKeeps f g ms → Keeps (members_layout kind f ms) (members_layout kind g ms)
members_layout-keeps Struct f g ms k x e = keeps_map finished (placed_all placed_behind f nothing_placed ms) (placed_all placed_behind g nothing_placed ms) (placed_all-keeps placed_behind f g nothing_placed ms k) x e
members_layout-keeps Union f g ms k x e = keeps_map finished (placed_all placed_over f nothing_placed ms) (placed_all placed_over g nothing_placed ms) (placed_all-keeps placed_over f g nothing_placed ms k) x e
members_layout-keeps Enum f g ms k x e = e

each_keeps : (abi : Abi) (ns : List Node) (order : List AggId) (r : ℕ) (f g : ℕ → Option Layout) (ms : List Member) → EachBelow ns order r ms → ((b : ℕ) → rank order b < r → Keeps (f b) (g b)) → EachKeeps (λ (m : Member). member_in abi f (shape ns m.ty.of.0)) (λ (m : Member). member_in abi g (shape ns m.ty.of.0)) ms
each_keeps abi ns order r f g [] h k = tt
each_keeps abi ns order r f g (m ∷ ms) (within, below, rest) k =
    (member_in-keeps abi f g (shape ns m.ty.of.0) (λ b e. k b (HeldBelow-at order r (shape ns m.ty.of.0) b below e)), each_keeps abi ns order r f g ms rest k)

-- the layout of an aggregate whose members are known
pub at_members : (g : Graph) (f : ℕ → Option Layout) (a : ℕ) (x : Aggregate) (ms : List Member) → slice_get g.aggs a ≡ Some x → x.members ≡ Some ms → option_and_then (aggregate_in g.abi g.nodes f) (slice_get g.aggs a) ≡ members_layout x.kind (λ (m : Member). member_in g.abi f (shape g.nodes m.ty.of.0)) ms
at_members g f a x ms at some = ap (option_and_then (aggregate_in g.abi g.nodes f)) at ∙ ap (option_and_then (members_layout x.kind (λ (m : Member). member_in g.abi f (shape g.nodes m.ty.of.0)))) some

-- a layout that is there has members
from_layout : (g : Graph) (f : ℕ → Option Layout) (a : ℕ) (l : AggLayout) → option_and_then (aggregate_in g.abi g.nodes f) (slice_get g.aggs a) ≡ Some l → (x : Aggregate) × (ms : List Member) × (slice_get g.aggs a ≡ Some x) × (x.members ≡ Some ms)
from_layout g f a l e = one (slice_get g.aggs a) refl e
  where
    two : (x : Aggregate) → slice_get g.aggs a ≡ Some x → (o : Option (List Member)) → x.members ≡ o → option_and_then (members_layout x.kind (λ (m : Member). member_in g.abi f (shape g.nodes m.ty.of.0))) o ≡ Some l → (y : Aggregate) × (ms : List Member) × (slice_get g.aggs a ≡ Some y) × (y.members ≡ Some ms)
    two x at None some q = cc
    two x at (Some ms) some q = (x, ms, at, some)

    one : (o : Option Aggregate) → slice_get g.aggs a ≡ o → option_and_then (aggregate_in g.abi g.nodes f) o ≡ Some l → (x : Aggregate) × (ms : List Member) × (slice_get g.aggs a ≡ Some x) × (x.members ≡ Some ms)
    one None at q = cc
    one (Some x) at q = two x at x.members refl q

members_at : (aggs : List Aggregate) (a : ℕ) (x : Aggregate) → slice_get aggs a ≡ Some x → members_of aggs a ≡ x.members
members_at aggs a x e = ap (option_and_then (λ (y : Aggregate). y.members)) e

-- one more step of the recursion keeps what it has, and changes nothing where the depth is enough
step_keeps : (g : Graph) → IsArena g → (f h : ℕ → Option Layout) (a : ℕ) → ((b : ℕ) → rank g.completed b < rank g.completed a → Keeps (f b) (h b)) → Keeps (option_and_then (aggregate_in g.abi g.nodes f) (slice_get g.aggs a)) (option_and_then (aggregate_in g.abi g.nodes h) (slice_get g.aggs a))
step_keeps g w f h a k l e =
    let there = from_layout g f a l e in
    let n = w.nested a there.1 (members_at g.aggs a there.0 there.2 ∙ there.3) in
    at_members g h a there.0 there.1 there.2 there.3
    ∙ members_layout-keeps there.0.kind (λ (m : Member). member_in g.abi f (shape g.nodes m.ty.of.0)) (λ (m : Member). member_in g.abi h (shape g.nodes m.ty.of.0)) there.1
    (each_keeps g.abi g.nodes g.completed (rank g.completed a) f h there.1 n.1 k) l (sym (at_members g f a there.0 there.1 there.2 there.3) ∙ e)

-- a layout depends only on the aggregates within it
pub step_same : (g : Graph) → IsArena g → (f h : ℕ → Option Layout) (a : ℕ) → ((b : ℕ) → rank g.completed b < rank g.completed a → f b ≡ h b) → option_and_then (aggregate_in g.abi g.nodes f) (slice_get g.aggs a) ≡ option_and_then (aggregate_in g.abi g.nodes h) (slice_get g.aggs a)
step_same g w f h a k =
    both_keep (option_and_then (aggregate_in g.abi g.nodes f) (slice_get g.aggs a)) (option_and_then (aggregate_in g.abi g.nodes h) (slice_get g.aggs a))
    (step_keeps g w f h a (λ b below x e. sym (k b below) ∙ e))
    (step_keeps g w h f a (λ b below x e. k b below ∙ e))

settles : (g : Graph) → IsArena g → (k j a : ℕ) → rank g.completed a < j → Keeps (agg_at k g a) (agg_at j g a)
settles g w zero j a h l e = cc
settles g w (suc k) zero a h l e = absurd (omega arith)
settles g w (suc k) (suc j) a h l e =
    step_keeps g w (λ b. whole_of (agg_at k g b)) (λ b. whole_of (agg_at j g b)) a
    (λ b below. keeps_map (λ (x : AggLayout). x.whole) (agg_at k g b) (agg_at j g b) (settles g w k j b (omega arith))) l e

-- where the depth is enough, one more step changes nothing
fixed_at : (g : Graph) → IsArena g → (n a : ℕ) → length g.completed ≤ n → agg_at (suc n) g a ≡ option_and_then (aggregate_in g.abi g.nodes (λ b. whole_of (agg_at (suc n) g b))) (slice_get g.aggs a)
fixed_at g w n a enough =
    both_keep (agg_at (suc n) g a) (option_and_then (aggregate_in g.abi g.nodes (λ b. whole_of (agg_at (suc n) g b))) (slice_get g.aggs a))
    (step_keeps g w (λ b. whole_of (agg_at n g b)) (λ b. whole_of (agg_at (suc n) g b)) a (λ b below. keeps_map (λ (x : AggLayout). x.whole) (agg_at n g b) (agg_at (suc n) g b) (settles g w n (suc n) b (omega (arith, rank_within g.completed a)))))
    (step_keeps g w (λ b. whole_of (agg_at (suc n) g b)) (λ b. whole_of (agg_at n g b)) a (λ b below. keeps_map (λ (x : AggLayout). x.whole) (agg_at (suc n) g b) (agg_at n g b) (settles g w (suc n) n b (omega (arith, rank_within g.completed a)))))

fixed : (g : Graph) → IsArena g → (limit n a : ℕ) → limit ≡ suc n → length g.completed ≤ n → agg_at limit g a ≡ option_and_then (aggregate_in g.abi g.nodes (λ b. whole_of (agg_at limit g b))) (slice_get g.aggs a)
fixed g w limit n a e enough = subst (λ k. agg_at k g a ≡ option_and_then (aggregate_in g.abi g.nodes (λ b. whole_of (agg_at k g b))) (slice_get g.aggs a)) (sym e) (fixed_at g w n a enough)

pub few_completed : (g : Graph) → IsArena g → length g.completed ≤ 4294967295
few_completed g w = omega (arith, w.counted, count_within g.aggs, w.few_aggs)

-- a layout is made of those of the aggregates within it
pub agg_layout_is : (g : Graph) → IsArena g → (a : ℕ) → agg_layout g a ≡ option_and_then (aggregate_in g.abi g.nodes (λ b. whole_of (agg_layout g b))) (slice_get g.aggs a)
unfolding agg_layout
agg_layout_is g w a = fixed g w (2 ^ 32) 4294967295 a refl (few_completed g w)

mapped : {S T : Type 0} (f : S → T) (o : Option S) → is_some o ≡ true → is_some (option_map f o) ≡ true
mapped f None h = cc
mapped f (Some x) h = refl

map_there : {S T : Type 0} (f : S → T) (o : Option S) → is_some (option_map f o) ≡ is_some o
map_there f None = refl
map_there f (Some x) = refl

plain_back : (b : Bool) → (b || false) ≡ true → b ≡ true
plain_back true e = refl
plain_back false e = cc

agg_defined : (g : Graph) (a : ℕ) → is_some (members_of g.aggs a) ≡ true → (x : Aggregate) × (slice_get g.aggs a ≡ Some x) × (is_some x.members ≡ true)
agg_defined g a d = by (slice_get g.aggs a) refl d
  where
    by : (o : Option Aggregate) → slice_get g.aggs a ≡ o → is_some (option_and_then (λ (x : Aggregate). x.members) o) ≡ true → (x : Aggregate) × (slice_get g.aggs a ≡ Some x) × (is_some x.members ≡ true)
    by None e h = cc
    by (Some x) e h = (x, e, h)

-- complete types have layouts
has_layout_in : (abi : Abi) (aggs : List Aggregate) (f : ℕ → Option Layout) (s : Shape) → ((b : ℕ) → held s ≡ Some b → is_some (members_of aggs b) ≡ true → is_some (f b) ≡ true) → complete_shape aggs s ≡ true → is_some (layout_in abi f s) ≡ true
has_layout_in abi aggs f VoidType k h = cc
has_layout_in abi aggs f (IntType kind) k h = refl
has_layout_in abi aggs f (PtrType quals s) k h = refl
has_layout_in abi aggs f (ArrayType quals s None) k h = cc
has_layout_in abi aggs f (ArrayType quals s (Some n)) k h = mapped (array_of n) (layout_in abi f s) (has_layout_in abi aggs f s k h)
has_layout_in abi aggs f (FuncType ret params proto variadic) k h = cc
has_layout_in abi aggs f (AggType a) k h = k a refl h

has_member_in : (abi : Abi) (aggs : List Aggregate) (f : ℕ → Option Layout) (s : Shape) → ((b : ℕ) → held s ≡ Some b → is_some (members_of aggs b) ≡ true → is_some (f b) ≡ true) → has_room aggs s ≡ true → is_some (member_in abi f s) ≡ true
has_member_in abi aggs f VoidType k h = cc
has_member_in abi aggs f (IntType kind) k h = refl
has_member_in abi aggs f (PtrType quals s) k h = refl
has_member_in abi aggs f (ArrayType quals s None) k h = mapped without_elements (layout_in abi f s) (has_layout_in abi aggs f s k h)
has_member_in abi aggs f (ArrayType quals s (Some n)) k h = mapped (array_of n) (layout_in abi f s) (has_layout_in abi aggs f s k (plain_back (complete_shape aggs s) h))
has_member_in abi aggs f (FuncType ret params proto variadic) k h = cc
has_member_in abi aggs f (AggType a) k h = k a refl (plain_back (is_some (members_of aggs a)) h)

abbrev EachThere : (Member → Option Layout) → List Member → Type 0
EachThere f [] = Unit {0}
EachThere f (m ∷ ms) = (is_some (f m) ≡ true) × EachThere f ms

placed_all-there : (step : Placed → Layout → Placed) (f : Member → Option Layout) (p : Placed) (ms : List Member) → EachThere f ms → is_some (placed_all step f p ms) ≡ true
placed_all-there step f p [] h = refl
placed_all-there step f p (m ∷ ms) h =
    let there = some_there (f m) h.0 in
    ap (λ (o : Option Layout). is_some (option_and_then (λ (l : Layout). placed_all step f (step p l) ms) o)) there.1 ∙ placed_all-there step f (step p there.0) ms h.1

members_layout-there : (kind : AggKind) (f : Member → Option Layout) (ms : List Member) → EachThere f ms → is_some (members_layout kind f ms) ≡ true
members_layout-there Struct f ms h = mapped finished (placed_all placed_behind f nothing_placed ms) (placed_all-there placed_behind f nothing_placed ms h)
members_layout-there Union f ms h = mapped finished (placed_all placed_over f nothing_placed ms) (placed_all-there placed_over f nothing_placed ms h)
members_layout-there Enum f ms h = refl

each_there : (abi : Abi) (aggs : List Aggregate) (ns : List Node) (order : List AggId) (r : ℕ) (f : ℕ → Option Layout) (ms : List Member) → EachBelow ns order r ms → EachFits aggs ns ms → ((b : ℕ) → rank order b < r → is_some (members_of aggs b) ≡ true → is_some (f b) ≡ true) → EachThere (λ (m : Member). member_in abi f (shape ns m.ty.of.0)) ms
each_there abi aggs ns order r f [] b h k = tt
each_there abi aggs ns order r f (m ∷ ms) (within, below, others) (fit, rest) k =
    (has_member_in abi aggs f (shape ns m.ty.of.0) (λ b e. k b (HeldBelow-at order r (shape ns m.ty.of.0) b below e)) fit, each_there abi aggs ns order r f ms others rest k)

agg_there : (g : Graph) → IsArena g → (k a : ℕ) → rank g.completed a < k → is_some (members_of g.aggs a) ≡ true → is_some (agg_layout g a) ≡ true
agg_there g w zero a h d = absurd (omega arith)
agg_there g w (suc k) a h d =
    let agg = agg_defined g a d in
    let ms = some_there agg.0.members agg.2 in
    let at : members_of g.aggs a ≡ Some ms.0 = members_at g.aggs a agg.0 agg.1 ∙ ms.1 in
    ap is_some (agg_layout_is g w a ∙ at_members g (λ b. whole_of (agg_layout g b)) a agg.0 ms.0 agg.1 ms.1)
    ∙ members_layout-there agg.0.kind (λ (m : Member). member_in g.abi (λ b. whole_of (agg_layout g b)) (shape g.nodes m.ty.of.0)) ms.0
    (each_there g.abi g.aggs g.nodes g.completed (rank g.completed a) (λ b. whole_of (agg_layout g b)) ms.0 (w.nested a ms.0 at).1 (each_has_room g w a ms.0 at)
    (λ b below q. mapped (λ (x : AggLayout). x.whole) (agg_layout g b) (agg_there g w k b (omega arith) q)))

-- exactly the complete aggregates have layouts
pub agg_layout_there : (g : Graph) → IsArena g → (a : ℕ) → is_some (agg_layout g a) ≡ is_some (members_of g.aggs a)
agg_layout_there g w a = by (is_some (members_of g.aggs a)) (is_some (agg_layout g a)) (λ d. agg_there g w (suc (rank g.completed a)) a (omega arith) d) back
  where
    by : (p q : Bool) → (p ≡ true → q ≡ true) → (q ≡ true → p ≡ true) → q ≡ p
    by true q h k = h refl
    by false true h k = sym (k refl)
    by false false h k = refl

    back : is_some (agg_layout g a) ≡ true → is_some (members_of g.aggs a) ≡ true
    back d =
        let l = some_there (agg_layout g a) d in
        let there = from_layout g (λ b. whole_of (agg_layout g b)) a l.0 (sym (agg_layout_is g w a) ∙ l.1) in
        is_some_from (members_of g.aggs a) there.1 (members_at g.aggs a there.0 there.2 ∙ there.3)

complete_in : (abi : Abi) (aggs : List Aggregate) (f : ℕ → Option Layout) (s : Shape) → ((b : ℕ) → is_some (f b) ≡ is_some (members_of aggs b)) → is_some (layout_in abi f s) ≡ complete_shape aggs s
complete_in abi aggs f VoidType k = refl
complete_in abi aggs f (IntType kind) k = refl
complete_in abi aggs f (PtrType quals s) k = refl
complete_in abi aggs f (ArrayType quals s None) k = refl
complete_in abi aggs f (ArrayType quals s (Some n)) k = map_there (array_of n) (layout_in abi f s) ∙ complete_in abi aggs f s k
complete_in abi aggs f (FuncType ret params proto variadic) k = refl
complete_in abi aggs f (AggType a) k = k a

-- exactly the complete types have layouts
pub layout_there : (g : Graph) → IsArena g → (t : ℕ) → is_some (layout g t) ≡ complete g t
layout_there g w t = complete_in g.abi g.aggs (λ b. whole_of (agg_layout g b)) (shape g.nodes t) (λ b. map_there (λ (x : AggLayout). x.whole) (agg_layout g b) ∙ agg_layout_there g w b)

-- growth keeps layouts
each_grows : (g h : Graph) (order : List AggId) (r : ℕ) (e : Grows g h) (f k : ℕ → Option Layout) (ms : List Member) → EachBelow g.nodes order r ms → ((b : ℕ) → Keeps (f b) (k b)) → EachKeeps (λ (m : Member). member_in g.abi f (shape g.nodes m.ty.of.0)) (λ (m : Member). member_in h.abi k (shape h.nodes m.ty.of.0)) ms
each_grows g h order r e f k [] b q = tt
each_grows g h order r e f k (m ∷ ms) (within, below, rest) q =
    (λ x p. ap (λ (abi : Abi). member_in abi k (shape h.nodes m.ty.of.0)) e.abi ∙ ap (member_in g.abi k) (kept g h m.ty.of.0 e within) ∙ member_in-keeps g.abi f k (shape g.nodes m.ty.of.0) (λ b o. q b) x p, each_grows g h order r e f k ms rest q)

agg_grows : (g h : Graph) → IsArena g → Grows g h → (k a : ℕ) → Keeps (agg_at k g a) (agg_at k h a)
agg_grows g h w e zero a l p = cc
agg_grows g h w e (suc k) a l p =
    let there = from_layout g (λ b. whole_of (agg_at k g b)) a l p in
    let n = w.nested a there.1 (members_at g.aggs a there.0 there.2 ∙ there.3) in
    let new = e.aggs a there.0 there.2 in
    at_members h (λ b. whole_of (agg_at k h b)) a new.0 there.1 new.1 (new.2.members there.1 there.3)
    ∙ ap (λ (kind : AggKind). members_layout kind (λ (m : Member). member_in h.abi (λ b. whole_of (agg_at k h b)) (shape h.nodes m.ty.of.0)) there.1) new.2.kind
    ∙ members_layout-keeps there.0.kind (λ (m : Member). member_in g.abi (λ b. whole_of (agg_at k g b)) (shape g.nodes m.ty.of.0)) (λ (m : Member). member_in h.abi (λ b. whole_of (agg_at k h b)) (shape h.nodes m.ty.of.0)) there.1
    (each_grows g h g.completed (rank g.completed a) e (λ b. whole_of (agg_at k g b)) (λ b. whole_of (agg_at k h b)) there.1 n.1 (λ b. keeps_map (λ (x : AggLayout). x.whole) (agg_at k g b) (agg_at k h b) (agg_grows g h w e k b))) l
    (sym (at_members g (λ b. whole_of (agg_at k g b)) a there.0 there.1 there.2 there.3) ∙ p)

pub agg_layout_grows : (g h : Graph) (a : ℕ) (l : AggLayout) → IsArena g → Grows g h → agg_layout g a ≡ Some l → agg_layout h a ≡ Some l
unfolding agg_layout
agg_layout_grows g h a l w e p = agg_grows g h w e (2 ^ 32) a l p

-- the layout of a complete type stays
pub layout_grows : (g h : Graph) (t : ℕ) (l : Layout) → IsArena g → Grows g h → t < length g.nodes → layout g t ≡ Some l → layout h t ≡ Some l
layout_grows g h t l w e within p =
    ap (λ (abi : Abi). layout_in abi (λ b. whole_of (agg_layout h b)) (shape h.nodes t)) e.abi ∙ ap (layout_in g.abi (λ b. whole_of (agg_layout h b))) (kept g h t e within)
    ∙ layout_in-keeps g.abi (λ b. whole_of (agg_layout g b)) (λ b. whole_of (agg_layout h b)) (shape g.nodes t) (λ b o. keeps_map (λ (x : AggLayout). x.whole) (agg_layout g b) (agg_layout h b) (λ x q. agg_layout_grows g h b x w e q)) l p
