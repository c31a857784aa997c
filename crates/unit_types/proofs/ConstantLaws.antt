-- Device: const members stay what they are while an arena grows.
use Rattle.std.proofs.Common.{◌≡◌, ℕ, zero, suc, ◌+◌, ◌<◌, ◌≤◌, nat_lt, get_or, Bool, true, false, cond, ◌&&◌, ◌||◌, not, List, [], ◌∷◌, ◌++◌, length, slice_get, Some, None, ◌⊎◌, inl, inr, ◌↔◌, IsTrue, refl, sym, ap, ◌∙◌, subst, eqb, eqb-true, eq-eqb, true≢false, ltb-false, arith}
use borrow.Author.Tests.{ltb-true}
use Rattle.std.proofs.Math.ListN.{set}
use Rattle.std.specs.Option.{option_and_then, is_some}
use Rattle.cil_base.specs.declared.kinds.Abi.{Abi}
use Rattle.cil_base.specs.declared.numbers.AggId.{AggId}
use Rattle.cil_base.specs.contracts.numbers.AggIdPartialEq.TheImpl.{ghosts}
use Rattle.type_graph.specs.declared.aggregates.AggKind.{AggKind}
use Rattle.type_graph.specs.declared.aggregates.Member.{Member}
use Rattle.type_graph.specs.declared.aggregates.Aggregate.{Aggregate}
use Rattle.type_graph.specs.declared.nodes.Quals.{Quals}
use Rattle.type_graph.specs.Shapes.{Shape, VoidType, IntType, PtrType, ArrayType, FuncType, AggType, shape}
use Rattle.type_graph.specs.Arena.{Graph, IsArena, EachFits, has_room, held, is_struct, is_last, complete, complete_shape, flexible_shape, empty_graph, members_of, members_fit}
use Rattle.type_graph.specs.Growth.{Grows, KeepsAggregates, with_agg, with_members}
use Rattle.type_graph.proofs.ArenaLaws.{agg_there, each_has_room, some_there, is_some_from}
use Rattle.type_graph.proofs.Lists.{get_push, get_set_same, get_set_other, get_there}
use Rattle.type_graph.proofs.ShapeLaws.{kept, shape_past}
use Rattle.unit_types.specs.declared.constants.ConstantMembers.{ConstantMembers}
use Rattle.unit_types.specs.Normal.{plain}
use Rattle.unit_types.specs.Constants.{HasConstant, Itself, InElement, InMember, HasConstantMember, IsModifiable, is_array}
use Rattle.unit_types.specs.Known.{is_found, Knows, KeepsKnown, KnowsCompleted, NoneBefore, InPart, AnyConstant}
use Rattle.unit_types.proofs.NormalLaws.{both, some_same, member_below, members_at}

members_stay : (g h : Graph) (a : ℕ) (ms : List Member) → Grows g h → members_of g.aggs a ≡ Some ms → members_of h.aggs a ≡ Some ms
members_stay g h a ms grows e =
    let x = agg_there g.aggs a ms e in
    let y = grows.aggs a x.0 x.1 in
    members_at h.aggs a y.0 y.1 ∙ y.2.members ms x.2

-- the type of a member is there
member_there : (g : Graph) (a i : ℕ) (ms : List Member) (m : Member) → IsArena g → members_of g.aggs a ≡ Some ms → slice_get ms i ≡ Some m → m.ty.of.0 < length g.nodes
member_there g a i ms m w e f = member_below g.nodes g.completed _ i ms m (w.nested a ms e).1 f

pub forward : (g h : Graph) → IsArena g → Grows g h → (q : Quals) (s : Shape) → HasConstant g q s → HasConstant h q s
forward g h w grows q s (Itself _ _ e) = Itself q s e
forward g h w grows q _ (InElement _ p s bound part) = InElement q p s bound (forward g h w grows p s part)
forward g h w grows q _ (InMember _ a i ms m e f part) =
    InMember q a i ms m (members_stay g h a ms grows e) f (subst (HasConstant h m.ty.quals) (sym (kept g h m.ty.of.0 grows (member_there g a i ms m w e f))) (forward g h w grows m.ty.quals _ part))

-- what a type holds is complete
abbrev Holds : Graph → Shape → Type 0
Holds g s = (b : ℕ) → held s ≡ Some b → is_some (members_of g.aggs b) ≡ true

complete_holds : (g : Graph) (s : Shape) → complete_shape g.aggs s ≡ true → Holds g s
complete_holds g VoidType e b h = cc
complete_holds g (IntType kind) e b h = cc
complete_holds g (PtrType quals s) e b h = cc
complete_holds g (ArrayType quals s None) e b h = cc
complete_holds g (ArrayType quals s (Some n)) e b h = complete_holds g s e b h
complete_holds g (FuncType ret params proto variadic) e b h = cc
complete_holds g (AggType a) e b h = subst (λ k. is_some (members_of g.aggs k) ≡ true) (some_same a b h) e

flexible_holds : (g : Graph) (s : Shape) → flexible_shape g.aggs s ≡ true → Holds g s
flexible_holds g VoidType e b h = cc
flexible_holds g (IntType kind) e b h = cc
flexible_holds g (PtrType quals s) e b h = cc
flexible_holds g (ArrayType quals s None) e b h = complete_holds g s e b h
flexible_holds g (ArrayType quals s (Some n)) e b h = cc
flexible_holds g (FuncType ret params proto variadic) e b h = cc
flexible_holds g (AggType a) e b h = cc

room_holds : (g : Graph) (s : Shape) → has_room g.aggs s ≡ true → Holds g s
room_holds g s e = by (complete_shape g.aggs s) refl e
  where
    by : (c : Bool) → complete_shape g.aggs s ≡ c → has_room g.aggs s ≡ true → Holds g s
    by true full r = complete_holds g s full
    by false unfinished r = flexible_holds g s cc

fits_at : (g : Graph) (ms : List Member) (i : ℕ) (m : Member) → EachFits g.aggs g.nodes ms → slice_get ms i ≡ Some m → has_room g.aggs (shape g.nodes m.ty.of.0) ≡ true
fits_at g [] i m each e = cc
fits_at g (x ∷ ms) zero m each e = subst (λ (y : Member). has_room g.aggs (shape g.nodes y.ty.of.0) ≡ true) (some_same x m e) each.0
fits_at g (x ∷ ms) (suc i) m each e = fits_at g ms i m each.1 e

-- the same, where what the types hold was complete before
pub backward : (g h : Graph) → IsArena g → Grows g h → (q : Quals) (s : Shape) → HasConstant h q s → (t : Shape) → s ≡ t → Holds g t → HasConstant g q t
backward g h w grows q s (Itself _ _ e) t same holds = Itself q t e
backward g h w grows q _ (InElement _ p s bound part) t same holds =
    subst (HasConstant g q) same (InElement q p s bound (backward g h w grows p s part s refl (subst (Holds g) (sym same) holds)))
backward g h w grows q _ (InMember _ a i us m e f part) t same holds =
    let own : Holds g (AggType a) = subst (Holds g) (sym same) holds in
    let there = some_there (members_of g.aggs a) (own a refl) in
    let one : us ≡ there.0 = some_same us there.0 (sym e ∙ members_stay g h a there.0 grows there.1) in
    let at : slice_get there.0 i ≡ Some m = subst (λ vs. slice_get vs i ≡ Some m) one f in
    subst (HasConstant g q) same (InMember q a i there.0 m there.1 at
    (backward g h w grows m.ty.quals _ part (shape g.nodes m.ty.of.0) (kept g h m.ty.of.0 grows (member_there g a i there.0 m w there.1 at)) (room_holds g (shape g.nodes m.ty.of.0) (fits_at g there.0 i m (each_has_room g w a there.0 there.1) at))))

-- an aggregate that was complete
knows_at : (c : ConstantMembers) (g h : Graph) (b : AggId) (us : List Member) → IsArena g → Grows g h → Knows c g → members_of g.aggs b.0 ≡ Some us → IsTrue (is_found c b) ↔ HasConstantMember h b.0
knows_at c g h b us w grows knows e = (
  λ t. forward g h w grows plain (AggType b.0) ((knows.at b us e).0 t),
  λ d. (knows.at b us e).1 (backward g h w grows plain (AggType b.0) d (AggType b.0) refl (λ k r. subst (λ j. is_some (members_of g.aggs j) ≡ true) (some_same b.0 k r) (is_some_from _ us e))),
)

pub knows_none : (c : ConstantMembers) (g : Graph) (abi : Abi) → g ≡ empty_graph abi → Knows c g
knows_none c g abi none = record { at = λ a ms e. let absent : None ≡ Some ms = sym (ap (λ (h : Graph). members_of h.aggs a.0) none) ∙ e in cc }

pub knows_grown : (c : ConstantMembers) (g h : Graph) → IsArena g → Grows g h → KeepsAggregates g h → Knows c g → Knows c h
knows_grown c g h w grows keeps knows = record { at = λ a ms e. knows_at c g h a ms w grows knows (subst (λ xs. members_of xs a.0 ≡ Some ms) keeps.0 e) }

pub knows_agg : (c : ConstantMembers) (g : Graph) (x : Aggregate) → IsArena g → Grows g (with_agg g x) → x.members ≡ None → Knows c g → Knows c (with_agg g x)
knows_agg c g x w grows none knows = record { at = λ a ms e. knows_at c g (with_agg g x) a ms w grows knows (by a ms (agg_there (g.aggs ++ x ∷ []) a.0 ms e)) }
  where
    by : (a : AggId) (ms : List Member) → (y : Aggregate) × (slice_get (g.aggs ++ x ∷ []) a.0 ≡ Some y) × (y.members ≡ Some ms) → members_of g.aggs a.0 ≡ Some ms
    by a ms there = at (get_push g.aggs x a.0 there.0 there.1)
      where
        at : (slice_get g.aggs a.0 ≡ Some there.0) ⊎ ((a.0 ≡ length g.aggs) × (x ≡ there.0)) → members_of g.aggs a.0 ≡ Some ms
        at (inl old) = members_at g.aggs a.0 there.0 old ∙ there.2
        at (inr new) = let absent : None ≡ Some ms = sym none ∙ (ap (λ (z : Aggregate). z.members) new.1 ∙ there.2) in cc

fit_room : (g : Graph) (kind : AggKind) (behind : Bool) (ms : List Member) (i : ℕ) (m : Member) → members_fit g kind behind ms ≡ true → slice_get ms i ≡ Some m → has_room g.aggs (shape g.nodes m.ty.of.0) ≡ true
fit_room g kind behind [] i m fit e = cc
fit_room g kind behind (x ∷ ms) zero m fit e = subst (λ (y : Member). has_room g.aggs (shape g.nodes y.ty.of.0) ≡ true) (some_same x m e) (by (complete g x.ty.of.0) (is_struct kind) behind (is_last ms) (flexible_shape g.aggs (shape g.nodes x.ty.of.0)) (both _ (members_fit g kind true ms) fit).0)
  where
    by : (c s b l f : Bool) → c || (s && (b && (l && f))) ≡ true → c || f ≡ true
    by true s b l f h = refl
    by false true true true true h = refl
    by false true true true false h = cc
    by false true true false f h = cc
    by false true false l f h = cc
    by false false b l f h = cc
fit_room g kind behind (x ∷ ms) (suc i) m fit e = fit_room g kind true ms i m (both (complete g x.ty.of.0 || (is_struct kind && (behind && (is_last ms && flexible_shape g.aggs (shape g.nodes x.ty.of.0))))) (members_fit g kind true ms) fit).1 e

-- the aggregate that was completed
completed_at : (g : Graph) (a : AggId) (x : Aggregate) (ms : List Member) → IsArena g → slice_get g.aggs a.0 ≡ Some x → members_fit g x.kind false ms ≡ true → Grows g (with_members g a x ms) → AnyConstant g ms ↔ HasConstantMember (with_members g a x ms) a.0
completed_at g a x ms w at fit grows = (onto, back)
  where
    y : Aggregate
    y = record x { members = Some ms }

    own : members_of (set g.aggs a.0 y) a.0 ≡ Some ms
    own = members_at (set g.aggs a.0 y) a.0 y (get_set_same g.aggs a.0 x y at)

    onto : AnyConstant g ms → HasConstantMember (with_members g a x ms) a.0
    onto any = InMember plain a.0 any.0 ms any.1 own any.2 (forward g (with_members g a x ms) w grows any.1.ty.quals (shape g.nodes any.1.ty.of.0) any.3)

    back : HasConstantMember (with_members g a x ms) a.0 → AnyConstant g ms
    back d = inside plain (AggType a.0) d refl refl
      where
        inside : (q : Quals) (s : Shape) → HasConstant (with_members g a x ms) q s → q ≡ plain → s ≡ AggType a.0 → AnyConstant g ms
        inside q s (Itself _ _ e) none same = let no : true ≡ false = sym e ∙ ap (λ (p : Quals). p.constant) none in cc
        inside q _ (InElement _ p s bound part) none same = cc
        inside q _ (InMember _ b i us m e f part) none same =
            let here : b ≡ a.0 = cc in
            let one : us ≡ ms = some_same us ms (sym e ∙ ap (members_of (set g.aggs a.0 y)) here ∙ own) in
            let place : slice_get ms i ≡ Some m = subst (λ vs. slice_get vs i ≡ Some m) one f in
            (i, m, place, backward g (with_members g a x ms) w grows m.ty.quals _ part _ refl (room_holds g (shape g.nodes m.ty.of.0) (fit_room g x.kind false ms i m fit place)))

pub knows_completed : (c : ConstantMembers) (g h : Graph) (a : AggId) (ms : List Member) → IsArena g → a.0 < length g.aggs → ((x : Aggregate) → slice_get g.aggs a.0 ≡ Some x → members_fit g x.kind false ms ≡ true) → IsTrue (is_found c a) ↔ AnyConstant g ms → Grows g h → ((x : Aggregate) → slice_get g.aggs a.0 ≡ Some x → h ≡ with_members g a x ms) → Knows c g → Knows c h
knows_completed c g h a ms w below fit found grows is knows =
    let x = get_there g.aggs a.0 below in
    let same : h ≡ with_members g a x.0 ms = is x.0 x.1 in
    subst (Knows c) (sym same) (over x.0 x.1 (subst (Grows g) same grows))
  where
    over : (x : Aggregate) → slice_get g.aggs a.0 ≡ Some x → Grows g (with_members g a x ms) → Knows c (with_members g a x ms)
    over x at grows = record { at = λ b us e. by b us e (eqb b.0 a.0) refl }
      where
        y : Aggregate
        y = record x { members = Some ms }

        by : (b : AggId) (us : List Member) → members_of (set g.aggs a.0 y) b.0 ≡ Some us → (q : Bool) → eqb b.0 a.0 ≡ q → IsTrue (is_found c b) ↔ HasConstantMember (with_members g a x ms) b.0
        by b us e true same =
            let one : a ≡ b = ap (λ k. record { 0 = k }) (sym (eqb-true b.0 a.0 same)) in
            let own = completed_at g a x ms w at (fit x at) grows in
            subst (λ (k : AggId). IsTrue (is_found c k) ↔ HasConstantMember (with_members g a x ms) k.0) one (λ t. own.0 (found.0 t), λ d. found.1 (own.1 d))
        by b us e false other =
            let there = agg_there (set g.aggs a.0 y) b.0 us e in
            let old : slice_get g.aggs b.0 ≡ Some there.0 = sym (get_set_other g.aggs a.0 b.0 y (λ r. true≢false (sym (eq-eqb b.0 a.0 r) ∙ other))) ∙ there.1 in
            knows_at c g (with_members g a x ms) b us w grows knows (members_at g.aggs b.0 there.0 old ∙ there.2)

-- of what is incomplete nothing need be known
pub knows_set : (c d : ConstantMembers) (g : Graph) (a : AggId) (b : Bool) → members_of g.aggs a.0 ≡ None → ((k : AggId) → is_found d k ≡ cond (ghosts.eq a k) b (is_found c k)) → Knows c g → Knows d g
knows_set c d g a b unfinished is knows = record { at = λ k ms e. by k ms e (ghosts.eq a k) refl }
  where
    by : (k : AggId) (ms : List Member) → members_of g.aggs k.0 ≡ Some ms → (q : Bool) → ghosts.eq a k ≡ q → IsTrue (is_found d k) ↔ HasConstantMember g k.0
    by k ms e true same = let one : None ≡ Some ms = sym unfinished ∙ ap (members_of g.aggs) (eqb-true a.0 k.0 same) ∙ e in cc
    by k ms e false other =
        let kept : is_found c k ≡ is_found d k = sym (is k ∙ ap (λ r. cond r b (is_found c k)) other) in
        subst (λ r. IsTrue r ↔ HasConstantMember g k.0) kept (knows.at k ms e)

pub none_open : (g : Graph) (a : ℕ) → members_of g.aggs a ≡ None → HasConstantMember g a → ⊥
none_open g a unfinished d = inside plain (AggType a) d refl refl
  where
    inside : (q : Quals) (s : Shape) → HasConstant g q s → q ≡ plain → s ≡ AggType a → ⊥
    inside q s (Itself _ _ e) none same = let no : true ≡ false = sym e ∙ ap (λ (p : Quals). p.constant) none in cc
    inside q _ (InElement _ p s bound part) none same = cc
    inside q _ (InMember _ b i us m e f part) none same = let here : b ≡ a = cc in let no : None ≡ Some us = sym unfinished ∙ ap (members_of g.aggs) (sym here) ∙ e in cc

-- an object is const itself, or has a const part
pub split : (g : Graph) (q : Quals) (s : Shape) → HasConstant g q s → (IsTrue q.constant) ⊎ InPart g s
split g q s (Itself _ _ e) = inl e
split g q _ (InElement _ p s bound part) = inr (split g p s part)
split g q _ (InMember _ a i ms m e f part) = inr (InMember plain a i ms m e f part)

pub joins : (g : Graph) (q : Quals) (s : Shape) → InPart g s → HasConstant g q s
joins g q VoidType part = absurd part
joins g q (IntType kind) part = absurd part
joins g q (PtrType p s) part = absurd part
joins g q (ArrayType p s bound) (inl e) = InElement q p s bound (Itself p s e)
joins g q (ArrayType p s bound) (inr part) = InElement q p s bound (joins g p s part)
joins g q (FuncType ret params proto variadic) part = absurd part
joins g q (AggType a) part = whole plain (AggType a) part refl refl
  where
    whole : (p : Quals) (s : Shape) → HasConstant g p s → p ≡ plain → s ≡ AggType a → HasConstant g q (AggType a)
    whole p s (Itself _ _ e) none same = let no : true ≡ false = sym e ∙ ap (λ (r : Quals). r.constant) none in cc
    whole p _ (InElement _ r s bound inner) none same = cc
    whole p _ (InMember _ b i ms m e f inner) none same = subst (HasConstant g q) same (InMember q b i ms m e f inner)

-- what is known stays where nothing is noted
pub knows_same : (c d : ConstantMembers) (g : Graph) → ((k : AggId) → is_found d k ≡ is_found c k) → Knows c g → Knows d g
knows_same c d g same knows = record { at = λ k ms e. subst (λ r. IsTrue r ↔ HasConstantMember g k.0) (sym (same k)) (knows.at k ms e) }

pub none_there : (g : Graph) (a : ℕ) → length g.aggs ≤ a → HasConstantMember g a → ⊥
none_there g a past = none_open g a (ap (option_and_then (λ (x : Aggregate). x.members)) (get_past g.aggs a past))
  where
    get_past : (xs : List Aggregate) (i : ℕ) → length xs ≤ i → slice_get xs i ≡ None
    get_past [] i h = refl
    get_past (x ∷ xs) zero h = absurd (omega arith)
    get_past (x ∷ xs) (suc i) h = get_past xs i (omega arith)

-- the rows of the tests

pub known_there : (c : ConstantMembers) (g : Graph) (a : AggId) (x : Aggregate) (ms : List Member) (b : Bool) → slice_get g.aggs a.0 ≡ Some x → x.members ≡ Some ms → Knows c g → b ≡ is_found c a → IsTrue b ↔ HasConstantMember g a.0
known_there c g a x ms b at own knows is = subst (λ r. IsTrue r ↔ HasConstantMember g a.0) (sym is) (knows.at a ms (members_at g.aggs a.0 x at ∙ own))

pub itself : (g : Graph) (q : Quals) (s : Shape) → q.constant ≡ true → IsTrue true ↔ HasConstant g q s
itself g q s e = (λ t. Itself q s e, λ d. refl)

pub by_part : (g : Graph) (q : Quals) (s : Shape) (b : Bool) → q.constant ≡ false → IsTrue b ↔ InPart g s → IsTrue b ↔ HasConstant g q s
by_part g q s b none part = (λ t. joins g q s (part.0 t), λ d. part.1 (in_part (split g q s d)))
  where
    in_part : (IsTrue q.constant) ⊎ InPart g s → InPart g s
    in_part (inl e) = let no : false ≡ true = sym none ∙ e in cc
    in_part (inr part) = part

pub outside : (g : Graph) (q : Quals) (t n : ℕ) → q.constant ≡ false → n ≡ length g.nodes → n ≤ t → IsTrue (nat_lt t n) ↔ HasConstant g q (shape g.nodes t)
outside g q t n none count past = (
  λ h. absurd (omega (arith, ltb-true t n h, past)),
  λ d. absurd (nothing (split g q VoidType (subst (HasConstant g q) (shape_past g.nodes t (omega (arith, count, past))) d))),
)
  where
    nothing : (IsTrue q.constant) ⊎ InPart g VoidType → ⊥
    nothing (inl e) = let no : false ≡ true = sym none ∙ e in cc
    nothing (inr part) = part

-- an object that is const or has a const part is no modifiable one
pub modifiable : (g : Graph) (q : Quals) (t : ℕ) (b r : Bool) → complete g t ≡ true → is_array (shape g.nodes t) ≡ false → IsTrue b ↔ HasConstant g q (shape g.nodes t) → r ≡ not b → IsTrue r ↔ IsModifiable g q t
modifiable g q t b r full none found is = (onto, λ m. is ∙ back b refl m)
  where
    onto : IsTrue r → IsModifiable g q t
    onto h = record { complete = full; no_array = none; no_constant = λ d. let no : true ≡ false = sym h ∙ is ∙ ap not (found.1 d) in cc }

    back : (k : Bool) → b ≡ k → IsModifiable g q t → not b ≡ true
    back true e m = absurd (m.no_constant (found.0 e))
    back false e m = ap not e

pub incomplete : (g : Graph) (q : Quals) (t : ℕ) → complete g t ≡ false → IsTrue false ↔ IsModifiable g q t
incomplete g q t unfinished = (λ h. (let no : true ≡ false = sym h in cc), λ m. sym unfinished ∙ m.complete)

pub array_fixed : (g : Graph) (q : Quals) (t : ℕ) → is_array (shape g.nodes t) ≡ true → IsTrue false ↔ IsModifiable g q t
array_fixed g q t is = (λ h. (let no : true ≡ false = sym h in cc), λ m. sym m.no_array ∙ is)

-- members, one by one

got : (ms : List Member) (i : ℕ) (d : Member) → i < length ms → slice_get ms i ≡ Some (get_or ms i d)
got [] i d less = absurd (omega arith)
got (m ∷ ms) zero d less = refl
got (m ∷ ms) (suc i) d less = got ms i d (omega arith)

get_within : (ms : List Member) (i : ℕ) (m : Member) → slice_get ms i ≡ Some m → i < length ms
get_within [] i m e = cc
get_within (x ∷ ms) zero m e = omega arith
get_within (x ∷ ms) (suc i) m e = omega (arith, get_within ms i m e)

pub none_start : (g : Graph) (ms : List Member) → NoneBefore g ms 0
none_start g ms = record { none = λ k m less e d. absurd (omega (arith, less)) }

pub none_next : (g : Graph) (ms : List Member) (i : ℕ) (d : Member) (b : Bool) → i < length ms → IsTrue b ↔ HasConstant g (get_or ms i d).ty.quals (shape g.nodes (get_or ms i d).ty.of.0) → b ≡ false → NoneBefore g ms i → NoneBefore g ms (i + 1)
none_next g ms i d b less found lacks before = record { none = λ k m below e c. by k m below e c (eqb k i) refl }
  where
    by : (k : ℕ) (m : Member) → k < i + 1 → slice_get ms k ≡ Some m → HasConstant g m.ty.quals (shape g.nodes m.ty.of.0) → (q : Bool) → eqb k i ≡ q → ⊥
    by k m below e c true same =
        let one : m ≡ get_or ms i d = some_same m (get_or ms i d) (sym e ∙ ap (slice_get ms) (eqb-true k i same) ∙ got ms i d less) in
        let clash : false ≡ true = sym lacks ∙ found.1 (subst (λ (x : Member). HasConstant g x.ty.quals (shape g.nodes x.ty.of.0)) one c) in
        cc
    by k m below e c false other = before.none k m (less_than k i below (λ r. true≢false (sym (eq-eqb k i r) ∙ other))) e c
      where
        less_than : (k i : ℕ) → k < i + 1 → (k ≡ i → ⊥) → k < i
        less_than k i below apart = by_le (nat_lt k i) refl
          where
            by_le : (q : Bool) → nat_lt k i ≡ q → k < i
            by_le true h = ltb-true k i h
            by_le false h = absurd (apart (omega (arith, ltb-false k i h, below)))

pub found_one : (g : Graph) (ms : List Member) (i : ℕ) (d : Member) (b : Bool) → i < length ms → IsTrue b ↔ HasConstant g (get_or ms i d).ty.quals (shape g.nodes (get_or ms i d).ty.of.0) → b ≡ true → IsTrue true ↔ AnyConstant g ms
found_one g ms i d b less found has = (λ t. (i, get_or ms i d, got ms i d less, found.0 has), λ any. refl)

pub none_end : (g : Graph) (ms : List Member) (i : ℕ) → length ms ≤ i → NoneBefore g ms i → IsTrue false ↔ AnyConstant g ms
none_end g ms i past before = (λ h. (let no : true ≡ false = sym h in cc), λ any. absurd (before.none any.0 any.1 (omega (arith, get_within ms any.0 any.1 any.2, past)) any.2 any.3))

-- the steps of the arena

pub keeps_same : (g h : Graph) → h ≡ g → KeepsKnown g h
keeps_same g h same = record { keep = λ c knows. subst (Knows c) (sym same) knows }

pub keeps_none : (g h : Graph) (abi : Abi) → h ≡ empty_graph abi → KeepsKnown g h
keeps_none g h abi none = record { keep = λ c knows. knows_none c h abi none }

pub keeps_grown : (f g h : Graph) → IsArena f → Grows f g → KeepsAggregates f g → KeepsKnown g h → KeepsKnown f h
keeps_grown f g h w grows keeps last = record { keep = λ c knows. last.keep c (knows_grown c f g w grows keeps knows) }

pub keeps_agg : (f g h : Graph) (x : Aggregate) → IsArena f → Grows f g → g ≡ with_agg f x → x.members ≡ None → KeepsKnown g h → KeepsKnown f h
keeps_agg f g h x w grows is none last = record { keep = λ c knows. last.keep c (subst (Knows c) (sym is) (knows_agg c f x w (subst (Grows f) is grows) none knows)) }

pub completes_same : (g h : Graph) (a : AggId) (ms : List Member) → h ≡ g → KnowsCompleted a ms g h
completes_same g h a ms same = record { keep = λ c found knows. subst (Knows c) (sym same) knows }

pub completes : (f g h : Graph) (a : AggId) (ms : List Member) → IsArena f → a.0 < length f.aggs → ((x : Aggregate) → slice_get f.aggs a.0 ≡ Some x → members_fit f x.kind false ms ≡ true) → Grows f g → ((x : Aggregate) → slice_get f.aggs a.0 ≡ Some x → g ≡ with_members f a x ms) → KeepsKnown g h → KnowsCompleted a ms f h
completes f g h a ms w below fit grows is last = record { keep = λ c found knows. last.keep c (knows_completed c f g a ms w below fit found grows is knows) }

-- what was noted of the aggregate that was completed
pub known_completed : (c d : ConstantMembers) (g h : Graph) (a : AggId) (ms : List Member) (b : Bool) → members_of g.aggs a.0 ≡ None → ((k : AggId) → is_found d k ≡ cond (ghosts.eq a k) b (is_found c k)) → is_found d a ≡ b → IsTrue b ↔ AnyConstant g ms → Knows c g → KnowsCompleted a ms g h → Knows d h
known_completed c d g h a ms b unfinished is own any knows last = last.keep d (subst (λ r. IsTrue r ↔ AnyConstant g ms) (sym own) any) (knows_set c d g a b unfinished is knows)
