-- Device: the steps by which it is found what each thing waits for, and by which an order grows.
use Rattle.std.proofs.Common.{◌≡◌, ◌≢◌, ◌⊎◌, inl, inr, ℕ, zero, suc, ◌+◌, ◌<◌, ◌≤◌, Bool, true, false, List, [], ◌∷◌, ◌++◌, Option, Some, None, Result, Ok, Err, OnOk, MatchBool, Vec, length, take, get_or, slice_get, subst, refl, sym, ap, ◌∙◌, arith}
use Rattle.std.specs.declared.alloc.Global.{Global}
use Rattle.type_things.specs.declared.web.Head.{Head}
use Rattle.type_things.specs.declared.web.Label.{Label}
use Rattle.type_things.specs.declared.web.Web.{Web}
use Rattle.type_things.specs.Heads.{is_enum, parts_of}
use Rattle.type_things.specs.Things.{Thing, head_of}
use Rattle.type_things.specs.Webs.{thing_in, things_of}
use Rattle.type_things.proofs.NumberLaws.{same_or_not, less_or}
use Rattle.type_things.proofs.WovenLaws.{map_length}
use Rattle.type_order.specs.Order.{IsIn, needed_of, IsLeastFirst}
use Rattle.type_order.proofs.ComingLaws.{get_within, get_left, get_end, get_pushed, some_same}
use Rattle.type_iso.specs.Standing.{at_own, AreLeast, AreStanding, AreOrdered}
use Rattle.type_iso.specs.Order.{MayStand, StandsNext}
use Rattle.type_iso.specs.Ordering.{has_values, AreSettled, AreSettledTo, IsValue, AreValues, IsSettled, AreSettledUpTo, AddsValue, HasNeeds, AddsNeeds, AreNeedsUpTo, AreNeedsOf, AreNeeds, AreIdempotent, IsOwnEnum, ListsEnum, IsOwn, IsListed, IsOrder, AreEnums, IsReckoned, AreListed, AreInOrder}
use Rattle.type_iso.proofs.OrderLaws.{get_take, take_get, pushed_at, none_some}

-- the only part of a list of parts
pub only_of : (ps qs : List (Label × ℕ)) (d : Label × ℕ) → qs ≡ ps → length qs ≡ 1 → (l : Label) × (ps ≡ (l, (get_or qs 0 d).1) ∷ [])
only_of ps [] d e h = absurd (omega (arith, h))
only_of ps (q ∷ []) d e h = (q.0, sym e)
only_of ps (q ∷ (r ∷ qs)) d e h = absurd (omega (arith, h))

module _ (ts : List (Thing Head Label)) where
  pub values_start : (vs : List (Option ℕ)) → vs ≡ [] → AreValues ts vs 0
  values_start vs e = record {
    count = ap length e;
    each = λ x o q. none_some (slice_get [] x) o refl (ap (λ l. slice_get l x) (sym e) ∙ q);
  }

  pub values_more : (vs ws : List (Option ℕ)) (k : ℕ) (o : Option ℕ) → ws ≡ vs ++ o ∷ [] → IsValue ts vs k o → AreValues ts vs k → AreValues ts ws (k + 1)
  values_more vs ws k o e v a = subst (λ l. AreValues ts l (k + 1)) (sym e) (record {
    count = long vs o a.count;
    each = λ x p q. elim (pushed_at vs o x p q) [
      | inl r ↦ subst (λ l. IsValue ts l x p) (sym r.1) (a.each x p r.0)
      | inr r ↦ subst (λ l. IsValue ts l x p) (sym r.2) (subst (IsValue ts vs x) (sym r.1) (subst (λ y. IsValue ts vs y o) (sym (r.0 ∙ a.count)) v))
    ];
  })
    where
      long : (l : List (Option ℕ)) (p : Option ℕ) → length l ≡ k → length (l ++ p ∷ []) ≡ k + 1
      long l p h = (let g = grown l p in omega (arith, g, h))
        where
          grown : (l : List (Option ℕ)) (p : Option ℕ) → length (l ++ p ∷ []) ≡ suc (length l)
          grown [] p = refl
          grown (x ∷ l) p = ap suc (grown l p)

  module _ (m : ℕ) (st : List ℕ) (vs : List (Option ℕ)) where
    pub settled_start : (bs : List Bool) → bs ≡ [] → AreSettledUpTo ts m st vs bs 0
    settled_start bs e = record {
      count = ap length e;
      each = λ x o q. none_some (slice_get [] x) o refl (ap (λ l. slice_get l x) (sym e) ∙ q);
    }

    pub settled_more : (bs cs : List Bool) (k : ℕ) (b : Bool) → cs ≡ bs ++ b ∷ [] → IsSettled ts m st vs bs k b → AreSettledUpTo ts m st vs bs k → AreSettledUpTo ts m st vs cs (k + 1)
    settled_more bs cs k b e v a = subst (λ l. AreSettledUpTo ts m st vs l (k + 1)) (sym e) (record {
      count = (let g = grown bs b in let h = a.count in omega (arith, g, h));
      each = λ x p q. elim (pushed_at bs b x p q) [
        | inl r ↦ subst (λ l. IsSettled ts m st vs l x p) (sym r.1) (a.each x p r.0)
        | inr r ↦ subst (λ l. IsSettled ts m st vs l x p) (sym r.2) (subst (IsSettled ts m st vs bs x) (sym r.1) (subst (λ y. IsSettled ts m st vs bs y b) (sym (r.0 ∙ a.count)) v))
      ];
    })
      where
        grown : (l : List Bool) (p : Bool) → length (l ++ p ∷ []) ≡ suc (length l)
        grown [] p = refl
        grown (x ∷ l) p = ap suc (grown l p)

pub get_read : {X : Type 0} (xs : List X) (i : ℕ) (d : X) → i < length xs → slice_get xs i ≡ Some (get_or xs i d)
get_read [] i d h = absurd (omega (arith, h))
get_read (x ∷ xs) zero d h = refl
get_read (x ∷ xs) (suc i) d h = get_read xs i d (omega (arith, h))

pub parts_start : (settled : List Bool) (ps : List (Label × ℕ)) → AreSettledTo settled ps 0
parts_start settled ps i y l h = absurd (omega (arith, h))

pub parts_more : (settled : List Bool) (ps : List (Label × ℕ)) (k : ℕ) (d : Label × ℕ) → k < length ps → slice_get settled (get_or ps k d).1 ≡ Some true → AreSettledTo settled ps k → AreSettledTo settled ps (k + 1)
parts_more settled ps k d h e a i y l w q = elim (same_or_not i k) [
  | inl s ↦ (
      let one : get_or ps k d ≡ (l, y) = some_same (get_or ps k d) (l, y) (sym (get_read ps k d h) ∙ ap (slice_get ps) (sym s) ∙ q) in
      ap (λ (p : Label × ℕ). slice_get settled p.1) (sym one) ∙ e)
  | inr n ↦ a i y l (omega (arith, w, n)) q
]

pub parts_end : (settled : List Bool) (ps : List (Label × ℕ)) (k : ℕ) → length ps ≤ k → AreSettledTo settled ps k → AreSettled settled ps
parts_end settled ps k h a i y l q = (let w = get_within ps i (l, y) q in a i y l (omega (arith, h, w)) q)

-- an aggregate is an enum, or is not
pub own_settled : (st : List ℕ) (h : Head) (x : ℕ) (b : Bool) → b ≡ is_enum h → at_own st x ≡ x → MatchBool b ((at_own st x ≢ x) ⊎ (is_enum h ≡ true)) ((at_own st x ≡ x) × (is_enum h ≡ false))
own_settled st h x true e own = inr (sym e)
own_settled st h x false e own = (own, sym e)

module _ (st : List ℕ) (vs : List (Option ℕ)) where
  pub adds_value : (y a w : ℕ) (old new : List ℕ) → slice_get vs y ≡ Some (Some a) → a < length st → w ≡ at_own st a → new ≡ old ++ w ∷ [] → AddsValue st vs y old new
  adds_value y a w old new e l s g = record {
    kept = λ z p. (p.0, ap (λ n. slice_get n p.0) g ∙ get_left old (w ∷ []) p.0 z p.1);
    added = record {
      read = (Some a, e);
      value = λ b q. (
          let same : b ≡ a = by b a (some_same (Some b) (Some a) (sym q ∙ e)) in
          (subst (λ z. z < length st) (sym same) l, (length old, ap (λ n. slice_get n (length old)) g ∙ get_end old w ∙ ap Some (s ∙ ap (at_own st) (sym same)))));
    };
    only = λ z p. elim (get_pushed old w z p.0 (ap (λ n. slice_get n p.0) (sym g) ∙ p.1)) [
      | inl q ↦ inl (p.0, q)
      | inr q ↦ inr (a, e, q ∙ s)
    ];
  }
    where
      by : (b c : ℕ) → ◌≡◌ {A = Option ℕ} (Some b) (Some c) → b ≡ c
      by b c q = cc

  pub adds_pushed : {E : Type 0} (z : Result (Unit {0}) E) (y a : ℕ) (old new : List ℕ) → slice_get vs y ≡ Some (Some a) → OnOk z (a < length st) → OnOk z (new ≡ old ++ at_own st a ∷ []) → OnOk z (AddsValue st vs y old new)
  adds_pushed (Ok r) y a old new e l g = adds_value y a (at_own st a) old new e l refl g
  adds_pushed (Err r) y a old new e l g = l

  pub adds_none : (y : ℕ) (old new : List ℕ) → slice_get vs y ≡ Some None → new ≡ old → AddsValue st vs y old new
  adds_none y old new e g = record {
    kept = λ z p. (p.0, ap (λ n. slice_get n p.0) g ∙ p.1);
    added = record {
      read = (None, e);
      value = λ b q. (let s : ◌≡◌ {A = Option (Option ℕ)} (Some None) (Some (Some b)) = sym e ∙ q in let bad : ⊥ = cc in absurd bad);
    };
    only = λ z p. inl (p.0, ap (λ n. slice_get n p.0) (sym g) ∙ p.1);
  }

  module _ (m x : ℕ) where
    pub adds_with : (y : ℕ) (old mid new : List ℕ) → m ≤ y → (m ≤ x → y < x) → mid ≡ old ++ y ∷ [] → AddsValue st vs y mid new → AddsNeeds st vs m true x y old new
    adds_with y old mid new above below g a = record {
      kept = λ z p. a.kept z (p.0, ap (λ n. slice_get n p.0) g ∙ get_left old (y ∷ []) p.0 z p.1);
      added = record {
        above = above;
        below = below;
        itself = a.kept y (length old, ap (λ n. slice_get n (length old)) g ∙ get_end old y);
        value = λ i. a.added;
      };
      only = λ z p. elim (a.only z p) [
        | inl q ↦ elim (get_pushed old y z q.0 (ap (λ n. slice_get n q.0) (sym g) ∙ q.1)) [ inl r ↦ inl (q.0, r) | inr r ↦ inr (inl r) ]
        | inr q ↦ inr (inr (refl, q))
      ];
    }

    pub adds_without : (y : ℕ) (old new : List ℕ) → m ≤ y → (m ≤ x → y < x) → new ≡ old ++ y ∷ [] → AddsNeeds st vs m false x y old new
    adds_without y old new above below g = record {
      kept = λ z p. (p.0, ap (λ n. slice_get n p.0) g ∙ get_left old (y ∷ []) p.0 z p.1);
      added = record {
        above = above;
        below = below;
        itself = (length old, ap (λ n. slice_get n (length old)) g ∙ get_end old y);
        value = λ i. (let bad : ⊥ = cc in absurd bad);
      };
      only = λ z p. elim (get_pushed old y z p.0 (ap (λ n. slice_get n p.0) (sym g) ∙ p.1)) [ inl r ↦ inl (p.0, r) | inr r ↦ inr (inl r) ];
    }

    module _ (by_value : Bool) (ps : List (Label × ℕ)) where
      pub needs_start : (ns : List ℕ) → ns ≡ [] → AreNeedsUpTo st vs m by_value x ps ns 0
      needs_start ns e = record {
        all = λ i y l h. absurd (omega (arith, h));
        only = λ w p. none_some (slice_get [] p.0) w refl (ap (λ n. slice_get n p.0) (sym e) ∙ p.1);
      }

      kept_needs : (y : ℕ) (old new : List ℕ) → ((w : ℕ) → IsIn old w → IsIn new w) → HasNeeds st vs m by_value x y old → HasNeeds st vs m by_value x y new
      kept_needs y old new k h = record {
        above = h.above;
        below = h.below;
        itself = k y h.itself;
        value = λ i. record { read = (h.value i).read; value = λ a e. (let r = (h.value i).value a e in (r.0, k (at_own st a) r.1)) };
      }

      pub needs_more : (old new : List ℕ) (k : ℕ) (d : Label × ℕ) → k < length ps → AddsNeeds st vs m by_value x (get_or ps k d).1 old new → AreNeedsUpTo st vs m by_value x ps old k → AreNeedsUpTo st vs m by_value x ps new (k + 1)
      needs_more old new k d h a n = record {
        all = λ i y l w q. elim (same_or_not i k) [
          | inl s ↦ (
              let one : get_or ps k d ≡ (l, y) = some_same (get_or ps k d) (l, y) (sym (get_read ps k d h) ∙ ap (slice_get ps) (sym s) ∙ q) in
              subst (λ (p : Label × ℕ). HasNeeds st vs m by_value x p.1 new) one a.added)
          | inr o ↦ kept_needs y old new a.kept (n.all i y l (omega (arith, w, o)) q)
        ];
        only = λ w p. elim (a.only w p) [
          | inl o ↦ n.only w o
          | inr o ↦ (k, (get_or ps k d).1, (get_or ps k d).0, get_read ps k d h, o)
        ];
      }

  pub needs_end : (m x : ℕ) (ts : List (Thing Head Label)) (h : Head) (v : Bool) (ps : List (Label × ℕ)) (ns : List ℕ) (k : ℕ) → head_of ts x ≡ Some h → v ≡ has_values h → ps ≡ parts_of ts x → length ps ≤ k
      → AreNeedsUpTo st vs m v x ps ns k → AreNeedsOf m st vs ts x ns
  needs_end m x ts h v ps ns k e f g l n = (
    h,
    e,
    subst (λ qs. AreNeedsUpTo st vs m (has_values h) x qs ns (length qs)) g (subst (λ u. AreNeedsUpTo st vs m u x ps ns (length ps)) f (record {
      all = λ i y j w q. n.all i y j (omega (arith, w, l)) q;
      only = n.only;
    })),
  )

needed_left : (vs : List (Vec ℕ Global)) (v : Vec ℕ Global) (x : ℕ) → x < length vs → needed_of (vs ++ v ∷ []) x ≡ needed_of vs x
needed_left [] v x h = absurd (omega (arith, h))
needed_left (u ∷ vs) v zero h = refl
needed_left (u ∷ vs) v (suc x) h = needed_left vs v x (omega (arith, h))

needed_end : (vs : List (Vec ℕ Global)) (v : Vec ℕ Global) → needed_of (vs ++ v ∷ []) (length vs) ≡ v.items
needed_end [] v = refl
needed_end (u ∷ vs) v = needed_end vs v

module _ (m : ℕ) (st : List ℕ) (vs : List (Option ℕ)) (ts : List (Thing Head Label)) (settled : List Bool) where
  pub all_start : (ns : List (Vec ℕ Global)) → AreNeeds m st vs ts settled (needed_of ns) 0
  all_start ns x h = absurd (omega (arith, h))

  pub all_more : (old new : List (Vec ℕ Global)) (v : Vec ℕ Global) (k : ℕ) (b : Bool) → length old ≡ k → new ≡ old ++ v ∷ [] → slice_get settled k ≡ Some b → (b ≡ false → AreNeedsOf m st vs ts k v.items)
      → AreNeeds m st vs ts settled (needed_of old) k → AreNeeds m st vs ts settled (needed_of new) (k + 1)
  all_more old new v k b c g e n a x h q = elim (same_or_not x k) [
    | inl s ↦ (
        let is : b ≡ false = some_same b false (sym e ∙ ap (slice_get settled) (sym s) ∙ q) in
        subst (λ y. AreNeedsOf m st vs ts y (needed_of new y)) (sym s) (subst (AreNeedsOf m st vs ts k) (sym (ap (λ l. needed_of l k) g ∙ ap (needed_of (old ++ v ∷ [])) (sym c) ∙ needed_end old v)) (n is)))
    | inr o ↦ subst (AreNeedsOf m st vs ts x) (sym (ap (λ l. needed_of l x) g ∙ needed_left old v x (omega (arith, h, o, c)))) (a x (omega (arith, h, o)) q)
  ]

pub vec_length : (old new : List (Vec ℕ Global)) (v : Vec ℕ Global) (k : ℕ) → length old ≡ k → new ≡ old ++ v ∷ [] → length new ≡ k + 1
vec_length old new v k c g = (let l = by old in let e = ap length g in omega (arith, l, c, e))
  where
    by : (vs : List (Vec ℕ Global)) → length (vs ++ v ∷ []) ≡ suc (length vs)
    by [] = refl
    by (u ∷ vs) = ap suc (by vs)

-- whether an aggregate is an enum that stands for its class
pub own_enum : (ts : List (Thing Head Label)) (st : List ℕ) (a : ℕ) (h : Head) (b : Bool) → head_of ts a ≡ Some h → b ≡ is_enum h → at_own st a ≡ a → MatchBool b (IsOwnEnum ts st a) (¬ (IsOwnEnum ts st a))
own_enum ts st a h true e f own = (own, ap (λ o. elim o [ None ↦ false | Some g ↦ is_enum g ]) e ∙ sym f)
own_enum ts st a h false e f own = λ i. (
    let s : false ≡ true = f ∙ sym (ap (λ o. elim o [ None ↦ false | Some g ↦ is_enum g ]) e) ∙ i.1 in
    let bad : ⊥ = cc in bad)

module _ (ts : List (Thing Head Label)) (m : ℕ) (st : List ℕ) where
  pub enums_start : (order : List ℕ) → order ≡ [] → AreEnums ts m st order 0
  enums_start order e = record {
    order_so_far = λ k s q. none_some (slice_get [] k) s refl (ap (λ l. slice_get l k) (sym e) ∙ q);
    all = λ k h. absurd (omega (arith, h));
    only = λ k p. none_some (slice_get [] p.0) k refl (ap (λ l. slice_get l p.0) (sym e) ∙ p.1);
  }

  pub enums_skip : (order : List ℕ) (k : ℕ) → ¬ (IsOwnEnum ts st k) → AreEnums ts m st order k → AreEnums ts m st order (k + 1)
  enums_skip order k n a = record {
    order_so_far = a.order_so_far;
    all = λ e h i. elim (same_or_not e k) [
      | inl s ↦ absurd (n (subst (IsOwnEnum ts st) s i))
      | inr o ↦ a.all e (omega (arith, h, o)) i
    ];
    only = λ e p. (let r = a.only e p in let l = r.0 in (omega (arith, l), r.1));
  }

  pub enums_more : (old new : List ℕ) (k : ℕ) → k < m → IsOwnEnum ts st k → new ≡ old ++ k ∷ [] → AreEnums ts m st old k → AreEnums ts m st new (k + 1)
  enums_more old new k lk i g a = subst (λ l. AreEnums ts m st l (k + 1)) (sym g) (record {
    order_so_far = λ j s q. elim (pushed_at old k j s q) [
      | inl r ↦ subst (λ l. StandsNext ts m (IsOwn ts m st) (IsListed ts m st l) s) (sym r.1) (a.order_so_far j s r.0)
      | inr r ↦ subst (λ l. StandsNext ts m (IsOwn ts m st) (IsListed ts m st l) s) (sym r.2) (subst (StandsNext ts m (IsOwn ts m st) (IsListed ts m st old)) (sym r.1) next)
    ];
    all = λ e h w. elim (same_or_not e k) [
      | inl s ↦ (length old, get_end old k ∙ ap Some (sym s))
      | inr o ↦ (let p = a.all e (omega (arith, h, o)) w in (p.0, get_left old (k ∷ []) p.0 e p.1))
    ];
    only = λ e p. elim (get_pushed old k e p.0 p.1) [
      | inl q ↦ (let r = a.only e (p.0, q) in let l = r.0 in (omega (arith, l), r.1))
      | inr q ↦ (omega (arith, q), subst (IsOwnEnum ts st) (sym q) i)
    ];
  })
    where
      least : (b : ℕ) → b < m → at_own st b ≡ b → MayStand ts m (IsOwn ts m st) (IsListed ts m st old) b → ¬ (IsListed ts m st old b) → k ≤ b
      least b lb own stands apart = elim (less_or b k) [
        | inl l ↦ elim stands [
          | inl s ↦ (let p = a.all b l (own, s) in absurd (apart (subst (IsIn old) (sym own) p)))
          | inr s ↦ (let p = s.0 k lk i.0 i.1 in let q = (a.only (at_own st k) p).0 in let o = i.0 in absurd (omega (arith, q, o)))
        ]
        | inr l ↦ l
      ]

      next : StandsNext ts m (IsOwn ts m st) (IsListed ts m st old) k
      next = record { may = inl i.1; least = least }

  pub enums_step : (old new : List ℕ) (k : ℕ) → k < m → ListsEnum ts st k old new → AreEnums ts m st old k → AreEnums ts m st new (k + 1)
  enums_step old new k lk lists a = elim lists [
    | inl l ↦ enums_more old new k lk l.0 l.1 a
    | inr l ↦ subst (λ o. AreEnums ts m st o (k + 1)) (sym l.1) (enums_skip old k l.0 a)
  ]

  pub listed_end : (settled : List Bool) (come order : List ℕ) (k : ℕ) → AreListed ts m st settled come order k → IsOrder ts m st order
  listed_end settled come order k a = a.order_so_far

-- what stands for a class stands for its own
pub standing_idempotent : {H L : Type 0} (ts : List (Thing H L)) (cs st : List ℕ) (m : ℕ) → AreLeast cs → AreStanding ts cs m st → AreIdempotent m st
standing_idempotent ts cs st m least s = (
  s.count,
  λ a h. (
      let below = inside a h in
      let c = s.each a h in
      (below, s.same (at_own st a) a below h c.member)),
)
  where
    inside : (a : ℕ) → a < m → at_own st a < m
    inside a h = elim (s.each a h).early [
      | inl e ↦ (let l = (least a (s.within a h)).0 in omega (arith, e, l, h))
      | inr l ↦ l
    ]

module _ (ts : List (Thing Head Label)) (m : ℕ) (Own Also Before Past : ℕ → Type 0) (own : (a : ℕ) → a < m → Own a → Also a) (also : (a : ℕ) → a < m → Also a → Own a) (before : (a : ℕ) → a < m → Before a → Past a) (past : (a : ℕ) → a < m → Past a → Before a) where
  may_same : (b : ℕ) → MayStand ts m Own Before b → MayStand ts m Also Past b
  may_same b s = elim s [
    | inl i ↦ inl i
    | inr r ↦ inr ((λ e l o i. before e l (r.0 e l (also e l o) i)), (λ a l n. before a l (r.1 a l n)))
  ]

  may_back : (b : ℕ) → MayStand ts m Also Past b → MayStand ts m Own Before b
  may_back b s = elim s [
    | inl i ↦ inl i
    | inr r ↦ inr ((λ e l o i. past e l (r.0 e l (own e l o) i)), (λ a l n. past a l (r.1 a l n)))
  ]

  -- the same stands next where the same stands before
  pub next_same : (s : ℕ) → StandsNext ts m Own Before s → StandsNext ts m Also Past s
  next_same s n = record {
    may = may_same s n.may;
    least = λ b l o may new. n.least b l (also b l o) (may_back b may) (λ p. new (before b l p));
  }

-- an order by numbers
pub in_order : (ts : List (Thing Head Label)) (m : ℕ) (st all order : List ℕ) → AreIdempotent m st → AreOrdered order st all → IsOrder ts m st order → AreInOrder ts m all order
in_order ts m st all order idem o is k s e = next_same ts m (IsOwn ts m st) (IsIn order) (IsListed ts m st (take k order)) (λ a. at_own all a < k)
    (λ a l own. (at_own all a, o.each a (inside a l) ∙ ap Some own))
    (λ a l p. (
    let r = o.own p.0 a p.1 in
    some_same (at_own st a) a (sym (o.each a r.0) ∙ ap (slice_get order) r.1 ∙ p.1)))
    (λ a l p. (
    let g = get_take order k p.0 (at_own st a) p.1 in
    let r = o.own p.0 (at_own st a) g.0 in
    let below = g.1 in
    let at = r.1 in
    let same = o.same (at_own st a) a r.0 (inside a l) (idem.1 a l).1 in
    omega (arith, below, at, same)))
    (λ a l h. (at_own all a, take_get order k (at_own all a) (at_own st a) h (o.each a (inside a l))))
    s (is k s e)
  where
    inside : (a : ℕ) → a < m → a < length st
    inside a l = (let c = idem.0 in omega (arith, l, c))

-- what was found of the things of a web
pub reckoned : (w : Web) (st : List ℕ) (vs : List (Option ℕ)) (settled : List Bool) (needs : ℕ → List ℕ) → w.aggregates ≤ length w.things.items → AreIdempotent w.aggregates st → AreValues (things_of w) vs (length w.things.items)
    → AreSettledUpTo (things_of w) w.aggregates st vs settled (length w.things.items) → AreNeeds w.aggregates st vs (things_of w) settled needs (length w.things.items) → IsReckoned (things_of w) w.aggregates st vs settled needs
reckoned w st vs settled needs h i v s n = record {
  within = (let l = long in omega (arith, h, l));
  stand = i;
  values = subst (AreValues (things_of w) vs) (sym long) v;
  settles = subst (AreSettledUpTo (things_of w) w.aggregates st vs settled) (sym long) s;
  waits = subst (AreNeeds w.aggregates st vs (things_of w) settled needs) (sym long) n;
}
  where
    long : length (things_of w) ≡ length w.things.items
    long = map_length (thing_in w.parts.items) w.things.items

-- what is false or true
pub of_false : (A B : Type 0) (b : Bool) → b ≡ false → MatchBool b A B → B
of_false A B true e h = (let bad : ⊥ = cc in absurd bad)
of_false A B false e h = h

pub of_true : (A B : Type 0) (b : Bool) → b ≡ true → MatchBool b A B → A
of_true A B true e h = h
of_true A B false e h = (let bad : ⊥ = cc in absurd bad)

-- an order from what was found of the things of a web
pub found : (X : List (Thing Head Label) → List ℕ → Type 0) (w : Web) (st : List ℕ) (vs us ws : List (Option ℕ)) (settled known : List Bool) (needs asked : List (Vec ℕ Global)) (come came enums : List ℕ) → us ≡ vs → ws ≡ vs → known ≡ settled → asked ≡ needs → came ≡ come
    → w.aggregates ≤ length w.things.items → AreIdempotent w.aggregates st → AreValues (things_of w) vs (length w.things.items) → AreSettledUpTo (things_of w) w.aggregates st us settled (length w.things.items)
    → AreNeeds w.aggregates st ws (things_of w) known (needed_of needs) (length w.things.items) → IsLeastFirst (needed_of asked) w.aggregates settled come → AreEnums (things_of w) w.aggregates st enums w.aggregates
    → ((ts : List (Thing Head Label)) (sts : List ℕ) (os : List (Option ℕ)) (bs : List Bool) (ns : ℕ → List ℕ) → IsReckoned ts w.aggregates sts os bs ns → IsLeastFirst ns w.aggregates bs came → AreEnums ts w.aggregates sts enums w.aggregates → X ts sts) → X (things_of w) st
found X w st vs us ws settled known needs asked come came enums eu ew ek ea ec h i v s n f e listed = listed (things_of w) st vs settled (needed_of needs)
    (reckoned w st vs settled (needed_of needs) h i v (subst (λ l. AreSettledUpTo (things_of w) w.aggregates st l settled (length w.things.items)) eu s)
    (subst (λ l. AreNeeds w.aggregates st l (things_of w) settled (needed_of needs) (length w.things.items)) ew (subst (λ l. AreNeeds w.aggregates st ws (things_of w) l (needed_of needs) (length w.things.items)) ek n)))
    (subst (IsLeastFirst (needed_of needs) w.aggregates settled) (sym ec) (subst (λ l. IsLeastFirst (needed_of l) w.aggregates settled come) ea f)) e
