-- Device: what comes once what it waits for has come is the order of the classes.
use Rattle.std.proofs.Common.{◌≡◌, ◌⊎◌, inl, inr, ℕ, zero, suc, ◌+◌, ◌<◌, ◌≤◌, Bool, true, false, nat_eq, not, List, [], ◌∷◌, ◌++◌, Option, Some, None, length, take, slice_get, slice_set, subst, refl, sym, ap, ◌∙◌, arith}
use Rattle.std.proofs.lemmas.Bool.{eqb-true, eq-eqb}
use Rattle.type_things.specs.declared.web.Head.{Head}
use Rattle.type_things.specs.declared.web.Head.TheVariants.{Void, Int, Ptr, Array, Func, Agg, Tagged}
use Rattle.type_things.specs.declared.web.Label.{Label}
use Rattle.type_things.specs.Heads.{is_enum, parts_of}
use Rattle.type_things.specs.Things.{Thing, head_of}
use Rattle.type_links.specs.Links.{is_enum_at}
use Rattle.type_order.specs.Order.{IsIn, marked, IsReady, IsNext, IsLeastFirst}
use Rattle.type_order.proofs.ComingLaws.{get_within, get_left, get_end, get_pushed, some_same, mark_kept, marked_more}
use Rattle.type_iso.specs.Standing.{at_own}
use Rattle.type_iso.specs.Order.{is_derived, IsPart, HasValue, HasElement, Needs, MayStand, StandsNext}
use Rattle.type_iso.specs.Ordering.{has_values, IsOnlyPart, IsValueBy, AreValues, IsDerivedSettled, IsSettledBy, IsSettled, IsStanding, HasNeeds, AreNeedsOf, Lists, IsOwn, IsListed, AreEnums, IsReckoned, AreListed}

pub get_take : {X : Type 0} (xs : List X) (k i : ℕ) (x : X) → slice_get (take k xs) i ≡ Some x → (slice_get xs i ≡ Some x) × (i < k)
get_take xs zero i x e = (let bad : ⊥ = cc in absurd bad)
get_take [] (suc k) i x e = (let bad : ⊥ = cc in absurd bad)
get_take (y ∷ xs) (suc k) zero x e = (e, omega arith)
get_take (y ∷ xs) (suc k) (suc i) x e = (let r = get_take xs k i x e in let l = r.1 in (r.0, omega (arith, l)))

pub take_get : {X : Type 0} (xs : List X) (k i : ℕ) (x : X) → i < k → slice_get xs i ≡ Some x → slice_get (take k xs) i ≡ Some x
take_get xs zero i x h e = absurd (omega (arith, h))
take_get [] (suc k) i x h e = (let bad : ⊥ = cc in absurd bad)
take_get (y ∷ xs) (suc k) zero x h e = e
take_get (y ∷ xs) (suc k) (suc i) x h e = take_get xs k i x (omega (arith, h)) e

take_next : {X : Type 0} (xs : List X) (k : ℕ) (x : X) → slice_get xs k ≡ Some x → take (suc k) xs ≡ take k xs ++ x ∷ []
take_next [] k x e = (let bad : ⊥ = cc in absurd bad)
take_next (y ∷ xs) zero x e = (let s : y ≡ x = cc in ap (λ z. z ∷ []) s)
take_next (y ∷ xs) (suc k) x e = ap (λ l. y ∷ l) (take_next xs k x e)

take_past : {X : Type 0} (xs : List X) (k : ℕ) → slice_get xs k ≡ None → take (suc k) xs ≡ take k xs
take_past [] zero e = refl
take_past [] (suc k) e = refl
take_past (y ∷ xs) zero e = (let bad : ⊥ = cc in absurd bad)
take_past (y ∷ xs) (suc k) e = ap (λ l. y ∷ l) (take_past xs k e)

pub get_there : {X : Type 0} (xs : List X) (i : ℕ) → i < length xs → (x : X) × (slice_get xs i ≡ Some x)
get_there [] i h = absurd (omega (arith, h))
get_there (y ∷ xs) zero h = (y, refl)
get_there (y ∷ xs) (suc i) h = get_there xs i (omega (arith, h))

-- the last of a list that grew
pub pushed_at : {X : Type 0} (xs : List X) (x : X) (k : ℕ) (s : X) → slice_get (xs ++ x ∷ []) k ≡ Some s → ((slice_get xs k ≡ Some s) × (take k (xs ++ x ∷ []) ≡ take k xs)) ⊎ ((k ≡ length xs) × (s ≡ x) × (take k (xs ++ x ∷ []) ≡ xs))
pushed_at [] x zero s e = (let q : x ≡ s = cc in inr (refl, sym q, refl))
pushed_at [] x (suc k) s e = (let bad : ⊥ = cc in absurd bad)
pushed_at (y ∷ xs) x zero s e = inl (e, refl)
pushed_at (y ∷ xs) x (suc k) s e = elim (pushed_at xs x k s e) [ inl r ↦ inl (r.0, ap (λ l. y ∷ l) r.1) | inr r ↦ inr (ap suc r.0, r.1, ap (λ l. y ∷ l) r.2) ]

mark_there : (xs : List Bool) (x : ℕ) (b : Bool) → slice_get xs x ≡ Some b → slice_get (slice_set xs x true) x ≡ Some true
mark_there [] x b e = (let bad : ⊥ = cc in absurd bad)
mark_there (c ∷ xs) zero b e = refl
mark_there (c ∷ xs) (suc x) b e = mark_there xs x b e

mark_read : (xs : List Bool) (x y : ℕ) → slice_get (slice_set xs x true) y ≡ Some true → (y ≡ x) ⊎ (slice_get xs y ≡ Some true)
mark_read [] x y e = inr e
mark_read (c ∷ xs) zero zero e = inl refl
mark_read (c ∷ xs) zero (suc y) e = inr e
mark_read (c ∷ xs) (suc x) zero e = inr e
mark_read (c ∷ xs) (suc x) (suc y) e = elim (mark_read xs x y e) [ inl q ↦ inl (ap suc q) | inr q ↦ inr q ]

mark_length : (xs : List Bool) (x : ℕ) → length (slice_set xs x true) ≡ length xs
mark_length [] x = refl
mark_length (c ∷ xs) zero = refl
mark_length (c ∷ xs) (suc x) = ap suc (mark_length xs x)

marked_kept : (d : List Bool) (xs : List ℕ) (w : ℕ) → slice_get d w ≡ Some true → slice_get (marked d xs) w ≡ Some true
marked_kept d [] w e = e
marked_kept d (x ∷ xs) w e = marked_kept (slice_set d x true) xs w (mark_kept d x w e)

marked_length : (d : List Bool) (xs : List ℕ) → length (marked d xs) ≡ length d
marked_length d [] = refl
marked_length d (x ∷ xs) = marked_length (slice_set d x true) xs ∙ mark_length d x

-- a number that has not come at a place of a list
decide : (d : List Bool) (y : ℕ) → y < length d → (slice_get d y ≡ Some true) ⊎ (slice_get d y ≡ Some false)
decide [] y h = absurd (omega (arith, h))
decide (true ∷ d) zero h = inl refl
decide (false ∷ d) zero h = inr refl
decide (b ∷ d) (suc y) h = decide d y (omega (arith, h))

true_false : {X : Type 0} (o : Option Bool) → o ≡ Some true → o ≡ Some false → X
true_false o p q = (let e : ◌≡◌ {A = Option Bool} (Some true) (Some false) = sym p ∙ q in let bad : ⊥ = cc in absurd bad)

pub none_some : {X A : Type 0} (o : Option A) (a : A) → o ≡ None → o ≡ Some a → X
none_some {X} {A} o a p q = (let e : ◌≡◌ {A = Option A} None (Some a) = sym p ∙ q in let bad : ⊥ = cc in absurd bad)

-- not come, or beyond the end
abbrev undone : List Bool → ℕ → Bool
undone d y = elim (slice_get d y) [ None ↦ true | Some b ↦ not b ]

undone_or : (d : List Bool) (y : ℕ) → (undone d y ≡ true) ⊎ (slice_get d y ≡ Some true)
undone_or d y = by (slice_get d y) refl
  where
    by : (o : Option Bool) → slice_get d y ≡ o → (undone d y ≡ true) ⊎ (slice_get d y ≡ Some true)
    by None e = inl (ap (λ p. elim p [ None ↦ true | Some b ↦ not b ]) e)
    by (Some true) e = inr e
    by (Some false) e = inl (ap (λ p. elim p [ None ↦ true | Some b ↦ not b ]) e)

undone_not : {X : Type 0} (d : List Bool) (y : ℕ) → undone d y ≡ true → slice_get d y ≡ Some true → X
undone_not d y e q = (let s : false ≡ true = sym (ap (λ p. elim p [ None ↦ true | Some b ↦ not b ]) q) ∙ e in let bad : ⊥ = cc in absurd bad)

-- a value at a place is a
abbrev is_at : List (Option ℕ) → ℕ → ℕ → Bool
is_at vs a y = elim (slice_get vs y) [ None ↦ false | Some o ↦ elim o [ None ↦ false | Some b ↦ nat_eq b a ] ]

at_is : (vs : List (Option ℕ)) (a y : ℕ) → slice_get vs y ≡ Some (Some a) → is_at vs a y ≡ true
at_is vs a y e = ap (λ p. elim p [ None ↦ false | Some o ↦ elim o [ None ↦ false | Some b ↦ nat_eq b a ] ]) e ∙ eq-eqb a a refl

is_read : (vs : List (Option ℕ)) (a y : ℕ) → is_at vs a y ≡ true → slice_get vs y ≡ Some (Some a)
is_read vs a y e = by (slice_get vs y) refl
  where
    by : (o : Option (Option ℕ)) → slice_get vs y ≡ o → slice_get vs y ≡ Some (Some a)
    by None q = (let s : false ≡ true = sym (ap (λ p. elim p [ None ↦ false | Some o ↦ elim o [ None ↦ false | Some b ↦ nat_eq b a ] ]) q) ∙ e in let bad : ⊥ = cc in absurd bad)
    by (Some None) q = (let s : false ≡ true = sym (ap (λ p. elim p [ None ↦ false | Some o ↦ elim o [ None ↦ false | Some b ↦ nat_eq b a ] ]) q) ∙ e in let bad : ⊥ = cc in absurd bad)
    by (Some (Some b)) q = (
        let s : nat_eq b a ≡ true = sym (ap (λ p. elim p [ None ↦ false | Some o ↦ elim o [ None ↦ false | Some c ↦ nat_eq c a ] ]) q) ∙ e in
        q ∙ ap (λ c. Some (Some c)) (eqb-true b a s))

module _ (ts : List (Thing Head Label)) where
  head_within : (x : ℕ) (h : Head) → head_of ts x ≡ Some h → x < length ts
  head_within x h e = by (slice_get ts x) refl
    where
      by : (o : Option (Thing Head Label)) → slice_get ts x ≡ o → x < length ts
      by None q = (let s : ◌≡◌ {A = Option Head} None (Some h) = sym (ap (λ p. elim p [ None ↦ None | Some t ↦ Some t.head ]) q) ∙ e in let bad : ⊥ = cc in absurd bad)
      by (Some t) q = get_within ts x t q

  heads_same : (x : ℕ) (h k : Head) → head_of ts x ≡ Some h → head_of ts x ≡ Some k → h ≡ k
  heads_same x h k p q = some_same h k (sym p ∙ q)

  -- the only part is the part
  only_is : (x n y : ℕ) → IsOnlyPart ts x n → IsPart ts x y → y ≡ n
  only_is x n y o p = by p.0 (ap (λ (l : List (Label × ℕ)). slice_get l p.0) (sym o.1) ∙ p.2)
    where
      only : List (Label × ℕ)
      only = (o.0, n) ∷ []

      by : (i : ℕ) → slice_get only i ≡ Some (p.1, y) → y ≡ n
      by zero e = (let s : n ≡ y = ap (λ (q : Label × ℕ). q.1) (some_same (o.0, n) (p.1, y) e) in sym s)
      by (suc i) e = none_some (slice_get only (suc i)) (p.1, y) refl e

  only_part : (x n : ℕ) → IsOnlyPart ts x n → IsPart ts x n
  only_part x n o = (0, o.0, ap (λ l. slice_get l 0) o.1)

  module _ (vs : List (Option ℕ)) (v : AreValues ts vs (length ts)) where
    -- the table has what a type has by value
    value_get : (x a : ℕ) → HasValue ts x a → slice_get vs x ≡ Some (Some a)
    value_get x a h = is_read vs a x (h (is_at vs a) (record {
      itself = λ y q p. (
          let at = get_there vs y (let l = head_within y Agg q in let c = v.count in omega (arith, l, c)) in
          let r = v.each y at.0 at.1 in
          let b = subst (IsValueBy ts (take y vs) y at.0) (heads_same y r.0 Agg r.1 q) r.2 in
          at_is vs a y (at.1 ∙ ap Some (b.2 ∙ ap Some (sym (only_is y b.0 a b.1 p)))));
      arrays = λ y z bound q p s. (
          let at = get_there vs y (let l = head_within y (Array bound) q in let c = v.count in omega (arith, l, c)) in
          let r = v.each y at.0 at.1 in
          let b = subst (IsValueBy ts (take y vs) y at.0) (heads_same y r.0 (Array bound) r.1 q) r.2 in
          let below = get_take vs y b.0 at.0 b.2 in
          let inner : slice_get vs b.0 ≡ Some (Some a) = ap (slice_get vs) (sym (only_is y b.0 z b.1 p)) ∙ is_read vs a z s in
          at_is vs a y (at.1 ∙ sym below.0 ∙ inner));
    }))

    get_value : (f x a : ℕ) → x < f → slice_get vs x ≡ Some (Some a) → HasValue ts x a
    get_value zero x a l e = absurd (omega (arith, l))
    get_value (suc f) x a l e = (let r = v.each x (Some a) e in by (λ n h q. get_value f n a h q) r.0 r.1 r.2)
      where
        by : ((n : ℕ) → n < f → slice_get vs n ≡ Some (Some a) → HasValue ts n a) → (h : Head) → head_of ts x ≡ Some h → IsValueBy ts (take x vs) x (Some a) h → HasValue ts x a
        by again Void q b = (let bad : ⊥ = cc in absurd bad)
        by again (Int kind) q b = (let bad : ⊥ = cc in absurd bad)
        by again Ptr q b = (let bad : ⊥ = cc in absurd bad)
        by again (Array bound) q b = (
            let below = get_take vs x b.0 (Some a) b.2 in
            let less = below.1 in
            let inner = again b.0 (omega (arith, l, less)) below.0 in
            λ S h. h.arrays x b.0 bound q (only_part x b.0 b.1) (inner S h))
        by again (Func proto variadic) q b = (let bad : ⊥ = cc in absurd bad)
        by again Agg q b = (
            let s : a ≡ b.0 = some_same a b.0 b.2 in
            λ S h. h.itself x q (subst (IsPart ts x) (sym s) (only_part x b.0 b.1)))
        by again (Tagged kind stem) q b = (let bad : ⊥ = cc in absurd bad)

  module _ (m : ℕ) (st : List ℕ) where
    module _ (vs : List (Option ℕ)) (d : List Bool) where
      -- what has come holds what is in its types
      record IsClosedIn : Type 0 where
        parts : (y z : ℕ) (h : Head) → head_of ts y ≡ Some h → is_derived h ≡ true → IsPart ts y z → slice_get d y ≡ Some true → slice_get d z ≡ Some true
        elements : (y z a : ℕ) (bound : Option ℕ) → head_of ts y ≡ Some (Array bound) → IsPart ts y z → slice_get vs z ≡ Some (Some a) → slice_get d y ≡ Some true → slice_get d (at_own st a) ≡ Some true

      element_come : AreValues ts vs (length ts) → IsClosedIn → (t a : ℕ) → HasElement ts t a → slice_get d t ≡ Some true → slice_get d (at_own st a) ≡ Some true
      element_come v c t a h e = elim (undone_or d (at_own st a)) [
        | inl u ↦ undone_not d t (h (undone d) (record {
          arrays = λ y z bound q p w. elim (undone_or d y) [
            | inl n ↦ n
            | inr k ↦ undone_not d (at_own st a) u (c.elements y z a bound q p (value_get vs v z a w) k)
          ];
          derived = λ y z g q i p w. elim (undone_or d y) [
            | inl n ↦ n
            | inr k ↦ undone_not d z w (c.parts y z g q i p k)
          ];
        })) e
        | inr k ↦ k
      ]

    module _ (vs : List (Option ℕ)) (settled : List Bool) (needs : ℕ → List ℕ) (r : IsReckoned ts m st vs settled needs) (come : List ℕ) (f : IsLeastFirst needs m settled come) where
      abbrev at : ℕ → List Bool
      at k = marked settled (take k come)

      at_next : (k x : ℕ) → slice_get come k ≡ Some x → at (suc k) ≡ slice_set (at k) x true
      at_next k x e = ap (marked settled) (take_next come k x e) ∙ marked_more settled (take k come) x

      at_length : (k : ℕ) → length (at k) ≡ length ts
      at_length k = marked_length settled (take k come) ∙ r.settles.count

      unsettled : (k x : ℕ) → slice_get (at k) x ≡ Some false → slice_get settled x ≡ Some false
      unsettled k x e = elim (decide settled x (
          let l = get_within (at k) x false e in
          let c = marked_length settled (take k come) in
          omega (arith, l, c))) [
            | inl q ↦ true_false (slice_get (at k) x) (marked_kept settled (take k come) x q) e
            | inr q ↦ q
          ]

      -- what waits, by its head
      waits : (k x : ℕ) → slice_get (at k) x ≡ Some false → AreNeedsOf m st vs ts x (needs x)
      waits k x e = r.waits x (let l = get_within (at k) x false e in let c = at_length k in omega (arith, l, c)) (unsettled k x e)

      get_need : (x y : ℕ) (n : AreNeedsOf m st vs ts x (needs x)) → IsPart ts x y → HasNeeds st vs m (has_values n.0) x y (needs x)
      get_need x y n p = n.2.all p.0 y p.1 (get_within (parts_of ts x) p.0 (p.1, y) p.2) p.2

      start : IsClosedIn vs settled
      start = record {
        parts = λ y z h q i p e. parts y z h q i p e (r.settles.each y true e);
        elements = λ y z a bound q p g e. (
            let s = r.settles.each y true e in
            let b = subst (IsSettledBy ts m st vs (take y settled) y true) (heads_same y s.0 (Array bound) s.1 q) s.2 in
            let o = b.1 refl in
            let none : slice_get vs z ≡ Some None = ap (slice_get vs) (only_is y o.0 z o.1 p) ∙ o.2 in
            let bad : ⊥ = (let w : ◌≡◌ {A = Option (Option ℕ)} (Some None) (Some (Some a)) = sym none ∙ g in cc) in absurd bad);
      }
        where
          inner : (y z : ℕ) → IsDerivedSettled ts m (take y settled) y true → IsPart ts y z → slice_get settled z ≡ Some true
          inner y z b p = (get_take settled y z true (b.1 refl p.0 z p.1 p.2)).0

          parts : (y z : ℕ) (h : Head) → head_of ts y ≡ Some h → is_derived h ≡ true → IsPart ts y z → slice_get settled y ≡ Some true → IsSettled ts m st vs (take y settled) y true → slice_get settled z ≡ Some true
          parts y z h q i p e s = by h i (subst (IsSettledBy ts m st vs (take y settled) y true) (heads_same y s.0 h s.1 q) s.2)
            where
              by : (g : Head) → is_derived g ≡ true → IsSettledBy ts m st vs (take y settled) y true g → slice_get settled z ≡ Some true
              by Void j b = (let bad : ⊥ = cc in absurd bad)
              by (Int kind) j b = (let bad : ⊥ = cc in absurd bad)
              by Ptr j b = inner y z b p
              by (Array bound) j b = inner y z b.0 p
              by (Func proto variadic) j b = inner y z b p
              by Agg j b = (let bad : ⊥ = cc in absurd bad)
              by (Tagged kind stem) j b = (let bad : ⊥ = cc in absurd bad)

      closed_next : (k x : ℕ) → slice_get come k ≡ Some x → IsClosedIn vs (at k) → IsClosedIn vs (at (suc k))
      closed_next k x e before = subst (IsClosedIn vs) (sym (at_next k x e)) (record {
        parts = λ y z h q i p g. mark_kept (at k) x z (elim (mark_read (at k) x y g) [
          | inl s ↦ next.ready z (need y s z p).itself
          | inr s ↦ before.parts y z h q i p s
        ]);
        elements = λ y z a bound q p v g. mark_kept (at k) x (at_own st a) (elim (mark_read (at k) x y g) [
          | inl s ↦ (let w = ((need y s z p).value (ap has_values (heads_same x wait.0 (Array bound) wait.1 (ap (head_of ts) (sym s) ∙ q)))).value a v in next.ready (at_own st a) w.1)
          | inr s ↦ before.elements y z a bound q p v s
        ]);
      })
        where
          next : IsNext needs m (at k) x
          next = f.each k x e

          wait : AreNeedsOf m st vs ts x (needs x)
          wait = waits k x next.absent

          need : (y : ℕ) → y ≡ x → (z : ℕ) → IsPart ts y z → HasNeeds st vs m (has_values wait.0) x z (needs x)
          need y s z p = get_need x z wait (subst (λ w. IsPart ts w z) s p)

      closed : (k : ℕ) → IsClosedIn vs (at k)
      closed zero = start
      closed (suc k) = by (slice_get come k) refl (closed k)
        where
          by : (o : Option ℕ) → slice_get come k ≡ o → IsClosedIn vs (at k) → IsClosedIn vs (at (suc k))
          by None e before = subst (λ l. IsClosedIn vs (marked settled l)) (sym (take_past come k e)) before
          by (Some x) e before = closed_next k x e before

      -- a derived type that waits, and an aggregate that does
      derived_waits : (k y : ℕ) → slice_get (at k) y ≡ Some false → m ≤ y → (h : Head) × (head_of ts y ≡ Some h) × (is_derived h ≡ true)
      derived_waits k y e l = (let s = r.settles.each y false (unsettled k y e) in by s.0 s.1 s.2)
        where
          by : (g : Head) → head_of ts y ≡ Some g → IsSettledBy ts m st vs (take y settled) y false g → (h : Head) × (head_of ts y ≡ Some h) × (is_derived h ≡ true)
          by Void q b = (let w = b.1 in let bad : ⊥ = cc in absurd bad)
          by (Int kind) q b = (let w = b.1 in let bad : ⊥ = cc in absurd bad)
          by Ptr q b = (Ptr, q, refl)
          by (Array bound) q b = (Array bound, q, refl)
          by (Func proto variadic) q b = (Func proto variadic, q, refl)
          by Agg q b = (let w = b.1 in let bad : ⊥ = cc in absurd bad)
          by (Tagged kind stem) q b = (let w = b.0 in let c = r.stand.0 in absurd (omega (arith, w, c, l)))

      record IsWaiting (x : ℕ) : Type 0 where
        head : Head
        at_head : head_of ts x ≡ Some head
        values : has_values head ≡ true
        own : at_own st x ≡ x
        no_enum : is_enum_at ts x ≡ false

      aggregate_waits : (x : ℕ) → slice_get settled x ≡ Some false → x < m → IsWaiting x
      aggregate_waits x e l = (let s = r.settles.each x false e in by s.0 s.1 s.2)
        where
          by : (g : Head) → head_of ts x ≡ Some g → IsSettledBy ts m st vs (take x settled) x false g → IsWaiting x
          by Void q b = (let h = b.0 in absurd (omega (arith, h, l)))
          by (Int kind) q b = (let h = b.0 in absurd (omega (arith, h, l)))
          by Ptr q b = (let h = b.0 in absurd (omega (arith, h, l)))
          by (Array bound) q b = (let h = b.0.0 in absurd (omega (arith, h, l)))
          by (Func proto variadic) q b = (let h = b.0 in absurd (omega (arith, h, l)))
          by Agg q b = (let h = b.0 in absurd (omega (arith, h, l)))
          by (Tagged kind stem) q b = record {
            head = Tagged kind stem;
            at_head = q;
            values = refl;
            own = b.1.0;
            no_enum = ap (λ o. elim o [ None ↦ false | Some h ↦ is_enum h ]) q ∙ b.1.1;
          }

      -- an aggregate that is settled is no own one, or an enum
      settled_own : (x : ℕ) → slice_get settled x ≡ Some true → x < m → at_own st x ≡ x → is_enum_at ts x ≡ false → ⊥
      settled_own x e l own plain = (let s = r.settles.each x true e in by s.0 s.1 s.2)
        where
          by : (g : Head) → head_of ts x ≡ Some g → IsSettledBy ts m st vs (take x settled) x true g → ⊥
          by Void q b = (let h = b.0 in omega (arith, h, l))
          by (Int kind) q b = (let h = b.0 in omega (arith, h, l))
          by Ptr q b = (let h = b.0 in omega (arith, h, l))
          by (Array bound) q b = (let h = b.0.0 in omega (arith, h, l))
          by (Func proto variadic) q b = (let h = b.0 in omega (arith, h, l))
          by Agg q b = (let h = b.0 in omega (arith, h, l))
          by (Tagged kind stem) q b = elim b.1 [
            | inl n ↦ n own
            | inr i ↦ (let s : false ≡ true = sym plain ∙ ap (λ o. elim o [ None ↦ false | Some h ↦ is_enum h ]) q ∙ i in let bad : ⊥ = cc in bad)
          ]

      -- an enum is settled
      enum_settled : (x : ℕ) → x < m → is_enum_at ts x ≡ true → slice_get settled x ≡ Some true
      enum_settled x l i = elim (decide settled x (let w = r.within in let c = r.settles.count in omega (arith, l, w, c))) [
        | inl e ↦ e
        | inr e ↦ (let w = aggregate_waits x e l in let s : true ≡ false = sym i ∙ w.no_enum in let bad : ⊥ = cc in absurd bad)
      ]

      -- where no aggregate that is an element in a type is still to come, the type has come
      type_come : (k x : ℕ) → slice_get come k ≡ Some x → x < m → (g t : ℕ) → t < g → m ≤ t → t < length ts → ((a : ℕ) → a < m → HasElement ts t a → slice_get (at k) (at_own st a) ≡ Some true) → slice_get (at k) t ≡ Some true
      type_come k x e lx zero t l lm lt h = absurd (omega (arith, l))
      type_come k x e lx (suc g) t l lm lt h = elim (decide (at k) t (let c = at_length k in omega (arith, lt, c))) [
        | inl q ↦ q
        | inr q ↦ absurd (by ((f.each k x e).least t q (ready q (λ y w b c i. type_come k x e lx g y w b c i))))
      ]
        where
          by : (m ≤ x) ⊎ ((x ≤ t) × (t < m)) → ⊥
          by (inl n) = omega (arith, n, lx)
          by (inr n) = (let w = n.1 in omega (arith, w, lm))

          standing : (a : ℕ) → a < length st → HasElement ts t a → slice_get (at k) (at_own st a) ≡ Some true
          standing a w i = h a (let c = r.stand.0 in omega (arith, w, c)) i

          part : ((y : ℕ) → y < g → m ≤ y → y < length ts → ((a : ℕ) → a < m → HasElement ts y a → slice_get (at k) (at_own st a) ≡ Some true) → slice_get (at k) y ≡ Some true)
              → (q : slice_get (at k) t ≡ Some false) (y : ℕ) → IsPart ts t y → HasNeeds st vs m (has_values (waits k t q).0) t y (needs t) → slice_get (at k) y ≡ Some true
          part again q y p n = (
              let d = derived_waits k t q lm in
              let less = n.below lm in
              again y (omega (arith, l, less)) n.above (omega (arith, less, lt)) (λ a w i. h a w (λ S s. s.derived t y d.0 d.1 d.2 p (i S s))))

          value : (q : slice_get (at k) t ≡ Some false) (y w : ℕ) → IsPart ts t y → has_values (waits k t q).0 ≡ true → IsStanding st vs y w → slice_get (at k) w ≡ Some true
          value q y w p i s = (
              let n = (get_need t y (waits k t q) p).value i in
              let o = n.value s.0 s.1 in
              let array = array_of (waits k t q).0 (waits k t q).1 i in
              subst (λ z. slice_get (at k) z ≡ Some true) (sym s.2) (standing s.0 o.0 (λ S j. j.arrays t y array.0 array.1 p (get_value vs r.values (suc y) y s.0 (omega arith) s.1))))
            where
              array_of : (u : Head) → head_of ts t ≡ Some u → has_values u ≡ true → (bound : Option ℕ) × (head_of ts t ≡ Some (Array bound))
              array_of Void j o = (let bad : ⊥ = cc in absurd bad)
              array_of (Int kind) j o = (let bad : ⊥ = cc in absurd bad)
              array_of Ptr j o = (let bad : ⊥ = cc in absurd bad)
              array_of (Array bound) j o = (bound, j)
              array_of (Func proto variadic) j o = (let bad : ⊥ = cc in absurd bad)
              array_of Agg j o = (let bad : ⊥ = cc in absurd bad)
              array_of (Tagged kind stem) j o = (
                  let d = derived_waits k t q lm in
                  let u : d.0 ≡ Tagged kind stem = heads_same t d.0 (Tagged kind stem) d.1 j in
                  let w : false ≡ true = sym (ap is_derived u) ∙ d.2 in
                  let bad : ⊥ = cc in absurd bad)

          ready : (q : slice_get (at k) t ≡ Some false) → ((y : ℕ) → y < g → m ≤ y → y < length ts → ((a : ℕ) → a < m → HasElement ts y a → slice_get (at k) (at_own st a) ≡ Some true) → slice_get (at k) y ≡ Some true) → IsReady needs (at k) t
          ready q again w i = (
              let n = (waits k t q).2.only w i in
              let p : IsPart ts t n.1 = (n.0, n.2, n.3) in
              elim n.4 [
                | inl s ↦ subst (λ z. slice_get (at k) z ≡ Some true) (sym s) (part again q n.1 p (get_need t n.1 (waits k t q) p))
                | inr s ↦ value q n.1 w p s.0 s.1
              ])

      module _ (k x : ℕ) (order : List ℕ) (e : slice_get come k ≡ Some x) (lx : x < m) (a : AreListed ts m st settled come order k) where
        next : IsNext needs m (at k) x
        next = f.each k x e

        wait : IsWaiting x
        wait = aggregate_waits x (unsettled k x next.absent) lx

        -- what has come is listed
        come_listed : (b : ℕ) → b < m → slice_get (at k) (at_own st b) ≡ Some true → IsListed ts m st order b
        come_listed b l q = (
            let own = r.stand.1 b l in
            elim (a.come_are (at_own st b) own.0 q) [
              | inl s ↦ by (is_enum_at ts (at_own st b)) refl own.0 own.1 s
              | inr s ↦ s
            ])
          where
            by : (c : Bool) → is_enum_at ts (at_own st b) ≡ c → at_own st b < m → at_own st (at_own st b) ≡ at_own st b → slice_get settled (at_own st b) ≡ Some true → IsIn order (at_own st b)
            by true i w own s = a.enums (at_own st b) w (own, i)
            by false i w own s = absurd (settled_own (at_own st b) s w own i)

        -- what is listed has come
        listed_come : (b : ℕ) → IsListed ts m st order b → slice_get (at k) (at_own st b) ≡ Some true
        listed_come b i = a.listed (at_own st b) i

        may : MayStand ts m (IsOwn ts m st) (IsListed ts m st order) x
        may = inr (
          (λ c l own i. subst (IsIn order) (sym own) (a.enums c l (own, i))),
          (λ c l n. come_listed c l (
              let w = waits k x next.absent in
              let need = get_need x n.0 w n.1 in
              elim n.2 [
                | inl v ↦ (let q = (need.value (ap has_values (heads_same x w.0 wait.head w.1 wait.at_head) ∙ wait.values)).value c (value_get vs r.values n.0 c v) in next.ready (at_own st c) q.1)
                | inr v ↦ element_come vs (at k) r.values (closed k) n.0 c v (next.ready n.0 need.itself)
              ])),
        )

        -- another one that may stand and does not stand yet may come
        others : (b : ℕ) → b < m → at_own st b ≡ b → slice_get (at k) b ≡ Some false → ((c : ℕ) → c < m → Needs ts b c → IsListed ts m st order c) → IsReady needs (at k) b
        others b l own q h w i = (
            let n = waits k b q in
            let o = n.2.only w i in
            let p : IsPart ts b o.1 = (o.0, o.2, o.3) in
            let need = get_need b o.1 n p in
            elim o.4 [
              | inl s ↦ subst (λ z. slice_get (at k) z ≡ Some true) (sym s) (part n o.1 p need)
              | inr s ↦ (
                  let v = (need.value s.0).value s.1.0 s.1.1 in
                  subst (λ z. slice_get (at k) z ≡ Some true) (sym s.1.2) (listed_come s.1.0 (h s.1.0 (let c = r.stand.0 in let lv = v.0 in omega (arith, lv, c)) (o.1, p, inl (get_value vs r.values (suc o.1) o.1 s.1.0 (omega arith) s.1.1)))))
            ])
          where
            part : (n : AreNeedsOf m st vs ts b (needs b)) (y : ℕ) → IsPart ts b y → HasNeeds st vs m (has_values n.0) b y (needs b) → slice_get (at k) y ≡ Some true
            part n y p need = (
                let g = aggregate_waits b (unsettled k b q) l in
                let v = need.value (ap has_values (heads_same b n.0 g.head n.1 g.at_head) ∙ g.values) in
                let inside : y < length ts = (let c = r.values.count in let u = get_within vs y v.read.0 v.read.1 in omega (arith, c, u)) in
                type_come k x e lx (suc y) y (omega arith) need.above inside (λ c lc i. listed_come c (h c lc (y, p, inr i))))

        least : (b : ℕ) → b < m → at_own st b ≡ b → MayStand ts m (IsOwn ts m st) (IsListed ts m st order) b → ¬ (IsListed ts m st order b) → x ≤ b
        least b l own stands apart = by (is_enum_at ts b) refl
          where
            new : ¬ (IsIn order b)
            new i = apart (subst (IsIn order) (sym own) i)

            past : (m ≤ x) ⊎ ((x ≤ b) × (b < m)) → x ≤ b
            past (inl n) = absurd (omega (arith, n, lx))
            past (inr n) = n.0

            struct : is_enum_at ts b ≡ false → ((c : ℕ) → c < m → Needs ts b c → IsListed ts m st order c) → x ≤ b
            struct i h = elim (decide (at k) b (let w = r.within in let c = at_length k in omega (arith, l, w, c))) [
              | inl q ↦ elim (a.come_are b l q) [
                | inl s ↦ absurd (settled_own b s l own i)
                | inr s ↦ absurd (new s)
              ]
              | inr q ↦ past (next.least b q (others b l own q h))
            ]

            by : (c : Bool) → is_enum_at ts b ≡ c → x ≤ b
            by true i = absurd (new (a.enums b l (own, i)))
            by false i = elim stands [
              | inl s ↦ (let w : false ≡ true = sym i ∙ s in let bad : ⊥ = cc in absurd bad)
              | inr s ↦ struct i s.1
            ]

        listed_next : AreListed ts m st settled come (order ++ x ∷ []) (suc k)
        listed_next = record {
          order_so_far = λ j s q. elim (pushed_at order x j s q) [
            | inl p ↦ subst (λ l. StandsNext ts m (IsOwn ts m st) (IsListed ts m st l) s) (sym p.1) (a.order_so_far j s p.0)
            | inr p ↦ subst (λ l. StandsNext ts m (IsOwn ts m st) (IsListed ts m st l) s) (sym p.2) (subst (StandsNext ts m (IsOwn ts m st) (IsListed ts m st order)) (sym p.1) (record { may = may; least = least }))
          ];
          enums = λ c l i. (let p = a.enums c l i in (p.0, get_left order (x ∷ []) p.0 c p.1));
          listed = λ c i. subst (λ d. slice_get d c ≡ Some true) (sym (at_next k x e)) (elim (get_pushed order x c i.0 i.1) [
            | inl p ↦ mark_kept (at k) x c (a.listed c (i.0, p))
            | inr p ↦ subst (λ z. slice_get (slice_set (at k) x true) z ≡ Some true) (sym p) (mark_there (at k) x false next.absent)
          ]);
          come_are = λ c l q. elim (mark_read (at k) x c (ap (λ d. slice_get d c) (sym (at_next k x e)) ∙ q)) [
            | inl s ↦ inr (subst (IsIn (order ++ x ∷ [])) (sym s) (length order, get_end order x))
            | inr s ↦ elim (a.come_are c l s) [
              | inl t ↦ inl t
              | inr t ↦ inr (t.0, get_left order (x ∷ []) t.0 c t.1)
            ]
          ];
        }

      -- a type comes
      listed_skip : (k x : ℕ) (order : List ℕ) → slice_get come k ≡ Some x → m ≤ x → AreListed ts m st settled come order k → AreListed ts m st settled come order (suc k)
      listed_skip k x order e lx a = record {
        order_so_far = a.order_so_far;
        enums = a.enums;
        listed = λ c i. subst (λ d. slice_get d c ≡ Some true) (sym (at_next k x e)) (mark_kept (at k) x c (a.listed c i));
        come_are = λ c l q. elim (mark_read (at k) x c (ap (λ d. slice_get d c) (sym (at_next k x e)) ∙ q)) [
          | inl s ↦ absurd (omega (arith, s, l, lx))
          | inr s ↦ a.come_are c l s
        ];
      }

      pub listed_start : (order : List ℕ) → AreEnums ts m st order m → AreListed ts m st settled come order 0
      listed_start order a = record {
        order_so_far = a.order_so_far;
        enums = a.all;
        listed = λ c i. (let o = a.only c i in enum_settled c o.0 o.1.1);
        come_are = λ c l q. inl q;
      }

      pub listed_step : (k x : ℕ) (old new : List ℕ) → slice_get come k ≡ Some x → Lists m x old new → AreListed ts m st settled come old k → AreListed ts m st settled come new (k + 1)
      listed_step k x old new e lists a = subst (AreListed ts m st settled come new) (one k) (elim lists [
        | inl l ↦ subst (λ o. AreListed ts m st settled come o (suc k)) (sym l.1) (listed_next k x old e l.0 a)
        | inr l ↦ subst (λ o. AreListed ts m st settled come o (suc k)) (sym l.1) (listed_skip k x old e l.0 a)
      ])
        where
          one : (j : ℕ) → suc j ≡ j + 1
          one j = omega arith
