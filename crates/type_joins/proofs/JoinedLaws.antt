-- Device: pairs of things are joined one by one, and what follows for their parts is joined too.
use Rattle.std.proofs.Common.{◌≡◌, ◌≢◌, ◌⊎◌, inl, inr, ℕ, ◌<◌, Bool, true, false, cond, nat_eq, List, [], ◌∷◌, ◌++◌, Option, Some, None, length, get_or, slice_set, subst, refl, sym, ap, ◌∙◌, arith, MatchOption}
use Rattle.std.proofs.lemmas.Bool.{eqb-true, eq-eqb}
use Rattle.std.proofs.lemmas.List.{get_or-set_same, get_or-set_other}
use Rattle.type_things.specs.Things.{Thing, HoldsPairs, read, labels, inside_of, Agree, IsClosed, AreAlike, Fits, Forced}
use Rattle.type_joins.specs.Forests.{joined}
use Rattle.type_joins.specs.Joined.{Within, zipped, chosen_of, carried_of, chosen, carried, Stands, IsJoining}
use Rattle.type_things.proofs.NumberLaws.{same_or_not}

pub none_of : {X P : Type 0} (Q : X → Type 0) (o : Option X) → o ≡ None → MatchOption o P Q → P
none_of Q None e h = h
none_of Q (Some x) e h = cc

pub some_of : {X : Type 0} (P : Type 0) (Q : X → Type 0) (o : Option X) (x : X) → o ≡ Some x → MatchOption o P Q → Q x
some_of P Q None x e h = cc
some_of P Q (Some y) x e h = (let s : y ≡ x = cc in subst Q s h)

pub pairs_append : (e : ℕ → ℕ) (ps qs : List (ℕ × ℕ)) → HoldsPairs e ps → HoldsPairs e qs → HoldsPairs e (ps ++ qs)
pairs_append e [] qs h k = k
pairs_append e (p ∷ ps) qs h k = (h.0, pairs_append e ps qs h.1 k)

pub pairs_left : (e : ℕ → ℕ) (ps qs : List (ℕ × ℕ)) → HoldsPairs e (ps ++ qs) → HoldsPairs e ps
pairs_left e [] qs h = tt
pairs_left e (p ∷ ps) qs h = (h.0, pairs_left e ps qs h.1)

pub pairs_right : (e : ℕ → ℕ) (ps qs : List (ℕ × ℕ)) → HoldsPairs e (ps ++ qs) → HoldsPairs e qs
pairs_right e [] qs h = h
pairs_right e (p ∷ ps) qs h = pairs_right e ps qs h.1

-- what r holds, is held where e goes by r
pub held_within : (r e : ℕ → ℕ) → Within r e → (ps : List (ℕ × ℕ)) → HoldsPairs r ps → HoldsPairs e ps
held_within r e w [] h = tt
held_within r e w (p ∷ ps) h = (sym (w p.0) ∙ ap e h.0 ∙ w p.1, held_within r e w ps h.1)

module _ {L : Type 0} where
  pub zipped_read : (e : ℕ → ℕ) (ps qs : List (L × ℕ)) → labels ps ≡ labels qs → HoldsPairs e (zipped ps qs) → read e ps ≡ read e qs
  zipped_read e [] [] l h = refl
  zipped_read e [] (q ∷ qs) l h = cc
  zipped_read e (p ∷ ps) [] l h = cc
  zipped_read e (p ∷ ps) (q ∷ qs) l h =
      let first : p.0 ≡ q.0 = cc in
      let rest : labels ps ≡ labels qs = cc in
      ap (λ n. (p.0, n) ∷ read e ps) h.0 ∙ ap (λ k. (k, e q.1) ∷ read e ps) first ∙ ap (λ ks. (q.0, e q.1) ∷ ks) (zipped_read e ps qs rest h.1)

  pub read_zipped : (e : ℕ → ℕ) (ps qs : List (L × ℕ)) → read e ps ≡ read e qs → HoldsPairs e (zipped ps qs)
  read_zipped e [] qs h = tt
  read_zipped e (p ∷ ps) [] h = tt
  read_zipped e (p ∷ ps) (q ∷ qs) h =
      let whole : ◌≡◌ {A = L × ℕ} (p.0, e p.1) (q.0, e q.1) = cc in
      let first : e p.1 ≡ e q.1 = ap (λ z. z.1) whole in
      let rest : read e ps ≡ read e qs = cc in
      (first, read_zipped e ps qs rest)

  pub read_labels : (e : ℕ → ℕ) (ps qs : List (L × ℕ)) → read e ps ≡ read e qs → labels ps ≡ labels qs
  read_labels e [] [] h = refl
  read_labels e [] (q ∷ qs) h = cc
  read_labels e (p ∷ ps) [] h = cc
  read_labels e (p ∷ ps) (q ∷ qs) h =
      let whole : ◌≡◌ {A = L × ℕ} (p.0, e p.1) (q.0, e q.1) = cc in
      let first : p.0 ≡ q.0 = ap (λ z. z.0) whole in
      let rest : read e ps ≡ read e qs = cc in
      ap (λ k. k ∷ labels ps) first ∙ ap (λ ks. q.0 ∷ ks) (read_labels e ps qs rest)

  -- parts that are read by r are read by what goes by r
  pub read_by : (r e : ℕ → ℕ) → Within r e → (ps : List (L × ℕ)) → read e (read r ps) ≡ read e ps
  read_by r e w [] = refl
  read_by r e w (p ∷ ps) = ap (λ n. (p.0, n) ∷ read e (read r ps)) (w p.1) ∙ ap (λ ks. (p.0, e p.1) ∷ ks) (read_by r e w ps)

module _ {H L : Type 0} (ts : List (Thing H L)) where
  pub stands_self : (e : ℕ → ℕ) (x : ℕ) → Stands ts e x x
  stands_self e x = record { heads = refl; inside = λ ps h. (ps, h, refl) }

  stands_on : (e : ℕ → ℕ) (x s t : ℕ) → Stands ts e x s → Stands ts e s t → Stands ts e x t
  stands_on e x s t a b = record {
    heads = a.heads ∙ b.heads;
    inside = λ ps h. (let m = a.inside ps h in let n = b.inside m.0 m.1 in (n.0, n.1, m.2 ∙ n.2));
  }

  some_same : {X : Type 0} (o : Option X) (x y : X) → o ≡ Some x → o ≡ Some y → x ≡ y
  some_same o x y e f = let g : Some x ≡ Some y = sym e ∙ f in cc

  pub both_alike : (e : ℕ → ℕ) (x y s : ℕ) → Stands ts e x s → Stands ts e y s → AreAlike ts e x y
  both_alike e x y s a b = record {
    heads = a.heads ∙ sym b.heads;
    inside = λ ps qs h k. (let m = a.inside ps h in let n = b.inside qs k in m.2 ∙ ap (read e) (some_same (inside_of ts s) m.0 n.0 m.1 n.1) ∙ sym n.2);
  }

  pub begins : (r : ℕ → ℕ) (st : List ℕ) → ((x : ℕ) → r x ≡ x) → ((x : ℕ) → get_or st x x ≡ x) → IsJoining ts [] r st []
  begins r st h k = record {
    least = λ x. h (r x);
    stays = λ x. h (get_or st (r x) (r x)) ∙ k (r x);
    forced = λ e d c. ((λ x. ap e (h x)), tt);
    closed = λ e w d. (tt, λ x. subst (Stands ts e x) (sym (k (r x) ∙ h x)) (stands_self e x));
  }

  -- a pair that is joined already
  pub passes : (done : List (ℕ × ℕ)) (r : ℕ → ℕ) (st : List ℕ) (work : List (ℕ × ℕ)) (x y : ℕ) → r x ≡ r y → IsJoining ts done r st (work ++ (x, y) ∷ []) → IsJoining ts done r st work
  passes done r st work x y same j = record {
    least = j.least;
    stays = j.stays;
    forced = λ e d c. (let f = j.forced e d c in (f.0, pairs_left e work ((x, y) ∷ []) f.1));
    closed = λ e w d. j.closed e w (pairs_append e work ((x, y) ∷ []) d (sym (w x) ∙ ap e same ∙ w y, tt));
  }

  -- a pair is as good as that of its roots, in either order
  pub to_roots : (done : List (ℕ × ℕ)) (r : ℕ → ℕ) (st : List ℕ) (work : List (ℕ × ℕ)) (x y : ℕ) → IsJoining ts done r st (work ++ (x, y) ∷ []) → IsJoining ts done r st (work ++ (r x, r y) ∷ [])
  to_roots done r st work x y j = record {
    least = j.least;
    stays = j.stays;
    forced = λ e d c. (let f = j.forced e d c in (f.0, pairs_append e work ((r x, r y) ∷ []) (pairs_left e work ((x, y) ∷ []) f.1) (f.0 x ∙ (pairs_right e work ((x, y) ∷ []) f.1).0 ∙ sym (f.0 y), tt)));
    closed = λ e w d. j.closed e w (pairs_append e work ((x, y) ∷ []) (pairs_left e work ((r x, r y) ∷ []) d) (sym (w x) ∙ (pairs_right e work ((r x, r y) ∷ []) d).0 ∙ w y, tt));
  }

  pub turned : (done : List (ℕ × ℕ)) (r : ℕ → ℕ) (st : List ℕ) (work : List (ℕ × ℕ)) (x y : ℕ) → IsJoining ts done r st (work ++ (x, y) ∷ []) → IsJoining ts done r st (work ++ (y, x) ∷ [])
  turned done r st work x y j = record {
    least = j.least;
    stays = j.stays;
    forced = λ e d c. (let f = j.forced e d c in (f.0, pairs_append e work ((y, x) ∷ []) (pairs_left e work ((x, y) ∷ []) f.1) (sym (pairs_right e work ((x, y) ∷ []) f.1).0, tt)));
    closed = λ e w d. j.closed e w (pairs_append e work ((x, y) ∷ []) (pairs_left e work ((y, x) ∷ []) d) (sym (pairs_right e work ((y, x) ∷ []) d).0, tt));
  }

  -- the same roots
  pub same_roots : (done : List (ℕ × ℕ)) (r q : ℕ → ℕ) (st : List ℕ) (work : List (ℕ × ℕ)) → r ≡ q → IsJoining ts done r st work → IsJoining ts done q st work
  same_roots done r q st work e j = subst (λ k. IsJoining ts done k st work) e j

  -- two roots that have to be one
  pub forced_roots : (done : List (ℕ × ℕ)) (r : ℕ → ℕ) (st : List ℕ) (work : List (ℕ × ℕ)) (a b : ℕ) → r a ≡ a → r b ≡ b → IsJoining ts done r st (work ++ (a, b) ∷ []) → Forced ts done (get_or st a a) (get_or st b b)
  forced_roots done r st work a b ra rb j e d c =
      let f = j.forced e d c in
      let at : (z : ℕ) → r z ≡ z → e (get_or st z z) ≡ e z = λ z q. sym (f.0 (get_or st z z)) ∙ ap e (subst (λ k. r (get_or st k k) ≡ k) q (j.stays z)) in
      at a ra ∙ (pairs_right e work ((a, b) ∷ []) f.1).0 ∙ sym (at b rb)

  chosen_left : (s t : ℕ) (ps : List (L × ℕ)) → inside_of ts s ≡ Some ps → chosen ts s t ≡ s
  chosen_left s t ps h = ap (λ o. chosen_of o s t) h

  chosen_right : (s t : ℕ) → inside_of ts s ≡ None → chosen ts s t ≡ t
  chosen_right s t h = ap (λ o. chosen_of o s t) h

  chosen_is : (s t : ℕ) → (chosen ts s t ≡ s) ⊎ (chosen ts s t ≡ t)
  chosen_is s t = by (inside_of ts s)
    where
      by : (o : Option (List (L × ℕ))) → (chosen_of o s t ≡ s) ⊎ (chosen_of o s t ≡ t)
      by None = inr refl
      by (Some ps) = inl refl

  none_or : {X : Type 0} (o : Option X) → (o ≡ None) ⊎ ((x : X) × (o ≡ Some x))
  none_or None = inl refl
  none_or (Some x) = inr (x, refl)

  -- the chosen ts thing stands for both, where their parts are held
  stand_both : (e : ℕ → ℕ) (s t : ℕ) → Agree ts s t → HoldsPairs e (carried ts s t) → Stands ts e s (chosen ts s t) × Stands ts e t (chosen ts s t)
  stand_both e s t a h = elim (none_or (inside_of ts s)) [
    | inl n ↦ subst (λ k. Stands ts e s k × Stands ts e t k) (sym (chosen_right s t n)) (
      record { heads = a.heads; inside = λ ps q. (let bad : None ≡ Some ps = sym n ∙ q in cc) },
      stands_self e t,
    )
    | inr m ↦ subst (λ k. Stands ts e s k × Stands ts e t k) (sym (chosen_left s t m.0 m.1)) (
      stands_self e s,
      record { heads = sym a.heads; inside = λ qs q. (m.0, m.1, sym (zipped_read e m.0 qs (a.beside m.0 qs m.1 q) (subst (HoldsPairs e) (ap (λ o. carried_of o (inside_of ts t)) m.1 ∙ ap (carried_of (Some m.0)) q) h))) },
    )
  ]

  forced_parts : (e : ℕ → ℕ) (s t : ℕ) → e s ≡ e t → Agree ts s t → IsClosed ts e → HoldsPairs e (carried ts s t)
  forced_parts e s t same a c = elim (none_or (inside_of ts s)) [
    | inl n ↦ subst (HoldsPairs e) (sym (ap (λ o. carried_of o (inside_of ts t)) n)) tt
    | inr m ↦ elim (none_or (inside_of ts t)) [
      | inl n ↦ subst (HoldsPairs e) (sym (ap (λ o. carried_of o (inside_of ts t)) m.1 ∙ ap (carried_of (Some m.0)) n)) tt
      | inr k ↦ subst (HoldsPairs e) (sym (ap (λ o. carried_of o (inside_of ts t)) m.1 ∙ ap (carried_of (Some m.0)) k.1))
          (read_zipped e m.0 k.0 (c s t m.0 k.0 same a.heads m.1 k.1 (a.beside m.0 k.0 m.1 k.1)))
    ]
  ]

  is_high : (low high : ℕ) (r : ℕ → ℕ) (z : ℕ) → r z ≡ high → joined low high r z ≡ low
  is_high low high r z e = ap (λ b. cond b low (r z)) (eq-eqb (r z) high e)

  not_high : (low high : ℕ) (r : ℕ → ℕ) (z : ℕ) → r z ≢ high → joined low high r z ≡ r z
  not_high low high r z e = by (nat_eq (r z) high) refl
    where
      by : (b : Bool) → nat_eq (r z) high ≡ b → cond b low (r z) ≡ r z
      by true q = absurd (e (eqb-true (r z) high q))
      by false q = refl

  module _ (done : List (ℕ × ℕ)) (r : ℕ → ℕ) (st : List ℕ) (work : List (ℕ × ℕ)) (a b s t : ℕ) where
    abbrev stood : List ℕ
    stood = slice_set st a (chosen ts s t)

    by_root : (x : ℕ) (P : ℕ → Type 0) → (r x ≡ b → P a) → (r x ≢ b → P (r x)) → P (joined a b r x)
    by_root x P at_b other = elim (same_or_not (r x) b) [ inl q ↦ subst P (sym (is_high a b r x q)) (at_b q) | inr n ↦ subst P (sym (not_high a b r x n)) (other n) ]

    -- two roots are joined
    pub joins : r a ≡ a → r b ≡ b → a < b → a < length st → get_or st a a ≡ s → get_or st b b ≡ t → Agree ts s t → IsJoining ts done r st (work ++ (a, b) ∷ [])
        → IsJoining ts done (joined a b r) stood (work ++ carried ts s t)
    joins ra rb less len sa sb agree j = record {
      least = λ x. by_root x (λ z. joined a b r z ≡ z) (λ q. joined_a) (λ n. not_high a b r (r x) (λ q. n (sym (j.least x) ∙ q)) ∙ j.least x);
      stays = λ x. by_root x (λ z. joined a b r (get_or stood z z) ≡ z) (λ q. stays_a) (λ n. elim (same_or_not (r x) a) [
        | inl q ↦ subst (λ z. joined a b r (get_or stood z z) ≡ z) (sym q) stays_a
        | inr m ↦ ap (joined a b r) (stood_other (r x) m) ∙ not_high a b r (get_or st (r x) (r x)) (λ q. n (sym (j.stays x) ∙ q)) ∙ j.stays x
      ]);
      forced = λ e d c. (let f = j.forced e d c in
          let two : e a ≡ e b = (pairs_right e work ((a, b) ∷ []) f.1).0 in
          let stand_same : e s ≡ e t = subst (λ k. e k ≡ e t) sa (subst (λ k. e (get_or st a a) ≡ e k) sb (forced_roots done r st work a b ra rb j e d c)) in (
            (λ x. by_root x (λ z. e z ≡ e x) (λ q. two ∙ ap e (sym q) ∙ f.0 x) (λ n. f.0 x)),
            pairs_append e work (carried ts s t) (pairs_left e work ((a, b) ∷ []) f.1) (forced_parts e s t stand_same agree c),
          ));
      closed = λ e w d. (
          let two : e a ≡ e b = ap e (sym (is_high a b r b rb)) ∙ w b in
          let within : Within r e = λ x. elim (same_or_not (r x) b) [
            | inl q ↦ ap e q ∙ sym two ∙ ap e (sym (is_high a b r x q)) ∙ w x
            | inr n ↦ ap e (sym (not_high a b r x n)) ∙ w x
          ] in
          let old = j.closed e within (pairs_append e work ((a, b) ∷ []) (pairs_left e work (carried ts s t) d) (two, tt)) in
          let both = stand_both e s t agree (pairs_right e work (carried ts s t) d) in
          let at_s : (x : ℕ) → r x ≡ a → Stands ts e x (get_or stood a a) = λ x q.
          subst (Stands ts e x) (sym stood_a) (stands_on e x s (chosen ts s t) (subst (Stands ts e x) (ap (λ z. get_or st z z) q ∙ sa) (old.1 x)) both.0) in
          let at_t : (x : ℕ) → r x ≡ b → Stands ts e x (get_or stood a a) = λ x q.
          subst (Stands ts e x) (sym stood_a) (stands_on e x t (chosen ts s t) (subst (Stands ts e x) (ap (λ z. get_or st z z) q ∙ sb) (old.1 x)) both.1) in (
            old.0,
            λ x. by_root x (λ z. Stands ts e x (get_or stood z z)) (at_t x) (λ n. elim (same_or_not (r x) a) [
              | inl q ↦ subst (λ z. Stands ts e x (get_or stood z z)) (sym q) (at_s x q)
              | inr m ↦ subst (Stands ts e x) (sym (stood_other (r x) m)) (old.1 x)
            ]),
          ));
    }
      where
        stood_a : get_or stood a a ≡ chosen ts s t
        stood_a = get_or-set_same st a (chosen ts s t) a len

        stood_other : (z : ℕ) → z ≢ a → get_or stood z z ≡ get_or st z z
        stood_other z n = get_or-set_other st a z (chosen ts s t) z n

        joined_a : joined a b r a ≡ a
        joined_a = not_high a b r a (λ q. absurd (omega (arith, q, ra, less))) ∙ ra

        root_s : r s ≡ a
        root_s = subst (λ k. r k ≡ a) sa (subst (λ k. r (get_or st k k) ≡ k) ra (j.stays a))

        root_t : r t ≡ b
        root_t = subst (λ k. r k ≡ b) sb (subst (λ k. r (get_or st k k) ≡ k) rb (j.stays b))

        stays_a : joined a b r (get_or stood a a) ≡ a
        stays_a = ap (joined a b r) stood_a ∙ elim (chosen_is s t) [
          | inl q ↦ ap (joined a b r) q ∙ not_high a b r s (λ n. absurd (omega (arith, n, root_s, less))) ∙ root_s
          | inr q ↦ ap (joined a b r) q ∙ is_high a b r t root_t
        ]

  -- pairs are links too, which are left
  pub asks : (done : List (ℕ × ℕ)) (r : ℕ → ℕ) (st : List ℕ) (ps : List (ℕ × ℕ)) → IsJoining ts done r st [] → IsJoining ts (done ++ ps) r st ps
  asks done r st ps j = record {
    least = j.least;
    stays = j.stays;
    forced = λ e d c. ((j.forced e (pairs_left e done ps d) c).0, pairs_right e done ps d);
    closed = λ e w d. (let f = j.closed e w tt in (pairs_append e done ps f.0 d, f.1));
  }

  -- other links that are held, and hold those
  pub exchanges : (done all : List (ℕ × ℕ)) (r : ℕ → ℕ) (st : List ℕ) → ((e : ℕ → ℕ) → HoldsPairs e all → HoldsPairs e done) → HoldsPairs r all → IsJoining ts done r st [] → IsJoining ts all r st []
  exchanges done all r st less h j = record {
    least = j.least;
    stays = j.stays;
    forced = λ e d c. j.forced e (less e d) c;
    closed = λ e w d. (held_within r e w all h, (j.closed e w tt).1);
  }

  -- when nothing is left
  pub fits_joined : (done : List (ℕ × ℕ)) (r : ℕ → ℕ) (st : List ℕ) → IsJoining ts done r st [] → Fits ts r
  fits_joined done r st j x y same =
      let s = (j.closed r j.least tt).1 in
      both_alike r x y (get_or st (r x) (r x)) (s x) (subst (λ k. Stands ts r y (get_or st k k)) (sym same) (s y))

  pub holds_joined : (done : List (ℕ × ℕ)) (r : ℕ → ℕ) (st : List ℕ) → IsJoining ts done r st [] → HoldsPairs r done
  holds_joined done r st j = (j.closed r j.least tt).0

  pub forced_joined : (done : List (ℕ × ℕ)) (r : ℕ → ℕ) (st : List ℕ) → IsJoining ts done r st [] → (e : ℕ → ℕ) → HoldsPairs e done → IsClosed ts e → Within r e
  forced_joined done r st j e d c = (j.forced e d c).0

  pub fits_closed : (e : ℕ → ℕ) → Fits ts e → IsClosed ts e
  fits_closed e f x y ps qs same heads h k l = (f x y same).inside ps qs h k

  -- what differs and has to be one, lets no equivalence fit
  pub clash_apart : (done : List (ℕ × ℕ)) (s t : ℕ) → Forced ts done s t → ¬ (Agree ts s t) → (e : ℕ → ℕ) → HoldsPairs e done → Fits ts e → ⊥
  clash_apart done s t forced apart e h f =
      let a = f s t (forced e h (fits_closed e f)) in
      apart (record { heads = a.heads; beside = λ ps qs p q. read_labels e ps qs (a.inside ps qs p q) })
