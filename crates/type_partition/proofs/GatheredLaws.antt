-- Device: isomorphic things are joined to those that links join, and what comes is closed already.
use Rattle.std.proofs.Common.{◌≡◌, ◌≢◌, ◌⊎◌, inl, inr, ℕ, zero, suc, ◌<◌, ◌≤◌, Bool, true, false, cond, not, ◌&&◌, nat_eq, List, [], ◌∷◌, Option, Some, subst, refl, sym, ap, ◌∙◌, arith, true≢false}
use Rattle.std.proofs.lemmas.Bool.{eqb-true, eq-eqb}
use Rattle.type_things.specs.Things.{Thing, HoldsPairs, AllHeld, read, inside_of, IsLocal, Isomorphic, AreAlike, Fits}
use Rattle.type_joins.specs.Forests.{joined}
use Rattle.type_joins.specs.Joined.{zipped, IsJoining}
use Rattle.type_partition.specs.Partition.{Twins, AreNumbers, AreFirsts, Covers, IsGathering, ArePartition}
use Rattle.type_things.proofs.NumberLaws.{same_or_not}
use Rattle.type_joins.proofs.JoinedLaws.{held_within, zipped_read, read_zipped, read_labels, read_by, fits_joined, holds_joined, forced_joined, fits_closed}

module _ {H L : Type 0} (ts : List (Thing H L)) where
  abbrev relates : (ℕ → ℕ) → ℕ → ℕ → Bool
  relates i u v = not (nat_eq u v) && nat_eq (i u) (i v)

  and_left : (a b : Bool) → (a && b) ≡ true → a ≡ true
  and_left true b e = refl
  and_left false b e = e

  and_right : (a b : Bool) → (a && b) ≡ true → b ≡ true
  and_right true b e = e
  and_right false b e = cc

  relates_held : (i : ℕ → ℕ) (ps qs : List (L × ℕ)) → read i ps ≡ read i qs → AllHeld (relates i) ps qs
  relates_held i [] [] h = tt
  relates_held i [] (q ∷ qs) h = (let bad : ⊥ = cc in bad)
  relates_held i (p ∷ ps) [] h = (let bad : ⊥ = cc in bad)
  relates_held i (p ∷ ps) (q ∷ qs) h =
      let whole : ◌≡◌ {A = L × ℕ} (p.0, i p.1) (q.0, i q.1) = cc in
      let rest : read i ps ≡ read i qs = cc in
      (ap (λ z. z.0) whole, at (nat_eq p.1 q.1) refl (ap (λ z. z.1) whole), relates_held i ps qs rest)
    where
      at : (b : Bool) → nat_eq p.1 q.1 ≡ b → i p.1 ≡ i q.1 → (p.1 ≡ q.1) ⊎ (relates i p.1 q.1 ≡ true)
      at true e f = inl (eqb-true p.1 q.1 e)
      at false e f = inr (ap (λ b. not b && nat_eq (i p.1) (i q.1)) e ∙ eq-eqb (i p.1) (i q.1) f)

  relates_local : (i : ℕ → ℕ) → ((x y : ℕ) → i x ≡ i y → (x ≡ y) ⊎ Twins ts i x y) → IsLocal ts (relates i)
  relates_local i alike x y e = elim (alike x y (eqb-true (i x) (i y) (and_right (not (nat_eq x y)) (nat_eq (i x) (i y)) e))) [
    | inl same ↦ (let bad : false ≡ true = sym (ap not (eq-eqb x y same)) ∙ and_left (not (nat_eq x y)) (nat_eq (i x) (i y)) e in absurd (true≢false (sym bad)))
    | inr t ↦ record { heads = t.heads; left = t.left; right = t.right; inside_left = t.inside_left; inside_right = t.inside_right; parts = relates_held i t.left t.right t.parts }
  ]

  pub numbers_isomorphic : (i : ℕ → ℕ) → ((x y : ℕ) → i x ≡ i y → (x ≡ y) ⊎ Twins ts i x y) → (x y : ℕ) → i x ≡ i y → Isomorphic ts x y
  numbers_isomorphic i alike x y e = elim (same_or_not x y) [
    | inl same ↦ inl same
    | inr n ↦ inr (relates i, relates_local i alike, at (nat_eq x y) refl n)
  ]
    where
      at : (b : Bool) → nat_eq x y ≡ b → x ≢ y → relates i x y ≡ true
      at true q n = absurd (n (eqb-true x y q))
      at false q n = ap (λ b. not b && nat_eq (i x) (i y)) q ∙ eq-eqb (i x) (i y) e

  pub gathers : (done : List (ℕ × ℕ)) (r l : ℕ → ℕ) (st : List ℕ) → IsJoining ts done r st [] → IsGathering ts r l r 0
  gathers done r l st j = record {
    least = j.least;
    roots = j.least;
    firsts = λ x h. absurd (omega arith);
    forced = λ e c. c.roots;
    alike = λ e c x y same. (let a = fits_joined ts done r st j x y same in record {
      heads = a.heads;
      inside = λ ps qs p q. sym (read_by r e c.roots ps) ∙ ap (read e) (a.inside ps qs p q) ∙ read_by r e c.roots qs;
    });
  }

  alike_turned : (e : ℕ → ℕ) (x y : ℕ) → AreAlike ts e x y → AreAlike ts e y x
  alike_turned e x y a = record { heads = sym a.heads; inside = λ ps qs p q. sym (a.inside qs ps q p) }

  alike_on : (e : ℕ → ℕ) (x y z : ℕ) (ps : List (L × ℕ)) → inside_of ts y ≡ Some ps → AreAlike ts e x y → AreAlike ts e y z → AreAlike ts e x z
  alike_on e x y z ps h a b = record { heads = a.heads ∙ b.heads; inside = λ qs rs q r. a.inside qs ps q h ∙ b.inside ps rs h r }

  some_same : {X : Type 0} (o : Option X) (x y : X) → o ≡ Some x → o ≡ Some y → x ≡ y
  some_same o x y e f = let g : Some x ≡ Some y = sym e ∙ f in cc

  pub by_numbers : (i l r e : ℕ → ℕ) → AreFirsts i l → Covers r l e → (x y : ℕ) → i x ≡ i y → e x ≡ e y
  by_numbers i l r e f c x y same = sym (c.firsts x) ∙ ap e (f.one x y same) ∙ c.firsts y

  pairs_by : (i e : ℕ → ℕ) → ((x y : ℕ) → i x ≡ i y → e x ≡ e y) → (ps : List (ℕ × ℕ)) → HoldsPairs i ps → HoldsPairs e ps
  pairs_by i e w [] h = tt
  pairs_by i e w (p ∷ ps) h = (w p.0 p.1 h.0, pairs_by i e w ps h.1)

  twins_alike : (i e : ℕ → ℕ) → ((x y : ℕ) → i x ≡ i y → e x ≡ e y) → (x y : ℕ) → Twins ts i x y → AreAlike ts e x y
  twins_alike i e w x y t = record {
    heads = t.heads;
    inside = λ ps qs p q. (
        let left : ps ≡ t.left = some_same (inside_of ts x) ps t.left p t.inside_left in
        let right : qs ≡ t.right = some_same (inside_of ts y) qs t.right q t.inside_right in
        ap (read e) left ∙ zipped_read e t.left t.right (read_labels i t.left t.right t.parts) (pairs_by i e w (zipped t.left t.right) (read_zipped i t.left t.right t.parts)) ∙ ap (read e) (sym right));
  }

  pub gathered_same : (r l g : ℕ → ℕ) (k : ℕ) → g (l k) ≡ g k → IsGathering ts r l g k → IsGathering ts r l g (suc k)
  gathered_same r l g k same j = record {
    least = j.least;
    roots = j.roots;
    firsts = λ x h. elim (same_or_not x k) [ inl e ↦ subst (λ z. g (l z) ≡ g z) (sym e) same | inr n ↦ j.firsts x (omega (arith, h, n)) ];
    forced = j.forced;
    alike = j.alike;
  }

  is_high : (low high : ℕ) (r : ℕ → ℕ) (z : ℕ) → r z ≡ high → joined low high r z ≡ low
  is_high low high r z e = ap (λ b. cond b low (r z)) (eq-eqb (r z) high e)

  not_high : (low high : ℕ) (r : ℕ → ℕ) (z : ℕ) → r z ≢ high → joined low high r z ≡ r z
  not_high low high r z e = by (nat_eq (r z) high) refl
    where
      by : (b : Bool) → nat_eq (r z) high ≡ b → cond b low (r z) ≡ r z
      by true q = absurd (e (eqb-true (r z) high q))
      by false q = refl

  module _ (i r l g : ℕ → ℕ) (u v k : ℕ) where
    -- the roots of two things of one number are joined; they are k and the one that stands for its number, in some order
    pub gathered_joined : AreNumbers ts i → AreFirsts i l → i u ≡ i v → g u < g v → ((u ≡ k) × (v ≡ l k)) ⊎ ((u ≡ l k) × (v ≡ k)) → IsGathering ts r l g k → IsGathering ts r l (joined (g u) (g v) g) (suc k)
    gathered_joined num fs same less which j = record {
      least = λ x. by_root x (λ z. q z ≡ z) (λ h. q_low) (λ n. not_high (g u) (g v) g (g x) (λ h. n (sym (j.least x) ∙ h)) ∙ j.least x);
      roots = λ x. ap to (j.roots x);
      firsts = λ x h. elim (same_or_not x k) [
        | inl e ↦ subst (λ z. q (l z) ≡ q z) (sym e) (elim which [
          | inl w ↦ subst (λ z. q z ≡ q k) w.1 (subst (λ z. q v ≡ q z) w.0 (q_v ∙ sym q_u))
          | inr w ↦ subst (λ z. q z ≡ q k) w.0 (subst (λ z. q u ≡ q z) w.1 (q_u ∙ sym q_v))
        ])
        | inr n ↦ ap to (j.firsts x (omega (arith, h, n)))
      ];
      forced = λ e c x. by_root x (λ z. e z ≡ e x)
          (λ h. j.forced e c u ∙ by_numbers i l r e fs c u v same ∙ sym (j.forced e c v) ∙ ap e (sym h) ∙ j.forced e c x)
          (λ n. j.forced e c x);
      alike = λ e c x y h. alike_at e c x y h;
    }
      where
        to : ℕ → ℕ
        to z = cond (nat_eq z (g v)) (g u) z

        q : ℕ → ℕ
        q z = joined (g u) (g v) g z

        by_root : (x : ℕ) (P : ℕ → Type 0) → (g x ≡ g v → P (g u)) → (g x ≢ g v → P (g x)) → P (joined (g u) (g v) g x)
        by_root x P at_v other = elim (same_or_not (g x) (g v)) [ inl h ↦ subst P (sym (is_high (g u) (g v) g x h)) (at_v h) | inr n ↦ subst P (sym (not_high (g u) (g v) g x n)) (other n) ]

        q_low : joined (g u) (g v) g (g u) ≡ g u
        q_low = not_high (g u) (g v) g (g u) (λ h. absurd (omega (arith, h, j.least u, less))) ∙ j.least u

        q_u : joined (g u) (g v) g u ≡ g u
        q_u = not_high (g u) (g v) g u (λ h. absurd (omega (arith, h, less)))

        q_v : joined (g u) (g v) g v ≡ g u
        q_v = is_high (g u) (g v) g v refl

        two : Twins ts i u v
        two = elim (num.alike u v same) [ inl h ↦ absurd (let f : g u ≡ g v = ap g h in omega (arith, f, less)) | inr t ↦ t ]

        across : (e : ℕ → ℕ) → Covers r l e → (x y : ℕ) → g x ≡ g v → g y ≡ g u → AreAlike ts e x y
        across e c x y hx hy =
            alike_on e x v y two.right two.inside_right (j.alike e c x v hx)
            (alike_on e v u y two.left two.inside_left (alike_turned e u v (twins_alike i e (by_numbers i l r e fs c) u v two)) (j.alike e c u y (sym hy)))

        alike_at : (e : ℕ → ℕ) → Covers r l e → (x y : ℕ) → joined (g u) (g v) g x ≡ joined (g u) (g v) g y → AreAlike ts e x y
        alike_at e c x y h = elim (same_or_not (g x) (g v)) [
          | inl a ↦ elim (same_or_not (g y) (g v)) [
            | inl b ↦ j.alike e c x y (a ∙ sym b)
            | inr b ↦ across e c x y a (sym (not_high (g u) (g v) g y b) ∙ sym h ∙ is_high (g u) (g v) g x a)
          ]
          | inr a ↦ elim (same_or_not (g y) (g v)) [
            | inl b ↦ alike_turned e y x (across e c y x b (sym (not_high (g u) (g v) g x a) ∙ h ∙ is_high (g u) (g v) g y b))
            | inr b ↦ j.alike e c x y (sym (not_high (g u) (g v) g x a) ∙ h ∙ not_high (g u) (g v) g y b)
          ]
        ]

  pub gathered : (done : List (ℕ × ℕ)) (i r l g : ℕ → ℕ) (st : List ℕ) (k : ℕ) → IsJoining ts done r st [] → AreNumbers ts i → AreFirsts i l → ((x : ℕ) → k ≤ x → l x ≡ x) → IsGathering ts r l g k → ArePartition ts done g
  gathered done i r l g st k j num fs beyond m = record {
    same = λ x y h e js. (
        let w = m.forced e (record { roots = forced_joined ts done r st j e js.links js.closed; firsts = λ z. js.isomorphic (l z) z (numbers_isomorphic i num.alike (l z) z (fs.same z)) }) in
        sym (w x) ∙ ap e h ∙ w y);
    found = λ x y h. h g (record {
      isomorphic = λ a b f. by_numbers i l r g fs covers a b (num.coarse a b f);
      links = held_within r g m.roots done (holds_joined ts done r st j);
      closed = fits_closed ts g fits;
    });
    fits = fits;
    links = held_within r g m.roots done (holds_joined ts done r st j);
  }
    where
      less_or : (a b : ℕ) → (a < b) ⊎ (b ≤ a)
      less_or a zero = inr (omega arith)
      less_or zero (suc b) = inl (omega arith)
      less_or (suc a) (suc b) = elim (less_or a b) [ inl h ↦ inl (omega (arith, h)) | inr h ↦ inr (omega (arith, h)) ]

      covers : Covers r l g
      covers = record { roots = m.roots; firsts = λ x. elim (less_or x k) [ inl h ↦ m.firsts x h | inr h ↦ ap g (beyond x h) ] }

      fits : Fits ts g
      fits = m.alike g covers
