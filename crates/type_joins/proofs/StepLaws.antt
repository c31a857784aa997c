-- Device: the steps of the functions that join things, over plain values.
use Rattle.std.proofs.Common.{◌≡◌, ℕ, zero, suc, ◌+◌, ◌<◌, ◌≤◌, Bool, true, false, nat_eq, List, [], ◌∷◌, ◌++◌, length, get_or, take, drop, slice_set, MatchBool, Result, Ok, Err, OnOk, subst, refl, sym, ap, ◌∙◌, append_assoc, arith, true≢false}
use mathlib.Core.Path.{fun_ext}
use Rattle.std.proofs.lemmas.Bool.{eqb-true, eq-eqb}
use Rattle.type_things.specs.declared.web.Head.{Head}
use Rattle.type_things.specs.declared.web.Label.{Label}
use Rattle.type_things.specs.Things.{Thing, labels, Forced, Agree, IsClash}
use Rattle.type_joins.specs.Forests.{parent, root, IsForest, joined}
use Rattle.type_joins.specs.Joined.{zipped, chosen, carried, IsJoining}
use Rattle.type_joins.proofs.ForestLaws.{root_top, root_parent, root_of_top, root_root, halved, linked, skipped}
use Rattle.type_joins.proofs.JoinedLaws.{passes, to_roots, turned, same_roots, forced_roots, joins}

-- a step up: the number's parent is above, and above it another one
pub find_step : (ps ds es qs : List ℕ) (x p a : ℕ) → ds ≡ ps → es ≡ ps → IsForest ps → x < length ds → ((d : ℕ) → get_or ds x d ≡ p) → ((d : ℕ) → get_or es p d ≡ a) → qs ≡ slice_set ps x a
    → IsForest qs × ((y : ℕ) → root qs y ≡ root ps y) × (root qs a ≡ root ps x)
find_step ps ds es qs x p a ed ee f hd at_d at_e e =
    let h : x < length ps = subst (λ l. x < length l) ed hd in
    let at_x : (d : ℕ) → get_or ps x d ≡ p = λ d. ap (λ l. get_or l x d) (sym ed) ∙ at_d d in
    let at_p : (d : ℕ) → get_or ps p d ≡ a = λ d. ap (λ l. get_or l p d) (sym ee) ∙ at_e d in
    let above : a ≡ parent ps (parent ps x) = sym (at_p p) ∙ ap (λ z. get_or ps z z) (sym (at_x x)) in
    let same : qs ≡ skipped ps x = e ∙ ap (slice_set ps x) above in
    let half = halved ps x f h in (
      subst IsForest (sym same) half.0,
      λ y. ap (λ l. root l y) same ∙ half.1 y,
      ap (λ l. root l a) same ∙ half.1 a ∙ ap (root ps) above ∙ root_parent ps f (parent ps x) ∙ root_parent ps f x,
    )

pub find_end : (ps ds : List ℕ) (x p : ℕ) → ds ≡ ps → ((d : ℕ) → get_or ds x d ≡ p) → p ≡ x → x ≡ root ps x
find_end ps ds x p ed at e = sym (root_of_top ps x (ap (λ l. get_or l x x) (sym ed) ∙ at x ∙ e))

pub join_forest : (ps qs : List ℕ) (low high : ℕ) → IsForest ps → low < high → root ps low ≡ low → root ps high ≡ high → high < length ps → qs ≡ slice_set ps high low → IsForest qs × ((y : ℕ) → root qs y ≡ joined low high (root ps) y)
join_forest ps qs low high f less l h len e =
    let top : (z : ℕ) → root ps z ≡ z → parent ps z ≡ z = λ z q. subst (λ k. parent ps k ≡ k) q (root_top ps f z) in
    let link = linked ps low high f less len (top low l) (top high h) in
    (subst IsForest (sym e) link.0, λ y. ap (λ ks. root ks y) e ∙ link.1 y)

module _ (ts : List (Thing Head Label)) where
  pub same_roots_at : (done : List (ℕ × ℕ)) (r q : ℕ → ℕ) (st : List ℕ) (work : List (ℕ × ℕ)) → ((y : ℕ) → q y ≡ r y) → IsJoining ts done r st work → IsJoining ts done q st work
  same_roots_at done r q st work h j = same_roots ts done r q st work (fun_ext (λ y. sym (h y))) j

  -- two roots are found, and they are one
  pub settle_same : (done : List (ℕ × ℕ)) (r q s : ℕ → ℕ) (st : List ℕ) (work : List (ℕ × ℕ)) (x y a b : ℕ) → a ≡ r x → ((z : ℕ) → q z ≡ r z) → b ≡ q y → ((z : ℕ) → s z ≡ q z) → a ≡ b → IsJoining ts done r st (work ++ (x, y) ∷ []) → IsJoining ts done s st work
  settle_same done r q s st work x y a b ea hq eb hs e j =
      same_roots_at done r s st work (λ z. hs z ∙ hq z) (passes ts done r st work x y (sym ea ∙ e ∙ eb ∙ hq y) j)

  -- two roots are found, the first of which is the lesser one
  pub settle_roots : (done : List (ℕ × ℕ)) (r q s : ℕ → ℕ) (st : List ℕ) (work : List (ℕ × ℕ)) (x y a b : ℕ) → a ≡ r x → ((z : ℕ) → q z ≡ r z) → b ≡ q y → ((z : ℕ) → s z ≡ q z) → IsJoining ts done r st (work ++ (x, y) ∷ []) → IsJoining ts done s st (work ++ (a, b) ∷ [])
  settle_roots done r q s st work x y a b ea hq eb hs j =
      subst (λ p. IsJoining ts done s st (work ++ p ∷ [])) (ap (λ z. (z, r y)) (sym ea) ∙ ap (λ z. (a, z)) (sym (eb ∙ hq y))) (same_roots_at done r s st (work ++ (r x, r y) ∷ []) (λ z. hs z ∙ hq z) (to_roots ts done r st work x y j))

  pub settle_turned : (done : List (ℕ × ℕ)) (r q s : ℕ → ℕ) (st : List ℕ) (work : List (ℕ × ℕ)) (x y a b : ℕ) → a ≡ r x → ((z : ℕ) → q z ≡ r z) → b ≡ q y → ((z : ℕ) → s z ≡ q z) → IsJoining ts done r st (work ++ (x, y) ∷ []) → IsJoining ts done s st (work ++ (b, a) ∷ [])
  settle_turned done r q s st work x y a b ea hq eb hs j = turned ts done s st work a b (settle_roots done r q s st work x y a b ea hq eb hs j)

  -- the two things that stand for two roots differ
  pub join_clash : (done : List (ℕ × ℕ)) (r : ℕ → ℕ) (st : List ℕ) (work : List (ℕ × ℕ)) (a b s t : ℕ) → r a ≡ a → r b ≡ b → ((d : ℕ) → get_or st a d ≡ s) → ((d : ℕ) → get_or st b d ≡ t) → ¬ (Agree ts s t) → IsJoining ts done r st (work ++ (a, b) ∷ []) → IsClash ts done (s, t)
  join_clash done r st work a b s t ra rb sa sb apart j = record {
    forced = subst (λ z. Forced ts done z t) (sa a) (subst (λ z. Forced ts done (get_or st a a) z) (sb b) (forced_roots ts done r st work a b ra rb j));
    differ = apart;
  }

  -- they do not differ
  pub join_step : (done : List (ℕ × ℕ)) (r q : ℕ → ℕ) (st after : List ℕ) (work more : List (ℕ × ℕ)) (a b s t k : ℕ) → r a ≡ a → r b ≡ b → a < b → a < length st → ((d : ℕ) → get_or st a d ≡ s) → ((d : ℕ) → get_or st b d ≡ t) → Agree ts s t
      → ((y : ℕ) → q y ≡ joined a b r y) → k ≡ chosen ts s t → after ≡ slice_set st a k → more ≡ work ++ carried ts s t
      → IsJoining ts done r st (work ++ (a, b) ∷ []) → IsJoining ts done q after more
  join_step done r q st after work more a b s t k ra rb less len sa sb agree hq ek ea em j =
      subst (λ w. IsJoining ts done q after w) (sym em)
      (subst (λ l. IsJoining ts done q l (work ++ carried ts s t)) (sym (ea ∙ ap (slice_set st a) ek))
      (same_roots_at done (joined a b r) q (slice_set st a (chosen ts s t)) (work ++ carried ts s t) hq (joins ts done r st work a b s t ra rb less len (sa a) (sb b) agree j)))

module _ {L : Type 0} where
  pub labels_length : (ps qs : List (L × ℕ)) → labels ps ≡ labels qs → length ps ≡ length qs
  labels_length [] [] e = refl
  labels_length [] (q ∷ qs) e = cc
  labels_length (p ∷ ps) [] e = cc
  labels_length (p ∷ ps) (q ∷ qs) e = (let rest : labels ps ≡ labels qs = cc in ap suc (labels_length ps qs rest))

  pub labels_get : (ps qs : List (L × ℕ)) (i : ℕ) (d e : L × ℕ) → i < length ps → labels ps ≡ labels qs → (get_or ps i d).0 ≡ (get_or qs i e).0
  labels_get [] qs i d e h l = absurd (omega (arith, h))
  labels_get (p ∷ ps) [] i d e h l = cc
  labels_get (p ∷ ps) (q ∷ qs) zero d e h l = cc
  labels_get (p ∷ ps) (q ∷ qs) (suc i) d e h l = (let rest : labels ps ≡ labels qs = cc in labels_get ps qs i d e (omega (arith, h)) rest)

  labels_next : (ps qs : List (L × ℕ)) (i : ℕ) (d e : L × ℕ) → i < length ps → i < length qs → labels (take i ps) ≡ labels (take i qs) → (get_or ps i d).0 ≡ (get_or qs i e).0 → labels (take (suc i) ps) ≡ labels (take (suc i) qs)
  labels_next [] qs i d e h k l s = absurd (omega (arith, h))
  labels_next (p ∷ ps) [] i d e h k l s = absurd (omega (arith, k))
  labels_next (p ∷ ps) (q ∷ qs) zero d e h k l s = ap (λ z. z ∷ []) s
  labels_next (p ∷ ps) (q ∷ qs) (suc i) d e h k l s =
      let first : p.0 ≡ q.0 = cc in
      let rest : labels (take i ps) ≡ labels (take i qs) = cc in
      ap (λ z. z ∷ labels (take (suc i) ps)) first ∙ ap (λ z. q.0 ∷ z) (labels_next ps qs i d e (omega (arith, h)) (omega (arith, k)) rest s)

  pub labels_step : (ps qs : List (L × ℕ)) (i : ℕ) (d e : L × ℕ) → i < length ps → i < length qs → labels (take i ps) ≡ labels (take i qs) → (get_or ps i d).0 ≡ (get_or qs i e).0 → labels (take (i + 1) ps) ≡ labels (take (i + 1) qs)
  labels_step ps qs i d e h k l s = (let on : i + 1 ≡ suc i = omega arith in subst (λ j. labels (take j ps) ≡ labels (take j qs)) (sym on) (labels_next ps qs i d e h k l s))

  take_over : (ps : List (L × ℕ)) (n : ℕ) → length ps ≤ n → take n ps ≡ ps
  take_over [] zero h = refl
  take_over [] (suc n) h = refl
  take_over (p ∷ ps) zero h = absurd (omega (arith, h))
  take_over (p ∷ ps) (suc n) h = ap (λ l. p ∷ l) (take_over ps n (omega (arith, h)))

  pub labels_all : (ps qs : List (L × ℕ)) (n : ℕ) → length ps ≤ n → length qs ≤ n → labels (take n ps) ≡ labels (take n qs) → labels ps ≡ labels qs
  labels_all ps qs n h k l = ap labels (sym (take_over ps n h)) ∙ l ∙ ap labels (take_over qs n k)

  drop_next : (ps : List (L × ℕ)) (i : ℕ) (d : L × ℕ) → i < length ps → drop i ps ≡ get_or ps i d ∷ drop (suc i) ps
  drop_next [] i d h = absurd (omega (arith, h))
  drop_next (p ∷ ps) zero d h = refl
  drop_next (p ∷ ps) (suc i) d h = drop_next ps i d (omega (arith, h))

  drop_over : (ps : List (L × ℕ)) (n : ℕ) → length ps ≤ n → drop n ps ≡ []
  drop_over [] zero h = refl
  drop_over [] (suc n) h = refl
  drop_over (p ∷ ps) zero h = absurd (omega (arith, h))
  drop_over (p ∷ ps) (suc n) h = drop_over ps n (omega (arith, h))

  zipped_none : (ps : List (L × ℕ)) → zipped ps [] ≡ []
  zipped_none [] = refl
  zipped_none (p ∷ ps) = refl

  pub zipped_past : (ps qs : List (L × ℕ)) (i : ℕ) → length qs ≤ i → zipped (drop i ps) (drop i qs) ≡ []
  zipped_past ps qs i h = ap (zipped (drop i ps)) (drop_over qs i h) ∙ zipped_none (drop i ps)

  pub zipped_end : (ps qs : List (L × ℕ)) (i : ℕ) → length ps ≤ i → zipped (drop i ps) (drop i qs) ≡ []
  zipped_end ps qs i h = ap (λ l. zipped l (drop i qs)) (drop_over ps i h)

  pub zipped_step : (work after all : List (ℕ × ℕ)) (ps qs : List (L × ℕ)) (i : ℕ) (d e : L × ℕ) → i < length ps → i < length qs → after ≡ work ++ ((get_or ps i d).1, (get_or qs i e).1) ∷ [] → work ++ zipped (drop i ps) (drop i qs) ≡ all → after ++ zipped (drop (i + 1) ps) (drop (i + 1) qs) ≡ all
  zipped_step work after all ps qs i d e h k s inv =
      let on : i + 1 ≡ suc i = omega arith in
      let pair : ℕ × ℕ = ((get_or ps i d).1, (get_or qs i e).1) in
      ap (λ j. after ++ zipped (drop j ps) (drop j qs)) on
      ∙ ap (λ w. w ++ zipped (drop (suc i) ps) (drop (suc i) qs)) s
      ∙ append_assoc work (pair ∷ []) (zipped (drop (suc i) ps) (drop (suc i) qs))
      ∙ ap (λ l. work ++ l) (sym (ap (λ l. zipped l (drop i qs)) (drop_next ps i d h) ∙ ap (zipped (get_or ps i d ∷ drop (suc i) ps)) (drop_next qs i e k)))
      ∙ inv

pub own_roots : (ps : List ℕ) → ((x : ℕ) → get_or ps x x ≡ x) → IsForest ps × ((x : ℕ) → root ps x ≡ x)
own_roots ps h = ((λ x. (let e = h x in omega (arith, e))), λ x. root_of_top ps x (h x))

on_two : {T E A B C : Type 0} (r : Result T E) → (A → B → C) → OnOk r A → OnOk r B → OnOk r C
on_two (Ok x) f a b = f a b
on_two (Err e) f a b = a

pub put_forest : {T E : Type 0} (r : Result T E) (ps qs : List ℕ) (low high : ℕ) → IsForest ps → low < high → root ps low ≡ low → root ps high ≡ high → OnOk r (high < length ps) → OnOk r (qs ≡ slice_set ps high low) → OnOk r (IsForest qs)
put_forest r ps qs low high f less l h = on_two r (λ a e. (join_forest ps qs low high f less l h a e).0)

pub put_joined : {T E : Type 0} (r : Result T E) (ps qs : List ℕ) (low high : ℕ) → IsForest ps → low < high → root ps low ≡ low → root ps high ≡ high → OnOk r (high < length ps) → OnOk r (qs ≡ slice_set ps high low) → OnOk r ((y : ℕ) → root qs y ≡ joined low high (root ps) y)
put_joined r ps qs low high f less l h = on_two r (λ a e. (join_forest ps qs low high f less l h a e).1)

-- two roots are compared
pub same_root : (r q : ℕ → ℕ) (x y a b : ℕ) → a ≡ r x → b ≡ q y → ((z : ℕ) → q z ≡ r z) → MatchBool (nat_eq a b) (r x ≡ r y) (¬ (r x ≡ r y))
same_root r q x y a b ea eb h = by (nat_eq a b) refl
  where
    by : (c : Bool) → nat_eq a b ≡ c → MatchBool c (r x ≡ r y) (¬ (r x ≡ r y))
    by true e = sym ea ∙ eqb-true a b e ∙ eb ∙ h y
    by false e = λ f. true≢false (sym (eq-eqb a b (ea ∙ f ∙ sym (h y) ∙ sym eb)) ∙ e)

-- roots that were found are roots
pub found_first : (ps : List ℕ) (q s : ℕ → ℕ) (x a : ℕ) → IsForest ps → a ≡ root ps x → ((z : ℕ) → q z ≡ root ps z) → ((z : ℕ) → s z ≡ q z) → s a ≡ a
found_first ps q s x a f e hq hs = hs a ∙ hq a ∙ ap (root ps) e ∙ root_root ps f x ∙ sym e

pub found_second : (ps : List ℕ) (s : ℕ → ℕ) (y b : ℕ) → IsForest ps → b ≡ root ps y → ((z : ℕ) → s z ≡ root ps z) → s b ≡ b
found_second ps s y b f e hs = hs b ∙ ap (root ps) e ∙ root_root ps f y ∙ sym e

read_at : (st ds : List ℕ) (a s : ℕ) → ds ≡ st → ((d : ℕ) → get_or ds a d ≡ s) → (d : ℕ) → get_or st a d ≡ s
read_at st ds a s e h d = ap (λ l. get_or l a d) (sym e) ∙ h d

module _ (ts : List (Thing Head Label)) where
  pub clash_read : (done : List (ℕ × ℕ)) (r : ℕ → ℕ) (st ds es : List ℕ) (work : List (ℕ × ℕ)) (a b s t : ℕ) (c : Bool) → ds ≡ st → es ≡ st → r a ≡ a → r b ≡ b → ((d : ℕ) → get_or ds a d ≡ s) → ((d : ℕ) → get_or es b d ≡ t) → MatchBool c (Agree ts s t) (¬ (Agree ts s t)) → c ≡ false → IsJoining ts done r st (work ++ (a, b) ∷ []) → IsClash ts done (s, t)
  clash_read done r st ds es work a b s t c ed ee ra rb sa sb m e j = join_clash ts done r st work a b s t ra rb (read_at st ds a s ed sa) (read_at st es b t ee sb) (subst (λ k. MatchBool k (Agree ts s t) (¬ (Agree ts s t))) e m) j

  pub step_read : (done : List (ℕ × ℕ)) (r q : ℕ → ℕ) (st ds es after : List ℕ) (work more : List (ℕ × ℕ)) (a b s t k : ℕ) (c : Bool) → ds ≡ st → es ≡ st → r a ≡ a → r b ≡ b → a < b → a < length ds → ((d : ℕ) → get_or ds a d ≡ s) → ((d : ℕ) → get_or es b d ≡ t)
      → MatchBool c (Agree ts s t) (¬ (Agree ts s t)) → c ≡ true → ((y : ℕ) → q y ≡ joined a b r y) → k ≡ chosen ts s t → after ≡ slice_set st a k → more ≡ work ++ carried ts s t
      → IsJoining ts done r st (work ++ (a, b) ∷ []) → IsJoining ts done q after more
  step_read done r q st ds es after work more a b s t k c ed ee ra rb less len sa sb m e hq ek ea em j =
      join_step ts done r q st after work more a b s t k ra rb less (subst (λ l. a < length l) ed len) (read_at st ds a s ed sa) (read_at st es b t ee sb) (subst (λ z. MatchBool z (Agree ts s t) (¬ (Agree ts s t))) e m) hq ek ea em j
