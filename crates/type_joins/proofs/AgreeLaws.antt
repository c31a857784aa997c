-- Device: whether two things differ in themselves, by what is read of them.
use Rattle.std.proofs.Common.{◌≡◌, ℕ, ◌<◌, Bool, true, false, not, IsTrue, MatchBool, List, [], ◌++◌, Option, Some, None, Result, OnOk, Bor, is_some, length, get_or, subst, refl, sym, ap, ◌∙◌, append-nil, true≢false}
use Rattle.std.specs.Option.{option_map}
use Rattle.type_things.specs.declared.web.Head.{Head}
use Rattle.type_things.specs.declared.web.Label.{Label}
use Rattle.type_things.specs.contracts.web.HeadPartialEq.TheImpl.{ghosts}
use Rattle.type_things.specs.contracts.web.LabelPartialEq.TheImpl.{ghosts as label_ghosts}
use Rattle.type_joins.specs.Joined.{zipped, chosen_of, carried_of, chosen, carried}
use Rattle.type_joins.proofs.StepLaws.{labels_get}
use Rattle.type_things.specs.Things.{Thing, labels, head_of, inside_of, Agree}
use Rattle.type_things.proofs.HeadLaws.{eq_tells, eq_same, label_same}

not_not : (b n : Bool) → n ≡ false → n ≡ not b → b ≡ true
not_not true n e f = refl
not_not false n e f = cc

is_not : (b n : Bool) → n ≡ true → n ≡ not b → b ≡ false
is_not true n e f = cc
is_not false n e f = refl

pub labels_apart : (l r : List (Label × ℕ)) (i : ℕ) (d e : Label × ℕ) (n : Bool) → i < length l → n ≡ true → n ≡ not (label_ghosts.eq (get_or l i d).0 (get_or r i e).0) → labels l ≡ labels r → IsTrue false
labels_apart l r i d e n h t q same =
    let one : (get_or l i d).0 ≡ (get_or r i e).0 = labels_get l r i d e h same in
    absurd (true≢false (sym (ap (label_ghosts.eq (get_or l i d).0) (sym one) ∙ label_same (get_or l i d).0) ∙ is_not (label_ghosts.eq (get_or l i d).0 (get_or r i e).0) n t q))

module _ (ts : List (Thing Head Label)) where
  pub heads_apart : (s t : ℕ) (h k : Head) (b : Bool) → head_of ts s ≡ Some h → head_of ts t ≡ Some k → b ≡ true → b ≡ not (ghosts.eq h k) → ¬ (Agree ts s t)
  heads_apart s t h k b e f p q a =
      let n : ghosts.eq h k ≡ false = is_not (ghosts.eq h k) b p q in
      let g : Some h ≡ Some k = sym e ∙ a.heads ∙ f in
      let same : h ≡ k = cc in
      true≢false (sym (eq_same h) ∙ ap (ghosts.eq h) same ∙ n)

  heads_same : (s t : ℕ) (h k : Head) → head_of ts s ≡ Some h → head_of ts t ≡ Some k → ghosts.eq h k ≡ true → head_of ts s ≡ head_of ts t
  heads_same s t h k e f n = e ∙ ap Some (eq_tells h k n) ∙ sym f

  agree_full : (s t : ℕ) (h k : Head) (l r : List (Label × ℕ)) (b : Bool) → head_of ts s ≡ Some h → head_of ts t ≡ Some k → ghosts.eq h k ≡ true → inside_of ts s ≡ Some l → inside_of ts t ≡ Some r
      → (IsTrue b → labels l ≡ labels r) → (labels l ≡ labels r → IsTrue b) → MatchBool b (Agree ts s t) (¬ (Agree ts s t))
  agree_full s t h k l r true e f n i j same apart = record {
    heads = heads_same s t h k e f n;
    beside = λ ps qs p q. (
        let a : Some ps ≡ Some l = sym p ∙ i in let b : Some qs ≡ Some r = sym q ∙ j in
        let c : ps ≡ l = cc in let d : qs ≡ r = cc in
        ap labels c ∙ same refl ∙ ap labels (sym d));
  }
  agree_full s t h k l r false e f n i j same apart = λ a. true≢false (sym (apart (a.beside l r i j)))

  agree_none : (s t : ℕ) (h k : Head) → head_of ts s ≡ Some h → head_of ts t ≡ Some k → ghosts.eq h k ≡ true → inside_of ts s ≡ None → Agree ts s t
  agree_none s t h k e f n i = record { heads = heads_same s t h k e f n; beside = λ ps qs p q. (let bad : None ≡ Some ps = sym i ∙ p in cc) }

  agree_right : (s t : ℕ) (h k : Head) → head_of ts s ≡ Some h → head_of ts t ≡ Some k → ghosts.eq h k ≡ true → inside_of ts t ≡ None → Agree ts s t
  agree_right s t h k e f n i = record { heads = heads_same s t h k e f n; beside = λ ps qs p q. (let bad : None ≡ Some qs = sym i ∙ q in cc) }

  pub agree_both : (s t : ℕ) (h k : Head) (o p : Option (Bor (List (Label × ℕ)))) (l r : Bor (List (Label × ℕ))) (b n : Bool) → head_of ts s ≡ Some h → head_of ts t ≡ Some k → n ≡ false → n ≡ not (ghosts.eq h k)
      → inside_of ts s ≡ option_map (λ z. z.now) o → inside_of ts t ≡ option_map (λ z. z.now) p → o ≡ Some l → p ≡ Some r
      → (IsTrue b → labels l.now ≡ labels r.now) → (labels l.now ≡ labels r.now → IsTrue b) → MatchBool b (Agree ts s t) (¬ (Agree ts s t))
  agree_both s t h k o p l r b n e f q m i j u v same apart = agree_full s t h k l.now r.now b e f (not_not (ghosts.eq h k) n q m) (i ∙ ap (option_map (λ z. z.now)) u) (j ∙ ap (option_map (λ z. z.now)) v) same apart

  pub agree_first : (s t : ℕ) (h k : Head) (o : Option (Bor (List (Label × ℕ)))) (n : Bool) → head_of ts s ≡ Some h → head_of ts t ≡ Some k → n ≡ false → n ≡ not (ghosts.eq h k) → inside_of ts s ≡ option_map (λ z. z.now) o → o ≡ None → Agree ts s t
  agree_first s t h k o n e f q m i u = agree_none s t h k e f (not_not (ghosts.eq h k) n q m) (i ∙ ap (option_map (λ z. z.now)) u)

  pub agree_second : (s t : ℕ) (h k : Head) (o : Option (Bor (List (Label × ℕ)))) (n : Bool) → head_of ts s ≡ Some h → head_of ts t ≡ Some k → n ≡ false → n ≡ not (ghosts.eq h k) → inside_of ts t ≡ option_map (λ z. z.now) o → o ≡ None → Agree ts s t
  agree_second s t h k o n e f q m i u = agree_right s t h k e f (not_not (ghosts.eq h k) n q m) (i ∙ ap (option_map (λ z. z.now)) u)

  pub choose_full : (s t : ℕ) (b : Bool) → b ≡ is_some (inside_of ts s) → b ≡ true → s ≡ chosen ts s t
  choose_full s t b e f = by (inside_of ts s) (sym e ∙ f)
    where
      by : (o : Option (List (Label × ℕ))) → is_some o ≡ true → s ≡ chosen_of o s t
      by None h = cc
      by (Some ps) h = refl

  pub choose_none : (s t : ℕ) (b : Bool) → b ≡ is_some (inside_of ts s) → b ≡ false → t ≡ chosen ts s t
  choose_none s t b e f = by (inside_of ts s) (sym e ∙ f)
    where
      by : (o : Option (List (Label × ℕ))) → is_some o ≡ false → t ≡ chosen_of o s t
      by None h = refl
      by (Some ps) h = cc

  pub carried_full : {T E : Type 0} (z : Result T E) (old new : List (ℕ × ℕ)) (s t : ℕ) (o p : Option (Bor (List (Label × ℕ)))) (l r : Bor (List (Label × ℕ))) → inside_of ts s ≡ option_map (λ k. k.now) o → inside_of ts t ≡ option_map (λ k. k.now) p → o ≡ Some l → p ≡ Some r
      → OnOk z (new ≡ old ++ zipped l.now r.now) → OnOk z (new ≡ old ++ carried ts s t)
  carried_full z old new s t o p l r i j u v h = subst (λ k. OnOk z (new ≡ old ++ k)) (sym (ap (λ k. carried_of k (inside_of ts t)) (i ∙ ap (option_map (λ k. k.now)) u) ∙ ap (carried_of (Some l.now)) (j ∙ ap (option_map (λ k. k.now)) v))) h

  pub carried_first : (work : List (ℕ × ℕ)) (s t : ℕ) (o : Option (Bor (List (Label × ℕ)))) → inside_of ts s ≡ option_map (λ k. k.now) o → o ≡ None → work ≡ work ++ carried ts s t
  carried_first work s t o i u = sym (append-nil work) ∙ ap (λ k. work ++ k) (sym (ap (λ k. carried_of k (inside_of ts t)) (i ∙ ap (option_map (λ k. k.now)) u)))

  pub carried_second : (work : List (ℕ × ℕ)) (s t : ℕ) (o : Option (Bor (List (Label × ℕ)))) → inside_of ts t ≡ option_map (λ k. k.now) o → o ≡ None → work ≡ work ++ carried ts s t
  carried_second work s t o i u = sym (append-nil work) ∙ ap (λ k. work ++ k) (sym (ap (carried_of (inside_of ts s)) (i ∙ ap (option_map (λ k. k.now)) u) ∙ by (inside_of ts s)))
    where
      by : (q : Option (List (Label × ℕ))) → carried_of q None ≡ []
      by None = refl
      by (Some ps) = refl
