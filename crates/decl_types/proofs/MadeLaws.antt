-- Device: names are given to a pool one by one.
use Rattle.std.proofs.Common.{◌≡◌, ℕ, zero, suc, ◌+◌, ◌<◌, ◌≤◌, List, [], ◌∷◌, map, length, drop, get_or, refl, sym, ap, ◌∙◌, add-one, arith}
use Rattle.cil_base.specs.NamePool.{interned, interned_all, Interns}
use Rattle.decl_types.specs.MadeNames.{made_text}

-- those behind i, of which the first is given
drop_made : (ks : List ℕ) (i d : ℕ) → i < length ks → map made_text (drop i ks) ≡ made_text (get_or ks i d) ∷ map made_text (drop (suc i) ks)
drop_made [] i d h = absurd (omega arith)
drop_made (k ∷ ks) zero d h = refl
drop_made (k ∷ ks) (suc i) d h = drop_made ks i d (omega arith)

drop_none : (ks : List ℕ) (i : ℕ) → length ks ≤ i → drop i ks ≡ []
drop_none [] zero h = refl
drop_none [] (suc i) h = refl
drop_none (k ∷ ks) zero h = absurd (omega arith)
drop_none (k ∷ ks) (suc i) h = drop_none ks i (omega arith)

pub next_made : (old now new : List (List ℕ)) (ks : List ℕ) (i d n : ℕ) → i < length ks → Interns now new (made_text (get_or ks i d)) n → interned_all now (map made_text (drop i ks)) ≡ interned_all old (map made_text ks)
    → interned_all new (map made_text (drop (i + 1) ks)) ≡ interned_all old (map made_text ks)
next_made old now new ks i d n h interns done =
    ap (λ texts. interned_all texts (map made_text (drop (i + 1) ks))) interns.after
    ∙ ap (λ j. interned_all (interned now (made_text (get_or ks i d))) (map made_text (drop j ks))) (add-one i)
    ∙ sym (ap (interned_all now) (drop_made ks i d h))
    ∙ done

pub all_made : (old now : List (List ℕ)) (ks : List ℕ) (i : ℕ) → length ks ≤ i → interned_all now (map made_text (drop i ks)) ≡ interned_all old (map made_text ks) → now ≡ interned_all old (map made_text ks)
all_made old now ks i h done = sym (ap (λ more. interned_all now (map made_text more)) (drop_none ks i h)) ∙ done
