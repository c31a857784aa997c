-- Device: external globals are listed one by one.
use Rattle.std.proofs.Common.{◌≡◌, ℕ, zero, suc, ◌+◌, ◌<◌, ◌≤◌, Bool, true, false, not, ◌&&◌, nat_eq, nat_lt, if◌then◌else◌, List, [], ◌∷◌, ◌++◌, length, drop, map, get_or, append_assoc, append-nil, add-one, refl, sym, ap, ◌∙◌, subst, arith}
use Rattle.std.specs.List.{IsDistinct}
use Rattle.cil_tree.specs.declared.globals.GlobalDecl.{GlobalDecl}
use Rattle.link_names.specs.declared.units.Fronted.{Fronted}
use Rattle.link_names.specs.declared.units.Site.{Site}
use Rattle.unit_lower.specs.Externals.{number, token, external_places, external_names, rise_from, ListsTo, NamesTo, HasExternals}

-- the places from one on
places_at : (xs : List GlobalDecl) (m i : ℕ) (d : GlobalDecl) → i < length xs → external_places (m + i) (drop i xs) ≡ (if (get_or xs i d).internal then external_places (suc (m + i)) (drop (suc i) xs) else (m + i) ∷ external_places (suc (m + i)) (drop (suc i) xs))
places_at [] m i d h = absurd (omega arith)
places_at (x ∷ xs) m zero d h = refl
places_at (x ∷ xs) m (suc i) d h =
    subst (λ (n : ℕ). external_places n (drop i xs) ≡ (if (get_or xs i d).internal then external_places (suc n) (drop (suc i) xs) else n ∷ external_places (suc n) (drop (suc i) xs))) (omega arith) (places_at xs (suc m) i d (omega arith))

-- the same, counted from the first one
places_from : (xs : List GlobalDecl) (i : ℕ) (d : GlobalDecl) → i < length xs → external_places i (drop i xs) ≡ (if (get_or xs i d).internal then external_places (suc i) (drop (suc i) xs) else i ∷ external_places (suc i) (drop (suc i) xs))
places_from xs i d h =
    subst (λ (n : ℕ). external_places n (drop i xs) ≡ (if (get_or xs i d).internal then external_places (suc n) (drop (suc i) xs) else n ∷ external_places (suc n) (drop (suc i) xs))) (omega arith) (places_at xs 0 i d h)

pub places_skip : (xs : List GlobalDecl) (done : List Site) (i : ℕ) (d : GlobalDecl) → i < length xs → (get_or xs i d).internal ≡ true → ListsTo xs i done → ListsTo xs (i + 1) done
places_skip xs done i d h internal whole =
    subst (λ (j : ℕ). ListsTo xs j done) (sym (add-one i))
    (sym (ap (λ ns. map number done ++ ns) (places_from xs i d h ∙ ap (λ b. if b then external_places (suc i) (drop (suc i) xs) else i ∷ external_places (suc i) (drop (suc i) xs)) internal)) ∙ whole)

pub places_next : (xs : List GlobalDecl) (done more : List Site) (s : Site) (i : ℕ) (d : GlobalDecl) → i < length xs → (get_or xs i d).internal ≡ false → number s ≡ i → more ≡ done ++ s ∷ [] → ListsTo xs i done → ListsTo xs (i + 1) more
places_next xs done more s i d h external same is whole =
    subst (λ (j : ℕ). ListsTo xs j more) (sym (add-one i))
    (ap (λ ss. map number ss ++ external_places (suc i) (drop (suc i) xs)) is
    ∙ ap (λ ns. ns ++ external_places (suc i) (drop (suc i) xs)) (pushed done)
    ∙ append_assoc (map number done) (i ∷ []) (external_places (suc i) (drop (suc i) xs))
    ∙ sym (ap (λ ns. map number done ++ ns) (places_from xs i d h ∙ ap (λ b. if b then external_places (suc i) (drop (suc i) xs) else i ∷ external_places (suc i) (drop (suc i) xs)) external)) ∙ whole)
  where
    pushed : (ss : List Site) → map number (ss ++ s ∷ []) ≡ map number ss ++ i ∷ []
    pushed [] = ap (λ n. n ∷ []) same
    pushed (x ∷ ss) = ap (λ ns. number x ∷ ns) (pushed ss)

past : (xs : List GlobalDecl) (i : ℕ) → length xs ≤ i → drop i xs ≡ []
past [] zero h = refl
past [] (suc i) h = refl
past (x ∷ xs) zero h = absurd (omega arith)
past (x ∷ xs) (suc i) h = past xs i (omega arith)

pub places_end : (xs : List GlobalDecl) (done : List Site) (i : ℕ) → length xs ≤ i → ListsTo xs i done → map number done ≡ external_places 0 xs
places_end xs done i h whole = sym (append-nil (map number done)) ∙ sym (ap (λ ys. map number done ++ external_places i ys) (past xs i h)) ∙ whole

pub rise_next : (xs : List Site) (m i : ℕ) (d : Site) → i < length xs → rise_from m (map token (drop i xs)) ≡ not (nat_lt (token (get_or xs i d)) m) && rise_from (token (get_or xs i d)) (map token (drop (suc i) xs))
rise_next [] m i d h = absurd (omega arith)
rise_next (x ∷ xs) m zero d h = refl
rise_next (x ∷ xs) m (suc i) d h = rise_next xs m i d (omega arith)

-- the names from one on
names_at : (xs : List GlobalDecl) (i : ℕ) (d : GlobalDecl) → i < length xs → external_names (drop i xs) ≡ (if (get_or xs i d).internal then external_names (drop (suc i) xs) else (get_or xs i d).name.0 ∷ external_names (drop (suc i) xs))
names_at [] i d h = absurd (omega arith)
names_at (x ∷ xs) zero d h = refl
names_at (x ∷ xs) (suc i) d h = names_at xs i d (omega arith)

pub names_skip : (xs : List GlobalDecl) (done : List ℕ) (i : ℕ) (d : GlobalDecl) → i < length xs → (get_or xs i d).internal ≡ true → NamesTo xs i done → NamesTo xs (i + 1) done
names_skip xs done i d h internal whole =
    subst (λ (j : ℕ). NamesTo xs j done) (sym (add-one i))
    (sym (ap (λ ns. done ++ ns) (names_at xs i d h ∙ ap (λ b. if b then external_names (drop (suc i) xs) else (get_or xs i d).name.0 ∷ external_names (drop (suc i) xs)) internal)) ∙ whole)

pub names_next : (xs : List GlobalDecl) (done more : List ℕ) (i : ℕ) (d : GlobalDecl) → i < length xs → (get_or xs i d).internal ≡ false → more ≡ done ++ (get_or xs i d).name.0 ∷ [] → NamesTo xs i done → NamesTo xs (i + 1) more
names_next xs done more i d h external is whole =
    subst (λ (j : ℕ). NamesTo xs j more) (sym (add-one i))
    (ap (λ ns. ns ++ external_names (drop (suc i) xs)) is
    ∙ append_assoc done ((get_or xs i d).name.0 ∷ []) (external_names (drop (suc i) xs))
    ∙ sym (ap (λ ns. done ++ ns) (names_at xs i d h ∙ ap (λ b. if b then external_names (drop (suc i) xs) else (get_or xs i d).name.0 ∷ external_names (drop (suc i) xs)) external)) ∙ whole)

pub names_end : (xs : List GlobalDecl) (done : List ℕ) (i : ℕ) → length xs ≤ i → NamesTo xs i done → IsDistinct nat_eq done → IsDistinct nat_eq (external_names xs)
names_end xs done i h whole distinct = subst (IsDistinct nat_eq) (sym (append-nil done) ∙ sym (ap (λ ys. done ++ external_names ys) (past xs i h)) ∙ whole) distinct

pub has_externals : (u : Fronted) → IsDistinct nat_eq (external_names u.cil.globals.items) → map number u.sites.items ≡ external_places 0 u.cil.globals.items → rise_from 0 (map token u.sites.items) ≡ true → HasExternals u
has_externals u once listed ordered = record { once = once; listed = listed; ordered = ordered }
