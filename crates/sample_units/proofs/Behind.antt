-- Pieces of a text, the first i of them and the one behind.
use Rattle.std.proofs.Common.{◌≡◌, ℕ, zero, suc, ◌+◌, ◌<◌, List, [], ◌∷◌, ◌++◌, map, length, take, get_or, append_assoc, append-nil, add-one, ap, sym, ◌∙◌, arith}
use Rattle.std.specs.List.{concat}

pieces_suc : {X : Type 0} (f : X → List ℕ) (xs : List X) (i : ℕ) (d : X) → i < length xs → concat (map f (take (suc i) xs)) ≡ concat (map f (take i xs)) ++ f (get_or xs i d)
pieces_suc f [] i d less = absurd (omega arith)
pieces_suc f (x ∷ xs) zero d less = append-nil (f x)
pieces_suc f (x ∷ xs) (suc i) d less = ap (λ t. f x ++ t) (pieces_suc f xs i d (omega arith)) ∙ sym (append_assoc (f x) (concat (map f (take i xs))) (f (get_or xs i d)))

-- one more piece behind a text
pub pieces_behind : {X : Type 0} (f : X → List ℕ) (xs : List X) (i : ℕ) (d : X) (old now new : List ℕ) → i < length xs
    → now ≡ old ++ concat (map f (take i xs)) → new ≡ now ++ f (get_or xs i d) → new ≡ old ++ concat (map f (take (i + 1) xs))
pieces_behind f xs i d old now new less first second =
    second ∙ (ap (λ t. t ++ f (get_or xs i d)) first ∙ (append_assoc old _ _ ∙ ap (λ t. old ++ t) (sym (rw (add-one i) (pieces_suc f xs i d less)))))
