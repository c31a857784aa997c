-- Pieces of a text, the first i of them and the one behind.
use Rattle.std.proofs.Common.{◌≡◌, ℕ, zero, suc, ◌+◌, ◌<◌, List, [], ◌∷◌, ◌++◌, Option, map, length, take, drop, get_or, append_assoc, append-nil, add-one, ap, sym, ◌∙◌, refl, arith}
use Rattle.std.specs.List.{concat}
use Rattle.outside.specs.Moves.{Wrote}
use Rattle.cil_lines.proofs.Fronts.{wrote_both}

pub pieces_suc : {X : Type 0} (f : X → List ℕ) (xs : List X) (i : ℕ) (d : X) → i < length xs → concat (map f (take (suc i) xs)) ≡ concat (map f (take i xs)) ++ f (get_or xs i d)
pieces_suc f [] i d less = absurd (omega arith)
pieces_suc f (x ∷ xs) zero d less = append-nil (f x)
pieces_suc f (x ∷ xs) (suc i) d less = ap (λ t. f x ++ t) (pieces_suc f xs i d (omega arith)) ∙ sym (append_assoc (f x) (concat (map f (take i xs))) (f (get_or xs i d)))

-- one more piece
pub pieces_more : {X : Type 0} (f : X → List ℕ) (xs : List X) (i : ℕ) (d : X) → i < length xs → concat (map f (take (i + 1) xs)) ≡ concat (map f (take i xs)) ++ f (get_or xs i d)
pieces_more f xs i d less = rw (add-one i) (pieces_suc f xs i d less)

-- the pieces up to one, and those behind it, are all
pub pieces_split : {X : Type 0} (f : X → List ℕ) (xs : List X) (i : ℕ) (d : X) → i < length xs
    → concat (map f xs) ≡ (concat (map f (take i xs)) ++ f (get_or xs i d)) ++ concat (map f (drop (suc i) xs))
pieces_split f [] i d less = absurd (omega arith)
pieces_split f (x ∷ xs) zero d less = refl
pieces_split f (x ∷ xs) (suc i) d less =
    ap (λ t. f x ++ t) (pieces_split f xs i d (omega arith)) ∙ regroup (f x) (concat (map f (take i xs))) (f (get_or xs i d)) (concat (map f (drop (suc i) xs)))
  where
    regroup : (a b c r : List ℕ) → a ++ ((b ++ c) ++ r) ≡ ((a ++ b) ++ c) ++ r
    regroup a b c r = simp append_assoc

-- the first i pieces were taken, and then the one behind them
pub wrote_piece : {X : Type 0} (f : X → List ℕ) (xs : List X) (i : ℕ) (d : X) (old now new : Option (List ℕ)) → i < length xs
    → Wrote old now (concat (map f (take i xs))) → Wrote now new (f (get_or xs i d)) → Wrote old new (concat (map f (take (i + 1) xs)))
wrote_piece f xs i d old now new less first second = rw (pieces_more f xs i d less) (wrote_both old now new (concat (map f (take i xs))) (f (get_or xs i d)) first second)
