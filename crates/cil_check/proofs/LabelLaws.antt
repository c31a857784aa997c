-- Device: labels are numbered where they are the numbers from 0 on.
use Rattle.std.proofs.Common.{◌≡◌, ℕ, zero, suc, ◌+◌, ◌<◌, Bool, true, false, ◌&&◌, nat_eq, List, [], ◌∷◌, length, drop, get_or, refl, sym, ap, ◌∙◌, arith}
use Rattle.std.specs.Str.{bytes_eq}
use Rattle.cil_tree.specs.Tree.{Stmts}
use Rattle.cil_tree.specs.Typing.{Scope}
use Rattle.cil_tree.specs.Bodies.{labels_of, labels_fit, numbers_from}
use Rattle.cil_check.specs.Statements.{numbered}

-- from one label on
pub numbered_from : (first count : ℕ) (ls : List ℕ) (i d : ℕ) → i < length ls → numbered first count (drop i ls) ≡ nat_eq (get_or ls i d) first && numbered (suc first) count (drop (suc i) ls)
numbered_from first count [] i d h = absurd (omega arith)
numbered_from first count (l ∷ ls) zero d h = refl
numbered_from first count (l ∷ ls) (suc i) d h = numbered_from first count ls i d (omega arith)

no_and : (p q : Bool) → q ≡ false → p && q ≡ false
no_and true q e = e
no_and false q e = refl

-- past the count
too_many : (first count : ℕ) (ls : List ℕ) → count < first → numbered first count ls ≡ false
too_many first count [] h = grind arith
too_many first count (l ∷ ls) h = no_and (nat_eq l first) (numbered (suc first) count ls) (too_many (suc first) count ls (omega arith))

numbers_are : (first : ℕ) (names : List (List ℕ)) (ls : List ℕ) → bytes_eq ls (numbers_from first names) ≡ numbered first (first + length names) ls
numbers_are first [] [] = grind arith
numbers_are first [] (l ∷ ls) = sym (no_and (nat_eq l first) (numbered (suc first) (first + 0) ls) (too_many (suc first) (first + 0) ls (omega arith)))
numbers_are first (name ∷ names) [] = grind arith
numbers_are first (name ∷ names) (l ∷ ls) =
    let more : suc first + length names ≡ first + suc (length names) = omega arith in
    ap (λ b. nat_eq l first && b) (numbers_are (suc first) names ls ∙ ap (λ n. numbered (suc first) n ls) more)

-- the labels fit where they are numbered
pub labels_are : (c : Scope) (body : Stmts) (count : ℕ) → count ≡ length c.labels → numbered 0 count (labels_of body) ≡ labels_fit c body
labels_are c body count e = let same : count ≡ 0 + length c.labels = omega (arith, e) in ap (λ n. numbered 0 n (labels_of body)) same ∙ sym (numbers_are 0 c.labels (labels_of body))
