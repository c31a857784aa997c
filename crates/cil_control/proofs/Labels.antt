-- Device: where labels are numbered in the order of the text, a list of their places tells each by its number.
use Rattle.std.proofs.Common.{◌≡◌, ℕ, zero, suc, ◌+◌, ◌<◌, ◌≤◌, ◌⊎◌, inl, inr, true, false, List, [], ◌∷◌, ◌++◌, length, slice_get, Some, None, refl, sym, ap, ◌∙◌, subst, arith, append_assoc, eq-eqb}
use Rattle.std.specs.Prelude.{◌||◌}
use Rattle.std.proofs.lemmas.List.{length-append}
use Rattle.std.proofs.lemmas.Bool.{cases_lt}
use Rattle.execution.specs.Jumps.{ToLabel}
use Rattle.cil_tree.specs.Tree.{Stmt, Do, If, Switch, Loop, Block, Label, Case, Default, Goto, Break, Return, Stmts, Done, Seq}
use Rattle.cil_tree.specs.Bodies.{labels_of, labels_in, numbers_from}
use Rattle.cil_semantics.specs.Statements.{has, has_in}
use Rattle.cil_control.specs.Remains.{steps, steps_in}
use Rattle.cil_control.specs.Flat.{labels_at, labels_from}
use Rattle.cil_control.specs.Courses.{Labelled, LabelledIn, AreLabels}
use Rattle.cil_control.proofs.Courses.{or_first, or_second}

-- the numbers from i on
abbrev IsRun : ℕ → List ℕ → Type 0
IsRun i [] = Unit {0}
IsRun i (n ∷ ns) = (n ≡ i) × IsRun (suc i) ns

run_front : (i : ℕ) (xs ys : List ℕ) → IsRun i (xs ++ ys) → IsRun i xs
run_front i [] ys h = tt
run_front i (x ∷ xs) ys h = (h.0, run_front (suc i) xs ys h.1)

run_hind : (i j : ℕ) (xs ys : List ℕ) → i + length xs ≡ j → IsRun i (xs ++ ys) → IsRun j ys
run_hind i j [] ys e h = let same : i ≡ j = omega arith in subst (λ k. IsRun k ys) same h
run_hind i j (x ∷ xs) ys e h = run_hind (suc i) j xs ys (omega arith) h.1

numbers_run : (i : ℕ) (names : List (List ℕ)) → IsRun i (numbers_from i names)
numbers_run i [] = tt
numbers_run i (name ∷ names) = (refl, numbers_run (suc i) names)

slice_mid : (pre post : List ℕ) (p i : ℕ) → length pre ≡ i → slice_get (pre ++ (p ∷ post)) i ≡ Some p
slice_mid [] post p zero e = refl
slice_mid [] post p (suc i) e = absurd (omega arith)
slice_mid (x ∷ pre) post p zero e = absurd (omega arith)
slice_mid (x ∷ pre) post p (suc i) e = slice_mid pre post p i (omega arith)

slice_none : (xs : List ℕ) (n : ℕ) → length xs ≤ n → slice_get xs n ≡ None
slice_none [] zero h = refl
slice_none [] (suc n) h = refl
slice_none (x ∷ xs) zero h = absurd (omega arith)
slice_none (x ∷ xs) (suc n) h = slice_none xs n (omega arith)

-- there are as many places as labels
mutual
  as_many : (p : ℕ) (x : Stmt) → length (labels_at p x) ≡ length (labels_in x)
  as_many p (Do i) = refl
  as_many p (If e holds fails) =
      let one = length-append (labels_from (suc p) holds) (labels_from (suc (suc p + steps_in holds)) fails) in
      let two = length-append (labels_of holds) (labels_of fails) in
      let first : length (labels_from (suc p) holds) ≡ length (labels_of holds) = as_many_in (suc p) holds in
      let second : length (labels_from (suc (suc p + steps_in holds)) fails) ≡ length (labels_of fails) = as_many_in (suc (suc p + steps_in holds)) fails in
      omega arith
  as_many p (Switch e body) = as_many_in (suc p) body
  as_many p (Loop body) = as_many_in (suc p) body
  as_many p (Block body) = as_many_in p body
  as_many p (Label n) = refl
  as_many p (Case kind v) = refl
  as_many p Default = refl
  as_many p (Goto n) = refl
  as_many p Break = refl
  as_many p (Return e) = refl

  as_many_in : (p : ℕ) (xs : Stmts) → length (labels_from p xs) ≡ length (labels_of xs)
  as_many_in p Done = refl
  as_many_in p (Seq first rest) =
      let one = length-append (labels_at p first) (labels_from (p + steps first) rest) in
      let two = length-append (labels_in first) (labels_of rest) in
      let front : length (labels_at p first) ≡ length (labels_in first) = as_many p first in
      let others : length (labels_from (p + steps first) rest) ≡ length (labels_of rest) = as_many_in (p + steps first) rest in
      omega arith

-- a part of a list of places, and what stands before and behind it
part_front : (all pre a b post : List ℕ) → all ≡ pre ++ ((a ++ b) ++ post) → all ≡ pre ++ (a ++ (b ++ post))
part_front all pre a b post e = e ∙ ap (λ z. pre ++ z) (append_assoc a b post)

part_hind : (all pre a b post : List ℕ) → all ≡ pre ++ ((a ++ b) ++ post) → all ≡ (pre ++ a) ++ (b ++ post)
part_hind all pre a b post e = part_front all pre a b post e ∙ sym (append_assoc pre a (b ++ post))

longer : (pre a : List ℕ) (i n j : ℕ) → length pre ≡ i → length a ≡ n → i + n ≡ j → length (pre ++ a) ≡ j
longer pre a i n j e f g = let all = length-append pre a in omega arith

mutual
  labelled : (all pre post : List ℕ) (p i : ℕ) (x : Stmt) → length pre ≡ i → IsRun i (labels_in x) → all ≡ pre ++ (labels_at p x ++ post) → Labelled (slice_get all) p x
  labelled all pre post p i (Do j) e h is = tt
  labelled all pre post p i (If c holds fails) e h is = (
    labelled_in all pre (labels_from (suc (suc p + steps_in holds)) fails ++ post) (suc p) i holds e (run_front i (labels_of holds) (labels_of fails) h)
        (part_front all pre (labels_from (suc p) holds) (labels_from (suc (suc p + steps_in holds)) fails) post is),
    labelled_in all (pre ++ labels_from (suc p) holds) post (suc (suc p + steps_in holds)) (i + length (labels_of holds)) fails
        (longer pre (labels_from (suc p) holds) i (length (labels_of holds)) (i + length (labels_of holds)) e (as_many_in (suc p) holds) refl)
        (run_hind i (i + length (labels_of holds)) (labels_of holds) (labels_of fails) refl h) (part_hind all pre (labels_from (suc p) holds) (labels_from (suc (suc p + steps_in holds)) fails) post is),
  )
  labelled all pre post p i (Switch c body) e h is = labelled_in all pre post (suc p) i body e h is
  labelled all pre post p i (Loop body) e h is = labelled_in all pre post (suc p) i body e h is
  labelled all pre post p i (Block body) e h is = labelled_in all pre post p i body e h is
  labelled all pre post p i (Label n) e h is = ap (slice_get all) h.0 ∙ (ap (λ xs. slice_get xs i) is ∙ slice_mid pre post p i e)
  labelled all pre post p i (Case kind v) e h is = tt
  labelled all pre post p i Default e h is = tt
  labelled all pre post p i (Goto n) e h is = tt
  labelled all pre post p i Break e h is = tt
  labelled all pre post p i (Return v) e h is = tt

  labelled_in : (all pre post : List ℕ) (p i : ℕ) (xs : Stmts) → length pre ≡ i → IsRun i (labels_of xs) → all ≡ pre ++ (labels_from p xs ++ post) → LabelledIn (slice_get all) p xs
  labelled_in all pre post p i Done e h is = tt
  labelled_in all pre post p i (Seq first rest) e h is = (
    labelled all pre (labels_from (p + steps first) rest ++ post) p i first e (run_front i (labels_in first) (labels_of rest) h) (part_front all pre (labels_at p first) (labels_from (p + steps first) rest) post is),
    labelled_in all (pre ++ labels_at p first) post (p + steps first) (i + length (labels_in first)) rest (longer pre (labels_at p first) i (length (labels_in first)) (i + length (labels_in first)) e (as_many p first) refl)
        (run_hind i (i + length (labels_in first)) (labels_in first) (labels_of rest) refl h) (part_hind all pre (labels_at p first) (labels_from (p + steps first) rest) post is),
  )

-- a number in the run is that of a label
mutual
  present : (x : Stmt) (i n : ℕ) → IsRun i (labels_in x) → i ≤ n → n < i + length (labels_in x) → has x (ToLabel n) ≡ true
  present (Do j) i n h low high = absurd (omega arith)
  present (If c holds fails) i n h low high = by (cases_lt n (i + length (labels_of holds)))
      (λ near. present_in holds i n (run_front i (labels_of holds) (labels_of fails) h) low near)
      (λ far. present_in fails (i + length (labels_of holds)) n (run_hind i (i + length (labels_of holds)) (labels_of holds) (labels_of fails) refl h) far (let all = length-append (labels_of holds) (labels_of fails) in omega arith))
    where
      by : (n < i + length (labels_of holds)) ⊎ (i + length (labels_of holds) ≤ n) → (n < i + length (labels_of holds) → has_in holds (ToLabel n) ≡ true) → (i + length (labels_of holds) ≤ n → has_in fails (ToLabel n) ≡ true)
          → (has_in holds (ToLabel n) || has_in fails (ToLabel n)) ≡ true
      by (inl near) f g = or_first (has_in holds (ToLabel n)) (has_in fails (ToLabel n)) (f near)
      by (inr far) f g = or_second (has_in holds (ToLabel n)) (has_in fails (ToLabel n)) (g far)
  present (Switch c body) i n h low high = present_in body i n h low high
  present (Loop body) i n h low high = present_in body i n h low high
  present (Block body) i n h low high = present_in body i n h low high
  present (Label m) i n h low high = let is : m ≡ i = h.0 in let same : m ≡ n = omega arith in eq-eqb m n same
  present (Case kind v) i n h low high = absurd (omega arith)
  present Default i n h low high = absurd (omega arith)
  present (Goto m) i n h low high = absurd (omega arith)
  present Break i n h low high = absurd (omega arith)
  present (Return v) i n h low high = absurd (omega arith)

  present_in : (xs : Stmts) (i n : ℕ) → IsRun i (labels_of xs) → i ≤ n → n < i + length (labels_of xs) → has_in xs (ToLabel n) ≡ true
  present_in Done i n h low high = absurd (omega arith)
  present_in (Seq first rest) i n h low high = by (cases_lt n (i + length (labels_in first)))
      (λ near. present first i n (run_front i (labels_in first) (labels_of rest) h) low near)
      (λ far. present_in rest (i + length (labels_in first)) n (run_hind i (i + length (labels_in first)) (labels_in first) (labels_of rest) refl h) far (let all = length-append (labels_in first) (labels_of rest) in omega arith))
    where
      by : (n < i + length (labels_in first)) ⊎ (i + length (labels_in first) ≤ n) → (n < i + length (labels_in first) → has first (ToLabel n) ≡ true) → (i + length (labels_in first) ≤ n → has_in rest (ToLabel n) ≡ true)
          → (has first (ToLabel n) || has_in rest (ToLabel n)) ≡ true
      by (inl near) f g = or_first (has first (ToLabel n)) (has_in rest (ToLabel n)) (f near)
      by (inr far) f g = or_second (has first (ToLabel n)) (has_in rest (ToLabel n)) (g far)

append_nothing : (xs : List ℕ) → xs ≡ xs ++ []
append_nothing [] = refl
append_nothing (x ∷ xs) = ap (λ z. x ∷ z) (append_nothing xs)

pub labels_are : (body : Stmts) (names : List (List ℕ)) → labels_of body ≡ numbers_from 0 names → AreLabels (slice_get (labels_from 0 body)) body
labels_are body names is = record {
  there = labelled_in (labels_from 0 body) [] [] 0 0 body refl run (append_nothing (labels_from 0 body));
  others = λ n outside. by n (cases_lt n (length (labels_of body))) outside;
}
  where
    run : IsRun 0 (labels_of body)
    run = subst (IsRun 0) (sym is) (numbers_run 0 names)

    by : (n : ℕ) → (n < length (labels_of body)) ⊎ (length (labels_of body) ≤ n) → has_in body (ToLabel n) ≡ false → slice_get (labels_from 0 body) n ≡ None
    by n (inl near) outside = let inside : has_in body (ToLabel n) ≡ true = present_in body 0 n run (omega arith) (omega arith) in absurd (cc)
    by n (inr far) outside = let all : length (labels_from 0 body) ≡ length (labels_of body) = as_many_in 0 body in slice_none (labels_from 0 body) n (omega arith)
