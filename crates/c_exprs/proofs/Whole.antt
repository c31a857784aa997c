-- Device: the readings of each height give exactly the trees that are lower, by induction on the height.
use Rattle.std.proofs.Common.{ℕ, zero, suc, List, Option, arith}
use Rattle.c_tree.specs.Spelling.{Lexeme}
use Rattle.c_cursor.specs.Readers.{fail}
use Rattle.c_exprs.specs.Subs.{Subs, nothing}
use Rattle.c_exprs.specs.Reading.{readings, below}
use Rattle.c_exprs.proofs.Laws.{Lawful, fail_lawful, said}
use Rattle.c_exprs.proofs.Relations.{Below, LawfulSubs}
use Rattle.c_exprs.proofs.ExprTrees.{expression_lawful}
use Rattle.c_exprs.proofs.ExprBegun.{parenthesised_lawful, starred_lawful, literal_of_lawful}
use Rattle.c_exprs.proofs.InitLaws.{items_lawful}
use Rattle.c_exprs.proofs.DeclaratorTrees.{declarator_lawful}
use Rattle.c_exprs.proofs.SpecifierLaws.{specifiers_lawful}

-- nothing is lower than 0
never : {A : Type 0} {P : ℕ → Option Lexeme → Type 0} {H : A → ℕ → List Lexeme → Type 0} {S : A → Option Lexeme → Type 0} → ((a : A) (n : ℕ) (t : List Lexeme) → H a n t → ⊥) → Lawful P fail H S
never no_one = said fail_lawful (λ a n t h. no_one a n t h) (λ a n t h. absurd h)

nothing_lawful : LawfulSubs (Below 0) nothing
nothing_lawful = record {
  expr = λ level ds. never (λ x n t i. omega (arith, i.good.low));
  parenthesised = λ at ds. never (λ x n t i. omega (arith, i.whole.good.low));
  starred = λ at ds. never (λ x n t i. omega (arith, i.whole.good.low));
  literal = λ at ds t good. never (λ x n u i. omega (arith, i.whole.good.low));
  specifiers = λ form ds. never (λ x n t i. omega (arith, i.low));
  declarator = λ form ds. never (λ x n t i. omega (arith, i.low));
  items = λ ds. never (λ x n t i. omega (arith, i.low));
}

readings_lawful : (h : ℕ) (sub : Subs) → LawfulSubs (Below h) sub → LawfulSubs (Below (suc h)) (readings h sub)
readings_lawful h sub parts = record {
  expr = λ level ds. expression_lawful h sub parts level ds;
  parenthesised = λ at ds. parenthesised_lawful h sub parts at ds;
  starred = λ at ds. starred_lawful h sub parts at ds;
  literal = λ at ds t good. literal_of_lawful h sub parts at ds t good;
  specifiers = λ form ds. specifiers_lawful h sub parts form ds;
  declarator = λ form ds. declarator_lawful h sub parts form ds;
  items = λ ds. items_lawful h sub parts ds;
}

pub below_lawful : (h : ℕ) → LawfulSubs (Below h) (below h)
unfolding below
below_lawful zero = nothing_lawful
below_lawful (suc h) = readings_lawful h (below h) (below_lawful h)
