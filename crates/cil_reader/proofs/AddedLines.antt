-- Device: what nested statements have as types is what their lines have.
use Rattle.std.proofs.Common.{◌≡◌, ℕ, zero, suc, List, [], ◌∷◌, ◌++◌, Some, None, refl, sym, ap, ◌∙◌, subst, append_assoc, append-nil}
use Rattle.std.specs.Option.{option_map, option_and_then}
use Rattle.type_graph.specs.Shapes.{Shape}
use Rattle.type_graph.specs.Arena.{Graph}
use Rattle.cil_tree.specs.Tree.{Exp, Stmt, If, Switch, Loop, Block, Stmts}
use Rattle.cil_text.specs.ReadStmts.{Head, Whole, Tested, Turned, Looped, Opened, Otherwise, Closed, Nested, seq_first, closed_block, otherwise, nested_from, read_nested}
use Rattle.cil_text.specs.TypesOf.{AddsParts, types_in_exp, types_in_stmt, types_in_stmts}
use Rattle.cil_reader.specs.Added.{types_in_head, types_in_heads}

-- the statements that were read, and the lines behind them, have these types
abbrev Keeps : List Shape → Nested → Type 0
Keeps ts None = Unit {0}
Keeps ts (Some r) = ts ≡ types_in_stmts r.0 ++ types_in_heads r.1

as_keeps : (ts us : List Shape) (o : Nested) → ts ≡ us → Keeps us o → Keeps ts o
as_keeps ts us o e keeps = subst (λ (xs : List Shape). Keeps xs o) (sym e) keeps

seq_keeps : (s : Stmt) (ts : List Shape) (o : Nested) → Keeps ts o → Keeps (types_in_stmt s ++ ts) (option_map (seq_first s) o)
seq_keeps s ts None keeps = tt
seq_keeps s ts (Some r) keeps = ap (λ (xs : List Shape). types_in_stmt s ++ xs) keeps ∙ sym (append_assoc (types_in_stmt s) (types_in_stmts r.0) (types_in_heads r.1))

closed_from : (again : List Head → Nested) → ((hs : List Head) → Keeps (types_in_heads hs) (again hs)) → (f : Stmts → Stmt) (before : List Shape) → ((ss : Stmts) → types_in_stmt (f ss) ≡ before ++ types_in_stmts ss) →
    (ts : List Shape) (body : Stmts) (hs : List Head) → ts ≡ types_in_stmts body ++ types_in_heads hs → Keeps (before ++ ts) (closed_block again f (body, hs))
closed_from again all f before is ts body (Closed ∷ hs) e =
    as_keeps (before ++ ts) (types_in_stmt (f body) ++ types_in_heads hs) (option_map (seq_first (f body)) (again hs))
    (ap (λ (xs : List Shape). before ++ xs) e ∙ sym (append_assoc before (types_in_stmts body) (types_in_heads hs)) ∙ ap (λ (xs : List Shape). xs ++ types_in_heads hs) (sym (is body)))
    (seq_keeps (f body) (types_in_heads hs) (again hs) (all hs))
closed_from again all f before is ts body [] e = tt
closed_from again all f before is ts body (Whole s ∷ hs) e = tt
closed_from again all f before is ts body (Tested x ∷ hs) e = tt
closed_from again all f before is ts body (Turned x ∷ hs) e = tt
closed_from again all f before is ts body (Looped ∷ hs) e = tt
closed_from again all f before is ts body (Opened ∷ hs) e = tt
closed_from again all f before is ts body (Otherwise ∷ hs) e = tt

closed_keeps : (again : List Head → Nested) → ((hs : List Head) → Keeps (types_in_heads hs) (again hs)) → (f : Stmts → Stmt) (before : List Shape) → ((ss : Stmts) → types_in_stmt (f ss) ≡ before ++ types_in_stmts ss) →
    (ts : List Shape) (o : Nested) → Keeps ts o → Keeps (before ++ ts) (option_and_then (closed_block again f) o)
closed_keeps again all f before is ts None keeps = tt
closed_keeps again all f before is ts (Some r) keeps = closed_from again all f before is ts r.0 r.1 keeps

otherwise_from : (again : List Head → Nested) → ((hs : List Head) → Keeps (types_in_heads hs) (again hs)) → (test : Exp) (ts : List Shape) (holds : Stmts) (hs : List Head) → ts ≡ types_in_stmts holds ++ types_in_heads hs →
    Keeps (types_in_exp test ++ ts) (otherwise again test (holds, hs))
otherwise_from again all test ts holds (Otherwise ∷ hs) e =
    as_keeps (types_in_exp test ++ ts) ((types_in_exp test ++ types_in_stmts holds) ++ types_in_heads hs) (option_and_then (closed_block again (If test holds)) (again hs))
    (ap (λ (xs : List Shape). types_in_exp test ++ xs) e ∙ sym (append_assoc (types_in_exp test) (types_in_stmts holds) (types_in_heads hs)))
    (closed_keeps again all (If test holds) (types_in_exp test ++ types_in_stmts holds) (λ ss. sym (append_assoc (types_in_exp test) (types_in_stmts holds) (types_in_stmts ss))) (types_in_heads hs) (again hs) (all hs))
otherwise_from again all test ts holds [] e = tt
otherwise_from again all test ts holds (Whole s ∷ hs) e = tt
otherwise_from again all test ts holds (Tested x ∷ hs) e = tt
otherwise_from again all test ts holds (Turned x ∷ hs) e = tt
otherwise_from again all test ts holds (Looped ∷ hs) e = tt
otherwise_from again all test ts holds (Opened ∷ hs) e = tt
otherwise_from again all test ts holds (Closed ∷ hs) e = tt

otherwise_keeps : (again : List Head → Nested) → ((hs : List Head) → Keeps (types_in_heads hs) (again hs)) → (test : Exp) (ts : List Shape) (o : Nested) → Keeps ts o → Keeps (types_in_exp test ++ ts) (option_and_then (otherwise again test) o)
otherwise_keeps again all test ts None keeps = tt
otherwise_keeps again all test ts (Some r) keeps = otherwise_from again all test ts r.0 r.1 keeps

from_keeps : (again : List Head → Nested) → ((hs : List Head) → Keeps (types_in_heads hs) (again hs)) → (h : Head) (hs : List Head) → Keeps (types_in_head h ++ types_in_heads hs) (nested_from again h hs)
from_keeps again all (Whole s) hs = seq_keeps s (types_in_heads hs) (again hs) (all hs)
from_keeps again all (Tested e) hs = otherwise_keeps again all e (types_in_heads hs) (again hs) (all hs)
from_keeps again all (Turned e) hs = closed_keeps again all (Switch e) (types_in_exp e) (λ ss. refl) (types_in_heads hs) (again hs) (all hs)
from_keeps again all Looped hs = closed_keeps again all Loop [] (λ ss. refl) (types_in_heads hs) (again hs) (all hs)
from_keeps again all Opened hs = closed_keeps again all Block [] (λ ss. refl) (types_in_heads hs) (again hs) (all hs)
from_keeps again all Otherwise hs = refl
from_keeps again all Closed hs = refl

nested_keeps : (n : ℕ) (hs : List Head) → Keeps (types_in_heads hs) (read_nested n hs)
nested_keeps zero hs = tt
nested_keeps (suc n) [] = refl
nested_keeps (suc n) (h ∷ hs) = from_keeps (read_nested n) (nested_keeps n) h hs

-- all lines of a body, and the statements that they are
pub nested_adds : (f g : Graph) (n : ℕ) (hs : List Head) (ss : Stmts) → read_nested n hs ≡ Some (ss, []) → AddsParts f g (types_in_heads hs) → AddsParts f g (types_in_stmts ss)
nested_adds f g n hs ss e adds =
    let same : types_in_heads hs ≡ types_in_stmts ss ++ [] = subst (Keeps (types_in_heads hs)) e (nested_keeps n hs) in
    subst (AddsParts f g) (same ∙ append-nil (types_in_stmts ss)) adds
