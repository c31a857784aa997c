-- Device: steps of the nesting of lines.
use Rattle.std.proofs.Common.{◌≡◌, ℕ, suc, ◌-◌, ◌+◌, ◌<◌, ◌≤◌, List, [], ◌∷◌, ◌++◌, Option, Some, None, map, refl, sym, ap, ◌∙◌, arith}
use Rattle.std.specs.Option.{option_map, option_and_then}
use Rattle.std.proofs.lemmas.List.{reverse-append}
use Rattle.type_graph.specs.declared.nodes.Node.{Node}
use Rattle.cil_tree.specs.declared.expressions.Exp.{Exp as SeenExp}
use Rattle.cil_tree.specs.declared.statements.Stmt.{Stmt as SeenStmt}
use Rattle.cil_nodes.specs.Built.{IsIf, IsSwitch, IsLoop, IsBlock}
use Rattle.cil_tree.specs.Tree.{Exp, Stmt, If, Switch, Loop, Block, Stmts, Done, Seq}
use Rattle.cil_tree.specs.View.{exp_of, stmt_of, stmts_of}
use Rattle.cil_text.specs.ReadStmts.{Head, Whole, Tested, Turned, Looped, Opened, Otherwise, Closed, Nested, seq_first, closed_block, otherwise, nested_from, read_nested}
use Rattle.cil_reader.specs.declared.heads.Head.{Head as SeenHead}
use Rattle.cil_declarators.specs.declared.stop.Stop.{Stop}
use Rattle.cil_declarators.specs.declared.stop.Stop.TheVariants.{NotCil, WantOfMemory}
use Rattle.cil_declarators.specs.Gives.{Fails}
use Rattle.cil_reader.specs.Heads.{head_of}
use Rattle.cil_reader.specs.Nesting.{waiting, closed_next, otherwise_next, behind_end, ended_by, part_read, OneRead, one_from, one_block, one_if, with_first, second_part, two_parts, one_read, joined, read_behind}

pub waiting_more : (nodes : List Node) (hs : List SeenHead) (h : SeenHead) → waiting nodes (hs ++ h ∷ []) ≡ head_of nodes h ∷ waiting nodes hs
waiting_more nodes hs h = ap (map (head_of nodes)) (reverse-append hs (h ∷ []))

-- the next line is taken
pub line_taken : (end : List Head → Option (List Head)) (nodes : List Node) (hs : List SeenHead) (h : SeenHead) (o : Option (List Head)) → end (head_of nodes h ∷ waiting nodes hs) ≡ o → end (waiting nodes (hs ++ h ∷ [])) ≡ o
line_taken end nodes hs h o e = ap end (waiting_more nodes hs h) ∙ e

-- parts

pub part_gives : (again : List Head → Nested) (end : List Head → Option (List Head)) (hs js ks : List Head) (ss : Stmts) → again hs ≡ Some (ss, js) → end js ≡ Some ks → part_read again end hs ≡ Some (ss, ks)
part_gives again end hs js ks ss e h = ap (option_and_then (ended_by end)) e ∙ ap (option_map (behind_end ss)) h

pub part_open : (again : List Head → Nested) (end : List Head → Option (List Head)) (hs js : List Head) (ss : Stmts) → again hs ≡ Some (ss, js) → end js ≡ None → part_read again end hs ≡ None
part_open again end hs js ss e h = ap (option_and_then (ended_by end)) e ∙ ap (option_map (behind_end ss)) h

pub part_fails : (again : List Head → Nested) (end : List Head → Option (List Head)) (hs : List Head) → again hs ≡ None → part_read again end hs ≡ None
part_fails again end hs e = ap (option_and_then (ended_by end)) e

abbrev if_from : (List Head → Nested) → Exp → Stmts × List Head → OneRead
if_from again test r = one_block again (If test r.0) r.1

pub parts_give : (again : List Head → Nested) (hs js ks : List Head) (xs ys : Stmts) → part_read again otherwise_next hs ≡ Some (xs, js) → part_read again closed_next js ≡ Some (ys, ks) → two_parts again hs ≡ Some ((xs, ys), ks)
parts_give again hs js ks xs ys e h = ap (option_and_then (second_part again)) e ∙ ap (option_map (with_first xs)) h

pub parts_open : (again : List Head → Nested) (hs js : List Head) (xs : Stmts) → part_read again otherwise_next hs ≡ Some (xs, js) → part_read again closed_next js ≡ None → two_parts again hs ≡ None
parts_open again hs js xs e h = ap (option_and_then (second_part again)) e ∙ ap (option_map (with_first xs)) h

pub parts_fail : (again : List Head → Nested) (hs : List Head) → part_read again otherwise_next hs ≡ None → two_parts again hs ≡ None
parts_fail again hs e = ap (option_and_then (second_part again)) e

abbrev if_of : Exp → (Stmts × Stmts) × List Head → Option Stmt × List Head
if_of test r = (Some (If test r.0.0 r.0.1), r.1)

if_by : (again : List Head → Nested) (test : Exp) (o : Nested) → option_and_then (if_from again test) o ≡ option_map (if_of test) (option_and_then (second_part again) o)
if_by again test None = refl
if_by again test (Some r) = by (part_read again closed_next r.1)
  where
    by : (o : Nested) → option_map (one_from (If test r.0)) o ≡ option_map (if_of test) (option_map (with_first r.0) o)
    by None = refl
    by (Some q) = refl

pub if_gives : (again : List Head → Nested) (test : Exp) (hs ks : List Head) (xs ys : Stmts) → two_parts again hs ≡ Some ((xs, ys), ks) → one_if again test hs ≡ Some (Some (If test xs ys), ks)
if_gives again test hs ks xs ys e = if_by again test (part_read again otherwise_next hs) ∙ ap (option_map (if_of test)) e

pub if_fails : (again : List Head → Nested) (test : Exp) (hs : List Head) → two_parts again hs ≡ None → one_if again test hs ≡ None
if_fails again test hs e = if_by again test (part_read again otherwise_next hs) ∙ ap (option_map (if_of test)) e

pub block_gives : (again : List Head → Nested) (f : Stmts → Stmt) (hs ks : List Head) (ss : Stmts) → part_read again closed_next hs ≡ Some (ss, ks) → one_block again f hs ≡ Some (Some (f ss), ks)
block_gives again f hs ks ss e = ap (option_map (one_from f)) e

pub block_fails : (again : List Head → Nested) (f : Stmts → Stmt) (hs : List Head) → part_read again closed_next hs ≡ None → one_block again f hs ≡ None
block_fails again f hs e = ap (option_map (one_from f)) e

-- a statement in its box

pub made_if : (again : List Head → Nested) (nodes : List Node) (test : SeenExp) (xs ys : List SeenStmt) (s b : SeenStmt) (hs ks : List Head) → two_parts again hs ≡ Some ((stmts_of nodes xs, stmts_of nodes ys), ks) → IsIf test xs ys s → b ≡ s →
    one_if again (exp_of nodes test) hs ≡ Some (Some (stmt_of nodes b), ks)
made_if again nodes test xs ys s b hs ks e is same = if_gives again (exp_of nodes test) hs ks (stmts_of nodes xs) (stmts_of nodes ys) e ∙ ap (λ z. Some (Some z, ks)) (sym (ap (stmt_of nodes) same ∙ is.at nodes))

made_block : (again : List Head → Nested) (nodes : List Node) (f : Stmts → Stmt) (xs : List SeenStmt) (s b : SeenStmt) (hs ks : List Head) → part_read again closed_next hs ≡ Some (stmts_of nodes xs, ks) → stmt_of nodes s ≡ f (stmts_of nodes xs) → b ≡ s →
    one_block again f hs ≡ Some (Some (stmt_of nodes b), ks)
made_block again nodes f xs s b hs ks e is same = block_gives again f hs ks (stmts_of nodes xs) e ∙ ap (λ z. Some (Some z, ks)) (sym (ap (stmt_of nodes) same ∙ is))

pub made_switch : (again : List Head → Nested) (nodes : List Node) (value : SeenExp) (xs : List SeenStmt) (s b : SeenStmt) (hs ks : List Head) → part_read again closed_next hs ≡ Some (stmts_of nodes xs, ks) → IsSwitch value xs s → b ≡ s →
    one_block again (Switch (exp_of nodes value)) hs ≡ Some (Some (stmt_of nodes b), ks)
made_switch again nodes value xs s b hs ks e is same = made_block again nodes (Switch (exp_of nodes value)) xs s b hs ks e (is.at nodes) same

pub made_loop : (again : List Head → Nested) (nodes : List Node) (xs : List SeenStmt) (s b : SeenStmt) (hs ks : List Head) → part_read again closed_next hs ≡ Some (stmts_of nodes xs, ks) → IsLoop xs s → b ≡ s → one_block again Loop hs ≡ Some (Some (stmt_of nodes b), ks)
made_loop again nodes xs s b hs ks e is same = made_block again nodes Loop xs s b hs ks e (is.at nodes) same

pub made_inner : (again : List Head → Nested) (nodes : List Node) (xs : List SeenStmt) (s b : SeenStmt) (hs ks : List Head) → part_read again closed_next hs ≡ Some (stmts_of nodes xs, ks) → IsBlock xs s → b ≡ s → one_block again Block hs ≡ Some (Some (stmt_of nodes b), ks)
made_inner again nodes xs s b hs ks e is same = made_block again nodes Block xs s b hs ks e (is.at nodes) same

-- statements in order

abbrev from_one : (List Head → Nested) → Option Stmt × List Head → Nested
from_one again (None, hs) = Some (Done, hs)
from_one again (Some s, hs) = option_map (seq_first s) (again hs)

closes : (again : List Head → Nested) (f : Stmts → Stmt) (ss : Stmts) (hs : List Head) → closed_block again f (ss, hs) ≡ option_and_then (from_one again) (option_map (one_from f) (ended_by closed_next (ss, hs)))
closes again f ss (Closed ∷ hs) = refl
closes again f ss _ = refl

block_is : (again : List Head → Nested) (f : Stmts → Stmt) (o : Nested) → option_and_then (closed_block again f) o ≡ option_and_then (from_one again) (option_map (one_from f) (option_and_then (ended_by closed_next) o))
block_is again f None = refl
block_is again f (Some r) = closes again f r.0 r.1

chooses : (again : List Head → Nested) (test : Exp) (ss : Stmts) (hs : List Head) → otherwise again test (ss, hs) ≡ option_and_then (from_one again) (option_and_then (if_from again test) (ended_by otherwise_next (ss, hs)))
chooses again test ss (Otherwise ∷ hs) = block_is again (If test ss) (again hs)
chooses again test ss _ = refl

if_is : (again : List Head → Nested) (test : Exp) (o : Nested) → option_and_then (otherwise again test) o ≡ option_and_then (from_one again) (option_and_then (if_from again test) (option_and_then (ended_by otherwise_next) o))
if_is again test None = refl
if_is again test (Some r) = chooses again test r.0 r.1

nested_is : (again : List Head → Nested) (h : Head) (hs : List Head) → nested_from again h hs ≡ option_and_then (from_one again) (one_read again (h ∷ hs))
nested_is again (Whole s) hs = refl
nested_is again (Tested e) hs = if_is again e (again hs)
nested_is again (Turned e) hs = block_is again (Switch e) (again hs)
nested_is again Looped hs = block_is again Loop (again hs)
nested_is again Opened hs = block_is again Block (again hs)
nested_is again Otherwise hs = refl
nested_is again Closed hs = refl

step_is : (n : ℕ) (hs : List Head) → read_nested (suc n) hs ≡ option_and_then (from_one (read_nested n)) (one_read (read_nested n) hs)
step_is n [] = refl
step_is n (h ∷ hs) = nested_is (read_nested n) h hs

joined_more : (nodes : List Node) (xs : List SeenStmt) (s : SeenStmt) (more : Stmts) → joined (stmts_of nodes (xs ++ s ∷ [])) more ≡ joined (stmts_of nodes xs) (Seq (stmt_of nodes s) more)
joined_more nodes [] s more = refl
joined_more nodes (x ∷ xs) s more = ap (Seq (stmt_of nodes x)) (joined_more nodes xs s more)

joined_done : (ss : Stmts) → joined ss Done ≡ ss
joined_done Done = refl
joined_done (Seq s ss) = ap (Seq s) (joined_done ss)

behind_more : (nodes : List Node) (xs : List SeenStmt) (s : SeenStmt) (o : Nested) → option_map (read_behind (stmts_of nodes xs)) (option_map (seq_first (stmt_of nodes s)) o) ≡ option_map (read_behind (stmts_of nodes (xs ++ s ∷ []))) o
behind_more nodes xs s None = refl
behind_more nodes xs s (Some r) = ap (λ ss. Some (ss, r.1)) (sym (joined_more nodes xs s r.0))

-- one statement more
pub nested_next : (nodes : List Node) (xs : List SeenStmt) (s : SeenStmt) (n : ℕ) (hs js : List Head) → one_read (read_nested n) hs ≡ Some (Some (stmt_of nodes s), js) →
    option_map (read_behind (stmts_of nodes xs)) (read_nested (suc n) hs) ≡ option_map (read_behind (stmts_of nodes (xs ++ s ∷ []))) (read_nested n js)
nested_next nodes xs s n hs js e = ap (option_map (read_behind (stmts_of nodes xs))) (step_is n hs ∙ ap (option_and_then (from_one (read_nested n))) e) ∙ behind_more nodes xs s (read_nested n js)

-- no statement more
pub nested_end : (ss : Stmts) (n : ℕ) (hs js : List Head) → one_read (read_nested n) hs ≡ Some (None, js) → option_map (read_behind ss) (read_nested (suc n) hs) ≡ Some (ss, js)
nested_end ss n hs js e = ap (option_map (read_behind ss)) (step_is n hs ∙ ap (option_and_then (from_one (read_nested n))) e) ∙ ap (λ zs. Some (zs, js)) (joined_done ss)

pub nested_fails : (ss : Stmts) (n : ℕ) (hs : List Head) → one_read (read_nested n) hs ≡ None → option_map (read_behind ss) (read_nested (suc n) hs) ≡ None
nested_fails ss n hs e = ap (option_map (read_behind ss)) (step_is n hs ∙ ap (option_and_then (from_one (read_nested n))) e)

pub nothing_behind : (o : Nested) → option_map (read_behind Done) o ≡ o
nothing_behind None = refl
nothing_behind (Some r) = refl

-- the same in the loop, which has made some of the steps

nested_at : (ss : Stmts) (left step n : ℕ) (hs : List Head) → left - step ≡ n → option_map (read_behind ss) (read_nested (left - step) hs) ≡ option_map (read_behind ss) (read_nested n hs)
nested_at ss left step n hs e = ap (λ (k : ℕ). option_map (read_behind ss) (read_nested k hs)) e

pub nested_begins : (nodes : List Node) (left : ℕ) (hs : List Head) → option_map (read_behind (stmts_of nodes [])) (read_nested (left - 0) hs) ≡ read_nested left hs
nested_begins nodes left hs = nested_at Done left 0 left hs (omega arith) ∙ nothing_behind (read_nested left hs)

pub nested_goes_on : (nodes : List Node) (xs : List SeenStmt) (s : SeenStmt) (left step : ℕ) (hs js : List Head) (whole : Nested) → step < left → one_read (read_nested (left - 1 - step)) hs ≡ Some (Some (stmt_of nodes s), js) →
    option_map (read_behind (stmts_of nodes xs)) (read_nested (left - step) hs) ≡ whole → option_map (read_behind (stmts_of nodes (xs ++ s ∷ []))) (read_nested (left - (step + 1)) js) ≡ whole
nested_goes_on nodes xs s left step hs js whole less e inv =
    let n : ℕ = left - 1 - step in
    nested_at (stmts_of nodes (xs ++ s ∷ [])) left (step + 1) n js (omega arith)
    ∙ sym (nested_next nodes xs s n hs js e)
    ∙ sym (nested_at (stmts_of nodes xs) left step (suc n) hs (omega arith))
    ∙ inv

pub nested_stops : (ss : Stmts) (left step : ℕ) (hs js : List Head) (whole : Nested) → step < left → one_read (read_nested (left - 1 - step)) hs ≡ Some (None, js) → option_map (read_behind ss) (read_nested (left - step) hs) ≡ whole → whole ≡ Some (ss, js)
nested_stops ss left step hs js whole less e inv = sym inv ∙ nested_at ss left step (suc (left - 1 - step)) hs (omega arith) ∙ nested_end ss (left - 1 - step) hs js e

nested_gives_up : (ss : Stmts) (left step : ℕ) (hs : List Head) (whole : Nested) → option_map (read_behind ss) (read_nested (left - step) hs) ≡ whole → one_read (read_nested (left - 1 - step)) hs ≡ None → step < left → whole ≡ None
nested_gives_up ss left step hs whole inv e less = sym inv ∙ nested_at ss left step (suc (left - 1 - step)) hs (omega arith) ∙ nested_fails ss (left - 1 - step) hs e

pub nested_error : (x : Stop) (ss : Stmts) (left step : ℕ) (hs : List Head) (whole : Nested) → option_map (read_behind ss) (read_nested (left - step) hs) ≡ whole → Fails x (one_read (read_nested (left - 1 - step)) hs) → step < left → Fails x whole
nested_error NotCil ss left step hs whole inv e less = nested_gives_up ss left step hs whole inv e less
nested_error WantOfMemory ss left step hs whole inv e less = tt

pub nested_ends : (ss : Stmts) (left step : ℕ) (hs : List Head) (whole : Nested) → left ≤ step → option_map (read_behind ss) (read_nested (left - step) hs) ≡ whole → whole ≡ None
nested_ends ss left step hs whole low inv = sym inv ∙ nested_at ss left step 0 hs (omega arith)
