-- Device: what a statement gives is no jump to a label in it.
use Rattle.std.proofs.Common.{◌≡◌, ℕ, zero, suc, false, Some, None, refl}
use Rattle.execution.specs.States.{State, Result, Goes, Exits, Running, Undefined, with_left}
use Rattle.execution.specs.Unrolling.{unrolled}
use Rattle.execution.specs.Jumps.{Target, Entry, Signal, Normal, Broken, Jumped, Returned, Has, Goer, IsQuiet, if_from, switch_from, loop_from}
use Rattle.execution.specs.Calls.{Enter}
use Rattle.execution.proofs.Quiet.{spent_quiet, caught_quiet}
use Rattle.cil_tree.specs.Tree.{Stmt, Do, If, Switch, Loop, Block, Label, Case, Default, Goto, Break, Return}
use Rattle.cil_semantics.specs.Values.{Activation}
use Rattle.cil_semantics.specs.Statements.{has, has_in, instr, test, switch_value, return, stmt, stmts, stmt_step, statement}

-- nothing is in a simple statement
nothing_in : (h : Has) → ((t : Target) → h t ≡ false) → (r : Result Signal) → IsQuiet h r
nothing_in h k (Goes Normal s) = tt
nothing_in h k (Goes Broken s) = tt
nothing_in h k (Goes (Jumped t) s) = k t
nothing_in h k (Goes (Returned v) s) = tt
nothing_in h k (Exits status s) = tt
nothing_in h k (Running s) = tt
nothing_in h k (Undefined s) = tt

stmt_quiet : (a : Activation) (enter : Enter) (again : Stmt → Goer) (x : Stmt) (en : Entry) (s : State)
    → ((t : Target) (u : State) → IsQuiet (has x) (again x (Some t) u)) → IsQuiet (has x) (stmt a enter again x en s)
stmt_quiet a enter again (Do i) en s k = nothing_in (has (Do i)) (λ t. refl) (instr a enter i s)
stmt_quiet a enter again (If e holds fails) en s k =
    caught_quiet (has (If e holds fails)) (if_from (test a e) (has_in holds) (has_in fails) (stmts a enter again holds) (stmts a enter again fails) en s) (again (If e holds fails))
    (λ t u h. spent_quiet (has (If e holds fails)) (again (If e holds fails) (Some t)) u (λ n e. k t (with_left u n)))
stmt_quiet a enter again (Switch e body) en s k =
    caught_quiet (has (Switch e body)) (switch_from (switch_value a e) (has_in body) (stmts a enter again body) en s) (again (Switch e body))
    (λ t u h. spent_quiet (has (Switch e body)) (again (Switch e body) (Some t)) u (λ n e. k t (with_left u n)))
stmt_quiet a enter again (Loop body) en s k =
    caught_quiet (has (Loop body)) (loop_from (again (Loop body) None) (stmts a enter again body) en s) (again (Loop body)) (λ t u h. spent_quiet (has (Loop body)) (again (Loop body) (Some t)) u (λ n e. k t (with_left u n)))
stmt_quiet a enter again (Block body) en s k = caught_quiet (has (Block body)) (stmts a enter again body en s) (again (Block body)) (λ t u h. spent_quiet (has (Block body)) (again (Block body) (Some t)) u (λ n e. k t (with_left u n)))
stmt_quiet a enter again (Label n) en s k = tt
stmt_quiet a enter again (Case kind v) en s k = tt
stmt_quiet a enter again Default en s k = tt
stmt_quiet a enter again (Goto n) en s k = refl
stmt_quiet a enter again Break en s k = tt
stmt_quiet a enter again (Return e) en s k = nothing_in (has (Return e)) (λ t. refl) (return a e s)

unrolled_quiet : (a : Activation) (enter : Enter) (x : Stmt) (n : ℕ) (en : Entry) (s : State) → IsQuiet (has x) (unrolled (stmt_step a enter) n (x, en) s)
unrolled_quiet a enter x zero en s = tt
unrolled_quiet a enter x (suc n) en s = stmt_quiet a enter (λ y e. unrolled (stmt_step a enter) n (y, e)) x en s (λ t u. unrolled_quiet a enter x n (Some t) u)

pub statement_quiet : (a : Activation) (enter : Enter) (x : Stmt) (en : Entry) (s : State) → IsQuiet (has x) (statement a enter x en s)
statement_quiet a enter x en s = unrolled_quiet a enter x (suc s.left) en s
