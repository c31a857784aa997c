-- Device: statements of CIL only write and spend, where calls and what comes behind a spent unit do.
use Rattle.std.proofs.Common.{List, Option, Some, None, arith}
use Rattle.cil_base.proofs.OutcomeLaws.{IsPrefix-refl}
use Rattle.byte_mem.specs.declared.values.Value.{Value}
use Rattle.byte_mem.specs.Steps.{◌>>=◌}
use Rattle.byte_mem.specs.Memory.{Memory}
use Rattle.byte_mem.specs.Operator.{number_in}
use Rattle.execution.specs.States.{State, Goes, bind, last}
use Rattle.execution.specs.Data.{Kind, store_datum, zero_from}
use Rattle.execution.specs.Jumps.{Returned, Goer, if_from, switch_from, loop_from}
use Rattle.execution.specs.Calls.{Call, Enter}
use Rattle.execution.specs.Likeness.{Later, Grows}
use Rattle.execution.proofs.Congruence.{later_refl, later_trans, bind_grows, given_grows, seq_grows}
use Rattle.execution.proofs.Growth.{pure_grows, if_grows, switch_grows, loop_grows, caught_grows}
use Rattle.cil_tree.specs.Tree as tree
use Rattle.cil_tree.specs.Tree.{Exp, Lval, Callee, Instr, Set, Zero, Stmt, Do, If, Switch, Loop, Block, Label, Case, Default, Goto, Break, Return, Stmts, Done, Seq}
use Rattle.cil_tree.specs.Typing.{place_type}
use Rattle.cil_semantics.specs.Values.{Activation, graph_of, abi_of, size_in, place, scalar_value, holds_of, value}
use Rattle.cil_semantics.specs.Statements.{kind_of_place, written, result_place, callee_value, result_kind, arguments, stored, kind_of_result, call, instr, has, has_in, test, switch_value, return, stmt, stmts}

written_grows : (s : State) (o : Option Memory) → Later s (last (written s o))
written_grows s None = later_refl s
written_grows s (Some m) = record { written = IsPrefix-refl s.out; spent = omega arith }

pub stored_grows : (a : Activation) (kind : Option Kind) (at : Option Value) → Grows (stored a kind at)
stored_grows a kind None d s = later_refl s
stored_grows a kind (Some at) d s = written_grows s (kind >>= λ k. store_datum (abi_of a) s.memory k at d)

call_grows : (a : Activation) (also : Enter) → Grows also → (result : Option Lval) (f : Callee) (es : List Exp) (s : State) → Later s (last (call a also result f es s))
call_grows a also g result f es s =
    given_grows s (result_place a s.memory result) _ (λ at.
    given_grows s (callee_value a s.memory f) _ (λ v.
    given_grows s (arguments a s.memory es) _ (λ xs. one at (record { abi = abi_of a; callee = v; result = result_kind a f; arguments = xs }))))
  where
    one : (at : Option Value) (c : Call) → Later s (last (bind (also c s) (stored a (kind_of_result a result) at)))
    one at c = later_trans s (last (also c s)) (last (bind (also c s) (stored a (kind_of_result a result) at))) (g c s)
        (bind_grows (also c s) (stored a (kind_of_result a result) at) (stored_grows a (kind_of_result a result) at))

instr_grows : (a : Activation) (also : Enter) → Grows also → (i : Instr) (s : State) → Later s (last (instr a also i s))
instr_grows a also g (Set p e) s = written_grows s (kind_of_place a p >>= λ k. place a s.memory p >>= λ at. value a s.memory e >>= store_datum (abi_of a) s.memory k at)
instr_grows a also g (tree.Call result f es) s = call_grows a also g result f es s
instr_grows a also g (Zero p) s = written_grows s (place_type a.scope p >>= size_in (graph_of a) >>= λ n. place a s.memory p >>= zero_from s.memory n)

return_grows : (a : Activation) (e : Option Exp) (s : State) → Later s (last (return a e s))
return_grows a None s = later_refl s
return_grows a (Some e) s = given_grows s (value a s.memory e) (λ d. Goes (Returned (Some d)) s) (λ d. later_refl s)

mutual
  pub stmt_grows : (a : Activation) (also : Enter) (once : Stmt → Goer) → Grows also → ((x : Stmt) → Grows (once x)) → (x : Stmt) → Grows (stmt a also once x)
  stmt_grows a also once g k (Do i) en s = instr_grows a also g i s
  stmt_grows a also once g k (If e holds fails) en s =
      caught_grows (has (If e holds fails)) (if_from (test a e) (has_in holds) (has_in fails) (stmts a also once holds) (stmts a also once fails) en s) (once (If e holds fails)) s (k (If e holds fails))
      (if_grows (test a e) (has_in holds) (has_in fails) (stmts a also once holds) (stmts a also once fails) (λ t. pure_grows t (holds_of a t.memory e)) (stmts_grows a also once g k holds) (stmts_grows a also once g k fails) en s)
  stmt_grows a also once g k (Switch e body) en s =
      caught_grows (has (Switch e body)) (switch_from (switch_value a e) (has_in body) (stmts a also once body) en s) (once (Switch e body)) s (k (Switch e body))
      (switch_grows (switch_value a e) (has_in body) (stmts a also once body) (λ t. pure_grows t (scalar_value a t.memory e >>= number_in)) (stmts_grows a also once g k body) en s)
  stmt_grows a also once g k (Loop body) en s =
      caught_grows (has (Loop body)) (loop_from (once (Loop body) None) (stmts a also once body) en s) (once (Loop body)) s (k (Loop body))
      (loop_grows (once (Loop body) None) (stmts a also once body) (k (Loop body) None) (stmts_grows a also once g k body) en s)
  stmt_grows a also once g k (Block body) en s = caught_grows (has (Block body)) (stmts a also once body en s) (once (Block body)) s (k (Block body)) (stmts_grows a also once g k body en s)
  stmt_grows a also once g k (Label l) en s = later_refl s
  stmt_grows a also once g k (Case kind v) en s = later_refl s
  stmt_grows a also once g k Default en s = later_refl s
  stmt_grows a also once g k (Goto l) en s = later_refl s
  stmt_grows a also once g k Break en s = later_refl s
  stmt_grows a also once g k (Return e) en s = return_grows a e s

  pub stmts_grows : (a : Activation) (also : Enter) (once : Stmt → Goer) → Grows also → ((x : Stmt) → Grows (once x)) → (xs : Stmts) → Grows (stmts a also once xs)
  stmts_grows a also once g k Done en s = later_refl s
  stmts_grows a also once g k (Seq first rest) en s = seq_grows (has first) (has_in rest) (stmt a also once first) (stmts a also once rest) (stmt_grows a also once g k first) (stmts_grows a also once g k rest) en s
