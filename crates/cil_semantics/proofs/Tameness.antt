-- Device: statements of CIL ask of calls, and of what comes behind a spent unit, nothing but what they do there.
use Rattle.std.proofs.Common.{◌≡◌, ℕ, ◌+◌, ◌<◌, ◌≤◌, List, Option, Some, None, refl, sym, ap, subst, arith}
use Rattle.byte_mem.specs.declared.values.Value.{Value}
use Rattle.byte_mem.specs.Steps.{◌>>=◌}
use Rattle.byte_mem.specs.Memory.{Memory}
use Rattle.byte_mem.specs.Operator.{number_in}
use Rattle.execution.specs.States.{State, Result, Goes, last, with_left, with_memory}
use Rattle.execution.specs.Unrolling.{meaning}
use Rattle.execution.specs.Data.{Kind, Datum, store_datum}
use Rattle.execution.specs.Jumps.{ToLabel, Entry, Signal, Normal, Broken, Jumped, Returned, Has, Goer, spending, caught, if_from, switch_from, turned, turn_ends, turn, loop_from}
use Rattle.execution.specs.Calls.{Enter}
use Rattle.execution.specs.Likeness.{Ending, Exact, Past, Like, Same, LikeSignal, LikeGoer, Grows, Needs, Along}
use Rattle.execution.specs.Bounds.{cut_at, Twins, twins, Tied, Calm, Guarded, TiedSteps, CalmStep}
use Rattle.execution.proofs.Congruence.{later_trans, needs, needed, always, bind_like, bind_grows, seq_like, if_like, switch_like, turned_grows, turn_ends_like, loop_like, caught_like, spending_grows}
use Rattle.execution.proofs.Growth.{turn_grows}
use Rattle.execution.proofs.FixedPoint.{calm_grows, spend_tied, meaning_is, meanings_tied}
use Rattle.execution.proofs.Twins.{like_weaker, signal_same, signal_like, signals_wider, at_twin, goes_tied, undefined_tied, given_tied, pure_tied, follows_same, along_same, carried, spending_tied}
use Rattle.cil_tree.specs.Tree as tree
use Rattle.cil_tree.specs.Tree.{Exp, Lval, Callee, Instr, Set, Zero, Stmt, Do, If, Switch, Loop, Block, Label, Case, Default, Goto, Break, Return, Stmts, Done, Seq}
use Rattle.cil_semantics.specs.Values.{Activation, abi_of, scalar_value, holds_of, value}
use Rattle.cil_semantics.specs.Statements.{written, set, zero as clear, result_place, callee_value, result_kind, arguments, stored, kind_of_result, call, instr, has, has_in, test, switch_value, return, stmt, stmts, Entered, stmt_step, statement}
use Rattle.cil_semantics.proofs.Growth.{stored_grows, stmts_grows}

-- writes and expressions look at memory alone

written_tied : (n more : ℕ) (base : List ℕ) (s t : State) (o : Option Memory) → Twins n more base s t → Like (twins n more base) (LikeSignal (twins n more base) Same) (written s o) (written t o)
written_tied n more base s t None tw = undefined_tied (LikeSignal (twins n more base) Same) n more base s t tw
written_tied n more base s t (Some m) tw = (Normal, with_memory t m, refl, (tw.0, ap (λ z. with_memory z m) tw.1, tw.2), refl)

-- the state with units more, as a twin
twin : (n more : ℕ) (base : List ℕ) (s t : State) → Twins n more base s t → Twins n more base s (with_left s (s.left + more))
twin n more base s t tw = (tw.0, refl, tw.2)

stored_tied : (n more : ℕ) (base : List ℕ) (a : Activation) (kind : Option Kind) (at : Option Value) (d : Datum) (s t : State) → Twins n more base s t
    → Like (twins n more base) (LikeSignal (twins n more base) Same) (stored a kind at d s) (stored a kind at d t)
stored_tied n more base a kind None d s t tw = goes_tied (LikeSignal (twins n more base) Same) n more base s t Normal Normal refl tw
stored_tied n more base a kind (Some at) d s t tw =
    at_twin n more base s t (λ z. Like (twins n more base) (LikeSignal (twins n more base) Same) (stored a kind (Some at) d s) (stored a kind (Some at) d z)) tw
    (written_tied n more base s (with_left s (s.left + more)) (kind >>= λ k. store_datum (abi_of a) s.memory k at d) (twin n more base s t tw))

call_tied : (n more : ℕ) (base : List ℕ) (a : Activation) (enter also : Enter) (result : Option Lval) (f : Callee) (es : List Exp) → Tied n more base enter also → (s t : State) → Twins n more base s t
    → Like (twins n more base) (LikeSignal (twins n more base) Same) (call a enter result f es s) (call a also result f es t)
call_tied n more base a enter also result f es k s t tw =
    at_twin n more base s t (λ z. Like (twins n more base) (LikeSignal (twins n more base) Same) (call a enter result f es s) (call a also result f es z)) tw
    (given_tied (LikeSignal (twins n more base) Same) n more base s (with_left s (s.left + more)) (result_place a s.memory result) _ _ (twin n more base s t tw) (λ at.
    given_tied (LikeSignal (twins n more base) Same) n more base s (with_left s (s.left + more)) (callee_value a s.memory f) _ _ (twin n more base s t tw) (λ v.
    given_tied (LikeSignal (twins n more base) Same) n more base s (with_left s (s.left + more)) (arguments a s.memory es) _ _ (twin n more base s t tw) (λ xs.
    bind_like (twins n more base) Same (LikeSignal (twins n more base) Same)
    (enter (record { abi = abi_of a; callee = v; result = result_kind a f; arguments = xs }) s) (also (record { abi = abi_of a; callee = v; result = result_kind a f; arguments = xs }) (with_left s (s.left + more)))
    (stored a (kind_of_result a result) at) (stored a (kind_of_result a result) at)
    (k (record { abi = abi_of a; callee = v; result = result_kind a f; arguments = xs }) s (with_left s (s.left + more)) (twin n more base s t tw))
    (λ d e u z h w. subst (λ x. Like (twins n more base) (LikeSignal (twins n more base) Same) (stored a (kind_of_result a result) at d u) (stored a (kind_of_result a result) at x z)) (sym h) (stored_tied n more base a (kind_of_result a result) at d u z w))
    (always (twins n more base) (stored a (kind_of_result a result) at) (stored_grows a (kind_of_result a result) at))))))

instr_tied : (n more : ℕ) (base : List ℕ) (a : Activation) (enter also : Enter) (i : Instr) → Tied n more base enter also → (s t : State) → Twins n more base s t
    → Like (twins n more base) (LikeSignal (twins n more base) Same) (instr a enter i s) (instr a also i t)
instr_tied n more base a enter also (Set p e) k s t tw =
    at_twin n more base s t (λ z. Like (twins n more base) (LikeSignal (twins n more base) Same) (set a p e s) (set a p e z)) tw (written_tied n more base s (with_left s (s.left + more)) _ (twin n more base s t tw))
instr_tied n more base a enter also (tree.Call result f es) k s t tw = call_tied n more base a enter also result f es k s t tw
instr_tied n more base a enter also (Zero p) k s t tw =
    at_twin n more base s t (λ z. Like (twins n more base) (LikeSignal (twins n more base) Same) (clear a p s) (clear a p z)) tw (written_tied n more base s (with_left s (s.left + more)) _ (twin n more base s t tw))

test_tied : (n more : ℕ) (base : List ℕ) (a : Activation) (e : Exp) (s t : State) → Twins n more base s t → Like (twins n more base) Same (test a e s) (test a e t)
test_tied n more base a e s t tw =
    at_twin n more base s t (λ z. Like (twins n more base) Same (test a e s) (test a e z)) tw (pure_tied n more base s (with_left s (s.left + more)) (holds_of a s.memory e) (twin n more base s t tw))

switch_value_tied : (n more : ℕ) (base : List ℕ) (a : Activation) (e : Exp) (s t : State) → Twins n more base s t → Like (twins n more base) Same (switch_value a e s) (switch_value a e t)
switch_value_tied n more base a e s t tw =
    at_twin n more base s t (λ z. Like (twins n more base) Same (switch_value a e s) (switch_value a e z)) tw
    (pure_tied n more base s (with_left s (s.left + more)) (scalar_value a s.memory e >>= number_in) (twin n more base s t tw))

return_tied : (n more : ℕ) (base : List ℕ) (a : Activation) (e : Option Exp) (s t : State) → Twins n more base s t → Like (twins n more base) (LikeSignal (twins n more base) Same) (return a e s) (return a e t)
return_tied n more base a None s t tw = goes_tied (LikeSignal (twins n more base) Same) n more base s t (Returned None) (Returned None) refl tw
return_tied n more base a (Some e) s t tw =
    at_twin n more base s t (λ z. Like (twins n more base) (LikeSignal (twins n more base) Same) (return a (Some e) s) (return a (Some e) z)) tw
    (given_tied (LikeSignal (twins n more base) Same) n more base s (with_left s (s.left + more)) (value a s.memory e) _ _ (twin n more base s t tw)
    (λ d. goes_tied (LikeSignal (twins n more base) Same) n more base s (with_left s (s.left + more)) (Returned (Some d)) (Returned (Some d)) (d, refl, refl) (twin n more base s t tw)))

-- what is asked of calls and of what comes behind a spent unit

record Grown (a : Activation) (also : Enter) (once : Stmt → Goer) : Type 0 where
  turns : (x : Stmt) → Grows (once x)
  list : (xs : Stmts) → Grows (stmts a also once xs)

record Ready (a : Activation) (n more : ℕ) (base : List ℕ) (enter also : Enter) (again once : Stmt → Goer) : Type 0 where
  calls : (m : ℕ) → m ≤ n → Tied m more base enter also
  turns : (m : ℕ) → m < n → (x : Stmt) → LikeGoer (twins m more base) Same Same (again x) (once x)
  grown : Needs (cut_at more) (Grown a also once)

lower : (a : Activation) (m n more : ℕ) (base : List ℕ) (enter also : Enter) (again once : Stmt → Goer) → m ≤ n → Ready a n more base enter also again once → Ready a m more base enter also again once
lower a m n more base enter also again once h r = record {
  calls = λ j l. let e : j ≤ n = omega arith in r.calls j e;
  turns = λ j l. let e : j < n = omega arith in r.turns j e;
  grown = r.grown;
}

-- what does not look at the entry
plain : (n more : ℕ) (base : List ℕ) (go to : State → Result Signal) → ((s t : State) → Twins n more base s t → Like (twins n more base) (LikeSignal (twins n more base) Same) (go s) (to t))
    → LikeGoer (twins n more base) Same Same (λ en s. go s) (λ en s. to s)
plain n more base go to k = record { start = k; at = λ x y i. k }

-- around a construct, jumps back are caught
caught_alike : (a : Activation) (n more : ℕ) (base : List ℕ) (enter also : Enter) (again once : Stmt → Goer) → Ready a n more base enter also again once → (x : Stmt) (h : Has) (inner outer : Goer) → LikeGoer (twins n more base) Same Same inner outer
    → LikeGoer (twins n more base) Same Same (λ en s. caught h (inner en s) (again x)) (λ en s. caught h (outer en s) (once x))
caught_alike a n more base enter also again once r x h inner outer l = caught_like (twins n more base) Same Same Same h h inner outer (again x) (once x) l along
  where
    along : Along (twins n more base) Same Same h h (spending (again x)) (spending (once x))
    along = along_same n more base h (spending (again x)) (spending (once x))
        (spending_tied n more base (again x) (once x) (λ m l. r.turns m l x) (needs (cut_at more) (λ g. g.turns x) r.grown))
        (carried n more base (spending (once x)) (needs (cut_at more) (λ g. spending_grows (once x) (g.turns x)) r.grown))

-- a turn of a loop, whose next one is a loop again
turn_alike : (a : Activation) (n more : ℕ) (base : List ℕ) (enter also : Enter) (again once : Stmt → Goer) → Ready a n more base enter also again once → (body : Stmts)
    → ((m : ℕ) → m ≤ n → LikeGoer (twins m more base) Same Same (stmts a enter again body) (stmts a also once body)) → (s t : State) → Twins n more base s t
    → Like (twins n more base) (LikeSignal (twins n more base) Same) (turn (again (Loop body) None) (stmts a enter again body) s) (turn (once (Loop body) None) (stmts a also once body) t)
turn_alike a n more base enter also again once r body k s t tw =
    spend_tied (LikeSignal (twins n more base) Same) n more base (λ u. turn_ends (stmts a enter again body None u) (again (Loop body) None)) (λ u. turn_ends (stmts a also once body None u) (once (Loop body) None)) s t tw
    (needs (cut_at more) (λ g u. later_trans u (last (stmts a also once body None u)) (last (turn_ends (stmts a also once body None u) (once (Loop body) None))) (g.list body None u)
    (bind_grows (stmts a also once body None u) (turned (once (Loop body) None)) (turned_grows (once (Loop body) None) (g.turns (Loop body) None)))) r.grown)
    (λ m u v l w. let e : m ≤ n = omega arith in
    signals_wider m n more base (turn_ends (stmts a enter again body None u) (again (Loop body) None)) (turn_ends (stmts a also once body None v) (once (Loop body) None))
    (turn_ends_like (twins m more base) Same Same (again (Loop body) None) (once (Loop body) None) (stmts a enter again body None u) (stmts a also once body None v)
    (λ s t tw. (r.turns m l (Loop body)).start s t tw) (λ x y i. i)
    (carried m more base (turned (once (Loop body) None)) (needs (cut_at more) (λ g. turned_grows (once (Loop body) None) (g.turns (Loop body) None)) r.grown))
    ((k m e).start u v w)))

loop_alike : (a : Activation) (n more : ℕ) (base : List ℕ) (enter also : Enter) (again once : Stmt → Goer) → Ready a n more base enter also again once → (body : Stmts)
    → ((m : ℕ) → m ≤ n → LikeGoer (twins m more base) Same Same (stmts a enter again body) (stmts a also once body))
    → LikeGoer (twins n more base) Same Same (loop_from (again (Loop body) None) (stmts a enter again body)) (loop_from (once (Loop body) None) (stmts a also once body))
loop_alike a n more base enter also again once r body k =
    loop_like (twins n more base) Same Same Same (again (Loop body) None) (once (Loop body) None) (stmts a enter again body) (stmts a also once body) (k n (omega arith)) (λ x y i. i)
    (turn_alike a n more base enter also again once r body k)
    (carried n more base (turned (turn (once (Loop body) None) (stmts a also once body))) (needs (cut_at more) turns_grow r.grown))
  where
    turns_grow : Grown a also once → Grows (turned (turn (once (Loop body) None) (stmts a also once body)))
    turns_grow g = turned_grows (turn (once (Loop body) None) (stmts a also once body)) (turn_grows (once (Loop body) None) (stmts a also once body) (g.turns (Loop body) None) (g.list body))

mutual
  stmt_alike : (a : Activation) (more : ℕ) (base : List ℕ) (enter also : Enter) (again once : Stmt → Goer) (x : Stmt) (n : ℕ) → Ready a n more base enter also again once
      → LikeGoer (twins n more base) Same Same (stmt a enter again x) (stmt a also once x)
  stmt_alike a more base enter also again once (Do i) n r = plain n more base (instr a enter i) (instr a also i) (instr_tied n more base a enter also i (r.calls n (omega arith)))
  stmt_alike a more base enter also again once (If e holds fails) n r =
      caught_alike a n more base enter also again once r (If e holds fails) (has (If e holds fails))
      (if_from (test a e) (has_in holds) (has_in fails) (stmts a enter again holds) (stmts a enter again fails)) (if_from (test a e) (has_in holds) (has_in fails) (stmts a also once holds) (stmts a also once fails))
      (if_like (twins n more base) Same Same (test a e) (test a e) (has_in holds) (has_in holds) (has_in fails) (has_in fails) (stmts a enter again holds) (stmts a also once holds) (stmts a enter again fails) (stmts a also once fails)
      (test_tied n more base a e) (λ x y i. ap (has_in holds) i) (stmts_alike a more base enter also again once holds n r)
      (follows_same n more base (has_in fails) (stmts a enter again fails) (stmts a also once fails) (stmts_alike a more base enter also again once fails n r) (carried n more base (stmts a also once fails) (needs (cut_at more) (λ g. g.list fails) r.grown)))
      (carried n more base (stmts a also once holds) (needs (cut_at more) (λ g. g.list holds) r.grown)))
  stmt_alike a more base enter also again once (Switch e body) n r =
      caught_alike a n more base enter also again once r (Switch e body) (has (Switch e body))
      (switch_from (switch_value a e) (has_in body) (stmts a enter again body)) (switch_from (switch_value a e) (has_in body) (stmts a also once body))
      (switch_like (twins n more base) Same Same (switch_value a e) (switch_value a e) (has_in body) (has_in body) (stmts a enter again body) (stmts a also once body)
      (switch_value_tied n more base a e) (λ v. refl) refl (λ x y i. ap (has_in body) i) (stmts_alike a more base enter also again once body n r)
      (carried n more base (stmts a also once body) (needs (cut_at more) (λ g. g.list body) r.grown)))
  stmt_alike a more base enter also again once (Loop body) n r =
      caught_alike a n more base enter also again once r (Loop body) (has (Loop body))
      (loop_from (again (Loop body) None) (stmts a enter again body)) (loop_from (once (Loop body) None) (stmts a also once body))
      (loop_alike a n more base enter also again once r body (λ m l. stmts_alike a more base enter also again once body m (lower a m n more base enter also again once l r)))
  stmt_alike a more base enter also again once (Block body) n r =
      caught_alike a n more base enter also again once r (Block body) (has (Block body)) (stmts a enter again body) (stmts a also once body) (stmts_alike a more base enter also again once body n r)
  stmt_alike a more base enter also again once (Label l) n r = plain n more base (Goes Normal) (Goes Normal) (λ s t tw. goes_tied (LikeSignal (twins n more base) Same) n more base s t Normal Normal refl tw)
  stmt_alike a more base enter also again once (Case kind v) n r = plain n more base (Goes Normal) (Goes Normal) (λ s t tw. goes_tied (LikeSignal (twins n more base) Same) n more base s t Normal Normal refl tw)
  stmt_alike a more base enter also again once Default n r = plain n more base (Goes Normal) (Goes Normal) (λ s t tw. goes_tied (LikeSignal (twins n more base) Same) n more base s t Normal Normal refl tw)
  stmt_alike a more base enter also again once (Goto l) n r = plain n more base (Goes (Jumped (ToLabel l))) (Goes (Jumped (ToLabel l))) (λ s t tw. goes_tied (LikeSignal (twins n more base) Same) n more base s t (Jumped (ToLabel l)) (Jumped (ToLabel l)) (ToLabel l, refl, refl) tw)
  stmt_alike a more base enter also again once Break n r = plain n more base (Goes Broken) (Goes Broken) (λ s t tw. goes_tied (LikeSignal (twins n more base) Same) n more base s t Broken Broken refl tw)
  stmt_alike a more base enter also again once (Return e) n r = plain n more base (return a e) (return a e) (return_tied n more base a e)

  stmts_alike : (a : Activation) (more : ℕ) (base : List ℕ) (enter also : Enter) (again once : Stmt → Goer) (xs : Stmts) (n : ℕ) → Ready a n more base enter also again once
      → LikeGoer (twins n more base) Same Same (stmts a enter again xs) (stmts a also once xs)
  stmts_alike a more base enter also again once Done n r = plain n more base (Goes Normal) (Goes Normal) (λ s t tw. goes_tied (LikeSignal (twins n more base) Same) n more base s t Normal Normal refl tw)
  stmts_alike a more base enter also again once (Seq first rest) n r =
      seq_like (twins n more base) Same Same (has first) (has first) (has_in rest) (has_in rest) (stmt a enter again first) (stmt a also once first) (stmts a enter again rest) (stmts a also once rest)
      (λ x y i. ap (has first) i) (stmt_alike a more base enter also again once first n r)
      (follows_same n more base (has_in rest) (stmts a enter again rest) (stmts a also once rest) (stmts_alike a more base enter also again once rest n r) (carried n more base (stmts a also once rest) (needs (cut_at more) (λ g. g.list rest) r.grown)))

-- from functions of pairs to statements and back

once_of : (Entered → State → Result Signal) → Stmt → Goer
once_of go x en s = go (x, en) s

goer_of_tied : (n more : ℕ) (base : List ℕ) (go to : Entered → State → Result Signal) → Tied n more base go to → (x : Stmt) → LikeGoer (twins n more base) Same Same (λ en s. go (x, en) s) (λ en s. to (x, en) s)
goer_of_tied n more base go to k x = record {
  start = λ s t tw. like_weaker (twins n more base) Same (LikeSignal (twins n more base) Same) (go (x, None) s) (to (x, None) t) (signal_like n more base) (k (x, None) s t tw);
  at = λ y z i s t tw. subst (λ w. Like (twins n more base) (LikeSignal (twins n more base) Same) (go (x, Some y) s) (to (x, Some w) t)) (sym i)
      (like_weaker (twins n more base) Same (LikeSignal (twins n more base) Same) (go (x, Some y) s) (to (x, Some y) t) (signal_like n more base) (k (x, Some y) s t tw));
}

entry_tied : (n more : ℕ) (base : List ℕ) (go to : Goer) → LikeGoer (twins n more base) Same Same go to → (en : Entry) (s t : State) → Twins n more base s t → Like (twins n more base) Same (go en s) (to en t)
entry_tied n more base go to l None s t tw = like_weaker (twins n more base) (LikeSignal (twins n more base) Same) Same (go None s) (to None t) (signal_same n more base) (l.start s t tw)
entry_tied n more base go to l (Some x) s t tw = like_weaker (twins n more base) (LikeSignal (twins n more base) Same) Same (go (Some x) s) (to (Some x) t) (signal_same n more base) (l.at x x refl s t tw)

-- with calls that are calm, so is the step
calm_step : (a : Activation) (enter : Enter) → Calm enter → CalmStep (stmt_step a enter)
calm_step a enter calm n base go k x s t tw =
    entry_tied n 0 base (stmt a enter (λ y en. go (y, en)) x.0) (stmt a enter (λ y en. go (y, en)) x.0)
    (stmt_alike a 0 base enter enter (λ y en. go (y, en)) (λ y en. go (y, en)) x.0 n (record { calls = λ m l. calm m base; turns = λ m l. goer_of_tied m 0 base go go (k m l); grown = tt })) x.1 s t tw

-- what is calm grows
grown_of : (a : Activation) (also : Enter) (to : Entered → State → Result Signal) → Calm also → Calm to → Grown a also (λ y en. to (y, en))
grown_of a also to calm still = record {
  turns = λ x en s. calm_grows to still (x, en) s;
  list = stmts_grows a also (λ y en. to (y, en)) (calm_grows also calm) (λ x en s. calm_grows to still (x, en) s);
}

two : {X Y Z : Type 0} (e : Ending) → (X → Y → Z) → Needs e X → Needs e Y → Needs e Z
two Exact f x y = tt
two Past f x y = f x y

-- where calls are alike, so are the steps
steps_tied : (a : Activation) (top more : ℕ) (base : List ℕ) (enter also : Enter) → Needs (cut_at more) (Calm also) → ((m : ℕ) → m ≤ top → Tied m more base enter also) → TiedSteps top more base (stmt_step a enter) (stmt_step a also)
steps_tied a top more base enter also calm k n go to h still below x s t tw =
    entry_tied n more base (stmt a enter (λ y en. go (y, en)) x.0) (stmt a also (λ y en. to (y, en)) x.0)
    (stmt_alike a more base enter also (λ y en. go (y, en)) (λ y en. to (y, en)) x.0 n (record {
      calls = λ m l. let e : m ≤ top = omega arith in k m e;
      turns = λ m l. goer_of_tied m more base go to (below m l);
      grown = two (cut_at more) (grown_of a also to) calm still;
    })) x.1 s t tw

-- what a statement does, where calls are alike
pub statements_tied : (a : Activation) (n more : ℕ) (base : List ℕ) (enter also : Enter) → Needs (cut_at more) (Calm also) → ((m : ℕ) → m ≤ n → Tied m more base enter also) → Tied n more base (meaning (stmt_step a enter)) (meaning (stmt_step a also))
statements_tied a n more base enter also calm k =
    meanings_tied (stmt_step a enter) (stmt_step a also) n more base (steps_tied a n more base enter also calm k) (needs (cut_at more) (calm_step a also) calm) n (omega arith)

guarded : (a : Activation) (enter : Enter) → ((n more : ℕ) (base : List ℕ) → Tied n more base enter enter) → Guarded (stmt_step a enter)
guarded a enter k n more base go to still below =
    steps_tied a n more base enter enter (needed (cut_at more) (λ m b. k m 0 b)) (λ m l. k m more base) n go to (omega arith) still below

-- what a statement does is what it does where what comes behind a spent unit does so
pub statement_is : (a : Activation) (enter : Enter) → ((n more : ℕ) (base : List ℕ) → Tied n more base enter enter) → (x : Stmt) (en : Entry) (s : State) → statement a enter x en s ≡ stmt a enter (statement a enter) x en s
statement_is a enter k x en s = meaning_is (stmt_step a enter) (guarded a enter k) (x, en) s
