-- Definition: what the statements of CIL do (C11 6.8); the constructs are those of all languages here.
use Rattle.std.specs.Prelude.{ℕ, Bool, true, false, ◌&&◌, ◌||◌, nat_eq, Option, Some, None, option_map, List, [], ◌∷◌, ℤ}
use Rattle.std.specs.Ordering.{int_eq}
use Rattle.byte_mem.specs.declared.values.Value.{Value}
use Rattle.byte_mem.specs.Steps.{◌>>=◌}
use Rattle.byte_mem.specs.Memory.{Memory}
use Rattle.byte_mem.specs.Operator.{number_in}
use Rattle.type_graph.specs.Shapes.{Shape, FuncType}
use Rattle.execution.specs.States.{State, with_memory, Result, Goes, bind, given, pure}
use Rattle.execution.specs.Unrolling.{Step, meaning}
use Rattle.execution.specs.Data.{Kind, Datum, Argument, store_datum, zero_from}
use Rattle.execution.specs.Jumps.{Target, ToLabel, ToCase, ToDefault, Entry, Signal, Normal, Broken, Jumped, Returned, Goer, caught, seq_from, if_from, switch_from, loop_from}
use Rattle.execution.specs.Calls.{Enter}
use Rattle.cil_tree.specs.Tree as tree
use Rattle.cil_tree.specs.Tree.{Exp, Lval, Callee, Direct, Through, Instr, Set, Zero, Stmt, Do, If, Switch, Loop, Block, Label, Case, Default, Goto, Break, Return, Stmts, Done, Seq}
use Rattle.cil_tree.specs.Typing.{type_of, place_type}
use Rattle.cil_tree.specs.Bodies.{callee_type}
use Rattle.cil_semantics.specs.Values.{Activation, graph_of, abi_of, size_in, kind_in, global_place, value, scalar_value, place, holds_of}

abbrev pub kind_of_place : Activation → Lval → Option Kind
kind_of_place a p = place_type a.scope p >>= kind_in (graph_of a)

-- the state with a memory that may be undefined
abbrev pub written : State → Option Memory → Result Signal
written s m = given s m (λ n. Goes Normal (with_memory s n))

-- C11 6.5.16p3: the place, then the value (the order is own), then the store
abbrev pub set : Activation → Lval → Exp → State → Result Signal
set a p e s = written s (kind_of_place a p >>= λ k. place a s.memory p >>= λ at. value a s.memory e >>= store_datum (abi_of a) s.memory k at)

-- own: all bytes of the place become zero
abbrev pub zero : Activation → Lval → State → Result Signal
zero a p s = written s (place_type a.scope p >>= size_in (graph_of a) >>= λ n. place a s.memory p >>= zero_from s.memory n)

abbrev pub result_place : Activation → Memory → Option Lval → Option (Option Value)
result_place a m None = Some None
result_place a m (Some p) = option_map Some (place a m p)

-- what a callee points to: a function by its name, or what a pointer's value is
abbrev pub callee_value : Activation → Memory → Callee → Option Value
callee_value a m (Direct n) = global_place a n
callee_value a m (Through e) = scalar_value a m e

abbrev pub result_type : Shape → Option Shape
result_type (FuncType ret params proto variadic) = Some ret
result_type _ = None

-- the kind of the result that the caller's types ask for
abbrev pub result_kind : Activation → Callee → Option Kind
result_kind a f = callee_type a.scope f >>= result_type >>= kind_in (graph_of a)

abbrev pub argument : Activation → Memory → Exp → Option Argument
argument a m e = value a m e >>= λ d. Some (record { kind = type_of a.scope e >>= kind_in (graph_of a); datum = d })

abbrev pub arguments : Activation → Memory → List Exp → Option (List Argument)
arguments a m [] = Some []
arguments a m (e ∷ es) = argument a m e >>= λ x. arguments a m es >>= λ xs. Some (x ∷ xs)

abbrev pub stored : Activation → Option Kind → Option Value → Datum → State → Result Signal
stored a kind None d s = Goes Normal s
stored a kind (Some at) d s = written s (kind >>= λ k. store_datum (abi_of a) s.memory k at d)

abbrev pub kind_of_result : Activation → Option Lval → Option Kind
kind_of_result a None = None
kind_of_result a (Some p) = kind_of_place a p

-- C11 6.5.2.2p10 (the order is own): the place of the result, what is called, the arguments from the left, the call, the store
abbrev pub call : Activation → Enter → Option Lval → Callee → List Exp → State → Result Signal
call a enter result f es s =
    given s (result_place a s.memory result) (λ at.
    given s (callee_value a s.memory f) (λ v.
    given s (arguments a s.memory es) (λ xs.
    bind (enter (record { abi = abi_of a; callee = v; result = result_kind a f; arguments = xs }) s) (λ d t. stored a (kind_of_result a result) at d t))))

abbrev pub instr : Activation → Enter → Instr → State → Result Signal
instr a enter (Set p e) s = set a p e s
instr a enter (tree.Call result f es) s = call a enter result f es s
instr a enter (Zero p) s = zero a p s

-- C11 6.8.1: the labels, cases and defaults that stand in a statement; those of a switch within it are that switch's own
abbrev pub is_label : Target → Bool
is_label (ToLabel n) = true
is_label _ = false

abbrev pub labels : ℕ → Target → Bool
labels n (ToLabel m) = nat_eq n m
labels n _ = false

abbrev pub has_case : ℤ → Target → Bool
has_case v (ToCase w) = int_eq v w
has_case v _ = false

abbrev pub is_default : Target → Bool
is_default ToDefault = true
is_default _ = false

abbrev mutual
  pub has : Stmt → Target → Bool
  has (Do i) t = false
  has (If e holds fails) t = has_in holds t || has_in fails t
  has (Switch e body) t = is_label t && has_in body t
  has (Loop body) t = has_in body t
  has (Block body) t = has_in body t
  has (Label n) t = labels n t
  has (Case kind v) t = has_case v t
  has Default t = is_default t
  has (Goto n) t = false
  has Break t = false
  has (Return e) t = false

  pub has_in : Stmts → Target → Bool
  has_in Done t = false
  has_in (Seq first rest) t = has first t || has_in rest t

abbrev pub test : Activation → Exp → State → Result Bool
test a e s = pure s (holds_of a s.memory e)

-- C11 6.8.4.2p5: the value of a switch; it counts as a test, so that Unknown and a pointer are undefined (own)
abbrev pub switch_value : Activation → Exp → State → Result ℤ
switch_value a e s = pure s (scalar_value a s.memory e >>= number_in)

-- C11 6.8.6.4
abbrev pub return : Activation → Option Exp → State → Result Signal
return a None s = Goes (Returned None) s
return a (Some e) s = given s (value a s.memory e) (λ d. Goes (Returned (Some d)) s)

abbrev mutual
  -- what a statement does from an entry, given what calls do and what comes behind a spent unit: a statement from an entry again
  pub stmt : Activation → Enter → (Stmt → Goer) → Stmt → Goer
  stmt a enter again (Do i) en s = instr a enter i s
  stmt a enter again (If e holds fails) en s =
      caught (has (If e holds fails)) (if_from (test a e) (has_in holds) (has_in fails) (stmts a enter again holds) (stmts a enter again fails) en s) (again (If e holds fails))
  stmt a enter again (Switch e body) en s = caught (has (Switch e body)) (switch_from (switch_value a e) (has_in body) (stmts a enter again body) en s) (again (Switch e body))
  stmt a enter again (Loop body) en s = caught (has (Loop body)) (loop_from (again (Loop body) None) (stmts a enter again body) en s) (again (Loop body))
  stmt a enter again (Block body) en s = caught (has (Block body)) (stmts a enter again body en s) (again (Block body))
  stmt a enter again (Label n) en s = Goes Normal s
  stmt a enter again (Case kind v) en s = Goes Normal s
  stmt a enter again Default en s = Goes Normal s
  stmt a enter again (Goto n) en s = Goes (Jumped (ToLabel n)) s
  stmt a enter again Break en s = Goes Broken s
  stmt a enter again (Return e) en s = return a e s

  pub stmts : Activation → Enter → (Stmt → Goer) → Stmts → Goer
  stmts a enter again Done en s = Goes Normal s
  stmts a enter again (Seq first rest) en s = seq_from (has first) (has_in rest) (stmt a enter again first) (stmts a enter again rest) en s

-- a statement and where it is entered
abbrev pub Entered : Type 0
Entered = Stmt × Entry

abbrev pub stmt_step : Activation → Enter → Step Entered Signal
stmt_step a enter again x s = stmt a enter (λ y en. again (y, en)) x.0 x.1 s

-- what a statement does, given what calls do
abbrev pub statement : Activation → Enter → Stmt → Goer
statement a enter x en s = meaning (stmt_step a enter) (x, en) s
