-- Device: what statements do depends on nothing but what the equality of programs speaks of.
use Rattle.std.proofs.Common.{◌≡◌, ℕ, suc, List, [], ◌∷◌, Option, Some, None, option_map, refl, ap}
use Rattle.std.specs.Option.{option_and_then}
use Rattle.byte_mem.specs.declared.values.Value.{Value}
use Rattle.byte_mem.specs.Steps.{◌>>=◌}
use Rattle.byte_mem.specs.Memory.{Memory}
use Rattle.byte_mem.specs.Operator.{number_in}
use Rattle.execution.specs.States.{State, Result, Goes, bind, given, pure}
use Rattle.execution.specs.Unrolling.{Step, unrolled}
use Rattle.execution.specs.Data.{Kind, Datum, store_datum, zero_from}
use Rattle.execution.specs.Jumps.{Entry, Signal, Returned, Goer, caught, seq_from, if_from, switch_from, loop_from}
use Rattle.execution.specs.Calls.{Enter}
use Rattle.cil_tree.specs.Tree as tree
use Rattle.cil_tree.specs.Tree.{Exp, Lval, Callee, Direct, Through, Instr, Set, Zero, Stmt, Do, If, Switch, Loop, Block, Label, Case, Default, Goto, Break, Return, Stmts, Done, Seq, Local, Program}
use Rattle.cil_tree.specs.Typing.{pointed}
use Rattle.cil_tree.specs.Bodies.{callee_type}
use Rattle.cil_semantics.specs.Statements.{kind_of_place, written, set, zero as zero_fill, result_place, callee_value, result_type, result_kind, argument, arguments, stored, kind_of_result, call, instr, has, has_in, return, stmt, stmts, Entered, stmt_step, statement}
use Rattle.cil_text.proofs.Alike.{global_type_alike}
use Rattle.cil_text.proofs.TypedAlike.{Equal, in_scope, exp_type_alike, place_type_alike}
use Rattle.cil_equal.proofs.ValuesAlike.{act_in, size_alike, kind_alike, value_alike, place_alike, scalar_value_alike, holds_alike}

-- instructions

kind_of_place_alike : (p q : Program) → Equal p q → (ls : List Local) (bs : List (List ℕ)) (es : List ℕ) (act : ℕ) (x : Lval) → kind_of_place (act_in p ls bs es act) x ≡ kind_of_place (act_in q ls bs es act) x
kind_of_place_alike p q same ls bs es act x = λ i. place_type_alike p q same ls bs x i >>= λ s. kind_alike p q same s i

set_alike : (p q : Program) → Equal p q → (ls : List Local) (bs : List (List ℕ)) (es : List ℕ) (act : ℕ) (x : Lval) (e : Exp) (s : State) → set (act_in p ls bs es act) x e s ≡ set (act_in q ls bs es act) x e s
set_alike p q same ls bs es act x e s =
    λ i. written s (kind_of_place_alike p q same ls bs es act x i >>= λ k. place_alike p q same ls bs es act s.memory x i >>= λ at. value_alike p q same ls bs es act s.memory e i >>= store_datum (same.abi i) s.memory k at)

zero_alike : (p q : Program) → Equal p q → (ls : List Local) (bs : List (List ℕ)) (es : List ℕ) (act : ℕ) (x : Lval) (s : State) → zero_fill (act_in p ls bs es act) x s ≡ zero_fill (act_in q ls bs es act) x s
zero_alike p q same ls bs es act x s =
    λ i. written s ((place_type_alike p q same ls bs x i >>= λ t. size_alike p q same t i) >>= λ n. place_alike p q same ls bs es act s.memory x i >>= zero_from s.memory n)

result_place_alike : (p q : Program) → Equal p q → (ls : List Local) (bs : List (List ℕ)) (es : List ℕ) (act : ℕ) (m : Memory) (o : Option Lval) → result_place (act_in p ls bs es act) m o ≡ result_place (act_in q ls bs es act) m o
result_place_alike p q same ls bs es act m None = refl
result_place_alike p q same ls bs es act m (Some x) = ap (option_map Some) (place_alike p q same ls bs es act m x)

callee_value_alike : (p q : Program) → Equal p q → (ls : List Local) (bs : List (List ℕ)) (es : List ℕ) (act : ℕ) (m : Memory) (f : Callee) → callee_value (act_in p ls bs es act) m f ≡ callee_value (act_in q ls bs es act) m f
callee_value_alike p q same ls bs es act m (Direct n) = refl
callee_value_alike p q same ls bs es act m (Through e) = scalar_value_alike p q same ls bs es act m e

callee_type_alike : (p q : Program) → Equal p q → (ls : List Local) (bs : List (List ℕ)) (f : Callee) → callee_type (in_scope p ls bs) f ≡ callee_type (in_scope q ls bs) f
callee_type_alike p q same ls bs (Direct n) = global_type_alike p q same.globals n
callee_type_alike p q same ls bs (Through e) = ap (option_and_then pointed) (exp_type_alike p q same ls bs e)

result_kind_alike : (p q : Program) → Equal p q → (ls : List Local) (bs : List (List ℕ)) (es : List ℕ) (act : ℕ) (f : Callee) → result_kind (act_in p ls bs es act) f ≡ result_kind (act_in q ls bs es act) f
result_kind_alike p q same ls bs es act f = λ i. (callee_type_alike p q same ls bs f i >>= result_type) >>= λ s. kind_alike p q same s i

argument_alike : (p q : Program) → Equal p q → (ls : List Local) (bs : List (List ℕ)) (es : List ℕ) (act : ℕ) (m : Memory) (e : Exp) → argument (act_in p ls bs es act) m e ≡ argument (act_in q ls bs es act) m e
argument_alike p q same ls bs es act m e =
    λ i. value_alike p q same ls bs es act m e i >>= λ d. Some (record { kind = exp_type_alike p q same ls bs e i >>= λ s. kind_alike p q same s i; datum = d })

arguments_alike : (p q : Program) → Equal p q → (ls : List Local) (bs : List (List ℕ)) (es : List ℕ) (act : ℕ) (m : Memory) (xs : List Exp) → arguments (act_in p ls bs es act) m xs ≡ arguments (act_in q ls bs es act) m xs
arguments_alike p q same ls bs es act m [] = refl
arguments_alike p q same ls bs es act m (e ∷ more) = λ i. argument_alike p q same ls bs es act m e i >>= λ x. arguments_alike p q same ls bs es act m more i >>= λ xs. Some (x ∷ xs)

kind_of_result_alike : (p q : Program) → Equal p q → (ls : List Local) (bs : List (List ℕ)) (es : List ℕ) (act : ℕ) (o : Option Lval) → kind_of_result (act_in p ls bs es act) o ≡ kind_of_result (act_in q ls bs es act) o
kind_of_result_alike p q same ls bs es act None = refl
kind_of_result_alike p q same ls bs es act (Some x) = kind_of_place_alike p q same ls bs es act x

stored_alike : (p q : Program) → Equal p q → (ls : List Local) (bs : List (List ℕ)) (es : List ℕ) (act : ℕ) (k : Option Kind) (at : Option Value) (d : Datum) (s : State) →
    stored (act_in p ls bs es act) k at d s ≡ stored (act_in q ls bs es act) k at d s
stored_alike p q same ls bs es act k None d s = refl
stored_alike p q same ls bs es act k (Some at) d s = λ i. written s (k >>= λ kind. store_datum (same.abi i) s.memory kind at d)

call_alike : (p q : Program) → Equal p q → (ls : List Local) (bs : List (List ℕ)) (es : List ℕ) (act : ℕ) (enter : Enter) (o : Option Lval) (f : Callee) (xs : List Exp) (s : State) →
    call (act_in p ls bs es act) enter o f xs s ≡ call (act_in q ls bs es act) enter o f xs s
call_alike p q same ls bs es act enter o f xs s =
    λ i. given s (result_place_alike p q same ls bs es act s.memory o i) (λ at.
    given s (callee_value_alike p q same ls bs es act s.memory f i) (λ v.
    given s (arguments_alike p q same ls bs es act s.memory xs i) (λ ys.
    bind (enter (record { abi = same.abi i; callee = v; result = result_kind_alike p q same ls bs es act f i; arguments = ys }) s)
    (λ d t. stored_alike p q same ls bs es act (kind_of_result_alike p q same ls bs es act o i) at d t i))))

instr_alike : (p q : Program) → Equal p q → (ls : List Local) (bs : List (List ℕ)) (es : List ℕ) (act : ℕ) (enter : Enter) (x : Instr) (s : State) → instr (act_in p ls bs es act) enter x s ≡ instr (act_in q ls bs es act) enter x s
instr_alike p q same ls bs es act enter (Set x e) s = set_alike p q same ls bs es act x e s
instr_alike p q same ls bs es act enter (tree.Call o f xs) s = call_alike p q same ls bs es act enter o f xs s
instr_alike p q same ls bs es act enter (Zero x) s = zero_alike p q same ls bs es act x s

-- statements

return_alike : (p q : Program) → Equal p q → (ls : List Local) (bs : List (List ℕ)) (es : List ℕ) (act : ℕ) (o : Option Exp) (s : State) → return (act_in p ls bs es act) o s ≡ return (act_in q ls bs es act) o s
return_alike p q same ls bs es act None s = refl
return_alike p q same ls bs es act (Some e) s = λ i. given s (value_alike p q same ls bs es act s.memory e i) (λ d. Goes (Returned (Some d)) s)

mutual
  stmt_alike : (p q : Program) → Equal p q → (ls : List Local) (bs : List (List ℕ)) (es : List ℕ) (act : ℕ) (enter : Enter) (again : Stmt → Goer) (x : Stmt) (en : Entry) (s : State) →
      stmt (act_in p ls bs es act) enter again x en s ≡ stmt (act_in q ls bs es act) enter again x en s
  stmt_alike p q same ls bs es act enter again (Do x) en s = instr_alike p q same ls bs es act enter x s
  stmt_alike p q same ls bs es act enter again (If e holds fails) en s =
      λ i. caught (has (If e holds fails))
      (if_from (λ t. pure t (holds_alike p q same ls bs es act t.memory e i)) (has_in holds) (has_in fails) (λ n t. stmts_alike p q same ls bs es act enter again holds n t i) (λ n t. stmts_alike p q same ls bs es act enter again fails n t i) en s)
      (again (If e holds fails))
  stmt_alike p q same ls bs es act enter again (Switch e body) en s =
      λ i. caught (has (Switch e body))
      (switch_from (λ t. pure t (scalar_value_alike p q same ls bs es act t.memory e i >>= number_in)) (has_in body) (λ n t. stmts_alike p q same ls bs es act enter again body n t i) en s)
      (again (Switch e body))
  stmt_alike p q same ls bs es act enter again (Loop body) en s =
      λ i. caught (has (Loop body)) (loop_from (again (Loop body) None) (λ n t. stmts_alike p q same ls bs es act enter again body n t i) en s) (again (Loop body))
  stmt_alike p q same ls bs es act enter again (Block body) en s = λ i. caught (has (Block body)) (stmts_alike p q same ls bs es act enter again body en s i) (again (Block body))
  stmt_alike p q same ls bs es act enter again (Label n) en s = refl
  stmt_alike p q same ls bs es act enter again (Case k v) en s = refl
  stmt_alike p q same ls bs es act enter again Default en s = refl
  stmt_alike p q same ls bs es act enter again (Goto n) en s = refl
  stmt_alike p q same ls bs es act enter again Break en s = refl
  stmt_alike p q same ls bs es act enter again (Return e) en s = return_alike p q same ls bs es act e s

  stmts_alike : (p q : Program) → Equal p q → (ls : List Local) (bs : List (List ℕ)) (es : List ℕ) (act : ℕ) (enter : Enter) (again : Stmt → Goer) (xs : Stmts) (en : Entry) (s : State) →
      stmts (act_in p ls bs es act) enter again xs en s ≡ stmts (act_in q ls bs es act) enter again xs en s
  stmts_alike p q same ls bs es act enter again Done en s = refl
  stmts_alike p q same ls bs es act enter again (Seq first rest) en s =
      λ i. seq_from (has first) (has_in rest) (λ n t. stmt_alike p q same ls bs es act enter again first n t i) (λ n t. stmts_alike p q same ls bs es act enter again rest n t i) en s

step_alike : (p q : Program) → Equal p q → (ls : List Local) (bs : List (List ℕ)) (es : List ℕ) (act : ℕ) (enter : Enter) (again : Entered → State → Result Signal) (x : Entered) (s : State) →
    stmt_step (act_in p ls bs es act) enter again x s ≡ stmt_step (act_in q ls bs es act) enter again x s
step_alike p q same ls bs es act enter again x s = stmt_alike p q same ls bs es act enter (λ y en. again (y, en)) x.0 x.1 s

-- steps that are equal have one meaning
unrolled_alike : (f g : Step Entered Signal) → ((again : Entered → State → Result Signal) (x : Entered) (s : State) → f again x s ≡ g again x s) → (n : ℕ) (x : Entered) (s : State) → unrolled f n x s ≡ unrolled g n x s
unrolled_alike f g same n x s = λ i. unrolled (λ again y t. same again y t i) n x s

pub statement_alike : (p q : Program) → Equal p q → (ls : List Local) (bs : List (List ℕ)) (es : List ℕ) (act : ℕ) (enter : Enter) (x : Stmt) (en : Entry) (s : State) →
    statement (act_in p ls bs es act) enter x en s ≡ statement (act_in q ls bs es act) enter x en s
statement_alike p q same ls bs es act enter x en s =
    unrolled_alike (stmt_step (act_in p ls bs es act) enter) (stmt_step (act_in q ls bs es act) enter) (step_alike p q same ls bs es act enter) (suc s.left) (x, en) s
