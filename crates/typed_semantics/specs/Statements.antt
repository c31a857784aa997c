-- Definition: what typed statements of C do (C11 6.7, 6.8); the constructs are those of all languages here. A statement is entered at its start, or at a label or case in it.
use Rattle.std.specs.Prelude.{ℕ, ◌+◌, Bool, true, false, ◌&&◌, ◌||◌, List, ◌++◌, Option, Some, None, slice_get, ℤ}
use Rattle.std.specs.Ordering.{int_eq}
use Rattle.byte_mem.specs.declared.values.Byte.TheVariants.{Unknown as Blank}
use Rattle.byte_mem.specs.Memory.{make}
use Rattle.byte_mem.specs.Operator.{number_in}
use Rattle.execution.specs.States.{State, Result, Goes}
use Rattle.execution.specs.Unrolling.{Step, meaning}
use Rattle.execution.specs.Jumps.{Target, ToLabel, ToCase, ToDefault, ToContinue, Entry, Signal, Normal, Broken, Jumped, Returned, Goer, caught, seq_from, if_from, switch_from, loop_from}
use Rattle.execution.specs.Loops.{at_end, asked, asked_first, started, PartOf, Entered, Body, Iterations}
use Rattle.execution.specs.Calls.{Enter}
use Rattle.typed_tree.specs.Tree.{Typed, Inits}
use Rattle.typed_tree.specs.Statements.{Stmt, Expr, Declare, Block, If, Switch, While, Do, For, Label, Case, Default, Goto, Break, Continue, Return, Stmts, Done, Seq}
use Rattle.typed_tree.specs.Units.{Function, Local as LocalObject}
use Rattle.c_rules.specs.Types.{size_in}
use Rattle.c_semantics.specs.Places.{Activation, local_of, array_number, numbers_from, in_block, arrays_in, arrays_in_maybe, arrays_in_stmt, arrays_in_stmts}
use Rattle.c_semantics.specs.Operations.{Action, ◌>>=◌, gives, known, changes, single, Object, initialised}
use Rattle.c_semantics.specs.Statements.{is_label, labelled, defaulted, ended}
use Rattle.typed_semantics.specs.Expressions.{value_of, holds, t_exp, t_inits}
use Rattle.typed_semantics.specs.Objects.{objects_in, objects_in_maybe, own_objects}

-- declarations (6.2.4p6)

abbrev pub object_of : Activation → ℕ → LocalObject → Object
object_of a n l = record { name = local_of a n; type = record { quals = l.quals; shape = l.shape } }

abbrev pub declares : Activation → Enter → ℕ → LocalObject → Option Inits → ℕ → Action (Unit {0})
declares a enter n l None k = do
  size ← known (size_in a.types l.shape)
  changes (λ m. Some (make m (local_of a n) size Blank false))
declares a enter n l (Some is) k = initialised (object_of a n l) (t_inits a enter (object_of a n l) is k)

abbrev pub t_declare : Activation → Enter → Function → ℕ → Option Inits → ℕ → Action (Unit {0})
t_declare a enter f n init k = do
  l ← known (slice_get f.locals n)
  declares a enter n l init k

-- expressions in statements

abbrev pub t_effect : Activation → Enter → Typed → ℕ → Action (Unit {0})
t_effect a enter e k = do
  _ ← value_of a e (t_exp a enter e k)
  gives tt

abbrev pub t_maybe_effect : Activation → Enter → Option Typed → ℕ → Action (Unit {0})
t_maybe_effect a enter None k = gives tt
t_maybe_effect a enter (Some e) k = t_effect a enter e k

abbrev pub t_test : Activation → Enter → Typed → ℕ → Action Bool
t_test a enter e k = holds a e (t_exp a enter e k)

abbrev pub t_maybe_test : Activation → Enter → Option Typed → ℕ → Action Bool
t_maybe_test a enter None k = gives true
t_maybe_test a enter (Some e) k = t_test a enter e k

abbrev pub t_selector : Activation → Enter → Typed → ℕ → Action ℤ
t_selector a enter e k = do
  d ← value_of a e (t_exp a enter e k)
  v ← single d
  known (number_in v)

abbrev pub t_return : Activation → Enter → Option Typed → ℕ → Action Signal
t_return a enter None k = gives (Returned None)
t_return a enter (Some e) k = do
  d ← value_of a e (t_exp a enter e k)
  gives (Returned (Some d))

-- labels and cases (6.8.1): those of a switch within a statement are that switch's own

abbrev pub has_value : ℤ → Target → Bool
has_value v (ToLabel n) = false
has_value v (ToCase w) = int_eq v w
has_value v ToDefault = false
has_value v ToContinue = false

abbrev mutual
  pub t_has : Stmt → Target → Bool
  t_has (Expr e) t = false
  t_has (Declare n init) t = false
  t_has (Block ss) t = t_has_in ss t
  t_has (If e ss rs) t = t_has_in ss t || t_has_in rs t
  t_has (Switch e ss) t = is_label t && t_has_in ss t
  t_has (While e ss) t = t_has_in ss t
  t_has (Do ss e) t = t_has_in ss t
  t_has (For start test step ss) t = t_has_in ss t
  t_has (Label n) t = labelled n t
  t_has (Case kind v) t = has_value v t
  t_has Default t = defaulted t
  t_has (Goto n) t = false
  t_has Break t = false
  t_has Continue t = false
  t_has (Return e) t = false

  pub t_has_in : Stmts → Target → Bool
  t_has_in Done t = false
  t_has_in (Seq s ss) t = t_has s t || t_has_in ss t

-- blocks

-- what of a function may be entered again behind a spent unit: a statement, a list of statements that is a substatement or a body, whose objects live already, or a `for` behind its start
abbrev pub Part : Type 0
Part = PartOf Stmt Stmts Typed ℕ

abbrev pub Again : Type 0
Again = Part → Goer

abbrev pub arrays_from : Activation → ℕ → ℕ → List ℕ
arrays_from a k count = numbers_from (array_number a k) count

-- a list of statements is a block
abbrev pub block : Activation → Function → Stmts → ℕ → (State → Result Signal) → State → Result Signal
block a f xs k go s = in_block a (own_objects a f xs) (arrays_from a k (arrays_in_stmts xs)) go s

abbrev pub sub_block : Activation → Function → (ℕ → Goer) → Again → Stmts → ℕ → Goer
sub_block a f go again xs k en s = block a f xs k (λ t. caught (t_has_in xs) (go k en t) (again (Body xs k))) s

-- the arrays in values before the parts of a loop
abbrev pub behind_start : ℕ → Stmts → ℕ
behind_start k start = k + arrays_in_stmts start

abbrev pub behind_heads : ℕ → Option Typed → Option Typed → ℕ
behind_heads k test step = k + arrays_in_maybe test + arrays_in_maybe step

-- a whole statement, where `go` is what the statement does as a block that is entered
abbrev pub t_whole : Activation → Function → (ℕ → Goer) → Stmt → ℕ → Goer
t_whole a f go (Expr e) k en s = go k en s
t_whole a f go (Declare n init) k en s = go k en s
t_whole a f go (Block xs) k en s = block a f xs k (go k en) s
t_whole a f go (If e xs ys) k en s = in_block a (objects_in a f e) (arrays_from a k (arrays_in e)) (go k en) s
t_whole a f go (Switch e xs) k en s = in_block a (objects_in a f e) (arrays_from a k (arrays_in e)) (go k en) s
t_whole a f go (While e xs) k en s = in_block a (objects_in a f e) (arrays_from a k (arrays_in e)) (go k en) s
t_whole a f go (Do xs e) k en s = in_block a (objects_in a f e) (arrays_from a (k + arrays_in_stmts xs) (arrays_in e)) (go k en) s
t_whole a f go (For start test step xs) k en s =
    in_block a (own_objects a f start ++ (objects_in_maybe a f test ++ objects_in_maybe a f step)) (arrays_from a k (arrays_in_stmts start + (arrays_in_maybe test + arrays_in_maybe step))) (go k en) s
t_whole a f go (Label n) k en s = go k en s
t_whole a f go (Case kind v) k en s = go k en s
t_whole a f go Default k en s = go k en s
t_whole a f go (Goto n) k en s = go k en s
t_whole a f go Break k en s = go k en s
t_whole a f go Continue k en s = go k en s
t_whole a f go (Return e) k en s = go k en s

abbrev pub iterated : Activation → Enter → Again → Option Typed → Option Typed → Stmts → (ℕ → Goer) → ℕ → Goer
iterated a enter again test step xs body k en s =
    loop_from (again (Iterations test step xs k) None) (asked_first (t_maybe_test a enter test k) (at_end (ended (t_maybe_effect a enter step (k + arrays_in_maybe test))) (body (behind_heads k test step)))) en s

abbrev mutual
  pub t_entered : Activation → Function → Enter → Again → Stmt → ℕ → Goer
  t_entered a f enter again (Expr e) k en s = ended (t_effect a enter e k) s
  t_entered a f enter again (Declare n init) k en s = ended (t_declare a enter f n init k) s
  t_entered a f enter again (Block xs) k en s = caught (t_has_in xs) (t_stmts a f enter again xs k en s) (again (Entered (Block xs) k))
  t_entered a f enter again (If e xs ys) k en s =
      caught (t_has (If e xs ys)) (if_from (t_test a enter e k) (t_has_in xs) (t_has_in ys) (sub_block a f (t_stmts a f enter again xs) again xs (k + arrays_in e)) (sub_block a f (t_stmts a f enter again ys) again ys (k + arrays_in e + arrays_in_stmts xs)) en s)
      (again (Entered (If e xs ys) k))
  t_entered a f enter again (Switch e xs) k en s =
      caught (t_has (Switch e xs)) (switch_from (t_selector a enter e k) (t_has_in xs) (sub_block a f (t_stmts a f enter again xs) again xs (k + arrays_in e)) en s) (again (Entered (Switch e xs) k))
  t_entered a f enter again (While e xs) k en s =
      caught (t_has_in xs) (loop_from (again (Entered (While e xs) k) None) (asked_first (t_test a enter e k) (at_end (Goes Normal) (sub_block a f (t_stmts a f enter again xs) again xs (k + arrays_in e)))) en s)
      (again (Entered (While e xs) k))
  t_entered a f enter again (Do xs e) k en s =
      caught (t_has_in xs) (loop_from (again (Entered (Do xs e) k) None) (at_end (asked (t_test a enter e (k + arrays_in_stmts xs)) (Goes Normal)) (sub_block a f (t_stmts a f enter again xs) again xs k)) en s) (again (Entered (Do xs e) k))
  t_entered a f enter again (For start test step xs) k en s =
      caught (t_has_in xs) (started (t_stmts a f enter again start k) (iterated a enter again test step xs (sub_block a f (t_stmts a f enter again xs) again xs) (behind_start k start)) en s) (again (Entered (For start test step xs) k))
  t_entered a f enter again (Label n) k en s = Goes Normal s
  t_entered a f enter again (Case kind v) k en s = Goes Normal s
  t_entered a f enter again Default k en s = Goes Normal s
  t_entered a f enter again (Goto n) k en s = Goes (Jumped (ToLabel n)) s
  t_entered a f enter again Break k en s = Goes Broken s
  t_entered a f enter again Continue k en s = Goes (Jumped ToContinue) s
  t_entered a f enter again (Return e) k en s = t_return a enter e k s

  pub t_stmts : Activation → Function → Enter → Again → Stmts → ℕ → Goer
  t_stmts a f enter again Done k en s = Goes Normal s
  t_stmts a f enter again (Seq x xs) k en s = seq_from (t_has x) (t_has_in xs) (t_whole a f (t_entered a f enter again x) x k) (t_stmts a f enter again xs (k + arrays_in_stmt x)) en s

-- one step of the meaning
abbrev pub t_part : Activation → Function → Enter → Again → Part → Goer
t_part a f enter again (Entered x k) en s = t_entered a f enter again x k en s
t_part a f enter again (Body xs k) en s = caught (t_has_in xs) (t_stmts a f enter again xs k en s) (again (Body xs k))
t_part a f enter again (Iterations test step xs k) en s = iterated a enter again test step xs (sub_block a f (t_stmts a f enter again xs) again xs) k en s

abbrev pub EnteredPart : Type 0
EnteredPart = Part × Entry

abbrev pub part_step : Activation → Function → Enter → Step EnteredPart Signal
part_step a f enter again x s = t_part a f enter (λ y en. again (y, en)) x.0 x.1 s

-- what a part of a function does, given what calls do
abbrev pub t_meaning : Activation → Function → Enter → Part → Goer
t_meaning a f enter x en s = meaning (part_step a f enter) (x, en) s
