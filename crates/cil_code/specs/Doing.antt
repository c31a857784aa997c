-- Device: what the steps of the code do, and when they are those of a body.
use Rattle.std.specs.Prelude.{◌≡◌, ℕ, suc, true, false, List, [], ◌∷◌, ◌++◌, Option, Some, None, is_some}
use Rattle.cil_base.specs.declared.kinds.Abi.{Abi}
use Rattle.byte_mem.specs.declared.values.Scalar.TheVariants.{Int as OfKind}
use Rattle.byte_mem.specs.Steps.{◌>>=◌}
use Rattle.byte_mem.specs.Memory.{Memory}
use Rattle.byte_mem.specs.Operator.{truth, number_in}
use Rattle.type_graph.specs.Shapes.{Shape}
use Rattle.execution.specs.States.{State, Result, Goes, Undefined, with_memory, given, spend, bind}
use Rattle.execution.specs.Data.{Datum, store_datum}
use Rattle.execution.specs.Calls.{Enter}
use Rattle.cil_tree.specs.Tree as tree
use Rattle.cil_tree.specs.Tree.{Exp}
use Rattle.cil_tree.specs.Typing.{Scope, is_void, type_of}
use Rattle.cil_tree.specs.Bodies.{instr_fits, call_fits, test_fits, switch_kind, return_fits}
use Rattle.cil_control.specs.Remains.{Remains}
use Rattle.cil_control.specs.Flat as flat
use Rattle.cil_control.specs.Flat.{place_by, place_for, taken}
use Rattle.cil_control.specs.Leading as plain
use Rattle.cil_machine.specs.declared.terms.Spot.{Spot}
use Rattle.cil_machine.specs.Terms.{term_value, spot_place}
use Rattle.cil_machine.specs.Resolution.{activation}
use Rattle.cil_machine.specs.Instructions.{zeroed}
use Rattle.cil_code.specs.declared.operands.Operand.{Operand}
use Rattle.cil_code.specs.declared.steps.Step.{Step}
use Rattle.cil_code.specs.declared.steps.Step.TheVariants.{Set, Zero, Call, Test, Choose, Forward, Back, Leave, Stuck}
use Rattle.cil_code.specs.Passing.{operand_kind, operand_datum}
use Rattle.cil_code.specs.Calling.{called_in}
use Rattle.cil_code.specs.Leading.{leads}

-- the place, then the value, then the store
abbrev pub assigned : Abi → Memory → ℕ → Spot → Operand → Option Memory
assigned abi m act place o = operand_kind o >>= λ k. spot_place abi m act place >>= λ at. operand_datum abi m act o >>= store_datum abi m k at

-- what comes behind a change of memory
abbrev pub changed : State → Option Memory → Remains → Result Datum
changed s m next = given s m (λ n. next (with_memory s n))

abbrev pub left : Abi → ℕ → Datum → Option Operand → Remains
left abi act end None s = Goes end s
left abi act end (Some o) s = given s (operand_datum abi s.memory act o) (λ d. Goes d s)

-- what a step at p does, where `at` tells what remains at each place
abbrev pub done : Abi → ℕ → Enter → Datum → (ℕ → Remains) → ℕ → Step → Remains
done abi act enter end at p (Set place o) s = changed s (assigned abi s.memory act place o) (at (suc p))
done abi act enter end at p (Zero size place) s = changed s (zeroed abi s.memory act size place) (at (suc p))
done abi act enter end at p (Call k) s = bind (called_in abi act enter k s) (λ g. at (suc p))
done abi act enter end at p (Test t e q) s = given s (term_value abi s.memory act t e >>= truth s.memory t) (λ h. at (place_by h (suc p) q) s)
done abi act enter end at p (Choose kind e cases other) s = given s (term_value abi s.memory act (OfKind kind) e >>= number_in) (λ v. at (place_for v cases other) s)
done abi act enter end at p (Forward q) s = at q s
done abi act enter end at p (Back q) s = spend s (at q)
done abi act enter end at p (Leave o) s = left abi act end o s
done abi act enter end at p Stuck s = Undefined s

-- arguments have types that are not void
abbrev pub AreValues : Scope → List Exp → Type 0
AreValues c [] = Unit {0}
AreValues c (e ∷ es) = ((t : Shape) × (type_of c e ≡ Some t) × (is_void t ≡ false)) × AreValues c es

-- the statement's own expressions and places fit
abbrev pub Fits : Scope → flat.Step → Type 0
Fits c (flat.Act (tree.Call to f es)) = (call_fits c to f es ≡ true) × AreValues c es
Fits c (flat.Act i) = instr_fits c i ≡ true
Fits c (flat.Test e q) = test_fits c e ≡ true
Fits c (flat.Choose e table other) = is_some (switch_kind c e) ≡ true
Fits c (flat.Leave None) = Unit {0}
Fits c (flat.Leave (Some e)) = (ret : Shape) × (return_fits c ret (Some e) ≡ true)
Fits c x = Unit {0}

-- where a body's step fits, that of the code does in each activation what it does; and it leads on where that leads on
pub record IsStep (c : Scope) (entities : List ℕ) (x : flat.Step) (y : Step) : Type 0 where
  pub does : Fits c x → (act : ℕ) (enter : Enter) (end : Datum) (at : ℕ → Remains) (p : ℕ) (s : State) → done c.program.graph.abi act enter end at p y s ≡ taken (activation c entities act) enter end at p x s
  pub leads_on : (n p : ℕ) → plain.leads n p x ≡ true → leads n p y ≡ true

-- steps one by one
abbrev pub AreSteps : Scope → List ℕ → List flat.Step → List Step → Type 0
AreSteps c entities [] [] = Unit {0}
AreSteps c entities (x ∷ xs) (y ∷ ys) = IsStep c entities x y × AreSteps c entities xs ys
AreSteps c entities [] (y ∷ ys) = ⊥
AreSteps c entities (x ∷ xs) [] = ⊥

-- the code has got these steps behind what it had
pub record HasGot (c : Scope) (entities : List ℕ) (xs : List flat.Step) (old new : List Step) : Type 0 where
  pub more : List Step
  pub joined : new ≡ old ++ more
  pub steps : AreSteps c entities xs more
