-- Definition: what parts of functions and calls of linked units are: no bound on depth is seen in them (own).
use Rattle.std.specs.Prelude.{◌≡◌, ℕ, List}
use Rattle.cil_base.specs.declared.kinds.Mode.{Mode}
use Rattle.c_tree.specs.Units.{UnitTree}
use Rattle.execution.specs.States.{State}
use Rattle.execution.specs.Jumps.{Entry}
use Rattle.execution.specs.Calls.{Enter, calls}
use Rattle.execution.specs.Linking.{linked}
use Rattle.c_semantics.specs.Places.{Activation}
use Rattle.c_semantics.specs.Statements.{Part, c_part, c_meaning}
use Rattle.c_semantics.specs.Units.{linkables}

-- what calls do in units that are linked in a mode
abbrev pub calls_in : List (List ℕ) → Mode → List UnitTree → Enter
calls_in texts mode units = calls (linked mode.common (linkables texts mode.abi units))

-- a part of a function does what it does where the parts that come behind a spent unit in it do so
abbrev pub PartsAreTheirStep : List (List ℕ) → Mode → List UnitTree → Type 0
PartsAreTheirStep texts mode units =
    (a : Activation) (x : Part) (en : Entry) (s : State) → c_meaning a (calls_in texts mode units) x en s ≡ c_part a (calls_in texts mode units) (c_meaning a (calls_in texts mode units)) x en s
