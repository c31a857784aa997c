-- Definition: where the reading of a text stops (own).
use Rattle.std.specs.Prelude.{◌≡◌, ℕ, List, Result, Ok, Err}
use Rattle.cil_base.specs.declared.kinds.Abi.{Abi}
use Rattle.cil_tree.specs.declared.globals.CilUnit.{CilUnit}
use Rattle.cil_tree.specs.Tree.{Program}
use Rattle.cil_tree.specs.Programs.{IsTextOf}
use Rattle.cil_tree.specs.LaidOut.{bad_place}
use Rattle.cil_reader.specs.declared.program.ReadStop.{ReadStop}
use Rattle.cil_reader.specs.declared.program.ReadStop.TheVariants.{NotCil, Memory}

-- the bytes are the text of no program of the data model
abbrev pub IsNoText : Abi → List ℕ → Type 0
IsNoText abi bytes = (p : Program) → p.graph.abi ≡ abi → IsTextOf bytes p → ⊥

-- bytes are refused where they are the text of no program of the data model, and the place is that of the definition; want of memory asks nothing
abbrev pub StopsAt : Abi → List ℕ → Result CilUnit ReadStop → Type 0
StopsAt abi bytes (Ok u) = Unit {0}
StopsAt abi bytes (Err (NotCil k)) = (k ≡ bad_place bytes) × IsNoText abi bytes
StopsAt abi bytes (Err Memory) = Unit {0}
