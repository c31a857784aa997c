use Rattle.std.proofs.Common.{◌≡◌, ◌++◌, drop}
use Rattle.cil_text.specs.ReadGlobals.{plain_names}
use Rattle.cil_scan.specs.Said.{all_said}
use Rattle.cil_reader.specs.Bodies.{texts_of, names_from}
use Rattle.cil_reader.proofs.bodies.plain_names.Given as goal

abbrev pub invariant-loop-i : goal.invariant-loop-i
invariant-loop-i l = texts_of l.names.items ++ names_from l.tagged (all_said (drop l.i l.words)) ≡ plain_names (all_said l.words)
