use Rattle.std.proofs.Common.{◌≡◌, drop, length}
use Rattle.type_graph.specs.Arena.{EachType}
use Rattle.cil_reader.specs.Settings.{locals_of}
use Rattle.cil_reader.specs.Globals.{declarations_of, named_apart, names_on}
use Rattle.cil_reader.proofs.globals.names_of.Given as goal

abbrev pub invariant-loop-i : goal.invariant-loop-i
invariant-loop-i l =
    EachType (length l.r.graph.nodes) l.names.types.items
    × (names_on (locals_of l.r.graph.nodes l.names) (declarations_of l.r.graph.nodes (drop l.i l.declarations)) ≡ named_apart (declarations_of l.r.graph.nodes l.declarations))
