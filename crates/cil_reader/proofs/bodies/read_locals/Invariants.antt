use Rattle.std.proofs.Common.{◌≡◌, true, drop}
use Rattle.std.specs.Option.{option_map}
use Rattle.cil_text.specs.ReadExps.{bases}
use Rattle.cil_text.specs.ReadGlobals.{read_locals}
use Rattle.cil_text.specs.TypesOf.{AddsParts, types_in_locals}
use Rattle.cil_scan.specs.Said.{all_lines}
use Rattle.cil_reader.specs.Settings.{Onward, env_in, locals_of}
use Rattle.cil_reader.specs.Pools.{KeepsNames}
use Rattle.cil_reader.specs.Bodies.{apart, locals_behind, LocalsKnown}
use Rattle.cil_reader.proofs.bodies.read_locals.Given as goal

abbrev pub invariant-loop-i : goal.invariant-loop-i
invariant-loop-i l =
    Onward l.fn.r l.r × LocalsKnown l.r.graph l.pool l.locals × KeepsNames l.fn.pool l.pool × (apart (locals_of l.r.graph.nodes l.locals.names) ≡ true)
    × (option_map (locals_behind (locals_of l.r.graph.nodes l.locals.names)) (read_locals (bases (env_in l.fn.r)) l.left (all_lines (drop l.i l.lines))) ≡ option_map (locals_behind (locals_of l.fn.r.graph.nodes l.fn.params.names)) (read_locals (bases (env_in l.fn.r)) l.left (all_lines l.lines)))
    × AddsParts l.fn.r.graph l.r.graph (types_in_locals (locals_of l.r.graph.nodes l.locals.names))
