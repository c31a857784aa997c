use Rattle.std.proofs.Common.{◌≡◌, length, take, drop}
use Rattle.std.specs.Option.{option_map}
use Rattle.cil_text.specs.ReadGlobals.{read_bodies}
use Rattle.cil_text.specs.TypesOf.{AddsParts, defined_types}
use Rattle.cil_scan.specs.Said.{all_lines}
use Rattle.cil_reader.specs.Settings.{OnwardOutside, env_in, outside}
use Rattle.cil_reader.specs.Globals.{declarations_of, globals_of, GlobalsKnown}
use Rattle.cil_reader.specs.Bodies.{texts_of, next_names, bodied}
use Rattle.cil_reader.proofs.bodies.read_bodies.Given as goal

abbrev pub invariant-loop-i : goal.invariant-loop-i
invariant-loop-i l =
    let env = outside (env_in l.fn.r) in
    let nodes = l.fn.r.graph.nodes in
    OnwardOutside l.fn.r l.r l.fn.pool l.pool × (length l.globals ≡ length l.declarations) × GlobalsKnown l.r.graph l.pool l.globals
    × (texts_of l.header.items ≡ next_names (all_lines l.rest))
    × (option_map (bodied l.i (globals_of l.r.graph.nodes l.pool l.globals)) (read_bodies env l.left (declarations_of nodes (drop l.i l.declarations)) (all_lines l.rest)) ≡ option_map (bodied 0 (globals_of nodes l.fn.pool l.fn.globals)) (read_bodies env l.left (declarations_of nodes l.declarations) (all_lines l.fn.lines)))
    × AddsParts l.fn.r.graph l.r.graph (defined_types (take l.i (globals_of l.r.graph.nodes l.pool l.globals)))
