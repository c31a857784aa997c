use Rattle.std.proofs.Common.{◌≡◌, drop, length}
use Rattle.std.specs.Option.{option_map}
use Rattle.cil_scan.specs.Said.{all_lines}
use Rattle.cil_reader.specs.Settings.{Onward, env_in}
use Rattle.cil_reader.specs.Pools.{KeepsNames}
use Rattle.cil_reader.specs.Globals.{EachDeclared, declarations_of, globals_of, globals_behind, objects_left, GlobalsKnown, WaitingKnown}
use Rattle.cil_reader.proofs.globals.read_objects.Given as goal

abbrev pub invariant-loop-i : goal.invariant-loop-i
invariant-loop-i l =
    Onward l.fn.r l.r × KeepsNames l.fn.pool l.pool
    × EachDeclared (length l.r.graph.nodes) l.declarations × GlobalsKnown l.r.graph l.pool l.globals.items × (length l.globals.items ≡ l.i)
    × WaitingKnown l.waiting
    × (option_map (globals_behind (globals_of l.r.graph.nodes l.pool l.globals.items)) (objects_left (env_in l.fn.r) l.left (declarations_of l.fn.r.graph.nodes (drop l.i l.declarations)) (all_lines l.waiting.lines.now))
    ≡ objects_left (env_in l.fn.r) l.left (declarations_of l.fn.r.graph.nodes l.declarations) (all_lines l.lines))
    × (l.r.graph.nodes ≡ l.fn.r.graph.nodes)
