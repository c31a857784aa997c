use Rattle.std.proofs.Common.{◌≡◌, drop, length}
use Rattle.std.specs.Option.{option_map}
use Rattle.cil_text.specs.ReadExps.{bases}
use Rattle.cil_text.specs.ReadGlobals.{read_declarations}
use Rattle.cil_text.specs.TypesOf.{AddsParts}
use Rattle.cil_scan.specs.Said.{all_lines}
use Rattle.cil_reader.specs.Settings.{Onward, env_in}
use Rattle.cil_reader.specs.Globals.{EachDeclared, declarations_of, types_declared, declarations_behind}
use Rattle.cil_reader.proofs.globals.read_declarations.Given as goal

abbrev pub invariant-loop-i : goal.invariant-loop-i
invariant-loop-i l =
    Onward l.fn.r l.r × EachDeclared (length l.r.graph.nodes) l.all.items
    × AddsParts l.fn.r.graph l.r.graph (types_declared l.r.graph.nodes l.all.items)
    × (option_map (declarations_behind (declarations_of l.r.graph.nodes l.all.items)) (read_declarations (bases (env_in l.fn.r)) l.left (all_lines (drop l.i l.lines))) ≡ read_declarations (bases (env_in l.fn.r)) l.left (all_lines l.lines))
