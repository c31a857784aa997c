use Rattle.std.proofs.Common.{◌≡◌, drop}
use Rattle.std.specs.Option.{option_map}
use Rattle.cil_text.specs.ReadStmts.{read_heads}
use Rattle.cil_text.specs.TypesOf.{AddsParts}
use Rattle.cil_scan.specs.Said.{all_lines}
use Rattle.cil_reader.specs.Settings.{Onward, env_in}
use Rattle.cil_reader.specs.Heads.{heads_of, heads_behind, HeadsKnown}
use Rattle.cil_reader.specs.Added.{types_in_heads}
use Rattle.cil_reader.proofs.heads.read_heads.Given as goal

abbrev pub invariant-loop-i : goal.invariant-loop-i
invariant-loop-i l =
    Onward l.fn.r l.r × HeadsKnown l.r.graph l.heads.items
    × (option_map (heads_behind (heads_of l.r.graph.nodes l.heads.items)) (read_heads (env_in l.fn.r) l.labels l.left (all_lines (drop l.i l.lines))) ≡ read_heads (env_in l.fn.r) l.labels l.left (all_lines l.lines))
    × AddsParts l.fn.r.graph l.r.graph (types_in_heads (heads_of l.r.graph.nodes l.heads.items))
