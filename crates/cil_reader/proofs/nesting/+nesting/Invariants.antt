use Rattle.std.proofs.Common.{◌≡◌, ◌+◌, ◌*◌, ◌-◌}
use Rattle.std.specs.Option.{option_map}
use Rattle.cil_tree.specs.View.{stmts_of}
use Rattle.cil_text.specs.ReadStmts.{read_nested}
use Rattle.cil_reader.specs.Nesting.{waiting, read_behind, Carries}
use Rattle.cil_reader.proofs.nesting.+nesting.Given as goal

abbrev pub decreases-read_nested : goal.decreases-read_nested
decreases-read_nested l = l.left * 8

abbrev pub decreases-block : goal.decreases-block
decreases-block l = l.left * 8 + 1

abbrev pub decreases-first_part : goal.decreases-first_part
decreases-first_part l = l.left * 8 + 1

abbrev pub decreases-both_parts : goal.decreases-both_parts
decreases-both_parts l = l.left * 8 + 2

abbrev pub decreases-read_if : goal.decreases-read_if
decreases-read_if l = l.left * 8 + 3

abbrev pub decreases-read_switch : goal.decreases-read_switch
decreases-read_switch l = l.left * 8 + 3

abbrev pub decreases-read_loop : goal.decreases-read_loop
decreases-read_loop l = l.left * 8 + 3

abbrev pub decreases-read_inner : goal.decreases-read_inner
decreases-read_inner l = l.left * 8 + 3

abbrev pub decreases-one_statement : goal.decreases-one_statement
decreases-one_statement l = l.left * 8 + 4

abbrev pub invariant-read_nested-loop-step : goal.invariant-read_nested-loop-step
invariant-read_nested-loop-step l =
    let nodes = l.r.graph.nodes in
    (option_map (read_behind (stmts_of nodes l.stmts.items)) (read_nested (l.fn.left - l.step) (waiting nodes l.lines.items)) ≡ read_nested l.fn.left (waiting nodes l.fn.lines.items)) × Carries l.r.graph l.fn.lines.items l.lines.items l.stmts.items
