use Rattle.std.proofs.Common.{◌≡◌, ◌+◌, ◌++◌, drop}
use Rattle.cil_tree.specs.View.{stmts_of}
use Rattle.cil_control.specs.Remains.{steps_in}
use Rattle.cil_control.specs.Flat.{cases_from, default_from, or_else}
use Rattle.cil_control.proofs.places.+cases.Given as goal

abbrev pub invariant-add_cases-loop-i : goal.invariant-add_cases-loop-i
invariant-add_cases-loop-i l =
    (l.at + steps_in (stmts_of l.g.nodes (drop l.i l.stmts)) ≡ l.p + steps_in (stmts_of l.g.nodes l.stmts))
    × (l.table.cases.items ++ cases_from l.at (stmts_of l.g.nodes (drop l.i l.stmts)) ≡ l.initial.table.cases.items ++ cases_from l.p (stmts_of l.g.nodes l.stmts))
    × (or_else l.table.other (default_from l.at (stmts_of l.g.nodes (drop l.i l.stmts))) ≡ or_else l.initial.table.other (default_from l.p (stmts_of l.g.nodes l.stmts)))
