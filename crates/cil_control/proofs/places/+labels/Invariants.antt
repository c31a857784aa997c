use Rattle.std.proofs.Common.{◌≡◌, ◌+◌, ◌++◌, drop}
use Rattle.cil_tree.specs.View.{stmts_of}
use Rattle.cil_control.specs.Remains.{steps_in}
use Rattle.cil_control.specs.Flat.{labels_from}
use Rattle.cil_control.proofs.places.+labels.Given as goal

abbrev pub invariant-add_labels-loop-i : goal.invariant-add_labels-loop-i
invariant-add_labels-loop-i l =
    (l.at + steps_in (stmts_of l.g.nodes (drop l.i l.stmts)) ≡ l.p + steps_in (stmts_of l.g.nodes l.stmts))
    × (l.places.items ++ labels_from l.at (stmts_of l.g.nodes (drop l.i l.stmts)) ≡ l.initial.places.items ++ labels_from l.p (stmts_of l.g.nodes l.stmts))
