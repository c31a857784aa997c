use Rattle.std.proofs.Common.{◌≡◌, ◌++◌, true, drop}
use Rattle.cil_tree.specs.Names.{are_different}
use Rattle.cil_text.specs.ReadGlobals.{labels_in}
use Rattle.cil_scan.specs.Said.{all_lines}
use Rattle.cil_reader.specs.Pools.{KeepsNames}
use Rattle.cil_reader.specs.Bodies.{TextsKnown}
use Rattle.cil_reader.proofs.bodies.labels_in.Given as goal

abbrev pub invariant-loop-i : goal.invariant-loop-i
invariant-loop-i l = TextsKnown l.pool l.labels.names.items l.labels.texts × KeepsNames l.fn.pool l.pool × (are_different l.labels.texts ≡ true) × (l.labels.texts ++ labels_in (all_lines (drop l.i l.lines)) ≡ labels_in (all_lines l.lines))
