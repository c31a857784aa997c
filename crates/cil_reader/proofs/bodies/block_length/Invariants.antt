use Rattle.std.proofs.Common.{◌≡◌, ◌≤◌, drop, take}
use Rattle.cil_text.specs.ReadGlobals.{split_block}
use Rattle.cil_scan.specs.Said.{all_lines}
use Rattle.cil_reader.specs.Bodies.{lines_before}
use Rattle.cil_reader.proofs.bodies.block_length.Given as goal

abbrev pub invariant-loop-at : goal.invariant-loop-at
invariant-loop-at l = (l.depth ≤ l.at) × (split_block 0 (all_lines l.lines) ≡ lines_before (all_lines (take l.at l.lines)) (split_block l.depth (all_lines (drop l.at l.lines))))
