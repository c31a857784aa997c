use Rattle.std.proofs.Common.{◌≡◌, ◌<◌, Some, length, get_or, rules, arith}
use Rattle.cil_text.specs.ReadGlobals.{labels_in}
use Rattle.cil_scan.specs.Said.{all_said, all_lines}
use Rattle.cil_reader.specs.Bodies.{label_behind}
use Rattle.cil_reader.proofs.FunctionLaws.{label_different, labels_step}
use Rattle.cil_reader.proofs.PoolLaws.{pool_twice}
use Rattle.cil_reader.proofs.bodies.labels_in.Goals as goal

pub loop-i-preserved : goal.loop-i-preserved
loop-i-preserved c =
    let inv = c.loop-i.invariant in
    let ts = c.loop-i.labels.texts in
    let us = c.in_ok-labels.labels.texts in
    let less : c.loop-i.i < length c.args.lines.now = omega arith in
    let one : label_behind ts (all_said (get_or c.args.lines.now c.loop-i.i c.index-lines-i.result).items) ≡ Some us = search rules in (
      c.in_ok-labels.ensures.known,
      pool_twice c.args.pool.now c.loop-i.pool c.next_label.new.pool inv.1 c.next_label.ensures.pool,
      label_different ts us (all_said (get_or c.args.lines.now c.loop-i.i c.index-lines-i.result).items) inv.2 one,
      labels_step c.args.lines.now c.loop-i.i c.index-lines-i.result ts us (labels_in (all_lines c.args.lines.now)) less one inv.3,
    )
