use Rattle.std.proofs.Common.{◌≡◌, ◌+◌, ◌<◌, length, [], arith, subst, sym, ◌∙◌}
use Rattle.cil_tree.specs.LaidOut.{lines_from, first_bad}
use Rattle.cil_layout.proofs.ScanLaws.{Scans, scan_on, scan_feed, scan_stop, scan_end}
use Rattle.cil_layout.proofs.layout.first_bad.Goals as goal
use Rattle.cil_layout.proofs.layout.first_bad.Goals.{then-bytes-at-eq10+in-Some, else-bytes-at-eq10}

pub returns-in-None : goal.returns-in-None
returns-in-None c =
    let less : c.loop-at.at < length c.args.bytes.now = omega arith in
    scan_stop c.args.bytes.now c.loop-at.start c.loop-at.at c.loop-at.braces (first_bad 0 0 (lines_from [] c.args.bytes.now)) less c.loop-at.invariant c.if-bytes-at-eq10.true
    (sym c.in-None.is ∙ c.read_line.ensures.told)

pub loop-at-preserved : goal.loop-at-preserved
loop-at-preserved c =
    let bytes = c.args.bytes.now in
    let whole = first_bad 0 0 (lines_from [] bytes) in
    let less : c.loop-at.at < length bytes = omega arith in
    elim c.if-bytes-at-eq10.branch [
      | then-bytes-at-eq10+in-Some w ↦
          subst (λ s. Scans bytes s (c.loop-at.at + 1) c.if-bytes-at-eq10.braces whole) (sym w.start-is)
          (subst (λ o. Scans bytes (c.loop-at.at + 1) (c.loop-at.at + 1) o whole) (sym w.braces-is)
          (scan_feed bytes c.loop-at.start c.loop-at.at c.loop-at.braces w.in-Some.next whole less c.loop-at.invariant w.if-bytes-at-eq10.true (sym w.in-Some.is ∙ w.read_line.ensures.told) w.in-Some.ensures.room))
      | else-bytes-at-eq10 w ↦
          subst (λ s. Scans bytes s (c.loop-at.at + 1) c.if-bytes-at-eq10.braces whole) (sym w.start-is)
          (subst (λ o. Scans bytes c.loop-at.start (c.loop-at.at + 1) o whole) (sym w.braces-is)
          (scan_on bytes c.loop-at.start c.loop-at.at c.loop-at.braces whole less c.loop-at.invariant w.if-bytes-at-eq10.false))
    ]

pub returns : goal.returns
returns c =
    let end : c.loop-at.at ≡ length c.args.bytes.now = omega arith in
    scan_end c.args.bytes.now c.loop-at.start c.loop-at.at c.loop-at.braces (first_bad 0 0 (lines_from [] c.args.bytes.now)) end c.loop-at.invariant
