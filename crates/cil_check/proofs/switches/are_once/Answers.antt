use Rattle.cil_check.proofs.StatementSteps.{once_fails, once_passes}
use Rattle.cil_check.proofs.switches.are_once.Goals as goal

pub returns-then-not-branch : goal.returns-then-not-branch
returns-then-not-branch c = once_fails c.loop-i.marked.values.keys c.loop-i.marked.has_default _ c.in_ok-note.field-0 c.args.marks.now c.loop-i.i _ c.loop-i-test.true c.loop-i.invariant c.in_ok-note.ensures.first c.if-not-branch.true

pub loop-i-preserved : goal.loop-i-preserved
loop-i-preserved c =
    let noted = c.in_ok-note.ensures.noted c.if-not-branch.false in
    once_passes c.loop-i.marked.values.keys c.note.new.self.values.keys c.loop-i.marked.has_default c.note.new.self.has_default _ c.in_ok-note.field-0 c.args.marks.now c.loop-i.i _ c.loop-i-test.true c.loop-i.invariant c.in_ok-note.ensures.first c.if-not-branch.false noted.0 noted.1
