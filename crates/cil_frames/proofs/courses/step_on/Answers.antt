use Rattle.std.proofs.Common.{refl, sym, ◌∙◌}
use Rattle.cil_code.specs.Taking.{is_call}
use Rattle.cil_frames.proofs.Going.{stops_at_call}
use Rattle.cil_frames.proofs.Keeping.{no_call, took_keeps}
use Rattle.cil_frames.proofs.courses.step_on.Goals as goal

pub returns-then-is_call : goal.returns-then-is_call
returns-then-is_call c = record {
  stepped = stops_at_call c.args.mem.now c.args.act c.args.code.now c.args.p c.args.left.now c.index-code-p.result c.requires.there c.index-code-p.is (sym c.is_call.ensures ∙ c.if-is_call.true);
  heap = λ i. refl;
}

pub returns-clause-heap : goal.returns-clause-heap
returns-clause-heap c =
    took_keeps c.args.mem.now c.take.new.mem c.args.act c.args.p c.index-code-p-2.result c.in-Some.onward
    (no_call (is_call c.index-code-p-2.result) (rw c.in-Some.is at c.in_ok-take.ensures.call)) (rw c.in-Some.is at c.in_ok-take.ensures.took)
