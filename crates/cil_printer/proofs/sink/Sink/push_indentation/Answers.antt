use Rattle.std.proofs.Common.{◌∙◌, arith}
use Rattle.cil_printer.proofs.Puts.{indented_more, indented_end}
use Rattle.cil_printer.proofs.sink.Sink.push_indentation.Goals as goal

pub loop-i-preserved : goal.loop-i-preserved
loop-i-preserved c = indented_more _ _ c.args.depth c.loop-i._i _ (omega arith) c.loop-i-test.true c.push.ensures ∙ c.loop-i.invariant

pub returns : goal.returns
returns c = indented_end _ _ c.args.depth c.loop-i._i c.loop-i-test.false c.loop-i.invariant
