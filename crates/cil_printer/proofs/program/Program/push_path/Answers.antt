use Rattle.std.proofs.Common.{arith}
use Rattle.cil_printer.proofs.ImageTokens.{path_done, path_text}
use Rattle.cil_printer.proofs.program.Program.push_path.Goals as goal

pub loop-i-preserved : goal.loop-i-preserved
loop-i-preserved c = path_done _ _ _ _ c.args.path.now c.loop-i.i _ _ _ _ _ (omega arith) c.loop-i-test.true c.loop-i.invariant c.push_step-t.ensures.text c.push_step-t.ensures.leads

pub returns-clause-text : goal.returns-clause-text
returns-clause-text c = path_text _ _ _ c.args.path.now c.loop-i.i _ _ c.loop-i-test.false c.loop-i.invariant
