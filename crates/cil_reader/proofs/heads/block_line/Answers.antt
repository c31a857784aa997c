use Rattle.std.proofs.Common.{arith}
use Rattle.std.proofs.lemmas.Grind.{common_steps}
use Rattle.cil_text.proofs.PartsAdded.{adds_none}
use Rattle.cil_reader.proofs.HeadsLaws.{known_looped, known_opened}
use Rattle.cil_reader.proofs.OnwardLaws.{onward_none}
use Rattle.cil_reader.proofs.heads.block_line.Goals as goal

pub returns-in-WhileWord-clause-known : goal.returns-in-WhileWord-clause-known
returns-in-WhileWord-clause-known c = known_looped c.args.r.now.graph

pub returns-in-WhileWord-clause-on : goal.returns-in-WhileWord-clause-on
returns-in-WhileWord-clause-on c = onward_none c.args.r.now

pub returns-in-WhileWord-clause-adds : goal.returns-in-WhileWord-clause-adds
returns-in-WhileWord-clause-adds c = adds_none c.args.r.now.graph _

pub returns-in-LeftBrace-clause-known : goal.returns-in-LeftBrace-clause-known
returns-in-LeftBrace-clause-known c = known_opened c.args.r.now.graph

pub returns-in-LeftBrace-clause-on : goal.returns-in-LeftBrace-clause-on
returns-in-LeftBrace-clause-on c = onward_none c.args.r.now

pub returns-in-LeftBrace-clause-adds : goal.returns-in-LeftBrace-clause-adds
returns-in-LeftBrace-clause-adds c = adds_none c.args.r.now.graph _

pub returns-in-RightBrace-clause-known : goal.returns-in-RightBrace-clause-known
returns-in-RightBrace-clause-known c = c.behind_brace.ensures.known c.args.r.now.graph

pub returns-in-RightBrace-clause-on : goal.returns-in-RightBrace-clause-on
returns-in-RightBrace-clause-on c = onward_none c.args.r.now

pub returns-in-RightBrace-clause-adds : goal.returns-in-RightBrace-clause-adds
returns-in-RightBrace-clause-adds c = adds_none c.args.r.now.graph _

pub returns-in_default-clause-on : goal.returns-in_default-clause-on
returns-in_default-clause-on c = onward_none c.args.r.now

pub returns-in-IfWord-clause-gives : goal.returns-in-IfWord-clause-gives
returns-in-IfWord-clause-gives c = grind (arith, common_steps)

pub returns-in-SwitchWord-clause-gives : goal.returns-in-SwitchWord-clause-gives
returns-in-SwitchWord-clause-gives c = grind (arith, common_steps)

pub returns-in-WhileWord-clause-gives : goal.returns-in-WhileWord-clause-gives
returns-in-WhileWord-clause-gives c = grind (arith, common_steps)

pub returns-in-LeftBrace-clause-gives : goal.returns-in-LeftBrace-clause-gives
returns-in-LeftBrace-clause-gives c = grind (arith, common_steps)

pub returns-in-RightBrace-clause-gives : goal.returns-in-RightBrace-clause-gives
returns-in-RightBrace-clause-gives c = grind (arith, common_steps)

pub returns-in_default-clause-gives : goal.returns-in_default-clause-gives
returns-in_default-clause-gives c = grind (arith, common_steps)
