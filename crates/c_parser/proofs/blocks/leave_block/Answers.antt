use Rattle.c_parser.proofs.Kept.{left_block}
use Rattle.c_parser.proofs.blocks.leave_block.Goals as goal

pub returns : goal.returns
returns c = left_block c.args.s.now c.leave.new.self c.leave.ensures
