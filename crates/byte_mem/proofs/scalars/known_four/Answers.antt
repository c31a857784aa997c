use Rattle.byte_mem.proofs.DigitLemmas.{four_known}
use Rattle.byte_mem.proofs.scalars.known_four.Goals as goal

pub returns-clause-value : goal.returns-clause-value
returns-clause-value c = four_known c.args.i c.args.c.now c.in_ok-low.low c.in_ok-high.high c.requires.room c.in_ok-low.ensures.value c.in_ok-high.ensures.value
