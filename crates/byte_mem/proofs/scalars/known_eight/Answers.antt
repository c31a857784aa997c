use Rattle.byte_mem.proofs.DigitLemmas.{eight_known}
use Rattle.byte_mem.proofs.scalars.known_eight.Goals as goal

pub returns : goal.returns
returns c = eight_known c.args.i c.args.c.now c.in_ok-low.low c.in_ok-high.high c.requires.room c.in_ok-low.ensures.value c.in_ok-high.ensures.value
