use Rattle.cil_start.proofs.WordLaws.{word_filled}
use Rattle.cil_start.proofs.words.word_bytes.Goals as goal

pub returns : goal.returns
returns c = word_filled c.args.word.now c.in_ok-bytes.bytes.items c.push_zeros.new.bytes.items c.in_ok-bytes.ensures c.in_ok-push_zeros.ensures
