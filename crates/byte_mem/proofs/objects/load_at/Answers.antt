use Rattle.byte_mem.proofs.PlaceLemmas.{loaded}
use Rattle.byte_mem.proofs.objects.load_at.Goals as goal

pub returns : goal.returns
returns c = loaded c.args.abi c.args.c.now c.args.p c.args.at.offset c.args.s c.size.result c.in_ok-i.i c.first.result c.read.result c.requires c.size.ensures c.in_ok-i.ensures.room c.in_ok-i.ensures.value c.first.ensures c.read.ensures
