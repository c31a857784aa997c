use Rattle.byte_mem.proofs.PlaceLemmas.{stored}
use Rattle.byte_mem.proofs.objects.store_at.Goals as goal

pub returns-clause-changed : goal.returns-clause-changed
returns-clause-changed c =
    stored c.args.c.now c.write.new.c c.args.p c.args.abi c.args.at.offset c.args.s c.args.v c.size.result c.in_ok-i.i c.first.result c.requires c.if-p.false c.size.ensures c.in_ok-i.ensures.room c.in_ok-i.ensures.value c.first.ensures c.write.ensures
