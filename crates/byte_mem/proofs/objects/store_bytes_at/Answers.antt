use Rattle.byte_mem.proofs.PlaceLemmas.{stored_part}
use Rattle.byte_mem.proofs.objects.store_bytes_at.Goals as goal

pub returns : goal.returns
returns c = stored_part c.args.c.now c.write_bytes.new.c c.args.bytes.now c.args.p c.args.at.offset c.in_ok-i.i c.first.result c.requires c.if-p.false c.in_ok-i.ensures.room c.in_ok-i.ensures.value c.first.ensures c.write_bytes.ensures
