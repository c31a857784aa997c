use Rattle.byte_mem.proofs.PlaceLemmas.{filled}
use Rattle.byte_mem.proofs.objects.fill_at.Goals as goal

pub returns : goal.returns
returns c = filled c.args.c.now c.fill.new.c c.args.p c.args.at.offset c.args.n c.args.b c.in_ok-i.i c.first.result c.requires c.if-p.false c.in_ok-i.ensures.room c.in_ok-i.ensures.value c.first.ensures c.fill.ensures
