use Rattle.byte_mem.proofs.PlaceLemmas.{loaded_part}
use Rattle.byte_mem.proofs.objects.load_bytes_at.Goals as goal

pub returns-in_ok-read_bytes-in-Some : goal.returns-in_ok-read_bytes-in-Some
returns-in_ok-read_bytes-in-Some c =
    loaded_part c.args.c.now c.args.p c.args.at.offset c.args.n c.in-Some.i c.first.result _ c.requires c.in-Some.ensures.room c.in-Some.ensures.value c.first.ensures c.in_ok-read_bytes-in-Some.ensures
