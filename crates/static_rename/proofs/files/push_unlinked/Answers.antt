use Rattle.static_rename.proofs.FilingLaws.{unlinked_next}
use Rattle.static_rename.proofs.files.push_unlinked.Goals as goal

pub loop-e-preserved : goal.loop-e-preserved
loop-e-preserved c =
    unlinked_next c.in_ok-linked.linked.keys c.args.ordinary.now c.args.globals.now c.loop-e.e c.in_ok-entity_number.field-0 c.index-globals-e.result c.loop-e.all.items c.push_unlinked_at.new.all.items _ c.in_ok-linked.ensures c.loop-e-test.true c.in_ok-entity_number.ensures.is c.index-globals-e.is c.in_ok-push_unlinked_at.ensures c.loop-e.invariant
