use Rattle.static_rename.proofs.KeptLaws.{texts_next, interned_stay}
use Rattle.fresh_names.proofs.NamingLaws.{stays_twice}
use Rattle.static_rename.proofs.kept.interned.Goals as goal

pub loop-text-preserved : goal.loop-text-preserved
loop-text-preserved c =
    let stays = interned_stay c.loop-text.names c.intern.new.self c.as_bytes.result.now c.in_ok-intern.field-0.0 c.in_ok-intern.ensures.ok in (
      stays_twice c.args.names.now c.loop-text.names c.intern.new.self c.loop-text.invariant.0 stays,
      texts_next (λ s. s.now) c.loop-text.names c.intern.new.self c.loop-text.all.items c.push.new.self.items c.args.texts.now c.loop-text.text-index c.in_ok-intern.field-0 _ c.as_bytes.result.now c.loop-text-test.true c.as_bytes.ensures.value stays c.in_ok-intern.ensures.ok.number c.in_ok-push.ensures.items c.loop-text.invariant.1,
    )
