use Rattle.fresh_names.proofs.NamingLaws.{all_next}
use Rattle.fresh_names.proofs.fresh.Fresh.give_all.Goals as goal

pub loop-i-preserved : goal.loop-i-preserved
loop-i-preserved c =
    all_next c.args.self.now.taken.keys c.loop-i.self.taken.keys c.give.new.self.taken.keys c.loop-i.self.next.entries c.give.new.self.next.entries c.args.names.now c.loop-i.names c.give.new.names c.args.wishes.now c.loop-i.i _ c.loop-i.given.items c.push.new.self.items c.in_ok-give.field-0 c.loop-i-test.true c.loop-i.invariant c.in_ok-give.ensures.gives c.in_ok-push.ensures.items
