use Rattle.std.proofs.Common.{refl, ◌∙◌, arith}
use Rattle.c_exprs.proofs.ListLoops.{naming_from, naming_next, naming_stops, naming_ends}
use Rattle.c_exprs.proofs.parameters.more_identifiers.Goals as goal

pub loop-c-init : goal.loop-c-init
loop-c-init g c = (naming_from c.args.s.now c.args.c.now.all c.args.c.now.at c.args.first.items _ refl, record { same = refl; onward = omega arith })

pub loop-c-preserved : goal.loop-c-preserved
loop-c-preserved g c = (
  naming_next c.args.s.now c.loop-c.c.all c.next_identifier.new.c.all c.loop-c.c.at c.next_identifier.new.c.at c.loop-c.ns.items c.push.new.self.items c.in_ok-n.n c.at_sign.result _
      c.loop-c.invariant.0 c.at_sign.ensures.is c.loop-c-test.true c.at_sign.ensures.room c.in_ok-n.ensures.gives c.in_ok-push.ensures.items c.next_identifier.ensures.onward.same c.in_ok-n.ensures.further,
  record { same = c.next_identifier.ensures.onward.same ∙ c.loop-c.invariant.1.same; onward = omega (arith, c.next_identifier.ensures.onward.onward, c.loop-c.invariant.1.onward) },
)

pub returns-in_err-n-clause-gives : goal.returns-in_err-n-clause-gives
returns-in_err-n-clause-gives g c = grind (arith, naming_stops)

pub returns-clause-gives : goal.returns-clause-gives
returns-clause-gives g c = naming_ends c.args.s.now c.loop-c.c.all c.loop-c.c.at c.loop-c.ns.items c.at_sign.result _ c.loop-c.invariant.0 c.at_sign.ensures.is c.loop-c-test.false
