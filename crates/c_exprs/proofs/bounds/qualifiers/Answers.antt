use Rattle.std.proofs.Common.{◌∙◌, arith}
use Rattle.c_cursor.specs.Readers.{one}
use Rattle.c_cursor.specs.Classes.{next_is}
use Rattle.c_cursor.proofs.ListLoops.{collecting_from, collecting_next, collecting_stops, collecting_ends}
use Rattle.c_exprs.specs.Classes.{is_qualifier, a_qualifier}
use Rattle.c_exprs.proofs.bounds.qualifiers.Goals as goal

pub loop-c-init : goal.loop-c-init
loop-c-init g c = grind (arith, collecting_from)

pub loop-c-preserved : goal.loop-c-preserved
loop-c-preserved g c = (
  collecting_next (λ qs. next_is is_qualifier) (one a_qualifier) c.loop-c.c.all c.take_qualifier.new.c.all c.loop-c.c.at c.take_qualifier.new.c.at c.loop-c.qs.items c.push.new.self.items c.in_ok-q.q c.at_qualifier.result _
      c.loop-c.invariant.0 c.at_qualifier.ensures.is c.loop-c-test.true c.at_qualifier.ensures.room c.in_ok-q.ensures.gives c.in_ok-push.ensures.items c.take_qualifier.ensures.onward.same c.in_ok-q.ensures.further,
  record { same = c.take_qualifier.ensures.onward.same ∙ c.loop-c.invariant.1.same; onward = omega (arith, c.take_qualifier.ensures.onward.onward, c.loop-c.invariant.1.onward) },
)

pub returns-in_err-q-clause-gives : goal.returns-in_err-q-clause-gives
returns-in_err-q-clause-gives g c = grind (arith, collecting_stops)

pub returns-clause-gives : goal.returns-clause-gives
returns-clause-gives g c = collecting_ends (λ qs. next_is is_qualifier) (one a_qualifier) c.loop-c.c.all c.loop-c.c.at c.loop-c.qs.items c.at_qualifier.result _ c.loop-c.invariant.0 c.at_qualifier.ensures.is c.loop-c-test.false
