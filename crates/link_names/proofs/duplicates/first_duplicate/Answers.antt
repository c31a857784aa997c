use Rattle.std.proofs.Common.{sym, ◌∙◌}
use Rattle.link_names.proofs.DuplicateLaws.{twice_found, twice_passed}
use Rattle.link_names.proofs.duplicates.first_duplicate.Goals as goal

pub returns-in-Some : goal.returns-in-Some
returns-in-Some c =
    twice_found c.args.mode.common c.args.names.now c.loop-name.name-index c.name-item.result _ c.in-Some.refusal c.loop-name-test.true c.name-item.is c.deref.ensures.value (sym c.in-Some.is ∙ c.defined_twice.ensures) c.loop-name.invariant

pub loop-name-preserved : goal.loop-name-preserved
loop-name-preserved c =
    twice_passed c.args.mode.common c.args.names.now c.loop-name.name-index c.name-item.result _ c.loop-name-test.true c.name-item.is c.deref.ensures.value (sym c.in-None.is ∙ c.defined_twice.ensures) c.loop-name.invariant
