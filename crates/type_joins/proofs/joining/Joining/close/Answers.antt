use Rattle.std.proofs.Common.{subst}
use Rattle.type_things.specs.Things.{IsClash}
use Rattle.type_joins.specs.Forests.{root}
use Rattle.type_joins.specs.Joined.{IsJoining}
use Rattle.type_things.specs.Webs.{things_of}
use Rattle.type_joins.proofs.JoinedLaws.{none_of}
use Rattle.type_joins.proofs.joining.Joining.close.Goals as goal

pub loop-step-preserved : goal.loop-step-preserved
loop-step-preserved c = record {
  forest = c.in_ok-settle.ensures.forest;
  joins = λ done j. none_of (IsClash (things_of c.args.web.now) done) c.in_ok-settle.field-0 c.in-None.is (c.in_ok-settle.ensures.joins done
      (subst (λ w. IsJoining (things_of c.args.web.now) done (root c.loop-step.self.forest.parents.items) c.loop-step.self.stand.items w) c.in-Some.ensures.items (c.loop-step.invariant.joins done j)));
}
