use Rattle.std.proofs.Common.{false, get_or}
use Rattle.typedef_scopes.specs.Scopes.{declared}
use Rattle.c_tree.proofs.CappedLemmas.{same_default}
use Rattle.c_parser.proofs.OwnListLemmas.{reaches_step}
use Rattle.c_parser.proofs.own_list.declare_names.Goals as goal

pub loop-x-preserved : goal.loop-x-preserved
loop-x-preserved c = reaches_step (λ ds n. declared n false ds) c.args.s.now c.loop-x.s c.declare.new.self c.args.xs.now c.loop-x.x-index (get_or c.args.xs.now c.loop-x.x-index record { 0 = 0 }) c.loop-x-test.true
    (same_default c.args.xs.now c.loop-x.x-index record { 0 = 0 } (get_or c.args.xs.now c.loop-x.x-index record { 0 = 0 }) c.loop-x-test.true) c.in_ok-declare.ensures.ok c.loop-x.invariant
