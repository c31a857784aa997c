use Rattle.std.proofs.Common.{true}
use Rattle.c_tree.specs.View.{specifier_of}
use Rattle.c_tree.specs.Levels.{is_specifier_qualifier}
use Rattle.c_tree.proofs.ToldLemmas.{all_step_is}
use Rattle.c_levels.proofs.rules.are_specifier_qualifiers.Goals as goal

pub loop-x-preserved : goal.loop-x-preserved
loop-x-preserved c = all_step_is (λ s. is_specifier_qualifier (specifier_of s)) c.args.xs.now c.loop-x.x-index c.loop-x.all c.is_specifier_qualifier.result c.both-all.result c.x-item.result c.loop-x-test.true c.x-item.is c.is_specifier_qualifier.ensures c.both-all.ensures.is c.loop-x.invariant
