use Rattle.type_links.proofs.LinkSteps.{kept_self, kept_then, known_here}
use Rattle.type_links.proofs.linking.is_known.Goals as goal

pub loop-i-init : goal.loop-i-init
loop-i-init c = kept_self c.args.joining.now c.requires

pub loop-i-preserved : goal.loop-i-preserved
loop-i-preserved c = kept_then c.args.joining.now c.loop-i.joining c.says_the_same.new.joining c.loop-i.invariant c.in_ok-says_the_same.ensures.kept

pub returns-then-branch-clause-kept : goal.returns-then-branch-clause-kept
returns-then-branch-clause-kept c = kept_then c.args.joining.now c.loop-i.joining c.says_the_same.new.joining c.loop-i.invariant c.in_ok-says_the_same.ensures.kept

pub returns-then-branch-clause-known : goal.returns-then-branch-clause-known
returns-then-branch-clause-known c = λ t. known_here c.args.joining.now c.loop-i.joining c.args.distinct.now c.loop-i.i _ c.args.later c.loop-i-test.true c.loop-i.invariant (c.in_ok-says_the_same.ensures.says c.if-branch.true)
