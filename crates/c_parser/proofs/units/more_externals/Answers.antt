use Rattle.std.proofs.Common.{sym, map, ◌∙◌}
use Rattle.c_tree.specs.UnitView.{external_of as tree_of}
use Rattle.c_parser.proofs.UnitWhole.{behind_all}
use Rattle.c_parser.proofs.units.more_externals.Goals as goal

pub one_more-requires : goal.one_more-requires
one_more-requires g c = record { behind = c.loop-alloc.invariant.0; on = sym c.at_token.ensures.is ∙ c.loop-alloc-test.true }

pub returns-clause-read : goal.returns-clause-read
returns-clause-read g c =
    behind_all c.args.c.now.all c.loop-alloc.c.all c.loop-alloc.c.at (map tree_of c.loop-alloc.ds) c.loop-alloc.s c.at_token.result
    c.loop-alloc.invariant.0 c.loop-alloc.invariant.1 c.at_token.ensures.is c.loop-alloc-test.false c.loop-alloc.invariant.2
