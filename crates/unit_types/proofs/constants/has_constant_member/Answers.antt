use Rattle.unit_types.proofs.ConstantLaws.{known_there}
use Rattle.unit_types.proofs.constants.has_constant_member.Goals as goal

pub returns-in-Some : goal.returns-in-Some
returns-in-Some c = known_there c.args.known.now c.args.g.now c.args.a c.agg.result.now _ _ c.agg.ensures c.in-Some.is c.requires.known c.has.ensures
