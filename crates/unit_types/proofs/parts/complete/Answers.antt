use Rattle.unit_types.proofs.ConstantLaws.{completes}
use Rattle.unit_types.proofs.NormalLaws.{normal_completed}
use Rattle.unit_types.proofs.parts.complete.Goals as goal

pub returns-in-Ok-clause-normal : goal.returns-in-Ok-clause-normal
returns-in-Ok-clause-normal c =
    c.keep_up.ensures.normal (normal_completed c.args.parts.now.graph c.complete.new.self c.args.a c.args.members c.requires.normal c.requires.there c.requires.form c.in_ok-complete.ensures.ok)

pub returns-in-Ok-clause-constants : goal.returns-in-Ok-clause-constants
returns-in-Ok-clause-constants c =
    completes c.args.parts.now.graph c.complete.new.self c.keep_up.new.parts.graph c.args.a c.args.members c.len-types.ensures.arena c.requires.there c.requires.fit c.in_ok-complete.ensures.grows c.in_ok-complete.ensures.ok c.keep_up.ensures.constants
