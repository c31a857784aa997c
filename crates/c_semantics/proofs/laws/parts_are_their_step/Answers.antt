use Rattle.c_semantics.specs.Laws.{calls_in}
use Rattle.c_semantics.proofs.UnitLaws.{calls_steady}
use Rattle.c_semantics.proofs.Tameness.{part_is}
use Rattle.c_semantics.proofs.laws.parts_are_their_step.Goals as goal

pub returns : goal.returns
returns c = λ texts mode units a x en s. part_is a (calls_in texts mode units) (calls_steady texts mode units) x en s
