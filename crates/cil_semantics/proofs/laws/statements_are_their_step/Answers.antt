use Rattle.cil_semantics.specs.Laws.{linked_calls}
use Rattle.cil_semantics.proofs.Tameness.{statement_is}
use Rattle.cil_semantics.proofs.ProgramLaws.{calls_steady}
use Rattle.cil_semantics.proofs.laws.statements_are_their_step.Goals as goal

pub returns : goal.returns
returns c = λ common programs a x en s. statement_is a (linked_calls common programs) (calls_steady common programs) x en s
