use Rattle.cil_semantics.proofs.Alone.{program_once}
use Rattle.cil_semantics.proofs.laws.a_program_defines_each_name_once.Goals as goal

pub returns : goal.returns
returns c = program_once
