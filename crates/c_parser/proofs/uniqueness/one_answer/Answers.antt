use Rattle.c_parser.proofs.UnitLaws.{answered, one_start}
use Rattle.c_parser.proofs.UnitWhole.{answers_unit}
use Rattle.c_parser.proofs.uniqueness.one_answer.Goals as goal

pub returns-clause-answers : goal.returns-clause-answers
returns-clause-answers c = answered

pub returns-clause-starts : goal.returns-clause-starts
returns-clause-starts c = one_start

pub returns-clause-reading : goal.returns-clause-reading
returns-clause-reading c = answers_unit
