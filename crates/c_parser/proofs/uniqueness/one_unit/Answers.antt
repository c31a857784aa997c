use Rattle.std.specs.Prelude.{refl}
use Rattle.c_tree.specs.UnitSpelling.{spell_unit}
use Rattle.c_parser.proofs.UnitLaws.{one_unit, one_external, one_statement, one_declaration}
use Rattle.c_parser.proofs.uniqueness.one_unit.Goals as goal

pub returns-clause-units : goal.returns-clause-units
returns-clause-units c = λ u v g k e. one_unit (spell_unit u) u v (record { grammatical = g; spelled = refl }) (record { grammatical = k; spelled = e })

pub returns-clause-externals : goal.returns-clause-externals
returns-clause-externals c = one_external

pub returns-clause-statements : goal.returns-clause-statements
returns-clause-statements c = one_statement

pub returns-clause-declarations : goal.returns-clause-declarations
returns-clause-declarations c = one_declaration
