use Rattle.c_exprs.proofs.Public.{one_expr, one_type_name, one_specifiers, one_declarator, one_init}
use Rattle.c_exprs.proofs.uniqueness.one_tree.Goals as goal

pub returns-clause-expressions : goal.returns-clause-expressions
returns-clause-expressions c = one_expr

pub returns-clause-type_names : goal.returns-clause-type_names
returns-clause-type_names c = one_type_name

pub returns-clause-specifiers : goal.returns-clause-specifiers
returns-clause-specifiers c = one_specifiers

pub returns-clause-declarators : goal.returns-clause-declarators
returns-clause-declarators c = one_declarator

pub returns-clause-initialisers : goal.returns-clause-initialisers
returns-clause-initialisers c = one_init
