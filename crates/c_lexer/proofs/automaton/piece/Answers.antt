use Rattle.c_lexer.proofs.Longest.{piece_longest}
use Rattle.c_lexer.proofs.Munch.{piece_stays}
use Rattle.c_lexer.proofs.automaton.piece.Goals as goal

pub returns-clause-longest : goal.returns-clause-longest
returns-clause-longest c = piece_longest c.args.fresh c.args.first c.args.rest.now c.munched.result c.munched.ensures.reading

pub returns-clause-stays : goal.returns-clause-stays
returns-clause-stays c = λ settled more. piece_stays c.args.fresh c.args.first c.args.rest.now more c.munched.result c.munched.ensures.reading settled
