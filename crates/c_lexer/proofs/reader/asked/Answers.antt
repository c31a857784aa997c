use Rattle.c_lexer.proofs.Interning.{asked_id, asked_grows}
use Rattle.c_lexer.proofs.reader.asked.Goals as goal

pub returns-clause-number : goal.returns-clause-number
returns-clause-number c = asked_id _ c.intern.new.self _ c.intern.result c.intern.ensures.once c.intern.ensures.ok

pub returns-clause-pool : goal.returns-clause-pool
returns-clause-pool c = asked_grows c.args.names.now c.intern.new.self c.args.text.now c.intern.result c.intern.ensures.ok c.intern.ensures.err
