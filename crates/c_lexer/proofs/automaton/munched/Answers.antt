use Rattle.std.proofs.Common.{◌≡◌, ◌∙◌, sym, rules}
use Rattle.c_lexer.specs.declared.pieces.Sign.TheVariants.{Read}
use Rattle.c_lexer.specs.declared.state.Mode.TheVariants.{Plain}
use Rattle.c_lexer.specs.declared.state.State.TheVariants.{Blanks, Word, Opened, Sign}
use Rattle.c_lexer.specs.Automaton.{begins}
use Rattle.c_lexer.proofs.Going.{begun_word, begun_blanks, begun_sign, begun_literal}
use Rattle.c_lexer.proofs.automaton.munched.Goals as goal

pub returns-in-Word-Plain-clause-reading : goal.returns-in-Word-Plain-clause-reading
returns-in-Word-Plain-clause-reading c =
    let is : begins c.args.fresh c.args.first ≡ Word Plain = search rules in
    c.word.ensures.reading ∙ sym (begun_word c.args.fresh c.args.first c.args.rest.now is)

pub returns-in-Blanks-clause-reading : goal.returns-in-Blanks-clause-reading
returns-in-Blanks-clause-reading c =
    let is : begins c.args.fresh c.args.first ≡ Blanks = search rules in
    c.blanks.ensures.reading ∙ sym (begun_blanks c.args.fresh c.args.first c.args.rest.now is)

pub returns-in-Sign-Read-clause-reading : goal.returns-in-Sign-Read-clause-reading
returns-in-Sign-Read-clause-reading c =
    let is : begins c.args.fresh c.args.first ≡ Sign (Read c.in-Sign-Read.punctuator) = search rules in
    c.sign.ensures.reading ∙ sym (begun_sign c.args.fresh c.args.first c.args.rest.now c.in-Sign-Read.punctuator is)

pub returns-in-Opened-clause-reading : goal.returns-in-Opened-clause-reading
returns-in-Opened-clause-reading c =
    let is : begins c.args.fresh c.args.first ≡ Opened c.in-Opened.quote = search rules in
    c.literal.ensures.reading ∙ sym (begun_literal c.args.fresh c.args.first c.args.rest.now c.in-Opened.quote is)
