use Rattle.std.proofs.Common.{true, refl, sym, subst}
use Rattle.c_lexer.specs.Automaton.{pieces}
use Rattle.c_lexer.specs.Lexed.{Gives}
use Rattle.c_lexer.specs.Tokens.{read, begun}
use Rattle.c_lexer.proofs.Longest.{cut}
use Rattle.c_lexer.proofs.Answered.{one_answer}
use Rattle.c_lexer.proofs.Refusals.{begun_fit, refused_fit, tokens_fit}
use Rattle.c_lexer.proofs.lexer.lex.Goals as goal

pub returns-clause-tokens : goal.returns-clause-tokens
returns-clause-tokens c = (
  read (pieces 0 true c.args.bytes.now) (begun c.args.unit c.args.file c.args.names.now),
  (pieces 0 true c.args.bytes.now, cut true c.args.bytes.now, refl),
  c.read_pieces.ensures.tokens,
)

pub returns-clause-only : goal.returns-clause-only
returns-clause-only c = λ answer is. subst (λ a. Gives c.read_pieces.result c.args.bytes.now c.args.unit c.read_pieces.new.names a) (sym (one_answer c.args.unit c.args.file c.args.names.now c.args.bytes.now answer is)) c.read_pieces.ensures.tokens

pub returns-clause-refusal : goal.returns-clause-refusal
returns-clause-refusal c =
    let answer = read (pieces 0 true c.args.bytes.now) (begun c.args.unit c.args.file c.args.names.now) in
    refused_fit c.read_pieces.result c.args.unit c.read_pieces.new.names c.args.bytes.now answer
    (begun_fit c.args.unit c.args.file c.args.names.now c.args.bytes.now answer c.requires.named (pieces 0 true c.args.bytes.now, cut true c.args.bytes.now, refl))
    c.read_pieces.ensures.tokens

pub returns-clause-files : goal.returns-clause-files
returns-clause-files c =
    let answer = read (pieces 0 true c.args.bytes.now) (begun c.args.unit c.args.file c.args.names.now) in
    tokens_fit c.read_pieces.result c.args.unit c.read_pieces.new.names c.args.bytes.now answer
    (begun_fit c.args.unit c.args.file c.args.names.now c.args.bytes.now answer c.requires.named (pieces 0 true c.args.bytes.now, cut true c.args.bytes.now, refl))
    c.read_pieces.ensures.tokens
