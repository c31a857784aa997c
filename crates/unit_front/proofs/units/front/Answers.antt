use Rattle.std.proofs.Common.{rules, ◌≤◌, length, arith}
use Rattle.c_lexer.specs.Lexed.{IfRefused}
use Rattle.unit_front.specs.Refusals.{IsFrontRefusal}
use Rattle.cil_base.proofs.PoolLemmas.{stays_then}
use Rattle.unit_front.proofs.Causes.{whole, behind, declares, refused}
use Rattle.unit_front.proofs.Files.{grows_stays}
use Rattle.unit_front.proofs.units.front.Goals as goal

pub returns-in_err-tokens-clause-refused : goal.returns-in_err-tokens-clause-refused
returns-in_err-tokens-clause-refused c =
    let small : length c.args.bytes.now ≤ 4194304 = omega arith in
    let says : IfRefused c.lex.result (IsFrontRefusal (record { bytes = c.args.bytes.now; unit = c.args.unit; file = c.args.file; names = c.args.names.now }) c.lex.new.names) = refused c.lex.result c.args.bytes.now c.args.unit c.args.file c.args.names.now c.lex.new.names small c.lex.ensures.tokens c.lex.ensures.refusal in
    search rules

pub returns-clause-grammatical : goal.returns-clause-grammatical
returns-clause-grammatical c =
    let small : length c.args.bytes.now ≤ 4194304 = omega arith in
    whole c.tokens_front.result c.in_ok-tokens.tokens c.args.bytes.now c.args.unit c.args.file c.args.names.now c.lex.new.names small c.in_ok-tokens.ensures.tokens c.tokens_front.ensures.grammatical

pub returns-clause-refused : goal.returns-clause-refused
returns-clause-refused c =
    let small : length c.args.bytes.now ≤ 4194304 = omega arith in
    behind c.tokens_front.result c.in_ok-tokens.tokens c.args.bytes.now c.args.unit c.args.file c.args.names.now c.lex.new.names c.tokens_front.new.names small c.in_ok-tokens.ensures.tokens c.in_ok-tokens.ensures.files c.tokens_front.ensures.stays c.tokens_front.ensures.refused

pub returns-clause-declared : goal.returns-clause-declared
returns-clause-declared c =
    let small : length c.args.bytes.now ≤ 4194304 = omega arith in
    declares c.tokens_front.result c.in_ok-tokens.tokens c.args.bytes.now c.args.unit c.args.file c.args.names.now c.lex.new.names c.tokens_front.new.names small c.in_ok-tokens.ensures.tokens c.in_ok-tokens.ensures.files c.tokens_front.ensures.stays c.tokens_front.ensures.declared

pub returns-clause-stays : goal.returns-clause-stays
returns-clause-stays c = stays_then c.args.names.now c.lex.new.names c.tokens_front.new.names (grows_stays c.args.names.now c.lex.new.names c.lex.ensures.pool) c.tokens_front.ensures.stays
