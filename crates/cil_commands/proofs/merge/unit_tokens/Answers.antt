use Rattle.std.proofs.Common.{◌≤◌, ◌<◌, length, sym, subst, arith}
use Rattle.cil_commands.specs.Merge.{IsRefused}
use Rattle.cil_commands.specs.Merged.{file_in}
use Rattle.cil_commands.proofs.Units.{too_large_by, refused_by_tokens, token_refusal}
use Rattle.cil_commands.proofs.merge.unit_tokens.Goals as goal

pub returns-then-unit-gt-UNIT_BYTES-clause-refused : goal.returns-then-unit-gt-UNIT_BYTES-clause-refused
returns-then-unit-gt-UNIT_BYTES-clause-refused c =
    let large : 4194304 < length c.args.unit.now = omega arith in
    subst (λ refusal. IsRefused (file_in c.args.names.now c.args.unit.now) refusal c.args.names.now) (sym c.refused_first.ensures) (too_large_by c.args.names.now c.args.unit.now c.args.names.now large)

pub returns-clause-refused : goal.returns-clause-refused
returns-clause-refused c =
    let small : length c.args.unit.now ≤ 4194304 = omega arith in
    refused_by_tokens c.lex.result c.args.names.now c.args.unit.now c.args.file c.lex.new.names c.requires.alone c.requires.first small c.lex.ensures.tokens

pub returns-clause-refusal : goal.returns-clause-refusal
returns-clause-refusal c = token_refusal c.lex.result (length c.lex.new.names) c.lex.ensures.refusal
