use Rattle.std.proofs.Common.{◌≡◌, ◌<◌, ◌/◌, rules, arith}
use Rattle.c_lexer.proofs.Bits.{word_bits}
use Rattle.c_lexer.proofs.bytes.is_word_byte.Goals as goal

pub returns : goal.returns
returns c =
    let low : c.args.b < 256 = omega arith in
    let at : c.from.result ≡ c.args.b / 64 = search rules in
    word_bits c.args.b c.from.result low at
