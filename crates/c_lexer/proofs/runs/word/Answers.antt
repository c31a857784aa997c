use Rattle.std.proofs.Common.{◌≡◌, ◌==◌, ◌∙◌, ◌+◌, true, false, get_or, sym, rules, arith}
use Rattle.c_lexer.specs.Bytes.{is_word_byte}
use Rattle.c_lexer.proofs.Going.{word_goes_at, word_stops_at}
use Rattle.c_lexer.proofs.runs.word.Goals as goal

pub loop-i-preserved : goal.loop-i-preserved
loop-i-preserved c =
    let is : is_word_byte (get_or c.args.rest.now c.loop-i.i 0) ≡ true = search rules in
    sym (word_goes_at c.args.rest.now c.loop-i.i (c.loop-i.i + 1 + 1) (omega arith) (omega arith) is) ∙ c.loop-i.invariant

pub run-requires : goal.run-requires
run-requires c = record { room = omega arith }

pub returns-then-not-is_word_byte-clause-reading : goal.returns-then-not-is_word_byte-clause-reading
returns-then-not-is_word_byte-clause-reading c =
    let is : is_word_byte (get_or c.args.rest.now c.loop-i.i 0) ≡ false = search rules in
    let other : (get_or c.args.rest.now c.loop-i.i 0 == 92) ≡ false = search rules in
    sym (word_stops_at c.args.rest.now c.loop-i.i (omega arith) is other) ∙ c.loop-i.invariant
