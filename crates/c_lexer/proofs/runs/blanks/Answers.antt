use Rattle.std.proofs.Common.{◌≡◌, ◌∙◌, ◌+◌, true, false, get_or, sym, rules, arith}
use Rattle.c_lexer.specs.Bytes.{is_blank}
use Rattle.c_lexer.proofs.Going.{blank_goes_at, blank_stops_at}
use Rattle.c_lexer.proofs.runs.blanks.Goals as goal

pub loop-i-preserved : goal.loop-i-preserved
loop-i-preserved c =
    let is : is_blank (get_or c.args.rest.now c.loop-i.i 0) ≡ true = search rules in
    sym (blank_goes_at c.args.rest.now c.loop-i.i (c.loop-i.i + 1 + 1) (omega arith) (omega arith) is) ∙ c.loop-i.invariant

pub returns-then-not-is_blank-clause-reading : goal.returns-then-not-is_blank-clause-reading
returns-then-not-is_blank-clause-reading c =
    let is : is_blank (get_or c.args.rest.now c.loop-i.i 0) ≡ false = search rules in
    sym (blank_stops_at c.args.rest.now c.loop-i.i (omega arith) is) ∙ c.loop-i.invariant
