use Rattle.std.proofs.Common.{◌≡◌, sym, refl, true, false, arith}
use Rattle.cil_words.proofs.Bounds.{bound_is, unparsed, other_spelling}
use Rattle.cil_words.proofs.command.number.Goals as goal

pub returns-then-spells-clause-is : goal.returns-then-spells-clause-is
returns-then-spells-clause-is c =
    let s = c.if-spells.ensures.0 refl in
    sym (bound_is c.args.least c.args.most c.in-Ok.n c.args.word.now (omega arith) s.0 s.1.0 s.1.1)

pub returns-else-spells-clause-is : goal.returns-else-spells-clause-is
returns-else-spells-clause-is c =
    sym (other_spelling c.args.least c.args.most c.args.word.now c.parse.result c.in-Ok.n (omega arith) c.parse.ensures.value.0 c.in-Ok.is (λ low high same. (let clash : false ≡ true = c.if-spells.ensures.1 (low, (high, same)) in cc)))

pub returns-in-Err-clause-is : goal.returns-in-Err-clause-is
returns-in-Err-clause-is c = sym (unparsed c.args.least c.args.most c.args.word.now c.parse.result c.in-Err.field-0 (omega arith) c.parse.ensures.value.0 c.in-Err.is)
