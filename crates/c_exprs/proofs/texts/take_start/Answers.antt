use Rattle.c_exprs.specs.Classes.{start_of}
use Rattle.c_exprs.proofs.NextLemmas.{start_taken}
use Rattle.c_exprs.proofs.texts.take_start.Goals as goal

pub returns-in_ok-text-in-Some-clause-gives : goal.returns-in_ok-text-in-Some-clause-gives
returns-in_ok-text-in-Some-clause-gives g c =
    start_taken (start_of c.args.height c.args.level c.args.s.now) c.in-Some.start c.in_ok-text-in-Some.text c.args.c.now c.advance.new.self c.in-Some.ensures.found c.in_ok-text-in-Some.ensures c.advance.ensures
