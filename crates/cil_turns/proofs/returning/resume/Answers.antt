use Rattle.std.proofs.Common.{refl, subst}
use Rattle.cil_code.specs.Taking.{datum_of}
use Rattle.cil_turns.specs.declared.runs.Stand.{Stand}
use Rattle.cil_turns.specs.Standing.{Stands, from_kept}
use Rattle.cil_turns.specs.Moving.{TurnedQuietly}
use Rattle.cil_turns.proofs.Returns.{popped}
use Rattle.cil_turns.proofs.returning.resume.Goals as goal

pub returns-in-Some-clause-turned : goal.returns-in-Some-clause-turned
returns-in-Some-clause-turned c table w left taken =
    popped table c.args.run.now (record c.args.run.now { frames = c.pop.new.self }) c.keep_on.new.run c.in-Some.frame (datum_of c.args.d.now) c.keep_on.result c.in-Some.ensures.items refl w
    (subst (λ (x : Stand). Stands table (record c.args.run.now { frames = c.pop.new.self }) x → TurnedQuietly table (from_kept table (record c.args.run.now { frames = c.pop.new.self }) c.in-Some.frame.to (datum_of c.args.d.now) x) (record c.args.run.now { frames = c.pop.new.self }) c.keep_on.new.run c.keep_on.result)
    c.stand_of.ensures (c.keep_on.ensures.turned table)) left taken
