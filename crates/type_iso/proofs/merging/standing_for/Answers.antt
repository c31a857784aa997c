use Rattle.std.proofs.Common.{subst, sym, arith}
use Rattle.type_iso.specs.Standing.{StandUpTo}
use Rattle.type_things.specs.Webs.{things_of}
use Rattle.type_iso.proofs.StandingLaws.{stand_start, stand_step}
use Rattle.type_iso.proofs.merging.standing_for.Goals as goal

pub loop-x-init : goal.loop-x-init
loop-x-init c = λ least. stand_start (things_of c.args.web.now) c.args.classes.now c.in_ok-standing.standing.items c.in_ok-standing.ensures least

pub loop-x-preserved : goal.loop-x-preserved
loop-x-preserved c = λ least. stand_step (things_of c.args.web.now) c.args.classes.now c.loop-x.standing.items c.let_stand.new.standing.items c.loop-x.x c.in_ok-class.class least c.in_ok-class.ensures.within (sym (c.in_ok-class.ensures.is c.loop-x.x)) c.in_ok-let_stand.ensures (c.loop-x.invariant least)

pub returns : goal.returns
returns c = λ least. subst (StandUpTo (things_of c.args.web.now) c.args.classes.now c.loop-x.standing.items) (omega (arith, c.loop-x-test.false, c.loop-x.auto.x-end)) (c.loop-x.invariant least)
