use Rattle.std.proofs.Common.{get_or, subst, sym, ap, ◌∙◌, arith}
use Rattle.type_iso.specs.Standing.{AllUpTo}
use Rattle.type_things.specs.Webs.{things_of}
use Rattle.type_iso.proofs.StandingLaws.{all_start, all_step, all_end}
use Rattle.type_iso.proofs.merging.all_standing.Goals as goal

pub loop-x-init : goal.loop-x-init
loop-x-init c = subst (λ l. AllUpTo (things_of c.args.web.now) c.args.classes.now c.in_ok-standing.standing.items l 0) (sym c.new-all.ensures.items) (all_start (things_of c.args.web.now) c.args.classes.now c.in_ok-standing.standing.items)

pub loop-x-preserved : goal.loop-x-preserved
loop-x-preserved c = all_step (things_of c.args.web.now) c.args.classes.now c.in_ok-standing.standing.items c.loop-x.all.items c.push.new.self.items c.loop-x.x c.in_ok-class.class c.in_ok-at.field-0 c.in_ok-class.ensures.within c.in_ok-class.ensures.is
    (λ d. ap (λ l. get_or l c.in_ok-class.class d) (sym c.deref.ensures.value) ∙ c.in_ok-at.ensures.is d) c.in_ok-push.ensures.items c.loop-x.invariant

pub returns : goal.returns
returns c = λ least. all_end (things_of c.args.web.now) c.args.classes.now c.in_ok-standing.standing.items c.loop-x.all.items c.args.web.now.aggregates c.loop-x.x least (c.in_ok-standing.ensures least) (omega (arith, c.loop-x-test.false, c.loop-x.auto.x-end)) c.loop-x.invariant
