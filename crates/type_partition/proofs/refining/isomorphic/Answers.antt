use Rattle.std.proofs.Common.{length, sym, ap, subst, ◌∙◌, arith}
use Rattle.type_partition.specs.Rounds.{AreSplit}
use Rattle.type_partition.specs.Keys.{num_at}
use Rattle.type_things.specs.Webs.{things_of}
use Rattle.type_partition.proofs.RoundLaws.{coarse_next, settled}
use Rattle.type_partition.proofs.RefineLaws.{read_round, none_past, same_read}
use Rattle.type_partition.proofs.refining.isomorphic.Goals as goal

pub loop-round-init : goal.loop-round-init
loop-round-init c = record {
  count = c.in_ok-classes.ensures.count;
  few = λ x h. omega (arith, h, c.in_ok-classes.ensures.zero x h);
  coarse = λ R local x y hx hy e. c.in_ok-classes.ensures.zero x hx ∙ sym (c.in_ok-classes.ensures.zero y hy);
}

pub loop-round-preserved : goal.loop-round-preserved
loop-round-preserved c = record {
  count = c.in_ok-next.ensures.count;
  few = c.in_ok-next.ensures.few;
  coarse = λ R local. coarse_next (things_of c.args.web.now) c.args.web.now.aggregates c.requires.web R (num_at c.loop-round.classes.items) (num_at c.in_ok-numbers.numbers.items) (num_at c.in_ok-next.next.items) local
      (read_round (things_of c.args.web.now) c.args.web.now.aggregates c.numbered.new.keys.keys c.loop-round.classes.items c.deref.result.now c.in_ok-numbers.numbers.items c.deref-in-loop-round.result.now (length c.args.web.now.things.items) c.deref.ensures.value c.deref-in-loop-round.ensures.value c.in_ok-numbers.ensures.numbers c.loop-round.invariant.few c.in_ok-numbers.ensures.count c.in_ok-next.ensures.fits (none_past c.args.web.now.parts.items c.args.web.now.things.items))
      (subst (λ l. AreSplit (things_of c.args.web.now) c.args.web.now.aggregates (num_at l) (num_at c.in_ok-next.next.items)) c.deref-in-loop-round.ensures.value c.in_ok-next.ensures.split)
      (c.loop-round.invariant.coarse R local);
}

pub returns-then-eq-clause-numbers : goal.returns-then-eq-clause-numbers
returns-then-eq-clause-numbers c =
    settled (things_of c.args.web.now) c.args.web.now.aggregates c.requires.web (num_at c.loop-round.classes.items) (num_at c.in_ok-numbers.numbers.items) (num_at c.in_ok-next.next.items) c.loop-round.invariant.coarse
    (read_round (things_of c.args.web.now) c.args.web.now.aggregates c.numbered.new.keys.keys c.loop-round.classes.items c.deref.result.now c.in_ok-numbers.numbers.items c.deref-in-loop-round.result.now (length c.args.web.now.things.items) c.deref.ensures.value c.deref-in-loop-round.ensures.value c.in_ok-numbers.ensures.numbers c.loop-round.invariant.few c.in_ok-numbers.ensures.count c.in_ok-next.ensures.fits (none_past c.args.web.now.parts.items c.args.web.now.things.items))
    (subst (λ l. AreSplit (things_of c.args.web.now) c.args.web.now.aggregates (num_at l) (num_at c.in_ok-next.next.items)) c.deref-in-loop-round.ensures.value c.in_ok-next.ensures.split)
    (λ x h. ap (λ l. num_at l x) (same_read c.in_ok-next.next.items c.loop-round.classes.items c.as_slice.result.now c.as_slice-in-loop-round.result.now c.eq.result c.as_slice.ensures.value c.as_slice-in-loop-round.ensures.value c.eq.ensures c.if-eq.true))
