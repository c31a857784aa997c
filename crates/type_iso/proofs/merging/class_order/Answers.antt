use Rattle.std.proofs.Common.{subst, sym}
use Rattle.type_joins.specs.Forests.{IsForest}
use Rattle.type_things.specs.Webs.{things_of}
use Rattle.type_iso.proofs.ClassLaws.{order_classed}
use Rattle.type_iso.proofs.merging.class_order.Goals as goal

pub gather-requires : goal.gather-requires
gather-requires c = record { forest = subst (λ f. IsForest f.parents.items) (sym c.into_forest.ensures) c.requires.forest }

pub returns : goal.returns
returns c = λ done j. order_classed (things_of c.args.web.now) done c.args.web.now.aggregates c.args.joining.forest c.into_forest.result c.args.joining.stand.items c.in_ok-numbers.numbers.items c.deref.result.now c.in_ok-classes.classes.items c.deref-2.result.now c.in_ok-standing.standing.items c.deref-3.result.now c.deref-5.result.now c.in_ok-order.order.items c.deref-4.result.now c.in_ok-of.of.items
    c.into_forest.ensures c.deref.ensures.value c.deref-2.ensures.value c.deref-3.ensures.value c.deref-5.ensures.value c.deref-4.ensures.value c.in_ok-numbers.ensures.numbers c.in_ok-classes.ensures.partition c.in_ok-standing.ensures (c.in_ok-order.ensures c.requires.within) c.in_ok-of.ensures j
