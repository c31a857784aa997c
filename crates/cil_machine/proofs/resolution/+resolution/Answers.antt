-- Answers: steps of a way.
use Rattle.std.proofs.Common.{◌+◌, ◌∷◌, drop, subst}
use Rattle.cil_tree.specs.View.{host_of, lval_of, offsets_of}
use Rattle.cil_check.specs.Seen.{seen_scope}
use Rattle.cil_machine.specs.Typed.{IsOnWay}
use Rattle.cil_machine.proofs.Parts.{way_begins, way_next, way_done, way_lost, way_part}
use Rattle.cil_machine.proofs.resolution.+resolution.Goals as goal

pub resolve_place-loop-offset-init : goal.resolve_place-loop-offset-init
resolve_place-loop-offset-init t c =
    let way = way_begins (seen_scope c.args.s.now.scope) c.args.s.now.entities.now (host_of c.args.s.now.scope.unit.now.graph.nodes c.args.place.now.host) (offsets_of c.args.s.now.scope.unit.now.graph.nodes c.args.place.now.offsets.items) c.in_ok-at.at c.in_ok-at.ensures in
    (way.there, way)

pub resolve_place-loop-offset-preserved : goal.resolve_place-loop-offset-preserved
resolve_place-loop-offset-preserved t c =
    let way = c.in_ok-at-2.ensures (lval_of c.args.s.now.scope.unit.now.graph.nodes c.args.place.now) (drop (c.loop-offset.offset-index + 1) c.args.place.now.offsets.items)
    (way_next (seen_scope c.args.s.now.scope) c.args.s.now.entities.now c.args.s.now.scope.unit.now.graph.nodes (lval_of c.args.s.now.scope.unit.now.graph.nodes c.args.place.now) c.args.place.now.offsets.items c.deref-offset-items.result.now c.loop-offset.offset-index c.offset-item.result c.loop-offset.at
    c.deref-offset-items.ensures.value c.loop-offset-test.true c.offset-item.is c.loop-offset.invariant.1) in
    (way.there, way)

pub resolve_place-returns : goal.resolve_place-returns
resolve_place-returns t c =
    way_done (seen_scope c.args.s.now.scope) c.args.s.now.entities.now c.args.s.now.scope.unit.now.graph.nodes (lval_of c.args.s.now.scope.unit.now.graph.nodes c.args.place.now) c.args.place.now.offsets.items c.deref-offset-items.result.now c.loop-offset.offset-index c.loop-offset.at
    c.deref-offset-items.ensures.value c.loop-offset-test.false c.loop-offset.invariant.1

pub step-returns-in-None : goal.step-returns-in-None
step-returns-in-None t c = λ w rest way. c.nowhere.ensures w (offsets_of c.args.s.now.scope.unit.now.graph.nodes rest) (way_lost (seen_scope c.args.s.now.scope) c.args.s.now.entities.now w (offsets_of c.args.s.now.scope.unit.now.graph.nodes (c.args.offset.now ∷ rest)) c.args.whole way c.in-None.is)

pub step-returns-in-Field : goal.step-returns-in-Field
step-returns-in-Field t c = λ w rest way. c.member_typed.ensures w (offsets_of c.args.s.now.scope.unit.now.graph.nodes rest)
    (way_part (seen_scope c.args.s.now.scope) c.args.s.now.entities.now w _ c.args.whole c.in-Some.t c.in_ok-whole.whole.value (subst (λ o. IsOnWay (seen_scope c.args.s.now.scope) c.args.s.now.entities.now w (offsets_of c.args.s.now.scope.unit.now.graph.nodes (o ∷ rest)) c.args.whole) c.in-Field.is way) c.in-Some.is c.in_ok-whole.ensures.ok)
