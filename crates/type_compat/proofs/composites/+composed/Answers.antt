use Rattle.std.proofs.Common.{◌<◌, ◌≤◌, ◌-◌, ◌*◌, ◌+◌, List, length, get_or, drop, sym, ap, ◌∙◌, subst, true≢false, arith}
use Rattle.cil_base.specs.declared.numbers.TypeId.{TypeId}
use Rattle.type_graph.specs.Shapes.{shape, shapes_of}
use Rattle.type_graph.specs.Arena.{EachType}
use Rattle.type_graph.proofs.GrowthLaws.{grows_twice}
use Rattle.type_compat.proofs.PairLaws.{keeps_twice, answered, now_composed, all_grow, when_ok}
use Rattle.type_compat.proofs.Idempotent.{same_is_composed}
use Rattle.type_compat.specs.Measure.{most}
use Rattle.type_compat.specs.Pairs.{pair}
use Rattle.type_compat.specs.Composed.{composite_shapes}
use Rattle.type_compat.specs.Functions.{then_types}
use Rattle.type_compat.proofs.Parameters.{each_at, each_more, most_at, most_within, drop-end}
use Rattle.type_compat.proofs.Composing.{more_nodes, parts_at, function_at, no_function, becomes, keeps_first, takes_second, joins_both, then_none, there_next, is_next}
use Rattle.type_compat.proofs.PartLaws.{among_next, pointer_made, array_made}
use Rattle.type_compat.proofs.composites.+composed.Goals as goal

pub composed-returns-then-eq-clause-is : goal.composed-returns-then-eq-clause-is
composed-returns-then-eq-clause-is t c = same_is_composed c.args.g.now.nodes c.args.a.0 c.args.b.0 (sym c.if-eq.ensures)

pub composed-returns-in-Some-clause-is : goal.composed-returns-in-Some-clause-is
composed-returns-in-Some-clause-is t c = (c.requires.pairs (pair c.args.a c.args.b) c.in-Some.t (sym c.get.ensures ∙ c.in-Some.is)).is

pub composed-returns-in-Some-clause-there : goal.composed-returns-in-Some-clause-there
composed-returns-in-Some-clause-there t c = (c.requires.pairs (pair c.args.a c.args.b) c.in-Some.t (sym c.get.ensures ∙ c.in-Some.is)).there

pub composed-returns-clause-pairs : goal.composed-returns-clause-pairs
composed-returns-clause-pairs t c =
    answered c.parts_composed.new.g c.parts_composed.new.answers c.note.new.self (pair c.args.a c.args.b) c.in_ok-t.t c.in_ok-t.ensures.pairs c.in_ok-note.ensures
    (now_composed c.args.g.now c.parts_composed.new.g c.args.a c.args.b c.in_ok-t.t c.parts_composed.ensures.grows c.requires.left c.requires.right c.in_ok-t.ensures.there c.in_ok-t.ensures.is)

pub composite_pointer-returns-in_ok-of-in-Some-clause-pairs : goal.composite_pointer-returns-in_ok-of-in-Some-clause-pairs
composite_pointer-returns-in_ok-of-in-Some-clause-pairs t c = when_ok c.add_node.result (all_grow c.composed.new.g c.add_node.new.self c.composed.new.answers c.add_node.ensures.grows c.in_ok-of-in-Some.ensures.pairs)

pub composite_array-returns-in_ok-of-in-Some-clause-pairs : goal.composite_array-returns-in_ok-of-in-Some-clause-pairs
composite_array-returns-in_ok-of-in-Some-clause-pairs t c = when_ok c.add_node.result (all_grow c.composed.new.g c.add_node.new.self c.composed.new.answers c.add_node.ensures.grows c.in_ok-of-in-Some.ensures.pairs)

pub composite_function-returns-then-not-second-clause-pairs : goal.composite_function-returns-then-not-second-clause-pairs
composite_function-returns-then-not-second-clause-pairs t c = when_ok c.add_function.result (all_grow c.composed.new.g c.add_function.new.g c.composed.new.answers c.add_function.ensures.grows c.in_ok-ret.ensures.pairs)

pub composite_function-returns-then-not-first-clause-pairs : goal.composite_function-returns-then-not-first-clause-pairs
composite_function-returns-then-not-first-clause-pairs t c = when_ok c.add_function-then-not-first.result (all_grow c.composed.new.g c.add_function-then-not-first.new.g c.composed.new.answers c.add_function-then-not-first.ensures.grows c.in_ok-ret.ensures.pairs)

pub composite_function-returns-clause-pairs : goal.composite_function-returns-clause-pairs
composite_function-returns-clause-pairs t c = when_ok c.add_function-2.result (all_grow c.composites.new.g c.add_function-2.new.g c.composites.new.answers c.add_function-2.ensures.grows c.in_ok-params.ensures.pairs)

pub composite_at-composed-requires : goal.composite_at-composed-requires
composite_at-composed-requires t c =
    let falls : 8 * c.args.param.0 + 1 < t = omega (arith, c.decreases) in
    (falls, (c.requires.left, (each_at (length c.args.g.now.nodes) c.args.others.now c.args.i (record { 0 = 0 }) c.requires.right c.if-i-others.true, c.requires.pairs)))

pub composites-composite_at-requires : goal.composites-composite_at-requires
composites-composite_at-requires t c =
    let below : (get_or c.args.params.now c.loop-i.i (record { 0 = 0 })).0 < most c.args.params.now = most_at c.args.params.now c.loop-i.i (record { 0 = 0 }) c.loop-i-test.true in
    let falls : 8 * (get_or c.args.params.now c.loop-i.i (record { 0 = 0 })).0 + 2 < t = omega (arith, c.decreases) in
    let more : length c.args.g.now.nodes ≤ length c.loop-i.g.nodes = more_nodes c.args.g.now c.loop-i.g c.loop-i.invariant.grows in
    let param : (get_or c.args.params.now c.loop-i.i (record { 0 = 0 })).0 < length c.args.g.now.nodes = each_at (length c.args.g.now.nodes) c.args.params.now c.loop-i.i (record { 0 = 0 }) c.requires.left c.loop-i-test.true in
    (falls, (omega arith, (each_more (length c.args.g.now.nodes) (length c.loop-i.g.nodes) c.args.others.now more c.requires.right, c.loop-i.invariant.pairs)))

pub composites-returns-in_err-t-clause-grows : goal.composites-returns-in_err-t-clause-grows
composites-returns-in_err-t-clause-grows t c = grows_twice c.args.g.now c.loop-i.g c.composite_at.new.g c.loop-i.invariant.grows c.composite_at.ensures.grows

pub composites-returns-in_err-push-clause-grows : goal.composites-returns-in_err-push-clause-grows
composites-returns-in_err-push-clause-grows t c = grows_twice c.args.g.now c.loop-i.g c.composite_at.new.g c.loop-i.invariant.grows c.composite_at.ensures.grows

pub composites-loop-i-preserved : goal.composites-loop-i-preserved
composites-loop-i-preserved t c = record {
  aggregates = keeps_twice c.args.g.now c.loop-i.g c.composite_at.new.g c.loop-i.invariant.aggregates c.composite_at.ensures.aggregates;
  pairs = c.in_ok-t.ensures.pairs;
  gains = among_next c.args.g.now c.loop-i.g c.composite_at.new.g c.loop-i.done.items c.push.new.self.items c.in_ok-t.t c.loop-i.invariant.gains c.composite_at.ensures.grows c.loop-i.invariant.there c.in_ok-t.ensures.gains c.in_ok-push.ensures.items;
  grows = grows_twice c.args.g.now c.loop-i.g c.composite_at.new.g c.loop-i.invariant.grows c.composite_at.ensures.grows;
  there = there_next c.loop-i.g c.composite_at.new.g c.loop-i.done.items c.push.new.self.items c.in_ok-t.t c.composite_at.ensures.grows c.loop-i.invariant.there c.in_ok-t.ensures.there c.in_ok-push.ensures.items;
  is = is_next c.args.g.now c.loop-i.g c.composite_at.new.g c.args.params.now c.args.others.now c.loop-i.done.items c.push.new.self.items c.loop-i.i (record { 0 = 0 }) c.in_ok-t.t (composite_shapes (shapes_of (shape c.args.g.now.nodes) c.args.params.now) (shapes_of (shape c.args.g.now.nodes) c.args.others.now))
      c.loop-i.invariant.grows c.composite_at.ensures.grows c.requires.right c.loop-i-test.true (each_at (length c.args.g.now.nodes) c.args.params.now c.loop-i.i (record { 0 = 0 }) c.requires.left c.loop-i-test.true) c.loop-i.invariant.there c.in_ok-push.ensures.items c.in_ok-t.ensures.is c.loop-i.invariant.is;
}

pub composites-returns-clause-is : goal.composites-returns-clause-is
composites-returns-clause-is t c =
    sym (then_none (shape c.loop-i.g.nodes) c.loop-i.done.items)
    ∙ sym (ap (λ (ts : List TypeId). then_types (shapes_of (shape c.loop-i.g.nodes) c.loop-i.done.items) (composite_shapes (shapes_of (shape c.args.g.now.nodes) ts) (shapes_of (shape c.args.g.now.nodes) (drop c.loop-i.i c.args.others.now)))) (drop-end c.args.params.now c.loop-i.i c.loop-i-test.false))
    ∙ c.loop-i.invariant.is

pub composite_function-returns-in_default-clause-is : goal.composite_function-returns-in_default-clause-is
composite_function-returns-in_default-clause-is t c =
    absurd (true≢false (sym c.requires.node ∙ no_function (shape c.args.g.now.nodes) c.in_ok-first.field-0 (shape c.args.g.now.nodes c.args.a.0) (λ f e. c.in_default.not-Some f e) c.in_ok-first.ensures.is))

pub composite_function-add_function-requires : goal.composite_function-add_function-requires
composite_function-add_function-requires t c =
    let parts = parts_at c.args.a.0 c.in_ok-first.field-0 c.in-Some.first c.in-Some.is c.in_ok-first.ensures.there in
    let more : length c.args.g.now.nodes ≤ length c.composed.new.g.nodes = more_nodes c.args.g.now c.composed.new.g c.composed.ensures.grows in
    (c.in_ok-ret.ensures.there, each_more c.args.a.0 (length c.composed.new.g.nodes) c.in-Some.first.params.items (omega (arith, c.requires.left)) parts.1)

pub composite_function-add_function-requires-then-not-first : goal.composite_function-add_function-requires-then-not-first
composite_function-add_function-requires-then-not-first t c =
    let parts = parts_at c.args.b.0 c.in_ok-second.field-0 c.in-Some-2.second c.in-Some-2.is c.in_ok-second.ensures.there in
    let more : length c.args.g.now.nodes ≤ length c.composed.new.g.nodes = more_nodes c.args.g.now c.composed.new.g c.composed.ensures.grows in
    (c.in_ok-ret.ensures.there, each_more c.args.b.0 (length c.composed.new.g.nodes) c.in-Some-2.second.params.items (omega (arith, c.requires.right)) parts.1)

pub composite_function-returns-then-not-second-clause-is : goal.composite_function-returns-then-not-second-clause-is
composite_function-returns-then-not-second-clause-is t c =
    let first = parts_at c.args.a.0 c.in_ok-first.field-0 c.in-Some.first c.in-Some.is c.in_ok-first.ensures.there in
    becomes c.add_function.result c.add_function.new.g _ _
    (keeps_first c.args.g.now c.composed.new.g c.composed.ensures.grows c.args.a.0 c.args.b.0 c.in-Some.first c.in-Some-2.second c.in_ok-ret.ret
    (function_at (shape c.args.g.now.nodes) c.in_ok-first.field-0 c.in-Some.first (shape c.args.g.now.nodes c.args.a.0) c.in-Some.is c.in_ok-first.ensures.is)
    (function_at (shape c.args.g.now.nodes) c.in_ok-second.field-0 c.in-Some-2.second (shape c.args.g.now.nodes c.args.b.0) c.in-Some-2.is c.in_ok-second.ensures.is)
    c.in_ok-ret.ensures.is (each_more c.args.a.0 (length c.args.g.now.nodes) c.in-Some.first.params.items (omega (arith, c.requires.left)) first.1) c.if-not-second.true)
    c.add_function.ensures.is

pub composite_function-returns-then-not-first-clause-is : goal.composite_function-returns-then-not-first-clause-is
composite_function-returns-then-not-first-clause-is t c =
    let second = parts_at c.args.b.0 c.in_ok-second.field-0 c.in-Some-2.second c.in-Some-2.is c.in_ok-second.ensures.there in
    becomes c.add_function-then-not-first.result c.add_function-then-not-first.new.g _ _
    (takes_second c.args.g.now c.composed.new.g c.composed.ensures.grows c.args.a.0 c.args.b.0 c.in-Some.first c.in-Some-2.second c.in_ok-ret.ret
    (function_at (shape c.args.g.now.nodes) c.in_ok-first.field-0 c.in-Some.first (shape c.args.g.now.nodes c.args.a.0) c.in-Some.is c.in_ok-first.ensures.is)
    (function_at (shape c.args.g.now.nodes) c.in_ok-second.field-0 c.in-Some-2.second (shape c.args.g.now.nodes c.args.b.0) c.in-Some-2.is c.in_ok-second.ensures.is)
    c.in_ok-ret.ensures.is (each_more c.args.b.0 (length c.args.g.now.nodes) c.in-Some-2.second.params.items (omega (arith, c.requires.right)) second.1) c.if-not-first.true c.if-not-second.false)
    c.add_function-then-not-first.ensures.is

pub composite_function-composites-requires : goal.composite_function-composites-requires
composite_function-composites-requires t c =
    let first = parts_at c.args.a.0 c.in_ok-first.field-0 c.in-Some.first c.in-Some.is c.in_ok-first.ensures.there in
    let second = parts_at c.args.b.0 c.in_ok-second.field-0 c.in-Some-2.second c.in-Some-2.is c.in_ok-second.ensures.there in
    let more : length c.args.g.now.nodes ≤ length c.composed.new.g.nodes = more_nodes c.args.g.now c.composed.new.g c.composed.ensures.grows in
    let each : EachType c.args.a.0 c.deref.result.now = subst (EachType c.args.a.0) (sym c.deref.ensures.value) first.1 in
    let other : EachType c.args.b.0 c.deref-2.result.now = subst (EachType c.args.b.0) (sym c.deref-2.ensures.value) second.1 in
    let ret : c.in-Some.first.ret.0 < c.args.a.0 = first.0 in
    let small : most c.deref.result.now ≤ c.args.a.0 = most_within c.args.a.0 c.deref.result.now each in
    let falls : 8 * most c.deref.result.now - 2 < t = omega (arith, c.decreases) in
    (falls, (each_more c.args.a.0 (length c.composed.new.g.nodes) c.deref.result.now (omega (arith, c.requires.left)) each, (each_more c.args.b.0 (length c.composed.new.g.nodes) c.deref-2.result.now (omega (arith, c.requires.right)) other, c.in_ok-ret.ensures.pairs)))

pub composite_function-returns-clause-is : goal.composite_function-returns-clause-is
composite_function-returns-clause-is t c =
    let first = parts_at c.args.a.0 c.in_ok-first.field-0 c.in-Some.first c.in-Some.is c.in_ok-first.ensures.there in
    let second = parts_at c.args.b.0 c.in_ok-second.field-0 c.in-Some-2.second c.in-Some-2.is c.in_ok-second.ensures.there in
    becomes c.add_function-2.result c.add_function-2.new.g _ _
    (joins_both c.args.g.now c.composed.new.g c.composed.ensures.grows c.args.a.0 c.args.b.0 c.in-Some.first c.in-Some-2.second c.in_ok-ret.ret
    (function_at (shape c.args.g.now.nodes) c.in_ok-first.field-0 c.in-Some.first (shape c.args.g.now.nodes c.args.a.0) c.in-Some.is c.in_ok-first.ensures.is)
    (function_at (shape c.args.g.now.nodes) c.in_ok-second.field-0 c.in-Some-2.second (shape c.args.g.now.nodes c.args.b.0) c.in-Some-2.is c.in_ok-second.ensures.is)
    c.in_ok-ret.ensures.is c.composites.new.g c.composites.ensures.grows c.in_ok-ret.ensures.there
    (each_more c.args.a.0 (length c.args.g.now.nodes) c.in-Some.first.params.items (omega (arith, c.requires.left)) first.1) (each_more c.args.b.0 (length c.args.g.now.nodes) c.in-Some-2.second.params.items (omega (arith, c.requires.right)) second.1) c.if-not-first.false c.if-not-second.false c.in_ok-params.params.items
    (c.in_ok-params.ensures.is ∙ ap (λ (ts : List TypeId). composite_shapes (shapes_of (shape c.composed.new.g.nodes) ts) (shapes_of (shape c.composed.new.g.nodes) c.deref-2.result.now)) c.deref.ensures.value ∙ ap (λ (ts : List TypeId). composite_shapes (shapes_of (shape c.composed.new.g.nodes) c.in-Some.first.params.items) (shapes_of (shape c.composed.new.g.nodes) ts)) c.deref-2.ensures.value))
    c.add_function-2.ensures.is

pub composite_function-returns-clause-grows : goal.composite_function-returns-clause-grows
composite_function-returns-clause-grows t c =
    grows_twice c.args.g.now c.composed.new.g c.add_function-2.new.g c.composed.ensures.grows (grows_twice c.composed.new.g c.composites.new.g c.add_function-2.new.g c.composites.ensures.grows c.add_function-2.ensures.grows)

pub composite_pointer-returns-in_ok-of-in-Some-clause-gains : goal.composite_pointer-returns-in_ok-of-in-Some-clause-gains
composite_pointer-returns-in_ok-of-in-Some-clause-gains t c =
    pointer_made c.add_node.result c.args.g.now c.composed.new.g c.add_node.new.self (record { quals = c.args.pointee.quals; of = c.in_ok-of-in-Some.of }) c.in_ok-of-in-Some.ensures.gains c.add_node.ensures.grows c.add_node.ensures.ok c.add_node.ensures.shape

pub composite_array-returns-in_ok-of-in-Some-clause-gains : goal.composite_array-returns-in_ok-of-in-Some-clause-gains
composite_array-returns-in_ok-of-in-Some-clause-gains t c =
    array_made c.add_node.result c.args.g.now c.composed.new.g c.add_node.new.self (record { quals = c.args.element.quals; of = c.in_ok-of-in-Some.of }) c.known.result c.in_ok-of-in-Some.ensures.gains c.add_node.ensures.grows c.add_node.ensures.ok c.add_node.ensures.shape
