use Rattle.std.proofs.Common.{◌≡◌, ◌+◌, ◌<◌, ℕ, suc, List, length, drop, get_or, refl, ap, ◌∙◌, subst, arith}
use Rattle.std.specs.Option.{option_and_then}
use Rattle.type_graph.specs.Shapes.{Shape, shape}
use Rattle.cil_tree.specs.declared.expressions.Offset.{Offset}
use Rattle.cil_tree.specs.View.{exp_of, lval_of, offsets_of}
use Rattle.cil_tree.specs.Typing.{type_of, place_type, part_type, read_type, address_type, start_type}
use Rattle.cil_tree.proofs.Views.{at_value, at_address, at_start}
use Rattle.cil_check.specs.Seen.{seen_scope, told, at, steps_to}
use Rattle.cil_check.proofs.ExpressionSteps.{part_next, then_some, then_none}
use Rattle.cil_check.proofs.expressions.+typing.Goals as goal

pub type_of-returns-in_ok-place_type-in-Lval-clause-told : goal.type_of-returns-in_ok-place_type-in-Lval-clause-told
type_of-returns-in_ok-place_type-in-Lval-clause-told t c =
    let scope = seen_scope c.args.s.now in
    let nodes = c.args.s.now.unit.now.graph.nodes in
    then_some (read_type scope) (place_type scope (lval_of nodes c.in-Lval.place)) (type_of scope (exp_of nodes c.args.e.now)) _ _ (ap (type_of scope) (at_value nodes c.args.e.now c.in-Lval.place c.in-Lval.is)) c.in_ok-place_type-in-Lval.ensures.told c.read.ensures.told

pub type_of-returns-in_err-place_type-in-Lval-clause-told : goal.type_of-returns-in_err-place_type-in-Lval-clause-told
type_of-returns-in_err-place_type-in-Lval-clause-told t c =
    let scope = seen_scope c.args.s.now in
    let nodes = c.args.s.now.unit.now.graph.nodes in
    ap (told c.args.s.now.unit.now.graph) c.from_residual.ensures ∙ then_none (read_type scope) (place_type scope (lval_of nodes c.in-Lval.place)) (type_of scope (exp_of nodes c.args.e.now)) (ap (type_of scope) (at_value nodes c.args.e.now c.in-Lval.place c.in-Lval.is)) c.in_err-place_type-in-Lval.ensures.told

pub type_of-returns-in_ok-place_type-in-AddrOf-clause-told : goal.type_of-returns-in_ok-place_type-in-AddrOf-clause-told
type_of-returns-in_ok-place_type-in-AddrOf-clause-told t c =
    let scope = seen_scope c.args.s.now in
    let nodes = c.args.s.now.unit.now.graph.nodes in
    then_some address_type (place_type scope (lval_of nodes c.in-AddrOf.place)) (type_of scope (exp_of nodes c.args.e.now)) _ _ (ap (type_of scope) (at_address nodes c.args.e.now c.in-AddrOf.place c.in-AddrOf.is)) c.in_ok-place_type-in-AddrOf.ensures.told c.address.ensures.told

pub type_of-returns-in_err-place_type-in-AddrOf-clause-told : goal.type_of-returns-in_err-place_type-in-AddrOf-clause-told
type_of-returns-in_err-place_type-in-AddrOf-clause-told t c =
    let scope = seen_scope c.args.s.now in
    let nodes = c.args.s.now.unit.now.graph.nodes in
    ap (told c.args.s.now.unit.now.graph) c.from_residual-in_err-place_type-in-AddrOf.ensures ∙ then_none address_type (place_type scope (lval_of nodes c.in-AddrOf.place)) (type_of scope (exp_of nodes c.args.e.now)) (ap (type_of scope) (at_address nodes c.args.e.now c.in-AddrOf.place c.in-AddrOf.is)) c.in_err-place_type-in-AddrOf.ensures.told

pub type_of-returns-in_ok-place_type-in-StartOf-clause-told : goal.type_of-returns-in_ok-place_type-in-StartOf-clause-told
type_of-returns-in_ok-place_type-in-StartOf-clause-told t c =
    let scope = seen_scope c.args.s.now in
    let nodes = c.args.s.now.unit.now.graph.nodes in
    then_some start_type (place_type scope (lval_of nodes c.in-StartOf.place)) (type_of scope (exp_of nodes c.args.e.now)) _ _ (ap (type_of scope) (at_start nodes c.args.e.now c.in-StartOf.place c.in-StartOf.is)) c.in_ok-place_type-in-StartOf.ensures.told c.start.ensures.told

pub type_of-returns-in_err-place_type-in-StartOf-clause-told : goal.type_of-returns-in_err-place_type-in-StartOf-clause-told
type_of-returns-in_err-place_type-in-StartOf-clause-told t c =
    let scope = seen_scope c.args.s.now in
    let nodes = c.args.s.now.unit.now.graph.nodes in
    ap (told c.args.s.now.unit.now.graph) c.from_residual-in_err-place_type-in-StartOf.ensures ∙ then_none start_type (place_type scope (lval_of nodes c.in-StartOf.place)) (type_of scope (exp_of nodes c.args.e.now)) (ap (type_of scope) (at_start nodes c.args.e.now c.in-StartOf.place c.in-StartOf.is)) c.in_err-place_type-in-StartOf.ensures.told

pub place_type-returns-in_err-t-2-clause-told : goal.place_type-returns-in_err-t-2-clause-told
place_type-returns-in_err-t-2-clause-told t c =
    let scope = seen_scope c.args.s.now in
    let nodes = c.args.s.now.unit.now.graph.nodes in
    let os = c.args.place.now.offsets.items in
    let i : ℕ = c.loop-offset.offset-index in
    let same : c.deref-offset-items.result.now ≡ os = c.deref-offset-items.ensures.value in
    let s : Shape = shape nodes c.loop-offset.t.0 in
    let here : part_type scope (offsets_of nodes (drop i os)) s ≡ option_and_then (part_type scope (offsets_of nodes (drop (suc i) os))) (steps_to scope nodes c.offset-item.result s) = part_next scope nodes os i c.offset-item.result s (subst (λ (xs : List Offset). i < length xs) same c.loop-offset-test.true) (c.offset-item.is ∙ ap (λ (xs : List Offset). get_or xs i c.offset-item.result) same) in
    ap (at c.args.s.now.unit.now.graph) c.from_residual-in_err-t-2.ensures ∙ then_none (part_type scope (offsets_of nodes (drop (suc i) os))) (steps_to scope nodes c.offset-item.result s) (part_type scope (offsets_of nodes (drop i os)) s) here c.in_err-t-2.ensures.told ∙ c.loop-offset.invariant.1

pub place_type-loop-offset-preserved : goal.place_type-loop-offset-preserved
place_type-loop-offset-preserved t c =
    let scope = seen_scope c.args.s.now in
    let nodes = c.args.s.now.unit.now.graph.nodes in
    let os = c.args.place.now.offsets.items in
    let i : ℕ = c.loop-offset.offset-index in
    let same : c.deref-offset-items.result.now ≡ os = c.deref-offset-items.ensures.value in
    let s : Shape = shape nodes c.loop-offset.t.0 in
    let here : part_type scope (offsets_of nodes (drop i os)) s ≡ option_and_then (part_type scope (offsets_of nodes (drop (suc i) os))) (steps_to scope nodes c.offset-item.result s) = part_next scope nodes os i c.offset-item.result s (subst (λ (xs : List Offset). i < length xs) same c.loop-offset-test.true) (c.offset-item.is ∙ ap (λ (xs : List Offset). get_or xs i c.offset-item.result) same) in
    let next : suc i ≡ i + 1 = omega arith in (
      c.in_ok-t-2.ensures.there,
      subst (λ (k : ℕ). part_type scope (offsets_of nodes (drop k os)) (shape nodes c.in_ok-t-2.t.0) ≡ place_type scope (lval_of nodes c.args.place.now)) next
          (then_some (part_type scope (offsets_of nodes (drop (suc i) os))) (steps_to scope nodes c.offset-item.result s) (part_type scope (offsets_of nodes (drop i os)) s) _ _ here c.in_ok-t-2.ensures.told refl ∙ c.loop-offset.invariant.1),
    )
