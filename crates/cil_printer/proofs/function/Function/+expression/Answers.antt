use Rattle.std.proofs.Common.{◌≡◌, ◌∙◌, true, is_some, rules, refl, sym, ap, arith}
use Rattle.std.specs.Option.{option_and_then}
use Rattle.cil_tree.specs.declared.expressions.Exp.{the_lemmas}
use Rattle.cil_tree.specs.View.{exp_of, lval_of}
use Rattle.cil_tree.specs.Typing.{type_of, place_type, address_type, pointed}
use Rattle.cil_tree.specs.Tree.{Bin, Value, AddrOf, StartOf}
use Rattle.cil_tree.proofs.Views.{at_value, at_address, at_start}
use Rattle.cil_printer.specs.Seen.{seen, scope_in, nodes_in}
use Rattle.cil_printer.proofs.Values.{right_typed, operand_points, index_pushed, step_typed, step_done, steps_text, steps_type, sum_pushed, sum_points_at, some_of, address_points}
use Rattle.cil_printer.proofs.function.Function.+expression.Goals as goal

pub push_expression-push_value-requires : goal.push_expression-push_value-requires
push_expression-push_value-requires t c =
    let s = scope_in c.args.self.now in
    let n = nodes_in c.args.self.now in
    let typed : is_some (type_of s (Value (lval_of n c.in-Lval.place))) ≡ true = ap (λ x. is_some (type_of s x)) (sym (at_value n c.args.e.now c.in-Lval.place c.in-Lval.is)) ∙ c.requires in
    (search (rules, the_lemmas), typed)

pub push_expression-push_address-requires : goal.push_expression-push_address-requires
push_expression-push_address-requires t c =
    let s = scope_in c.args.self.now in
    let n = nodes_in c.args.self.now in
    let typed : is_some (type_of s (AddrOf (lval_of n c.in-AddrOf.place))) ≡ true = ap (λ x. is_some (type_of s x)) (sym (at_address n c.args.e.now c.in-AddrOf.place c.in-AddrOf.is)) ∙ c.requires in
    (search (rules, the_lemmas), some_of address_type (place_type s (lval_of n c.in-AddrOf.place)) typed)

pub push_expression-returns-in-AddrOf-clause-points : goal.push_expression-returns-in-AddrOf-clause-points
push_expression-returns-in-AddrOf-clause-points t c =
    let s = scope_in c.args.self.now in
    let n = nodes_in c.args.self.now in
    let is = at_address n c.args.e.now c.in-AddrOf.place c.in-AddrOf.is in
    let typed : is_some (type_of s (AddrOf (lval_of n c.in-AddrOf.place))) ≡ true = ap (λ x. is_some (type_of s x)) (sym is) ∙ c.requires in
    c.push_address.ensures.points ∙ (sym (address_points s (lval_of n c.in-AddrOf.place) typed) ∙ ap (λ x. option_and_then pointed (type_of s x)) (sym is))

pub push_expression-push_start-requires : goal.push_expression-push_start-requires
push_expression-push_start-requires t c =
    let s = scope_in c.args.self.now in
    let n = nodes_in c.args.self.now in
    let typed : is_some (type_of s (StartOf (lval_of n c.in-StartOf.place))) ≡ true = ap (λ x. is_some (type_of s x)) (sym (at_start n c.args.e.now c.in-StartOf.place c.in-StartOf.is)) ∙ c.requires in
    (search (rules, the_lemmas), typed)

pub push_unary-returns-clause-points : goal.push_unary-returns-clause-points
push_unary-returns-clause-points t c = sym (operand_points (scope_in c.args.self.now) c.args.op (exp_of (nodes_in c.args.self.now) c.args.operand.now))

pub push_expression-push_right-r-requires : goal.push_expression-push_right-r-requires
push_expression-push_right-r-requires t c =
    let s = scope_in c.args.self.now in
    let n = nodes_in c.args.self.now in
    let typed : is_some (type_of s (Bin c.in-Bin.op (exp_of n c.in-Bin.left.value) (exp_of n c.in-Bin.right.value))) ≡ true = rw c.in-Bin.is at c.requires in
    (search (rules, the_lemmas), rw c.deref-in-Bin-2.ensures (right_typed s c.in-Bin.op (exp_of n c.in-Bin.left.value) (exp_of n c.in-Bin.right.value) typed))

pub push_index-returns-clause-text : goal.push_index-returns-clause-text
push_index-returns-clause-text t c = index_pushed _ _ _ _ (scope_in c.args.self.now) _ (seen (nodes_in c.args.self.now) c.args.of) c.token.ensures c.push_expression.ensures.text c.token-2.ensures

pub push_offsets-returns-clause-text : goal.push_offsets-returns-clause-text
push_offsets-returns-clause-text t c = steps_text _ _ _ _ c.args.offsets.now c.loop-i.i _ _ c.loop-i-test.false c.loop-i.invariant

pub push_offsets-returns-clause-leads : goal.push_offsets-returns-clause-leads
push_offsets-returns-clause-leads t c = steps_type _ _ _ _ c.args.offsets.now c.loop-i.i _ _ c.loop-i-test.false c.loop-i.invariant

pub push_offsets-loop-i-init : goal.push_offsets-loop-i-init
push_offsets-loop-i-init t c = record { text = refl; type = refl }

pub push_offsets-push_offset-t-requires : goal.push_offsets-push_offset-t-requires
push_offsets-push_offset-t-requires t c =
    (search (rules, the_lemmas), step_typed _ _ _ _ c.args.offsets.now c.loop-i.i _ _ _ c.loop-i-test.true c.index-offsets-i.is c.loop-i.invariant c.requires)

pub push_offsets-loop-i-preserved : goal.push_offsets-loop-i-preserved
push_offsets-loop-i-preserved t c =
    step_done _ _ _ _ _ c.args.offsets.now c.loop-i.i _ _ _ _ _ (omega arith) c.loop-i-test.true c.index-offsets-i.is c.loop-i.invariant c.requires c.push_offset-t.ensures.text c.push_offset-t.ensures.leads

pub push_expression-returns-in-Bin-clause-text : goal.push_expression-returns-in-Bin-clause-text
push_expression-returns-in-Bin-clause-text t c =
    let s = scope_in c.args.self.now in
    let n = nodes_in c.args.self.now in
    let is : exp_of n c.args.e.now ≡ Bin c.in-Bin.op (exp_of n c.in-Bin.left.value) (exp_of n c.in-Bin.right.value) = ap (exp_of n) c.in-Bin.is in
    sum_pushed _ _ _ c.in-Bin.op s _ (exp_of n c.in-Bin.left.value) (exp_of n c.in-Bin.right.value) is (rw c.deref-in-Bin.ensures at c.push_left-l.ensures.text) (rw c.deref-in-Bin-2.ensures at c.push_right-r.ensures.text)

pub push_expression-returns-in-Bin-clause-points : goal.push_expression-returns-in-Bin-clause-points
push_expression-returns-in-Bin-clause-points t c =
    let s = scope_in c.args.self.now in
    let n = nodes_in c.args.self.now in
    let is : exp_of n c.args.e.now ≡ Bin c.in-Bin.op (exp_of n c.in-Bin.left.value) (exp_of n c.in-Bin.right.value) = ap (exp_of n) c.in-Bin.is in
    sum_points_at s c.in-Bin.op _ (exp_of n c.in-Bin.left.value) (exp_of n c.in-Bin.right.value) _ _ _ is c.requires (rw c.deref-in-Bin.ensures at c.push_left-l.ensures.points) (rw c.deref-in-Bin-2.ensures at c.push_right-r.ensures.points) c.moved.ensures
