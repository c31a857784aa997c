-- Answers: each arm is its step of the definition, at the operands that it borrows.
use Rattle.std.proofs.Common.{Some, option_map, not, sym, ap, ◌∙◌}
use Rattle.byte_mem.specs.declared.values.Scalar.TheVariants.{Int as OfKind, Ptr as OfPointer}
use Rattle.byte_mem.specs.Store.{memory}
use Rattle.byte_mem.specs.Operator.{truth, converted, compared, pointer_sum, pointer_less, member_place, element_place}
use Rattle.cil_machine.specs.Terms.{of_one, of_two, number_of, as_number, number_from, told_from, term_value, number_by, spot_place, compared_number, unary_at, arithmetic_at, shifted_at, pointer_for, difference_at}
use Rattle.cil_machine.proofs.TermSteps.{at_both}
use Rattle.cil_machine.proofs.Numbers.{value_negated, number_negated, unary_number, arithmetic_number, shift_number, arithmetic_whole, compared_value, number_compared, number_converted}
use Rattle.cil_machine.proofs.evaluation.+evaluation.Goals as goal

pub term_value-returns-in-Not-clause-value : goal.term_value-returns-in-Not-clause-value
term_value-returns-in-Not-clause-value t c = c.value_of_not.ensures.value ∙ (value_negated c.args.mem.now.abi (memory c.args.mem.now) c.args.s c.in-Not.of (term_value c.args.mem.now.abi (memory c.args.mem.now) c.args.act c.in-Not.of c.deref.result.now) ∙ (ap (λ e. of_one (term_value c.args.mem.now.abi (memory c.args.mem.now) c.args.act c.in-Not.of e) (λ v. told_from c.args.mem.now.abi c.args.s (option_map not (truth (memory c.args.mem.now) c.in-Not.of v)))) c.deref.ensures ∙ ap (term_value c.args.mem.now.abi (memory c.args.mem.now) c.args.act c.args.s) (sym c.in-Not.is)))

pub term_value-returns-in-Compare-clause-value : goal.term_value-returns-in-Compare-clause-value
term_value-returns-in-Compare-clause-value t c = c.value_of_compare.ensures.value ∙ (compared_value c.args.mem.now.abi c.args.s c.in-Compare.op c.in-Compare.of (term_value c.args.mem.now.abi (memory c.args.mem.now) c.args.act (OfKind c.in-Compare.of) c.deref-in-Compare.result.now) (term_value c.args.mem.now.abi (memory c.args.mem.now) c.args.act (OfKind c.in-Compare.of) c.deref-in-Compare-2.result.now) ∙ (at_both (λ e f. of_two (term_value c.args.mem.now.abi (memory c.args.mem.now) c.args.act (OfKind c.in-Compare.of) e) (term_value c.args.mem.now.abi (memory c.args.mem.now) c.args.act (OfKind c.in-Compare.of) f) (λ v w. number_from c.args.mem.now.abi c.args.s (compared_number c.in-Compare.op c.in-Compare.of v w))) c.deref-in-Compare.ensures c.deref-in-Compare-2.ensures ∙ ap (term_value c.args.mem.now.abi (memory c.args.mem.now) c.args.act c.args.s) (sym c.in-Compare.is)))

pub term_value-returns-in-Sum-clause-value : goal.term_value-returns-in-Sum-clause-value
term_value-returns-in-Sum-clause-value t c = c.value_of_sum.ensures.value ∙ (at_both (λ e f. of_two (term_value c.args.mem.now.abi (memory c.args.mem.now) c.args.act OfPointer e) (term_value c.args.mem.now.abi (memory c.args.mem.now) c.args.act (OfKind c.in-Sum.kind) f) (λ v i. pointer_for c.args.s (pointer_sum (memory c.args.mem.now) v i c.in-Sum.size))) c.deref-in-Sum.ensures c.deref-in-Sum-2.ensures ∙ ap (term_value c.args.mem.now.abi (memory c.args.mem.now) c.args.act c.args.s) (sym c.in-Sum.is))

pub term_value-returns-in-Less-clause-value : goal.term_value-returns-in-Less-clause-value
term_value-returns-in-Less-clause-value t c = c.value_of_less.ensures.value ∙ (at_both (λ e f. of_two (term_value c.args.mem.now.abi (memory c.args.mem.now) c.args.act OfPointer e) (term_value c.args.mem.now.abi (memory c.args.mem.now) c.args.act (OfKind c.in-Less.kind) f) (λ v i. pointer_for c.args.s (pointer_less (memory c.args.mem.now) v i c.in-Less.size))) c.deref-in-Less.ensures c.deref-in-Less-2.ensures ∙ ap (term_value c.args.mem.now.abi (memory c.args.mem.now) c.args.act c.args.s) (sym c.in-Less.is))

pub term_value-returns-in-Difference-clause-value : goal.term_value-returns-in-Difference-clause-value
term_value-returns-in-Difference-clause-value t c = c.value_of_difference.ensures.value ∙ (at_both (λ e f. of_two (term_value c.args.mem.now.abi (memory c.args.mem.now) c.args.act OfPointer e) (term_value c.args.mem.now.abi (memory c.args.mem.now) c.args.act OfPointer f) (λ v w. difference_at c.args.mem.now.abi c.args.s (memory c.args.mem.now) v w c.in-Difference.size)) c.deref-in-Difference.ensures c.deref-in-Difference-2.ensures ∙ ap (term_value c.args.mem.now.abi (memory c.args.mem.now) c.args.act c.args.s) (sym c.in-Difference.is))

pub term_value-returns-in-Relation-clause-value : goal.term_value-returns-in-Relation-clause-value
term_value-returns-in-Relation-clause-value t c = c.value_of_relation.ensures.value ∙ (at_both (λ e f. of_two (term_value c.args.mem.now.abi (memory c.args.mem.now) c.args.act OfPointer e) (term_value c.args.mem.now.abi (memory c.args.mem.now) c.args.act OfPointer f) (λ v w. told_from c.args.mem.now.abi c.args.s (compared (memory c.args.mem.now) c.in-Relation.op v w))) c.deref-in-Relation.ensures c.deref-in-Relation-2.ensures ∙ ap (term_value c.args.mem.now.abi (memory c.args.mem.now) c.args.act c.args.s) (sym c.in-Relation.is))

pub term_value-returns-in-Convert-clause-value : goal.term_value-returns-in-Convert-clause-value
term_value-returns-in-Convert-clause-value t c = c.value_of_conversion.ensures.value ∙ (ap (λ e. of_one (term_value c.args.mem.now.abi (memory c.args.mem.now) c.args.act c.in-Convert.from e) (λ v. Some (converted c.args.mem.now.abi c.args.s v))) c.deref-in-Convert.ensures ∙ ap (term_value c.args.mem.now.abi (memory c.args.mem.now) c.args.act c.args.s) (sym c.in-Convert.is))

pub term_number-returns-in-Not-clause-number : goal.term_number-returns-in-Not-clause-number
term_number-returns-in-Not-clause-number t c = c.number_of_not.ensures.number ∙ (number_negated c.args.mem.now.abi (memory c.args.mem.now) c.args.kind c.in-Not.of (term_value c.args.mem.now.abi (memory c.args.mem.now) c.args.act c.in-Not.of c.deref.result.now) ∙ (ap (λ e. number_of (of_one (term_value c.args.mem.now.abi (memory c.args.mem.now) c.args.act c.in-Not.of e) (λ v. told_from c.args.mem.now.abi (OfKind c.args.kind) (option_map not (truth (memory c.args.mem.now) c.in-Not.of v))))) c.deref.ensures ∙ ap (number_by c.args.mem.now.abi (memory c.args.mem.now) c.args.act c.args.kind) (sym c.in-Not.is)))

pub term_number-returns-in-Unary-clause-number : goal.term_number-returns-in-Unary-clause-number
term_number-returns-in-Unary-clause-number t c = c.number_of_unary.ensures.number ∙ (unary_number c.in-Unary.op c.args.kind (term_value c.args.mem.now.abi (memory c.args.mem.now) c.args.act (OfKind c.args.kind) c.deref-in-Unary.result.now) ∙ (ap (λ e. number_of (of_one (term_value c.args.mem.now.abi (memory c.args.mem.now) c.args.act (OfKind c.args.kind) e) (unary_at (OfKind c.args.kind) c.in-Unary.op))) c.deref-in-Unary.ensures ∙ ap (number_by c.args.mem.now.abi (memory c.args.mem.now) c.args.act c.args.kind) (sym c.in-Unary.is)))

pub term_number-returns-in-Arithmetic-clause-number : goal.term_number-returns-in-Arithmetic-clause-number
term_number-returns-in-Arithmetic-clause-number t c = c.number_of_arithmetic.ensures.number ∙ (arithmetic_number c.in-Arithmetic.op c.args.kind (term_value c.args.mem.now.abi (memory c.args.mem.now) c.args.act (OfKind c.args.kind) c.deref-in-Arithmetic.result.now) (term_value c.args.mem.now.abi (memory c.args.mem.now) c.args.act (OfKind c.args.kind) c.deref-in-Arithmetic-2.result.now) ∙ (at_both (λ e f. number_of (of_two (term_value c.args.mem.now.abi (memory c.args.mem.now) c.args.act (OfKind c.args.kind) e) (term_value c.args.mem.now.abi (memory c.args.mem.now) c.args.act (OfKind c.args.kind) f) (arithmetic_at (OfKind c.args.kind) c.in-Arithmetic.op))) c.deref-in-Arithmetic.ensures c.deref-in-Arithmetic-2.ensures ∙ ap (number_by c.args.mem.now.abi (memory c.args.mem.now) c.args.act c.args.kind) (sym c.in-Arithmetic.is)))

pub term_number-returns-in-Shift-clause-number : goal.term_number-returns-in-Shift-clause-number
term_number-returns-in-Shift-clause-number t c = c.number_of_shift.ensures.number ∙ (shift_number c.in-Shift.left c.args.kind (term_value c.args.mem.now.abi (memory c.args.mem.now) c.args.act (OfKind c.args.kind) c.deref-in-Shift.result.now) (term_value c.args.mem.now.abi (memory c.args.mem.now) c.args.act (OfKind c.in-Shift.by) c.deref-in-Shift-2.result.now) ∙ (at_both (λ e f. number_of (of_two (term_value c.args.mem.now.abi (memory c.args.mem.now) c.args.act (OfKind c.args.kind) e) (term_value c.args.mem.now.abi (memory c.args.mem.now) c.args.act (OfKind c.in-Shift.by) f) (shifted_at (OfKind c.args.kind) c.in-Shift.left))) c.deref-in-Shift.ensures c.deref-in-Shift-2.ensures ∙ ap (number_by c.args.mem.now.abi (memory c.args.mem.now) c.args.act c.args.kind) (sym c.in-Shift.is)))

pub term_number-returns-in-Compare-clause-number : goal.term_number-returns-in-Compare-clause-number
term_number-returns-in-Compare-clause-number t c = c.number_of_compare.ensures.number ∙ (number_compared c.args.mem.now.abi c.args.kind c.in-Compare.op c.in-Compare.of (term_value c.args.mem.now.abi (memory c.args.mem.now) c.args.act (OfKind c.in-Compare.of) c.deref-in-Compare.result.now) (term_value c.args.mem.now.abi (memory c.args.mem.now) c.args.act (OfKind c.in-Compare.of) c.deref-in-Compare-2.result.now) ∙ (at_both (λ e f. number_of (of_two (term_value c.args.mem.now.abi (memory c.args.mem.now) c.args.act (OfKind c.in-Compare.of) e) (term_value c.args.mem.now.abi (memory c.args.mem.now) c.args.act (OfKind c.in-Compare.of) f) (λ v w. number_from c.args.mem.now.abi (OfKind c.args.kind) (compared_number c.in-Compare.op c.in-Compare.of v w)))) c.deref-in-Compare.ensures c.deref-in-Compare-2.ensures ∙ ap (number_by c.args.mem.now.abi (memory c.args.mem.now) c.args.act c.args.kind) (sym c.in-Compare.is)))

pub term_number-returns-in-Difference-clause-number : goal.term_number-returns-in-Difference-clause-number
term_number-returns-in-Difference-clause-number t c = c.number_of_difference.ensures.number ∙ (at_both (λ e f. number_of (of_two (term_value c.args.mem.now.abi (memory c.args.mem.now) c.args.act OfPointer e) (term_value c.args.mem.now.abi (memory c.args.mem.now) c.args.act OfPointer f) (λ v w. difference_at c.args.mem.now.abi (OfKind c.args.kind) (memory c.args.mem.now) v w c.in-Difference.size))) c.deref-in-Difference.ensures c.deref-in-Difference-2.ensures ∙ ap (number_by c.args.mem.now.abi (memory c.args.mem.now) c.args.act c.args.kind) (sym c.in-Difference.is))

pub term_number-returns-in-Relation-clause-number : goal.term_number-returns-in-Relation-clause-number
term_number-returns-in-Relation-clause-number t c = c.number_of_relation.ensures.number ∙ (at_both (λ e f. number_of (of_two (term_value c.args.mem.now.abi (memory c.args.mem.now) c.args.act OfPointer e) (term_value c.args.mem.now.abi (memory c.args.mem.now) c.args.act OfPointer f) (λ v w. told_from c.args.mem.now.abi (OfKind c.args.kind) (compared (memory c.args.mem.now) c.in-Relation.op v w)))) c.deref-in-Relation.ensures c.deref-in-Relation-2.ensures ∙ ap (number_by c.args.mem.now.abi (memory c.args.mem.now) c.args.act c.args.kind) (sym c.in-Relation.is))

pub term_number-returns-in-Convert-clause-number : goal.term_number-returns-in-Convert-clause-number
term_number-returns-in-Convert-clause-number t c = c.number_of_conversion.ensures.number ∙ (ap (λ e. number_of (of_one (term_value c.args.mem.now.abi (memory c.args.mem.now) c.args.act c.in-Convert.from e) (λ v. Some (converted c.args.mem.now.abi (OfKind c.args.kind) v)))) c.deref-in-Convert.ensures ∙ ap (number_by c.args.mem.now.abi (memory c.args.mem.now) c.args.act c.args.kind) (sym c.in-Convert.is))

pub term_value-returns-in-Arithmetic-clause-value : goal.term_value-returns-in-Arithmetic-clause-value
term_value-returns-in-Arithmetic-clause-value t c = c.value_of_number-in-Arithmetic.ensures.value ∙ (ap (λ t. as_number c.args.s (term_value c.args.mem.now.abi (memory c.args.mem.now) c.args.act c.args.s t)) c.in-Arithmetic.is ∙ (arithmetic_whole c.args.s c.in-Arithmetic.field-0 (term_value c.args.mem.now.abi (memory c.args.mem.now) c.args.act c.args.s c.in-Arithmetic.field-1.value) (term_value c.args.mem.now.abi (memory c.args.mem.now) c.args.act c.args.s c.in-Arithmetic.field-2.value) ∙ ap (term_value c.args.mem.now.abi (memory c.args.mem.now) c.args.act c.args.s) (sym c.in-Arithmetic.is)))

pub number_of_conversion-returns-in-Int-clause-number : goal.number_of_conversion-returns-in-Int-clause-number
number_of_conversion-returns-in-Int-clause-number t c = c.number_of_number.ensures.number ∙ (number_converted c.args.mem.now.abi c.args.kind c.in-Int.of (term_value c.args.mem.now.abi (memory c.args.mem.now) c.args.act (OfKind c.in-Int.of) c.args.e.now) (sym c.is_boolean.ensures ∙ c.if-is_boolean.false) ∙ ap (λ s. number_of (of_one (term_value c.args.mem.now.abi (memory c.args.mem.now) c.args.act s c.args.e.now) (λ v. Some (converted c.args.mem.now.abi (OfKind c.args.kind) v)))) (sym c.in-Int.is))

pub spot_place-returns-in-Member-clause-place : goal.spot_place-returns-in-Member-clause-place
spot_place-returns-in-Member-clause-place t c = c.place_of_member.ensures.value ∙ (ap (λ e. of_one (spot_place c.args.mem.now.abi (memory c.args.mem.now) c.args.act e) (λ v. member_place (memory c.args.mem.now) v c.in-Member.offset)) c.deref-in-Member.ensures ∙ ap (spot_place c.args.mem.now.abi (memory c.args.mem.now) c.args.act) (sym c.in-Member.is))

pub spot_place-returns-in-Element-clause-place : goal.spot_place-returns-in-Element-clause-place
spot_place-returns-in-Element-clause-place t c = c.place_of_element.ensures.value ∙ (at_both (λ e f. of_two (spot_place c.args.mem.now.abi (memory c.args.mem.now) c.args.act e) (term_value c.args.mem.now.abi (memory c.args.mem.now) c.args.act (OfKind c.in-Element.kind) f) (λ v i. element_place (memory c.args.mem.now) v i c.in-Element.size)) c.deref-in-Element.ensures c.deref-in-Element-2.ensures ∙ ap (spot_place c.args.mem.now.abi (memory c.args.mem.now) c.args.act) (sym c.in-Element.is))
