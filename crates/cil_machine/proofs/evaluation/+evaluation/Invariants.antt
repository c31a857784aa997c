-- Measure: eight times the depth, more where what takes the same term is called, and most where operands are still to be evaluated.
use Rattle.std.proofs.Common.{◌+◌, ◌*◌, max}
use Rattle.cil_machine.specs.declared.terms.Term.{size-Term}
use Rattle.cil_machine.proofs.evaluation.+evaluation.Given as goal

abbrev pub decreases-term_number : goal.decreases-term_number
decreases-term_number l = 8 * goal.size-term_number l

abbrev pub decreases-value_of_number : goal.decreases-value_of_number
decreases-value_of_number l = 8 * goal.size-value_of_number l + 1

abbrev pub decreases-term_value : goal.decreases-term_value
decreases-term_value l = 8 * goal.size-term_value l + 2

abbrev pub decreases-is_some_number : goal.decreases-is_some_number
decreases-is_some_number l = 8 * goal.size-is_some_number l + 3

abbrev pub decreases-term_truth : goal.decreases-term_truth
decreases-term_truth l = 8 * goal.size-term_truth l + 4

abbrev pub decreases-spot_place : goal.decreases-spot_place
decreases-spot_place l = 8 * goal.size-spot_place l

abbrev pub decreases-place_pointer : goal.decreases-place_pointer
decreases-place_pointer l = 8 * goal.size-place_pointer l + 1

abbrev pub decreases-value_at : goal.decreases-value_at
decreases-value_at l = 8 * goal.size-value_at l + 5

abbrev pub decreases-number_at : goal.decreases-number_at
decreases-number_at l = 8 * goal.size-number_at l + 5

abbrev pub decreases-value_of_not : goal.decreases-value_of_not
decreases-value_of_not l = 8 * goal.size-value_of_not l + 5

abbrev pub decreases-number_of_not : goal.decreases-number_of_not
decreases-number_of_not l = 8 * goal.size-number_of_not l + 5

abbrev pub decreases-number_of_unary : goal.decreases-number_of_unary
decreases-number_of_unary l = 8 * goal.size-number_of_unary l + 5

abbrev pub decreases-value_of_conversion : goal.decreases-value_of_conversion
decreases-value_of_conversion l = 8 * goal.size-value_of_conversion l + 5

abbrev pub decreases-number_of_number : goal.decreases-number_of_number
decreases-number_of_number l = 8 * goal.size-number_of_number l + 5

abbrev pub decreases-place_pointed : goal.decreases-place_pointed
decreases-place_pointed l = 8 * goal.size-place_pointed l + 5

abbrev pub decreases-place_of_member : goal.decreases-place_of_member
decreases-place_of_member l = 8 * goal.size-place_of_member l + 5

abbrev pub decreases-number_of_any : goal.decreases-number_of_any
decreases-number_of_any l = 8 * goal.size-number_of_any l + 6

abbrev pub decreases-number_of_conversion : goal.decreases-number_of_conversion
decreases-number_of_conversion l = 8 * goal.size-number_of_conversion l + 7

abbrev pub decreases-number_of_arithmetic : goal.decreases-number_of_arithmetic
decreases-number_of_arithmetic l = 8 * max (goal.size-number_of_arithmetic l) (size-Term l.f.now) + 5

abbrev pub decreases-number_of_shift : goal.decreases-number_of_shift
decreases-number_of_shift l = 8 * max (goal.size-number_of_shift l) (size-Term l.f.now) + 5

abbrev pub decreases-value_of_sum : goal.decreases-value_of_sum
decreases-value_of_sum l = 8 * max (goal.size-value_of_sum l) (size-Term l.f.now) + 5

abbrev pub decreases-value_of_less : goal.decreases-value_of_less
decreases-value_of_less l = 8 * max (goal.size-value_of_less l) (size-Term l.f.now) + 5

abbrev pub decreases-value_of_difference : goal.decreases-value_of_difference
decreases-value_of_difference l = 8 * max (goal.size-value_of_difference l) (size-Term l.f.now) + 5

abbrev pub decreases-value_of_relation : goal.decreases-value_of_relation
decreases-value_of_relation l = 8 * max (goal.size-value_of_relation l) (size-Term l.f.now) + 5

abbrev pub decreases-number_of_compare : goal.decreases-number_of_compare
decreases-number_of_compare l = 8 * max (goal.size-number_of_compare l) (size-Term l.f.now) + 6

abbrev pub decreases-value_of_compare : goal.decreases-value_of_compare
decreases-value_of_compare l = 8 * max (goal.size-value_of_compare l) (size-Term l.f.now) + 6

abbrev pub decreases-number_of_difference : goal.decreases-number_of_difference
decreases-number_of_difference l = 8 * max (goal.size-number_of_difference l) (size-Term l.f.now) + 6

abbrev pub decreases-number_of_relation : goal.decreases-number_of_relation
decreases-number_of_relation l = 8 * max (goal.size-number_of_relation l) (size-Term l.f.now) + 6

abbrev pub decreases-place_of_element : goal.decreases-place_of_element
decreases-place_of_element l = 8 * max (goal.size-place_of_element l) (size-Term l.e.now) + 5
