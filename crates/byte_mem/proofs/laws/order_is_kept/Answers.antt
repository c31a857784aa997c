use Rattle.byte_mem.proofs.BelowLemmas.{make_below, make_function_below, end_below, end_first_below, protect_below, protect_first_below, second_alone_below, load_below, load_bytes_below, store_below, store_bytes_below, fill_below, converted_below, place_below, truth_below, compared_below, pointer_sum_below, pointer_less_below, pointer_difference_below, member_below, computed_below, unary_below}
use Rattle.byte_mem.proofs.laws.order_is_kept.Goals as goal

pub returns : goal.returns
returns c = record {
  memory = λ f o. record {
    make = make_below f o;
    make_function = make_function_below f o;
    end = end_below f o;
    end_first = end_first_below f;
    protect = protect_below f o;
    protect_first = protect_first_below f;
    second_alone = second_alone_below f;
    load = load_below f o;
    load_bytes = load_bytes_below f;
    store = store_below f o;
    store_bytes = store_bytes_below f o;
    fill = fill_below f o;
  };
  operators = λ f o. record {
    convert = converted_below f;
    place = place_below f;
    truth = truth_below f;
    compare = compared_below f o;
    sum = pointer_sum_below f;
    less = pointer_less_below f;
    difference = pointer_difference_below f o;
    member = member_below f;
    compute = computed_below f;
    compute_unary = unary_below f;
  };
}
