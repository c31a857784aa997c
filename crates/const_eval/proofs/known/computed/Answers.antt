use Rattle.std.proofs.Common.{rules}
use Rattle.const_eval.proofs.KnownLaws.{computed_is}
use Rattle.const_eval.proofs.known.computed.Goals as goal

-- what the operator gives is a value of its kind
pub of_kind-requires : goal.of_kind-requires
of_kind-requires c = computed_is c.args.op c.args.kind c.result_kind.result c.args.a c.right_operand.result c.arith.result c.result_kind.ensures (search rules) c.requires
