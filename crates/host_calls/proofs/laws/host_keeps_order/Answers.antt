use Rattle.host_calls.proofs.BelowLemmas.{host_below}
use Rattle.host_calls.proofs.laws.host_keeps_order.Goals as goal

pub returns : goal.returns
returns c = record {
  monotone = host_below;
  indifferent = λ f g o p k l abi name wanted args more s t a b r q. (host_below f o k abi name wanted args more s t a r, host_below g p l abi name wanted more args t s b q);
}
