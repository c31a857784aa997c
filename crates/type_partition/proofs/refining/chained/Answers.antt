use Rattle.std.proofs.Common.{length}
use Rattle.type_partition.specs.Keys.{num_at}
use Rattle.type_partition.proofs.RefineLaws.{below_start, below_next, chain_start, chain_more, chain_end, grown_on}
use Rattle.type_partition.proofs.refining.chained.Goals as goal

pub loop-k-init : goal.loop-k-init
loop-k-init c = record {
  distinct = c.in_ok-n.ensures.distinct;
  grown = c.in_ok-n.ensures.grown;
  below = below_start (length c.args.numbers.now) c.args.parts.now;
  chain = chain_start c.number.new.keys.keys c.args.head (num_at c.args.numbers.now) c.args.parts.now c.in_ok-n.n c.in_ok-n.ensures.there;
}

pub loop-k-preserved : goal.loop-k-preserved
loop-k-preserved c = record {
  distinct = c.in_ok-n-2.ensures.distinct;
  grown = grown_on c.args.keys.now.keys c.loop-k.keys.keys c.number-in-loop-k.new.keys.keys c.loop-k.invariant.grown c.in_ok-n-2.ensures.grown;
  below = below_next c.args.parts.now c.loop-k.k (length c.args.numbers.now) _ c.loop-k-test.true c.in_ok-at.ensures.within c.loop-k.invariant.below;
  chain = chain_more c.loop-k.keys.keys c.number-in-loop-k.new.keys.keys c.args.head c.args.numbers.now c.args.parts.now c.loop-k.k c.loop-k.n c.in_ok-n-2.n c.in_ok-at.field-0 _ c.loop-k-test.true c.in_ok-n-2.ensures.grown c.in_ok-at.ensures.is c.in_ok-n-2.ensures.there c.loop-k.invariant.chain;
}

pub returns-clause-chain : goal.returns-clause-chain
returns-clause-chain c = chain_end c.loop-k.keys.keys c.args.head (num_at c.args.numbers.now) c.args.parts.now c.loop-k.k c.loop-k.n c.loop-k-test.false c.loop-k.invariant.chain
