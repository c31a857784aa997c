use Rattle.std.proofs.Common.{◌-◌, drop, length}
use Rattle.type_things.specs.Things.{read}
use Rattle.type_things.specs.Webs.{AllBelow}
use Rattle.type_partition.specs.Keys.{Distinct, Grown, Chain, num_at}
use Rattle.type_partition.proofs.refining.chained.Given as goal

abbrev pub invariant-loop-k : goal.invariant-loop-k
invariant-loop-k l = record {
  distinct : Distinct l.keys.keys;
  grown : Grown l.fn.keys.keys l.keys.keys;
  below : AllBelow (length l.numbers) (drop (length l.parts - l.k) l.parts);
  chain : Chain l.keys.keys l.fn.head (read (num_at l.numbers) (drop (length l.parts - l.k) l.parts)) l.n;
}
