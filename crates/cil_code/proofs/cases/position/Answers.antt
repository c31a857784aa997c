use Rattle.std.proofs.Common.{rules}
use Rattle.std.specs.Prelude.{int_lt}
use Rattle.std.proofs.lemmas.List.Sorted.{IsPartitionPoint-from_clause}
use Rattle.cil_code.proofs.CaseLemmas.{parted}
use Rattle.cil_code.proofs.cases.position.Goals as goal

pub returns : goal.returns
returns c = IsPartitionPoint-from_clause (λ x. int_lt x.0 c.args.v) _ _ c.partition_point.ensures.partitioned (parted c.args.v _ c.requires) (λ a r q k. search rules)
