use Rattle.std.proofs.Common.{◌≡◌}
use Rattle.static_rename.specs.Tags.{IsTagged}
use Rattle.static_rename.specs.Tagging.{named_by}
use Rattle.static_rename.proofs.EachLaws.{UpTo}
use Rattle.static_rename.proofs.types.rename_aggregates.Given as goal

abbrev pub invariant-loop-a : goal.invariant-loop-a
invariant-loop-a l = UpTo (IsTagged (named_by l.t) l.u.0) l.a l.fn.g.aggs l.g.aggs × (l.g ≡ record l.fn.g { aggs = l.g.aggs })
