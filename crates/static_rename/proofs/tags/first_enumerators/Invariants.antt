use Rattle.std.proofs.Common.{◌≡◌, map, take}
use Rattle.static_rename.specs.Tags.{members_at}
use Rattle.static_rename.specs.Tagging.{lists}
use Rattle.static_rename.proofs.tags.first_enumerators.Given as goal

abbrev pub invariant-loop-k : goal.invariant-loop-k
invariant-loop-k l = lists l.all.items ≡ map (λ at. map (λ m. m.name) (members_at l.units at)) (take l.k l.stands)
