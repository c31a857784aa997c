use Rattle.std.proofs.Common.{◌≡◌, drop}
use Rattle.static_rename.specs.Tagging.{lists, with_things, given_filed}
use Rattle.static_rename.proofs.tags.put_all_things.Given as goal

abbrev pub invariant-loop-u : goal.invariant-loop-u
invariant-loop-u l = with_things l.classes (given_filed l.u (drop l.u l.filed)) (lists l.all.items) ≡ with_things l.classes (given_filed 0 l.filed) (lists l.fn.all.items)
