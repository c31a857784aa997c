use Rattle.std.proofs.Common.{◌≡◌, drop}
use Rattle.static_rename.specs.Tags.{given_in}
use Rattle.static_rename.specs.Tagging.{lists, with_things}
use Rattle.static_rename.proofs.tags.put_things.Given as goal

abbrev pub invariant-loop-i : goal.invariant-loop-i
invariant-loop-i l =
    with_things l.classes (given_in l.u.0 (drop l.i l.filed.things.items) (drop l.i l.filed.names.items)) (lists l.all.items) ≡ with_things l.classes (given_in l.u.0 l.filed.things.items l.filed.names.items) (lists l.fn.all.items)
