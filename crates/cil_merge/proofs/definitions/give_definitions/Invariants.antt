use Rattle.std.proofs.Common.{◌≡◌, map}
use Rattle.cil_merge.specs.Listing.{mark}
use Rattle.cil_merge.proofs.definitions.give_definitions.Given as goal

abbrev pub invariant-loop-global : goal.invariant-loop-global
invariant-loop-global l = map mark l.all.items ≡ map mark l.fn.all.items
