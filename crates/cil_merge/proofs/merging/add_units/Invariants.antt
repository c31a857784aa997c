use Rattle.std.proofs.Common.{◌≡◌, map}
use Rattle.cil_merge.specs.Listing.{mark}
use Rattle.cil_merge.specs.Numbering.{GainsTypes}
use Rattle.cil_merge.proofs.merging.add_units.Given as goal

abbrev pub invariant-loop-unit : goal.invariant-loop-unit
invariant-loop-unit l = (map mark l.all.items ≡ map mark l.fn.all.items) × GainsTypes l.fn.arena.graph l.arena.graph
