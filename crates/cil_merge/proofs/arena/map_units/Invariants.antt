use Rattle.std.proofs.Common.{map}
use Rattle.cil_merge.specs.Classes.{AreTypes}
use Rattle.cil_merge.specs.Numbering.{GainsTypes}
use Rattle.cil_merge.proofs.arena.map_units.Given as goal

abbrev pub invariant-loop-u : goal.invariant-loop-u
invariant-loop-u l = AreTypes l.classes l.units l.graph (map (λ v. v.items) l.all.items) l.u × GainsTypes l.fn.graph l.graph
