use Rattle.std.proofs.Common.{map}
use Rattle.std.specs.String.{string_bytes}
use Rattle.cil_base.specs.NamePool.{Stays}
use Rattle.unit_merger.specs.Units.{AreGrammatical}
use Rattle.unit_merger.specs.Linking.{AreFronted}
use Rattle.unit_merger.proofs.merger.fronted.Given as goal

abbrev pub invariant-loop-i : goal.invariant-loop-i
invariant-loop-i l = AreGrammatical l.units (map string_bytes l.files) l.i × AreFronted l.units (map string_bytes l.files) l.names l.i l.done.items × Stays l.fn.names l.names
