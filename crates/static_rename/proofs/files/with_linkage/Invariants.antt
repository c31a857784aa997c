use Rattle.std.proofs.Common.{take}
use Rattle.static_rename.specs.Filing.{AreLinked}
use Rattle.static_rename.proofs.files.with_linkage.Given as goal

abbrev pub invariant-loop-i : goal.invariant-loop-i
invariant-loop-i l = AreLinked l.all.keys (take l.i l.ordinary)
