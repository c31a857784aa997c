use Rattle.std.proofs.Common.{take}
use Rattle.cil_reader.specs.Pools.{KeepsNames}
use Rattle.cil_reader.specs.Bodies.{texts_of, TextsKnown}
use Rattle.cil_reader.proofs.bodies.numbers_of.Given as goal

abbrev pub invariant-loop-i : goal.invariant-loop-i
invariant-loop-i l = TextsKnown l.pool l.names.items (texts_of (take l.i l.texts)) × KeepsNames l.fn.pool l.pool
