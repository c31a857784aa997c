use Rattle.std.proofs.Common.{◌≡◌, ◌++◌, true, drop}
use Rattle.type_graph.specs.Shapes.{shape, shapes_of}
use Rattle.cil_text.specs.ReadGlobals.{param_locals}
use Rattle.cil_reader.specs.Settings.{locals_of}
use Rattle.cil_reader.specs.Pools.{KeepsNames}
use Rattle.cil_reader.specs.Bodies.{texts_of, apart, LocalsKnown}
use Rattle.cil_reader.proofs.bodies.param_locals.Given as goal

abbrev pub invariant-loop-i : goal.invariant-loop-i
invariant-loop-i l =
    let nodes = l.r.graph.nodes in
    LocalsKnown l.r.graph l.pool l.locals × KeepsNames l.fn.pool l.pool × (apart (locals_of nodes l.locals.names) ≡ true)
    × (locals_of nodes l.locals.names ++ param_locals (shapes_of (shape nodes) (drop l.i l.types)) (texts_of (drop l.i l.texts)) ≡ param_locals (shapes_of (shape nodes) l.types) (texts_of l.texts))
