use Rattle.std.proofs.Common.{◌<◌, length, min, arith}
use Rattle.type_graph.specs.Shapes.{shape, shapes_of}
use Rattle.cil_text.specs.ReadGlobals.{param_locals}
use Rattle.cil_reader.specs.Settings.{locals_of}
use Rattle.cil_reader.specs.Bodies.{texts_of}
use Rattle.cil_reader.proofs.BodyLaws.{apart_more, params_next}
use Rattle.cil_reader.proofs.PoolLaws.{pool_twice}
use Rattle.cil_reader.proofs.bodies.param_locals.Goals as goal

pub loop-i-preserved : goal.loop-i-preserved
loop-i-preserved c =
    let nodes = c.args.r.now.graph.nodes in
    let ls = locals_of nodes c.loop-i.locals.names in
    let ms = locals_of nodes c.in_ok-locals.locals.names in
    let less : c.loop-i.i < min (length c.params-types.result.now) (length c.args.texts.now) = omega (arith, c.min-i-end.ensures) in (
      c.in_ok-locals.ensures.known,
      pool_twice c.args.pool.now c.loop-i.pool c.with_local.new.pool c.loop-i.invariant.1 c.with_local.ensures.pool,
      apart_more ls ms _ c.loop-i.invariant.2 c.in_ok-locals.ensures.gives,
      params_next nodes c.params-types.result.now c.args.texts.now c.loop-i.i _ _ ls ms (param_locals (shapes_of (shape nodes) c.params-types.result.now) (texts_of c.args.texts.now)) less c.loop-i.invariant.3 c.in_ok-locals.ensures.gives,
    )
