use Rattle.std.proofs.Common.{subst, arith}
use Rattle.cil_bodies.specs.Maps.{MapsLocal}
use Rattle.cil_bodies.proofs.DefinitionLaws.{locals_map}
use Rattle.cil_bodies.proofs.Replaced.{replaced_start, replaced_next}
use Rattle.cil_bodies.proofs.definitions.map_locals.Goals as goal

pub loop-i-init : goal.loop-i-init
loop-i-init c = replaced_start (MapsLocal c.args.m.now) c.args.locals.now.items

pub loop-i-preserved : goal.loop-i-preserved
loop-i-preserved c =
    replaced_next (MapsLocal c.args.m.now) c.loop-i.i c.args.locals.now.items c.loop-i.locals.items c.index_mut.result.now c.map_local.new.local (omega (arith, c.loop-i-test.true, c.len-i-end.ensures)) c.loop-i.invariant
    (subst (λ x. MapsLocal c.args.m.now x c.map_local.new.local) c.index_mut.ensures.value c.in_ok-map_local.ensures)

pub returns : goal.returns
returns c = locals_map c.args.m.now c.loop-i.i c.args.locals.now.items c.loop-i.locals.items (omega (arith, c.loop-i-test.false, c.len-i-end.ensures)) c.loop-i.invariant
