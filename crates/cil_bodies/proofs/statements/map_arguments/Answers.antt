use Rattle.std.proofs.Common.{subst, arith}
use Rattle.cil_bodies.specs.Maps.{MapsExp}
use Rattle.cil_bodies.proofs.StatementLaws.{exps_map}
use Rattle.cil_bodies.proofs.Replaced.{replaced_start, replaced_next}
use Rattle.cil_bodies.proofs.statements.map_arguments.Goals as goal

pub loop-i-init : goal.loop-i-init
loop-i-init c = replaced_start (MapsExp c.args.m.now) c.args.arguments.now.items

pub loop-i-preserved : goal.loop-i-preserved
loop-i-preserved c =
    replaced_next (MapsExp c.args.m.now) c.loop-i.i c.args.arguments.now.items c.loop-i.arguments.items c.index_mut.result.now c.map_exp.new.e (omega (arith, c.loop-i-test.true, c.len-i-end.ensures)) c.loop-i.invariant
    (subst (λ x. MapsExp c.args.m.now x c.map_exp.new.e) c.index_mut.ensures.value c.in_ok-map_exp.ensures)

pub returns : goal.returns
returns c = exps_map c.args.m.now c.loop-i.i c.args.arguments.now.items c.loop-i.arguments.items (omega (arith, c.loop-i-test.false, c.len-i-end.ensures)) c.loop-i.invariant
