use Rattle.std.proofs.Common.{◌∙◌, refl, arith}
use Rattle.cil_turns.specs.declared.runs.Turn.TheVariants.{On}
use Rattle.cil_turns.specs.Standing.{from_stand}
use Rattle.cil_turns.proofs.Finishing.{arrives_first, arrives_on, finishes_behind}
use Rattle.cil_turns.proofs.running.run_on.Goals as goal

pub loop-y-init : goal.loop-y-init
loop-y-init g c = record {
  arrives = arrives_first c.args.table.now c.args.run.now c.args.start c.requires _ _;
  less = omega arith;
  reads = refl;
  writes = refl;
}

pub loop-y-preserved : goal.loop-y-preserved
loop-y-preserved g c = record {
  arrives =
      arrives_on c.args.table.now (from_stand c.args.table.now c.args.run.now c.args.start) c.args.run.now c.loop-y.run c.turn.new.run c.loop-y.x (On c.in-On.y) _ _ _ _ _ _ c.loop-y.invariant.arrives c.in-On.ensures.turned;
  less = omega (arith, c.loop-y.invariant.less, c.in-On.ensures.left);
  reads = c.in-On.ensures.reads ∙ c.loop-y.invariant.reads;
  writes = c.in-On.ensures.writes ∙ c.loop-y.invariant.writes;
}

pub returns-in-Stopped-clause-finishes : goal.returns-in-Stopped-clause-finishes
returns-in-Stopped-clause-finishes g c =
    finishes_behind c.args.table.now (from_stand c.args.table.now c.args.run.now c.args.start) c.args.run.now c.loop-y.run c.turn.new.run c.loop-y.x c.in-Stopped.end _ _ _ _ _ _ c.loop-y.invariant.arrives c.in-Stopped.ensures.turned
