use Rattle.std.proofs.Common.{None}
use Rattle.cil_turns.specs.Standing.{from_first}
use Rattle.cil_turns.proofs.Finishing.{finishes_behind}
use Rattle.cil_turns.proofs.running.run_function.Goals as goal

pub run_on-requires : goal.run_on-requires
run_on-requires g c = (c.in-On.ensures.turned c.args.table.now c.requires None None).stands

pub returns-in-On-clause-finishes : goal.returns-in-On-clause-finishes
returns-in-On-clause-finishes g c =
    finishes_behind c.args.table.now (from_first c.args.call.now) c.args.run.now c.call_first.new.run c.run_on.new.run c.in-On.x c.run_on.result _ _ _ _ _ _ (c.in-On.ensures.turned c.args.table.now c.requires _ _) c.run_on.ensures.finishes
