use Rattle.std.proofs.Common.{rules, ◌≡◌, true}
use Rattle.cil_check.specs.Rules.{node_fits_at}
use Rattle.cil_check.proofs.TypeSteps.{one_more}
use Rattle.cil_check.proofs.nodes.nodes_fit.Goals as goal

pub loop-t-preserved : goal.loop-t-preserved
loop-t-preserved c =
    let e : node_fits_at c.args.g.now c.loop-t.t ≡ true = search rules in
    one_more (node_fits_at c.args.g.now) c.loop-t.t c.loop-t.invariant e
