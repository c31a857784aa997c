use Rattle.cil_tree.specs.View.{stmts_of}
use Rattle.cil_check.specs.Seen.{seen_scope}
use Rattle.std.proofs.Common.{None}
use Rattle.cil_control.specs.Flat as flat
use Rattle.cil_code.proofs.StepMeanings.{leave_is}
use Rattle.cil_code.proofs.Loads.{load_done, loaded_leads, loaded_starts}
use Rattle.cil_code.proofs.loading.load.Goals as goal

pub returns : goal.returns
returns c =
    let steps =
    load_done (seen_scope c.args.s.now.scope) c.args.s.now.entities.now c.args.s.now.scope.unit.now.graph.nodes c.args.body.now c.deref.result.now c.add_labels.new.places.items c.new-labels.result.items c.new-code.result.items c.push_all.new.code.items c.push.new.code.items
    c.deref.ensures.value c.in_ok-add_labels.ensures.added c.new-labels.ensures.items c.new-code.ensures.items c.in_ok-push_all.ensures
    (c.in_ok-push.ensures (seen_scope c.args.s.now.scope) c.args.s.now.entities.now (flat.Leave None) (leave_is (seen_scope c.args.s.now.scope) c.args.s.now.entities.now)) in
    record {
      steps = steps;
      leads = loaded_leads (seen_scope c.args.s.now.scope) c.args.s.now.entities.now (stmts_of c.args.s.now.scope.unit.now.graph.nodes c.args.body.now) c.push.new.code.items steps;
      first = loaded_starts (seen_scope c.args.s.now.scope) c.args.s.now.entities.now (stmts_of c.args.s.now.scope.unit.now.graph.nodes c.args.body.now) c.push.new.code.items steps;
    }
