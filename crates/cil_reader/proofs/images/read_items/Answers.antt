use Rattle.std.proofs.Common.{◌≡◌, ◌<◌, map, Err, ◌∙◌, rules}
use Rattle.cil_tree.specs.View.{item_of}
use Rattle.cil_scan.specs.Said.{all_said}
use Rattle.cil_reader.specs.Settings.{env_in}
use Rattle.cil_reader.proofs.OnwardLaws.{onward_twice}
use Rattle.cil_reader.proofs.ImageLaws.{items_closed, items_next, items_stop}
use Rattle.cil_reader.proofs.images.read_items.Goals as goal

pub returns-in_err-items-clause-gives : goal.returns-in_err-items-clause-gives
returns-in_err-items-clause-gives c =
    let inv = c.loop-step.invariant in
    let less : c.loop-step.step < c.args.left = search rules in
    let stops = items_stop c.args.r.now.graph c.loop-step.r.graph (env_in c.args.r.now) (env_in c.loop-step.r) c.args.left c.args.left c.loop-step.step c.args.ty (map item_of c.loop-step.items.all.items) (all_said c.loop-step.items.rest.now) _ c.in_err-items.field-0.0 less inv.0.grows c.requires inv.0.env
    c.in_err-items.ensures.gives inv.1 in
    let err : c.from_residual.result ≡ Err c.in_err-items.field-0.0 = search rules in
    rw err stops

pub returns-then-items-clause-gives : goal.returns-then-items-clause-gives
returns-then-items-clause-gives c =
    let inv = c.loop-step.invariant in
    let less : c.loop-step.step < c.args.left = search rules in
    items_closed c.args.r.now.graph c.loop-step.r.graph (env_in c.args.r.now) (env_in c.loop-step.r) c.args.left c.args.left c.loop-step.step c.args.ty (map item_of c.loop-step.items.all.items) (map item_of c.in_ok-items.items.all.items) c.in_ok-items.items.closed
    (all_said c.loop-step.items.rest.now) (all_said c.in_ok-items.items.rest.now) _ less inv.0.grows c.requires inv.0.env c.in_ok-items.ensures.gives c.if-items.true inv.1

pub loop-step-preserved : goal.loop-step-preserved
loop-step-preserved c =
    let inv = c.loop-step.invariant in
    let less : c.loop-step.step < c.args.left = search rules in (
      onward_twice c.args.r.now c.loop-step.r c.one_item.new.r inv.0 c.one_item.ensures.on,
      items_next c.args.r.now.graph c.loop-step.r.graph (env_in c.args.r.now) (env_in c.loop-step.r) c.args.left c.args.left c.loop-step.step c.args.ty (map item_of c.loop-step.items.all.items) (map item_of c.in_ok-items.items.all.items) c.in_ok-items.items.closed
          (all_said c.loop-step.items.rest.now) (all_said c.in_ok-items.items.rest.now) _ less inv.0.grows c.requires inv.0.env c.in_ok-items.ensures.gives c.if-items.false inv.1,
      c.in_ok-items.ensures.same ∙ inv.2,
    )
