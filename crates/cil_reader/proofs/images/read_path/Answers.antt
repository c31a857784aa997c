use Rattle.std.proofs.Common.{◌≡◌, ◌<◌, false, Err, map, rules}
use Rattle.cil_tree.specs.View.{step_of}
use Rattle.cil_scan.specs.Said.{all_said}
use Rattle.cil_reader.specs.Settings.{env_in, type_in}
use Rattle.cil_reader.proofs.ImageLaws.{path_next, path_stop}
use Rattle.cil_reader.proofs.images.read_path.Goals as goal

pub loop-turns-preserved : goal.loop-turns-preserved
loop-turns-preserved c =
    let nodes = c.args.r.now.graph.nodes in
    let some : 0 < c.loop-turns.turns = search rules in
    let open_ : c.loop-turns.path.ended ≡ false = search rules in (
      c.in_ok-path.ensures.below,
      path_next (env_in c.args.r.now) c.loop-turns.turns c.loop-turns.path.ended c.in_ok-path.path.ended (map step_of c.loop-turns.path.steps.items) (map step_of c.in_ok-path.path.steps.items) (type_in nodes c.loop-turns.path.ty) (type_in nodes c.in_ok-path.path.ty)
          (all_said c.loop-turns.path.rest.now) (all_said c.in_ok-path.path.rest.now) _ some open_ c.in_ok-path.ensures.gives c.loop-turns.invariant.1,
    )

pub returns-in_err-path-clause-gives : goal.returns-in_err-path-clause-gives
returns-in_err-path-clause-gives c =
    let nodes = c.args.r.now.graph.nodes in
    let some : 0 < c.loop-turns.turns = search rules in
    let open_ : c.loop-turns.path.ended ≡ false = search rules in
    let stops = path_stop (env_in c.args.r.now) c.loop-turns.turns c.loop-turns.path.ended (map step_of c.loop-turns.path.steps.items) (type_in nodes c.loop-turns.path.ty) (all_said c.loop-turns.path.rest.now) _ c.in_err-path.field-0.0 some open_
    c.in_err-path.ensures.gives c.loop-turns.invariant.1 in
    let err : c.from_residual.result ≡ Err c.in_err-path.field-0.0 = search rules in
    rw err stops
