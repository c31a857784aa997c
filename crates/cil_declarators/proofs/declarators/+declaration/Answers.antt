use Rattle.std.proofs.Common.{◌≡◌, ◌<◌, true, Err, sym, rules}
use Rattle.type_graph.specs.Shapes.{shape, shapes_of}
use Rattle.type_graph.proofs.ShapeLaws.{kept}
use Rattle.cil_text.specs.ReadTypes.{is_suffix}
use Rattle.cil_scan.specs.Said.{all_said}
use Rattle.cil_declarators.specs.Bases.{bases_in}
use Rattle.cil_declarators.specs.Layers.{marks_of, layer_of, read_parameter, is_another}
use Rattle.cil_declarators.proofs.ExtendsLaws.{extends_twice}
use Rattle.cil_declarators.proofs.LayersLaws.{tails_suffix, params_next, params_stop}
use Rattle.cil_declarators.proofs.AddedLaws.{suffix_added}
use Rattle.cil_declarators.proofs.declarators.+declaration.Goals as goal

pub tails-returns-clause-gives : goal.tails-returns-clause-gives
tails-returns-clause-gives t c =
    let suffixed : is_suffix (all_said c.args.words.now) ≡ true = search rules in
    let same : shape c.read_suffix.new.graph.nodes c.args.front.base.0 ≡ shape c.args.graph.now.nodes c.args.front.base.0 = kept c.args.graph.now c.read_suffix.new.graph c.args.front.base.0 c.read_suffix.ensures.on.grows c.requires.base in
    let e = tails_suffix (read_parameter (bases_in c.args.abi c.args.tags.now) c.args.left) c.args.steps (shape c.args.graph.now.nodes c.args.front.base.0) (marks_of c.args.front.marks.items) (all_said c.args.words.now) (all_said c.in_ok-suffix.rest.now)
    (layer_of c.read_suffix.new.graph.nodes c.in_ok-suffix.suffix) c.if-steps-eq0.false suffixed c.in_ok-suffix.ensures.gives in
    rw (e, sym same) c.behind_suffix.ensures.gives

pub tails-returns-clause-adds : goal.tails-returns-clause-adds
tails-returns-clause-adds t c = λ f ss adds. c.behind_suffix.ensures.adds f ss (suffix_added f c.args.graph.now c.read_suffix.new.graph c.args.front.base.0 c.in_ok-suffix.suffix ss c.read_suffix.ensures.on.grows c.requires.base adds c.in_ok-suffix.ensures.adds)

pub read_params-loop-turns-preserved : goal.read_params-loop-turns-preserved
read_params-loop-turns-preserved t c =
    let inv = c.loop-turns.invariant in
    let old = c.loop-turns.graph in
    let new = c.one_param.new.graph in
    let some : 0 < c.loop-turns.turns = search rules in
    let more : is_another c.loop-turns.params.follows ≡ true = search rules in (
      extends_twice c.args.graph.now old new inv.0 c.one_param.ensures.on,
      params_next (read_parameter (bases_in c.args.abi c.args.tags.now) c.args.left) c.loop-turns.turns c.loop-turns.params.follows c.in_ok-params.params.follows (shapes_of (shape old.nodes) c.loop-turns.params.types.items) (shapes_of (shape new.nodes) c.in_ok-params.params.types.items)
          (all_said c.loop-turns.params.rest.now) (all_said c.in_ok-params.params.rest.now) _ some more c.in_ok-params.ensures.gives inv.1,
      c.in_ok-params.ensures.there,
      c.in_ok-params.ensures.adds c.args.graph.now inv.3,
    )

pub read_params-returns-in_err-params-clause-gives : goal.read_params-returns-in_err-params-clause-gives
read_params-returns-in_err-params-clause-gives t c =
    let some : 0 < c.loop-turns.turns = search rules in
    let more : is_another c.loop-turns.params.follows ≡ true = search rules in
    let stops = params_stop (read_parameter (bases_in c.args.abi c.args.tags.now) c.args.left) c.loop-turns.turns c.loop-turns.params.follows (shapes_of (shape c.loop-turns.graph.nodes) c.loop-turns.params.types.items) (all_said c.loop-turns.params.rest.now) _ c.in_err-params.field-0.0 some more
    c.in_err-params.ensures.gives c.loop-turns.invariant.1 in
    let err : c.from_residual.result ≡ Err c.in_err-params.field-0.0 = search rules in
    rw err stops
