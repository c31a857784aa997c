use Rattle.std.proofs.Common.{◌≡◌, ◌+◌, suc, map, drop, get_or, arith, sym, ◌∙◌, subst, ℕ}
use Rattle.cil_base.specs.declared.numbers.NameId.{NameId}
use Rattle.cil_base.specs.declared.numbers.TypeId.{TypeId}
use Rattle.cil_tree.specs.declared.globals.Local.{Local}
use Rattle.type_graph.specs.Shapes.{shape, shapes_of}
use Rattle.cil_tree.specs.View.{text_at, local_of}
use Rattle.cil_tree.specs.Bodies.{parameters_fit}
use Rattle.cil_check.specs.Statements.{parameter_is}
use Rattle.cil_check.proofs.BodySteps.{parameter_next, failed, passed}
use Rattle.cil_check.proofs.bodies.are_parameters.Goals as goal

pub returns-then-not-parameter_fits : goal.returns-then-not-parameter_fits
returns-then-not-parameter_fits c =
    let nodes = c.args.s.now.unit.now.graph.nodes in
    let texts = c.args.s.now.names.now in
    let i : ℕ = c.loop-i.i in
    let t : TypeId = record { 0 = 0 } in
    let n : NameId = record { 0 = 0 } in
    let l : Local = record { name = n; ty = t } in
    let from = λ (k : ℕ). parameters_fit (shapes_of (shape nodes) (drop k c.args.params.now)) (map (text_at texts) (drop k c.args.names.now)) (map (local_of nodes texts) (drop k c.args.locals.now)) in
    failed (from 0) (from i) (parameter_is nodes texts (get_or c.args.locals.now i l) (get_or c.args.names.now i n) (shape nodes (get_or c.args.params.now i t).0)) (from (suc i)) c.loop-i.invariant.2
    (parameter_next nodes texts (shape nodes) c.args.params.now c.args.names.now c.args.locals.now i t n l c.loop-i-test.true c.if-i-names.false c.if-i-locals.false) (sym c.parameter_fits.ensures ∙ c.if-not-parameter_fits.true)

pub loop-i-preserved : goal.loop-i-preserved
loop-i-preserved c =
    let nodes = c.args.s.now.unit.now.graph.nodes in
    let texts = c.args.s.now.names.now in
    let i : ℕ = c.loop-i.i in
    let t : TypeId = record { 0 = 0 } in
    let n : NameId = record { 0 = 0 } in
    let l : Local = record { name = n; ty = t } in
    let from = λ (k : ℕ). parameters_fit (shapes_of (shape nodes) (drop k c.args.params.now)) (map (text_at texts) (drop k c.args.names.now)) (map (local_of nodes texts) (drop k c.args.locals.now)) in
    let next : suc i ≡ i + 1 = omega arith in (
      omega arith,
      omega arith,
      subst (λ (k : ℕ). from k ≡ from 0) next
          (passed (from 0) (from i) (parameter_is nodes texts (get_or c.args.locals.now i l) (get_or c.args.names.now i n) (shape nodes (get_or c.args.params.now i t).0)) (from (suc i)) c.loop-i.invariant.2
          (parameter_next nodes texts (shape nodes) c.args.params.now c.args.names.now c.args.locals.now i t n l c.loop-i-test.true c.if-i-names.false c.if-i-locals.false) (sym c.parameter_fits.ensures ∙ c.if-not-parameter_fits.false)),
    )
