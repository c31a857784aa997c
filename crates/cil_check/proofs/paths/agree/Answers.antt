use Rattle.std.proofs.Common.{◌≡◌, ◌+◌, ℕ, suc, drop, map, ap, sym, ◌∙◌, subst, not, ◌||◌, arith}
use Rattle.type_graph.specs.Shapes.{Shape, shape}
use Rattle.cil_tree.specs.View.{step_of}
use Rattle.cil_tree.specs.Globals.{agree, is_union}
use Rattle.cil_check.specs.Paths.{or_void}
use Rattle.cil_check.proofs.PathLaws.{agree_next, agree_short, agree_apart, agree_along}
use Rattle.cil_check.proofs.paths.agree.Goals as goal

pub returns-then-i-other : goal.returns-then-i-other
returns-then-i-other c = sym (sym c.loop-i.invariant.1 ∙ agree_short c.args.g.now (or_void c.args.g.now c.loop-i.place) c.args.path.now c.args.other.now c.loop-i.i c.if-i-other.true)

pub returns-then-not-both_fields : goal.returns-then-not-both_fields
returns-then-not-both_fields c =
    agree_apart _ _ _ _ _ _ _ c.loop-i.invariant.1 (agree_next c.args.g.now (or_void c.args.g.now c.loop-i.place) c.args.path.now c.args.other.now c.loop-i.i _ _ c.loop-i-test.true c.if-i-other.false) (sym c.same_step.ensures ∙ c.if-not-same_step.true) (ap not c.if-not-both_fields.true ∙ ap (λ x. not x || not (is_union c.args.g.now (or_void c.args.g.now c.loop-i.place))) (sym (sym c.both_fields.ensures ∙ c.if-not-both_fields.true)))

pub returns-else-not-both_fields : goal.returns-else-not-both_fields
returns-else-not-both_fields c =
    agree_apart _ _ _ _ _ _ _ c.loop-i.invariant.1 (agree_next c.args.g.now (or_void c.args.g.now c.loop-i.place) c.args.path.now c.args.other.now c.loop-i.i _ _ c.loop-i-test.true c.if-i-other.false) (sym c.same_step.ensures ∙ c.if-not-same_step.true) (ap not c.is_union.ensures ∙ ap (λ x. not x || not (is_union c.args.g.now (or_void c.args.g.now c.loop-i.place))) (sym (sym c.both_fields.ensures ∙ c.if-not-both_fields.false)))

pub loop-i-preserved : goal.loop-i-preserved
loop-i-preserved c =
    let g = c.args.g.now in
    let i : ℕ = c.loop-i.i in
    let next : suc i ≡ i + 1 = omega arith in (
      c.after_step-place.ensures.there,
      subst (λ (k : ℕ). agree g (or_void g c.after_step-place.result) (map step_of (drop k c.args.path.now)) (map step_of (drop k c.args.other.now)) ≡ agree g (shape g.nodes c.args.t.0) (map step_of c.args.path.now) (map step_of c.args.other.now)) next
          (ap (λ (s : Shape). agree g s (map step_of (drop (suc i) c.args.path.now)) (map step_of (drop (suc i) c.args.other.now))) c.after_step-place.ensures.told
          ∙ agree_along _ _ _ _ _ _ c.loop-i.invariant.1 (agree_next c.args.g.now (or_void c.args.g.now c.loop-i.place) c.args.path.now c.args.other.now c.loop-i.i _ _ c.loop-i-test.true c.if-i-other.false) (sym c.same_step.ensures ∙ c.if-not-same_step.false)),
    )
