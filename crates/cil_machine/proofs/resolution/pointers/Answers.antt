-- Answers: a comparison, and what is neither that nor a difference.
use Rattle.std.proofs.Common.{sym, ◌∙◌}
use Rattle.cil_check.specs.Seen.{seen_scope}
use Rattle.cil_machine.proofs.Meanings.{means_relation}
use Rattle.cil_machine.proofs.Typings.{not_related}
use Rattle.cil_machine.proofs.resolution.pointers.Goals as goal

pub returns-then-is_comparison : goal.returns-then-is_comparison
returns-then-is_comparison c = λ x y is also means means_too.
    means_relation (seen_scope c.args.s.now.scope) c.args.s.now.entities.now c.args.op x y c.args.e.value c.args.f.value _ _ c.args.q.quals c.args.r.quals _ _ is also (sym c.is_comparison.ensures ∙ c.if-is_comparison.true) means means_too

pub returns-in_default : goal.returns-in_default
returns-in_default c = λ x y is also means means_too.
    not_related (seen_scope c.args.s.now.scope) c.args.s.now.entities.now c.args.op x y _ c.args.q.quals c.args.r.quals _ _ c.in_default.not-Sub (sym c.is_comparison.ensures ∙ c.if-is_comparison.false) is also
