-- Answers: a difference of pointers to complete elements, and to others.
use Rattle.std.proofs.Common.{refl, sym}
use Rattle.cil_check.specs.Seen.{seen_scope}
use Rattle.cil_machine.proofs.Meanings.{means_difference}
use Rattle.cil_machine.proofs.Typings.{incomplete_difference}
use Rattle.cil_machine.proofs.resolution.difference.Goals as goal

pub returns-in-Some : goal.returns-in-Some
returns-in-Some c = λ x y is also means means_too.
    means_difference (seen_scope c.args.s.now.scope) c.args.s.now.entities.now x y c.args.e.value c.args.f.value _ _ c.args.q.quals c.args.r.quals _ _ c.in-Some.size is also (sym c.in-Some.ensures.size) means means_too

pub returns-in-None : goal.returns-in-None
returns-in-None c = λ x y is also means means_too.
    incomplete_difference (seen_scope c.args.s.now.scope) c.args.s.now.entities.now x y _ c.args.q.quals c.args.r.quals _ _ (c.in-None.ensures.complete refl) is also
