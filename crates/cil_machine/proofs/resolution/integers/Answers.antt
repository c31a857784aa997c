-- Answers: the terms of the classes of operators.
use Rattle.cil_check.specs.Seen.{seen_scope}
use Rattle.cil_machine.proofs.Meanings.{means_arithmetic, means_comparison}
use Rattle.cil_machine.proofs.Typings.{class_told}
use Rattle.cil_machine.proofs.resolution.integers.Goals as goal

pub returns-in-Arithmetic : goal.returns-in-Arithmetic
returns-in-Arithmetic c = λ x y is also means means_too.
    let class = class_told c.args.op c.class_of.result _ c.in-Arithmetic.is c.class_of.ensures in
    means_arithmetic (seen_scope c.args.s.now.scope) c.args.s.now.entities.now c.args.op x y c.args.e.value c.args.f.value _ _ c.args.k c.args.l is also class.0 class.1 means means_too

pub returns-in-Comparison : goal.returns-in-Comparison
returns-in-Comparison c = λ x y is also means means_too.
    means_comparison (seen_scope c.args.s.now.scope) c.args.s.now.entities.now c.args.op x y c.args.e.value c.args.f.value _ _ c.args.k c.args.l is also (class_told c.args.op c.class_of.result _ c.in-Comparison.is c.class_of.ensures) means means_too
