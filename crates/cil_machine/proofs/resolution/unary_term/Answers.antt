-- Answers: a sign before an operand.
use Rattle.std.proofs.Common.{sym, subst}
use Rattle.cil_base.specs.declared.operators.UnOp.TheVariants.{Neg}
use Rattle.cil_tree.specs.Tree as plain
use Rattle.cil_check.specs.Seen.{seen_scope, seen_shape}
use Rattle.cil_machine.specs.declared.terms.Term.{Unary'}
use Rattle.cil_machine.specs.Resolution.{Means}
use Rattle.cil_machine.proofs.Typings.{means_neg}
use Rattle.cil_machine.proofs.resolution.unary_term.Goals as goal

pub returns-in_ok-new-in-Neg : goal.returns-in_ok-new-in-Neg
returns-in_ok-new-in-Neg c = λ x is means.
    subst (λ op. Means (seen_scope c.args.s.now.scope) c.args.s.now.entities.now (plain.Un op x) (Unary' Neg (record { ptr = c.in_ok-new-in-Neg.field-0.ptr; alloc = c.in_ok-new-in-Neg.field-0.alloc; value = tt }) c.in_ok-new-in-Neg.field-0.value)) (sym c.in-Neg.is)
    (means_neg (seen_scope c.args.s.now.scope) c.args.s.now.entities.now x c.in_ok-new-in-Neg.field-0.value (record { ptr = c.in_ok-new-in-Neg.field-0.ptr; alloc = c.in_ok-new-in-Neg.field-0.alloc; value = tt }) (seen_shape c.args.s.now.scope.unit.now.graph c.args.t) is
    (subst (λ t. Means (seen_scope c.args.s.now.scope) c.args.s.now.entities.now x t) (sym c.in_ok-new-in-Neg.ensures.ok) means))
