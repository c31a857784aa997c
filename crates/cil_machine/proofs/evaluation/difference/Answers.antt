-- Answers: a difference of offsets of one object is of the kind long.
use Rattle.std.proofs.Common.{IfSome, sym, subst}
use Rattle.byte_mem.specs.Store.{memory}
use Rattle.byte_mem.specs.Scalar.{IsValue}
use Rattle.byte_mem.specs.declared.values.Scalar.TheVariants.{Int as OfKind}
use Rattle.cil_base.specs.Integer.{long_of}
use Rattle.cil_machine.proofs.Differences.{difference_long}
use Rattle.cil_machine.proofs.evaluation.difference.Goals as goal

pub returns-else-size-eq0-clause-value : goal.returns-else-size-eq0-clause-value
returns-else-size-eq0-clause-value c =
    subst (λ o. IfSome o (IsValue c.args.mem.now.abi (OfKind (long_of c.args.mem.now.abi)))) (sym c.pointer_difference.ensures)
    (difference_long c.args.mem.now.abi (memory c.args.mem.now) c.args.v c.args.w c.args.size)
