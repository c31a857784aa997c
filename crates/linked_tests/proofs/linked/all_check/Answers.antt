use Rattle.std.proofs.Common.{All, arith, subst}
use Rattle.std.proofs.lemmas.List.{take_all}
use Rattle.std.proofs.lemmas.List.Elements.{All-more}
use Rattle.cil_tree.specs.View.{program_of}
use Rattle.cil_tree.specs.Programs.{IsProgram}
use Rattle.cil_tree.specs.declared.globals.CilUnit.{CilUnit}
use Rattle.linked_tests.proofs.linked.all_check.Goals as goal

pub loop-i-preserved : goal.loop-i-preserved
loop-i-preserved c =
    All-more (λ u. IsProgram (program_of c.args.names.now u)) c.args.units.now c.loop-i.i c.index-units-i.result (omega (arith, c.loop-i-test.true)) c.loop-i.invariant
    (subst (λ (u : CilUnit). IsProgram (program_of c.args.names.now u)) c.index-units-i.is (c.in_ok-check.ensures.0 c.if-not-branch.false))

pub returns : goal.returns
returns c _ = subst (All (λ u. IsProgram (program_of c.args.names.now u))) (take_all c.loop-i.i c.args.units.now (omega (arith, c.loop-i-test.false))) c.loop-i.invariant
