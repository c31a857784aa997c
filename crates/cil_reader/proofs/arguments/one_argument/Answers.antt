use Rattle.std.proofs.Common.{List, sym, subst}
use Rattle.cil_tree.specs.declared.expressions.Exp.{Exp}
use Rattle.cil_reader.specs.Settings.{env_in}
use Rattle.cil_text.specs.TypesOf.{AddsParts, types_in_args}
use Rattle.cil_reader.specs.Instructions.{args_of, ArgsKnown}
use Rattle.cil_reader.proofs.InstructionLaws.{args_more}
use Rattle.cil_reader.proofs.AddedTrees.{argument_adds}
use Rattle.cil_reader.proofs.arguments.one_argument.Goals as goal

pub returns-in-Some-clause-known : goal.returns-in-Some-clause-known
returns-in-Some-clause-known c =
    subst (λ (xs : List Exp). ArgsKnown c.read_exp.new.r.graph xs) (sym c.in_ok-push_argument.ensures)
    (args_more c.args.r.now.graph c.read_exp.new.r.graph (env_in c.read_exp.new.r) c.args.args.all.items c.in_ok-operand.operand.exp.value c.in_ok-operand.operand.to c.requires c.read_exp.ensures.on.grows c.in_ok-operand.ensures.known)

pub returns-in-Some-clause-adds : goal.returns-in-Some-clause-adds
returns-in-Some-clause-adds c = λ f adds.
    subst (λ (xs : List Exp). AddsParts f c.read_exp.new.r.graph (types_in_args (args_of c.read_exp.new.r.graph.nodes xs))) (sym c.in_ok-push_argument.ensures)
    (argument_adds f c.args.r.now.graph c.read_exp.new.r.graph c.args.args.all.items c.in_ok-operand.operand.exp.value c.requires c.read_exp.ensures.on.grows adds c.in_ok-operand.ensures.adds)
