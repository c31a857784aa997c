-- Answers: a conversion to a type that is not there.
use Rattle.cil_tree.specs.Tree as plain
use Rattle.cil_tree.specs.View.{type_at}
use Rattle.cil_check.specs.Seen.{seen_scope}
use Rattle.cil_machine.proofs.Typings.{no_cast_type}
use Rattle.cil_machine.proofs.resolution.cast_typed.Goals as goal

pub returns-in-None : goal.returns-in-None
returns-in-None c = λ x is. c.untyped.ensures (plain.Cast (type_at c.args.s.now.scope.unit.now.graph.nodes c.args.to) x)
    (no_cast_type (seen_scope c.args.s.now.scope) (type_at c.args.s.now.scope.unit.now.graph.nodes c.args.to) x c.in-None.ensures.told)
