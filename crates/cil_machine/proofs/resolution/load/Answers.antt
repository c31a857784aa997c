-- Answers: the value of a place of a type, and of one of none.
use Rattle.cil_tree.specs.Tree as plain
use Rattle.cil_check.specs.Seen.{seen_scope}
use Rattle.cil_machine.proofs.Typings.{no_value, typed_value}
use Rattle.cil_machine.proofs.resolution.load.Goals as goal

pub returns-in-None : goal.returns-in-None
returns-in-None c = λ p is. c.untyped.ensures (plain.Value p) (no_value (seen_scope c.args.s.now.scope) c.args.s.now.entities.now p c.args.place is c.in-None.is)

pub returns-in-Some : goal.returns-in-Some
returns-in-Some c = λ p is. typed_value (seen_scope c.args.s.now.scope) c.args.s.now.entities.now p c.args.place c.in-Some.t c.read.result is c.in-Some.is c.read.ensures.told c.read.ensures.there
