-- Answers: an element of a size, and of none.
use Rattle.std.proofs.Common.{sym}
use Rattle.type_graph.specs.Shapes.{IntType}
use Rattle.cil_check.specs.Seen.{seen_scope}
use Rattle.cil_machine.proofs.Parts.{part_element, part_unsized, element_by}
use Rattle.cil_machine.proofs.resolution.element_spot.Goals as goal

pub returns-in-Some : goal.returns-in-Some
returns-in-Some c = λ w rest x a is index element means.
    part_element (seen_scope c.args.s.now.scope) c.args.s.now.entities.now w x rest c.args.whole.value c.args.i.value _ _ a _ c.args.kind c.in-Some.size is index element (element_by a (IntType c.args.kind) _ element) (sym c.in-Some.ensures.size) means

pub returns-in-None : goal.returns-in-None
returns-in-None c = λ w rest x a is index element means.
    part_unsized (seen_scope c.args.s.now.scope) c.args.s.now.entities.now w x rest c.args.whole.value a _ c.args.kind is index element (element_by a (IntType c.args.kind) _ element) (sym c.in-None.ensures.size)
