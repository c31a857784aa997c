-- Answers: an element, and one that is not there.
use Rattle.std.proofs.Common.{sym}
use Rattle.cil_check.specs.Seen.{seen_scope}
use Rattle.cil_machine.proofs.Parts.{no_element, on_element}
use Rattle.cil_machine.proofs.resolution.element_typed.Goals as goal

pub returns-in-None : goal.returns-in-None
returns-in-None c = λ w rest x is index means. c.nowhere.ensures w rest (no_element (seen_scope c.args.s.now.scope) c.args.s.now.entities.now w x rest _ _ _ is index c.in-None.ensures.told)

pub returns-in-Some : goal.returns-in-Some
returns-in-Some c = λ w rest x is index means.
    on_element (seen_scope c.args.s.now.scope) c.args.s.now.entities.now w rest c.element_spot.result c.in-Some.ty (c.element_spot.ensures w rest x _ is index (sym c.in-Some.ensures.told) means) c.in-Some.ensures.there
