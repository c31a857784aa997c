-- Answers: a member, and one that is not there.
use Rattle.cil_check.specs.Seen.{seen_scope}
use Rattle.cil_machine.proofs.Parts.{no_member, on_member}
use Rattle.cil_machine.proofs.resolution.member_typed.Goals as goal

pub returns-in-None : goal.returns-in-None
returns-in-None c = λ w rest is. c.nowhere.ensures w rest (no_member (seen_scope c.args.s.now.scope) c.args.s.now.entities.now w c.args.n rest _ _ is c.in-None.ensures.told)

pub returns-in-Some : goal.returns-in-Some
returns-in-Some c = λ w rest is. on_member (seen_scope c.args.s.now.scope) c.args.s.now.entities.now w c.args.n rest c.args.whole.value _ _ c.in-Some.ty c.offset_of.result is c.in-Some.ensures.told c.offset_of.ensures c.in-Some.ensures.there
