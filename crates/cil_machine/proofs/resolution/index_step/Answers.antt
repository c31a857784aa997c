-- Answers: an index of a type, and of none.
use Rattle.std.proofs.Common.{IfSome, sym, subst}
use Rattle.cil_check.specs.Seen.{seen_scope, IsThere}
use Rattle.cil_machine.specs.Resolution.{Means}
use Rattle.cil_machine.proofs.Parts.{no_indexed}
use Rattle.cil_machine.proofs.Typings.{typed_none, typed_some}
use Rattle.cil_machine.proofs.resolution.index_step.Goals as goal

pub returns-in-None : goal.returns-in-None
returns-in-None c = λ w rest x is typed. c.nowhere.ensures w rest (no_indexed (seen_scope c.args.s.now.scope) c.args.s.now.entities.now w x rest _ _ is (typed_none (seen_scope c.args.s.now.scope) c.args.s.now.entities.now x c.args.i typed c.in-None.is))

pub returns : goal.returns
returns c = λ w rest x is typed. c.indexed.ensures w rest x is
    (subst (λ o. IfSome o (IsThere c.args.s.now.scope.unit.now.graph)) c.in-Some.is typed.there) (typed_some (seen_scope c.args.s.now.scope) c.args.s.now.entities.now x c.args.i c.in-Some.by typed c.in-Some.is)
    (subst (λ t. Means (seen_scope c.args.s.now.scope) c.args.s.now.entities.now x t) (sym c.in_ok-i.ensures.ok) typed.means)
