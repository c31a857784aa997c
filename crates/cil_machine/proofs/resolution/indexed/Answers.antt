-- Answers: an index that is no integer.
use Rattle.std.proofs.Common.{Some, ap, ◌∙◌, subst}
use Rattle.type_graph.specs.Shapes.{shape}
use Rattle.cil_tree.specs.Typing.{is_index}
use Rattle.cil_check.specs.Seen.{seen_scope, seen_shape, IsThere}
use Rattle.cil_check.specs.declared.seen.Seen.{Seen}
use Rattle.cil_machine.proofs.Parts.{no_element, no_index, other_index}
use Rattle.cil_machine.proofs.resolution.indexed.Goals as goal

pub returns-in-Ptr : goal.returns-in-Ptr
returns-in-Ptr c = λ w rest x is there index means. c.nowhere.ensures w rest
    (no_element (seen_scope c.args.s.now.scope) c.args.s.now.entities.now w x rest c.args.whole.value (shape c.args.s.now.scope.unit.now.graph.nodes c.args.t.0) (seen_shape c.args.s.now.scope.unit.now.graph c.args.by) is index
    (no_index (shape c.args.s.now.scope.unit.now.graph.nodes c.args.t.0) (seen_shape c.args.s.now.scope.unit.now.graph c.args.by) (ap (λ (b : Seen). is_index (seen_shape c.args.s.now.scope.unit.now.graph b)) c.in-Ptr.is)))

pub returns-in-Int : goal.returns-in-Int
returns-in-Int c = λ w rest x is there index means. c.element_typed.ensures w rest x is (index ∙ ap (λ (b : Seen). Some (seen_shape c.args.s.now.scope.unit.now.graph b)) c.in-Int.is) means

pub returns-in-Other : goal.returns-in-Other
returns-in-Other c = λ w rest x is there index means. c.nowhere-in-Other.ensures w rest
    (no_element (seen_scope c.args.s.now.scope) c.args.s.now.entities.now w x rest c.args.whole.value (shape c.args.s.now.scope.unit.now.graph.nodes c.args.t.0) (seen_shape c.args.s.now.scope.unit.now.graph c.args.by) is index
    (no_index (shape c.args.s.now.scope.unit.now.graph.nodes c.args.t.0) (seen_shape c.args.s.now.scope.unit.now.graph c.args.by)
    (ap (λ (b : Seen). is_index (seen_shape c.args.s.now.scope.unit.now.graph b)) c.in-Other.is ∙ other_index (shape c.args.s.now.scope.unit.now.graph.nodes c.in-Other.field-0.0) (subst (IsThere c.args.s.now.scope.unit.now.graph) c.in-Other.is there).1)))
