use Rattle.std.proofs.Common.{◌≡◌, Some, slice_get, OnOk, IsTrue, ◌↔◌, refl, subst}
use Rattle.type_graph.specs.declared.aggregates.Aggregate.{Aggregate}
use Rattle.type_graph.specs.Growth.{with_members}
use Rattle.unit_types.specs.Known.{AnyConstant}
use Rattle.unit_types.proofs.ConstantLaws.{known_completed}
use Rattle.unit_types.proofs.types.Types.complete.Goals as goal

pub invariant_of-self-2 : goal.invariant_of-self-2
invariant_of-self-2 c = (
  c.complete.ensures.normal,
  c.complete.ensures.step,
  known_completed c.self.inside.constants c.set.new.self c.self.inside.parts.graph c.complete.new.parts.graph c.args.a c.args.members c.are_constant-constant.result
      (c.if-not-can_complete.ensures.incomplete refl) c.in_ok-set.ensures.ok c.in_ok-set.ensures.own
      (subst (λ ms. IsTrue c.are_constant-constant.result ↔ AnyConstant c.self.inside.parts.graph ms) c.as_slice-2.ensures c.are_constant-constant.ensures)
      c.self.invariant.2 c.complete.ensures.constants,
)

pub returns-clause-ok : goal.returns-clause-ok
returns-clause-ok c =
    subst (λ g. OnOk c.complete.result ((x : Aggregate) → slice_get g.aggs c.args.a.0 ≡ Some x → c.complete.new.parts.graph ≡ with_members g c.args.a x c.args.members)) c.self.view_is c.complete.ensures.ok
