use Rattle.std.proofs.Common.{List, ap, subst, ◌∙◌}
use Rattle.link_names.specs.declared.units.Fronted.{Fronted}
use Rattle.cil_merge.specs.Listing.{once_each, marks_of}
use Rattle.cil_merge.specs.Classes.{HasTypes}
use Rattle.cil_merge.proofs.ClassLaws.{types_gained}
use Rattle.cil_merge.proofs.merging.joined.Goals as goal

pub returns-clause-joined : goal.returns-clause-joined
returns-clause-joined c = record {
  order = c.in_ok-add_units.ensures.marks ∙ c.in_ok-globals.ensures ∙ ap (λ (fs : List Fronted). once_each (marks_of fs)) c.deref-2.ensures.value;
  types = types_gained c.args.classes.now c.args.units.items c.in_ok-arena.arena.graph c.add_units.new.arena.graph (subst (λ (fs : List Fronted). HasTypes c.args.classes.now fs c.in_ok-arena.arena.graph) c.deref.ensures.value c.in_ok-arena.ensures.types) c.in_ok-add_units.ensures.gains;
}

pub returns-clause-model : goal.returns-clause-model
returns-clause-model c = c.in_ok-add_units.ensures.gains.grows.abi ∙ c.in_ok-arena.ensures.model
