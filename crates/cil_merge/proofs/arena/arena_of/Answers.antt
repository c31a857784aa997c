use Rattle.std.proofs.Common.{List, map, ap, sym, ◌∙◌, subst, Global}
use Rattle.std.specs.declared.vec.Vec.{Vec}
use Rattle.cil_base.specs.declared.numbers.TypeId.{TypeId}
use Rattle.type_graph.specs.Arena.{Graph}
use Rattle.type_iso.specs.Classes.{class_count}
use Rattle.cil_merge.specs.Numbering.{AreRepresentatives}
use Rattle.cil_merge.proofs.ClassLaws.{begun_kept, has_types}
use Rattle.cil_merge.proofs.arena.arena_of.Goals as goal

pub complete_classes-requires : goal.complete_classes-requires
complete_classes-requires c =
    begun_kept c.args.units.now c.in_ok-stands.stands.items c.deref.result.now c.deref-2.result.now c.add_classes.new.graph.aggs c.map_units.new.graph.aggs c.deref.ensures.value c.deref-2.ensures.value c.in_ok-types.ensures.gains.stay c.in_ok-add_classes.ensures.begun

pub returns-clause-types : goal.returns-clause-types
returns-clause-types c =
    has_types c.args.classes.now c.args.units.now c.map_units.new.graph c.complete_classes.new.graph (map (λ v. v.items) c.in_ok-types.types.items) (map (λ v. v.items) c.deref-3.result.now) c.deref-2.result.now
    (subst (AreRepresentatives c.args.classes.now (class_count c.args.classes.now)) (sym c.deref-2.ensures.value) c.in_ok-stands.ensures)
    c.in_ok-types.ensures.types (ap (λ (vs : List (Vec TypeId Global)). map (λ v. v.items) vs) c.deref-3.ensures.value) c.in_ok-complete_classes.ensures.grows c.in_ok-complete_classes.ensures.classes

pub returns-clause-model : goal.returns-clause-model
returns-clause-model c = c.in_ok-complete_classes.ensures.grows.abi ∙ c.in_ok-types.ensures.gains.grows.abi ∙ c.in_ok-add_classes.ensures.grows.abi ∙ ap (λ (g : Graph). g.abi) c.new_for-graph.ensures.empty
