use Rattle.std.proofs.Common.{◌≡◌, ◌<◌, length, Some, slice_get, slice_set, sym, ap, subst, refl, ◌∙◌}
use Rattle.std.proofs.lemmas.Option.{slice_get_read}
use Rattle.type_graph.specs.declared.aggregates.Aggregate.{Aggregate}
use Rattle.type_graph.specs.Arena.{Graph, IsArena}
use Rattle.type_graph.specs.Growth.{renamed}
use Rattle.type_graph.proofs.StepLaws.{graph, agg_renamed, IsArena-renamed}
use Rattle.type_graph.proofs.graph.TypeGraph.rename_agg.Goals as goal

-- the aggregate as it was
was : (c : goal.After-self-1) → slice_get c.args.self.now.aggs c.args.a.0 ≡ Some c.index_mut-aggregate.result.now
was c =
    subst (λ (g : Graph). slice_get g.aggs c.args.a.0 ≡ Some c.index_mut-aggregate.result.now) c.self.view_is
    (slice_get_read c.self.inside.aggs.items _ c.args.a.0 c.index_mut-aggregate.result.now refl (subst (λ (g : Graph). c.args.a.0 < length g.aggs) (sym c.self.view_is) c.requires.there) c.index_mut-aggregate.ensures.value)

after : (c : goal.After-self-1) → graph c.self.inside.abi c.self.inside.nodes (slice_set c.self.inside.aggs.items c.args.a.0 c.rename.new.self) c.self.inside.completed.items ≡ record c.args.self.now { aggs = slice_set c.args.self.now.aggs c.args.a.0 (renamed c.index_mut-aggregate.result.now c.args.tag c.args.names.now) }
after c = agg_renamed c.self.inside.abi c.self.inside.nodes c.self.inside.aggs.items c.self.inside.completed.items c.args.self.now c.args.a c.rename.new.self (renamed c.index_mut-aggregate.result.now c.args.tag c.args.names.now) c.self.view_is c.rename.ensures

arena : (c : goal.After-self-1) → IsArena (graph c.self.inside.abi c.self.inside.nodes (slice_set c.self.inside.aggs.items c.args.a.0 c.rename.new.self) c.self.inside.completed.items)
arena c = subst IsArena (sym (after c)) (IsArena-renamed c.args.self.now c.args.a c.index_mut-aggregate.result.now c.args.tag c.args.names.now (subst IsArena c.self.view_is c.self.invariant) (was c))

pub invariant_of-self : goal.invariant_of-self
invariant_of-self c = arena c

pub returns-clause-renames : goal.returns-clause-renames
returns-clause-renames c x e =
    let same : c.index_mut-aggregate.result.now ≡ x = let p : Some c.index_mut-aggregate.result.now ≡ Some x = sym (was c) ∙ e in cc in
    after c ∙ ap (λ (y : Aggregate). record c.args.self.now { aggs = slice_set c.args.self.now.aggs c.args.a.0 (renamed y c.args.tag c.args.names.now) }) same

pub returns-clause-arena : goal.returns-clause-arena
returns-clause-arena c = arena c
