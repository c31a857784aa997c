use Rattle.std.proofs.Common.{◌≡◌, ◌<◌, length, Some, slice_get, slice_set, sym, ap, subst, refl, ◌∙◌}
use Rattle.std.proofs.lemmas.Option.{slice_get_read}
use Rattle.type_graph.specs.declared.aggregates.Aggregate.{Aggregate}
use Rattle.type_graph.specs.Arena.{Graph, IsArena}
use Rattle.type_graph.specs.Growth.{with_members}
use Rattle.type_graph.proofs.ArenaLaws.{IsArena-complete}
use Rattle.type_graph.proofs.GrowthLaws.{grows_by, grows_complete}
use Rattle.type_graph.proofs.StepLaws.{graph, order_stays, members_are}
use Rattle.type_graph.proofs.graph.TypeGraph.complete.Goals as goal

-- the aggregate as it was
was : (c : goal.Joined-aggregate) → slice_get c.args.self.now.aggs c.args.a.0 ≡ Some c.index_mut-aggregate.result.now
was c =
    subst (λ (g : Graph). slice_get g.aggs c.args.a.0 ≡ Some c.index_mut-aggregate.result.now) c.self.view_is
    (slice_get_read c.self.inside.aggs.items _ c.args.a.0 c.index_mut-aggregate.result.now refl (subst (λ (g : Graph). c.args.a.0 < length g.aggs) (sym c.self.view_is) c.requires.there) c.index_mut-aggregate.ensures.value)

after : (c : goal.Joined-aggregate) → graph c.self.inside.abi c.self.inside.nodes (slice_set c.self.inside.aggs.items c.args.a.0 (record c.index_mut-aggregate.result.now { members = Some c.args.members })) c.push.new.self.items ≡ with_members c.args.self.now c.args.a c.index_mut-aggregate.result.now c.args.members
after c = members_are c.self.inside.abi c.self.inside.nodes c.self.inside.aggs.items c.self.inside.completed.items c.push.new.self.items c.args.self.now c.args.a c.index_mut-aggregate.result.now c.args.members c.self.view_is c.in_ok-push.ensures.items

arena : (c : goal.Joined-aggregate) → IsArena (graph c.self.inside.abi c.self.inside.nodes (slice_set c.self.inside.aggs.items c.args.a.0 (record c.index_mut-aggregate.result.now { members = Some c.args.members })) c.push.new.self.items)
arena c =
    subst IsArena (sym (after c))
    (IsArena-complete c.args.self.now c.args.a c.index_mut-aggregate.result.now c.args.members (subst IsArena c.self.view_is c.self.invariant) (was c) c.requires.incomplete (c.requires.fit c.index_mut-aggregate.result.now (was c)))

pub returns-in_err-push-clause-grows : goal.returns-in_err-push-clause-grows
returns-in_err-push-clause-grows c =
    grows_by c.args.self.now (graph c.self.inside.abi c.self.inside.nodes c.self.inside.aggs.items c.push.new.self.items)
    (order_stays c.self.inside.abi c.self.inside.nodes c.self.inside.aggs.items c.self.inside.completed.items c.push.new.self.items c.args.self.now c.self.view_is c.in_err-push.ensures.items)

pub invariant_of-self-2 : goal.invariant_of-self-2
invariant_of-self-2 c = arena c

pub returns-clause-ok : goal.returns-clause-ok
returns-clause-ok c x e =
    let same : c.index_mut-aggregate.result.now ≡ x = let p : Some c.index_mut-aggregate.result.now ≡ Some x = sym (was c) ∙ e in cc in
    after c ∙ ap (λ (y : Aggregate). with_members c.args.self.now c.args.a y c.args.members) same

pub returns-clause-grows : goal.returns-clause-grows
returns-clause-grows c = grows_complete c.args.self.now _ c.args.a c.index_mut-aggregate.result.now c.args.members (was c) c.requires.incomplete (after c)

pub returns-clause-arena : goal.returns-clause-arena
returns-clause-arena c = arena c
