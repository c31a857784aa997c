use Rattle.std.proofs.Common.{◌≡◌, ◌+◌, ◌^◌, ◌<◌, length, None, sym, subst, refl, arith}
use Rattle.type_graph.specs.declared.aggregates.Aggregate.{Aggregate}
use Rattle.type_graph.specs.Arena.{IsArena}
use Rattle.type_graph.specs.Growth.{with_agg}
use Rattle.type_graph.proofs.ArenaLaws.{IsArena-agg}
use Rattle.type_graph.proofs.GrowthLaws.{grows_by, grows_agg}
use Rattle.type_graph.proofs.StepLaws.{graph, aggs_stay, agg_is_added}
use Rattle.type_graph.proofs.graph.TypeGraph.add_agg.Goals as goal

added : (c : goal.In_ok-push) → Aggregate
added c = record { kind = c.args.kind; tag = c.args.tag; members = None }

after : (c : goal.In_ok-push) → graph c.self.inside.abi c.self.inside.nodes c.push.new.self.items c.self.inside.completed.items ≡ with_agg c.args.self.now (added c)
unfolding added
after c = agg_is_added c.self.inside.abi c.self.inside.nodes c.self.inside.aggs.items c.push.new.self.items c.self.inside.completed.items c.args.self.now (added c) c.self.view_is c.in_ok-push.ensures.items

arena : (c : goal.In_ok-push) → IsArena (graph c.self.inside.abi c.self.inside.nodes c.push.new.self.items c.self.inside.completed.items)
unfolding added
arena c =
    let room : length c.args.self.now.aggs + 1 < 2 ^ 32 = omega (arith, c.agg_count-index.ensures.count, c.agg_count-index.ensures.arena.few_aggs) in
    subst IsArena (sym (after c)) (IsArena-agg c.args.self.now (added c) c.agg_count-index.ensures.arena refl room)

pub returns-in_err-push-clause-grows : goal.returns-in_err-push-clause-grows
returns-in_err-push-clause-grows c =
    grows_by c.args.self.now (graph c.self.inside.abi c.self.inside.nodes c.push.new.self.items c.self.inside.completed.items)
    (aggs_stay c.self.inside.abi c.self.inside.nodes c.self.inside.aggs.items c.push.new.self.items c.self.inside.completed.items c.args.self.now c.self.view_is c.in_err-push.ensures.items)

pub invariant_of-self-2 : goal.invariant_of-self-2
invariant_of-self-2 c = arena c

pub returns-clause-grows : goal.returns-clause-grows
unfolding added
returns-clause-grows c = grows_agg c.args.self.now (graph c.self.inside.abi c.self.inside.nodes c.push.new.self.items c.self.inside.completed.items) (added c) (after c)

pub returns-clause-arena : goal.returns-clause-arena
returns-clause-arena c = arena c
