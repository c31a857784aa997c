use Rattle.std.proofs.Common.{◌≡◌, ◌+◌, ◌^◌, ◌<◌, [], ◌∷◌, ◌++◌, length, sym, ap, subst, ◌∙◌, arith}
use Rattle.type_graph.specs.Arena.{Graph, IsArena}
use Rattle.type_graph.proofs.ArenaLaws.{IsArena-node}
use Rattle.type_graph.proofs.StepLaws.{graph, nodes_are}
use Rattle.type_graph.proofs.graph.TypeGraph.append.Goals as goal

-- the fields as they were
before : (c : goal.In_ok-push) → Graph
before c = graph c.self.inside.abi c.self.inside.nodes c.self.inside.aggs.items c.self.inside.completed.items

after : (c : goal.In_ok-push) → graph c.self.inside.abi c.push.new.self c.self.inside.aggs.items c.self.inside.completed.items ≡ record c.args.self.now { nodes = c.args.self.now.nodes ++ c.args.n ∷ [] }
after c = nodes_are c.self.inside.abi c.self.inside.nodes c.push.new.self (c.args.self.now.nodes ++ c.args.n ∷ []) c.self.inside.aggs.items c.self.inside.completed.items c.args.self.now c.self.view_is (c.in_ok-push.ensures.ok ∙ ap (λ (g : Graph). g.nodes ++ c.args.n ∷ []) c.self.view_is)

arena : (c : goal.In_ok-push) → IsArena (graph c.self.inside.abi c.push.new.self c.self.inside.aggs.items c.self.inside.completed.items)
arena c =
    let room : length c.args.self.now.nodes + 1 < 2 ^ 32 = omega (arith, c.len-index.ensures.count, c.len-index.ensures.arena.few_nodes) in
    subst IsArena (sym (after c)) (IsArena-node c.args.self.now c.args.n c.len-index.ensures.arena c.requires.names c.requires.kind c.requires.absent room)

pub invariant_of-self-2 : goal.invariant_of-self-2
invariant_of-self-2 c = arena c

pub returns-clause-ok : goal.returns-clause-ok
returns-clause-ok c = (after c, c.len-index.ensures.count)

pub returns-clause-arena : goal.returns-clause-arena
returns-clause-arena c = arena c
