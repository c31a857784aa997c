use Rattle.std.proofs.Common.{◌≡◌, ◌<◌, drop}
use Rattle.type_graph.specs.declared.aggregates.Member.{Member}
use Rattle.type_graph.specs.Shapes.{shape}
use Rattle.type_graph.specs.Layouts.{nothing_placed}
use Rattle.layout_lp64.specs.Capped.{member_span, capped_all}
use Rattle.layout_lp64.specs.Placements.{placed_of}
use Rattle.layout_lp64.specs.Tables.{whole_found}
use Rattle.layout_lp64.proofs.layouts.Layouts.placed.Given as goal

abbrev pub invariant-loop-m : goal.invariant-loop-m
invariant-loop-m l = (0 < l.placing.align) × (capped_all l.over (λ (m : Member). member_span l.g.abi (whole_found l.self.aggs) (shape l.g.nodes m.ty.of.0)) nothing_placed l.members ≡ capped_all l.over (λ (m : Member). member_span l.g.abi (whole_found l.self.aggs) (shape l.g.nodes m.ty.of.0)) (placed_of l.placing) (drop l.m-index l.members))
