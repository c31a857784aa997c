use Rattle.std.proofs.Common.{refl}
use Rattle.type_graph.specs.declared.aggregates.Member.{Member}
use Rattle.type_graph.specs.Shapes.{shape}
use Rattle.layout_lp64.specs.Capped.{member_span}
use Rattle.layout_lp64.specs.Placements.{placed_of}
use Rattle.layout_lp64.specs.Tables.{whole_found}
use Rattle.layout_lp64.proofs.TableLaws.{placed_positive, placed_next}
use Rattle.layout_lp64.proofs.layouts.Layouts.placed.Goals as goal

pub place-requires : goal.place-requires
place-requires c =
    placed_positive c.args.self.now c.args.g.now (λ (m : Member). member_span c.args.g.now.abi (whole_found c.args.self.now.aggs) (shape c.args.g.now.nodes m.ty.of.0)) c.args.members.now c.loop-m.m-index _ c.in-Some.l c.requires.aligned (λ m. refl) c.in-Some.ensures

pub loop-m-preserved : goal.loop-m-preserved
loop-m-preserved c = (
  c.in_ok-place-in-Some.ensures.aligned,
  placed_next c.args.over (λ (m : Member). member_span c.args.g.now.abi (whole_found c.args.self.now.aggs) (shape c.args.g.now.nodes m.ty.of.0)) (placed_of c.loop-m.placing) (placed_of c.place.new.self) c.args.members.now c.loop-m.m-index _ c.in-Some.l _ c.loop-m-test.true c.in-Some.ensures c.in_ok-place-in-Some.ensures.placed c.loop-m.invariant.1,
)
