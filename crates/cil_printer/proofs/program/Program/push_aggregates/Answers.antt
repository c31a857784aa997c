use Rattle.std.proofs.Common.{◌≡◌, ◌∙◌, ◌+◌, Some, drop, length, slice_get, arith}
use Rattle.cil_tree.specs.Text.{concat_each}
use Rattle.cil_printer.specs.Plain.{prints}
use Rattle.cil_printer.specs.Parts.{aggregate_lines}
use Rattle.cil_printer.specs.Seen.{tree_of}
use Rattle.cil_printer.proofs.WellFormed.{plain_aggregate}
use Rattle.cil_printer.proofs.PartLines.{aggregates_from, part_end}
use Rattle.cil_printer.proofs.program.Program.push_aggregates.Goals as goal

pub push_aggregate_lines-requires-clause-aggregate : goal.push_aggregate_lines-requires-clause-aggregate
push_aggregate_lines-requires-clause-aggregate c =
    let p = tree_of c.args.self.now in
    let at : slice_get p.graph.aggs c.loop-a.a ≡ Some c.agg.result.now = rw c.graph-in-loop-a.ensures at c.agg.ensures in
    plain_aggregate p c.loop-a.a c.agg.result.now c.requires at

pub loop-a-preserved : goal.loop-a-preserved
loop-a-preserved c =
    let p = tree_of c.args.self.now in
    let at : slice_get p.graph.aggs c.loop-a.a ≡ Some c.agg.result.now = rw c.graph-in-loop-a.ensures at c.agg.ensures in
    let e : prints c.push_aggregate_lines.new.out 0 (concat_each (aggregate_lines c.args.part p) (drop (c.loop-a.a + 1) p.graph.aggs)) ≡ prints c.loop-a.out 0 (concat_each (aggregate_lines c.args.part p) (drop c.loop-a.a p.graph.aggs)) =
    aggregates_from _ _ c.args.part p c.loop-a.a _ c.agg.result.now c.requires (omega arith) at c.push_aggregate_lines.ensures in
    e ∙ c.loop-a.invariant

pub returns : goal.returns
returns c =
    let p = tree_of c.args.self.now in
    let count : c.agg_count-a-end.result ≡ length p.graph.aggs = rw c.graph.ensures at c.agg_count-a-end.ensures.count in
    part_end _ _ (aggregate_lines c.args.part p) p.graph.aggs c.loop-a.a (omega (arith, count, c.loop-a-test.false)) c.loop-a.invariant
