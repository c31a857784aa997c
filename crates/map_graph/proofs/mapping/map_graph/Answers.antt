use Rattle.std.proofs.Common.{List, subst, sym}
use Rattle.cil_base.specs.declared.numbers.TypeId.{TypeId}
use Rattle.map_graph.specs.Mapped.{number_in}
use Rattle.map_graph.specs.Steps.{Gives, node_mapped}
use Rattle.map_graph.proofs.MappedLaws.{mapping_next}
use Rattle.map_graph.proofs.mapping.map_graph.Goals as goal

pub loop-t-preserved : goal.loop-t-preserved
loop-t-preserved c =
    mapping_next c.args.from.now c.args.to.now c.loop-t.to c.map_node.new.to (number_in c.args.aggregates.now) c.args.keep_qualifiers c.loop-t.types.items c.push.new.self.items c.loop-t.t _ _ c.in_ok-mapped.mapped
    c.loop-t.invariant c.map_node.ensures.grows c.map_node.ensures.aggregates c.node-n.ensures.shape c.node-n.ensures.names
    (subst (λ (ts : List TypeId). Gives c.map_node.new.to (node_mapped c.loop-t.to ts (number_in c.args.aggregates.now) c.args.keep_qualifiers c.node-n.result.now) c.in_ok-mapped.mapped.0) c.deref.ensures.value c.in_ok-mapped.ensures.gives)
    c.in_ok-mapped.ensures.only
    c.in_ok-push.ensures.items
