use Rattle.std.proofs.Common.{◌≡◌, ◌-◌, true, length, Some, refl, sym, ap, ◌∙◌, arith}
use Rattle.std.proofs.lemmas.Option.{slice_get_read}
use Rattle.type_graph.specs.contracts.nodes.NodePartialEq.TheImpl.{ghosts}
use Rattle.type_graph.proofs.NodeEquality.{eq_tells}
use Rattle.type_graph.proofs.ChainLaws.{ahead_first, ahead_behind}
use Rattle.type_graph.proofs.chains.Chains.find.Goals as goal

pub loop-end-init : goal.loop-end-init
loop-end-init c =
    let count : c.len.result ≡ length c.args.self.now.ends.items = omega (arith, c.len.ensures) in
    ahead_first c.args.self.now c.args.nodes.now c.chain_of.result c.index-end.result.now c.len.result c.args.n.now c.requires count c.chain_of.ensures.is c.chain_of.ensures.within
    (slice_get_read c.args.self.now.ends.items c.len.result c.chain_of.result c.index-end.result.now count c.chain_of.ensures.within c.index-end.ensures)

pub returns-then-eq : goal.returns-then-eq
returns-then-eq c =
    let same : ghosts.eq c.index-nodes-i.result c.args.n.now ≡ true = sym c.eq.ensures ∙ c.if-eq.true in
    slice_get_read c.args.nodes.now (length c.args.nodes.now) (c.loop-end.end - 1) c.index-nodes-i.result refl (omega (arith, c.loop-end.invariant.within, c.loop-end-test.true)) c.index-nodes-i.is
    ∙ ap Some (eq_tells c.index-nodes-i.result c.args.n.now same)

pub loop-end-smaller : goal.loop-end-smaller
loop-end-smaller c = (ahead_behind c.args.self.now c.args.nodes.now c.loop-end.end c.index-end-in-loop-end.result.now c.args.n.now c.index-nodes-i.result c.eq.result c.requires c.loop-end.invariant c.loop-end-test.true c.index-nodes-i.is c.eq.ensures c.if-eq.false c.index-end-in-loop-end.ensures).1

pub loop-end-preserved : goal.loop-end-preserved
loop-end-preserved c = (ahead_behind c.args.self.now c.args.nodes.now c.loop-end.end c.index-end-in-loop-end.result.now c.args.n.now c.index-nodes-i.result c.eq.result c.requires c.loop-end.invariant c.loop-end-test.true c.index-nodes-i.is c.eq.ensures c.if-eq.false c.index-end-in-loop-end.ensures).0
