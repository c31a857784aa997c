use Rattle.std.proofs.Common.{◌<◌, length, refl, subst, arith}
use Rattle.std.proofs.Math.ListN.{set, length-set}
use Rattle.layout_lp64.proofs.TableLaws.{span_from, span_within, copy_covered, span_added, set_larger, most_covers}
use Rattle.layout_lp64.proofs.layouts.Layouts.add_span.Goals as goal

pub index-requires : goal.index-requires
index-requires c =
    omega (arith, span_within c.args.self.now c.args.g.now c.requires.arena c.requires.tables c.args.t.0 c.in-Copies.a c.in-Copies.count c.make_span-span.result c.requires.next c.requires.there (span_from c.args.self.now c.args.g.now c.requires.tables c.abi.result c.args.self.now.spans c.args.t.0 _ c.node.result.now c.make_span-span.result c.abi.ensures refl c.make_span-span.ensures c.requires.next c.node.ensures.names c.node.ensures.shape) c.in-Copies.is)

pub index_mut-requires : goal.index_mut-requires
index_mut-requires c =
    omega (arith, span_within c.args.self.now c.args.g.now c.requires.arena c.requires.tables c.args.t.0 c.in-Copies.a c.in-Copies.count c.make_span-span.result c.requires.next c.requires.there (span_from c.args.self.now c.args.g.now c.requires.tables c.abi.result c.args.self.now.spans c.args.t.0 _ c.node.result.now c.make_span-span.result c.abi.ensures refl c.make_span-span.ensures c.requires.next c.node.ensures.names c.node.ensures.shape) c.in-Copies.is)

pub returns-in-Copies : goal.returns-in-Copies
returns-in-Copies c =
    let cover = most_covers c.args.self.now.most.items c.in-Copies.a.0 c.index.result.now c.in-Copies.count c.max-most.result (span_within c.args.self.now c.args.g.now c.requires.arena c.requires.tables c.args.t.0 c.in-Copies.a c.in-Copies.count c.make_span-span.result c.requires.next c.requires.there (span_from c.args.self.now c.args.g.now c.requires.tables c.abi.result c.args.self.now.spans c.args.t.0 _ c.node.result.now c.make_span-span.result c.abi.ensures refl c.make_span-span.ensures c.requires.next c.node.ensures.names c.node.ensures.shape) c.in-Copies.is) c.index.ensures c.max-most.ensures in
    span_added c.args.self.now _ c.args.g.now c.make_span-span.result c.requires.tables (subst (λ k. k < length c.args.g.now.nodes) c.requires.next c.requires.there) (span_from c.args.self.now c.args.g.now c.requires.tables c.abi.result c.args.self.now.spans c.args.t.0 _ c.node.result.now c.make_span-span.result c.abi.ensures refl c.make_span-span.ensures c.requires.next c.node.ensures.names c.node.ensures.shape) c.in_ok-push.ensures.ok refl
    (length-set c.args.self.now.most.items c.in-Copies.a.0 c.max-most.result) refl
    (λ a. set_larger c.args.self.now.most.items c.in-Copies.a.0 c.max-most.result a cover.0)
    (λ a k e. copy_covered (set c.args.self.now.most.items c.in-Copies.a.0 c.max-most.result) c.in-Copies.a a c.in-Copies.count k c.make_span-span.result c.in-Copies.is cover.1 e)

pub returns-in_default : goal.returns-in_default
returns-in_default c =
    span_added c.args.self.now _ c.args.g.now c.make_span-span.result c.requires.tables (subst (λ k. k < length c.args.g.now.nodes) c.requires.next c.requires.there) (span_from c.args.self.now c.args.g.now c.requires.tables c.abi.result c.args.self.now.spans c.args.t.0 _ c.node.result.now c.make_span-span.result c.abi.ensures refl c.make_span-span.ensures c.requires.next c.node.ensures.names c.node.ensures.shape) c.in_ok-push.ensures.ok refl refl refl
    (λ a. omega arith)
    (λ a k e. absurd (c.in_default.not-Copies a k e))
