use Rattle.std.proofs.Common.{◌≡◌, ◌≤◌, length, refl, subst, arith}
use Rattle.layout_lp64.specs.Tables.{Extended}
use Rattle.layout_lp64.proofs.UpdateLaws.{extended_none, extended_more, aggs_added, aggs_before}
use Rattle.layout_lp64.proofs.layouts.Layouts.add_aggs.Goals as goal

pub loop-i-init : goal.loop-i-init
loop-i-init c =
    let e : length c.args.self.now.aggs ≡ c.len-i.result = omega (arith, c.len-i.ensures) in
    subst (λ n. Extended c.args.self.now c.args.self.now n) e (extended_none c.args.self.now c.args.g.now c.requires.before)

pub loop-i-preserved : goal.loop-i-preserved
loop-i-preserved c = extended_more c.args.self.now c.loop-i.self _ c.loop-i._i c.loop-i.invariant refl refl c.in_ok-push_incomplete.ensures.ok c.in_ok-push.ensures.items

pub returns : goal.returns
returns c =
    let start : c.len-i.result ≤ c.args.count = omega (arith, c.len-i.ensures, aggs_before c.args.self.now c.args.g.now c.requires.before, c.requires.count) in
    let end : c.loop-i._i ≡ length c.args.g.now.aggs = omega (arith, c.loop-i.auto._i-end start, c.loop-i-test.false, c.requires.count) in
    aggs_added c.args.self.now c.loop-i.self c.args.g.now c.requires.before (subst (λ n. Extended c.args.self.now c.loop-i.self n) end c.loop-i.invariant)
