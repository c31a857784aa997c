use Rattle.std.proofs.Common.{codes, length, subst, ap, ◌∙◌, arith}
use Rattle.cil_base.specs.NamePool.{interned, Interns}
use Rattle.cil_base.proofs.PoolLemmas.{Interns-stays}
use Rattle.type_things.specs.Stems.{stem_of}
use Rattle.type_things.proofs.StemLaws.{pool_more, numbers_more, count_more, are_stems}
use Rattle.type_things.proofs.stems.Stems.new.Goals as goal

pub loop-n-init : goal.loop-n-init
loop-n-init c = record {
  once = c.intern.ensures.once;
  pool = c.in_ok-intern.ensures.ok.after ∙ ap (λ l. interned l (codes "__anon")) c.new-stems.ensures.empty;
  tagless = c.in_ok-intern.ensures.ok.number;
  count = ap length c.new-of.ensures.items;
  stems = λ k d h. absurd (omega (arith, h));
}

pub loop-n-preserved : goal.loop-n-preserved
loop-n-preserved c =
    let interns : Interns c.loop-n.stems c.intern-in-loop-n.new.self (stem_of c.text.result.now) c.in_ok-number.number.0 = subst (λ t. Interns c.loop-n.stems c.intern-in-loop-n.new.self t c.in_ok-number.number.0) c.stem.ensures c.in_ok-number.ensures.ok in
    record {
      once = c.intern-in-loop-n.ensures.once;
      pool = pool_more c.args.names.now c.loop-n.stems c.intern-in-loop-n.new.self c.loop-n.n c.in_ok-number.number.0 c.text.result.now c.text.ensures.text c.loop-n.invariant.pool interns;
      tagless = Interns-stays c.loop-n.stems c.intern-in-loop-n.new.self (stem_of c.text.result.now) c.in_ok-number.number.0 _ (codes "__anon") interns c.loop-n.invariant.tagless;
      count = count_more c.loop-n.of.items c.push.new.self.items c.loop-n.n c.in_ok-number.number.0 c.in_ok-push.ensures.items c.loop-n.invariant.count;
      stems = numbers_more c.args.names.now c.loop-n.stems c.intern-in-loop-n.new.self c.loop-n.of.items c.push.new.self.items c.loop-n.n c.in_ok-number.number.0 c.text.result.now c.text.ensures.text c.loop-n.invariant.count c.in_ok-push.ensures.items interns c.loop-n.invariant.stems;
    }

pub returns : goal.returns
returns c = are_stems c.args.names.now c.loop-n.stems _ c.loop-n.n (omega (arith, c.loop-n-test.false, c.len-n-end.ensures.count)) c.loop-n.invariant.count c.loop-n.invariant.once c.loop-n.invariant.pool c.loop-n.invariant.tagless c.loop-n.invariant.stems
