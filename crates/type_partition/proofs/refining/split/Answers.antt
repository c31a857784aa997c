use Rattle.type_partition.specs.Keys.{num_at}
use Rattle.type_things.specs.Webs.{things_of}
use Rattle.type_partition.proofs.KeyLaws.{ranked_all, ranked_few}
use Rattle.type_partition.proofs.RefineLaws.{ranks_step, ranks_end, fits_here}
use Rattle.type_partition.proofs.refining.split.Goals as goal

pub loop-x-preserved : goal.loop-x-preserved
loop-x-preserved c =
    ranks_step (things_of c.args.web.now) c.loop-x.keys.keys c.signature.new.keys.keys (num_at c.args.numbers.now) c.loop-x.seen.keys c.rank.new.seen.keys c.loop-x.next.items c.push.new.self.items c.loop-x.x c.in_ok-n.n c.in_ok-rank.field-0
    c.loop-x.invariant c.in_ok-n.ensures.grown c.in_ok-n.ensures.distinct c.in_ok-n.ensures.signed c.in_ok-rank.ensures.grown c.in_ok-rank.ensures.distinct c.in_ok-rank.ensures.there c.in_ok-rank.ensures.count c.in_ok-push.ensures.items

pub returns-clause-split : goal.returns-clause-split
returns-clause-split c = ranked_all (things_of c.args.web.now) c.loop-x.keys.keys (num_at c.args.numbers.now) c.loop-x.seen.keys c.loop-x.next.items c.args.web.now.aggregates (ranks_end (things_of c.args.web.now) c.loop-x.keys.keys (num_at c.args.numbers.now) c.loop-x.seen.keys c.loop-x.next.items c.loop-x.x c.args.web.now.aggregates c.loop-x-test.false c.loop-x.auto.x-end c.loop-x.invariant)

pub returns-clause-few : goal.returns-clause-few
returns-clause-few c = ranked_few (things_of c.args.web.now) c.loop-x.keys.keys (num_at c.args.numbers.now) c.loop-x.seen.keys c.loop-x.next.items c.args.web.now.aggregates (ranks_end (things_of c.args.web.now) c.loop-x.keys.keys (num_at c.args.numbers.now) c.loop-x.seen.keys c.loop-x.next.items c.loop-x.x c.args.web.now.aggregates c.loop-x-test.false c.loop-x.auto.x-end c.loop-x.invariant)

pub returns-clause-fits : goal.returns-clause-fits
returns-clause-fits c = fits_here c.args.numbers.now c.type_inv.numbers
