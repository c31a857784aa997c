use Rattle.type_iso.proofs.OrderLaws.{listed_start, listed_step}
use Rattle.type_iso.proofs.OrderSteps.{get_read}
use Rattle.type_iso.proofs.ordering.listed.Goals as goal

pub loop-k-init : goal.loop-k-init
loop-k-init c = λ ts st vs settled needs r f e. listed_start ts c.args.aggregates st vs settled needs r c.args.come.now f c.args.enums.items e

pub loop-k-preserved : goal.loop-k-preserved
loop-k-preserved c = λ ts st vs settled needs r f e. listed_step ts c.args.aggregates st vs settled needs r c.args.come.now f c.loop-k.k _ c.loop-k.order.items c.list.new.order.items (get_read c.args.come.now c.loop-k.k _ c.loop-k-test.true) c.in_ok-list.ensures (c.loop-k.invariant ts st vs settled needs r f e)

pub returns : goal.returns
returns c = λ ts st vs settled needs r f e. (c.loop-k.invariant ts st vs settled needs r f e).order_so_far
