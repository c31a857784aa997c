-- Device: what the placing of members shows.
use Rattle.type_graph.specs.Layouts.{AggLayout, Placed}
use Rattle.layout_lp64.specs.declared.placing.AggregateLayout.{AggregateLayout}
use Rattle.layout_lp64.specs.declared.placing.Placing.{Placing as Inside}

abbrev pub placed_of : Inside → Placed
placed_of p = record { end = p.end; align = p.align; offsets = p.offsets.items }

abbrev pub seen : AggregateLayout → AggLayout
seen x = record { whole = x.whole; offsets = x.offsets.items }
