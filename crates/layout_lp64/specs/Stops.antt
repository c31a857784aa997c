-- Definition: when layouts stop.
use Rattle.type_graph.specs.Arena.{Graph}
use Rattle.layout_lp64.specs.declared.layouts.LayoutStop.{LayoutStop}
use Rattle.layout_lp64.specs.declared.layouts.LayoutStop.TheVariants.{TooBig, Memory}
use Rattle.layout_lp64.specs.Tables.{IsLeastTooBig}

-- the least type that is too big is named; want of memory says nothing
abbrev pub StopsAt : Graph → LayoutStop → Type 0
StopsAt g (TooBig t) = IsLeastTooBig g t.0
StopsAt g Memory = Unit {0}
