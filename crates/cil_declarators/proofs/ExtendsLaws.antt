-- Device: what reading leaves of a graph, step by step.
use Rattle.std.proofs.Common.{◌≡◌, refl, ◌∙◌}
use Rattle.type_graph.specs.Arena.{Graph}
use Rattle.type_graph.specs.Growth.{Grows, KeepsAggregates}
use Rattle.type_graph.proofs.GrowthLaws.{grows_none, grows_twice}
use Rattle.cil_declarators.specs.Extends.{Extends}

pub extends_none : (g : Graph) → Extends g g
extends_none g = record { grows = grows_none g; keeps = (refl, refl) }

pub extends_by : (g h : Graph) → Grows g h → KeepsAggregates g h → Extends g h
extends_by g h grows keeps = record { grows = grows; keeps = keeps }

pub extends_twice : (f g h : Graph) → Extends f g → Extends g h → Extends f h
extends_twice f g h a b = record { grows = grows_twice f g h a.grows b.grows; keeps = (b.keeps.0 ∙ a.keeps.0, b.keeps.1 ∙ a.keeps.1) }

pub extends_grows : (g h : Graph) → Extends g h → Grows g h
extends_grows g h a = a.grows

pub extends_keeps : (g h : Graph) → Extends g h → KeepsAggregates g h
extends_keeps g h a = a.keeps

pub extends_aggs : (g h : Graph) → Extends g h → h.aggs ≡ g.aggs
extends_aggs g h a = a.keeps.0
