use Rattle.map_graph.proofs.LayoutsMapped.{layout_mapped, offset_mapped}
use Rattle.map_graph.proofs.laws.mapped_types_keep_layouts.Goals as goal

pub returns-clause-types : goal.returns-clause-types
returns-clause-types c = layout_mapped

pub returns-clause-members : goal.returns-clause-members
returns-clause-members c = offset_mapped
