use Rattle.c_elaboration.proofs.GraphTypes.{types_of_graph}
use Rattle.c_elaboration.proofs.laws.types_of_units_are_those_of_their_graph.Goals as goal

pub returns : goal.returns
returns c = types_of_graph
