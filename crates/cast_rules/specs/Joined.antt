-- Device: the type that the code's own account of the second and third operands of a conditional tells.
use Rattle.std.specs.Prelude.{List}
use Rattle.type_graph.specs.declared.nodes.Node.{Node}
use Rattle.type_graph.specs.Shapes.{Shape, IntType, shape}
use Rattle.cast_rules.specs.declared.conditionals.Joining.{Joining}
use Rattle.cast_rules.specs.declared.conditionals.Joining.TheVariants.{Numbers, Same, Pointers}
use Rattle.cast_rules.specs.Seen.{met}

abbrev pub joined_in : List Node → Joining → Shape
joined_in nodes (Numbers kind) = IntType kind
joined_in nodes (Same of) = shape nodes of.0
joined_in nodes (Pointers m) = met nodes m
