-- Device: the lines that an aggregate or a global has in each part of a text.
use Rattle.std.specs.Prelude.{List, [], ◌∷◌}
use Rattle.type_graph.specs.declared.aggregates.Aggregate.{Aggregate}
use Rattle.cil_tree.specs.Tree.{GlobalDecl, Program}
use Rattle.cil_tree.specs.Lines.{Line}
use Rattle.cil_tree.specs.Text.{enum_lines, tag_lines, struct_lines, declaration_line, object_lines, function_lines}
use Rattle.cil_printer.specs.declared.aggregates.AggregatePart.{AggregatePart}
use Rattle.cil_printer.specs.declared.aggregates.AggregatePart.TheVariants.{Enums, Tags, Structs}
use Rattle.cil_printer.specs.declared.parts.GlobalPart.{GlobalPart}
use Rattle.cil_printer.specs.declared.parts.GlobalPart.TheVariants.{Declarations, Objects, Functions}

abbrev pub aggregate_lines : AggregatePart → Program → Aggregate → List Line
aggregate_lines Enums p x = enum_lines p x
aggregate_lines Tags p x = tag_lines p x
aggregate_lines Structs p x = struct_lines p x

abbrev pub global_lines : GlobalPart → Program → GlobalDecl → List Line
global_lines Declarations p x = declaration_line p x ∷ []
global_lines Objects p x = object_lines p x x.definition
global_lines Functions p x = function_lines p x x.definition
