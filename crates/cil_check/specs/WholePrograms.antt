-- Device: the rules of a program but for those of its types, at once.
use Rattle.std.specs.Prelude.{Bool, ◌&&◌, not}
use Rattle.std.specs.List.{list_all}
use Rattle.type_graph.specs.Shapes.{Shape}
use Rattle.cil_tree.specs.Tree.{Program}
use Rattle.cil_tree.specs.Typing.{is_void, is_function}
use Rattle.cil_tree.specs.Globals.{global_fits}
use Rattle.cil_check.specs.FileNames.{names_rules}

-- neither void nor a function
abbrev pub is_object_type : Shape → Bool
is_object_type s = not (is_void s) && not (is_function s)

abbrev pub parts_rules : Program → Bool
parts_rules p = names_rules p && list_all (global_fits p) p.globals
