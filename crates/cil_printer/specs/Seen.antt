-- Device: types of the code as shapes.
use Rattle.std.specs.Prelude.{Bool, true, false, Option, Some, None, List, [], ◌∷◌, map}
use Rattle.std.specs.Option.{option_and_then}
use Rattle.cil_base.specs.declared.numbers.NameId.{NameId}
use Rattle.cil_base.specs.declared.numbers.TypeId.{TypeId}
use Rattle.cil_tree.specs.declared.globals.ImageItem.{ImageItem}
use Rattle.cil_tree.specs.Declarators.{declared}
use Rattle.type_graph.specs.declared.nodes.Node.{Node}
use Rattle.type_graph.specs.Shapes.{Shape, PtrType, shape}
use Rattle.cil_tree.specs.declared.expressions.Exp.{Exp}
use Rattle.cil_tree.specs.Tree as plain
use Rattle.cil_base.specs.declared.operators.BinOp.{BinOp}
use Rattle.cil_base.specs.declared.operators.BinOp.TheVariants.{Add, Sub}
use Rattle.cil_tree.specs.View.{exp_of, item_of, type_at, text_at, local_of, program_of}
use Rattle.type_graph.specs.declared.aggregates.Member.{Member}
use Rattle.cil_tree.specs.Lines.{Token}
use Rattle.cil_tree.specs.Text.{member_name, exp_tokens, item_tokens}
use Rattle.cil_tree.specs.Typing.{Scope}
use Rattle.cil_printer.specs.declared.function.Function.{Function}
use Rattle.cil_printer.specs.declared.program.Program.{Program}

-- the program that is printed
abbrev pub tree_of : Program → plain.Program
tree_of s = program_of s.names.now s.unit.now

-- the shape of a type, where there is a type and the graph has it
abbrev pub seen : List Node → Option TypeId → Option Shape
seen nodes t = option_and_then (type_at nodes) t

-- the function whose statements are printed
abbrev pub scope_in : Function → Scope
scope_in f = record {
  program = tree_of f.program.now;
  locals = map (local_of f.program.now.unit.now.graph.nodes f.program.now.names.now) f.locals.now;
  labels = map (text_at f.program.now.names.now) f.labels.now;
}

abbrev pub nodes_in : Function → List Node
nodes_in f = f.program.now.unit.now.graph.nodes

-- what a sum or difference with a pointer points to, from what its operands point to
abbrev pub moved : BinOp → Option Shape → Option Shape → Option Shape
moved Add (Some s) o = Some s
moved Add None o = o
moved Sub (Some s) None = Some s
moved _ _ _ = None

-- the name of a member, where there is one
abbrev pub name_of_member : plain.Program → Option Member → Token
name_of_member p m = elim m [ None ↦ [] | Some x ↦ member_name p x ]

-- the tokens of expressions, one by one
abbrev pub exp_parts : Scope → List Node → List Exp → List (List Token)
exp_parts c nodes [] = []
exp_parts c nodes (e ∷ es) = exp_tokens c (exp_of nodes e) ∷ exp_parts c nodes es

-- the tokens of what is returned
abbrev pub returned_tokens : Scope → Option plain.Exp → List Token
returned_tokens c None = []
returned_tokens c (Some e) = exp_tokens c e

abbrev pub is_pointer_shape : Shape → Bool
is_pointer_shape (PtrType q s) = true
is_pointer_shape _ = false

-- the tokens of items, one by one
abbrev pub item_parts : plain.Program → Option Shape → List ImageItem → List (List Token)
item_parts p s [] = []
item_parts p s (x ∷ xs) = item_tokens p s (item_of x) ∷ item_parts p s xs

-- the parameters of a definition, one by one
abbrev pub named_parts : plain.Program → List TypeId → List NameId → List (List Token)
named_parts p [] names = []
named_parts p (t ∷ ts) [] = []
named_parts p (t ∷ ts) (n ∷ names) = declared p (shape p.graph.nodes t.0) (text_at p.names n ∷ []) ∷ named_parts p ts names
