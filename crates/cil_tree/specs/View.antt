-- Definition: the plain tree that a tree of the code stands for: numbers of types are followed to shapes, and numbers of names to texts. A number of a type that is not there gives none, and one of a name that is not there the empty text, which no name has.
use Rattle.std.specs.Prelude.{ℕ, List, [], ◌∷◌, Option, Some, None, nat_lt, if◌then◌else◌, map, length, slice_index_or}
use Rattle.std.specs.Option.{option_map}
use Rattle.cil_base.specs.declared.numbers.NameId.{NameId}
use Rattle.cil_base.specs.declared.numbers.TypeId.{TypeId}
use Rattle.type_graph.specs.declared.nodes.Node.{Node}
use Rattle.type_graph.specs.Shapes.{Shape, shape}
use Rattle.cil_tree.specs.declared.expressions.Exp.{Exp, Const, Lval', Un', Bin', Cast', AddrOf', StartOf', Row_of-Offset, end_of-Offset, more_of-Offset}
use Rattle.cil_tree.specs.declared.expressions.Host.{Host, Global, Var, At'}
use Rattle.cil_tree.specs.declared.expressions.Offset.{Offset, Field, Index'}
use Rattle.cil_tree.specs.declared.expressions.Lval.{Lval}
use Rattle.cil_tree.specs.declared.statements.Callee.{Callee}
use Rattle.cil_tree.specs.declared.statements.Callee.TheVariants.{Direct, Through}
use Rattle.cil_tree.specs.declared.statements.Instr.{Instr}
use Rattle.cil_tree.specs.declared.statements.Instr.TheVariants.{Set, Call, Zero}
use Rattle.cil_tree.specs.declared.statements.Stmt.{Stmt, Instr as Do, If', Switch', Loop', Block', Label, Case, Default, Goto, Break, Return, Row_of-Stmt, end_of-Stmt, more_of-Stmt}
use Rattle.cil_tree.specs.declared.globals.Step.{Step}
use Rattle.cil_tree.specs.declared.globals.Step.TheVariants.{Field as ToField, Index as ToIndex}
use Rattle.cil_tree.specs.declared.globals.ImageItem.{ImageItem}
use Rattle.cil_tree.specs.declared.globals.Local.{Local}
use Rattle.cil_tree.specs.declared.globals.Body.{Body}
use Rattle.cil_tree.specs.declared.globals.GlobalDef.{GlobalDef}
use Rattle.cil_tree.specs.declared.globals.GlobalDef.TheVariants.{Declared, Zero as Zeros, Image, Body as Function}
use Rattle.cil_tree.specs.declared.globals.GlobalDecl.{GlobalDecl}
use Rattle.cil_tree.specs.declared.globals.CilUnit.{CilUnit}
use Rattle.cil_tree.specs.Tree as plain

-- the shape of a type, where the graph has it
abbrev pub type_at : List Node → TypeId → Option Shape
type_at nodes t = if nat_lt t.0 (length nodes) then Some (shape nodes t.0) else None

-- the text of a name
abbrev pub text_at : List (List ℕ) → NameId → List ℕ
text_at names n = slice_index_or names n.0 []

abbrev mutual
  pub exp_of : List Node → Exp → plain.Exp
  exp_of nodes (Const kind value) = plain.Const kind value
  exp_of nodes (Lval' host n offsets) = plain.Value (plain.Place (host_of nodes host) (row_of nodes offsets))
  exp_of nodes (Un' op p operand) = plain.Un op (exp_of nodes operand)
  exp_of nodes (Bin' op p left q right) = plain.Bin op (exp_of nodes left) (exp_of nodes right)
  exp_of nodes (Cast' to p operand) = plain.Cast (type_at nodes to) (exp_of nodes operand)
  exp_of nodes (AddrOf' host n offsets) = plain.AddrOf (plain.Place (host_of nodes host) (row_of nodes offsets))
  exp_of nodes (StartOf' host n offsets) = plain.StartOf (plain.Place (host_of nodes host) (row_of nodes offsets))

  pub host_of : List Node → Host → plain.Host
  host_of nodes (Global e) = plain.Global e.0
  host_of nodes (Var l) = plain.Var l.0
  host_of nodes (At' p pointer) = plain.At (exp_of nodes pointer)

  pub row_of : {m : _} → List Node → Row_of-Offset m → plain.Offsets
  row_of nodes end_of-Offset = plain.Here
  row_of nodes (more_of-Offset (Field number) more) = plain.Field number (row_of nodes more)
  row_of nodes (more_of-Offset (Index' p index) more) = plain.Index (exp_of nodes index) (row_of nodes more)

abbrev pub offsets_of : List Node → List Offset → plain.Offsets
offsets_of nodes [] = plain.Here
offsets_of nodes (Field number ∷ more) = plain.Field number (offsets_of nodes more)
offsets_of nodes (Index' p index ∷ more) = plain.Index (exp_of nodes index) (offsets_of nodes more)

abbrev pub lval_of : List Node → Lval → plain.Lval
lval_of nodes l = plain.Place (host_of nodes l.host) (offsets_of nodes l.offsets.items)

abbrev pub callee_of : List Node → Callee → plain.Callee
callee_of nodes (Direct e) = plain.Direct e.0
callee_of nodes (Through pointer) = plain.Through (exp_of nodes pointer)

abbrev pub instr_of : List Node → Instr → plain.Instr
instr_of nodes (Set place value) = plain.Set (lval_of nodes place) (exp_of nodes value)
instr_of nodes (Call result callee arguments) = plain.Call (option_map (lval_of nodes) result) (callee_of nodes callee) (map (exp_of nodes) arguments.items)
instr_of nodes (Zero place) = plain.Zero (lval_of nodes place)

abbrev mutual
  pub stmt_of : List Node → Stmt → plain.Stmt
  stmt_of nodes (Do instr) = plain.Do (instr_of nodes instr)
  stmt_of nodes (If' test m holds n fails) = plain.If (exp_of nodes test) (block_of nodes holds) (block_of nodes fails)
  stmt_of nodes (Switch' value n body) = plain.Switch (exp_of nodes value) (block_of nodes body)
  stmt_of nodes (Loop' n body) = plain.Loop (block_of nodes body)
  stmt_of nodes (Block' n body) = plain.Block (block_of nodes body)
  stmt_of nodes (Label l) = plain.Label l.0
  stmt_of nodes (Case kind value) = plain.Case kind value
  stmt_of nodes Default = plain.Default
  stmt_of nodes (Goto l) = plain.Goto l.0
  stmt_of nodes Break = plain.Break
  stmt_of nodes (Return value) = plain.Return (option_map (exp_of nodes) value)

  pub block_of : {m : _} → List Node → Row_of-Stmt m → plain.Stmts
  block_of nodes end_of-Stmt = plain.Done
  block_of nodes (more_of-Stmt first rest) = plain.Seq (stmt_of nodes first) (block_of nodes rest)

abbrev pub stmts_of : List Node → List Stmt → plain.Stmts
stmts_of nodes [] = plain.Done
stmts_of nodes (first ∷ rest) = plain.Seq (stmt_of nodes first) (stmts_of nodes rest)

abbrev pub step_of : Step → plain.Step
step_of (ToField number) = plain.ToField number
step_of (ToIndex index) = plain.ToIndex index

abbrev pub item_of : ImageItem → plain.Item
item_of x = record { path = map step_of x.path.items; value = x.value }

abbrev pub local_of : List Node → List (List ℕ) → Local → plain.Local
local_of nodes names x = record { name = text_at names x.name; type = type_at nodes x.ty }

abbrev pub body_of : List Node → List (List ℕ) → Body → plain.Body
body_of nodes names b = record {
  params = map (text_at names) b.params.items;
  locals = map (local_of nodes names) b.locals.items;
  labels = map (text_at names) b.labels.items;
  stmts = stmts_of nodes b.stmts.items;
}

abbrev pub definition_of : List Node → List (List ℕ) → GlobalDef → plain.Definition
definition_of nodes names Declared = plain.Declared
definition_of nodes names Zeros = plain.Zeros
definition_of nodes names (Image items) = plain.Image (map item_of items.items)
definition_of nodes names (Function body) = plain.Function (body_of nodes names body)

abbrev pub global_of : List Node → List (List ℕ) → GlobalDecl → plain.GlobalDecl
global_of nodes names x = record { name = text_at names x.name; type = type_at nodes x.ty; internal = x.internal; definition = definition_of nodes names x.def }

-- the program that a tree stands for, with the texts of a pool
abbrev pub program_of : List (List ℕ) → CilUnit → plain.Program
program_of names u = record { graph = u.graph; names = names; globals = map (global_of u.graph.nodes names) u.globals.items }
