-- Device: each type in a well-formed program's trees can be spelled, since it is one of its graph's.
use Rattle.std.proofs.Common.{ℕ, nat_lt, Bool, true, false, cond, List, [], ◌∷◌, length, map, Option, Some, None, sym, ap, subst}
use Rattle.std.specs.Option.{option_map}
use Rattle.cil_base.specs.declared.numbers.TypeId.{TypeId}
use Rattle.type_graph.specs.declared.nodes.Node.{Node}
use Rattle.type_graph.specs.Shapes.{shape}
use Rattle.cil_tree.specs.declared.expressions.Exp.{Exp, Const, Lval', Un', Bin', Cast', AddrOf', StartOf', Row_of-Offset, end_of-Offset, more_of-Offset}
use Rattle.cil_tree.specs.declared.expressions.Host.{Host, Global, Var, At'}
use Rattle.cil_tree.specs.declared.expressions.Offset.{Offset, Field, Index'}
use Rattle.cil_tree.specs.declared.expressions.Lval.{Lval}
use Rattle.cil_tree.specs.declared.statements.Callee.{Callee}
use Rattle.cil_tree.specs.declared.statements.Callee.TheVariants.{Direct, Through}
use Rattle.cil_tree.specs.declared.statements.Instr.{Instr}
use Rattle.cil_tree.specs.declared.statements.Instr.TheVariants.{Set, Call, Zero}
use Rattle.cil_tree.specs.declared.statements.Stmt.{Stmt, Instr as Do, If', Switch', Loop', Block', Label, Case, Default, Goto, Break, Return, Row_of-Stmt, end_of-Stmt, more_of-Stmt}
use Rattle.cil_tree.specs.declared.globals.Local.{Local}
use Rattle.cil_tree.specs.declared.globals.GlobalDef.{GlobalDef}
use Rattle.cil_tree.specs.declared.globals.GlobalDef.TheVariants.{Declared, Zero as Zeros, Image, Body as Function}
use Rattle.cil_tree.specs.declared.globals.GlobalDecl.{GlobalDecl}
use Rattle.cil_tree.specs.Tree as plain
use Rattle.cil_tree.specs.View.{type_at, exp_of, host_of, row_of, offsets_of, lval_of, callee_of, instr_of, stmt_of, block_of, stmts_of, local_of, definition_of, global_of}
use Rattle.cil_tree.specs.Programs.{IsProgram}
use Rattle.cil_text.proofs.TypesBack.{IsShape}
use Rattle.cil_text.proofs.Told.{CastFits, CanCast, HostCast, OffsetsCast, CanCastIn}
use Rattle.cil_text.proofs.StmtsThere.{ArgsCast, ResultCast, CalleeCast, InstrCast, StmtCast, StmtsCast}
use Rattle.cil_text.proofs.ObjectsBack.{EachGlobal}
use Rattle.cil_text.proofs.ShapesThere.{shape_there}

-- each type's shape can be spelled
abbrev pub Good : plain.Program → List Node → Type 0
Good p nodes = (t : ℕ) → IsShape p (shape nodes t)

type_cast : (p : plain.Program) (nodes : List Node) → Good p nodes → (t : TypeId) → CastFits p (type_at nodes t)
type_cast p nodes good t = by (nat_lt t.0 (length nodes))
  where
    by : (b : Bool) → CastFits p (cond b (Some (shape nodes t.0)) None)
    by true = good t.0
    by false = tt

mutual
  exp_cast : (p : plain.Program) (nodes : List Node) → Good p nodes → (e : Exp) → CanCast p (exp_of nodes e)
  exp_cast p nodes good (Const kind value) = tt
  exp_cast p nodes good (Lval' host n offsets) = (host_cast p nodes good host, row_cast p nodes good offsets)
  exp_cast p nodes good (Un' op a operand) = exp_cast p nodes good operand
  exp_cast p nodes good (Bin' op a left b right) = (exp_cast p nodes good left, exp_cast p nodes good right)
  exp_cast p nodes good (Cast' to a operand) = (type_cast p nodes good to, exp_cast p nodes good operand)
  exp_cast p nodes good (AddrOf' host n offsets) = (host_cast p nodes good host, row_cast p nodes good offsets)
  exp_cast p nodes good (StartOf' host n offsets) = (host_cast p nodes good host, row_cast p nodes good offsets)

  host_cast : (p : plain.Program) (nodes : List Node) → Good p nodes → (h : Host) → HostCast p (host_of nodes h)
  host_cast p nodes good (Global e) = tt
  host_cast p nodes good (Var l) = tt
  host_cast p nodes good (At' a pointer) = exp_cast p nodes good pointer

  row_cast : {m : _} (p : plain.Program) (nodes : List Node) → Good p nodes → (r : Row_of-Offset m) → OffsetsCast p (row_of nodes r)
  row_cast p nodes good end_of-Offset = tt
  row_cast p nodes good (more_of-Offset (Field number) more) = row_cast p nodes good more
  row_cast p nodes good (more_of-Offset (Index' a index) more) = (exp_cast p nodes good index, row_cast p nodes good more)

offsets_cast : (p : plain.Program) (nodes : List Node) → Good p nodes → (os : List Offset) → OffsetsCast p (offsets_of nodes os)
offsets_cast p nodes good [] = tt
offsets_cast p nodes good (Field number ∷ more) = offsets_cast p nodes good more
offsets_cast p nodes good (Index' a index ∷ more) = (exp_cast p nodes good index, offsets_cast p nodes good more)

lval_cast : (p : plain.Program) (nodes : List Node) → Good p nodes → (l : Lval) → CanCastIn p (lval_of nodes l)
lval_cast p nodes good l = (host_cast p nodes good l.host, offsets_cast p nodes good l.offsets.items)

args_cast : (p : plain.Program) (nodes : List Node) → Good p nodes → (es : List Exp) → ArgsCast p (map (exp_of nodes) es)
args_cast p nodes good [] = tt
args_cast p nodes good (e ∷ es) = (exp_cast p nodes good e, args_cast p nodes good es)

result_cast : (p : plain.Program) (nodes : List Node) → Good p nodes → (o : Option Lval) → ResultCast p (option_map (lval_of nodes) o)
result_cast p nodes good None = tt
result_cast p nodes good (Some l) = lval_cast p nodes good l

callee_cast : (p : plain.Program) (nodes : List Node) → Good p nodes → (f : Callee) → CalleeCast p (callee_of nodes f)
callee_cast p nodes good (Direct e) = tt
callee_cast p nodes good (Through pointer) = exp_cast p nodes good pointer

instr_cast : (p : plain.Program) (nodes : List Node) → Good p nodes → (i : Instr) → InstrCast p (instr_of nodes i)
instr_cast p nodes good (Set place value) = (lval_cast p nodes good place, exp_cast p nodes good value)
instr_cast p nodes good (Call result callee arguments) = (result_cast p nodes good result, callee_cast p nodes good callee, args_cast p nodes good arguments.items)
instr_cast p nodes good (Zero place) = lval_cast p nodes good place

mutual
  stmt_cast : (p : plain.Program) (nodes : List Node) → Good p nodes → (s : Stmt) → StmtCast p (stmt_of nodes s)
  stmt_cast p nodes good (Do instr) = instr_cast p nodes good instr
  stmt_cast p nodes good (If' test m holds n fails) = (exp_cast p nodes good test, block_cast p nodes good holds, block_cast p nodes good fails)
  stmt_cast p nodes good (Switch' value n body) = (exp_cast p nodes good value, block_cast p nodes good body)
  stmt_cast p nodes good (Loop' n body) = block_cast p nodes good body
  stmt_cast p nodes good (Block' n body) = block_cast p nodes good body
  stmt_cast p nodes good (Label l) = tt
  stmt_cast p nodes good (Case kind value) = tt
  stmt_cast p nodes good Default = tt
  stmt_cast p nodes good (Goto l) = tt
  stmt_cast p nodes good Break = tt
  stmt_cast p nodes good (Return None) = tt
  stmt_cast p nodes good (Return (Some e)) = exp_cast p nodes good e

  block_cast : {m : _} (p : plain.Program) (nodes : List Node) → Good p nodes → (r : Row_of-Stmt m) → StmtsCast p (block_of nodes r)
  block_cast p nodes good end_of-Stmt = tt
  block_cast p nodes good (more_of-Stmt first rest) = (stmt_cast p nodes good first, block_cast p nodes good rest)

stmts_cast : (p : plain.Program) (nodes : List Node) → Good p nodes → (ss : List Stmt) → StmtsCast p (stmts_of nodes ss)
stmts_cast p nodes good [] = tt
stmts_cast p nodes good (first ∷ rest) = (stmt_cast p nodes good first, stmts_cast p nodes good rest)

-- globals

abbrev pub LocalsCast : plain.Program → List plain.Local → Type 0
LocalsCast p [] = Unit {0}
LocalsCast p (x ∷ xs) = CastFits p x.type × LocalsCast p xs

abbrev pub DefinitionCast : plain.Program → plain.Definition → Type 0
DefinitionCast p (plain.Function b) = StmtsCast p b.stmts × LocalsCast p b.locals
DefinitionCast p _ = Unit {0}

abbrev pub GlobalCast : plain.Program → plain.GlobalDecl → Type 0
GlobalCast p x = CastFits p x.type × DefinitionCast p x.definition

locals_cast : (p : plain.Program) (nodes : List Node) (names : List (List ℕ)) → Good p nodes → (xs : List Local) → LocalsCast p (map (local_of nodes names) xs)
locals_cast p nodes names good [] = tt
locals_cast p nodes names good (x ∷ xs) = (type_cast p nodes good x.ty, locals_cast p nodes names good xs)

definition_cast : (p : plain.Program) (nodes : List Node) (names : List (List ℕ)) → Good p nodes → (d : GlobalDef) → DefinitionCast p (definition_of nodes names d)
definition_cast p nodes names good Declared = tt
definition_cast p nodes names good Zeros = tt
definition_cast p nodes names good (Image items) = tt
definition_cast p nodes names good (Function b) = (stmts_cast p nodes good b.stmts.items, locals_cast p nodes names good b.locals.items)

globals_cast : (p : plain.Program) (nodes : List Node) (names : List (List ℕ)) → Good p nodes → (xs : List GlobalDecl) → EachGlobal (GlobalCast p) (map (global_of nodes names) xs)
globals_cast p nodes names good [] = tt
globals_cast p nodes names good (x ∷ xs) = ((type_cast p nodes good x.ty, definition_cast p nodes names good x.def), globals_cast p nodes names good xs)

pub casts_there : (p : plain.Program) → IsProgram p → EachGlobal (GlobalCast p) p.globals
casts_there p is =
    let good : Good p is.unit.graph.nodes = subst (λ g. (t : ℕ) → IsShape p (shape g.nodes t)) (sym (ap (λ (r : plain.Program). r.graph) is.seen)) (shape_there p is.arena is.types is.names) in
    subst (EachGlobal (GlobalCast p)) (ap (λ (r : plain.Program). r.globals) is.seen) (globals_cast p is.unit.graph.nodes p.names good is.unit.globals.items)
