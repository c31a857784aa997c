-- Device: words to write sample programs with.
use Rattle.std.specs.Prelude.{ℕ, ℤ, Bool, true, false, List, [], ◌∷◌, map, codes, Some, None}
use Rattle.std.specs.List.{list_all}
use Rattle.cil_base.specs.declared.constants.Constant.TheVariants as constant
use Rattle.cil_base.specs.declared.kinds.Abi.TheVariants.{Lp64}
use Rattle.cil_base.specs.declared.kinds.IntKind.TheVariants as kind
use Rattle.cil_base.specs.declared.operators.BinOp.TheVariants as op
use Rattle.cil_base.specs.declared.runs.Outcome.{Outcome}
use Rattle.type_graph.specs.Shapes.{Shape, Shapes, IntType, FuncType, NoTypes, MoreTypes}
use Rattle.type_graph.specs.Arena.{empty_graph}
use Rattle.cil_tree.specs.Tree.{Exp, Const, Value, Bin, Cast, Global, Var, At, Here, Lval, Place, Direct, Set, Call, Stmt, Do, If, Break, Return, Stmts, Done, Seq, ToIndex, Item, Local, Declared, Function, GlobalDecl, Program}
use Rattle.cil_tree.specs.Globals.{global_fits}
use Rattle.cil_semantics.specs.Runs.{RunCil}
use Rattle.cil_semantics.specs.Modes.{mode_of}

abbrev pub int : Shape
int = IntType kind.Int

abbrev pub program : List GlobalDecl → Program
program globals = record { graph = empty_graph Lp64; names = []; globals = globals }

-- each global of the program is well-formed
abbrev pub fits : Program → Bool
fits p = list_all (global_fits p) p.globals

abbrev pub local : List ℕ → Shape → Local
local name s = record { name = name; type = Some s }

abbrev pub function : Shape → List (List ℕ) → List ℕ → List Local → List (List ℕ) → Stmts → GlobalDecl
function s params name locals labels stmts = record { name = name; type = Some s; internal = false; definition = Function (record { params = params; locals = locals; labels = labels; stmts = stmts }) }

abbrev pub int_from : Shapes → Shape
int_from params = FuncType int params true false

abbrev pub main_of : List Local → List (List ℕ) → Stmts → GlobalDecl
main_of locals labels stmts = function (int_from NoTypes) [] (codes "main") locals labels stmts

abbrev pub declared : List ℕ → Shape → GlobalDecl
declared name s = record { name = name; type = Some s; internal = false; definition = Declared }

abbrev pub putchar : GlobalDecl
putchar = declared (codes "putchar") (int_from (MoreTypes int NoTypes))

abbrev pub number : ℕ → Exp
number n = Const kind.Int n

abbrev pub at : ℕ → Lval
at n = Place (Var n) Here

abbrev pub var : ℕ → Exp
var n = Value (at n)

abbrev pub pointed_by : Exp → Lval
pointed_by e = Place (At e) Here

abbrev pub global : ℕ → Exp
global n = Value (Place (Global n) Here)

abbrev pub to : Shape → Exp → Exp
to s e = Cast (Some s) e

abbrev pub sum : Exp → Exp → Exp
sum a b = Bin op.Add a b

abbrev pub set : ℕ → Exp → Stmt
set n e = Do (Set (at n) e)

abbrev pub call : ℕ → List Exp → Stmt
call f es = Do (Call None (Direct f) es)

abbrev pub call_to : ℕ → ℕ → List Exp → Stmt
call_to n f es = Do (Call (Some (at n)) (Direct f) es)

abbrev pub return : Exp → Stmt
return e = Return (Some e)

abbrev pub stmts_of : List Stmt → Stmts
stmts_of [] = Done
stmts_of (x ∷ xs) = Seq x (stmts_of xs)

-- a loop goes on while the test holds
abbrev pub unless : Exp → Stmt
unless e = If e Done (Seq Break Done)

abbrev pub element : ℕ → ℤ → Item
element i v = record { path = ToIndex i ∷ []; value = constant.Int kind.Int v }

-- the outcomes of a program alone, without input, at some bounds
abbrev pub outcomes : Program → List ℕ → List Outcome
outcomes p bounds = map (RunCil (p ∷ []) (mode_of p) (codes "p" ∷ []) []) bounds
