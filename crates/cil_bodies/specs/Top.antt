-- Definition: the greatest number of a type in a tree of CIL, and one more: where it is at most the number of a graph's types, each number is one of them.
use Rattle.std.specs.Prelude.{ℕ, suc, max, List, [], ◌∷◌, Option, Some, None}
use Rattle.cil_tree.specs.declared.expressions.Exp.{Exp, Const, Lval', Un', Bin', Cast', AddrOf', StartOf', Row_of-Offset, end_of-Offset, more_of-Offset}
use Rattle.cil_tree.specs.declared.expressions.Host.{Host, Global, Var, At'}
use Rattle.cil_tree.specs.declared.expressions.Offset.{Offset, Field, Index'}
use Rattle.cil_tree.specs.declared.expressions.Lval.{Lval}
use Rattle.cil_tree.specs.declared.statements.Callee.{Callee}
use Rattle.cil_tree.specs.declared.statements.Callee.TheVariants.{Direct, Through}
use Rattle.cil_tree.specs.declared.statements.Instr.{Instr}
use Rattle.cil_tree.specs.declared.statements.Instr.TheVariants.{Set, Call, Zero}
use Rattle.cil_tree.specs.declared.statements.Stmt.{Stmt, Instr as Do, If', Switch', Loop', Block', Label, Case, Default, Goto, Break, Return, Row_of-Stmt, end_of-Stmt, more_of-Stmt}
use Rattle.cil_tree.specs.declared.globals.Body.{Body}
use Rattle.cil_tree.specs.declared.globals.Local.{Local}

abbrev mutual
  pub top_exp : Exp → ℕ
  top_exp (Const kind value) = 0
  top_exp (Lval' host n offsets) = max (top_host host) (top_row offsets)
  top_exp (Un' op p operand) = top_exp operand
  top_exp (Bin' op p left q right) = max (top_exp left) (top_exp right)
  top_exp (Cast' to p operand) = max (suc to.0) (top_exp operand)
  top_exp (AddrOf' host n offsets) = max (top_host host) (top_row offsets)
  top_exp (StartOf' host n offsets) = max (top_host host) (top_row offsets)

  pub top_host : Host → ℕ
  top_host (Global e) = 0
  top_host (Var l) = 0
  top_host (At' p pointer) = top_exp pointer

  pub top_row : {m : _} → Row_of-Offset m → ℕ
  top_row end_of-Offset = 0
  top_row (more_of-Offset (Field number) more) = top_row more
  top_row (more_of-Offset (Index' p index) more) = max (top_exp index) (top_row more)

abbrev pub top_offsets : List Offset → ℕ
top_offsets [] = 0
top_offsets (Field number ∷ more) = top_offsets more
top_offsets (Index' p index ∷ more) = max (top_exp index) (top_offsets more)

abbrev pub top_lval : Lval → ℕ
top_lval l = max (top_host l.host) (top_offsets l.offsets.items)

abbrev pub top_exps : List Exp → ℕ
top_exps [] = 0
top_exps (e ∷ es) = max (top_exp e) (top_exps es)

abbrev pub top_callee : Callee → ℕ
top_callee (Direct e) = 0
top_callee (Through pointer) = top_exp pointer

abbrev pub top_result : Option Lval → ℕ
top_result None = 0
top_result (Some l) = top_lval l

abbrev pub top_value : Option Exp → ℕ
top_value None = 0
top_value (Some e) = top_exp e

abbrev pub top_instr : Instr → ℕ
top_instr (Set place value) = max (top_lval place) (top_exp value)
top_instr (Call result callee arguments) = max (top_result result) (max (top_callee callee) (top_exps arguments.items))
top_instr (Zero place) = top_lval place

abbrev mutual
  pub top_stmt : Stmt → ℕ
  top_stmt (Do instr) = top_instr instr
  top_stmt (If' test m holds n fails) = max (top_exp test) (max (top_block holds) (top_block fails))
  top_stmt (Switch' value n body) = max (top_exp value) (top_block body)
  top_stmt (Loop' n body) = top_block body
  top_stmt (Block' n body) = top_block body
  top_stmt (Label l) = 0
  top_stmt (Case kind value) = 0
  top_stmt Default = 0
  top_stmt (Goto l) = 0
  top_stmt Break = 0
  top_stmt (Return value) = top_value value

  pub top_block : {m : _} → Row_of-Stmt m → ℕ
  top_block end_of-Stmt = 0
  top_block (more_of-Stmt first rest) = max (top_stmt first) (top_block rest)

abbrev pub top_stmts : List Stmt → ℕ
top_stmts [] = 0
top_stmts (first ∷ rest) = max (top_stmt first) (top_stmts rest)

abbrev pub top_locals : List Local → ℕ
top_locals [] = 0
top_locals (l ∷ ls) = max (suc l.ty.0) (top_locals ls)

abbrev pub top_body : Body → ℕ
top_body b = max (top_locals b.locals.items) (top_stmts b.stmts.items)
