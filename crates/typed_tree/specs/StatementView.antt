-- Definition: the plain tree that a typed statement of the code stands for, and its greatest number of a type, and one more.
use Rattle.std.specs.Prelude.{ℕ, max, List, [], ◌∷◌, Option, Some, None}
use Rattle.std.specs.Option.{option_map}
use Rattle.type_graph.specs.declared.nodes.Node.{Node}
use Rattle.typed_tree.specs.declared.expressions.TypedExp.{TypedExp}
use Rattle.typed_tree.specs.declared.initialisers.TypedInit.{TypedInit}
use Rattle.typed_tree.specs.declared.statements.TypedStmt.{TypedStmt, Expr, Declare, Block', If', Switch', While', Do', For', Label, Case, Default, Goto, Break, Continue, Return, Row_of-TypedStmt, end_of-TypedStmt, more_of-TypedStmt}
use Rattle.typed_tree.specs.Statements as plain
use Rattle.typed_tree.specs.Top.{top_of, top_init}
use Rattle.typed_tree.specs.View.{typed_of, typed_init_of}

abbrev mutual
  pub stmt_of : List Node → TypedStmt → plain.Stmt
  stmt_of nodes (Expr e) = plain.Expr (typed_of nodes e)
  stmt_of nodes (Declare l init) = plain.Declare l.0 (option_map (typed_init_of nodes) init)
  stmt_of nodes (Block' n items) = plain.Block (stmts_row nodes items)
  stmt_of nodes (If' e m holds n fails) = plain.If (typed_of nodes e) (stmts_row nodes holds) (stmts_row nodes fails)
  stmt_of nodes (Switch' e n body) = plain.Switch (typed_of nodes e) (stmts_row nodes body)
  stmt_of nodes (While' e n body) = plain.While (typed_of nodes e) (stmts_row nodes body)
  stmt_of nodes (Do' n body e) = plain.Do (stmts_row nodes body) (typed_of nodes e)
  stmt_of nodes (For' m start test step n body) = plain.For (stmts_row nodes start) (option_map (typed_of nodes) test) (option_map (typed_of nodes) step) (stmts_row nodes body)
  stmt_of nodes (Label l) = plain.Label l.0
  stmt_of nodes (Case kind n) = plain.Case kind n
  stmt_of nodes Default = plain.Default
  stmt_of nodes (Goto l) = plain.Goto l.0
  stmt_of nodes Break = plain.Break
  stmt_of nodes Continue = plain.Continue
  stmt_of nodes (Return value) = plain.Return (option_map (typed_of nodes) value)

  pub stmts_row : {m : _} → List Node → Row_of-TypedStmt m → plain.Stmts
  stmts_row nodes end_of-TypedStmt = plain.Done
  stmts_row nodes (more_of-TypedStmt s rest) = plain.Seq (stmt_of nodes s) (stmts_row nodes rest)

abbrev pub stmts_of : List Node → List TypedStmt → plain.Stmts
stmts_of nodes [] = plain.Done
stmts_of nodes (s ∷ ss) = plain.Seq (stmt_of nodes s) (stmts_of nodes ss)

abbrev pub top_maybe : Option TypedExp → ℕ
top_maybe None = 0
top_maybe (Some e) = top_of e

abbrev pub top_maybe_init : Option TypedInit → ℕ
top_maybe_init None = 0
top_maybe_init (Some init) = top_init init

abbrev mutual
  pub top_stmt : TypedStmt → ℕ
  top_stmt (Expr e) = top_of e
  top_stmt (Declare l init) = top_maybe_init init
  top_stmt (Block' n items) = top_stmts_row items
  top_stmt (If' e m holds n fails) = max (top_of e) (max (top_stmts_row holds) (top_stmts_row fails))
  top_stmt (Switch' e n body) = max (top_of e) (top_stmts_row body)
  top_stmt (While' e n body) = max (top_of e) (top_stmts_row body)
  top_stmt (Do' n body e) = max (top_of e) (top_stmts_row body)
  top_stmt (For' m start test step n body) = max (max (top_maybe test) (top_maybe step)) (max (top_stmts_row start) (top_stmts_row body))
  top_stmt (Label l) = 0
  top_stmt (Case kind n) = 0
  top_stmt Default = 0
  top_stmt (Goto l) = 0
  top_stmt Break = 0
  top_stmt Continue = 0
  top_stmt (Return value) = top_maybe value

  pub top_stmts_row : {m : _} → Row_of-TypedStmt m → ℕ
  top_stmts_row end_of-TypedStmt = 0
  top_stmts_row (more_of-TypedStmt s rest) = max (top_stmt s) (top_stmts_row rest)

abbrev pub top_stmts : List TypedStmt → ℕ
top_stmts [] = 0
top_stmts (s ∷ ss) = max (top_stmt s) (top_stmts ss)
