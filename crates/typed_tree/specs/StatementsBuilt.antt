-- Definition: what is built: a statement that is seen, at each graph, as this one, and whose numbers of types are no greater than these.
use Rattle.std.specs.Prelude.{◌≡◌, ℕ, List}
use Rattle.type_graph.specs.declared.nodes.Node.{Node}
use Rattle.typed_tree.specs.declared.statements.TypedStmt.{TypedStmt}
use Rattle.typed_tree.specs.Statements.{Stmt}
use Rattle.typed_tree.specs.StatementView.{stmt_of, top_stmt}

pub record IsStatement (is : List Node → Stmt) (top : ℕ) (s : TypedStmt) : Type 0 where
  pub made : (nodes : List Node) → stmt_of nodes s ≡ is nodes
  pub greatest : top_stmt s ≡ top
