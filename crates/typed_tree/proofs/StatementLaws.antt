-- Device: what a statement stands for that holds a list, over the list; and that it is seen the same in a graph that grew.
use Rattle.std.proofs.Common.{◌≡◌, ◌≤◌, max, List, [], ◌∷◌, length, Option, Some, None, refl, ap, ◌∙◌, Global}
use Rattle.std.specs.Option.{option_map}
use Rattle.std.specs.declared.vec.Vec.{Vec}
use Rattle.type_graph.specs.Arena.{Graph}
use Rattle.type_graph.specs.Growth.{Grows}
use Rattle.type_graph.specs.declared.nodes.Node.{Node}
use Rattle.typed_tree.specs.declared.expressions.TypedExp.{TypedExp}
use Rattle.typed_tree.specs.declared.initialisers.TypedInit.{TypedInit}
use Rattle.typed_tree.specs.declared.statements.TypedStmt.{TypedStmt, Expr, Declare, Block', If', Switch', While', Do', For', Label, Case, Default, Goto, Break, Continue, Return, Row_of-TypedStmt, end_of-TypedStmt, more_of-TypedStmt, items-the_row-TypedStmt}
use Rattle.typed_tree.specs.declared.statements.TypedStmt.TheBlock.{hidden-the_row-TypedStmt-0, items_hidden-the_row-TypedStmt-0}
use Rattle.typed_tree.specs.declared.statements.TypedStmt.TheViews as code
use Rattle.typed_tree.specs.Statements as plain
use Rattle.typed_tree.specs.StatementView.{stmt_of, stmts_row, stmts_of, top_maybe, top_maybe_init, top_stmt, top_stmts_row, top_stmts}
use Rattle.typed_tree.specs.Top.{top_of}
use Rattle.typed_tree.specs.View.{typed_of, typed_init_of}
use Rattle.typed_tree.proofs.Kept.{in_left, in_right, two, kept, inits_are_kept}

row_is : {m : _} (nodes : List Node) (k : Row_of-TypedStmt m) → stmts_row nodes k ≡ stmts_of nodes (items-the_row-TypedStmt m k)
row_is nodes end_of-TypedStmt = refl
row_is nodes (more_of-TypedStmt s k) = ap (plain.Seq (stmt_of nodes s)) (row_is nodes k)

held : (nodes : List Node) (v : Vec TypedStmt Global) → stmts_row nodes (hidden-the_row-TypedStmt-0 v) ≡ stmts_of nodes v.items
held nodes v = row_is nodes (hidden-the_row-TypedStmt-0 v) ∙ ap (stmts_of nodes) (items_hidden-the_row-TypedStmt-0 v)

pub at_block : (nodes : List Node) (s : TypedStmt) (v : Vec TypedStmt Global) → s ≡ code.Block v → stmt_of nodes s ≡ plain.Block (stmts_of nodes v.items)
at_block nodes s v is = ap (stmt_of nodes) is ∙ ap plain.Block (held nodes v)

pub at_if : (nodes : List Node) (s : TypedStmt) (e : TypedExp) (v w : Vec TypedStmt Global) → s ≡ code.If e v w → stmt_of nodes s ≡ plain.If (typed_of nodes e) (stmts_of nodes v.items) (stmts_of nodes w.items)
at_if nodes s e v w is = ap (stmt_of nodes) is ∙ two (plain.If (typed_of nodes e)) (held nodes v) (held nodes w)

pub at_switch : (nodes : List Node) (s : TypedStmt) (e : TypedExp) (v : Vec TypedStmt Global) → s ≡ code.Switch e v → stmt_of nodes s ≡ plain.Switch (typed_of nodes e) (stmts_of nodes v.items)
at_switch nodes s e v is = ap (stmt_of nodes) is ∙ ap (plain.Switch (typed_of nodes e)) (held nodes v)

pub at_while : (nodes : List Node) (s : TypedStmt) (e : TypedExp) (v : Vec TypedStmt Global) → s ≡ code.While e v → stmt_of nodes s ≡ plain.While (typed_of nodes e) (stmts_of nodes v.items)
at_while nodes s e v is = ap (stmt_of nodes) is ∙ ap (plain.While (typed_of nodes e)) (held nodes v)

pub at_do : (nodes : List Node) (s : TypedStmt) (v : Vec TypedStmt Global) (e : TypedExp) → s ≡ code.Do v e → stmt_of nodes s ≡ plain.Do (stmts_of nodes v.items) (typed_of nodes e)
at_do nodes s v e is = ap (stmt_of nodes) is ∙ ap (λ b. plain.Do b (typed_of nodes e)) (held nodes v)

pub at_for : (nodes : List Node) (s : TypedStmt) (v : Vec TypedStmt Global) (e f : Option TypedExp) (w : Vec TypedStmt Global) → s ≡ code.For v e f w → stmt_of nodes s ≡ plain.For (stmts_of nodes v.items) (option_map (typed_of nodes) e) (option_map (typed_of nodes) f) (stmts_of nodes w.items)
at_for nodes s v e f w is = ap (stmt_of nodes) is ∙ two (λ b c. plain.For b (option_map (typed_of nodes) e) (option_map (typed_of nodes) f) c) (held nodes v) (held nodes w)

maybe_kept : (g h : Graph) → Grows g h → (o : Option TypedExp) → top_maybe o ≤ length g.nodes → option_map (typed_of h.nodes) o ≡ option_map (typed_of g.nodes) o
maybe_kept g h grows None below = refl
maybe_kept g h grows (Some e) below = ap Some (kept g h grows e below)

maybe_init_kept : (g h : Graph) → Grows g h → (o : Option TypedInit) → top_maybe_init o ≤ length g.nodes → option_map (typed_init_of h.nodes) o ≡ option_map (typed_init_of g.nodes) o
maybe_init_kept g h grows None below = refl
maybe_init_kept g h grows (Some init) below = ap Some (inits_are_kept g h grows init.steps.items below)

mutual
  pub stmt_kept : (g h : Graph) → Grows g h → (s : TypedStmt) → top_stmt s ≤ length g.nodes → stmt_of h.nodes s ≡ stmt_of g.nodes s
  stmt_kept g h grows (Expr e) below = ap plain.Expr (kept g h grows e below)
  stmt_kept g h grows (Declare l init) below = ap (plain.Declare l.0) (maybe_init_kept g h grows init below)
  stmt_kept g h grows (Block' n items) below = ap plain.Block (row_kept g h grows items below)
  stmt_kept g h grows (If' e m holds n fails) below =
      let rest : max (top_stmts_row holds) (top_stmts_row fails) ≤ length g.nodes = in_right (top_of e) (max (top_stmts_row holds) (top_stmts_row fails)) _ below in
      ap (λ x. plain.If x (stmts_row h.nodes holds) (stmts_row h.nodes fails)) (kept g h grows e (in_left (top_of e) (max (top_stmts_row holds) (top_stmts_row fails)) _ below)) ∙ two (plain.If (typed_of g.nodes e)) (row_kept g h grows holds (in_left (top_stmts_row holds) (top_stmts_row fails) _ rest)) (row_kept g h grows fails (in_right (top_stmts_row holds) (top_stmts_row fails) _ rest))
  stmt_kept g h grows (Switch' e n body) below = two plain.Switch (kept g h grows e (in_left (top_of e) (top_stmts_row body) _ below)) (row_kept g h grows body (in_right (top_of e) (top_stmts_row body) _ below))
  stmt_kept g h grows (While' e n body) below = two plain.While (kept g h grows e (in_left (top_of e) (top_stmts_row body) _ below)) (row_kept g h grows body (in_right (top_of e) (top_stmts_row body) _ below))
  stmt_kept g h grows (Do' n body e) below = two plain.Do (row_kept g h grows body (in_right (top_of e) (top_stmts_row body) _ below)) (kept g h grows e (in_left (top_of e) (top_stmts_row body) _ below))
  stmt_kept g h grows (For' m start test step n body) below =
      let heads : max (top_maybe test) (top_maybe step) ≤ length g.nodes = in_left (max (top_maybe test) (top_maybe step)) (max (top_stmts_row start) (top_stmts_row body)) _ below in
      let lists : max (top_stmts_row start) (top_stmts_row body) ≤ length g.nodes = in_right (max (top_maybe test) (top_maybe step)) (max (top_stmts_row start) (top_stmts_row body)) _ below in
      two (λ x y. plain.For x (option_map (typed_of h.nodes) test) (option_map (typed_of h.nodes) step) y) (row_kept g h grows start (in_left (top_stmts_row start) (top_stmts_row body) _ lists)) (row_kept g h grows body (in_right (top_stmts_row start) (top_stmts_row body) _ lists)) ∙ two (λ x y. plain.For (stmts_row g.nodes start) x y (stmts_row g.nodes body)) (maybe_kept g h grows test (in_left (top_maybe test) (top_maybe step) _ heads)) (maybe_kept g h grows step (in_right (top_maybe test) (top_maybe step) _ heads))
  stmt_kept g h grows (Label l) below = refl
  stmt_kept g h grows (Case kind n) below = refl
  stmt_kept g h grows Default below = refl
  stmt_kept g h grows (Goto l) below = refl
  stmt_kept g h grows Break below = refl
  stmt_kept g h grows Continue below = refl
  stmt_kept g h grows (Return value) below = ap plain.Return (maybe_kept g h grows value below)

  row_kept : {m : _} (g h : Graph) → Grows g h → (k : Row_of-TypedStmt m) → top_stmts_row k ≤ length g.nodes → stmts_row h.nodes k ≡ stmts_row g.nodes k
  row_kept g h grows end_of-TypedStmt below = refl
  row_kept g h grows (more_of-TypedStmt s rest) below = two plain.Seq (stmt_kept g h grows s (in_left (top_stmt s) (top_stmts_row rest) _ below)) (row_kept g h grows rest (in_right (top_stmt s) (top_stmts_row rest) _ below))

pub stmts_kept : (g h : Graph) → Grows g h → (ss : List TypedStmt) → top_stmts ss ≤ length g.nodes → stmts_of h.nodes ss ≡ stmts_of g.nodes ss
stmts_kept g h grows [] below = refl
stmts_kept g h grows (s ∷ ss) below = two plain.Seq (stmt_kept g h grows s (in_left (top_stmt s) (top_stmts ss) _ below)) (stmts_kept g h grows ss (in_right (top_stmt s) (top_stmts ss) _ below))
