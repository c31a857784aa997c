-- Device: what a tree stands for at each variant that holds a list, over the list.
use Rattle.std.proofs.Common.{◌≡◌, List, refl, sym, ap, ◌∙◌, Global}
use Rattle.std.specs.declared.vec.Vec.{Vec}
use Rattle.type_graph.specs.declared.nodes.Node.{Node}
use Rattle.cil_tree.specs.declared.expressions.Exp.{Exp, Row_of-Offset, end_of-Offset, more_of-Offset, items-the_row-Offset}
use Rattle.cil_tree.specs.declared.expressions.Exp.TheBlock.{hidden-the_row-Offset-0, items_hidden-the_row-Offset-0}
use Rattle.cil_tree.specs.declared.expressions.Exp.TheViews as exps
use Rattle.cil_tree.specs.declared.expressions.Offset.{Field, Index'}
use Rattle.cil_tree.specs.declared.expressions.Lval.{Lval}
use Rattle.cil_tree.specs.declared.statements.Stmt.{Stmt, Row_of-Stmt, end_of-Stmt, more_of-Stmt, items-the_row-Stmt}
use Rattle.cil_tree.specs.declared.statements.Stmt.TheBlock.{hidden-the_row-Stmt-0, items_hidden-the_row-Stmt-0}
use Rattle.cil_tree.specs.declared.statements.Stmt.TheViews as statements
use Rattle.cil_tree.specs.Tree as plain
use Rattle.cil_tree.specs.View.{exp_of, host_of, row_of, offsets_of, lval_of, stmt_of, block_of, stmts_of}

row_is : {m : _} (nodes : List Node) (k : Row_of-Offset m) → row_of nodes k ≡ offsets_of nodes (items-the_row-Offset m k)
row_is nodes end_of-Offset = refl
row_is nodes (more_of-Offset (Field number) k) = ap (plain.Field number) (row_is nodes k)
row_is nodes (more_of-Offset (Index' p index) k) = ap (plain.Index (exp_of nodes index)) (row_is nodes k)

held_place : (nodes : List Node) (l : Lval) → plain.Place (host_of nodes l.host) (row_of nodes (hidden-the_row-Offset-0 l.offsets)) ≡ lval_of nodes l
held_place nodes l = ap (plain.Place (host_of nodes l.host)) (row_is nodes (hidden-the_row-Offset-0 l.offsets) ∙ ap (offsets_of nodes) (items_hidden-the_row-Offset-0 l.offsets))

pub at_value : (nodes : List Node) (e : Exp) (l : Lval) → e ≡ exps.Lval l → exp_of nodes e ≡ plain.Value (lval_of nodes l)
at_value nodes e l is = ap (exp_of nodes) is ∙ ap plain.Value (held_place nodes l)

pub at_address : (nodes : List Node) (e : Exp) (l : Lval) → e ≡ exps.AddrOf l → exp_of nodes e ≡ plain.AddrOf (lval_of nodes l)
at_address nodes e l is = ap (exp_of nodes) is ∙ ap plain.AddrOf (held_place nodes l)

pub at_start : (nodes : List Node) (e : Exp) (l : Lval) → e ≡ exps.StartOf l → exp_of nodes e ≡ plain.StartOf (lval_of nodes l)
at_start nodes e l is = ap (exp_of nodes) is ∙ ap plain.StartOf (held_place nodes l)

block_is : {m : _} (nodes : List Node) (k : Row_of-Stmt m) → block_of nodes k ≡ stmts_of nodes (items-the_row-Stmt m k)
block_is nodes end_of-Stmt = refl
block_is nodes (more_of-Stmt first rest) = ap (plain.Seq (stmt_of nodes first)) (block_is nodes rest)

held_block : (nodes : List Node) (v : Vec Stmt Global) (xs : List Stmt) → xs ≡ v.items → block_of nodes (hidden-the_row-Stmt-0 v) ≡ stmts_of nodes xs
held_block nodes v xs same = block_is nodes (hidden-the_row-Stmt-0 v) ∙ ap (stmts_of nodes) (items_hidden-the_row-Stmt-0 v ∙ sym same)

pub at_if : (nodes : List Node) (s : Stmt) (e : Exp) (v w : Vec Stmt Global) (xs ys : List Stmt) → s ≡ statements.If e v w → xs ≡ v.items → ys ≡ w.items → stmt_of nodes s ≡ plain.If (exp_of nodes e) (stmts_of nodes xs) (stmts_of nodes ys)
at_if nodes s e v w xs ys is holds fails = ap (stmt_of nodes) is ∙ ap (λ b. plain.If (exp_of nodes e) b (block_of nodes (hidden-the_row-Stmt-0 w))) (held_block nodes v xs holds) ∙ ap (plain.If (exp_of nodes e) (stmts_of nodes xs)) (held_block nodes w ys fails)

pub at_switch : (nodes : List Node) (s : Stmt) (e : Exp) (v : Vec Stmt Global) (xs : List Stmt) → s ≡ statements.Switch e v → xs ≡ v.items → stmt_of nodes s ≡ plain.Switch (exp_of nodes e) (stmts_of nodes xs)
at_switch nodes s e v xs is same = ap (stmt_of nodes) is ∙ ap (plain.Switch (exp_of nodes e)) (held_block nodes v xs same)

pub at_loop : (nodes : List Node) (s : Stmt) (v : Vec Stmt Global) (xs : List Stmt) → s ≡ statements.Loop v → xs ≡ v.items → stmt_of nodes s ≡ plain.Loop (stmts_of nodes xs)
at_loop nodes s v xs is same = ap (stmt_of nodes) is ∙ ap plain.Loop (held_block nodes v xs same)

pub at_block : (nodes : List Node) (s : Stmt) (v : Vec Stmt Global) (xs : List Stmt) → s ≡ statements.Block v → xs ≡ v.items → stmt_of nodes s ≡ plain.Block (stmts_of nodes xs)
at_block nodes s v xs is same = ap (stmt_of nodes) is ∙ ap plain.Block (held_block nodes v xs same)
