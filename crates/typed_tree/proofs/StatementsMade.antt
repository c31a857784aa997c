-- Device: statements that hold lists, as they are built: what they stand for, and their greatest number of a type, over the lists.
use Rattle.std.proofs.Common.{◌≡◌, ℕ, max, List, [], ◌∷◌, Option, refl, ap, ◌∙◌, Global}
use Rattle.std.specs.Option.{option_map}
use Rattle.std.specs.declared.vec.Vec.{Vec}
use Rattle.typed_tree.specs.declared.expressions.TypedExp.{TypedExp}
use Rattle.typed_tree.specs.declared.statements.TypedStmt.{TypedStmt, Row_of-TypedStmt, end_of-TypedStmt, more_of-TypedStmt, items-the_row-TypedStmt}
use Rattle.typed_tree.specs.declared.statements.TypedStmt.TheBlock.{hidden-the_row-TypedStmt-0, items_hidden-the_row-TypedStmt-0}
use Rattle.typed_tree.specs.declared.statements.TypedStmt.TheViews as code
use Rattle.typed_tree.specs.Statements as plain
use Rattle.typed_tree.specs.StatementsBuilt.{IsStatement}
use Rattle.typed_tree.specs.StatementView.{stmts_of, top_maybe, top_stmt, top_stmts_row, top_stmts}
use Rattle.typed_tree.specs.Top.{top_of}
use Rattle.typed_tree.specs.View.{typed_of}
use Rattle.typed_tree.proofs.Kept.{two}
use Rattle.typed_tree.proofs.StatementLaws.{at_block, at_if, at_switch, at_while, at_do, at_for}

top_is : {m : _} (k : Row_of-TypedStmt m) → top_stmts_row k ≡ top_stmts (items-the_row-TypedStmt m k)
top_is end_of-TypedStmt = refl
top_is (more_of-TypedStmt s k) = ap (max (top_stmt s)) (top_is k)

held : (v : Vec TypedStmt Global) → top_stmts_row (hidden-the_row-TypedStmt-0 v) ≡ top_stmts v.items
held v = top_is (hidden-the_row-TypedStmt-0 v) ∙ ap top_stmts (items_hidden-the_row-TypedStmt-0 v)

pub block_is : (v : Vec TypedStmt Global) → IsStatement (λ nodes. plain.Block (stmts_of nodes v.items)) (top_stmts v.items) (code.Block v)
block_is v = record { made = λ nodes. at_block nodes (code.Block v) v refl; greatest = held v }

pub if_is : (e : TypedExp) (v w : Vec TypedStmt Global) → IsStatement (λ nodes. plain.If (typed_of nodes e) (stmts_of nodes v.items) (stmts_of nodes w.items)) (max (top_of e) (max (top_stmts v.items) (top_stmts w.items))) (code.If e v w)
if_is e v w = record { made = λ nodes. at_if nodes (code.If e v w) e v w refl; greatest = ap (max (top_of e)) (two max (held v) (held w)) }

pub switch_is : (e : TypedExp) (v : Vec TypedStmt Global) → IsStatement (λ nodes. plain.Switch (typed_of nodes e) (stmts_of nodes v.items)) (max (top_of e) (top_stmts v.items)) (code.Switch e v)
switch_is e v = record { made = λ nodes. at_switch nodes (code.Switch e v) e v refl; greatest = ap (max (top_of e)) (held v) }

pub while_is : (e : TypedExp) (v : Vec TypedStmt Global) → IsStatement (λ nodes. plain.While (typed_of nodes e) (stmts_of nodes v.items)) (max (top_of e) (top_stmts v.items)) (code.While e v)
while_is e v = record { made = λ nodes. at_while nodes (code.While e v) e v refl; greatest = ap (max (top_of e)) (held v) }

pub do_is : (v : Vec TypedStmt Global) (e : TypedExp) → IsStatement (λ nodes. plain.Do (stmts_of nodes v.items) (typed_of nodes e)) (max (top_of e) (top_stmts v.items)) (code.Do v e)
do_is v e = record { made = λ nodes. at_do nodes (code.Do v e) v e refl; greatest = ap (max (top_of e)) (held v) }

pub for_is : (v : Vec TypedStmt Global) (e f : Option TypedExp) (w : Vec TypedStmt Global) → IsStatement (λ nodes. plain.For (stmts_of nodes v.items) (option_map (typed_of nodes) e) (option_map (typed_of nodes) f) (stmts_of nodes w.items)) (max (max (top_maybe e) (top_maybe f)) (max (top_stmts v.items) (top_stmts w.items))) (code.For v e f w)
for_is v e f w = record { made = λ nodes. at_for nodes (code.For v e f w) v e f w refl; greatest = ap (max (max (top_maybe e) (top_maybe f))) (two max (held v) (held w)) }
