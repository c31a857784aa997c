-- Device: what nodes that hold lists stand for.
use Rattle.std.proofs.Common.{◌≡◌, ℕ, List, [], ◌∷◌, ◌++◌, refl, sym, ap, ◌∙◌, Global}
use Rattle.std.specs.declared.vec.Vec.{Vec}
use Rattle.cil_base.specs.declared.kinds.IntKind.{IntKind}
use Rattle.type_graph.specs.declared.nodes.Node.{Node}
use Rattle.cil_tree.specs.declared.expressions.Exp.{Exp as SeenExp, Const as SeenConst}
use Rattle.cil_tree.specs.declared.expressions.Exp.TheViews as exps
use Rattle.cil_tree.specs.declared.expressions.Offset.{Offset as SeenOffset, Field as SeenField, Index'}
use Rattle.cil_tree.specs.declared.expressions.Lval.{Lval as SeenLval}
use Rattle.cil_tree.specs.declared.statements.Stmt.{Stmt as SeenStmt}
use Rattle.cil_tree.specs.declared.statements.Stmt.TheViews as stmts
use Rattle.cil_tree.specs.Tree.{Here, Field, Index, Place}
use Rattle.cil_tree.specs.View.{exp_of, host_of, lval_of, offsets_of}
use Rattle.cil_tree.proofs.Views.{at_value, at_address, at_start, at_if, at_switch, at_loop, at_block}
use Rattle.cil_nodes.specs.Built.{IsConst, IsValue, IsAddress, IsStart, IsField, IsElement, IsIf, IsSwitch, IsLoop, IsBlock, joined}

pub constant_is : (kind : IntKind) (n : ℕ) → IsConst kind n (SeenConst kind n)
constant_is kind n = record { at = λ nodes. refl }

pub value_is : (l : SeenLval) → IsValue l (exps.Lval l)
value_is l = record { at = λ nodes. at_value nodes (exps.Lval l) l refl }

pub start_is : (l : SeenLval) → IsStart l (exps.StartOf l)
start_is l = record { at = λ nodes. at_start nodes (exps.StartOf l) l refl }

pub address_is : (l : SeenLval) → IsAddress l (exps.AddrOf l)
address_is l = record { at = λ nodes. at_address nodes (exps.AddrOf l) l refl }

-- places

offsets_more : (nodes : List Node) (xs ys : List SeenOffset) → offsets_of nodes (xs ++ ys) ≡ joined (offsets_of nodes xs) (offsets_of nodes ys)
offsets_more nodes [] ys = refl
offsets_more nodes (SeenField n ∷ xs) ys = ap (Field n) (offsets_more nodes xs ys)
offsets_more nodes (Index' p e ∷ xs) ys = ap (Index (exp_of nodes e)) (offsets_more nodes xs ys)

pub field_is : (l m : SeenLval) (n : ℕ) → m.host ≡ l.host → m.offsets.items ≡ l.offsets.items ++ SeenField n ∷ [] → IsField l n m
field_is l m n h o = record {
  at = λ nodes.
      ap (λ x. Place (host_of nodes x) (offsets_of nodes m.offsets.items)) h
      ∙ ap (λ xs. Place (host_of nodes l.host) (offsets_of nodes xs)) o
      ∙ ap (Place (host_of nodes l.host)) (offsets_more nodes l.offsets.items (SeenField n ∷ []));
}

pub element_is : (l m : SeenLval) (e : SeenExp) (x : SeenOffset) → ((nodes : List Node) → offsets_of nodes (x ∷ []) ≡ Index (exp_of nodes e) Here) → m.host ≡ l.host → m.offsets.items ≡ l.offsets.items ++ x ∷ [] → IsElement l e m
element_is l m e x i h o = record {
  at = λ nodes.
      ap (λ y. Place (host_of nodes y) (offsets_of nodes m.offsets.items)) h
      ∙ ap (λ xs. Place (host_of nodes l.host) (offsets_of nodes xs)) o
      ∙ ap (Place (host_of nodes l.host)) (offsets_more nodes l.offsets.items (x ∷ []) ∙ ap (joined (offsets_of nodes l.offsets.items)) (i nodes));
}

-- statements

pub if_is : (test : SeenExp) (holds fails : Vec SeenStmt Global) → IsIf test holds.items fails.items (stmts.If test holds fails)
if_is test holds fails = record { at = λ nodes. at_if nodes (stmts.If test holds fails) test holds fails holds.items fails.items refl refl refl }

pub switch_is : (value : SeenExp) (body : Vec SeenStmt Global) → IsSwitch value body.items (stmts.Switch value body)
switch_is value body = record { at = λ nodes. at_switch nodes (stmts.Switch value body) value body body.items refl refl }

pub loop_is : (body : Vec SeenStmt Global) → IsLoop body.items (stmts.Loop body)
loop_is body = record { at = λ nodes. at_loop nodes (stmts.Loop body) body body.items refl refl }

pub block_is : (body : Vec SeenStmt Global) → IsBlock body.items (stmts.Block body)
block_is body = record { at = λ nodes. at_block nodes (stmts.Block body) body body.items refl refl }
