-- Device: the tree that a node stands for which was made of others, in each graph.
use Rattle.std.specs.Prelude.{◌≡◌, ℕ, List}
use Rattle.cil_base.specs.declared.kinds.IntKind.{IntKind}
use Rattle.cil_base.specs.declared.numbers.TypeId.{TypeId}
use Rattle.cil_base.specs.declared.operators.BinOp.{BinOp}
use Rattle.cil_base.specs.declared.operators.UnOp.{UnOp}
use Rattle.type_graph.specs.declared.nodes.Node.{Node}
use Rattle.cil_tree.specs.declared.expressions.Exp.{Exp as SeenExp}
use Rattle.cil_tree.specs.declared.expressions.Host.{Host as SeenHost}
use Rattle.cil_tree.specs.declared.expressions.Lval.{Lval as SeenLval}
use Rattle.cil_tree.specs.declared.statements.Stmt.{Stmt as SeenStmt}
use Rattle.cil_tree.specs.Tree.{Const, Value, Un, Bin, Cast, AddrOf, StartOf, At, Offsets, Here, Field, Index, Lval, Place, If, Switch, Loop, Block}
use Rattle.cil_tree.specs.View.{exp_of, host_of, lval_of, type_at, stmt_of, stmts_of}

-- expressions

pub record IsConst (kind : IntKind) (n : ℕ) (e : SeenExp) : Type 0 where
  pub at : (nodes : List Node) → exp_of nodes e ≡ Const kind n

pub record IsValue (l : SeenLval) (e : SeenExp) : Type 0 where
  pub at : (nodes : List Node) → exp_of nodes e ≡ Value (lval_of nodes l)

pub record IsUn (op : UnOp) (x e : SeenExp) : Type 0 where
  pub at : (nodes : List Node) → exp_of nodes e ≡ Un op (exp_of nodes x)

pub record IsBin (op : BinOp) (x y e : SeenExp) : Type 0 where
  pub at : (nodes : List Node) → exp_of nodes e ≡ Bin op (exp_of nodes x) (exp_of nodes y)

pub record IsCast (t : TypeId) (x e : SeenExp) : Type 0 where
  pub at : (nodes : List Node) → exp_of nodes e ≡ Cast (type_at nodes t) (exp_of nodes x)

pub record IsAddress (l : SeenLval) (e : SeenExp) : Type 0 where
  pub at : (nodes : List Node) → exp_of nodes e ≡ AddrOf (lval_of nodes l)

pub record IsStart (l : SeenLval) (e : SeenExp) : Type 0 where
  pub at : (nodes : List Node) → exp_of nodes e ≡ StartOf (lval_of nodes l)

-- places

pub record IsAt (e : SeenExp) (x : SeenHost) : Type 0 where
  pub at : (nodes : List Node) → host_of nodes x ≡ At (exp_of nodes e)

-- offsets behind others
abbrev pub joined : Offsets → Offsets → Offsets
joined Here more = more
joined (Field n os) more = Field n (joined os more)
joined (Index e os) more = Index e (joined os more)

abbrev pub part_of : Lval → Offsets → Lval
part_of (Place host os) more = Place host (joined os more)

pub record IsField (l : SeenLval) (n : ℕ) (m : SeenLval) : Type 0 where
  pub at : (nodes : List Node) → lval_of nodes m ≡ part_of (lval_of nodes l) (Field n Here)

pub record IsElement (l : SeenLval) (e : SeenExp) (m : SeenLval) : Type 0 where
  pub at : (nodes : List Node) → lval_of nodes m ≡ part_of (lval_of nodes l) (Index (exp_of nodes e) Here)

-- statements

pub record IsIf (test : SeenExp) (holds fails : List SeenStmt) (s : SeenStmt) : Type 0 where
  pub at : (nodes : List Node) → stmt_of nodes s ≡ If (exp_of nodes test) (stmts_of nodes holds) (stmts_of nodes fails)

pub record IsSwitch (value : SeenExp) (body : List SeenStmt) (s : SeenStmt) : Type 0 where
  pub at : (nodes : List Node) → stmt_of nodes s ≡ Switch (exp_of nodes value) (stmts_of nodes body)

pub record IsLoop (body : List SeenStmt) (s : SeenStmt) : Type 0 where
  pub at : (nodes : List Node) → stmt_of nodes s ≡ Loop (stmts_of nodes body)

pub record IsBlock (body : List SeenStmt) (s : SeenStmt) : Type 0 where
  pub at : (nodes : List Node) → stmt_of nodes s ≡ Block (stmts_of nodes body)
