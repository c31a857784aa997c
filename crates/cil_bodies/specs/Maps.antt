-- Definition: a tree whose types are those of one graph becomes one whose types are those of another, with what a table has for each type, object and function put for it.
use Rattle.std.specs.Prelude.{◌≡◌, ℕ, List, [], ◌∷◌, Option, Some, map, slice_get}
use Rattle.std.specs.Option.{option_map}
use Rattle.cil_base.specs.declared.constants.Constant.{Constant}
use Rattle.cil_base.specs.declared.numbers.TypeId.{TypeId}
use Rattle.type_graph.specs.declared.nodes.Node.{Node}
use Rattle.cil_tree.specs.declared.expressions.Exp.{Exp}
use Rattle.cil_tree.specs.declared.expressions.Host.{Host}
use Rattle.cil_tree.specs.declared.expressions.Offset.{Offset}
use Rattle.cil_tree.specs.declared.expressions.Lval.{Lval}
use Rattle.cil_tree.specs.declared.statements.Callee.{Callee}
use Rattle.cil_tree.specs.declared.statements.Instr.{Instr}
use Rattle.cil_tree.specs.declared.statements.Stmt.{Stmt}
use Rattle.cil_tree.specs.declared.globals.Body.{Body}
use Rattle.cil_tree.specs.declared.globals.GlobalDef.{GlobalDef}
use Rattle.cil_tree.specs.declared.globals.ImageItem.{ImageItem}
use Rattle.cil_tree.specs.declared.globals.Local.{Local}
use Rattle.cil_tree.specs.View.{type_at, exp_of, host_of, offsets_of, lval_of, callee_of, instr_of, stmt_of, stmts_of, item_of, local_of, body_of, definition_of}
use Rattle.cil_bodies.specs.declared.mapping.Mapping.{Mapping as Table}
use Rattle.cil_bodies.specs.declared.mapping.Use.{Use as Entry}
use Rattle.cil_bodies.specs.Mapped.{Use, Mapping, used, called, mapped_exp, mapped_host, mapped_offsets, mapped_lval, mapped_callee, mapped_instr, mapped_stmt, mapped_stmts, mapped_constant, mapped_item, mapped_local, mapped_body, mapped_definition}

-- what an entry of a table says, where the graph of the types that it names has these nodes
abbrev pub use_at : List Node → Entry → Use
use_at nodes u = record { entity = u.entity.0; through = option_map (type_at nodes) u.through }

-- a table says the same as a mapping of what has a number in it, from the types of one graph to those of another
pub record Tables (t : Table) (m : Mapping) (from to : List Node) : Type 0 where
  pub types : (n : TypeId) (u : TypeId) → slice_get t.types.now n.0 ≡ Some u → type_at to u ≡ m.type (type_at from n)
  pub uses : (n : ℕ) (u : Entry) → slice_get t.uses.now n ≡ Some u → use_at to u ≡ m.use_of n

pub record MapsExp (t : Table) (d e : Exp) : Type 0 where
  pub at : (m : Mapping) (from to : List Node) → Tables t m from to → exp_of to e ≡ mapped_exp m (exp_of from d)

pub record MapsHost (t : Table) (g h : Host) : Type 0 where
  pub at : (m : Mapping) (from to : List Node) → Tables t m from to → host_of to h ≡ mapped_host m (host_of from g)

pub record MapsOffset (t : Table) (o p : Offset) : Type 0 where
  pub at : (m : Mapping) (from to : List Node) → Tables t m from to → offsets_of to (p ∷ []) ≡ mapped_offsets m (offsets_of from (o ∷ []))

pub record MapsOffsets (t : Table) (os ps : List Offset) : Type 0 where
  pub at : (m : Mapping) (from to : List Node) → Tables t m from to → offsets_of to ps ≡ mapped_offsets m (offsets_of from os)

pub record MapsLval (t : Table) (k l : Lval) : Type 0 where
  pub at : (m : Mapping) (from to : List Node) → Tables t m from to → lval_of to l ≡ mapped_lval m (lval_of from k)

pub record MapsCallee (t : Table) (c d : Callee) : Type 0 where
  pub at : (m : Mapping) (from to : List Node) → Tables t m from to → callee_of to d ≡ mapped_callee m (callee_of from c)

pub record MapsResult (t : Table) (k l : Option Lval) : Type 0 where
  pub at : (m : Mapping) (from to : List Node) → Tables t m from to → option_map (lval_of to) l ≡ option_map (mapped_lval m) (option_map (lval_of from) k)

pub record MapsValue (t : Table) (d e : Option Exp) : Type 0 where
  pub at : (m : Mapping) (from to : List Node) → Tables t m from to → option_map (exp_of to) e ≡ option_map (mapped_exp m) (option_map (exp_of from) d)

pub record MapsExps (t : Table) (ds es : List Exp) : Type 0 where
  pub at : (m : Mapping) (from to : List Node) → Tables t m from to → map (exp_of to) es ≡ map (mapped_exp m) (map (exp_of from) ds)

pub record MapsInstr (t : Table) (i j : Instr) : Type 0 where
  pub at : (m : Mapping) (from to : List Node) → Tables t m from to → instr_of to j ≡ mapped_instr m (instr_of from i)

pub record MapsStmt (t : Table) (r s : Stmt) : Type 0 where
  pub at : (m : Mapping) (from to : List Node) → Tables t m from to → stmt_of to s ≡ mapped_stmt m (stmt_of from r)

pub record MapsStmts (t : Table) (rs ss : List Stmt) : Type 0 where
  pub at : (m : Mapping) (from to : List Node) → Tables t m from to → stmts_of to ss ≡ mapped_stmts m (stmts_of from rs)

pub record MapsConstant (t : Table) (c d : Constant) : Type 0 where
  pub at : (m : Mapping) (from to : List Node) → Tables t m from to → d ≡ mapped_constant m c

pub record MapsItem (t : Table) (x y : ImageItem) : Type 0 where
  pub at : (m : Mapping) (from to : List Node) → Tables t m from to → item_of y ≡ mapped_item m (item_of x)

pub record MapsItems (t : Table) (xs ys : List ImageItem) : Type 0 where
  pub at : (m : Mapping) (from to : List Node) → Tables t m from to → map item_of ys ≡ map (mapped_item m) (map item_of xs)

pub record MapsLocal (t : Table) (k l : Local) : Type 0 where
  pub at : (m : Mapping) (from to : List Node) (names : List (List ℕ)) → Tables t m from to → local_of to names l ≡ mapped_local m (local_of from names k)

pub record MapsLocals (t : Table) (ks ls : List Local) : Type 0 where
  pub at : (m : Mapping) (from to : List Node) (names : List (List ℕ)) → Tables t m from to → map (local_of to names) ls ≡ map (mapped_local m) (map (local_of from names) ks)

pub record MapsBody (t : Table) (a b : Body) : Type 0 where
  pub at : (m : Mapping) (from to : List Node) (names : List (List ℕ)) → Tables t m from to → body_of to names b ≡ mapped_body m (body_of from names a)

pub record MapsDefinition (t : Table) (d e : GlobalDef) : Type 0 where
  pub at : (m : Mapping) (from to : List Node) (names : List (List ℕ)) → Tables t m from to → definition_of to names e ≡ mapped_definition m (definition_of from names d)

-- a use of an object or function as a table's entry says
pub record IsUse (u : Entry) (h : Host) : Type 0 where
  pub at : (nodes : List Node) → host_of nodes h ≡ used (use_at nodes u)

-- a call of a function as a table's entry says
pub record IsCalled (u : Entry) (c : Callee) : Type 0 where
  pub at : (nodes : List Node) → callee_of nodes c ≡ called (use_at nodes u)
