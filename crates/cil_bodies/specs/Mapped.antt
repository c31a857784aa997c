-- Definition: a tree of CIL in which another type is put for each type, and another object or function for each object or function (own). One that has another type there is used through a pointer to the type that it had.
use Rattle.std.specs.Prelude.{ℕ, Option, Some, None, map}
use Rattle.std.specs.Option.{option_map}
use Rattle.cil_base.specs.declared.constants.Constant.{Constant}
use Rattle.cil_base.specs.declared.constants.Constant.TheVariants as constant
use Rattle.type_graph.specs.Shapes.{Shape}
use Rattle.cil_tree.specs.Tree as tree
use Rattle.cil_bodies.specs.Retyped.{retyped_pointer}

-- what an object or function is there: its number, and the type of the pointer through which it is used, where it is used at another type than it has
pub record Use : Type 0 where
  pub entity : ℕ
  pub through : Option (Option Shape)

-- what each type is there, and each object or function by its number
pub record Mapping : Type 0 where
  pub type : Option Shape → Option Shape
  pub use_of : ℕ → Use

-- an lvalue's host that is an object or function (C11 6.3.2.1p1)
abbrev pub used_by : ℕ → Option (Option Shape) → tree.Host
used_by e None = tree.Global e
used_by e (Some pointer) = tree.At (retyped_pointer pointer e)

-- a function that is called by its name (C11 6.5.2.2)
abbrev pub called_by : ℕ → Option (Option Shape) → tree.Callee
called_by e None = tree.Direct e
called_by e (Some pointer) = tree.Through (retyped_pointer pointer e)

abbrev pub used : Use → tree.Host
used u = used_by u.entity u.through

abbrev pub called : Use → tree.Callee
called u = called_by u.entity u.through

abbrev mutual
  pub mapped_exp : Mapping → tree.Exp → tree.Exp
  mapped_exp m (tree.Const kind n) = tree.Const kind n
  mapped_exp m (tree.Value place) = tree.Value (mapped_lval m place)
  mapped_exp m (tree.Un op e) = tree.Un op (mapped_exp m e)
  mapped_exp m (tree.Bin op d e) = tree.Bin op (mapped_exp m d) (mapped_exp m e)
  mapped_exp m (tree.Cast to e) = tree.Cast (m.type to) (mapped_exp m e)
  mapped_exp m (tree.AddrOf place) = tree.AddrOf (mapped_lval m place)
  mapped_exp m (tree.StartOf place) = tree.StartOf (mapped_lval m place)

  pub mapped_host : Mapping → tree.Host → tree.Host
  mapped_host m (tree.Global n) = used (m.use_of n)
  mapped_host m (tree.Var n) = tree.Var n
  mapped_host m (tree.At pointer) = tree.At (mapped_exp m pointer)

  pub mapped_offsets : Mapping → tree.Offsets → tree.Offsets
  mapped_offsets m tree.Here = tree.Here
  mapped_offsets m (tree.Field n more) = tree.Field n (mapped_offsets m more)
  mapped_offsets m (tree.Index e more) = tree.Index (mapped_exp m e) (mapped_offsets m more)

  pub mapped_lval : Mapping → tree.Lval → tree.Lval
  mapped_lval m (tree.Place host offsets) = tree.Place (mapped_host m host) (mapped_offsets m offsets)

abbrev pub mapped_callee : Mapping → tree.Callee → tree.Callee
mapped_callee m (tree.Direct n) = called (m.use_of n)
mapped_callee m (tree.Through pointer) = tree.Through (mapped_exp m pointer)

abbrev pub mapped_instr : Mapping → tree.Instr → tree.Instr
mapped_instr m (tree.Set place value) = tree.Set (mapped_lval m place) (mapped_exp m value)
mapped_instr m (tree.Call result callee arguments) = tree.Call (option_map (mapped_lval m) result) (mapped_callee m callee) (map (mapped_exp m) arguments)
mapped_instr m (tree.Zero place) = tree.Zero (mapped_lval m place)

abbrev mutual
  pub mapped_stmt : Mapping → tree.Stmt → tree.Stmt
  mapped_stmt m (tree.Do instr) = tree.Do (mapped_instr m instr)
  mapped_stmt m (tree.If test holds fails) = tree.If (mapped_exp m test) (mapped_stmts m holds) (mapped_stmts m fails)
  mapped_stmt m (tree.Switch value body) = tree.Switch (mapped_exp m value) (mapped_stmts m body)
  mapped_stmt m (tree.Loop body) = tree.Loop (mapped_stmts m body)
  mapped_stmt m (tree.Block body) = tree.Block (mapped_stmts m body)
  mapped_stmt m (tree.Label l) = tree.Label l
  mapped_stmt m (tree.Case kind n) = tree.Case kind n
  mapped_stmt m tree.Default = tree.Default
  mapped_stmt m (tree.Goto l) = tree.Goto l
  mapped_stmt m tree.Break = tree.Break
  mapped_stmt m (tree.Return value) = tree.Return (option_map (mapped_exp m) value)

  pub mapped_stmts : Mapping → tree.Stmts → tree.Stmts
  mapped_stmts m tree.Done = tree.Done
  mapped_stmts m (tree.Seq s more) = tree.Seq (mapped_stmt m s) (mapped_stmts m more)

-- the value of a scalar (C11 6.6): an address is that of the object or function itself, whatever its type
abbrev pub mapped_constant : Mapping → Constant → Constant
mapped_constant m (constant.Int kind n) = constant.Int kind n
mapped_constant m (constant.Address e offset) = constant.Address (record { 0 = (m.use_of e.0).entity }) offset
mapped_constant m (constant.Function e) = constant.Function (record { 0 = (m.use_of e.0).entity })

abbrev pub mapped_item : Mapping → tree.Item → tree.Item
mapped_item m x = record { path = x.path; value = mapped_constant m x.value }

abbrev pub mapped_local : Mapping → tree.Local → tree.Local
mapped_local m l = record { name = l.name; type = m.type l.type }

abbrev pub mapped_body : Mapping → tree.Body → tree.Body
mapped_body m b = record { params = b.params; locals = map (mapped_local m) b.locals; labels = b.labels; stmts = mapped_stmts m b.stmts }

abbrev pub mapped_definition : Mapping → tree.Definition → tree.Definition
mapped_definition m tree.Declared = tree.Declared
mapped_definition m tree.Zeros = tree.Zeros
mapped_definition m (tree.Image items) = tree.Image (map (mapped_item m) items)
mapped_definition m (tree.Function body) = tree.Function (mapped_body m body)
