-- Definition: CIL programs as plain trees (own): types are shapes, in which an aggregate stands by its number, and names are texts. A type is none where the program's types have not its number.
use Rattle.std.specs.Prelude.{ℕ, ℤ, Bool, List, Option}
use Rattle.cil_base.specs.declared.kinds.IntKind.{IntKind}
use Rattle.cil_base.specs.declared.operators.BinOp.{BinOp}
use Rattle.cil_base.specs.declared.operators.UnOp.{UnOp}
use Rattle.cil_base.specs.declared.constants.Constant.{Constant}
use Rattle.type_graph.specs.Shapes.{Shape}
use Rattle.type_graph.specs.Arena.{Graph}

mutual
  -- an expression without side effects (C11 6.5)
  pub data Exp : Type 0 where
    Const : (kind : IntKind) (value : ℕ) → Exp
    Value : (place : Lval) → Exp
    Un : (op : UnOp) (operand : Exp) → Exp
    Bin : (op : BinOp) (left right : Exp) → Exp
    Cast : (to : Option Shape) (operand : Exp) → Exp
    AddrOf : (place : Lval) → Exp
    StartOf : (place : Lval) → Exp

  -- what an lvalue begins with: a global or a local by its number, or what a pointer points to
  pub data Host : Type 0 where
    Global : (number : ℕ) → Host
    Var : (number : ℕ) → Host
    At : (pointer : Exp) → Host

  -- the steps from an object into a part of it: to a member by its number, or to an element
  pub data Offsets : Type 0 where
    Here : Offsets
    Field : (number : ℕ) (more : Offsets) → Offsets
    Index : (index : Exp) (more : Offsets) → Offsets

  -- an lvalue (C11 6.3.2.1p1)
  pub data Lval : Type 0 where
    Place : (host : Host) (offsets : Offsets) → Lval

-- what a call calls (C11 6.5.2.2): a function by its number among the globals, or what a pointer points to
pub data Callee : Type 0 where
  Direct : (number : ℕ) → Callee
  Through : (pointer : Exp) → Callee

-- an instruction (own): an assignment, a call whose result may be stored, or a zero fill
pub data Instr : Type 0 where
  Set : (place : Lval) (value : Exp) → Instr
  Call : (result : Option Lval) (callee : Callee) (arguments : List Exp) → Instr
  Zero : (place : Lval) → Instr

mutual
  -- a statement (C11 6.8); a loop has no end of its own
  pub data Stmt : Type 0 where
    Do : (instr : Instr) → Stmt
    If : (test : Exp) (holds fails : Stmts) → Stmt
    Switch : (value : Exp) (body : Stmts) → Stmt
    Loop : (body : Stmts) → Stmt
    Block : (body : Stmts) → Stmt
    Label : (number : ℕ) → Stmt
    Case : (kind : IntKind) (value : ℤ) → Stmt
    Default : Stmt
    Goto : (number : ℕ) → Stmt
    Break : Stmt
    Return : (value : Option Exp) → Stmt

  -- statements in order
  pub data Stmts : Type 0 where
    Done : Stmts
    Seq : (first : Stmt) (rest : Stmts) → Stmts

-- a step of a path to a scalar: to a member by its number, or to an element
pub data Step : Type 0 where
  ToField : (number : ℕ) → Step
  ToIndex : (index : ℕ) → Step

-- one scalar of an initialised object
pub record Item : Type 0 where
  pub path : List Step
  pub value : Constant

-- a parameter, or an object with automatic storage duration (C11 6.2.4p5)
pub record Local : Type 0 where
  pub name : List ℕ
  pub type : Option Shape

-- the body of a function: the parameters' names, all locals, the labels' names by number, and the statements
pub record Body : Type 0 where
  pub params : List (List ℕ)
  pub locals : List Local
  pub labels : List (List ℕ)
  pub stmts : Stmts

-- what a global is: declared alone, zero bytes (C11 6.7.9p10), zero bytes but for the scalars that are listed, or a function's body
pub data Definition : Type 0 where
  Declared : Definition
  Zeros : Definition
  Image : (items : List Item) → Definition
  Function : (body : Body) → Definition

-- an object with static storage duration (C11 6.2.4p3) or a function, of internal or external linkage (6.2.2)
pub record GlobalDecl : Type 0 where
  pub name : List ℕ
  pub type : Option Shape
  pub internal : Bool
  pub definition : Definition

-- a program: its types, the texts of their names, and its globals in order
pub record Program : Type 0 where
  pub graph : Graph
  pub names : List (List ℕ)
  pub globals : List GlobalDecl
