-- Definition: typed statements as plain trees (C11 6.7, 6.8). A substatement is a list: its labels, and the statement; an empty statement is no item of it.
use Rattle.std.specs.Prelude.{ℕ, ℤ, Option}
use Rattle.cil_base.specs.declared.kinds.IntKind.{IntKind}
use Rattle.typed_tree.specs.Tree.{Typed, Inits}

mutual
  pub data Stmt : Type 0 where
    Expr : (value : Typed) → Stmt
    -- the declaration of an object with automatic storage duration is reached
    Declare : (number : ℕ) (init : Option Inits) → Stmt
    Block : (items : Stmts) → Stmt
    If : (test : Typed) (holds fails : Stmts) → Stmt
    Switch : (value : Typed) (body : Stmts) → Stmt
    While : (test : Typed) (body : Stmts) → Stmt
    Do : (body : Stmts) (test : Typed) → Stmt
    For : (start : Stmts) (test step : Option Typed) (body : Stmts) → Stmt
    Label : (number : ℕ) → Stmt
    -- with the kind of the promoted value of its switch
    Case : (kind : IntKind) (value : ℤ) → Stmt
    Default : Stmt
    Goto : (number : ℕ) → Stmt
    Break : Stmt
    Continue : Stmt
    Return : (value : Option Typed) → Stmt

  -- statements in order
  pub data Stmts : Type 0 where
    Done : Stmts
    Seq : (first : Stmt) (rest : Stmts) → Stmts
