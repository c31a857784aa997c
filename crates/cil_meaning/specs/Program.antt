-- Definition: CIL programs of the form that is written so far: a main that returns an expression without side effects.
use Rattle.std.specs.Prelude.{ℕ, ◌+◌, ◌^◌, ◌<◌, ◌≤◌, max}
use Rattle.cil_base.specs.declared.operators.BinOp.{BinOp}
use Rattle.cil_base.specs.Operators.{IsAdditive}

-- an expression of type int
pub data Exp : Type 0 where
  Const : (value : ℕ) → Exp
  Bin : (op : BinOp) (left right : Exp) → Exp

-- a well-formed expression: each constant is a value of int, and each operator is + or -
abbrev pub IsExp : Exp → Type 0
IsExp (Const value) = value < 2 ^ 31
IsExp (Bin op left right) = IsAdditive op × (IsExp left × IsExp right)

-- the nesting depth of an expression
abbrev pub depth : Exp → ℕ
depth (Const value) = 1
depth (Bin op left right) = 1 + max (depth left) (depth right)

-- a program of the form, which its expression stands for. Its depth is bounded by the greatest that a unit's expression can have (own); not every such program is made of a unit
pub record IsProgram (p : Exp) : Type 0 where
  pub well_formed : IsExp p
  pub low : depth p ≤ 509
