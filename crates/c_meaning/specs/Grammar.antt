-- Definition: the translation units of the form that is read so far: `int main(void) { return E; }`, E of decimal constants, binary + and -, and parentheses.
use Rattle.std.specs.Prelude.{◌≡◌, ℕ, ◌+◌, ◌^◌, ◌<◌, ◌≤◌, List, [], ◌∷◌, ◌++◌, codes, decimal, max}
use Rattle.cil_base.specs.declared.operators.BinOp.{BinOp}
use Rattle.cil_base.specs.declared.operators.BinOp.TheVariants.{Sub}
use Rattle.cil_base.specs.declared.tokens.Keyword.TheVariants.{Int, Void, Return}
use Rattle.cil_base.specs.declared.tokens.Punctuator.{Punctuator}
use Rattle.cil_base.specs.declared.tokens.Punctuator.TheVariants.{LeftParen, RightParen, LeftBrace, RightBrace, Semicolon, Plus, Minus}
use Rattle.cil_base.specs.Operators.{IsAdditive}
use Rattle.c_meaning.specs.SourceFile.{SourceFile, HasTokens, Spelled, Word, Sign, Identifier, Constant as Digits}

-- an expression (6.5), parentheses being a node of their own
pub data Expression : Type 0 where
  Constant : (value : ℕ) → Expression
  Parentheses : (inner : Expression) → Expression
  Binary : (op : BinOp) (left right : Expression) → Expression

-- the levels of the grammar: primary expressions (6.5.1) and additive expressions (6.5.6)
pub data Level : Type 0 where
  Primary : Level
  Additive : Level

-- an expression of that level. A constant has type int and so a value below 2^31 (6.4.4.1p5); sums and differences group from the left
abbrev pub IsAt : Level → Expression → Type 0
IsAt level (Constant value) = value < 2 ^ 31
IsAt level (Parentheses inner) = IsAt Additive inner
IsAt Primary (Binary op left right) = ⊥
IsAt Additive (Binary op left right) = IsAdditive op × (IsAt Additive left × IsAt Primary right)

-- the punctuator of an additive operator (6.5.6)
abbrev pub sign_of : BinOp → Punctuator
sign_of Sub = Minus
sign_of _ = Plus

-- the tokens of an expression, a constant in decimal digits
abbrev pub spell : Expression → List Spelled
spell (Constant value) = Digits (decimal value) ∷ []
spell (Parentheses inner) = Sign LeftParen ∷ (spell inner ++ Sign RightParen ∷ [])
spell (Binary op left right) = spell left ++ (Sign (sign_of op) ∷ spell right)

-- the nesting depth of an expression
abbrev pub height : Expression → ℕ
height (Constant value) = 1
height (Parentheses inner) = 1 + height inner
height (Binary op left right) = 1 + max (height left) (height right)

-- the nesting depth of the unit's one external declaration: around the expression stand the return statement, the body and the definition, and the declarator is lower
abbrev pub unit_height : Expression → ℕ
unit_height e = 3 + height e

-- the tokens of the unit whose main returns the expression (6.9.1, 6.8.6.4)
abbrev pub spell_unit : Expression → List Spelled
spell_unit e =
    Word Int ∷ Identifier (codes "main") ∷ Sign LeftParen ∷ Word Void ∷ Sign RightParen ∷ Sign LeftBrace ∷ Word Return
    ∷ (spell e ++ Sign Semicolon ∷ Sign RightBrace ∷ [])

-- a file is the unit whose main returns the expression
pub record IsUnit (unit : SourceFile) (e : Expression) : Type 0 where
  pub grammatical : IsAt Additive e
  -- an external declaration is at most 512 high (own; C11 5.2.4.1 asks for 63 nested parentheses and 127 blocks)
  pub low : unit_height e ≤ 512
  pub tokens : HasTokens unit (spell_unit e)
