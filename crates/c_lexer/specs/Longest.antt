-- Definition: a text is cut into its pieces from the left, each the longest that could be one (C11 6.4p4).
use Rattle.std.specs.Prelude.{◌≡◌, ℕ, ◌≤◌, Bool, true, false, List, [], ◌∷◌, ◌++◌, length, IsTrue}
use Rattle.c_lexer.specs.Languages.{is_piece}
use Rattle.c_lexer.specs.declared.pieces.Kind.{Kind}
use Rattle.c_lexer.specs.declared.pieces.Kind.TheVariants.{Blank, LineEnd, Comment, Directive, Word, Number, Character, Text, Sign as IsSign, Broken}

-- a piece at the beginning of the bytes, what stands behind it, and no longer beginning of the bytes is a piece of any kind
pub record IsLongest (fresh : Bool) (bytes : List ℕ) (kind : Kind) (text rest : List ℕ) : Type 0 where
  pub parts : bytes ≡ text ++ rest
  pub piece : IsTrue (is_piece fresh kind text)
  pub longest : (other behind : List ℕ) (another : Kind) → bytes ≡ other ++ behind → IsTrue (is_piece fresh another other) → length other ≤ length text

-- whether only blanks stand before what follows a piece on its line
abbrev pub fresh_behind : Bool → Kind → Bool
fresh_behind fresh Blank = fresh
fresh_behind fresh LineEnd = true
fresh_behind fresh Comment = false
fresh_behind fresh Directive = true
fresh_behind fresh Word = false
fresh_behind fresh Number = false
fresh_behind fresh Character = false
fresh_behind fresh Text = false
fresh_behind fresh (IsSign sign) = false
fresh_behind fresh Broken = false

pub record Piece : Type 0 where
  pub kind : Kind
  pub text : List ℕ

-- the bytes are cut into the pieces
pub data Cut : Bool → List ℕ → List Piece → Type 0 where
  End : (fresh : Bool) → Cut fresh [] []
  Next : (fresh : Bool) (bytes text rest : List ℕ) (kind : Kind) (pieces : List Piece) → IsLongest fresh bytes kind text rest → Cut (fresh_behind fresh kind) rest pieces → Cut fresh bytes (record { kind = kind; text = text } ∷ pieces)
