-- Definition: what a reading of a tree of some form answers at the tokens `ts`, of which the first has the number `n`.
-- `Is a n text`: a is a tree of the form, with the scopes behind it, `n` is the number of its first token and `text` is what it spells. `goes a o`: the next token `o`, or the end of the tokens, goes on behind it.
use Rattle.std.specs.Prelude.{◌≡◌, ℕ, ◌+◌, Bool, false, List, ◌∷◌, ◌++◌, length, Option, Some}
use Rattle.c_tree.specs.Spelling.{Lexeme}
use Rattle.c_cursor.specs.Readers.{head}

-- a tree of the form that spells the tokens from there up to `rest`, whose first has the number `at` and does not go on
pub record Reads {A : Type 0} (Is : A → ℕ → List Lexeme → Type 0) (goes : A → Option Lexeme → Bool) (n : ℕ) (ts : List Lexeme) (a : A) (at : ℕ) (rest : List Lexeme) : Type 0 where
  pub text : List Lexeme
  pub is : Is a n text
  pub parts : ts ≡ text ++ rest
  pub number : at ≡ n + length text
  pub ends : goes a (head rest) ≡ false

-- no tree of the form begins with the tokens up to and including the first of `rest`, which has the number `at`; and none spells the tokens up to one that does not go on
pub record Refuses {A : Type 0} (Is : A → ℕ → List Lexeme → Type 0) (goes : A → Option Lexeme → Bool) (n : ℕ) (ts : List Lexeme) (at : ℕ) (rest : List Lexeme) : Type 0 where
  pub front : List Lexeme
  pub parts : ts ≡ front ++ rest
  pub number : at ≡ n + length front
  pub no_front : (a : A) (u : Lexeme) (more : List Lexeme) → head rest ≡ Some u → Is a n (front ++ u ∷ more) → ⊥
  pub no_whole : (a : A) (text others : List Lexeme) → Is a n text → ts ≡ text ++ others → goes a (head others) ≡ false → ⊥
