-- Device, but for `head`, the next token, of which definitions speak: readers of tokens, from which the readings of the grammar are put together. A reader gives a value and the input behind what it took; where it fails it gives the input at the first token that it could not take.
use Rattle.std.specs.Prelude.{ℕ, zero, suc, ◌+◌, Bool, true, false, List, [], ◌∷◌, length, Option, Some, None, Result, Ok, Err}
use Rattle.c_tree.specs.Spelling.{Lexeme}

-- the tokens that are left, and the number of the first of them
pub record Input : Type 0 where
  pub at : ℕ
  pub rest : List Lexeme

abbrev pub input : ℕ → List Lexeme → Input
input n ts = record { at = n; rest = ts }

abbrev pub Reader : Type 0 → Type 0
Reader A = Input → Result (A × Input) Input

-- the next token
abbrev pub head : List Lexeme → Option Lexeme
head [] = None
head (u ∷ us) = Some u

-- no token
abbrev pub pure : {A : Type 0} → A → Reader A
pure a i = Ok (a, i)

abbrev pub fail : {A : Type 0} → Reader A
fail i = Err i

-- the number of the next token
abbrev pub here : Reader ℕ
here i = Ok (i.at, i)

abbrev pub token_taken : {A : Type 0} → Option A → ℕ → Lexeme → List Lexeme → Result (A × Input) Input
token_taken (Some a) n u us = Ok (a, input (n + 1) us)
token_taken None n u us = Err (input n (u ∷ us))

abbrev pub token_by : {A : Type 0} → (Lexeme → Option A) → ℕ → List Lexeme → Result (A × Input) Input
token_by p n [] = Err (input n [])
token_by p n (u ∷ us) = token_taken (p u) n u us

-- a token of a class
abbrev pub one : {A : Type 0} → (Lexeme → Option A) → Reader A
one p i = token_by p i.at i.rest

abbrev pub and_then : {A B : Type 0} → (A → Reader B) → Result (A × Input) Input → Result (B × Input) Input
and_then second (Ok x) = second x.0 x.1
and_then second (Err i) = Err i

-- one behind the other; the second may depend on what the first gave
abbrev pub bind : {A B : Type 0} → Reader A → (A → Reader B) → Reader B
bind first second i = and_then second (first i)

abbrev pub pick : {A : Type 0} → Bool → Reader A → Reader A → Reader A
pick true met unmet i = met i
pick false met unmet i = unmet i

-- by the next token
abbrev pub when : {A : Type 0} → (Option Lexeme → Bool) → Reader A → Reader A → Reader A
when test met unmet i = pick (test (head i.rest)) met unmet i

-- fails at once where the condition does not hold
abbrev pub guard : {A : Type 0} → Bool → Reader A → Reader A
guard condition read i = pick condition read fail i

-- steps from a value as long as the next token says so, but at most n
abbrev pub chain : {A : Type 0} → (A → Option Lexeme → Bool) → (A → Reader A) → ℕ → A → Reader A
chain goes step zero x i = Ok (x, i)
chain goes step (suc n) x i = pick (goes x (head i.rest)) (bind (step x) (λ y. chain goes step n y)) (pure x) i

-- steps from a value as long as the next token says so; each takes a token
abbrev pub many : {A : Type 0} → (A → Option Lexeme → Bool) → (A → Reader A) → A → Reader A
many goes step x i = chain goes step (length i.rest) x i
