-- Device: what a function of the code gives, against a reading of the tokens in front of it.
use Rattle.std.specs.Prelude.{◌≡◌, ℕ, ◌+◌, false, List, [], drop, Option, Some, None, Result, Ok, Err}
use Rattle.cil_base.specs.declared.tokens.TokenKind.{TokenKind}
use Rattle.c_tree.specs.Spelling.{Lexeme}
use Rattle.c_cursor.specs.declared.stops.ParseStop.{ParseStop}
use Rattle.c_cursor.specs.declared.stops.ParseStop.TheVariants.{At, Memory}
use Rattle.c_cursor.specs.Readers.{Input, input}
use Rattle.c_cursor.specs.Classes.{has_text}

-- the reading fails at the input where the cursor then stands, and the number is that of the token there
abbrev pub Fails : {B : Type 0} → ParseStop → Result (B × Input) Input → Input → Type 0
Fails (At n) read i = (read ≡ Err i) × (n ≡ i.at)
Fails Memory read i = Unit {0}

-- the answer, seen as a plain value, is what the reading gives, and the cursor then stands before what is left
abbrev pub Gives : {A B : Type 0} → (A → B) → Result A ParseStop → Result (B × Input) Input → Input → Type 0
Gives seen (Ok x) read i = read ≡ Ok (seen x, i)
Gives seen (Err e) read i = Fails e read i

-- that is the kind of the next token, which has a text of its own only where its kind has one
abbrev pub IsNext : Option TokenKind → Option Lexeme → Type 0
IsNext None None = Unit {0}
IsNext (Some k) (Some u) = (u.kind ≡ k) × (has_text k ≡ false → u.value ≡ [])
IsNext _ _ = ⊥

-- that is the text by which the next token is told
abbrev pub IsValue : List ℕ → Option Lexeme → Type 0
IsValue text None = ⊥
IsValue text (Some u) = u.value ≡ text

-- what a class has of the next token
abbrev pub next_of : {A : Type 0} → (Lexeme → Option A) → Option Lexeme → Option A
next_of p None = None
next_of p (Some u) = p u

-- the reading that takes the next token, where something was found in it
abbrev pub given : {A : Type 0} → Option A → Input → Result (A × Input) Input
given None i = Err i
given (Some a) i = Ok (a, input (i.at + 1) (drop 1 i.rest))
