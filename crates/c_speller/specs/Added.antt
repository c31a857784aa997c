-- Device: tokens that the code has put behind others.
use Rattle.std.specs.Prelude.{◌≡◌, ℕ, Bool, true, false, List, [], ◌∷◌, ◌++◌, drop}
use Rattle.c_speller.specs.declared.spelled.TokenSink.{TokenSink}
use Rattle.cil_base.specs.declared.tokens.TokenKind.{TokenKind}
use Rattle.c_tree.specs.Spelling.{Lexeme, last_comma}
use Rattle.c_speller.specs.SpelledTokens.{with_texts, tokens_of}

-- where no memory was wanted, `new` has the tokens of `old` and, behind them, these
unfoldable pub Adds : List (List ℕ) → TokenSink → TokenSink → List Lexeme → Type 0
Adds names old new ts = new.has_failed ≡ false → (old.has_failed ≡ false) × (tokens_of new.tokens.items ≡ tokens_of old.tokens.items ++ with_texts names ts)

-- the same of one token with its text
unfoldable pub AddsToken : TokenSink → TokenSink → TokenKind → List ℕ → Type 0
AddsToken old new kind text = new.has_failed ≡ false → (old.has_failed ≡ false) × (new.tokens.items ≡ old.tokens.items ++ record { kind = kind; text = text } ∷ [])

-- the tokens of each element, one behind the other
abbrev pub flat_of : {A : Type 0} → (A → List Lexeme) → List A → List Lexeme
flat_of f [] = []
flat_of f (x ∷ xs) = f x ++ flat_of f xs

-- the same with commas between them, and before the first where `is_more`
abbrev pub commas_of : {A : Type 0} → (A → List Lexeme) → Bool → List A → List Lexeme
commas_of f is_more [] = []
commas_of f is_more (x ∷ xs) = last_comma is_more ++ (f x ++ commas_of f true xs)

-- the first i elements are put
unfoldable pub AddedSoFar : {A : Type 0} → List (List ℕ) → TokenSink → TokenSink → (A → List Lexeme) → List A → ℕ → Type 0
AddedSoFar names old new f xs i = (done : List Lexeme) × Adds names old new done × (done ++ flat_of f (drop i xs) ≡ flat_of f xs)

unfoldable pub CommasSoFar : {A : Type 0} → List (List ℕ) → TokenSink → TokenSink → (A → List Lexeme) → List A → ℕ → Bool → Type 0
CommasSoFar names old new f xs i is_more = (done : List Lexeme) × Adds names old new done × (done ++ commas_of f is_more (drop i xs) ≡ commas_of f false xs)
