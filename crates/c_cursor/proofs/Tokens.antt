-- Punctuators are told by their numbers.
use Rattle.std.proofs.Common.{◌≡◌, refl, sym, ap, ◌∙◌, ℕ, zero, suc, true, nat_eq, List, [], ◌∷◌, arith}
use Rattle.std.proofs.lemmas.Bool.Decides.{nat_tests}
use Rattle.cil_base.specs.declared.tokens.Punctuator.{Punctuator}
use Rattle.cil_base.specs.declared.tokens.Punctuator.TheVariants.{LeftBracket, RightBracket, LeftParen, RightParen, LeftBrace, RightBrace, Dot, Arrow as ArrowSign, PlusPlus, MinusMinus, Ampersand, Star as StarSign, Plus, Minus, Tilde, Exclamation, Slash, Percent, LeftShift, RightShift, Less, Greater, LessEqual, GreaterEqual, EqualEqual, ExclamationEqual, Caret, Bar, AmpersandAmpersand, BarBar, Question, Colon, Semicolon, Ellipsis, Equal, StarEqual, SlashEqual, PercentEqual, PlusEqual, MinusEqual, LeftShiftEqual, RightShiftEqual, AmpersandEqual, CaretEqual, BarEqual, Comma as CommaSign}
use Rattle.c_cursor.specs.Classes.{sign_number}

pub eq_true : (a b : ℕ) → nat_eq a b ≡ true → a ≡ b
eq_true a b e = grind (arith, nat_tests)

pub true_eq : (a : ℕ) → nat_eq a a ≡ true
true_eq a = grind (arith, nat_tests)

abbrev all_signs : List Punctuator
all_signs = LeftBracket ∷ RightBracket ∷ LeftParen ∷ RightParen ∷ LeftBrace ∷ RightBrace ∷ Dot ∷ ArrowSign ∷ PlusPlus ∷ MinusMinus ∷ Ampersand ∷ StarSign ∷ Plus ∷ Minus ∷ Tilde ∷ Exclamation ∷ Slash ∷ Percent ∷ LeftShift ∷ RightShift ∷ Less ∷ Greater ∷ LessEqual ∷ GreaterEqual ∷ EqualEqual ∷ ExclamationEqual ∷ Caret ∷ Bar ∷ AmpersandAmpersand ∷ BarBar ∷ Question ∷ Colon ∷ Semicolon ∷ Ellipsis ∷ Equal ∷ StarEqual ∷ SlashEqual ∷ PercentEqual ∷ PlusEqual ∷ MinusEqual ∷ LeftShiftEqual ∷ RightShiftEqual ∷ AmpersandEqual ∷ CaretEqual ∷ BarEqual ∷ CommaSign ∷ []

abbrev nth : List Punctuator → ℕ → Punctuator
nth [] n = LeftBracket
nth (p ∷ ps) zero = p
nth (p ∷ ps) (suc n) = nth ps n

number_finds : (p : Punctuator) → nth all_signs (sign_number p) ≡ p
number_finds p = elim p as (λ q. nth all_signs (sign_number q) ≡ q) [ LeftBracket ↦ refl | _ ↦ refl ]

pub same_number : (p q : Punctuator) → sign_number p ≡ sign_number q → q ≡ p
same_number p q e = sym (number_finds q) ∙ (ap (nth all_signs) (sym e) ∙ number_finds p)
