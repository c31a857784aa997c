-- Definition: the tokens of a spelling with their texts (C11 6.4): a name's is that of its number in the pool, a keyword's or punctuator's its first spelling, a constant's or literal's its own.
-- A number that the pool does not have stands for the empty text (own).
use Rattle.std.specs.Prelude.{ℕ, List, [], map, get_or}
use Rattle.cil_base.specs.declared.tokens.TokenKind.{TokenKind}
use Rattle.cil_base.specs.declared.tokens.TokenKind.TheVariants.{Name as IsName, Keyword as IsKeyword, Integer as IsInteger, Character as IsCharacter, Literal as IsLiteral, Punctuator as IsPunctuator}
use Rattle.cil_base.specs.Token.{keyword_spelling, punctuator_spelling}
use Rattle.c_speller.specs.declared.spelled.SpelledToken.{SpelledToken}
use Rattle.c_tree.specs.Spelling.{Lexeme}

-- the text of a token of that kind; `value` is that of a constant or literal
abbrev pub text_of : List (List ℕ) → TokenKind → List ℕ → List ℕ
text_of names (IsName n) value = get_or names n.0 []
text_of names (IsKeyword k) value = keyword_spelling k
text_of names IsInteger value = value
text_of names IsCharacter value = value
text_of names IsLiteral value = value
text_of names (IsPunctuator p) value = punctuator_spelling p

-- tokens with their texts
abbrev pub with_texts : List (List ℕ) → List Lexeme → List (TokenKind × List ℕ)
with_texts names ts = map (λ t. (t.kind, text_of names t.kind t.value)) ts

-- the same of the code's tokens
abbrev pub tokens_of : List SpelledToken → List (TokenKind × List ℕ)
tokens_of ts = map (λ t. (t.kind, t.text)) ts
