-- The text that a unit is merged to is not much longer than the unit: each digit of a constant becomes at most eight bytes of the text.
use Rattle.std.proofs.Common.{◌≡◌, ℕ, ◌+◌, ◌-◌, ◌*◌, ◌≤◌, List, [], ◌∷◌, ◌++◌, length, drop, codes, decimal, refl, ap, arith, length-append}
use Rattle.std.proofs.lemmas.Fmt.{decimal_nonempty}
use Rattle.std.proofs.lemmas.List.{length-take}
use Rattle.cil_base.specs.declared.operators.BinOp.{BinOp}
use Rattle.cil_base.specs.declared.operators.BinOp.TheVariants.{Add, Sub}
use Rattle.cil_base.specs.declared.tokens.Punctuator.TheVariants.{RightParen, RightBrace, Semicolon}
use Rattle.cil_base.specs.declared.tokens.TokenKind.{TokenKind}
use Rattle.cil_base.specs.declared.tokens.TokenKind.TheVariants.{Name, Keyword as KeywordToken, Integer, Character, Literal, Punctuator as PunctuatorToken}
use Rattle.cil_base.specs.Operators.{operator_spelling, IsAdditive}
use Rattle.c_lexer.specs.declared.entries.Entry.{Entry}
use Rattle.c_lexer.specs.Lexed.{text_of, bytes_in}
use Rattle.c_lexer.proofs.Refusals.{stand_apart}
use Rattle.c_meaning.specs.SourceFile.{SourceFile, HasTokens, Spelled, Word, Sign, Identifier, Constant as Digits, CharacterConstant, StringLiteral, spelled, spelled_in}
use Rattle.c_meaning.specs.Grammar.{Expression, Constant, Parentheses, Binary, Level, Primary, Additive, IsAt, IsUnit, sign_of, spell, spell_unit}
use Rattle.cil_meaning.specs.Text.{Text, exp_tokens}
use Rattle.cil_meaning.specs.Spaced.{spaced, text_front, text_back}
use Rattle.cil_meaning.proofs.SpacedText.{text_spaced, spaced_binary}
use Rattle.cil_commands.specs.Small.{small}

-- the bytes of constants
size : Spelled → ℕ
size (Digits text) = length text
size (Word keyword) = 0
size (Sign punctuator) = 0
size (Identifier text) = 0
size (CharacterConstant text) = 0
size (StringLiteral text) = 0

total : List Spelled → ℕ
total [] = 0
total (token ∷ tokens) = size token + total tokens

total-append : (xs ys : List Spelled) → total (xs ++ ys) ≡ total xs + total ys
unfolding total
total-append [] ys = omega arith
total-append (x ∷ xs) ys = omega (arith, total-append xs ys)

-- tokens stand apart in the bytes
size_of : (kind : TokenKind) (text : List ℕ) → size (spelled kind text) ≤ length text
unfolding size
size_of (Name n) text = omega arith
size_of (KeywordToken keyword) text = omega arith
size_of Integer text = omega arith
size_of Character text = omega arith
size_of Literal text = omega arith
size_of (PunctuatorToken punctuator) text = omega arith

total_in : (source : List ℕ) (entries : List Entry) → total (spelled_in source entries) ≤ bytes_in entries
unfolding total
total_in source [] = omega arith
total_in source (e ∷ es) = omega (arith, size_of e.token.kind (text_of source e), length-take (e.token.end - e.token.start) (drop e.token.start source), total_in source es)

length-additive : (op : BinOp) → IsAdditive op → length (operator_spelling op) ≡ 1
length-additive Add is = refl
length-additive Sub is = refl
length-additive _ is = absurd is

-- the blanks between tokens count too
length-spaced : (level : Level) (e : Expression) → IsAt level e → length (spaced (exp_tokens (small e))) + 6 ≤ 8 * total (spell e)
unfolding total size
length-spaced level (Constant value) at =
    omega (arith, length-append (decimal value) (32 ∷ []), decimal_nonempty value (omega (arith, at)))
length-spaced level (Parentheses inner) at = omega (arith, length-spaced Additive inner at, total-append (spell inner) (Sign RightParen ∷ []))
length-spaced Primary (Binary op left right) at = absurd at
length-spaced Additive (Binary op left right) at =
    let words = operator_spelling op in
    let l = spaced (exp_tokens (small left)) in
    let r = spaced (exp_tokens (small right)) in
    omega (
      arith,
      ap length (spaced_binary op (small left) (small right)),
      length-append l (words ++ 32 ∷ (r ++ codes ") ")),
      length-append words (32 ∷ (r ++ codes ") ")),
      length-append r (codes ") "),
      length-additive op at.0,
      length-spaced Additive left at.1.0,
      length-spaced Primary right at.1.1,
      total-append (spell left) (Sign (sign_of op) ∷ spell right),
    )

total_spell : (e : Expression) → total (spell e) ≤ total (spell_unit e)
unfolding total size
total_spell e = omega (arith, total-append (spell e) (Sign Semicolon ∷ Sign RightBrace ∷ []))

-- the constants of a file
total_file : (file : SourceFile) (tokens : List Spelled) → HasTokens file tokens → total tokens ≤ length file.bytes
total_file file tokens has =
    omega (
      arith,
      ap total has.are,
      total_in file.bytes has.entries,
      stand_apart (record { 0 = 0 }) (record { 0 = 0 }) (file.name ∷ []) has.names file.bytes has.entries has.end (omega arith) has.lexed,
    )

-- a text is a CIL text: it has at most 268,435,456 bytes
pub length-lowered : (unit : SourceFile) (e : Expression) → IsUnit unit e → length (Text (small e)) ≤ 268435456
length-lowered unit e is =
    omega (
      arith,
      ap length (text_spaced (small e)),
      length-append text_front (spaced (exp_tokens (small e)) ++ text_back),
      length-append (spaced (exp_tokens (small e))) text_back,
      length-spaced Additive e is.grammatical,
      total_file unit (spell_unit e) is.tokens,
      total_spell e,
      is.tokens.small,
    )
