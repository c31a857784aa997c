-- Device: the units of the form are grammatical: the tree of each, and that it spells the unit's tokens.
use Rattle.std.proofs.Common.{◌≡◌, refl, sym, ap, subst, ◌∙◌, ℕ, ◌+◌, ◌≤◌, true, false, List, [], ◌∷◌, ◌++◌, length, map, Some, codes, arith, append_assoc, append-nil}
use Rattle.std.specs.Prelude.{decimal, nat_le, if◌then◌else◌}
use Rattle.std.proofs.lemmas.Bool.{and_from, eq-eqb, le-leb}
use Rattle.std.proofs.lemmas.List.{map-append}
use Rattle.cil_base.specs.declared.numbers.NameId.{NameId}
use Rattle.cil_base.specs.declared.operators.BinOp.{BinOp}
use Rattle.cil_base.specs.declared.operators.BinOp.TheVariants.{Add, Sub}
use Rattle.cil_base.specs.declared.tokens.TokenKind.{TokenKind}
use Rattle.cil_base.specs.declared.tokens.TokenKind.TheVariants.{Name as IsName, Keyword as IsKeyword, Integer as IsInteger, Character as IsCharacter, Literal as IsLiteral, Punctuator as IsPunctuator}
use Rattle.cil_base.specs.declared.tokens.Keyword.TheVariants.{Int as IntWord, Void as VoidWord, Return as ReturnWord}
use Rattle.cil_base.specs.declared.tokens.Punctuator.TheVariants.{LeftParen, RightParen, LeftBrace, RightBrace, Semicolon}
use Rattle.cil_base.specs.Operators.{IsAdditive}
use Rattle.c_lexer.specs.declared.entries.Entry.{Entry}
use Rattle.c_lexer.specs.Lexed.{text_of}
use Rattle.c_meaning.specs.SourceFile.{SourceFile, Spelled, Word, Sign, Identifier, Constant as Digits, CharacterConstant, StringLiteral, spelled, spelled_in}
use Rattle.c_meaning.specs.Grammar.{Expression, Constant, Parentheses, Binary, Primary, Additive, IsAt, sign_of, spell, height, unit_height, spell_unit as spell_small, IsUnit}
use Rattle.typedef_scopes.specs.Scopes.{Scope}
use Rattle.c_tree.specs.declared.words.BasicType.TheVariants.{Void, Int}
use Rattle.c_tree.specs.declared.level.Level.TheVariants.{Additive as AdditiveLevel, Multiplicative}
use Rattle.c_tree.specs.Syntax as t
use Rattle.c_tree.specs.Units as u
use Rattle.c_tree.specs.Spelling.{Lexeme, word, sign, named, integer, character, literal, binary_sign, spell_expr}
use Rattle.c_tree.specs.UnitSpelling.{spell_unit}
use Rattle.c_tree.specs.Levels.{binary_level, rank, is_within, levelled, levelled_unit}
use Rattle.c_tree.specs.Placed.{placed_expr, placed_unit}
use Rattle.c_tree.specs.Scoped.{scoped_expr, scoped_unit}
use Rattle.c_tree.specs.Height.{expr_height}
use Rattle.c_tree.specs.Grammatical.{is_grammatical, low_unit}
use Rattle.c_cursor.specs.Classes.{has_text}
use Rattle.c_cursor.specs.Lexemes.{lexeme_of}
use Rattle.cil_commands.specs.Grammatical.{IsGrammatical}

-- the tree of an expression whose first token has the number n
abbrev tree_of : ℕ → Expression → t.ExprTree
tree_of n (Constant value) = t.Integer n (decimal value)
tree_of n (Parentheses e) = t.Parentheses n (tree_of (n + 1) e)
tree_of n (Binary op l r) = t.Binary n op (tree_of n l) (tree_of (n + length (spell_expr (tree_of n l)) + 1) r)

-- the tree of the unit, where `main` is the identifier's number
abbrev unit_tree : NameId → Expression → u.UnitTree
unit_tree main e =
    u.Definition 0 (t.MoreSpecifiers (t.Basic 0 Int) t.NoSpecifiers)
    (t.Function 1 (t.Declared 1 main) (t.MoreParameters (t.Parameter (t.MoreSpecifiers (t.Basic 3 Void) t.NoSpecifiers) (t.Absent 4)) t.NoParameters) false) [] 5
    (u.MoreItems (u.Doing (u.Return 6 (Some (tree_of 7 e)))) u.NoItems)
    ∷ []

-- levels

additive : (e : Expression) → IsAt Primary e → IsAt Additive e
additive (Constant value) is = is
additive (Parentheses e) is = is
additive (Binary op l r) is = absurd is

level_of_op : (op : BinOp) → IsAdditive op → binary_level op ≡ AdditiveLevel
level_of_op Add is = refl
level_of_op Sub is = refl
level_of_op _ is = absurd is

within_additive : (n : ℕ) (e : Expression) → IsAt Additive e → is_within AdditiveLevel (tree_of n e) ≡ true
within_additive n (Constant value) is = refl
within_additive n (Parentheses e) is = refl
within_additive n (Binary op l r) is = ap (λ level. nat_le (rank level) 5) (level_of_op op is.0)

within_primary : (n : ℕ) (e : Expression) → IsAt Primary e → is_within Multiplicative (tree_of n e) ≡ true
within_primary n (Constant value) is = refl
within_primary n (Parentheses e) is = refl
within_primary n (Binary op l r) is = absurd is

levels : (n : ℕ) (e : Expression) → IsAt Additive e → levelled (tree_of n e) ≡ true
levels n (Constant value) is = refl
levels n (Parentheses e) is = levels (n + 1) e is
levels n (Binary op l r) is =
    rw (level_of_op op is.0)
    (and_from _ _ (and_from _ _ (within_additive n l is.1.0) (levels n l is.1.0))
    (and_from _ _ (within_primary (n + length (spell_expr (tree_of n l)) + 1) r is.1.1) (levels (n + length (spell_expr (tree_of n l)) + 1) r (additive r is.1.1))))

unit_levels : (main : NameId) (e : Expression) → IsAt Additive e → levelled_unit (unit_tree main e) ≡ true
unit_levels main e is = rw (levels 7 e is) refl

-- numbers of tokens

places : (n : ℕ) (e : Expression) → placed_expr n (tree_of n e) ≡ true
places n (Constant value) = eq-eqb n n refl
places n (Parentheses e) = and_from _ _ (eq-eqb n n refl) (places (n + 1) e)
places n (Binary op l r) = and_from _ _ (eq-eqb n n refl) (and_from _ _ (places n l) (places (n + length (spell_expr (tree_of n l)) + 1) r))

unit_places : (main : NameId) (e : Expression) → placed_unit 0 (unit_tree main e) ≡ true
unit_places main e = rw (places 7 e) refl

-- an expression without identifiers stands in all scopes

scopes_of : (n : ℕ) (scopes : List Scope) (e : Expression) → scoped_expr scopes (tree_of n e) ≡ true
scopes_of n scopes (Constant value) = refl
scopes_of n scopes (Parentheses e) = scopes_of (n + 1) scopes e
scopes_of n scopes (Binary op l r) = and_from _ _ (scopes_of n scopes l) (scopes_of (n + length (spell_expr (tree_of n l)) + 1) _ r)

unit_scopes : (main : NameId) (e : Expression) → scoped_unit (unit_tree main e) ≡ true
unit_scopes main e = and_from _ _ (and_from _ _ refl (and_from _ _ refl (and_from _ _ refl (and_from _ _ (scopes_of 7 _ e) refl)))) refl

-- heights

heights : (n : ℕ) (e : Expression) → expr_height (tree_of n e) ≡ height e
heights n (Constant value) = refl
heights n (Parentheses e) = ap (λ h. 1 + h) (heights (n + 1) e)
heights n (Binary op l r) = rw (heights n l, heights (n + length (spell_expr (tree_of n l)) + 1) r) refl

unit_low : (main : NameId) (e : Expression) → unit_height e ≤ 512 → low_unit (unit_tree main e) ≡ true
unit_low main e low = and_from _ _ (le-leb _ 512 (omega (arith, low, heights 7 e))) refl

unit_grammatical : (main : NameId) (e : Expression) → IsAt Additive e → unit_height e ≤ 512 → is_grammatical (unit_tree main e) ≡ true
unit_grammatical main e is low = and_from _ _ (unit_levels main e is) (and_from _ _ (unit_places main e) (and_from _ _ (unit_scopes main e) (unit_low main e low)))

-- spelling

-- a token as C's grammar compares it, from one as the grammar of the form sees it; each identifier has the number `main`
abbrev lexeme_for : NameId → Spelled → Lexeme
lexeme_for main (Word keyword) = word keyword
lexeme_for main (Sign punctuator) = sign punctuator
lexeme_for main (Identifier text) = named main
lexeme_for main (Digits text) = integer text
lexeme_for main (CharacterConstant text) = character text
lexeme_for main (StringLiteral text) = literal text

op_sign : (op : BinOp) → IsAdditive op → sign_of op ≡ binary_sign op
op_sign Add is = refl
op_sign Sub is = refl
op_sign _ is = absurd is

spells : (main : NameId) (n : ℕ) (e : Expression) → IsAt Additive e → map (lexeme_for main) (spell e) ≡ spell_expr (tree_of n e)
spells main n (Constant value) is = refl
spells main n (Parentheses e) is = ap (λ ts. sign LeftParen ∷ ts) (map-append (lexeme_for main) (spell e) (Sign RightParen ∷ []) ∙ ap (λ ts. ts ++ sign RightParen ∷ []) (spells main (n + 1) e is))
spells main n (Binary op l r) is =
    map-append (lexeme_for main) (spell l) (Sign (sign_of op) ∷ spell r)
    ∙ rw (spells main n l is.1.0, spells main (n + length (spell_expr (tree_of n l)) + 1) r (additive r is.1.1), op_sign op is.0) refl

unit_spells : (main : NameId) (e : Expression) → IsAt Additive e → map (lexeme_for main) (spell_small e) ≡ spell_unit (unit_tree main e)
unit_spells main e is =
    ap (λ ts. word IntWord ∷ named main ∷ sign LeftParen ∷ word VoidWord ∷ sign RightParen ∷ sign LeftBrace ∷ word ReturnWord ∷ ts)
    (map-append (lexeme_for main) (spell e) (Sign Semicolon ∷ Sign RightBrace ∷ []) ∙ (ap (λ ts. ts ++ sign Semicolon ∷ sign RightBrace ∷ []) (spells main 7 e is) ∙ around (spell_expr (tree_of 7 e))))
  where
    around : (ts : List Lexeme) → ts ++ sign Semicolon ∷ sign RightBrace ∷ [] ≡ (((ts ++ sign Semicolon ∷ []) ++ []) ++ sign RightBrace ∷ []) ++ []
    around ts = simp (append-nil, append_assoc) refl

-- the tokens of a file

abbrev lexeme : TokenKind → List ℕ → Lexeme
lexeme kind text = record { kind = kind; value = if has_text kind then text else [] }

abbrev IsNoName : Spelled → Type 0
IsNoName (Identifier text) = ⊥
IsNoName _ = Unit {0}

abbrev AreNoNames : List Spelled → Type 0
AreNoNames [] = Unit {0}
AreNoNames (s ∷ ss) = IsNoName s × AreNoNames ss

lexeme_is : (main : NameId) (kind : TokenKind) (text : List ℕ) → IsNoName (spelled kind text) → lexeme kind text ≡ lexeme_for main (spelled kind text)
lexeme_is main (IsName n) text is = absurd is
lexeme_is main (IsKeyword keyword) text is = refl
lexeme_is main IsInteger text is = refl
lexeme_is main IsCharacter text is = refl
lexeme_is main IsLiteral text is = refl
lexeme_is main (IsPunctuator punctuator) text is = refl

lexeme_as : (main : NameId) (kind : TokenKind) (text : List ℕ) (s : Spelled) → spelled kind text ≡ s → IsNoName s → lexeme kind text ≡ lexeme_for main s
lexeme_as main kind text s is none = lexeme_is main kind text (subst IsNoName (sym is) none) ∙ ap (lexeme_for main) is

lexemes_as : (main : NameId) (source : List ℕ) (es : List Entry) (ss : List Spelled) → spelled_in source es ≡ ss → AreNoNames ss → map (lexeme_of source) es ≡ map (lexeme_for main) ss
lexemes_as main source [] [] are none = refl
lexemes_as main source [] (s ∷ ss) are none = cc
lexemes_as main source (e ∷ es) [] are none = cc
lexemes_as main source (e ∷ es) (s ∷ ss) are none =
    let first : spelled e.token.kind (text_of source e) ≡ s = cc in
    let rest : spelled_in source es ≡ ss = cc in
    rw (lexeme_as main e.token.kind (text_of source e) s first none.0, lexemes_as main source es ss rest none.1) refl

-- an identifier has a number
name_of : (kind : TokenKind) (text main : List ℕ) → spelled kind text ≡ Identifier main → (n : NameId) × (lexeme kind text ≡ named n)
name_of (IsName n) text main is = (n, refl)
name_of (IsKeyword keyword) text main is = cc
name_of IsInteger text main is = cc
name_of IsCharacter text main is = cc
name_of IsLiteral text main is = cc
name_of (IsPunctuator punctuator) text main is = cc

no_names : (e : Expression) (rest : List Spelled) → AreNoNames rest → AreNoNames (spell e ++ rest)
no_names (Constant value) rest none = (tt, none)
no_names (Parentheses e) rest none = (tt, subst AreNoNames (sym (append_assoc (spell e) (Sign RightParen ∷ []) rest)) (no_names e (Sign RightParen ∷ rest) (tt, none)))
no_names (Binary op l r) rest none = subst AreNoNames (sym (append_assoc (spell l) (Sign (sign_of op) ∷ spell r) rest)) (no_names l (Sign (sign_of op) ∷ (spell r ++ rest)) (tt, no_names r rest none))

same_front : {a b c d : Lexeme} {ts us : List Lexeme} → a ≡ c → b ≡ d → ts ≡ us → a ∷ b ∷ ts ≡ c ∷ d ∷ us
same_front first second rest = rw (first, second, rest) refl

-- the tokens of a unit of the form, with some number for its identifier
unit_lexemes : (source : List ℕ) (es : List Entry) (e : Expression) → spelled_in source es ≡ spell_small e → (main : NameId) × (map (lexeme_of source) es ≡ map (lexeme_for main) (spell_small e))
unit_lexemes source [] e are = cc
unit_lexemes source (a ∷ []) e are = cc
unit_lexemes source (a ∷ b ∷ es) e are =
    let first : spelled a.token.kind (text_of source a) ≡ Word IntWord = cc in
    let second : spelled b.token.kind (text_of source b) ≡ Identifier (codes "main") = cc in
    let rest : spelled_in source es ≡ Sign LeftParen ∷ Word VoidWord ∷ Sign RightParen ∷ Sign LeftBrace ∷ Word ReturnWord ∷ (spell e ++ Sign Semicolon ∷ Sign RightBrace ∷ []) = cc in
    let main : (n : NameId) × (lexeme b.token.kind (text_of source b) ≡ named n) = name_of b.token.kind (text_of source b) (codes "main") second in (
      main.0,
      same_front (lexeme_as main.0 a.token.kind (text_of source a) (Word IntWord) first tt) main.1
          (lexemes_as main.0 source es _ rest (tt, (tt, (tt, (tt, (tt, no_names e _ (tt, (tt, tt)))))))),
    )

-- a unit of the form is grammatical (6.9)
pub small_is_grammatical : (file : SourceFile) (e : Expression) → IsUnit file e → IsGrammatical file
small_is_grammatical file e is =
    let main : (n : NameId) × (map (lexeme_of file.bytes) is.tokens.entries ≡ map (lexeme_for n) (spell_small e)) = unit_lexemes file.bytes is.tokens.entries e is.tokens.are in
    record {
      tokens = record { source = file.bytes; unit = record { 0 = 0 }; entries = is.tokens.entries; end = is.tokens.end };
      names = is.tokens.names;
      are = record { small = is.tokens.small; source = refl; unit = refl; lexed = is.tokens.lexed };
      tree = unit_tree main.0 e;
      reads = record { grammatical = unit_grammatical main.0 e is.grammatical is.low; spelled = main.1 ∙ unit_spells main.0 e is.grammatical };
    }
