-- Device: the first tokens of declarations and statements.
use Rattle.std.proofs.Common.{◌≡◌, refl, sym, ap, ◌∙◌, subst, ℕ, ◌+◌, ◌<◌, ◌≤◌, length, Bool, true, false, not, ◌&&◌, ◌||◌, List, [], ◌∷◌, ◌++◌, map, Option, Some, None, append_assoc, append-nil, length-append, arith, true≢false}
use Rattle.cil_base.specs.declared.numbers.NameId.{NameId}
use Rattle.cil_base.specs.declared.tokens.TokenKind.{TokenKind}
use Rattle.cil_base.specs.declared.tokens.TokenKind.TheVariants.{Name as IsName, Keyword as IsKeyword, Integer as IsInteger, Character as IsCharacter, Literal as IsLiteral, Punctuator as IsPunctuator}
use Rattle.cil_base.specs.declared.tokens.Keyword.{Keyword}
use Rattle.cil_base.specs.declared.tokens.Keyword.TheVariants.{Break as BreakWord, Case as CaseWord, Continue as ContinueWord, Default as DefaultWord, Do as DoWord, Else as ElseWord, For as ForWord, Goto as GotoWord, If as IfWord, Return as ReturnWord, Sizeof as SizeofWord, Alignof as AlignofWord, Switch as SwitchWord, While as WhileWord}
use Rattle.cil_base.specs.declared.tokens.Punctuator.{Punctuator}
use Rattle.cil_base.specs.declared.tokens.Punctuator.TheVariants.{LeftBrace, RightBrace, Colon, Semicolon}
use Rattle.typedef_scopes.specs.Scopes.{Scope, is_type}
use Rattle.c_tree.specs.Syntax.{ExprTree, SpecifierTree, Storage, Basic, Qualified, Functional, TypedefName, Tag, StructBody, EnumBody, SpecifierTrees, NoSpecifiers, MoreSpecifiers, DeclaratorTree, InitTree}
use Rattle.c_tree.specs.Units.{DeclarationTree, Declares, Asserts, StmtTree, Labelled, Case, Default, Compound, Expression, If, IfElse, Switch, While, Do, For, Goto, Continue, Break, Return}
use Rattle.c_tree.specs.Spelling.{Lexeme, word, sign, named, with_commas, behind_commas, spell_expr, spell_specifier, spell_specifiers, spell_declarator}
use Rattle.c_tree.specs.UnitSpelling.{spell_maybe_init, spell_init_declarator, spell_declaration, spell_stmt}
use Rattle.c_tree.specs.Height.{declaration_height, stmt_height}
use Rattle.c_tree.specs.Levels.{has_specifier, has_names, declares, levelled, levelled_specifiers, levelled_declarator, levelled_maybe_init, levelled_init_declarator, levelled_init_declarators, levelled_declaration, levelled_stmt}
use Rattle.c_tree.specs.Scoped.{scoped_expr, scoped_specifier, scoped_specifiers, scoped_declaration, scoped_stmt}
use Rattle.c_exprs.specs.declared.words.Piece.TheVariants.{Name as NamePiece}
use Rattle.c_cursor.specs.Readers.{head}
use Rattle.c_cursor.specs.Classes.{is_sign, is_assert_word, next_is, next_is_not, plain, if_so, fitting, a_name}
use Rattle.c_exprs.specs.Classes.{is_some_of, start_kind, start_word_kind, step_sign_kind, begins_parameter, piece_word}
use Rattle.c_exprs.proofs.Laws.{Tells, bare, if_so_is, plain_is, some_is, none_is_no}
use Rattle.c_exprs.proofs.Tokens.{both, sign_tells, assert_tells, or_true}
use Rattle.c_exprs.proofs.Heads.{Starts, expr_starts, apart, declarator_begins}
use Rattle.c_exprs.proofs.ParameterLaws.{specifiers_open}
use Rattle.c_parser.specs.declared.words.StatementWord.{StatementWord}
use Rattle.c_parser.specs.declared.words.StatementWord.TheVariants.{Case as CaseStart, Default as DefaultStart, Block as BlockStart, If as IfStart, Switch as SwitchStart, While as WhileStart, Do as DoStart, For as ForBegin, Goto as GotoStart, Continue as ContinueStart, Break as BreakStart, Return as ReturnStart}
use Rattle.c_parser.specs.StatementWords.{statement_word, statement_sign, statement_kind, a_statement_word, begins_by_word, is_while_word, name_ahead, type_ahead, begins_declaration, label_ahead}
use Rattle.c_parser.specs.UnitForms.{is_else_word}
use Rattle.c_parser.proofs.Looking.{type_is}
use Rattle.c_parser.proofs.DeclarationLaws.{declares_some}

-- words

else_only_word : (w : Keyword) → is_else_word (IsKeyword w) ≡ true → IsKeyword w ≡ IsKeyword ElseWord
else_only_word ElseWord e = refl
else_only_word _ e = absurd (true≢false (sym e))

else_only : (k : TokenKind) → is_else_word k ≡ true → k ≡ IsKeyword ElseWord
else_only (IsKeyword w) e = else_only_word w e
else_only _ e = absurd (true≢false (sym e))

pub else_tells : Tells is_else_word (IsKeyword ElseWord)
else_tells = record { is = else_only; true_of = refl }

while_only_word : (w : Keyword) → is_while_word (IsKeyword w) ≡ true → IsKeyword w ≡ IsKeyword WhileWord
while_only_word WhileWord e = refl
while_only_word _ e = absurd (true≢false (sym e))

while_only : (k : TokenKind) → is_while_word k ≡ true → k ≡ IsKeyword WhileWord
while_only (IsKeyword w) e = while_only_word w e
while_only _ e = absurd (true≢false (sym e))

pub while_tells : Tells is_while_word (IsKeyword WhileWord)
while_tells = record { is = while_only; true_of = refl }

abbrev pub word_kind : StatementWord → TokenKind
word_kind CaseStart = IsKeyword CaseWord
word_kind DefaultStart = IsKeyword DefaultWord
word_kind BlockStart = IsPunctuator LeftBrace
word_kind IfStart = IsKeyword IfWord
word_kind SwitchStart = IsKeyword SwitchWord
word_kind WhileStart = IsKeyword WhileWord
word_kind DoStart = IsKeyword DoWord
word_kind ForBegin = IsKeyword ForWord
word_kind GotoStart = IsKeyword GotoWord
word_kind ContinueStart = IsKeyword ContinueWord
word_kind BreakStart = IsKeyword BreakWord
word_kind ReturnStart = IsKeyword ReturnWord

abbrev pub word_lexeme : StatementWord → Lexeme
word_lexeme w = bare (word_kind w)

keyword_kind : (k : Keyword) (w : StatementWord) → statement_word k ≡ Some w → IsKeyword k ≡ word_kind w
keyword_kind CaseWord w e = ap word_kind (some_is e)
keyword_kind DefaultWord w e = ap word_kind (some_is e)
keyword_kind IfWord w e = ap word_kind (some_is e)
keyword_kind SwitchWord w e = ap word_kind (some_is e)
keyword_kind WhileWord w e = ap word_kind (some_is e)
keyword_kind DoWord w e = ap word_kind (some_is e)
keyword_kind ForWord w e = ap word_kind (some_is e)
keyword_kind GotoWord w e = ap word_kind (some_is e)
keyword_kind ContinueWord w e = ap word_kind (some_is e)
keyword_kind BreakWord w e = ap word_kind (some_is e)
keyword_kind ReturnWord w e = ap word_kind (some_is e)
keyword_kind _ w e = absurd (none_is_no e)

sign_word : (q : Punctuator) (w : StatementWord) → statement_sign q ≡ Some w → IsPunctuator q ≡ word_kind w
sign_word LeftBrace w e = ap word_kind (some_is e)
sign_word _ w e = absurd (none_is_no e)

kind_word : (k : TokenKind) (w : StatementWord) → statement_kind k ≡ Some w → k ≡ word_kind w
kind_word (IsName n) w e = absurd (none_is_no e)
kind_word (IsKeyword k) w e = keyword_kind k w e
kind_word IsInteger w e = absurd (none_is_no e)
kind_word IsCharacter w e = absurd (none_is_no e)
kind_word IsLiteral w e = absurd (none_is_no e)
kind_word (IsPunctuator q) w e = sign_word q w e

pub statement_word_is : (u : Lexeme) (w : StatementWord) → a_statement_word u ≡ Some w → u ≡ word_lexeme w
statement_word_is u w e = let r = plain_is statement_kind u w e in r.0 ∙ ap bare (kind_word u.kind w r.1)

pub is_statement_word : (w : StatementWord) → a_statement_word (word_lexeme w) ≡ Some w
is_statement_word w = elim w as (λ v. a_statement_word (word_lexeme v) ≡ Some v) [ CaseStart ↦ refl | _ ↦ refl ]

-- the word that begins a statement
abbrev pub word_of : StmtTree → Option StatementWord
word_of (Labelled at n s) = None
word_of (Case at e s) = Some CaseStart
word_of (Default at s) = Some DefaultStart
word_of (Compound at items) = Some BlockStart
word_of (Expression at e) = None
word_of (If at e s) = Some IfStart
word_of (IfElse at e s u) = Some IfStart
word_of (Switch at e s) = Some SwitchStart
word_of (While at e s) = Some WhileStart
word_of (Do at s e) = Some DoStart
word_of (For at start c step s) = Some ForBegin
word_of (Goto at n) = Some GotoStart
word_of (Continue at) = Some ContinueStart
word_of (Break at) = Some BreakStart
word_of (Return at e) = Some ReturnStart

abbrev pub is_labelled : StmtTree → Bool
is_labelled (Labelled at n s) = true
is_labelled _ = false

abbrev pub is_expression : StmtTree → Bool
is_expression (Expression at e) = true
is_expression _ = false

abbrev pub is_worded : StmtTree → Bool
is_worded s = is_some_of (word_of s)

-- behind the first token
abbrev pub behind_first : List Lexeme → List Lexeme
behind_first [] = []
behind_first (u ∷ us) = us

pub worded_text : (s : StmtTree) (w : StatementWord) → word_of s ≡ Some w → spell_stmt s ≡ word_lexeme w ∷ behind_first (spell_stmt s)
worded_text (Labelled at n s) w e = absurd (none_is_no e)
worded_text (Expression at x) w e = absurd (none_is_no e)
worded_text (Case at x s) w e = ap (λ v. word_lexeme v ∷ behind_first (spell_stmt (Case at x s))) (some_is e)
worded_text (Default at s) w e = ap (λ v. word_lexeme v ∷ behind_first (spell_stmt (Default at s))) (some_is e)
worded_text (Compound at is) w e = ap (λ v. word_lexeme v ∷ behind_first (spell_stmt (Compound at is))) (some_is e)
worded_text (If at x s) w e = ap (λ v. word_lexeme v ∷ behind_first (spell_stmt (If at x s))) (some_is e)
worded_text (IfElse at x s u) w e = ap (λ v. word_lexeme v ∷ behind_first (spell_stmt (IfElse at x s u))) (some_is e)
worded_text (Switch at x s) w e = ap (λ v. word_lexeme v ∷ behind_first (spell_stmt (Switch at x s))) (some_is e)
worded_text (While at x s) w e = ap (λ v. word_lexeme v ∷ behind_first (spell_stmt (While at x s))) (some_is e)
worded_text (Do at s x) w e = ap (λ v. word_lexeme v ∷ behind_first (spell_stmt (Do at s x))) (some_is e)
worded_text (For at start c step s) w e = ap (λ v. word_lexeme v ∷ behind_first (spell_stmt (For at start c step s))) (some_is e)
worded_text (Goto at n) w e = ap (λ v. word_lexeme v ∷ behind_first (spell_stmt (Goto at n))) (some_is e)
worded_text (Continue at) w e = ap (λ v. word_lexeme v ∷ behind_first (spell_stmt (Continue at))) (some_is e)
worded_text (Break at) w e = ap (λ v. word_lexeme v ∷ behind_first (spell_stmt (Break at))) (some_is e)
worded_text (Return at x) w e = ap (λ v. word_lexeme v ∷ behind_first (spell_stmt (Return at x))) (some_is e)

some_word : (s : StmtTree) (o : Option StatementWord) → word_of s ≡ o → is_some_of o ≡ true → (w : StatementWord) × (word_of s ≡ Some w)
some_word s None e is = absurd (true≢false (sym is))
some_word s (Some w) e is = (w, e)

pub word_found : (s : StmtTree) → is_worded s ≡ true → (w : StatementWord) × (word_of s ≡ Some w)
word_found s is = some_word s (word_of s) refl is

-- expressions, against words and declarations

start_word_apart : (w : Keyword) → is_some_of (statement_word w) ≡ true → is_some_of (start_word_kind w) ≡ false
start_word_apart SizeofWord e = absurd (true≢false (sym e))
start_word_apart AlignofWord e = absurd (true≢false (sym e))
start_word_apart _ e = refl

start_sign_apart : (ds : List Scope) (q : Punctuator) → is_some_of (statement_sign q) ≡ true → is_some_of (start_kind ds (IsPunctuator q)) ≡ false
start_sign_apart ds LeftBrace e = refl
start_sign_apart ds _ e = absurd (true≢false (sym e))

pub word_apart : (ds : List Scope) (k : TokenKind) → begins_by_word k ≡ true → is_some_of (start_kind ds k) ≡ false
word_apart ds (IsName n) e = absurd (true≢false (sym e))
word_apart ds (IsKeyword w) e = start_word_apart w e
word_apart ds IsInteger e = absurd (true≢false (sym e))
word_apart ds IsCharacter e = absurd (true≢false (sym e))
word_apart ds IsLiteral e = absurd (true≢false (sym e))
word_apart ds (IsPunctuator q) e = start_sign_apart ds q e

pub start_no_word : (ds : List Scope) (o : Option Lexeme) → Starts ds o → next_is begins_by_word o ≡ false
start_no_word ds o s = apart (λ k. is_some_of (start_kind ds k)) begins_by_word o s (word_apart ds)

declaration_word_apart : (w : Keyword) → (is_assert_word (IsKeyword w) || is_some_of (piece_word w)) ≡ true → is_some_of (start_word_kind w) ≡ false
declaration_word_apart SizeofWord e = absurd (true≢false (sym e))
declaration_word_apart AlignofWord e = absurd (true≢false (sym e))
declaration_word_apart _ e = refl

named_apart : {A B : Type 0} (b : Bool) (a : A) (c : B) → is_some_of (if_so b a) ≡ true → is_some_of (if_so (not b) c) ≡ false
named_apart true a c e = refl
named_apart false a c e = absurd (true≢false (sym e))

declaration_apart : (ds : List Scope) (k : TokenKind) → begins_declaration ds k ≡ true → is_some_of (start_kind ds k) ≡ false
declaration_apart ds (IsName n) e = named_apart (is_type ds n) _ _ e
declaration_apart ds (IsKeyword w) e = declaration_word_apart w e
declaration_apart ds IsInteger e = absurd (true≢false (sym e))
declaration_apart ds IsCharacter e = absurd (true≢false (sym e))
declaration_apart ds IsLiteral e = absurd (true≢false (sym e))
declaration_apart ds (IsPunctuator q) e = absurd (true≢false (sym e))

pub start_no_declaration : (ds : List Scope) (o : Option Lexeme) → Starts ds o → next_is (begins_declaration ds) o ≡ false
start_no_declaration ds o s = apart (λ k. is_some_of (start_kind ds k)) (begins_declaration ds) o s (declaration_apart ds)

off_by : (b : Bool) → (b ≡ true → ⊥) → b ≡ false
off_by true no_one = absurd (no_one refl)
off_by false no_one = refl

-- no typedef name stands next
pub type_off : (ds : List Scope) (o : Option Lexeme) → ((n : NameId) → o ≡ Some (named n) → is_type ds n ≡ true → ⊥) → type_ahead ds o ≡ false
type_off ds o no_one = off_by (type_ahead ds o) (λ e. let r = type_is ds o e in no_one r.0 r.1 r.2)

if_not : {A : Type 0} (b : Bool) (a : A) → b ≡ true → is_some_of (if_so (not b) a) ≡ false
if_not true a e = refl
if_not false a e = absurd (true≢false (sym e))

pub start_no_type : (ds : List Scope) (o : Option Lexeme) → Starts ds o → type_ahead ds o ≡ false
start_no_type ds o s = type_off ds o (λ n e t. true≢false (sym s ∙ (ap (next_is (λ k. is_some_of (start_kind ds k))) e ∙ if_not (is_type ds n) _ t)))

pub start_name : (ds : List Scope) (n : NameId) → Starts ds (Some (named n)) → is_type ds n ≡ false
start_name ds n s = off_by (is_type ds n) (λ t. true≢false (sym s ∙ if_not (is_type ds n) _ t))

-- declarations

pub declaration_begins : (ds : List Scope) (d : DeclarationTree) (rest : List Lexeme) → levelled_declaration d ≡ true → scoped_declaration ds d ≡ true → next_is (begins_declaration ds) (head (spell_declaration d ++ rest)) ≡ true
declaration_begins ds (Asserts at e m texts) rest l s = refl
declaration_begins ds (Declares at ss xs) rest l s =
    let k = both (has_specifier ss) (levelled_specifiers ss) (both (has_specifier ss && levelled_specifiers ss) (levelled_init_declarators xs) l).0 in
    ap (λ u. next_is (begins_declaration ds) (head u)) (append_assoc (spell_specifiers ss) (with_commas (map spell_init_declarator xs) ++ sign Semicolon ∷ []) rest)
    ∙ by (head (spell_specifiers ss ++ ((with_commas (map spell_init_declarator xs) ++ sign Semicolon ∷ []) ++ rest))) (specifiers_open ds ss ((with_commas (map spell_init_declarator xs) ++ sign Semicolon ∷ []) ++ rest) k.0 (both (scoped_specifiers false ds ss) _ s).0)
  where
    by : (o : Option Lexeme) → next_is (begins_parameter ds) o ≡ true → next_is (begins_declaration ds) o ≡ true
    by None e = e
    by (Some u) e = ap (λ b. is_assert_word u.kind || b) e ∙ or_true (is_assert_word u.kind)

-- a token that is not of the class
pub declaration_off : (ds : List Scope) (d : DeclarationTree) (rest : List Lexeme) (test : TokenKind → Bool) → levelled_declaration d ≡ true → scoped_declaration ds d ≡ true → ((k : TokenKind) → test k ≡ true → begins_declaration ds k ≡ false) → next_is test (head (spell_declaration d ++ rest)) ≡ false
declaration_off ds d rest test l s none = apart (begins_declaration ds) test (head (spell_declaration d ++ rest)) (declaration_begins ds d rest l s) none

-- a declaration does not begin with an identifier and a colon

end_no_colon : (xs : List (DeclaratorTree × Option InitTree)) (rest : List Lexeme) → levelled_init_declarators xs ≡ true → next_is (is_sign Colon) (head ((with_commas (map spell_init_declarator xs) ++ sign Semicolon ∷ []) ++ rest)) ≡ false
end_no_colon [] rest l = refl
end_no_colon (d ∷ xs) rest l =
    let k = both ((declares d.0 && not (has_names d.0)) && levelled_declarator d.0) (levelled_maybe_init d.1) (both (levelled_init_declarator d) (levelled_init_declarators xs) l).0 in
    let f = both (declares d.0) (not (has_names d.0)) (both (declares d.0 && not (has_names d.0)) (levelled_declarator d.0) k.0).0 in
    ap (λ u. next_is (is_sign Colon) (head u)) (line_text (spell_declarator d.0) (spell_maybe_init d.1) (behind_commas (map spell_init_declarator xs)))
    ∙ declarator_begins (is_sign Colon) (record { star = refl; parenthesis = refl; bracket = refl }) d.0 (spell_maybe_init d.1 ++ (behind_commas (map spell_init_declarator xs) ++ (sign Semicolon ∷ rest))) (λ m e. refl) (λ a. absurd (true≢false (sym a ∙ declares_some d.0 f.0)))
  where
    line_text : (a b c : List Lexeme) → (((a ++ b) ++ c) ++ sign Semicolon ∷ []) ++ rest ≡ a ++ (b ++ (c ++ (sign Semicolon ∷ rest)))
    line_text a b c = append_assoc ((a ++ b) ++ c) (sign Semicolon ∷ []) rest ∙ (append_assoc (a ++ b) c (sign Semicolon ∷ rest) ∙ append_assoc a b (c ++ (sign Semicolon ∷ rest)))

second_no_colon : (ds : List Scope) (s : SpecifierTree) (rest : List Lexeme) → scoped_specifier true ds s ≡ true → next_is (is_sign Colon) (head (spell_specifier s ++ rest)) ≡ false
second_no_colon ds (Storage at w) rest s = refl
second_no_colon ds (Basic at w) rest s = refl
second_no_colon ds (Qualified at w) rest s = refl
second_no_colon ds (Functional at w) rest s = refl
second_no_colon ds (TypedefName at n) rest s = absurd (true≢false (sym s))
second_no_colon ds (Tag at kind tag) rest s = refl
second_no_colon ds (StructBody at kind tag ms) rest s = refl
second_no_colon ds (EnumBody at tag es comma) rest s = refl

others_no_colon : (ds : List Scope) (ss : SpecifierTrees) (rest : List Lexeme) → scoped_specifiers true ds ss ≡ true → next_is (is_sign Colon) (head rest) ≡ false → next_is (is_sign Colon) (head (spell_specifiers ss ++ rest)) ≡ false
others_no_colon ds NoSpecifiers rest s none = none
others_no_colon ds (MoreSpecifiers x xs) rest s none = ap (λ u. next_is (is_sign Colon) (head u)) (append_assoc (spell_specifier x) (spell_specifiers xs) rest) ∙ second_no_colon ds x (spell_specifiers xs ++ rest) (both (scoped_specifier true ds x) _ s).0

specifiers_no_label : (ds : List Scope) (ss : SpecifierTrees) (rest : List Lexeme) → has_specifier ss ≡ true → scoped_specifiers false ds ss ≡ true → next_is (is_sign Colon) (head rest) ≡ false → label_ahead (spell_specifiers ss ++ rest) ≡ false
specifiers_no_label ds NoSpecifiers rest some s none = absurd (true≢false (sym some))
specifiers_no_label ds (MoreSpecifiers (TypedefName at n) xs) rest some s none = others_no_colon ds xs rest (both (scoped_specifier false ds (TypedefName at n)) (scoped_specifiers true ds xs) s).1 none
specifiers_no_label ds (MoreSpecifiers _ xs) rest some s none = refl

pub declaration_no_label : (ds : List Scope) (d : DeclarationTree) (rest : List Lexeme) → levelled_declaration d ≡ true → scoped_declaration ds d ≡ true → label_ahead (spell_declaration d ++ rest) ≡ false
declaration_no_label ds (Asserts at e m texts) rest l s = refl
declaration_no_label ds (Declares at ss xs) rest l s =
    let k = both (has_specifier ss && levelled_specifiers ss) (levelled_init_declarators xs) l in
    ap label_ahead (append_assoc (spell_specifiers ss) (with_commas (map spell_init_declarator xs) ++ sign Semicolon ∷ []) rest)
    ∙ specifiers_no_label ds ss ((with_commas (map spell_init_declarator xs) ++ sign Semicolon ∷ []) ++ rest) (both (has_specifier ss) (levelled_specifiers ss) k.0).0 (both (scoped_specifiers false ds ss) _ s).0 (end_no_colon xs rest k.1)

-- statements

-- no word, no identifier and nothing else that begins a statement is of the class
pub record Off (ds : List Scope) (test : TokenKind → Bool) : Type 0 where
  pub word : (w : StatementWord) → test (word_kind w) ≡ false
  pub start : (k : TokenKind) → test k ≡ true → is_some_of (start_kind ds k) ≡ false
  pub semicolon : test (IsPunctuator Semicolon) ≡ false

worded_head : (s : StmtTree) (rest : List Lexeme) → is_worded s ≡ true → (w : StatementWord) × (head (spell_stmt s ++ rest) ≡ Some (word_lexeme w))
worded_head s rest is = let w = word_found s is in (w.0, ap (λ u. head (u ++ rest)) (worded_text s w.0 w.1))

pub worded_off : (test : TokenKind → Bool) (s : StmtTree) (rest : List Lexeme) → ((w : StatementWord) → test (word_kind w) ≡ false) → is_worded s ≡ true → next_is test (head (spell_stmt s ++ rest)) ≡ false
worded_off test s rest none is = let w = worded_head s rest is in ap (next_is test) w.1 ∙ none w.0

pub worded_begins : (s : StmtTree) (rest : List Lexeme) → is_worded s ≡ true → next_is begins_by_word (head (spell_stmt s ++ rest)) ≡ true
worded_begins s rest is = let w = worded_head s rest is in ap (next_is begins_by_word) w.1 ∙ by w.0
  where
    by : (w : StatementWord) → begins_by_word (word_kind w) ≡ true
    by w = elim w as (λ v. begins_by_word (word_kind v) ≡ true) [ CaseStart ↦ refl | _ ↦ refl ]

pub word_no_name : (s : StmtTree) (rest : List Lexeme) → is_worded s ≡ true → name_ahead (head (spell_stmt s ++ rest)) ≡ false
word_no_name s rest is = let w = worded_head s rest is in ap name_ahead w.1 ∙ by w.0
  where
    by : (w : StatementWord) → name_ahead (Some (word_lexeme w)) ≡ false
    by w = elim w as (λ v. name_ahead (Some (word_lexeme v)) ≡ false) [ CaseStart ↦ refl | _ ↦ refl ]

pub expression_off : (ds : List Scope) (test : TokenKind → Bool) (at : ℕ) (e : Option ExprTree) (rest : List Lexeme) → ((k : TokenKind) → test k ≡ true → is_some_of (start_kind ds k) ≡ false) → test (IsPunctuator Semicolon) ≡ false → levelled_stmt (Expression at e) ≡ true → scoped_stmt ds (Expression at e) ≡ true →
    next_is test (head (spell_stmt (Expression at e) ++ rest)) ≡ false
expression_off ds test at None rest none end l s = end
expression_off ds test at (Some e) rest none end l s =
    ap (λ u. next_is test (head u)) (append_assoc (spell_expr e) (sign Semicolon ∷ []) rest) ∙ apart (λ k. is_some_of (start_kind ds k)) test (head (spell_expr e ++ (sign Semicolon ∷ rest))) (expr_starts ds e (sign Semicolon ∷ rest) l s) none

pub expression_no_type : (ds : List Scope) (at : ℕ) (e : Option ExprTree) (rest : List Lexeme) → levelled_stmt (Expression at e) ≡ true → scoped_stmt ds (Expression at e) ≡ true → type_ahead ds (head (spell_stmt (Expression at e) ++ rest)) ≡ false
expression_no_type ds at None rest l s = refl
expression_no_type ds at (Some e) rest l s =
    ap (λ u. type_ahead ds (head u)) (append_assoc (spell_expr e) (sign Semicolon ∷ []) rest) ∙ start_no_type ds (head (spell_expr e ++ (sign Semicolon ∷ rest))) (expr_starts ds e (sign Semicolon ∷ rest) l s)

pub statement_off : (ds : List Scope) (test : TokenKind → Bool) (off : Off ds test) (s : StmtTree) (rest : List Lexeme) → ((n : NameId) → head (spell_stmt s ++ rest) ≡ Some (named n) → test (IsName n) ≡ false) → levelled_stmt s ≡ true → scoped_stmt ds s ≡ true → next_is test (head (spell_stmt s ++ rest)) ≡ false
statement_off ds test off (Labelled at n s) rest name l c = name n refl
statement_off ds test off (Expression at e) rest name l c = expression_off ds test at e rest off.start off.semicolon l c
statement_off ds test off (Case at x s) rest name l c = off.word CaseStart
statement_off ds test off (Default at s) rest name l c = off.word DefaultStart
statement_off ds test off (Compound at is) rest name l c = off.word BlockStart
statement_off ds test off (If at x s) rest name l c = off.word IfStart
statement_off ds test off (IfElse at x s u) rest name l c = off.word IfStart
statement_off ds test off (Switch at x s) rest name l c = off.word SwitchStart
statement_off ds test off (While at x s) rest name l c = off.word WhileStart
statement_off ds test off (Do at s x) rest name l c = off.word DoStart
statement_off ds test off (For at start e step s) rest name l c = off.word ForBegin
statement_off ds test off (Goto at n) rest name l c = off.word GotoStart
statement_off ds test off (Continue at) rest name l c = off.word ContinueStart
statement_off ds test off (Break at) rest name l c = off.word BreakStart
statement_off ds test off (Return at x) rest name l c = off.word ReturnStart

-- the same where the class is one token
word_off : (test : TokenKind → Bool) (k : TokenKind) → Tells test k → (w : StatementWord) → ((j : TokenKind) → j ≡ k → begins_by_word j ≡ false) → test (word_kind w) ≡ false
word_off test k tells w none = off_by (test (word_kind w)) (λ e. true≢false (sym (by w) ∙ none (word_kind w) (tells.is (word_kind w) e)))
  where
    by : (w : StatementWord) → begins_by_word (word_kind w) ≡ true
    by w = elim w as (λ v. begins_by_word (word_kind v) ≡ true) [ CaseStart ↦ refl | _ ↦ refl ]

pub else_off : (ds : List Scope) → Off ds is_else_word
else_off ds = record {
  word = λ w. word_off is_else_word (IsKeyword ElseWord) else_tells w (λ j e. ap begins_by_word e);
  start = λ k e. ap (λ j. is_some_of (start_kind ds j)) (else_tells.is k e);
  semicolon = refl;
}

pub brace_off : (ds : List Scope) → Off ds (is_sign RightBrace)
brace_off ds = record {
  word = λ w. word_off (is_sign RightBrace) (IsPunctuator RightBrace) (sign_tells RightBrace) w (λ j e. ap begins_by_word e);
  start = λ k e. ap (λ j. is_some_of (start_kind ds j)) ((sign_tells RightBrace).is k e);
  semicolon = refl;
}

declaration_no_word : (ds : List Scope) (w : StatementWord) → begins_declaration ds (word_kind w) ≡ false
declaration_no_word ds w = elim w as (λ v. begins_declaration ds (word_kind v) ≡ false) [ CaseStart ↦ refl | _ ↦ refl ]

pub declarations_off : (ds : List Scope) → Off ds (begins_declaration ds)
declarations_off ds = record { word = λ w. declaration_no_word ds w; start = declaration_apart ds; semicolon = refl }

-- heights

pub tall_statement : (s : StmtTree) → 1 ≤ stmt_height s
tall_statement s = elim s as (λ x. 1 ≤ stmt_height x) (λ x. Unit {0}) (λ x. Unit {0}) [ Labelled at n s ↦ omega arith | _ ↦ omega arith ]

pub statement_some : (s : StmtTree) → 0 < length (spell_stmt s)
statement_some (Labelled at n s) = omega arith
statement_some (Expression at None) = omega arith
statement_some (Expression at (Some e)) = omega (arith, length-append (spell_expr e) (sign Semicolon ∷ []))
statement_some (Case at x s) = omega arith
statement_some (Default at s) = omega arith
statement_some (Compound at is) = omega arith
statement_some (If at x s) = omega arith
statement_some (IfElse at x s u) = omega arith
statement_some (Switch at x s) = omega arith
statement_some (While at x s) = omega arith
statement_some (Do at s x) = omega arith
statement_some (For at start e step s) = omega arith
statement_some (Goto at n) = omega arith
statement_some (Continue at) = omega arith
statement_some (Break at) = omega arith
statement_some (Return at x) = omega arith

pub declaration_some : (d : DeclarationTree) → 0 < length (spell_declaration d)
declaration_some (Asserts at e m texts) = omega arith
declaration_some (Declares at ss xs) = omega (arith, length-append (spell_specifiers ss) (with_commas (map spell_init_declarator xs) ++ sign Semicolon ∷ []), length-append (with_commas (map spell_init_declarator xs)) (sign Semicolon ∷ []))

-- a typedef name, which stands first, has a height
pub typed_tall : (ds : List Scope) (d : DeclarationTree) → levelled_declaration d ≡ true → type_ahead ds (head (spell_declaration d)) ≡ true → 2 ≤ declaration_height d
typed_tall ds (Asserts at e m texts) l t = omega arith
typed_tall ds (Declares at NoSpecifiers xs) l t = absurd (true≢false (sym l))
typed_tall ds (Declares at (MoreSpecifiers (TypedefName a n) ss) xs) l t = omega arith
typed_tall ds (Declares at (MoreSpecifiers _ ss) xs) l t = absurd (true≢false (sym t))

-- a statement that begins with a typedef name begins with a label
pub typed_label : (ds : List Scope) (s : StmtTree) (rest : List Lexeme) → type_ahead ds (head (spell_stmt s)) ≡ true → levelled_stmt s ≡ true → scoped_stmt ds s ≡ true → label_ahead (spell_stmt s ++ rest) ≡ true
typed_label ds (Labelled at n s) rest t l c = refl
typed_label ds (Expression at e) rest t l c =
    absurd (true≢false (sym t ∙ (ap (λ u. type_ahead ds (head u)) (sym (append-nil (spell_stmt (Expression at e)))) ∙ expression_no_type ds at e [] l c)))
typed_label ds _ rest t l c = absurd (true≢false (sym t))

pub typed_statement_tall : (ds : List Scope) (s : StmtTree) → type_ahead ds (head (spell_stmt s)) ≡ true → levelled_stmt s ≡ true → scoped_stmt ds s ≡ true → 2 ≤ stmt_height s
typed_statement_tall ds (Labelled at n s) t l c = omega (arith, tall_statement s)
typed_statement_tall ds (Expression at e) t l c =
    absurd (true≢false (sym t ∙ (ap (λ u. type_ahead ds (head u)) (sym (append-nil (spell_stmt (Expression at e)))) ∙ expression_no_type ds at e [] l c)))
typed_statement_tall ds _ t l c = absurd (true≢false (sym t))

-- the first token of what stands first
pub first_kept : {A : Type 0} (f : Option Lexeme → A) (t rest : List Lexeme) → 0 < length t → f (head (t ++ rest)) ≡ f (head t)
first_kept f [] rest some = absurd (omega arith)
first_kept f (u ∷ us) rest some = refl

-- the classes as the code tells them

pub name_begins : (ds : List Scope) (n : NameId) → is_type ds n ≡ begins_declaration ds (IsName n)
name_begins ds n = by (is_type ds n)
  where
    by : (b : Bool) → b ≡ is_some_of (if_so b (NamePiece n))
    by true = refl
    by false = refl
