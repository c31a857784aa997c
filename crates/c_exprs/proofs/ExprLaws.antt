-- Device: the law of each reading of expressions, from the laws of the readings of parts.
use Rattle.std.proofs.Common.{◌≡◌, refl, sym, ap, ◌∙◌, subst, ℕ, ◌+◌, ◌<◌, ◌≤◌, length, Bool, true, false, not, ◌&&◌, ◌||◌, nat_le, List, [], ◌∷◌, ◌++◌, Option, Some, None, append_assoc, append-nil, arith, true≢false}
use Rattle.cil_base.specs.declared.tokens.TokenKind.{TokenKind}
use Rattle.cil_base.specs.declared.tokens.TokenKind.TheVariants.{Name as IsName, Keyword as IsKeyword, Integer as IsInteger, Character as IsCharacter, Literal as IsLiteral, Punctuator as IsPunctuator}
use Rattle.cil_base.specs.declared.tokens.Punctuator.{Punctuator}
use Rattle.cil_base.specs.declared.tokens.Punctuator.TheVariants.{LeftParen, RightParen, LeftBrace, RightBrace, RightBracket, Colon, Star as StarSign}
use Rattle.typedef_scopes.specs.Scopes.{Scope}
use Rattle.c_tree.specs.declared.words.StepOp.{StepOp}
use Rattle.c_tree.specs.declared.words.UnaryOp.{UnaryOp}
use Rattle.c_tree.specs.declared.level.Level.{Level}
use Rattle.c_tree.specs.declared.level.Level.TheVariants.{Unary as UnaryLevel, Cast as CastLevel, Conditional as ConditionalLevel, Assignment, Comma as CommaLevel}
use Rattle.c_tree.specs.Syntax.{ExprTree, Name, Integer, Character, Literals, Parentheses, CompoundLiteral, Prefix, Unary, SizeofExpr, SizeofType, AlignofType, Cast, Conditional, TypeName, SpecifierTrees, DeclaratorTree, ItemTrees, Index, Call, Member, Arrow, Postfix, Absent}
use Rattle.c_tree.specs.Spelling.{Lexeme, sign, in_parens, in_braces, with_commas, last_comma, spell_expr, spell_items, spell_specifiers, spell_declarator}
use Rattle.c_tree.specs.Levels.{rank, levelled, declares, has_names, has_specifier, are_specifier_qualifiers}
use Rattle.c_tree.specs.Scoped.{scoped_expr, has_type_specifier, scoped_specifiers, scoped_declarator, after_declarator, after_specifiers}
use Rattle.c_exprs.specs.declared.words.Start.{Start}
use Rattle.c_exprs.specs.declared.words.Start.TheVariants.{Name as NameStart, Integer as IntegerStart, Character as CharacterStart, Literal as LiteralStart, Parenthesis as ParenthesisStart, Step as StepStart, Unary as UnaryStart, Sizeof as SizeofStart, Alignof as AlignofStart}
use Rattle.c_exprs.specs.declared.words.Joint.{Joint}
use Rattle.c_exprs.specs.declared.words.Joint.TheVariants.{Arithmetic as Arithmetically, Logical as Logically, Assign as Assigning, Comma as InSequence}
use Rattle.c_exprs.specs.declared.words.Operator.{Operator}
use Rattle.c_exprs.specs.declared.words.Operator.TheVariants.{Index as ToIndex, Call as ToCall, Member as ToMember, Arrow as ToArrow, Step as ToStep, Conditional as ToChoose, Join as ToJoin}
use Rattle.c_exprs.specs.declared.words.SpecifierForm.TheVariants.{TypeName as InTypeName}
use Rattle.c_exprs.specs.declared.words.DeclaratorForm.TheVariants.{Abstract as InAbstract}
use Rattle.c_cursor.specs.Readers.{head}
use Rattle.c_cursor.specs.Classes.{is_sign, is_literal, next_is, a_name, a_literal}
use Rattle.c_exprs.specs.Classes.{joint_right, joint_node, operator_kind, operator_for, operator_level, step_sign_kind, start_kind, is_some_of}
use Rattle.c_exprs.specs.GoesOn.{goes_on_level, goes_on_expr, goes_on_typed, goes_on_name, goes_on_absent, goes_on_type, goes_on_specifiers, goes_on_declarator, goes_on_type_name}
use Rattle.c_cursor.specs.Literals.{more_literals}
use Rattle.c_exprs.specs.Subs.{In, Subs, comma_ahead}
use Rattle.c_exprs.specs.ExprReading.{expr_trees, some_arguments, arguments, typed_declarator, type_name, type_name_closed, next_is_type, braced, in_parentheses, compound, cast, behind_type_name, typed, behind_parenthesis, prefixed, signed, sizeof_typed, sizeof_type, sizeof_parenthesised, sizeof_behind, sizeof_operand, alignof_operand, literals_from, operand, to_index, to_call, to_choose, to_join, behind_operator, rise, rises}
use Rattle.c_exprs.proofs.Laws
use Rattle.c_exprs.proofs.Laws.{Lawful, Any, Anywhere, Next, And, Steps, Ends, More, Token, Mapped, Behind, Before, Both, Either, Met, Unmet, Under, There, Gives, bare, bind_lawful, mapped_lawful, behind_lawful, before_lawful, pure_lawful, when_lawful, many_lawful, guard_lawful, one_lawful, stopped_lawful, steps_fit, there_lawful, behind_at_lawful, Headed, headed_lawful, headed_begins, cancelled, At, said, known, ended}
use Rattle.c_exprs.proofs.Tokens.{both, none_of, or_true, not_true, true_le, le_true, sign_tells, a_literal_is, operator_is, one_token}
use Rattle.c_exprs.proofs.Heads.{expr_starts, no_sign_starts, no_type_starts, type_begins, declarator_begins, nameless}
use Rattle.c_exprs.proofs.Relations.{Below, Unbounded, ExprIs, GoodType, TypeIs, type_text, ItemsIs, EndsList, SpecifiersIs, DeclaratorIs, ParenthesisedIs, LiteralIs, LawfulSubs}
use Rattle.c_exprs.proofs.Lists.{Over, Last, all_last, Listed, listed_lawful}
use Rattle.c_exprs.proofs.Arguments.{arguments_from, arguments_to}
use Rattle.c_exprs.proofs.Climbing.{spelled_by_base, base_levelled, base_scoped, goes_after, fits_after, OperatorIs, Rises, ArgumentsIs}

-- what may stand behind an expression as it stands
abbrev pub After : In ExprTree → Option Lexeme → Type 0
After x o = goes_after x.0 o ≡ false

abbrev pub EndsType : In (SpecifierTrees × DeclaratorTree) → Option Lexeme → Type 0
EndsType t o = goes_on_type_name (has_type_specifier t.0.0) t.1 o ≡ false

-- type names

type_ends_kind : (typed : Bool) (ds : List Scope) (k : TokenKind) → goes_on_type typed ds k ≡ false → goes_on_absent k ≡ false
type_ends_kind typed ds (IsName n) e = refl
type_ends_kind typed ds (IsKeyword w) e = (none_of (goes_on_typed typed ds (IsKeyword w)) (is_sign StarSign (IsKeyword w) || goes_on_name (IsKeyword w)) e).0
type_ends_kind typed ds IsInteger e = refl
type_ends_kind typed ds IsCharacter e = refl
type_ends_kind typed ds IsLiteral e = refl
type_ends_kind typed ds (IsPunctuator p) e =
    let a = none_of (is_sign LeftBrace (IsPunctuator p)) (is_sign StarSign (IsPunctuator p) || goes_on_name (IsPunctuator p)) e in
    let b = none_of (is_sign StarSign (IsPunctuator p)) (goes_on_name (IsPunctuator p)) a.1 in
    rw (a.0, b.0, b.1) refl

type_ends : (typed : Bool) (ds : List Scope) (o : Option Lexeme) → goes_on_type_name typed ds o ≡ false → goes_on_declarator InAbstract o ≡ false
type_ends typed ds None e = refl
type_ends typed ds (Some u) e = type_ends_kind typed ds u.kind e

specifiers_end_kind : (typed : Bool) (ds : List Scope) (o : Option Lexeme) → goes_on_type_name typed ds o ≡ false → goes_on_specifiers typed ds o ≡ false
specifiers_end_kind typed ds None e = refl
specifiers_end_kind typed ds (Some u) e = (none_of (goes_on_typed typed ds u.kind) (is_sign StarSign u.kind || goes_on_name u.kind) e).0

type_joins : (ss : In SpecifierTrees) (d : DeclaratorTree) (es : List Scope) (rest : List Lexeme) → declares d ≡ false → es ≡ after_declarator ss.1 d → goes_on_type_name (has_type_specifier ss.0) es (head rest) ≡ false →
    goes_on_specifiers (has_type_specifier ss.0) ss.1 (head (spell_declarator d ++ rest)) ≡ false
type_joins ss (Absent at) es rest none after e = specifiers_end_kind (has_type_specifier ss.0) ss.1 (head rest) (subst (λ s. goes_on_type_name (has_type_specifier ss.0) s (head rest) ≡ false) after e)
type_joins ss d es rest none after e = declarator_begins (goes_on_typed (has_type_specifier ss.0) ss.1) (record { star = refl; parenthesis = refl; bracket = refl }) d rest (λ n f. absurd (Laws.none_is_no (sym (nameless d none) ∙ f))) (λ a. absurd (true≢false (sym a)))

some_ahead : (test : TokenKind → Bool) (u : List Lexeme) → next_is test (head u) ≡ true → 0 < length u
some_ahead test [] e = absurd (true≢false (sym e))
some_ahead test (v ∷ vs) e = omega arith

module _ (h : ℕ) (sub : Subs) (parts : LawfulSubs (Below h) sub) where
  abbrev TypeParts : List Scope → In (SpecifierTrees × DeclaratorTree) → ℕ → List Lexeme → Type 0
  TypeParts ds = Both (SpecifiersIs (Below h) InTypeName ds) (λ ss. Both (DeclaratorIs (Below h) InAbstract ss.1) (λ d. Gives ((ss.0, d.0), d.1)))

  type_from : (ds : List Scope) (t : In (SpecifierTrees × DeclaratorTree)) (n : ℕ) (text : List Lexeme) → TypeParts ds t n text → TypeIs (Below h) ds t n text
  type_from ds t n text b =
      let s = b.first in let d = b.second.first in
      let f = not_true (declares b.second.value.0 || has_names b.second.value.0) d.of_form in
      subst (λ w. TypeIs (Below h) ds w n text) (sym b.second.second.value) (record {
        good = record {
          type_name = rw (s.some, s.of_form, f) refl;
          specifiers = s.levelled;
          declarator = d.levelled;
          specifiers_placed = s.placed;
          declarator_placed = rw s.spelled at d.placed;
          scoped = rw (s.scoped, ← s.after, d.scoped) refl;
          low = omega (arith, s.low, d.low);
          after = rw (← s.after) d.after;
        };
        spelled = rw (b.parts, s.spelled, b.second.parts, d.spelled, b.second.second.nothing, append-nil) refl;
      })

  type_to : (ds : List Scope) (t : In (SpecifierTrees × DeclaratorTree)) (n : ℕ) (text : List Lexeme) → TypeIs (Below h) ds t n text → TypeParts ds t n text
  type_to ds t n text i =
      let g = i.good in
      let a = both (has_specifier t.0.0 && are_specifier_qualifiers t.0.0) (not (declares t.0.1 || has_names t.0.1)) g.type_name in
      let b = both (has_specifier t.0.0) (are_specifier_qualifiers t.0.0) a.0 in
      let c = both (scoped_specifiers false ds t.0.0) (scoped_declarator (after_specifiers ds t.0.0) t.0.1) g.scoped in
      record {
        value = (t.0.0, after_specifiers ds t.0.0);
        front = spell_specifiers t.0.0;
        back = spell_declarator t.0.1;
        first = record { some = b.0; of_form = b.1; levelled = g.specifiers; placed = g.specifiers_placed; scoped = c.0; low = omega (arith, g.low); after = refl; spelled = refl };
        second = record {
          value = (t.0.1, t.1);
          front = spell_declarator t.0.1;
          back = [];
          first = record { of_form = a.1; levelled = g.declarator; placed = g.declarator_placed; scoped = c.1; low = omega (arith, g.low); after = g.after; spelled = refl };
          second = record { value = refl; nothing = refl };
          parts = sym (append-nil (spell_declarator t.0.1));
        };
        parts = i.spelled;
      }

  typed_declarator_lawful : (ss : In SpecifierTrees) → Lawful Any (typed_declarator sub ss) (Both (DeclaratorIs (Below h) InAbstract ss.1) (λ d. Gives ((ss.0, d.0), d.1))) EndsType
  typed_declarator_lawful ss = bind_lawful (parts.declarator InAbstract ss.1)
      (λ d n t i. ended (λ b m u o g s. subst (λ w. EndsType w o) g.value s) (λ b m u o g s. subst (λ w. EndsType w o) (sym g.value) s)
      (stopped_lawful (goes_on_type_name (has_type_specifier ss.0) d.1) ((ss.0, d.0), d.1)))
      (λ d n t b u rest i g s. rw g.nothing (type_ends (has_type_specifier ss.0) d.1 (head rest) (subst (λ w. EndsType w (head rest)) g.value s)))

  pub type_name_lawful : (ds : List Scope) → Lawful Any (type_name sub ds) (TypeIs (Below h) ds) EndsType
  type_name_lawful ds = said
      (bind_lawful (parts.specifiers InTypeName ds) (λ ss n t i. known (λ m o p. tt) (typed_declarator_lawful ss))
      (λ ss n t b u rest i k s.
      let d = k.first in
      let f = (none_of (declares k.value.0) (has_names k.value.0) (not_true (declares k.value.0 || has_names k.value.0) d.of_form)).0 in
      rw (k.parts, k.second.nothing, append-nil, d.spelled) (type_joins ss k.value.0 k.value.1 rest f d.after (subst (λ w. EndsType w (head rest)) k.second.value s))))
      (type_to ds) (type_from ds)

  abbrev pub ClosedType : List Scope → In (SpecifierTrees × DeclaratorTree) → ℕ → List Lexeme → Type 0
  ClosedType ds = Before (IsPunctuator RightParen) (λ (t : In (SpecifierTrees × DeclaratorTree)). t) (TypeIs (Below h) ds)

  pub closed_lawful : (ds : List Scope) → Lawful Any (type_name_closed sub ds) (ClosedType ds) Anywhere
  closed_lawful ds = before_lawful (λ t. t) (sign_tells RightParen) (λ t n u i. refl) (type_name_lawful ds)

  -- `{ items }`

  list_ends : (b : Bool) → EndsList b (Some (sign RightBrace))
  list_ends false = (refl, refl)
  list_ends true = refl

  abbrev pub BracedIs : List Scope → In (ItemTrees × Bool) → ℕ → List Lexeme → Type 0
  BracedIs ds = Behind (IsPunctuator LeftBrace) (Before (IsPunctuator RightBrace) (λ (x : In (ItemTrees × Bool)). x) (ItemsIs (Below h) ds))

  pub braced_lawful : {P : ℕ → Option Lexeme → Type 0} (ds : List Scope) → Lawful P (braced sub ds) (BracedIs ds) Anywhere
  braced_lawful ds = behind_lawful (sign_tells LeftBrace) (before_lawful (λ x. x) (sign_tells RightBrace) (λ x n t i. list_ends x.0.1) (parts.items ds))

  -- operands

  abbrev pub InParens : ℕ → List Scope → In ExprTree → ℕ → List Lexeme → Type 0
  InParens at ds = Before (IsPunctuator RightParen) (λ (e : In ExprTree). (Parentheses at e.0, e.1)) (ExprIs (Below h) CommaLevel ds)

  pub in_parentheses_lawful : (at : ℕ) (ds : List Scope) → Lawful Any (in_parentheses sub at ds) (InParens at ds) After
  in_parentheses_lawful at ds = ended (λ x n t o i s. tt) (λ x n t o i s. rw i.is refl) (before_lawful (λ e. (Parentheses at e.0, e.1)) (sign_tells RightParen) (λ e n t i. refl) (parts.expr CommaLevel ds))

  abbrev pub CompoundIs : ℕ → In (SpecifierTrees × DeclaratorTree) → In ExprTree → ℕ → List Lexeme → Type 0
  CompoundIs at t = Mapped (λ (x : In (ItemTrees × Bool)). (CompoundLiteral at (TypeName t.0.0 t.0.1) x.0.0 x.0.1, x.1)) (BracedIs t.1)

  pub compound_lawful : {P : ℕ → Option Lexeme → Type 0} (at : ℕ) (t : In (SpecifierTrees × DeclaratorTree)) → Lawful P (compound sub at t) (CompoundIs at t) After
  compound_lawful at t = mapped_lawful (λ x. (CompoundLiteral at (TypeName t.0.0 t.0.1) x.0.0 x.0.1, x.1)) (λ x o s. tt) (λ x o s. refl) (braced_lawful t.1)

  abbrev pub CastIs : ℕ → In (SpecifierTrees × DeclaratorTree) → In ExprTree → ℕ → List Lexeme → Type 0
  CastIs at t = Mapped (λ (e : In ExprTree). (Cast at (TypeName t.0.0 t.0.1) e.0, e.1)) (ExprIs (Below h) CastLevel t.1)

  cast_lawful : (at : ℕ) (t : In (SpecifierTrees × DeclaratorTree)) → Lawful Any (cast sub at t) (CastIs at t) After
  cast_lawful at t = mapped_lawful (λ e. (Cast at (TypeName t.0.0 t.0.1) e.0, e.1)) (λ e o s. s) (λ e o s. s) (parts.expr CastLevel t.1)

  abbrev pub BehindType : ℕ → Level → In (SpecifierTrees × DeclaratorTree) → In ExprTree → ℕ → List Lexeme → Type 0
  BehindType at level t = Either (CompoundIs at t) (Under (nat_le 3 (rank level)) (CastIs at t))

  compound_begins : (at : ℕ) (t : In (SpecifierTrees × DeclaratorTree)) (x : In ExprTree) (n : ℕ) (u rest : List Lexeme) → CompoundIs at t x n u → next_is (is_sign LeftBrace) (head (u ++ rest)) ≡ true
  compound_begins at t x n u rest c = rw c.holds.parts refl

  -- an expression does not begin with that punctuator
  pub expr_no_sign : (p : Punctuator) → is_some_of (step_sign_kind p) ≡ false → (level : Level) (ds : List Scope) (e : In ExprTree) (n : ℕ) (u rest : List Lexeme) → ExprIs (Below h) level ds e n u → next_is (is_sign p) (head (u ++ rest)) ≡ false
  expr_no_sign p none level ds e n u rest i = rw i.spelled (no_sign_starts ds p (head (spell_expr e.0 ++ rest)) (expr_starts ds e.0 rest i.good.levelled i.good.scoped) none)

  cast_begins : (at : ℕ) (t : In (SpecifierTrees × DeclaratorTree)) (x : In ExprTree) (n : ℕ) (u rest : List Lexeme) → CastIs at t x n u → next_is (is_sign LeftBrace) (head (u ++ rest)) ≡ false
  cast_begins at t x n u rest c = expr_no_sign LeftBrace refl CastLevel t.1 c.value n u rest c.holds

  behind_type_lawful : (at : ℕ) (level : Level) (t : In (SpecifierTrees × DeclaratorTree)) → Lawful Any (behind_type_name sub at level t) (BehindType at level t) After
  behind_type_lawful at level t = when_lawful (next_is (is_sign LeftBrace)) (compound_lawful at t) (guard_lawful (nat_le 3 (rank level)) (known (λ n o p. tt) (cast_lawful at t)))
      (λ x n u rest c s. compound_begins at t x n u rest c)
      (λ x n u rest c s. cast_begins at t x n u rest c.holds)

  abbrev pub TypedIs : ℕ → Level → List Scope → In ExprTree → ℕ → List Lexeme → Type 0
  TypedIs at level ds = Under (nat_le 1 (rank level)) (Both (ClosedType ds) (BehindType at level))

  typed_lawful : {P : ℕ → Option Lexeme → Type 0} (at : ℕ) (level : Level) (ds : List Scope) → Lawful P (typed sub at level ds) (TypedIs at level ds) After
  typed_lawful at level ds = guard_lawful (nat_le 1 (rank level)) (bind_lawful (known (λ n o p. tt) (closed_lawful ds)) (λ t n u i. known (λ m o p. tt) (behind_type_lawful at level t)) (λ t n u b v rest i k s. tt))

  closed_begins : (ds : List Scope) (t : In (SpecifierTrees × DeclaratorTree)) (n : ℕ) (u rest : List Lexeme) → ClosedType ds t n u → next_is_type ds (head (u ++ rest)) ≡ true
  closed_begins ds t n u rest c =
      let g = c.holds.good in
      let a = both _ _ g.type_name in let b = both _ _ a.0 in let s = both _ _ g.scoped in
      rw (c.parts, c.holds.spelled, append_assoc, append_assoc) (type_begins ds c.value.0.0 (spell_declarator c.value.0.1 ++ (bare (IsPunctuator RightParen) ∷ rest)) b.0 b.1 s.0)

  abbrev pub BehindParen : ℕ → Level → List Scope → In ExprTree → ℕ → List Lexeme → Type 0
  BehindParen at level ds = Either (TypedIs at level ds) (InParens at ds)

  typed_begins : (at : ℕ) (level : Level) (ds : List Scope) (x : In ExprTree) (n : ℕ) (u rest : List Lexeme) → TypedIs at level ds x n u → next_is_type ds (head (u ++ rest)) ≡ true
  typed_begins at level ds x n u rest i = rw (i.holds.parts, append_assoc) (closed_begins ds i.holds.value n i.holds.front (i.holds.back ++ rest) i.holds.first)

  in_parens_begins : (at : ℕ) (ds : List Scope) (x : In ExprTree) (n : ℕ) (u rest : List Lexeme) → InParens at ds x n u → next_is_type ds (head (u ++ rest)) ≡ false
  in_parens_begins at ds x n u rest i = rw (i.parts, i.holds.spelled, append_assoc) (no_type_starts ds (head (spell_expr i.value.0 ++ (bare (IsPunctuator RightParen) ∷ rest))) (expr_starts ds i.value.0 (bare (IsPunctuator RightParen) ∷ rest) i.holds.good.levelled i.holds.good.scoped))

  behind_parenthesis_lawful : (at : ℕ) (level : Level) (ds : List Scope) → Lawful Any (behind_parenthesis sub at level ds) (BehindParen at level ds) After
  behind_parenthesis_lawful at level ds = when_lawful (next_is_type ds) (typed_lawful at level ds) (known (λ n o p. tt) (in_parentheses_lawful at ds))
      (λ x n u rest i s. typed_begins at level ds x n u rest i)
      (λ x n u rest i s. in_parens_begins at ds x n u rest i)

  abbrev pub PrefixedIs : ℕ → StepOp → List Scope → In ExprTree → ℕ → List Lexeme → Type 0
  PrefixedIs at op ds = Mapped (λ (e : In ExprTree). (Prefix at op e.0, e.1)) (ExprIs (Below h) UnaryLevel ds)

  prefixed_lawful : (at : ℕ) (op : StepOp) (ds : List Scope) → Lawful Any (prefixed sub at op ds) (PrefixedIs at op ds) After
  prefixed_lawful at op ds = mapped_lawful (λ e. (Prefix at op e.0, e.1)) (λ e o s. s) (λ e o s. s) (parts.expr UnaryLevel ds)

  abbrev pub SignedIs : ℕ → UnaryOp → List Scope → In ExprTree → ℕ → List Lexeme → Type 0
  SignedIs at op ds = Mapped (λ (e : In ExprTree). (Unary at op e.0, e.1)) (ExprIs (Below h) CastLevel ds)

  pub signed_lawful : (at : ℕ) (op : UnaryOp) (ds : List Scope) → Lawful Any (signed sub at op ds) (SignedIs at op ds) After
  signed_lawful at op ds = mapped_lawful (λ e. (Unary at op e.0, e.1)) (λ e o s. s) (λ e o s. s) (parts.expr CastLevel ds)

  -- string literals

  abbrev pub LiteralGrows : List (List ℕ) → List (List ℕ) → ℕ → List Lexeme → Type 0
  LiteralGrows ts us = Mapped (λ (t : List ℕ). ts ++ t ∷ []) (Token a_literal) us

  pub more_literals_lawful : {P : ℕ → Option Lexeme → Type 0} (texts : List (List ℕ)) → Lawful P (more_literals texts) (λ us. Steps LiteralGrows us texts) (λ us o. next_is is_literal o ≡ false)
  more_literals_lawful texts = known (λ n o p. tt) (ended (λ us n t o s e. (tt, e)) (λ us n t o s e. e.1)
      (many_lawful {G = λ ts o. Unit {0}} (λ ts. mapped_lawful (λ t. ts ++ t ∷ []) (λ t o s. tt) (λ t o s. tt) (one_lawful a_literal))
      (λ ts us n t more g. rw (g.holds.alone, a_literal_is g.holds.token g.value g.holds.is) refl) (λ ts us n t more g. tt) (λ ts us n t g. rw g.holds.alone (omega arith)) (λ ts. refl) texts))

  abbrev pub LiteralsIs : ℕ → List ℕ → List Scope → In ExprTree → ℕ → List Lexeme → Type 0
  LiteralsIs at text ds = Mapped (λ (texts : List (List ℕ)). (Literals at texts, ds)) (λ us. Steps LiteralGrows us (text ∷ []))

  literals_from_lawful : (at : ℕ) (text : List ℕ) (ds : List Scope) → Lawful Any (literals_from at text ds) (LiteralsIs at text ds) After
  literals_from_lawful at text ds = mapped_lawful (λ texts. (Literals at texts, ds)) (λ us o s. s) (λ us o s. s) (more_literals_lawful (text ∷ []))

  -- behind `sizeof`; the number of the token behind it is known

  abbrev pub SizeofTyped : ℕ → In (SpecifierTrees × DeclaratorTree) → List Scope → In ExprTree → ℕ → List Lexeme → Type 0
  SizeofTyped at t ds = Either (Mapped (λ (e : In ExprTree). (SizeofExpr at e.0, e.1)) (LiteralIs (Below h) (at + 1) ds t)) (Gives (SizeofType at (TypeName t.0.0 t.0.1), t.1))

  literal_begins : (at : ℕ) (ds : List Scope) (t : In (SpecifierTrees × DeclaratorTree)) (x : In ExprTree) (n : ℕ) (u rest : List Lexeme) → LiteralIs (Below h) at ds t x n u → next_is (is_sign LeftBrace) (head (u ++ rest)) ≡ true
  literal_begins at ds t x n u rest l =
      let b = spelled_by_base x.0 in
      let braces : List Lexeme = in_braces (with_commas (spell_items l.items) ++ last_comma l.comma) in
      let whole : in_parens (type_text t.0) ++ u ≡ in_parens (type_text t.0) ++ (braces ++ b.0) =
      l.whole.spelled ∙ (b.1 ∙ (ap (λ e. spell_expr e ++ b.0) l.base ∙ append_assoc (in_parens (type_text t.0)) braces b.0)) in
      rw (cancelled (in_parens (type_text t.0)) u (braces ++ b.0) whole) refl

  sizeof_typed_lawful : (at : ℕ) (t : In (SpecifierTrees × DeclaratorTree)) (ds : List Scope) → GoodType Unbounded ds (at + 1 + 1) t → Lawful (At (at + 1 + length (in_parens (type_text t.0)))) (sizeof_typed sub at t) (SizeofTyped at t ds) After
  sizeof_typed_lawful at t ds good = when_lawful (next_is (is_sign LeftBrace))
      (mapped_lawful (λ e. (SizeofExpr at e.0, e.1)) (λ e o s. s) (λ e o s. s) (known (λ n o p. p.0) (parts.literal (at + 1) ds t good)))
      (pure_lawful (SizeofType at (TypeName t.0.0 t.0.1), t.1) (λ n o p. p.1))
      (λ x n u rest i s. literal_begins (at + 1) ds t i.value n u rest i.holds)
      (λ x n u rest i s. rw i.nothing (subst (λ w. After w (head rest)) i.value s))

  loosened : (ds : List Scope) (n m : ℕ) (t : In (SpecifierTrees × DeclaratorTree)) → n ≡ m → GoodType (Below h) ds n t → GoodType Unbounded ds m t
  loosened ds n m t e g = subst (λ k. GoodType Unbounded ds k t) e (record {
    type_name = g.type_name;
    specifiers = g.specifiers;
    declarator = g.declarator;
    specifiers_placed = g.specifiers_placed;
    declarator_placed = g.declarator_placed;
    scoped = g.scoped;
    low = tt;
    after = g.after;
  })

  abbrev pub SizeofTypeIs : ℕ → List Scope → In ExprTree → ℕ → List Lexeme → Type 0
  SizeofTypeIs at ds = Both (There (at + 1 + 1) (ClosedType ds)) (λ t. SizeofTyped at t ds)

  closed_good : (at : ℕ) (ds : List Scope) (t : In (SpecifierTrees × DeclaratorTree)) (n : ℕ) (u : List Lexeme) → There (at + 1 + 1) (ClosedType ds) t n u → GoodType Unbounded ds (at + 1 + 1) t
  closed_good at ds t n u c = subst (GoodType Unbounded ds (at + 1 + 1)) (sym c.holds.is) (loosened ds n (at + 1 + 1) c.holds.value c.number c.holds.holds.good)

  closed_long : (at : ℕ) (ds : List Scope) (t : In (SpecifierTrees × DeclaratorTree)) (n : ℕ) (u : List Lexeme) → There (at + 1 + 1) (ClosedType ds) t n u → n + length u ≡ at + 1 + length (in_parens (type_text t.0))
  closed_long at ds t n u c =
      let same : length u ≡ length (type_text t.0 ++ bare (IsPunctuator RightParen) ∷ []) = ap length (c.holds.parts ∙ (ap (λ f. f ++ bare (IsPunctuator RightParen) ∷ []) (c.holds.holds.spelled ∙ ap (λ w. type_text w.0) (sym c.holds.is)))) in
      omega (arith, same, c.number)

  sizeof_type_lawful : (at : ℕ) (ds : List Scope) → Lawful (At (at + 1 + 1)) (sizeof_type sub at ds) (SizeofTypeIs at ds) After
  sizeof_type_lawful at ds = bind_lawful (there_lawful (at + 1 + 1) (λ n o p. p) (known (λ n o p. tt) (closed_lawful ds)))
      (λ t n u c. known (λ m o p. p.0 ∙ closed_long at ds t n u c) (sizeof_typed_lawful at t ds (closed_good at ds t n u c))) (λ t n u b v rest i k s. tt)

  abbrev pub SizeofParens : ℕ → List Scope → In ExprTree → ℕ → List Lexeme → Type 0
  SizeofParens at ds = Mapped (λ (e : In ExprTree). (SizeofExpr at e.0, e.1)) (ParenthesisedIs (Below h) (at + 1) ds)

  sizeof_parens_lawful : (at : ℕ) (ds : List Scope) → Lawful (At (at + 1 + 1)) (sizeof_parenthesised sub at ds) (SizeofParens at ds) After
  sizeof_parens_lawful at ds = mapped_lawful (λ e. (SizeofExpr at e.0, e.1)) (λ e o s. s) (λ e o s. s) (parts.parenthesised (at + 1) ds)

  sizeof_parens_begins : (at : ℕ) (ds : List Scope) (x : In ExprTree) (n : ℕ) (u rest : List Lexeme) → ParenthesisedIs (Below h) at ds x n u → next_is_type ds (head (u ++ rest)) ≡ false
  sizeof_parens_begins at ds x n u rest p =
      let b = spelled_by_base x.0 in
      let l = subst (λ e. levelled e ≡ true) p.base (base_levelled x.0 p.whole.good.levelled) in
      let s = subst (λ e. scoped_expr ds e ≡ true) p.base (base_scoped ds x.0 p.whole.good.scoped) in
      let whole : sign LeftParen ∷ u ≡ sign LeftParen ∷ (spell_expr p.inner ++ (bare (IsPunctuator RightParen) ∷ b.0)) =
      p.whole.spelled ∙ (b.1 ∙ (ap (λ e. spell_expr e ++ b.0) p.base ∙ ap (λ r. sign LeftParen ∷ r) (append_assoc (spell_expr p.inner) (bare (IsPunctuator RightParen) ∷ []) b.0))) in
      rw (cancelled (sign LeftParen ∷ []) u (spell_expr p.inner ++ (bare (IsPunctuator RightParen) ∷ b.0)) whole, append_assoc)
      (no_type_starts ds (head (spell_expr p.inner ++ (bare (IsPunctuator RightParen) ∷ (b.0 ++ rest)))) (expr_starts ds p.inner (bare (IsPunctuator RightParen) ∷ (b.0 ++ rest)) l s))

  abbrev pub SizeofBehind : ℕ → List Scope → In ExprTree → ℕ → List Lexeme → Type 0
  SizeofBehind at ds = There (at + 1) (Behind (IsPunctuator LeftParen) (Either (SizeofTypeIs at ds) (SizeofParens at ds)))

  sizeof_behind_lawful : (at : ℕ) (ds : List Scope) → Lawful (At (at + 1)) (sizeof_behind sub at ds) (SizeofBehind at ds) After
  sizeof_behind_lawful at ds = behind_at_lawful (at + 1) (sign_tells LeftParen) (when_lawful (next_is_type ds)
      (known (λ n o p. p.0) (sizeof_type_lawful at ds)) (known (λ n o p. p.0) (sizeof_parens_lawful at ds))
      (λ x n u rest i s. rw (i.parts, append_assoc) (closed_begins ds i.value n i.front (i.back ++ rest) i.first.holds))
      (λ x n u rest i s. sizeof_parens_begins (at + 1) ds i.value n u rest i.holds))

  pub expr_some : (level : Level) (ds : List Scope) (e : In ExprTree) (n : ℕ) (u : List Lexeme) → ExprIs (Below h) level ds e n u → 0 < length u
  expr_some level ds e n u i = some_ahead (λ k. is_some_of (start_kind ds k)) u (subst (λ t. next_is (λ k. is_some_of (start_kind ds k)) (head t) ≡ true) (append-nil u) (rw i.spelled (expr_starts ds e.0 [] i.good.levelled i.good.scoped)))

  -- the text of an expression that begins with no `(`
  abbrev pub PlainIs : ℕ → List Scope → In ExprTree → ℕ → List Lexeme → Type 0
  PlainIs at ds = Headed (next_is (is_sign LeftParen)) false (Mapped (λ (e : In ExprTree). (SizeofExpr at e.0, e.1)) (ExprIs (Below h) UnaryLevel ds))

  abbrev pub SizeofIs : ℕ → List Scope → In ExprTree → ℕ → List Lexeme → Type 0
  SizeofIs at ds = Either (SizeofBehind at ds) (PlainIs at ds)

  sizeof_lawful : (at : ℕ) (ds : List Scope) → Lawful (At (at + 1)) (sizeof_operand sub at ds) (SizeofIs at ds) After
  sizeof_lawful at ds = when_lawful (next_is (is_sign LeftParen)) (known (λ n o p. p.0) (sizeof_behind_lawful at ds))
      (headed_lawful (next_is (is_sign LeftParen)) false (λ x n u m. expr_some UnaryLevel ds m.value n u m.holds) (mapped_lawful (λ e. (SizeofExpr at e.0, e.1)) (λ e o s. s) (λ e o s. s) (known (λ n o p. tt) (parts.expr UnaryLevel ds))))
      (λ x n u rest i s. rw i.holds.parts refl)
      (λ x n u rest i s. headed_begins (next_is (is_sign LeftParen)) false x n u rest (expr_some UnaryLevel ds i.holds.value n u i.holds.holds) i)

  abbrev pub AlignofIs : ℕ → List Scope → In ExprTree → ℕ → List Lexeme → Type 0
  AlignofIs at ds = Behind (IsPunctuator LeftParen) (Mapped (λ (t : In (SpecifierTrees × DeclaratorTree)). (AlignofType at (TypeName t.0.0 t.0.1), t.1)) (ClosedType ds))

  alignof_lawful : {P : ℕ → Option Lexeme → Type 0} (at : ℕ) (ds : List Scope) → Lawful P (alignof_operand sub at ds) (AlignofIs at ds) After
  alignof_lawful at ds = behind_lawful (sign_tells LeftParen) (mapped_lawful (λ t. (AlignofType at (TypeName t.0.0 t.0.1), t.1)) (λ t o s. tt) (λ t o s. refl) (closed_lawful ds))

  -- operands

  abbrev pub OperandIs : ℕ → Level → List Scope → Start → List ℕ → In ExprTree → ℕ → List Lexeme → Type 0
  OperandIs at level ds (NameStart m) text x n t = Gives (Name at m, ds) x n t
  OperandIs at level ds IntegerStart text x n t = Gives (Integer at text, ds) x n t
  OperandIs at level ds CharacterStart text x n t = Gives (Character at text, ds) x n t
  OperandIs at level ds LiteralStart text x n t = LiteralsIs at text ds x n t
  OperandIs at level ds ParenthesisStart text x n t = BehindParen at level ds x n t
  OperandIs at level ds (StepStart op) text x n t = PrefixedIs at op ds x n t
  OperandIs at level ds (UnaryStart op) text x n t = SignedIs at op ds x n t
  OperandIs at level ds SizeofStart text x n t = SizeofIs at ds x n t
  OperandIs at level ds AlignofStart text x n t = AlignofIs at ds x n t

  pub operand_lawful : (at : ℕ) (level : Level) (ds : List Scope) (s : Start) (text : List ℕ) → Lawful (At (at + 1)) (operand sub at level ds s text) (OperandIs at level ds s text) After
  operand_lawful at level ds (NameStart n) text = pure_lawful (Name at n, ds) (λ n o p. refl)
  operand_lawful at level ds IntegerStart text = pure_lawful (Integer at text, ds) (λ n o p. refl)
  operand_lawful at level ds CharacterStart text = pure_lawful (Character at text, ds) (λ n o p. refl)
  operand_lawful at level ds LiteralStart text = known (λ n o p. tt) (literals_from_lawful at text ds)
  operand_lawful at level ds ParenthesisStart text = known (λ n o p. tt) (behind_parenthesis_lawful at level ds)
  operand_lawful at level ds (StepStart op) text = known (λ n o p. tt) (prefixed_lawful at op ds)
  operand_lawful at level ds (UnaryStart op) text = known (λ n o p. tt) (signed_lawful at op ds)
  operand_lawful at level ds SizeofStart text = sizeof_lawful at ds
  operand_lawful at level ds AlignofStart text = alignof_lawful at ds

  -- operators

  index_lawful : (at : ℕ) (x : In ExprTree) → Lawful Any (to_index sub at x) (OperatorIs h at x ToIndex) After
  index_lawful at x = ended (λ y n t o i s. tt) (λ y n t o i s. rw i.is refl) (before_lawful (λ i. (Index at x.0 i.0, i.1)) (sign_tells RightBracket) (λ e n t i. refl) (parts.expr CommaLevel x.1))

  -- behind arguments stands `)`, or where there are some, what ends the last
  abbrev EndsArguments : List ExprTree → Option Lexeme → Type 0
  EndsArguments [] o = next_is (is_sign RightParen) o ≡ true
  EndsArguments (e ∷ es) o = Last (λ (e : ExprTree) p. goes_on_expr Assignment p ≡ false) (e ∷ es) o × (comma_ahead o ≡ false)

  arguments_end : (xs : List ExprTree) (e : ExprTree) (es : List ExprTree) (o : Option Lexeme) → xs ≡ e ∷ es → Last (λ (e : ExprTree) p. goes_on_expr Assignment p ≡ false) xs o × (comma_ahead o ≡ false) → EndsArguments xs o
  arguments_end xs e es o is h = subst (λ ys. EndsArguments ys o) (sym is) (subst (λ ys. Last (λ (e : ExprTree) p. goes_on_expr Assignment p ≡ false) ys o × (comma_ahead o ≡ false)) is h)

  end_arguments : (xs : List ExprTree) (e : ExprTree) (es : List ExprTree) (o : Option Lexeme) → xs ≡ e ∷ es → EndsArguments xs o → Last (λ (e : ExprTree) p. goes_on_expr Assignment p ≡ false) xs o × (comma_ahead o ≡ false)
  end_arguments xs e es o is h = subst (λ ys. Last (λ (e : ExprTree) p. goes_on_expr Assignment p ≡ false) ys o × (comma_ahead o ≡ false)) (sym is) (subst (λ ys. EndsArguments ys o) is h)

  some_arguments_lawful : (ds : List Scope) → Lawful Any (some_arguments sub ds) (λ es. Listed Over (ExprIs (Below h) Assignment) ds es.0 es.1) (λ es. EndsArguments es.0)
  some_arguments_lawful ds = ended (λ es n t o l. end_arguments es.0 l.first.0 l.others o l.list) (λ es n t o l. arguments_end es.0 l.first.0 l.others o l.list)
      (listed_lawful (λ (e : ExprTree) p. goes_on_expr Assignment p ≡ false) (parts.expr Assignment) (λ e. refl) ds)

  abbrev ArgumentList : List Scope → In (List ExprTree) → ℕ → List Lexeme → Type 0
  ArgumentList ds es = ArgumentsIs h ds es.0 es.1

  none_from : (ds : List Scope) (es : In (List ExprTree)) (n : ℕ) (t : List Lexeme) → Gives ([], ds) es n t → ArgumentList ds es n t
  none_from ds es n t g = subst (λ w. ArgumentList ds w n t) (sym g.value) (record { levelled = refl; placed = refl; scoped = refl; low = omega arith; behind = refl; spelled = g.nothing })

  list_from : (ds : List Scope) (es : In (List ExprTree)) (n : ℕ) (t : List Lexeme) → Either (Gives ([], ds)) (λ es. Listed Over (ExprIs (Below h) Assignment) ds es.0 es.1) es n t → ArgumentList ds es n t
  list_from ds es n t (Met g) = none_from ds es n t g
  list_from ds es n t (Unmet l) = arguments_from h ds es.0 es.1 n t l

  list_to : (ds : List Scope) (xs : List ExprTree) (after : List Scope) (n : ℕ) (t : List Lexeme) → ArgumentsIs h ds xs after n t → Either {A = In (List ExprTree)} (Gives ([], ds)) (λ es. Listed Over (ExprIs (Below h) Assignment) ds es.0 es.1) (xs, after) n t
  list_to ds [] after n t a = Met (record { value = ap (λ s. ([], s)) a.behind; nothing = a.spelled })
  list_to ds (e ∷ es) after n t a = Unmet (arguments_to h ds e es after n t a)

  arguments_lawful : (ds : List Scope) → Lawful Any (arguments sub ds) (ArgumentList ds) (λ es. EndsArguments es.0)
  arguments_lawful ds = said
      (when_lawful (next_is (is_sign RightParen)) (pure_lawful ([], ds) (λ n o p. p.1)) (known (λ n o p. tt) (some_arguments_lawful ds))
      (λ es n t rest g s. rw g.nothing (subst (λ w. EndsArguments w.0 (head rest)) g.value s))
      (λ es n t rest l s. rw (l.parts, append_assoc) (expr_no_sign RightParen refl Assignment ds l.first n l.front (l.back ++ rest) l.holds)))
      (λ es n t a. list_to ds es.0 es.1 n t a) (list_from ds)

  close_arguments : (xs : List ExprTree) → EndsArguments xs (Some (sign RightParen))
  close_arguments [] = refl
  close_arguments (e ∷ es) = (all_last (λ (e : ExprTree) p. goes_on_expr Assignment p ≡ false) (e ∷ es) (Some (sign RightParen)) (λ x. refl), refl)

  call_lawful : (at : ℕ) (x : In ExprTree) → Lawful Any (to_call sub at x) (OperatorIs h at x ToCall) After
  call_lawful at x = ended (λ y n t o i s. tt) (λ y n t o i s. rw i.is refl) (before_lawful (λ es. (Call at x.0 (expr_trees es.0), es.1)) (sign_tells RightParen) (λ es n t i. close_arguments es.0) (arguments_lawful x.1))

  choose_lawful : (at : ℕ) (x : In ExprTree) → Lawful Any (to_choose sub at x) (OperatorIs h at x ToChoose) After
  choose_lawful at x = bind_lawful (parts.expr CommaLevel x.1)
      (λ a n t i. behind_lawful (sign_tells Colon) (mapped_lawful (λ b. (Conditional at x.0 a.0 b.0, b.1)) (λ b o s. s) (λ b o s. s) (parts.expr ConditionalLevel a.1)))
      (λ a n t b u rest i k s. rw k.parts refl)

  joint_after : (at : ℕ) (j : Joint) (x : ExprTree) (r : In ExprTree) (o : Option Lexeme) → (goes_after (joint_node at j x r.0) o ≡ false → goes_on_expr (joint_right j) o ≡ false) × (goes_on_expr (joint_right j) o ≡ false → goes_after (joint_node at j x r.0) o ≡ false)
  joint_after at (Arithmetically op) x r o = (λ e. e, λ e. e)
  joint_after at (Logically op) x r o = (λ e. e, λ e. e)
  joint_after at (Assigning op) x r o = (λ e. e, λ e. e)
  joint_after at InSequence x r o = (λ e. e, λ e. e)

  join_lawful : (at : ℕ) (j : Joint) (x : In ExprTree) → Lawful Any (to_join sub at j x) (OperatorIs h at x (ToJoin j)) After
  join_lawful at j x = mapped_lawful (λ r. (joint_node at j x.0 r.0, r.1)) (λ r o s. (joint_after at j x.0 r o).0 s) (λ r o s. (joint_after at j x.0 r o).1 s) (parts.expr (joint_right j) x.1)

  behind_operator_lawful : (at : ℕ) (x : In ExprTree) (op : Operator) → Lawful Any (behind_operator sub at x op) (OperatorIs h at x op) After
  behind_operator_lawful at x ToIndex = index_lawful at x
  behind_operator_lawful at x ToCall = call_lawful at x
  behind_operator_lawful at x ToMember = mapped_lawful (λ m. (Member at x.0 m, x.1)) (λ m o s. tt) (λ m o s. refl) (one_lawful a_name)
  behind_operator_lawful at x ToArrow = mapped_lawful (λ m. (Arrow at x.0 m, x.1)) (λ m o s. tt) (λ m o s. refl) (one_lawful a_name)
  behind_operator_lawful at x (ToStep op) = pure_lawful (Postfix at x.0 op, x.1) (λ n o p. refl)
  behind_operator_lawful at x ToChoose = choose_lawful at x
  behind_operator_lawful at x (ToJoin j) = join_lawful at j x

  rise_lawful : (level : Level) (at : ℕ) (x : In ExprTree) → Lawful (And (λ n. After x) (goes_on_expr level) true) (rise h sub at level x) (Rises h level at x) After
  rise_lawful level at x = bind_lawful (one_lawful (operator_for h level x.0)) (λ op n t i. known (λ m o p. tt) (behind_operator_lawful at x op)) (λ op n t b u rest i k s. tt)

  kind_goes : (level : Level) (op : Operator) (k : TokenKind) → operator_kind k ≡ Some op → rank (operator_level op) ≤ rank level → goes_on_level level k ≡ true
  kind_goes level op (IsPunctuator p) e low = rw (e, true_le (rank (operator_level op)) (rank level) low, or_true (nat_le (rank (operator_level op)) 1)) (or_true (is_sign LeftBrace (IsPunctuator p)))
  kind_goes level op _ e low = absurd (Laws.none_is_no e)

  rise_starts : (level : Level) (at : ℕ) (x y : In ExprTree) (n : ℕ) (t more : List Lexeme) → Rises h level at x y n t → goes_on_expr level (head (t ++ more)) ≡ true
  rise_starts level at x y n t more r =
      let o = operator_is h level x.0 r.first.token r.value r.first.is in
      rw (r.parts, r.first.alone) (kind_goes level r.value r.first.token.kind o.kind (le_true (rank (operator_level r.value)) (rank level) (both _ _ o.fits).0))

  rise_fits : (level : Level) (at : ℕ) (x y : In ExprTree) (n : ℕ) (t more : List Lexeme) → Rises h level at x y n t → After x (head (t ++ more))
  rise_fits level at x y n t more r =
      let o = operator_is h level x.0 r.first.token r.value r.first.is in
      let k = one_token r.value o.valid in
      let same : r.first.token ≡ sign k.token = Laws.some_is (ap head (sym o.text ∙ k.text)) in
      rw (r.parts, r.first.alone, same) (fits_after x.0 k.token r.value k.known (both _ _ (both _ _ o.fits).1).0)

  rise_some : (level : Level) (at : ℕ) (x y : In ExprTree) (n : ℕ) (t : List Lexeme) → Rises h level at x y n t → 0 < length t
  rise_some level at x y n t r = rw (r.parts, r.first.alone) (omega arith)

  pub rises_lawful : (level : Level) (at : ℕ) (x : In ExprTree) → Lawful (λ n. After x) (rises h sub at level x) (λ z. Steps (Rises h level at) z x) (λ z o. After z o × (goes_on_expr level o ≡ false))
  rises_lawful level at x = many_lawful (rise_lawful level at) (rise_starts level at) (rise_fits level at) (rise_some level at) (λ y. refl) x

  pub rises_fit : (level : Level) (at : ℕ) (y z : In ExprTree) (m : ℕ) (u rest : List Lexeme) → Steps (Rises h level at) z y m u → After z (head rest) → After y (head (u ++ rest))
  rises_fit level at y z m u rest steps g = steps_fit (rise_lawful level at) (rise_starts level at) (rise_fits level at) (rise_some level at) (λ y. refl) y z m u rest steps g
