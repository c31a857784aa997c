-- Device: the readings of expressions give exactly the grammatical ones.
use Rattle.std.proofs.Common.{◌≡◌, refl, sym, ap, ◌∙◌, subst, ℕ, suc, ◌+◌, ◌-◌, ◌<◌, ◌≤◌, max, length, Bool, true, false, ◌&&◌, nat_eq, nat_le, List, [], ◌∷◌, ◌++◌, append_assoc, append-nil, arith, length-append, true≢false}
use Rattle.cil_base.specs.declared.tokens.TokenKind.TheVariants.{Punctuator as IsPunctuator}
use Rattle.cil_base.specs.declared.tokens.Keyword.TheVariants.{Sizeof as SizeofWord}
use Rattle.cil_base.specs.declared.tokens.Punctuator.TheVariants.{LeftParen, RightParen, RightBrace}
use Rattle.typedef_scopes.specs.Scopes.{Scope, is_type}
use Rattle.c_tree.specs.declared.words.StepOp.{StepOp}
use Rattle.c_tree.specs.declared.words.StepOp.TheVariants.{Increment}
use Rattle.c_tree.specs.declared.words.UnaryOp.{UnaryOp}
use Rattle.c_tree.specs.declared.words.UnaryOp.TheVariants.{Address}
use Rattle.c_tree.specs.declared.level.Level.{Level}
use Rattle.c_tree.specs.declared.level.Level.TheVariants.{Unary as UnaryLevel, Cast as CastLevel, Comma as CommaLevel}
use Rattle.c_tree.specs.Syntax.{ExprTree, Name, Integer, Character, Literals, Parentheses, Index, Call, Member, Arrow, Postfix, CompoundLiteral, Prefix, Unary, SizeofExpr, SizeofType, AlignofType, Cast, Binary, Logical, Conditional, Assign, Comma, TypeName, SpecifierTrees, DeclaratorTree, Declared, ItemTrees}
use Rattle.c_tree.specs.Spelling.{Lexeme, word, sign, literal, in_parens, in_braces, with_commas, last_comma, spell_literals, step_sign, unary_sign, spell_expr, spell_specifiers, spell_declarator, spell_items}
use Rattle.c_tree.specs.Height.{expr_height, specifiers_height, declarator_height}
use Rattle.c_tree.specs.Levels.{rank, level_of, is_within, has_some, levelled, levelled_specifiers, levelled_declarator, levelled_items, has_item, is_type_name}
use Rattle.c_tree.specs.Placed.{placed_expr, placed_specifiers, placed_declarator, placed_items}
use Rattle.c_tree.specs.Scoped.{scoped_expr, scoped_type_name, scoped_items, after_expr, after_type_name, after_items}
use Rattle.c_exprs.specs.declared.words.Start.{Start}
use Rattle.c_exprs.specs.declared.words.Start.TheVariants.{Name as NameStart, Integer as IntegerStart, Character as CharacterStart, Literal as LiteralStart, Parenthesis as ParenthesisStart, Step as StepStart, Unary as UnaryStart, Sizeof as SizeofStart, Alignof as AlignofStart}
use Rattle.c_cursor.specs.Readers.{head}
use Rattle.c_cursor.specs.Classes.{is_sign, next_is}
use Rattle.c_exprs.specs.Classes.{start_of, start_fits}
use Rattle.c_exprs.specs.Subs.{In, Subs}
use Rattle.c_exprs.specs.ExprReading.{expression_from, expression}
use Rattle.c_exprs.proofs.Laws
use Rattle.c_exprs.proofs.Laws.{Lawful, Any, Anywhere, Next, Steps, Ends, More, Token, Mapped, Behind, Before, Both, Either, Met, Unmet, Under, There, Headed, Gives, Numbers, bare, bind_lawful, guard_lawful, one_lawful, here_lawful, there_lawful, said, known, ended, cancelled, At}
use Rattle.c_cursor.proofs.Tokens.{eq_true, true_eq}
use Rattle.c_exprs.proofs.Tokens.{true_le, le_true, not_true, both, a_literal_is, start_lexeme, StartIs, start_is, is_start}
use Rattle.c_exprs.proofs.Relations.{Below, GoodExpr, ExprIs, EndsExpr, base_of, GoodType, type_text, LawfulSubs}
use Rattle.c_exprs.proofs.Climbing.{ends_after, Rises, climb_from, Climb, climb_to}
use Rattle.c_exprs.proofs.Arguments.{tall}
use Rattle.c_exprs.proofs.ExprLaws.{LiteralGrows, InParens, ClosedType, CompoundIs, CastIs, BehindType, BehindParen, PrefixedIs, SignedIs, SizeofTyped, SizeofTypeIs, SizeofParens, SizeofIs, AlignofIs, OperandIs, operand_lawful, rises_lawful, rises_fit}

pub tall_declarator : (d : DeclaratorTree) → 1 ≤ declarator_height d
tall_declarator d = elim d as (λ x. 1 ≤ declarator_height x) [ Declared at n ↦ omega arith | _ ↦ omega arith ]

-- adjacent literals

pub record LiteralRun (us ts : List (List ℕ)) (text : List Lexeme) : Type 0 where
  pub others : List (List ℕ)
  pub list : us ≡ ts ++ others
  pub spelled : text ≡ spell_literals others

pub literals_run : (sub : Subs) (h : ℕ) (parts : LawfulSubs (Below h) sub) (us ts : List (List ℕ)) (n : ℕ) (text : List Lexeme) → Steps (LiteralGrows h sub parts) us ts n text → LiteralRun us ts text
literals_run sub h parts us ts n text (Ends e none) = record { others = []; list = sym e ∙ sym (append-nil ts); spelled = none }
literals_run sub h parts us ts n text (More ws front back g steps split) =
    let r = literals_run sub h parts us ws (n + length front) back steps in
    let token = a_literal_is g.holds.token g.value g.holds.is in
    record { others = g.value ∷ r.others; list = r.list ∙ (ap (λ v. v ++ r.others) g.is ∙ append_assoc ts (g.value ∷ []) r.others); spelled = split ∙ (ap (λ f. f ++ back) (g.holds.alone ∙ ap (λ u. u ∷ []) token) ∙ ap (λ b. literal g.value ∷ b) r.spelled) }

pub run_literals : (sub : Subs) (h : ℕ) (parts : LawfulSubs (Below h) sub) (others ts : List (List ℕ)) (n : ℕ) → Steps (LiteralGrows h sub parts) (ts ++ others) ts n (spell_literals others)
run_literals sub h parts [] ts n = Ends (sym (append-nil ts)) refl
run_literals sub h parts (t ∷ others) ts n =
    More (ts ++ t ∷ []) (literal t ∷ []) (spell_literals others) (record { value = t; holds = record { token = literal t; is = refl; alone = refl }; is = refl })
    (subst (λ us. Steps (LiteralGrows h sub parts) us (ts ++ t ∷ []) (n + 1) (spell_literals others)) (append_assoc ts (t ∷ []) others) (run_literals sub h parts others (ts ++ t ∷ []) (n + 1))) refl

-- an operand and its first token
pub record Operand (h : ℕ) (level : Level) (ds : List Scope) (at : ℕ) (s : Start) (text : List ℕ) (x : In ExprTree) (t : List Lexeme) : Type 0 where
  pub good : GoodExpr (Below (suc h)) ds at x
  pub within : is_within level x.0 ≡ true
  pub base : base_of x.0 ≡ x.0
  pub spelled : spell_expr x.0 ≡ start_lexeme s text ∷ t

-- operands have no operand before them

abbrev pub is_operand : ExprTree → Bool
is_operand (Index at e i) = false
is_operand (Call at e es) = false
is_operand (Member at e n) = false
is_operand (Arrow at e n) = false
is_operand (Postfix at e op) = false
is_operand (Binary at op l r) = false
is_operand (Logical at op l r) = false
is_operand (Conditional at c a b) = false
is_operand (Assign at op l r) = false
is_operand (Comma at l r) = false
is_operand _ = true

pub base_operand : (e : ExprTree) → is_operand (base_of e) ≡ true
base_operand (Index at e i) = base_operand e
base_operand (Call at e es) = base_operand e
base_operand (Member at e n) = base_operand e
base_operand (Arrow at e n) = base_operand e
base_operand (Postfix at e op) = base_operand e
base_operand (Binary at op l r) = base_operand l
base_operand (Logical at op l r) = base_operand l
base_operand (Conditional at c a b) = base_operand c
base_operand (Assign at op l r) = base_operand l
base_operand (Comma at l r) = base_operand l
base_operand _ = refl

step_no_parens : (op : StepOp) → is_sign LeftParen (IsPunctuator (step_sign op)) ≡ false
step_no_parens op = elim op as (λ o. is_sign LeftParen (IsPunctuator (step_sign o)) ≡ false) [ Increment ↦ refl | _ ↦ refl ]

unary_no_parens : (op : UnaryOp) → is_sign LeftParen (IsPunctuator (unary_sign op)) ≡ false
unary_no_parens op = elim op as (λ o. is_sign LeftParen (IsPunctuator (unary_sign o)) ≡ false) [ Address ↦ refl | _ ↦ refl ]

literals_no_parens : (texts : List (List ℕ)) (tail : List Lexeme) → has_some texts ≡ true → next_is (is_sign LeftParen) (head (spell_literals texts ++ tail)) ≡ false
literals_no_parens [] tail e = absurd (true≢false (sym e))
literals_no_parens (t ∷ ts) tail e = refl

module _ (h : ℕ) (sub : Subs) (parts : LawfulSubs (Below h) sub) (level : Level) (ds : List Scope) (at : ℕ) where
  name_from : (s : Start) (text : List ℕ) (e : ExprTree) (x : In ExprTree) (t : List Lexeme) → Gives (e, ds) x (at + 1) t → Operand h level ds at s text (e, ds) [] → Operand h level ds at s text x t
  name_from s text e x t g o = subst (λ u. Operand h level ds at s text x u) (sym g.nothing) (subst (λ w. Operand h level ds at s text w []) (sym g.value) o)

  literals_from_run : (text : List ℕ) (us : List (List ℕ)) (t : List Lexeme) → 1 ≤ h → LiteralRun us (text ∷ []) t → Operand h level ds at LiteralStart text (Literals at us, ds) t
  literals_from_run text us t low r = subst (λ v. Operand h level ds at LiteralStart text (Literals at v, ds) t) (sym r.list) (record {
    good = record { levelled = refl; placed = true_eq at; scoped = refl; low = omega arith; after = refl };
    within = true_le 0 (rank level) (omega arith);
    base = refl;
    spelled = rw r.spelled refl;
  })

  pub parens_from : (x : In ExprTree) (t : List Lexeme) → InParens h sub parts at ds x (at + 1) t → Operand h level ds at ParenthesisStart [] x t
  parens_from x t b = let e = b.holds in
      subst (λ w. Operand h level ds at ParenthesisStart [] w t) (sym b.is) (record {
        good = record { levelled = e.good.levelled; placed = rw (true_eq at, e.good.placed) refl; scoped = e.good.scoped; low = omega (arith, e.good.low); after = e.good.after };
        within = true_le 0 (rank level) (omega arith);
        base = refl;
        spelled = rw (b.parts, e.spelled) refl;
      })

  -- the type name behind the parenthesis of that number
  pub record TypePart (b : ℕ) (t : In (SpecifierTrees × DeclaratorTree)) (u : List Lexeme) : Type 0 where
    pub good : GoodType (Below h) ds (b + 1) t
    pub spelled : u ≡ type_text t.0 ++ bare (IsPunctuator RightParen) ∷ []

  type_part : (b n : ℕ) (t : In (SpecifierTrees × DeclaratorTree)) (u : List Lexeme) → n ≡ b + 1 → ClosedType h sub parts ds t n u → TypePart b t u
  type_part b n t u e c = record {
    good = subst (λ k. GoodType (Below h) ds k t) e (subst (GoodType (Below h) ds n) (sym c.is) c.holds.good);
    spelled = c.parts ∙ ap (λ f. f ++ bare (IsPunctuator RightParen) ∷ []) (c.holds.spelled ∙ ap (λ w. type_text w.0) (sym c.is));
  }

  type_length : (b : ℕ) (t : In (SpecifierTrees × DeclaratorTree)) (u : List Lexeme) → TypePart b t u → length u ≡ length (spell_specifiers t.0.0) + length (spell_declarator t.0.1) + 1
  type_length b t u p = omega (arith, ap length p.spelled, length-append (type_text t.0) (bare (IsPunctuator RightParen) ∷ []), length-append (spell_specifiers t.0.0) (spell_declarator t.0.1))

  pub compound_from : (t : In (SpecifierTrees × DeclaratorTree)) (x : In ExprTree) (front back : List Lexeme) → 1 ≤ rank level → TypePart at t front → CompoundIs h sub parts at t x (at + 1 + length front) back → Operand h level ds at ParenthesisStart [] x (front ++ back)
  compound_from t x front back lv p c =
      let b = c.holds.holds in let i = b.holds in let g = p.good in
      let place : at + 1 + length front + 1 ≡ at + 3 + length (spell_specifiers t.0.0) + length (spell_declarator t.0.1) = omega (arith, type_length at t front p) in
      let y : In (ItemTrees × Bool) = b.value in
      let placed : placed_items (at + 3 + length (spell_specifiers t.0.0) + length (spell_declarator t.0.1)) y.0.0 ≡ true = subst (λ k. placed_items k y.0.0 ≡ true) place i.placed in
      let same : c.value ≡ y = b.is in
      subst (λ w. Operand h level ds at ParenthesisStart [] w (front ++ back)) (sym (c.is ∙ ap (λ v. (CompoundLiteral at (TypeName t.0.0 t.0.1) v.0.0 v.0.1, v.1)) same)) (record {
        good = record {
          levelled = rw (g.type_name, g.specifiers, g.declarator, i.some, i.levelled) refl;
          placed = rw (true_eq at, g.specifiers_placed, g.declarator_placed, placed) refl;
          scoped = rw (g.scoped, ← g.after, i.scoped) refl;
          low = omega (arith, g.low, i.low);
          after = rw (← g.after) i.after;
        };
        within = true_le 1 (rank level) lv;
        base = refl;
        spelled = rw (p.spelled, c.holds.parts, b.parts, i.spelled, append_assoc) refl;
      })

  cast_from : (t : In (SpecifierTrees × DeclaratorTree)) (x : In ExprTree) (front back : List Lexeme) → 3 ≤ rank level → TypePart at t front → CastIs h sub parts at t x (at + 1 + length front) back → Operand h level ds at ParenthesisStart [] x (front ++ back)
  cast_from t x front back lv p c =
      let i = c.holds in let g = p.good in
      let place : at + 1 + length front ≡ at + 2 + length (spell_specifiers t.0.0) + length (spell_declarator t.0.1) = omega (arith, type_length at t front p) in
      let placed : placed_expr (at + 2 + length (spell_specifiers t.0.0) + length (spell_declarator t.0.1)) c.value.0 ≡ true = subst (λ k. placed_expr k c.value.0 ≡ true) place i.good.placed in
      subst (λ w. Operand h level ds at ParenthesisStart [] w (front ++ back)) (sym c.is) (record {
        good = record {
          levelled = rw (g.type_name, g.specifiers, g.declarator, i.within, i.good.levelled) refl;
          placed = rw (true_eq at, g.specifiers_placed, g.declarator_placed, placed) refl;
          scoped = rw (g.scoped, ← g.after, i.good.scoped) refl;
          low = omega (arith, g.low, i.good.low);
          after = rw (← g.after) i.good.after;
        };
        within = true_le 3 (rank level) lv;
        base = refl;
        spelled = rw (p.spelled, i.spelled, append_assoc) refl;
      })

  behind_type_from : (t : In (SpecifierTrees × DeclaratorTree)) (x : In ExprTree) (front back : List Lexeme) → 1 ≤ rank level → TypePart at t front → BehindType h sub parts at level t x (at + 1 + length front) back → Operand h level ds at ParenthesisStart [] x (front ++ back)
  behind_type_from t x front back lv p (Met c) = compound_from t x front back lv p c
  behind_type_from t x front back lv p (Unmet c) = cast_from t x front back (le_true 3 (rank level) c.met) p c.holds

  behind_paren_from : (x : In ExprTree) (t : List Lexeme) → BehindParen h sub parts at level ds x (at + 1) t → Operand h level ds at ParenthesisStart [] x t
  behind_paren_from x t (Met i) =
      let b = i.holds in
      subst (Operand h level ds at ParenthesisStart [] x) (sym b.parts) (behind_type_from b.value x b.front b.back (le_true 1 (rank level) i.met) (type_part at (at + 1) b.value b.front refl b.first) b.second)
  behind_paren_from x t (Unmet b) = parens_from x t b

  prefixed_from : (op : StepOp) (x : In ExprTree) (t : List Lexeme) → 2 ≤ rank level → PrefixedIs h sub parts at op ds x (at + 1) t → Operand h level ds at (StepStart op) [] x t
  prefixed_from op x t lv m = let e = m.holds in
      subst (λ w. Operand h level ds at (StepStart op) [] w t) (sym m.is) (record {
        good = record { levelled = rw (e.within, e.good.levelled) refl; placed = rw (true_eq at, e.good.placed) refl; scoped = e.good.scoped; low = omega (arith, e.good.low); after = e.good.after };
        within = true_le 2 (rank level) lv;
        base = refl;
        spelled = rw e.spelled refl;
      })

  pub signed_from : (op : UnaryOp) (x : In ExprTree) (t : List Lexeme) → 2 ≤ rank level → SignedIs h sub parts at op ds x (at + 1) t → Operand h level ds at (UnaryStart op) [] x t
  signed_from op x t lv m = let e = m.holds in
      subst (λ w. Operand h level ds at (UnaryStart op) [] w t) (sym m.is) (record {
        good = record { levelled = rw (e.within, e.good.levelled) refl; placed = rw (true_eq at, e.good.placed) refl; scoped = e.good.scoped; low = omega (arith, e.good.low); after = e.good.after };
        within = true_le 2 (rank level) lv;
        base = refl;
        spelled = rw e.spelled refl;
      })

  sizeof_expr_from : (e : In ExprTree) (t : List Lexeme) → 2 ≤ rank level → ExprIs (Below h) UnaryLevel ds e (at + 1) t → Operand h level ds at SizeofStart [] (SizeofExpr at e.0, e.1) t
  sizeof_expr_from e t lv i = record {
    good = record { levelled = rw (i.within, i.good.levelled) refl; placed = rw (true_eq at, i.good.placed) refl; scoped = i.good.scoped; low = omega (arith, i.good.low); after = i.good.after };
    within = true_le 2 (rank level) lv;
    base = refl;
    spelled = rw i.spelled refl;
  }

  sizeof_type_from : (t : In (SpecifierTrees × DeclaratorTree)) (u : List Lexeme) → 2 ≤ rank level → TypePart (at + 1) t u → Operand h level ds at SizeofStart [] (SizeofType at (TypeName t.0.0 t.0.1), t.1) (sign LeftParen ∷ u)
  sizeof_type_from t u lv p =
      let g = p.good in
      let two : at + 1 + 1 ≡ at + 2 = omega arith in
      let s : placed_specifiers (at + 2) t.0.0 ≡ true = subst (λ k. placed_specifiers k t.0.0 ≡ true) two g.specifiers_placed in
      let d : placed_declarator (at + 2 + length (spell_specifiers t.0.0)) t.0.1 ≡ true = subst (λ k. placed_declarator (k + length (spell_specifiers t.0.0)) t.0.1 ≡ true) two g.declarator_placed in
      record {
        good = record { levelled = rw (g.type_name, g.specifiers, g.declarator) refl; placed = rw (true_eq at, s, d) refl; scoped = g.scoped; low = omega (arith, g.low); after = g.after };
        within = true_le 2 (rank level) lv;
        base = refl;
        spelled = rw p.spelled refl;
      }

  alignof_type_from : (t : In (SpecifierTrees × DeclaratorTree)) (u : List Lexeme) → 2 ≤ rank level → TypePart (at + 1) t u → Operand h level ds at AlignofStart [] (AlignofType at (TypeName t.0.0 t.0.1), t.1) (sign LeftParen ∷ u)
  alignof_type_from t u lv p =
      let g = p.good in
      let two : at + 1 + 1 ≡ at + 2 = omega arith in
      let s : placed_specifiers (at + 2) t.0.0 ≡ true = subst (λ k. placed_specifiers k t.0.0 ≡ true) two g.specifiers_placed in
      let d : placed_declarator (at + 2 + length (spell_specifiers t.0.0)) t.0.1 ≡ true = subst (λ k. placed_declarator (k + length (spell_specifiers t.0.0)) t.0.1 ≡ true) two g.declarator_placed in
      record {
        good = record { levelled = rw (g.type_name, g.specifiers, g.declarator) refl; placed = rw (true_eq at, s, d) refl; scoped = g.scoped; low = omega (arith, g.low); after = g.after };
        within = true_le 2 (rank level) lv;
        base = refl;
        spelled = rw p.spelled refl;
      }

  sizeof_typed_from : (t : In (SpecifierTrees × DeclaratorTree)) (x : In ExprTree) (n : ℕ) (front back : List Lexeme) → 2 ≤ rank level → TypePart (at + 1) t front → SizeofTyped h sub parts at t ds x n back → Operand h level ds at SizeofStart [] x (sign LeftParen ∷ (front ++ back))
  sizeof_typed_from t x n front back lv p (Met m) =
      let text : sign LeftParen ∷ (front ++ back) ≡ in_parens (type_text t.0) ++ back = rw p.spelled refl in
      subst (λ w. Operand h level ds at SizeofStart [] w (sign LeftParen ∷ (front ++ back))) (sym m.is) (sizeof_expr_from m.value (sign LeftParen ∷ (front ++ back)) lv (subst (ExprIs (Below h) UnaryLevel ds m.value (at + 1)) (sym text) m.holds.whole))
  sizeof_typed_from t x n front back lv p (Unmet g) =
      let text : front ++ back ≡ front = rw (g.nothing, append-nil) refl in
      subst (λ u. Operand h level ds at SizeofStart [] x (sign LeftParen ∷ u)) (sym text) (subst (λ w. Operand h level ds at SizeofStart [] w (sign LeftParen ∷ front)) (sym g.value) (sizeof_type_from t front lv p))

  sizeof_behind_from : (x : In ExprTree) (u : List Lexeme) → 2 ≤ rank level → Either (SizeofTypeIs h sub parts at ds) (SizeofParens h sub parts at ds) x (at + 1 + 1) u → Operand h level ds at SizeofStart [] x (sign LeftParen ∷ u)
  sizeof_behind_from x u lv (Met b) =
      subst (λ v. Operand h level ds at SizeofStart [] x (sign LeftParen ∷ v)) (sym b.parts)
      (sizeof_typed_from b.value x (at + 1 + 1 + length b.front) b.front b.back lv (type_part (at + 1) (at + 1 + 1) b.value b.front refl b.first.holds) b.second)
  sizeof_behind_from x u lv (Unmet m) = subst (λ w. Operand h level ds at SizeofStart [] w (sign LeftParen ∷ u)) (sym m.is) (sizeof_expr_from m.value (sign LeftParen ∷ u) lv m.holds.whole)

  sizeof_from : (x : In ExprTree) (t : List Lexeme) → 2 ≤ rank level → SizeofIs h sub parts at ds x (at + 1) t → Operand h level ds at SizeofStart [] x t
  sizeof_from x t lv (Met i) = subst (Operand h level ds at SizeofStart [] x) (sym i.holds.parts) (sizeof_behind_from x i.holds.back lv i.holds.holds)
  sizeof_from x t lv (Unmet i) = subst (λ w. Operand h level ds at SizeofStart [] w t) (sym i.holds.is) (sizeof_expr_from i.holds.value t lv i.holds.holds)

  alignof_from : (x : In ExprTree) (t : List Lexeme) → 2 ≤ rank level → AlignofIs h sub parts at ds x (at + 1) t → Operand h level ds at AlignofStart [] x t
  alignof_from x t lv i =
      let m = i.holds in
      subst (Operand h level ds at AlignofStart [] x) (sym i.parts) (subst (λ w. Operand h level ds at AlignofStart [] w (sign LeftParen ∷ i.back)) (sym m.is) (alignof_type_from m.value i.back lv (type_part (at + 1) (at + 1 + 1) m.value i.back refl m.holds)))

  pub operand_from : (s : Start) (text : List ℕ) (x : In ExprTree) (t : List Lexeme) → StartIs ds s text → start_fits h level s ≡ true → OperandIs h sub parts at level ds s text x (at + 1) t → Operand h level ds at s text x t
  operand_from (NameStart n) text x t is fits g = name_from (NameStart n) text (Name at n) x t g (record {
    good = record { levelled = refl; placed = true_eq at; scoped = rw is.0 refl; low = omega (arith, le_true 1 h fits); after = refl };
    within = true_le 0 (rank level) (omega arith);
    base = refl;
    spelled = refl;
  })
  operand_from IntegerStart text x t is fits g = name_from IntegerStart text (Integer at text) x t g (record {
    good = record { levelled = refl; placed = true_eq at; scoped = refl; low = omega (arith, le_true 1 h fits); after = refl };
    within = true_le 0 (rank level) (omega arith);
    base = refl;
    spelled = refl;
  })
  operand_from CharacterStart text x t is fits g = name_from CharacterStart text (Character at text) x t g (record {
    good = record { levelled = refl; placed = true_eq at; scoped = refl; low = omega (arith, le_true 1 h fits); after = refl };
    within = true_le 0 (rank level) (omega arith);
    base = refl;
    spelled = refl;
  })
  operand_from LiteralStart text x t is fits m = subst (λ w. Operand h level ds at LiteralStart text w t) (sym m.is) (literals_from_run text m.value t (le_true 1 h fits) (literals_run sub h parts m.value (text ∷ []) (at + 1) t m.holds))
  operand_from ParenthesisStart text x t is fits i = subst (λ w. Operand h level ds at ParenthesisStart w x t) (sym is) (behind_paren_from x t i)
  operand_from (StepStart op) text x t is fits m = subst (λ w. Operand h level ds at (StepStart op) w x t) (sym is) (prefixed_from op x t (le_true 2 (rank level) (both (nat_le 2 h) (nat_le 2 (rank level)) fits).1) m)
  operand_from (UnaryStart op) text x t is fits m = subst (λ w. Operand h level ds at (UnaryStart op) w x t) (sym is) (signed_from op x t (le_true 2 (rank level) (both (nat_le 2 h) (nat_le 2 (rank level)) fits).1) m)
  operand_from SizeofStart text x t is fits i = subst (λ w. Operand h level ds at SizeofStart w x t) (sym is) (sizeof_from x t (le_true 2 (rank level) (both (nat_le 2 h) (nat_le 2 (rank level)) fits).1) i)
  operand_from AlignofStart text x t is fits i = subst (λ w. Operand h level ds at AlignofStart w x t) (sym is) (alignof_from x t (le_true 2 (rank level) (both (nat_le 2 h) (nat_le 2 (rank level)) fits).1) i)

  -- and back

  record OperandOf (b : ExprTree) : Type 0 where
    start : Start
    text : List ℕ
    back : List Lexeme
    is : StartIs ds start text
    fits : start_fits h level start ≡ true
    operand : OperandIs h sub parts at level ds start text (b, after_expr ds b) (at + 1) back
    spelled : spell_expr b ≡ start_lexeme start text ∷ back

  low_one : (e : ExprTree) → expr_height e < suc h → nat_le 1 h ≡ true
  low_one e low = true_le 1 h (omega (arith, low, tall e))

  fits_two : (e : ExprTree) → 1 + expr_height e < suc h → 2 ≤ rank level → (nat_le 2 h && nat_le 2 (rank level)) ≡ true
  fits_two e low lv = rw (true_le 2 h (omega (arith, low, tall e)), true_le 2 (rank level) lv) refl

  fits_type : (m : ℕ) (d : DeclaratorTree) → 1 + max m (declarator_height d) < suc h → 2 ≤ rank level → (nat_le 2 h && nat_le 2 (rank level)) ≡ true
  fits_type m d low lv = rw (true_le 2 h (omega (arith, low, tall_declarator d)), true_le 2 (rank level) lv) refl

  pub part_is : (l : Level) (es : List Scope) (n : ℕ) (e : ExprTree) → levelled e ≡ true → placed_expr n e ≡ true → scoped_expr es e ≡ true → expr_height e < h → is_within l e ≡ true → ExprIs (Below h) l es (e, after_expr es e) n (spell_expr e)
  part_is l es n e lv p s low w = record { good = record { levelled = lv; placed = p; scoped = s; low = low; after = refl }; within = w; spelled = refl }

  type_is : (n : ℕ) (ss : SpecifierTrees) (d : DeclaratorTree) → (is_type_name ss d && (levelled_specifiers ss && levelled_declarator d)) ≡ true → placed_specifiers n ss ≡ true → placed_declarator (n + length (spell_specifiers ss)) d ≡ true →
      scoped_type_name ds (TypeName ss d) ≡ true → max (specifiers_height ss) (declarator_height d) < h → ClosedType h sub parts ds ((ss, d), after_type_name ds (TypeName ss d)) n (type_text (ss, d) ++ bare (IsPunctuator RightParen) ∷ [])
  type_is n ss d l p q s low =
      let a = both (is_type_name ss d) (levelled_specifiers ss && levelled_declarator d) l in let b = both (levelled_specifiers ss) (levelled_declarator d) a.1 in
      record {
        value = ((ss, d), after_type_name ds (TypeName ss d));
        front = type_text (ss, d);
        is = refl;
        parts = refl;
        holds = record { good = record { type_name = a.0; specifiers = b.0; declarator = b.1; specifiers_placed = p; declarator_placed = q; scoped = s; low = low; after = refl }; spelled = refl };
      }

  pub at_most : (e : ExprTree) → is_within CommaLevel e ≡ true
  at_most e = true_le (rank (level_of e)) 16 (most (level_of e))
    where
      most : (l : Level) → rank l ≤ 16
      most l = le_true (rank l) 16 (elim l as (λ k. nat_le (rank k) 16 ≡ true) [ CommaLevel ↦ refl | _ ↦ refl ])

  -- `sizeof` and a unary expression, by what that begins with
  module _ (e : ExprTree) (lv : 2 ≤ rank level) (fits : (nat_le 2 h && nat_le 2 (rank level)) ≡ true) (low : expr_height e < h) (whole : ExprIs (Below h) UnaryLevel ds (e, after_expr ds e) (at + 1) (spell_expr e)) where
    sizeof_plain_of : (b : ExprTree) → Climb (h - 1) UnaryLevel ds (at + 1) b e → ((tail : List Lexeme) → next_is (is_sign LeftParen) (head (spell_expr b ++ tail)) ≡ false) → OperandOf (SizeofExpr at e)
    sizeof_plain_of b c none = record {
      start = SizeofStart;
      text = [];
      back = spell_expr e;
      is = refl;
      fits = fits;
      spelled = refl;
      operand = Unmet (record { first = rw c.spelled (none c.tail); holds = record { value = (e, after_expr ds e); holds = whole; is = refl } });
    }

    sizeof_parens_of : (k : ℕ) (inner : ExprTree) → base_of e ≡ Parentheses k inner → Climb (h - 1) UnaryLevel ds (at + 1) (Parentheses k inner) e → OperandOf (SizeofExpr at e)
    sizeof_parens_of k inner base c =
        let at_one : k ≡ at + 1 = eq_true k (at + 1) (both (nat_eq k (at + 1)) (placed_expr (at + 1 + 1) inner) c.good.placed).0 in
        let u : List Lexeme = (spell_expr inner ++ bare (IsPunctuator RightParen) ∷ []) ++ c.tail in
        record {
          start = SizeofStart;
          text = [];
          back = sign LeftParen ∷ u;
          is = refl;
          fits = fits;
          spelled = rw c.spelled refl;
          operand = Met (record {
            number = refl;
            holds = record {
              back = u;
              parts = refl;
              holds = Unmet (record {
                value = (e, after_expr ds e);
                is = refl;
                holds = record { inner = inner; base = base ∙ ap (λ j. Parentheses j inner) at_one; number = refl; whole = record { good = whole.good; within = whole.within; spelled = sym c.spelled } };
              });
            };
          });
        }

    sizeof_literal_of : (k : ℕ) (ss : SpecifierTrees) (d : DeclaratorTree) (items : ItemTrees) (comma : Bool) → base_of e ≡ CompoundLiteral k (TypeName ss d) items comma → Climb (h - 1) UnaryLevel ds (at + 1) (CompoundLiteral k (TypeName ss d) items comma) e → OperandOf (SizeofExpr at e)
    sizeof_literal_of k ss d items comma base c =
        let g = c.good in
        let l = both (is_type_name ss d && (levelled_specifiers ss && levelled_declarator d)) (has_item items && levelled_items items) g.levelled in
        let p = both _ _ g.placed in let p1 = both _ _ p.1 in let p2 = both _ _ p1.0 in
        let s = both (scoped_type_name ds (TypeName ss d)) (scoped_items (after_type_name ds (TypeName ss d)) items) g.scoped in
        let at_one : k ≡ at + 1 = eq_true k (at + 1) p.0 in
        let front : List Lexeme = type_text (ss, d) ++ bare (IsPunctuator RightParen) ∷ [] in
        let u : List Lexeme = in_braces (with_commas (spell_items items) ++ last_comma comma) ++ c.tail in
        let text : sign LeftParen ∷ (front ++ u) ≡ spell_expr e = sym (c.spelled ∙ append_assoc (in_parens (type_text (ss, d))) (in_braces (with_commas (spell_items items) ++ last_comma comma)) c.tail) in
        record {
          start = SizeofStart;
          text = [];
          back = sign LeftParen ∷ (front ++ u);
          is = refl;
          fits = fits;
          spelled = ap (λ v. word SizeofWord ∷ v) (sym text);
          operand = Met (record {
            number = refl;
            holds = record {
              back = front ++ u;
              parts = refl;
              holds = Met (record {
                value = ((ss, d), after_type_name ds (TypeName ss d));
                front = front;
                back = u;
                parts = refl;
                first = record { number = refl; holds = type_is (at + 1 + 1) ss d l.0 p2.0 p2.1 s.0 (omega (arith, g.low, low)) };
                second = Met (record {
                  value = (e, after_expr ds e);
                  is = refl;
                  holds = record {
                    items = items;
                    comma = comma;
                    base = base ∙ ap (λ j. CompoundLiteral j (TypeName ss d) items comma) at_one;
                    number = omega arith;
                    whole = record { good = whole.good; within = whole.within; spelled = text };
                  };
                });
              });
            };
          });
        }

    sizeof_by : (b : ExprTree) → is_operand b ≡ true → base_of e ≡ b → Climb (h - 1) UnaryLevel ds (at + 1) b e → OperandOf (SizeofExpr at e)
    sizeof_by (Name k n) o base c = sizeof_plain_of (Name k n) c (λ tail. refl)
    sizeof_by (Integer k t) o base c = sizeof_plain_of (Integer k t) c (λ tail. refl)
    sizeof_by (Character k t) o base c = sizeof_plain_of (Character k t) c (λ tail. refl)
    sizeof_by (Literals k ts) o base c = sizeof_plain_of (Literals k ts) c (λ tail. literals_no_parens ts tail c.good.levelled)
    sizeof_by (Parentheses k inner) o base c = sizeof_parens_of k inner base c
    sizeof_by (CompoundLiteral k (TypeName ss d) items comma) o base c = sizeof_literal_of k ss d items comma base c
    sizeof_by (Prefix k op b) o base c = sizeof_plain_of (Prefix k op b) c (λ tail. step_no_parens op)
    sizeof_by (Unary k op b) o base c = sizeof_plain_of (Unary k op b) c (λ tail. unary_no_parens op)
    sizeof_by (SizeofExpr k b) o base c = sizeof_plain_of (SizeofExpr k b) c (λ tail. refl)
    sizeof_by (SizeofType k t) o base c = sizeof_plain_of (SizeofType k t) c (λ tail. refl)
    sizeof_by (AlignofType k t) o base c = sizeof_plain_of (AlignofType k t) c (λ tail. refl)
    sizeof_by (Cast k t b) o base c = absurd (true≢false (sym c.within))
    sizeof_by _ o base c = absurd (true≢false (sym o))

  sizeof_of : (a : ℕ) (e : ExprTree) → GoodExpr (Below (suc h)) ds at (SizeofExpr a e, after_expr ds (SizeofExpr a e)) → is_within level (SizeofExpr a e) ≡ true → OperandOf (SizeofExpr a e)
  sizeof_of a e g w =
      let l = both (is_within UnaryLevel e) (levelled e) g.levelled in let p = both (nat_eq a at) (placed_expr (at + 1) e) g.placed in
      let low : expr_height e < h = omega (arith, g.low) in
      let whole : ExprIs (Below h) UnaryLevel ds (e, after_expr ds e) (at + 1) (spell_expr e) = part_is UnaryLevel ds (at + 1) e l.1 p.1 g.scoped low l.0 in
      let c = climb_to (h - 1) UnaryLevel ds (at + 1) e (record { levelled = l.1; placed = p.1; scoped = g.scoped; low = omega (arith, low); after = refl }) l.0 in
      subst (λ k. OperandOf (SizeofExpr k e)) (sym (eq_true a at p.0)) (sizeof_by e (le_true 2 (rank level) w) (fits_two e g.low (le_true 2 (rank level) w)) low whole (base_of e) (base_operand e) refl c)

  operand_of : (b : ExprTree) → is_operand b ≡ true → GoodExpr (Below (suc h)) ds at (b, after_expr ds b) → is_within level b ≡ true → OperandOf b
  operand_of (Name a n) o g w = record { start = NameStart n; text = []; back = []; is = (not_true (is_type ds n) g.scoped, refl); fits = low_one (Name a n) g.low; operand = record { value = ap (λ k. (Name k n, ds)) (eq_true a at g.placed); nothing = refl }; spelled = refl }
  operand_of (Integer a text) o g w = record { start = IntegerStart; text = text; back = []; is = tt; fits = low_one (Integer a text) g.low; operand = record { value = ap (λ k. (Integer k text, ds)) (eq_true a at g.placed); nothing = refl }; spelled = refl }
  operand_of (Character a text) o g w = record { start = CharacterStart; text = text; back = []; is = tt; fits = low_one (Character a text) g.low; operand = record { value = ap (λ k. (Character k text, ds)) (eq_true a at g.placed); nothing = refl }; spelled = refl }
  operand_of (Literals a []) o g w = absurd (true≢false (sym g.levelled))
  operand_of (Literals a (t ∷ ts)) o g w = record {
    start = LiteralStart;
    text = t;
    back = spell_literals ts;
    is = tt;
    fits = low_one (Literals a (t ∷ ts)) g.low;
    spelled = refl;
    operand = record { value = t ∷ ts; holds = run_literals sub h parts ts (t ∷ []) (at + 1); is = ap (λ k. (Literals k (t ∷ ts), ds)) (eq_true a at g.placed) };
  }
  operand_of (Parentheses a e) o g w =
      let p = both (nat_eq a at) (placed_expr (at + 1) e) g.placed in
      record {
        start = ParenthesisStart;
        text = [];
        back = spell_expr e ++ bare (IsPunctuator RightParen) ∷ [];
        is = refl;
        fits = true_le 2 h (omega (arith, g.low, tall e));
        spelled = refl;
        operand = Unmet (record { value = (e, after_expr ds e); front = spell_expr e; holds = part_is CommaLevel ds (at + 1) e g.levelled p.1 g.scoped (omega (arith, g.low)) (at_most e); is = ap (λ k. (Parentheses k e, after_expr ds e)) (eq_true a at p.0); parts = refl });
      }
  operand_of (CompoundLiteral a (TypeName ss d) items comma) o g w =
      let l = both (is_type_name ss d && (levelled_specifiers ss && levelled_declarator d)) (has_item items && levelled_items items) g.levelled in let li = both (has_item items) (levelled_items items) l.1 in
      let p = both _ _ g.placed in let p1 = both _ _ p.1 in let p2 = both _ _ p1.0 in
      let s = both (scoped_type_name ds (TypeName ss d)) (scoped_items (after_type_name ds (TypeName ss d)) items) g.scoped in
      let front : List Lexeme = type_text (ss, d) ++ bare (IsPunctuator RightParen) ∷ [] in
      let place : at + 3 + length (spell_specifiers ss) + length (spell_declarator d) ≡ at + 1 + length front + 1 = omega (arith, length-append (type_text (ss, d)) (bare (IsPunctuator RightParen) ∷ []), length-append (spell_specifiers ss) (spell_declarator d)) in
      record {
        start = ParenthesisStart;
        text = [];
        back = front ++ in_braces (with_commas (spell_items items) ++ last_comma comma);
        is = refl;
        fits = true_le 2 h (omega (arith, g.low, tall_declarator d));
        spelled = rw (append_assoc, append_assoc) refl;
        operand = Met (record {
          met = w;
          holds = record {
            value = ((ss, d), after_type_name ds (TypeName ss d));
            front = front;
            back = in_braces (with_commas (spell_items items) ++ last_comma comma);
            parts = refl;
            first = type_is (at + 1) ss d l.0 p2.0 p2.1 s.0 (omega (arith, g.low));
            second = Met (record {
              value = ((items, comma), after_items (after_type_name ds (TypeName ss d)) items);
              is = ap (λ k. (CompoundLiteral k (TypeName ss d) items comma, after_items (after_type_name ds (TypeName ss d)) items)) (eq_true a at p.0);
              holds = record {
                back = (with_commas (spell_items items) ++ last_comma comma) ++ bare (IsPunctuator RightBrace) ∷ [];
                parts = refl;
                holds = record {
                  value = ((items, comma), after_items (after_type_name ds (TypeName ss d)) items);
                  front = with_commas (spell_items items) ++ last_comma comma;
                  is = refl;
                  parts = refl;
                  holds = record { some = li.0; levelled = li.1; placed = subst (λ k. placed_items k items ≡ true) place p1.1; scoped = s.1; low = omega (arith, g.low); after = refl; spelled = refl };
                };
              };
            });
          };
        });
      }
  operand_of (Prefix a op e) o g w =
      let l = both _ _ g.levelled in let p = both (nat_eq a at) (placed_expr (at + 1) e) g.placed in
      record {
        start = StepStart op;
        text = [];
        back = spell_expr e;
        is = refl;
        fits = fits_two e g.low (le_true 2 (rank level) w);
        spelled = refl;
        operand = record { value = (e, after_expr ds e); holds = part_is UnaryLevel ds (at + 1) e l.1 p.1 g.scoped (omega (arith, g.low)) l.0; is = ap (λ k. (Prefix k op e, after_expr ds e)) (eq_true a at p.0) };
      }
  operand_of (Unary a op e) o g w =
      let l = both _ _ g.levelled in let p = both (nat_eq a at) (placed_expr (at + 1) e) g.placed in
      record {
        start = UnaryStart op;
        text = [];
        back = spell_expr e;
        is = refl;
        fits = fits_two e g.low (le_true 2 (rank level) w);
        spelled = refl;
        operand = record { value = (e, after_expr ds e); holds = part_is CastLevel ds (at + 1) e l.1 p.1 g.scoped (omega (arith, g.low)) l.0; is = ap (λ k. (Unary k op e, after_expr ds e)) (eq_true a at p.0) };
      }
  operand_of (SizeofExpr a e) o g w = sizeof_of a e g w
  operand_of (SizeofType a (TypeName ss d)) o g w =
      let p = both _ _ g.placed in let p1 = both _ _ p.1 in
      let front : List Lexeme = type_text (ss, d) ++ bare (IsPunctuator RightParen) ∷ [] in
      let two : at + 2 ≡ at + 1 + 1 = omega arith in
      record {
        start = SizeofStart;
        text = [];
        back = in_parens (type_text (ss, d));
        is = refl;
        fits = fits_type (specifiers_height ss) d g.low (le_true 2 (rank level) w);
        spelled = refl;
        operand = Met (record {
          number = refl;
          holds = record {
            back = front;
            parts = refl;
            holds = Met (record {
              value = ((ss, d), after_type_name ds (TypeName ss d));
              front = front;
              back = [];
              parts = sym (append-nil front);
              first = record { number = refl; holds = type_is (at + 1 + 1) ss d g.levelled (subst (λ k. placed_specifiers k ss ≡ true) two p1.0) (subst (λ k. placed_declarator (k + length (spell_specifiers ss)) d ≡ true) two p1.1) g.scoped (omega (arith, g.low)) };
              second = Unmet (record { value = ap (λ k. (SizeofType k (TypeName ss d), after_type_name ds (TypeName ss d))) (eq_true a at p.0); nothing = refl });
            });
          };
        });
      }
  operand_of (AlignofType a (TypeName ss d)) o g w =
      let p = both _ _ g.placed in let p1 = both _ _ p.1 in
      let front : List Lexeme = type_text (ss, d) ++ bare (IsPunctuator RightParen) ∷ [] in
      let two : at + 2 ≡ at + 1 + 1 = omega arith in
      record {
        start = AlignofStart;
        text = [];
        back = in_parens (type_text (ss, d));
        is = refl;
        fits = fits_type (specifiers_height ss) d g.low (le_true 2 (rank level) w);
        spelled = refl;
        operand = record {
          back = front;
          parts = refl;
          holds = record {
            value = ((ss, d), after_type_name ds (TypeName ss d));
            is = ap (λ k. (AlignofType k (TypeName ss d), after_type_name ds (TypeName ss d))) (eq_true a at p.0);
            holds = type_is (at + 1 + 1) ss d g.levelled (subst (λ k. placed_specifiers k ss ≡ true) two p1.0) (subst (λ k. placed_declarator (k + length (spell_specifiers ss)) d ≡ true) two p1.1) g.scoped (omega (arith, g.low));
          };
        };
      }
  operand_of (Cast a (TypeName ss d) e) o g w =
      let l = both (is_type_name ss d && (levelled_specifiers ss && levelled_declarator d)) (is_within CastLevel e && levelled e) g.levelled in let le = both (is_within CastLevel e) (levelled e) l.1 in
      let p = both _ _ g.placed in let p1 = both _ _ p.1 in let p2 = both _ _ p1.0 in
      let s = both (scoped_type_name ds (TypeName ss d)) (scoped_expr (after_type_name ds (TypeName ss d)) e) g.scoped in
      let front : List Lexeme = type_text (ss, d) ++ bare (IsPunctuator RightParen) ∷ [] in
      let place : at + 2 + length (spell_specifiers ss) + length (spell_declarator d) ≡ at + 1 + length front = omega (arith, length-append (type_text (ss, d)) (bare (IsPunctuator RightParen) ∷ []), length-append (spell_specifiers ss) (spell_declarator d)) in
      let three : 3 ≤ rank level = le_true 3 (rank level) w in
      record {
        start = ParenthesisStart;
        text = [];
        back = front ++ spell_expr e;
        is = refl;
        fits = true_le 2 h (omega (arith, g.low, tall_declarator d));
        spelled = rw (append_assoc, append_assoc) refl;
        operand = Met (record {
          met = true_le 1 (rank level) (omega (arith, three));
          holds = record {
            value = ((ss, d), after_type_name ds (TypeName ss d));
            front = front;
            back = spell_expr e;
            parts = refl;
            first = type_is (at + 1) ss d l.0 p2.0 p2.1 s.0 (omega (arith, g.low));
            second = Unmet (record {
              met = w;
              holds = record {
                value = (e, after_expr (after_type_name ds (TypeName ss d)) e);
                is = ap (λ k. (Cast k (TypeName ss d) e, after_expr (after_type_name ds (TypeName ss d)) e)) (eq_true a at p.0);
                holds = part_is CastLevel (after_type_name ds (TypeName ss d)) (at + 1 + length front) e le.1 (subst (λ k. placed_expr k e ≡ true) place p1.1) s.1 (omega (arith, g.low)) le.0;
              };
            });
          };
        });
      }
  operand_of _ o g w = absurd (true≢false (sym o))

  -- whole expressions

  abbrev Composed : In ExprTree → ℕ → List Lexeme → Type 0
  Composed = Both (There at (Token (start_of h level ds))) (λ s. Both (OperandIs h sub parts at level ds s.0 s.1) (λ x z. Steps (Rises h level at) z x))

  composed_from : (z : In ExprTree) (n : ℕ) (t : List Lexeme) → Composed z n t → There at (ExprIs (Below (suc h)) level ds) z n t
  composed_from z n t b =
      let s = start_is h level ds b.first.holds.token b.value.0 b.value.1 b.first.holds.is in
      let k = b.second in
      let one : b.front ≡ start_lexeme b.value.0 b.value.1 ∷ [] = b.first.holds.alone ∙ ap (λ u. u ∷ []) s.0 in
      let there : n + length b.front ≡ at + 1 = omega (arith, b.first.number, ap length one) in
      let o = operand_from b.value.0 b.value.1 k.value k.front s.1 s.2 (subst (λ m. OperandIs h sub parts at level ds b.value.0 b.value.1 k.value m k.front) there k.first) in
      let next : n + length b.front + length k.front ≡ at + length (spell_expr k.value.0) = omega (arith, there, ap length o.spelled) in
      let c = climb_from h level ds at z k.value (n + length b.front + length k.front) k.back o.good o.within next k.second in
      let text : t ≡ spell_expr z.0 = b.parts ∙ (ap (λ f. f ++ b.back) one ∙ (ap (λ r. start_lexeme b.value.0 b.value.1 ∷ r) k.parts ∙ (ap (λ r. r ++ k.back) (sym o.spelled) ∙ sym c.spelled))) in
      record { number = b.first.number; holds = record { good = subst (λ m. GoodExpr (Below (suc h)) ds m z) (sym b.first.number) c.good; within = c.within; spelled = text } }

  composed_to : (z : In ExprTree) (n : ℕ) (t : List Lexeme) → There at (ExprIs (Below (suc h)) level ds) z n t → Composed z n t
  composed_to z n t i =
      let g = i.holds.good in
      let c = climb_to h level ds at z.0 (record { levelled = g.levelled; placed = subst (λ m. placed_expr m z.0 ≡ true) i.number g.placed; scoped = g.scoped; low = g.low; after = refl }) i.holds.within in
      let o = operand_of (base_of z.0) (base_operand z.0) c.good c.within in
      let there : n + 1 ≡ at + 1 = ap (λ m. m + 1) i.number in
      let next : at + length (spell_expr (base_of z.0)) ≡ n + 1 + length o.back = omega (arith, i.number, ap length o.spelled) in
      record {
        value = (o.start, o.text);
        front = start_lexeme o.start o.text ∷ [];
        back = o.back ++ c.tail;
        first = record { number = i.number; holds = record { token = start_lexeme o.start o.text; is = is_start h level ds o.start o.text o.is o.fits; alone = refl } };
        second = record {
          value = (base_of z.0, after_expr ds (base_of z.0));
          front = o.back;
          back = c.tail;
          parts = refl;
          first = rw there o.operand;
          second = subst (λ w. Steps (Rises h level at) w (base_of z.0, after_expr ds (base_of z.0)) (n + 1 + length o.back) c.tail) (ap (λ s. (z.0, s)) (sym g.after)) (rw (← next) c.steps);
        };
        parts = rw (i.holds.spelled, c.spelled, o.spelled) refl;
      }

  expression_from_lawful : Lawful (At at) (expression_from h sub level ds at) (There at (ExprIs (Below (suc h)) level ds)) (EndsExpr level)
  expression_from_lawful = ended
      (λ z n t o i e. (ends_after z.0 level o i.holds.within e, e)) (λ z n t o i e. e.1)
      (said (bind_lawful (there_lawful at (λ n o p. p) (one_lawful (start_of h level ds)))
      (λ s n t i. bind_lawful (known (λ m o p. p.0 ∙ token_next n t i) (operand_lawful h sub parts at level ds s.0 s.1)) (λ x m u k. known (λ j o p. p.1) (rises_lawful h sub parts level at x))
      (λ x m u z v rest k steps e. rises_fit h sub parts level at x z (m + length u) v rest steps e.0))
      (λ s n t z u rest i k e. tt)) composed_to composed_from)
    where
      token_next : {s : Start × List ℕ} (n : ℕ) (t : List Lexeme) → There at (Token (start_of h level ds)) s n t → n + length t ≡ at + 1
      token_next n t i = omega (arith, i.number, ap length i.holds.alone)

module _ (h : ℕ) (sub : Subs) (parts : LawfulSubs (Below h) sub) where
  pub expression_lawful : (level : Level) (ds : List Scope) → Lawful Any (expression h sub level ds) (ExprIs (Below (suc h)) level ds) (EndsExpr level)
  expression_lawful level ds = said
      (bind_lawful here_lawful (λ at n t i. known (λ m o p. p.0 ∙ (ap (λ u. n + length u) i.nothing ∙ (Laws.add_none n ∙ sym i.value))) (expression_from_lawful h sub parts level ds at)) (λ at n t z u rest i k e. tt))
      (λ z n t i. record { value = n; front = []; back = t; first = record { value = refl; nothing = refl }; second = record { number = Laws.add_none n; holds = subst (λ m. ExprIs (Below (suc h)) level ds z m t) (sym (Laws.add_none n)) i }; parts = refl })
      (λ z n t b. subst (λ u. ExprIs (Below (suc h)) level ds z n u) (sym (b.parts ∙ ap (λ f. f ++ b.back) b.first.nothing)) (subst (λ m. ExprIs (Below (suc h)) level ds z m b.back) (b.second.number ∙ b.first.value) b.second.holds))
