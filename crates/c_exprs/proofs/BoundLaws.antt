-- Device: the reading of what stands in the brackets of an array gives exactly the grammatical bounds.
use Rattle.std.proofs.Common.{◌≡◌, refl, sym, ap, ◌∙◌, subst, ℕ, suc, ◌+◌, ◌-◌, ◌<◌, ◌≤◌, length, Bool, true, false, not, ◌&&◌, ◌||◌, nat_eq, List, [], ◌∷◌, ◌++◌, Option, Some, append_assoc, append-nil, arith, true≢false}
use Rattle.cil_base.specs.declared.tokens.TokenKind.{TokenKind}
use Rattle.cil_base.specs.declared.tokens.TokenKind.TheVariants.{Keyword as IsKeyword, Punctuator as IsPunctuator}
use Rattle.cil_base.specs.declared.tokens.Keyword.{Keyword}
use Rattle.cil_base.specs.declared.tokens.Keyword.TheVariants.{Static as StaticWord, Const as ConstWord, Restrict as RestrictWord}
use Rattle.cil_base.specs.declared.tokens.Punctuator.TheVariants.{RightBracket, Star as StarSign}
use Rattle.typedef_scopes.specs.Scopes.{Scope}
use Rattle.c_tree.specs.declared.words.Qualifier.{Qualifier}
use Rattle.c_tree.specs.declared.words.Qualifier.TheVariants.{Const}
use Rattle.c_tree.specs.declared.words.StepOp.{StepOp}
use Rattle.c_tree.specs.declared.words.StepOp.TheVariants.{Increment}
use Rattle.c_tree.specs.declared.words.UnaryOp.TheVariants.{Address, Indirection, Plus as PlusOp, Minus as MinusOp, Complement, Not}
use Rattle.c_tree.specs.declared.level.Level.TheVariants.{Assignment}
use Rattle.c_tree.specs.Syntax.{ExprTree, Name, Integer, Character, Literals, Parentheses, CompoundLiteral, Prefix, Unary, SizeofExpr, SizeofType, AlignofType, Cast, BoundTree, Unspecified, Star, Size, StaticSize, SizeStatic}
use Rattle.c_tree.specs.Spelling.{Lexeme, word, sign, qualifier_word, step_sign, spell_expr, spell_qualifiers, spell_bound, spell_literals}
use Rattle.c_tree.specs.Height.{expr_height, bound_height}
use Rattle.c_tree.specs.Levels.{has_some, is_within, levelled, levelled_bound, is_bound_of}
use Rattle.c_tree.specs.Placed.{placed_expr, placed_bound}
use Rattle.c_tree.specs.Scoped.{scoped_expr, scoped_bound, after_expr, after_bound}
use Rattle.c_cursor.specs.Readers.{head}
use Rattle.c_cursor.specs.Classes.{is_sign, is_static_word, next_is}
use Rattle.c_exprs.specs.Classes.{is_qualifier, qualifier_word_kind, a_qualifier, start_kind, start_word_kind, is_some_of}
use Rattle.c_exprs.specs.GoesOn.{goes_on_expr}
use Rattle.c_exprs.specs.Subs.{In, Subs}
use Rattle.c_exprs.specs.DeclaratorReading.{qualifiers, static_bound, bound_static, behind_star, star_bound, open_bound, given_bound, qualified_bound, bound}
use Rattle.c_exprs.proofs.Laws
use Rattle.c_exprs.proofs.Laws.{Lawful, Any, Anywhere, Next, And, Steps, Ends, More, Token, Mapped, Behind, Before, Both, Either, Met, Unmet, Under, There, Headed, Gives, Numbers, bare, bind_lawful, guard_lawful, mapped_lawful, behind_lawful, behind_at_lawful, pure_lawful, when_lawful, many_lawful, steps_fit, one_lawful, here_lawful, there_lawful, headed_lawful, headed_begins, said, known, ended, At}
use Rattle.c_cursor.proofs.Tokens.{eq_true, true_eq}
use Rattle.c_exprs.proofs.Tokens.{both, sign_tells, static_tells, a_qualifier_is, is_a_qualifier}
use Rattle.c_exprs.proofs.Heads.{expr_starts, apart, no_sign_starts}
use Rattle.c_exprs.proofs.Relations.{Below, ExprIs, base_of, StarredIs, LawfulSubs}
use Rattle.c_exprs.proofs.Climbing.{Climb, climb_to, spelled_by_base, base_levelled, base_scoped}
use Rattle.c_exprs.proofs.Arguments.{tall}
use Rattle.c_exprs.proofs.ExprLaws.{expr_some}
use Rattle.c_exprs.proofs.ExprTrees.{is_operand, base_operand}

-- qualifiers

abbrev QualifierGrows : List Qualifier → List Qualifier → ℕ → List Lexeme → Type 0
QualifierGrows qs rs = Mapped (λ (q : Qualifier). qs ++ q ∷ []) (Token a_qualifier) rs

pub record QualifiersAre (qs : List Qualifier) (n : ℕ) (text : List Lexeme) : Type 0 where
  pub spelled : text ≡ spell_qualifiers qs

record QualifierRun (rs qs : List Qualifier) (text : List Lexeme) : Type 0 where
  others : List Qualifier
  list : rs ≡ qs ++ others
  spelled : text ≡ spell_qualifiers others

qualifier_run : (rs qs : List Qualifier) (n : ℕ) (text : List Lexeme) → Steps QualifierGrows rs qs n text → QualifierRun rs qs text
qualifier_run rs qs n text (Ends e none) = record { others = []; list = sym e ∙ sym (append-nil qs); spelled = none }
qualifier_run rs qs n text (More ws front back g steps split) =
    let r = qualifier_run rs ws (n + length front) back steps in
    let token = a_qualifier_is g.holds.token g.value g.holds.is in
    record {
      others = g.value ∷ r.others;
      list = r.list ∙ (ap (λ v. v ++ r.others) g.is ∙ append_assoc qs (g.value ∷ []) r.others);
      spelled = split ∙ (ap (λ f. f ++ back) (g.holds.alone ∙ ap (λ u. u ∷ []) token) ∙ ap (λ b. word (qualifier_word g.value) ∷ b) r.spelled);
    }

run_qualifiers : (others qs : List Qualifier) (n : ℕ) → Steps QualifierGrows (qs ++ others) qs n (spell_qualifiers others)
run_qualifiers [] qs n = Ends (sym (append-nil qs)) refl
run_qualifiers (q ∷ others) qs n =
    More (qs ++ q ∷ []) (word (qualifier_word q) ∷ []) (spell_qualifiers others) (record { value = q; holds = record { token = word (qualifier_word q); is = is_a_qualifier q; alone = refl }; is = refl })
    (subst (λ us. Steps QualifierGrows us (qs ++ q ∷ []) (n + 1) (spell_qualifiers others)) (append_assoc qs (q ∷ []) others) (run_qualifiers others (qs ++ q ∷ []) (n + 1))) refl

pub is_qualifier_word : (q : Qualifier) → is_qualifier (IsKeyword (qualifier_word q)) ≡ true
is_qualifier_word q = elim q as (λ r. is_qualifier (IsKeyword (qualifier_word r)) ≡ true) [ Const ↦ refl | _ ↦ refl ]

qualifier_starts : (qs rs : List Qualifier) (n : ℕ) (t more : List Lexeme) → QualifierGrows qs rs n t → next_is is_qualifier (head (t ++ more)) ≡ true
qualifier_starts qs rs n t more g = rw (g.holds.alone, a_qualifier_is g.holds.token g.value g.holds.is) (is_qualifier_word g.value)

pub qualifiers_lawful : {P : ℕ → Option Lexeme → Type 0} → Lawful P qualifiers QualifiersAre (λ qs o. next_is is_qualifier o ≡ false)
qualifiers_lawful = known (λ n o p. tt) (ended (λ us n t o s e. (tt, e)) (λ us n t o s e. e.1)
    (said (many_lawful {K = QualifierGrows} {G = λ ts o. Unit {0}} (λ ts. mapped_lawful (λ t. ts ++ t ∷ []) (λ t o s. tt) (λ t o s. tt) (one_lawful a_qualifier))
    qualifier_starts (λ ts us n t more g. tt) (λ ts us n t g. rw g.holds.alone (omega arith)) (λ ts. refl) [])
    (λ qs n t a. subst (Steps QualifierGrows qs [] n) (sym a.spelled) (run_qualifiers qs [] n))
    (λ qs n t s. let r = qualifier_run qs [] n t s in record { spelled = r.spelled ∙ ap spell_qualifiers (sym r.list) })))

-- an expression begins with no qualifier, and not with `static`

word_no_qualifier : (w : Keyword) → is_some_of (qualifier_word_kind w) ≡ true → is_some_of (start_word_kind w) ≡ false
word_no_qualifier ConstWord e = refl
word_no_qualifier RestrictWord e = refl
word_no_qualifier _ e = absurd (true≢false (sym e))

qualifier_apart : (ds : List Scope) (k : TokenKind) → is_qualifier k ≡ true → is_some_of (start_kind ds k) ≡ false
qualifier_apart ds (IsKeyword w) e = word_no_qualifier w e
qualifier_apart ds _ e = absurd (true≢false (sym e))

static_apart : (ds : List Scope) (k : TokenKind) → is_static_word k ≡ true → is_some_of (start_kind ds k) ≡ false
static_apart ds k e = ap (λ j. is_some_of (start_kind ds j)) (static_tells.is k e)

bracket_no_qualifier : (k : TokenKind) → is_qualifier k ≡ true → is_sign RightBracket k ≡ false
bracket_no_qualifier (IsKeyword w) e = refl
bracket_no_qualifier _ e = absurd (true≢false (sym e))

bracket_no_static : (k : TokenKind) → is_static_word k ≡ true → is_sign RightBracket k ≡ false
bracket_no_static k e = ap (is_sign RightBracket) (static_tells.is k e)

-- which expressions begin with `*`

step_no_star : (op : StepOp) → is_sign StarSign (IsPunctuator (step_sign op)) ≡ false
step_no_star op = elim op as (λ o. is_sign StarSign (IsPunctuator (step_sign o)) ≡ false) [ Increment ↦ refl | _ ↦ refl ]

literals_no_star : (texts : List (List ℕ)) (tail : List Lexeme) → has_some texts ≡ true → next_is (is_sign StarSign) (head (spell_literals texts ++ tail)) ≡ false
literals_no_star [] tail e = absurd (true≢false (sym e))
literals_no_star (t ∷ ts) tail e = refl

pub record BoundIs (h : ℕ) (named : Bool) (b : ℕ) (ds : List Scope) (x : In BoundTree) (n : ℕ) (text : List Lexeme) : Type 0 where
  pub levelled : levelled_bound x.0 ≡ true
  pub of_name : is_bound_of named x.0 ≡ true
  pub placed : placed_bound b x.0 ≡ true
  pub scoped : scoped_bound ds x.0 ≡ true
  pub low : bound_height x.0 ≤ h - 1
  pub after : x.1 ≡ after_bound ds x.0
  pub spelled : text ≡ spell_bound x.0
  pub number : n ≡ b + 1

abbrev pub EndsBound : BoundTree → Option Lexeme → Type 0
EndsBound (Unspecified at qs) o = next_is (is_sign RightBracket) o ≡ true
EndsBound (Star at qs) o = next_is (is_sign RightBracket) o ≡ true
EndsBound (Size at qs e) o = goes_on_expr Assignment o ≡ false
EndsBound (StaticSize at qs e) o = goes_on_expr Assignment o ≡ false
EndsBound (SizeStatic at qs e) o = goes_on_expr Assignment o ≡ false

pub bound_closed : (x : BoundTree) → EndsBound x (Some (sign RightBracket))
bound_closed (Unspecified at qs) = refl
bound_closed (Star at qs) = refl
bound_closed (Size at qs e) = refl
bound_closed (StaticSize at qs e) = refl
bound_closed (SizeStatic at qs e) = refl

pub qualifiers_long : (qs : List Qualifier) → length (spell_qualifiers qs) ≡ length qs
qualifiers_long [] = refl
qualifiers_long (q ∷ qs) = ap suc (qualifiers_long qs)

module _ (h : ℕ) (sub : Subs) (parts : LawfulSubs (Below h) sub) where
  abbrev Ended : In BoundTree → Option Lexeme → Type 0
  Ended x = EndsBound x.0

  abbrev SizedIs : (ExprTree → BoundTree) → List Scope → In BoundTree → ℕ → List Lexeme → Type 0
  SizedIs f ds = Mapped (λ (e : In ExprTree). (f e.0, e.1)) (ExprIs (Below h) Assignment ds)

  expr_no : (test : TokenKind → Bool) (ds : List Scope) (f : ExprTree → BoundTree) (x : In BoundTree) (n : ℕ) (t rest : List Lexeme) → ((k : TokenKind) → test k ≡ true → is_some_of (start_kind ds k) ≡ false) → SizedIs f ds x n t → next_is test (head (t ++ rest)) ≡ false
  expr_no test ds f x n t rest off m = rw m.holds.spelled (apart (λ k. is_some_of (start_kind ds k)) test (head (spell_expr m.value.0 ++ rest)) (expr_starts ds m.value.0 rest m.holds.good.levelled m.holds.good.scoped) off)

  sign_apart : (ds : List Scope) (k : TokenKind) → is_sign RightBracket k ≡ true → is_some_of (start_kind ds k) ≡ false
  sign_apart ds k e = ap (λ j. is_some_of (start_kind ds j)) ((sign_tells RightBracket).is k e)

  sized_some : (ds : List Scope) (f : ExprTree → BoundTree) (x : In BoundTree) (n : ℕ) (t : List Lexeme) → SizedIs f ds x n t → 0 < length t
  sized_some ds f x n t m = expr_some h sub parts Assignment ds m.value n t m.holds

  -- `static` first

  abbrev StaticIs : ℕ → List Scope → In BoundTree → ℕ → List Lexeme → Type 0
  StaticIs b ds = Behind (IsKeyword StaticWord) (Both QualifiersAre (λ qs. SizedIs (StaticSize b qs) ds))

  static_lawful : {P : ℕ → Option Lexeme → Type 0} (b : ℕ) (ds : List Scope) → Lawful P (static_bound sub b ds) (StaticIs b ds) Ended
  static_lawful b ds = behind_lawful static_tells (bind_lawful qualifiers_lawful
      (λ qs n t i. mapped_lawful (λ e. (StaticSize b qs e.0, e.1)) (λ e o s. s) (λ e o s. s) (known (λ m o p. tt) (parts.expr Assignment ds)))
      (λ qs n t x u rest i m s. expr_no is_qualifier ds (StaticSize b qs) x (n + length t) u rest (qualifier_apart ds) m))

  -- behind qualifiers

  abbrev QualifiedStatic : ℕ → List Qualifier → List Scope → In BoundTree → ℕ → List Lexeme → Type 0
  QualifiedStatic b qs ds = Under (has_some qs) (Behind (IsKeyword StaticWord) (SizedIs (SizeStatic b qs) ds))

  qualified_static_lawful : {P : ℕ → Option Lexeme → Type 0} (b : ℕ) (qs : List Qualifier) (ds : List Scope) → Lawful P (bound_static sub b qs ds) (QualifiedStatic b qs ds) Ended
  qualified_static_lawful b qs ds = guard_lawful (has_some qs) (behind_lawful static_tells (mapped_lawful (λ e. (SizeStatic b qs e.0, e.1)) (λ e o s. s) (λ e o s. s) (parts.expr Assignment ds)))

  abbrev StarredSize : ℕ → ℕ → List Qualifier → List Scope → In BoundTree → ℕ → List Lexeme → Type 0
  StarredSize b at qs ds = Mapped (λ (e : In ExprTree). (Size b qs e.0, e.1)) (StarredIs (Below h) at ds)

  abbrev BehindStar : Bool → ℕ → ℕ → List Qualifier → List Scope → In BoundTree → ℕ → List Lexeme → Type 0
  BehindStar named b at qs ds = Either (Under (named || not (has_some qs)) (Gives (Star b qs, ds))) (StarredSize b at qs ds)

  starred_begins : (at : ℕ) (ds : List Scope) (e : In ExprTree) (n : ℕ) (t rest : List Lexeme) → StarredIs (Below h) at ds e n t → next_is (is_sign RightBracket) (head (t ++ rest)) ≡ false
  starred_begins at ds e n t rest i =
      let b = spelled_by_base e.0 in
      let l = subst (λ k. levelled k ≡ true) i.base (base_levelled e.0 i.whole.good.levelled) in
      let s = subst (λ k. scoped_expr ds k ≡ true) i.base (base_scoped ds e.0 i.whole.good.scoped) in
      let whole : sign StarSign ∷ t ≡ sign StarSign ∷ (spell_expr i.inner ++ b.0) = i.whole.spelled ∙ (b.1 ∙ ap (λ k. spell_expr k ++ b.0) i.base) in
      rw (Laws.cancelled (sign StarSign ∷ []) t (spell_expr i.inner ++ b.0) whole, append_assoc)
      (no_sign_starts ds RightBracket (head (spell_expr i.inner ++ (b.0 ++ rest))) (expr_starts ds i.inner (b.0 ++ rest) (both _ _ l).1 s) refl)

  behind_star_lawful : (named : Bool) (b at : ℕ) (qs : List Qualifier) (ds : List Scope) → Lawful (At (at + 1)) (behind_star sub named b at qs ds) (BehindStar named b at qs ds) Ended
  behind_star_lawful named b at qs ds = when_lawful (next_is (is_sign RightBracket))
      (guard_lawful (named || not (has_some qs)) (pure_lawful (Star b qs, ds) (λ n o p. p.1)))
      (mapped_lawful (λ e. (Size b qs e.0, e.1)) (λ e o s. s) (λ e o s. s) (known (λ n o p. p.0) (parts.starred at ds)))
      (λ x n t rest i s. rw i.holds.nothing (subst (λ w. EndsBound w.0 (head rest)) i.holds.value s))
      (λ x n t rest i s. starred_begins at ds i.value n t rest i.holds)

  abbrev StarBound : Bool → ℕ → List Qualifier → List Scope → In BoundTree → ℕ → List Lexeme → Type 0
  StarBound named b qs ds = Both Numbers (λ at. There at (Behind (IsPunctuator StarSign) (BehindStar named b at qs ds)))

  star_bound_lawful : {P : ℕ → Option Lexeme → Type 0} (named : Bool) (b : ℕ) (qs : List Qualifier) (ds : List Scope) → Lawful P (star_bound sub named b qs ds) (StarBound named b qs ds) Ended
  star_bound_lawful named b qs ds = bind_lawful here_lawful
      (λ at n t i. known (λ m o p. p.0 ∙ (ap (λ u. n + length u) i.nothing ∙ (Laws.add_none n ∙ sym i.value))) (behind_at_lawful at (sign_tells StarSign) (behind_star_lawful named b at qs ds))) (λ at n t x u rest i k s. tt)

  abbrev OpenBound : Bool → ℕ → List Qualifier → List Scope → In BoundTree → ℕ → List Lexeme → Type 0
  OpenBound named b qs ds = Either (StarBound named b qs ds) (Headed (next_is (is_sign StarSign)) false (SizedIs (Size b qs) ds))

  star_text : (named : Bool) (b : ℕ) (qs : List Qualifier) (ds : List Scope) (x : In BoundTree) (n : ℕ) (t rest : List Lexeme) → StarBound named b qs ds x n t → head (t ++ rest) ≡ Some (sign StarSign)
  star_text named b qs ds x n t rest i = rw (i.parts, i.first.nothing, i.second.holds.parts) refl

  open_bound_lawful : {P : ℕ → Option Lexeme → Type 0} (named : Bool) (b : ℕ) (qs : List Qualifier) (ds : List Scope) → Lawful P (open_bound sub named b qs ds) (OpenBound named b qs ds) Ended
  open_bound_lawful named b qs ds = when_lawful (next_is (is_sign StarSign)) (star_bound_lawful named b qs ds)
      (headed_lawful (next_is (is_sign StarSign)) false (sized_some ds (Size b qs)) (mapped_lawful (λ e. (Size b qs e.0, e.1)) (λ e o s. s) (λ e o s. s) (known (λ n o p. tt) (parts.expr Assignment ds))))
      (λ x n t rest i s. ap (next_is (is_sign StarSign)) (star_text named b qs ds x n t rest i))
      (λ x n t rest i s. headed_begins (next_is (is_sign StarSign)) false x n t rest (sized_some ds (Size b qs) x n t i.holds) i)

  open_no : (test : TokenKind → Bool) (named : Bool) (b : ℕ) (qs : List Qualifier) (ds : List Scope) (x : In BoundTree) (n : ℕ) (t rest : List Lexeme) → test (IsPunctuator StarSign) ≡ false → ((k : TokenKind) → test k ≡ true → is_some_of (start_kind ds k) ≡ false) → OpenBound named b qs ds x n t → next_is test (head (t ++ rest)) ≡ false
  open_no test named b qs ds x n t rest star off (Met i) = ap (next_is test) (star_text named b qs ds x n t rest i) ∙ star
  open_no test named b qs ds x n t rest star off (Unmet i) = expr_no test ds (Size b qs) x n t rest off i.holds

  abbrev GivenBound : Bool → ℕ → List Qualifier → List Scope → In BoundTree → ℕ → List Lexeme → Type 0
  GivenBound named b qs ds = Either (QualifiedStatic b qs ds) (OpenBound named b qs ds)

  given_bound_lawful : {P : ℕ → Option Lexeme → Type 0} (named : Bool) (b : ℕ) (qs : List Qualifier) (ds : List Scope) → Lawful P (given_bound sub named b qs ds) (GivenBound named b qs ds) Ended
  given_bound_lawful named b qs ds = when_lawful (next_is is_static_word) (qualified_static_lawful b qs ds) (open_bound_lawful named b qs ds)
      (λ x n t rest i s. rw i.holds.parts refl)
      (λ x n t rest i s. open_no is_static_word named b qs ds x n t rest refl (static_apart ds) i)

  given_no : (test : TokenKind → Bool) (named : Bool) (b : ℕ) (qs : List Qualifier) (ds : List Scope) (x : In BoundTree) (n : ℕ) (t rest : List Lexeme) → test (IsKeyword StaticWord) ≡ false → test (IsPunctuator StarSign) ≡ false → ((k : TokenKind) → test k ≡ true → is_some_of (start_kind ds k) ≡ false) →
      GivenBound named b qs ds x n t → next_is test (head (t ++ rest)) ≡ false
  given_no test named b qs ds x n t rest static star off (Met i) = rw i.holds.parts static
  given_no test named b qs ds x n t rest static star off (Unmet i) = open_no test named b qs ds x n t rest star off i

  abbrev QualifiedBound : Bool → ℕ → List Scope → List Qualifier → In BoundTree → ℕ → List Lexeme → Type 0
  QualifiedBound named b ds qs = Either (Gives (Unspecified b qs, ds)) (GivenBound named b qs ds)

  qualified_bound_lawful : {P : ℕ → Option Lexeme → Type 0} (named : Bool) (b : ℕ) (qs : List Qualifier) (ds : List Scope) → Lawful P (qualified_bound sub named b qs ds) (QualifiedBound named b ds qs) Ended
  qualified_bound_lawful named b qs ds = when_lawful (next_is (is_sign RightBracket)) (pure_lawful (Unspecified b qs, ds) (λ n o p. p.1)) (given_bound_lawful named b qs ds)
      (λ x n t rest i s. rw i.nothing (subst (λ w. EndsBound w.0 (head rest)) i.value s))
      (λ x n t rest i s. given_no (is_sign RightBracket) named b qs ds x n t rest refl refl (sign_apart ds) i)

  qualified_no : (test : TokenKind → Bool) (named : Bool) (b : ℕ) (qs : List Qualifier) (ds : List Scope) (x : In BoundTree) (n : ℕ) (t rest : List Lexeme) → test (IsKeyword StaticWord) ≡ false → test (IsPunctuator StarSign) ≡ false → ((k : TokenKind) → test k ≡ true → is_some_of (start_kind ds k) ≡ false) →
      ((k : TokenKind) → test k ≡ true → is_sign RightBracket k ≡ false) → QualifiedBound named b ds qs x n t → EndsBound x.0 (head rest) → next_is test (head (t ++ rest)) ≡ false
  qualified_no test named b qs ds x n t rest static star off bracket (Met i) s = rw i.nothing (apart (is_sign RightBracket) test (head rest) (subst (λ w. EndsBound w.0 (head rest)) i.value s) bracket)
  qualified_no test named b qs ds x n t rest static star off bracket (Unmet i) s = given_no test named b qs ds x n t rest static star off i

  abbrev BoundParts : Bool → ℕ → List Scope → In BoundTree → ℕ → List Lexeme → Type 0
  BoundParts named b ds = Either (StaticIs b ds) (Both QualifiersAre (λ qs. QualifiedBound named b ds qs))

  no_static : (named : Bool) (b : ℕ) (ds : List Scope) (x : In BoundTree) (n : ℕ) (back rest : List Lexeme) → QualifiedBound named b ds [] x n back → EndsBound x.0 (head rest) → next_is is_static_word (head (back ++ rest)) ≡ false
  no_static named b ds x n back rest (Met i) s = rw i.nothing (apart (is_sign RightBracket) is_static_word (head rest) (subst (λ w. EndsBound w.0 (head rest)) i.value s) bracket_no_static)
  no_static named b ds x n back rest (Unmet (Met i)) s = absurd (true≢false (sym i.met))
  no_static named b ds x n back rest (Unmet (Unmet i)) s = open_no is_static_word named b [] ds x n back rest refl (static_apart ds) i

  qualified_head : (named : Bool) (b : ℕ) (ds : List Scope) (qs : List Qualifier) (x : In BoundTree) (n : ℕ) (back rest : List Lexeme) → QualifiedBound named b ds qs x n back → EndsBound x.0 (head rest) → next_is is_static_word (head ((spell_qualifiers qs ++ back) ++ rest)) ≡ false
  qualified_head named b ds [] x n back rest i s = no_static named b ds x n back rest i s
  qualified_head named b ds (q ∷ qs) x n back rest i s = elim q as (λ r. is_static_word (IsKeyword (qualifier_word r)) ≡ false) [ Const ↦ refl | _ ↦ refl ]

  bound_parts_lawful : (named : Bool) (b : ℕ) (ds : List Scope) → Lawful Any (bound sub named b ds) (BoundParts named b ds) Ended
  bound_parts_lawful named b ds = when_lawful (next_is is_static_word) (static_lawful b ds)
      (bind_lawful qualifiers_lawful (λ qs n t i. qualified_bound_lawful named b qs ds) (λ qs n t x u rest i k s. qualified_no is_qualifier named b qs ds x (n + length t) u rest refl refl (qualifier_apart ds) bracket_no_qualifier k s))
      (λ x n t rest i s. rw i.parts refl)
      (λ x n t rest i s. rw (i.parts, i.first.spelled) (qualified_head named b ds i.value x (n + length i.front) i.back rest i.second s))

  -- from the parts to the bound

  module _ (named : Bool) (b : ℕ) (ds : List Scope) where
    abbrev Bound : In BoundTree → ℕ → List Lexeme → Type 0
    Bound = BoundIs h named b ds

    static_from : (x : In BoundTree) (n : ℕ) (t : List Lexeme) → n ≡ b + 1 → StaticIs b ds x n t → Bound x n t
    static_from x n t number i =
        let k = i.holds in let m = k.second in let e = m.holds in
        let place : n + 1 + length k.front ≡ b + 2 + length k.value = omega (arith, number, ap length k.first.spelled, qualifiers_long k.value) in
        subst (λ w. Bound w n t) (sym m.is) (record {
          levelled = rw (e.within, e.good.levelled) refl;
          of_name = refl;
          placed = rw (true_eq b, subst (λ j. placed_expr j m.value.0 ≡ true) place e.good.placed) refl;
          scoped = e.good.scoped;
          low = omega (arith, e.good.low);
          after = e.good.after;
          spelled = rw (i.parts, k.parts, k.first.spelled, e.spelled) refl;
          number = number;
        })

    star_from : (qs : List Qualifier) (x : In BoundTree) (n : ℕ) (front back : List Lexeme) → n ≡ b + 1 → front ≡ spell_qualifiers qs → StarBound named b qs ds x (n + length front) back → Bound x n (front ++ back)
    star_from qs x n front back number text i = by i.second.holds.holds
      where
        at_is : i.value ≡ b + 1 + length qs
        at_is = i.first.value ∙ omega (arith, number, ap length text, qualifiers_long qs)

        back_is : back ≡ sign StarSign ∷ i.second.holds.back
        back_is = i.parts ∙ (ap (λ f. f ++ i.back) i.first.nothing ∙ i.second.holds.parts)

        by : BehindStar named b i.value qs ds x (n + length front + length i.front + 1) i.second.holds.back → Bound x n (front ++ back)
        by (Met g) = subst (λ w. Bound w n (front ++ back)) (sym g.holds.value) (record {
          levelled = refl;
          of_name = g.met;
          placed = true_eq b;
          scoped = refl;
          low = omega arith;
          after = refl;
          number = number;
          spelled = ap (λ f. f ++ back) text ∙ ap (λ r. spell_qualifiers qs ++ r) (back_is ∙ ap (λ r. sign StarSign ∷ r) g.holds.nothing);
        })
        by (Unmet m) = let e = m.holds.whole in subst (λ w. Bound w n (front ++ back)) (sym m.is) (record {
          levelled = rw (e.within, e.good.levelled) refl;
          of_name = refl;
          placed = rw (true_eq b, subst (λ j. placed_expr j m.value.0 ≡ true) at_is e.good.placed) refl;
          scoped = e.good.scoped;
          low = omega (arith, e.good.low);
          after = e.good.after;
          number = number;
          spelled = ap (λ f. f ++ back) text ∙ ap (λ r. spell_qualifiers qs ++ r) (back_is ∙ e.spelled);
        })

    size_from : (qs : List Qualifier) (x : In BoundTree) (n : ℕ) (front back : List Lexeme) → n ≡ b + 1 → front ≡ spell_qualifiers qs → SizedIs (Size b qs) ds x (n + length front) back → Bound x n (front ++ back)
    size_from qs x n front back number text m =
        let e = m.holds in
        let place : n + length front ≡ b + 1 + length qs = omega (arith, number, ap length text, qualifiers_long qs) in
        subst (λ w. Bound w n (front ++ back)) (sym m.is) (record {
          levelled = rw (e.within, e.good.levelled) refl;
          of_name = refl;
          placed = rw (true_eq b, subst (λ j. placed_expr j m.value.0 ≡ true) place e.good.placed) refl;
          scoped = e.good.scoped;
          low = omega (arith, e.good.low);
          after = e.good.after;
          number = number;
          spelled = rw (text, e.spelled) refl;
        })

    size_static_from : (qs : List Qualifier) (x : In BoundTree) (n : ℕ) (front back : List Lexeme) → n ≡ b + 1 → front ≡ spell_qualifiers qs → QualifiedStatic b qs ds x (n + length front) back → Bound x n (front ++ back)
    size_static_from qs x n front back number text i =
        let m = i.holds.holds in let e = m.holds in
        let place : n + length front + 1 ≡ b + 2 + length qs = omega (arith, number, ap length text, qualifiers_long qs) in
        subst (λ w. Bound w n (front ++ back)) (sym m.is) (record {
          levelled = rw (e.within, e.good.levelled) refl;
          of_name = i.met;
          placed = rw (true_eq b, subst (λ j. placed_expr j m.value.0 ≡ true) place e.good.placed) refl;
          scoped = e.good.scoped;
          low = omega (arith, e.good.low);
          after = e.good.after;
          number = number;
          spelled = rw (text, i.holds.parts, e.spelled) refl;
        })

    qualified_from : (qs : List Qualifier) (x : In BoundTree) (n : ℕ) (front back : List Lexeme) → n ≡ b + 1 → front ≡ spell_qualifiers qs → QualifiedBound named b ds qs x (n + length front) back → Bound x n (front ++ back)
    qualified_from qs x n front back number text (Met g) = subst (λ w. Bound w n (front ++ back)) (sym g.value) (record {
      levelled = refl;
      of_name = refl;
      placed = true_eq b;
      scoped = refl;
      low = omega arith;
      after = refl;
      number = number;
      spelled = rw (g.nothing, append-nil, text) refl;
    })
    qualified_from qs x n front back number text (Unmet (Met i)) = size_static_from qs x n front back number text i
    qualified_from qs x n front back number text (Unmet (Unmet (Met i))) = star_from qs x n front back number text i
    qualified_from qs x n front back number text (Unmet (Unmet (Unmet i))) = size_from qs x n front back number text i.holds

    bound_from : (x : In BoundTree) (n : ℕ) (t : List Lexeme) → There (b + 1) (BoundParts named b ds) x n t → Bound x n t
    bound_from x n t i = by i.holds
      where
        by : BoundParts named b ds x n t → Bound x n t
        by (Met s) = static_from x n t i.number s
        by (Unmet k) = subst (Bound x n) (sym k.parts) (qualified_from k.value x n k.front k.back i.number k.first.spelled k.second)

    -- and back

    part_of : (n : ℕ) (e : ExprTree) (after : List Scope) → (is_within Assignment e && levelled e) ≡ true → placed_expr n e ≡ true → scoped_expr ds e ≡ true → expr_height e ≤ h - 1 → after ≡ after_expr ds e → ExprIs (Below h) Assignment ds (e, after) n (spell_expr e)
    part_of n e after l p s low a = let k = both (is_within Assignment e) (levelled e) l in
        record { good = record { levelled = k.1; placed = p; scoped = s; low = omega (arith, low, tall e); after = a }; within = k.0; spelled = refl }

    -- behind qualifiers
    after_qualifiers : (qs : List Qualifier) (x : In BoundTree) (n : ℕ) (t back : List Lexeme) → n ≡ b + 1 → t ≡ spell_qualifiers qs ++ back → QualifiedBound named b ds qs x (n + length (spell_qualifiers qs)) back → There (b + 1) (BoundParts named b ds) x n t
    after_qualifiers qs x n t back number text q = record { number = number; holds = Unmet (record { value = qs; front = spell_qualifiers qs; back = back; first = record { spelled = refl }; second = q; parts = text }) }

    module _ (qs : List Qualifier) (e : ExprTree) (after : List Scope) (n : ℕ) (number : n ≡ b + 1) (whole : ExprIs (Below h) Assignment ds (e, after) (n + length (spell_qualifiers qs)) (spell_expr e)) where
      size_plain : (k : ExprTree) → Climb (h - 1) Assignment ds (n + length (spell_qualifiers qs)) k e → ((tail : List Lexeme) → next_is (is_sign StarSign) (head (spell_expr k ++ tail)) ≡ false) → OpenBound named b qs ds (Size b qs e, after) (n + length (spell_qualifiers qs)) (spell_expr e)
      size_plain k c none = Unmet (record { first = rw c.spelled (none c.tail); holds = record { value = (e, after); is = refl; holds = whole } })

      size_starred : (k : ℕ) (inner : ExprTree) → base_of e ≡ Unary k Indirection inner → Climb (h - 1) Assignment ds (n + length (spell_qualifiers qs)) (Unary k Indirection inner) e → OpenBound named b qs ds (Size b qs e, after) (n + length (spell_qualifiers qs)) (spell_expr e)
      size_starred k inner base c =
          let m : ℕ = n + length (spell_qualifiers qs) in
          let p = both (nat_eq k m) (placed_expr (m + 1) inner) c.good.placed in
          Met (record {
            value = m;
            front = [];
            back = spell_expr e;
            first = record { value = refl; nothing = refl };
            parts = refl;
            second = record {
              number = Laws.add_none m;
              holds = record {
                back = spell_expr inner ++ c.tail;
                parts = c.spelled;
                holds = Unmet (record {
                  value = (e, after);
                  is = refl;
                  holds = record {
                    inner = inner;
                    base = base ∙ ap (λ j. Unary j Indirection inner) (eq_true k m p.0);
                    number = ap (λ j. j + 1) (Laws.add_none m);
                    whole = record { good = whole.good; within = whole.within; spelled = sym c.spelled };
                  };
                });
              };
            };
          })

      size_by : (k : ExprTree) → is_operand k ≡ true → base_of e ≡ k → Climb (h - 1) Assignment ds (n + length (spell_qualifiers qs)) k e → OpenBound named b qs ds (Size b qs e, after) (n + length (spell_qualifiers qs)) (spell_expr e)
      size_by (Name k m) o base c = size_plain (Name k m) c (λ tail. refl)
      size_by (Integer k t) o base c = size_plain (Integer k t) c (λ tail. refl)
      size_by (Character k t) o base c = size_plain (Character k t) c (λ tail. refl)
      size_by (Literals k ts) o base c = size_plain (Literals k ts) c (λ tail. literals_no_star ts tail c.good.levelled)
      size_by (Parentheses k i) o base c = size_plain (Parentheses k i) c (λ tail. refl)
      size_by (CompoundLiteral k t items comma) o base c = size_plain (CompoundLiteral k t items comma) c (λ tail. refl)
      size_by (Prefix k op i) o base c = size_plain (Prefix k op i) c (λ tail. step_no_star op)
      size_by (Unary k Indirection i) o base c = size_starred k i base c
      size_by (Unary k Address i) o base c = size_plain (Unary k Address i) c (λ tail. refl)
      size_by (Unary k PlusOp i) o base c = size_plain (Unary k PlusOp i) c (λ tail. refl)
      size_by (Unary k MinusOp i) o base c = size_plain (Unary k MinusOp i) c (λ tail. refl)
      size_by (Unary k Complement i) o base c = size_plain (Unary k Complement i) c (λ tail. refl)
      size_by (Unary k Not i) o base c = size_plain (Unary k Not i) c (λ tail. refl)
      size_by (SizeofExpr k i) o base c = size_plain (SizeofExpr k i) c (λ tail. refl)
      size_by (SizeofType k t) o base c = size_plain (SizeofType k t) c (λ tail. refl)
      size_by (AlignofType k t) o base c = size_plain (AlignofType k t) c (λ tail. refl)
      size_by (Cast k t i) o base c = size_plain (Cast k t i) c (λ tail. refl)
      size_by _ o base c = absurd (true≢false (sym o))

      size_open : OpenBound named b qs ds (Size b qs e, after) (n + length (spell_qualifiers qs)) (spell_expr e)
      size_open = let g = whole.good in
          size_by (base_of e) (base_operand e) refl (climb_to (h - 1) Assignment ds (n + length (spell_qualifiers qs)) e (record { levelled = g.levelled; placed = g.placed; scoped = g.scoped; low = omega (arith, g.low); after = refl }) whole.within)

    bound_to : (x : BoundTree) (after : List Scope) (n : ℕ) (t : List Lexeme) → Bound (x, after) n t → There (b + 1) (BoundParts named b ds) (x, after) n t
    bound_to (Unspecified a qs) after n t i = subst (λ k. There (b + 1) (BoundParts named b ds) (Unspecified k qs, after) n t) (sym (eq_true a b i.placed))
        (after_qualifiers qs (Unspecified b qs, after) n t [] i.number (i.spelled ∙ sym (append-nil (spell_qualifiers qs))) (Met (record { value = ap (λ s. (Unspecified b qs, s)) i.after; nothing = refl })))
    bound_to (Star a qs) after n t i =
        let m : ℕ = n + length (spell_qualifiers qs) in
        subst (λ k. There (b + 1) (BoundParts named b ds) (Star k qs, after) n t) (sym (eq_true a b i.placed))
        (after_qualifiers qs (Star b qs, after) n t (sign StarSign ∷ []) i.number i.spelled (Unmet (Unmet (Met (record {
          value = m;
          front = [];
          back = sign StarSign ∷ [];
          first = record { value = refl; nothing = refl };
          parts = refl;
          second = record { number = Laws.add_none m; holds = record { back = []; parts = refl; holds = Met (record { met = i.of_name; holds = record { value = ap (λ s. (Star b qs, s)) i.after; nothing = refl } }) } };
        })))))
    bound_to (Size a qs e) after n t i =
        let p = both (nat_eq a b) (placed_expr (b + 1 + length qs) e) i.placed in
        let place : b + 1 + length qs ≡ n + length (spell_qualifiers qs) = omega (arith, i.number, qualifiers_long qs) in
        let whole = part_of (n + length (spell_qualifiers qs)) e after i.levelled (subst (λ j. placed_expr j e ≡ true) place p.1) i.scoped i.low i.after in
        subst (λ k. There (b + 1) (BoundParts named b ds) (Size k qs e, after) n t) (sym (eq_true a b p.0))
        (after_qualifiers qs (Size b qs e, after) n t (spell_expr e) i.number i.spelled (Unmet (Unmet (size_open qs e after n i.number whole))))
    bound_to (StaticSize a qs e) after n t i =
        let p = both (nat_eq a b) (placed_expr (b + 2 + length qs) e) i.placed in
        let place : b + 2 + length qs ≡ n + 1 + length (spell_qualifiers qs) = omega (arith, i.number, qualifiers_long qs) in
        let whole = part_of (n + 1 + length (spell_qualifiers qs)) e after i.levelled (subst (λ j. placed_expr j e ≡ true) place p.1) i.scoped i.low i.after in
        subst (λ k. There (b + 1) (BoundParts named b ds) (StaticSize k qs e, after) n t) (sym (eq_true a b p.0)) (record {
          number = i.number;
          holds = Met (record {
            back = spell_qualifiers qs ++ spell_expr e;
            parts = i.spelled;
            holds = record {
              value = qs;
              front = spell_qualifiers qs;
              back = spell_expr e;
              first = record { spelled = refl };
              parts = refl;
              second = record { value = (e, after); is = refl; holds = whole };
            };
          });
        })
    bound_to (SizeStatic a qs e) after n t i =
        let p = both (nat_eq a b) (placed_expr (b + 2 + length qs) e) i.placed in
        let place : b + 2 + length qs ≡ n + length (spell_qualifiers qs) + 1 = omega (arith, i.number, qualifiers_long qs) in
        let whole = part_of (n + length (spell_qualifiers qs) + 1) e after i.levelled (subst (λ j. placed_expr j e ≡ true) place p.1) i.scoped i.low i.after in
        subst (λ k. There (b + 1) (BoundParts named b ds) (SizeStatic k qs e, after) n t) (sym (eq_true a b p.0))
        (after_qualifiers qs (SizeStatic b qs e, after) n t (word StaticWord ∷ spell_expr e) i.number i.spelled (Unmet (Met (record { met = i.of_name; holds = record { back = spell_expr e; parts = refl; holds = record { value = (e, after); is = refl; holds = whole } } }))))

    pub bound_lawful : Lawful (At (b + 1)) (bound sub named b ds) (BoundIs h named b ds) (λ x. EndsBound x.0)
    bound_lawful = said (there_lawful (b + 1) (λ n o p. p) (known (λ n o p. tt) (bound_parts_lawful named b ds))) (λ x n t i. bound_to x.0 x.1 n t i) bound_from
