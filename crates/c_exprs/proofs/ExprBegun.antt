-- Device: the readings of expressions whose first tokens were taken give exactly those that begin so.
use Rattle.std.proofs.Common.{◌≡◌, refl, sym, ap, ◌∙◌, subst, ℕ, suc, ◌+◌, ◌<◌, max, length, Bool, true, ◌&&◌, nat_eq, nat_lt, List, [], ◌∷◌, ◌++◌, append_assoc, arith, length-append}
use Rattle.cil_base.specs.declared.tokens.TokenKind.TheVariants.{Punctuator as IsPunctuator}
use Rattle.cil_base.specs.declared.tokens.Punctuator.TheVariants.{LeftParen, RightParen, RightBrace, Star as StarSign}
use Rattle.typedef_scopes.specs.Scopes.{Scope}
use Rattle.c_tree.specs.declared.words.UnaryOp.TheVariants.{Indirection}
use Rattle.c_tree.specs.declared.level.Level.{Level}
use Rattle.c_tree.specs.declared.level.Level.TheVariants.{Unary as UnaryLevel, Cast as CastLevel, Assignment, Comma as CommaLevel}
use Rattle.c_tree.specs.Syntax.{ExprTree, Parentheses, CompoundLiteral, Unary, TypeName, SpecifierTrees, DeclaratorTree, ItemTrees}
use Rattle.c_tree.specs.Spelling.{Lexeme, sign, in_parens, in_braces, with_commas, last_comma, spell_expr, spell_specifiers, spell_declarator, spell_items}
use Rattle.c_tree.specs.Height.{expr_height, specifiers_height, declarator_height, items_height}
use Rattle.c_tree.specs.Levels.{is_within, levelled, levelled_specifiers, levelled_declarator, levelled_items, has_item, is_type_name}
use Rattle.c_tree.specs.Placed.{placed_expr, placed_specifiers, placed_declarator, placed_items}
use Rattle.c_tree.specs.Scoped.{scoped_type_name, scoped_items, after_expr, after_type_name, after_items}
use Rattle.c_cursor.specs.Readers.{Reader, bind}
use Rattle.c_exprs.specs.Subs.{In, Subs}
use Rattle.c_exprs.specs.ExprReading.{rises, parenthesised, starred, literal_of}
use Rattle.c_exprs.proofs.Laws
use Rattle.c_exprs.proofs.Laws.{Lawful, Any, Anywhere, Next, Steps, Ends, More, Token, Mapped, Behind, Before, Both, Either, Met, Unmet, Under, There, Headed, Gives, Numbers, bare, bind_lawful, guard_lawful, one_lawful, here_lawful, there_lawful, said, known, ended, cancelled, At}
use Rattle.c_exprs.proofs.Tokens.{lt_true, true_lt, both}
use Rattle.c_exprs.proofs.Relations.{Below, Unbounded, GoodExpr, ExprIs, EndsExpr, base_of, GoodType, type_text, ParenthesisedIs, StarredIs, LiteralIs, LawfulSubs}
use Rattle.c_exprs.proofs.Climbing.{ends_after, Rises, climb_from, climb_to}
use Rattle.c_exprs.proofs.ExprTrees.{parens_from, signed_from, compound_from, TypePart, part_is, at_most}
use Rattle.c_exprs.proofs.ExprLaws.{After, InParens, CompoundIs, SignedIs, rises_lawful, rises_fit, in_parentheses_lawful, signed_lawful, compound_lawful}

pub record BegunIs (h : ℕ) (level : Level) (ds : List Scope) (at : ℕ) (pre : List Lexeme) (B : ExprTree → Type 0) (x : In ExprTree) (n : ℕ) (text : List Lexeme) : Type 0 where
  pub base : B (base_of x.0)
  pub number : n ≡ at + length pre
  pub whole : ExprIs (Below (suc h)) level ds x at (pre ++ text)

pub record FirstOf (h : ℕ) (level : Level) (ds : List Scope) (at : ℕ) (pre : List Lexeme) (B : ExprTree → Type 0) (x : In ExprTree) (t : List Lexeme) : Type 0 where
  pub good : GoodExpr (Below (suc h)) ds at x
  pub within : is_within level x.0 ≡ true
  pub base : B (base_of x.0)
  pub spelled : spell_expr x.0 ≡ pre ++ t

pub record BackOf (ds : List Scope) (pre : List Lexeme) (O : In ExprTree → ℕ → List Lexeme → Type 0) (m : ℕ) (b : ExprTree) : Type 0 where
  pub text : List Lexeme
  pub holds : O (b, after_expr ds b) m text
  pub spelled : spell_expr b ≡ pre ++ text

module _ (h : ℕ) (sub : Subs) (parts : LawfulSubs (Below h) sub) (level : Level) (ds : List Scope) (at : ℕ) (pre : List Lexeme) (B : ExprTree → Type 0) {read : Reader (In ExprTree)} {O : In ExprTree → ℕ → List Lexeme → Type 0}
    (read_is : Lawful (At (at + length pre)) read O After)
    (first : (x : In ExprTree) (t : List Lexeme) → O x (at + length pre) t → FirstOf h level ds at pre B x t)
    (back : (b : ExprTree) → B b → GoodExpr (Below (suc h)) ds at (b, after_expr ds b) → is_within level b ≡ true → BackOf ds pre O (at + length pre) b) where
  abbrev BegunParts : In ExprTree → ℕ → List Lexeme → Type 0
  BegunParts = Both (There (at + length pre) O) (λ x z. Steps (Rises h level at) z x)

  begun_from : (z : In ExprTree) (n : ℕ) (t : List Lexeme) → BegunParts z n t → BegunIs h level ds at pre B z n t
  begun_from z n t b =
      let f = first b.value b.front (subst (λ m. O b.value m b.front) b.first.number b.first.holds) in
      let next : n + length b.front ≡ at + length (spell_expr b.value.0) = omega (arith, b.first.number, ap length f.spelled, length-append pre b.front) in
      let c = climb_from h level ds at z b.value (n + length b.front) b.back f.good f.within next b.second in
      record {
        base = subst B (sym c.base) f.base;
        number = b.first.number;
        whole = record { good = c.good; within = c.within; spelled = rw (b.parts, c.spelled, f.spelled, append_assoc) refl };
      }

  begun_to : (z : In ExprTree) (n : ℕ) (t : List Lexeme) → BegunIs h level ds at pre B z n t → BegunParts z n t
  begun_to z n t i =
      let g = i.whole.good in
      let c = climb_to h level ds at z.0 (record { levelled = g.levelled; placed = g.placed; scoped = g.scoped; low = g.low; after = refl }) i.whole.within in
      let o = back (base_of z.0) i.base c.good c.within in
      let text : pre ++ t ≡ pre ++ (o.text ++ c.tail) = i.whole.spelled ∙ (c.spelled ∙ (ap (λ e. e ++ c.tail) o.spelled ∙ append_assoc pre o.text c.tail)) in
      let next : at + length (spell_expr (base_of z.0)) ≡ n + length o.text = omega (arith, i.number, ap length o.spelled, length-append pre o.text) in
      record {
        value = (base_of z.0, after_expr ds (base_of z.0));
        front = o.text;
        back = c.tail;
        first = record { number = i.number; holds = subst (λ m. O (base_of z.0, after_expr ds (base_of z.0)) m o.text) (sym i.number) o.holds };
        second = subst (λ w. Steps (Rises h level at) w (base_of z.0, after_expr ds (base_of z.0)) (n + length o.text) c.tail) (ap (λ s. (z.0, s)) (sym g.after)) (rw (← next) c.steps);
        parts = cancelled pre t (o.text ++ c.tail) text;
      }

  pub begun_lawful : Lawful (At (at + length pre)) (bind read (λ x. rises h sub at level x)) (BegunIs h level ds at pre B) (EndsExpr level)
  begun_lawful = ended
      (λ z n t o i e. (ends_after z.0 level o i.whole.within e, e)) (λ z n t o i e. e.1)
      (said (bind_lawful (there_lawful (at + length pre) (λ n o p. p) read_is) (λ x m u k. known (λ j o p. p.1) (rises_lawful h sub parts level at x))
      (λ x m u z v rest k steps e. rises_fit h sub parts level at x z (m + length u) v rest steps e.0)) begun_to begun_from)

module _ (h : ℕ) (sub : Subs) (parts : LawfulSubs (Below h) sub) where
  abbrev IsParens : ℕ → ExprTree → Type 0
  IsParens at b = (inner : ExprTree) × (b ≡ Parentheses at inner)

  parens_first : (ds : List Scope) (at : ℕ) (x : In ExprTree) (t : List Lexeme) → InParens h sub parts at ds x (at + 1) t → FirstOf h UnaryLevel ds at (sign LeftParen ∷ []) (IsParens at) x t
  parens_first ds at x t i = let o = parens_from h sub parts UnaryLevel ds at x t i in
      record { good = o.good; within = o.within; base = (i.value.0, o.base ∙ ap (λ w. w.0) i.is); spelled = o.spelled }

  parens_back : (ds : List Scope) (at : ℕ) (b : ExprTree) → IsParens at b → GoodExpr (Below (suc h)) ds at (b, after_expr ds b) → is_within UnaryLevel b ≡ true → BackOf ds (sign LeftParen ∷ []) (InParens h sub parts at ds) (at + 1) b
  parens_back ds at b is g w = subst (λ k. BackOf ds (sign LeftParen ∷ []) (InParens h sub parts at ds) (at + 1) k) (sym is.1) (by is.0 (subst (λ k. GoodExpr (Below (suc h)) ds at (k, after_expr ds k)) is.1 g))
    where
      by : (inner : ExprTree) → GoodExpr (Below (suc h)) ds at (Parentheses at inner, after_expr ds inner) → BackOf ds (sign LeftParen ∷ []) (InParens h sub parts at ds) (at + 1) (Parentheses at inner)
      by inner g =
          let p = both (nat_eq at at) (placed_expr (at + 1) inner) g.placed in
          record {
            text = spell_expr inner ++ bare (IsPunctuator RightParen) ∷ [];
            spelled = refl;
            holds = record {
              value = (inner, after_expr ds inner);
              front = spell_expr inner;
              is = refl;
              parts = refl;
              holds = part_is h sub parts UnaryLevel ds at CommaLevel ds (at + 1) inner g.levelled p.1 g.scoped (omega (arith, g.low)) (at_most h sub parts UnaryLevel ds at inner);
            };
          }

  pub parenthesised_lawful : (at : ℕ) (ds : List Scope) → Lawful (At (at + 1)) (parenthesised h sub at ds) (ParenthesisedIs (Below (suc h)) at ds) (EndsExpr UnaryLevel)
  parenthesised_lawful at ds = said
      (begun_lawful h sub parts UnaryLevel ds at (sign LeftParen ∷ []) (IsParens at) (known (λ n o p. tt) (in_parentheses_lawful h sub parts at ds)) (parens_first ds at) (parens_back ds at))
      (λ x n t i. record { base = (i.inner, i.base); number = i.number; whole = i.whole })
      (λ x n t i. record { inner = i.base.0; base = i.base.1; number = i.number; whole = i.whole })

  abbrev IsStarred : ℕ → ExprTree → Type 0
  IsStarred at b = (inner : ExprTree) × (b ≡ Unary at Indirection inner)

  starred_first : (ds : List Scope) (at : ℕ) (x : In ExprTree) (t : List Lexeme) → SignedIs h sub parts at Indirection ds x (at + 1) t → FirstOf h Assignment ds at (sign StarSign ∷ []) (IsStarred at) x t
  starred_first ds at x t i = let o = signed_from h sub parts Assignment ds at Indirection x t (omega arith) i in
      record { good = o.good; within = o.within; base = (i.value.0, o.base ∙ ap (λ w. w.0) i.is); spelled = o.spelled }

  starred_back : (ds : List Scope) (at : ℕ) (b : ExprTree) → IsStarred at b → GoodExpr (Below (suc h)) ds at (b, after_expr ds b) → is_within Assignment b ≡ true → BackOf ds (sign StarSign ∷ []) (SignedIs h sub parts at Indirection ds) (at + 1) b
  starred_back ds at b is g w = subst (λ k. BackOf ds (sign StarSign ∷ []) (SignedIs h sub parts at Indirection ds) (at + 1) k) (sym is.1) (by is.0 (subst (λ k. GoodExpr (Below (suc h)) ds at (k, after_expr ds k)) is.1 g))
    where
      by : (inner : ExprTree) → GoodExpr (Below (suc h)) ds at (Unary at Indirection inner, after_expr ds inner) → BackOf ds (sign StarSign ∷ []) (SignedIs h sub parts at Indirection ds) (at + 1) (Unary at Indirection inner)
      by inner g =
          let l = both (is_within CastLevel inner) (levelled inner) g.levelled in let p = both (nat_eq at at) (placed_expr (at + 1) inner) g.placed in
          record {
            text = spell_expr inner;
            spelled = refl;
            holds = record { value = (inner, after_expr ds inner); is = refl; holds = part_is h sub parts Assignment ds at CastLevel ds (at + 1) inner l.1 p.1 g.scoped (omega (arith, g.low)) l.0 };
          }

  pub starred_lawful : (at : ℕ) (ds : List Scope) → Lawful (At (at + 1)) (starred h sub at ds) (StarredIs (Below (suc h)) at ds) (EndsExpr Assignment)
  starred_lawful at ds = said
      (begun_lawful h sub parts Assignment ds at (sign StarSign ∷ []) (IsStarred at) (known (λ n o p. tt) (signed_lawful h sub parts at Indirection ds)) (starred_first ds at) (starred_back ds at))
      (λ x n t i. record { base = (i.inner, i.base); number = i.number; whole = i.whole })
      (λ x n t i. record { inner = i.base.0; base = i.base.1; number = i.number; whole = i.whole })

  module _ (at : ℕ) (ds : List Scope) (t : In (SpecifierTrees × DeclaratorTree)) (good : GoodType Unbounded ds (at + 1) t) where
    abbrev IsLiteral : ExprTree → Type 0
    IsLiteral b = (items : ItemTrees) × (comma : Bool) × (b ≡ CompoundLiteral at (TypeName t.0.0 t.0.1) items comma)

    abbrev Pre : List Lexeme
    Pre = in_parens (type_text t.0)

    literal_first : max (specifiers_height t.0.0) (declarator_height t.0.1) < h → (x : In ExprTree) (u : List Lexeme) → CompoundIs h sub parts at t x (at + length Pre) u → FirstOf h UnaryLevel ds at Pre IsLiteral x u
    literal_first low x u i =
        let front : List Lexeme = type_text t.0 ++ bare (IsPunctuator RightParen) ∷ [] in
        let p : TypePart h sub parts UnaryLevel ds at at t front = record {
          good = record { type_name = good.type_name; specifiers = good.specifiers; declarator = good.declarator; specifiers_placed = good.specifiers_placed; declarator_placed = good.declarator_placed; scoped = good.scoped; low = low; after = good.after };
          spelled = refl;
        } in
        let place : at + length Pre ≡ at + 1 + length front = omega arith in
        let o = compound_from h sub parts UnaryLevel ds at t x front u (omega arith) p (subst (λ m. CompoundIs h sub parts at t x m u) place i) in
        record { good = o.good; within = o.within; base = (i.value.0.0, i.value.0.1, o.base ∙ ap (λ w. w.0) i.is); spelled = o.spelled }

    literal_by : (items : ItemTrees) (comma : Bool) → GoodExpr (Below (suc h)) ds at (CompoundLiteral at (TypeName t.0.0 t.0.1) items comma, after_items (after_type_name ds (TypeName t.0.0 t.0.1)) items) → BackOf ds Pre (CompoundIs h sub parts at t) (at + length Pre) (CompoundLiteral at (TypeName t.0.0 t.0.1) items comma)
    literal_by items comma g =
        let l = both (is_type_name t.0.0 t.0.1 && (levelled_specifiers t.0.0 && levelled_declarator t.0.1)) (has_item items && levelled_items items) g.levelled in let li = both (has_item items) (levelled_items items) l.1 in
        let place_items : ℕ = at + 3 + length (spell_specifiers t.0.0) + length (spell_declarator t.0.1) in
        let p = both (nat_eq at at) ((placed_specifiers (at + 1) t.0.0 && placed_declarator (at + 1 + length (spell_specifiers t.0.0)) t.0.1) && placed_items place_items items) g.placed in
        let p1 = both (placed_specifiers (at + 1) t.0.0 && placed_declarator (at + 1 + length (spell_specifiers t.0.0)) t.0.1) (placed_items place_items items) p.1 in
        let s = both (scoped_type_name ds (TypeName t.0.0 t.0.1)) (scoped_items (after_type_name ds (TypeName t.0.0 t.0.1)) items) g.scoped in
        let place : at + 3 + length (spell_specifiers t.0.0) + length (spell_declarator t.0.1) ≡ at + length Pre + 1 = omega (arith, length-append (type_text t.0) (bare (IsPunctuator RightParen) ∷ []), length-append (spell_specifiers t.0.0) (spell_declarator t.0.1)) in
        record {
          text = in_braces (with_commas (spell_items items) ++ last_comma comma);
          spelled = refl;
          holds = record {
            value = ((items, comma), after_items (after_type_name ds (TypeName t.0.0 t.0.1)) items);
            is = refl;
            holds = record {
              back = (with_commas (spell_items items) ++ last_comma comma) ++ bare (IsPunctuator RightBrace) ∷ [];
              parts = refl;
              holds = record {
                value = ((items, comma), after_items (after_type_name ds (TypeName t.0.0 t.0.1)) items);
                front = with_commas (spell_items items) ++ last_comma comma;
                is = refl;
                parts = refl;
                holds = record { some = li.0; levelled = li.1; placed = subst (λ k. placed_items k items ≡ true) place p1.1; scoped = rw good.after s.1; low = omega (arith, g.low); after = rw good.after refl; spelled = refl };
              };
            };
          };
        }

    literal_back : (b : ExprTree) → IsLiteral b → GoodExpr (Below (suc h)) ds at (b, after_expr ds b) → is_within UnaryLevel b ≡ true → BackOf ds Pre (CompoundIs h sub parts at t) (at + length Pre) b
    literal_back b is g w = subst (λ k. BackOf ds Pre (CompoundIs h sub parts at t) (at + length Pre) k) (sym is.2) (literal_by is.0 is.1 (subst (λ k. GoodExpr (Below (suc h)) ds at (k, after_expr ds k)) is.2 g))

    literal_low : (x : In ExprTree) (n : ℕ) (u : List Lexeme) → LiteralIs (Below (suc h)) at ds t x n u → nat_lt (max (specifiers_height t.0.0) (declarator_height t.0.1)) h ≡ true
    literal_low x n u i =
        let g = i.whole.good in
        let c = climb_to h UnaryLevel ds at x.0 (record { levelled = g.levelled; placed = g.placed; scoped = g.scoped; low = g.low; after = refl }) i.whole.within in
        let low : 1 + max (max (specifiers_height t.0.0) (declarator_height t.0.1)) (items_height i.items) < suc h = subst (λ k. expr_height k < suc h) i.base c.good.low in
        true_lt (max (specifiers_height t.0.0) (declarator_height t.0.1)) h (omega (arith, low))

    pub literal_of_lawful : Lawful (At (at + length Pre)) (literal_of h sub at t) (LiteralIs (Below (suc h)) at ds t) (EndsExpr UnaryLevel)
    literal_of_lawful = said
        (Laws.guard_known (nat_lt (max (specifiers_height t.0.0) (declarator_height t.0.1)) h) (λ low. begun_lawful h sub parts UnaryLevel ds at Pre IsLiteral (compound_lawful h sub parts at t)
        (literal_first (lt_true (max (specifiers_height t.0.0) (declarator_height t.0.1)) h low)) literal_back))
        (λ x n u i. record { met = literal_low x n u i; holds = record { base = (i.items, i.comma, i.base); number = i.number; whole = i.whole } })
        (λ x n u i. record { items = i.holds.base.0; comma = i.holds.base.1; base = i.holds.base.2; number = i.holds.number; whole = i.holds.whole })
