-- Device: the operators behind an operand build exactly the expressions that begin with it.
use Rattle.std.proofs.Common.{◌≡◌, refl, sym, ap, ◌∙◌, subst, ℕ, suc, ◌+◌, ◌-◌, ◌<◌, ◌≤◌, length, Bool, true, false, ◌&&◌, ◌||◌, nat_le, nat_lt, List, [], ◌∷◌, ◌++◌, Option, Some, None, append_assoc, append-nil, arith, length-append, true≢false}
use Rattle.cil_base.specs.declared.numbers.NameId.{NameId}
use Rattle.cil_base.specs.declared.operators.BinOp.{BinOp}
use Rattle.cil_base.specs.declared.operators.BinOp.TheVariants.{Mul}
use Rattle.cil_base.specs.declared.tokens.TokenKind.{TokenKind}
use Rattle.cil_base.specs.declared.tokens.TokenKind.TheVariants.{Name as IsName, Keyword as IsKeyword, Integer as IsInteger, Character as IsCharacter, Literal as IsLiteral, Punctuator as IsPunctuator}
use Rattle.cil_base.specs.declared.tokens.Punctuator.{Punctuator}
use Rattle.cil_base.specs.declared.tokens.Punctuator.TheVariants.{RightParen, LeftBrace, RightBracket, Colon}
use Rattle.typedef_scopes.specs.Scopes.{Scope}
use Rattle.c_tree.specs.declared.words.StepOp.{StepOp}
use Rattle.c_tree.specs.declared.words.LogicalOp.{LogicalOp}
use Rattle.c_tree.specs.declared.words.LogicalOp.TheVariants.{And as BothOf}
use Rattle.c_tree.specs.declared.level.Level.{Level}
use Rattle.c_tree.specs.declared.level.Level.TheVariants.{Unary as UnaryLevel, Cast as CastLevel, Conditional as ConditionalLevel, Assignment, Comma as CommaLevel}
use Rattle.c_tree.specs.Syntax.{ExprTree, Name, Integer, Character, Literals, Parentheses, Index, Call, Member, Arrow, Postfix, CompoundLiteral, Prefix, Unary, SizeofExpr, SizeofType, AlignofType, Cast, Binary, Logical, Conditional, Assign, Comma, ExprTrees, NoExprs, MoreExprs}
use Rattle.c_tree.specs.Spelling.{Lexeme, sign, named, with_commas, spell_expr, spell_exprs}
use Rattle.c_tree.specs.Height.{expr_height, exprs_height}
use Rattle.c_tree.specs.Levels.{rank, tighter, binary_level, logical_level, level_of, is_within, levelled, levelled_arguments}
use Rattle.c_tree.specs.Placed.{placed_expr, placed_exprs}
use Rattle.c_tree.specs.Scoped.{scoped_expr, scoped_exprs, after_expr, after_exprs}
use Rattle.c_exprs.specs.declared.words.Joint.{Joint}
use Rattle.c_exprs.specs.declared.words.Joint.TheVariants.{Arithmetic as Arithmetically, Logical as Logically, Assign as Assigning, Comma as InSequence}
use Rattle.c_exprs.specs.declared.words.Operator.{Operator}
use Rattle.c_exprs.specs.declared.words.Operator.TheVariants.{Index as ToIndex, Call as ToCall, Member as ToMember, Arrow as ToArrow, Step as ToStep, Conditional as ToChoose, Join as ToJoin}
use Rattle.c_cursor.specs.Classes.{is_sign, is_literal, next_is, a_name}
use Rattle.c_exprs.specs.Classes.{joint_right, joint_node, operator_level, operator_left, operator_sign, operator_kind, operator_fits, operator_for}
use Rattle.c_exprs.specs.GoesOn.{goes_on_by, goes_on_level, goes_on_expr}
use Rattle.c_exprs.specs.Subs.{In}
use Rattle.c_exprs.specs.ExprReading.{expr_trees}
use Rattle.c_exprs.proofs.Laws.{Token, Both, Behind, Before, Mapped, Gives, Steps, Ends, More, none_is_no}
use Rattle.c_cursor.proofs.Tokens.{eq_true, true_eq}
use Rattle.c_exprs.proofs.Tokens.{le_true, true_le, false_le, le_false, lt_true, true_lt, both, none_of, or_true, sign_tells, joint_text, operator_text, joint_valid, operator_valid, operator_is, OneToken, one_token, is_operator, a_name_is}
use Rattle.c_exprs.proofs.Relations.{Below, GoodExpr, ExprIs, base_of}

-- levels

tighter_binary : (op : BinOp) → suc (rank (tighter (binary_level op))) ≡ rank (binary_level op)
tighter_binary op = elim op as (λ o. suc (rank (tighter (binary_level o))) ≡ rank (binary_level o)) [ Mul ↦ refl | _ ↦ refl ]

tighter_logical : (op : LogicalOp) → suc (rank (tighter (logical_level op))) ≡ rank (logical_level op)
tighter_logical op = elim op as (λ o. suc (rank (tighter (logical_level o))) ≡ rank (logical_level o)) [ BothOf ↦ refl | _ ↦ refl ]

binary_between : (op : BinOp) → (nat_le 4 (rank (binary_level op)) && nat_le (rank (binary_level op)) 11) ≡ true
binary_between op = elim op as (λ o. (nat_le 4 (rank (binary_level o)) && nat_le (rank (binary_level o)) 11) ≡ true) [ Mul ↦ refl | _ ↦ refl ]

logical_between : (op : LogicalOp) → (nat_le 12 (rank (logical_level op)) && nat_le (rank (logical_level op)) 13) ≡ true
logical_between op = elim op as (λ o. (nat_le 12 (rank (logical_level o)) && nat_le (rank (logical_level o)) 13) ≡ true) [ BothOf ↦ refl | _ ↦ refl ]

pub binary_bounds : (op : BinOp) → (4 ≤ rank (binary_level op)) × (rank (binary_level op) ≤ 11)
binary_bounds op = let b = both _ _ (binary_between op) in (le_true 4 (rank (binary_level op)) b.0, le_true (rank (binary_level op)) 11 b.1)

pub logical_bounds : (op : LogicalOp) → (12 ≤ rank (logical_level op)) × (rank (logical_level op) ≤ 13)
logical_bounds op = let b = both _ _ (logical_between op) in (le_true 12 (rank (logical_level op)) b.0, le_true (rank (logical_level op)) 13 b.1)

-- the level of an operator against that of its left operand
pub record Ranks (op : Operator) : Type 0 where
  pub rises : rank (operator_left op) ≤ rank (operator_level op)
  pub between : 2 ≤ rank (operator_left op) → 4 ≤ rank (operator_level op)
  pub late : 14 ≤ rank (operator_left op) → 16 ≤ rank (operator_level op)

pub ranks : (op : Operator) → Ranks op
ranks ToIndex = record { rises = omega arith; between = λ h. omega arith; late = λ h. omega arith }
ranks ToCall = record { rises = omega arith; between = λ h. omega arith; late = λ h. omega arith }
ranks ToMember = record { rises = omega arith; between = λ h. omega arith; late = λ h. omega arith }
ranks ToArrow = record { rises = omega arith; between = λ h. omega arith; late = λ h. omega arith }
ranks (ToStep op) = record { rises = omega arith; between = λ h. omega arith; late = λ h. omega arith }
ranks ToChoose = record { rises = omega arith; between = λ h. omega arith; late = λ h. omega arith }
ranks (ToJoin (Arithmetically op)) = let b = binary_bounds op in record { rises = omega arith; between = λ h. b.0; late = λ h. omega arith }
ranks (ToJoin (Logically op)) = let b = logical_bounds op in record { rises = omega arith; between = λ h. omega arith; late = λ h. omega arith }
ranks (ToJoin (Assigning op)) = record { rises = omega arith; between = λ h. omega arith; late = λ h. omega arith }
ranks (ToJoin InSequence) = record { rises = omega arith; between = λ h. omega arith; late = λ h. omega arith }

-- what goes on at a level goes on at a looser one

by_less : (l level : Level) → rank l ≤ rank level → (o : Option Operator) → goes_on_by level o ≡ false → goes_on_by l o ≡ false
by_less l level less None e = refl
by_less l level less (Some op) e =
    let n = none_of (nat_le (rank (operator_level op)) 1) (nat_le (rank (operator_level op)) (rank level)) e in
    rw (n.0, false_le (rank (operator_level op)) (rank l) (omega (arith, le_false (rank (operator_level op)) (rank level) n.1))) refl

kind_less : (l level : Level) → rank l ≤ rank level → (k : TokenKind) → goes_on_level level k ≡ false → goes_on_level l k ≡ false
kind_less l level less (IsName n) e = refl
kind_less l level less (IsKeyword w) e = refl
kind_less l level less IsInteger e = refl
kind_less l level less IsCharacter e = refl
kind_less l level less IsLiteral e = e
kind_less l level less (IsPunctuator p) e =
    let n = none_of (is_sign LeftBrace (IsPunctuator p)) (goes_on_by level (operator_sign p)) e in
    rw (n.0, by_less l level less (operator_sign p) n.1) refl

pub goes_less : (l level : Level) (o : Option Lexeme) → rank l ≤ rank level → goes_on_expr level o ≡ false → goes_on_expr l o ≡ false
goes_less l level None less e = refl
goes_less l level (Some u) less e = kind_less l level less u.kind e

literal_kind : (level : Level) (k : TokenKind) → goes_on_level level k ≡ false → is_literal k ≡ false
literal_kind level IsLiteral e = absurd (true≢false e)
literal_kind level _ e = refl

pub no_literal : (level : Level) (o : Option Lexeme) → goes_on_expr level o ≡ false → next_is is_literal o ≡ false
no_literal level None e = refl
no_literal level (Some u) e = literal_kind level u.kind e

brace_kind : (level : Level) (k : TokenKind) → goes_on_level level k ≡ false → is_sign LeftBrace k ≡ false
brace_kind level (IsPunctuator p) e = (none_of (is_sign LeftBrace (IsPunctuator p)) (goes_on_by level (operator_sign p)) e).0
brace_kind level _ e = refl

pub no_brace : (level : Level) (o : Option Lexeme) → goes_on_expr level o ≡ false → next_is (is_sign LeftBrace) o ≡ false
no_brace level None e = refl
no_brace level (Some u) e = brace_kind level u.kind e

-- operators of 6.5.2 alone have levels as tight as casts

far : (op : Operator) → (nat_le (rank (operator_level op)) 1 || nat_le 4 (rank (operator_level op))) ≡ true
far (ToJoin (Arithmetically op)) = rw (true_le 4 (rank (binary_level op)) (binary_bounds op).0) (or_true (nat_le (rank (binary_level op)) 1))
far (ToJoin (Logically op)) = rw (true_le 4 (rank (logical_level op)) (omega (arith, (logical_bounds op).0))) (or_true (nat_le (rank (logical_level op)) 1))
far _ = refl

cast_by : (level : Level) (o : Option Operator) → goes_on_by level o ≡ false → goes_on_by CastLevel o ≡ false
cast_by level None e = refl
cast_by level (Some op) e =
    let n = none_of (nat_le (rank (operator_level op)) 1) (nat_le (rank (operator_level op)) (rank level)) e in
    let four : nat_le 4 (rank (operator_level op)) ≡ true = rw n.0 at (far op) in
    rw (n.0, false_le (rank (operator_level op)) 3 (le_true 4 (rank (operator_level op)) four)) refl

cast_kind : (level : Level) (k : TokenKind) → goes_on_level level k ≡ false → goes_on_level CastLevel k ≡ false
cast_kind level (IsName n) e = refl
cast_kind level (IsKeyword w) e = refl
cast_kind level IsInteger e = refl
cast_kind level IsCharacter e = refl
cast_kind level IsLiteral e = e
cast_kind level (IsPunctuator p) e =
    let n = none_of (is_sign LeftBrace (IsPunctuator p)) (goes_on_by level (operator_sign p)) e in
    rw (n.0, cast_by level (operator_sign p) n.1) refl

pub cast_ends : (level : Level) (o : Option Lexeme) → goes_on_expr level o ≡ false → goes_on_expr CastLevel o ≡ false
cast_ends level None e = refl
cast_ends level (Some u) e = cast_kind level u.kind e

-- what goes on behind an expression as it stands, before the level of what is asked counts
abbrev pub goes_after : ExprTree → Option Lexeme → Bool
goes_after (Literals at texts) o = next_is is_literal o
goes_after (SizeofType at t) o = next_is (is_sign LeftBrace) o
goes_after (Prefix at op e) o = goes_on_expr UnaryLevel o
goes_after (SizeofExpr at e) o = goes_on_expr UnaryLevel o
goes_after (Unary at op e) o = goes_on_expr CastLevel o
goes_after (Cast at t e) o = goes_on_expr CastLevel o
goes_after (Binary at op l r) o = goes_on_expr (tighter (binary_level op)) o
goes_after (Logical at op l r) o = goes_on_expr (tighter (logical_level op)) o
goes_after (Conditional at c a b) o = goes_on_expr ConditionalLevel o
goes_after (Assign at op l r) o = goes_on_expr Assignment o
goes_after (Comma at l r) o = goes_on_expr Assignment o
goes_after _ o = false

pub ends_after : (e : ExprTree) (level : Level) (o : Option Lexeme) → is_within level e ≡ true → goes_on_expr level o ≡ false → goes_after e o ≡ false
ends_after (Literals at texts) level o w g = no_literal level o g
ends_after (SizeofType at t) level o w g = no_brace level o g
ends_after (Prefix at op e) level o w g = goes_less UnaryLevel level o (le_true 2 (rank level) w) g
ends_after (SizeofExpr at e) level o w g = goes_less UnaryLevel level o (le_true 2 (rank level) w) g
ends_after (Unary at op e) level o w g = cast_ends level o g
ends_after (Cast at t e) level o w g = cast_ends level o g
ends_after (Binary at op l r) level o w g = goes_less (tighter (binary_level op)) level o (omega (arith, tighter_binary op, le_true (rank (binary_level op)) (rank level) w)) g
ends_after (Logical at op l r) level o w g = goes_less (tighter (logical_level op)) level o (omega (arith, tighter_logical op, le_true (rank (logical_level op)) (rank level) w)) g
ends_after (Conditional at c a b) level o w g = goes_less ConditionalLevel level o (le_true 14 (rank level) w) g
ends_after (Assign at op l r) level o w g = goes_less Assignment level o (le_true 15 (rank level) w) g
ends_after (Comma at l r) level o w g = goes_less Assignment level o (omega (arith, le_true 16 (rank level) w)) g
ends_after _ level o w g = refl

-- an operator that takes the expression as its left operand stands where nothing goes on

no_operator_brace : (p : Punctuator) (op : Operator) → operator_sign p ≡ Some op → (b : Bool) → is_sign LeftBrace (IsPunctuator p) ≡ b → b ≡ false
no_operator_brace p op e true is = absurd (none_is_no (subst (λ k. operator_kind k ≡ Some op) ((sign_tells LeftBrace).is (IsPunctuator p) is) e))
no_operator_brace p op e false is = refl

brace_off : (p : Punctuator) (op : Operator) → operator_sign p ≡ Some op → is_sign LeftBrace (IsPunctuator p) ≡ false
brace_off p op e = no_operator_brace p op e (is_sign LeftBrace (IsPunctuator p)) refl

not_going : (l : Level) (p : Punctuator) (op : Operator) → operator_sign p ≡ Some op → 2 ≤ rank (operator_level op) → rank l < rank (operator_level op) → goes_on_expr l (Some (sign p)) ≡ false
not_going l p op e between less = rw (brace_off p op e, e, false_le (rank (operator_level op)) 1 between, false_le (rank (operator_level op)) (rank l) less) refl

pub fits_after : (e : ExprTree) (p : Punctuator) (op : Operator) → operator_sign p ≡ Some op → is_within (operator_left op) e ≡ true → goes_after e (Some (sign p)) ≡ false
fits_after (Literals at texts) p op k w = refl
fits_after (SizeofType at t) p op k w = brace_off p op k
fits_after (Prefix at o e) p op k w = let r = ranks op in not_going UnaryLevel p op k (omega (arith, r.between (le_true 2 (rank (operator_left op)) w))) (omega (arith, r.between (le_true 2 (rank (operator_left op)) w)))
fits_after (SizeofExpr at e) p op k w = let r = ranks op in not_going UnaryLevel p op k (omega (arith, r.between (le_true 2 (rank (operator_left op)) w))) (omega (arith, r.between (le_true 2 (rank (operator_left op)) w)))
fits_after (Unary at o e) p op k w = let r = ranks op in not_going CastLevel p op k (omega (arith, r.between (le_true 2 (rank (operator_left op)) w))) (omega (arith, r.between (le_true 2 (rank (operator_left op)) w)))
fits_after (Cast at t e) p op k w =
    let some : 2 ≤ rank (operator_left op) = omega (arith, le_true 3 (rank (operator_left op)) w) in
    let r = ranks op in not_going CastLevel p op k (omega (arith, r.between some)) (omega (arith, r.between some))
fits_after (Binary at o l r) p op k w =
    let r = ranks op in
    let left : rank (binary_level o) ≤ rank (operator_left op) = le_true (rank (binary_level o)) (rank (operator_left op)) w in
    not_going (tighter (binary_level o)) p op k (omega (arith, r.rises, left, (binary_bounds o).0)) (omega (arith, r.rises, left, tighter_binary o))
fits_after (Logical at o l r) p op k w =
    let r = ranks op in
    let left : rank (logical_level o) ≤ rank (operator_left op) = le_true (rank (logical_level o)) (rank (operator_left op)) w in
    not_going (tighter (logical_level o)) p op k (omega (arith, r.rises, left, (logical_bounds o).0)) (omega (arith, r.rises, left, tighter_logical o))
fits_after (Conditional at c a b) p op k w = let r = (ranks op).late (le_true 14 (rank (operator_left op)) w) in not_going ConditionalLevel p op k (omega (arith, r)) (omega (arith, r))
fits_after (Assign at o l r) p op k w = let r = (ranks op).late (omega (arith, le_true 15 (rank (operator_left op)) w)) in not_going Assignment p op k (omega (arith, r)) (omega (arith, r))
fits_after (Comma at l r) p op k w = let r = (ranks op).late (omega (arith, le_true 16 (rank (operator_left op)) w)) in not_going Assignment p op k (omega (arith, r)) (omega (arith, r))
fits_after _ p op k w = refl

-- what stands behind each operator

pub record ArgumentsIs (h : ℕ) (ds : List Scope) (es : List ExprTree) (after : List Scope) (n : ℕ) (text : List Lexeme) : Type 0 where
  pub levelled : levelled_arguments (expr_trees es) ≡ true
  pub placed : placed_exprs n (expr_trees es) ≡ true
  pub scoped : scoped_exprs ds (expr_trees es) ≡ true
  pub low : exprs_height (expr_trees es) ≤ h - 1
  pub behind : after ≡ after_exprs ds (expr_trees es)
  pub spelled : text ≡ with_commas (spell_exprs (expr_trees es))

abbrev pub ChosenIs : ℕ → ℕ → In ExprTree → In ExprTree → In ExprTree → ℕ → List Lexeme → Type 0
ChosenIs h at x a y n t = Behind (IsPunctuator Colon) (Mapped (λ (b : In ExprTree). (Conditional at x.0 a.0 b.0, b.1)) (ExprIs (Below h) ConditionalLevel a.1)) y n t

abbrev pub OperatorIs : ℕ → ℕ → In ExprTree → Operator → In ExprTree → ℕ → List Lexeme → Type 0
OperatorIs h at x ToIndex y n t = Before (IsPunctuator RightBracket) (λ (i : In ExprTree). (Index at x.0 i.0, i.1)) (ExprIs (Below h) CommaLevel x.1) y n t
OperatorIs h at x ToCall y n t = Before (IsPunctuator RightParen) (λ (es : In (List ExprTree)). (Call at x.0 (expr_trees es.0), es.1)) (λ (es : In (List ExprTree)). ArgumentsIs h x.1 es.0 es.1) y n t
OperatorIs h at x ToMember y n t = Mapped (λ (m : NameId). (Member at x.0 m, x.1)) (Token a_name) y n t
OperatorIs h at x ToArrow y n t = Mapped (λ (m : NameId). (Arrow at x.0 m, x.1)) (Token a_name) y n t
OperatorIs h at x (ToStep op) y n t = Gives (Postfix at x.0 op, x.1) y n t
OperatorIs h at x ToChoose y n t = Both (ExprIs (Below h) CommaLevel x.1) (ChosenIs h at x) y n t
OperatorIs h at x (ToJoin j) y n t = Mapped (λ (r : In ExprTree). (joint_node at j x.0 r.0, r.1)) (ExprIs (Below h) (joint_right j) x.1) y n t

abbrev pub Rises : ℕ → Level → ℕ → In ExprTree → In ExprTree → ℕ → List Lexeme → Type 0
Rises h level at x y n t = Both (Token (operator_for h level x.0)) (λ op. OperatorIs h at x op) y n t

-- an operator makes an expression of what was read so far and of what stands behind it

pub record Fitting (h : ℕ) (level : Level) (e : ExprTree) (op : Operator) : Type 0 where
  pub in_level : rank (operator_level op) ≤ rank level
  pub left : is_within (operator_left op) e ≡ true
  pub lower : expr_height e < h

fitting_of : (h : ℕ) (level : Level) (e : ExprTree) (op : Operator) → operator_fits h level e op ≡ true → Fitting h level e op
fitting_of h level e op f =
    let a = both (nat_le (rank (operator_level op)) (rank level)) (is_within (operator_left op) e && nat_lt (expr_height e) h) f in
    let b = both (is_within (operator_left op) e) (nat_lt (expr_height e) h) a.1 in
    record { in_level = le_true (rank (operator_level op)) (rank level) a.0; left = b.0; lower = lt_true (expr_height e) h b.1 }

of_fitting : (h : ℕ) (level : Level) (e : ExprTree) (op : Operator) → Fitting h level e op → operator_fits h level e op ≡ true
of_fitting h level e op f = rw (true_le (rank (operator_level op)) (rank level) f.in_level, f.left, true_lt (expr_height e) h f.lower) refl

pub moved : {h : ℕ} {level : Level} {ds es : List Scope} {x : In ExprTree} {n m : ℕ} {t : List Lexeme} → ds ≡ es → n ≡ m → ExprIs (Below h) level ds x n t → ExprIs (Below h) level es x m t
moved {h = h} {level = level} {es = es} {x = x} {n = n} {t = t} e f i = subst (λ k. ExprIs (Below h) level es x k t) f (subst (λ s. ExprIs (Below h) level s x n t) e i)

pub record Stepped (h : ℕ) (level : Level) (ds : List Scope) (at : ℕ) (x y : In ExprTree) (t : List Lexeme) : Type 0 where
  pub good : GoodExpr (Below (suc h)) ds at y
  pub within : is_within level y.0 ≡ true
  pub base : base_of y.0 ≡ base_of x.0
  pub spelled : spell_expr y.0 ≡ spell_expr x.0 ++ t

module _ (h : ℕ) (level : Level) (ds : List Scope) (at : ℕ) (x : In ExprTree) (good : GoodExpr (Below (suc h)) ds at x) (n : ℕ) (number : n ≡ at + length (spell_expr x.0)) where
  index_from : (y : In ExprTree) (back : List Lexeme) → Fitting h level x.0 ToIndex → OperatorIs h at x ToIndex y (n + 1) back → Stepped h level ds at x y (operator_text ToIndex ++ back)
  index_from y back fit b =
      let i = moved good.after (ap (λ k. k + 1) number) b.holds in
      subst (λ w. Stepped h level ds at x w (operator_text ToIndex ++ back)) (sym b.is) (record {
        good = record {
          levelled = rw (fit.left, good.levelled, i.good.levelled) refl;
          placed = rw (true_eq at, good.placed, i.good.placed) refl;
          scoped = rw (good.scoped, i.good.scoped) refl;
          low = omega (arith, fit.lower, i.good.low);
          after = i.good.after;
        };
        within = true_le 1 (rank level) fit.in_level;
        base = refl;
        spelled = rw (b.parts, i.spelled) refl;
      })

  call_from : (y : In ExprTree) (back : List Lexeme) → Fitting h level x.0 ToCall → OperatorIs h at x ToCall y (n + 1) back → Stepped h level ds at x y (operator_text ToCall ++ back)
  call_from y back fit b =
      let i = subst (λ k. ArgumentsIs h (after_expr ds x.0) b.value.0 b.value.1 k b.front) (ap (λ k. k + 1) number) (subst (λ s. ArgumentsIs h s b.value.0 b.value.1 (n + 1) b.front) good.after b.holds) in
      subst (λ w. Stepped h level ds at x w (operator_text ToCall ++ back)) (sym b.is) (record {
        good = record {
          levelled = rw (fit.left, good.levelled, i.levelled) refl;
          placed = rw (true_eq at, good.placed, i.placed) refl;
          scoped = rw (good.scoped, i.scoped) refl;
          low = omega (arith, fit.lower, i.low);
          after = i.behind;
        };
        within = true_le 1 (rank level) fit.in_level;
        base = refl;
        spelled = rw (b.parts, i.spelled) refl;
      })

  member_from : (y : In ExprTree) (back : List Lexeme) → Fitting h level x.0 ToMember → OperatorIs h at x ToMember y (n + 1) back → Stepped h level ds at x y (operator_text ToMember ++ back)
  member_from y back fit b =
      subst (λ w. Stepped h level ds at x w (operator_text ToMember ++ back)) (sym b.is) (record {
        good = record { levelled = rw (fit.left, good.levelled) refl; placed = rw (true_eq at, good.placed) refl; scoped = good.scoped; low = omega (arith, fit.lower); after = good.after };
        within = true_le 1 (rank level) fit.in_level;
        base = refl;
        spelled = rw (b.holds.alone, a_name_is b.holds.token b.value b.holds.is) refl;
      })

  arrow_from : (y : In ExprTree) (back : List Lexeme) → Fitting h level x.0 ToArrow → OperatorIs h at x ToArrow y (n + 1) back → Stepped h level ds at x y (operator_text ToArrow ++ back)
  arrow_from y back fit b =
      subst (λ w. Stepped h level ds at x w (operator_text ToArrow ++ back)) (sym b.is) (record {
        good = record { levelled = rw (fit.left, good.levelled) refl; placed = rw (true_eq at, good.placed) refl; scoped = good.scoped; low = omega (arith, fit.lower); after = good.after };
        within = true_le 1 (rank level) fit.in_level;
        base = refl;
        spelled = rw (b.holds.alone, a_name_is b.holds.token b.value b.holds.is) refl;
      })

  step_from : (op : StepOp) (y : In ExprTree) (back : List Lexeme) → Fitting h level x.0 (ToStep op) → OperatorIs h at x (ToStep op) y (n + 1) back → Stepped h level ds at x y (operator_text (ToStep op) ++ back)
  step_from op y back fit b =
      subst (λ w. Stepped h level ds at x w (operator_text (ToStep op) ++ back)) (sym b.value) (record {
        good = record { levelled = rw (fit.left, good.levelled) refl; placed = rw (true_eq at, good.placed) refl; scoped = good.scoped; low = omega (arith, fit.lower); after = good.after };
        within = true_le 1 (rank level) fit.in_level;
        base = refl;
        spelled = rw b.nothing refl;
      })

  choose_from : (y : In ExprTree) (back : List Lexeme) → Fitting h level x.0 ToChoose → OperatorIs h at x ToChoose y (n + 1) back → Stepped h level ds at x y (operator_text ToChoose ++ back)
  choose_from y back fit b =
      let a = moved good.after (ap (λ k. k + 1) number) b.first in
      let c = b.second in
      let m : n + 1 + length b.front + 1 ≡ at + length (spell_expr x.0) + length (spell_expr b.value.0) + 2 = omega (arith, number, ap length a.spelled) in
      let e = moved a.good.after m c.holds.holds in
      subst (λ w. Stepped h level ds at x w (operator_text ToChoose ++ back)) (sym c.holds.is) (record {
        good = record {
          levelled = rw (fit.left, good.levelled, a.good.levelled, e.within, e.good.levelled) refl;
          placed = rw (true_eq at, good.placed, a.good.placed, e.good.placed) refl;
          scoped = rw (good.scoped, a.good.scoped, e.good.scoped) refl;
          low = omega (arith, fit.lower, a.good.low, e.good.low);
          after = e.good.after;
        };
        within = true_le 14 (rank level) fit.in_level;
        base = refl;
        spelled = rw (b.parts, a.spelled, c.parts, e.spelled) refl;
      })

  joint_from : (j : Joint) (r : In ExprTree) (back : List Lexeme) → joint_valid j ≡ true → Fitting h level x.0 (ToJoin j) → ExprIs (Below h) (joint_right j) (after_expr ds x.0) r (at + length (spell_expr x.0) + 1) back →
      Stepped h level ds at x (joint_node at j x.0 r.0, r.1) (joint_text j ++ back)
  joint_from (Arithmetically op) r back valid fit i = record {
    good = record {
      levelled = rw (fit.left, good.levelled, i.within, i.good.levelled) refl;
      placed = rw (true_eq at, good.placed, i.good.placed) refl;
      scoped = rw (good.scoped, i.good.scoped) refl;
      low = omega (arith, fit.lower, i.good.low);
      after = i.good.after;
    };
    within = true_le (rank (binary_level op)) (rank level) fit.in_level;
    base = refl;
    spelled = rw i.spelled refl;
  }
  joint_from (Logically op) r back valid fit i = record {
    good = record {
      levelled = rw (fit.left, good.levelled, i.within, i.good.levelled) refl;
      placed = rw (true_eq at, good.placed, i.good.placed) refl;
      scoped = rw (good.scoped, i.good.scoped) refl;
      low = omega (arith, fit.lower, i.good.low);
      after = i.good.after;
    };
    within = true_le (rank (logical_level op)) (rank level) fit.in_level;
    base = refl;
    spelled = rw i.spelled refl;
  }
  joint_from (Assigning op) r back valid fit i = record {
    good = record {
      levelled = rw (valid, fit.left, good.levelled, i.within, i.good.levelled) refl;
      placed = rw (true_eq at, good.placed, i.good.placed) refl;
      scoped = rw (good.scoped, i.good.scoped) refl;
      low = omega (arith, fit.lower, i.good.low);
      after = i.good.after;
    };
    within = true_le 15 (rank level) fit.in_level;
    base = refl;
    spelled = rw i.spelled refl;
  }
  joint_from InSequence r back valid fit i = record {
    good = record {
      levelled = rw (good.levelled, i.within, i.good.levelled) refl;
      placed = rw (true_eq at, good.placed, i.good.placed) refl;
      scoped = rw (good.scoped, i.good.scoped) refl;
      low = omega (arith, fit.lower, i.good.low);
      after = i.good.after;
    };
    within = true_le 16 (rank level) fit.in_level;
    base = refl;
    spelled = rw i.spelled refl;
  }

  join_from : (j : Joint) (y : In ExprTree) (back : List Lexeme) → joint_valid j ≡ true → Fitting h level x.0 (ToJoin j) → OperatorIs h at x (ToJoin j) y (n + 1) back → Stepped h level ds at x y (operator_text (ToJoin j) ++ back)
  join_from j y back valid fit b =
      subst (λ w. Stepped h level ds at x w (operator_text (ToJoin j) ++ back)) (sym b.is) (joint_from j b.value back valid fit (moved good.after (ap (λ k. k + 1) number) b.holds))

  behind_from : (op : Operator) (y : In ExprTree) (back : List Lexeme) → operator_valid op ≡ true → Fitting h level x.0 op → OperatorIs h at x op y (n + 1) back → Stepped h level ds at x y (operator_text op ++ back)
  behind_from ToIndex y back valid fit b = index_from y back fit b
  behind_from ToCall y back valid fit b = call_from y back fit b
  behind_from ToMember y back valid fit b = member_from y back fit b
  behind_from ToArrow y back valid fit b = arrow_from y back fit b
  behind_from (ToStep op) y back valid fit b = step_from op y back fit b
  behind_from ToChoose y back valid fit b = choose_from y back fit b
  behind_from (ToJoin j) y back valid fit b = join_from j y back valid fit b

  pub rise_from : (y : In ExprTree) (t : List Lexeme) → Rises h level at x y n t → Stepped h level ds at x y t
  rise_from y t b =
      let o = operator_is h level x.0 b.first.token b.value b.first.is in
      let one : b.front ≡ operator_text b.value = b.first.alone ∙ sym o.text in
      let text : t ≡ operator_text b.value ++ b.back = b.parts ∙ ap (λ f. f ++ b.back) one in
      subst (Stepped h level ds at x y) (sym text) (behind_from b.value y b.back o.valid (fitting_of h level x.0 b.value o.fits) (subst (λ f. OperatorIs h at x b.value y (n + length f) b.back) b.first.alone b.second))

pub record Climbed (h : ℕ) (level : Level) (ds : List Scope) (at : ℕ) (x z : In ExprTree) (t : List Lexeme) : Type 0 where
  pub good : GoodExpr (Below (suc h)) ds at z
  pub within : is_within level z.0 ≡ true
  pub base : base_of z.0 ≡ base_of x.0
  pub spelled : spell_expr z.0 ≡ spell_expr x.0 ++ t

pub climb_from : (h : ℕ) (level : Level) (ds : List Scope) (at : ℕ) (z x : In ExprTree) (n : ℕ) (t : List Lexeme) → GoodExpr (Below (suc h)) ds at x → is_within level x.0 ≡ true → n ≡ at + length (spell_expr x.0) →
    Steps (Rises h level at) z x n t → Climbed h level ds at x z t
climb_from h level ds at z x n t good within number (Ends e none) =
    subst (λ w. Climbed h level ds at x w t) e (record { good = good; within = within; base = refl; spelled = rw (none, append-nil) refl })
climb_from h level ds at z x n t good within number (More y front back k steps parts) =
    let s = rise_from h level ds at x good n number y front k in
    let next : n + length front ≡ at + length (spell_expr y.0) = omega (arith, number, ap length s.spelled, length-append (spell_expr x.0) front) in
    let c = climb_from h level ds at z y (n + length front) back s.good s.within next steps in
    record { good = c.good; within = c.within; base = c.base ∙ s.base; spelled = rw (c.spelled, s.spelled, parts, append_assoc) refl }

-- and back: an expression is built so from its base

pub steps_snoc : {A : Type 0} {K : A → A → ℕ → List Lexeme → Type 0} (w z x : A) (n : ℕ) (t u : List Lexeme) → Steps K w x n t → K w z (n + length t) u → Steps K z x n (t ++ u)
steps_snoc {K = K} w z x n t u (Ends e none) k =
    let here : n + length t ≡ n = omega (arith, ap length none) in
    More z u [] (subst (λ v. K v z n u) (sym e) (subst (λ m. K w z m u) here k)) (Ends refl refl) (rw (none, append-nil) refl)
steps_snoc {K = K} w z x n t u (More y front back l steps parts) k =
    let there : n + length t ≡ n + length front + length back = omega (arith, ap length parts, length-append front back) in
    More y front (back ++ u) l (steps_snoc w z y (n + length front) back u steps (subst (λ m. K w z m u) there k)) (rw (parts, append_assoc) refl)

pub record Climb (h : ℕ) (level : Level) (ds : List Scope) (at : ℕ) (b z : ExprTree) : Type 0 where
  pub good : GoodExpr (Below (suc h)) ds at (b, after_expr ds b)
  pub within : is_within level b ≡ true
  pub tail : List Lexeme
  pub steps : Steps (Rises h level at) (z, after_expr ds z) (b, after_expr ds b) (at + length (spell_expr b)) tail
  pub spelled : spell_expr z ≡ spell_expr b ++ tail

module _ (h : ℕ) (level : Level) (ds : List Scope) (at : ℕ) where
  climb_here : (z : ExprTree) → GoodExpr (Below (suc h)) ds at (z, after_expr ds z) → is_within level z ≡ true → Climb h level ds at z z
  climb_here z g w = record { good = g; within = w; tail = []; steps = Ends refl refl; spelled = sym (append-nil (spell_expr z)) }

  -- one operator more
  rises_by : (op : Operator) (t : OneToken op) (x y : In ExprTree) (n : ℕ) (back : List Lexeme) → operator_fits h level x.0 op ≡ true → OperatorIs h at x op y (n + 1) back → Rises h level at x y n (operator_text op ++ back)
  rises_by op t x y n back f o = record {
    value = op;
    front = sign t.token ∷ [];
    back = back;
    first = record { token = sign t.token; is = is_operator h level x.0 op t f; alone = refl };
    second = o;
    parts = ap (λ r. r ++ back) t.text;
  }

  climb_more : (op : Operator) → operator_valid op ≡ true → (b l z : ExprTree) (back : List Lexeme) → operator_fits h level l op ≡ true → Climb h level ds at b l →
      OperatorIs h at (l, after_expr ds l) op (z, after_expr ds z) (at + length (spell_expr l) + 1) back → spell_expr z ≡ spell_expr l ++ (operator_text op ++ back) → Climb h level ds at b z
  climb_more op valid b l z back f c o spelled =
      let there : at + length (spell_expr b) + length c.tail ≡ at + length (spell_expr l) = omega (arith, ap length c.spelled, length-append (spell_expr b) c.tail) in
      record {
        good = c.good;
        within = c.within;
        tail = c.tail ++ (operator_text op ++ back);
        steps = steps_snoc (l, after_expr ds l) (z, after_expr ds z) (b, after_expr ds b) (at + length (spell_expr b)) c.tail (operator_text op ++ back) c.steps
            (rw there (rises_by op (one_token op valid) (l, after_expr ds l) (z, after_expr ds z) (at + length (spell_expr l)) back f o));
        spelled = rw (spelled, c.spelled, append_assoc) refl;
      }

  -- the left operand
  record LeftPart (op : Operator) (l : ExprTree) : Type 0 where
    good : GoodExpr (Below (suc h)) ds at (l, after_expr ds l)
    within : is_within level l ≡ true
    fits : operator_fits h level l op ≡ true

  left_part : (op : Operator) (l : ExprTree) → levelled l ≡ true → placed_expr at l ≡ true → scoped_expr ds l ≡ true → expr_height l < h → is_within (operator_left op) l ≡ true → rank (operator_level op) ≤ rank level → LeftPart op l
  left_part op l lv p s low left in_level =
      let r = ranks op in
      let r_left : rank (level_of l) ≤ rank (operator_left op) = le_true (rank (level_of l)) (rank (operator_left op)) left in
      record {
        good = record { levelled = lv; placed = p; scoped = s; low = omega (arith, low); after = refl };
        within = true_le (rank (level_of l)) (rank level) (omega (arith, r_left, r.rises, in_level));
        fits = of_fitting h level l op (record { in_level = in_level; left = left; lower = low });
      }

  right_part : (l : Level) (es : List Scope) (n : ℕ) (e : ExprTree) → levelled e ≡ true → placed_expr n e ≡ true → scoped_expr es e ≡ true → expr_height e < h → is_within l e ≡ true → ExprIs (Below h) l es (e, after_expr es e) n (spell_expr e)
  right_part l es n e lv p s low w = record { good = record { levelled = lv; placed = p; scoped = s; low = low; after = refl }; within = w; spelled = refl }

  any_level : (e : ExprTree) → is_within CommaLevel e ≡ true
  any_level e = true_le (rank (level_of e)) 16 (most (level_of e))
    where
      most : (l : Level) → rank l ≤ 16
      most l = le_true (rank l) 16 (elim l as (λ k. nat_le (rank k) 16 ≡ true) [ CommaLevel ↦ refl | _ ↦ refl ])

  arguments_of : (es : ExprTrees) → List ExprTree
  arguments_of NoExprs = []
  arguments_of (MoreExprs e rest) = e ∷ arguments_of rest

  arguments_back : (es : ExprTrees) → expr_trees (arguments_of es) ≡ es
  unfolding arguments_of
  arguments_back NoExprs = refl
  arguments_back (MoreExprs e rest) = ap (MoreExprs e) (arguments_back rest)

  pub climb_to : (z : ExprTree) → GoodExpr (Below (suc h)) ds at (z, after_expr ds z) → is_within level z ≡ true → Climb h level ds at (base_of z) z
  climb_to (Name a n) g w = climb_here (Name a n) g w
  climb_to (Integer a text) g w = climb_here (Integer a text) g w
  climb_to (Character a text) g w = climb_here (Character a text) g w
  climb_to (Literals a texts) g w = climb_here (Literals a texts) g w
  climb_to (Parentheses a e) g w = climb_here (Parentheses a e) g w
  climb_to (CompoundLiteral a t items comma) g w = climb_here (CompoundLiteral a t items comma) g w
  climb_to (Prefix a op e) g w = climb_here (Prefix a op e) g w
  climb_to (Unary a op e) g w = climb_here (Unary a op e) g w
  climb_to (SizeofExpr a e) g w = climb_here (SizeofExpr a e) g w
  climb_to (SizeofType a t) g w = climb_here (SizeofType a t) g w
  climb_to (AlignofType a t) g w = climb_here (AlignofType a t) g w
  climb_to (Cast a t e) g w = climb_here (Cast a t e) g w
  climb_to (Index a e i) g w =
      let l = both _ _ g.levelled in let m = both _ _ l.1 in let p = both _ _ g.placed in let q = both _ _ p.1 in let s = both _ _ g.scoped in
      let left = left_part ToIndex e m.0 q.0 s.0 (omega (arith, g.low)) l.0 (le_true 1 (rank level) w) in
      subst (λ k. Climb h level ds at (base_of e) (Index k e i)) (sym (eq_true a at p.0))
      (climb_more ToIndex refl (base_of e) e (Index at e i) (spell_expr i ++ sign RightBracket ∷ []) left.fits (climb_to e left.good left.within)
      (record { value = (i, after_expr (after_expr ds e) i); front = spell_expr i; holds = right_part CommaLevel (after_expr ds e) (at + length (spell_expr e) + 1) i m.1 q.1 s.1 (omega (arith, g.low)) (any_level i); is = refl; parts = refl }) refl)
  climb_to (Call a e es) g w =
      let l = both _ _ g.levelled in let m = both _ _ l.1 in let p = both _ _ g.placed in let q = both _ _ p.1 in let s = both _ _ g.scoped in
      let left = left_part ToCall e m.0 q.0 s.0 (omega (arith, g.low)) l.0 (le_true 1 (rank level) w) in
      let b = arguments_back es in
      subst (λ k. Climb h level ds at (base_of e) (Call k e es)) (sym (eq_true a at p.0))
      (climb_more ToCall refl (base_of e) e (Call at e es) (with_commas (spell_exprs es) ++ sign RightParen ∷ []) left.fits (climb_to e left.good left.within)
      (record {
        value = (arguments_of es, after_exprs (after_expr ds e) es);
        front = with_commas (spell_exprs es);
        holds = record { levelled = rw b m.1; placed = rw b q.1; scoped = rw b s.1; low = rw b (omega (arith, g.low)); behind = rw b refl; spelled = rw b refl };
        is = rw b refl;
        parts = refl;
      }) refl)
  climb_to (Member a e n) g w =
      let l = both _ _ g.levelled in let p = both _ _ g.placed in
      let left = left_part ToMember e l.1 p.1 g.scoped (omega (arith, g.low)) l.0 (le_true 1 (rank level) w) in
      subst (λ k. Climb h level ds at (base_of e) (Member k e n)) (sym (eq_true a at p.0))
      (climb_more ToMember refl (base_of e) e (Member at e n) (named n ∷ []) left.fits (climb_to e left.good left.within) (record { value = n; holds = record { token = named n; is = refl; alone = refl }; is = refl }) refl)
  climb_to (Arrow a e n) g w =
      let l = both _ _ g.levelled in let p = both _ _ g.placed in
      let left = left_part ToArrow e l.1 p.1 g.scoped (omega (arith, g.low)) l.0 (le_true 1 (rank level) w) in
      subst (λ k. Climb h level ds at (base_of e) (Arrow k e n)) (sym (eq_true a at p.0))
      (climb_more ToArrow refl (base_of e) e (Arrow at e n) (named n ∷ []) left.fits (climb_to e left.good left.within) (record { value = n; holds = record { token = named n; is = refl; alone = refl }; is = refl }) refl)
  climb_to (Postfix a e op) g w =
      let l = both _ _ g.levelled in let p = both _ _ g.placed in
      let left = left_part (ToStep op) e l.1 p.1 g.scoped (omega (arith, g.low)) l.0 (le_true 1 (rank level) w) in
      subst (λ k. Climb h level ds at (base_of e) (Postfix k e op)) (sym (eq_true a at p.0))
      (climb_more (ToStep op) refl (base_of e) e (Postfix at e op) [] left.fits (climb_to e left.good left.within) (record { value = refl; nothing = refl }) refl)
  climb_to (Conditional a c x y) g w =
      let l = both _ _ g.levelled in let l0 = both _ _ l.0 in let l1 = both _ _ l.1 in let l2 = both _ _ l1.1 in
      let p = both _ _ g.placed in let q = both _ _ p.1 in let q1 = both _ _ q.1 in let s = both _ _ g.scoped in let s1 = both _ _ s.1 in
      let left = left_part ToChoose c l0.1 q.0 s.0 (omega (arith, g.low)) l0.0 (le_true 14 (rank level) w) in
      let place : at + length (spell_expr c) + length (spell_expr x) + 2 ≡ at + length (spell_expr c) + 1 + length (spell_expr x) + 1 = omega arith in
      subst (λ k. Climb h level ds at (base_of c) (Conditional k c x y)) (sym (eq_true a at p.0))
      (climb_more ToChoose refl (base_of c) c (Conditional at c x y) (spell_expr x ++ (sign Colon ∷ spell_expr y)) left.fits (climb_to c left.good left.within)
      (record {
        value = (x, after_expr (after_expr ds c) x);
        front = spell_expr x;
        back = sign Colon ∷ spell_expr y;
        first = right_part CommaLevel (after_expr ds c) (at + length (spell_expr c) + 1) x l1.0 q1.0 s1.0 (omega (arith, g.low)) (any_level x);
        second = record {
          back = spell_expr y;
          parts = refl;
          holds = record {
            value = (y, after_expr (after_expr (after_expr ds c) x) y);
            is = refl;
            holds = right_part ConditionalLevel (after_expr (after_expr ds c) x) (at + length (spell_expr c) + 1 + length (spell_expr x) + 1) y l2.1 (subst (λ k. placed_expr k y ≡ true) place q1.1) s1.1 (omega (arith, g.low)) l2.0;
          };
        };
        parts = refl;
      }) refl)
  climb_to (Binary a op x y) g w =
      let l = both _ _ g.levelled in let l0 = both _ _ l.0 in let l1 = both _ _ l.1 in let p = both _ _ g.placed in let q = both _ _ p.1 in let s = both _ _ g.scoped in
      let left = left_part (ToJoin (Arithmetically op)) x l0.1 q.0 s.0 (omega (arith, g.low)) l0.0 (le_true (rank (binary_level op)) (rank level) w) in
      subst (λ k. Climb h level ds at (base_of x) (Binary k op x y)) (sym (eq_true a at p.0))
      (climb_more (ToJoin (Arithmetically op)) refl (base_of x) x (Binary at op x y) (spell_expr y) left.fits (climb_to x left.good left.within)
      (record { value = (y, after_expr (after_expr ds x) y); is = refl; holds = right_part (tighter (binary_level op)) (after_expr ds x) (at + length (spell_expr x) + 1) y l1.1 q.1 s.1 (omega (arith, g.low)) l1.0 }) refl)
  climb_to (Logical a op x y) g w =
      let l = both _ _ g.levelled in let l0 = both _ _ l.0 in let l1 = both _ _ l.1 in let p = both _ _ g.placed in let q = both _ _ p.1 in let s = both _ _ g.scoped in
      let left = left_part (ToJoin (Logically op)) x l0.1 q.0 s.0 (omega (arith, g.low)) l0.0 (le_true (rank (logical_level op)) (rank level) w) in
      subst (λ k. Climb h level ds at (base_of x) (Logical k op x y)) (sym (eq_true a at p.0))
      (climb_more (ToJoin (Logically op)) refl (base_of x) x (Logical at op x y) (spell_expr y) left.fits (climb_to x left.good left.within)
      (record { value = (y, after_expr (after_expr ds x) y); is = refl; holds = right_part (tighter (logical_level op)) (after_expr ds x) (at + length (spell_expr x) + 1) y l1.1 q.1 s.1 (omega (arith, g.low)) l1.0 }) refl)
  climb_to (Assign a op x y) g w =
      let l = both _ _ g.levelled in let l0 = both _ _ l.0 in let l00 = both _ _ l0.1 in let l1 = both _ _ l.1 in let p = both _ _ g.placed in let q = both _ _ p.1 in let s = both _ _ g.scoped in
      let left = left_part (ToJoin (Assigning op)) x l00.1 q.0 s.0 (omega (arith, g.low)) l00.0 (le_true 15 (rank level) w) in
      subst (λ k. Climb h level ds at (base_of x) (Assign k op x y)) (sym (eq_true a at p.0))
      (climb_more (ToJoin (Assigning op)) l0.0 (base_of x) x (Assign at op x y) (spell_expr y) left.fits (climb_to x left.good left.within)
      (record { value = (y, after_expr (after_expr ds x) y); is = refl; holds = right_part Assignment (after_expr ds x) (at + length (spell_expr x) + 1) y l1.1 q.1 s.1 (omega (arith, g.low)) l1.0 }) refl)
  climb_to (Comma a x y) g w =
      let l = both _ _ g.levelled in let l1 = both _ _ l.1 in let p = both _ _ g.placed in let q = both _ _ p.1 in let s = both _ _ g.scoped in
      let left = left_part (ToJoin InSequence) x l.0 q.0 s.0 (omega (arith, g.low)) (any_level x) (le_true 16 (rank level) w) in
      subst (λ k. Climb h level ds at (base_of x) (Comma k x y)) (sym (eq_true a at p.0))
      (climb_more (ToJoin InSequence) refl (base_of x) x (Comma at x y) (spell_expr y) left.fits (climb_to x left.good left.within)
      (record { value = (y, after_expr (after_expr ds x) y); is = refl; holds = right_part Assignment (after_expr ds x) (at + length (spell_expr x) + 1) y l1.1 q.1 s.1 (omega (arith, g.low)) l1.0 }) refl)

-- the base as a part of the expression

by_left : (l b t : List Lexeme) → ((tail : List Lexeme) × (l ≡ b ++ tail)) → (tail : List Lexeme) × (l ++ t ≡ b ++ tail)
by_left l b t r = (r.0 ++ t, ap (λ u. u ++ t) r.1 ∙ append_assoc b r.0 t)

pub spelled_by_base : (e : ExprTree) → (tail : List Lexeme) × (spell_expr e ≡ spell_expr (base_of e) ++ tail)
spelled_by_base (Name a n) = ([], sym (append-nil (spell_expr (Name a n))))
spelled_by_base (Integer a text) = ([], sym (append-nil (spell_expr (Integer a text))))
spelled_by_base (Character a text) = ([], sym (append-nil (spell_expr (Character a text))))
spelled_by_base (Literals a texts) = ([], sym (append-nil (spell_expr (Literals a texts))))
spelled_by_base (Parentheses a e) = ([], sym (append-nil (spell_expr (Parentheses a e))))
spelled_by_base (CompoundLiteral a t items comma) = ([], sym (append-nil (spell_expr (CompoundLiteral a t items comma))))
spelled_by_base (Prefix a op e) = ([], sym (append-nil (spell_expr (Prefix a op e))))
spelled_by_base (Unary a op e) = ([], sym (append-nil (spell_expr (Unary a op e))))
spelled_by_base (SizeofExpr a e) = ([], sym (append-nil (spell_expr (SizeofExpr a e))))
spelled_by_base (SizeofType a t) = ([], sym (append-nil (spell_expr (SizeofType a t))))
spelled_by_base (AlignofType a t) = ([], sym (append-nil (spell_expr (AlignofType a t))))
spelled_by_base (Cast a t e) = ([], sym (append-nil (spell_expr (Cast a t e))))
spelled_by_base (Index a e i) = by_left (spell_expr e) (spell_expr (base_of e)) _ (spelled_by_base e)
spelled_by_base (Call a e es) = by_left (spell_expr e) (spell_expr (base_of e)) _ (spelled_by_base e)
spelled_by_base (Member a e n) = by_left (spell_expr e) (spell_expr (base_of e)) _ (spelled_by_base e)
spelled_by_base (Arrow a e n) = by_left (spell_expr e) (spell_expr (base_of e)) _ (spelled_by_base e)
spelled_by_base (Postfix a e op) = by_left (spell_expr e) (spell_expr (base_of e)) _ (spelled_by_base e)
spelled_by_base (Binary a op l r) = by_left (spell_expr l) (spell_expr (base_of l)) _ (spelled_by_base l)
spelled_by_base (Logical a op l r) = by_left (spell_expr l) (spell_expr (base_of l)) _ (spelled_by_base l)
spelled_by_base (Conditional a c x y) = by_left (spell_expr c) (spell_expr (base_of c)) _ (spelled_by_base c)
spelled_by_base (Assign a op l r) = by_left (spell_expr l) (spell_expr (base_of l)) _ (spelled_by_base l)
spelled_by_base (Comma a l r) = by_left (spell_expr l) (spell_expr (base_of l)) _ (spelled_by_base l)

pub base_levelled : (e : ExprTree) → levelled e ≡ true → levelled (base_of e) ≡ true
base_levelled (Name a n) l = l
base_levelled (Integer a text) l = l
base_levelled (Character a text) l = l
base_levelled (Literals a texts) l = l
base_levelled (Parentheses a e) l = l
base_levelled (CompoundLiteral a t items comma) l = l
base_levelled (Prefix a op e) l = l
base_levelled (Unary a op e) l = l
base_levelled (SizeofExpr a e) l = l
base_levelled (SizeofType a t) l = l
base_levelled (AlignofType a t) l = l
base_levelled (Cast a t e) l = l
base_levelled (Index a e i) l = base_levelled e ((both _ _ (both _ _ l).1).0)
base_levelled (Call a e es) l = base_levelled e ((both _ _ (both _ _ l).1).0)
base_levelled (Member a e n) l = base_levelled e ((both _ _ l).1)
base_levelled (Arrow a e n) l = base_levelled e ((both _ _ l).1)
base_levelled (Postfix a e op) l = base_levelled e ((both _ _ l).1)
base_levelled (Binary a op l r) h = base_levelled l ((both _ _ (both _ _ h).0).1)
base_levelled (Logical a op l r) h = base_levelled l ((both _ _ (both _ _ h).0).1)
base_levelled (Conditional a c x y) l = base_levelled c ((both _ _ (both _ _ l).0).1)
base_levelled (Assign a op l r) h = base_levelled l ((both _ _ (both _ _ (both _ _ h).0).1).1)
base_levelled (Comma a l r) h = base_levelled l ((both _ _ h).0)

pub base_scoped : (ds : List Scope) (e : ExprTree) → scoped_expr ds e ≡ true → scoped_expr ds (base_of e) ≡ true
base_scoped ds (Name a n) s = s
base_scoped ds (Integer a text) s = s
base_scoped ds (Character a text) s = s
base_scoped ds (Literals a texts) s = s
base_scoped ds (Parentheses a e) s = s
base_scoped ds (CompoundLiteral a t items comma) s = s
base_scoped ds (Prefix a op e) s = s
base_scoped ds (Unary a op e) s = s
base_scoped ds (SizeofExpr a e) s = s
base_scoped ds (SizeofType a t) s = s
base_scoped ds (AlignofType a t) s = s
base_scoped ds (Cast a t e) s = s
base_scoped ds (Index a e i) s = base_scoped ds e (both _ _ s).0
base_scoped ds (Call a e es) s = base_scoped ds e (both _ _ s).0
base_scoped ds (Member a e n) s = base_scoped ds e s
base_scoped ds (Arrow a e n) s = base_scoped ds e s
base_scoped ds (Postfix a e op) s = base_scoped ds e s
base_scoped ds (Binary a op l r) s = base_scoped ds l (both _ _ s).0
base_scoped ds (Logical a op l r) s = base_scoped ds l (both _ _ s).0
base_scoped ds (Conditional a c x y) s = base_scoped ds c (both _ _ s).0
base_scoped ds (Assign a op l r) s = base_scoped ds l (both _ _ s).0
base_scoped ds (Comma a l r) s = base_scoped ds l (both _ _ s).0
