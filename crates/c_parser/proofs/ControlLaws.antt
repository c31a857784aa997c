-- Device: the readings of statements but for blocks give exactly the grammatical ones, each behind its first word.
use Rattle.std.proofs.Common.{◌≡◌, refl, sym, ap, ◌∙◌, subst, ℕ, suc, ◌+◌, ◌<◌, ◌≤◌, max, length, Bool, true, false, not, ◌&&◌, nat_eq, nat_le, List, [], ◌∷◌, ◌++◌, Option, Some, None, append_assoc, append-nil, arith, length-append, true≢false}
use Rattle.cil_base.specs.declared.numbers.NameId.{NameId}
use Rattle.cil_base.specs.declared.operators.BinOp.TheVariants.{Mul}
use Rattle.cil_base.specs.declared.tokens.TokenKind.TheVariants.{Keyword as IsKeyword, Punctuator as IsPunctuator}
use Rattle.cil_base.specs.declared.tokens.Keyword.TheVariants.{Else as ElseWord, While as WhileWord}
use Rattle.cil_base.specs.declared.tokens.Punctuator.{Punctuator}
use Rattle.cil_base.specs.declared.tokens.Punctuator.TheVariants.{LeftParen, RightParen, Colon, Semicolon}
use Rattle.typedef_scopes.specs.Scopes.{Scope}
use Rattle.c_tree.specs.declared.words.LogicalOp.TheVariants.{And as BothOf}
use Rattle.c_tree.specs.declared.level.Level.TheVariants.{Conditional as ConditionalLevel, Comma as CommaLevel}
use Rattle.c_tree.specs.Syntax.{ExprTree, Binary, Logical, Name}
use Rattle.c_tree.specs.Units.{DeclarationTree, ForStart, StartExpr, StartDeclaration, StmtTree, Labelled, Case, Default, Compound, Expression, If, IfElse, Switch, While, Do, For, Goto, Continue, Break, Return}
use Rattle.c_tree.specs.Spelling.{Lexeme, word, sign, named, in_parens, spell_expr}
use Rattle.c_tree.specs.UnitSpelling.{spell_maybe, spell_start, spell_stmt}
use Rattle.c_tree.specs.Height.{expr_height, maybe_height, start_height, stmt_height}
use Rattle.c_tree.specs.Levels.{rank, binary_level, logical_level, is_within, levelled, levelled_maybe, levelled_start, levelled_stmt, takes_else}
use Rattle.c_tree.specs.Placed.{placed_expr, placed_maybe, placed_start, placed_stmt}
use Rattle.c_tree.specs.Scoped.{entered, scoped_expr, scoped_maybe, scoped_start, scoped_stmt, after_expr, after_maybe, after_start, after_stmt}
use Rattle.c_cursor.specs.Readers.{head}
use Rattle.c_cursor.specs.Classes.{is_sign, next_is, a_name}
use Rattle.c_exprs.specs.Classes.{is_some_of, step_sign_kind}
use Rattle.c_exprs.specs.GoesOn.{goes_on_expr}
use Rattle.c_exprs.specs.Subs.{In}
use Rattle.c_exprs.proofs.Laws
use Rattle.c_exprs.proofs.Laws.{Lawful, Any, Anywhere, Next, And, At, Token, Mapped, Behind, Before, Both, Either, Met, Unmet, Under, There, Gives, bare, bind_lawful, mapped_lawful, behind_lawful, before_lawful, pure_lawful, when_lawful, guard_lawful, one_lawful, there_lawful, fact_lawful, said, known, ended}
use Rattle.c_cursor.proofs.Tokens.{eq_true, true_eq}
use Rattle.c_exprs.proofs.Tokens.{both, not_true, le_true, true_le, sign_tells, a_name_is}
use Rattle.c_exprs.proofs.Heads.{expr_starts, no_sign_starts}
use Rattle.c_exprs.proofs.Relations.{Below, ExprIs}
use Rattle.c_exprs.proofs.Arguments.{tall}
use Rattle.c_exprs.proofs.Climbing.{binary_bounds, logical_bounds}
use Rattle.c_parser.specs.declared.words.StatementWord.{StatementWord}
use Rattle.c_parser.specs.declared.words.StatementWord.TheVariants.{Case as CaseStart, Default as DefaultStart, Block as BlockStart, If as IfStart, Switch as SwitchStart, While as WhileStart, Do as DoStart, For as ForBegin, Goto as GotoStart, Continue as ContinueStart, Break as BreakStart, Return as ReturnStart}
use Rattle.c_parser.specs.StatementWords.{begins_declaration}
use Rattle.c_parser.specs.UnitForms.{is_else_word}
use Rattle.c_parser.specs.Parts.{Parts}
use Rattle.c_parser.specs.StatementReading.{maybe_expr, maybe_closed, condition, controls, controlled, behind_colon, case_behind, else_behind, if_rest, if_behind, switch_behind, while_behind, do_rest, do_behind, for_start, for_body, for_step, for_rest, for_behind, goto_behind, jump_behind, return_behind}
use Rattle.c_parser.proofs.UnitRelations.{MaybeIs, DeclarationIs, StatementIs, EndsStatement, LawfulParts}
use Rattle.c_parser.proofs.StatementHeads.{else_tells, while_tells, word_kind, word_lexeme, word_of, behind_first, start_no_declaration, declaration_begins}

pub any_level : (e : ExprTree) → is_within CommaLevel e ≡ true
any_level (Binary at op l r) = true_le (rank (binary_level op)) 16 (omega (arith, (binary_bounds op).1))
any_level (Logical at op l r) = true_le (rank (logical_level op)) 16 (omega (arith, (logical_bounds op).1))
any_level _ = refl

free_of : (a b : Bool) → (a && b) ≡ false → b ≡ true → not a ≡ true
free_of true b e t = absurd (true≢false (sym t ∙ e))
free_of false b e t = refl

and_none : (a b : Bool) → b ≡ false → (a && b) ≡ false
and_none true b e = e
and_none false b e = refl

taken_free : (a b : Bool) → not a ≡ true → (a && b) ≡ false
taken_free true b e = absurd (true≢false (sym e))
taken_free false b e = refl

-- a punctuator behind an expression or none
pub record Closes (end : Punctuator) : Type 0 where
  pub ends : goes_on_expr CommaLevel (Some (sign end)) ≡ false
  pub apart : is_some_of (step_sign_kind end) ≡ false

pub semicolon_closes : Closes Semicolon
semicolon_closes = record { ends = refl; apart = refl }

pub parenthesis_closes : Closes RightParen
parenthesis_closes = record { ends = refl; apart = refl }

-- an expression or none, and the punctuator behind it
pub record ClosedIs (h : ℕ) (end : Punctuator) (ds : List Scope) (x : In (Option ExprTree)) (n : ℕ) (text : List Lexeme) : Type 0 where
  pub is : MaybeIs (Below h) ds x n (spell_maybe x.0)
  pub spelled : text ≡ spell_maybe x.0 ++ sign end ∷ []

-- `( e )`
pub record ConditionIs (h : ℕ) (ds : List Scope) (x : In ExprTree) (n : ℕ) (text : List Lexeme) : Type 0 where
  pub levelled : levelled x.0 ≡ true
  pub placed : placed_expr (n + 1) x.0 ≡ true
  pub scoped : scoped_expr ds x.0 ≡ true
  pub low : expr_height x.0 < h
  pub after : x.1 ≡ after_expr ds x.0
  pub spelled : text ≡ in_parens (spell_expr x.0)

-- `( e ) s`
pub record ControlIs (h : ℕ) (ds : List Scope) (x : In ExprTree × StmtTree) (n : ℕ) (text : List Lexeme) : Type 0 where
  pub condition : levelled x.0.0 ≡ true
  pub statement : levelled_stmt x.1 ≡ true
  pub condition_placed : placed_expr (n + 1) x.0.0 ≡ true
  pub statement_placed : placed_stmt (n + 2 + length (spell_expr x.0.0)) x.1 ≡ true
  pub condition_scoped : scoped_expr (entered ds) x.0.0 ≡ true
  pub statement_scoped : scoped_stmt (entered (after_expr (entered ds) x.0.0)) x.1 ≡ true
  pub condition_low : expr_height x.0.0 < h
  pub statement_low : stmt_height x.1 < h
  pub after : x.0.1 ≡ after_expr (entered ds) x.0.0
  pub spelled : text ≡ in_parens (spell_expr x.0.0) ++ spell_stmt x.1

-- what stands before the first semicolon of a for statement, with it
pub record StartIs (h : ℕ) (ds : List Scope) (x : In ForStart) (n : ℕ) (text : List Lexeme) : Type 0 where
  pub levelled : levelled_start x.0 ≡ true
  pub placed : placed_start n x.0 ≡ true
  pub scoped : scoped_start ds x.0 ≡ true
  pub low : start_height x.0 < h
  pub after : x.1 ≡ after_start ds x.0
  pub spelled : text ≡ spell_start x.0

-- a statement behind its first word; `at` is the number of that word
pub record BehindWord (h : ℕ) (ds : List Scope) (at : ℕ) (w : StatementWord) (x : In StmtTree) (n : ℕ) (text : List Lexeme) : Type 0 where
  pub number : n ≡ at + 1
  pub word : word_of x.0 ≡ Some w
  pub whole : StatementIs (Below (suc h)) ds x at (word_lexeme w ∷ text)

abbrev pub EndsS : In StmtTree → Option Lexeme → Type 0
EndsS x = EndsStatement x.0

-- a statement with one condition and one substatement behind it
record OneBody (node : ℕ → ExprTree → StmtTree → StmtTree) (w : StatementWord) : Type 0 where
  word : (a : ℕ) (e : ExprTree) (s : StmtTree) → word_of (node a e s) ≡ Some w
  levelled : (a : ℕ) (e : ExprTree) (s : StmtTree) → levelled_stmt (node a e s) ≡ (levelled e && levelled_stmt s)
  placed : (a n : ℕ) (e : ExprTree) (s : StmtTree) → placed_stmt n (node a e s) ≡ (nat_eq a n && (placed_expr (n + 2) e && placed_stmt (n + 3 + length (spell_expr e)) s))
  scoped : (ds : List Scope) (a : ℕ) (e : ExprTree) (s : StmtTree) → scoped_stmt ds (node a e s) ≡ (scoped_expr (entered ds) e && scoped_stmt (entered (after_expr (entered ds) e)) s)
  height : (a : ℕ) (e : ExprTree) (s : StmtTree) → stmt_height (node a e s) ≡ 1 + max (expr_height e) (stmt_height s)
  after : (ds : List Scope) (a : ℕ) (e : ExprTree) (s : StmtTree) → after_stmt ds (node a e s) ≡ ds
  spelled : (a : ℕ) (e : ExprTree) (s : StmtTree) → spell_stmt (node a e s) ≡ word_lexeme w ∷ (in_parens (spell_expr e) ++ spell_stmt s)

if_body : OneBody If IfStart
if_body = record { word = λ a e s. refl; levelled = λ a e s. refl; placed = λ a n e s. refl; scoped = λ ds a e s. refl; height = λ a e s. refl; after = λ ds a e s. refl; spelled = λ a e s. refl }

switch_body : OneBody Switch SwitchStart
switch_body = record { word = λ a e s. refl; levelled = λ a e s. refl; placed = λ a n e s. refl; scoped = λ ds a e s. refl; height = λ a e s. refl; after = λ ds a e s. refl; spelled = λ a e s. refl }

while_body : OneBody While WhileStart
while_body = record { word = λ a e s. refl; levelled = λ a e s. refl; placed = λ a n e s. refl; scoped = λ ds a e s. refl; height = λ a e s. refl; after = λ ds a e s. refl; spelled = λ a e s. refl }

module _ (h : ℕ) (p : Parts) (parts : LawfulParts h p) (one : 1 ≤ h) where
  -- an expression or none

  abbrev EndsMaybe : Punctuator → Option ExprTree → Option Lexeme → Type 0
  EndsMaybe end None o = next_is (is_sign end) o ≡ true
  EndsMaybe end (Some e) o = goes_on_expr CommaLevel o ≡ false

  abbrev MaybeParts : List Scope → In (Option ExprTree) → ℕ → List Lexeme → Type 0
  MaybeParts ds = Either (Gives (None, ds)) (Mapped (λ (e : In ExprTree). (Some e.0, e.1)) (ExprIs (Below h) CommaLevel ds))

  maybe_from : (ds : List Scope) (x : In (Option ExprTree)) (n : ℕ) (t : List Lexeme) → MaybeParts ds x n t → MaybeIs (Below h) ds x n t
  maybe_from ds x n t (Met g) = subst (λ w. MaybeIs (Below h) ds w n t) (sym g.value) (record { levelled = refl; placed = refl; scoped = refl; low = omega (arith, one); after = refl; spelled = g.nothing })
  maybe_from ds x n t (Unmet m) = let e = m.holds in subst (λ w. MaybeIs (Below h) ds w n t) (sym m.is) (record { levelled = e.good.levelled; placed = e.good.placed; scoped = e.good.scoped; low = e.good.low; after = e.good.after; spelled = e.spelled })

  maybe_to : (ds : List Scope) (x : Option ExprTree) (after : List Scope) (n : ℕ) (t : List Lexeme) → MaybeIs (Below h) ds (x, after) n t → MaybeParts ds (x, after) n t
  maybe_to ds None after n t i = Met (record { value = ap (λ s. (None, s)) i.after; nothing = i.spelled })
  maybe_to ds (Some e) after n t i = Unmet (record { value = (e, after); is = refl; holds = record { good = record { levelled = i.levelled; placed = i.placed; scoped = i.scoped; low = i.low; after = i.after }; within = any_level e; spelled = i.spelled } })

  maybe_lawful : (end : Punctuator) → Closes end → (ds : List Scope) → Lawful Any (maybe_expr p end ds) (MaybeIs (Below h) ds) (λ x. EndsMaybe end x.0)
  maybe_lawful end c ds = said
      (when_lawful (next_is (is_sign end)) (pure_lawful (None, ds) (λ n o q. q.1)) (mapped_lawful (λ e. (Some e.0, e.1)) (λ e o s. s) (λ e o s. s) (known (λ n o q. tt) (parts.trees.expr CommaLevel ds)))
      (λ x n t rest g s. rw g.nothing (subst (λ w. EndsMaybe end w.0 (head rest)) g.value s))
      (λ x n t rest m s. no_sign_starts ds end (head (t ++ rest)) (rw m.holds.spelled (expr_starts ds m.value.0 rest m.holds.good.levelled m.holds.good.scoped)) c.apart))
      (λ x n t i. maybe_to ds x.0 x.1 n t i) (maybe_from ds)

  maybe_ends : (end : Punctuator) → Closes end → (x : Option ExprTree) → EndsMaybe end x (Some (sign end))
  maybe_ends end c None = (sign_tells end).true_of
  maybe_ends end c (Some e) = c.ends

  pub closed_lawful : (end : Punctuator) → Closes end → (ds : List Scope) → Lawful Any (maybe_closed p end ds) (ClosedIs h end ds) Anywhere
  closed_lawful end c ds = said (before_lawful (λ e. e) (sign_tells end) (λ x n t i. maybe_ends end c x.0) (maybe_lawful end c ds))
      (λ x n t i. record { value = x; front = spell_maybe x.0; holds = i.is; is = refl; parts = i.spelled })
      (λ x n t b. let m = b.holds in subst (λ w. ClosedIs h end ds w n t) (sym b.is) (record {
        is = record { levelled = m.levelled; placed = m.placed; scoped = m.scoped; low = m.low; after = m.after; spelled = refl };
        spelled = b.parts ∙ ap (λ u. u ++ sign end ∷ []) m.spelled;
      }))

  -- `( e )`

  pub condition_lawful : {P : ℕ → Option Lexeme → Type 0} (ds : List Scope) → Lawful P (condition p ds) (ConditionIs h ds) Anywhere
  condition_lawful ds = said (behind_lawful (sign_tells LeftParen) (before_lawful (λ e. e) (sign_tells RightParen) (λ e n t i. refl) (parts.trees.expr CommaLevel ds)))
      (λ x n t i. record {
        back = spell_expr x.0 ++ sign RightParen ∷ [];
        parts = i.spelled;
        holds = record {
          value = x;
          front = spell_expr x.0;
          is = refl;
          parts = refl;
          holds = record { good = record { levelled = i.levelled; placed = i.placed; scoped = i.scoped; low = i.low; after = i.after }; within = any_level x.0; spelled = refl };
        };
      })
      (λ x n t b. let k = b.holds in let e = k.holds in subst (λ w. ConditionIs h ds w n t) (sym k.is) (record {
        levelled = e.good.levelled;
        placed = e.good.placed;
        scoped = e.good.scoped;
        low = e.good.low;
        after = e.good.after;
        spelled = b.parts ∙ ap (λ u. sign LeftParen ∷ u) (k.parts ∙ ap (λ u. u ++ sign RightParen ∷ []) e.spelled);
      }))

  -- `( e ) s`

  abbrev ControlParts : List Scope → In ExprTree × StmtTree → ℕ → List Lexeme → Type 0
  ControlParts ds = Both (ConditionIs h (entered ds)) (λ e. Mapped (λ (s : In StmtTree). (e, s.0)) (StatementIs (Below h) (entered e.1)))

  condition_length : (e : List Lexeme) → length (in_parens e) ≡ length e + 2
  condition_length e = omega (arith, length-append e (sign RightParen ∷ []))

  control_from : (ds : List Scope) (x : In ExprTree × StmtTree) (n : ℕ) (t : List Lexeme) → ControlParts ds x n t → ControlIs h ds x n t
  control_from ds x n t b =
      let c = b.first in let m = b.second in let s = m.holds in let e : ExprTree = b.value.0 in
      let place : n + length b.front ≡ n + 2 + length (spell_expr e) = omega (arith, ap length c.spelled, condition_length (spell_expr e)) in
      let scopes : entered b.value.1 ≡ entered (after_expr (entered ds) e) = ap entered c.after in
      subst (λ w. ControlIs h ds w n t) (sym m.is) (record {
        condition = c.levelled;
        statement = s.levelled;
        condition_placed = c.placed;
        statement_placed = subst (λ j. placed_stmt j m.value.0 ≡ true) place s.placed;
        condition_scoped = c.scoped;
        statement_scoped = subst (λ j. scoped_stmt j m.value.0 ≡ true) scopes s.scoped;
        condition_low = c.low;
        statement_low = s.low;
        after = c.after;
        spelled = rw (b.parts, c.spelled, s.spelled) refl;
      })

  control_to : (ds : List Scope) (e : ExprTree) (s : StmtTree) (after : List Scope) (n : ℕ) (t : List Lexeme) → ControlIs h ds ((e, after), s) n t → ControlParts ds ((e, after), s) n t
  control_to ds e s after n t i =
      let place : n + 2 + length (spell_expr e) ≡ n + length (in_parens (spell_expr e)) = omega (arith, condition_length (spell_expr e)) in
      let scopes : entered (after_expr (entered ds) e) ≡ entered after = ap entered (sym i.after) in
      record {
        value = (e, after);
        front = in_parens (spell_expr e);
        back = spell_stmt s;
        parts = i.spelled;
        first = record { levelled = i.condition; placed = i.condition_placed; scoped = i.condition_scoped; low = i.condition_low; after = i.after; spelled = refl };
        second = record {
          value = (s, after_stmt (entered after) s);
          is = refl;
          holds = record { levelled = i.statement; placed = subst (λ j. placed_stmt j s ≡ true) place i.statement_placed; scoped = subst (λ j. scoped_stmt j s ≡ true) scopes i.statement_scoped; low = i.statement_low; after = refl; spelled = refl };
        };
      }

  controlled_lawful : (ds : List Scope) → Lawful Any (controlled p ds) (ControlIs h ds) (λ x. EndsStatement x.1)
  controlled_lawful ds = said
      (bind_lawful (condition_lawful (entered ds)) (λ e n t i. known (λ m o q. tt) (mapped_lawful (λ s. (e, s.0)) (λ s o k. k) (λ s o k. k) (parts.statement (entered e.1)))) (λ e n t b u rest i k s. tt))
      (λ x n t i. control_to ds x.0.0 x.1 x.0.1 n t i) (control_from ds)

  -- a condition and one substatement

  abbrev BodyParts : (ℕ → ExprTree → StmtTree → StmtTree) → List Scope → ℕ → In StmtTree → ℕ → List Lexeme → Type 0
  BodyParts node ds at = Mapped (λ (x : In ExprTree × StmtTree). (node at x.0.0 x.1, ds)) (ControlIs h ds)

  one_from : (node : ℕ → ExprTree → StmtTree → StmtTree) (w : StatementWord) (like : OneBody node w) (ds : List Scope) (at : ℕ) (x : In StmtTree) (n : ℕ) (t : List Lexeme) → n ≡ at + 1 → BodyParts node ds at x n t → BehindWord h ds at w x n t
  one_from node w like ds at x n t number m =
      let c = m.holds in let e : ExprTree = m.value.0.0 in let s : StmtTree = m.value.1 in
      let place : n + 1 ≡ at + 2 = omega (arith, number) in let place_body : n + 2 + length (spell_expr e) ≡ at + 3 + length (spell_expr e) = omega (arith, number) in
      let placed : placed_expr (at + 2) e ≡ true = subst (λ j. placed_expr j e ≡ true) place c.condition_placed in
      let placed_body : placed_stmt (at + 3 + length (spell_expr e)) s ≡ true = subst (λ j. placed_stmt j s ≡ true) place_body c.statement_placed in
      subst (λ y. BehindWord h ds at w y n t) (sym m.is) (record {
        number = number;
        word = like.word at e s;
        whole = record {
          levelled = like.levelled at e s ∙ rw (c.condition, c.statement) refl;
          placed = like.placed at at e s ∙ rw (true_eq at, placed, placed_body) refl;
          scoped = like.scoped ds at e s ∙ rw (c.condition_scoped, c.statement_scoped) refl;
          low = omega (arith, like.height at e s, c.condition_low, c.statement_low);
          after = sym (like.after ds at e s);
          spelled = ap (λ u. word_lexeme w ∷ u) c.spelled ∙ sym (like.spelled at e s);
        };
      })

  one_to : (node : ℕ → ExprTree → StmtTree → StmtTree) (w : StatementWord) (like : OneBody node w) (ds : List Scope) (at a : ℕ) (e : ExprTree) (s : StmtTree) (after : List Scope) (n : ℕ) (t : List Lexeme) → BehindWord h ds at w (node a e s, after) n t → BodyParts node ds at (node a e s, after) n t
  one_to node w like ds at a e s after n t i =
      let b = i.whole in
      let l = both (levelled e) (levelled_stmt s) (sym (like.levelled a e s) ∙ b.levelled) in
      let q = both (nat_eq a at) (placed_expr (at + 2) e && placed_stmt (at + 3 + length (spell_expr e)) s) (sym (like.placed a at e s) ∙ b.placed) in let q1 = both (placed_expr (at + 2) e) (placed_stmt (at + 3 + length (spell_expr e)) s) q.1 in
      let c = both (scoped_expr (entered ds) e) (scoped_stmt (entered (after_expr (entered ds) e)) s) (sym (like.scoped ds a e s) ∙ b.scoped) in
      let place : at + 2 ≡ n + 1 = omega (arith, i.number) in let place_body : at + 3 + length (spell_expr e) ≡ n + 2 + length (spell_expr e) = omega (arith, i.number) in
      record {
        value = ((e, after_expr (entered ds) e), s);
        is = ap (λ j. (node j e s, after)) (eq_true a at q.0) ∙ ap (λ j. (node at e s, j)) (b.after ∙ like.after ds a e s);
        holds = record {
          condition = l.0;
          statement = l.1;
          condition_placed = subst (λ j. placed_expr j e ≡ true) place q1.0;
          statement_placed = subst (λ j. placed_stmt j s ≡ true) place_body q1.1;
          condition_scoped = c.0;
          statement_scoped = c.1;
          condition_low = omega (arith, b.low, like.height a e s);
          statement_low = omega (arith, b.low, like.height a e s);
          after = refl;
          spelled = ap behind_first (b.spelled ∙ like.spelled a e s);
        };
      }

  switch_to : (ds : List Scope) (at : ℕ) (s : StmtTree) (after : List Scope) (n : ℕ) (t : List Lexeme) → BehindWord h ds at SwitchStart (s, after) n t → BodyParts Switch ds at (s, after) n t
  switch_to ds at (Switch a e s) after n t i = one_to Switch SwitchStart switch_body ds at a e s after n t i
  switch_to ds at _ after n t i = let e = i.word in absurd cc

  pub switch_lawful : (ds : List Scope) (at : ℕ) → Lawful (At (at + 1)) (switch_behind p ds at) (BehindWord h ds at SwitchStart) EndsS
  switch_lawful ds at = said (there_lawful (at + 1) (λ n o q. q) (mapped_lawful (λ x. (Switch at x.0.0 x.1, ds)) (λ x o s. s) (λ x o s. s) (known (λ n o q. tt) (controlled_lawful ds))))
      (λ x n t i. record { number = i.number; holds = switch_to ds at x.0 x.1 n t i }) (λ x n t i. one_from Switch SwitchStart switch_body ds at x n t i.number i.holds)

  while_to : (ds : List Scope) (at : ℕ) (s : StmtTree) (after : List Scope) (n : ℕ) (t : List Lexeme) → BehindWord h ds at WhileStart (s, after) n t → BodyParts While ds at (s, after) n t
  while_to ds at (While a e s) after n t i = one_to While WhileStart while_body ds at a e s after n t i
  while_to ds at _ after n t i = let e = i.word in absurd cc

  pub while_lawful : (ds : List Scope) (at : ℕ) → Lawful (At (at + 1)) (while_behind p ds at) (BehindWord h ds at WhileStart) EndsS
  while_lawful ds at = said (there_lawful (at + 1) (λ n o q. q) (mapped_lawful (λ x. (While at x.0.0 x.1, ds)) (λ x o s. s) (λ x o s. s) (known (λ n o q. tt) (controlled_lawful ds))))
      (λ x n t i. record { number = i.number; holds = while_to ds at x.0 x.1 n t i }) (λ x n t i. one_from While WhileStart while_body ds at x n t i.number i.holds)

  -- if, with and without else

  abbrev ElseIs : List Scope → ℕ → In ExprTree × StmtTree → In StmtTree → ℕ → List Lexeme → Type 0
  ElseIs ds at x = Under (not (takes_else x.1)) (Behind (IsKeyword ElseWord) (Mapped (λ (u : In StmtTree). (IfElse at x.0.0 x.1 u.0, ds)) (StatementIs (Below h) (entered x.0.1))))

  abbrev IfRest : List Scope → ℕ → In ExprTree × StmtTree → In StmtTree → ℕ → List Lexeme → Type 0
  IfRest ds at x = Either (ElseIs ds at x) (Gives (If at x.0.0 x.1, ds))

  if_rest_lawful : (ds : List Scope) (at : ℕ) (x : In ExprTree × StmtTree) (m : ℕ) → Lawful (Next m (EndsStatement x.1)) (if_rest p ds at x) (IfRest ds at x) EndsS
  if_rest_lawful ds at x m = when_lawful (next_is is_else_word)
      (fact_lawful (not (takes_else x.1)) (λ n o q. free_of (takes_else x.1) (next_is is_else_word o) q.0.1 q.1) (behind_lawful else_tells (mapped_lawful (λ u. (IfElse at x.0.0 x.1 u.0, ds)) (λ u o s. s) (λ u o s. s) (parts.statement (entered x.0.1)))))
      (pure_lawful (If at x.0.0 x.1, ds) (λ n o q. q.1))
      (λ y n t rest k s. rw k.holds.parts refl) (λ y n t rest g s. rw g.nothing (subst (λ w. EndsStatement w.0 (head rest)) g.value s))

  if_ends : (ds : List Scope) (at : ℕ) (x : In ExprTree × StmtTree) (y : In StmtTree) (n : ℕ) (u rest : List Lexeme) → IfRest ds at x y n u → EndsS y (head rest) → EndsStatement x.1 (head (u ++ rest))
  if_ends ds at x y n u rest (Met k) s = taken_free (takes_else x.1) _ k.met
  if_ends ds at x y n u rest (Unmet g) s = rw g.nothing (and_none (takes_else x.1) (next_is is_else_word (head rest)) (subst (λ w. EndsStatement w.0 (head rest)) g.value s))

  abbrev IfParts : List Scope → ℕ → In StmtTree → ℕ → List Lexeme → Type 0
  IfParts ds at = Both (ControlIs h ds) (λ x. IfRest ds at x)

  control_length : (e s : List Lexeme) → length (in_parens e ++ s) ≡ length e + 2 + length s
  control_length e s = omega (arith, condition_length e, length-append (in_parens e) s)

  else_from : (ds : List Scope) (at : ℕ) (c : In ExprTree × StmtTree) (x : In StmtTree) (n : ℕ) (front back : List Lexeme) → n ≡ at + 1 → ControlIs h ds c n front → ElseIs ds at c x (n + length front) back → BehindWord h ds at IfStart x n (front ++ back)
  else_from ds at c x n front back number i k =
      let m = k.holds.holds in let u = m.holds in let e : ExprTree = c.0.0 in let s : StmtTree = c.1 in
      let place : n + 1 ≡ at + 2 = omega (arith, number) in let place_body : n + 2 + length (spell_expr e) ≡ at + 3 + length (spell_expr e) = omega (arith, number) in
      let place_else : n + length front + 1 ≡ at + 4 + length (spell_expr e) + length (spell_stmt s) = omega (arith, number, ap length i.spelled, control_length (spell_expr e) (spell_stmt s)) in
      let placed : placed_expr (at + 2) e ≡ true = subst (λ j. placed_expr j e ≡ true) place i.condition_placed in
      let placed_body : placed_stmt (at + 3 + length (spell_expr e)) s ≡ true = subst (λ j. placed_stmt j s ≡ true) place_body i.statement_placed in
      let placed_else : placed_stmt (at + 4 + length (spell_expr e) + length (spell_stmt s)) m.value.0 ≡ true = subst (λ j. placed_stmt j m.value.0 ≡ true) place_else u.placed in
      let scoped_else : scoped_stmt (entered (after_expr (entered ds) e)) m.value.0 ≡ true = subst (λ j. scoped_stmt (entered j) m.value.0 ≡ true) i.after u.scoped in
      let text : front ++ back ≡ in_parens (spell_expr e) ++ (spell_stmt s ++ (word ElseWord ∷ spell_stmt m.value.0)) =
      ap (λ f. f ++ back) i.spelled ∙ (append_assoc (in_parens (spell_expr e)) (spell_stmt s) back ∙ ap (λ b. in_parens (spell_expr e) ++ (spell_stmt s ++ b)) (k.holds.parts ∙ ap (λ b. word ElseWord ∷ b) u.spelled)) in
      subst (λ y. BehindWord h ds at IfStart y n (front ++ back)) (sym m.is) (record {
        number = number;
        word = refl;
        whole = record {
          levelled = rw (i.condition, k.met, i.statement, u.levelled) refl;
          placed = rw (true_eq at, placed, placed_body, placed_else) refl;
          scoped = rw (i.condition_scoped, i.statement_scoped, scoped_else) refl;
          low = omega (arith, i.condition_low, i.statement_low, u.low);
          after = refl;
          spelled = ap (λ b. word_lexeme IfStart ∷ b) text;
        };
      })

  if_from : (ds : List Scope) (at : ℕ) (x : In StmtTree) (n : ℕ) (t : List Lexeme) → n ≡ at + 1 → IfParts ds at x n t → BehindWord h ds at IfStart x n t
  if_from ds at x n t number b = subst (BehindWord h ds at IfStart x n) (sym b.parts) (by b.second)
    where
      by : IfRest ds at b.value x (n + length b.front) b.back → BehindWord h ds at IfStart x n (b.front ++ b.back)
      by (Met k) = else_from ds at b.value x n b.front b.back number b.first k
      by (Unmet g) = subst (BehindWord h ds at IfStart x n) (sym (append-nil b.front) ∙ ap (λ u. b.front ++ u) (sym g.nothing)) (one_from If IfStart if_body ds at x n b.front number (record { value = b.value; holds = b.first; is = g.value }))

  else_to : (ds : List Scope) (at a : ℕ) (e : ExprTree) (s u : StmtTree) (after : List Scope) (n : ℕ) (t : List Lexeme) → BehindWord h ds at IfStart (IfElse a e s u, after) n t → IfParts ds at (IfElse a e s u, after) n t
  else_to ds at a e s u after n t i =
      let b = i.whole in
      let l = both (levelled e) ((not (takes_else s) && levelled_stmt s) && levelled_stmt u) b.levelled in let l1 = both (not (takes_else s) && levelled_stmt s) (levelled_stmt u) l.1 in let l2 = both (not (takes_else s)) (levelled_stmt s) l1.0 in
      let q = both (nat_eq a at) (placed_expr (at + 2) e && (placed_stmt (at + 3 + length (spell_expr e)) s && placed_stmt (at + 4 + length (spell_expr e) + length (spell_stmt s)) u)) b.placed in
      let q1 = both (placed_expr (at + 2) e) (placed_stmt (at + 3 + length (spell_expr e)) s && placed_stmt (at + 4 + length (spell_expr e) + length (spell_stmt s)) u) q.1 in
      let q2 = both (placed_stmt (at + 3 + length (spell_expr e)) s) (placed_stmt (at + 4 + length (spell_expr e) + length (spell_stmt s)) u) q1.1 in
      let inner : List Scope = entered (after_expr (entered ds) e) in
      let c = both (scoped_expr (entered ds) e) (scoped_stmt inner s && scoped_stmt inner u) b.scoped in let c1 = both (scoped_stmt inner s) (scoped_stmt inner u) c.1 in
      let place : at + 2 ≡ n + 1 = omega (arith, i.number) in let place_body : at + 3 + length (spell_expr e) ≡ n + 2 + length (spell_expr e) = omega (arith, i.number) in
      let front : List Lexeme = in_parens (spell_expr e) ++ spell_stmt s in
      let place_else : at + 4 + length (spell_expr e) + length (spell_stmt s) ≡ n + length front + 1 = omega (arith, i.number, control_length (spell_expr e) (spell_stmt s)) in
      record {
        value = ((e, after_expr (entered ds) e), s);
        front = front;
        back = word ElseWord ∷ spell_stmt u;
        parts = ap behind_first b.spelled ∙ sym (append_assoc (in_parens (spell_expr e)) (spell_stmt s) (word ElseWord ∷ spell_stmt u));
        first = record {
          condition = l.0;
          statement = l2.1;
          condition_placed = subst (λ j. placed_expr j e ≡ true) place q1.0;
          statement_placed = subst (λ j. placed_stmt j s ≡ true) place_body q2.0;
          condition_scoped = c.0;
          statement_scoped = c1.0;
          condition_low = omega (arith, b.low);
          statement_low = omega (arith, b.low);
          after = refl;
          spelled = refl;
        };
        second = Met (record {
          met = l2.0;
          holds = record {
            back = spell_stmt u;
            parts = refl;
            holds = record {
              value = (u, after_stmt inner u);
              is = ap (λ j. (IfElse j e s u, after)) (eq_true a at q.0) ∙ ap (λ j. (IfElse at e s u, j)) b.after;
              holds = record { levelled = l1.1; placed = subst (λ j. placed_stmt j u ≡ true) place_else q2.1; scoped = c1.1; low = omega (arith, b.low); after = refl; spelled = refl };
            };
          };
        });
      }

  if_to : (ds : List Scope) (at : ℕ) (s : StmtTree) (after : List Scope) (n : ℕ) (t : List Lexeme) → BehindWord h ds at IfStart (s, after) n t → IfParts ds at (s, after) n t
  if_to ds at (If a e s) after n t i =
      let m = one_to If IfStart if_body ds at a e s after n t i in
      record { value = m.value; front = t; back = []; first = m.holds; second = Unmet (record { value = m.is; nothing = refl }); parts = sym (append-nil t) }
  if_to ds at (IfElse a e s u) after n t i = else_to ds at a e s u after n t i
  if_to ds at _ after n t i = let e = i.word in absurd cc

  pub if_lawful : (ds : List Scope) (at : ℕ) → Lawful (At (at + 1)) (if_behind p ds at) (BehindWord h ds at IfStart) EndsS
  if_lawful ds at = said
      (there_lawful (at + 1) (λ n o q. q) (bind_lawful (known (λ n o q. tt) (controlled_lawful ds)) (λ x n t i. if_rest_lawful ds at x (n + length t)) (λ x n t y u rest i k s. if_ends ds at x y (n + length t) u rest k s)))
      (λ x n t i. record { number = i.number; holds = if_to ds at x.0 x.1 n t i }) (λ x n t i. if_from ds at x n t i.number i.holds)

  -- labels: a colon and a statement

  abbrev pub ColonIs : (StmtTree → StmtTree) → List Scope → In StmtTree → ℕ → List Lexeme → Type 0
  ColonIs node ds = Behind (IsPunctuator Colon) (Mapped (λ (s : In StmtTree). (node s.0, s.1)) (StatementIs (Below h) ds))

  pub colon_lawful : {P : ℕ → Option Lexeme → Type 0} (node : StmtTree → StmtTree) (ds : List Scope) → ((s : StmtTree) → takes_else (node s) ≡ takes_else s) → Lawful P (behind_colon p node ds) (ColonIs node ds) EndsS
  colon_lawful node ds like = behind_lawful (sign_tells Colon) (mapped_lawful (λ s. (node s.0, s.1))
      (λ s o k. subst (λ b. (b && next_is is_else_word o) ≡ false) (like s.0) k) (λ s o k. subst (λ b. (b && next_is is_else_word o) ≡ false) (sym (like s.0)) k) (parts.statement ds))

  default_from : (ds : List Scope) (at : ℕ) (x : In StmtTree) (n : ℕ) (t : List Lexeme) → n ≡ at + 1 → ColonIs (Default at) ds x n t → BehindWord h ds at DefaultStart x n t
  default_from ds at x n t number b =
      let m = b.holds in let s = m.holds in
      let place : n + 1 ≡ at + 2 = omega (arith, number) in
      let placed : placed_stmt (at + 2) m.value.0 ≡ true = subst (λ j. placed_stmt j m.value.0 ≡ true) place s.placed in
      subst (λ y. BehindWord h ds at DefaultStart y n t) (sym m.is) (record {
        number = number;
        word = refl;
        whole = record { levelled = s.levelled; placed = rw (true_eq at, placed) refl; scoped = s.scoped; low = omega (arith, s.low); after = s.after; spelled = rw (b.parts, s.spelled) refl };
      })

  default_to : (ds : List Scope) (at : ℕ) (s : StmtTree) (after : List Scope) (n : ℕ) (t : List Lexeme) → BehindWord h ds at DefaultStart (s, after) n t → ColonIs (Default at) ds (s, after) n t
  default_to ds at (Default a s) after n t i =
      let b = i.whole in let q = both (nat_eq a at) (placed_stmt (at + 2) s) b.placed in let place : at + 2 ≡ n + 1 = omega (arith, i.number) in
      record {
        back = spell_stmt s;
        parts = ap behind_first b.spelled;
        holds = record {
          value = (s, after);
          is = ap (λ j. (Default j s, after)) (eq_true a at q.0);
          holds = record { levelled = b.levelled; placed = subst (λ j. placed_stmt j s ≡ true) place q.1; scoped = b.scoped; low = omega (arith, b.low); after = b.after; spelled = refl };
        };
      }
  default_to ds at _ after n t i = let e = i.word in absurd cc

  pub default_lawful : (ds : List Scope) (at : ℕ) → Lawful (At (at + 1)) (behind_colon p (Default at) ds) (BehindWord h ds at DefaultStart) EndsS
  default_lawful ds at = said (there_lawful (at + 1) (λ n o q. q) (colon_lawful (Default at) ds (λ s. refl)))
      (λ x n t i. record { number = i.number; holds = default_to ds at x.0 x.1 n t i }) (λ x n t i. default_from ds at x n t i.number i.holds)

  abbrev CaseParts : List Scope → ℕ → In StmtTree → ℕ → List Lexeme → Type 0
  CaseParts ds at = Both (ExprIs (Below h) ConditionalLevel ds) (λ e. ColonIs (Case at e.0) e.1)

  case_from : (ds : List Scope) (at : ℕ) (x : In StmtTree) (n : ℕ) (t : List Lexeme) → n ≡ at + 1 → CaseParts ds at x n t → BehindWord h ds at CaseStart x n t
  case_from ds at x n t number b =
      let e = b.first in let k = b.second in let m = k.holds in let s = m.holds in
      let place_body : n + length b.front + 1 ≡ at + 2 + length (spell_expr b.value.0) = omega (arith, number, ap length e.spelled) in
      let placed : placed_expr (at + 1) b.value.0 ≡ true = subst (λ j. placed_expr j b.value.0 ≡ true) number e.good.placed in
      let placed_body : placed_stmt (at + 2 + length (spell_expr b.value.0)) m.value.0 ≡ true = subst (λ j. placed_stmt j m.value.0 ≡ true) place_body s.placed in
      let scoped : scoped_stmt (after_expr ds b.value.0) m.value.0 ≡ true = subst (λ j. scoped_stmt j m.value.0 ≡ true) e.good.after s.scoped in
      subst (λ y. BehindWord h ds at CaseStart y n t) (sym m.is) (record {
        number = number;
        word = refl;
        whole = record {
          levelled = rw (e.within, e.good.levelled, s.levelled) refl;
          placed = rw (true_eq at, placed, placed_body) refl;
          scoped = rw (e.good.scoped, scoped) refl;
          low = omega (arith, e.good.low, s.low);
          after = s.after ∙ ap (λ j. after_stmt j m.value.0) e.good.after;
          spelled = rw (b.parts, e.spelled, k.parts, s.spelled) refl;
        };
      })

  case_to : (ds : List Scope) (at : ℕ) (s : StmtTree) (after : List Scope) (n : ℕ) (t : List Lexeme) → BehindWord h ds at CaseStart (s, after) n t → CaseParts ds at (s, after) n t
  case_to ds at (Case a e s) after n t i =
      let b = i.whole in
      let l = both (is_within ConditionalLevel e && levelled e) (levelled_stmt s) b.levelled in let l0 = both (is_within ConditionalLevel e) (levelled e) l.0 in
      let q = both (nat_eq a at) (placed_expr (at + 1) e && placed_stmt (at + 2 + length (spell_expr e)) s) b.placed in let q1 = both (placed_expr (at + 1) e) (placed_stmt (at + 2 + length (spell_expr e)) s) q.1 in
      let c = both (scoped_expr ds e) (scoped_stmt (after_expr ds e) s) b.scoped in
      let place_body : at + 2 + length (spell_expr e) ≡ n + length (spell_expr e) + 1 = omega (arith, i.number) in
      record {
        value = (e, after_expr ds e);
        front = spell_expr e;
        back = sign Colon ∷ spell_stmt s;
        parts = ap behind_first b.spelled;
        first = record { good = record { levelled = l0.1; placed = subst (λ j. placed_expr j e ≡ true) (sym i.number) q1.0; scoped = c.0; low = omega (arith, b.low); after = refl }; within = l0.0; spelled = refl };
        second = record {
          back = spell_stmt s;
          parts = refl;
          holds = record {
            value = (s, after);
            is = ap (λ j. (Case j e s, after)) (eq_true a at q.0);
            holds = record { levelled = l.1; placed = subst (λ j. placed_stmt j s ≡ true) place_body q1.1; scoped = c.1; low = omega (arith, b.low); after = b.after; spelled = refl };
          };
        };
      }
  case_to ds at _ after n t i = let e = i.word in absurd cc

  pub case_lawful : (ds : List Scope) (at : ℕ) → Lawful (At (at + 1)) (case_behind p ds at) (BehindWord h ds at CaseStart) EndsS
  case_lawful ds at = said
      (there_lawful (at + 1) (λ n o q. q) (bind_lawful (known (λ n o q. tt) (parts.trees.expr ConditionalLevel ds)) (λ e n t i. colon_lawful (Case at e.0) e.1 (λ s. refl)) (λ e n t b u rest i k s. rw k.parts refl)))
      (λ x n t i. record { number = i.number; holds = case_to ds at x.0 x.1 n t i }) (λ x n t i. case_from ds at x n t i.number i.holds)

  -- do

  abbrev DoRest : List Scope → ℕ → In StmtTree → In StmtTree → ℕ → List Lexeme → Type 0
  DoRest ds at s = Behind (IsKeyword WhileWord) (Before (IsPunctuator Semicolon) (λ (e : In ExprTree). (Do at s.0 e.0, ds)) (ConditionIs h (entered ds)))

  abbrev DoParts : List Scope → ℕ → In StmtTree → ℕ → List Lexeme → Type 0
  DoParts ds at = Both (StatementIs (Below h) (entered (entered ds))) (λ s. DoRest ds at s)

  do_ends : (ds : List Scope) (at : ℕ) (s x : In StmtTree) (n : ℕ) (t : List Lexeme) (o : Option Lexeme) → DoRest ds at s x n t → EndsS x o
  do_ends ds at s x n t o k = subst (λ y. EndsS y o) (sym k.holds.is) refl

  do_rest_lawful : {P : ℕ → Option Lexeme → Type 0} (ds : List Scope) (at : ℕ) (s : In StmtTree) → Lawful P (do_rest p ds at s) (DoRest ds at s) EndsS
  do_rest_lawful ds at s = ended (λ x n t o k e. tt) (λ x n t o k e. do_ends ds at s x n t o k)
      (behind_lawful while_tells (before_lawful (λ e. (Do at s.0 e.0, ds)) (sign_tells Semicolon) (λ e n t i. tt) (condition_lawful (entered ds))))

  do_from : (ds : List Scope) (at : ℕ) (x : In StmtTree) (n : ℕ) (t : List Lexeme) → n ≡ at + 1 → DoParts ds at x n t → BehindWord h ds at DoStart x n t
  do_from ds at x n t number b =
      let s = b.first in let k = b.second in let m = k.holds in let e = m.holds in
      let place : n + length b.front + 1 + 1 ≡ at + 3 + length (spell_stmt b.value.0) = omega (arith, number, ap length s.spelled) in
      let placed_body : placed_stmt (at + 1) b.value.0 ≡ true = subst (λ j. placed_stmt j b.value.0 ≡ true) number s.placed in
      let placed : placed_expr (at + 3 + length (spell_stmt b.value.0)) m.value.0 ≡ true = subst (λ j. placed_expr j m.value.0 ≡ true) place e.placed in
      let text : t ≡ spell_stmt b.value.0 ++ (word WhileWord ∷ (in_parens (spell_expr m.value.0) ++ sign Semicolon ∷ [])) =
      b.parts ∙ (ap (λ u. u ++ b.back) s.spelled ∙ ap (λ u. spell_stmt b.value.0 ++ u) (k.parts ∙ ap (λ u. word WhileWord ∷ u) (m.parts ∙ ap (λ u. u ++ sign Semicolon ∷ []) e.spelled))) in
      subst (λ y. BehindWord h ds at DoStart y n t) (sym m.is) (record {
        number = number;
        word = refl;
        whole = record {
          levelled = rw (s.levelled, e.levelled) refl;
          placed = rw (true_eq at, placed_body, placed) refl;
          scoped = rw (s.scoped, e.scoped) refl;
          low = omega (arith, s.low, e.low);
          after = refl;
          spelled = ap (λ u. word_lexeme DoStart ∷ u) text;
        };
      })

  do_to : (ds : List Scope) (at : ℕ) (s : StmtTree) (after : List Scope) (n : ℕ) (t : List Lexeme) → BehindWord h ds at DoStart (s, after) n t → DoParts ds at (s, after) n t
  do_to ds at (Do a s e) after n t i =
      let b = i.whole in
      let l = both (levelled_stmt s) (levelled e) b.levelled in
      let q = both (nat_eq a at) (placed_stmt (at + 1) s && placed_expr (at + 3 + length (spell_stmt s)) e) b.placed in let q1 = both (placed_stmt (at + 1) s) (placed_expr (at + 3 + length (spell_stmt s)) e) q.1 in
      let c = both (scoped_stmt (entered (entered ds)) s) (scoped_expr (entered ds) e) b.scoped in
      let place : at + 3 + length (spell_stmt s) ≡ n + length (spell_stmt s) + 1 + 1 = omega (arith, i.number) in
      record {
        value = (s, after_stmt (entered (entered ds)) s);
        front = spell_stmt s;
        back = word WhileWord ∷ (in_parens (spell_expr e) ++ sign Semicolon ∷ []);
        parts = ap behind_first b.spelled;
        first = record { levelled = l.0; placed = subst (λ j. placed_stmt j s ≡ true) (sym i.number) q1.0; scoped = c.0; low = omega (arith, b.low); after = refl; spelled = refl };
        second = record {
          back = in_parens (spell_expr e) ++ sign Semicolon ∷ [];
          parts = refl;
          holds = record {
            value = (e, after_expr (entered ds) e);
            front = in_parens (spell_expr e);
            parts = refl;
            is = ap (λ j. (Do j s e, after)) (eq_true a at q.0) ∙ ap (λ j. (Do at s e, j)) b.after;
            holds = record { levelled = l.1; placed = subst (λ j. placed_expr j e ≡ true) place q1.1; scoped = c.1; low = omega (arith, b.low); after = refl; spelled = refl };
          };
        };
      }
  do_to ds at _ after n t i = let e = i.word in absurd cc

  pub do_lawful : (ds : List Scope) (at : ℕ) → Lawful (At (at + 1)) (do_behind p ds at) (BehindWord h ds at DoStart) EndsS
  do_lawful ds at = said
      (there_lawful (at + 1) (λ n o q. q) (bind_lawful (known (λ n o q. tt) (parts.statement (entered (entered ds)))) (λ s n t i. do_rest_lawful ds at s) (λ s n t b u rest i k e. rw k.parts (and_none (takes_else s.0) false refl))))
      (λ x n t i. record { number = i.number; holds = do_to ds at x.0 x.1 n t i }) (λ x n t i. do_from ds at x n t i.number i.holds)

  -- jumps

  abbrev JumpIs : StmtTree → List Scope → In StmtTree → ℕ → List Lexeme → Type 0
  JumpIs s ds = Behind (IsPunctuator Semicolon) (Gives (s, ds))

  jump_lawful : {P : ℕ → Option Lexeme → Type 0} (s : StmtTree) (ds : List Scope) → takes_else s ≡ false → Lawful P (jump_behind s ds) (JumpIs s ds) EndsS
  jump_lawful s ds free = behind_lawful (sign_tells Semicolon) (pure_lawful (s, ds) (λ n o q. ap (λ b. b && next_is is_else_word o) free))

  jump_text : (s : StmtTree) (ds : List Scope) (x : In StmtTree) (n : ℕ) (t : List Lexeme) → JumpIs s ds x n t → t ≡ sign Semicolon ∷ []
  jump_text s ds x n t b = b.parts ∙ ap (λ u. sign Semicolon ∷ u) b.holds.nothing

  continue_to : (ds : List Scope) (at : ℕ) (s : StmtTree) (after : List Scope) (n : ℕ) (t : List Lexeme) → BehindWord h ds at ContinueStart (s, after) n t → JumpIs (Continue at) ds (s, after) n t
  continue_to ds at (Continue a) after n t i = record { back = []; parts = ap behind_first i.whole.spelled; holds = record { value = ap (λ j. (Continue j, after)) (eq_true a at i.whole.placed) ∙ ap (λ j. (Continue at, j)) i.whole.after; nothing = refl } }
  continue_to ds at _ after n t i = let e = i.word in absurd cc

  continue_from : (ds : List Scope) (at : ℕ) (x : In StmtTree) (n : ℕ) (t : List Lexeme) → n ≡ at + 1 → JumpIs (Continue at) ds x n t → BehindWord h ds at ContinueStart x n t
  continue_from ds at x n t number b = subst (λ y. BehindWord h ds at ContinueStart y n t) (sym b.holds.value)
      (record { number = number; word = refl; whole = record { levelled = refl; placed = true_eq at; scoped = refl; low = omega (arith, one); after = refl; spelled = ap (λ u. word_lexeme ContinueStart ∷ u) (jump_text (Continue at) ds x n t b) } })

  pub continue_lawful : (ds : List Scope) (at : ℕ) → Lawful (At (at + 1)) (jump_behind (Continue at) ds) (BehindWord h ds at ContinueStart) EndsS
  continue_lawful ds at = said (there_lawful (at + 1) (λ n o q. q) (jump_lawful (Continue at) ds refl))
      (λ x n t i. record { number = i.number; holds = continue_to ds at x.0 x.1 n t i }) (λ x n t i. continue_from ds at x n t i.number i.holds)

  break_to : (ds : List Scope) (at : ℕ) (s : StmtTree) (after : List Scope) (n : ℕ) (t : List Lexeme) → BehindWord h ds at BreakStart (s, after) n t → JumpIs (Break at) ds (s, after) n t
  break_to ds at (Break a) after n t i = record { back = []; parts = ap behind_first i.whole.spelled; holds = record { value = ap (λ j. (Break j, after)) (eq_true a at i.whole.placed) ∙ ap (λ j. (Break at, j)) i.whole.after; nothing = refl } }
  break_to ds at _ after n t i = let e = i.word in absurd cc

  break_from : (ds : List Scope) (at : ℕ) (x : In StmtTree) (n : ℕ) (t : List Lexeme) → n ≡ at + 1 → JumpIs (Break at) ds x n t → BehindWord h ds at BreakStart x n t
  break_from ds at x n t number b = subst (λ y. BehindWord h ds at BreakStart y n t) (sym b.holds.value)
      (record { number = number; word = refl; whole = record { levelled = refl; placed = true_eq at; scoped = refl; low = omega (arith, one); after = refl; spelled = ap (λ u. word_lexeme BreakStart ∷ u) (jump_text (Break at) ds x n t b) } })

  pub break_lawful : (ds : List Scope) (at : ℕ) → Lawful (At (at + 1)) (jump_behind (Break at) ds) (BehindWord h ds at BreakStart) EndsS
  break_lawful ds at = said (there_lawful (at + 1) (λ n o q. q) (jump_lawful (Break at) ds refl))
      (λ x n t i. record { number = i.number; holds = break_to ds at x.0 x.1 n t i }) (λ x n t i. break_from ds at x n t i.number i.holds)

  abbrev GotoParts : List Scope → ℕ → In StmtTree → ℕ → List Lexeme → Type 0
  GotoParts ds at = Under (nat_le 2 h) (Both (Token a_name) (λ m. JumpIs (Goto at m) ds))

  goto_from : (ds : List Scope) (at : ℕ) (x : In StmtTree) (n : ℕ) (t : List Lexeme) → n ≡ at + 1 → GotoParts ds at x n t → BehindWord h ds at GotoStart x n t
  goto_from ds at x n t number u =
      let b = u.holds in
      let name : b.front ≡ named b.value ∷ [] = b.first.alone ∙ ap (λ v. v ∷ []) (a_name_is b.first.token b.value b.first.is) in
      let text : t ≡ named b.value ∷ sign Semicolon ∷ [] = b.parts ∙ (ap (λ f. f ++ b.back) name ∙ ap (λ v. named b.value ∷ v) (jump_text (Goto at b.value) ds x (n + length b.front) b.back b.second)) in
      subst (λ y. BehindWord h ds at GotoStart y n t) (sym b.second.holds.value)
      (record { number = number; word = refl; whole = record { levelled = refl; placed = true_eq at; scoped = refl; low = omega (arith, le_true 2 h u.met); after = refl; spelled = ap (λ v. word_lexeme GotoStart ∷ v) text } })

  goto_to : (ds : List Scope) (at : ℕ) (s : StmtTree) (after : List Scope) (n : ℕ) (t : List Lexeme) → BehindWord h ds at GotoStart (s, after) n t → GotoParts ds at (s, after) n t
  goto_to ds at (Goto a m) after n t i =
      let b = i.whole in
      record {
        met = true_le 2 h (omega (arith, b.low));
        holds = record {
          value = m;
          front = named m ∷ [];
          back = sign Semicolon ∷ [];
          first = record { token = named m; is = refl; alone = refl };
          parts = ap behind_first b.spelled;
          second = record { back = []; parts = refl; holds = record { value = ap (λ j. (Goto j m, after)) (eq_true a at b.placed) ∙ ap (λ j. (Goto at m, j)) b.after; nothing = refl } };
        };
      }
  goto_to ds at _ after n t i = let e = i.word in absurd cc

  pub goto_lawful : (ds : List Scope) (at : ℕ) → Lawful (At (at + 1)) (goto_behind h ds at) (BehindWord h ds at GotoStart) EndsS
  goto_lawful ds at = said
      (there_lawful (at + 1) (λ n o q. q) (guard_lawful (nat_le 2 h) (bind_lawful (one_lawful a_name) (λ m n t i. jump_lawful (Goto at m) ds refl) (λ m n t b u rest i k s. tt))))
      (λ x n t i. record { number = i.number; holds = goto_to ds at x.0 x.1 n t i }) (λ x n t i. goto_from ds at x n t i.number i.holds)

  abbrev ReturnParts : List Scope → ℕ → In StmtTree → ℕ → List Lexeme → Type 0
  ReturnParts ds at = Mapped (λ (e : In (Option ExprTree)). (Return at e.0, e.1)) (ClosedIs h Semicolon ds)

  return_from : (ds : List Scope) (at : ℕ) (x : In StmtTree) (n : ℕ) (t : List Lexeme) → n ≡ at + 1 → ReturnParts ds at x n t → BehindWord h ds at ReturnStart x n t
  return_from ds at x n t number m =
      let c = m.holds in let e = c.is in
      let placed : placed_maybe (at + 1) m.value.0 ≡ true = subst (λ j. placed_maybe j m.value.0 ≡ true) number e.placed in
      subst (λ y. BehindWord h ds at ReturnStart y n t) (sym m.is)
      (record { number = number; word = refl; whole = record { levelled = e.levelled; placed = rw (true_eq at, placed) refl; scoped = e.scoped; low = omega (arith, e.low); after = e.after; spelled = ap (λ v. word_lexeme ReturnStart ∷ v) c.spelled } })

  return_to : (ds : List Scope) (at : ℕ) (s : StmtTree) (after : List Scope) (n : ℕ) (t : List Lexeme) → BehindWord h ds at ReturnStart (s, after) n t → ReturnParts ds at (s, after) n t
  return_to ds at (Return a e) after n t i =
      let b = i.whole in let q = both (nat_eq a at) (placed_maybe (at + 1) e) b.placed in
      record {
        value = (e, after);
        is = ap (λ j. (Return j e, after)) (eq_true a at q.0);
        holds = record { is = record { levelled = b.levelled; placed = subst (λ j. placed_maybe j e ≡ true) (sym i.number) q.1; scoped = b.scoped; low = omega (arith, b.low); after = b.after; spelled = refl }; spelled = ap behind_first b.spelled };
      }
  return_to ds at _ after n t i = let e = i.word in absurd cc

  pub return_lawful : (ds : List Scope) (at : ℕ) → Lawful (At (at + 1)) (return_behind p ds at) (BehindWord h ds at ReturnStart) EndsS
  return_lawful ds at = said
      (there_lawful (at + 1) (λ n o q. q) (mapped_lawful (λ e. (Return at e.0, e.1)) (λ e o s. tt) (λ e o s. refl) (known (λ n o q. tt) (closed_lawful Semicolon semicolon_closes ds))))
      (λ x n t i. record { number = i.number; holds = return_to ds at x.0 x.1 n t i }) (λ x n t i. return_from ds at x n t i.number i.holds)

  -- for

  abbrev StartParts : List Scope → In ForStart → ℕ → List Lexeme → Type 0
  StartParts ds = Either (Mapped (λ (d : In DeclarationTree). (StartDeclaration d.0, d.1)) (DeclarationIs (Below h) ds)) (Mapped (λ (e : In (Option ExprTree)). (StartExpr e.0, e.1)) (ClosedIs h Semicolon ds))

  start_from : (ds : List Scope) (x : In ForStart) (n : ℕ) (t : List Lexeme) → StartParts ds x n t → StartIs h ds x n t
  start_from ds x n t (Met m) = let d = m.holds in subst (λ w. StartIs h ds w n t) (sym m.is) (record { levelled = d.levelled; placed = d.placed; scoped = d.scoped; low = d.low; after = d.after; spelled = d.spelled })
  start_from ds x n t (Unmet m) = let e = m.holds.is in subst (λ w. StartIs h ds w n t) (sym m.is) (record { levelled = e.levelled; placed = e.placed; scoped = e.scoped; low = e.low; after = e.after; spelled = m.holds.spelled })

  start_to : (ds : List Scope) (x : ForStart) (after : List Scope) (n : ℕ) (t : List Lexeme) → StartIs h ds (x, after) n t → StartParts ds (x, after) n t
  start_to ds (StartDeclaration d) after n t i = Met (record { value = (d, after); is = refl; holds = record { levelled = i.levelled; placed = i.placed; scoped = i.scoped; low = i.low; after = i.after; spelled = i.spelled } })
  start_to ds (StartExpr e) after n t i = Unmet (record { value = (e, after); is = refl; holds = record { is = record { levelled = i.levelled; placed = i.placed; scoped = i.scoped; low = i.low; after = i.after; spelled = refl }; spelled = i.spelled } })

  maybe_no_declaration : (ds : List Scope) (e : Option ExprTree) (rest : List Lexeme) → levelled_maybe e ≡ true → scoped_maybe ds e ≡ true → next_is (begins_declaration ds) (head ((spell_maybe e ++ sign Semicolon ∷ []) ++ rest)) ≡ false
  maybe_no_declaration ds None rest l s = refl
  maybe_no_declaration ds (Some e) rest l s =
      ap (λ u. next_is (begins_declaration ds) (head u)) (append_assoc (spell_expr e) (sign Semicolon ∷ []) rest) ∙ start_no_declaration ds (head (spell_expr e ++ (sign Semicolon ∷ rest))) (expr_starts ds e (sign Semicolon ∷ rest) l s)

  start_lawful : (ds : List Scope) → Lawful Any (for_start p ds) (StartIs h ds) Anywhere
  start_lawful ds = said
      (when_lawful (next_is (begins_declaration ds)) (mapped_lawful (λ d. (StartDeclaration d.0, d.1)) (λ d o s. s) (λ d o s. s) (known (λ n o q. tt) (parts.declaration ds))) (mapped_lawful (λ e. (StartExpr e.0, e.1)) (λ e o s. s) (λ e o s. s) (known (λ n o q. tt) (closed_lawful Semicolon semicolon_closes ds)))
      (λ x n t rest m s. rw m.holds.spelled (declaration_begins ds m.value.0 rest m.holds.levelled m.holds.scoped))
      (λ x n t rest m s. rw m.holds.spelled (maybe_no_declaration ds m.value.0 rest m.holds.is.levelled m.holds.is.scoped)))
      (λ x n t i. start_to ds x.0 x.1 n t i) (start_from ds)

  abbrev ForBodyIs : List Scope → ℕ → ForStart → Option ExprTree → In (Option ExprTree) → In StmtTree → ℕ → List Lexeme → Type 0
  ForBodyIs ds at start c step = Mapped (λ (s : In StmtTree). (For at start c step.0 s.0, ds)) (StatementIs (Below h) (entered step.1))

  abbrev ForStepIs : List Scope → ℕ → ForStart → In (Option ExprTree) → In StmtTree → ℕ → List Lexeme → Type 0
  ForStepIs ds at start c = Both (ClosedIs h RightParen c.1) (λ step. ForBodyIs ds at start c.0 step)

  abbrev ForRestIs : List Scope → ℕ → In ForStart → In StmtTree → ℕ → List Lexeme → Type 0
  ForRestIs ds at start = Both (ClosedIs h Semicolon start.1) (λ c. ForStepIs ds at start.0 c)

  abbrev ForParts : List Scope → ℕ → In StmtTree → ℕ → List Lexeme → Type 0
  ForParts ds at = Behind (IsPunctuator LeftParen) (Both (StartIs h (entered ds)) (λ start. ForRestIs ds at start))

  for_parts_lawful : {P : ℕ → Option Lexeme → Type 0} (ds : List Scope) (at : ℕ) → Lawful P (for_behind p ds at) (ForParts ds at) EndsS
  for_parts_lawful ds at = behind_lawful (sign_tells LeftParen) (bind_lawful (start_lawful (entered ds)) (λ start n t i. known (λ m o q. tt)
      (bind_lawful (closed_lawful Semicolon semicolon_closes start.1) (λ c n t i. known (λ m o q. tt)
      (bind_lawful (closed_lawful RightParen parenthesis_closes c.1) (λ step n t i. known (λ m o q. tt) (mapped_lawful (λ s. (For at start.0 c.0 step.0 s.0, ds)) (λ s o k. k) (λ s o k. k) (parts.statement (entered step.1)))) (λ step n t b u rest i k s. tt)))
      (λ c n t b u rest i k s. tt))) (λ start n t b u rest i k s. tt))

  closed_length : (a b : List Lexeme) (q : Lexeme) → a ≡ b ++ q ∷ [] → length a ≡ length b + 1
  closed_length a b q e = omega (arith, ap length e, length-append b (q ∷ []))

  for_text : (a c d s : List Lexeme) → a ++ ((c ++ sign Semicolon ∷ []) ++ ((d ++ sign RightParen ∷ []) ++ s)) ≡ ((a ++ (c ++ (sign Semicolon ∷ d))) ++ sign RightParen ∷ []) ++ s
  for_text a c d s =
      ap (λ u. a ++ u) (append_assoc c (sign Semicolon ∷ []) ((d ++ sign RightParen ∷ []) ++ s) ∙ ap (λ u. c ++ (sign Semicolon ∷ u)) (append_assoc d (sign RightParen ∷ []) s))
      ∙ sym (append_assoc (a ++ (c ++ (sign Semicolon ∷ d))) (sign RightParen ∷ []) s ∙ (append_assoc a (c ++ (sign Semicolon ∷ d)) (sign RightParen ∷ s) ∙ ap (λ u. a ++ u) (append_assoc c (sign Semicolon ∷ d) (sign RightParen ∷ s))))

  for_from : (ds : List Scope) (at : ℕ) (x : In StmtTree) (n : ℕ) (t : List Lexeme) → n ≡ at + 1 → ForParts ds at x n t → BehindWord h ds at ForBegin x n t
  for_from ds at x n t number o =
      let b = o.holds in let start = b.first in let r = b.second in let c = r.first in let g = r.second in let step = g.first in let m = g.second in let s = m.holds in
      let start_tree : ForStart = b.value.0 in let c_tree : Option ExprTree = r.value.0 in let step_tree : Option ExprTree = g.value.0 in let body : StmtTree = m.value.0 in
      let long : length b.front ≡ length (spell_start start_tree) = ap length start.spelled in
      let long_c : length r.front ≡ length (spell_maybe c_tree) + 1 = closed_length r.front (spell_maybe c_tree) (sign Semicolon) c.spelled in
      let long_step : length g.front ≡ length (spell_maybe step_tree) + 1 = closed_length g.front (spell_maybe step_tree) (sign RightParen) step.spelled in
      let place : n + 1 ≡ at + 2 = omega (arith, number) in
      let place_c : n + 1 + length b.front ≡ at + 2 + length (spell_start start_tree) = omega (arith, number, long) in
      let place_step : n + 1 + length b.front + length r.front ≡ at + 3 + length (spell_start start_tree) + length (spell_maybe c_tree) = omega (arith, number, long, long_c) in
      let place_body : n + 1 + length b.front + length r.front + length g.front ≡ at + 4 + length (spell_start start_tree) + length (spell_maybe c_tree) + length (spell_maybe step_tree) = omega (arith, number, long, long_c, long_step) in
      let placed : placed_start (at + 2) start_tree ≡ true = subst (λ j. placed_start j start_tree ≡ true) place start.placed in
      let placed_c : placed_maybe (at + 2 + length (spell_start start_tree)) c_tree ≡ true = subst (λ j. placed_maybe j c_tree ≡ true) place_c c.is.placed in
      let placed_step : placed_maybe (at + 3 + length (spell_start start_tree) + length (spell_maybe c_tree)) step_tree ≡ true = subst (λ j. placed_maybe j step_tree ≡ true) place_step step.is.placed in
      let placed_body : placed_stmt (at + 4 + length (spell_start start_tree) + length (spell_maybe c_tree) + length (spell_maybe step_tree)) body ≡ true = subst (λ j. placed_stmt j body ≡ true) place_body s.placed in
      let scopes_c : r.value.1 ≡ after_maybe (after_start (entered ds) start_tree) c_tree = c.is.after ∙ ap (λ j. after_maybe j c_tree) start.after in
      let scopes_step : g.value.1 ≡ after_maybe (after_maybe (after_start (entered ds) start_tree) c_tree) step_tree = step.is.after ∙ ap (λ j. after_maybe j step_tree) scopes_c in
      let scoped_c : scoped_maybe (after_start (entered ds) start_tree) c_tree ≡ true = subst (λ j. scoped_maybe j c_tree ≡ true) start.after c.is.scoped in
      let scoped_step : scoped_maybe (after_maybe (after_start (entered ds) start_tree) c_tree) step_tree ≡ true = subst (λ j. scoped_maybe j step_tree ≡ true) scopes_c step.is.scoped in
      let scoped_body : scoped_stmt (entered (after_maybe (after_maybe (after_start (entered ds) start_tree) c_tree) step_tree)) body ≡ true = subst (λ j. scoped_stmt (entered j) body ≡ true) scopes_step s.scoped in
      let text : t ≡ in_parens (spell_start start_tree ++ (spell_maybe c_tree ++ (sign Semicolon ∷ spell_maybe step_tree))) ++ spell_stmt body =
      o.parts ∙ ap (λ u. sign LeftParen ∷ u) (b.parts ∙ (ap (λ u. u ++ b.back) start.spelled ∙ (ap (λ u. spell_start start_tree ++ u) (r.parts ∙ (ap (λ u. u ++ r.back) c.spelled ∙ ap (λ u. (spell_maybe c_tree ++ sign Semicolon ∷ []) ++ u)
      (g.parts ∙ (ap (λ u. u ++ g.back) step.spelled ∙ ap (λ u. (spell_maybe step_tree ++ sign RightParen ∷ []) ++ u) s.spelled)))) ∙ for_text (spell_start start_tree) (spell_maybe c_tree) (spell_maybe step_tree) (spell_stmt body)))) in
      subst (λ y. BehindWord h ds at ForBegin y n t) (sym m.is) (record {
        number = number;
        word = refl;
        whole = record {
          levelled = rw (start.levelled, c.is.levelled, step.is.levelled, s.levelled) refl;
          placed = rw (true_eq at, placed, placed_c, placed_step, placed_body) refl;
          scoped = rw (start.scoped, scoped_c, scoped_step, scoped_body) refl;
          low = omega (arith, start.low, c.is.low, step.is.low, s.low);
          after = refl;
          spelled = ap (λ u. word_lexeme ForBegin ∷ u) text;
        };
      })

  for_to : (ds : List Scope) (at : ℕ) (s : StmtTree) (after : List Scope) (n : ℕ) (t : List Lexeme) → BehindWord h ds at ForBegin (s, after) n t → ForParts ds at (s, after) n t
  for_to ds at (For a start c step s) after n t i =
      let b = i.whole in
      let ds1 : List Scope = after_start (entered ds) start in let ds2 : List Scope = after_maybe ds1 c in let ds3 : List Scope = after_maybe ds2 step in
      let l = both (levelled_start start) ((levelled_maybe c && levelled_maybe step) && levelled_stmt s) b.levelled in let l1 = both (levelled_maybe c && levelled_maybe step) (levelled_stmt s) l.1 in let l2 = both (levelled_maybe c) (levelled_maybe step) l1.0 in
      let m0 : ℕ = at + 2 in let m1 : ℕ = at + 2 + length (spell_start start) in let m2 : ℕ = at + 3 + length (spell_start start) + length (spell_maybe c) in let m3 : ℕ = at + 4 + length (spell_start start) + length (spell_maybe c) + length (spell_maybe step) in
      let q = both (nat_eq a at) ((placed_start m0 start && (placed_maybe m1 c && placed_maybe m2 step)) && placed_stmt m3 s) b.placed in
      let q1 = both (placed_start m0 start && (placed_maybe m1 c && placed_maybe m2 step)) (placed_stmt m3 s) q.1 in let q2 = both (placed_start m0 start) (placed_maybe m1 c && placed_maybe m2 step) q1.0 in let q3 = both (placed_maybe m1 c) (placed_maybe m2 step) q2.1 in
      let k = both (scoped_start (entered ds) start && scoped_maybe ds1 c) (scoped_maybe ds2 step && scoped_stmt (entered ds3) s) b.scoped in let k1 = both (scoped_start (entered ds) start) (scoped_maybe ds1 c) k.0 in let k2 = both (scoped_maybe ds2 step) (scoped_stmt (entered ds3) s) k.1 in
      let text_c : List Lexeme = spell_maybe c ++ sign Semicolon ∷ [] in let text_step : List Lexeme = spell_maybe step ++ sign RightParen ∷ [] in
      let place : m0 ≡ n + 1 = omega (arith, i.number) in
      let place_c : m1 ≡ n + 1 + length (spell_start start) = omega (arith, i.number) in
      let place_step : m2 ≡ n + 1 + length (spell_start start) + length text_c = omega (arith, i.number, closed_length text_c (spell_maybe c) (sign Semicolon) refl) in
      let place_body : m3 ≡ n + 1 + length (spell_start start) + length text_c + length text_step = omega (arith, i.number, closed_length text_c (spell_maybe c) (sign Semicolon) refl, closed_length text_step (spell_maybe step) (sign RightParen) refl) in
      record {
        back = spell_start start ++ (text_c ++ (text_step ++ spell_stmt s));
        parts = ap behind_first b.spelled ∙ ap (λ u. sign LeftParen ∷ u) (sym (for_text (spell_start start) (spell_maybe c) (spell_maybe step) (spell_stmt s)));
        holds = record {
          value = (start, ds1);
          front = spell_start start;
          back = text_c ++ (text_step ++ spell_stmt s);
          parts = refl;
          first = record { levelled = l.0; placed = subst (λ j. placed_start j start ≡ true) place q2.0; scoped = k1.0; low = omega (arith, b.low); after = refl; spelled = refl };
          second = record {
            value = (c, ds2);
            front = text_c;
            back = text_step ++ spell_stmt s;
            parts = refl;
            first = record { is = record { levelled = l2.0; placed = subst (λ j. placed_maybe j c ≡ true) place_c q3.0; scoped = k1.1; low = omega (arith, b.low); after = refl; spelled = refl }; spelled = refl };
            second = record {
              value = (step, ds3);
              front = text_step;
              back = spell_stmt s;
              parts = refl;
              first = record { is = record { levelled = l2.1; placed = subst (λ j. placed_maybe j step ≡ true) place_step q3.1; scoped = k2.0; low = omega (arith, b.low); after = refl; spelled = refl }; spelled = refl };
              second = record {
                value = (s, after_stmt (entered ds3) s);
                is = ap (λ j. (For j start c step s, after)) (eq_true a at q.0) ∙ ap (λ j. (For at start c step s, j)) b.after;
                holds = record { levelled = l1.1; placed = subst (λ j. placed_stmt j s ≡ true) place_body q1.1; scoped = k2.1; low = omega (arith, b.low); after = refl; spelled = refl };
              };
            };
          };
        };
      }
  for_to ds at _ after n t i = let e = i.word in absurd cc

  pub for_lawful : (ds : List Scope) (at : ℕ) → Lawful (At (at + 1)) (for_behind p ds at) (BehindWord h ds at ForBegin) EndsS
  for_lawful ds at = said (there_lawful (at + 1) (λ n o q. q) (for_parts_lawful ds at))
      (λ x n t i. record { number = i.number; holds = for_to ds at x.0 x.1 n t i }) (λ x n t i. for_from ds at x n t i.number i.holds)
