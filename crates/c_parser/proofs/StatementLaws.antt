-- Device: the reading of statements gives exactly the grammatical ones.
use Rattle.std.proofs.Common.{◌≡◌, refl, sym, ap, ◌∙◌, subst, ℕ, suc, ◌+◌, ◌<◌, ◌≤◌, length, Bool, true, false, not, ◌&&◌, nat_eq, nat_le, List, [], ◌∷◌, ◌++◌, Option, Some, None, Ok, Err, append_assoc, append-nil, arith, length-append, true≢false}
use Rattle.cil_base.specs.declared.numbers.NameId.{NameId}
use Rattle.cil_base.specs.declared.tokens.TokenKind.{TokenKind}
use Rattle.cil_base.specs.declared.tokens.TokenKind.TheVariants.{Name as IsName, Punctuator as IsPunctuator}
use Rattle.cil_base.specs.declared.tokens.Punctuator.TheVariants.{Colon, Semicolon}
use Rattle.typedef_scopes.specs.Scopes.{Scope, is_type}
use Rattle.c_tree.specs.declared.level.Level.TheVariants.{Comma as CommaLevel}
use Rattle.c_tree.specs.Syntax.{ExprTree, Name}
use Rattle.c_tree.specs.Units.{StmtTree, Labelled, Expression}
use Rattle.c_tree.specs.Spelling.{Lexeme, sign, named, spell_expr}
use Rattle.c_tree.specs.UnitSpelling.{spell_maybe, spell_stmt}
use Rattle.c_tree.specs.Height.{expr_height, stmt_height}
use Rattle.c_tree.specs.Levels.{takes_else, levelled, levelled_stmt}
use Rattle.c_tree.specs.Placed.{placed_expr, placed_maybe, placed_stmt}
use Rattle.c_tree.specs.Scoped.{scoped_expr, scoped_stmt, after_expr}
use Rattle.c_cursor.specs.Readers.{Input, input, head}
use Rattle.c_cursor.specs.Classes.{is_sign, next_is, a_name}
use Rattle.c_exprs.specs.Classes.{is_some_of}
use Rattle.c_exprs.specs.GoesOn.{goes_on_expr, goes_on_level}
use Rattle.c_exprs.specs.Subs.{In}
use Rattle.c_exprs.proofs.Laws
use Rattle.c_exprs.proofs.Laws.{Lawful, Faults, Any, Anywhere, And, At, Token, Mapped, Behind, Both, Either, Met, Unmet, Under, There, Opens, bare, bind_lawful, mapped_lawful, when_lawful, guard_known, one_lawful, fail_lawful, opens_lawful, there_lawful, said, known, either_right, same_value, same_fault, not_both}
use Rattle.c_cursor.proofs.Tokens.{eq_true, true_eq}
use Rattle.c_exprs.proofs.Tokens.{both, le_true, true_le, sign_tells, a_name_is}
use Rattle.c_exprs.proofs.Heads.{Starts, expr_starts}
use Rattle.c_exprs.proofs.Relations.{Below, ExprIs}
use Rattle.c_exprs.proofs.Arguments.{tall}
use Rattle.c_parser.specs.declared.words.StatementWord.{StatementWord}
use Rattle.c_parser.specs.declared.words.StatementWord.TheVariants.{Case as CaseStart, Default as DefaultStart, Block as BlockStart, If as IfStart, Switch as SwitchStart, While as WhileStart, Do as DoStart, For as ForBegin, Goto as GotoStart, Continue as ContinueStart, Break as BreakStart, Return as ReturnStart}
use Rattle.c_parser.specs.StatementWords.{a_statement_word, begins_by_word, name_ahead, type_ahead, label_ahead, when_label}
use Rattle.c_parser.specs.UnitForms.{is_else_word}
use Rattle.c_parser.specs.Parts.{Parts}
use Rattle.c_parser.specs.StatementReading.{labelled, behind_word, worded, expressing, mistaken, unlabelled, named as named_reading, unnamed, statement_at, statement}
use Rattle.c_parser.proofs.Looking.{name_is, moves, label_lawful, numbered_lawful, front_of_fault}
use Rattle.c_parser.proofs.UnitRelations.{StatementIs, LawfulParts}
use Rattle.c_parser.proofs.StatementHeads.{word_kind, word_lexeme, statement_word_is, is_statement_word, word_of, is_labelled, is_expression, is_worded, behind_first, worded_text, word_found, start_no_word, start_name, type_off, worded_begins, word_no_name, expression_off, expression_no_type, word_apart, tall_statement, statement_some, first_kept}
use Rattle.c_parser.proofs.ControlLaws.{any_level, ClosedIs, semicolon_closes, closed_lawful, BehindWord, EndsS, ColonIs, colon_lawful, if_lawful, switch_lawful, while_lawful, default_lawful, case_lawful, do_lawful, continue_lawful, break_lawful, goto_lawful, return_lawful, for_lawful}
use Rattle.c_parser.proofs.BlockLaws.{block_lawful}

-- a statement of one kind
pub record Formed (kind : StmtTree → Bool) (h : ℕ) (ds : List Scope) (x : In StmtTree) (n : ℕ) (text : List Lexeme) : Type 0 where
  pub form : kind x.0 ≡ true
  pub is : StatementIs (Below (suc h)) ds x n text

-- the text of an expression statement, in front of which stands nothing else

colon_not : (v : Lexeme) → v ≡ sign Semicolon → next_is (is_sign Colon) (Some v) ≡ true → ⊥
colon_not v e c = true≢false (sym c ∙ ap (λ u. next_is (is_sign Colon) (Some u)) e)

module _ (h : ℕ) (p : Parts) (parts : LawfulParts h p) (one : 1 ≤ h) where
  -- behind each word

  behind_word_lawful : (ds : List Scope) (at : ℕ) (w : StatementWord) → Lawful (At (at + 1)) (behind_word h p ds at w) (BehindWord h ds at w) EndsS
  behind_word_lawful ds at CaseStart = case_lawful h p parts one ds at
  behind_word_lawful ds at DefaultStart = default_lawful h p parts one ds at
  behind_word_lawful ds at BlockStart = block_lawful h p parts one ds at
  behind_word_lawful ds at IfStart = if_lawful h p parts one ds at
  behind_word_lawful ds at SwitchStart = switch_lawful h p parts one ds at
  behind_word_lawful ds at WhileStart = while_lawful h p parts one ds at
  behind_word_lawful ds at DoStart = do_lawful h p parts one ds at
  behind_word_lawful ds at ForBegin = for_lawful h p parts one ds at
  behind_word_lawful ds at GotoStart = goto_lawful h p parts one ds at
  behind_word_lawful ds at ContinueStart = continue_lawful h p parts one ds at
  behind_word_lawful ds at BreakStart = break_lawful h p parts one ds at
  behind_word_lawful ds at ReturnStart = return_lawful h p parts one ds at

  abbrev WordedParts : List Scope → ℕ → In StmtTree → ℕ → List Lexeme → Type 0
  WordedParts ds at = Both (There at (Token a_statement_word)) (λ w. BehindWord h ds at w)

  worded_from : (ds : List Scope) (at : ℕ) (x : In StmtTree) (n : ℕ) (t : List Lexeme) → WordedParts ds at x n t → There at (Formed is_worded h ds) x n t
  worded_from ds at x n t b =
      let w : StatementWord = b.value in let k = b.second in let i = b.first in
      let token : b.front ≡ word_lexeme w ∷ [] = i.holds.alone ∙ ap (λ u. u ∷ []) (statement_word_is i.holds.token w i.holds.is) in
      let text : word_lexeme w ∷ b.back ≡ t = sym (b.parts ∙ ap (λ u. u ++ b.back) token) in
      record { number = i.number; holds = record { form = ap is_some_of k.word; is = subst (λ j. StatementIs (Below (suc h)) ds x j t) (sym i.number) (subst (StatementIs (Below (suc h)) ds x at) text k.whole) } }

  worded_to : (ds : List Scope) (at : ℕ) (x : In StmtTree) (n : ℕ) (t : List Lexeme) → There at (Formed is_worded h ds) x n t → WordedParts ds at x n t
  worded_to ds at x n t i =
      let w = word_found x.0 i.holds.form in let s = i.holds.is in
      let text : t ≡ word_lexeme w.0 ∷ behind_first (spell_stmt x.0) = s.spelled ∙ worded_text x.0 w.0 w.1 in
      let whole : StatementIs (Below (suc h)) ds x at (word_lexeme w.0 ∷ behind_first (spell_stmt x.0)) = subst (λ j. StatementIs (Below (suc h)) ds x j (word_lexeme w.0 ∷ behind_first (spell_stmt x.0))) i.number (subst (StatementIs (Below (suc h)) ds x n) text s) in
      record {
        value = w.0;
        front = word_lexeme w.0 ∷ [];
        back = behind_first (spell_stmt x.0);
        first = record { number = i.number; holds = record { token = word_lexeme w.0; is = is_statement_word w.0; alone = refl } };
        second = record { number = ap (λ j. j + 1) i.number; word = w.1; whole = whole };
        parts = text;
      }

  worded_lawful : (ds : List Scope) (at : ℕ) → Lawful (At at) (worded h p ds at) (There at (Formed is_worded h ds)) EndsS
  worded_lawful ds at = said
      (bind_lawful {H = There at (Token a_statement_word)} (there_lawful at (λ n o q. q) (one_lawful a_statement_word))
      (λ w n t i. known (λ m o q. q.0 ∙ (ap (λ u. n + length u) i.holds.alone ∙ ap (λ j. j + 1) i.number)) (behind_word_lawful ds at w)) (λ w n t b u rest i k s. tt))
      (worded_to ds at) (worded_from ds at)

  -- labels

  abbrev LabelledParts : List Scope → ℕ → In StmtTree → ℕ → List Lexeme → Type 0
  LabelledParts ds at = There at (Both (Token a_name) (λ m. ColonIs h p parts one (Labelled at m) ds))

  labelled_from : (ds : List Scope) (at : ℕ) (x : In StmtTree) (n : ℕ) (t : List Lexeme) → LabelledParts ds at x n t → There at (Formed is_labelled h ds) x n t
  labelled_from ds at x n t i =
      let b = i.holds in let k = b.second in let m = k.holds in let s = m.holds in
      let token : b.front ≡ named b.value ∷ [] = b.first.alone ∙ ap (λ u. u ∷ []) (a_name_is b.first.token b.value b.first.is) in
      let place : n + length b.front + 1 ≡ n + 2 = omega (arith, ap length token) in
      let placed : placed_stmt (n + 2) m.value.0 ≡ true = subst (λ j. placed_stmt j m.value.0 ≡ true) place s.placed in
      let text : t ≡ named b.value ∷ sign Colon ∷ spell_stmt m.value.0 = b.parts ∙ (ap (λ u. u ++ b.back) token ∙ ap (λ u. named b.value ∷ u) (k.parts ∙ ap (λ u. sign Colon ∷ u) s.spelled)) in
      let value : x ≡ (Labelled n b.value m.value.0, m.value.1) = m.is ∙ ap (λ j. (Labelled j b.value m.value.0, m.value.1)) (sym i.number) in
      record {
        number = i.number;
        holds = subst (λ y. Formed is_labelled h ds y n t) (sym value) (record { form = refl; is = record { levelled = s.levelled; placed = rw (true_eq n, placed) refl; scoped = s.scoped; low = omega (arith, s.low); after = s.after; spelled = text } });
      }

  labelled_to : (ds : List Scope) (at : ℕ) (s : StmtTree) (after : List Scope) (n : ℕ) (t : List Lexeme) → There at (Formed is_labelled h ds) (s, after) n t → LabelledParts ds at (s, after) n t
  labelled_to ds at (Labelled a m s) after n t i =
      let b = i.holds.is in let q = both (nat_eq a n) (placed_stmt (n + 2) s) b.placed in let place : n + 2 ≡ n + 1 + 1 = omega arith in
      record {
        number = i.number;
        holds = record {
          value = m;
          front = named m ∷ [];
          back = sign Colon ∷ spell_stmt s;
          first = record { token = named m; is = refl; alone = refl };
          parts = b.spelled;
          second = record {
            back = spell_stmt s;
            parts = refl;
            holds = record {
              value = (s, after);
              is = ap (λ j. (Labelled j m s, after)) (eq_true a n q.0 ∙ i.number);
              holds = record { levelled = b.levelled; placed = subst (λ j. placed_stmt j s ≡ true) place q.1; scoped = b.scoped; low = omega (arith, b.low); after = b.after; spelled = refl };
            };
          };
        };
      }
  labelled_to ds at _ after n t i = absurd (true≢false (sym i.holds.form))

  labelled_lawful : (ds : List Scope) (at : ℕ) → Lawful (At at) (labelled p ds at) (There at (Formed is_labelled h ds)) EndsS
  labelled_lawful ds at = said
      (there_lawful at (λ n o q. q) (bind_lawful (one_lawful a_name) (λ m n t i. colon_lawful h p parts one (Labelled at m) ds (λ s. refl)) (λ m n t b u rest i k s. tt)))
      (λ x n t i. labelled_to ds at x.0 x.1 n t i) (labelled_from ds at)

  -- expressions

  abbrev ExpressionParts : List Scope → ℕ → In StmtTree → ℕ → List Lexeme → Type 0
  ExpressionParts ds at = There at (Mapped (λ (e : In (Option ExprTree)). (Expression at e.0, e.1)) (ClosedIs h Semicolon ds))

  expression_from : (ds : List Scope) (at : ℕ) (x : In StmtTree) (n : ℕ) (t : List Lexeme) → ExpressionParts ds at x n t → There at (Formed is_expression h ds) x n t
  expression_from ds at x n t i =
      let m = i.holds in let c = m.holds in let e = c.is in
      let value : x ≡ (Expression n m.value.0, m.value.1) = m.is ∙ ap (λ j. (Expression j m.value.0, m.value.1)) (sym i.number) in
      record {
        number = i.number;
        holds = subst (λ y. Formed is_expression h ds y n t) (sym value) (record { form = refl; is = record { levelled = e.levelled; placed = rw (true_eq n, e.placed) refl; scoped = e.scoped; low = omega (arith, e.low); after = e.after; spelled = c.spelled } });
      }

  expression_to : (ds : List Scope) (at : ℕ) (s : StmtTree) (after : List Scope) (n : ℕ) (t : List Lexeme) → There at (Formed is_expression h ds) (s, after) n t → ExpressionParts ds at (s, after) n t
  expression_to ds at (Expression a e) after n t i =
      let b = i.holds.is in let q = both (nat_eq a n) (placed_maybe n e) b.placed in
      record {
        number = i.number;
        holds = record {
          value = (e, after);
          is = ap (λ j. (Expression j e, after)) (eq_true a n q.0 ∙ i.number);
          holds = record { is = record { levelled = b.levelled; placed = q.1; scoped = b.scoped; low = omega (arith, b.low); after = b.after; spelled = refl }; spelled = b.spelled };
        };
      }
  expression_to ds at _ after n t i = absurd (true≢false (sym i.holds.form))

  expression_lawful : (ds : List Scope) (at : ℕ) → Lawful (At at) (expressing p ds at) (There at (Formed is_expression h ds)) EndsS
  expression_lawful ds at = said
      (there_lawful at (λ n o q. q) (mapped_lawful (λ e. (Expression at e.0, e.1)) (λ e o s. tt) (λ e o s. refl) (known (λ n o q. tt) (closed_lawful h p parts one Semicolon semicolon_closes ds))))
      (λ x n t i. expression_to ds at x.0 x.1 n t i) (expression_from ds at)

  -- an expression statement does not begin with an identifier and a colon

  record Colons (t : List Lexeme) : Type 0 where
    name : NameId
    second : Lexeme
    others : List Lexeme
    split : t ≡ named name ∷ second ∷ others
    colon : is_sign Colon second.kind ≡ true

  some_colon : (u : Lexeme) (o : Option NameId) (us : List Lexeme) → a_name u ≡ o → (is_some_of o && next_is (is_sign Colon) (head us)) ≡ true → Colons (u ∷ us)
  some_colon u None us e l = absurd (true≢false (sym l))
  some_colon u (Some m) [] e l = absurd (true≢false (sym l))
  some_colon u (Some m) (v ∷ vs) e l = record { name = m; second = v; others = vs; split = ap (λ w. w ∷ v ∷ vs) (a_name_is u m e); colon = l }

  colons : (t : List Lexeme) → label_ahead t ≡ true → Colons t
  colons [] l = absurd (true≢false (sym l))
  colons (u ∷ us) l = some_colon u (a_name u) us refl l

  colon_ends : (v : Lexeme) → is_sign Colon v.kind ≡ true → goes_on_expr CommaLevel (Some v) ≡ false
  colon_ends v e = ap (goes_on_level CommaLevel) ((sign_tells Colon).is v.kind e)

  rest_of : {x y : In ExprTree} {i j : Input} → ◌≡◌ {A = In ExprTree × Input} (x, i) (y, j) → i.rest ≡ j.rest
  rest_of e = ap (λ w. w.1.rest) e

  some_no_label : (ds : List Scope) (e : ExprTree) (n : ℕ) (rest : List Lexeme) → ExprIs (Below h) CommaLevel ds (e, after_expr ds e) n (spell_expr e) → Colons (spell_expr e ++ (sign Semicolon ∷ rest)) → ⊥
  some_no_label ds e n rest i c =
      let law = parts.trees.expr CommaLevel ds in
      let free : is_type ds c.name ≡ false = start_name ds c.name (subst (λ u. Starts ds (head u)) c.split (expr_starts ds e (sign Semicolon ∷ rest) i.good.levelled i.good.scoped)) in
      let two : 1 < h = omega (arith, i.good.low, tall e) in
      let name : ExprIs (Below h) CommaLevel ds (Name n c.name, ds) n (named c.name ∷ []) = record { good = record { levelled = refl; placed = true_eq n; scoped = ap not free; low = two; after = refl }; within = refl; spelled = refl } in
      let by_name = law.again (Name n c.name, ds) n (named c.name ∷ []) (c.second ∷ c.others) name (colon_ends c.second c.colon) in
      let by_all = law.again (e, after_expr ds e) n (spell_expr e) (sign Semicolon ∷ rest) i refl in
      let same : sign Semicolon ∷ rest ≡ c.second ∷ c.others = rest_of (same_value (sym by_all ∙ (ap (λ u. p.trees.expr CommaLevel ds (input n u)) c.split ∙ by_name))) in
      colon_not c.second (Laws.some_is (ap head (sym same))) c.colon

  expression_no_label : (ds : List Scope) (at : ℕ) (s : StmtTree) (after : List Scope) (n : ℕ) (t rest : List Lexeme) → Formed is_expression h ds (s, after) n t → label_ahead (t ++ rest) ≡ false
  expression_no_label ds at (Expression a None) after n t rest i = rw i.is.spelled refl
  expression_no_label ds at (Expression a (Some e)) after n t rest i =
      let b = i.is in let q = both (nat_eq a n) (placed_expr n e) b.placed in
      let whole : ExprIs (Below h) CommaLevel ds (e, after_expr ds e) n (spell_expr e) = record { good = record { levelled = b.levelled; placed = q.1; scoped = b.scoped; low = omega (arith, b.low); after = refl }; within = any_level e; spelled = refl } in
      ap (λ u. label_ahead (u ++ rest)) b.spelled ∙ (ap label_ahead (append_assoc (spell_expr e) (sign Semicolon ∷ []) rest) ∙ by (label_ahead (spell_expr e ++ (sign Semicolon ∷ rest))) refl whole)
    where
      by : (b : Bool) → label_ahead (spell_expr e ++ (sign Semicolon ∷ rest)) ≡ b → ExprIs (Below h) CommaLevel ds (e, after_expr ds e) n (spell_expr e) → b ≡ false
      by true l whole = absurd (some_no_label ds e n rest whole (colons (spell_expr e ++ (sign Semicolon ∷ rest)) l))
      by false l whole = refl
  expression_no_label ds at _ after n t rest i = absurd (true≢false (sym i.form))

  -- where an identifier stands next

  abbrev Naming : ℕ → ℕ → Option Lexeme → Type 0
  Naming at = And (At at) name_ahead true

  no_statement : {P : ℕ → Option Lexeme → Type 0} → Lawful P mistaken (λ x n t. ⊥) EndsS
  no_statement = said (bind_lawful (one_lawful a_name) (λ m n t i. fail_lawful) (λ m n t b u rest i k s. absurd k)) (λ x n t i. absurd i) (λ x n t b. b.second)

  formed_no_type : (ds : List Scope) (s : StmtTree) (after : List Scope) (n : ℕ) (t rest : List Lexeme) → Formed is_expression h ds (s, after) n t → type_ahead ds (head (t ++ rest)) ≡ false
  formed_no_type ds (Expression a e) after n t rest i = rw i.is.spelled (expression_no_type ds a e rest i.is.levelled i.is.scoped)
  formed_no_type ds _ after n t rest i = absurd (true≢false (sym i.form))

  unlabelled_lawful : (ds : List Scope) (at : ℕ) → Lawful (At at) (unlabelled p ds at) (There at (Formed is_expression h ds)) EndsS
  unlabelled_lawful ds at = said
      (when_lawful (type_ahead ds) {H = λ x n t. ⊥} no_statement (known (λ n o q. q.0) (expression_lawful ds at)) (λ x n t rest i s. absurd i) (λ x n t rest i s. formed_no_type ds x.0 x.1 n t rest i.holds))
      (λ x n t i. Unmet i) (λ x n t i. either_right i)

  module _ (two : 2 ≤ h) where
    labelled_moves : (ds : List Scope) (at n : ℕ) (ts : List Lexeme) (i : Input) → Naming at n (head ts) → (f : Faults (labelled p ds at) n ts i) → 0 < length f.front
    labelled_moves ds at n ts i q f =
        let r = name_is (head ts) q.1 in
        moves (labelled_lawful ds at) n ts i (named r.0) r.1 (Labelled n r.0 (Expression (n + 2) None), ds) (sign Colon ∷ sign Semicolon ∷ [])
        (record { number = q.0; holds = record { form = refl; is = record { levelled = refl; placed = rw (true_eq n, true_eq (n + 2)) refl; scoped = refl; low = omega (arith, two); after = refl; spelled = refl } } }) refl f

    unlabelled_moves : (ds : List Scope) (at n : ℕ) (ts : List Lexeme) (i : Input) → Naming at n (head ts) → (f : Faults (unlabelled p ds at) n ts i) → 0 < length f.front
    unlabelled_moves ds at n ts i q f = let r = name_is (head ts) q.1 in by r.0 r.1 (is_type ds r.0) refl
      where
        by : (m : NameId) → head ts ≡ Some (named m) → (b : Bool) → is_type ds m ≡ b → 0 < length f.front
        by m e true t = front_of_fault n ts i (named m) e f (rw t refl)
        by m e false t =
            moves (unlabelled_lawful ds at) n ts i (named m) e (Expression n (Some (Name n m)), ds) (sign Semicolon ∷ [])
            (record { number = q.0; holds = record { form = refl; is = record { levelled = refl; placed = rw (true_eq n) refl; scoped = ap not t; low = omega (arith, two); after = refl; spelled = refl } } }) refl f

    named_by_label : (ds : List Scope) (at : ℕ) → Lawful (Naming at) (when_label (labelled p ds at) (unlabelled p ds at)) (Either (There at (Formed is_labelled h ds)) (There at (Formed is_expression h ds))) EndsS
    named_by_label ds at = label_lawful (known (λ n o q. q.0) (labelled_lawful ds at)) (known (λ n o q. q.0) (unlabelled_lawful ds at))
        (λ x n t rest i s. begins x.0 x.1 n t rest i.holds) (λ x n t rest i s. expression_no_label ds at x.0 x.1 n t rest i.holds) (labelled_moves ds at) (unlabelled_moves ds at)
      where
        begins : (s : StmtTree) (after : List Scope) (n : ℕ) (t rest : List Lexeme) → Formed is_labelled h ds (s, after) n t → label_ahead (t ++ rest) ≡ true
        begins (Labelled a m s) after n t rest i = rw i.is.spelled refl
        begins _ after n t rest i = absurd (true≢false (sym i.form))

  abbrev NamedIs : List Scope → ℕ → In StmtTree → ℕ → List Lexeme → Type 0
  NamedIs ds at = Under (nat_le 2 h) (Either (There at (Formed is_labelled h ds)) (There at (Formed is_expression h ds)))

  named_lawful : (ds : List Scope) (at : ℕ) → Lawful (Naming at) (named_reading h p ds at) (NamedIs ds at) EndsS
  named_lawful ds at = guard_known (nat_le 2 h) (λ e. named_by_label (le_true 2 h e) ds at)

  -- where none stands next

  abbrev UnnamedIs : List Scope → ℕ → In StmtTree → ℕ → List Lexeme → Type 0
  UnnamedIs ds at = Either (There at (Formed is_worded h ds)) (There at (Formed is_expression h ds))

  formed_no_word : (ds : List Scope) (s : StmtTree) (after : List Scope) (n : ℕ) (t rest : List Lexeme) → Formed is_expression h ds (s, after) n t → next_is begins_by_word (head (t ++ rest)) ≡ false
  formed_no_word ds (Expression a e) after n t rest i = rw i.is.spelled (expression_off ds begins_by_word a e rest (word_apart ds) refl i.is.levelled i.is.scoped)
  formed_no_word ds _ after n t rest i = absurd (true≢false (sym i.form))

  unnamed_lawful : (ds : List Scope) (at : ℕ) → Lawful (At at) (unnamed h p ds at) (UnnamedIs ds at) EndsS
  unnamed_lawful ds at = when_lawful (next_is begins_by_word) (known (λ n o q. q.0) (worded_lawful ds at)) (known (λ n o q. q.0) (expression_lawful ds at))
      (λ x n t rest i s. rw i.holds.is.spelled (worded_begins x.0 rest i.holds.form)) (λ x n t rest i s. formed_no_word ds x.0 x.1 n t rest i.holds)

  -- a statement

  abbrev WholeParts : List Scope → ℕ → In StmtTree → ℕ → List Lexeme → Type 0
  WholeParts ds at = Either (Opens name_ahead true (NamedIs ds at)) (Opens name_ahead false (UnnamedIs ds at))

  some_text : (ds : List Scope) (x : In StmtTree) (n : ℕ) (t : List Lexeme) → StatementIs (Below (suc h)) ds x n t → 0 < length t
  some_text ds x n t i = rw i.spelled (statement_some x.0)

  whole_from : (ds : List Scope) (at : ℕ) (x : In StmtTree) (n : ℕ) (t : List Lexeme) → WholeParts ds at x n t → There at (StatementIs (Below (suc h)) ds) x n t
  whole_from ds at x n t (Met o) = by o.holds.holds
    where
      by : Either (There at (Formed is_labelled h ds)) (There at (Formed is_expression h ds)) x n t → There at (StatementIs (Below (suc h)) ds) x n t
      by (Met i) = record { number = i.number; holds = i.holds.is }
      by (Unmet i) = record { number = i.number; holds = i.holds.is }
  whole_from ds at x n t (Unmet o) = by o.holds
    where
      by : UnnamedIs ds at x n t → There at (StatementIs (Below (suc h)) ds) x n t
      by (Met i) = record { number = i.number; holds = i.holds.is }
      by (Unmet i) = record { number = i.number; holds = i.holds.is }

  expression_by : (ds : List Scope) (at a : ℕ) (e : Option ExprTree) (after : List Scope) (n : ℕ) (t : List Lexeme) → There at (StatementIs (Below (suc h)) ds) (Expression a e, after) n t → (b : Bool) → name_ahead (head t) ≡ b → WholeParts ds at (Expression a e, after) n t
  expression_by ds at a None after n t i true f = absurd (true≢false (sym f ∙ ap (λ u. name_ahead (head u)) i.holds.spelled))
  expression_by ds at a (Some e) after n t i true f =
      Met (record { first = λ some. f; holds = record { met = true_le 2 h (omega (arith, i.holds.low, tall e)); holds = Unmet (record { number = i.number; holds = record { form = refl; is = i.holds } }) } })
  expression_by ds at a e after n t i false f = Unmet (record { first = λ some. f; holds = Unmet (record { number = i.number; holds = record { form = refl; is = i.holds } }) })

  word_to : (ds : List Scope) (at : ℕ) (s : StmtTree) (after : List Scope) (n : ℕ) (t : List Lexeme) → is_worded s ≡ true → There at (StatementIs (Below (suc h)) ds) (s, after) n t → WholeParts ds at (s, after) n t
  word_to ds at s after n t word i = Unmet (record {
    first = λ some. ap (λ u. name_ahead (head u)) (i.holds.spelled ∙ sym (append-nil (spell_stmt s))) ∙ word_no_name s [] word;
    holds = Met (record { number = i.number; holds = record { form = word; is = i.holds } });
  })

  whole_to : (ds : List Scope) (at : ℕ) (s : StmtTree) (after : List Scope) (n : ℕ) (t : List Lexeme) → There at (StatementIs (Below (suc h)) ds) (s, after) n t → WholeParts ds at (s, after) n t
  whole_to ds at (Labelled a m s) after n t i = Met (record {
    first = λ some. ap (λ u. name_ahead (head u)) i.holds.spelled;
    holds = record { met = true_le 2 h (omega (arith, i.holds.low, tall_statement s)); holds = Met (record { number = i.number; holds = record { form = refl; is = i.holds } }) };
  })
  whole_to ds at (Expression a e) after n t i = expression_by ds at a e after n t i (name_ahead (head t)) refl
  whole_to ds at s after n t i = word_to ds at s after n t refl i

  named_begins : (ds : List Scope) (at : ℕ) (x : In StmtTree) (n : ℕ) (t rest : List Lexeme) → Opens name_ahead true (NamedIs ds at) x n t → name_ahead (head (t ++ rest)) ≡ true
  named_begins ds at x n t rest o = let some : 0 < length t = some_text ds x n t (whole_from ds at x n t (Met o)).holds in first_kept name_ahead t rest some ∙ o.first some

  unnamed_begins : (ds : List Scope) (at : ℕ) (x : In StmtTree) (n : ℕ) (t rest : List Lexeme) → Opens name_ahead false (UnnamedIs ds at) x n t → name_ahead (head (t ++ rest)) ≡ false
  unnamed_begins ds at x n t rest o = let some : 0 < length t = some_text ds x n t (whole_from ds at x n t (Unmet o)).holds in first_kept name_ahead t rest some ∙ o.first some

  statement_at_lawful : (ds : List Scope) (at : ℕ) → Lawful (At at) (statement_at h p ds at) (There at (StatementIs (Below (suc h)) ds)) EndsS
  statement_at_lawful ds at = said
      (when_lawful name_ahead (opens_lawful name_ahead true (λ n o q. q.1) (named_lawful ds at)) (opens_lawful name_ahead false (λ n o q. q.1) (known (λ n o q. q.0) (unnamed_lawful ds at)))
      (λ x n t rest o s. named_begins ds at x n t rest o) (λ x n t rest o s. unnamed_begins ds at x n t rest o))
      (λ x n t i. whole_to ds at x.0 x.1 n t i) (whole_from ds at)

pub statement_lawful : (h : ℕ) (p : Parts) (parts : LawfulParts h p) (ds : List Scope) → Lawful Any (statement h p ds) (StatementIs (Below (suc h)) ds) EndsS
statement_lawful h p parts ds = said (guard_known (nat_le 1 h) (λ e. numbered_lawful (statement_at_lawful h p parts (le_true 1 h e) ds)))
    (λ x n t i. record { met = true_le 1 h (omega (arith, i.low, tall_statement x.0)); holds = i }) (λ x n t u. u.holds)
