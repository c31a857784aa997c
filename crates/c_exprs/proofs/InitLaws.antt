-- Device: the reading of initialisers gives exactly the grammatical ones.
use Rattle.std.proofs.Common.{◌≡◌, refl, sym, ap, ◌∙◌, subst, ℕ, suc, ◌+◌, ◌<◌, ◌≤◌, length, Bool, true, false, ◌&&◌, nat_eq, nat_le, List, [], ◌∷◌, ◌++◌, Option, Some, append_assoc, append-nil, arith, length-append, true≢false}
use Rattle.cil_base.specs.declared.numbers.NameId.{NameId}
use Rattle.cil_base.specs.declared.tokens.TokenKind.{TokenKind}
use Rattle.cil_base.specs.declared.tokens.TokenKind.TheVariants.{Punctuator as IsPunctuator}
use Rattle.cil_base.specs.declared.tokens.Punctuator.{Punctuator}
use Rattle.cil_base.specs.declared.tokens.Punctuator.TheVariants.{LeftBracket, RightBracket, LeftBrace, RightBrace, Dot, Equal, Comma as CommaSign}
use Rattle.typedef_scopes.specs.Scopes.{Scope}
use Rattle.c_tree.specs.declared.level.Level.TheVariants.{Conditional as ConditionalLevel, Assignment}
use Rattle.c_tree.specs.Syntax.{ExprTree, InitTree, Single, Braces, ItemTree, Item, ItemTrees, NoItems, MoreItems, DesignatorTree, AtIndex, AtMember, DesignatorTrees, NoDesignators, MoreDesignators}
use Rattle.c_tree.specs.Spelling.{Lexeme, sign, named, in_braces, with_commas, behind_commas, last_comma, spell_expr, spell_init, spell_item, spell_items, spell_designator, spell_designators}
use Rattle.c_tree.specs.Height.{init_height, item_height, items_height, designator_height, designators_height}
use Rattle.c_tree.specs.Levels.{is_within, levelled, levelled_init, levelled_item, levelled_items, levelled_designator, levelled_designators, has_item}
use Rattle.c_tree.specs.Placed.{placed_expr, placed_init, placed_item, placed_items, placed_designator, placed_designators}
use Rattle.c_tree.specs.Scoped.{scoped_init, scoped_item, scoped_items, scoped_designator, scoped_designators, after_init, after_item, after_items, after_designator, after_designators}
use Rattle.c_exprs.specs.declared.words.Designation.{Designation}
use Rattle.c_exprs.specs.declared.words.Designation.TheVariants.{Index as ByIndex, Member as ByMember}
use Rattle.c_cursor.specs.Readers.{head, pure, bind}
use Rattle.c_cursor.specs.Classes.{is_sign, next_is, a_name}
use Rattle.c_exprs.specs.Classes.{is_designation, a_designation, designation_sign, step_sign_kind, start_kind, is_some_of}
use Rattle.c_exprs.specs.GoesOn.{goes_on_expr}
use Rattle.c_exprs.specs.Subs.{In, Subs}
use Rattle.c_exprs.specs.InitReading.{behind_designation, designator, designator_trees, more_designators, some_designators, braces, single, initialiser, designated, undesignated, item, item_trees, some_items, items}
use Rattle.c_exprs.proofs.Laws
use Rattle.c_exprs.proofs.Laws.{Lawful, Any, Anywhere, Next, And, Steps, Ends, More, Token, Mapped, Behind, Before, Both, Either, Met, Unmet, Under, There, Headed, Gives, Numbers, bare, bind_lawful, guard_known, mapped_lawful, behind_lawful, before_lawful, pure_lawful, stopped_lawful, when_lawful, many_lawful, steps_fit, one_lawful, here_lawful, there_lawful, said, known, ended, At}
use Rattle.c_cursor.proofs.Tokens.{eq_true, true_eq}
use Rattle.c_exprs.proofs.Tokens.{true_le, le_true, both, sign_tells, a_name_is, designation_text, a_designation_is}
use Rattle.c_exprs.proofs.Heads.{expr_starts, apart, no_sign_starts}
use Rattle.c_exprs.proofs.Relations.{Below, ExprIs, ItemsIs, EndsList, EndsItems, LawfulSubs}
use Rattle.c_exprs.proofs.Lists.{grown, Grows, Over, Rest, rest_of_steps, steps_of_rest, last_known, all_last, AfterComma, Listed, Ending, EndIs, listed_to_lawful}
use Rattle.c_exprs.proofs.Arguments.{tall}
use Rattle.c_exprs.proofs.ExprLaws.{BracedIs, braced_lawful}
use Rattle.c_exprs.proofs.ExprTrees.{expression_lawful}

pub record DesignatorIs (h : ℕ) (ds : List Scope) (x : In DesignatorTree) (n : ℕ) (text : List Lexeme) : Type 0 where
  pub levelled : levelled_designator x.0 ≡ true
  pub placed : placed_designator n x.0 ≡ true
  pub scoped : scoped_designator ds x.0 ≡ true
  pub low : designator_height x.0 < suc h
  pub after : x.1 ≡ after_designator ds x.0
  pub spelled : text ≡ spell_designator x.0

pub record InitIs (Low : ℕ → Type 0) (ds : List Scope) (x : In InitTree) (n : ℕ) (text : List Lexeme) : Type 0 where
  pub levelled : levelled_init x.0 ≡ true
  pub placed : placed_init n x.0 ≡ true
  pub scoped : scoped_init ds x.0 ≡ true
  pub low : Low (init_height x.0)
  pub after : x.1 ≡ after_init ds x.0
  pub spelled : text ≡ spell_init x.0

pub record ItemIs (h : ℕ) (ds : List Scope) (x : In ItemTree) (n : ℕ) (text : List Lexeme) : Type 0 where
  pub levelled : levelled_item x.0 ≡ true
  pub placed : placed_item n x.0 ≡ true
  pub scoped : scoped_item ds x.0 ≡ true
  pub low : item_height x.0 < suc h
  pub after : x.1 ≡ after_item ds x.0
  pub spelled : text ≡ spell_item x.0

abbrev pub EndsInit : {A : Type 0} → A → Option Lexeme → Type 0
EndsInit x o = goes_on_expr Assignment o ≡ false

designation_begins : (k : Designation) → next_is is_designation (Some (designation_text k)) ≡ true
designation_begins ByIndex = refl
designation_begins ByMember = refl

designation_apart_sign : (p : Punctuator) → is_some_of (designation_sign p) ≡ true → is_some_of (step_sign_kind p) ≡ false
designation_apart_sign LeftBracket e = refl
designation_apart_sign Dot e = refl
designation_apart_sign _ e = absurd (true≢false (sym e))

designation_apart : (ds : List Scope) (k : TokenKind) → is_designation k ≡ true → is_some_of (start_kind ds k) ≡ false
designation_apart ds (IsPunctuator p) e = designation_apart_sign p e
designation_apart ds _ e = absurd (true≢false (sym e))

tall_init : (i : InitTree) → 1 ≤ init_height i
tall_init (Single e) = tall e
tall_init (Braces at items comma) = omega arith

tall_item : (i : ItemTree) → 1 ≤ item_height i
tall_item (Item ds i) = omega (arith, tall_init i)

tall_items : (is : ItemTrees) → has_item is ≡ true → 1 ≤ items_height is
tall_items NoItems e = absurd (true≢false (sym e))
tall_items (MoreItems i is) e = omega (arith, tall_item i)

-- an initialiser begins with an expression or a brace
init_no : (test : TokenKind → Bool) (ds : List Scope) (i : InitTree) (rest : List Lexeme) → ((k : TokenKind) → test k ≡ true → is_some_of (start_kind ds k) ≡ false) → test (IsPunctuator LeftBrace) ≡ false →
    levelled_init i ≡ true → scoped_init ds i ≡ true → next_is test (head (spell_init i ++ rest)) ≡ false
init_no test ds (Single e) rest off brace l s = apart (λ k. is_some_of (start_kind ds k)) test (head (spell_expr e ++ rest)) (expr_starts ds e rest (both _ _ l).1 s) off
init_no test ds (Braces at items comma) rest off brace l s = brace

no_brace_start : (ds : List Scope) (k : TokenKind) → is_sign RightBrace k ≡ true → is_some_of (start_kind ds k) ≡ false
no_brace_start ds k e = ap (λ j. is_some_of (start_kind ds j)) ((sign_tells RightBrace).is k e)

designator_no_brace : (d : DesignatorTree) (rest : List Lexeme) → next_is (is_sign RightBrace) (head (spell_designator d ++ rest)) ≡ false
designator_no_brace (AtIndex at e) rest = refl
designator_no_brace (AtMember at n) rest = refl

item_no_brace : (ds : List Scope) (i : ItemTree) (rest : List Lexeme) → levelled_item i ≡ true → scoped_item ds i ≡ true → next_is (is_sign RightBrace) (head (spell_item i ++ rest)) ≡ false
item_no_brace ds (Item NoDesignators i) rest l s = init_no (is_sign RightBrace) ds i rest (no_brace_start ds) refl l s
item_no_brace ds (Item (MoreDesignators d more) i) rest l s = rw (append_assoc, append_assoc) (designator_no_brace d (spell_designators more ++ (spell_init i ++ rest)))

module _ (h : ℕ) (sub : Subs) (parts : LawfulSubs (Below h) sub) where
  -- initialisers

  abbrev SingleIs : List Scope → In InitTree → ℕ → List Lexeme → Type 0
  SingleIs ds = Mapped (λ (e : In ExprTree). (Single e.0, e.1)) (ExprIs (Below (suc h)) Assignment ds)

  single_lawful : (ds : List Scope) → Lawful Any (single h sub ds) (SingleIs ds) EndsInit
  single_lawful ds = mapped_lawful (λ e. (Single e.0, e.1)) (λ e o s. s) (λ e o s. s) (expression_lawful h sub parts Assignment ds)

  abbrev BracesIs : List Scope → In InitTree → ℕ → List Lexeme → Type 0
  BracesIs ds = Both Numbers (λ at. Both (BracedIs h sub parts ds) (λ x. Gives (Braces at x.0.0 x.0.1, x.1)))

  braces_lawful : {P : ℕ → Option Lexeme → Type 0} (ds : List Scope) → Lawful P (braces sub ds) (BracesIs ds) EndsInit
  braces_lawful ds = bind_lawful here_lawful (λ at n t i. bind_lawful (braced_lawful h sub parts ds) (λ x m u k. stopped_lawful (goes_on_expr Assignment) (Braces at x.0.0 x.0.1, x.1)) (λ x m u b v rest k g s. tt)) (λ at n t b u rest i k s. tt)

  init_from : (ds : List Scope) (x : In InitTree) (n : ℕ) (t : List Lexeme) → Either (BracesIs ds) (SingleIs ds) x n t → InitIs (Below (suc h)) ds x n t
  init_from ds x n t (Unmet m) = let e = m.holds in subst (λ w. InitIs (Below (suc h)) ds w n t) (sym m.is)
      (record { levelled = rw (e.within, e.good.levelled) refl; placed = e.good.placed; scoped = e.good.scoped; low = e.good.low; after = e.good.after; spelled = e.spelled })
  init_from ds x n t (Met b) =
      let k = b.second in let i = k.first in let j = i.holds in let y = j.holds in
      let here_is : n + length b.front ≡ n = ap (λ u. n + length u) b.first.nothing ∙ Laws.add_none n in
      let value : x ≡ (Braces n j.value.0.0 j.value.0.1, j.value.1) = k.second.value ∙ (ap (λ m. (Braces m k.value.0.0 k.value.0.1, k.value.1)) b.first.value ∙ ap (λ w. (Braces n w.0.0 w.0.1, w.1)) j.is) in
      let text : t ≡ in_braces (with_commas (spell_items j.value.0.0) ++ last_comma j.value.0.1) =
      b.parts ∙ (ap (λ f. f ++ b.back) b.first.nothing ∙ (k.parts ∙ (ap (λ g. k.front ++ g) k.second.nothing ∙ (append-nil k.front ∙ (i.parts ∙ ap (λ r. sign LeftBrace ∷ r) (j.parts ∙ ap (λ r. r ++ sign RightBrace ∷ []) y.spelled)))))) in
      subst (λ w. InitIs (Below (suc h)) ds w n t) (sym value) (record {
        levelled = rw (y.some, y.levelled) refl;
        placed = rw (true_eq n, rw here_is at y.placed) refl;
        scoped = y.scoped;
        low = omega (arith, y.low);
        after = y.after;
        spelled = text;
      })

  init_to : (ds : List Scope) (x : InitTree) (after : List Scope) (n : ℕ) (t : List Lexeme) → InitIs (Below (suc h)) ds (x, after) n t → Either (BracesIs ds) (SingleIs ds) (x, after) n t
  init_to ds (Single e) after n t i =
      let l = both (is_within Assignment e) (levelled e) i.levelled in
      Unmet (record { value = (e, after); is = refl; holds = record { good = record { levelled = l.1; placed = i.placed; scoped = i.scoped; low = i.low; after = i.after }; within = l.0; spelled = i.spelled } })
  init_to ds (Braces a items comma) after n t i =
      let l = both (has_item items) (levelled_items items) i.levelled in let p = both (nat_eq a n) (placed_items (n + 1) items) i.placed in
      let body : List Lexeme = with_commas (spell_items items) ++ last_comma comma in
      let zero_more : n + 0 ≡ n = Laws.add_none n in
      Met (record {
        value = n;
        front = [];
        back = in_braces body;
        first = record { value = refl; nothing = refl };
        parts = i.spelled;
        second = record {
          value = ((items, comma), after);
          front = in_braces body;
          back = [];
          parts = sym (append-nil (in_braces body));
          first = record {
            back = body ++ sign RightBrace ∷ [];
            parts = refl;
            holds = record {
              value = ((items, comma), after);
              front = body;
              is = refl;
              parts = refl;
              holds = record { some = l.0; levelled = l.1; placed = rw zero_more p.1; scoped = i.scoped; low = omega (arith, i.low); after = i.after; spelled = refl };
            };
          };
          second = record { value = ap (λ m. (Braces m items comma, after)) (eq_true a n p.0); nothing = refl };
        };
      })

  braces_begin : (ds : List Scope) (x : In InitTree) (n : ℕ) (t rest : List Lexeme) → BracesIs ds x n t → next_is (is_sign LeftBrace) (head (t ++ rest)) ≡ true
  braces_begin ds x n t rest b = rw (b.parts, b.first.nothing, b.second.parts, b.second.first.parts) refl

  pub initialiser_lawful : (ds : List Scope) → Lawful Any (initialiser h sub ds) (InitIs (Below (suc h)) ds) EndsInit
  initialiser_lawful ds = said
      (when_lawful (next_is (is_sign LeftBrace)) (braces_lawful ds) (known (λ n o p. tt) (single_lawful ds)) (λ x n t rest b s. braces_begin ds x n t rest b)
      (λ x n t rest m s. single_begins ds x n t rest m))
      (λ x n t i. init_to ds x.0 x.1 n t i) (init_from ds)
    where
      single_begins : (ds : List Scope) (x : In InitTree) (n : ℕ) (t rest : List Lexeme) → SingleIs ds x n t → next_is (is_sign LeftBrace) (head (t ++ rest)) ≡ false
      single_begins ds x n t rest m = rw m.holds.spelled (no_sign_starts ds LeftBrace (head (spell_expr m.value.0 ++ rest)) (expr_starts ds m.value.0 rest m.holds.good.levelled m.holds.good.scoped) refl)

  -- designators

  abbrev OfDesignation : ℕ → List Scope → Designation → In DesignatorTree → ℕ → List Lexeme → Type 0
  OfDesignation at ds ByIndex x n t = Before (IsPunctuator RightBracket) (λ (e : In ExprTree). (AtIndex at e.0, e.1)) (ExprIs (Below (suc h)) ConditionalLevel ds) x n t
  OfDesignation at ds ByMember x n t = Mapped (λ (m : NameId). (AtMember at m, ds)) (Token a_name) x n t

  of_designation_lawful : (at : ℕ) (ds : List Scope) (k : Designation) → Lawful Any (behind_designation h sub at ds k) (OfDesignation at ds k) Anywhere
  of_designation_lawful at ds ByIndex = before_lawful (λ e. (AtIndex at e.0, e.1)) (sign_tells RightBracket) (λ e n t i. refl) (expression_lawful h sub parts ConditionalLevel ds)
  of_designation_lawful at ds ByMember = mapped_lawful (λ m. (AtMember at m, ds)) (λ m o s. tt) (λ m o s. tt) (one_lawful a_name)

  abbrev DesignatorParts : List Scope → In DesignatorTree → ℕ → List Lexeme → Type 0
  DesignatorParts ds = Both Numbers (λ at. Both (Token a_designation) (λ k. OfDesignation at ds k))

  -- any designator or item has a height
  module _ (some : 1 ≤ h) where
    of_from : (n : ℕ) (ds : List Scope) (k : Designation) (x : In DesignatorTree) (t : List Lexeme) → OfDesignation n ds k x (n + 1) t → DesignatorIs h ds x n (designation_text k ∷ t)
    of_from n ds ByIndex x t b = let e = b.holds in subst (λ w. DesignatorIs h ds w n (sign LeftBracket ∷ t)) (sym b.is)
        (record { levelled = rw (e.within, e.good.levelled) refl; placed = rw (true_eq n, e.good.placed) refl; scoped = e.good.scoped; low = e.good.low; after = e.good.after; spelled = rw (b.parts, e.spelled) refl })
    of_from n ds ByMember x t m = subst (λ w. DesignatorIs h ds w n (sign Dot ∷ t)) (sym m.is)
        (record { levelled = refl; placed = true_eq n; scoped = refl; low = omega (arith, some); after = refl; spelled = rw (m.holds.alone, a_name_is m.holds.token m.value m.holds.is) refl })

    designator_from : (ds : List Scope) (x : In DesignatorTree) (n : ℕ) (t : List Lexeme) → DesignatorParts ds x n t → DesignatorIs h ds x n t
    designator_from ds x n t b =
        let k = b.second in
        let one : k.front ≡ designation_text k.value ∷ [] = k.first.alone ∙ ap (λ u. u ∷ []) (a_designation_is k.first.token k.value k.first.is) in
        let here_is : n + length b.front + length k.front ≡ n + 1 = omega (arith, ap length b.first.nothing, ap length one) in
        let text : t ≡ designation_text k.value ∷ k.back = b.parts ∙ (ap (λ f. f ++ b.back) b.first.nothing ∙ (k.parts ∙ ap (λ f. f ++ k.back) one)) in
        subst (DesignatorIs h ds x n) (sym text) (of_from n ds k.value x k.back (subst (λ a. OfDesignation a ds k.value x (n + 1) k.back) b.first.value (subst (λ m. OfDesignation b.value ds k.value x m k.back) here_is k.second)))

    to_parts : (ds : List Scope) (x : In DesignatorTree) (n : ℕ) (t : List Lexeme) (k : Designation) (back : List Lexeme) → a_designation (designation_text k) ≡ Some k → OfDesignation n ds k x (n + 1) back → t ≡ designation_text k ∷ back → DesignatorParts ds x n t
    to_parts ds x n t k back is o text = record {
      value = n;
      front = [];
      back = t;
      first = record { value = refl; nothing = refl };
      parts = refl;
      second = record { value = k; front = designation_text k ∷ []; back = back; first = record { token = designation_text k; is = is; alone = refl }; second = subst (λ m. OfDesignation n ds k x (m + 1) back) (sym (Laws.add_none n)) o; parts = text };
    }

    designator_to : (ds : List Scope) (x : DesignatorTree) (after : List Scope) (n : ℕ) (t : List Lexeme) → DesignatorIs h ds (x, after) n t → DesignatorParts ds (x, after) n t
    designator_to ds (AtIndex a e) after n t i =
        let l = both (is_within ConditionalLevel e) (levelled e) i.levelled in let p = both (nat_eq a n) (placed_expr (n + 1) e) i.placed in
        to_parts ds (AtIndex a e, after) n t ByIndex (spell_expr e ++ sign RightBracket ∷ []) refl (record {
          value = (e, after);
          front = spell_expr e;
          parts = refl;
          is = ap (λ m. (AtIndex m e, after)) (eq_true a n p.0);
          holds = record { good = record { levelled = l.1; placed = p.1; scoped = i.scoped; low = i.low; after = i.after }; within = l.0; spelled = refl };
        }) i.spelled
    designator_to ds (AtMember a m) after n t i =
        to_parts ds (AtMember a m, after) n t ByMember (named m ∷ []) refl (record { value = m; holds = record { token = named m; is = refl; alone = refl }; is = ap (λ k. (AtMember k m, after)) (eq_true a n i.placed) ∙ ap (λ s. (AtMember n m, s)) i.after }) i.spelled

    designator_lawful : {P : ℕ → Option Lexeme → Type 0} (ds : List Scope) → Lawful P (designator h sub ds) (DesignatorIs h ds) Anywhere
    designator_lawful ds = said (bind_lawful here_lawful (λ at n t i. bind_lawful (one_lawful a_designation) (λ k m u j. known (λ o p q. tt) (of_designation_lawful at ds k)) (λ k m u b v rest j l s. tt)) (λ at n t b u rest i k s. tt))
        (λ x n t i. designator_to ds x.0 x.1 n t i) (designator_from ds)

    abbrev NextDesignator : In (List DesignatorTree) → In DesignatorTree → ℕ → List Lexeme → Type 0
    NextDesignator x = DesignatorIs h x.1

    designator_starts : (d : DesignatorTree) (rest : List Lexeme) → next_is is_designation (head (spell_designator d ++ rest)) ≡ true
    designator_starts (AtIndex at e) rest = refl
    designator_starts (AtMember at n) rest = refl

    designator_some : (d : DesignatorTree) → 0 < length (spell_designator d)
    designator_some (AtIndex at e) = omega arith
    designator_some (AtMember at n) = omega arith

    more_designators_lawful : (x : In (List DesignatorTree)) → Lawful Any (more_designators h sub x) (λ z. Steps (Grows NextDesignator) z x) (λ z o. next_is is_designation o ≡ false)
    more_designators_lawful x = ended (λ z n t o s e. (tt, e)) (λ z n t o s e. e.1) (known (λ n o p. tt)
        (many_lawful {G = λ z o. Unit {0}} (λ y. mapped_lawful (grown y) (λ d o s. tt) (λ d o s. tt) (designator_lawful y.1))
        (λ y z n t more g. rw g.holds.spelled (designator_starts g.value.0 more)) (λ y z n t more g. tt) (λ y z n t g. rw g.holds.spelled (designator_some g.value.0)) (λ y. refl) x))

    -- designators behind the first
    record MoreOf (ds : List Scope) (xs : List DesignatorTree) (after : List Scope) (n : ℕ) (text : List Lexeme) : Type 0 where
      levelled : levelled_designators (designator_trees xs) ≡ true
      placed : placed_designators n (designator_trees xs) ≡ true
      scoped : scoped_designators ds (designator_trees xs) ≡ true
      low : designators_height (designator_trees xs) < suc h
      behind : after ≡ after_designators ds (designator_trees xs)
      spelled : spell_designators (designator_trees xs) ≡ text ++ sign Equal ∷ []

    more_of : (xs before : List DesignatorTree) (ds after : List Scope) (n : ℕ) (text : List Lexeme) → Rest Over NextDesignator before ds after n text xs → MoreOf ds xs after n text
    more_of [] before ds after n text r = record { levelled = refl; placed = refl; scoped = refl; low = omega arith; behind = r.0; spelled = ap (λ u. u ++ sign Equal ∷ []) (sym r.1) }
    more_of (x ∷ xs) before ds after n text r =
        let i = r.3 in let m = more_of xs (before ++ x ∷ []) r.0 after (n + length r.1) r.2 r.4 in
        let next : n + length r.1 ≡ n + length (spell_designator x) = ap (λ u. n + length u) i.spelled in
        record {
          levelled = rw (i.levelled, m.levelled) refl;
          placed = rw (i.placed, ← next, m.placed) refl;
          scoped = rw (i.scoped, ← i.after, m.scoped) refl;
          low = omega (arith, i.low, m.low);
          behind = rw (← i.after) m.behind;
          spelled = ap (λ u. u ++ spell_designators (designator_trees xs)) (sym i.spelled) ∙ (ap (λ u. r.1 ++ u) m.spelled ∙ (sym (append_assoc r.1 r.2 (sign Equal ∷ [])) ∙ ap (λ u. u ++ sign Equal ∷ []) (sym r.5)));
        }

    abbrev text_of : List DesignatorTree → List Lexeme
    text_of [] = []
    text_of (x ∷ xs) = spell_designator x ++ text_of xs

    text_is : (xs : List DesignatorTree) → spell_designators (designator_trees xs) ≡ text_of xs ++ sign Equal ∷ []
    text_is [] = refl
    text_is (x ∷ xs) = ap (λ u. spell_designator x ++ u) (text_is xs) ∙ sym (append_assoc (spell_designator x) (text_of xs) (sign Equal ∷ []))

    rest_of : (xs before : List DesignatorTree) (ds after : List Scope) (n : ℕ) → levelled_designators (designator_trees xs) ≡ true → placed_designators n (designator_trees xs) ≡ true → scoped_designators ds (designator_trees xs) ≡ true →
        designators_height (designator_trees xs) < suc h → after ≡ after_designators ds (designator_trees xs) → Rest Over NextDesignator before ds after n (text_of xs) xs
    rest_of [] before ds after n l p s low a = (a, refl)
    rest_of (x ∷ xs) before ds after n l p s low a =
        let ll = both (levelled_designator x) (levelled_designators (designator_trees xs)) l in let pp = both (placed_designator n x) (placed_designators (n + length (spell_designator x)) (designator_trees xs)) p in
        let ss = both (scoped_designator ds x) (scoped_designators (after_designator ds x) (designator_trees xs)) s in (
          after_designator ds x,
          spell_designator x,
          text_of xs,
          record { levelled = ll.0; placed = pp.0; scoped = ss.0; low = omega (arith, low); after = refl; spelled = refl },
          rest_of xs (before ++ x ∷ []) (after_designator ds x) after (n + length (spell_designator x)) ll.1 pp.1 ss.1 (omega (arith, low)) a,
          refl,
        )

    -- items

    abbrev SomeDesignators : List Scope → In (List DesignatorTree) → ℕ → List Lexeme → Type 0
    SomeDesignators ds = Both (DesignatorIs h ds) (λ d z. Steps (Grows NextDesignator) z (d.0 ∷ [], d.1))

    some_designators_lawful : (ds : List Scope) → Lawful Any (some_designators h sub ds) (SomeDesignators ds) (λ z o. next_is is_designation o ≡ false)
    some_designators_lawful ds = bind_lawful (designator_lawful ds) (λ d n t i. known (λ m o p. tt) (more_designators_lawful (d.0 ∷ [], d.1))) (λ d n t b u rest i k s. tt)

    abbrev DesignatedParts : List Scope → In ItemTree → ℕ → List Lexeme → Type 0
    DesignatedParts ds = Both (SomeDesignators ds) (λ d. Behind (IsPunctuator Equal) (Mapped (λ (i : In InitTree). (Item (designator_trees d.0) i.0, i.1)) (InitIs (Below (suc h)) d.1)))

    designated_lawful : (ds : List Scope) → Lawful Any (designated h sub ds) (DesignatedParts ds) EndsInit
    designated_lawful ds = bind_lawful (some_designators_lawful ds)
        (λ d n t i. behind_lawful (sign_tells Equal) (mapped_lawful (λ i. (Item (designator_trees d.0) i.0, i.1)) (λ i o s. s) (λ i o s. s) (initialiser_lawful d.1)))
        (λ d n t b u rest i k s. rw k.parts refl)

    undesignated_lawful : (ds : List Scope) → Lawful Any (undesignated h sub ds) (Mapped (λ (i : In InitTree). (Item NoDesignators i.0, i.1)) (InitIs (Below (suc h)) ds)) EndsInit
    undesignated_lawful ds = mapped_lawful (λ i. (Item NoDesignators i.0, i.1)) (λ i o s. s) (λ i o s. s) (initialiser_lawful ds)

    item_made : (ds middle behind : List Scope) (n : ℕ) (d : DesignatorTree) (xs : List DesignatorTree) (i : In InitTree) (fd fb back : List Lexeme) →
        DesignatorIs h ds (d, middle) n fd → MoreOf middle xs behind (n + length fd) fb → InitIs (Below (suc h)) behind i (n + length (fd ++ fb) + 1) back →
        ItemIs h ds (Item (designator_trees (d ∷ xs)) i.0, i.1) n ((fd ++ fb) ++ sign Equal ∷ back)
    item_made ds middle behind n d xs i fd fb back a m e =
        let text : spell_designator d ++ spell_designators (designator_trees xs) ≡ (fd ++ fb) ++ sign Equal ∷ [] =
        ap (λ u. u ++ spell_designators (designator_trees xs)) (sym a.spelled) ∙ (ap (λ u. fd ++ u) m.spelled ∙ sym (append_assoc fd fb (sign Equal ∷ []))) in
        let place : n + length (fd ++ fb) + 1 ≡ n + length (spell_designator d ++ spell_designators (designator_trees xs)) = omega (arith, ap length text, length-append (fd ++ fb) (sign Equal ∷ [])) in
        let next : n + length fd ≡ n + length (spell_designator d) = ap (λ u. n + length u) a.spelled in
        let more : placed_designators (n + length (spell_designator d)) (designator_trees xs) ≡ true = subst (λ k. placed_designators k (designator_trees xs) ≡ true) next m.placed in
        let init : placed_init (n + length (spell_designator d ++ spell_designators (designator_trees xs))) i.0 ≡ true = subst (λ k. placed_init k i.0 ≡ true) place e.placed in
        let scoped_more : scoped_designators (after_designator ds d) (designator_trees xs) ≡ true = subst (λ k. scoped_designators k (designator_trees xs) ≡ true) a.after m.scoped in
        let behind_is : behind ≡ after_designators (after_designator ds d) (designator_trees xs) = m.behind ∙ ap (λ k. after_designators k (designator_trees xs)) a.after in
        let scoped_i : scoped_init (after_designators (after_designator ds d) (designator_trees xs)) i.0 ≡ true = subst (λ k. scoped_init k i.0 ≡ true) behind_is e.scoped in
        record {
          levelled = rw (a.levelled, m.levelled, e.levelled) refl;
          placed = rw (a.placed, more, init) refl;
          scoped = rw (a.scoped, scoped_more, scoped_i) refl;
          low = omega (arith, a.low, m.low, e.low);
          after = e.after ∙ ap (λ k. after_init k i.0) behind_is;
          spelled = sym (append_assoc (fd ++ fb) (sign Equal ∷ []) back) ∙ (ap (λ u. u ++ back) (sym text) ∙ ap (λ u. (spell_designator d ++ spell_designators (designator_trees xs)) ++ u) e.spelled);
        }

    designated_from : (ds : List Scope) (x : In ItemTree) (n : ℕ) (t : List Lexeme) → DesignatedParts ds x n t → ItemIs h ds x n t
    designated_from ds x n t b =
        let f = b.first in let k = b.second in
        let r = rest_of_steps NextDesignator b.value (f.value.0 ∷ [], f.value.1) (n + length f.front) f.back f.second in
        let m = more_of r.items (f.value.0 ∷ []) f.value.1 b.value.1 (n + length f.front) f.back r.rest in
        let value : x ≡ (Item (designator_trees (f.value.0 ∷ r.items)) k.holds.value.0, k.holds.value.1) = k.holds.is ∙ ap (λ xs. (Item (designator_trees xs) k.holds.value.0, k.holds.value.1)) r.list in
        let text : t ≡ (f.front ++ f.back) ++ sign Equal ∷ k.back = b.parts ∙ (ap (λ u. b.front ++ u) k.parts ∙ ap (λ u. u ++ sign Equal ∷ k.back) f.parts) in
        let i : InitIs (Below (suc h)) b.value.1 k.holds.value (n + length (f.front ++ f.back) + 1) k.back = subst (λ u. InitIs (Below (suc h)) b.value.1 k.holds.value (n + length u + 1) k.back) f.parts k.holds.holds in
        subst (λ u. ItemIs h ds x n u) (sym text) (subst (λ w. ItemIs h ds w n ((f.front ++ f.back) ++ sign Equal ∷ k.back)) (sym value)
        (item_made ds f.value.1 b.value.1 n f.value.0 r.items k.holds.value f.front f.back k.back f.first m i))

    item_from : (ds : List Scope) (x : In ItemTree) (n : ℕ) (t : List Lexeme) → Either (DesignatedParts ds) (Mapped (λ (i : In InitTree). (Item NoDesignators i.0, i.1)) (InitIs (Below (suc h)) ds)) x n t → ItemIs h ds x n t
    item_from ds x n t (Met b) = designated_from ds x n t b
    item_from ds x n t (Unmet m) = let i = m.holds in subst (λ w. ItemIs h ds w n t) (sym m.is)
        (record { levelled = i.levelled; placed = subst (λ k. placed_init k m.value.0 ≡ true) (sym (Laws.add_none n)) i.placed; scoped = i.scoped; low = omega (arith, i.low); after = i.after; spelled = i.spelled })

    designators_list : DesignatorTrees → List DesignatorTree
    designators_list NoDesignators = []
    designators_list (MoreDesignators d ds) = d ∷ designators_list ds

    list_back : (ds : DesignatorTrees) → designator_trees (designators_list ds) ≡ ds
    unfolding designators_list
    list_back NoDesignators = refl
    list_back (MoreDesignators d ds) = ap (MoreDesignators d) (list_back ds)

    designated_to : (ds : List Scope) (d : DesignatorTree) (xs : List DesignatorTree) (i : InitTree) (after : List Scope) (n : ℕ) (t : List Lexeme) → ItemIs h ds (Item (designator_trees (d ∷ xs)) i, after) n t → DesignatedParts ds (Item (designator_trees (d ∷ xs)) i, after) n t
    designated_to ds d xs i after n t e =
        let l = both (levelled_designator d && levelled_designators (designator_trees xs)) (levelled_init i) e.levelled in let ld = both (levelled_designator d) (levelled_designators (designator_trees xs)) l.0 in
        let p = both (placed_designator n d && placed_designators (n + length (spell_designator d)) (designator_trees xs)) (placed_init (n + length (spell_designator d ++ spell_designators (designator_trees xs))) i) e.placed in
        let pd = both (placed_designator n d) (placed_designators (n + length (spell_designator d)) (designator_trees xs)) p.0 in
        let s = both (scoped_designator ds d && scoped_designators (after_designator ds d) (designator_trees xs)) (scoped_init (after_designators (after_designator ds d) (designator_trees xs)) i) e.scoped in
        let sd = both (scoped_designator ds d) (scoped_designators (after_designator ds d) (designator_trees xs)) s.0 in
        let behind : List Scope = after_designators (after_designator ds d) (designator_trees xs) in
        let front : List Lexeme = spell_designator d ++ text_of xs in
        let text : spell_designator d ++ spell_designators (designator_trees xs) ≡ front ++ sign Equal ∷ [] = ap (λ u. spell_designator d ++ u) (text_is xs) ∙ sym (append_assoc (spell_designator d) (text_of xs) (sign Equal ∷ [])) in
        let place : n + length (spell_designator d ++ spell_designators (designator_trees xs)) ≡ n + length front + 1 = omega (arith, ap length text, length-append front (sign Equal ∷ [])) in
        record {
          value = (d ∷ xs, behind);
          front = front;
          back = sign Equal ∷ spell_init i;
          first = record {
            value = (d, after_designator ds d);
            front = spell_designator d;
            back = text_of xs;
            parts = refl;
            first = record { levelled = ld.0; placed = pd.0; scoped = sd.0; low = omega (arith, e.low); after = refl; spelled = refl };
            second = steps_of_rest NextDesignator xs (d ∷ []) (after_designator ds d) behind (n + length (spell_designator d)) (text_of xs) (rest_of xs (d ∷ []) (after_designator ds d) behind (n + length (spell_designator d)) ld.1 pd.1 sd.1 (omega (arith, e.low)) refl);
          };
          second = record {
            back = spell_init i;
            parts = refl;
            holds = record {
              value = (i, after);
              is = refl;
              holds = record { levelled = l.1; placed = subst (λ k. placed_init k i ≡ true) place p.1; scoped = s.1; low = omega (arith, e.low); after = e.after; spelled = refl };
            };
          };
          parts = e.spelled ∙ (ap (λ u. u ++ spell_init i) text ∙ append_assoc front (sign Equal ∷ []) (spell_init i));
        }

    item_to : (ds : List Scope) (x : ItemTree) (after : List Scope) (n : ℕ) (t : List Lexeme) → ItemIs h ds (x, after) n t → Either (DesignatedParts ds) (Mapped (λ (i : In InitTree). (Item NoDesignators i.0, i.1)) (InitIs (Below (suc h)) ds)) (x, after) n t
    item_to ds (Item NoDesignators i) after n t e = Unmet (record {
      value = (i, after);
      is = refl;
      holds = record { levelled = e.levelled; placed = subst (λ k. placed_init k i ≡ true) (Laws.add_none n) e.placed; scoped = e.scoped; low = omega (arith, e.low); after = e.after; spelled = e.spelled };
    })
    item_to ds (Item (MoreDesignators d more) i) after n t e =
        let b = list_back more in
        Met (subst (λ xs. DesignatedParts ds (Item (MoreDesignators d xs) i, after) n t) b (designated_to ds d (designators_list more) i after n t (subst (λ xs. ItemIs h ds (Item (MoreDesignators d xs) i, after) n t) (sym b) e)))

    item_lawful : (ds : List Scope) → Lawful Any (item h sub ds) (ItemIs h ds) EndsInit
    item_lawful ds = said
        (when_lawful (next_is is_designation) (known (λ n o p. tt) (designated_lawful ds)) (known (λ n o p. tt) (undesignated_lawful ds))
        (λ x n t rest b s. rw (b.parts, b.first.parts, b.first.first.spelled, append_assoc, append_assoc) (designator_starts b.first.value.0 (b.first.back ++ (b.back ++ rest))))
        (λ x n t rest m s. rw m.holds.spelled (init_no is_designation ds m.value.0 rest (designation_apart ds) refl m.holds.levelled m.holds.scoped)))
        (λ x n t i. item_to ds x.0 x.1 n t i) (item_from ds)

    -- the list of items

    abbrev LastComma : Unit {0} → ℕ → List Lexeme → Type 0
    LastComma c n t = Gives tt c n t

    items_ahead : (ds : List Scope) (x : In ItemTree) (n : ℕ) (t rest : List Lexeme) → ItemIs h ds x n t → next_is (is_sign RightBrace) (head (t ++ rest)) ≡ false
    items_ahead ds x n t rest i = rw i.spelled (item_no_brace ds x.0 rest i.levelled i.scoped)

    items_listed : (ds : List Scope) → Lawful Any (some_items h sub ds) (λ z. Listed (Ending LastComma z.0.1) (ItemIs h) ds z.0.0 z.1) (λ z. EndIs EndsInit (λ o. next_is (is_sign RightBrace) o ≡ true) z.0.0 z.0.1)
    items_listed ds = listed_to_lawful EndsInit (next_is (is_sign RightBrace)) LastComma (λ o. next_is (is_sign RightBrace) o ≡ true) item_lawful
        (pure_lawful tt (λ n o p. p.1)) (λ x. refl) (λ c n t rest g l. rw g.nothing l) items_ahead ds

    ending_text : (b : Bool) (n : ℕ) (t : List Lexeme) → Ending LastComma b n t → t ≡ last_comma b
    ending_text false n t e = e
    ending_text true n t e = e.parts ∙ ap (λ u. sign CommaSign ∷ u) e.holds.nothing

    text_ending : (b : Bool) (n : ℕ) (t : List Lexeme) → t ≡ last_comma b → Ending LastComma b n t
    text_ending false n t e = e
    text_ending true n t e = record { back = []; holds = record { value = refl; nothing = refl }; parts = e }

    record MoreItemsAre (b : Bool) (ds : List Scope) (xs : List ItemTree) (after : List Scope) (n : ℕ) (text : List Lexeme) : Type 0 where
      levelled : levelled_items (item_trees xs) ≡ true
      placed : placed_items (n + 1) (item_trees xs) ≡ true
      scoped : scoped_items ds (item_trees xs) ≡ true
      low : items_height (item_trees xs) < suc h
      behind : after ≡ after_items ds (item_trees xs)
      spelled : text ≡ behind_commas (spell_items (item_trees xs)) ++ last_comma b

    more_items : (b : Bool) (xs before : List ItemTree) (ds after : List Scope) (n : ℕ) (text : List Lexeme) → Rest (Ending LastComma b) (AfterComma (ItemIs h)) before ds after n text xs → MoreItemsAre b ds xs after n text
    more_items b [] before ds after n text r = record { levelled = refl; placed = refl; scoped = refl; low = omega arith; behind = r.0; spelled = ending_text b n text r.1 }
    more_items b (x ∷ xs) before ds after n text r =
        let i = r.3.holds in
        let next : n + length r.1 + 1 ≡ n + 1 + length (spell_item x) + 1 = omega (arith, ap length r.3.parts, ap length i.spelled) in
        let m = more_items b xs (before ++ x ∷ []) r.0 after (n + length r.1) r.2 r.4 in
        record {
          levelled = rw (i.levelled, m.levelled) refl;
          placed = rw (i.placed, ← next, m.placed) refl;
          scoped = rw (i.scoped, ← i.after, m.scoped) refl;
          low = omega (arith, i.low, m.low);
          behind = rw (← i.after) m.behind;
          spelled = rw (r.5, r.3.parts, i.spelled, m.spelled, append_assoc) refl;
        }

    items_more : (b : Bool) (xs before : List ItemTree) (ds after : List Scope) (n : ℕ) (text : List Lexeme) → MoreItemsAre b ds xs after n text → Rest (Ending LastComma b) (AfterComma (ItemIs h)) before ds after n text xs
    items_more b [] before ds after n text m = (m.behind, text_ending b n text m.spelled)
    items_more b (x ∷ xs) before ds after n text m =
        let l = both (levelled_item x) (levelled_items (item_trees xs)) m.levelled in let p = both (placed_item (n + 1) x) (placed_items (n + 1 + length (spell_item x) + 1) (item_trees xs)) m.placed in
        let s = both (scoped_item ds x) (scoped_items (after_item ds x) (item_trees xs)) m.scoped in
        let next : n + 1 + length (spell_item x) + 1 ≡ n + suc (length (spell_item x)) + 1 = omega arith in
        let back : List Lexeme = behind_commas (spell_items (item_trees xs)) ++ last_comma b in
        let low : items_height (item_trees xs) < suc h = omega (arith, m.low) in (
          after_item ds x,
          sign CommaSign ∷ spell_item x,
          back,
          record { back = spell_item x; parts = refl; holds = record { levelled = l.0; placed = p.0; scoped = s.0; low = omega (arith, m.low); after = refl; spelled = refl } },
          items_more b xs (before ++ x ∷ []) (after_item ds x) after (n + suc (length (spell_item x))) back
              (record { levelled = l.1; placed = subst (λ k. placed_items k (item_trees xs) ≡ true) next p.1; scoped = s.1; low = low; behind = m.behind; spelled = refl }),
          m.spelled ∙ ap (λ u. sign CommaSign ∷ u) (append_assoc (spell_item x) (behind_commas (spell_items (item_trees xs))) (last_comma b)),
        )

    abbrev ListedItems : List Scope → In (List ItemTree × Bool) → ℕ → List Lexeme → Type 0
    ListedItems ds z = Listed (Ending LastComma z.0.1) (ItemIs h) ds z.0.0 z.1

    items_from : (ds : List Scope) (b : Bool) (xs : List ItemTree) (after : List Scope) (n : ℕ) (t : List Lexeme) → Listed (Ending LastComma b) (ItemIs h) ds xs after n t → ItemsIs (Below (suc h)) ds ((item_trees xs, b), after) n t
    items_from ds b xs after n t l =
        let i = l.holds in
        let m = more_items b l.others (l.first.0 ∷ []) l.first.1 after (n + length l.front) l.back l.rest in
        let next : n + length l.front + 1 ≡ n + length (spell_item l.first.0) + 1 = omega (arith, ap length i.spelled) in
        subst (λ ys. ItemsIs (Below (suc h)) ds ((item_trees ys, b), after) n t) (sym l.list) (record {
          some = refl;
          levelled = rw (i.levelled, m.levelled) refl;
          placed = rw (i.placed, ← next, m.placed) refl;
          scoped = rw (i.scoped, ← i.after, m.scoped) refl;
          low = omega (arith, i.low, m.low);
          after = rw (← i.after) m.behind;
          spelled = rw (l.parts, i.spelled, m.spelled, append_assoc) refl;
        })

    items_to : (ds : List Scope) (b : Bool) (x : ItemTree) (xs : List ItemTree) (after : List Scope) (n : ℕ) (t : List Lexeme) → ItemsIs (Below (suc h)) ds ((item_trees (x ∷ xs), b), after) n t → Listed (Ending LastComma b) (ItemIs h) ds (x ∷ xs) after n t
    items_to ds b x xs after n t m =
        let l = both (levelled_item x) (levelled_items (item_trees xs)) m.levelled in let p = both (placed_item n x) (placed_items (n + length (spell_item x) + 1) (item_trees xs)) m.placed in
        let s = both (scoped_item ds x) (scoped_items (after_item ds x) (item_trees xs)) m.scoped in
        let back : List Lexeme = behind_commas (spell_items (item_trees xs)) ++ last_comma b in
        let low : items_height (item_trees xs) < suc h = omega (arith, m.low) in
        record {
          first = (x, after_item ds x);
          others = xs;
          front = spell_item x;
          back = back;
          list = refl;
          holds = record { levelled = l.0; placed = p.0; scoped = s.0; low = omega (arith, m.low); after = refl; spelled = refl };
          rest = items_more b xs (x ∷ []) (after_item ds x) after (n + length (spell_item x)) back (record { levelled = l.1; placed = p.1; scoped = s.1; low = low; behind = m.after; spelled = refl });
          parts = m.spelled ∙ append_assoc (spell_item x) (behind_commas (spell_items (item_trees xs))) (last_comma b);
        }

    items_list : ItemTrees → List ItemTree
    items_list NoItems = []
    items_list (MoreItems i is) = i ∷ items_list is

    items_back : (is : ItemTrees) → item_trees (items_list is) ≡ is
    unfolding items_list
    items_back NoItems = refl
    items_back (MoreItems i is) = ap (MoreItems i) (items_back is)

    ends_list : (b : Bool) (x : ItemTree) (xs : List ItemTree) (o : Option Lexeme) → EndIs EndsInit (λ p. next_is (is_sign RightBrace) p ≡ true) (x ∷ xs) b o → EndsList b o
    ends_list false x xs o e = (last_known (λ p. goes_on_expr Assignment p ≡ false) x xs o e.0, e.1)
    ends_list true x xs o e = e

    list_ends : (b : Bool) (xs : List ItemTree) (o : Option Lexeme) → EndsList b o → EndIs EndsInit (λ p. next_is (is_sign RightBrace) p ≡ true) xs b o
    list_ends false xs o e = (all_last EndsInit xs o (λ x. e.0), e.1)
    list_ends true xs o e = e

    items_parts_to : (ds : List Scope) (is : ItemTrees) (b : Bool) (after : List Scope) (n : ℕ) (t : List Lexeme) → ItemsIs (Below (suc h)) ds ((is, b), after) n t → Mapped {B = In (ItemTrees × Bool)} (λ (z : In (List ItemTree × Bool)). ((item_trees z.0.0, z.0.1), z.1)) (ListedItems ds) ((is, b), after) n t
    items_parts_to ds NoItems b after n t m = absurd (true≢false (sym m.some))
    items_parts_to ds (MoreItems x is) b after n t m =
        let k = items_back is in
        record {
          value = ((x ∷ items_list is, b), after);
          is = ap (λ js. ((MoreItems x js, b), after)) (sym k);
          holds = items_to ds b x (items_list is) after n t (subst (λ js. ItemsIs (Below (suc h)) ds ((MoreItems x js, b), after) n t) (sym k) m);
        }

    items_here : (ds : List Scope) → Lawful Any (bind (some_items h sub ds) (λ x. pure ((item_trees x.0.0, x.0.1), x.1))) (ItemsIs (Below (suc h)) ds) EndsItems
    items_here ds = said
        (mapped_lawful (λ (z : In (List ItemTree × Bool)). ((item_trees z.0.0, z.0.1), z.1)) (λ z o e. e) (λ z o e. e)
        (ended (λ z n t o l e. list_ends z.0.1 z.0.0 o e) (λ z n t o l e. ends_list z.0.1 l.first.0 l.others o (subst (λ xs. EndIs EndsInit (λ p. next_is (is_sign RightBrace) p ≡ true) xs z.0.1 o) l.list e)) (items_listed ds)))
        (λ x n t i. items_parts_to ds x.0.0 x.0.1 x.1 n t i)
        (λ x n t m. subst (λ w. ItemsIs (Below (suc h)) ds w n t) (sym m.is) (items_from ds m.value.0.1 m.value.0.0 m.value.1 n t m.holds))

  pub items_lawful : (ds : List Scope) → Lawful Any (items h sub ds) (ItemsIs (Below (suc h)) ds) EndsItems
  items_lawful ds = said (guard_known (nat_le 1 h) (λ low. items_here (le_true 1 h low) ds))
      (λ x n t i. record { met = true_le 1 h (omega (arith, i.low, tall_items x.0.0 i.some)); holds = i }) (λ x n t i. i.holds)
