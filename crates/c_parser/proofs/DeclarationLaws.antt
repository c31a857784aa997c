-- Device: the reading of declarations gives exactly the grammatical ones.
use Rattle.std.proofs.Common.{◌≡◌, refl, sym, ap, ◌∙◌, subst, ℕ, suc, ◌+◌, ◌-◌, ◌<◌, ◌≤◌, max, length, Bool, true, false, not, ◌&&◌, ◌||◌, nat_eq, List, [], ◌∷◌, ◌++◌, map, Option, Some, None, append_assoc, append-nil, arith, length-append, true≢false}
use Rattle.cil_base.specs.declared.numbers.NameId.{NameId}
use Rattle.cil_base.specs.declared.tokens.TokenKind.{TokenKind}
use Rattle.cil_base.specs.declared.tokens.TokenKind.TheVariants.{Keyword as IsKeyword, Punctuator as IsPunctuator}
use Rattle.cil_base.specs.declared.tokens.Keyword.TheVariants.{StaticAssert as StaticAssertWord}
use Rattle.cil_base.specs.declared.tokens.Punctuator.TheVariants.{LeftParen, RightParen, Semicolon, Comma as CommaSign, Equal}
use Rattle.typedef_scopes.specs.Scopes.{Scope, is_type}
use Rattle.c_tree.specs.declared.level.Level.TheVariants.{Conditional as ConditionalLevel}
use Rattle.c_tree.specs.Syntax.{ExprTree, SpecifierTrees, DeclaratorTree, Absent, InitTree}
use Rattle.c_tree.specs.Units.{DeclarationTree, Declares, Asserts}
use Rattle.c_tree.specs.Spelling.{Lexeme, word, sign, named, literal, with_commas, behind_commas, spell_literals, spell_expr, spell_specifiers, spell_declarator, spell_init}
use Rattle.c_tree.specs.UnitSpelling.{spell_maybe_init, spell_init_declarator, spell_declaration}
use Rattle.c_tree.specs.Height.{declarator_height, specifiers_height, maybe_init_height, init_declarator_height, init_declarators_height}
use Rattle.c_tree.specs.Levels.{has_some, has_specifier, has_names, is_absent, declares, is_within, levelled, levelled_specifiers, levelled_declarator, levelled_maybe_init, levelled_init_declarator, levelled_init_declarators}
use Rattle.c_tree.specs.Placed.{placed_expr, placed_specifiers, placed_declarator, placed_maybe_init, placed_init_declarators}
use Rattle.c_tree.specs.Scoped.{name_of, first_name, first_init_name, has_typedef, has_type_specifier, stands_behind, declared_if, scoped_specifiers, scoped_declarator, scoped_maybe_init, scoped_init_declarator, scoped_init_declarators, after_expr, after_specifiers, after_declarator, after_named, after_maybe_init, after_init_declarator, after_init_declarators}
use Rattle.c_exprs.specs.declared.words.SpecifierForm.TheVariants.{Declaration as InDeclaration}
use Rattle.c_exprs.specs.declared.words.DeclaratorForm.TheVariants.{Member as InMember}
use Rattle.c_cursor.specs.Readers.{head}
use Rattle.c_cursor.specs.Classes.{is_sign, is_assert_word, is_literal, next_is, a_literal}
use Rattle.c_exprs.specs.Classes.{begins_parameter}
use Rattle.c_exprs.specs.GoesOn.{goes_on_typed, goes_on_specifiers, goes_on_declarator}
use Rattle.c_exprs.specs.Subs.{In, comma_ahead}
use Rattle.c_cursor.specs.Literals.{some_literals}
use Rattle.c_exprs.proofs.Laws
use Rattle.c_exprs.proofs.Laws.{Lawful, Any, Anywhere, And, At, Steps, Token, Mapped, Behind, Before, Both, Either, Met, Unmet, There, Opens, Gives, Numbers, bare, bind_lawful, mapped_lawful, behind_lawful, before_lawful, pure_lawful, when_lawful, one_lawful, here_lawful, opens_lawful, opens_begins, there_lawful, said, known, ended}
use Rattle.c_cursor.proofs.Tokens.{eq_true, true_eq}
use Rattle.c_exprs.proofs.Tokens.{both, not_true, or_true, sign_tells, assert_tells, a_literal_is}
use Rattle.c_exprs.proofs.Heads.{apart, declarator_begins}
use Rattle.c_exprs.proofs.Relations.{Below, ExprIs, SpecifiersIs, DeclaratorIs, EndsDeclarator}
use Rattle.c_exprs.proofs.Lists.{Over, Rest, AfterComma, Listed, listed_lawful, Last, all_last}
use Rattle.c_exprs.proofs.Arguments.{tall}
use Rattle.c_exprs.proofs.ExprLaws.{LiteralGrows, more_literals_lawful}
use Rattle.c_exprs.proofs.ExprTrees.{tall_declarator, literals_run, run_literals}
use Rattle.c_exprs.proofs.InitLaws.{InitIs, EndsInit}
use Rattle.c_exprs.proofs.ParameterLaws.{first_head, specifiers_open}
use Rattle.c_parser.specs.Parts.{Parts}
use Rattle.c_parser.specs.DeclarationReading.{assert_end, static_assert, behind_declarator, naming, init_declarator, init_declarators, behind_specifiers, specified, declaration_at, declaration}
use Rattle.c_parser.proofs.Looking.{numbered_lawful}
use Rattle.c_parser.proofs.UnitRelations.{DeclarationIs, LawfulParts}

-- a declarator and its initialiser; `typedef`: its name is declared as a typedef name

pub record InitDeclaratorIs (h : ℕ) (typedef : Bool) (ds : List Scope) (x : In (DeclaratorTree × Option InitTree)) (n : ℕ) (text : List Lexeme) : Type 0 where
  pub levelled : levelled_init_declarator x.0 ≡ true
  pub placed : (placed_declarator n x.0.0 && placed_maybe_init (n + length (spell_declarator x.0.0) + 1) x.0.1) ≡ true
  pub scoped : scoped_init_declarator typedef ds x.0 ≡ true
  pub low : init_declarator_height x.0 < h
  pub after : x.1 ≡ after_init_declarator typedef ds x.0
  pub spelled : text ≡ spell_init_declarator x.0

abbrev pub EndsMaybeInit : Option InitTree → Option Lexeme → Type 0
EndsMaybeInit None o = (goes_on_declarator InMember o ≡ false) × (next_is (is_sign Equal) o ≡ false)
EndsMaybeInit (Some i) o = EndsInit i o

abbrev pub EndsInitDeclarator : DeclaratorTree × Option InitTree → Option Lexeme → Type 0
EndsInitDeclarator x o = EndsMaybeInit x.1 o

at_comma_by : (i : Option InitTree) → EndsMaybeInit i (Some (sign CommaSign))
at_comma_by None = (refl, refl)
at_comma_by (Some i) = refl

pub init_comma : (x : DeclaratorTree × Option InitTree) → EndsInitDeclarator x (Some (sign CommaSign))
init_comma x = at_comma_by x.1

at_semicolon_by : (i : Option InitTree) → EndsMaybeInit i (Some (sign Semicolon))
at_semicolon_by None = (refl, refl)
at_semicolon_by (Some i) = refl

pub init_semicolon : (x : DeclaratorTree × Option InitTree) → EndsInitDeclarator x (Some (sign Semicolon))
init_semicolon x = at_semicolon_by x.1

pub declares_some : (d : DeclaratorTree) → declares d ≡ true → is_absent d ≡ false
declares_some (Absent at) e = absurd (true≢false (sym e))
declares_some _ e = refl

-- a name that stands first behind specifiers, in front of other tokens

first_off : (typed : Bool) (ds : List Scope) (n : NameId) → goes_on_specifiers typed ds (Some (named n)) ≡ false → (typed || not (is_type ds n)) ≡ true
first_off true ds n e = refl
first_off false ds n e = ap not e

off_first : (typed : Bool) (ds : List Scope) (n : NameId) → (typed || not (is_type ds n)) ≡ true → (not typed && is_type ds n) ≡ false
off_first true ds n e = refl
off_first false ds n e = not_true (is_type ds n) e

pub stands_before : (ds : List Scope) (ss : SpecifierTrees) (d : DeclaratorTree) (rest : List Lexeme) (o : Option NameId) → first_name d ≡ o → goes_on_specifiers (has_type_specifier ss) ds (head (spell_declarator d ++ rest)) ≡ false → stands_behind ds ss o ≡ true
stands_before ds ss d rest None e off = or_true (has_type_specifier ss)
stands_before ds ss d rest (Some n) e off = first_off (has_type_specifier ss) ds n (ap (goes_on_specifiers (has_type_specifier ss) ds) (sym (first_head d n rest e)) ∙ off)

pub before_stands : (ds : List Scope) (ss : SpecifierTrees) (d : DeclaratorTree) (rest : List Lexeme) → stands_behind ds ss (first_name d) ≡ true → declares d ≡ true → goes_on_specifiers (has_type_specifier ss) ds (head (spell_declarator d ++ rest)) ≡ false
before_stands ds ss d rest stands some = declarator_begins (goes_on_typed (has_type_specifier ss) ds) (record { star = refl; parenthesis = refl; bracket = refl }) d rest
    (λ n e. off_first (has_type_specifier ss) ds n (subst (λ o. stands_behind ds ss o ≡ true) e stands)) (λ a. absurd (true≢false (sym a ∙ declares_some d some)))

-- string literals

pub record LiteralsAre (ts : List (List ℕ)) (n : ℕ) (text : List Lexeme) : Type 0 where
  pub some : has_some ts ≡ true
  pub spelled : text ≡ spell_literals ts

module _ (h : ℕ) (p : Parts) (parts : LawfulParts h p) where
  -- declarators with initialisers

  abbrev pub BehindDeclarator : In DeclaratorTree → In (DeclaratorTree × Option InitTree) → ℕ → List Lexeme → Type 0
  BehindDeclarator d = Either (Behind (IsPunctuator Equal) (Mapped (λ (i : In InitTree). ((d.0, Some i.0), i.1)) (InitIs (Below h) d.1))) (Gives ((d.0, None), d.1))

  abbrev pub EndsInitOne : In (DeclaratorTree × Option InitTree) → Option Lexeme → Type 0
  EndsInitOne x = EndsInitDeclarator x.0

  pub behind_declarator_lawful : (d : In DeclaratorTree) → Lawful (λ n o. goes_on_declarator InMember o ≡ false) (behind_declarator p d) (BehindDeclarator d) EndsInitOne
  behind_declarator_lawful d = when_lawful (next_is (is_sign Equal))
      (behind_lawful (sign_tells Equal) (mapped_lawful (λ i. ((d.0, Some i.0), i.1)) (λ i o s. s) (λ i o s. s) (parts.init d.1)))
      (pure_lawful ((d.0, None), d.1) (λ n o q. (q.0, q.1)))
      (λ x n t rest i s. rw i.parts refl) (λ x n t rest i s. rw i.nothing (subst (λ w. EndsMaybeInit w.0.1 (head rest)) i.value s).1)

  pub behind_declarator_ends : (d : In DeclaratorTree) (x : In (DeclaratorTree × Option InitTree)) (n : ℕ) (u rest : List Lexeme) → BehindDeclarator d x n u → EndsInitOne x (head rest) → goes_on_declarator InMember (head (u ++ rest)) ≡ false
  behind_declarator_ends d x n u rest (Met i) s = rw i.parts refl
  behind_declarator_ends d x n u rest (Unmet i) s = rw i.nothing (subst (λ w. EndsMaybeInit w.0.1 (head rest)) i.value s).0

  pub init_declarator_from : (typedef : Bool) (ds : List Scope) (d : DeclaratorTree) (x : In (DeclaratorTree × Option InitTree)) (n m : ℕ) (back : List Lexeme) → (declares d && not (has_names d)) ≡ true → levelled_declarator d ≡ true → placed_declarator n d ≡ true → scoped_declarator ds d ≡ true →
      declarator_height d < h → m ≡ n + length (spell_declarator d) → BehindDeclarator (d, after_named typedef ds d) x m back → InitDeclaratorIs h typedef ds x n (spell_declarator d ++ back)
  init_declarator_from typedef ds d x n m back f l q s low number (Met b) =
      let i = b.holds in let k = i.holds in
      let place : m + 1 ≡ n + length (spell_declarator d) + 1 = ap (λ j. j + 1) number in
      let placed : placed_maybe_init (n + length (spell_declarator d) + 1) (Some i.value.0) ≡ true = subst (λ j. placed_maybe_init j (Some i.value.0) ≡ true) place k.placed in
      subst (λ w. InitDeclaratorIs h typedef ds w n (spell_declarator d ++ back)) (sym i.is) (record {
        levelled = rw (f, l, k.levelled) refl;
        placed = rw (q, placed) refl;
        scoped = rw (s, k.scoped) refl;
        low = omega (arith, low, k.low);
        after = k.after;
        spelled = rw (b.parts, k.spelled) refl;
      })
  init_declarator_from typedef ds d x n m back f l q s low number (Unmet g) =
      subst (λ w. InitDeclaratorIs h typedef ds w n (spell_declarator d ++ back)) (sym g.value)
      (record { levelled = rw (f, l) refl; placed = rw q refl; scoped = rw s refl; low = omega (arith, low); after = refl; spelled = rw g.nothing refl })

  pub init_declarator_to : (typedef : Bool) (ds : List Scope) (d : DeclaratorTree) (i : Option InitTree) (after : List Scope) (n m : ℕ) (t : List Lexeme) → m ≡ n + length (spell_declarator d) → InitDeclaratorIs h typedef ds ((d, i), after) n t → BehindDeclarator (d, after_named typedef ds d) ((d, i), after) m (spell_maybe_init i)
  init_declarator_to typedef ds d None after n m t number x = Unmet (record { value = ap (λ s. ((d, None), s)) x.after; nothing = refl })
  init_declarator_to typedef ds d (Some i) after n m t number x =
      let l = both ((declares d && not (has_names d)) && levelled_declarator d) (levelled_maybe_init (Some i)) x.levelled in
      let q = both (placed_declarator n d) (placed_maybe_init (n + length (spell_declarator d) + 1) (Some i)) x.placed in
      let s = both (scoped_declarator ds d) (scoped_maybe_init (after_named typedef ds d) (Some i)) x.scoped in
      let place : n + length (spell_declarator d) + 1 ≡ m + 1 = ap (λ j. j + 1) (sym number) in
      Met (record {
        back = spell_init i;
        parts = refl;
        holds = record {
          value = (i, after);
          is = refl;
          holds = record { levelled = l.1; placed = subst (λ j. placed_maybe_init j (Some i) ≡ true) place q.1; scoped = s.1; low = omega (arith, x.low); after = x.after; spelled = refl };
        };
      })

  abbrev DeclaratorParts : Bool → List Scope → In (DeclaratorTree × Option InitTree) → ℕ → List Lexeme → Type 0
  DeclaratorParts typedef ds = Both (DeclaratorIs (Below h) InMember ds) (λ d. BehindDeclarator (naming typedef d))

  declarator_from : (typedef : Bool) (ds : List Scope) (x : In (DeclaratorTree × Option InitTree)) (n : ℕ) (t : List Lexeme) → DeclaratorParts typedef ds x n t → InitDeclaratorIs h typedef ds x n t
  declarator_from typedef ds x n t b =
      let d = b.first in
      let place : n + length b.front ≡ n + length (spell_declarator b.value.0) = ap (λ u. n + length u) d.spelled in
      let text : spell_declarator b.value.0 ++ b.back ≡ t = ap (λ u. u ++ b.back) (sym d.spelled) ∙ sym b.parts in
      let second : BehindDeclarator (b.value.0, after_named typedef ds b.value.0) x (n + length b.front) b.back = subst (λ s. BehindDeclarator (b.value.0, declared_if (name_of b.value.0) typedef s) x (n + length b.front) b.back) d.after b.second in
      subst (InitDeclaratorIs h typedef ds x n) text (init_declarator_from typedef ds b.value.0 x n (n + length b.front) b.back d.of_form d.levelled d.placed d.scoped d.low place second)

  declarator_to : (typedef : Bool) (ds : List Scope) (d : DeclaratorTree) (i : Option InitTree) (after : List Scope) (n : ℕ) (t : List Lexeme) → InitDeclaratorIs h typedef ds ((d, i), after) n t → DeclaratorParts typedef ds ((d, i), after) n t
  declarator_to typedef ds d i after n t x =
      let l = both ((declares d && not (has_names d)) && levelled_declarator d) (levelled_maybe_init i) x.levelled in let l0 = both (declares d && not (has_names d)) (levelled_declarator d) l.0 in
      let q = both (placed_declarator n d) (placed_maybe_init (n + length (spell_declarator d) + 1) i) x.placed in
      let s = both (scoped_declarator ds d) (scoped_maybe_init (after_named typedef ds d) i) x.scoped in
      record {
        value = (d, after_declarator ds d);
        front = spell_declarator d;
        back = spell_maybe_init i;
        parts = x.spelled;
        first = record { of_form = l0.0; levelled = l0.1; placed = q.0; scoped = s.0; low = omega (arith, x.low); after = refl; spelled = refl };
        second = init_declarator_to typedef ds d i after n (n + length (spell_declarator d)) t refl x;
      }

  pub init_declarator_lawful : (typedef : Bool) (ds : List Scope) → Lawful Any (init_declarator p typedef ds) (InitDeclaratorIs h typedef ds) EndsInitOne
  init_declarator_lawful typedef ds = said
      (bind_lawful (parts.trees.declarator InMember ds) (λ d n t i. known (λ m o q. q.1) (behind_declarator_lawful (naming typedef d)))
      (λ d n t x u rest i k s. behind_declarator_ends (naming typedef d) x (n + length t) u rest k s))
      (λ x n t i. declarator_to typedef ds x.0.0 x.0.1 x.1 n t i) (declarator_from typedef ds)

  -- lists of them

  tall_one : (x : DeclaratorTree × Option InitTree) → 1 ≤ init_declarator_height x
  tall_one x = omega (arith, tall_declarator x.0)

  record DeclaratorsAre (typedef : Bool) (ds : List Scope) (xs : List (DeclaratorTree × Option InitTree)) (after : List Scope) (n : ℕ) (text : List Lexeme) : Type 0 where
    levelled : levelled_init_declarators xs ≡ true
    placed : placed_init_declarators n xs ≡ true
    scoped : scoped_init_declarators typedef ds xs ≡ true
    low : init_declarators_height xs ≤ h - 1
    behind : after ≡ after_init_declarators typedef ds xs
    spelled : text ≡ with_commas (map spell_init_declarator xs)

  pub record MoreDeclaratorsAre (typedef : Bool) (ds : List Scope) (xs : List (DeclaratorTree × Option InitTree)) (after : List Scope) (n : ℕ) (text : List Lexeme) : Type 0 where
    pub levelled : levelled_init_declarators xs ≡ true
    pub placed : placed_init_declarators (n + 1) xs ≡ true
    pub scoped : scoped_init_declarators typedef ds xs ≡ true
    pub low : init_declarators_height xs ≤ h - 1
    pub behind : after ≡ after_init_declarators typedef ds xs
    pub spelled : text ≡ behind_commas (map spell_init_declarator xs)

  pub more_declarators_from : (typedef : Bool) (xs before : List (DeclaratorTree × Option InitTree)) (ds after : List Scope) (n : ℕ) (text : List Lexeme) → Rest Over (AfterComma (InitDeclaratorIs h typedef)) before ds after n text xs → MoreDeclaratorsAre typedef ds xs after n text
  more_declarators_from typedef [] before ds after n text r = record { levelled = refl; placed = refl; scoped = refl; low = omega arith; behind = r.0; spelled = r.1 }
  more_declarators_from typedef (x ∷ xs) before ds after n text r =
      let i = r.3.holds in
      let next : n + length r.1 + 1 ≡ n + 1 + length (spell_init_declarator x) + 1 = omega (arith, ap length r.3.parts, ap length i.spelled) in
      let m = more_declarators_from typedef xs (before ++ x ∷ []) r.0 after (n + length r.1) r.2 r.4 in
      record { levelled = rw (i.levelled, m.levelled) refl; placed = rw (i.placed, ← next, m.placed) refl; scoped = rw (i.scoped, ← i.after, m.scoped) refl; low = omega (arith, i.low, m.low); behind = rw (← i.after) m.behind; spelled = rw (r.5, r.3.parts, i.spelled, m.spelled) refl }

  pub more_declarators_to : (typedef : Bool) (xs before : List (DeclaratorTree × Option InitTree)) (ds after : List Scope) (n : ℕ) (text : List Lexeme) → MoreDeclaratorsAre typedef ds xs after n text → Rest Over (AfterComma (InitDeclaratorIs h typedef)) before ds after n text xs
  more_declarators_to typedef [] before ds after n text m = (m.behind, m.spelled)
  more_declarators_to typedef (x ∷ xs) before ds after n text m =
      let l = both (levelled_init_declarator x) (levelled_init_declarators xs) m.levelled in
      let q = both (placed_declarator (n + 1) x.0 && placed_maybe_init (n + 1 + length (spell_declarator x.0) + 1) x.1) (placed_init_declarators (n + 1 + length (spell_init_declarator x) + 1) xs) m.placed in
      let s = both (scoped_init_declarator typedef ds x) (scoped_init_declarators typedef (after_init_declarator typedef ds x) xs) m.scoped in
      let next : n + 1 + length (spell_init_declarator x) + 1 ≡ n + suc (length (spell_init_declarator x)) + 1 = omega arith in
      let back : List Lexeme = behind_commas (map spell_init_declarator xs) in
      let low : init_declarators_height xs ≤ h - 1 = omega (arith, m.low) in (
        after_init_declarator typedef ds x,
        sign CommaSign ∷ spell_init_declarator x,
        back,
        record { back = spell_init_declarator x; parts = refl; holds = record { levelled = l.0; placed = q.0; scoped = s.0; low = omega (arith, m.low, tall_one x); after = refl; spelled = refl } },
        more_declarators_to typedef xs (before ++ x ∷ []) (after_init_declarator typedef ds x) after (n + suc (length (spell_init_declarator x))) back (record { levelled = l.1; placed = subst (λ k. placed_init_declarators k xs ≡ true) next q.1; scoped = s.1; low = low; behind = m.behind; spelled = refl }),
        m.spelled,
      )

  abbrev ListOf : Bool → List Scope → In (List (DeclaratorTree × Option InitTree)) → ℕ → List Lexeme → Type 0
  ListOf typedef ds z = Listed Over (InitDeclaratorIs h typedef) ds z.0 z.1

  some_from : (typedef : Bool) (ds : List Scope) (xs : List (DeclaratorTree × Option InitTree)) (after : List Scope) (n : ℕ) (t : List Lexeme) → Listed Over (InitDeclaratorIs h typedef) ds xs after n t → DeclaratorsAre typedef ds xs after n t
  some_from typedef ds xs after n t l =
      let i = l.holds in let m = more_declarators_from typedef l.others (l.first.0 ∷ []) l.first.1 after (n + length l.front) l.back l.rest in
      let next : n + length l.front + 1 ≡ n + length (spell_init_declarator l.first.0) + 1 = omega (arith, ap length i.spelled) in
      subst (λ ys. DeclaratorsAre typedef ds ys after n t) (sym l.list) (record { levelled = rw (i.levelled, m.levelled) refl; placed = rw (i.placed, ← next, m.placed) refl; scoped = rw (i.scoped, ← i.after, m.scoped) refl; low = omega (arith, i.low, m.low); behind = rw (← i.after) m.behind; spelled = rw (l.parts, i.spelled, m.spelled) refl })

  some_to : (typedef : Bool) (ds : List Scope) (x : DeclaratorTree × Option InitTree) (xs : List (DeclaratorTree × Option InitTree)) (after : List Scope) (n : ℕ) (t : List Lexeme) → DeclaratorsAre typedef ds (x ∷ xs) after n t → Listed Over (InitDeclaratorIs h typedef) ds (x ∷ xs) after n t
  some_to typedef ds x xs after n t m =
      let l = both (levelled_init_declarator x) (levelled_init_declarators xs) m.levelled in
      let q = both (placed_declarator n x.0 && placed_maybe_init (n + length (spell_declarator x.0) + 1) x.1) (placed_init_declarators (n + length (spell_init_declarator x) + 1) xs) m.placed in
      let s = both (scoped_init_declarator typedef ds x) (scoped_init_declarators typedef (after_init_declarator typedef ds x) xs) m.scoped in
      let back : List Lexeme = behind_commas (map spell_init_declarator xs) in
      let low : init_declarators_height xs ≤ h - 1 = omega (arith, m.low) in
      record {
        first = (x, after_init_declarator typedef ds x);
        others = xs;
        front = spell_init_declarator x;
        back = back;
        list = refl;
        parts = m.spelled;
        holds = record { levelled = l.0; placed = q.0; scoped = s.0; low = omega (arith, m.low, tall_one x); after = refl; spelled = refl };
        rest = more_declarators_to typedef xs (x ∷ []) (after_init_declarator typedef ds x) after (n + length (spell_init_declarator x)) back (record { levelled = l.1; placed = q.1; scoped = s.1; low = low; behind = m.behind; spelled = refl });
      }

  abbrev EndsDeclarators : List (DeclaratorTree × Option InitTree) → Option Lexeme → Type 0
  EndsDeclarators [] o = next_is (is_sign Semicolon) o ≡ true
  EndsDeclarators (x ∷ xs) o = Last EndsInitDeclarator (x ∷ xs) o × (comma_ahead o ≡ false)

  list_end : (xs : List (DeclaratorTree × Option InitTree)) (x : DeclaratorTree × Option InitTree) (ys : List (DeclaratorTree × Option InitTree)) (o : Option Lexeme) → xs ≡ x ∷ ys → Last EndsInitDeclarator xs o × (comma_ahead o ≡ false) → EndsDeclarators xs o
  list_end xs x ys o is e = subst (λ zs. EndsDeclarators zs o) (sym is) (subst (λ zs. Last EndsInitDeclarator zs o × (comma_ahead o ≡ false)) is e)

  end_list : (xs : List (DeclaratorTree × Option InitTree)) (x : DeclaratorTree × Option InitTree) (ys : List (DeclaratorTree × Option InitTree)) (o : Option Lexeme) → xs ≡ x ∷ ys → EndsDeclarators xs o → Last EndsInitDeclarator xs o × (comma_ahead o ≡ false)
  end_list xs x ys o is e = subst (λ zs. Last EndsInitDeclarator zs o × (comma_ahead o ≡ false)) (sym is) (subst (λ zs. EndsDeclarators zs o) is e)

  close_list : (xs : List (DeclaratorTree × Option InitTree)) → EndsDeclarators xs (Some (sign Semicolon))
  close_list [] = refl
  close_list (x ∷ xs) = (all_last EndsInitDeclarator (x ∷ xs) (Some (sign Semicolon)) init_semicolon, refl)

  pub declarator_no_semicolon : (d : DeclaratorTree) (rest : List Lexeme) → declares d ≡ true → next_is (is_sign Semicolon) (head (spell_declarator d ++ rest)) ≡ false
  declarator_no_semicolon d rest some = declarator_begins (is_sign Semicolon) (record { star = refl; parenthesis = refl; bracket = refl }) d rest (λ m e. refl) (λ a. absurd (true≢false (sym a ∙ declares_some d some)))

  one_no_semicolon : (x : DeclaratorTree × Option InitTree) (rest : List Lexeme) → levelled_init_declarator x ≡ true → next_is (is_sign Semicolon) (head (spell_init_declarator x ++ rest)) ≡ false
  one_no_semicolon x rest l =
      let k = both (declares x.0 && not (has_names x.0)) (levelled_declarator x.0) (both ((declares x.0 && not (has_names x.0)) && levelled_declarator x.0) (levelled_maybe_init x.1) l).0 in
      ap (λ u. next_is (is_sign Semicolon) (head u)) (append_assoc (spell_declarator x.0) (spell_maybe_init x.1) rest) ∙ declarator_no_semicolon x.0 (spell_maybe_init x.1 ++ rest) (both (declares x.0) (not (has_names x.0)) k.0).0

  list_from : (typedef : Bool) (ds : List Scope) (z : In (List (DeclaratorTree × Option InitTree))) (n : ℕ) (t : List Lexeme) → Either (Gives ([], ds)) (ListOf typedef ds) z n t → DeclaratorsAre typedef ds z.0 z.1 n t
  list_from typedef ds z n t (Met g) = subst (λ w. DeclaratorsAre typedef ds w.0 w.1 n t) (sym g.value) (record { levelled = refl; placed = refl; scoped = refl; low = omega arith; behind = refl; spelled = g.nothing })
  list_from typedef ds z n t (Unmet l) = some_from typedef ds z.0 z.1 n t l

  list_to : (typedef : Bool) (ds : List Scope) (xs : List (DeclaratorTree × Option InitTree)) (after : List Scope) (n : ℕ) (t : List Lexeme) → DeclaratorsAre typedef ds xs after n t → Either {A = In (List (DeclaratorTree × Option InitTree))} (Gives ([], ds)) (ListOf typedef ds) (xs, after) n t
  list_to typedef ds [] after n t i = Met (record { value = ap (λ s. ([], s)) i.behind; nothing = i.spelled })
  list_to typedef ds (x ∷ xs) after n t i = Unmet (some_to typedef ds x xs after n t i)

  list_lawful : (ss : In SpecifierTrees) → Lawful Any (init_declarators p ss) (λ z. DeclaratorsAre (has_typedef ss.0) ss.1 z.0 z.1) (λ z. EndsDeclarators z.0)
  list_lawful ss = said
      (when_lawful (next_is (is_sign Semicolon)) (pure_lawful ([], ss.1) (λ n o q. q.1))
      (known (λ n o q. tt) (ended (λ z n t o l. end_list z.0 l.first.0 l.others o l.list) (λ z n t o l. list_end z.0 l.first.0 l.others o l.list) (listed_lawful EndsInitDeclarator (init_declarator_lawful (has_typedef ss.0)) init_comma ss.1)))
      (λ z n t rest g s. rw g.nothing (subst (λ w. EndsDeclarators w.0 (head rest)) g.value s))
      (λ z n t rest l s. rw (l.parts, l.holds.spelled, append_assoc) (one_no_semicolon l.first.0 (l.back ++ rest) l.holds.levelled)))
      (λ z n t i. list_to (has_typedef ss.0) ss.1 z.0 z.1 n t i) (list_from (has_typedef ss.0) ss.1)

  -- behind the first specifiers

  abbrev LineEnd : ℕ → In SpecifierTrees → In DeclarationTree → ℕ → List Lexeme → Type 0
  LineEnd at ss = Before (IsPunctuator Semicolon) (λ (x : In (List (DeclaratorTree × Option InitTree))). (Declares at ss.0 x.0, x.1)) (λ (z : In (List (DeclaratorTree × Option InitTree))). DeclaratorsAre (has_typedef ss.0) ss.1 z.0 z.1)

  abbrev LineParts : List Scope → ℕ → In DeclarationTree → ℕ → List Lexeme → Type 0
  LineParts ds at = Both (SpecifiersIs (Below h) InDeclaration ds) (λ ss. Opens (goes_on_specifiers (has_type_specifier ss.0) ss.1) false (LineEnd at ss))

  line_some : (at : ℕ) (ss : In SpecifierTrees) (x : In DeclarationTree) (n : ℕ) (t : List Lexeme) → LineEnd at ss x n t → 0 < length t
  line_some at ss x n t b = omega (arith, ap length b.parts, length-append b.front (bare (IsPunctuator Semicolon) ∷ []))

  line_lawful : (ds : List Scope) (at : ℕ) → Lawful Any (specified p ds at) (LineParts ds at) Anywhere
  line_lawful ds at = bind_lawful (parts.trees.specifiers InDeclaration ds)
      (λ ss n t i. opens_lawful (goes_on_specifiers (has_type_specifier ss.0) ss.1) false (λ m o q. q.1)
      (known (λ m o q. tt) (before_lawful (λ x. (Declares at ss.0 x.0, x.1)) (sign_tells Semicolon) (λ z n t i. close_list z.0) (list_lawful ss))))
      (λ ss n t b u rest i k s. opens_begins (goes_on_specifiers (has_type_specifier ss.0) ss.1) false b (n + length t) u rest k (λ none. absurd (omega (arith, line_some at ss b (n + length t) u k.holds, ap length none))))

  stands_line : (ds : List Scope) (ss : SpecifierTrees) (xs : List (DeclaratorTree × Option InitTree)) → goes_on_specifiers (has_type_specifier ss) ds (head (with_commas (map spell_init_declarator xs) ++ sign Semicolon ∷ [])) ≡ false → stands_behind ds ss (first_init_name xs) ≡ true
  stands_line ds ss [] e = or_true (has_type_specifier ss)
  stands_line ds ss (d ∷ rest) e =
      stands_before ds ss d.0 (spell_maybe_init d.1 ++ (behind_commas (map spell_init_declarator rest) ++ sign Semicolon ∷ [])) (first_name d.0) refl
      (ap (λ u. goes_on_specifiers (has_type_specifier ss) ds (head u)) (sym (line_text (spell_declarator d.0) (spell_maybe_init d.1) (behind_commas (map spell_init_declarator rest)))) ∙ e)
    where
      line_text : (a b c : List Lexeme) → ((a ++ b) ++ c) ++ sign Semicolon ∷ [] ≡ a ++ (b ++ (c ++ sign Semicolon ∷ []))
      line_text a b c = append_assoc (a ++ b) c (sign Semicolon ∷ []) ∙ append_assoc a b (c ++ sign Semicolon ∷ [])

  line_stands : (ds : List Scope) (ss : SpecifierTrees) (xs : List (DeclaratorTree × Option InitTree)) → levelled_init_declarators xs ≡ true → stands_behind ds ss (first_init_name xs) ≡ true → goes_on_specifiers (has_type_specifier ss) ds (head (with_commas (map spell_init_declarator xs) ++ sign Semicolon ∷ [])) ≡ false
  line_stands ds ss [] l e = refl
  line_stands ds ss (d ∷ rest) l e =
      let k = both ((declares d.0 && not (has_names d.0)) && levelled_declarator d.0) (levelled_maybe_init d.1) (both (levelled_init_declarator d) (levelled_init_declarators rest) l).0 in
      let f = both (declares d.0) (not (has_names d.0)) (both (declares d.0 && not (has_names d.0)) (levelled_declarator d.0) k.0).0 in
      ap (λ u. goes_on_specifiers (has_type_specifier ss) ds (head u)) (line_text (spell_declarator d.0) (spell_maybe_init d.1) (behind_commas (map spell_init_declarator rest)))
      ∙ before_stands ds ss d.0 (spell_maybe_init d.1 ++ (behind_commas (map spell_init_declarator rest) ++ sign Semicolon ∷ [])) e f.0
    where
      line_text : (a b c : List Lexeme) → ((a ++ b) ++ c) ++ sign Semicolon ∷ [] ≡ a ++ (b ++ (c ++ sign Semicolon ∷ []))
      line_text a b c = append_assoc (a ++ b) c (sign Semicolon ∷ []) ∙ append_assoc a b (c ++ sign Semicolon ∷ [])

  line_from : (ds : List Scope) (at : ℕ) (x : In DeclarationTree) (n : ℕ) (t : List Lexeme) → n ≡ at → LineParts ds at x n t → DeclarationIs (Below (suc h)) ds x n t
  line_from ds at x n t number b =
      let s = b.first in let o = b.second in let k = o.holds in let i = k.holds in
      let place : n + length b.front ≡ n + length (spell_specifiers b.value.0) = ap (λ u. n + length u) s.spelled in
      let text : b.back ≡ with_commas (map spell_init_declarator k.value.0) ++ sign Semicolon ∷ [] = k.parts ∙ ap (λ u. u ++ sign Semicolon ∷ []) i.spelled in
      let stands : stands_behind b.value.1 b.value.0 (first_init_name k.value.0) ≡ true =
      stands_line b.value.1 b.value.0 k.value.0 (ap (λ u. goes_on_specifiers (has_type_specifier b.value.0) b.value.1 (head u)) (sym text) ∙ o.first (line_some at b.value x (n + length b.front) b.back k)) in
      let value : x ≡ (Declares n b.value.0 k.value.0, k.value.1) = k.is ∙ ap (λ j. (Declares j b.value.0 k.value.0, k.value.1)) (sym number) in
      subst (λ w. DeclarationIs (Below (suc h)) ds w n t) (sym value) (record {
        levelled = rw (s.some, s.levelled, i.levelled) refl;
        placed = rw (true_eq n, s.placed, ← place, i.placed) refl;
        scoped = rw (s.scoped, ← s.after, stands, i.scoped) refl;
        low = omega (arith, s.low, i.low);
        after = i.behind ∙ ap (λ e. after_init_declarators (has_typedef b.value.0) e k.value.0) s.after;
        spelled = rw (b.parts, s.spelled, text) refl;
      })

  line_to : (ds : List Scope) (at : ℕ) (ss : SpecifierTrees) (xs : List (DeclaratorTree × Option InitTree)) (after : List Scope) (n : ℕ) (t : List Lexeme) → DeclarationIs (Below (suc h)) ds (Declares at ss xs, after) n t → LineParts ds n (Declares at ss xs, after) n t
  line_to ds at ss xs after n t i =
      let middle : List Scope = after_specifiers ds ss in
      let l = both (has_specifier ss && levelled_specifiers ss) (levelled_init_declarators xs) i.levelled in let l0 = both (has_specifier ss) (levelled_specifiers ss) l.0 in
      let a = both (nat_eq at n) (placed_specifiers n ss && placed_init_declarators (n + length (spell_specifiers ss)) xs) i.placed in let q = both (placed_specifiers n ss) (placed_init_declarators (n + length (spell_specifiers ss)) xs) a.1 in
      let s = both (scoped_specifiers false ds ss) (stands_behind middle ss (first_init_name xs) && scoped_init_declarators (has_typedef ss) middle xs) i.scoped in let s1 = both (stands_behind middle ss (first_init_name xs)) (scoped_init_declarators (has_typedef ss) middle xs) s.1 in
      let text : List Lexeme = with_commas (map spell_init_declarator xs) in
      record {
        value = (ss, middle);
        front = spell_specifiers ss;
        back = text ++ sign Semicolon ∷ [];
        parts = i.spelled;
        first = record { some = l0.0; of_form = refl; levelled = l0.1; placed = q.0; scoped = s.0; low = omega (arith, i.low); after = refl; spelled = refl };
        second = record {
          first = λ some. line_stands middle ss xs l.1 s1.0;
          holds = record {
            value = (xs, after);
            front = text;
            is = ap (λ j. (Declares j ss xs, after)) (eq_true at n a.0);
            parts = refl;
            holds = record { levelled = l.1; placed = q.1; scoped = s1.1; low = omega (arith, i.low); behind = i.after; spelled = refl };
          };
        };
      }

  -- static assertions

  literals_from : (us : List (List ℕ)) (n : ℕ) (t : List Lexeme) → Both (Token a_literal) (λ w vs. Steps (LiteralGrows h p.trees parts.trees) vs (w ∷ [])) us n t → LiteralsAre us n t
  literals_from us n t b =
      let r = literals_run p.trees h parts.trees us (b.value ∷ []) (n + length b.front) b.back b.second in
      let one : b.front ≡ literal b.value ∷ [] = b.first.alone ∙ ap (λ u. u ∷ []) (a_literal_is b.first.token b.value b.first.is) in
      subst (λ v. LiteralsAre v n t) (sym r.list) (record { some = refl; spelled = b.parts ∙ (ap (λ f. f ++ b.back) one ∙ ap (λ u. literal b.value ∷ u) r.spelled) })

  literals_to : (us : List (List ℕ)) (n : ℕ) (t : List Lexeme) → LiteralsAre us n t → Both (Token a_literal) (λ w vs. Steps (LiteralGrows h p.trees parts.trees) vs (w ∷ [])) us n t
  literals_to [] n t i = absurd (true≢false (sym i.some))
  literals_to (u ∷ us) n t i = record { value = u; front = literal u ∷ []; back = spell_literals us; first = record { token = literal u; is = refl; alone = refl }; second = run_literals p.trees h parts.trees us (u ∷ []) (n + 1); parts = i.spelled }

  literals_lawful : Lawful Any some_literals LiteralsAre (λ ts o. next_is is_literal o ≡ false)
  literals_lawful = said (bind_lawful (one_lawful a_literal) (λ w n t i. more_literals_lawful h p.trees parts.trees (w ∷ [])) (λ w n t b u rest i k s. tt)) literals_to literals_from

  abbrev AssertEnd : ℕ → In ExprTree → In DeclarationTree → ℕ → List Lexeme → Type 0
  AssertEnd at e = Behind (IsPunctuator CommaSign) (Both Numbers (λ m. Both LiteralsAre (λ texts. Behind (IsPunctuator RightParen) (Behind (IsPunctuator Semicolon) (Gives (Asserts at e.0 m texts, e.1))))))

  assert_end_lawful : (at : ℕ) (e : In ExprTree) → Lawful Any (assert_end at e) (AssertEnd at e) Anywhere
  assert_end_lawful at e = behind_lawful (sign_tells CommaSign) (bind_lawful here_lawful
      (λ m n t i. bind_lawful (known (λ o q r. tt) literals_lawful) (λ texts n t i. behind_lawful (sign_tells RightParen) (behind_lawful (sign_tells Semicolon) (pure_lawful (Asserts at e.0 m texts, e.1) (λ o q r. tt)))) (λ texts n t b u rest i k s. rw k.parts refl))
      (λ m n t b u rest i k s. tt))

  abbrev AssertParts : List Scope → ℕ → In DeclarationTree → ℕ → List Lexeme → Type 0
  AssertParts ds at = Behind (IsKeyword StaticAssertWord) (Behind (IsPunctuator LeftParen) (Both (ExprIs (Below h) ConditionalLevel ds) (AssertEnd at)))

  assert_parts_lawful : {P : ℕ → Option Lexeme → Type 0} (ds : List Scope) (at : ℕ) → Lawful P (static_assert p ds at) (AssertParts ds at) Anywhere
  assert_parts_lawful ds at = behind_lawful assert_tells (behind_lawful (sign_tells LeftParen)
      (bind_lawful (parts.trees.expr ConditionalLevel ds) (λ e m u k. known (λ o q r. tt) (assert_end_lawful at e)) (λ e m u b v rest k a s. rw a.parts refl)))

  assert_text : (e m : List Lexeme) → ((e ++ (sign CommaSign ∷ m)) ++ sign RightParen ∷ []) ++ sign Semicolon ∷ [] ≡ e ++ (sign CommaSign ∷ (m ++ (sign RightParen ∷ sign Semicolon ∷ [])))
  assert_text e m = append_assoc (e ++ (sign CommaSign ∷ m)) (sign RightParen ∷ []) (sign Semicolon ∷ []) ∙ append_assoc e (sign CommaSign ∷ m) (sign RightParen ∷ sign Semicolon ∷ [])

  assert_from : (ds : List Scope) (at : ℕ) (x : In DeclarationTree) (n : ℕ) (t : List Lexeme) → n ≡ at → AssertParts ds at x n t → DeclarationIs (Below (suc h)) ds x n t
  assert_from ds at x n t start w =
      let b = w.holds in let q = b.holds in let e = q.first in let c = q.second in let d = c.holds in let f = d.second in let g = f.second in let k = g.holds in
      let place : n + 1 + 1 ≡ n + 2 = omega arith in
      let placed : placed_expr (n + 2) q.value.0 ≡ true = subst (λ j. placed_expr j q.value.0 ≡ true) place e.good.placed in
      let message : d.value ≡ n + 3 + length (spell_expr q.value.0) = d.first.value ∙ omega (arith, ap length e.spelled) in
      let value : x ≡ (Asserts n q.value.0 (n + 3 + length (spell_expr q.value.0)) f.value, q.value.1) =
      k.holds.value ∙ (ap (λ j. (Asserts j q.value.0 d.value f.value, q.value.1)) (sym start) ∙ ap (λ j. (Asserts n q.value.0 j f.value, q.value.1)) message) in
      let tail : g.back ≡ sign Semicolon ∷ [] = k.parts ∙ ap (λ u. sign Semicolon ∷ u) k.holds.nothing in
      let message_text : c.back ≡ spell_literals f.value ++ (sign RightParen ∷ sign Semicolon ∷ []) = d.parts ∙ (ap (λ u. u ++ d.back) d.first.nothing ∙ (f.parts ∙ (ap (λ u. u ++ f.back) f.first.spelled ∙ ap (λ u. spell_literals f.value ++ u) (g.parts ∙ ap (λ u. sign RightParen ∷ u) tail)))) in
      let text : t ≡ word StaticAssertWord ∷ sign LeftParen ∷ (spell_expr q.value.0 ++ (sign CommaSign ∷ (spell_literals f.value ++ (sign RightParen ∷ sign Semicolon ∷ [])))) =
      w.parts ∙ ap (λ u. word StaticAssertWord ∷ u) (b.parts ∙ ap (λ u. sign LeftParen ∷ u) (q.parts ∙ (ap (λ u. u ++ q.back) e.spelled ∙ ap (λ u. spell_expr q.value.0 ++ u) (c.parts ∙ ap (λ u. sign CommaSign ∷ u) message_text)))) in
      subst (λ y. DeclarationIs (Below (suc h)) ds y n t) (sym value) (record {
        levelled = rw (e.within, e.good.levelled, f.first.some) refl;
        placed = rw (true_eq n, placed, true_eq (n + 3 + length (spell_expr q.value.0))) refl;
        scoped = e.good.scoped;
        low = omega (arith, e.good.low, tall q.value.0);
        after = e.good.after;
        spelled = text ∙ ap (λ u. word StaticAssertWord ∷ sign LeftParen ∷ u) (sym (assert_text (spell_expr q.value.0) (spell_literals f.value)));
      })

  assert_to : (ds : List Scope) (a : ℕ) (e : ExprTree) (ma : ℕ) (texts : List (List ℕ)) (after : List Scope) (n : ℕ) (t : List Lexeme) → DeclarationIs (Below (suc h)) ds (Asserts a e ma texts, after) n t → AssertParts ds n (Asserts a e ma texts, after) n t
  assert_to ds a e ma texts after n t i =
      let l = both (is_within ConditionalLevel e && levelled e) (has_some texts) i.levelled in let l0 = both (is_within ConditionalLevel e) (levelled e) l.0 in
      let q = both (nat_eq a n) (placed_expr (n + 2) e && nat_eq ma (n + 3 + length (spell_expr e))) i.placed in let q1 = both (placed_expr (n + 2) e) (nat_eq ma (n + 3 + length (spell_expr e))) q.1 in
      let place : n + 2 ≡ n + 1 + 1 = omega arith in
      let number : n + 3 + length (spell_expr e) ≡ n + 1 + 1 + length (spell_expr e) + 1 = omega arith in
      let m : ℕ = n + 1 + 1 + length (spell_expr e) + 1 in
      record {
        back = sign LeftParen ∷ (spell_expr e ++ (sign CommaSign ∷ (spell_literals texts ++ (sign RightParen ∷ sign Semicolon ∷ []))));
        parts = i.spelled ∙ ap (λ u. word StaticAssertWord ∷ sign LeftParen ∷ u) (assert_text (spell_expr e) (spell_literals texts));
        holds = record {
          back = spell_expr e ++ (sign CommaSign ∷ (spell_literals texts ++ (sign RightParen ∷ sign Semicolon ∷ [])));
          parts = refl;
          holds = record {
            value = (e, after);
            front = spell_expr e;
            back = sign CommaSign ∷ (spell_literals texts ++ (sign RightParen ∷ sign Semicolon ∷ []));
            parts = refl;
            first = record { good = record { levelled = l0.1; placed = subst (λ k. placed_expr k e ≡ true) place q1.0; scoped = i.scoped; low = omega (arith, i.low); after = i.after }; within = l0.0; spelled = refl };
            second = record {
              back = spell_literals texts ++ (sign RightParen ∷ sign Semicolon ∷ []);
              parts = refl;
              holds = record {
                value = m;
                front = [];
                back = spell_literals texts ++ (sign RightParen ∷ sign Semicolon ∷ []);
                first = record { value = refl; nothing = refl };
                parts = refl;
                second = record {
                  value = texts;
                  front = spell_literals texts;
                  back = sign RightParen ∷ sign Semicolon ∷ [];
                  first = record { some = l.1; spelled = refl };
                  parts = refl;
                  second = record {
                    back = sign Semicolon ∷ [];
                    parts = refl;
                    holds = record {
                      back = [];
                      parts = refl;
                      holds = record { value = ap (λ k. (Asserts k e ma texts, after)) (eq_true a n q.0) ∙ ap (λ k. (Asserts n e k texts, after)) (eq_true ma (n + 3 + length (spell_expr e)) q1.1 ∙ number); nothing = refl };
                    };
                  };
                };
              };
            };
          };
        };
      }

  -- one of the two; `at` is the number of the first token

  pub record IsAssert (ds : List Scope) (x : In DeclarationTree) (n : ℕ) (text : List Lexeme) : Type 0 where
    pub is : DeclarationIs (Below (suc h)) ds x n text
    pub asserts : head text ≡ Some (word StaticAssertWord)

  pub assert_lawful : (ds : List Scope) (at : ℕ) → Lawful (And (At at) (next_is is_assert_word) true) (static_assert p ds at) (There at (IsAssert ds)) Anywhere
  assert_lawful ds at = said (there_lawful at (λ n o q. q.0) (assert_parts_lawful ds at)) to (λ x n t i. record { number = i.number; holds = record { is = assert_from ds at x n t i.number i.holds; asserts = ap head i.holds.parts } })
    where
      no_word : (ss : SpecifierTrees) (rest : List Lexeme) → has_specifier ss ≡ true → scoped_specifiers false ds ss ≡ true → head (spell_specifiers ss ++ rest) ≡ Some (word StaticAssertWord) → ⊥
      no_word ss rest some s e = absurd (true≢false (sym (specifiers_open ds ss rest some s) ∙ ap (next_is (begins_parameter ds)) e))

      by : (x : DeclarationTree) (after : List Scope) (n : ℕ) (t : List Lexeme) → n ≡ at → IsAssert ds (x, after) n t → AssertParts ds at (x, after) n t
      by (Asserts a e ma texts) after n t number i = subst (λ k. AssertParts ds k (Asserts a e ma texts, after) n t) number (assert_to ds a e ma texts after n t i.is)
      by (Declares a ss xs) after n t number i =
          let l = both (has_specifier ss) (levelled_specifiers ss) (both (has_specifier ss && levelled_specifiers ss) (levelled_init_declarators xs) i.is.levelled).0 in
          absurd (no_word ss (with_commas (map spell_init_declarator xs) ++ sign Semicolon ∷ []) l.0 (both (scoped_specifiers false ds ss) _ i.is.scoped).0 (ap head (sym i.is.spelled) ∙ i.asserts))

      to : (x : In DeclarationTree) (n : ℕ) (t : List Lexeme) → There at (IsAssert ds) x n t → There at (AssertParts ds at) x n t
      to x n t i = record { number = i.number; holds = by x.0 x.1 n t i.number i.holds }

  abbrev DeclarationParts : List Scope → ℕ → In DeclarationTree → ℕ → List Lexeme → Type 0
  DeclarationParts ds at = There at (Either (AssertParts ds at) (LineParts ds at))

  declaration_from : (ds : List Scope) (at : ℕ) (x : In DeclarationTree) (n : ℕ) (t : List Lexeme) → n ≡ at → Either (AssertParts ds at) (LineParts ds at) x n t → DeclarationIs (Below (suc h)) ds x n t
  declaration_from ds at x n t number (Met b) = assert_from ds at x n t number b
  declaration_from ds at x n t number (Unmet b) = line_from ds at x n t number b

  declaration_to : (ds : List Scope) (x : DeclarationTree) (after : List Scope) (n : ℕ) (t : List Lexeme) → DeclarationIs (Below (suc h)) ds (x, after) n t → Either (AssertParts ds n) (LineParts ds n) (x, after) n t
  declaration_to ds (Asserts a e ma texts) after n t i = Met (assert_to ds a e ma texts after n t i)
  declaration_to ds (Declares a ss xs) after n t i = Unmet (line_to ds a ss xs after n t i)

  pub no_assert : (ds : List Scope) (ss : SpecifierTrees) (rest : List Lexeme) → has_specifier ss ≡ true → scoped_specifiers false ds ss ≡ true → next_is is_assert_word (head (spell_specifiers ss ++ rest)) ≡ false
  no_assert ds ss rest some s = apart (begins_parameter ds) is_assert_word (head (spell_specifiers ss ++ rest)) (specifiers_open ds ss rest some s) (λ k e. ap (begins_parameter ds) (assert_tells.is k e))

  declaration_at_lawful : (ds : List Scope) (at : ℕ) → Lawful (At at) (declaration_at p ds at) (There at (DeclarationIs (Below (suc h)) ds)) Anywhere
  declaration_at_lawful ds at = said
      (there_lawful at (λ n o q. q) (when_lawful (next_is is_assert_word) (assert_parts_lawful ds at) (known (λ n o q. tt) (line_lawful ds at))
      (λ x n t rest b s. rw b.parts refl)
      (λ x n t rest b s. rw (b.parts, b.first.spelled, append_assoc) (no_assert ds b.value.0 (b.back ++ rest) b.first.some b.first.scoped))))
      (λ x n t i. record { number = i.number; holds = subst (λ k. Either (AssertParts ds k) (LineParts ds k) x n t) i.number (declaration_to ds x.0 x.1 n t i.holds) })
      (λ x n t i. record { number = i.number; holds = declaration_from ds at x n t i.number i.holds })

  pub declaration_lawful : (ds : List Scope) → Lawful Any (declaration p ds) (DeclarationIs (Below (suc h)) ds) Anywhere
  declaration_lawful ds = numbered_lawful (declaration_at_lawful ds)
