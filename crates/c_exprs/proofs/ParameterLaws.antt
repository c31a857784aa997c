-- Device: the reading of parameter lists and identifier lists gives exactly the grammatical ones.
use Rattle.std.proofs.Common.{◌≡◌, refl, sym, ap, ◌∙◌, subst, ℕ, suc, ◌+◌, ◌-◌, ◌<◌, ◌≤◌, length, Bool, true, false, not, ◌&&◌, ◌||◌, List, [], ◌∷◌, ◌++◌, Option, Some, None, append_assoc, append-nil, arith, true≢false}
use Rattle.cil_base.specs.declared.numbers.NameId.{NameId}
use Rattle.cil_base.specs.declared.tokens.TokenKind.{TokenKind}
use Rattle.cil_base.specs.declared.tokens.TokenKind.TheVariants.{Name as IsName, Keyword as IsKeyword, Integer as IsInteger, Character as IsCharacter, Literal as IsLiteral, Punctuator as IsPunctuator}
use Rattle.cil_base.specs.declared.tokens.Punctuator.{Punctuator}
use Rattle.cil_base.specs.declared.tokens.Punctuator.TheVariants.{LeftBrace, Star as StarSign, Ellipsis, Comma as CommaSign}
use Rattle.typedef_scopes.specs.Scopes.{Scope, is_type}
use Rattle.c_tree.specs.Syntax.{SpecifierTree, Storage, Basic, Qualified, Functional, TypedefName, Tag, StructBody, EnumBody, SpecifierTrees, NoSpecifiers, MoreSpecifiers, DeclaratorTree, Declared, Absent, Grouped, Pointer, Array, Function, Unprototyped, ParameterTree, Parameter, ParameterTrees, NoParameters, MoreParameters}
use Rattle.c_tree.specs.Spelling.{Lexeme, basic_word, qualifier_word, tag_word, struct_word, sign, named, with_commas, behind_commas, spell_ellipsis, spell_names, spell_specifier, spell_specifiers, spell_declarator, spell_bound, spell_parameter, spell_parameters, in_parens, in_brackets}
use Rattle.c_tree.specs.Height.{parameter_height, parameters_height}
use Rattle.c_tree.specs.Levels.{has_specifier, has_names, has_parameter, levelled_specifiers, levelled_declarator, levelled_parameter, levelled_parameters}
use Rattle.c_tree.specs.Placed.{placed_specifiers, placed_declarator, placed_parameter, placed_parameters}
use Rattle.c_tree.specs.Scoped.{has_type_specifier, has_typedef, name_of, first_name, stands_behind, takes_typedef_names, declared_if, scoped_specifier, scoped_specifiers, scoped_declarator, scoped_parameter, scoped_parameters, after_specifiers, after_declarator, after_parameter, after_parameters}
use Rattle.c_exprs.specs.declared.words.SpecifierForm.TheVariants.{Declaration as InDeclaration}
use Rattle.c_exprs.specs.declared.words.DeclaratorForm.TheVariants.{Parameter as InParameter}
use Rattle.c_cursor.specs.Readers.{head}
use Rattle.c_cursor.specs.Classes.{is_sign, next_is, plain, if_so, fitting}
use Rattle.c_exprs.specs.Classes.{is_some_of, piece_word, begins_parameter}
use Rattle.c_exprs.specs.GoesOn.{goes_on_typed, goes_on_name, goes_on_absent, goes_on_kind, goes_on_specifiers, goes_on_declarator}
use Rattle.c_exprs.specs.Subs.{In, Subs}
use Rattle.c_exprs.specs.DeclaratorReading.{parameter, parameter_trees, parameters}
use Rattle.c_exprs.proofs.Laws
use Rattle.c_exprs.proofs.Laws.{Lawful, Any, Anywhere, Next, And, Steps, Ends, More, Token, Mapped, Behind, Before, Both, Either, Met, Unmet, Under, There, Opens, Gives, Numbers, bare, bind_lawful, mapped_lawful, behind_lawful, before_lawful, pure_lawful, when_lawful, many_lawful, steps_fit, one_lawful, opens_lawful, opens_begins, fact_lawful, said, known, ended, take_is, taken_is, At}
use Rattle.c_exprs.proofs.Tokens.{both, none_of, not_true, or_true, sign_tells}
use Rattle.c_exprs.proofs.Heads.{apart, declarator_begins, storage_begins, basic_begins, qualifier_begins, function_begins, tag_begins, struct_begins}
use Rattle.c_exprs.proofs.Relations.{Below, SpecifiersIs, DeclaratorIs, LawfulSubs}
use Rattle.c_exprs.proofs.Lists.{Rest, AfterComma, Listed, Ending, EndIs, listed_to_lawful}
use Rattle.c_exprs.proofs.ExprTrees.{tall_declarator}

-- specifiers of a declaration begin with a word or a typedef name that begins a parameter

pub some_fitting : {A : Type 0} (fits : A → Bool) (o : Option A) → is_some_of (fitting fits o) ≡ true → is_some_of o ≡ true
some_fitting fits None e = absurd (true≢false (sym e))
some_fitting fits (Some a) e = refl

pub specifier_opens : (ds : List Scope) (s : SpecifierTree) (rest : List Lexeme) → scoped_specifier false ds s ≡ true → next_is (begins_parameter ds) (head (spell_specifier s ++ rest)) ≡ true
specifier_opens ds (Storage at w) rest s = storage_begins w
specifier_opens ds (Basic at w) rest s = some_fitting _ (piece_word (basic_word w)) (basic_begins w)
specifier_opens ds (Qualified at w) rest s = some_fitting _ (piece_word (qualifier_word w)) (qualifier_begins w)
specifier_opens ds (Functional at w) rest s = function_begins w
specifier_opens ds (TypedefName at n) rest s = rw s refl
specifier_opens ds (Tag at kind tag) rest s = some_fitting _ (piece_word (tag_word kind)) (tag_begins kind)
specifier_opens ds (StructBody at kind tag ms) rest s = some_fitting _ (piece_word (struct_word kind)) (struct_begins kind)
specifier_opens ds (EnumBody at tag es comma) rest s = refl

pub specifiers_open : (ds : List Scope) (ss : SpecifierTrees) (rest : List Lexeme) → has_specifier ss ≡ true → scoped_specifiers false ds ss ≡ true → next_is (begins_parameter ds) (head (spell_specifiers ss ++ rest)) ≡ true
specifiers_open ds NoSpecifiers rest some s = absurd (true≢false (sym some))
specifiers_open ds (MoreSpecifiers x xs) rest some s = rw append_assoc (specifier_opens ds x (spell_specifiers xs ++ rest) (both _ _ s).0)

no_sign_begins : (ds : List Scope) (p : Punctuator) (k : TokenKind) → is_sign p k ≡ true → begins_parameter ds k ≡ false
no_sign_begins ds p k e = ap (begins_parameter ds) ((sign_tells p).is k e)

pub param_no_sign : (ds : List Scope) (p : Punctuator) (o : Option Lexeme) → next_is (begins_parameter ds) o ≡ true → next_is (is_sign p) o ≡ false
param_no_sign ds p o h = apart (begins_parameter ds) (is_sign p) o h (no_sign_begins ds p)

-- what ends a parameter ends its specifiers

param_ends_kind : (typed : Bool) (ds : List Scope) (k : TokenKind) → goes_on_kind InParameter k ≡ false → goes_on_typed typed ds k ≡ false
param_ends_kind typed ds (IsName n) e = absurd (true≢false (sym (or_true (goes_on_absent (IsName n))) ∙ e))
param_ends_kind typed ds (IsKeyword w) e = (none_of (is_some_of (piece_word w)) false e).0
param_ends_kind typed ds IsInteger e = refl
param_ends_kind typed ds IsCharacter e = refl
param_ends_kind typed ds IsLiteral e = refl
param_ends_kind typed ds (IsPunctuator p) e =
    let a = none_of (goes_on_absent (IsPunctuator p)) false e in
    (none_of (goes_on_name (IsPunctuator p) || is_sign StarSign (IsPunctuator p)) (is_sign LeftBrace (IsPunctuator p)) a.0).1

param_ends : (typed : Bool) (ds : List Scope) (o : Option Lexeme) → goes_on_declarator InParameter o ≡ false → goes_on_specifiers typed ds o ≡ false
param_ends typed ds None e = refl
param_ends typed ds (Some u) e = param_ends_kind typed ds u.kind e

-- a declared name that stands first

pub first_head : (d : DeclaratorTree) (n : NameId) (rest : List Lexeme) → first_name d ≡ Some n → head (spell_declarator d ++ rest) ≡ Some (named n)
first_head (Declared at m) n rest e = ap (λ k. Some (named k)) (Laws.some_is e)
first_head (Absent at) n rest e = absurd (Laws.none_is_no e)
first_head (Grouped at d) n rest e = absurd (Laws.none_is_no e)
first_head (Pointer at qs d) n rest e = absurd (Laws.none_is_no e)
first_head (Array at d b) n rest e = ap head (append_assoc (spell_declarator d) (in_brackets (spell_bound b)) rest) ∙ first_head d n (in_brackets (spell_bound b) ++ rest) e
first_head (Function at d ps v) n rest e = ap head (append_assoc (spell_declarator d) (in_parens (with_commas (spell_parameters ps) ++ spell_ellipsis v)) rest) ∙ first_head d n (in_parens (with_commas (spell_parameters ps) ++ spell_ellipsis v) ++ rest) e
first_head (Unprototyped at d names) n rest e = ap head (append_assoc (spell_declarator d) (in_parens (spell_names names)) rest) ∙ first_head d n (in_parens (spell_names names) ++ rest) e

some_first : (d : DeclaratorTree) (n : NameId) (t : List Lexeme) → spell_declarator d ≡ t → first_name d ≡ Some n → 0 < length t
some_first d n [] e f = absurd (Laws.none_is_no (ap head (sym e) ∙ (ap head (sym (append-nil (spell_declarator d))) ∙ first_head d n [] f)))
some_first d n (u ∷ us) e f = omega arith

first_off : (typed : Bool) (ds : List Scope) (n : NameId) → goes_on_specifiers typed ds (Some (named n)) ≡ false → (typed || not (is_type ds n)) ≡ true
first_off true ds n e = refl
first_off false ds n e = ap not e

off_first : (typed : Bool) (ds : List Scope) (n : NameId) → (typed || not (is_type ds n)) ≡ true → (not typed && is_type ds n) ≡ false
off_first true ds n e = refl
off_first false ds n e = not_true (is_type ds n) e

-- a name that stands directly behind specifiers is no further specifier
pub stands_of : (ds : List Scope) (ss : SpecifierTrees) (d : DeclaratorTree) (o : Option NameId) → first_name d ≡ o → (0 < length (spell_declarator d) → goes_on_specifiers (has_type_specifier ss) ds (head (spell_declarator d)) ≡ false) → stands_behind ds ss o ≡ true
stands_of ds ss d None e off = or_true (has_type_specifier ss)
stands_of ds ss d (Some n) e off =
    first_off (has_type_specifier ss) ds n (ap (goes_on_specifiers (has_type_specifier ss) ds) (sym (first_head d n [] e) ∙ ap head (append-nil (spell_declarator d))) ∙ off (some_first d n (spell_declarator d) refl e))

pub of_stands : (ds : List Scope) (ss : SpecifierTrees) (d : DeclaratorTree) → stands_behind ds ss (first_name d) ≡ true → 0 < length (spell_declarator d) → goes_on_specifiers (has_type_specifier ss) ds (head (spell_declarator d)) ≡ false
of_stands ds ss d stands some =
    ap (λ t. goes_on_specifiers (has_type_specifier ss) ds (head t)) (sym (append-nil (spell_declarator d)))
    ∙ declarator_begins (goes_on_typed (has_type_specifier ss) ds) (record { star = refl; parenthesis = refl; bracket = refl }) d []
    (λ n e. off_first (has_type_specifier ss) ds n (subst (λ o. stands_behind ds ss o ≡ true) e stands)) (λ a. refl)

-- parameters

pub record ParameterIs (h : ℕ) (ds : List Scope) (x : In ParameterTree) (n : ℕ) (text : List Lexeme) : Type 0 where
  pub levelled : levelled_parameter x.0 ≡ true
  pub placed : placed_parameter n x.0 ≡ true
  pub scoped : scoped_parameter ds x.0 ≡ true
  pub low : parameter_height x.0 < h
  pub after : x.1 ≡ after_parameter ds x.0
  pub spelled : text ≡ spell_parameter x.0

abbrev pub EndsParameter : {A : Type 0} → A → Option Lexeme → Type 0
EndsParameter x o = goes_on_declarator InParameter o ≡ false

tall_parameter : (p : ParameterTree) → 1 ≤ parameter_height p
tall_parameter (Parameter ss d) = omega (arith, tall_declarator d)

module _ (h : ℕ) (sub : Subs) (parts : LawfulSubs (Below h) sub) where
  abbrev ParameterOf : In SpecifierTrees → In DeclaratorTree → In ParameterTree
  ParameterOf ss d = (Parameter ss.0 d.0, declared_if (name_of d.0) (has_typedef ss.0) d.1)

  abbrev ParameterBehind : In SpecifierTrees → In ParameterTree → ℕ → List Lexeme → Type 0
  ParameterBehind ss = Opens (goes_on_specifiers (has_type_specifier ss.0) ss.1) false (Mapped (ParameterOf ss) (DeclaratorIs (Below h) InParameter ss.1))

  abbrev ParameterParts : List Scope → In ParameterTree → ℕ → List Lexeme → Type 0
  ParameterParts ds = Both (SpecifiersIs (Below h) InDeclaration ds) ParameterBehind

  parameter_parts_lawful : (ds : List Scope) → Lawful Any (parameter sub ds) (ParameterParts ds) EndsParameter
  parameter_parts_lawful ds = bind_lawful (parts.specifiers InDeclaration ds)
      (λ ss n t i. opens_lawful (goes_on_specifiers (has_type_specifier ss.0) ss.1) false (λ m o p. p.1) (mapped_lawful (ParameterOf ss) (λ d o s. s) (λ d o s. s) (known (λ m o p. tt) (parts.declarator InParameter ss.1))))
      (λ ss n t b u rest i k s. opens_begins (goes_on_specifiers (has_type_specifier ss.0) ss.1) false b (n + length t) u rest k (λ none. param_ends (has_type_specifier ss.0) ss.1 (head rest) s))

  parameter_from : (ds : List Scope) (x : In ParameterTree) (n : ℕ) (t : List Lexeme) → ParameterParts ds x n t → ParameterIs h ds x n t
  parameter_from ds x n t b =
      let s = b.first in let m = b.second.holds in let d = m.holds in
      let f = both (not (has_names m.value.0)) (takes_typedef_names b.value.1 m.value.0) d.of_form in
      let place : n + length b.front ≡ n + length (spell_specifiers b.value.0) = ap (λ u. n + length u) s.spelled in
      let stands : stands_behind b.value.1 b.value.0 (first_name m.value.0) ≡ true =
      stands_of b.value.1 b.value.0 m.value.0 (first_name m.value.0) refl (subst (λ u. 0 < length u → goes_on_specifiers (has_type_specifier b.value.0) b.value.1 (head u) ≡ false) d.spelled b.second.first) in
      subst (λ w. ParameterIs h ds w n t) (sym m.is) (record {
        levelled = rw (s.some, s.levelled, f.0, d.levelled) refl;
        placed = rw (s.placed, ← place, d.placed) refl;
        scoped = rw (s.scoped, ← s.after, stands, f.1, d.scoped) refl;
        low = omega (arith, s.low, d.low);
        after = ap (declared_if (name_of m.value.0) (has_typedef b.value.0)) (d.after ∙ ap (λ k. after_declarator k m.value.0) s.after);
        spelled = rw (b.parts, s.spelled, d.spelled) refl;
      })

  parameter_to : (ds : List Scope) (x : ParameterTree) (after : List Scope) (n : ℕ) (t : List Lexeme) → ParameterIs h ds (x, after) n t → ParameterParts ds (x, after) n t
  parameter_to ds (Parameter ss d) after n t i =
      let l = both (has_specifier ss && levelled_specifiers ss) (not (has_names d) && levelled_declarator d) i.levelled in
      let ls = both (has_specifier ss) (levelled_specifiers ss) l.0 in let ld = both (not (has_names d)) (levelled_declarator d) l.1 in
      let p = both (placed_specifiers n ss) (placed_declarator (n + length (spell_specifiers ss)) d) i.placed in
      let middle : List Scope = after_specifiers ds ss in
      let s = both (scoped_specifiers false ds ss && stands_behind middle ss (first_name d)) (takes_typedef_names middle d && scoped_declarator middle d) i.scoped in
      let s0 = both (scoped_specifiers false ds ss) (stands_behind middle ss (first_name d)) s.0 in let s1 = both (takes_typedef_names middle d) (scoped_declarator middle d) s.1 in
      record {
        value = (ss, middle);
        front = spell_specifiers ss;
        back = spell_declarator d;
        parts = i.spelled;
        first = record { some = ls.0; of_form = refl; levelled = ls.1; placed = p.0; scoped = s0.0; low = omega (arith, i.low); after = refl; spelled = refl };
        second = record {
          first = of_stands middle ss d s0.1;
          holds = record {
            value = (d, after_declarator middle d);
            is = ap (λ k. (Parameter ss d, k)) i.after;
            holds = record { of_form = rw (ld.0, s1.0) refl; levelled = ld.1; placed = p.1; scoped = s1.1; low = omega (arith, i.low); after = refl; spelled = refl };
          };
        };
      }

  parameter_lawful : (ds : List Scope) → Lawful Any (parameter sub ds) (ParameterIs h ds) EndsParameter
  parameter_lawful ds = said (parameter_parts_lawful ds) (λ x n t i. parameter_to ds x.0 x.1 n t i) (parameter_from ds)

  pub parameter_opens : (ds : List Scope) (p : ParameterTree) (rest : List Lexeme) → levelled_parameter p ≡ true → scoped_parameter ds p ≡ true → next_is (begins_parameter ds) (head (spell_parameter p ++ rest)) ≡ true
  parameter_opens ds (Parameter ss d) rest l s = rw append_assoc (specifiers_open ds ss (spell_declarator d ++ rest) (both _ _ (both _ _ l).0).0 (both _ _ (both _ _ s).0).0)

  -- lists of parameters

  abbrev pub EllipsisIs : Unit {0} → ℕ → List Lexeme → Type 0
  EllipsisIs = Token {A = Unit {0}} (plain (λ j. if_so (is_sign Ellipsis j) tt))

  abbrev pub ParameterList : List Scope → In (List ParameterTree × Bool) → ℕ → List Lexeme → Type 0
  ParameterList ds z = Listed (Ending EllipsisIs z.0.1) (ParameterIs h) ds z.0.0 z.1

  pub parameters_lawful : (ds : List Scope) → Lawful Any (parameters sub ds) (ParameterList ds) (λ z. EndIs EndsParameter (λ o. Unit {0}) z.0.0 z.0.1)
  parameters_lawful ds = listed_to_lawful EndsParameter (next_is (is_sign Ellipsis)) EllipsisIs (λ o. Unit {0}) parameter_lawful
      (one_lawful _) (λ x. refl) (λ c n t rest f l. rw (take_is c n t (sign_tells Ellipsis) f) refl)
      (λ ds y n t rest i. rw i.spelled (param_no_sign ds Ellipsis (head (spell_parameter y.0 ++ rest)) (parameter_opens ds y.0 rest i.levelled i.scoped))) ds

  ellipsis_text : (b : Bool) (n : ℕ) (t : List Lexeme) → Ending EllipsisIs b n t → t ≡ spell_ellipsis b
  ellipsis_text false n t e = e
  ellipsis_text true n t e = e.parts ∙ ap (λ u. sign CommaSign ∷ u) (take_is tt (n + 1) e.back (sign_tells Ellipsis) e.holds)

  text_ellipsis : (b : Bool) (n : ℕ) (t : List Lexeme) → t ≡ spell_ellipsis b → Ending EllipsisIs b n t
  text_ellipsis false n t e = e
  text_ellipsis true n t e = record { back = sign Ellipsis ∷ []; holds = taken_is (n + 1) (sign Ellipsis ∷ []) (sign_tells Ellipsis) refl; parts = e }

  record MoreParametersAre (b : Bool) (ds : List Scope) (xs : List ParameterTree) (after : List Scope) (n : ℕ) (text : List Lexeme) : Type 0 where
    levelled : levelled_parameters (parameter_trees xs) ≡ true
    placed : placed_parameters (n + 1) (parameter_trees xs) ≡ true
    scoped : scoped_parameters ds (parameter_trees xs) ≡ true
    low : parameters_height (parameter_trees xs) ≤ h - 1
    behind : after ≡ after_parameters ds (parameter_trees xs)
    spelled : text ≡ behind_commas (spell_parameters (parameter_trees xs)) ++ spell_ellipsis b

  more_parameters : (b : Bool) (xs before : List ParameterTree) (ds after : List Scope) (n : ℕ) (text : List Lexeme) → Rest (Ending EllipsisIs b) (AfterComma (ParameterIs h)) before ds after n text xs → MoreParametersAre b ds xs after n text
  more_parameters b [] before ds after n text r = record { levelled = refl; placed = refl; scoped = refl; low = omega arith; behind = r.0; spelled = ellipsis_text b n text r.1 }
  more_parameters b (x ∷ xs) before ds after n text r =
      let i = r.3.holds in
      let next : n + length r.1 + 1 ≡ n + 1 + length (spell_parameter x) + 1 = omega (arith, ap length r.3.parts, ap length i.spelled) in
      let m = more_parameters b xs (before ++ x ∷ []) r.0 after (n + length r.1) r.2 r.4 in
      record {
        levelled = rw (i.levelled, m.levelled) refl;
        placed = rw (i.placed, ← next, m.placed) refl;
        scoped = rw (i.scoped, ← i.after, m.scoped) refl;
        low = omega (arith, i.low, m.low);
        behind = rw (← i.after) m.behind;
        spelled = rw (r.5, r.3.parts, i.spelled, m.spelled, append_assoc) refl;
      }

  parameters_more : (b : Bool) (xs before : List ParameterTree) (ds after : List Scope) (n : ℕ) (text : List Lexeme) → MoreParametersAre b ds xs after n text → Rest (Ending EllipsisIs b) (AfterComma (ParameterIs h)) before ds after n text xs
  parameters_more b [] before ds after n text m = (m.behind, text_ellipsis b n text m.spelled)
  parameters_more b (x ∷ xs) before ds after n text m =
      let l = both (levelled_parameter x) (levelled_parameters (parameter_trees xs)) m.levelled in let p = both (placed_parameter (n + 1) x) (placed_parameters (n + 1 + length (spell_parameter x) + 1) (parameter_trees xs)) m.placed in
      let s = both (scoped_parameter ds x) (scoped_parameters (after_parameter ds x) (parameter_trees xs)) m.scoped in
      let next : n + 1 + length (spell_parameter x) + 1 ≡ n + suc (length (spell_parameter x)) + 1 = omega arith in
      let back : List Lexeme = behind_commas (spell_parameters (parameter_trees xs)) ++ spell_ellipsis b in
      let low : parameters_height (parameter_trees xs) ≤ h - 1 = omega (arith, m.low) in (
        after_parameter ds x,
        sign CommaSign ∷ spell_parameter x,
        back,
        record { back = spell_parameter x; parts = refl; holds = record { levelled = l.0; placed = p.0; scoped = s.0; low = omega (arith, m.low, tall_parameter x); after = refl; spelled = refl } },
        parameters_more b xs (before ++ x ∷ []) (after_parameter ds x) after (n + suc (length (spell_parameter x))) back
            (record { levelled = l.1; placed = subst (λ k. placed_parameters k (parameter_trees xs) ≡ true) next p.1; scoped = s.1; low = low; behind = m.behind; spelled = refl }),
        m.spelled ∙ ap (λ u. sign CommaSign ∷ u) (append_assoc (spell_parameter x) (behind_commas (spell_parameters (parameter_trees xs))) (spell_ellipsis b)),
      )

  pub record ParametersAre (ds : List Scope) (x : In (ParameterTrees × Bool)) (n : ℕ) (text : List Lexeme) : Type 0 where
    pub some : has_parameter x.0.0 ≡ true
    pub levelled : levelled_parameters x.0.0 ≡ true
    pub placed : placed_parameters n x.0.0 ≡ true
    pub scoped : scoped_parameters ds x.0.0 ≡ true
    pub low : parameters_height x.0.0 ≤ h - 1
    pub after : x.1 ≡ after_parameters ds x.0.0
    pub spelled : text ≡ with_commas (spell_parameters x.0.0) ++ spell_ellipsis x.0.1

  pub parameters_from : (ds : List Scope) (b : Bool) (xs : List ParameterTree) (after : List Scope) (n : ℕ) (t : List Lexeme) → Listed (Ending EllipsisIs b) (ParameterIs h) ds xs after n t → ParametersAre ds ((parameter_trees xs, b), after) n t
  parameters_from ds b xs after n t l =
      let i = l.holds in
      let m = more_parameters b l.others (l.first.0 ∷ []) l.first.1 after (n + length l.front) l.back l.rest in
      let next : n + length l.front + 1 ≡ n + length (spell_parameter l.first.0) + 1 = omega (arith, ap length i.spelled) in
      subst (λ ys. ParametersAre ds ((parameter_trees ys, b), after) n t) (sym l.list) (record {
        some = refl;
        levelled = rw (i.levelled, m.levelled) refl;
        placed = rw (i.placed, ← next, m.placed) refl;
        scoped = rw (i.scoped, ← i.after, m.scoped) refl;
        low = omega (arith, i.low, m.low);
        after = rw (← i.after) m.behind;
        spelled = rw (l.parts, i.spelled, m.spelled, append_assoc) refl;
      })

  pub parameters_to : (ds : List Scope) (b : Bool) (x : ParameterTree) (xs : List ParameterTree) (after : List Scope) (n : ℕ) (t : List Lexeme) → ParametersAre ds ((parameter_trees (x ∷ xs), b), after) n t → Listed (Ending EllipsisIs b) (ParameterIs h) ds (x ∷ xs) after n t
  parameters_to ds b x xs after n t m =
      let l = both (levelled_parameter x) (levelled_parameters (parameter_trees xs)) m.levelled in let p = both (placed_parameter n x) (placed_parameters (n + length (spell_parameter x) + 1) (parameter_trees xs)) m.placed in
      let s = both (scoped_parameter ds x) (scoped_parameters (after_parameter ds x) (parameter_trees xs)) m.scoped in
      let back : List Lexeme = behind_commas (spell_parameters (parameter_trees xs)) ++ spell_ellipsis b in
      let low : parameters_height (parameter_trees xs) ≤ h - 1 = omega (arith, m.low) in
      record {
        first = (x, after_parameter ds x);
        others = xs;
        front = spell_parameter x;
        back = back;
        list = refl;
        holds = record { levelled = l.0; placed = p.0; scoped = s.0; low = omega (arith, m.low, tall_parameter x); after = refl; spelled = refl };
        rest = parameters_more b xs (x ∷ []) (after_parameter ds x) after (n + length (spell_parameter x)) back (record { levelled = l.1; placed = p.1; scoped = s.1; low = low; behind = m.after; spelled = refl });
        parts = m.spelled ∙ append_assoc (spell_parameter x) (behind_commas (spell_parameters (parameter_trees xs))) (spell_ellipsis b);
      }

  pub parameters_list : ParameterTrees → List ParameterTree
  parameters_list NoParameters = []
  parameters_list (MoreParameters p ps) = p ∷ parameters_list ps

  pub parameters_back : (ps : ParameterTrees) → parameter_trees (parameters_list ps) ≡ ps
  unfolding parameters_list
  parameters_back NoParameters = refl
  parameters_back (MoreParameters p ps) = ap (MoreParameters p) (parameters_back ps)
