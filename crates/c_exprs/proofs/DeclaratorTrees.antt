-- Device: the reading of declarators gives exactly the grammatical ones.
use Rattle.std.proofs.Common.{◌≡◌, refl, sym, ap, ◌∙◌, subst, ℕ, suc, ◌+◌, ◌-◌, ◌<◌, ◌≤◌, length, Bool, true, false, not, ◌&&◌, ◌||◌, nat_eq, nat_le, List, [], ◌∷◌, ◌++◌, Option, Some, None, append_assoc, append-nil, arith, length-append, true≢false}
use Rattle.cil_base.specs.declared.numbers.NameId.{NameId}
use Rattle.cil_base.specs.declared.tokens.TokenKind.{TokenKind}
use Rattle.cil_base.specs.declared.tokens.TokenKind.TheVariants.{Keyword as IsKeyword, Punctuator as IsPunctuator}
use Rattle.cil_base.specs.declared.tokens.Punctuator.TheVariants.{RightBracket, LeftParen, LeftBracket, RightParen, Star as StarSign}
use Rattle.typedef_scopes.specs.Scopes.{Scope, is_type}
use Rattle.c_tree.specs.declared.words.Qualifier.{Qualifier}
use Rattle.c_tree.specs.Syntax.{DeclaratorTree, Declared, Absent, Grouped, Pointer, Array, Function, Unprototyped, BoundTree, ParameterTrees, NoParameters, MoreParameters}
use Rattle.c_tree.specs.Spelling.{spell_qualifiers, Lexeme, sign, named, with_commas, spell_ellipsis, spell_names, spell_declarator, spell_bound, spell_parameters}
use Rattle.c_tree.specs.Height.{declarator_height, parameters_height}
use Rattle.c_tree.specs.Levels.{declares, is_direct, has_other_names, is_bound_of, levelled_bound, has_names, has_parameter, is_absent, is_underived, levelled_declarator, levelled_parameters}
use Rattle.c_tree.specs.Placed.{placed_bound, placed_declarator, placed_parameters}
use Rattle.c_tree.specs.Scoped.{scoped_bound, after_bound, is_no_type, first_name, takes_typedef_names, are_no_types, entered, scoped_declarator, scoped_parameters, after_declarator, after_parameters}
use Rattle.c_exprs.specs.declared.words.Piece.TheVariants.{Name as NamePiece}
use Rattle.c_exprs.specs.declared.words.DeclaratorForm.{DeclaratorForm}
use Rattle.c_exprs.specs.declared.words.DeclaratorForm.TheVariants.{Definition as InDefinition, Member as InMember, Abstract as InAbstract, Parameter as InParameter}
use Rattle.c_exprs.specs.declared.words.Derivation.{Derivation}
use Rattle.c_exprs.specs.declared.words.Derivation.TheVariants.{Array as ArrayOf, Function as FunctionOf}
use Rattle.c_cursor.specs.Readers.{head, here, bind}
use Rattle.c_cursor.specs.Classes.{is_sign, is_name, next_is, if_so}
use Rattle.c_exprs.specs.Classes.{is_qualifier, may_be_absent, may_be_named, is_some_of, piece_word, begins_parameter, may_have_identifiers}
use Rattle.c_exprs.specs.GoesOn.{goes_on_typed, goes_on_name, goes_on_absent, goes_on_declarator}
use Rattle.c_exprs.specs.Subs.{In, Subs}
use Rattle.c_exprs.specs.DeclaratorReading.{begins_function, direct, pointer, declarator_at, declarator, parameter_trees, outer_of}
use Rattle.c_exprs.proofs.Laws
use Rattle.c_exprs.proofs.Laws.{guard_lawful, guard_known, here_lawful, there_lawful, cancelled, Lawful, Any, Anywhere, Next, And, Steps, Ends, More, Token, Mapped, Behind, Before, Both, Either, Met, Unmet, Under, There, Opens, Gives, Numbers, bare, bind_lawful, mapped_lawful, behind_lawful, before_lawful, pure_lawful, when_lawful, many_lawful, steps_fit, one_lawful, opens_lawful, opens_begins, fact_lawful, said, known, ended, take_is, taken_is, At}
use Rattle.c_cursor.proofs.Tokens.{eq_true, true_eq}
use Rattle.c_exprs.proofs.Tokens.{derivation_text, derivation_is, is_derivation, a_name_is, true_le, le_true, both, none_of, not_true, or_true, sign_tells}
use Rattle.c_exprs.proofs.Heads.{nameless, declarator_begins}
use Rattle.c_exprs.proofs.Relations.{Below, DeclaratorIs, EndsDeclarator, is_of_form, LawfulSubs}
use Rattle.c_exprs.proofs.ExprTrees.{tall_declarator}
use Rattle.c_exprs.proofs.BoundLaws.{QualifiersAre, qualifiers_lawful, qualifiers_long}
use Rattle.c_exprs.proofs.ParameterLaws.{ParametersAre, parameters_from, parameters_to, parameters_list, parameters_back, first_head}
use Rattle.c_exprs.proofs.ScopeLemmas.{outer_after}
use Rattle.c_exprs.proofs.Climbing.{steps_snoc}
use Rattle.c_exprs.proofs.DeclaratorLaws.{EmptyList, NameList, Prototype, ListIs, ArrayIs, OfDerivation, blocked, Derives, derivations_lawful, derivations_fit, GroupedIs, BehindGroup, InnerIs, inner_lawful, inner_no_star}
use Rattle.cil_base.specs.declared.tokens.Keyword.{Keyword}
use Rattle.cil_base.specs.declared.tokens.Keyword.TheVariants.{Const as ConstWord, Restrict as RestrictWord}
use Rattle.c_exprs.specs.Classes.{qualifier_word_kind}

-- a declarator with its first token's number, not counting which ones stand in parentheses
pub record GoodDeclarator (Low : ℕ → Type 0) (form : DeclaratorForm) (ds : List Scope) (n : ℕ) (x : In DeclaratorTree) : Type 0 where
  pub of_form : is_of_form form ds x.0 ≡ true
  pub direct : is_direct x.0 ≡ true
  pub levelled : levelled_declarator x.0 ≡ true
  pub placed : placed_declarator n x.0 ≡ true
  pub scoped : scoped_declarator ds x.0 ≡ true
  pub low : Low (declarator_height x.0)
  pub after : x.1 ≡ after_declarator ds x.0

array_form : (f : DeclaratorForm) (ds : List Scope) (at : ℕ) (d : DeclaratorTree) (b : BoundTree) → is_of_form f ds (Array at d b) ≡ is_of_form f ds d
array_form InDefinition ds at d b = refl
array_form InMember ds at d b = refl
array_form InAbstract ds at d b = refl
array_form InParameter ds at d b = refl

function_form : (f : DeclaratorForm) (ds : List Scope) (at : ℕ) (d : DeclaratorTree) (ps : ParameterTrees) (v : Bool) → is_of_form f ds (Function at d ps v) ≡ is_of_form f ds d
function_form InDefinition ds at d ps v = refl
function_form InMember ds at d ps v = refl
function_form InAbstract ds at d ps v = refl
function_form InParameter ds at d ps v = refl

and_none : (b : Bool) → (b && false) ≡ false
and_none true = refl
and_none false = refl

empty_form : (f : DeclaratorForm) (ds : List Scope) (at : ℕ) (d : DeclaratorTree) → is_of_form f ds (Unprototyped at d []) ≡ is_of_form f ds d
empty_form InDefinition ds at d = ap (λ b. declares d && not (b || has_other_names d)) (and_none (not (is_underived d)))
empty_form InMember ds at d = refl
empty_form InAbstract ds at d = refl
empty_form InParameter ds at d = refl

names_form : (f : DeclaratorForm) (ds : List Scope) (at : ℕ) (d : DeclaratorTree) (ns : List NameId) → (may_have_identifiers f && is_underived d) ≡ true → is_of_form f ds d ≡ true → is_of_form f ds (Unprototyped at d ns) ≡ true
names_form InDefinition ds at d ns m e = rw m e
names_form InMember ds at d ns m e = absurd (true≢false (sym m))
names_form InAbstract ds at d ns m e = absurd (true≢false (sym m))
names_form InParameter ds at d ns m e = absurd (true≢false (sym m))

underived_of : (u : Bool) → (not u && true) ≡ false → u ≡ true
underived_of true e = refl
underived_of false e = absurd (true≢false e)

-- a list of names that is not empty stands in a definition alone, behind the name alone
pub record NamesAllowed (f : DeclaratorForm) (ds : List Scope) (d : DeclaratorTree) : Type 0 where
  pub of_form : is_of_form f ds d ≡ true
  pub allowed : (may_have_identifiers f && is_underived d) ≡ true

form_names : (f : DeclaratorForm) (ds : List Scope) (at : ℕ) (d : DeclaratorTree) (n : NameId) (ns : List NameId) → is_of_form f ds (Unprototyped at d (n ∷ ns)) ≡ true → NamesAllowed f ds d
form_names InDefinition ds at d n ns e =
    let k = both (declares d) (not ((not (is_underived d) && true) || has_other_names d)) e in
    let o = none_of (not (is_underived d) && true) (has_other_names d) (not_true ((not (is_underived d) && true) || has_other_names d) k.1) in
    record { of_form = rw (k.0, o.1) refl; allowed = underived_of (is_underived d) o.0 }
form_names InMember ds at d n ns e = absurd (true≢false (sym (both (declares d) false e).1))
form_names InAbstract ds at d n ns e = absurd (true≢false (sym (or_true (declares d)) ∙ not_true (declares d || true) e))
form_names InParameter ds at d n ns e = absurd (true≢false (sym e))

-- an absent name is that of a form that may have none
form_absent : (f : DeclaratorForm) (ds : List Scope) (at : ℕ) → is_of_form f ds (Absent at) ≡ true → may_be_absent f ≡ true
form_absent InDefinition ds at e = absurd (true≢false (sym e))
form_absent InMember ds at e = absurd (true≢false (sym e))
form_absent InAbstract ds at e = refl
form_absent InParameter ds at e = refl

absent_form : (f : DeclaratorForm) (ds : List Scope) (at : ℕ) → may_be_absent f ≡ true → is_of_form f ds (Absent at) ≡ true
absent_form InDefinition ds at e = absurd (true≢false (sym e))
absent_form InMember ds at e = absurd (true≢false (sym e))
absent_form InAbstract ds at e = refl
absent_form InParameter ds at e = refl

form_named : (f : DeclaratorForm) (ds : List Scope) (at : ℕ) (n : NameId) → is_of_form f ds (Declared at n) ≡ true → may_be_named f ≡ true
form_named InDefinition ds at n e = refl
form_named InMember ds at n e = refl
form_named InAbstract ds at n e = absurd (true≢false (sym e))
form_named InParameter ds at n e = refl

named_form : (f : DeclaratorForm) (ds : List Scope) (at : ℕ) (n : NameId) → may_be_named f ≡ true → is_of_form f ds (Declared at n) ≡ true
named_form InDefinition ds at n e = refl
named_form InMember ds at n e = refl
named_form InAbstract ds at n e = absurd (true≢false (sym e))
named_form InParameter ds at n e = refl

-- in parentheses

grouped_form : (f : DeclaratorForm) (ds : List Scope) (at : ℕ) (d : DeclaratorTree) → is_of_form f ds d ≡ true → (may_be_absent f && not (is_no_type ds (first_name d))) ≡ false → is_of_form f ds (Grouped at d) ≡ true
grouped_form InDefinition ds at d e n = e
grouped_form InMember ds at d e n = e
grouped_form InAbstract ds at d e n = e
grouped_form InParameter ds at d e n = let k = both (not (has_names d)) (takes_typedef_names ds d) e in rw (k.0, back (is_no_type ds (first_name d)) n, k.1) refl
  where
    back : (b : Bool) → not b ≡ false → b ≡ true
    back true e = refl
    back false e = absurd (true≢false e)

form_grouped : (f : DeclaratorForm) (ds : List Scope) (at : ℕ) (d : DeclaratorTree) → is_of_form f ds (Grouped at d) ≡ true → is_of_form f ds d ≡ true
form_grouped InDefinition ds at d e = e
form_grouped InMember ds at d e = e
form_grouped InAbstract ds at d e = e
form_grouped InParameter ds at d e = let k = both (not (has_names d)) (is_no_type ds (first_name d) && takes_typedef_names ds d) e in rw (k.0, (both (is_no_type ds (first_name d)) (takes_typedef_names ds d) k.1).1) refl

pointer_form : (f : DeclaratorForm) (ds : List Scope) (at : ℕ) (qs : List Qualifier) (d : DeclaratorTree) → is_of_form f ds (Pointer at qs d) ≡ is_of_form f ds d
pointer_form InDefinition ds at qs d = refl
pointer_form InMember ds at qs d = refl
pointer_form InAbstract ds at qs d = refl
pointer_form InParameter ds at qs d = refl

-- what ends a declarator of the form stands behind an absent name
form_blocked : (f : DeclaratorForm) (ds : List Scope) (d : DeclaratorTree) (h : ℕ) (sub : Subs) (parts : LawfulSubs (Below h) sub) (o : Option Lexeme) → is_of_form f ds d ≡ true → goes_on_declarator f o ≡ false → blocked h sub parts f d o ≡ false
form_blocked f ds (Absent at) h sub parts o e g = by f o (form_absent f ds at e) g
  where
    apart_of : (k : TokenKind) → goes_on_absent k ≡ false → (is_sign LeftParen k ≡ false) × (is_sign StarSign k ≡ false)
    apart_of k g =
        let a = none_of (goes_on_name k || is_sign StarSign k) (goes_on_typed true [] k) g in let b = none_of (goes_on_name k) (is_sign StarSign k) a.0 in
        ((none_of (is_sign LeftParen k) (is_sign LeftBracket k) b.0).0, b.1)

    by : (f : DeclaratorForm) (o : Option Lexeme) → may_be_absent f ≡ true → goes_on_declarator f o ≡ false → next_is (λ k. (is_sign LeftParen k || is_sign StarSign k) || (may_be_named f && is_name k)) o ≡ false
    by f None m g = refl
    by InDefinition (Some u) m g = absurd (true≢false (sym m))
    by InMember (Some u) m g = absurd (true≢false (sym m))
    by InAbstract (Some u) m g = let k = apart_of u.kind g in rw (k.0, k.1) refl
    by InParameter (Some u) m g = let a = none_of (goes_on_absent u.kind) (is_name u.kind) g in let k = apart_of u.kind a.0 in rw (k.0, k.1, a.1) refl
form_blocked f ds _ h sub parts o e g = refl

word_no_qualifier : (w : Keyword) → is_some_of (piece_word w) ≡ false → is_some_of (qualifier_word_kind w) ≡ false
word_no_qualifier ConstWord e = absurd (true≢false e)
word_no_qualifier RestrictWord e = absurd (true≢false e)
word_no_qualifier _ e = refl

absent_no_qualifier : (k : TokenKind) → goes_on_absent k ≡ false → is_qualifier k ≡ false
absent_no_qualifier (IsKeyword w) e = word_no_qualifier w e
absent_no_qualifier _ e = refl

form_no_qualifier : (f : DeclaratorForm) (ds : List Scope) (d : DeclaratorTree) (o : Option Lexeme) → is_of_form f ds d ≡ true → is_absent d ≡ true → goes_on_declarator f o ≡ false → next_is is_qualifier o ≡ false
form_no_qualifier f ds d None e a g = refl
form_no_qualifier InAbstract ds d (Some u) e a g = absent_no_qualifier u.kind g
form_no_qualifier InParameter ds d (Some u) e a g = absent_no_qualifier u.kind (none_of (goes_on_absent u.kind) (is_name u.kind) g).0
form_no_qualifier InDefinition ds (Absent at) (Some u) e a g = absurd (true≢false (sym e))
form_no_qualifier InDefinition ds _ (Some u) e a g = absurd (true≢false (sym a))
form_no_qualifier InMember ds (Absent at) (Some u) e a g = absurd (true≢false (sym e))
form_no_qualifier InMember ds _ (Some u) e a g = absurd (true≢false (sym a))

module _ (h : ℕ) (sub : Subs) (parts : LawfulSubs (Below h) sub) (form : DeclaratorForm) (ds : List Scope) (at : ℕ) where
  abbrev Good : In DeclaratorTree → Type 0
  Good = GoodDeclarator (Below (suc h)) form ds at

  record Made (x y : In DeclaratorTree) (t : List Lexeme) : Type 0 where
    good : Good y
    spelled : spell_declarator y.0 ≡ spell_declarator x.0 ++ t

  -- one derivation more

  module _ (x : In DeclaratorTree) (good : Good x) (low : declarator_height x.0 < h) where
    empty_from : (y : In DeclaratorTree) (n : ℕ) (t : List Lexeme) → EmptyList h sub parts form at x y n t → Made x y (sign LeftParen ∷ t)
    empty_from y n t b = subst (λ w. Made x w (sign LeftParen ∷ t)) (sym b.holds.value) (record {
      good = record { of_form = empty_form form ds at x.0 ∙ good.of_form; direct = refl; levelled = rw (good.direct, good.levelled) refl; placed = rw (true_eq at, good.placed) refl; scoped = rw good.scoped refl; low = omega (arith, low); after = good.after };
      spelled = rw (b.parts, b.holds.nothing) refl;
    })

    names_from : (y : In DeclaratorTree) (n : ℕ) (t : List Lexeme) → NameList h sub parts form at x y n t → Made x y (sign LeftParen ∷ t)
    names_from y n t u =
        let b = u.holds in let i = b.holds in
        let free : are_no_types (after_declarator ds x.0) b.value ≡ true = subst (λ s. are_no_types s b.value ≡ true) good.after i.no_types in
        subst (λ w. Made x w (sign LeftParen ∷ t)) (sym b.is) (record {
          good = record { of_form = names_form form ds at x.0 b.value u.met good.of_form; direct = refl; levelled = rw (good.direct, good.levelled) refl; placed = rw (true_eq at, good.placed) refl; scoped = rw (good.scoped, free) refl; low = omega (arith, low); after = good.after };
          spelled = rw (b.parts, i.spelled) refl;
        })

    prototype_from : (y : In DeclaratorTree) (n : ℕ) (t : List Lexeme) → n ≡ at + length (spell_declarator x.0) + 1 → Prototype h sub parts form at x y n t → Made x y (sign LeftParen ∷ t)
    prototype_from y n t number b =
        let p = parameters_from h sub parts (entered x.1) b.value.0.1 b.value.0.0 b.value.1 n b.front b.holds in
        let placed : placed_parameters (at + length (spell_declarator x.0) + 1) (parameter_trees b.value.0.0) ≡ true = subst (λ k. placed_parameters k (parameter_trees b.value.0.0) ≡ true) number p.placed in
        let scoped : scoped_parameters (entered (after_declarator ds x.0)) (parameter_trees b.value.0.0) ≡ true = subst (λ s. scoped_parameters (entered s) (parameter_trees b.value.0.0) ≡ true) good.after p.scoped in
        subst (λ w. Made x w (sign LeftParen ∷ t)) (sym b.is) (record {
          good = record {
            of_form = function_form form ds at x.0 (parameter_trees b.value.0.0) b.value.0.1 ∙ good.of_form;
            direct = refl;
            levelled = rw (good.direct, good.levelled, p.some, p.levelled) refl;
            placed = rw (true_eq at, good.placed, placed) refl;
            scoped = rw (good.scoped, scoped) refl;
            low = omega (arith, low, p.low);
            after = ap outer_of p.after ∙ (outer_after x.1 (parameter_trees b.value.0.0) ∙ good.after);
          };
          spelled = rw (b.parts, p.spelled) refl;
        })

    list_from : (y : In DeclaratorTree) (n : ℕ) (t : List Lexeme) → n ≡ at + length (spell_declarator x.0) + 1 → ListIs h sub parts form at x y n t → Made x y (sign LeftParen ∷ t)
    list_from y n t number (Met b) = empty_from y n t b
    list_from y n t number (Unmet (Met b)) = names_from y n t b
    list_from y n t number (Unmet (Unmet b)) = prototype_from y n t number b

    array_from : (y : In DeclaratorTree) (b n : ℕ) (t : List Lexeme) → b ≡ at + length (spell_declarator x.0) → ArrayIs h sub parts form at b x y n t → Made x y (sign LeftBracket ∷ t)
    array_from y b n t number i =
        let k = i.holds in
        let placed : placed_bound (at + length (spell_declarator x.0)) i.value.0 ≡ true = subst (λ j. placed_bound j i.value.0 ≡ true) number k.placed in
        let scoped : scoped_bound (after_declarator ds x.0) i.value.0 ≡ true = subst (λ s. scoped_bound s i.value.0 ≡ true) good.after k.scoped in
        subst (λ w. Made x w (sign LeftBracket ∷ t)) (sym i.is) (record {
          good = record {
            of_form = array_form form ds at x.0 i.value.0 ∙ good.of_form;
            direct = refl;
            levelled = rw (good.direct, good.levelled, k.of_name, k.levelled) refl;
            placed = rw (true_eq at, good.placed, placed) refl;
            scoped = rw (good.scoped, scoped) refl;
            low = omega (arith, low, k.low);
            after = k.after ∙ ap (λ s. after_bound s i.value.0) good.after;
          };
          spelled = rw (i.parts, k.spelled) refl;
        })

    of_from : (k : Derivation) (y : In DeclaratorTree) (b : ℕ) (t : List Lexeme) → b ≡ at + length (spell_declarator x.0) → OfDerivation h sub parts form at b x k y (b + 1) t → Made x y (derivation_text k ∷ t)
    of_from ArrayOf y b t number i = array_from y b (b + 1) t number i
    of_from FunctionOf y b t number i = list_from y (b + 1) t (ap (λ j. j + 1) number) i

  derive_from : (x y : In DeclaratorTree) (n : ℕ) (t : List Lexeme) → Good x → n ≡ at + length (spell_declarator x.0) → Derives h sub parts form at x y n t → Made x y t
  derive_from x y n t good number o =
      let b = o.holds in let k = b.second in
      let token = derivation_is h x.0 k.first.holds.token k.value k.first.holds.is in
      let one : k.front ≡ derivation_text k.value ∷ [] = k.first.holds.alone ∙ ap (λ u. u ∷ []) token.0 in
      let next : n + length b.front + length k.front ≡ b.value + 1 = omega (arith, k.first.number, ap length one) in
      let text : t ≡ derivation_text k.value ∷ k.back = b.parts ∙ (ap (λ f. f ++ b.back) b.first.nothing ∙ (k.parts ∙ ap (λ f. f ++ k.back) one)) in
      subst (Made x y) (sym text) (of_from x good token.1 k.value y b.value k.back (b.first.value ∙ number) (subst (λ m. OfDerivation h sub parts form at b.value x k.value y m k.back) next k.second))

  steps_from : (z x : In DeclaratorTree) (n : ℕ) (t : List Lexeme) → Good x → n ≡ at + length (spell_declarator x.0) → Steps (Derives h sub parts form at) z x n t → Made x z t
  steps_from z x n t good number (Ends e none) = subst (λ w. Made x w t) e (record { good = good; spelled = rw (none, append-nil) refl })
  steps_from z x n t good number (More y front back o steps split) =
      let m = derive_from x y n front good number o in
      let next : n + length front ≡ at + length (spell_declarator y.0) = omega (arith, number, ap length m.spelled, length-append (spell_declarator x.0) front) in
      let r = steps_from z y (n + length front) back m.good next steps in
      record { good = r.good; spelled = rw (r.spelled, m.spelled, split, append_assoc) refl }

  -- what derivations stand behind

  record Based (x : In DeclaratorTree) (t : List Lexeme) : Type 0 where
    good : Good x
    spelled : spell_declarator x.0 ≡ t

  no_function : (f : DeclaratorForm) (d : DeclaratorTree) (o : Option NameId) (rest : List Lexeme) → first_name d ≡ o → begins_function f ds (head (spell_declarator d ++ rest)) ≡ false → (may_be_absent f && not (is_no_type ds o)) ≡ false
  no_function f d None rest e b = and_none (may_be_absent f)
  no_function f d (Some n) rest e b = by (may_be_absent f) (is_type ds n) (ap (begins_function f ds) (sym (first_head d n rest e)) ∙ b)
    where
      by : (a t : Bool) → (a && is_some_of (if_so t (NamePiece n))) ≡ false → (a && not (not t)) ≡ false
      by true true e = absurd (true≢false e)
      by true false e = refl
      by false t e = refl

  group_from : (x : In DeclaratorTree) (t : List Lexeme) → Opens (begins_function form ds) false (GroupedIs h sub parts form at ds) x (at + 1) t → Based x (sign LeftParen ∷ t)
  group_from x t o =
      let g = o.holds in let d = g.first in let u = g.second in let b = u.holds in
      let text : t ≡ spell_declarator g.value.0 ++ sign RightParen ∷ [] = g.parts ∙ (ap (λ f. f ++ g.back) d.spelled ∙ ap (λ r. spell_declarator g.value.0 ++ r) (b.parts ∙ ap (λ r. sign RightParen ∷ r) b.holds.nothing)) in
      let some : 0 < length t = omega (arith, ap length text, length-append (spell_declarator g.value.0) (sign RightParen ∷ [])) in
      let off = no_function form g.value.0 (first_name g.value.0) (sign RightParen ∷ []) refl (ap (λ u. begins_function form ds (head u)) (sym text) ∙ o.first some) in
      subst (λ w. Based w (sign LeftParen ∷ t)) (sym b.holds.value) (record {
        good = record { of_form = grouped_form form ds at g.value.0 d.of_form off; direct = refl; levelled = rw (u.met, d.levelled) refl; placed = rw (true_eq at, d.placed) refl; scoped = d.scoped; low = omega (arith, d.low); after = d.after };
        spelled = ap (λ r. sign LeftParen ∷ r) (sym text);
      })

  absent_good : 1 ≤ h → may_be_absent form ≡ true → Good (Absent at, ds)
  absent_good some a = record { of_form = absent_form form ds at a; direct = refl; levelled = refl; placed = true_eq at; scoped = refl; low = omega (arith, some); after = refl }

  inner_from : 1 ≤ h → (x : In DeclaratorTree) (t : List Lexeme) → InnerIs h sub parts form at ds x at t → Based x t
  inner_from some x t (Met p) = by p.holds
    where
      by : BehindGroup h sub parts form at ds x (at + 1) p.back → Based x t
      by (Met u) = let m = list_from (Absent at, ds) (absent_good some u.met) (le_true 2 h u.holds.met) x (at + 1) p.back (omega arith) u.holds.holds in record { good = m.good; spelled = m.spelled ∙ sym p.parts }
      by (Unmet o) = subst (Based x) (sym p.parts) (group_from x p.back o)
  inner_from some x t (Unmet (Met u)) =
      let m = u.holds in
      subst (λ w. Based w t) (sym m.is) (record { good = record { of_form = named_form form ds at m.value u.met; direct = refl; levelled = refl; placed = true_eq at; scoped = refl; low = omega (arith, some); after = refl }; spelled = sym (m.holds.alone ∙ ap (λ v. v ∷ []) (a_name_is m.holds.token m.value m.holds.is)) })
  inner_from some x t (Unmet (Unmet u)) = subst (λ w. Based w t) (sym u.holds.value) (record { good = absent_good some u.met; spelled = sym u.holds.nothing })

  abbrev DirectParts : In DeclaratorTree → ℕ → List Lexeme → Type 0
  DirectParts = There at (Both (InnerIs h sub parts form at ds) (λ x z. Steps (Derives h sub parts form at) z x))

  direct_from : 1 ≤ h → (z : In DeclaratorTree) (n : ℕ) (t : List Lexeme) → DirectParts z n t → Based z t
  direct_from some z n t i =
      let b = i.holds in
      let x = inner_from some b.value b.front (subst (λ m. InnerIs h sub parts form at ds b.value m b.front) i.number b.first) in
      let next : n + length b.front ≡ at + length (spell_declarator b.value.0) = omega (arith, i.number, ap length x.spelled) in
      let m = steps_from z b.value (n + length b.front) b.back x.good next b.second in
      record { good = m.good; spelled = rw (m.spelled, x.spelled, b.parts) refl }

  -- and back

  record Descent (d : DeclaratorTree) : Type 0 where
    base : DeclaratorTree
    front : List Lexeme
    back : List Lexeme
    inner_is : InnerIs h sub parts form at ds (base, after_declarator ds base) at front
    steps : Steps (Derives h sub parts form at) (d, after_declarator ds d) (base, after_declarator ds base) (at + length front) back
    spelled : spell_declarator d ≡ front ++ back

  descent_here : (d : DeclaratorTree) → InnerIs h sub parts form at ds (d, after_declarator ds d) at (spell_declarator d) → Descent d
  descent_here d i = record { base = d; front = spell_declarator d; back = []; inner_is = i; steps = Ends refl refl; spelled = sym (append-nil (spell_declarator d)) }

  snoc : (w z x : In DeclaratorTree) (n : ℕ) (t u : List Lexeme) → Steps (Derives h sub parts form at) w x n t → Derives h sub parts form at w z (n + length t) u → Steps (Derives h sub parts form at) z x n (t ++ u)
  snoc w z x n t u s k = steps_snoc w z x n t u s k

  -- one derivation more
  descent_more : (k : Derivation) (d z : DeclaratorTree) (t : List Lexeme) → Descent d → declarator_height d < h → OfDerivation h sub parts form at (at + length (spell_declarator d)) (d, after_declarator ds d) k (z, after_declarator ds z) (at + length (spell_declarator d) + 1) t →
      blocked h sub parts form d (Some (derivation_text k)) ≡ false → spell_declarator z ≡ spell_declarator d ++ (derivation_text k ∷ t) → Descent z
  descent_more k d z t c low o free spelled =
      let b : ℕ = at + length (spell_declarator d) in
      let there : at + length c.front + length c.back ≡ b = omega (arith, ap length c.spelled, length-append c.front c.back) in
      let derives : Derives h sub parts form at (d, after_declarator ds d) (z, after_declarator ds z) b (derivation_text k ∷ t) = record {
        first = λ some. free;
        holds = record {
          value = b;
          front = [];
          back = derivation_text k ∷ t;
          first = record { value = refl; nothing = refl };
          parts = refl;
          second = record {
            value = k;
            front = derivation_text k ∷ [];
            back = t;
            first = record { number = Laws.add_none b; holds = record { token = derivation_text k; is = is_derivation h d k low; alone = refl } };
            second = subst (λ m. OfDerivation h sub parts form at b (d, after_declarator ds d) k (z, after_declarator ds z) (m + 1) t) (sym (Laws.add_none b)) o;
            parts = refl;
          };
        };
      } in
      record {
        base = c.base;
        front = c.front;
        back = c.back ++ (derivation_text k ∷ t);
        inner_is = c.inner_is;
        steps = snoc (d, after_declarator ds d) (z, after_declarator ds z) (c.base, after_declarator ds c.base) (at + length c.front) c.back (derivation_text k ∷ t) c.steps (rw there derives);
        spelled = rw (spelled, c.spelled, append_assoc) refl;
      }

  -- the list behind a declarator
  prototype_of : (d : DeclaratorTree) (ps : ParameterTrees) (v : Bool) (n : ℕ) → has_parameter ps ≡ true → levelled_parameters ps ≡ true → placed_parameters n ps ≡ true → scoped_parameters (entered (after_declarator ds d)) ps ≡ true → parameters_height ps ≤ h - 1 →
      ListIs h sub parts form at (d, after_declarator ds d) (Function at d ps v, after_declarator ds d) n ((with_commas (spell_parameters ps) ++ spell_ellipsis v) ++ sign RightParen ∷ [])
  prototype_of d NoParameters v n some l p s low = absurd (true≢false (sym some))
  prototype_of d (MoreParameters x xs) v n some l p s low =
      let k = parameters_back h sub parts xs in
      let es : List Scope = entered (after_declarator ds d) in
      let after : List Scope = after_parameters es (MoreParameters x xs) in
      let whole : ParametersAre h sub parts es ((parameter_trees (x ∷ parameters_list h sub parts xs), v), after) n (with_commas (spell_parameters (MoreParameters x xs)) ++ spell_ellipsis v) =
      subst (λ ys. ParametersAre h sub parts es ((MoreParameters x ys, v), after) n (with_commas (spell_parameters (MoreParameters x xs)) ++ spell_ellipsis v)) (sym k)
      (record { some = refl; levelled = l; placed = p; scoped = s; low = low; after = refl; spelled = refl }) in
      Unmet (Unmet (record {
        value = ((x ∷ parameters_list h sub parts xs, v), after);
        front = with_commas (spell_parameters (MoreParameters x xs)) ++ spell_ellipsis v;
        parts = refl;
        holds = parameters_to h sub parts es v x (parameters_list h sub parts xs) after n (with_commas (spell_parameters (MoreParameters x xs)) ++ spell_ellipsis v) whole;
        is = ap (λ ys. (Function at d (MoreParameters x ys) v, after_declarator ds d)) (sym k) ∙ ap (λ e. (Function at d (parameter_trees (x ∷ parameters_list h sub parts xs)) v, e)) (sym (outer_after (after_declarator ds d) (MoreParameters x xs)));
      }))

  names_of : (d : DeclaratorTree) (ns : List NameId) (n : ℕ) → is_of_form form ds (Unprototyped at d ns) ≡ true → are_no_types (after_declarator ds d) ns ≡ true →
      (is_of_form form ds d ≡ true) × ListIs h sub parts form at (d, after_declarator ds d) (Unprototyped at d ns, after_declarator ds d) n (spell_names ns ++ sign RightParen ∷ [])
  names_of d [] n f free = (sym (empty_form form ds at d) ∙ f, Met (record { back = []; holds = record { value = refl; nothing = refl }; parts = refl }))
  names_of d (m ∷ ns) n f free = let a = form_names form ds at d m ns f in (a.of_form, Unmet (Met (record { met = a.allowed; holds = record { value = m ∷ ns; front = spell_names (m ∷ ns); holds = record { some = refl; no_types = free; spelled = refl }; is = refl; parts = refl } })))

  absent_is : (d : DeclaratorTree) → is_absent d ≡ true → (k : ℕ) × (d ≡ Absent k)
  absent_is (Absent k) e = (k, refl)
  absent_is _ e = absurd (true≢false (sym e))

  never_blocked : (d : DeclaratorTree) (o : Option Lexeme) → is_absent d ≡ false → blocked h sub parts form d o ≡ false
  never_blocked (Absent k) o e = absurd (true≢false e)
  never_blocked _ o e = refl

  -- a function's list behind an absent name is read with it
  behind_list : (d z : DeclaratorTree) (t : List Lexeme) → is_of_form form ds d ≡ true → placed_declarator at d ≡ true → Descent d → declarator_height d < h → ListIs h sub parts form at (d, after_declarator ds d) (z, after_declarator ds z) (at + length (spell_declarator d) + 1) t →
      spell_declarator z ≡ spell_declarator d ++ (sign LeftParen ∷ t) → (b : Bool) → is_absent d ≡ b → Descent z
  behind_list d z t f p c low o spelled false a = descent_more FunctionOf d z t c low o (never_blocked d (Some (sign LeftParen)) a) spelled
  behind_list d z t f p c low o spelled true a =
      let k = absent_is d a in
      let here_is : d ≡ Absent at = k.1 ∙ ap Absent (eq_true k.0 at (subst (λ e. placed_declarator at e ≡ true) k.1 p)) in
      let none : may_be_absent form ≡ true = form_absent form ds at (subst (λ e. is_of_form form ds e ≡ true) here_is f) in
      let two : nat_le 2 h ≡ true = true_le 2 h (omega (arith, low, tall_declarator d)) in
      let list : ListIs h sub parts form at (Absent at, ds) (z, after_declarator ds z) (at + 1) t = subst (λ m. ListIs h sub parts form at (Absent at, ds) (z, after_declarator ds z) (m + 1) t) (Laws.add_none at)
      (subst (λ e. ListIs h sub parts form at (e, after_declarator ds e) (z, after_declarator ds z) (at + length (spell_declarator e) + 1) t) here_is o) in
      let text : spell_declarator z ≡ sign LeftParen ∷ t = spelled ∙ ap (λ e. spell_declarator e ++ (sign LeftParen ∷ t)) here_is in
      descent_here z (Met (record { back = t; parts = text; holds = Met (record { met = none; holds = record { met = two; holds = list } }) }))

  function_no_group : (f : DeclaratorForm) (d : DeclaratorTree) → is_of_form f ds (Grouped at d) ≡ true → is_absent d ≡ false → (rest : List Lexeme) → begins_function f ds (head (spell_declarator d ++ rest)) ≡ false
  function_no_group InDefinition d e a rest = refl
  function_no_group InMember d e a rest = refl
  function_no_group InAbstract d e a rest =
      declarator_begins (λ k. is_sign RightParen k || begins_parameter ds k) (record { star = refl; parenthesis = refl; bracket = refl }) d rest
      (λ n f. absurd (Laws.none_is_no (sym (nameless d (none_of (declares d) (has_names d) (not_true (declares d || has_names d) e)).0) ∙ f))) (λ t. absurd (true≢false (sym t ∙ a)))
  function_no_group InParameter d e a rest =
      let k = both (not (has_names d)) (is_no_type ds (first_name d) && takes_typedef_names ds d) e in let l = both (is_no_type ds (first_name d)) (takes_typedef_names ds d) k.1 in
      declarator_begins (λ k. is_sign RightParen k || begins_parameter ds k) (record { star = refl; parenthesis = refl; bracket = refl }) d rest
      (λ n f. name_off n (subst (λ o. is_no_type ds o ≡ true) f l.0)) (λ t. absurd (true≢false (sym t ∙ a)))
    where
      name_off : (n : NameId) → not (is_type ds n) ≡ true → is_some_of (if_so (is_type ds n) (NamePiece n)) ≡ false
      name_off n e = rw (not_true (is_type ds n) e) refl

  descend : (d : DeclaratorTree) → Good (d, after_declarator ds d) → Descent d
  descend (Declared a n) g = subst (λ k. Descent (Declared k n)) (sym (eq_true a at g.placed))
      (descent_here (Declared at n) (Unmet (Met (record { met = form_named form ds a n g.of_form; holds = record { value = n; holds = record { token = named n; is = refl; alone = refl }; is = refl } }))))
  descend (Absent a) g = subst (λ k. Descent (Absent k)) (sym (eq_true a at g.placed)) (descent_here (Absent at) (Unmet (Unmet (record { met = form_absent form ds a g.of_form; holds = record { value = refl; nothing = refl } }))))
  descend (Grouped a d) g =
      let l = both (not (is_absent d)) (levelled_declarator d) g.levelled in let p = both (nat_eq a at) (placed_declarator (at + 1) d) g.placed in
      let f : is_of_form form ds (Grouped at d) ≡ true = subst (λ k. is_of_form form ds (Grouped k d) ≡ true) (eq_true a at p.0) g.of_form in
      let text : List Lexeme = spell_declarator d ++ sign RightParen ∷ [] in
      subst (λ k. Descent (Grouped k d)) (sym (eq_true a at p.0)) (descent_here (Grouped at d) (Met (record {
        back = text;
        parts = refl;
        holds = Unmet (record {
          first = λ some. function_no_group form d f (not_true (is_absent d) l.0) (sign RightParen ∷ []);
          holds = record {
            value = (d, after_declarator ds d);
            front = spell_declarator d;
            back = sign RightParen ∷ [];
            parts = refl;
            first = record { of_form = form_grouped form ds at d f; levelled = l.1; placed = p.1; scoped = g.scoped; low = omega (arith, g.low); after = refl; spelled = refl };
            second = record { met = l.0; holds = record { back = []; holds = record { value = refl; nothing = refl }; parts = refl } };
          };
        });
      })))
  descend (Pointer a qs d) g = absurd (true≢false (sym g.direct))
  descend (Array a d b) g =
      let l = both (is_direct d && levelled_declarator d) (is_bound_of (declares d) b && levelled_bound b) g.levelled in let l0 = both (is_direct d) (levelled_declarator d) l.0 in let l1 = both (is_bound_of (declares d) b) (levelled_bound b) l.1 in
      let p = both (nat_eq a at) (placed_declarator at d && placed_bound (at + length (spell_declarator d)) b) g.placed in let p1 = both (placed_declarator at d) (placed_bound (at + length (spell_declarator d)) b) p.1 in
      let s = both (scoped_declarator ds d) (scoped_bound (after_declarator ds d) b) g.scoped in
      let low : declarator_height d < h = omega (arith, g.low) in
      let c = descend d (record { of_form = sym (array_form form ds a d b) ∙ g.of_form; direct = l0.0; levelled = l0.1; placed = p1.0; scoped = s.0; low = omega (arith, low); after = refl }) in
      subst (λ k. Descent (Array k d b)) (sym (eq_true a at p.0)) (descent_more ArrayOf d (Array at d b) (spell_bound b ++ sign RightBracket ∷ []) c low
      (record {
        value = (b, after_bound (after_declarator ds d) b);
        front = spell_bound b;
        is = refl;
        parts = refl;
        holds = record { levelled = l1.1; of_name = l1.0; placed = p1.1; scoped = s.1; low = omega (arith, g.low); after = refl; spelled = refl; number = refl };
      })
      (free_bracket d) refl)
    where
      free_bracket : (d : DeclaratorTree) → blocked h sub parts form d (Some (sign LeftBracket)) ≡ false
      free_bracket (Absent k) = and_none (may_be_named form)
      free_bracket _ = refl
  descend (Function a d ps v) g =
      let l = both (is_direct d && levelled_declarator d) (has_parameter ps && levelled_parameters ps) g.levelled in let l0 = both (is_direct d) (levelled_declarator d) l.0 in let l1 = both (has_parameter ps) (levelled_parameters ps) l.1 in
      let p = both (nat_eq a at) (placed_declarator at d && placed_parameters (at + length (spell_declarator d) + 1) ps) g.placed in let p1 = both (placed_declarator at d) (placed_parameters (at + length (spell_declarator d) + 1) ps) p.1 in
      let s = both (scoped_declarator ds d) (scoped_parameters (entered (after_declarator ds d)) ps) g.scoped in
      let low : declarator_height d < h = omega (arith, g.low) in
      let f : is_of_form form ds d ≡ true = sym (function_form form ds a d ps v) ∙ g.of_form in
      let c = descend d (record { of_form = f; direct = l0.0; levelled = l0.1; placed = p1.0; scoped = s.0; low = omega (arith, low); after = refl }) in
      subst (λ k. Descent (Function k d ps v)) (sym (eq_true a at p.0)) (behind_list d (Function at d ps v) ((with_commas (spell_parameters ps) ++ spell_ellipsis v) ++ sign RightParen ∷ []) f p1.0 c low
      (prototype_of d ps v (at + length (spell_declarator d) + 1) l1.0 l1.1 p1.1 s.1 (omega (arith, g.low))) refl (is_absent d) refl)
  descend (Unprototyped a d ns) g =
      let l = both (is_direct d) (levelled_declarator d) g.levelled in let p = both (nat_eq a at) (placed_declarator at d) g.placed in
      let s = both (scoped_declarator ds d) (are_no_types (after_declarator ds d) ns) g.scoped in
      let low : declarator_height d < h = omega (arith, g.low) in
      let f : is_of_form form ds (Unprototyped at d ns) ≡ true = subst (λ k. is_of_form form ds (Unprototyped k d ns) ≡ true) (eq_true a at p.0) g.of_form in
      let k = names_of d ns (at + length (spell_declarator d) + 1) f s.1 in
      let c = descend d (record { of_form = k.0; direct = l.0; levelled = l.1; placed = p.1; scoped = s.0; low = omega (arith, low); after = refl }) in
      subst (λ k. Descent (Unprototyped k d ns)) (sym (eq_true a at p.0)) (behind_list d (Unprototyped at d ns) (spell_names ns ++ sign RightParen ∷ []) k.0 p.1 c low k.1 refl (is_absent d) refl)

  direct_to : (z : In DeclaratorTree) (n : ℕ) (t : List Lexeme) → n ≡ at → Good z → t ≡ spell_declarator z.0 → DirectParts z n t
  direct_to z n t number g text =
      let c = descend z.0 (record { of_form = g.of_form; direct = g.direct; levelled = g.levelled; placed = g.placed; scoped = g.scoped; low = g.low; after = refl }) in
      record {
        number = number;
        holds = record {
          value = (c.base, after_declarator ds c.base);
          front = c.front;
          back = c.back;
          first = subst (λ m. InnerIs h sub parts form at ds (c.base, after_declarator ds c.base) m c.front) (sym number) c.inner_is;
          second = subst (λ m. Steps (Derives h sub parts form at) z (c.base, after_declarator ds c.base) (m + length c.front) c.back) (sym number)
              (subst (λ w. Steps (Derives h sub parts form at) w (c.base, after_declarator ds c.base) (at + length c.front) c.back) (ap (λ e. (z.0, e)) (sym g.after)) c.steps);
          parts = text ∙ c.spelled;
        };
      }

  direct_lawful : 1 ≤ h → Lawful (And (At at) (next_is (is_sign StarSign)) false) (direct h sub form at ds) DirectParts (EndsDeclarator form)
  direct_lawful some = ended
      (λ z n t o i e. (form_blocked form ds z.0 h sub parts o (direct_from some z n t i).good.of_form e, e)) (λ z n t o i e. e.1)
      (there_lawful at (λ n o p. p.0) (bind_lawful (known (λ n o p. (tt, p.1)) (inner_lawful h sub parts form at ds)) (λ x n t i. known (λ m o p. p.1) (derivations_lawful h sub parts form at x))
      (λ x n t z u rest i steps e. derivations_fit h sub parts form at x z (n + length t) u rest steps e.0)))

  -- pointers

  abbrev PointerParts : In DeclaratorTree → ℕ → List Lexeme → Type 0
  PointerParts = There at (Behind (IsPunctuator StarSign) (Both QualifiersAre (λ qs. Mapped (λ (d : In DeclaratorTree). (Pointer at qs d.0, d.1)) (DeclaratorIs (Below h) form ds))))

  pointer_joins : (d : In DeclaratorTree) (n : ℕ) (u rest : List Lexeme) → DeclaratorIs (Below h) form ds d n u → goes_on_declarator form (head rest) ≡ false → next_is is_qualifier (head (u ++ rest)) ≡ false
  pointer_joins d n u rest i e = rw i.spelled (declarator_begins is_qualifier (record { star = refl; parenthesis = refl; bracket = refl }) d.0 rest (λ m f. refl) (λ a. form_no_qualifier form ds d.0 (head rest) i.of_form a e))

  pointer_lawful : Lawful (And (At at) (next_is (is_sign StarSign)) true) (pointer sub form at ds) PointerParts (EndsDeclarator form)
  pointer_lawful = there_lawful at (λ n o p. p.0) (behind_lawful (sign_tells StarSign) (bind_lawful qualifiers_lawful
      (λ qs n t i. mapped_lawful (λ d. (Pointer at qs d.0, d.1)) (λ d o s. s) (λ d o s. s) (known (λ m o p. tt) (parts.declarator form ds)))
      (λ qs n t b u rest i m s. pointer_joins m.value (n + length t) u rest m.holds s)))

  pointer_from : (z : In DeclaratorTree) (n : ℕ) (t : List Lexeme) → PointerParts z n t → DeclaratorIs (Below (suc h)) form ds z n t
  pointer_from z n t i =
      let b = i.holds.holds in let m = b.second in let d = m.holds in
      let place : n + 1 + length b.front ≡ at + 1 + length b.value = omega (arith, i.number, ap length b.first.spelled, qualifiers_long b.value) in
      let placed : placed_declarator (at + 1 + length b.value) m.value.0 ≡ true = subst (λ k. placed_declarator k m.value.0 ≡ true) place d.placed in
      subst (λ k. DeclaratorIs (Below (suc h)) form ds z k t) (sym i.number) (subst (λ w. DeclaratorIs (Below (suc h)) form ds w at t) (sym m.is) (record {
        of_form = pointer_form form ds at b.value m.value.0 ∙ d.of_form;
        levelled = d.levelled;
        placed = rw (true_eq at, placed) refl;
        scoped = d.scoped;
        low = omega (arith, d.low);
        after = d.after;
        spelled = rw (i.holds.parts, b.parts, b.first.spelled, d.spelled) refl;
      }))

  pointer_to_parts : (a : ℕ) (qs : List Qualifier) (d : DeclaratorTree) (after : List Scope) (n : ℕ) (t : List Lexeme) → n ≡ at → DeclaratorIs (Below (suc h)) form ds (Pointer a qs d, after) n t → PointerParts (Pointer a qs d, after) n t
  pointer_to_parts a qs d after n t number i =
      let p = both (nat_eq a n) (placed_declarator (n + 1 + length qs) d) i.placed in
      let place : n + 1 + length qs ≡ n + 1 + length (spell_qualifiers qs) = omega (arith, qualifiers_long qs) in
      record {
        number = number;
        holds = record {
          back = spell_qualifiers qs ++ spell_declarator d;
          parts = i.spelled;
          holds = record {
            value = qs;
            front = spell_qualifiers qs;
            back = spell_declarator d;
            first = record { spelled = refl };
            parts = refl;
            second = record {
              value = (d, after);
              is = ap (λ k. (Pointer k qs d, after)) (eq_true a n p.0 ∙ number);
              holds = record { of_form = sym (pointer_form form ds a qs d) ∙ i.of_form; levelled = i.levelled; placed = subst (λ k. placed_declarator k d ≡ true) place p.1; scoped = i.scoped; low = omega (arith, i.low); after = i.after; spelled = refl };
            };
          };
        };
      }

  abbrev Whole : In DeclaratorTree → ℕ → List Lexeme → Type 0
  Whole = There at (DeclaratorIs (Below (suc h)) form ds)

  whole_from : 1 ≤ h → (z : In DeclaratorTree) (n : ℕ) (t : List Lexeme) → Either PointerParts DirectParts z n t → Whole z n t
  whole_from some z n t (Met i) = record { number = i.number; holds = pointer_from z n t i }
  whole_from some z n t (Unmet i) =
      let b = direct_from some z n t i in let g = b.good in
      record { number = i.number; holds = record { of_form = g.of_form; levelled = g.levelled; placed = subst (λ k. placed_declarator k z.0 ≡ true) (sym i.number) g.placed; scoped = g.scoped; low = g.low; after = g.after; spelled = sym b.spelled } }

  whole_to : (z : DeclaratorTree) (after : List Scope) (n : ℕ) (t : List Lexeme) → Whole (z, after) n t → (b : Bool) → is_direct z ≡ b → Either PointerParts DirectParts (z, after) n t
  whole_to (Pointer a qs d) after n t i b e = Met (pointer_to_parts a qs d after n t i.number i.holds)
  whole_to z after n t i true e =
      let k = i.holds in
      Unmet (direct_to (z, after) n t i.number (record { of_form = k.of_form; direct = e; levelled = k.levelled; placed = subst (λ m. placed_declarator m z ≡ true) i.number k.placed; scoped = k.scoped; low = k.low; after = k.after }) k.spelled)
  whole_to (Declared a m) after n t i false e = absurd (true≢false e)
  whole_to (Absent a) after n t i false e = absurd (true≢false e)
  whole_to (Grouped a d) after n t i false e = absurd (true≢false e)
  whole_to (Array a d b) after n t i false e = absurd (true≢false e)
  whole_to (Function a d ps v) after n t i false e = absurd (true≢false e)
  whole_to (Unprototyped a d ns) after n t i false e = absurd (true≢false e)

  whole_lawful : 1 ≤ h → Lawful (At at) (declarator_at h sub form ds at) Whole (EndsDeclarator form)
  whole_lawful some = said
      (when_lawful (next_is (is_sign StarSign)) pointer_lawful (direct_lawful some)
      (λ z n t rest i s. rw i.holds.parts refl)
      (λ z n t rest i s. let b = i.holds in
      rw (b.parts, append_assoc) (inner_no_star h sub parts form at ds b.value n b.front (b.back ++ rest) b.first
      (derivations_fit h sub parts form at b.value z (n + length b.front) b.back rest b.second (form_blocked form ds z.0 h sub parts (head rest) (direct_from some z n t i).good.of_form s)))))
      (λ z n t i. whole_to z.0 z.1 n t i (is_direct z.0) refl) (whole_from some)

module _ (h : ℕ) (sub : Subs) (parts : LawfulSubs (Below h) sub) where
  declarator_here : 1 ≤ h → (form : DeclaratorForm) (ds : List Scope) → Lawful Any (bind here (λ at. declarator_at h sub form ds at)) (DeclaratorIs (Below (suc h)) form ds) (EndsDeclarator form)
  declarator_here some form ds = said
      (bind_lawful here_lawful (λ at n t i. known (λ m o p. p.0 ∙ (ap (λ u. n + length u) i.nothing ∙ (Laws.add_none n ∙ sym i.value))) (whole_lawful h sub parts form ds at some)) (λ at n t z u rest i k e. tt))
      (λ z n t i. record { value = n; front = []; back = t; first = record { value = refl; nothing = refl }; second = record { number = Laws.add_none n; holds = subst (λ m. DeclaratorIs (Below (suc h)) form ds z m t) (sym (Laws.add_none n)) i }; parts = refl })
      (λ z n t b. subst (λ u. DeclaratorIs (Below (suc h)) form ds z n u) (sym (b.parts ∙ ap (λ f. f ++ b.back) b.first.nothing)) (subst (λ m. DeclaratorIs (Below (suc h)) form ds z m b.back) (b.second.number ∙ b.first.value) b.second.holds))

  pub declarator_lawful : (form : DeclaratorForm) (ds : List Scope) → Lawful Any (declarator h sub form ds) (DeclaratorIs (Below (suc h)) form ds) (EndsDeclarator form)
  declarator_lawful form ds = said (guard_known (nat_le 1 h) (λ low. declarator_here (le_true 1 h low) form ds))
      (λ z n t i. record { met = true_le 1 h (omega (arith, i.low, tall_declarator z.0)); holds = i }) (λ z n t i. i.holds)
