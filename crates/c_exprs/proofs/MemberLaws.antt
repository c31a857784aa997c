-- Device: the reading of the members of structures and unions, and of enumerators, gives exactly the grammatical ones.
use Rattle.std.proofs.Common.{◌≡◌, refl, sym, ap, ◌∙◌, subst, ℕ, suc, ◌+◌, ◌-◌, ◌<◌, ◌≤◌, max, length, Bool, true, false, not, ◌&&◌, ◌||◌, nat_eq, List, [], ◌∷◌, ◌++◌, Option, Some, None, append_assoc, append-nil, arith, length-append, true≢false}
use Rattle.cil_base.specs.declared.numbers.NameId.{NameId}
use Rattle.cil_base.specs.declared.tokens.TokenKind.{TokenKind}
use Rattle.cil_base.specs.declared.tokens.TokenKind.TheVariants.{Keyword as IsKeyword, Punctuator as IsPunctuator}
use Rattle.cil_base.specs.declared.tokens.Keyword.TheVariants.{StaticAssert as StaticAssertWord}
use Rattle.cil_base.specs.declared.tokens.Punctuator.TheVariants.{LeftParen, RightParen, RightBrace, Colon, Semicolon, Comma as CommaSign, Equal}
use Rattle.typedef_scopes.specs.Scopes.{Scope, is_type, declared}
use Rattle.c_tree.specs.declared.level.Level.TheVariants.{Conditional as ConditionalLevel}
use Rattle.c_tree.specs.Syntax.{ExprTree, SpecifierTrees, MemberTree, MemberLine, MemberAssert, MemberTrees, NoMembers, MoreMembers, MemberDeclaratorTree, Plain, BitField, MemberDeclaratorTrees, NoMemberDeclarators, MoreMemberDeclarators, EnumeratorTree, Enumerates, EnumeratorTrees, NoEnumerators, MoreEnumerators, MaybeExpr, NoExpr, SomeExpr, DeclaratorTree, Absent}
use Rattle.c_tree.specs.Spelling.{Lexeme, word, sign, named, literal, with_commas, behind_commas, last_comma, spell_literals, spell_expr, spell_specifiers, spell_declarator, spell_member, spell_members, spell_member_declarator, spell_member_declarators, spell_enumerator, spell_enumerators, spell_value}
use Rattle.c_tree.specs.Height.{declarator_height, member_height, members_height, member_declarator_height, member_declarators_height, enumerator_height, enumerators_height, value_height}
use Rattle.c_tree.specs.Levels.{has_some, has_specifier, are_specifier_qualifiers, has_names, is_absent, declares, has_member, has_enumerator, is_within, levelled, levelled_specifiers, levelled_declarator, levelled_member, levelled_members, levelled_member_declarator, levelled_member_declarators, levelled_enumerator, levelled_enumerators, levelled_value}
use Rattle.c_tree.specs.Placed.{placed_expr, placed_specifiers, placed_declarator, placed_member, placed_members, placed_member_declarator, placed_member_declarators, placed_enumerator, placed_enumerators, placed_value}
use Rattle.c_tree.specs.Scoped.{has_type_specifier, first_name, first_member_name, stands_behind, scoped_expr, scoped_specifiers, scoped_declarator, scoped_member, scoped_members, scoped_member_declarator, scoped_member_declarators, scoped_enumerator, scoped_enumerators, scoped_value, after_expr, after_specifiers, after_declarator, after_member, after_members, after_member_declarator, after_member_declarators, after_enumerator, after_enumerators, after_value}
use Rattle.c_exprs.specs.declared.words.SpecifierForm.TheVariants.{TypeName as InTypeName}
use Rattle.c_exprs.specs.declared.words.DeclaratorForm.TheVariants.{Member as InMember}
use Rattle.c_cursor.specs.Readers.{head}
use Rattle.c_cursor.specs.Classes.{is_sign, is_assert_word, is_literal, next_is, next_is_not, a_name, a_literal}
use Rattle.c_exprs.specs.Classes.{begins_type_name}
use Rattle.c_exprs.specs.GoesOn.{goes_on_expr, goes_on_typed, goes_on_specifiers, goes_on_declarator}
use Rattle.c_cursor.specs.Literals.{some_literals}
use Rattle.c_exprs.specs.Subs.{In, Subs, comma_ahead}
use Rattle.c_exprs.specs.SpecifierReading.{bit_field, named_field, member_declarator, member_declarator_trees, member_declarators, member_line, assert_end, member_assert, member, member_trees, more_members, members, enumerator_behind, enumerator, enumerator_trees, enumerators}
use Rattle.c_exprs.proofs.Laws
use Rattle.c_exprs.proofs.Laws.{Lawful, Any, Anywhere, Next, And, Steps, Ends, More, Token, Mapped, Behind, Before, Both, Either, Met, Unmet, Under, There, Opens, Gives, Numbers, bare, bind_lawful, mapped_lawful, behind_lawful, before_lawful, pure_lawful, when_lawful, many_lawful, steps_fit, one_lawful, here_lawful, opens_lawful, opens_begins, said, known, ended, At}
use Rattle.c_cursor.proofs.Tokens.{eq_true, true_eq}
use Rattle.c_exprs.proofs.Tokens.{both, not_true, or_true, sign_tells, assert_tells, a_name_is, a_literal_is}
use Rattle.c_exprs.proofs.Heads.{apart, declarator_begins, type_begins}
use Rattle.c_exprs.proofs.Relations.{Below, ExprIs, SpecifiersIs, DeclaratorIs, EndsDeclarator, LawfulSubs}
use Rattle.c_exprs.proofs.Lists.{grown, Grows, Over, Rest, rest_of_steps, steps_of_rest, AfterComma, Listed, listed_lawful, Ending, EndIs, Last, all_last, listed_to_lawful}
use Rattle.c_exprs.proofs.Arguments.{tall}
use Rattle.c_exprs.proofs.ExprLaws.{LiteralGrows, more_literals_lawful}
use Rattle.c_exprs.proofs.ExprTrees.{tall_declarator, literals_run, run_literals}
use Rattle.c_exprs.proofs.ParameterLaws.{first_head}

-- declarators of members

pub record MemberDeclaratorIs (h : ℕ) (ds : List Scope) (x : In MemberDeclaratorTree) (n : ℕ) (text : List Lexeme) : Type 0 where
  pub levelled : levelled_member_declarator x.0 ≡ true
  pub placed : placed_member_declarator n x.0 ≡ true
  pub scoped : scoped_member_declarator ds x.0 ≡ true
  pub low : member_declarator_height x.0 < h
  pub after : x.1 ≡ after_member_declarator ds x.0
  pub spelled : text ≡ spell_member_declarator x.0

abbrev pub EndsMember : MemberDeclaratorTree → Option Lexeme → Type 0
EndsMember (Plain d) o = (goes_on_declarator InMember o ≡ false) × (next_is (is_sign Colon) o ≡ false)
EndsMember (BitField d e) o = goes_on_expr ConditionalLevel o ≡ false

at_comma : (x : MemberDeclaratorTree) → EndsMember x (Some (sign CommaSign))
at_comma (Plain d) = (refl, refl)
at_comma (BitField d e) = refl

at_semicolon : (x : MemberDeclaratorTree) → EndsMember x (Some (sign Semicolon))
at_semicolon (Plain d) = (refl, refl)
at_semicolon (BitField d e) = refl

tall_member : (x : MemberDeclaratorTree) → 1 ≤ member_declarator_height x
tall_member (Plain d) = tall_declarator d
tall_member (BitField d e) = omega (arith, tall_declarator d)

declares_some : (d : DeclaratorTree) → declares d ≡ true → is_absent d ≡ false
declares_some (Absent at) e = absurd (true≢false (sym e))
declares_some _ e = refl

-- a name that stands first behind specifiers, in front of other tokens

first_off : (typed : Bool) (ds : List Scope) (n : NameId) → goes_on_specifiers typed ds (Some (named n)) ≡ false → (typed || not (is_type ds n)) ≡ true
first_off true ds n e = refl
first_off false ds n e = ap not e

off_first : (typed : Bool) (ds : List Scope) (n : NameId) → (typed || not (is_type ds n)) ≡ true → (not typed && is_type ds n) ≡ false
off_first true ds n e = refl
off_first false ds n e = not_true (is_type ds n) e

stands_before : (ds : List Scope) (ss : SpecifierTrees) (d : DeclaratorTree) (rest : List Lexeme) (o : Option NameId) → first_name d ≡ o → goes_on_specifiers (has_type_specifier ss) ds (head (spell_declarator d ++ rest)) ≡ false → stands_behind ds ss o ≡ true
stands_before ds ss d rest None e off = or_true (has_type_specifier ss)
stands_before ds ss d rest (Some n) e off = first_off (has_type_specifier ss) ds n (ap (goes_on_specifiers (has_type_specifier ss) ds) (sym (first_head d n rest e)) ∙ off)

before_stands : (ds : List Scope) (ss : SpecifierTrees) (d : DeclaratorTree) (rest : List Lexeme) → stands_behind ds ss (first_name d) ≡ true → (is_absent d ≡ true → goes_on_specifiers (has_type_specifier ss) ds (head rest) ≡ false) → goes_on_specifiers (has_type_specifier ss) ds (head (spell_declarator d ++ rest)) ≡ false
before_stands ds ss d rest stands absent = declarator_begins (goes_on_typed (has_type_specifier ss) ds) (record { star = refl; parenthesis = refl; bracket = refl }) d rest
    (λ n e. off_first (has_type_specifier ss) ds n (subst (λ o. stands_behind ds ss o ≡ true) e stands)) absent

-- string literals

pub record LiteralsAre (ts : List (List ℕ)) (n : ℕ) (text : List Lexeme) : Type 0 where
  pub some : has_some ts ≡ true
  pub spelled : text ≡ spell_literals ts

pub record MemberIs (h : ℕ) (ds : List Scope) (x : In MemberTree) (n : ℕ) (text : List Lexeme) : Type 0 where
  pub levelled : levelled_member x.0 ≡ true
  pub placed : placed_member n x.0 ≡ true
  pub scoped : scoped_member ds x.0 ≡ true
  pub low : member_height x.0 < h
  pub after : x.1 ≡ after_member ds x.0
  pub spelled : text ≡ spell_member x.0

-- there is a token ahead, and not the brace
not_brace : (is : TokenKind → Bool) (o : Option Lexeme) → next_is is o ≡ true → ((k : TokenKind) → is_sign RightBrace k ≡ true → is k ≡ false) → next_is_not RightBrace o ≡ true
not_brace is None e off = e
not_brace is (Some u) e off = ap not (apart is (is_sign RightBrace) (Some u) e off)

member_list : MemberDeclaratorTrees → List MemberDeclaratorTree
member_list NoMemberDeclarators = []
member_list (MoreMemberDeclarators d ds) = d ∷ member_list ds

member_list_back : (ds : MemberDeclaratorTrees) → member_declarator_trees (member_list ds) ≡ ds
unfolding member_list
member_list_back NoMemberDeclarators = refl
member_list_back (MoreMemberDeclarators d ds) = ap (MoreMemberDeclarators d) (member_list_back ds)

module _ (h : ℕ) (sub : Subs) (parts : LawfulSubs (Below h) sub) where
  literals_from : (us : List (List ℕ)) (n : ℕ) (t : List Lexeme) → Both (Token a_literal) (λ w vs. Steps (LiteralGrows h sub parts) vs (w ∷ [])) us n t → LiteralsAre us n t
  literals_from us n t b =
      let r = literals_run sub h parts us (b.value ∷ []) (n + length b.front) b.back b.second in
      let one : b.front ≡ literal b.value ∷ [] = b.first.alone ∙ ap (λ u. u ∷ []) (a_literal_is b.first.token b.value b.first.is) in
      subst (λ v. LiteralsAre v n t) (sym r.list) (record { some = refl; spelled = b.parts ∙ (ap (λ f. f ++ b.back) one ∙ ap (λ u. literal b.value ∷ u) r.spelled) })

  literals_to : (us : List (List ℕ)) (n : ℕ) (t : List Lexeme) → LiteralsAre us n t → Both (Token a_literal) (λ w vs. Steps (LiteralGrows h sub parts) vs (w ∷ [])) us n t
  literals_to [] n t i = absurd (true≢false (sym i.some))
  literals_to (u ∷ us) n t i = record { value = u; front = literal u ∷ []; back = spell_literals us; first = record { token = literal u; is = refl; alone = refl }; second = run_literals sub h parts us (u ∷ []) (n + 1); parts = i.spelled }

  literals_lawful : Lawful Any some_literals LiteralsAre (λ ts o. next_is is_literal o ≡ false)
  literals_lawful = said (bind_lawful (one_lawful a_literal) (λ w n t i. more_literals_lawful h sub parts (w ∷ [])) (λ w n t b u rest i k s. tt)) literals_to literals_from

  -- declarators of members

  abbrev FieldIs : DeclaratorTree → List Scope → In MemberDeclaratorTree → ℕ → List Lexeme → Type 0
  FieldIs d ds = Behind (IsPunctuator Colon) (Mapped (λ (e : In ExprTree). (BitField d e.0, e.1)) (ExprIs (Below h) ConditionalLevel ds))

  abbrev EndsField : In MemberDeclaratorTree → Option Lexeme → Type 0
  EndsField x = EndsMember x.0

  field_lawful : {P : ℕ → Option Lexeme → Type 0} (d : DeclaratorTree) (ds : List Scope) → Lawful P (bit_field sub d ds) (FieldIs d ds) EndsField
  field_lawful d ds = behind_lawful (sign_tells Colon) (mapped_lawful (λ e. (BitField d e.0, e.1)) (λ e o s. s) (λ e o s. s) (parts.expr ConditionalLevel ds))

  abbrev UnnamedIs : List Scope → In MemberDeclaratorTree → ℕ → List Lexeme → Type 0
  UnnamedIs ds = Both Numbers (λ at. FieldIs (Absent at) ds)

  abbrev NamedIs : In DeclaratorTree → In MemberDeclaratorTree → ℕ → List Lexeme → Type 0
  NamedIs d = Either (FieldIs d.0 d.1) (Gives (Plain d.0, d.1))

  named_lawful : (d : In DeclaratorTree) (m : ℕ) → Lawful (Next m (EndsDeclarator InMember d)) (named_field sub d) (NamedIs d) EndsField
  named_lawful d m = when_lawful (next_is (is_sign Colon)) (field_lawful d.0 d.1) (pure_lawful (Plain d.0, d.1) (λ n o p. (p.0.1, p.1)))
      (λ x n t rest i s. rw i.parts refl) (λ x n t rest i s. rw i.nothing (subst (λ w. EndsMember w.0 (head rest)) i.value s).1)

  named_ends : (d : In DeclaratorTree) (x : In MemberDeclaratorTree) (n : ℕ) (u rest : List Lexeme) → NamedIs d x n u → EndsField x (head rest) → goes_on_declarator InMember (head (u ++ rest)) ≡ false
  named_ends d x n u rest (Met i) s = rw i.parts refl
  named_ends d x n u rest (Unmet i) s = rw i.nothing (subst (λ w. EndsMember w.0 (head rest)) i.value s).0

  abbrev DeclaratorParts : List Scope → In MemberDeclaratorTree → ℕ → List Lexeme → Type 0
  DeclaratorParts ds = Either (UnnamedIs ds) (Both (DeclaratorIs (Below h) InMember ds) NamedIs)

  member_no_colon : (ds : List Scope) (x : In MemberDeclaratorTree) (n : ℕ) (t rest : List Lexeme) → Both (DeclaratorIs (Below h) InMember ds) NamedIs x n t → next_is (is_sign Colon) (head (t ++ rest)) ≡ false
  member_no_colon ds x n t rest b = rw (b.parts, b.first.spelled, append_assoc) (declarator_begins (is_sign Colon) (record { star = refl; parenthesis = refl; bracket = refl }) b.value.0 (b.back ++ rest) (λ m e. refl)
      (λ a. absurd (true≢false (sym a ∙ declares_some b.value.0 (both (declares b.value.0) (not (has_names b.value.0)) b.first.of_form).0))))

  parts_lawful : (ds : List Scope) → Lawful Any (member_declarator sub ds) (DeclaratorParts ds) EndsField
  parts_lawful ds = when_lawful (next_is (is_sign Colon)) (bind_lawful here_lawful (λ at n t i. field_lawful (Absent at) ds) (λ at n t x u rest i k s. tt))
      (bind_lawful (known (λ n o p. tt) (parts.declarator InMember ds)) (λ d n t i. named_lawful d (n + length t)) (λ d n t x u rest i k s. named_ends d x (n + length t) u rest k s))
      (λ x n t rest b s. rw (b.parts, b.first.nothing, b.second.parts) refl) (λ x n t rest b s. member_no_colon ds x n t rest b)

  field_from : (ds : List Scope) (d : DeclaratorTree) (middle : List Scope) (x : In MemberDeclaratorTree) (n m : ℕ) (front back : List Lexeme) → ((is_absent d || (declares d && not (has_names d))) && levelled_declarator d) ≡ true → placed_declarator n d ≡ true → scoped_declarator ds d ≡ true →
      declarator_height d < h → middle ≡ after_declarator ds d → front ≡ spell_declarator d → m ≡ n + length front → FieldIs d middle x m back → MemberDeclaratorIs h ds x n (front ++ back)
  field_from ds d middle x n m front back l p s low after text number i =
      let k = i.holds in let e = k.holds in
      let place : m + 1 ≡ n + length (spell_declarator d) + 1 = omega (arith, number, ap length text) in
      let placed : placed_expr (n + length (spell_declarator d) + 1) k.value.0 ≡ true = subst (λ j. placed_expr j k.value.0 ≡ true) place e.good.placed in
      let scoped : scoped_expr (after_declarator ds d) k.value.0 ≡ true = subst (λ j. scoped_expr j k.value.0 ≡ true) after e.good.scoped in
      subst (λ w. MemberDeclaratorIs h ds w n (front ++ back)) (sym k.is) (record {
        levelled = rw (l, e.within, e.good.levelled) refl;
        placed = rw (p, placed) refl;
        scoped = rw (s, scoped) refl;
        low = omega (arith, low, e.good.low);
        after = e.good.after ∙ ap (λ j. after_expr j k.value.0) after;
        spelled = rw (text, i.parts, e.spelled) refl;
      })

  declarator_from : (ds : List Scope) (x : In MemberDeclaratorTree) (n : ℕ) (t : List Lexeme) → DeclaratorParts ds x n t → MemberDeclaratorIs h ds x n t
  declarator_from ds x n t (Met b) =
      let here_is : n + length b.front ≡ n + length {A = Lexeme} [] = ap (λ u. n + length u) b.first.nothing in
      let text : t ≡ [] ++ b.back = b.parts ∙ ap (λ f. f ++ b.back) b.first.nothing in
      let some : 1 < h = omega (arith, b.second.holds.holds.good.low, tall b.second.holds.value.0) in
      subst (MemberDeclaratorIs h ds x n) (sym text) (field_from ds (Absent b.value) ds x n (n + length b.front) [] b.back refl (rw b.first.value (true_eq n)) refl some refl refl here_is b.second)
  declarator_from ds x n t (Unmet b) = subst (MemberDeclaratorIs h ds x n) (sym b.parts) (by b.second)
    where
      by : NamedIs b.value x (n + length b.front) b.back → MemberDeclaratorIs h ds x n (b.front ++ b.back)
      by (Met i) = let d = b.first in let f = both (declares b.value.0) (not (has_names b.value.0)) d.of_form in
          field_from ds b.value.0 b.value.1 x n (n + length b.front) b.front b.back (rw (f.0, f.1, or_true (is_absent b.value.0), d.levelled) refl) d.placed d.scoped d.low d.after d.spelled refl i
      by (Unmet g) = let d = b.first in subst (λ w. MemberDeclaratorIs h ds w n (b.front ++ b.back)) (sym g.value)
          (record { levelled = rw (d.of_form, d.levelled) refl; placed = d.placed; scoped = d.scoped; low = d.low; after = d.after; spelled = rw (g.nothing, append-nil, d.spelled) refl })

  field_to : (ds : List Scope) (d : DeclaratorTree) (e : ExprTree) (after : List Scope) (n : ℕ) (t : List Lexeme) → MemberDeclaratorIs h ds (BitField d e, after) n t → FieldIs d (after_declarator ds d) (BitField d e, after) (n + length (spell_declarator d)) (sign Colon ∷ spell_expr e)
  field_to ds d e after n t i =
      let l = both ((is_absent d || (declares d && not (has_names d))) && levelled_declarator d) (is_within ConditionalLevel e && levelled e) i.levelled in let le = both (is_within ConditionalLevel e) (levelled e) l.1 in
      let p = both (placed_declarator n d) (placed_expr (n + length (spell_declarator d) + 1) e) i.placed in let s = both (scoped_declarator ds d) (scoped_expr (after_declarator ds d) e) i.scoped in
      record { back = spell_expr e; parts = refl; holds = record { value = (e, after); is = refl; holds = record { good = record { levelled = le.1; placed = p.1; scoped = s.1; low = omega (arith, i.low); after = i.after }; within = le.0; spelled = refl } } }

  unnamed_to : (ds : List Scope) (a : ℕ) (e : ExprTree) (after : List Scope) (n : ℕ) (t : List Lexeme) → MemberDeclaratorIs h ds (BitField (Absent a) e, after) n t → UnnamedIs ds (BitField (Absent a) e, after) n t
  unnamed_to ds a e after n t i =
      let p = both (nat_eq a n) (placed_expr (n + 0 + 1) e) i.placed in
      let here_is : a ≡ n = eq_true a n p.0 in
      record {
        value = n;
        front = [];
        back = sign Colon ∷ spell_expr e;
        first = record { value = refl; nothing = refl };
        parts = i.spelled;
        second = subst (λ k. FieldIs (Absent n) ds (BitField (Absent k) e, after) (n + 0) (sign Colon ∷ spell_expr e)) (sym here_is)
            (field_to ds (Absent n) e after n t (subst (λ k. MemberDeclaratorIs h ds (BitField (Absent k) e, after) n t) here_is i));
      }

  named_to : (ds : List Scope) (d : DeclaratorTree) (e : ExprTree) (after : List Scope) (n : ℕ) (t : List Lexeme) → MemberDeclaratorIs h ds (BitField d e, after) n t → is_absent d ≡ false → Both (DeclaratorIs (Below h) InMember ds) NamedIs (BitField d e, after) n t
  named_to ds d e after n t i some =
      let l = both ((is_absent d || (declares d && not (has_names d))) && levelled_declarator d) (is_within ConditionalLevel e && levelled e) i.levelled in let l0 = both (is_absent d || (declares d && not (has_names d))) (levelled_declarator d) l.0 in
      let f : (declares d && not (has_names d)) ≡ true = subst (λ b. (b || (declares d && not (has_names d))) ≡ true) some l0.0 in
      let p = both (placed_declarator n d) (placed_expr (n + length (spell_declarator d) + 1) e) i.placed in let s = both (scoped_declarator ds d) (scoped_expr (after_declarator ds d) e) i.scoped in
      record {
        value = (d, after_declarator ds d);
        front = spell_declarator d;
        back = sign Colon ∷ spell_expr e;
        parts = i.spelled;
        first = record { of_form = f; levelled = l0.1; placed = p.0; scoped = s.0; low = omega (arith, i.low); after = refl; spelled = refl };
        second = Met (field_to ds d e after n t i);
      }

  declarator_to : (ds : List Scope) (x : MemberDeclaratorTree) (after : List Scope) (n : ℕ) (t : List Lexeme) → MemberDeclaratorIs h ds (x, after) n t → DeclaratorParts ds (x, after) n t
  declarator_to ds (Plain d) after n t i =
      let l = both (declares d && not (has_names d)) (levelled_declarator d) i.levelled in
      Unmet (record {
        value = (d, after);
        front = spell_declarator d;
        back = [];
        parts = i.spelled ∙ sym (append-nil (spell_declarator d));
        first = record { of_form = l.0; levelled = l.1; placed = i.placed; scoped = i.scoped; low = i.low; after = i.after; spelled = refl };
        second = Unmet (record { value = refl; nothing = refl });
      })
  declarator_to ds (BitField (Absent a) e) after n t i = Met (unnamed_to ds a e after n t i)
  declarator_to ds (BitField d e) after n t i = Unmet (named_to ds d e after n t i refl)

  member_declarator_lawful : (ds : List Scope) → Lawful Any (member_declarator sub ds) (MemberDeclaratorIs h ds) EndsField
  member_declarator_lawful ds = said (parts_lawful ds) (λ x n t i. declarator_to ds x.0 x.1 n t i) (declarator_from ds)

  -- lists of them

  record DeclaratorsAre (ds : List Scope) (xs : List MemberDeclaratorTree) (after : List Scope) (n : ℕ) (text : List Lexeme) : Type 0 where
    levelled : levelled_member_declarators (member_declarator_trees xs) ≡ true
    placed : placed_member_declarators n (member_declarator_trees xs) ≡ true
    scoped : scoped_member_declarators ds (member_declarator_trees xs) ≡ true
    low : member_declarators_height (member_declarator_trees xs) ≤ h - 1
    behind : after ≡ after_member_declarators ds (member_declarator_trees xs)
    spelled : text ≡ with_commas (spell_member_declarators (member_declarator_trees xs))

  record MoreDeclaratorsAre (ds : List Scope) (xs : List MemberDeclaratorTree) (after : List Scope) (n : ℕ) (text : List Lexeme) : Type 0 where
    levelled : levelled_member_declarators (member_declarator_trees xs) ≡ true
    placed : placed_member_declarators (n + 1) (member_declarator_trees xs) ≡ true
    scoped : scoped_member_declarators ds (member_declarator_trees xs) ≡ true
    low : member_declarators_height (member_declarator_trees xs) ≤ h - 1
    behind : after ≡ after_member_declarators ds (member_declarator_trees xs)
    spelled : text ≡ behind_commas (spell_member_declarators (member_declarator_trees xs))

  more_from : (xs before : List MemberDeclaratorTree) (ds after : List Scope) (n : ℕ) (text : List Lexeme) → Rest Over (AfterComma (MemberDeclaratorIs h)) before ds after n text xs → MoreDeclaratorsAre ds xs after n text
  more_from [] before ds after n text r = record { levelled = refl; placed = refl; scoped = refl; low = omega arith; behind = r.0; spelled = r.1 }
  more_from (x ∷ xs) before ds after n text r =
      let i = r.3.holds in
      let next : n + length r.1 + 1 ≡ n + 1 + length (spell_member_declarator x) + 1 = omega (arith, ap length r.3.parts, ap length i.spelled) in
      let m = more_from xs (before ++ x ∷ []) r.0 after (n + length r.1) r.2 r.4 in
      record { levelled = rw (i.levelled, m.levelled) refl; placed = rw (i.placed, ← next, m.placed) refl; scoped = rw (i.scoped, ← i.after, m.scoped) refl; low = omega (arith, i.low, m.low); behind = rw (← i.after) m.behind; spelled = rw (r.5, r.3.parts, i.spelled, m.spelled) refl }

  more_to : (xs before : List MemberDeclaratorTree) (ds after : List Scope) (n : ℕ) (text : List Lexeme) → MoreDeclaratorsAre ds xs after n text → Rest Over (AfterComma (MemberDeclaratorIs h)) before ds after n text xs
  more_to [] before ds after n text m = (m.behind, m.spelled)
  more_to (x ∷ xs) before ds after n text m =
      let l = both (levelled_member_declarator x) (levelled_member_declarators (member_declarator_trees xs)) m.levelled in let p = both (placed_member_declarator (n + 1) x) (placed_member_declarators (n + 1 + length (spell_member_declarator x) + 1) (member_declarator_trees xs)) m.placed in
      let s = both (scoped_member_declarator ds x) (scoped_member_declarators (after_member_declarator ds x) (member_declarator_trees xs)) m.scoped in
      let next : n + 1 + length (spell_member_declarator x) + 1 ≡ n + suc (length (spell_member_declarator x)) + 1 = omega arith in
      let back : List Lexeme = behind_commas (spell_member_declarators (member_declarator_trees xs)) in
      let low : member_declarators_height (member_declarator_trees xs) ≤ h - 1 = omega (arith, m.low) in (
        after_member_declarator ds x,
        sign CommaSign ∷ spell_member_declarator x,
        back,
        record { back = spell_member_declarator x; parts = refl; holds = record { levelled = l.0; placed = p.0; scoped = s.0; low = omega (arith, m.low, tall_member x); after = refl; spelled = refl } },
        more_to xs (before ++ x ∷ []) (after_member_declarator ds x) after (n + suc (length (spell_member_declarator x))) back (record { levelled = l.1; placed = subst (λ k. placed_member_declarators k (member_declarator_trees xs) ≡ true) next p.1; scoped = s.1; low = low; behind = m.behind; spelled = refl }),
        m.spelled,
      )

  abbrev ListOf : List Scope → In (List MemberDeclaratorTree) → ℕ → List Lexeme → Type 0
  ListOf ds z = Listed Over (MemberDeclaratorIs h) ds z.0 z.1

  some_from : (ds : List Scope) (xs : List MemberDeclaratorTree) (after : List Scope) (n : ℕ) (t : List Lexeme) → Listed Over (MemberDeclaratorIs h) ds xs after n t → DeclaratorsAre ds xs after n t
  some_from ds xs after n t l =
      let i = l.holds in let m = more_from l.others (l.first.0 ∷ []) l.first.1 after (n + length l.front) l.back l.rest in
      let next : n + length l.front + 1 ≡ n + length (spell_member_declarator l.first.0) + 1 = omega (arith, ap length i.spelled) in
      subst (λ ys. DeclaratorsAre ds ys after n t) (sym l.list) (record { levelled = rw (i.levelled, m.levelled) refl; placed = rw (i.placed, ← next, m.placed) refl; scoped = rw (i.scoped, ← i.after, m.scoped) refl; low = omega (arith, i.low, m.low); behind = rw (← i.after) m.behind; spelled = rw (l.parts, i.spelled, m.spelled) refl })

  some_to : (ds : List Scope) (x : MemberDeclaratorTree) (xs : List MemberDeclaratorTree) (after : List Scope) (n : ℕ) (t : List Lexeme) → DeclaratorsAre ds (x ∷ xs) after n t → Listed Over (MemberDeclaratorIs h) ds (x ∷ xs) after n t
  some_to ds x xs after n t m =
      let l = both (levelled_member_declarator x) (levelled_member_declarators (member_declarator_trees xs)) m.levelled in let p = both (placed_member_declarator n x) (placed_member_declarators (n + length (spell_member_declarator x) + 1) (member_declarator_trees xs)) m.placed in
      let s = both (scoped_member_declarator ds x) (scoped_member_declarators (after_member_declarator ds x) (member_declarator_trees xs)) m.scoped in
      let back : List Lexeme = behind_commas (spell_member_declarators (member_declarator_trees xs)) in
      let low : member_declarators_height (member_declarator_trees xs) ≤ h - 1 = omega (arith, m.low) in
      record {
        first = (x, after_member_declarator ds x);
        others = xs;
        front = spell_member_declarator x;
        back = back;
        list = refl;
        parts = m.spelled;
        holds = record { levelled = l.0; placed = p.0; scoped = s.0; low = omega (arith, m.low, tall_member x); after = refl; spelled = refl };
        rest = more_to xs (x ∷ []) (after_member_declarator ds x) after (n + length (spell_member_declarator x)) back (record { levelled = l.1; placed = p.1; scoped = s.1; low = low; behind = m.behind; spelled = refl });
      }

  abbrev EndsFields : List MemberDeclaratorTree → Option Lexeme → Type 0
  EndsFields [] o = next_is (is_sign Semicolon) o ≡ true
  EndsFields (x ∷ xs) o = Last EndsMember (x ∷ xs) o × (comma_ahead o ≡ false)

  fields_end : (xs : List MemberDeclaratorTree) (x : MemberDeclaratorTree) (ys : List MemberDeclaratorTree) (o : Option Lexeme) → xs ≡ x ∷ ys → Last EndsMember xs o × (comma_ahead o ≡ false) → EndsFields xs o
  fields_end xs x ys o is e = subst (λ zs. EndsFields zs o) (sym is) (subst (λ zs. Last EndsMember zs o × (comma_ahead o ≡ false)) is e)

  end_fields : (xs : List MemberDeclaratorTree) (x : MemberDeclaratorTree) (ys : List MemberDeclaratorTree) (o : Option Lexeme) → xs ≡ x ∷ ys → EndsFields xs o → Last EndsMember xs o × (comma_ahead o ≡ false)
  end_fields xs x ys o is e = subst (λ zs. Last EndsMember zs o × (comma_ahead o ≡ false)) (sym is) (subst (λ zs. EndsFields zs o) is e)

  close_fields : (xs : List MemberDeclaratorTree) → EndsFields xs (Some (sign Semicolon))
  close_fields [] = refl
  close_fields (x ∷ xs) = (all_last EndsMember (x ∷ xs) (Some (sign Semicolon)) at_semicolon, refl)

  member_no_semicolon : (ds : List Scope) (x : MemberDeclaratorTree) (rest : List Lexeme) → levelled_member_declarator x ≡ true → next_is (is_sign Semicolon) (head (spell_member_declarator x ++ rest)) ≡ false
  member_no_semicolon ds (Plain d) rest l = declarator_begins (is_sign Semicolon) (record { star = refl; parenthesis = refl; bracket = refl }) d rest (λ m e. refl) (λ a. absurd (true≢false (sym a ∙ declares_some d (both _ _ (both (declares d && not (has_names d)) (levelled_declarator d) l).0).0)))
  member_no_semicolon ds (BitField d e) rest l = rw append_assoc (declarator_begins (is_sign Semicolon) (record { star = refl; parenthesis = refl; bracket = refl }) d (sign Colon ∷ (spell_expr e ++ rest)) (λ m e. refl) (λ a. refl))

  fields_from : (ds : List Scope) (z : In (List MemberDeclaratorTree)) (n : ℕ) (t : List Lexeme) → Either (Gives ([], ds)) (ListOf ds) z n t → DeclaratorsAre ds z.0 z.1 n t
  fields_from ds z n t (Met g) = subst (λ w. DeclaratorsAre ds w.0 w.1 n t) (sym g.value) (record { levelled = refl; placed = refl; scoped = refl; low = omega arith; behind = refl; spelled = g.nothing })
  fields_from ds z n t (Unmet l) = some_from ds z.0 z.1 n t l

  fields_to : (ds : List Scope) (xs : List MemberDeclaratorTree) (after : List Scope) (n : ℕ) (t : List Lexeme) → DeclaratorsAre ds xs after n t → Either {A = In (List MemberDeclaratorTree)} (Gives ([], ds)) (ListOf ds) (xs, after) n t
  fields_to ds [] after n t i = Met (record { value = ap (λ s. ([], s)) i.behind; nothing = i.spelled })
  fields_to ds (x ∷ xs) after n t i = Unmet (some_to ds x xs after n t i)

  fields_lawful : (ds : List Scope) → Lawful Any (member_declarators sub ds) (λ z. DeclaratorsAre ds z.0 z.1) (λ z. EndsFields z.0)
  fields_lawful ds = said
      (when_lawful (next_is (is_sign Semicolon)) (pure_lawful ([], ds) (λ n o p. p.1))
      (known (λ n o p. tt) (ended (λ z n t o l. end_fields z.0 l.first.0 l.others o l.list) (λ z n t o l. fields_end z.0 l.first.0 l.others o l.list) (listed_lawful EndsMember member_declarator_lawful at_comma ds)))
      (λ z n t rest g s. rw g.nothing (subst (λ w. EndsFields w.0 (head rest)) g.value s))
      (λ z n t rest l s. rw (l.parts, l.holds.spelled, append_assoc) (member_no_semicolon ds l.first.0 (l.back ++ rest) l.holds.levelled)))
      (λ z n t i. fields_to ds z.0 z.1 n t i) (fields_from ds)

  -- lines of members

  abbrev LineEnd : In SpecifierTrees → In MemberTree → ℕ → List Lexeme → Type 0
  LineEnd ss = Before (IsPunctuator Semicolon) (λ (x : In (List MemberDeclaratorTree)). (MemberLine ss.0 (member_declarator_trees x.0), x.1)) (λ (z : In (List MemberDeclaratorTree)). DeclaratorsAre ss.1 z.0 z.1)

  abbrev LineParts : List Scope → In MemberTree → ℕ → List Lexeme → Type 0
  LineParts ds = Both (SpecifiersIs (Below h) InTypeName ds) (λ ss. Opens (goes_on_specifiers (has_type_specifier ss.0) ss.1) false (LineEnd ss))

  line_some : (ss : In SpecifierTrees) (x : In MemberTree) (n : ℕ) (t : List Lexeme) → LineEnd ss x n t → 0 < length t
  line_some ss x n t b = omega (arith, ap length b.parts, length-append b.front (bare (IsPunctuator Semicolon) ∷ []))

  line_parts_lawful : (ds : List Scope) → Lawful Any (member_line sub ds) (LineParts ds) Anywhere
  line_parts_lawful ds = bind_lawful (parts.specifiers InTypeName ds)
      (λ ss n t i. opens_lawful (goes_on_specifiers (has_type_specifier ss.0) ss.1) false (λ m o p. p.1)
      (known (λ m o p. tt) (before_lawful (λ x. (MemberLine ss.0 (member_declarator_trees x.0), x.1)) (sign_tells Semicolon) (λ z n t i. close_fields z.0) (fields_lawful ss.1))))
      (λ ss n t b u rest i k s. opens_begins (goes_on_specifiers (has_type_specifier ss.0) ss.1) false b (n + length t) u rest k (λ none. absurd (omega (arith, line_some ss b (n + length t) u k.holds, ap length none))))

  stands_line : (ds : List Scope) (ss : SpecifierTrees) (xs : MemberDeclaratorTrees) → goes_on_specifiers (has_type_specifier ss) ds (head (with_commas (spell_member_declarators xs) ++ sign Semicolon ∷ [])) ≡ false → stands_behind ds ss (first_member_name xs) ≡ true
  stands_line ds ss NoMemberDeclarators e = or_true (has_type_specifier ss)
  stands_line ds ss (MoreMemberDeclarators (Plain d) rest) e =
      stands_before ds ss d (behind_commas (spell_member_declarators rest) ++ sign Semicolon ∷ []) (first_name d) refl (ap (λ u. goes_on_specifiers (has_type_specifier ss) ds (head u)) (sym (append_assoc (spell_declarator d) (behind_commas (spell_member_declarators rest)) (sign Semicolon ∷ []))) ∙ e)
  stands_line ds ss (MoreMemberDeclarators (BitField d w) rest) e =
      stands_before ds ss d (sign Colon ∷ (spell_expr w ++ (behind_commas (spell_member_declarators rest) ++ sign Semicolon ∷ []))) (first_name d) refl
      (ap (λ u. goes_on_specifiers (has_type_specifier ss) ds (head u)) (sym (ap (λ u. u ++ sign Semicolon ∷ []) (append_assoc (spell_declarator d) (sign Colon ∷ spell_expr w) (behind_commas (spell_member_declarators rest))) ∙ (append_assoc (spell_declarator d) (sign Colon ∷ (spell_expr w ++ behind_commas (spell_member_declarators rest))) (sign Semicolon ∷ [])
      ∙ ap (λ u. spell_declarator d ++ (sign Colon ∷ u)) (append_assoc (spell_expr w) (behind_commas (spell_member_declarators rest)) (sign Semicolon ∷ []))))) ∙ e)

  line_stands : (ds : List Scope) (ss : SpecifierTrees) (xs : MemberDeclaratorTrees) → levelled_member_declarators xs ≡ true → stands_behind ds ss (first_member_name xs) ≡ true → goes_on_specifiers (has_type_specifier ss) ds (head (with_commas (spell_member_declarators xs) ++ sign Semicolon ∷ [])) ≡ false
  line_stands ds ss NoMemberDeclarators l e = refl
  line_stands ds ss (MoreMemberDeclarators (Plain d) rest) l e =
      let k = both (declares d && not (has_names d)) (levelled_declarator d) (both (levelled_member_declarator (Plain d)) (levelled_member_declarators rest) l).0 in
      ap (λ u. goes_on_specifiers (has_type_specifier ss) ds (head u)) (append_assoc (spell_declarator d) (behind_commas (spell_member_declarators rest)) (sign Semicolon ∷ []))
      ∙ before_stands ds ss d (behind_commas (spell_member_declarators rest) ++ sign Semicolon ∷ []) e (λ a. absurd (true≢false (sym a ∙ declares_some d (both (declares d) (not (has_names d)) k.0).0)))
  line_stands ds ss (MoreMemberDeclarators (BitField d w) rest) l e =
      ap (λ u. goes_on_specifiers (has_type_specifier ss) ds (head u)) (ap (λ u. u ++ sign Semicolon ∷ []) (append_assoc (spell_declarator d) (sign Colon ∷ spell_expr w) (behind_commas (spell_member_declarators rest))) ∙ append_assoc (spell_declarator d) (sign Colon ∷ (spell_expr w ++ behind_commas (spell_member_declarators rest))) (sign Semicolon ∷ []))
      ∙ before_stands ds ss d (sign Colon ∷ ((spell_expr w ++ behind_commas (spell_member_declarators rest)) ++ sign Semicolon ∷ [])) e (λ a. refl)

  line_from : (ds : List Scope) (x : In MemberTree) (n : ℕ) (t : List Lexeme) → LineParts ds x n t → MemberIs h ds x n t
  line_from ds x n t b =
      let s = b.first in let o = b.second in let k = o.holds in let i = k.holds in
      let place : n + length b.front ≡ n + length (spell_specifiers b.value.0) = ap (λ u. n + length u) s.spelled in
      let text : b.back ≡ with_commas (spell_member_declarators (member_declarator_trees k.value.0)) ++ sign Semicolon ∷ [] = k.parts ∙ ap (λ u. u ++ sign Semicolon ∷ []) i.spelled in
      let stands : stands_behind b.value.1 b.value.0 (first_member_name (member_declarator_trees k.value.0)) ≡ true =
      stands_line b.value.1 b.value.0 (member_declarator_trees k.value.0) (ap (λ u. goes_on_specifiers (has_type_specifier b.value.0) b.value.1 (head u)) (sym text) ∙ o.first (line_some b.value x (n + length b.front) b.back k)) in
      subst (λ w. MemberIs h ds w n t) (sym k.is) (record {
        levelled = rw (s.some, s.of_form, s.levelled, i.levelled) refl;
        placed = rw (s.placed, ← place, i.placed) refl;
        scoped = rw (s.scoped, ← s.after, stands, i.scoped) refl;
        low = omega (arith, s.low, i.low);
        after = i.behind ∙ ap (λ e. after_member_declarators e (member_declarator_trees k.value.0)) s.after;
        spelled = rw (b.parts, s.spelled, text) refl;
      })

  line_to : (ds : List Scope) (ss : SpecifierTrees) (xs : List MemberDeclaratorTree) (after : List Scope) (n : ℕ) (t : List Lexeme) → MemberIs h ds (MemberLine ss (member_declarator_trees xs), after) n t → LineParts ds (MemberLine ss (member_declarator_trees xs), after) n t
  line_to ds ss xs after n t i =
      let ms : MemberDeclaratorTrees = member_declarator_trees xs in let middle : List Scope = after_specifiers ds ss in
      let l = both (has_specifier ss && (are_specifier_qualifiers ss && levelled_specifiers ss)) (levelled_member_declarators ms) i.levelled in let l0 = both (has_specifier ss) (are_specifier_qualifiers ss && levelled_specifiers ss) l.0 in let l1 = both (are_specifier_qualifiers ss) (levelled_specifiers ss) l0.1 in
      let p = both (placed_specifiers n ss) (placed_member_declarators (n + length (spell_specifiers ss)) ms) i.placed in
      let s = both (scoped_specifiers false ds ss) (stands_behind middle ss (first_member_name ms) && scoped_member_declarators middle ms) i.scoped in let s1 = both (stands_behind middle ss (first_member_name ms)) (scoped_member_declarators middle ms) s.1 in
      let text : List Lexeme = with_commas (spell_member_declarators ms) in
      record {
        value = (ss, middle);
        front = spell_specifiers ss;
        back = text ++ sign Semicolon ∷ [];
        parts = i.spelled;
        first = record { some = l0.0; of_form = l1.0; levelled = l1.1; placed = p.0; scoped = s.0; low = omega (arith, i.low); after = refl; spelled = refl };
        second = record {
          first = λ some. line_stands middle ss ms l.1 s1.0;
          holds = record {
            value = (xs, after);
            front = text;
            is = refl;
            parts = refl;
            holds = record { levelled = l.1; placed = p.1; scoped = s1.1; low = omega (arith, i.low); behind = i.after; spelled = refl };
          };
        };
      }

  -- static assertions

  abbrev AssertEnd : ℕ → In ExprTree → In MemberTree → ℕ → List Lexeme → Type 0
  AssertEnd at e = Behind (IsPunctuator CommaSign) (Both Numbers (λ m. Both LiteralsAre (λ texts. Behind (IsPunctuator RightParen) (Behind (IsPunctuator Semicolon) (Gives (MemberAssert at e.0 m texts, e.1))))))

  assert_end_lawful : (at : ℕ) (e : In ExprTree) → Lawful Any (assert_end at e) (AssertEnd at e) Anywhere
  assert_end_lawful at e = behind_lawful (sign_tells CommaSign) (bind_lawful here_lawful
      (λ m n t i. bind_lawful (known (λ o q p. tt) literals_lawful) (λ texts n t i. behind_lawful (sign_tells RightParen) (behind_lawful (sign_tells Semicolon) (pure_lawful (MemberAssert at e.0 m texts, e.1) (λ o q p. tt)))) (λ texts n t b u rest i k s. rw k.parts refl))
      (λ m n t b u rest i k s. tt))

  abbrev AssertParts : List Scope → In MemberTree → ℕ → List Lexeme → Type 0
  AssertParts ds = Both Numbers (λ at. Behind (IsKeyword StaticAssertWord) (Behind (IsPunctuator LeftParen) (Both (ExprIs (Below h) ConditionalLevel ds) (AssertEnd at))))

  assert_parts_lawful : {P : ℕ → Option Lexeme → Type 0} (ds : List Scope) → Lawful P (member_assert sub ds) (AssertParts ds) Anywhere
  assert_parts_lawful ds = bind_lawful here_lawful (λ at n t i. behind_lawful assert_tells (behind_lawful (sign_tells LeftParen)
      (bind_lawful (parts.expr ConditionalLevel ds) (λ e m u k. known (λ o q p. tt) (assert_end_lawful at e)) (λ e m u b v rest k a s. rw a.parts refl)))) (λ at n t b u rest i k s. tt)

  assert_from : (ds : List Scope) (x : In MemberTree) (n : ℕ) (t : List Lexeme) → AssertParts ds x n t → MemberIs h ds x n t
  assert_from ds x n t b =
      let w = b.second in let p = w.holds in let q = p.holds in let e = q.first in let c = q.second in let d = c.holds in let f = d.second in let g = f.second in let k = g.holds in
      let start : n + length b.front ≡ n = ap (λ u. n + length u) b.first.nothing ∙ Laws.add_none n in
      let place : n + length b.front + 1 + 1 ≡ n + 2 = omega (arith, start) in
      let placed : placed_expr (n + 2) q.value.0 ≡ true = subst (λ j. placed_expr j q.value.0 ≡ true) place e.good.placed in
      let message : d.value ≡ n + 3 + length (spell_expr q.value.0) = d.first.value ∙ omega (arith, start, ap length e.spelled) in
      let value : x ≡ (MemberAssert n q.value.0 (n + 3 + length (spell_expr q.value.0)) f.value, q.value.1) =
      k.holds.value ∙ (ap (λ j. (MemberAssert j q.value.0 d.value f.value, q.value.1)) b.first.value ∙ ap (λ j. (MemberAssert n q.value.0 j f.value, q.value.1)) message) in
      let tail : g.back ≡ sign Semicolon ∷ [] = k.parts ∙ ap (λ u. sign Semicolon ∷ u) k.holds.nothing in
      let message_text : c.back ≡ spell_literals f.value ++ (sign RightParen ∷ sign Semicolon ∷ []) = d.parts ∙ (ap (λ u. u ++ d.back) d.first.nothing ∙ (f.parts ∙ (ap (λ u. u ++ f.back) f.first.spelled ∙ ap (λ u. spell_literals f.value ++ u) (g.parts ∙ ap (λ u. sign RightParen ∷ u) tail)))) in
      let text : t ≡ word StaticAssertWord ∷ sign LeftParen ∷ (spell_expr q.value.0 ++ (sign CommaSign ∷ (spell_literals f.value ++ (sign RightParen ∷ sign Semicolon ∷ [])))) =
      b.parts ∙ (ap (λ u. u ++ b.back) b.first.nothing ∙ (w.parts ∙ ap (λ u. word StaticAssertWord ∷ u) (p.parts ∙ ap (λ u. sign LeftParen ∷ u) (q.parts ∙ (ap (λ u. u ++ q.back) e.spelled ∙ ap (λ u. spell_expr q.value.0 ++ u) (c.parts ∙ ap (λ u. sign CommaSign ∷ u) message_text)))))) in
      subst (λ y. MemberIs h ds y n t) (sym value) (record {
        levelled = rw (e.within, e.good.levelled, f.first.some) refl;
        placed = rw (true_eq n, placed, true_eq (n + 3 + length (spell_expr q.value.0))) refl;
        scoped = e.good.scoped;
        low = omega (arith, e.good.low, tall q.value.0);
        after = e.good.after;
        spelled = text ∙ ap (λ u. word StaticAssertWord ∷ sign LeftParen ∷ u) (sym (assert_text (spell_expr q.value.0) (spell_literals f.value)));
      })
    where
      assert_text : (e m : List Lexeme) → ((e ++ (sign CommaSign ∷ m)) ++ sign RightParen ∷ []) ++ sign Semicolon ∷ [] ≡ e ++ (sign CommaSign ∷ (m ++ (sign RightParen ∷ sign Semicolon ∷ [])))
      assert_text e m = append_assoc (e ++ (sign CommaSign ∷ m)) (sign RightParen ∷ []) (sign Semicolon ∷ []) ∙ append_assoc e (sign CommaSign ∷ m) (sign RightParen ∷ sign Semicolon ∷ [])

  assert_to : (ds : List Scope) (a : ℕ) (e : ExprTree) (ma : ℕ) (texts : List (List ℕ)) (after : List Scope) (n : ℕ) (t : List Lexeme) → MemberIs h ds (MemberAssert a e ma texts, after) n t → AssertParts ds (MemberAssert a e ma texts, after) n t
  assert_to ds a e ma texts after n t i =
      let l = both (is_within ConditionalLevel e && levelled e) (has_some texts) i.levelled in let l0 = both (is_within ConditionalLevel e) (levelled e) l.0 in
      let p = both (nat_eq a n) (placed_expr (n + 2) e && nat_eq ma (n + 3 + length (spell_expr e))) i.placed in let p1 = both (placed_expr (n + 2) e) (nat_eq ma (n + 3 + length (spell_expr e))) p.1 in
      let place : n + 2 ≡ n + 0 + 1 + 1 = omega arith in
      let number : n + 3 + length (spell_expr e) ≡ n + 0 + 1 + 1 + length (spell_expr e) + 1 = omega arith in
      let m : ℕ = n + 0 + 1 + 1 + length (spell_expr e) + 1 in
      record {
        value = n;
        front = [];
        back = t;
        first = record { value = refl; nothing = refl };
        parts = refl;
        second = record {
          back = sign LeftParen ∷ (spell_expr e ++ (sign CommaSign ∷ (spell_literals texts ++ (sign RightParen ∷ sign Semicolon ∷ []))));
          parts = i.spelled ∙ ap (λ u. word StaticAssertWord ∷ sign LeftParen ∷ u) (assert_text (spell_expr e) (spell_literals texts));
          holds = record {
            back = spell_expr e ++ (sign CommaSign ∷ (spell_literals texts ++ (sign RightParen ∷ sign Semicolon ∷ [])));
            parts = refl;
            holds = record {
              value = (e, after);
              front = spell_expr e;
              back = sign CommaSign ∷ (spell_literals texts ++ (sign RightParen ∷ sign Semicolon ∷ []));
              parts = refl;
              first = record { good = record { levelled = l0.1; placed = subst (λ k. placed_expr k e ≡ true) place p1.0; scoped = i.scoped; low = omega (arith, i.low); after = i.after }; within = l0.0; spelled = refl };
              second = record {
                back = spell_literals texts ++ (sign RightParen ∷ sign Semicolon ∷ []);
                parts = refl;
                holds = record {
                  value = m;
                  front = [];
                  back = spell_literals texts ++ (sign RightParen ∷ sign Semicolon ∷ []);
                  first = record { value = refl; nothing = refl };
                  parts = refl;
                  second = record {
                    value = texts;
                    front = spell_literals texts;
                    back = sign RightParen ∷ sign Semicolon ∷ [];
                    first = record { some = l.1; spelled = refl };
                    parts = refl;
                    second = record {
                      back = sign Semicolon ∷ [];
                      parts = refl;
                      holds = record {
                        back = [];
                        parts = refl;
                        holds = record { value = ap (λ k. (MemberAssert k e ma texts, after)) (eq_true a n p.0) ∙ ap (λ k. (MemberAssert n e k texts, after)) (eq_true ma (n + 3 + length (spell_expr e)) p1.1 ∙ number); nothing = refl };
                      };
                    };
                  };
                };
              };
            };
          };
        };
      }
    where
      assert_text : (e m : List Lexeme) → ((e ++ (sign CommaSign ∷ m)) ++ sign RightParen ∷ []) ++ sign Semicolon ∷ [] ≡ e ++ (sign CommaSign ∷ (m ++ (sign RightParen ∷ sign Semicolon ∷ [])))
      assert_text e m = append_assoc (e ++ (sign CommaSign ∷ m)) (sign RightParen ∷ []) (sign Semicolon ∷ []) ∙ append_assoc e (sign CommaSign ∷ m) (sign RightParen ∷ sign Semicolon ∷ [])

  -- members

  line_begins : (ds : List Scope) (ss : SpecifierTrees) (rest : List Lexeme) → (has_specifier ss && (are_specifier_qualifiers ss && levelled_specifiers ss)) ≡ true → scoped_specifiers false ds ss ≡ true → next_is (begins_type_name ds) (head (spell_specifiers ss ++ rest)) ≡ true
  line_begins ds ss rest l s = let k = both (has_specifier ss) (are_specifier_qualifiers ss && levelled_specifiers ss) l in type_begins ds ss rest k.0 (both (are_specifier_qualifiers ss) (levelled_specifiers ss) k.1).0 s

  assert_no_type : (ds : List Scope) (k : TokenKind) → is_assert_word k ≡ true → begins_type_name ds k ≡ false
  assert_no_type ds k e = ap (begins_type_name ds) (assert_tells.is k e)

  member_from : (ds : List Scope) (x : In MemberTree) (n : ℕ) (t : List Lexeme) → Either (AssertParts ds) (LineParts ds) x n t → MemberIs h ds x n t
  member_from ds x n t (Met b) = assert_from ds x n t b
  member_from ds x n t (Unmet b) = line_from ds x n t b

  member_to : (ds : List Scope) (x : MemberTree) (after : List Scope) (n : ℕ) (t : List Lexeme) → MemberIs h ds (x, after) n t → Either (AssertParts ds) (LineParts ds) (x, after) n t
  member_to ds (MemberAssert a e ma texts) after n t i = Met (assert_to ds a e ma texts after n t i)
  member_to ds (MemberLine ss ms) after n t i =
      let b = member_list_back ms in
      Unmet (subst (λ ys. LineParts ds (MemberLine ss ys, after) n t) b (line_to ds ss (member_list ms) after n t (subst (λ ys. MemberIs h ds (MemberLine ss ys, after) n t) (sym b) i)))

  member_lawful : (ds : List Scope) → Lawful Any (member sub ds) (MemberIs h ds) Anywhere
  member_lawful ds = said
      (when_lawful (next_is is_assert_word) (assert_parts_lawful ds) (known (λ n o p. tt) (line_parts_lawful ds))
      (λ x n t rest b s. rw (b.parts, b.first.nothing, b.second.parts) refl)
      (λ x n t rest b s. rw (b.parts, b.first.spelled, append_assoc) (apart (begins_type_name ds) is_assert_word (head (spell_specifiers b.value.0 ++ (b.back ++ rest)))
      (type_begins ds b.value.0 (b.back ++ rest) b.first.some b.first.of_form b.first.scoped) (assert_no_type ds))))
      (λ x n t i. member_to ds x.0 x.1 n t i) (member_from ds)

  -- the list of members

  abbrev NextMember : In (List MemberTree) → In MemberTree → ℕ → List Lexeme → Type 0
  NextMember x = MemberIs h x.1

  member_begins : (ds : List Scope) (m : MemberTree) (rest : List Lexeme) → levelled_member m ≡ true → scoped_member ds m ≡ true → next_is_not RightBrace (head (spell_member m ++ rest)) ≡ true
  member_begins ds (MemberAssert a e ma texts) rest l s = refl
  member_begins ds (MemberLine ss ms) rest l s =
      ap (λ u. next_is_not RightBrace (head u)) (append_assoc (spell_specifiers ss) (with_commas (spell_member_declarators ms) ++ sign Semicolon ∷ []) rest)
      ∙ not_brace (begins_type_name ds) (head (spell_specifiers ss ++ ((with_commas (spell_member_declarators ms) ++ sign Semicolon ∷ []) ++ rest)))
      (line_begins ds ss ((with_commas (spell_member_declarators ms) ++ sign Semicolon ∷ []) ++ rest) (both _ _ l).0 (both _ _ s).0) (λ k e. ap (begins_type_name ds) ((sign_tells RightBrace).is k e))

  some_of_head : (t : List Lexeme) → next_is_not RightBrace (head (t ++ [])) ≡ true → 0 < length t
  some_of_head [] e = absurd (true≢false (sym e))
  some_of_head (u ∷ us) e = omega arith

  more_members_lawful : (x : In (List MemberTree)) → Lawful Any (more_members sub x) (λ z. Steps (Grows NextMember) z x) (λ z o. next_is_not RightBrace o ≡ false)
  more_members_lawful x = ended (λ z n t o s e. (tt, e)) (λ z n t o s e. e.1) (known (λ n o p. tt)
      (many_lawful {K = Grows NextMember} {G = λ z o. Unit {0}} (λ y. mapped_lawful (grown y) (λ d o s. tt) (λ d o s. tt) (known (λ n o p. tt) (member_lawful y.1)))
      (λ y z n t more g. rw g.holds.spelled (member_begins y.1 g.value.0 more g.holds.levelled g.holds.scoped)) (λ y z n t more g. tt)
      (λ y z n t g. rw g.holds.spelled (some_of_head (spell_member g.value.0) (member_begins y.1 g.value.0 [] g.holds.levelled g.holds.scoped))) (λ y. refl) x))

  pub record MembersAre (ds : List Scope) (xs : List MemberTree) (after : List Scope) (n : ℕ) (text : List Lexeme) : Type 0 where
    pub levelled : levelled_members (member_trees xs) ≡ true
    pub placed : placed_members n (member_trees xs) ≡ true
    pub scoped : scoped_members ds (member_trees xs) ≡ true
    pub low : members_height (member_trees xs) ≤ h - 1
    pub behind : after ≡ after_members ds (member_trees xs)
    pub spelled : text ≡ spell_members (member_trees xs)

  members_of : (xs before : List MemberTree) (ds after : List Scope) (n : ℕ) (text : List Lexeme) → Rest Over NextMember before ds after n text xs → MembersAre ds xs after n text
  members_of [] before ds after n text r = record { levelled = refl; placed = refl; scoped = refl; low = omega arith; behind = r.0; spelled = r.1 }
  members_of (x ∷ xs) before ds after n text r =
      let i = r.3 in let m = members_of xs (before ++ x ∷ []) r.0 after (n + length r.1) r.2 r.4 in
      let next : n + length r.1 ≡ n + length (spell_member x) = ap (λ u. n + length u) i.spelled in
      record { levelled = rw (i.levelled, m.levelled) refl; placed = rw (i.placed, ← next, m.placed) refl; scoped = rw (i.scoped, ← i.after, m.scoped) refl; low = omega (arith, i.low, m.low); behind = rw (← i.after) m.behind; spelled = rw (r.5, i.spelled, m.spelled) refl }

  of_members : 1 ≤ h → (xs before : List MemberTree) (ds after : List Scope) (n : ℕ) (text : List Lexeme) → MembersAre ds xs after n text → Rest Over NextMember before ds after n text xs
  of_members some [] before ds after n text m = (m.behind, m.spelled)
  of_members some (x ∷ xs) before ds after n text m =
      let l = both (levelled_member x) (levelled_members (member_trees xs)) m.levelled in let p = both (placed_member n x) (placed_members (n + length (spell_member x)) (member_trees xs)) m.placed in
      let s = both (scoped_member ds x) (scoped_members (after_member ds x) (member_trees xs)) m.scoped in
      let low : members_height (member_trees xs) ≤ h - 1 = omega (arith, m.low) in (
        after_member ds x,
        spell_member x,
        spell_members (member_trees xs),
        record { levelled = l.0; placed = p.0; scoped = s.0; low = omega (arith, m.low, some); after = refl; spelled = refl },
        of_members some xs (before ++ x ∷ []) (after_member ds x) after (n + length (spell_member x)) (spell_members (member_trees xs)) (record { levelled = l.1; placed = p.1; scoped = s.1; low = low; behind = m.behind; spelled = refl }),
        m.spelled,
      )

  abbrev pub MemberParts : List Scope → In (List MemberTree) → ℕ → List Lexeme → Type 0
  MemberParts ds = Both (MemberIs h ds) (λ m z. Steps (Grows NextMember) z (m.0 ∷ [], m.1))

  pub members_lawful : (ds : List Scope) → Lawful Any (members sub ds) (MemberParts ds) (λ z o. next_is_not RightBrace o ≡ false)
  members_lawful ds = bind_lawful (member_lawful ds) (λ m n t i. known (λ o q p. tt) (more_members_lawful (m.0 ∷ [], m.1))) (λ m n t b u rest i k s. tt)

  pub record SomeMembers (ds : List Scope) (xs : List MemberTree) (after : List Scope) (n : ℕ) (text : List Lexeme) : Type 0 where
    pub some : has_member (member_trees xs) ≡ true
    pub are : MembersAre ds xs after n text

  members_made : (ds middle after : List Scope) (n : ℕ) (x : MemberTree) (xs : List MemberTree) (front back : List Lexeme) → MemberIs h ds (x, middle) n front → MembersAre middle xs after (n + length front) back → MembersAre ds (x ∷ xs) after n (front ++ back)
  members_made ds middle after n x xs front back i m =
      let next : n + length front ≡ n + length (spell_member x) = ap (λ u. n + length u) i.spelled in
      record { levelled = rw (i.levelled, m.levelled) refl; placed = rw (i.placed, ← next, m.placed) refl; scoped = rw (i.scoped, ← i.after, m.scoped) refl; low = omega (arith, i.low, m.low); behind = rw (← i.after) m.behind; spelled = rw (i.spelled, m.spelled) refl }

  pub members_from : (ds : List Scope) (z : In (List MemberTree)) (n : ℕ) (t : List Lexeme) → MemberParts ds z n t → SomeMembers ds z.0 z.1 n t
  members_from ds z n t b =
      let r = rest_of_steps NextMember z (b.value.0 ∷ [], b.value.1) (n + length b.front) b.back b.second in
      let m = members_of r.items (b.value.0 ∷ []) b.value.1 z.1 (n + length b.front) b.back r.rest in
      subst (λ u. SomeMembers ds z.0 z.1 n u) (sym b.parts) (subst (λ ys. SomeMembers ds ys z.1 n (b.front ++ b.back)) (sym r.list) (record { some = refl; are = members_made ds b.value.1 z.1 n b.value.0 r.items b.front b.back b.first m }))

  pub members_to : 1 ≤ h → (ds : List Scope) (x : MemberTree) (xs : List MemberTree) (after : List Scope) (n : ℕ) (t : List Lexeme) → MembersAre ds (x ∷ xs) after n t → MemberParts ds (x ∷ xs, after) n t
  members_to some ds x xs after n t m =
      let l = both (levelled_member x) (levelled_members (member_trees xs)) m.levelled in let p = both (placed_member n x) (placed_members (n + length (spell_member x)) (member_trees xs)) m.placed in
      let s = both (scoped_member ds x) (scoped_members (after_member ds x) (member_trees xs)) m.scoped in
      let low : members_height (member_trees xs) ≤ h - 1 = omega (arith, m.low) in
      record {
        value = (x, after_member ds x);
        front = spell_member x;
        back = spell_members (member_trees xs);
        parts = m.spelled;
        first = record { levelled = l.0; placed = p.0; scoped = s.0; low = omega (arith, m.low, some); after = refl; spelled = refl };
        second = steps_of_rest NextMember xs (x ∷ []) (after_member ds x) after (n + length (spell_member x)) (spell_members (member_trees xs)) (of_members some xs (x ∷ []) (after_member ds x) after (n + length (spell_member x)) (spell_members (member_trees xs))
            (record { levelled = l.1; placed = p.1; scoped = s.1; low = low; behind = m.behind; spelled = refl }));
      }

  -- enumerators

  pub record EnumeratorIs (ds : List Scope) (x : In EnumeratorTree) (n : ℕ) (text : List Lexeme) : Type 0 where
    pub levelled : levelled_enumerator x.0 ≡ true
    pub placed : placed_enumerator n x.0 ≡ true
    pub scoped : scoped_enumerator ds x.0 ≡ true
    pub low : enumerator_height x.0 ≤ max 1 (h - 1)
    pub after : x.1 ≡ after_enumerator ds x.0
    pub spelled : text ≡ spell_enumerator x.0

  abbrev EndsValue : MaybeExpr → Option Lexeme → Type 0
  EndsValue NoExpr o = next_is (is_sign Equal) o ≡ false
  EndsValue (SomeExpr e) o = goes_on_expr ConditionalLevel o ≡ false

  abbrev EndsEnumerator : EnumeratorTree → Option Lexeme → Type 0
  EndsEnumerator (Enumerates at n v) o = EndsValue v o

  enumerator_comma : (x : EnumeratorTree) → EndsEnumerator x (Some (sign CommaSign))
  enumerator_comma (Enumerates at n NoExpr) = refl
  enumerator_comma (Enumerates at n (SomeExpr e)) = refl

  enumerator_brace : (x : EnumeratorTree) → EndsEnumerator x (Some (sign RightBrace))
  enumerator_brace (Enumerates at n NoExpr) = refl
  enumerator_brace (Enumerates at n (SomeExpr e)) = refl

  abbrev ValueIs : ℕ → NameId → List Scope → In EnumeratorTree → ℕ → List Lexeme → Type 0
  ValueIs at m ds = Either (Behind (IsPunctuator Equal) (Mapped (λ (e : In ExprTree). (Enumerates at m (SomeExpr e.0), declared m false e.1)) (ExprIs (Below h) ConditionalLevel ds))) (Gives (Enumerates at m NoExpr, declared m false ds))

  value_lawful : {P : ℕ → Option Lexeme → Type 0} (at : ℕ) (m : NameId) (ds : List Scope) → Lawful P (enumerator_behind sub at m ds) (ValueIs at m ds) (λ x. EndsEnumerator x.0)
  value_lawful at m ds = when_lawful (next_is (is_sign Equal))
      (behind_lawful (sign_tells Equal) (mapped_lawful (λ e. (Enumerates at m (SomeExpr e.0), declared m false e.1)) (λ e o s. s) (λ e o s. s) (parts.expr ConditionalLevel ds)))
      (pure_lawful (Enumerates at m NoExpr, declared m false ds) (λ n o p. p.1))
      (λ x n t rest b s. rw b.parts refl) (λ x n t rest g s. rw g.nothing (subst (λ w. EndsEnumerator w.0 (head rest)) g.value s))

  abbrev EnumeratorParts : List Scope → In EnumeratorTree → ℕ → List Lexeme → Type 0
  EnumeratorParts ds = Both Numbers (λ at. Both (Token a_name) (λ m. ValueIs at m ds))

  value_from : (ds : List Scope) (n : ℕ) (m : NameId) (x : In EnumeratorTree) (t : List Lexeme) → ValueIs n m ds x (n + 1) t → EnumeratorIs ds x n (named m ∷ t)
  value_from ds n m x t (Met b) = let k = b.holds in let e = k.holds in
      let place : n + 1 + 1 ≡ n + 2 = omega arith in
      let placed : placed_expr (n + 2) k.value.0 ≡ true = subst (λ j. placed_expr j k.value.0 ≡ true) place e.good.placed in
      subst (λ w. EnumeratorIs ds w n (named m ∷ t)) (sym k.is) (record { levelled = rw (e.within, e.good.levelled) refl; placed = rw (true_eq n, placed) refl; scoped = e.good.scoped; low = omega (arith, e.good.low); after = ap (declared m false) e.good.after; spelled = rw (b.parts, e.spelled) refl })
  value_from ds n m x t (Unmet g) = subst (λ w. EnumeratorIs ds w n (named m ∷ t)) (sym g.value) (record { levelled = refl; placed = rw (true_eq n) refl; scoped = refl; low = omega arith; after = refl; spelled = rw g.nothing refl })

  enumerator_from : (ds : List Scope) (x : In EnumeratorTree) (n : ℕ) (t : List Lexeme) → EnumeratorParts ds x n t → EnumeratorIs ds x n t
  enumerator_from ds x n t b =
      let k = b.second in
      let one : k.front ≡ named k.value ∷ [] = k.first.alone ∙ ap (λ u. u ∷ []) (a_name_is k.first.token k.value k.first.is) in
      let place : n + length b.front + length k.front ≡ n + 1 = omega (arith, ap length b.first.nothing, ap length one) in
      let text : t ≡ named k.value ∷ k.back = b.parts ∙ (ap (λ u. u ++ b.back) b.first.nothing ∙ (k.parts ∙ ap (λ u. u ++ k.back) one)) in
      subst (EnumeratorIs ds x n) (sym text) (value_from ds n k.value x k.back (subst (λ a. ValueIs a k.value ds x (n + 1) k.back) b.first.value (subst (λ j. ValueIs b.value k.value ds x j k.back) place k.second)))

  enumerator_to : 2 ≤ h → (ds : List Scope) (a : ℕ) (m : NameId) (v : MaybeExpr) (after : List Scope) (n : ℕ) (t : List Lexeme) → EnumeratorIs ds (Enumerates a m v, after) n t → EnumeratorParts ds (Enumerates a m v, after) n t
  enumerator_to two ds a m v after n t i =
      let p = both (nat_eq a n) (placed_value (n + 2) v) i.placed in
      record {
        value = n;
        front = [];
        back = t;
        first = record { value = refl; nothing = refl };
        parts = refl;
        second = record {
          value = m;
          front = named m ∷ [];
          back = spell_value v;
          first = record { token = named m; is = refl; alone = refl };
          parts = i.spelled;
          second = subst (λ k. ValueIs n m ds (Enumerates k m v, after) (n + 0 + 1) (spell_value v)) (sym (eq_true a n p.0)) (by v after i.levelled p.1 i.scoped i.low i.after);
        };
      }
    where
      by : (v : MaybeExpr) (after : List Scope) → levelled_value v ≡ true → placed_value (n + 2) v ≡ true → scoped_value ds v ≡ true → value_height v ≤ max 1 (h - 1) → after ≡ declared m false (after_value ds v) → ValueIs n m ds (Enumerates n m v, after) (n + 0 + 1) (spell_value v)
      by NoExpr after l p s low e = Unmet (record { value = ap (λ k. (Enumerates n m NoExpr, k)) e; nothing = refl })
      by (SomeExpr x) after l p s low e =
          let k = both (is_within ConditionalLevel x) (levelled x) l in
          let place : n + 2 ≡ n + 0 + 1 + 1 = omega arith in
          Met (record {
            back = spell_expr x;
            parts = refl;
            holds = record {
              value = (x, after_expr ds x);
              is = ap (λ k. (Enumerates n m (SomeExpr x), k)) e;
              holds = record { good = record { levelled = k.1; placed = subst (λ j. placed_expr j x ≡ true) place p; scoped = s; low = omega (arith, low, two); after = refl }; within = k.0; spelled = refl };
            };
          })

  enumerator_of : 2 ≤ h → (ds : List Scope) (x : EnumeratorTree) (after : List Scope) (n : ℕ) (t : List Lexeme) → EnumeratorIs ds (x, after) n t → EnumeratorParts ds (x, after) n t
  enumerator_of two ds (Enumerates a m v) after n t i = enumerator_to two ds a m v after n t i

  module _ (two : 2 ≤ h) where
    enumerator_lawful : (ds : List Scope) → Lawful Any (enumerator sub ds) (EnumeratorIs ds) (λ x. EndsEnumerator x.0)
    enumerator_lawful ds = said (bind_lawful here_lawful (λ at n t i. bind_lawful (one_lawful a_name) (λ m k u j. value_lawful at m ds) (λ m k u b v rest j l s. tt)) (λ at n t b u rest i k s. tt))
        (λ x n t i. enumerator_of two ds x.0 x.1 n t i) (enumerator_from ds)

    abbrev pub LastComma : Unit {0} → ℕ → List Lexeme → Type 0
    LastComma c n t = Gives tt c n t

    enumerator_no_brace : (x : EnumeratorTree) (rest : List Lexeme) → next_is (is_sign RightBrace) (head (spell_enumerator x ++ rest)) ≡ false
    enumerator_no_brace (Enumerates a m v) rest = refl

    abbrev pub EndsEnumerators : In (List EnumeratorTree × Bool) → Option Lexeme → Type 0
    EndsEnumerators z = EndIs EndsEnumerator (λ o. next_is (is_sign RightBrace) o ≡ true) z.0.0 z.0.1

    abbrev pub EnumeratorList : List Scope → In (List EnumeratorTree × Bool) → ℕ → List Lexeme → Type 0
    EnumeratorList ds z = Listed (Ending LastComma z.0.1) EnumeratorIs ds z.0.0 z.1

    pub enumerators_lawful : (ds : List Scope) → Lawful Any (enumerators sub ds) (EnumeratorList ds) EndsEnumerators
    enumerators_lawful ds = listed_to_lawful EndsEnumerator (next_is (is_sign RightBrace)) LastComma (λ o. next_is (is_sign RightBrace) o ≡ true) enumerator_lawful
        (pure_lawful tt (λ n o p. p.1)) enumerator_comma (λ c n t rest g l. rw g.nothing l) (λ ds y n t rest i. rw i.spelled (enumerator_no_brace y.0 rest)) ds

    pub enumerators_end : (b : Bool) (xs : List EnumeratorTree) → EndIs EndsEnumerator (λ o. next_is (is_sign RightBrace) o ≡ true) xs b (Some (sign RightBrace))
    enumerators_end true xs = refl
    enumerators_end false xs = (all_last EndsEnumerator xs (Some (sign RightBrace)) enumerator_brace, refl)

    comma_text : (b : Bool) (n : ℕ) (t : List Lexeme) → Ending LastComma b n t → t ≡ last_comma b
    comma_text false n t e = e
    comma_text true n t e = e.parts ∙ ap (λ u. sign CommaSign ∷ u) e.holds.nothing

    text_comma : (b : Bool) (n : ℕ) (t : List Lexeme) → t ≡ last_comma b → Ending LastComma b n t
    text_comma false n t e = e
    text_comma true n t e = record { back = []; holds = record { value = refl; nothing = refl }; parts = e }

    record MoreEnumeratorsAre (b : Bool) (ds : List Scope) (xs : List EnumeratorTree) (after : List Scope) (n : ℕ) (text : List Lexeme) : Type 0 where
      levelled : levelled_enumerators (enumerator_trees xs) ≡ true
      placed : placed_enumerators (n + 1) (enumerator_trees xs) ≡ true
      scoped : scoped_enumerators ds (enumerator_trees xs) ≡ true
      low : enumerators_height (enumerator_trees xs) ≤ h - 1
      behind : after ≡ after_enumerators ds (enumerator_trees xs)
      spelled : text ≡ behind_commas (spell_enumerators (enumerator_trees xs)) ++ last_comma b

    more_enumerators : (b : Bool) (xs before : List EnumeratorTree) (ds after : List Scope) (n : ℕ) (text : List Lexeme) → Rest (Ending LastComma b) (AfterComma EnumeratorIs) before ds after n text xs → MoreEnumeratorsAre b ds xs after n text
    more_enumerators b [] before ds after n text r = record { levelled = refl; placed = refl; scoped = refl; low = omega arith; behind = r.0; spelled = comma_text b n text r.1 }
    more_enumerators b (x ∷ xs) before ds after n text r =
        let i = r.3.holds in
        let next : n + length r.1 + 1 ≡ n + 1 + length (spell_enumerator x) + 1 = omega (arith, ap length r.3.parts, ap length i.spelled) in
        let m = more_enumerators b xs (before ++ x ∷ []) r.0 after (n + length r.1) r.2 r.4 in
        record { levelled = rw (i.levelled, m.levelled) refl; placed = rw (i.placed, ← next, m.placed) refl; scoped = rw (i.scoped, ← i.after, m.scoped) refl; low = omega (arith, i.low, m.low, two); behind = rw (← i.after) m.behind; spelled = rw (r.5, r.3.parts, i.spelled, m.spelled, append_assoc) refl }

    enumerators_more : (b : Bool) (xs before : List EnumeratorTree) (ds after : List Scope) (n : ℕ) (text : List Lexeme) → MoreEnumeratorsAre b ds xs after n text → Rest (Ending LastComma b) (AfterComma EnumeratorIs) before ds after n text xs
    enumerators_more b [] before ds after n text m = (m.behind, text_comma b n text m.spelled)
    enumerators_more b (x ∷ xs) before ds after n text m =
        let l = both (levelled_enumerator x) (levelled_enumerators (enumerator_trees xs)) m.levelled in let p = both (placed_enumerator (n + 1) x) (placed_enumerators (n + 1 + length (spell_enumerator x) + 1) (enumerator_trees xs)) m.placed in
        let s = both (scoped_enumerator ds x) (scoped_enumerators (after_enumerator ds x) (enumerator_trees xs)) m.scoped in
        let next : n + 1 + length (spell_enumerator x) + 1 ≡ n + suc (length (spell_enumerator x)) + 1 = omega arith in
        let back : List Lexeme = behind_commas (spell_enumerators (enumerator_trees xs)) ++ last_comma b in
        let low : enumerators_height (enumerator_trees xs) ≤ h - 1 = omega (arith, m.low) in (
          after_enumerator ds x,
          sign CommaSign ∷ spell_enumerator x,
          back,
          record { back = spell_enumerator x; parts = refl; holds = record { levelled = l.0; placed = p.0; scoped = s.0; low = omega (arith, m.low); after = refl; spelled = refl } },
          enumerators_more b xs (before ++ x ∷ []) (after_enumerator ds x) after (n + suc (length (spell_enumerator x))) back (record { levelled = l.1; placed = subst (λ k. placed_enumerators k (enumerator_trees xs) ≡ true) next p.1; scoped = s.1; low = low; behind = m.behind; spelled = refl }),
          m.spelled ∙ ap (λ u. sign CommaSign ∷ u) (append_assoc (spell_enumerator x) (behind_commas (spell_enumerators (enumerator_trees xs))) (last_comma b)),
        )

    pub record EnumeratorsAre (ds : List Scope) (b : Bool) (es : EnumeratorTrees) (after : List Scope) (n : ℕ) (text : List Lexeme) : Type 0 where
      pub some : has_enumerator es ≡ true
      pub levelled : levelled_enumerators es ≡ true
      pub placed : placed_enumerators n es ≡ true
      pub scoped : scoped_enumerators ds es ≡ true
      pub low : enumerators_height es ≤ h - 1
      pub behind : after ≡ after_enumerators ds es
      pub spelled : text ≡ with_commas (spell_enumerators es) ++ last_comma b

    pub enumerators_from : (ds : List Scope) (b : Bool) (xs : List EnumeratorTree) (after : List Scope) (n : ℕ) (t : List Lexeme) → Listed (Ending LastComma b) EnumeratorIs ds xs after n t → EnumeratorsAre ds b (enumerator_trees xs) after n t
    enumerators_from ds b xs after n t l =
        let i = l.holds in let m = more_enumerators b l.others (l.first.0 ∷ []) l.first.1 after (n + length l.front) l.back l.rest in
        let next : n + length l.front + 1 ≡ n + length (spell_enumerator l.first.0) + 1 = omega (arith, ap length i.spelled) in
        subst (λ ys. EnumeratorsAre ds b (enumerator_trees ys) after n t) (sym l.list) (record {
          some = refl;
          levelled = rw (i.levelled, m.levelled) refl;
          placed = rw (i.placed, ← next, m.placed) refl;
          scoped = rw (i.scoped, ← i.after, m.scoped) refl;
          low = omega (arith, i.low, m.low, two);
          behind = rw (← i.after) m.behind;
          spelled = rw (l.parts, i.spelled, m.spelled, append_assoc) refl;
        })

    pub enumerators_to : (ds : List Scope) (b : Bool) (x : EnumeratorTree) (xs : List EnumeratorTree) (after : List Scope) (n : ℕ) (t : List Lexeme) → EnumeratorsAre ds b (enumerator_trees (x ∷ xs)) after n t → Listed (Ending LastComma b) EnumeratorIs ds (x ∷ xs) after n t
    enumerators_to ds b x xs after n t m =
        let l = both (levelled_enumerator x) (levelled_enumerators (enumerator_trees xs)) m.levelled in let p = both (placed_enumerator n x) (placed_enumerators (n + length (spell_enumerator x) + 1) (enumerator_trees xs)) m.placed in
        let s = both (scoped_enumerator ds x) (scoped_enumerators (after_enumerator ds x) (enumerator_trees xs)) m.scoped in
        let back : List Lexeme = behind_commas (spell_enumerators (enumerator_trees xs)) ++ last_comma b in
        let low : enumerators_height (enumerator_trees xs) ≤ h - 1 = omega (arith, m.low) in
        record {
          first = (x, after_enumerator ds x);
          others = xs;
          front = spell_enumerator x;
          back = back;
          list = refl;
          holds = record { levelled = l.0; placed = p.0; scoped = s.0; low = omega (arith, m.low); after = refl; spelled = refl };
          rest = enumerators_more b xs (x ∷ []) (after_enumerator ds x) after (n + length (spell_enumerator x)) back (record { levelled = l.1; placed = p.1; scoped = s.1; low = low; behind = m.behind; spelled = refl });
          parts = m.spelled ∙ append_assoc (spell_enumerator x) (behind_commas (spell_enumerators (enumerator_trees xs))) (last_comma b);
        }

pub members_list : MemberTrees → List MemberTree
members_list NoMembers = []
members_list (MoreMembers m ms) = m ∷ members_list ms

pub members_back : (ms : MemberTrees) → member_trees (members_list ms) ≡ ms
unfolding members_list
members_back NoMembers = refl
members_back (MoreMembers m ms) = ap (MoreMembers m) (members_back ms)

pub enumerators_list : EnumeratorTrees → List EnumeratorTree
enumerators_list NoEnumerators = []
enumerators_list (MoreEnumerators e es) = e ∷ enumerators_list es

pub enumerators_back : (es : EnumeratorTrees) → enumerator_trees (enumerators_list es) ≡ es
unfolding enumerators_list
enumerators_back NoEnumerators = refl
enumerators_back (MoreEnumerators e es) = ap (MoreEnumerators e) (enumerators_back es)
