-- Device: the reading of specifiers gives exactly the grammatical ones.
use Rattle.std.proofs.Common.{◌≡◌, refl, sym, ap, ◌∙◌, subst, ℕ, suc, ◌+◌, ◌-◌, ◌<◌, ◌≤◌, max, length, Bool, true, false, not, ◌&&◌, ◌||◌, nat_eq, nat_le, nat_lt, List, [], ◌∷◌, ◌++◌, Option, Some, None, arith, true≢false}
use Rattle.cil_base.specs.declared.numbers.NameId.{NameId}
use Rattle.cil_base.specs.declared.tokens.TokenKind.{TokenKind}
use Rattle.cil_base.specs.declared.tokens.TokenKind.TheVariants.{Punctuator as IsPunctuator}
use Rattle.cil_base.specs.declared.tokens.Keyword.TheVariants.{Enum as EnumWord}
use Rattle.cil_base.specs.declared.tokens.Punctuator.TheVariants.{LeftBrace, RightBrace}
use Rattle.typedef_scopes.specs.Scopes.{Scope}
use Rattle.c_tree.specs.declared.words.StructKind.{StructKind}
use Rattle.c_tree.specs.declared.words.StructKind.TheVariants.{Struct, Union}
use Rattle.c_tree.specs.declared.words.TagKind.TheVariants.{Struct as StructTag, Union as UnionTag, Enum as EnumTag}
use Rattle.c_tree.specs.Syntax.{SpecifierTree, Storage, Basic, Qualified, Functional, TypedefName, Tag, StructBody, EnumBody, SpecifierTrees, NoSpecifiers, MoreSpecifiers, MemberTree, MemberTrees, NoMembers, MoreMembers, EnumeratorTree, EnumeratorTrees, NoEnumerators, MoreEnumerators, Enumerates, MaybeExpr, NoExpr, SomeExpr}
use Rattle.c_tree.specs.Spelling.{Lexeme, basic_word, qualifier_word, word, sign, named, in_braces, with_commas, last_comma, spell_tag, struct_word, tag_word, spell_specifier, spell_specifiers, spell_members, spell_enumerators}
use Rattle.c_tree.specs.Height.{value_height, enumerator_height, tag_height, specifier_height, specifiers_height, members_height, enumerators_height}
use Rattle.c_tree.specs.Levels.{has_specifier, is_specifier_qualifier, are_specifier_qualifiers, has_member, has_enumerator, levelled_specifier, levelled_specifiers, levelled_members, levelled_enumerators}
use Rattle.c_tree.specs.Placed.{placed_specifier, placed_specifiers, placed_members, placed_enumerators}
use Rattle.c_tree.specs.Scoped.{names_type, has_type_specifier, scoped_specifier, scoped_specifiers, scoped_members, scoped_enumerators, after_specifier, after_specifiers, after_members, after_enumerators}
use Rattle.c_exprs.specs.declared.words.Piece.{Piece}
use Rattle.c_exprs.specs.declared.words.Piece.TheVariants.{Storage as StoragePiece, Basic as BasicPiece, Qualifier as QualifierPiece, Function as FunctionPiece, Name as NamePiece, Struct as StructPiece, Enum as EnumPiece}
use Rattle.c_exprs.specs.declared.words.SpecifierForm.{SpecifierForm}
use Rattle.c_exprs.specs.declared.words.SpecifierForm.TheVariants.{TypeName as InTypeName}
use Rattle.c_cursor.specs.Readers.{head}
use Rattle.c_cursor.specs.Classes.{is_sign, is_name, next_is, a_name}
use Rattle.c_exprs.specs.Classes.{piece_for, piece_fits, in_type_name, piece_word}
use Rattle.c_exprs.specs.GoesOn.{goes_on_typed, goes_on_specifiers}
use Rattle.c_exprs.specs.Subs.{In, Subs}
use Rattle.c_exprs.specs.SpecifierReading.{member_trees, struct_body, struct_tag, behind_struct_tag, behind_struct, enumerator_trees, enum_body, behind_enum_tag, behind_enum, behind_piece, specifier, some_typed, specifier_trees, next_specifier, some_specifiers, specifiers}
use Rattle.c_exprs.proofs.Laws
use Rattle.c_exprs.proofs.Laws.{Lawful, Any, Anywhere, Next, And, Steps, Ends, More, Token, Mapped, Behind, Before, Both, Either, Met, Unmet, Under, There, Gives, Numbers, bare, bind_lawful, guard_known, guard_lawful, mapped_lawful, behind_lawful, before_lawful, pure_lawful, when_lawful, many_lawful, steps_fit, one_lawful, here_lawful, said, known, ended}
use Rattle.c_cursor.proofs.Tokens.{eq_true, true_eq}
use Rattle.c_exprs.proofs.Tokens.{true_le, le_true, true_lt, lt_true, both, or_true, sign_tells, a_name_is, piece_lexeme, PieceIs, piece_is, is_piece}
use Rattle.c_exprs.proofs.Heads.{storage_begins, basic_begins, qualifier_begins, function_begins, tag_begins, struct_begins}
use Rattle.c_exprs.proofs.Relations.{Below, SpecifiersIs, EndsSpecifiers, LawfulSubs}
use Rattle.c_exprs.proofs.Lists.{grown, Grows, Over, Rest, rest_of_steps, steps_of_rest, Last, last_of, of_last, all_last, Listed, Ending}
use Rattle.c_exprs.proofs.Arguments.{tall}
use Rattle.c_exprs.proofs.ParameterLaws.{some_fitting}
use Rattle.c_exprs.proofs.MemberLaws.{EnumeratorIs, MembersAre, MemberParts, members_lawful, members_from, members_to, members_list, members_back, EnumeratorsAre, enumerators_lawful, enumerators_end, enumerators_from, enumerators_to, enumerators_list, enumerators_back}

pub record SpecifierIs (h : ℕ) (form : SpecifierForm) (typed : Bool) (ds : List Scope) (x : In SpecifierTree) (n : ℕ) (text : List Lexeme) : Type 0 where
  pub of_form : (not (in_type_name form) || is_specifier_qualifier x.0) ≡ true
  pub levelled : levelled_specifier x.0 ≡ true
  pub placed : placed_specifier n x.0 ≡ true
  pub scoped : scoped_specifier typed ds x.0 ≡ true
  pub low : specifier_height x.0 < suc h
  pub after : x.1 ≡ after_specifier ds x.0
  pub spelled : text ≡ spell_specifier x.0

-- no body may follow a tag alone
abbrev pub EndsSpecifier : SpecifierTree → Option Lexeme → Type 0
EndsSpecifier (Tag at kind tag) o = next_is (is_sign LeftBrace) o ≡ false
EndsSpecifier _ o = Unit {0}

tag_struct : (kind : StructKind) → tag_word (struct_tag kind) ≡ struct_word kind
tag_struct Struct = refl
tag_struct Union = refl

tall_value : (v : MaybeExpr) → 1 ≤ value_height v
tall_value NoExpr = omega arith
tall_value (SomeExpr e) = tall e

tall_enumerator : (e : EnumeratorTree) → 1 ≤ enumerator_height e
tall_enumerator (Enumerates at n v) = tall_value v

-- what a specifier begins with

specifier_goes : (typed : Bool) (ds : List Scope) (s : SpecifierTree) (rest : List Lexeme) → scoped_specifier typed ds s ≡ true → goes_on_specifiers typed ds (head (spell_specifier s ++ rest)) ≡ true
specifier_goes typed ds (Storage at w) rest s = storage_begins w
specifier_goes typed ds (Basic at w) rest s = some_fitting (piece_fits 1 InTypeName) (piece_word (basic_word w)) (basic_begins w)
specifier_goes typed ds (Qualified at w) rest s = some_fitting (piece_fits 1 InTypeName) (piece_word (qualifier_word w)) (qualifier_begins w)
specifier_goes typed ds (Functional at w) rest s = function_begins w
specifier_goes typed ds (TypedefName at n) rest s = s
specifier_goes typed ds (Tag at kind tag) rest s = some_fitting (piece_fits 1 InTypeName) (piece_word (tag_word kind)) (tag_begins kind)
specifier_goes typed ds (StructBody at kind tag ms) rest s = some_fitting (piece_fits 1 InTypeName) (piece_word (struct_word kind)) (struct_begins kind)
specifier_goes typed ds (EnumBody at tag es comma) rest s = refl

specifier_no_brace : (s : SpecifierTree) (rest : List Lexeme) → next_is (is_sign LeftBrace) (head (spell_specifier s ++ rest)) ≡ false
specifier_no_brace (Storage at w) rest = refl
specifier_no_brace (Basic at w) rest = refl
specifier_no_brace (Qualified at w) rest = refl
specifier_no_brace (Functional at w) rest = refl
specifier_no_brace (TypedefName at n) rest = refl
specifier_no_brace (Tag at kind tag) rest = refl
specifier_no_brace (StructBody at kind tag ms) rest = refl
specifier_no_brace (EnumBody at tag es comma) rest = refl

specifier_some : (s : SpecifierTree) → 0 < length (spell_specifier s)
specifier_some (Storage at w) = omega arith
specifier_some (Basic at w) = omega arith
specifier_some (Qualified at w) = omega arith
specifier_some (Functional at w) = omega arith
specifier_some (TypedefName at n) = omega arith
specifier_some (Tag at kind tag) = omega arith
specifier_some (StructBody at kind tag ms) = omega arith
specifier_some (EnumBody at tag es comma) = omega arith

no_brace_ends : (s : SpecifierTree) (o : Option Lexeme) → next_is (is_sign LeftBrace) o ≡ false → EndsSpecifier s o
no_brace_ends (Tag at kind tag) o e = e
no_brace_ends _ o e = tt

goes_brace_kind : (typed : Bool) (ds : List Scope) (k : TokenKind) → goes_on_typed typed ds k ≡ false → is_sign LeftBrace k ≡ false
goes_brace_kind typed ds (IsPunctuator p) e = e
goes_brace_kind typed ds _ e = refl

goes_brace : (typed : Bool) (ds : List Scope) (o : Option Lexeme) → goes_on_specifiers typed ds o ≡ false → next_is (is_sign LeftBrace) o ≡ false
goes_brace typed ds None e = refl
goes_brace typed ds (Some u) e = goes_brace_kind typed ds u.kind e

typed_is : (xs : List SpecifierTree) → some_typed xs ≡ has_type_specifier (specifier_trees xs)
typed_is [] = refl
typed_is (x ∷ xs) = ap (λ b. names_type x || b) (typed_is xs)

or_assoc : (a b c : Bool) → (a || (b || c)) ≡ ((a || b) || c)
or_assoc true b c = refl
or_assoc false b c = refl

or_none : (a : Bool) → (a || false) ≡ a
or_none true = refl
or_none false = refl

typed_more : (xs : List SpecifierTree) (x : SpecifierTree) → some_typed (xs ++ x ∷ []) ≡ (some_typed xs || names_type x)
typed_more [] x = or_none (names_type x)
typed_more (y ∷ ys) x = ap (λ b. names_type y || b) (typed_more ys x) ∙ or_assoc (names_type y) (some_typed ys) (names_type x)

module _ (h : ℕ) (sub : Subs) (parts : LawfulSubs (Below h) sub) where
  abbrev EndsOne : In SpecifierTree → Option Lexeme → Type 0
  EndsOne x = EndsSpecifier x.0

  -- structures and unions

  abbrev BodyIs : ℕ → StructKind → Option NameId → List Scope → In SpecifierTree → ℕ → List Lexeme → Type 0
  BodyIs at kind tag ds = Under (nat_lt (tag_height tag) h) (Behind (IsPunctuator LeftBrace) (Before (IsPunctuator RightBrace) (λ (ms : In (List MemberTree)). (StructBody at kind tag (member_trees ms.0), ms.1)) (MemberParts h sub parts ds)))

  body_lawful : {P : ℕ → Option Lexeme → Type 0} (at : ℕ) (kind : StructKind) (tag : Option NameId) (ds : List Scope) → Lawful P (struct_body h sub at kind tag ds) (BodyIs at kind tag ds) EndsOne
  body_lawful at kind tag ds = guard_lawful (nat_lt (tag_height tag) h) (behind_lawful (sign_tells LeftBrace)
      (ended (λ x n t o i s. tt) (λ x n t o i s. subst (λ w. EndsSpecifier w.0 o) (sym i.is) tt)
      (before_lawful (λ ms. (StructBody at kind tag (member_trees ms.0), ms.1)) (sign_tells RightBrace) (λ ms n t i. refl) (members_lawful h sub parts ds))))

  abbrev TaggedIs : ℕ → StructKind → NameId → List Scope → In SpecifierTree → ℕ → List Lexeme → Type 0
  TaggedIs at kind tag ds = Either (BodyIs at kind (Some tag) ds) (Gives (Tag at (struct_tag kind) tag, ds))

  tagged_lawful : {P : ℕ → Option Lexeme → Type 0} (at : ℕ) (kind : StructKind) (tag : NameId) (ds : List Scope) → Lawful P (behind_struct_tag h sub at kind tag ds) (TaggedIs at kind tag ds) EndsOne
  tagged_lawful at kind tag ds = when_lawful (next_is (is_sign LeftBrace)) (body_lawful at kind (Some tag) ds) (pure_lawful (Tag at (struct_tag kind) tag, ds) (λ n o p. p.1))
      (λ x n t rest i s. rw i.holds.parts refl) (λ x n t rest g s. rw g.nothing (subst (λ w. EndsSpecifier w.0 (head rest)) g.value s))

  abbrev StructIs : ℕ → StructKind → List Scope → In SpecifierTree → ℕ → List Lexeme → Type 0
  StructIs at kind ds = Either (Both (Token a_name) (λ tag. TaggedIs at kind tag ds)) (BodyIs at kind None ds)

  struct_lawful : (at : ℕ) (kind : StructKind) (ds : List Scope) → Lawful Any (behind_struct h sub at kind ds) (StructIs at kind ds) EndsOne
  struct_lawful at kind ds = when_lawful (next_is is_name) (bind_lawful (one_lawful a_name) (λ tag n t i. tagged_lawful at kind tag ds) (λ tag n t b u rest i k s. tt)) (body_lawful at kind None ds)
      (λ x n t rest b s. rw (b.parts, b.first.alone, a_name_is b.first.token b.value b.first.is) refl) (λ x n t rest i s. rw i.holds.parts refl)

  -- enumerations

  abbrev EnumList : List Scope → In (List EnumeratorTree × Bool) → ℕ → List Lexeme → Type 0
  EnumList ds z = Listed (Ending (λ c n t. Gives tt c n t) z.0.1) (EnumeratorIs h sub parts) ds z.0.0 z.1

  abbrev EnumIs : ℕ → Option NameId → List Scope → In SpecifierTree → ℕ → List Lexeme → Type 0
  EnumIs at tag ds = Under (nat_le 2 h) (Behind (IsPunctuator LeftBrace) (Before (IsPunctuator RightBrace) (λ (es : In (List EnumeratorTree × Bool)). (EnumBody at tag (enumerator_trees es.0.0) es.0.1, es.1)) (EnumList ds)))

  enum_body_lawful : {P : ℕ → Option Lexeme → Type 0} (at : ℕ) (tag : Option NameId) (ds : List Scope) → Lawful P (enum_body h sub at tag ds) (EnumIs at tag ds) EndsOne
  enum_body_lawful at tag ds = guard_known (nat_le 2 h) (λ e. behind_lawful (sign_tells LeftBrace)
      (ended (λ x n t o i s. tt) (λ x n t o i s. subst (λ w. EndsSpecifier w.0 o) (sym i.is) tt)
      (before_lawful (λ es. (EnumBody at tag (enumerator_trees es.0.0) es.0.1, es.1)) (sign_tells RightBrace) (λ es n t i. enumerators_end h sub parts (le_true 2 h e) es.0.1 es.0.0) (enumerators_lawful h sub parts (le_true 2 h e) ds))))

  abbrev EnumTagged : ℕ → NameId → List Scope → In SpecifierTree → ℕ → List Lexeme → Type 0
  EnumTagged at tag ds = Either (EnumIs at (Some tag) ds) (Gives (Tag at EnumTag tag, ds))

  enum_tagged_lawful : {P : ℕ → Option Lexeme → Type 0} (at : ℕ) (tag : NameId) (ds : List Scope) → Lawful P (behind_enum_tag h sub at tag ds) (EnumTagged at tag ds) EndsOne
  enum_tagged_lawful at tag ds = when_lawful (next_is (is_sign LeftBrace)) (enum_body_lawful at (Some tag) ds) (pure_lawful (Tag at EnumTag tag, ds) (λ n o p. p.1))
      (λ x n t rest i s. rw i.holds.parts refl) (λ x n t rest g s. rw g.nothing (subst (λ w. EndsSpecifier w.0 (head rest)) g.value s))

  abbrev BehindEnum : ℕ → List Scope → In SpecifierTree → ℕ → List Lexeme → Type 0
  BehindEnum at ds = Either (Both (Token a_name) (λ tag. EnumTagged at tag ds)) (EnumIs at None ds)

  behind_enum_lawful : (at : ℕ) (ds : List Scope) → Lawful Any (behind_enum h sub at ds) (BehindEnum at ds) EndsOne
  behind_enum_lawful at ds = when_lawful (next_is is_name) (bind_lawful (one_lawful a_name) (λ tag n t i. enum_tagged_lawful at tag ds) (λ tag n t b u rest i k s. tt)) (enum_body_lawful at None ds)
      (λ x n t rest b s. rw (b.parts, b.first.alone, a_name_is b.first.token b.value b.first.is) refl) (λ x n t rest i s. rw i.holds.parts refl)

  -- specifiers

  abbrev OfPiece : ℕ → List Scope → Piece → In SpecifierTree → ℕ → List Lexeme → Type 0
  OfPiece at ds (StoragePiece w) x n t = Gives (Storage at w, ds) x n t
  OfPiece at ds (BasicPiece w) x n t = Gives (Basic at w, ds) x n t
  OfPiece at ds (QualifierPiece w) x n t = Gives (Qualified at w, ds) x n t
  OfPiece at ds (FunctionPiece w) x n t = Gives (Functional at w, ds) x n t
  OfPiece at ds (NamePiece m) x n t = Gives (TypedefName at m, ds) x n t
  OfPiece at ds (StructPiece kind) x n t = StructIs at kind ds x n t
  OfPiece at ds EnumPiece x n t = BehindEnum at ds x n t

  of_piece_lawful : (at : ℕ) (ds : List Scope) (p : Piece) → Lawful Any (behind_piece h sub at ds p) (OfPiece at ds p) EndsOne
  of_piece_lawful at ds (StoragePiece w) = pure_lawful (Storage at w, ds) (λ n o p. tt)
  of_piece_lawful at ds (BasicPiece w) = pure_lawful (Basic at w, ds) (λ n o p. tt)
  of_piece_lawful at ds (QualifierPiece w) = pure_lawful (Qualified at w, ds) (λ n o p. tt)
  of_piece_lawful at ds (FunctionPiece w) = pure_lawful (Functional at w, ds) (λ n o p. tt)
  of_piece_lawful at ds (NamePiece m) = pure_lawful (TypedefName at m, ds) (λ n o p. tt)
  of_piece_lawful at ds (StructPiece kind) = struct_lawful at kind ds
  of_piece_lawful at ds EnumPiece = behind_enum_lawful at ds

  module _ (form : SpecifierForm) (typed : Bool) (ds : List Scope) where
    abbrev SpecifierParts : In SpecifierTree → ℕ → List Lexeme → Type 0
    SpecifierParts = Both Numbers (λ at. Both (Token (piece_for h form typed ds)) (λ p. OfPiece at ds p))

    parts_lawful : Lawful Any (specifier h sub form typed ds) SpecifierParts EndsOne
    parts_lawful = bind_lawful here_lawful (λ at n t i. bind_lawful (one_lawful (piece_for h form typed ds)) (λ p m u j. known (λ o q k. tt) (of_piece_lawful at ds p)) (λ p m u b v rest j l s. tt)) (λ at n t b u rest i k s. tt)

    abbrev One : In SpecifierTree → ℕ → List Lexeme → Type 0
    One = SpecifierIs h form typed ds

    not_qualifier : (f : SpecifierForm) → not (in_type_name f) ≡ true → (not (in_type_name f) || false) ≡ true
    not_qualifier f e = rw e refl

    body_from : (n : ℕ) (kind : StructKind) (tag : Option NameId) (x : In SpecifierTree) (m : ℕ) (t : List Lexeme) → m ≡ n + 1 + length (spell_tag tag) → BodyIs n kind tag ds x m t → One x n (word (struct_word kind) ∷ (spell_tag tag ++ t))
    body_from n kind tag x m t number u =
        let b = u.holds in let k = b.holds in
        let i = members_from h sub parts ds k.value (m + 1) k.front k.holds in let a = i.are in
        let place : m + 1 ≡ n + 2 + length (spell_tag tag) = omega (arith, number) in
        let placed : placed_members (n + 2 + length (spell_tag tag)) (member_trees k.value.0) ≡ true = subst (λ j. placed_members j (member_trees k.value.0) ≡ true) place a.placed in
        subst (λ w. One w n (word (struct_word kind) ∷ (spell_tag tag ++ t))) (sym k.is) (record {
          of_form = or_true (not (in_type_name form));
          levelled = rw (i.some, a.levelled) refl;
          placed = rw (true_eq n, placed) refl;
          scoped = a.scoped;
          low = omega (arith, lt_true (tag_height tag) h u.met, a.low);
          after = a.behind;
          spelled = ap (λ r. word (struct_word kind) ∷ (spell_tag tag ++ r)) (b.parts ∙ ap (λ r. sign LeftBrace ∷ r) (k.parts ∙ ap (λ r. r ++ sign RightBrace ∷ []) a.spelled));
        })

    enum_from : (n : ℕ) (tag : Option NameId) (x : In SpecifierTree) (m : ℕ) (t : List Lexeme) → m ≡ n + 1 + length (spell_tag tag) → EnumIs n tag ds x m t → One x n (word EnumWord ∷ (spell_tag tag ++ t))
    enum_from n tag x m t number u =
        let b = u.holds in let k = b.holds in
        let a = enumerators_from h sub parts (le_true 2 h u.met) ds k.value.0.1 k.value.0.0 k.value.1 (m + 1) k.front k.holds in
        let place : m + 1 ≡ n + 2 + length (spell_tag tag) = omega (arith, number) in
        let placed : placed_enumerators (n + 2 + length (spell_tag tag)) (enumerator_trees k.value.0.0) ≡ true = subst (λ j. placed_enumerators j (enumerator_trees k.value.0.0) ≡ true) place a.placed in
        subst (λ w. One w n (word EnumWord ∷ (spell_tag tag ++ t))) (sym k.is) (record {
          of_form = or_true (not (in_type_name form));
          levelled = rw (a.some, a.levelled) refl;
          placed = rw (true_eq n, placed) refl;
          scoped = a.scoped;
          low = by tag a.low;
          after = a.behind;
          spelled = ap (λ r. word EnumWord ∷ (spell_tag tag ++ r)) (b.parts ∙ ap (λ r. sign LeftBrace ∷ r) (k.parts ∙ ap (λ r. r ++ sign RightBrace ∷ []) a.spelled));
        })
      where
        by : (tag : Option NameId) {m : ℕ} → m ≤ h - 1 → 1 + max (tag_height tag) m < suc h
        by None low = omega (arith, low, le_true 2 h u.met)
        by (Some k) low = omega (arith, low, le_true 2 h u.met)

    struct_from : (n : ℕ) (kind : StructKind) (x : In SpecifierTree) (t : List Lexeme) → 1 ≤ h → StructIs n kind ds x (n + 1) t → One x n (word (struct_word kind) ∷ t)
    struct_from n kind x t some (Unmet u) = body_from n kind None x (n + 1) t (omega arith) u
    struct_from n kind x t some (Met b) = subst (λ u. One x n (word (struct_word kind) ∷ u)) (sym (b.parts ∙ ap (λ f. f ++ b.back) one)) (by b.second)
      where
        one : b.front ≡ named b.value ∷ []
        one = b.first.alone ∙ ap (λ u. u ∷ []) (a_name_is b.first.token b.value b.first.is)

        by : TaggedIs n kind b.value ds x (n + 1 + length b.front) b.back → One x n (word (struct_word kind) ∷ named b.value ∷ b.back)
        by (Met u) = body_from n kind (Some b.value) x (n + 1 + length b.front) b.back (ap (λ f. n + 1 + length f) one) u
        by (Unmet g) = subst (λ w. One w n (word (struct_word kind) ∷ named b.value ∷ b.back)) (sym g.value) (record {
          of_form = or_true (not (in_type_name form));
          levelled = refl;
          placed = true_eq n;
          scoped = refl;
          low = omega (arith, some);
          after = refl;
          spelled = rw (g.nothing, tag_struct kind) refl;
        })

    behind_enum_from : (n : ℕ) (x : In SpecifierTree) (t : List Lexeme) → 1 ≤ h → BehindEnum n ds x (n + 1) t → One x n (word EnumWord ∷ t)
    behind_enum_from n x t some (Unmet u) = enum_from n None x (n + 1) t (omega arith) u
    behind_enum_from n x t some (Met b) = subst (λ u. One x n (word EnumWord ∷ u)) (sym (b.parts ∙ ap (λ f. f ++ b.back) one)) (by b.second)
      where
        one : b.front ≡ named b.value ∷ []
        one = b.first.alone ∙ ap (λ u. u ∷ []) (a_name_is b.first.token b.value b.first.is)

        by : EnumTagged n b.value ds x (n + 1 + length b.front) b.back → One x n (word EnumWord ∷ named b.value ∷ b.back)
        by (Met u) = enum_from n (Some b.value) x (n + 1 + length b.front) b.back (ap (λ f. n + 1 + length f) one) u
        by (Unmet g) = subst (λ w. One w n (word EnumWord ∷ named b.value ∷ b.back)) (sym g.value) (record {
          of_form = or_true (not (in_type_name form));
          levelled = refl;
          placed = true_eq n;
          scoped = refl;
          low = omega (arith, some);
          after = refl;
          spelled = rw g.nothing refl;
        })

    word_from : (n : ℕ) (s : SpecifierTree) (u : Lexeme) (x : In SpecifierTree) (t : List Lexeme) → One (s, ds) n (u ∷ []) → Gives (s, ds) x (n + 1) t → One x n (u ∷ t)
    word_from n s u x t o g = subst (λ v. One x n (u ∷ v)) (sym g.nothing) (subst (λ w. One w n (u ∷ [])) (sym g.value) o)

    piece_from : (n : ℕ) (p : Piece) (x : In SpecifierTree) (t : List Lexeme) → PieceIs typed ds p → piece_fits h form p ≡ true → OfPiece n ds p x (n + 1) t → One x n (piece_lexeme p ∷ t)
    piece_from n (StoragePiece w) x t i f g = word_from n (Storage n w) (piece_lexeme (StoragePiece w)) x t (record { of_form = not_qualifier form f; levelled = refl; placed = true_eq n; scoped = refl; low = omega arith; after = refl; spelled = refl }) g
    piece_from n (BasicPiece w) x t i f g = word_from n (Basic n w) (piece_lexeme (BasicPiece w)) x t (record { of_form = or_true (not (in_type_name form)); levelled = refl; placed = true_eq n; scoped = refl; low = omega arith; after = refl; spelled = refl }) g
    piece_from n (QualifierPiece w) x t i f g = word_from n (Qualified n w) (piece_lexeme (QualifierPiece w)) x t (record { of_form = or_true (not (in_type_name form)); levelled = refl; placed = true_eq n; scoped = refl; low = omega arith; after = refl; spelled = refl }) g
    piece_from n (FunctionPiece w) x t i f g = word_from n (Functional n w) (piece_lexeme (FunctionPiece w)) x t (record { of_form = not_qualifier form f; levelled = refl; placed = true_eq n; scoped = refl; low = omega arith; after = refl; spelled = refl }) g
    piece_from n (NamePiece m) x t i f g = word_from n (TypedefName n m) (named m) x t (record { of_form = or_true (not (in_type_name form)); levelled = refl; placed = true_eq n; scoped = i; low = omega (arith, le_true 1 h f); after = refl; spelled = refl }) g
    piece_from n (StructPiece kind) x t i f g = struct_from n kind x t (le_true 1 h f) g
    piece_from n EnumPiece x t i f g = behind_enum_from n x t (le_true 1 h f) g

    specifier_from : (x : In SpecifierTree) (n : ℕ) (t : List Lexeme) → SpecifierParts x n t → One x n t
    specifier_from x n t b =
        let k = b.second in
        let q = piece_is h form typed ds k.first.token k.value k.first.is in
        let one : k.front ≡ piece_lexeme k.value ∷ [] = k.first.alone ∙ ap (λ u. u ∷ []) q.text in
        let place : n + length b.front + length k.front ≡ n + 1 = omega (arith, ap length b.first.nothing, ap length one) in
        let text : t ≡ piece_lexeme k.value ∷ k.back = b.parts ∙ (ap (λ u. u ++ b.back) b.first.nothing ∙ (k.parts ∙ ap (λ u. u ++ k.back) one)) in
        subst (One x n) (sym text) (piece_from n k.value x k.back q.is q.fits (subst (λ a. OfPiece a ds k.value x (n + 1) k.back) b.first.value (subst (λ j. OfPiece b.value ds k.value x j k.back) place k.second)))

    -- and back

    to_parts : (n : ℕ) (p : Piece) (x : In SpecifierTree) (t back : List Lexeme) → PieceIs typed ds p → piece_fits h form p ≡ true → OfPiece n ds p x (n + 1) back → t ≡ piece_lexeme p ∷ back → SpecifierParts x n t
    to_parts n p x t back i f o text = record {
      value = n;
      front = [];
      back = t;
      first = record { value = refl; nothing = refl };
      parts = refl;
      second = record { value = p; front = piece_lexeme p ∷ []; back = back; first = record { token = piece_lexeme p; is = is_piece h form typed ds p i f; alone = refl }; parts = text; second = subst (λ m. OfPiece n ds p x (m + 1) back) (sym (Laws.add_none n)) o };
    }

    form_only : (b : Bool) → (b || false) ≡ true → b ≡ true
    form_only true e = refl
    form_only false e = e

    body_to : (n : ℕ) (kind : StructKind) (tag : Option NameId) (ms : MemberTrees) (after : List Scope) (m : ℕ) → m ≡ n + 1 + length (spell_tag tag) → has_member ms ≡ true → levelled_members ms ≡ true → placed_members (n + 2 + length (spell_tag tag)) ms ≡ true → scoped_members ds ms ≡ true →
        1 + max (tag_height tag) (members_height ms) < suc h → after ≡ after_members ds ms → BodyIs n kind tag ds (StructBody n kind tag ms, after) m (in_braces (spell_members ms))
    body_to n kind tag NoMembers after m number some l p s low a = absurd (true≢false (sym some))
    body_to n kind tag (MoreMembers x ms) after m number some l p s low a =
        let b = members_back ms in
        let place : n + 2 + length (spell_tag tag) ≡ m + 1 = omega (arith, number) in
        let placed : placed_members (m + 1) (MoreMembers x ms) ≡ true = subst (λ j. placed_members j (MoreMembers x ms) ≡ true) place p in
        let are : MembersAre h sub parts ds (x ∷ members_list ms) after (m + 1) (spell_members (MoreMembers x ms)) =
        record { levelled = rw b l; placed = rw b placed; scoped = rw b s; low = rw b (omega (arith, low)); behind = rw b a; spelled = rw b refl } in
        record {
          met = true_lt (tag_height tag) h (omega (arith, low));
          holds = record {
            back = spell_members (MoreMembers x ms) ++ sign RightBrace ∷ [];
            parts = refl;
            holds = record { value = (x ∷ members_list ms, after); front = spell_members (MoreMembers x ms); holds = members_to h sub parts (omega (arith, low)) ds x (members_list ms) after (m + 1) (spell_members (MoreMembers x ms)) are; is = ap (λ ys. (StructBody n kind tag (MoreMembers x ys), after)) (sym b); parts = refl };
          };
        }

    enum_to : (n : ℕ) (tag : Option NameId) (es : EnumeratorTrees) (comma : Bool) (after : List Scope) (m : ℕ) → m ≡ n + 1 + length (spell_tag tag) → has_enumerator es ≡ true → levelled_enumerators es ≡ true → placed_enumerators (n + 2 + length (spell_tag tag)) es ≡ true → scoped_enumerators ds es ≡ true →
        1 + max (tag_height tag) (enumerators_height es) < suc h → after ≡ after_enumerators ds es → EnumIs n tag ds (EnumBody n tag es comma, after) m (in_braces (with_commas (spell_enumerators es) ++ last_comma comma))
    enum_to n tag NoEnumerators comma after m number some l p s low a = absurd (true≢false (sym some))
    enum_to n tag (MoreEnumerators x es) comma after m number some l p s low a =
        let b = enumerators_back es in
        let two : 2 ≤ h = omega (arith, low, tall_enumerator x) in
        let place : n + 2 + length (spell_tag tag) ≡ m + 1 = omega (arith, number) in
        let placed : placed_enumerators (m + 1) (MoreEnumerators x es) ≡ true = subst (λ j. placed_enumerators j (MoreEnumerators x es) ≡ true) place p in
        let front : List Lexeme = with_commas (spell_enumerators (MoreEnumerators x es)) ++ last_comma comma in
        let are : EnumeratorsAre h sub parts two ds comma (enumerator_trees (x ∷ enumerators_list es)) after (m + 1) front =
        record { some = refl; levelled = rw b l; placed = rw b placed; scoped = rw b s; low = rw b (omega (arith, low)); behind = rw b a; spelled = rw b refl } in
        record {
          met = true_le 2 h two;
          holds = record {
            back = front ++ sign RightBrace ∷ [];
            parts = refl;
            holds = record { value = ((x ∷ enumerators_list es, comma), after); front = front; holds = enumerators_to h sub parts two ds comma x (enumerators_list es) after (m + 1) front are; is = ap (λ ys. (EnumBody n tag (MoreEnumerators x ys) comma, after)) (sym b); parts = refl };
          };
        }

    struct_to : (n : ℕ) (kind : StructKind) (tag : Option NameId) (ms : MemberTrees) (after : List Scope) (t : List Lexeme) → One (StructBody n kind tag ms, after) n t → StructIs n kind ds (StructBody n kind tag ms, after) (n + 1) (spell_tag tag ++ in_braces (spell_members ms))
    struct_to n kind None ms after t i =
        let l = both (has_member ms) (levelled_members ms) i.levelled in let p = both (nat_eq n n) (placed_members (n + 2 + length (spell_tag None)) ms) i.placed in
        Unmet (body_to n kind None ms after (n + 1) (omega arith) l.0 l.1 p.1 i.scoped i.low i.after)
    struct_to n kind (Some tag) ms after t i =
        let l = both (has_member ms) (levelled_members ms) i.levelled in let p = both (nat_eq n n) (placed_members (n + 2 + length (spell_tag (Some tag))) ms) i.placed in
        Met (record {
          value = tag;
          front = named tag ∷ [];
          back = in_braces (spell_members ms);
          first = record { token = named tag; is = refl; alone = refl };
          parts = refl;
          second = Met (body_to n kind (Some tag) ms after (n + 1 + 1) (omega arith) l.0 l.1 p.1 i.scoped i.low i.after);
        })

    enum_body_to : (n : ℕ) (tag : Option NameId) (es : EnumeratorTrees) (comma : Bool) (after : List Scope) (t : List Lexeme) → One (EnumBody n tag es comma, after) n t → BehindEnum n ds (EnumBody n tag es comma, after) (n + 1) (spell_tag tag ++ in_braces (with_commas (spell_enumerators es) ++ last_comma comma))
    enum_body_to n None es comma after t i =
        let l = both (has_enumerator es) (levelled_enumerators es) i.levelled in let p = both (nat_eq n n) (placed_enumerators (n + 2 + length (spell_tag None)) es) i.placed in
        Unmet (enum_to n None es comma after (n + 1) (omega arith) l.0 l.1 p.1 i.scoped i.low i.after)
    enum_body_to n (Some tag) es comma after t i =
        let l = both (has_enumerator es) (levelled_enumerators es) i.levelled in let p = both (nat_eq n n) (placed_enumerators (n + 2 + length (spell_tag (Some tag))) es) i.placed in
        Met (record {
          value = tag;
          front = named tag ∷ [];
          back = in_braces (with_commas (spell_enumerators es) ++ last_comma comma);
          first = record { token = named tag; is = refl; alone = refl };
          parts = refl;
          second = Met (enum_to n (Some tag) es comma after (n + 1 + 1) (omega arith) l.0 l.1 p.1 i.scoped i.low i.after);
        })

    tag_to : (n : ℕ) (kind : StructKind) (tag : NameId) (after : List Scope) → after ≡ ds → StructIs n kind ds (Tag n (struct_tag kind) tag, after) (n + 1) (named tag ∷ [])
    tag_to n kind tag after a = Met (record { value = tag; front = named tag ∷ []; back = []; first = record { token = named tag; is = refl; alone = refl }; parts = refl; second = Unmet (record { value = ap (λ k. (Tag n (struct_tag kind) tag, k)) a; nothing = refl }) })

    plain_to : (a n : ℕ) (make : ℕ → SpecifierTree) (after : List Scope) → nat_eq a n ≡ true → after ≡ ds → Gives {A = In SpecifierTree} (make n, ds) (make a, after) (n + 1) []
    plain_to a n make after p e = record { value = ap (λ k. (make k, after)) (eq_true a n p) ∙ ap (λ k. (make n, k)) e; nothing = refl }

    specifier_to : (x : SpecifierTree) (after : List Scope) (n : ℕ) (t : List Lexeme) → One (x, after) n t → SpecifierParts (x, after) n t
    specifier_to (Storage a w) after n t i = to_parts n (StoragePiece w) (Storage a w, after) t [] tt (form_only (not (in_type_name form)) i.of_form) (plain_to a n (λ k. Storage k w) after i.placed i.after) i.spelled
    specifier_to (Basic a w) after n t i = to_parts n (BasicPiece w) (Basic a w, after) t [] tt refl (plain_to a n (λ k. Basic k w) after i.placed i.after) i.spelled
    specifier_to (Qualified a w) after n t i = to_parts n (QualifierPiece w) (Qualified a w, after) t [] tt refl (plain_to a n (λ k. Qualified k w) after i.placed i.after) i.spelled
    specifier_to (Functional a w) after n t i = to_parts n (FunctionPiece w) (Functional a w, after) t [] tt (form_only (not (in_type_name form)) i.of_form) (plain_to a n (λ k. Functional k w) after i.placed i.after) i.spelled
    specifier_to (TypedefName a m) after n t i = to_parts n (NamePiece m) (TypedefName a m, after) t [] i.scoped (true_le 1 h (omega (arith, i.low))) (plain_to a n (λ k. TypedefName k m) after i.placed i.after) i.spelled
    specifier_to (Tag a StructTag tag) after n t i = subst (λ k. SpecifierParts (Tag k StructTag tag, after) n t) (sym (eq_true a n i.placed)) (to_parts n (StructPiece Struct) (Tag n StructTag tag, after) t (named tag ∷ []) tt (true_le 1 h (omega (arith, i.low))) (tag_to n Struct tag after i.after) i.spelled)
    specifier_to (Tag a UnionTag tag) after n t i = subst (λ k. SpecifierParts (Tag k UnionTag tag, after) n t) (sym (eq_true a n i.placed)) (to_parts n (StructPiece Union) (Tag n UnionTag tag, after) t (named tag ∷ []) tt (true_le 1 h (omega (arith, i.low))) (tag_to n Union tag after i.after) i.spelled)
    specifier_to (Tag a EnumTag tag) after n t i = subst (λ k. SpecifierParts (Tag k EnumTag tag, after) n t) (sym (eq_true a n i.placed)) (to_parts n EnumPiece (Tag n EnumTag tag, after) t (named tag ∷ []) tt (true_le 1 h (omega (arith, i.low)))
        (Met (record { value = tag; front = named tag ∷ []; back = []; first = record { token = named tag; is = refl; alone = refl }; parts = refl; second = Unmet (record { value = ap (λ k. (Tag n EnumTag tag, k)) i.after; nothing = refl }) })) i.spelled)
    specifier_to (StructBody a kind tag ms) after n t i =
        let p = both (nat_eq a n) (placed_members (n + 2 + length (spell_tag tag)) ms) i.placed in
        let j : One (StructBody n kind tag ms, after) n t = subst (λ k. One (StructBody k kind tag ms, after) n t) (eq_true a n p.0) i in
        subst (λ k. SpecifierParts (StructBody k kind tag ms, after) n t) (sym (eq_true a n p.0)) (to_parts n (StructPiece kind) (StructBody n kind tag ms, after) t (spell_tag tag ++ in_braces (spell_members ms)) tt (true_le 1 h (omega (arith, i.low))) (struct_to n kind tag ms after t j) i.spelled)
    specifier_to (EnumBody a tag es comma) after n t i =
        let p = both (nat_eq a n) (placed_enumerators (n + 2 + length (spell_tag tag)) es) i.placed in
        let j : One (EnumBody n tag es comma, after) n t = subst (λ k. One (EnumBody k tag es comma, after) n t) (eq_true a n p.0) i in
        subst (λ k. SpecifierParts (EnumBody k tag es comma, after) n t) (sym (eq_true a n p.0)) (to_parts n EnumPiece (EnumBody n tag es comma, after) t (spell_tag tag ++ in_braces (with_commas (spell_enumerators es) ++ last_comma comma)) tt (true_le 1 h (omega (arith, i.low))) (enum_body_to n tag es comma after t j) i.spelled)

    specifier_lawful : Lawful Any (specifier h sub form typed ds) One EndsOne
    specifier_lawful = said parts_lawful (λ x n t i. specifier_to x.0 x.1 n t i) specifier_from

  -- lists of specifiers

  module _ (form : SpecifierForm) where
    abbrev NextSpecifier : In (List SpecifierTree) → In SpecifierTree → ℕ → List Lexeme → Type 0
    NextSpecifier x = SpecifierIs h form (some_typed x.0) x.1

    abbrev Going : In (List SpecifierTree) → Option Lexeme → Bool
    Going y = goes_on_specifiers (some_typed y.0) y.1

    next_lawful : (x : In (List SpecifierTree)) → Lawful (And (λ n. Last EndsSpecifier x.0) (Going x) true) (next_specifier h sub form x) (Grows NextSpecifier x) (λ z. Last EndsSpecifier z.0)
    next_lawful x = known (λ n o p. tt) (mapped_lawful (grown x) (λ y o s. last_of EndsSpecifier x.0 y.0 o s) (λ y o s. of_last EndsSpecifier x.0 y.0 o s) (specifier_lawful form (some_typed x.0) x.1))

    next_starts : (x y : In (List SpecifierTree)) (n : ℕ) (t more : List Lexeme) → Grows NextSpecifier x y n t → Going x (head (t ++ more)) ≡ true
    next_starts x y n t more g = rw g.holds.spelled (specifier_goes (some_typed x.0) x.1 g.value.0 more g.holds.scoped)

    next_fits : (x y : In (List SpecifierTree)) (n : ℕ) (t more : List Lexeme) → Grows NextSpecifier x y n t → Last EndsSpecifier x.0 (head (t ++ more))
    next_fits x y n t more g = all_last EndsSpecifier x.0 (head (t ++ more)) (λ s. no_brace_ends s (head (t ++ more)) (rw g.holds.spelled (specifier_no_brace g.value.0 more)))

    next_some : (x y : In (List SpecifierTree)) (n : ℕ) (t : List Lexeme) → Grows NextSpecifier x y n t → 0 < length t
    next_some x y n t g = rw g.holds.spelled (specifier_some g.value.0)

    record MoreAre (typed : Bool) (ds : List Scope) (xs : List SpecifierTree) (after : List Scope) (n : ℕ) (text : List Lexeme) : Type 0 where
      of_form : (not (in_type_name form) || are_specifier_qualifiers (specifier_trees xs)) ≡ true
      levelled : levelled_specifiers (specifier_trees xs) ≡ true
      placed : placed_specifiers n (specifier_trees xs) ≡ true
      scoped : scoped_specifiers typed ds (specifier_trees xs) ≡ true
      low : specifiers_height (specifier_trees xs) < suc h
      behind : after ≡ after_specifiers ds (specifier_trees xs)
      spelled : text ≡ spell_specifiers (specifier_trees xs)

    both_forms : (f a b : Bool) → (f || a) ≡ true → (f || b) ≡ true → (f || (a && b)) ≡ true
    both_forms true a b d e = refl
    both_forms false a b d e = rw d e

    forms_both : (f a b : Bool) → (f || (a && b)) ≡ true → ((f || a) ≡ true) × ((f || b) ≡ true)
    forms_both true a b e = (refl, refl)
    forms_both false a b e = both a b e

    made : (typed : Bool) (ds middle after : List Scope) (n : ℕ) (x : SpecifierTree) (xs : List SpecifierTree) (front back : List Lexeme) → SpecifierIs h form typed ds (x, middle) n front → MoreAre (typed || names_type x) middle xs after (n + length front) back → MoreAre typed ds (x ∷ xs) after n (front ++ back)
    made typed ds middle after n x xs front back i m =
        let next : n + length front ≡ n + length (spell_specifier x) = ap (λ u. n + length u) i.spelled in
        record {
          of_form = both_forms (not (in_type_name form)) (is_specifier_qualifier x) (are_specifier_qualifiers (specifier_trees xs)) i.of_form m.of_form;
          levelled = rw (i.levelled, m.levelled) refl;
          placed = rw (i.placed, ← next, m.placed) refl;
          scoped = rw (i.scoped, ← i.after, m.scoped) refl;
          low = omega (arith, i.low, m.low);
          behind = rw (← i.after) m.behind;
          spelled = rw (i.spelled, m.spelled) refl;
        }

    more_of : (xs before : List SpecifierTree) (typed : Bool) (ds after : List Scope) (n : ℕ) (text : List Lexeme) → some_typed before ≡ typed → Rest Over NextSpecifier before ds after n text xs → MoreAre typed ds xs after n text
    more_of [] before typed ds after n text e r = record { of_form = or_true (not (in_type_name form)); levelled = refl; placed = refl; scoped = refl; low = omega arith; behind = r.0; spelled = r.1 }
    more_of (x ∷ xs) before typed ds after n text e r =
        subst (MoreAre typed ds (x ∷ xs) after n) (sym r.5) (made typed ds r.0 after n x xs r.1 r.2 (subst (λ b. SpecifierIs h form b ds (x, r.0) n r.1) e r.3)
        (more_of xs (before ++ x ∷ []) (typed || names_type x) r.0 after (n + length r.1) r.2 (typed_more before x ∙ ap (λ b. b || names_type x) e) r.4))

    of_more : (xs before : List SpecifierTree) (typed : Bool) (ds after : List Scope) (n : ℕ) (text : List Lexeme) → some_typed before ≡ typed → MoreAre typed ds xs after n text → Rest Over NextSpecifier before ds after n text xs
    of_more [] before typed ds after n text e m = (m.behind, m.spelled)
    of_more (x ∷ xs) before typed ds after n text e m =
        let f = forms_both (not (in_type_name form)) (is_specifier_qualifier x) (are_specifier_qualifiers (specifier_trees xs)) m.of_form in
        let l = both (levelled_specifier x) (levelled_specifiers (specifier_trees xs)) m.levelled in let p = both (placed_specifier n x) (placed_specifiers (n + length (spell_specifier x)) (specifier_trees xs)) m.placed in
        let s = both (scoped_specifier typed ds x) (scoped_specifiers (typed || names_type x) (after_specifier ds x) (specifier_trees xs)) m.scoped in
        let one : SpecifierIs h form typed ds (x, after_specifier ds x) n (spell_specifier x) = record { of_form = f.0; levelled = l.0; placed = p.0; scoped = s.0; low = omega (arith, m.low); after = refl; spelled = refl } in (
          after_specifier ds x,
          spell_specifier x,
          spell_specifiers (specifier_trees xs),
          subst (λ b. SpecifierIs h form b ds (x, after_specifier ds x) n (spell_specifier x)) (sym e) one,
          of_more xs (before ++ x ∷ []) (typed || names_type x) (after_specifier ds x) after (n + length (spell_specifier x)) (spell_specifiers (specifier_trees xs)) (typed_more before x ∙ ap (λ b. b || names_type x) e)
              (record { of_form = f.1; levelled = l.1; placed = p.1; scoped = s.1; low = omega (arith, m.low); behind = m.behind; spelled = refl }),
          m.spelled,
        )

    abbrev ListParts : List Scope → In (List SpecifierTree) → ℕ → List Lexeme → Type 0
    ListParts ds = Both (SpecifierIs h form false ds) (λ s z. Steps (Grows NextSpecifier) z (s.0 ∷ [], s.1))

    record SomeAre (ds : List Scope) (xs : List SpecifierTree) (after : List Scope) (n : ℕ) (text : List Lexeme) : Type 0 where
      first : SpecifierTree
      others : List SpecifierTree
      list : xs ≡ first ∷ others
      are : MoreAre false ds xs after n text

    list_from : (ds : List Scope) (z : In (List SpecifierTree)) (n : ℕ) (t : List Lexeme) → ListParts ds z n t → SomeAre ds z.0 z.1 n t
    list_from ds z n t b =
        let r = rest_of_steps NextSpecifier z (b.value.0 ∷ [], b.value.1) (n + length b.front) b.back b.second in
        let m = more_of r.items (b.value.0 ∷ []) (false || names_type b.value.0) b.value.1 z.1 (n + length b.front) b.back (or_none (names_type b.value.0)) r.rest in
        subst (λ u. SomeAre ds z.0 z.1 n u) (sym b.parts) (subst (λ ys. SomeAre ds ys z.1 n (b.front ++ b.back)) (sym r.list) (record { first = b.value.0; others = r.items; list = refl; are = made false ds b.value.1 z.1 n b.value.0 r.items b.front b.back b.first m }))

    list_to : (ds : List Scope) (x : SpecifierTree) (xs : List SpecifierTree) (after : List Scope) (n : ℕ) (t : List Lexeme) → MoreAre false ds (x ∷ xs) after n t → ListParts ds (x ∷ xs, after) n t
    list_to ds x xs after n t m =
        let f = forms_both (not (in_type_name form)) (is_specifier_qualifier x) (are_specifier_qualifiers (specifier_trees xs)) m.of_form in
        let l = both (levelled_specifier x) (levelled_specifiers (specifier_trees xs)) m.levelled in let p = both (placed_specifier n x) (placed_specifiers (n + length (spell_specifier x)) (specifier_trees xs)) m.placed in
        let s = both (scoped_specifier false ds x) (scoped_specifiers (false || names_type x) (after_specifier ds x) (specifier_trees xs)) m.scoped in
        record {
          value = (x, after_specifier ds x);
          front = spell_specifier x;
          back = spell_specifiers (specifier_trees xs);
          parts = m.spelled;
          first = record { of_form = f.0; levelled = l.0; placed = p.0; scoped = s.0; low = omega (arith, m.low); after = refl; spelled = refl };
          second = steps_of_rest NextSpecifier xs (x ∷ []) (after_specifier ds x) after (n + length (spell_specifier x)) (spell_specifiers (specifier_trees xs))
              (of_more xs (x ∷ []) (false || names_type x) (after_specifier ds x) after (n + length (spell_specifier x)) (spell_specifiers (specifier_trees xs)) (or_none (names_type x))
              (record { of_form = f.1; levelled = l.1; placed = p.1; scoped = s.1; low = omega (arith, m.low); behind = m.behind; spelled = refl }));
        }

    some_lawful : (ds : List Scope) → Lawful Any (some_specifiers h sub form ds) (ListParts ds) (λ z o. Going z o ≡ false)
    some_lawful ds = bind_lawful (specifier_lawful form false ds)
        (λ s n t i. known (λ m o p. p.1) (ended (λ z m u o k e. (all_last EndsSpecifier z.0 o (λ y. no_brace_ends y o (goes_brace (some_typed z.0) z.1 o e)), e)) (λ z m u o k e. e.1)
        (many_lawful next_lawful next_starts next_fits next_some (λ y. refl) (s.0 ∷ [], s.1))))
        (λ s n t z u rest i steps e. steps_fit next_lawful next_starts next_fits next_some (λ y. refl) (s.0 ∷ [], s.1) z (n + length t) u rest steps (all_last EndsSpecifier z.0 (head rest) (λ y. no_brace_ends y (head rest) (goes_brace (some_typed z.0) z.1 (head rest) e))))

    specifiers_list : SpecifierTrees → List SpecifierTree
    specifiers_list NoSpecifiers = []
    specifiers_list (MoreSpecifiers s ss) = s ∷ specifiers_list ss

    specifiers_back : (ss : SpecifierTrees) → specifier_trees (specifiers_list ss) ≡ ss
    unfolding specifiers_list
    specifiers_back NoSpecifiers = refl
    specifiers_back (MoreSpecifiers s ss) = ap (MoreSpecifiers s) (specifiers_back ss)

    whole_from : (ds : List Scope) (x : In SpecifierTrees) (n : ℕ) (t : List Lexeme) → Mapped (λ (z : In (List SpecifierTree)). (specifier_trees z.0, z.1)) (ListParts ds) x n t → SpecifiersIs (Below (suc h)) form ds x n t
    whole_from ds x n t m =
        let a = list_from ds m.value n t m.holds in let k = a.are in
        let some : has_specifier (specifier_trees m.value.0) ≡ true = ap (λ ys. has_specifier (specifier_trees ys)) a.list in
        subst (λ w. SpecifiersIs (Below (suc h)) form ds w n t) (sym m.is) (record { some = some; of_form = k.of_form; levelled = k.levelled; placed = k.placed; scoped = k.scoped; low = k.low; after = k.behind; spelled = k.spelled })

    whole_to : (ds : List Scope) (ss : SpecifierTrees) (after : List Scope) (n : ℕ) (t : List Lexeme) → SpecifiersIs (Below (suc h)) form ds (ss, after) n t → Mapped {B = In SpecifierTrees} (λ (z : In (List SpecifierTree)). (specifier_trees z.0, z.1)) (ListParts ds) (ss, after) n t
    whole_to ds NoSpecifiers after n t i = absurd (true≢false (sym i.some))
    whole_to ds (MoreSpecifiers x ss) after n t i =
        let b = specifiers_back ss in
        record {
          value = (x ∷ specifiers_list ss, after);
          is = ap (λ ys. (MoreSpecifiers x ys, after)) (sym b);
          holds = list_to ds x (specifiers_list ss) after n t (record { of_form = rw b i.of_form; levelled = rw b i.levelled; placed = rw b i.placed; scoped = rw b i.scoped; low = rw b i.low; behind = rw b i.after; spelled = rw b i.spelled });
        }

    going_ends : (z : In (List SpecifierTree)) (o : Option Lexeme) → Going z o ≡ false → EndsSpecifiers (specifier_trees z.0, z.1) o
    going_ends z o e = subst (λ b. goes_on_specifiers b z.1 o ≡ false) (typed_is z.0) e

    ends_going : (z : In (List SpecifierTree)) (o : Option Lexeme) → EndsSpecifiers (specifier_trees z.0, z.1) o → Going z o ≡ false
    ends_going z o e = subst (λ b. goes_on_specifiers b z.1 o ≡ false) (sym (typed_is z.0)) e

    pub specifiers_lawful : (ds : List Scope) → Lawful Any (specifiers h sub form ds) (SpecifiersIs (Below (suc h)) form ds) EndsSpecifiers
    specifiers_lawful ds = said (mapped_lawful (λ (z : In (List SpecifierTree)). (specifier_trees z.0, z.1)) ends_going going_ends (some_lawful ds)) (λ x n t i. whole_to ds x.0 x.1 n t i) (whole_from ds)
