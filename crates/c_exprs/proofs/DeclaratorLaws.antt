-- Device: the law of each step of the reading of declarators, from the laws of the readings of parts.
use Rattle.std.proofs.Common.{◌≡◌, refl, sym, ap, ◌∙◌, subst, ℕ, ◌+◌, ◌<◌, length, Bool, true, false, not, ◌&&◌, ◌||◌, nat_le, List, [], ◌∷◌, ◌++◌, map, Option, Some, None, append_assoc, append-nil, arith, length-append, true≢false}
use Rattle.cil_base.specs.declared.numbers.NameId.{NameId}
use Rattle.cil_base.specs.declared.tokens.TokenKind.{TokenKind}
use Rattle.cil_base.specs.declared.tokens.TokenKind.TheVariants.{Name as IsName, Keyword as IsKeyword, Integer as IsInteger, Character as IsCharacter, Literal as IsLiteral, Punctuator as IsPunctuator}
use Rattle.cil_base.specs.declared.tokens.Punctuator.TheVariants.{RightBracket, LeftParen, RightParen, Star as StarSign, Comma as CommaSign}
use Rattle.typedef_scopes.specs.Scopes.{Scope, is_type, type_in, type_behind}
use Rattle.c_tree.specs.Syntax.{DeclaratorTree, Declared, Absent, Grouped, Array, Function, Unprototyped, BoundTree, ParameterTree}
use Rattle.c_tree.specs.Spelling.{Lexeme, sign, named, behind_commas, spell_names}
use Rattle.c_tree.specs.Levels.{declares, has_some, is_absent, is_underived}
use Rattle.c_tree.specs.Scoped.{are_no_types, entered}
use Rattle.c_exprs.specs.declared.words.Piece.TheVariants.{Name as NamePiece}
use Rattle.c_exprs.specs.declared.words.DeclaratorForm.{DeclaratorForm}
use Rattle.c_exprs.specs.declared.words.DeclaratorForm.TheVariants.{Definition as InDefinition, Member as InMember, Abstract as InAbstract, Parameter as InParameter}
use Rattle.c_exprs.specs.declared.words.Derivation.{Derivation}
use Rattle.c_exprs.specs.declared.words.Derivation.TheVariants.{Array as ArrayOf, Function as FunctionOf}
use Rattle.c_cursor.specs.Readers.{head}
use Rattle.c_cursor.specs.Classes.{a_name, is_sign, is_name, next_is, name_kind, if_so}
use Rattle.c_exprs.specs.Classes.{derivation_for, may_be_absent, may_be_named, an_identifier, is_some_of, begins_parameter, may_have_identifiers}
use Rattle.c_exprs.specs.GoesOn.{goes_on_declarator}
use Rattle.c_exprs.specs.Subs.{In, Subs, comma_ahead}
use Rattle.c_exprs.specs.DeclaratorReading.{behind_derivation, derivation, derivations, grouped, begins_function, behind_group, parenthesis, name_or_none, inner, parameter_trees, outer_of, prototyped, more_identifiers, identifiers, unprototyped, begins_identifiers, with_list, function_of}
use Rattle.c_exprs.proofs.Laws
use Rattle.c_exprs.proofs.Laws.{guard_lawful, guard_known, here_lawful, there_lawful, cancelled, Lawful, Any, Anywhere, Next, And, Steps, Ends, More, Token, Mapped, Behind, Before, Both, Either, Met, Unmet, Under, There, Opens, Gives, Numbers, bare, bind_lawful, mapped_lawful, behind_lawful, before_lawful, pure_lawful, when_lawful, many_lawful, steps_fit, one_lawful, opens_lawful, opens_begins, fact_lawful, said, known, ended, take_is, taken_is, At}
use Rattle.c_exprs.proofs.Tokens.{derivation_text, derivation_is, a_name_is, both, none_of, not_true, or_true, sign_tells, an_identifier_is}
use Rattle.c_exprs.proofs.Heads.{apart}
use Rattle.c_exprs.proofs.Relations.{Below, DeclaratorIs, LawfulSubs}
use Rattle.c_exprs.proofs.Lists.{EndIs, all_last}
use Rattle.c_exprs.proofs.BoundLaws.{BoundIs, bound_closed, bound_lawful}
use Rattle.c_exprs.proofs.ParameterLaws.{EndsParameter, ParameterList, parameters_lawful, parameter_opens, param_no_sign}

-- identifier lists

abbrev IdentifierGrows : List Scope → List NameId → List NameId → ℕ → List Lexeme → Type 0
IdentifierGrows ds ns ms n t = Behind (IsPunctuator CommaSign) (Mapped (λ (m : NameId). ns ++ m ∷ []) (Token (an_identifier ds))) ms n t

pub record IdentifiersAre (ds : List Scope) (ns : List NameId) (n : ℕ) (text : List Lexeme) : Type 0 where
  pub some : has_some ns ≡ true
  pub no_types : are_no_types ds ns ≡ true
  pub spelled : text ≡ spell_names ns

record IdentifierRun (ds : List Scope) (ms ns : List NameId) (text : List Lexeme) : Type 0 where
  others : List NameId
  list : ms ≡ ns ++ others
  no_types : are_no_types ds others ≡ true
  spelled : text ≡ behind_commas (map (λ n. named n ∷ []) others)

identifier_run : (ds : List Scope) (ms ns : List NameId) (n : ℕ) (text : List Lexeme) → Steps (IdentifierGrows ds) ms ns n text → IdentifierRun ds ms ns text
identifier_run ds ms ns n text (Ends e none) = record { others = []; list = sym e ∙ sym (append-nil ns); no_types = refl; spelled = none }
identifier_run ds ms ns n text (More ws front back g steps split) =
    let r = identifier_run ds ms ws (n + length front) back steps in
    let m = g.holds in
    let token = an_identifier_is ds m.holds.token m.value m.holds.is in
    let one : front ≡ sign CommaSign ∷ named m.value ∷ [] = g.parts ∙ ap (λ u. sign CommaSign ∷ u) (m.holds.alone ∙ ap (λ u. u ∷ []) token.0) in
    record {
      others = m.value ∷ r.others;
      list = r.list ∙ (ap (λ v. v ++ r.others) m.is ∙ append_assoc ns (m.value ∷ []) r.others);
      no_types = rw (token.1, r.no_types) refl;
      spelled = split ∙ (ap (λ f. f ++ back) one ∙ ap (λ b. sign CommaSign ∷ named m.value ∷ b) r.spelled);
    }

identifier_is : (ds : List Scope) (m : NameId) → is_type ds m ≡ false → an_identifier ds (named m) ≡ Some m
identifier_is ds m e = rw e refl

run_identifiers : (ds : List Scope) (others ns : List NameId) (n : ℕ) → are_no_types ds others ≡ true → Steps (IdentifierGrows ds) (ns ++ others) ns n (behind_commas (map (λ n. named n ∷ []) others))
run_identifiers ds [] ns n e = Ends (sym (append-nil ns)) refl
run_identifiers ds (m ∷ others) ns n e =
    let b = both (not (is_type ds m)) (are_no_types ds others) e in
    More (ns ++ m ∷ []) (sign CommaSign ∷ named m ∷ []) (behind_commas (map (λ n. named n ∷ []) others))
    (record { back = named m ∷ []; parts = refl; holds = record { value = m; holds = record { token = named m; is = identifier_is ds m (not_true (is_type ds m) b.0); alone = refl }; is = refl } })
    (subst (λ us. Steps (IdentifierGrows ds) us (ns ++ m ∷ []) (n + 2) (behind_commas (map (λ n. named n ∷ []) others))) (append_assoc ns (m ∷ []) others) (run_identifiers ds others (ns ++ m ∷ []) (n + 2) b.1)) refl

more_identifiers_lawful : (ds : List Scope) (ns : List NameId) → Lawful Any (more_identifiers ds ns) (λ ms. Steps (IdentifierGrows ds) ms ns) (λ ms o. comma_ahead o ≡ false)
more_identifiers_lawful ds ns = known (λ n o p. tt) (ended (λ us n t o s e. (tt, e)) (λ us n t o s e. e.1)
    (many_lawful {K = IdentifierGrows ds} {G = λ ms o. Unit {0}} (λ ms. behind_lawful (sign_tells CommaSign) (mapped_lawful (λ m. ms ++ m ∷ []) (λ t o s. tt) (λ t o s. tt) (one_lawful (an_identifier ds))))
    (λ ms ks n t more g. rw g.parts refl) (λ ms ks n t more g. tt) (λ ms ks n t g. rw g.parts (omega arith)) (λ ms. refl) ns))

identifiers_from : (ds : List Scope) (ns : List NameId) (n : ℕ) (t : List Lexeme) → Both (Token (an_identifier ds)) (λ m ms. Steps (IdentifierGrows ds) ms (m ∷ [])) ns n t → IdentifiersAre ds ns n t
identifiers_from ds ns n t b =
    let token = an_identifier_is ds b.first.token b.value b.first.is in
    let r = identifier_run ds ns (b.value ∷ []) (n + length b.front) b.back b.second in
    subst (λ ms. IdentifiersAre ds ms n t) (sym r.list) (record { some = refl; no_types = rw (token.1, r.no_types) refl; spelled = b.parts ∙ (ap (λ f. f ++ b.back) (b.first.alone ∙ ap (λ u. u ∷ []) token.0) ∙ ap (λ u. named b.value ∷ u) r.spelled) })

identifiers_to : (ds : List Scope) (ns : List NameId) (n : ℕ) (t : List Lexeme) → IdentifiersAre ds ns n t → Both (Token (an_identifier ds)) (λ m ms. Steps (IdentifierGrows ds) ms (m ∷ [])) ns n t
identifiers_to ds [] n t i = absurd (true≢false (sym i.some))
identifiers_to ds (m ∷ ns) n t i =
    let b = both (not (is_type ds m)) (are_no_types ds ns) i.no_types in
    record { value = m; front = named m ∷ []; back = behind_commas (map (λ n. named n ∷ []) ns); first = record { token = named m; is = identifier_is ds m (not_true (is_type ds m) b.0); alone = refl }; second = run_identifiers ds ns (m ∷ []) (n + 1) b.1; parts = i.spelled }

identifiers_lawful : (ds : List Scope) → Lawful Any (identifiers ds) (IdentifiersAre ds) (λ ns o. comma_ahead o ≡ false)
identifiers_lawful ds = said (bind_lawful (one_lawful (an_identifier ds)) (λ m n t i. known (λ j o p. tt) (more_identifiers_lawful ds (m ∷ []))) (λ m n t b u rest i k s. tt)) (identifiers_to ds) (identifiers_from ds)

and_off : (a b : Bool) → (a && (b && false)) ≡ false
and_off true true = refl
and_off true false = refl
and_off false b = refl

module _ (h : ℕ) (sub : Subs) (parts : LawfulSubs (Below h) sub) (form : DeclaratorForm) where
  -- lists behind a declarator

  abbrev pub EmptyList : ℕ → In DeclaratorTree → In DeclaratorTree → ℕ → List Lexeme → Type 0
  EmptyList at x = Behind (IsPunctuator RightParen) (Gives (Unprototyped at x.0 [], x.1))

  abbrev pub NameList : ℕ → In DeclaratorTree → In DeclaratorTree → ℕ → List Lexeme → Type 0
  NameList at x = Under (may_have_identifiers form && is_underived x.0) (Before (IsPunctuator RightParen) (λ (ns : List NameId). (Unprototyped at x.0 ns, x.1)) (IdentifiersAre x.1))

  abbrev pub Prototype : ℕ → In DeclaratorTree → In DeclaratorTree → ℕ → List Lexeme → Type 0
  Prototype at x = Before (IsPunctuator RightParen) (λ (ps : In (List ParameterTree × Bool)). (Function at x.0 (parameter_trees ps.0.0) ps.0.1, outer_of ps.1)) (ParameterList h sub parts (entered x.1))

  abbrev pub ListIs : ℕ → In DeclaratorTree → In DeclaratorTree → ℕ → List Lexeme → Type 0
  ListIs at x = Either (EmptyList at x) (Either (NameList at x) (Prototype at x))

  names_lawful : (at : ℕ) (x : In DeclaratorTree) → Lawful (And Any (begins_identifiers form x) true) (unprototyped at x) (NameList at x) Anywhere
  names_lawful at x = fact_lawful (may_have_identifiers form && is_underived x.0) (λ n o p. static_part (may_have_identifiers form) (is_underived x.0) _ p.1)
      (before_lawful (λ ns. (Unprototyped at x.0 ns, x.1)) (sign_tells RightParen) (λ ns n t i. refl) (known (λ n o p. tt) (identifiers_lawful x.1)))
    where
      static_part : (a b c : Bool) → (a && (b && c)) ≡ true → (a && b) ≡ true
      static_part a b c e = let k = both a (b && c) e in let l = both b c k.1 in rw (k.0, l.0) refl

  list_end : (xs : List ParameterTree) (b : Bool) → EndIs EndsParameter (λ o. Unit {0}) xs b (Some (sign RightParen))
  list_end xs true = tt
  list_end xs false = (all_last EndsParameter xs (Some (sign RightParen)) (λ x. refl), refl)

  prototype_lawful : (at : ℕ) (x : In DeclaratorTree) → Lawful Any (prototyped sub at x) (Prototype at x) Anywhere
  prototype_lawful at x = before_lawful (λ ps. (Function at x.0 (parameter_trees ps.0.0) ps.0.1, outer_of ps.1)) (sign_tells RightParen) (λ ps n t i. list_end ps.0.0 ps.0.1) (parameters_lawful h sub parts (entered x.1))

  names_begin : (at : ℕ) (x y : In DeclaratorTree) (n : ℕ) (t rest : List Lexeme) → NameList at x y n t → begins_identifiers form x (head (t ++ rest)) ≡ true
  names_begin at x y n t rest u =
      let b = u.holds in let i = identifiers_to x.1 b.value n b.front b.holds in
      let token = an_identifier_is x.1 i.first.token i.value i.first.is in
      let k = both (may_have_identifiers form) (is_underived x.0) u.met in
      rw (k.0, k.1, b.parts, i.parts, i.first.alone, token.0, token.1) refl

  entered_type : (ds : List Scope) (k : TokenKind) → begins_parameter (entered ds) k ≡ begins_parameter ds k
  entered_type ds (IsName n) = ap (λ b. is_some_of (if_so b (NamePiece n))) (type_entered ds false n)
    where
      type_entered : (ds : List Scope) (b : Bool) (n : NameId) → type_behind n b (entered ds) ≡ type_behind n b ds
      type_entered [] b n = refl
      type_entered (s ∷ ss) b n = type_entered ss (type_in n b s) n
  entered_type ds (IsKeyword w) = refl
  entered_type ds IsInteger = refl
  entered_type ds IsCharacter = refl
  entered_type ds IsLiteral = refl
  entered_type ds (IsPunctuator p) = refl

  next_entered : (ds : List Scope) (o : Option Lexeme) → next_is (begins_parameter (entered ds)) o ≡ true → next_is (begins_parameter ds) o ≡ true
  next_entered ds None e = e
  next_entered ds (Some u) e = sym (entered_type ds u.kind) ∙ e

  prototype_opens : (at : ℕ) (x y : In DeclaratorTree) (n : ℕ) (t rest : List Lexeme) → Prototype at x y n t → next_is (begins_parameter x.1) (head (t ++ rest)) ≡ true
  prototype_opens at x y n t rest b =
      let l = b.holds in let i = l.holds in
      next_entered x.1 (head (t ++ rest)) (rw (b.parts, l.parts, i.spelled, append_assoc, append_assoc) (parameter_opens h sub parts (entered x.1) l.first.0 (l.back ++ (bare (IsPunctuator RightParen) ∷ rest)) i.levelled i.scoped))

  no_identifiers : (a b : Bool) (ds : List Scope) (o : Option Lexeme) → next_is (begins_parameter ds) o ≡ true → (a && (b && next_is (λ k. is_some_of (name_kind k) && not (begins_parameter ds k)) o)) ≡ false
  no_identifiers a b ds o e = rw (apart (begins_parameter ds) (λ k. is_some_of (name_kind k) && not (begins_parameter ds k)) o e (λ k t. not_true (begins_parameter ds k) (both (is_some_of (name_kind k)) (not (begins_parameter ds k)) t).1)) (and_off a b)

  with_list_lawful : (at : ℕ) (x : In DeclaratorTree) → Lawful Any (with_list sub form at x) (Either (NameList at x) (Prototype at x)) Anywhere
  with_list_lawful at x = when_lawful (begins_identifiers form x) (names_lawful at x) (known (λ n o p. tt) (prototype_lawful at x))
      (λ y n t rest u s. names_begin at x y n t rest u)
      (λ y n t rest b s. no_identifiers (may_have_identifiers form) (is_underived x.0) x.1 (head (t ++ rest)) (prototype_opens at x y n t rest b))

  list_no_close : (at : ℕ) (x y : In DeclaratorTree) (n : ℕ) (t rest : List Lexeme) → Either (NameList at x) (Prototype at x) y n t → next_is (is_sign RightParen) (head (t ++ rest)) ≡ false
  list_no_close at x y n t rest (Met u) =
      let b = u.holds in let i = identifiers_to x.1 b.value n b.front b.holds in let token = an_identifier_is x.1 i.first.token i.value i.first.is in
      rw (b.parts, i.parts, i.first.alone, token.0) refl
  list_no_close at x y n t rest (Unmet b) = param_no_sign x.1 RightParen (head (t ++ rest)) (prototype_opens at x y n t rest b)

  pub list_lawful : {P : ℕ → Option Lexeme → Type 0} (at : ℕ) (x : In DeclaratorTree) → Lawful P (function_of sub form at x) (ListIs at x) Anywhere
  list_lawful at x = when_lawful (next_is (is_sign RightParen)) (behind_lawful (sign_tells RightParen) (pure_lawful (Unprototyped at x.0 [], x.1) (λ n o p. tt))) (known (λ n o p. tt) (with_list_lawful at x))
      (λ y n t rest b s. rw b.parts refl) (λ y n t rest b s. list_no_close at x y n t rest b)

  -- derivations

  abbrev pub ArrayIs : ℕ → ℕ → In DeclaratorTree → In DeclaratorTree → ℕ → List Lexeme → Type 0
  ArrayIs at b x = Before (IsPunctuator RightBracket) (λ (r : In BoundTree). (Array at x.0 r.0, r.1)) (BoundIs h (declares x.0) b x.1)

  abbrev pub OfDerivation : ℕ → ℕ → In DeclaratorTree → Derivation → In DeclaratorTree → ℕ → List Lexeme → Type 0
  OfDerivation at b x ArrayOf y n t = ArrayIs at b x y n t
  OfDerivation at b x FunctionOf y n t = ListIs at x y n t

  of_derivation_lawful : (at b : ℕ) (x : In DeclaratorTree) (k : Derivation) → Lawful (At (b + 1)) (behind_derivation sub form at b x k) (OfDerivation at b x k) Anywhere
  of_derivation_lawful at b x ArrayOf = before_lawful (λ r. (Array at x.0 r.0, r.1)) (sign_tells RightBracket) (λ r n t i. bound_closed r.0) (bound_lawful h sub parts (declares x.0) b x.1)
  of_derivation_lawful at b x FunctionOf = list_lawful at x

  abbrev pub DerivationParts : ℕ → In DeclaratorTree → In DeclaratorTree → ℕ → List Lexeme → Type 0
  DerivationParts at x = Both Numbers (λ b. Both (There b (Token (derivation_for h x.0))) (λ k. OfDerivation at b x k))

  -- an absent name stands neither in front of a parenthesis nor of what would be taken before it
  abbrev pub blocked : DeclaratorTree → Option Lexeme → Bool
  blocked (Absent at) o = next_is (λ k. (is_sign LeftParen k || is_sign StarSign k) || (may_be_named form && is_name k)) o
  blocked _ o = false

  abbrev pub Derives : ℕ → In DeclaratorTree → In DeclaratorTree → ℕ → List Lexeme → Type 0
  Derives at x = Opens (blocked x.0) false (DerivationParts at x)

  unblocked : (k : Derivation) (at b : ℕ) (x y : In DeclaratorTree) (n : ℕ) (t : List Lexeme) (o : Option Lexeme) → OfDerivation at b x k y n t → blocked y.0 o ≡ false
  unblocked ArrayOf at b x y n t o i = rw i.is refl
  unblocked FunctionOf at b x y n t o (Met i) = rw i.holds.value refl
  unblocked FunctionOf at b x y n t o (Unmet (Met i)) = rw i.holds.is refl
  unblocked FunctionOf at b x y n t o (Unmet (Unmet i)) = rw i.is refl

  derivation_lawful : (at : ℕ) (x : In DeclaratorTree) → Lawful (And (λ n o. blocked x.0 o ≡ false) (goes_on_declarator form) true) (derivation h sub form at x) (Derives at x) (λ y o. blocked y.0 o ≡ false)
  derivation_lawful at x = opens_lawful (blocked x.0) false (λ n o p. p.0)
      (bind_lawful here_lawful
      (λ b n t i. bind_lawful (there_lawful b (λ m o p. p.0 ∙ (ap (λ u. n + length u) i.nothing ∙ (Laws.add_none n ∙ sym i.value))) (one_lawful (derivation_for h x.0)))
      (λ k m u j. known (λ q o p. p.0 ∙ (ap (λ v. m + length v) j.holds.alone ∙ ap (λ q. q + 1) j.number)) (ended (λ y q v o l s. tt) (λ y q v o l s. unblocked k at b x y q v o l) (of_derivation_lawful at b x k)))
      (λ k m u c v rest j l s. tt))
      (λ b n t c u rest i l s. tt))

  derivation_head : (at : ℕ) (x y : In DeclaratorTree) (n : ℕ) (t more : List Lexeme) → Derives at x y n t → (k : Derivation) × (head (t ++ more) ≡ Some (derivation_text k)) × (0 < length t)
  derivation_head at x y n t more o =
      let b = o.holds in let k = b.second in
      let token = derivation_is h x.0 k.first.holds.token k.value k.first.holds.is in
      (k.value, rw (b.parts, b.first.nothing, k.parts, k.first.holds.alone, token.0) refl, rw (b.parts, b.first.nothing, k.parts, k.first.holds.alone) (omega arith))

  goes_derivation : (f : DeclaratorForm) (k : Derivation) → goes_on_declarator f (Some (derivation_text k)) ≡ true
  goes_derivation InDefinition ArrayOf = refl
  goes_derivation InDefinition FunctionOf = refl
  goes_derivation InMember ArrayOf = refl
  goes_derivation InMember FunctionOf = refl
  goes_derivation InAbstract ArrayOf = refl
  goes_derivation InAbstract FunctionOf = refl
  goes_derivation InParameter ArrayOf = refl
  goes_derivation InParameter FunctionOf = refl

  derives_starts : (at : ℕ) (x y : In DeclaratorTree) (n : ℕ) (t more : List Lexeme) → Derives at x y n t → goes_on_declarator form (head (t ++ more)) ≡ true
  derives_starts at x y n t more o = let k = derivation_head at x y n t more o in ap (goes_on_declarator form) k.1 ∙ goes_derivation form k.0

  derives_fits : (at : ℕ) (x y : In DeclaratorTree) (n : ℕ) (t more : List Lexeme) → Derives at x y n t → blocked x.0 (head (t ++ more)) ≡ false
  derives_fits at x y n t more o = opens_begins (blocked x.0) false y n t more o (λ none. absurd (omega (arith, (derivation_head at x y n t more o).2, ap length none)))

  derives_some : (at : ℕ) (x y : In DeclaratorTree) (n : ℕ) (t : List Lexeme) → Derives at x y n t → 0 < length t
  derives_some at x y n t o = (derivation_head at x y n t [] o).2

  nothing_ahead : (x : In DeclaratorTree) → goes_on_declarator form None ≡ false
  nothing_ahead x = refl

  pub derivations_lawful : (at : ℕ) (x : In DeclaratorTree) → Lawful (λ n o. blocked x.0 o ≡ false) (derivations h sub form at x) (λ z. Steps (Derives at) z x) (λ z o. (blocked z.0 o ≡ false) × (goes_on_declarator form o ≡ false))
  derivations_lawful at x = many_lawful (derivation_lawful at) (derives_starts at) (derives_fits at) (derives_some at) nothing_ahead x

  pub derivations_fit : (at : ℕ) (y z : In DeclaratorTree) (m : ℕ) (u rest : List Lexeme) → Steps (Derives at) z y m u → blocked z.0 (head rest) ≡ false → blocked y.0 (head (u ++ rest)) ≡ false
  derivations_fit at y z m u rest steps g = steps_fit (derivation_lawful at) (derives_starts at) (derives_fits at) (derives_some at) nothing_ahead y z m u rest steps g

  -- what derivations stand behind

  abbrev pub GroupedIs : ℕ → List Scope → In DeclaratorTree → ℕ → List Lexeme → Type 0
  GroupedIs at ds = Both (DeclaratorIs (Below h) form ds) (λ d. Under (not (is_absent d.0)) (Behind (IsPunctuator RightParen) (Gives (Grouped at d.0, d.1))))

  group_ends : (f : DeclaratorForm) → goes_on_declarator f (Some (sign RightParen)) ≡ false
  group_ends InDefinition = refl
  group_ends InMember = refl
  group_ends InAbstract = refl
  group_ends InParameter = refl

  grouped_lawful : (at : ℕ) (ds : List Scope) → Lawful Any (grouped sub form at ds) (GroupedIs at ds) Anywhere
  grouped_lawful at ds = bind_lawful (parts.declarator form ds) (λ d n t i. guard_lawful (not (is_absent d.0)) (behind_lawful (sign_tells RightParen) (pure_lawful (Grouped at d.0, d.1) (λ m o p. tt)))) (λ d n t b u rest i k s. rw k.holds.parts (group_ends form))

  -- `)` or the beginning of a parameter
  abbrev pub function_ahead : List Scope → Option Lexeme → Bool
  function_ahead ds o = next_is (λ k. is_sign RightParen k || begins_parameter ds k) o

  abbrev pub AbsentFunction : ℕ → List Scope → In DeclaratorTree → ℕ → List Lexeme → Type 0
  AbsentFunction at ds = Under (may_be_absent form) (Under (nat_le 2 h) (ListIs at (Absent at, ds)))

  abbrev pub BehindGroup : ℕ → List Scope → In DeclaratorTree → ℕ → List Lexeme → Type 0
  BehindGroup at ds = Either (AbsentFunction at ds) (Opens (begins_function form ds) false (GroupedIs at ds))

  list_begins : (at : ℕ) (ds : List Scope) (y : In DeclaratorTree) (n : ℕ) (t rest : List Lexeme) → ListIs at (Absent at, ds) y n t → function_ahead ds (head (t ++ rest)) ≡ true
  list_begins at ds y n t rest (Met b) = rw b.parts refl
  list_begins at ds y n t rest (Unmet (Met u)) = absurd (true≢false (sym (both (may_have_identifiers form) false u.met).1))
  list_begins at ds y n t rest (Unmet (Unmet b)) = by (head (t ++ rest)) (prototype_opens at (Absent at, ds) y n t rest b)
    where
      by : (o : Option Lexeme) → next_is (begins_parameter ds) o ≡ true → function_ahead ds o ≡ true
      by None e = e
      by (Some u) e = rw e (or_true (is_sign RightParen u.kind))

  grouped_some : (at : ℕ) (ds : List Scope) (y : In DeclaratorTree) (n : ℕ) (t : List Lexeme) → GroupedIs at ds y n t → 0 < length t
  grouped_some at ds y n t g = omega (arith, ap length g.parts, length-append g.front g.back, ap length g.second.holds.parts)

  behind_group_lawful : (at : ℕ) (ds : List Scope) → Lawful Any (behind_group h sub form at ds) (BehindGroup at ds) Anywhere
  behind_group_lawful at ds = when_lawful (begins_function form ds)
      (fact_lawful (may_be_absent form) (λ n o p. (both (may_be_absent form) (function_ahead ds o) p.1).0) (guard_lawful (nat_le 2 h) (list_lawful at (Absent at, ds))))
      (opens_lawful (begins_function form ds) false (λ n o p. p.1) (known (λ n o p. tt) (grouped_lawful at ds)))
      (λ y n t rest i s. rw (i.met, list_begins at ds y n t rest i.holds.holds) refl)
      (λ y n t rest o s. opens_begins (begins_function form ds) false y n t rest o (λ none. absurd (omega (arith, grouped_some at ds y n t o.holds, ap length none))))

  abbrev pub ParenthesisIs : ℕ → List Scope → In DeclaratorTree → ℕ → List Lexeme → Type 0
  ParenthesisIs at ds = Behind (IsPunctuator LeftParen) (BehindGroup at ds)

  not_blocked : (at : ℕ) (ds : List Scope) (y : In DeclaratorTree) (n : ℕ) (t : List Lexeme) (o : Option Lexeme) → BehindGroup at ds y n t → blocked y.0 o ≡ false
  not_blocked at ds y n t o (Met i) = unblocked FunctionOf at at (Absent at, ds) y n t o i.holds.holds
  not_blocked at ds y n t o (Unmet i) = rw i.holds.second.holds.holds.value refl

  parenthesis_lawful : {P : ℕ → Option Lexeme → Type 0} (at : ℕ) (ds : List Scope) → Lawful P (parenthesis h sub form at ds) (ParenthesisIs at ds) (λ y o. blocked y.0 o ≡ false)
  parenthesis_lawful at ds = ended (λ y n t o i s. tt) (λ y n t o i s. not_blocked at ds y (n + 1) i.back o i.holds) (behind_lawful (sign_tells LeftParen) (behind_group_lawful at ds))

  abbrev pub NameIs : ℕ → List Scope → In DeclaratorTree → ℕ → List Lexeme → Type 0
  NameIs at ds = Under (may_be_named form) (Mapped (λ (m : NameId). (Declared at m, ds)) (Token a_name))

  abbrev pub AbsentIs : ℕ → List Scope → In DeclaratorTree → ℕ → List Lexeme → Type 0
  AbsentIs at ds = Under (may_be_absent form) (Gives (Absent at, ds))

  -- the next token is neither `(` nor `*`
  abbrev Plainly : ℕ → Option Lexeme → Type 0
  Plainly n o = (next_is (is_sign LeftParen) o ≡ false) × (next_is (is_sign StarSign) o ≡ false)

  free_kind : (k : TokenKind) (b : Bool) → is_sign LeftParen k ≡ false → is_sign StarSign k ≡ false → (b && is_name k) ≡ false → ((is_sign LeftParen k || is_sign StarSign k) || (b && is_name k)) ≡ false
  free_kind k b e f g = rw (e, f, g) refl

  free_ahead : (b : Bool) (o : Option Lexeme) → next_is (is_sign LeftParen) o ≡ false → next_is (is_sign StarSign) o ≡ false → (b && next_is is_name o) ≡ false → next_is (λ k. (is_sign LeftParen k || is_sign StarSign k) || (b && is_name k)) o ≡ false
  free_ahead b None e f g = refl
  free_ahead b (Some u) e f g = free_kind u.kind b e f g

  blocked_name : (b : Bool) (o : Option Lexeme) → next_is (λ k. (is_sign LeftParen k || is_sign StarSign k) || (b && is_name k)) o ≡ false → (b && next_is is_name o) ≡ false
  blocked_name true None e = refl
  blocked_name false None e = refl
  blocked_name b (Some u) e = (none_of (is_sign LeftParen u.kind || is_sign StarSign u.kind) (b && is_name u.kind) e).1

  name_or_none_lawful : (at : ℕ) (ds : List Scope) → Lawful Plainly (name_or_none form at ds) (Either (NameIs at ds) (AbsentIs at ds)) (λ y o. blocked y.0 o ≡ false)
  name_or_none_lawful at ds = when_lawful (λ o. may_be_named form && next_is is_name o)
      (fact_lawful (may_be_named form) (λ n o p. (both (may_be_named form) (next_is is_name o) p.1).0) (mapped_lawful (λ m. (Declared at m, ds)) (λ m o s. tt) (λ m o s. refl) (one_lawful a_name)))
      (guard_lawful (may_be_absent form) (pure_lawful (Absent at, ds) (λ n o p. free_ahead (may_be_named form) o p.0.0 p.0.1 p.1)))
      (λ y n t rest i s. rw (i.met, i.holds.holds.alone, a_name_is i.holds.holds.token i.holds.value i.holds.holds.is) refl)
      (λ y n t rest i s. rw i.holds.nothing (blocked_name (may_be_named form) (head rest) (subst (λ w. blocked w.0 (head rest) ≡ false) i.holds.value s)))

  abbrev pub InnerIs : ℕ → List Scope → In DeclaratorTree → ℕ → List Lexeme → Type 0
  InnerIs at ds = Either (ParenthesisIs at ds) (Either (NameIs at ds) (AbsentIs at ds))

  blocked_parens : (o : Option Lexeme) → next_is (λ k. (is_sign LeftParen k || is_sign StarSign k) || (may_be_named form && is_name k)) o ≡ false → next_is (is_sign LeftParen) o ≡ false
  blocked_parens None e = refl
  blocked_parens (Some u) e = (none_of (is_sign LeftParen u.kind) (is_sign StarSign u.kind) (none_of (is_sign LeftParen u.kind || is_sign StarSign u.kind) (may_be_named form && is_name u.kind) e).0).0

  blocked_star : (o : Option Lexeme) → next_is (λ k. (is_sign LeftParen k || is_sign StarSign k) || (may_be_named form && is_name k)) o ≡ false → next_is (is_sign StarSign) o ≡ false
  blocked_star None e = refl
  blocked_star (Some u) e = (none_of (is_sign LeftParen u.kind) (is_sign StarSign u.kind) (none_of (is_sign LeftParen u.kind || is_sign StarSign u.kind) (may_be_named form && is_name u.kind) e).0).1

  name_no_parens : (at : ℕ) (ds : List Scope) (y : In DeclaratorTree) (n : ℕ) (t rest : List Lexeme) → Either (NameIs at ds) (AbsentIs at ds) y n t → blocked y.0 (head rest) ≡ false → next_is (is_sign LeftParen) (head (t ++ rest)) ≡ false
  name_no_parens at ds y n t rest (Met i) s = rw (i.holds.holds.alone, a_name_is i.holds.holds.token i.holds.value i.holds.holds.is) refl
  name_no_parens at ds y n t rest (Unmet i) s = rw i.holds.nothing (blocked_parens (head rest) (subst (λ w. blocked w.0 (head rest) ≡ false) i.holds.value s))

  pub inner_lawful : (at : ℕ) (ds : List Scope) → Lawful (And Any (next_is (is_sign StarSign)) false) (inner h sub form at ds) (InnerIs at ds) (λ y o. blocked y.0 o ≡ false)
  inner_lawful at ds = when_lawful (next_is (is_sign LeftParen)) (parenthesis_lawful at ds) (known (λ n o p. (p.1, p.0.1)) (name_or_none_lawful at ds))
      (λ y n t rest i s. rw i.parts refl) (λ y n t rest i s. name_no_parens at ds y n t rest i s)

  pub inner_no_star : (at : ℕ) (ds : List Scope) (y : In DeclaratorTree) (n : ℕ) (t rest : List Lexeme) → InnerIs at ds y n t → blocked y.0 (head rest) ≡ false → next_is (is_sign StarSign) (head (t ++ rest)) ≡ false
  inner_no_star at ds y n t rest (Met i) s = rw i.parts refl
  inner_no_star at ds y n t rest (Unmet (Met i)) s = rw (i.holds.holds.alone, a_name_is i.holds.holds.token i.holds.value i.holds.holds.is) refl
  inner_no_star at ds y n t rest (Unmet (Unmet i)) s = rw i.holds.nothing (blocked_star (head rest) (subst (λ w. blocked w.0 (head rest) ≡ false) i.holds.value s))
