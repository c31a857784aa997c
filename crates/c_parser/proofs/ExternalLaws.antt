-- Device: the reading of external declarations gives exactly the grammatical ones.
use Rattle.std.proofs.Common.{◌≡◌, refl, sym, ap, ◌∙◌, subst, ℕ, suc, ◌+◌, ◌-◌, ◌<◌, ◌≤◌, max, length, Bool, true, false, not, ◌&&◌, ◌||◌, nat_eq, List, [], ◌∷◌, ◌++◌, map, Option, Some, None, append_assoc, append-nil, arith, length-append, true≢false}
use Rattle.cil_base.specs.declared.numbers.NameId.{NameId}
use Rattle.cil_base.specs.declared.tokens.TokenKind.{TokenKind}
use Rattle.cil_base.specs.declared.tokens.TokenKind.TheVariants.{Keyword as IsKeyword, Punctuator as IsPunctuator}
use Rattle.cil_base.specs.declared.tokens.Keyword.TheVariants.{StaticAssert as StaticAssertWord}
use Rattle.cil_base.specs.declared.tokens.Punctuator.TheVariants.{LeftBracket, LeftParen, LeftBrace, RightBrace, Semicolon, Comma as CommaSign, Equal}
use Rattle.typedef_scopes.specs.Scopes.{Scope}
use Rattle.c_tree.specs.Syntax.{SpecifierTrees, DeclaratorTree, Declared, Absent, Grouped, Pointer, Array, Function, Unprototyped, InitTree}
use Rattle.c_tree.specs.Units.{DeclarationTree, Declares, Asserts, BlockItems, ExternalTree, Definition, External}
use Rattle.c_tree.specs.Spelling.{Lexeme, word, sign, in_braces, with_commas, behind_commas, spell_specifiers, spell_declarator}
use Rattle.c_tree.specs.UnitSpelling.{spell_maybe_init, spell_init_declarator, spell_declaration, spell_declarations, spell_block, spell_external}
use Rattle.c_tree.specs.Height.{specifiers_height, declarator_height, declaration_height, declarations_height, init_declarator_height, init_declarators_height, block_height, external_height}
use Rattle.c_tree.specs.Levels.{has_some, has_specifier, declares, has_names, is_underived, has_own_names, has_other_names, is_defined_by, levelled_specifiers, levelled_declarator, levelled_maybe_init, levelled_init_declarator, levelled_init_declarators, levelled_declaration, levelled_declarations, levelled_block, levelled_external}
use Rattle.c_tree.specs.Placed.{placed_specifiers, placed_declarator, placed_maybe_init, placed_init_declarators, placed_declaration, placed_declarations, placed_block, placed_external}
use Rattle.c_tree.specs.Scoped.{entered, name_of, first_name, has_typedef, has_type_specifier, stands_behind, declared_if, scoped_specifiers, scoped_declarator, scoped_init_declarator, scoped_init_declarators, scoped_declaration, scoped_declarations, scoped_block, scoped_body, scoped_external, after_specifiers, after_declarator, after_named, after_init_declarator, after_init_declarators, after_declaration, after_declarations, after_own_list, after_external}
use Rattle.c_exprs.specs.declared.words.SpecifierForm.TheVariants.{Declaration as InDeclaration}
use Rattle.c_exprs.specs.declared.words.DeclaratorForm.TheVariants.{Definition as InDefinition, Member as InMember}
use Rattle.c_cursor.specs.Readers.{head, pick}
use Rattle.c_cursor.specs.Classes.{is_sign, is_assert_word, next_is}
use Rattle.c_exprs.specs.GoesOn.{goes_on_specifiers, goes_on_name, goes_on_declarator}
use Rattle.c_exprs.specs.Subs.{In, grow, comma_ahead}
use Rattle.c_exprs.proofs.Laws.{Lawful, Any, Anywhere, Next, And, At, Steps, Mapped, Behind, Before, Both, Either, Met, Unmet, Under, There, Opens, Gives, Numbers, bare, bind_lawful, mapped_lawful, behind_lawful, before_lawful, pure_lawful, when_lawful, many_lawful, here_lawful, opens_lawful, opens_begins, there_lawful, fact_lawful, said, known, ended}
use Rattle.c_cursor.proofs.Tokens.{eq_true, true_eq}
use Rattle.c_exprs.proofs.Tokens.{both, none_of, not_true, or_true, sign_tells}
use Rattle.c_exprs.proofs.Heads.{apart}
use Rattle.c_exprs.proofs.Relations.{Below, SpecifiersIs, DeclaratorIs, EndsDeclarator}
use Rattle.c_exprs.proofs.Lists.{grown, Grows, Over, Rest, rest_of_steps, steps_of_rest, AfterComma, more_listed_lawful, Last, all_last}
use Rattle.c_exprs.proofs.ExprTrees.{tall_declarator}
use Rattle.c_parser.specs.StatementWords.{begins_declaration}
use Rattle.c_parser.specs.Parts.{Parts}
use Rattle.c_parser.specs.DeclarationReading.{behind_declarator, naming}
use Rattle.c_parser.specs.ExternalReading.{declarations, own_declarations, body_behind, definition, more_declarators, declared, defines, defined_or_declared, first_declarator, no_declarator, behind_specifiers, specified, asserted, external_at, external}
use Rattle.c_parser.proofs.Looking.{numbered_lawful}
use Rattle.c_parser.proofs.UnitRelations.{DeclarationIs, BodyIs, ExternalIs, LawfulParts}
use Rattle.c_parser.proofs.StatementHeads.{declaration_begins, declaration_some}
use Rattle.c_parser.proofs.DeclarationLaws.{InitDeclaratorIs, EndsInitDeclarator, init_comma, init_semicolon, stands_before, before_stands, BehindDeclarator, EndsInitOne, behind_declarator_lawful, behind_declarator_ends, init_declarator_from, init_declarator_to, init_declarator_lawful, MoreDeclaratorsAre, more_declarators_from, more_declarators_to, declarator_no_semicolon, IsAssert, assert_lawful, no_assert}

-- identifier lists of a declarator: its own, and others

no_list : (u s : Bool) → ((u && s) ≡ false) → ((not u && s) ≡ false) → s ≡ false
no_list true s a b = a
no_list false s a b = b

pub no_names : (d : DeclaratorTree) → has_own_names d ≡ false → has_other_names d ≡ false → has_names d ≡ false
no_names (Declared at n) a b = refl
no_names (Absent at) a b = refl
no_names (Grouped at d) a b = no_names d a b
no_names (Pointer at qs d) a b = no_names d a b
no_names (Array at d bound) a b = no_names d a b
no_names (Function at d ps v) a b = no_names d a b
no_names (Unprototyped at d ns) a b =
    let x = none_of (is_underived d && has_some ns) (has_own_names d) a in let y = none_of (not (is_underived d) && has_some ns) (has_other_names d) b in
    let list : has_some ns ≡ false = no_list (is_underived d) (has_some ns) x.0 y.0 in
    rw list (no_names d x.1 y.1)

and_none : (a b : Bool) → b ≡ false → (a && b) ≡ false
and_none true b e = e
and_none false b e = refl

or_none : (a b : Bool) → a ≡ false → b ≡ false → (a || b) ≡ false
or_none true b e f = e
or_none false b e f = f

pub names_none : (d : DeclaratorTree) → has_names d ≡ false → (has_own_names d ≡ false) × (has_other_names d ≡ false)
names_none (Declared at n) e = (refl, refl)
names_none (Absent at) e = (refl, refl)
names_none (Grouped at d) e = names_none d e
names_none (Pointer at qs d) e = names_none d e
names_none (Array at d bound) e = names_none d e
names_none (Function at d ps v) e = names_none d e
names_none (Unprototyped at d ns) e =
    let x = none_of (has_some ns) (has_names d) e in let r = names_none d x.1 in
    (or_none (is_underived d && has_some ns) (has_own_names d) (and_none (is_underived d) (has_some ns) x.0) r.0, or_none (not (is_underived d) && has_some ns) (has_other_names d) (and_none (not (is_underived d)) (has_some ns) x.0) r.1)

declaration_no_derivation : (ds : List Scope) (k : TokenKind) → goes_on_name k ≡ true → begins_declaration ds k ≡ false
declaration_no_derivation ds k e = by (is_sign LeftParen k) refl e
  where
    by : (b : Bool) → is_sign LeftParen k ≡ b → (b || is_sign LeftBracket k) ≡ true → begins_declaration ds k ≡ false
    by true f s = ap (begins_declaration ds) ((sign_tells LeftParen).is k f)
    by false f s = ap (begins_declaration ds) ((sign_tells LeftBracket).is k s)

module _ (h : ℕ) (p : Parts) (parts : LawfulParts h p) where
  -- the declarations behind an identifier list

  abbrev NextDeclaration : In (List DeclarationTree) → In DeclarationTree → ℕ → List Lexeme → Type 0
  NextDeclaration x = DeclarationIs (Below h) x.1

  next_declaration : (x : In (List DeclarationTree)) → Lawful (And Any (next_is (begins_declaration x.1)) true) (grow p.declaration x) (Grows NextDeclaration x) Anywhere
  next_declaration x = mapped_lawful (grown x) (λ y o k. tt) (λ y o k. tt) (known (λ n o q. tt) (parts.declaration x.1))

  steps_lawful : (ds : List Scope) → Lawful Any (declarations p ds) (λ z. Steps (Grows NextDeclaration) z ([], ds)) (λ z o. next_is (begins_declaration z.1) o ≡ false)
  steps_lawful ds = ended (λ z n t o k e. (tt, e)) (λ z n t o k e. e.1) (known (λ n o q. tt) (many_lawful {goes = λ y. next_is (begins_declaration y.1)} {G = λ z o. Unit {0}} next_declaration
      (λ x y n t more g. rw g.holds.spelled (declaration_begins x.1 g.value.0 more g.holds.levelled g.holds.scoped))
      (λ y z m u more g. tt) (λ x y n t g. rw g.holds.spelled (declaration_some g.value.0)) (λ x. refl) ([], ds)))

  record DeclarationsAre (ds : List Scope) (xs : List DeclarationTree) (after : List Scope) (n : ℕ) (text : List Lexeme) : Type 0 where
    levelled : levelled_declarations xs ≡ true
    placed : placed_declarations n xs ≡ true
    scoped : scoped_declarations ds xs ≡ true
    low : declarations_height xs ≤ h - 1
    behind : after ≡ after_declarations ds xs
    spelled : text ≡ spell_declarations xs

  are_from : (xs before : List DeclarationTree) (ds after : List Scope) (n : ℕ) (text : List Lexeme) → Rest Over NextDeclaration before ds after n text xs → DeclarationsAre ds xs after n text
  are_from [] before ds after n text r = record { levelled = refl; placed = refl; scoped = refl; low = omega arith; behind = r.0; spelled = r.1 }
  are_from (x ∷ xs) before ds after n text r =
      let i = r.3 in
      let next : n + length r.1 ≡ n + length (spell_declaration x) = ap (λ u. n + length u) i.spelled in
      let m = are_from xs (before ++ x ∷ []) r.0 after (n + length r.1) r.2 r.4 in
      record { levelled = rw (i.levelled, m.levelled) refl; placed = rw (i.placed, ← next, m.placed) refl; scoped = rw (i.scoped, ← i.after, m.scoped) refl; low = omega (arith, i.low, m.low); behind = rw (← i.after) m.behind; spelled = rw (r.5, i.spelled, m.spelled) refl }

  tall_declaration : (d : DeclarationTree) → 1 ≤ declaration_height d
  tall_declaration (Declares at ss xs) = omega arith
  tall_declaration (Asserts at e m texts) = omega arith

  are_to : (xs before : List DeclarationTree) (ds after : List Scope) (n : ℕ) (text : List Lexeme) → DeclarationsAre ds xs after n text → Rest Over NextDeclaration before ds after n text xs
  are_to [] before ds after n text m = (m.behind, m.spelled)
  are_to (x ∷ xs) before ds after n text m =
      let l = both (levelled_declaration x) (levelled_declarations xs) m.levelled in let q = both (placed_declaration n x) (placed_declarations (n + length (spell_declaration x)) xs) m.placed in
      let s = both (scoped_declaration ds x) (scoped_declarations (after_declaration ds x) xs) m.scoped in
      let back : List Lexeme = spell_declarations xs in
      let low : declarations_height xs ≤ h - 1 = omega (arith, m.low) in (
        after_declaration ds x,
        spell_declaration x,
        back,
        record { levelled = l.0; placed = q.0; scoped = s.0; low = omega (arith, m.low, tall_declaration x); after = refl; spelled = refl },
        are_to xs (before ++ x ∷ []) (after_declaration ds x) after (n + length (spell_declaration x)) back (record { levelled = l.1; placed = q.1; scoped = s.1; low = low; behind = m.behind; spelled = refl }),
        m.spelled,
      )

  declarations_lawful : (ds : List Scope) → Lawful Any (declarations p ds) (λ z. DeclarationsAre ds z.0 z.1) (λ z o. next_is (begins_declaration z.1) o ≡ false)
  declarations_lawful ds = said (steps_lawful ds) (λ z n t m. steps_of_rest NextDeclaration z.0 [] ds z.1 n t (are_to z.0 [] ds z.1 n t m))
      (λ z n t k. let r = rest_of_steps NextDeclaration z ([], ds) n t k in subst (λ xs. DeclarationsAre ds xs z.1 n t) (sym r.list) (are_from r.items [] ds z.1 n t r.rest))

  -- they stand only behind an identifier list

  record OwnIs (named : Bool) (ds : List Scope) (z : In (List DeclarationTree)) (n : ℕ) (text : List Lexeme) : Type 0 where
    are : DeclarationsAre ds z.0 z.1 n text
    own : (named || not (has_some z.0)) ≡ true

  abbrev EndsOwn : Bool → In (List DeclarationTree) → Option Lexeme → Type 0
  EndsOwn true z o = next_is (begins_declaration z.1) o ≡ false
  EndsOwn false z o = Unit {0}

  none_own : (ds : List Scope) (xs : List DeclarationTree) (after : List Scope) (n : ℕ) (t : List Lexeme) → OwnIs false ds (xs, after) n t → Gives {A = In (List DeclarationTree)} ([], ds) (xs, after) n t
  none_own ds [] after n t i = record { value = ap (λ s. ([], s)) i.are.behind; nothing = i.are.spelled }
  none_own ds (x ∷ xs) after n t i = absurd (true≢false (sym i.own))

  own_lawful : (named : Bool) (ds : List Scope) → Lawful Any (own_declarations named p ds) (OwnIs named ds) (EndsOwn named)
  own_lawful true ds = said (declarations_lawful ds) (λ z n t i. i.are) (λ z n t m. record { are = m; own = refl })
  own_lawful false ds = said (pure_lawful ([], ds) (λ n o q. tt)) (λ z n t i. none_own ds z.0 z.1 n t i)
      (λ z n t g. subst (λ w. OwnIs false ds w n t) (sym g.value) (record { are = record { levelled = refl; placed = refl; scoped = refl; low = omega arith; behind = refl; spelled = g.nothing }; own = refl }))

  own_brace : (named : Bool) (z : In (List DeclarationTree)) (rest : List Lexeme) → EndsOwn named z (Some (sign LeftBrace))
  own_brace true z rest = refl
  own_brace false z rest = tt

  -- the definition of a function, behind its declarator

  abbrev BodyBehind : ℕ → SpecifierTrees → In DeclaratorTree → In (List DeclarationTree) → In ExternalTree → ℕ → List Lexeme → Type 0
  BodyBehind at ss d xs = Both Numbers (λ b. Mapped (λ (is : BlockItems). (Definition at ss d.0 xs.0 b is, d.1)) (BodyIs (Below h) xs.1))

  abbrev DefinitionParts : ℕ → SpecifierTrees → In DeclaratorTree → In ExternalTree → ℕ → List Lexeme → Type 0
  DefinitionParts at ss d = Both (OwnIs (has_own_names d.0) (after_own_list (entered d.1) d.0)) (λ xs. BodyBehind at ss d xs)

  body_head : (at : ℕ) (ss : SpecifierTrees) (d : In DeclaratorTree) (xs : In (List DeclarationTree)) (x : In ExternalTree) (n : ℕ) (u rest : List Lexeme) → BodyBehind at ss d xs x n u → head (u ++ rest) ≡ Some (sign LeftBrace)
  body_head at ss d xs x n u rest b = rw (b.parts, b.first.nothing, b.second.holds.spelled) refl

  definition_lawful : {P : ℕ → Option Lexeme → Type 0} (at : ℕ) (ss : SpecifierTrees) (d : In DeclaratorTree) → Lawful P (definition p at ss d) (DefinitionParts at ss d) Anywhere
  definition_lawful at ss d = known (λ n o q. tt) (bind_lawful (own_lawful (has_own_names d.0) (after_own_list (entered d.1) d.0))
      (λ xs n t i. bind_lawful here_lawful (λ b m u j. mapped_lawful (λ is. (Definition at ss d.0 xs.0 b is, d.1)) (λ is o k. tt) (λ is o k. tt) (known (λ o q r. tt) (parts.body xs.1))) (λ b m u y v rest j k s. tt))
      (λ xs n t y u rest i k s. subst (EndsOwn (has_own_names d.0) xs) (sym (body_head at ss d xs y (n + length t) u rest k)) (own_brace (has_own_names d.0) xs rest)))

  -- its text begins with a declaration or the brace

  own_text : (named : Bool) (ds : List Scope) (xs : List DeclarationTree) (after : List Scope) (n : ℕ) (t rest : List Lexeme) (test : TokenKind → Bool) → OwnIs named ds (xs, after) n t → next_is test (head rest) ≡ false → ((k : TokenKind) → test k ≡ true → begins_declaration ds k ≡ false) → next_is test (head (t ++ rest)) ≡ false
  own_text named ds [] after n t rest test i e none = rw i.are.spelled e
  own_text named ds (x ∷ xs) after n t rest test i e none =
      let m = i.are in let l = both (levelled_declaration x) (levelled_declarations xs) m.levelled in let s = both (scoped_declaration ds x) (scoped_declarations (after_declaration ds x) xs) m.scoped in
      ap (λ u. next_is test (head (u ++ rest))) m.spelled
      ∙ (ap (λ u. next_is test (head u)) (append_assoc (spell_declaration x) (spell_declarations xs) rest) ∙ apart (begins_declaration ds) test (head (spell_declaration x ++ (spell_declarations xs ++ rest))) (declaration_begins ds x (spell_declarations xs ++ rest) l.0 s.0) none)

  definition_ends : (at : ℕ) (ss : SpecifierTrees) (d : In DeclaratorTree) (x : In ExternalTree) (n : ℕ) (u rest : List Lexeme) → DefinitionParts at ss d x n u → goes_on_declarator InDefinition (head (u ++ rest)) ≡ false
  definition_ends at ss d x n u rest b =
      let brace = body_head at ss d b.value x (n + length b.front) b.back rest b.second in
      let inner : List Scope = after_own_list (entered d.1) d.0 in
      rw (b.parts, append_assoc) (own_text (has_own_names d.0) inner b.value.0 b.value.1 n b.front (b.back ++ rest) goes_on_name b.first (ap (next_is goes_on_name) brace) (declaration_no_derivation inner))

  defines_by : (named : Bool) (ds : List Scope) (z : In (List DeclarationTree)) (n : ℕ) (t rest : List Lexeme) → OwnIs named ds z n t → head rest ≡ Some (sign LeftBrace) → (named || next_is (is_sign LeftBrace) (head (t ++ rest))) ≡ true
  defines_by true ds z n t rest i e = refl
  defines_by false ds z n t rest i e = let g = none_own ds z.0 z.1 n t i in rw (g.nothing, e) refl

  definition_begins : (at : ℕ) (ss : SpecifierTrees) (d : In DeclaratorTree) (x : In ExternalTree) (n : ℕ) (u rest : List Lexeme) → DefinitionParts at ss d x n u → defines d.0 (head (u ++ rest)) ≡ true
  definition_begins at ss d x n u rest b =
      let brace = body_head at ss d b.value x (n + length b.front) b.back rest b.second in
      rw (b.parts, append_assoc) (defines_by (has_own_names d.0) (after_own_list (entered d.1) d.0) b.value n b.front (b.back ++ rest) b.first brace)

  -- a declaration, behind its first declarator

  abbrev MoreIs : ℕ → SpecifierTrees → In (DeclaratorTree × Option InitTree) → In ExternalTree → ℕ → List Lexeme → Type 0
  MoreIs at ss x = Before (IsPunctuator Semicolon) (λ (xs : In (List (DeclaratorTree × Option InitTree))). (External (Declares at ss xs.0), xs.1)) (λ z. Steps (Grows (AfterComma (InitDeclaratorIs h (has_typedef ss)))) z (x.0 ∷ [], x.1))

  more_lawful : (at : ℕ) (ss : SpecifierTrees) (x : In (DeclaratorTree × Option InitTree)) → Lawful (λ n. EndsInitOne h p parts x) (more_declarators p at ss x) (MoreIs at ss x) Anywhere
  more_lawful at ss x = before_lawful (λ xs. (External (Declares at ss xs.0), xs.1)) (sign_tells Semicolon) (λ z n t k. (all_last EndsInitDeclarator z.0 (Some (sign Semicolon)) init_semicolon, refl))
      (more_listed_lawful EndsInitDeclarator (init_declarator_lawful h p parts (has_typedef ss)) init_comma (x.0 ∷ [], x.1))

  -- a comma or the semicolon
  more_head : (at : ℕ) (ss : SpecifierTrees) (x : In (DeclaratorTree × Option InitTree)) (y : In ExternalTree) (n : ℕ) (u rest : List Lexeme) (Q : Option Lexeme → Type 0) → MoreIs at ss x y n u → Q (Some (sign CommaSign)) → Q (Some (sign Semicolon)) → Q (head (u ++ rest))
  more_head at ss x y n u rest Q b comma semicolon =
      let r = rest_of_steps (AfterComma (InitDeclaratorIs h (has_typedef ss))) b.value (x.0 ∷ [], x.1) n b.front b.holds in
      subst (λ v. Q (head (v ++ rest))) (sym b.parts) (by r.items b.front r.rest)
    where
      by : (xs : List (DeclaratorTree × Option InitTree)) (front : List Lexeme) → Rest Over (AfterComma (InitDeclaratorIs h (has_typedef ss))) (x.0 ∷ []) x.1 b.value.1 n front xs → Q (head ((front ++ sign Semicolon ∷ []) ++ rest))
      by [] front r = rw r.1 semicolon
      by (z ∷ zs) front r = rw (r.5, r.3.parts) comma

  abbrev DeclaredParts : ℕ → SpecifierTrees → In DeclaratorTree → In ExternalTree → ℕ → List Lexeme → Type 0
  DeclaredParts at ss d = Under (not (has_own_names d.0)) (Both (BehindDeclarator h p parts d) (λ x. MoreIs at ss x))

  one_ends : (at : ℕ) (ss : SpecifierTrees) (x : In (DeclaratorTree × Option InitTree)) (y : In ExternalTree) (n : ℕ) (u rest : List Lexeme) → MoreIs at ss x y n u → EndsInitOne h p parts x (head (u ++ rest))
  one_ends at ss x y n u rest b = more_head at ss x y n u rest (EndsInitDeclarator x.0) b (init_comma x.0) (init_semicolon x.0)

  declared_lawful : (at : ℕ) (ss : SpecifierTrees) (d : In DeclaratorTree) → Lawful (And (λ n o. goes_on_declarator InMember o ≡ false) (defines d.0) false) (declared p at ss d) (DeclaredParts at ss d) Anywhere
  declared_lawful at ss d = fact_lawful (not (has_own_names d.0)) (λ n o q. ap not (none_of (has_own_names d.0) (next_is (is_sign LeftBrace) o) q.1).0)
      (known (λ n o q. q.0) (bind_lawful (behind_declarator_lawful h p parts d) (λ x n t i. known (λ m o q. q.1) (more_lawful at ss x)) (λ x n t y u rest i k s. one_ends at ss x y (n + length t) u rest k)))

  declared_ends : (at : ℕ) (ss : SpecifierTrees) (d : In DeclaratorTree) (y : In ExternalTree) (n : ℕ) (u rest : List Lexeme) → DeclaredParts at ss d y n u → goes_on_declarator InMember (head (u ++ rest)) ≡ false
  declared_ends at ss d y n u rest k =
      let b = k.holds in
      rw (b.parts, append_assoc) (behind_declarator_ends h p parts d b.value n b.front (b.back ++ rest) b.first (one_ends at ss b.value y (n + length b.front) b.back rest b.second))

  declared_no_brace : (at : ℕ) (ss : SpecifierTrees) (d : In DeclaratorTree) (y : In ExternalTree) (n : ℕ) (u rest : List Lexeme) → DeclaredParts at ss d y n u → defines d.0 (head (u ++ rest)) ≡ false
  declared_no_brace at ss d y n u rest k = or_none (has_own_names d.0) _ (not_true (has_own_names d.0) k.met) (by k.holds.first)
    where
      by : BehindDeclarator h p parts d k.holds.value n k.holds.front → next_is (is_sign LeftBrace) (head (u ++ rest)) ≡ false
      by (Met i) = rw (k.holds.parts, append_assoc, i.parts) refl
      by (Unmet g) = rw (k.holds.parts, append_assoc, g.nothing) (more_head at ss k.holds.value y (n + length k.holds.front) k.holds.back rest (λ o. next_is (is_sign LeftBrace) o ≡ false) k.holds.second refl refl)

  -- behind the first declarator

  abbrev DefinedParts : ℕ → SpecifierTrees → In DeclaratorTree → In ExternalTree → ℕ → List Lexeme → Type 0
  DefinedParts at ss d = Either (DefinitionParts at ss d) (DeclaredParts at ss d)

  defined_lawful : (at : ℕ) (ss : SpecifierTrees) (d : In DeclaratorTree) → Lawful (λ n o. goes_on_declarator InMember o ≡ false) (defined_or_declared p at ss d) (DefinedParts at ss d) Anywhere
  defined_lawful at ss d = when_lawful (defines d.0) (definition_lawful at ss d) (declared_lawful at ss d) (λ x n t rest b s. definition_begins at ss d x n t rest b) (λ x n t rest b s. declared_no_brace at ss d x n t rest b)

  defined_ends : (at : ℕ) (ss : SpecifierTrees) (d : In DeclaratorTree) (y : In ExternalTree) (n : ℕ) (u rest : List Lexeme) → DefinedParts at ss d y n u → goes_on_declarator InDefinition (head (u ++ rest)) ≡ false
  defined_ends at ss d y n u rest (Met b) = definition_ends at ss d y n u rest b
  defined_ends at ss d y n u rest (Unmet b) = declared_ends at ss d y n u rest b

  abbrev FirstParts : ℕ → In SpecifierTrees → In ExternalTree → ℕ → List Lexeme → Type 0
  FirstParts at ss = Both (DeclaratorIs (Below h) InDefinition ss.1) (λ d. DefinedParts at ss.0 (naming (has_typedef ss.0) d))

  first_lawful : (at : ℕ) (ss : In SpecifierTrees) → Lawful Any (first_declarator p at ss) (FirstParts at ss) Anywhere
  first_lawful at ss = bind_lawful (parts.trees.declarator InDefinition ss.1) (λ d n t i. known (λ m o q. q.1) (defined_lawful at ss.0 (naming (has_typedef ss.0) d)))
      (λ d n t y u rest i k s. defined_ends at ss.0 (naming (has_typedef ss.0) d) y (n + length t) u rest k)

  -- behind the first specifiers

  abbrev BehindParts : ℕ → In SpecifierTrees → In ExternalTree → ℕ → List Lexeme → Type 0
  BehindParts at ss = Either (Behind (IsPunctuator Semicolon) (Gives (External (Declares at ss.0 []), ss.1))) (FirstParts at ss)

  first_names : (at : ℕ) (ss : In SpecifierTrees) (x : In ExternalTree) (n : ℕ) (t : List Lexeme) (b : FirstParts at ss x n t) → declares b.value.0 ≡ true
  first_names at ss x n t b = (both (declares b.value.0) (not (has_other_names b.value.0)) b.first.of_form).0

  behind_lawful_both : (at : ℕ) (ss : In SpecifierTrees) → Lawful Any (behind_specifiers p at ss) (BehindParts at ss) Anywhere
  behind_lawful_both at ss = when_lawful (next_is (is_sign Semicolon)) (behind_lawful (sign_tells Semicolon) (pure_lawful (External (Declares at ss.0 []), ss.1) (λ n o q. tt))) (known (λ n o q. tt) (first_lawful at ss))
      (λ x n t rest b s. rw b.parts refl) (λ x n t rest b s. rw (b.parts, b.first.spelled, append_assoc) (declarator_no_semicolon h p parts b.value.0 (b.back ++ rest) (first_names at ss x n t b)))

  behind_some : (at : ℕ) (ss : In SpecifierTrees) (x : In ExternalTree) (n : ℕ) (t : List Lexeme) → BehindParts at ss x n t → 0 < length t
  behind_some at ss x n t (Met b) = omega (arith, ap length b.parts)
  behind_some at ss x n t (Unmet b) =
      let d = b.first in
      omega (arith, ap length b.parts, length-append b.front b.back, ap length d.spelled, by (spell_declarator b.value.0) refl)
    where
      by : (u : List Lexeme) → spell_declarator b.value.0 ≡ u → 0 < length u + length b.back
      by [] e = absurd (true≢false (ap (λ v. next_is (is_sign Semicolon) (head (v ++ sign Semicolon ∷ []))) (sym e) ∙ declarator_no_semicolon h p parts b.value.0 (sign Semicolon ∷ []) (first_names at ss x n t b)))
      by (u ∷ us) e = omega arith

  abbrev SpecifiedParts : List Scope → ℕ → In ExternalTree → ℕ → List Lexeme → Type 0
  SpecifiedParts ds at = Both (SpecifiersIs (Below h) InDeclaration ds) (λ ss. Opens (goes_on_specifiers (has_type_specifier ss.0) ss.1) false (BehindParts at ss))

  specified_lawful : (ds : List Scope) (at : ℕ) → Lawful Any (specified p ds at) (SpecifiedParts ds at) Anywhere
  specified_lawful ds at = bind_lawful (parts.trees.specifiers InDeclaration ds)
      (λ ss n t i. opens_lawful (goes_on_specifiers (has_type_specifier ss.0) ss.1) false (λ m o q. q.1) (known (λ m o q. tt) (behind_lawful_both at ss)))
      (λ ss n t b u rest i k s. opens_begins (goes_on_specifiers (has_type_specifier ss.0) ss.1) false b (n + length t) u rest k (λ none. absurd (omega (arith, behind_some at ss b (n + length t) u k.holds, ap length none))))

  -- what was read is an external declaration

  definition_from : (ds : List Scope) (at : ℕ) (ss : SpecifierTrees) (d : DeclaratorTree) (x : In ExternalTree) (n m : ℕ) (t : List Lexeme) → n ≡ at → (has_specifier ss && levelled_specifiers ss) ≡ true → placed_specifiers n ss ≡ true → scoped_specifiers false ds ss ≡ true → specifiers_height ss < h →
      ((declares d && levelled_declarator d) && not (has_other_names d)) ≡ true → placed_declarator (n + length (spell_specifiers ss)) d ≡ true → scoped_declarator (after_specifiers ds ss) d ≡ true → declarator_height d < h → stands_behind (after_specifiers ds ss) ss (first_name d) ≡ true →
      m ≡ n + length (spell_specifiers ss) + length (spell_declarator d) → DefinitionParts at ss (d, after_named (has_typedef ss) (after_specifiers ds ss) d) x m t → ExternalIs (Below (suc h)) ds x n (spell_specifiers ss ++ (spell_declarator d ++ t))
  definition_from ds at ss d x n m t number sl sp sc sh dl dp dc dh stands place b =
      let middle : List Scope = after_specifiers ds ss in let named : List Scope = after_named (has_typedef ss) middle d in let inner : List Scope = after_own_list (entered named) d in
      let are = b.first.are in let k = b.second in let i = k.second in let body = i.holds in let xs : List DeclarationTree = b.value.0 in let is : BlockItems = i.value in
      let start : ℕ = n + length (spell_specifiers ss) + length (spell_declarator d) + length (spell_declarations xs) in
      let there : k.value ≡ start = k.first.value ∙ omega (arith, place, ap length are.spelled) in
      let body_place : m + length b.front + length k.front + 1 ≡ start + 1 = omega (arith, place, ap length are.spelled, ap length k.first.nothing) in
      let value : x ≡ (Definition n ss d xs start is, named) = i.is ∙ (ap (λ j. (Definition j ss d xs k.value is, named)) (sym number) ∙ ap (λ j. (Definition n ss d xs j is, named)) there) in
      let l = both (declares d && levelled_declarator d) (not (has_other_names d)) dl in
      let placed_list : placed_declarations (n + length (spell_specifiers ss) + length (spell_declarator d)) xs ≡ true = subst (λ j. placed_declarations j xs ≡ true) place are.placed in
      let placed_body : placed_block (start + 1) is ≡ true = subst (λ j. placed_block j is ≡ true) body_place body.placed in
      let scoped_is : scoped_block (after_declarations inner xs) is ≡ true = subst (λ j. scoped_block j is ≡ true) are.behind body.scoped in
      let text : t ≡ spell_declarations xs ++ in_braces (spell_block is) = b.parts ∙ (ap (λ u. u ++ b.back) are.spelled ∙ ap (λ u. spell_declarations xs ++ u) (k.parts ∙ (ap (λ u. u ++ k.back) k.first.nothing ∙ body.spelled))) in
      subst (λ y. ExternalIs (Below (suc h)) ds y n (spell_specifiers ss ++ (spell_declarator d ++ t))) (sym value) (record {
        levelled = rw (sl, l.0, l.1, b.first.own, are.levelled, body.levelled) refl;
        placed = rw (true_eq n, sp, dp, placed_list, true_eq start, placed_body) refl;
        scoped = rw (sc, stands, dc, are.scoped, scoped_is) refl;
        low = omega (arith, sh, dh, are.low, body.low);
        after = refl;
        spelled = ap (λ u. spell_specifiers ss ++ (spell_declarator d ++ u)) text;
      })

  same_declarator : (d : DeclaratorTree) (s : List Scope) (y : In (DeclaratorTree × Option InitTree)) (n : ℕ) (t : List Lexeme) → BehindDeclarator h p parts (d, s) y n t → y.0.0 ≡ d
  same_declarator d s y n t (Met i) = ap (λ w. w.0.0) i.holds.is
  same_declarator d s y n t (Unmet g) = ap (λ w. w.0.0) g.value

  line_text : (a b c e : List Lexeme) → a ++ ((b ++ c) ++ (e ++ sign Semicolon ∷ [])) ≡ a ++ (((b ++ c) ++ e) ++ sign Semicolon ∷ [])
  line_text a b c e = ap (λ u. a ++ u) (sym (append_assoc (b ++ c) e (sign Semicolon ∷ [])))

  declared_from : (ds : List Scope) (at : ℕ) (ss : SpecifierTrees) (d : DeclaratorTree) (x : In ExternalTree) (n m : ℕ) (t : List Lexeme) → n ≡ at → (has_specifier ss && levelled_specifiers ss) ≡ true → placed_specifiers n ss ≡ true → scoped_specifiers false ds ss ≡ true → specifiers_height ss < h →
      declares d ≡ true → levelled_declarator d ≡ true → has_other_names d ≡ false → placed_declarator (n + length (spell_specifiers ss)) d ≡ true → scoped_declarator (after_specifiers ds ss) d ≡ true → declarator_height d < h → stands_behind (after_specifiers ds ss) ss (first_name d) ≡ true →
      m ≡ n + length (spell_specifiers ss) + length (spell_declarator d) → DeclaredParts at ss (d, after_named (has_typedef ss) (after_specifiers ds ss) d) x m t → ExternalIs (Below (suc h)) ds x n (spell_specifiers ss ++ (spell_declarator d ++ t))
  declared_from ds at ss d x n m t number sl sp sc sh dd dl other dp dc dh stands place u =
      let typedef : Bool = has_typedef ss in let middle : List Scope = after_specifiers ds ss in let first : ℕ = n + length (spell_specifiers ss) in
      let b = u.holds in let y = b.value in let k = b.second in
      let free : has_names d ≡ false = no_names d (not_true (has_own_names d) u.met) other in
      let form : (declares d && not (has_names d)) ≡ true = rw (dd, free) refl in
      let i = init_declarator_from h p parts typedef middle d y first m b.front form dl dp dc dh place b.first in
      let r = rest_of_steps (AfterComma (InitDeclaratorIs h typedef)) k.value (y.0 ∷ [], y.1) (m + length b.front) k.front k.holds in
      let e = more_declarators_from h p parts typedef r.items (y.0 ∷ []) y.1 k.value.1 (m + length b.front) k.front r.rest in
      let next : m + length b.front + 1 ≡ first + length (spell_init_declarator y.0) + 1 = omega (arith, place, ap length i.spelled, length-append (spell_declarator d) b.front) in
      let value : x ≡ (External (Declares n ss (y.0 ∷ r.items)), k.value.1) = k.is ∙ (ap (λ j. (External (Declares j ss k.value.0), k.value.1)) (sym number) ∙ ap (λ j. (External (Declares n ss j), k.value.1)) r.list) in
      let stands_first : stands_behind middle ss (first_name y.0.0) ≡ true = subst (λ j. stands_behind middle ss (first_name j) ≡ true) (sym (same_declarator d (after_named typedef middle d) y m b.front b.first)) stands in
      let text : spell_specifiers ss ++ (spell_declarator d ++ t) ≡ spell_specifiers ss ++ (with_commas (map spell_init_declarator (y.0 ∷ r.items)) ++ sign Semicolon ∷ []) =
      ap (λ v. spell_specifiers ss ++ v) (ap (λ v. spell_declarator d ++ v) b.parts ∙ (sym (append_assoc (spell_declarator d) b.front b.back) ∙ (ap (λ v. v ++ b.back) i.spelled ∙ (ap (λ v. spell_init_declarator y.0 ++ v) (k.parts ∙ ap (λ v. v ++ sign Semicolon ∷ []) e.spelled)
      ∙ sym (append_assoc (spell_init_declarator y.0) (behind_commas (map spell_init_declarator r.items)) (sign Semicolon ∷ [])))))) in
      subst (λ z. ExternalIs (Below (suc h)) ds z n (spell_specifiers ss ++ (spell_declarator d ++ t))) (sym value) (record {
        levelled = rw (sl, i.levelled, e.levelled) refl;
        placed = rw (true_eq n, sp, i.placed, ← next, e.placed) refl;
        scoped = rw (sc, stands_first, i.scoped, ← i.after, e.scoped) refl;
        low = omega (arith, sh, i.low, e.low);
        after = e.behind ∙ ap (λ j. after_init_declarators typedef j r.items) i.after;
        spelled = text;
      })

  semicolon_from : (ds : List Scope) (at : ℕ) (ss : In SpecifierTrees) (x : In ExternalTree) (n m : ℕ) (front back : List Lexeme) → n ≡ at → SpecifiersIs (Below h) InDeclaration ds ss n front → Behind (IsPunctuator Semicolon) (Gives (External (Declares at ss.0 []), ss.1)) x m back → ExternalIs (Below (suc h)) ds x n (front ++ back)
  semicolon_from ds at ss x n m front back number s b =
      let value : x ≡ (External (Declares n ss.0 []), ss.1) = b.holds.value ∙ ap (λ j. (External (Declares j ss.0 []), ss.1)) (sym number) in
      let tail : back ≡ sign Semicolon ∷ [] = b.parts ∙ ap (λ u. sign Semicolon ∷ u) b.holds.nothing in
      subst (λ y. ExternalIs (Below (suc h)) ds y n (front ++ back)) (sym value) (record {
        levelled = rw (s.some, s.levelled) refl;
        placed = rw (true_eq n, s.placed) refl;
        scoped = rw (s.scoped, or_true (has_type_specifier ss.0)) refl;
        low = omega (arith, s.low);
        after = s.after;
        spelled = rw (s.spelled, tail) refl;
      })

  specified_from : (ds : List Scope) (at : ℕ) (x : In ExternalTree) (n : ℕ) (t : List Lexeme) → n ≡ at → SpecifiedParts ds at x n t → ExternalIs (Below (suc h)) ds x n t
  specified_from ds at x n t number b = subst (ExternalIs (Below (suc h)) ds x n) (sym b.parts) (by b.second.holds)
    where
      by : BehindParts at b.value x (n + length b.front) b.back → ExternalIs (Below (suc h)) ds x n (b.front ++ b.back)
      by (Met k) = semicolon_from ds at b.value x n (n + length b.front) b.front b.back number b.first k
      by (Unmet k) =
          let s = b.first in let d = k.first in let ss : SpecifierTrees = b.value.0 in let dt : DeclaratorTree = k.value.0 in let middle : List Scope = after_specifiers ds ss in
          let f = both (declares dt) (not (has_other_names dt)) d.of_form in
          let sl : (has_specifier ss && levelled_specifiers ss) ≡ true = rw (s.some, s.levelled) refl in
          let place : n + length b.front ≡ n + length (spell_specifiers ss) = ap (λ u. n + length u) s.spelled in
          let dp : placed_declarator (n + length (spell_specifiers ss)) dt ≡ true = subst (λ j. placed_declarator j dt ≡ true) place d.placed in
          let dc : scoped_declarator middle dt ≡ true = subst (λ j. scoped_declarator j dt ≡ true) s.after d.scoped in
          let m : ℕ = n + length b.front + length k.front in
          let number_body : m ≡ n + length (spell_specifiers ss) + length (spell_declarator dt) = omega (arith, place, ap length d.spelled) in
          let off : goes_on_specifiers (has_type_specifier ss) b.value.1 (head b.back) ≡ false = b.second.first (behind_some at b.value x (n + length b.front) b.back (Unmet k)) in
          let off_text : goes_on_specifiers (has_type_specifier ss) middle (head (spell_declarator dt ++ k.back)) ≡ false =
          subst (λ j. goes_on_specifiers (has_type_specifier ss) j (head (spell_declarator dt ++ k.back)) ≡ false) s.after (ap (λ u. goes_on_specifiers (has_type_specifier ss) b.value.1 (head u)) (sym (k.parts ∙ ap (λ u. u ++ k.back) d.spelled)) ∙ off) in
          let stands : stands_behind middle ss (first_name dt) ≡ true = stands_before middle ss dt k.back (first_name dt) refl off_text in
          let scopes : k.value.1 ≡ after_declarator middle dt = d.after ∙ ap (λ j. after_declarator j dt) s.after in
          let second : DefinedParts at ss (dt, after_named (has_typedef ss) middle dt) x m k.back = subst (λ j. DefinedParts at ss (dt, declared_if (name_of dt) (has_typedef ss) j) x m k.back) scopes k.second in
          let text : spell_specifiers ss ++ (spell_declarator dt ++ k.back) ≡ b.front ++ b.back = ap (λ u. u ++ (spell_declarator dt ++ k.back)) (sym s.spelled) ∙ ap (λ u. b.front ++ u) (ap (λ u. u ++ k.back) (sym d.spelled) ∙ sym k.parts) in
          let dl : ((declares dt && levelled_declarator dt) && not (has_other_names dt)) ≡ true = rw (f.0, f.1, d.levelled) refl in
          subst (ExternalIs (Below (suc h)) ds x n) text (each sl dp dc dl f.0 (not_true (has_other_names dt) f.1) stands number_body second)
        where
          each : (has_specifier b.value.0 && levelled_specifiers b.value.0) ≡ true → placed_declarator (n + length (spell_specifiers b.value.0)) k.value.0 ≡ true → scoped_declarator (after_specifiers ds b.value.0) k.value.0 ≡ true →
              ((declares k.value.0 && levelled_declarator k.value.0) && not (has_other_names k.value.0)) ≡ true → declares k.value.0 ≡ true → has_other_names k.value.0 ≡ false → stands_behind (after_specifiers ds b.value.0) b.value.0 (first_name k.value.0) ≡ true →
              n + length b.front + length k.front ≡ n + length (spell_specifiers b.value.0) + length (spell_declarator k.value.0) →
              DefinedParts at b.value.0 (k.value.0, after_named (has_typedef b.value.0) (after_specifiers ds b.value.0) k.value.0) x (n + length b.front + length k.front) k.back → ExternalIs (Below (suc h)) ds x n (spell_specifiers b.value.0 ++ (spell_declarator k.value.0 ++ k.back))
          each sl dp dc dl dd other stands place (Met c) = definition_from ds at b.value.0 k.value.0 x n (n + length b.front + length k.front) k.back number sl b.first.placed b.first.scoped b.first.low dl dp dc k.first.low stands place c
          each sl dp dc dl dd other stands place (Unmet c) = declared_from ds at b.value.0 k.value.0 x n (n + length b.front + length k.front) k.back number sl b.first.placed b.first.scoped b.first.low dd k.first.levelled other dp dc k.first.low stands place c

  -- and each is read so

  definition_to : (ds : List Scope) (a : ℕ) (ss : SpecifierTrees) (d : DeclaratorTree) (xs : List DeclarationTree) (c : ℕ) (is : BlockItems) (after : List Scope) (n : ℕ) (t : List Lexeme) → ExternalIs (Below (suc h)) ds (Definition a ss d xs c is, after) n t → SpecifiedParts ds n (Definition a ss d xs c is, after) n t
  definition_to ds a ss d xs c is after n t i =
      let typedef : Bool = has_typedef ss in let middle : List Scope = after_specifiers ds ss in let named : List Scope = after_named typedef middle d in let inner : List Scope = after_own_list (entered named) d in
      let m0 : ℕ = n + length (spell_specifiers ss) in let m1 : ℕ = m0 + length (spell_declarator d) in let m2 : ℕ = m1 + length (spell_declarations xs) in
      let l = both ((has_specifier ss && levelled_specifiers ss) && ((declares d && levelled_declarator d) && is_defined_by d xs)) (levelled_declarations xs && levelled_block is) i.levelled in let l1 = both (levelled_declarations xs) (levelled_block is) l.1 in
      let l0 = both (has_specifier ss && levelled_specifiers ss) ((declares d && levelled_declarator d) && is_defined_by d xs) l.0 in let ls = both (has_specifier ss) (levelled_specifiers ss) l0.0 in
      let ld = both (declares d && levelled_declarator d) (is_defined_by d xs) l0.1 in let ldd = both (declares d) (levelled_declarator d) ld.0 in let own = both (not (has_other_names d)) (has_own_names d || not (has_some xs)) ld.1 in
      let q = both (nat_eq a n) (placed_specifiers n ss && (placed_declarator m0 d && (placed_declarations m1 xs && (nat_eq c m2 && placed_block (c + 1) is)))) i.placed in
      let q1 = both (placed_specifiers n ss) (placed_declarator m0 d && (placed_declarations m1 xs && (nat_eq c m2 && placed_block (c + 1) is))) q.1 in let q2 = both (placed_declarator m0 d) (placed_declarations m1 xs && (nat_eq c m2 && placed_block (c + 1) is)) q1.1 in
      let q3 = both (placed_declarations m1 xs) (nat_eq c m2 && placed_block (c + 1) is) q2.1 in let q4 = both (nat_eq c m2) (placed_block (c + 1) is) q3.1 in
      let s = both (scoped_specifiers false ds ss && stands_behind middle ss (first_name d)) (scoped_declarator middle d && scoped_body inner xs is) i.scoped in let s0 = both (scoped_specifiers false ds ss) (stands_behind middle ss (first_name d)) s.0 in
      let s1 = both (scoped_declarator middle d) (scoped_body inner xs is) s.1 in let s2 = both (scoped_declarations inner xs) (scoped_block (after_declarations inner xs) is) s1.1 in
      let start : c ≡ m2 = eq_true c m2 q4.0 in
      let body_place : c + 1 ≡ m2 + 0 + 1 = omega (arith, start) in
      let tail : List Lexeme = in_braces (spell_block is) in
      record {
        value = (ss, middle);
        front = spell_specifiers ss;
        back = spell_declarator d ++ (spell_declarations xs ++ tail);
        parts = i.spelled;
        first = record { some = ls.0; of_form = refl; levelled = ls.1; placed = q1.0; scoped = s0.0; low = omega (arith, i.low); after = refl; spelled = refl };
        second = record {
          first = λ some. before_stands middle ss d (spell_declarations xs ++ tail) s0.1 ldd.0;
          holds = Unmet (record {
            value = (d, after_declarator middle d);
            front = spell_declarator d;
            back = spell_declarations xs ++ tail;
            parts = refl;
            first = record { of_form = rw (ldd.0, own.0) refl; levelled = ldd.1; placed = q2.0; scoped = s1.0; low = omega (arith, i.low); after = refl; spelled = refl };
            second = Met (record {
              value = (xs, after_declarations inner xs);
              front = spell_declarations xs;
              back = tail;
              parts = refl;
              first = record { are = record { levelled = l1.0; placed = q3.0; scoped = s2.0; low = omega (arith, i.low); behind = refl; spelled = refl }; own = own.1 };
              second = record {
                value = m2;
                front = [];
                back = tail;
                parts = refl;
                first = record { value = refl; nothing = refl };
                second = record {
                  value = is;
                  holds = record { levelled = l1.1; placed = subst (λ j. placed_block j is ≡ true) body_place q4.1; scoped = s2.1; low = omega (arith, i.low); spelled = refl };
                  is = ap (λ j. (Definition j ss d xs c is, after)) (eq_true a n q.0) ∙ (ap (λ j. (Definition n ss d xs j is, after)) start ∙ ap (λ j. (Definition n ss d xs m2 is, j)) i.after);
                };
              };
            });
          });
        };
      }

  declared_to : (ds : List Scope) (a : ℕ) (ss : SpecifierTrees) (d : DeclaratorTree) (v : Option InitTree) (xs : List (DeclaratorTree × Option InitTree)) (after : List Scope) (n : ℕ) (t : List Lexeme) → ExternalIs (Below (suc h)) ds (External (Declares a ss ((d, v) ∷ xs)), after) n t → SpecifiedParts ds n (External (Declares a ss ((d, v) ∷ xs)), after) n t
  declared_to ds a ss d v xs after n t i =
      let typedef : Bool = has_typedef ss in let middle : List Scope = after_specifiers ds ss in let one : DeclaratorTree × Option InitTree = (d, v) in let behind_one : List Scope = after_init_declarator typedef middle one in
      let m0 : ℕ = n + length (spell_specifiers ss) in
      let l = both (has_specifier ss && levelled_specifiers ss) (levelled_init_declarator one && levelled_init_declarators xs) i.levelled in let l0 = both (has_specifier ss) (levelled_specifiers ss) l.0 in let l1 = both (levelled_init_declarator one) (levelled_init_declarators xs) l.1 in
      let ld = both ((declares d && not (has_names d)) && levelled_declarator d) (levelled_maybe_init v) l1.0 in let ldd = both (declares d && not (has_names d)) (levelled_declarator d) ld.0 in let f = both (declares d) (not (has_names d)) ldd.0 in
      let names = names_none d (not_true (has_names d) f.1) in
      let q = both (nat_eq a n) (placed_specifiers n ss && ((placed_declarator m0 d && placed_maybe_init (m0 + length (spell_declarator d) + 1) v) && placed_init_declarators (m0 + length (spell_init_declarator one) + 1) xs)) i.placed in
      let q1 = both (placed_specifiers n ss) ((placed_declarator m0 d && placed_maybe_init (m0 + length (spell_declarator d) + 1) v) && placed_init_declarators (m0 + length (spell_init_declarator one) + 1) xs) q.1 in
      let q2 = both (placed_declarator m0 d && placed_maybe_init (m0 + length (spell_declarator d) + 1) v) (placed_init_declarators (m0 + length (spell_init_declarator one) + 1) xs) q1.1 in let q3 = both (placed_declarator m0 d) (placed_maybe_init (m0 + length (spell_declarator d) + 1) v) q2.0 in
      let s = both (scoped_specifiers false ds ss) (stands_behind middle ss (first_name d) && (scoped_init_declarator typedef middle one && scoped_init_declarators typedef behind_one xs)) i.scoped in
      let s1 = both (stands_behind middle ss (first_name d)) (scoped_init_declarator typedef middle one && scoped_init_declarators typedef behind_one xs) s.1 in let s2 = both (scoped_init_declarator typedef middle one) (scoped_init_declarators typedef behind_one xs) s1.1 in
      let s3 = both (scoped_declarator middle d) _ s2.0 in
      let x : InitDeclaratorIs h typedef middle (one, behind_one) m0 (spell_init_declarator one) = record { levelled = l1.0; placed = q2.0; scoped = s2.0; low = omega (arith, i.low, tall_declarator d); after = refl; spelled = refl } in
      let first_text : List Lexeme = spell_maybe_init v in let more_text : List Lexeme = behind_commas (map spell_init_declarator xs) in
      let m2 : ℕ = m0 + length (spell_declarator d) + length first_text in
      let next : m0 + length (spell_init_declarator one) + 1 ≡ m2 + 1 = omega (arith, length-append (spell_declarator d) first_text) in
      let low : init_declarators_height xs ≤ h - 1 = omega (arith, i.low) in
      let more : MoreDeclaratorsAre h p parts typedef behind_one xs after m2 more_text = record { levelled = l1.1; placed = subst (λ j. placed_init_declarators j xs ≡ true) next q2.1; scoped = s2.1; low = low; behind = i.after; spelled = refl } in
      record {
        value = (ss, middle);
        front = spell_specifiers ss;
        back = spell_declarator d ++ (first_text ++ (more_text ++ sign Semicolon ∷ []));
        parts = i.spelled ∙ ap (λ u. spell_specifiers ss ++ u) (append_assoc (spell_declarator d ++ first_text) more_text (sign Semicolon ∷ []) ∙ append_assoc (spell_declarator d) first_text (more_text ++ sign Semicolon ∷ []));
        first = record { some = l0.0; of_form = refl; levelled = l0.1; placed = q1.0; scoped = s.0; low = omega (arith, i.low); after = refl; spelled = refl };
        second = record {
          first = λ some. before_stands middle ss d (first_text ++ (more_text ++ sign Semicolon ∷ [])) s1.0 f.0;
          holds = Unmet (record {
            value = (d, after_declarator middle d);
            front = spell_declarator d;
            back = first_text ++ (more_text ++ sign Semicolon ∷ []);
            parts = refl;
            first = record { of_form = rw (f.0, names.1) refl; levelled = ldd.1; placed = q3.0; scoped = s3.0; low = omega (arith, i.low); after = refl; spelled = refl };
            second = Unmet (record {
              met = ap not names.0;
              holds = record {
                value = (one, behind_one);
                front = first_text;
                back = more_text ++ sign Semicolon ∷ [];
                parts = refl;
                first = init_declarator_to h p parts typedef middle d v behind_one m0 (m0 + length (spell_declarator d)) (spell_init_declarator one) refl x;
                second = record {
                  value = (one ∷ xs, after);
                  front = more_text;
                  holds = steps_of_rest (AfterComma (InitDeclaratorIs h typedef)) xs (one ∷ []) behind_one after m2 more_text (more_declarators_to h p parts typedef xs (one ∷ []) behind_one after m2 more_text more);
                  is = ap (λ j. (External (Declares j ss (one ∷ xs)), after)) (eq_true a n q.0);
                  parts = refl;
                };
              };
            });
          });
        };
      }

  semicolon_to : (ds : List Scope) (a : ℕ) (ss : SpecifierTrees) (after : List Scope) (n : ℕ) (t : List Lexeme) → ExternalIs (Below (suc h)) ds (External (Declares a ss []), after) n t → SpecifiedParts ds n (External (Declares a ss []), after) n t
  semicolon_to ds a ss after n t i =
      let middle : List Scope = after_specifiers ds ss in
      let l = both (has_specifier ss) (levelled_specifiers ss) (both (has_specifier ss && levelled_specifiers ss) true i.levelled).0 in
      let q = both (nat_eq a n) (placed_specifiers n ss && true) i.placed in
      record {
        value = (ss, middle);
        front = spell_specifiers ss;
        back = sign Semicolon ∷ [];
        parts = i.spelled;
        first = record { some = l.0; of_form = refl; levelled = l.1; placed = (both (placed_specifiers n ss) true q.1).0; scoped = (both (scoped_specifiers false ds ss) _ i.scoped).0; low = omega (arith, i.low); after = refl; spelled = refl };
        second = record {
          first = λ some. refl;
          holds = Met (record { back = []; parts = refl; holds = record { value = ap (λ j. (External (Declares j ss []), after)) (eq_true a n q.0) ∙ ap (λ j. (External (Declares n ss []), j)) i.after; nothing = refl } });
        };
      }

  -- an external declaration

  abbrev AssertedParts : List Scope → ℕ → In ExternalTree → ℕ → List Lexeme → Type 0
  AssertedParts ds at = Mapped (λ (d : In DeclarationTree). (External d.0, d.1)) (There at (IsAssert h p parts ds))

  abbrev ExternalParts : List Scope → ℕ → In ExternalTree → ℕ → List Lexeme → Type 0
  ExternalParts ds at = There at (Either (AssertedParts ds at) (SpecifiedParts ds at))

  external_from : (ds : List Scope) (at : ℕ) (x : In ExternalTree) (n : ℕ) (t : List Lexeme) → n ≡ at → Either (AssertedParts ds at) (SpecifiedParts ds at) x n t → ExternalIs (Below (suc h)) ds x n t
  external_from ds at x n t number (Met m) = let i = m.holds.holds.is in subst (λ w. ExternalIs (Below (suc h)) ds w n t) (sym m.is) (record { levelled = i.levelled; placed = i.placed; scoped = i.scoped; low = i.low; after = i.after; spelled = i.spelled })
  external_from ds at x n t number (Unmet b) = specified_from ds at x n t number b

  external_to : (ds : List Scope) (x : ExternalTree) (after : List Scope) (n : ℕ) (t : List Lexeme) → ExternalIs (Below (suc h)) ds (x, after) n t → Either (AssertedParts ds n) (SpecifiedParts ds n) (x, after) n t
  external_to ds (External (Asserts a e m texts)) after n t i = Met (record {
    value = (Asserts a e m texts, after);
    is = refl;
    holds = record { number = refl; holds = record { is = record { levelled = i.levelled; placed = i.placed; scoped = i.scoped; low = i.low; after = i.after; spelled = i.spelled }; asserts = ap head i.spelled } };
  })
  external_to ds (External (Declares a ss [])) after n t i = Unmet (semicolon_to ds a ss after n t i)
  external_to ds (External (Declares a ss (d ∷ xs))) after n t i = Unmet (declared_to ds a ss d.0 d.1 xs after n t i)
  external_to ds (Definition a ss d xs c is) after n t i = Unmet (definition_to ds a ss d xs c is after n t i)

  asserted_begins : (ds : List Scope) (at : ℕ) (x : In ExternalTree) (n : ℕ) (t rest : List Lexeme) → AssertedParts ds at x n t → next_is is_assert_word (head (t ++ rest)) ≡ true
  asserted_begins ds at x n t rest m = by t m.holds.holds.asserts
    where
      by : (u : List Lexeme) → head u ≡ Some (word StaticAssertWord) → next_is is_assert_word (head (u ++ rest)) ≡ true
      by [] e = absurd cc
      by (v ∷ vs) e = ap (next_is is_assert_word) e

  external_at_lawful : (ds : List Scope) (at : ℕ) → Lawful (At at) (external_at p ds at) (There at (ExternalIs (Below (suc h)) ds)) Anywhere
  external_at_lawful ds at = said
      (there_lawful at (λ n o q. q) (when_lawful (next_is is_assert_word) (mapped_lawful (λ d. (External d.0, d.1)) (λ d o k. tt) (λ d o k. tt) (assert_lawful h p parts ds at)) (known (λ n o q. tt) (specified_lawful ds at))
      (λ x n t rest m s. asserted_begins ds at x n t rest m)
      (λ x n t rest b s. rw (b.parts, b.first.spelled, append_assoc) (no_assert h p parts ds b.value.0 (b.back ++ rest) b.first.some b.first.scoped))))
      (λ x n t i. record { number = i.number; holds = subst (λ k. Either (AssertedParts ds k) (SpecifiedParts ds k) x n t) i.number (external_to ds x.0 x.1 n t i.holds) })
      (λ x n t i. record { number = i.number; holds = external_from ds at x n t i.number i.holds })

  pub external_lawful : (ds : List Scope) → Lawful Any (external p ds) (ExternalIs (Below (suc h)) ds) Anywhere
  external_lawful ds = numbered_lawful (external_at_lawful ds)
