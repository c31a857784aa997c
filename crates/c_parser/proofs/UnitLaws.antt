-- Device: the readings of each height give exactly the trees that are lower, by induction on the height; and so of whole units.
use Rattle.std.proofs.Common.{◌≡◌, refl, sym, ap, ◌∙◌, subst, ℕ, zero, suc, ◌+◌, ◌<◌, ◌≤◌, length, Bool, true, false, ◌&&◌, nat_le, List, [], ◌∷◌, ◌++◌, Option, Some, None, Result, Ok, Err, append_assoc, append-nil, arith, length-append, true≢false}
use Rattle.typedef_scopes.specs.Scopes.{Scope}
use Rattle.c_tree.specs.Units.{DeclarationTree, StmtTree, ExternalTree, Definition, External, UnitTree}
use Rattle.c_tree.specs.Spelling.{Lexeme, in_braces, spell_specifiers, spell_declarator}
use Rattle.c_tree.specs.UnitSpelling.{spell_declarations, spell_block, spell_external, spell_unit}
use Rattle.c_tree.specs.Height.{declaration_height, stmt_height, external_height}
use Rattle.c_tree.specs.Levels.{has_some, levelled_declaration, levelled_stmt, levelled_external, levelled_externals}
use Rattle.c_tree.specs.Placed.{placed_declaration, placed_stmt, placed_external, placed_unit}
use Rattle.c_tree.specs.Scoped.{scoped_declaration, scoped_stmt, scoped_external, scoped_externals, after_external}
use Rattle.c_tree.specs.Grammatical.{low_unit, is_grammatical}
use Rattle.c_cursor.specs.Readers.{Input, input, Reader, head, fail, bind}
use Rattle.c_exprs.specs.Subs.{In, grow}
use Rattle.c_exprs.specs.Reading.{below}
use Rattle.c_exprs.specs.Answers.{Reads, Refuses}
use Rattle.c_exprs.proofs.Laws
use Rattle.c_exprs.proofs.Laws.{Lawful, Any, Anywhere, Next, And, Steps, Mapped, Both, bind_lawful, mapped_lawful, fail_lawful, many_lawful, steps_fit, said, known, ended, same_value, not_both, add_none}
use Rattle.c_exprs.proofs.Tokens.{both, le_true, true_le}
use Rattle.c_exprs.proofs.Relations.{Below}
use Rattle.c_exprs.proofs.InitLaws.{initialiser_lawful}
use Rattle.c_exprs.proofs.Lists.{grown, Grows, Over, Rest, rest_of_steps, steps_of_rest}
use Rattle.c_exprs.proofs.Whole.{below_lawful}
use Rattle.c_exprs.proofs.Public.{Reading, refuses, one_tree}
use Rattle.c_parser.specs.StatementWords.{token_ahead}
use Rattle.c_parser.specs.Externals.{grammatical_external, file_scope, greatest_height}
use Rattle.c_parser.specs.DeclarationReading.{declaration}
use Rattle.c_parser.specs.StatementReading.{statement}
use Rattle.c_parser.specs.UnitReading.{lower, external_of}
use Rattle.c_parser.specs.UnitForms.{IsDeclaration, IsStatement, statement_goes, IsExternal, never_goes}
use Rattle.c_parser.specs.UnitAnswers.{AreExternals, ReadsUnit, RefusesUnit, UnitAnswer, Read, Refused}
use Rattle.c_parser.proofs.UnitRelations.{DeclarationIs, StatementIs, EndsStatement, ExternalIs, LawfulParts}
use Rattle.c_parser.proofs.DeclarationLaws.{declaration_lawful}
use Rattle.c_parser.proofs.StatementHeads.{declaration_some, behind_first}
use Rattle.c_parser.proofs.BlockLaws.{body_lawful}
use Rattle.c_parser.proofs.StatementLaws.{statement_lawful}
use Rattle.c_parser.proofs.ExternalLaws.{external_lawful}

-- each height

never : {A : Type 0} {P : ℕ → Option Lexeme → Type 0} {H : A → ℕ → List Lexeme → Type 0} {S : A → Option Lexeme → Type 0} → ((a : A) (n : ℕ) (t : List Lexeme) → H a n t → ⊥) → Lawful P fail H S
never no_one = said fail_lawful (λ a n t h. no_one a n t h) (λ a n t h. absurd h)

pub lower_lawful : (h : ℕ) → LawfulParts h (lower h)
unfolding lower below
lower_lawful zero = record {
  trees = below_lawful 0;
  init = λ ds. never (λ x n t i. omega (arith, i.low));
  declaration = λ ds. never (λ x n t i. omega (arith, i.low));
  statement = λ ds. never (λ x n t i. omega (arith, i.low));
  body = λ ds. never (λ x n t i. omega (arith, i.low));
}
lower_lawful (suc h) = record {
  trees = below_lawful (suc h);
  init = λ ds. initialiser_lawful h (below h) (below_lawful h) ds;
  declaration = λ ds. declaration_lawful h (lower h) (lower_lawful h) ds;
  statement = λ ds. statement_lawful h (lower h) (lower_lawful h) ds;
  body = λ ds. body_lawful h (lower h) (lower_lawful h) ds;
}

-- the forms

declaration_to : (ds : List Scope) (h : ℕ) (x : In DeclarationTree) (n : ℕ) (t : List Lexeme) → IsDeclaration ds h x n t → DeclarationIs (Below (suc h)) ds x n t
declaration_to ds h x n t i =
    let a = both (levelled_declaration x.0) (placed_declaration n x.0 && (scoped_declaration ds x.0 && nat_le (declaration_height x.0) h)) i.grammatical in
    let b = both (placed_declaration n x.0) (scoped_declaration ds x.0 && nat_le (declaration_height x.0) h) a.1 in let c = both (scoped_declaration ds x.0) (nat_le (declaration_height x.0) h) b.1 in
    record { levelled = a.0; placed = b.0; scoped = c.0; low = omega (arith, le_true (declaration_height x.0) h c.1); after = i.after; spelled = i.spelled }

declaration_from : (ds : List Scope) (h : ℕ) (x : In DeclarationTree) (n : ℕ) (t : List Lexeme) → DeclarationIs (Below (suc h)) ds x n t → IsDeclaration ds h x n t
declaration_from ds h x n t i = record { grammatical = rw (i.levelled, i.placed, i.scoped, true_le (declaration_height x.0) h (omega (arith, i.low))) refl; after = i.after; spelled = i.spelled }

pub declaration_reading : (ds : List Scope) (h : ℕ) → Reading (declaration (lower h) ds) (IsDeclaration ds h) never_goes
declaration_reading ds h = ended (λ a n t o i s. tt) (λ a n t o i s. refl) (said (declaration_lawful h (lower h) (lower_lawful h) ds) (declaration_to ds h) (declaration_from ds h))

statement_to : (ds : List Scope) (h : ℕ) (x : In StmtTree) (n : ℕ) (t : List Lexeme) → IsStatement ds h x n t → StatementIs (Below (suc h)) ds x n t
statement_to ds h x n t i =
    let a = both (levelled_stmt x.0) (placed_stmt n x.0 && (scoped_stmt ds x.0 && nat_le (stmt_height x.0) h)) i.grammatical in
    let b = both (placed_stmt n x.0) (scoped_stmt ds x.0 && nat_le (stmt_height x.0) h) a.1 in let c = both (scoped_stmt ds x.0) (nat_le (stmt_height x.0) h) b.1 in
    record { levelled = a.0; placed = b.0; scoped = c.0; low = omega (arith, le_true (stmt_height x.0) h c.1); after = i.after; spelled = i.spelled }

statement_from : (ds : List Scope) (h : ℕ) (x : In StmtTree) (n : ℕ) (t : List Lexeme) → StatementIs (Below (suc h)) ds x n t → IsStatement ds h x n t
statement_from ds h x n t i = record { grammatical = rw (i.levelled, i.placed, i.scoped, true_le (stmt_height x.0) h (omega (arith, i.low))) refl; after = i.after; spelled = i.spelled }

pub statement_reading : (ds : List Scope) (h : ℕ) → Reading (statement h (lower h) ds) (IsStatement ds h) statement_goes
statement_reading ds h = said (statement_lawful h (lower h) (lower_lawful h) ds) (statement_to ds h) (statement_from ds h)

external_to : (ds : List Scope) (h : ℕ) (x : In ExternalTree) (n : ℕ) (t : List Lexeme) → IsExternal ds h x n t → ExternalIs (Below (suc h)) ds x n t
external_to ds h x n t i =
    let a = both (levelled_external x.0) (placed_external n x.0 && (scoped_external ds x.0 && nat_le (external_height x.0) h)) i.grammatical in
    let b = both (placed_external n x.0) (scoped_external ds x.0 && nat_le (external_height x.0) h) a.1 in let c = both (scoped_external ds x.0) (nat_le (external_height x.0) h) b.1 in
    record { levelled = a.0; placed = b.0; scoped = c.0; low = omega (arith, le_true (external_height x.0) h c.1); after = i.after; spelled = i.spelled }

external_from : (ds : List Scope) (h : ℕ) (x : In ExternalTree) (n : ℕ) (t : List Lexeme) → ExternalIs (Below (suc h)) ds x n t → IsExternal ds h x n t
external_from ds h x n t i = record { grammatical = rw (i.levelled, i.placed, i.scoped, true_le (external_height x.0) h (omega (arith, i.low))) refl; after = i.after; spelled = i.spelled }

pub external_reading : (ds : List Scope) (h : ℕ) → Reading (external_of h ds) (IsExternal ds h) never_goes
external_reading ds h = ended (λ a n t o i s. tt) (λ a n t o i s. refl) (said (external_lawful h (lower h) (lower_lawful h) ds) (external_to ds h) (external_from ds h))

-- one tree of each form

pub one_declaration : (ds : List Scope) (h n : ℕ) (text : List Lexeme) (x y : In DeclarationTree) → IsDeclaration ds h x n text → IsDeclaration ds h y n text → x ≡ y
one_declaration ds h n text x y i j = one_tree (declaration_reading ds h) (λ a. refl) x y n text i j

no_else : (b : Bool) → (b && false) ≡ false
no_else true = refl
no_else false = refl

pub one_statement : (ds : List Scope) (h n : ℕ) (text : List Lexeme) (x y : In StmtTree) → IsStatement ds h x n text → IsStatement ds h y n text → x ≡ y
one_statement ds h n text x y i j = one_tree (statement_reading ds h) (λ a. no_else _) x y n text i j

pub one_external : (ds : List Scope) (h n : ℕ) (text : List Lexeme) (x y : In ExternalTree) → IsExternal ds h x n text → IsExternal ds h y n text → x ≡ y
one_external ds h n text x y i j = one_tree (external_reading ds h) (λ a. refl) x y n text i j

-- external declarations one behind the other

pub external_some : (ds : List Scope) (x : In ExternalTree) (n : ℕ) (t : List Lexeme) → IsExternal ds greatest_height x n t → 0 < length t
external_some ds x n t i = omega (arith, ap length i.spelled, by x.0)
  where
    by : (d : ExternalTree) → 0 < length (spell_external d)
    by (External d) = declaration_some d
    by (Definition at ss d xs c is) = omega (arith, length-append (spell_specifiers ss) (spell_declarator d ++ (spell_declarations xs ++ in_braces (spell_block is))), length-append (spell_declarator d) (spell_declarations xs ++ in_braces (spell_block is)), length-append (spell_declarations xs) (in_braces (spell_block is)))

-- two external declarations with which the same tokens begin are one
record Agree (x y : In ExternalTree) (f g rest others : List Lexeme) : Type 0 where
  tree : x ≡ y
  text : f ≡ g
  behind : rest ≡ others

same_texts : (f g rest others : List Lexeme) → f ++ rest ≡ g ++ others → rest ≡ others → length f ≡ length g → f ≡ g
same_texts [] [] rest others e r l = refl
same_texts [] (v ∷ vs) rest others e r l = absurd (omega (arith, l))
same_texts (u ∷ us) [] rest others e r l = absurd (omega (arith, l))
same_texts (u ∷ us) (v ∷ vs) rest others e r l =
    let first : u ≡ v = Laws.some_is (ap head e) in let tails : us ++ rest ≡ vs ++ others = ap (λ w. behind_first w) e in
    ap (λ w. w ∷ us) first ∙ ap (λ w. v ∷ w) (same_texts us vs rest others tails r (omega (arith, l)))

agree : (ds : List Scope) (x y : In ExternalTree) (n : ℕ) (f g rest others : List Lexeme) → IsExternal ds greatest_height x n f → IsExternal ds greatest_height y n g → f ++ rest ≡ g ++ others → Agree x y f g rest others
agree ds x y n f g rest others i j e =
    let law = external_reading ds greatest_height in
    let same = same_value (sym (law.again x n f rest i refl) ∙ (ap (λ u. external_of greatest_height ds (input n u)) e ∙ law.again y n g others j refl)) in
    let r : rest ≡ others = ap (λ w. w.1.rest) same in let number : n + length f ≡ n + length g = ap (λ w. w.1.at) same in
    record { tree = ap (λ w. w.0) same; text = same_texts f g rest others e r (omega (arith, number)); behind = r }

no_tokens : (f rest : List Lexeme) → 0 < length f → [] ≡ f ++ rest → ⊥
no_tokens [] rest some e = omega (arith, some)
no_tokens (u ∷ us) rest some e = Laws.none_is_no (ap head e)

-- one more
pub extended : (xs : List ExternalTree) (ds es fs : List Scope) (x : ExternalTree) (n : ℕ) (front more : List Lexeme) → AreExternals ds xs es n front → IsExternal es greatest_height (x, fs) (n + length front) more → AreExternals ds (xs ++ x ∷ []) fs n (front ++ more)
extended [] ds es fs x n front more a i =
    let here_is : n + length front ≡ n = ap (λ u. n + length u) a.1 ∙ add_none n in
    (fs, more, [], subst (λ k. IsExternal ds greatest_height (x, fs) k more) here_is (subst (λ s. IsExternal s greatest_height (x, fs) (n + length front) more) a.0 i), (refl, refl), ap (λ u. u ++ more) a.1 ∙ sym (append-nil more))
extended (y ∷ ys) ds es fs x n front more a i =
    let place : n + length front ≡ n + length a.1 + length a.2 = omega (arith, ap length a.5, length-append a.1 a.2) in
    (a.0, a.1, a.2 ++ more, a.3, extended ys a.0 es fs x (n + length a.1) a.2 more a.4 (subst (λ k. IsExternal es greatest_height (x, fs) k more) place i), ap (λ u. u ++ more) a.5 ∙ append_assoc a.1 a.2 more)

-- whole external declarations in front of others are those with which a unit of the same tokens begins
record Remains (es fs : List Scope) (n : ℕ) (rest : List Lexeme) : Type 0 where
  others : List ExternalTree
  are : AreExternals es others fs n rest

remaining : (xs us : List ExternalTree) (ds es fs : List Scope) (n : ℕ) (front rest ts : List Lexeme) → AreExternals ds xs es n front → AreExternals ds us fs n ts → ts ≡ front ++ rest → Remains es fs (n + length front) rest
remaining [] us ds es fs n front rest ts a b e =
    let here_is : n ≡ n + length front = sym (ap (λ u. n + length u) a.1 ∙ add_none n) in
    let tokens : ts ≡ rest = e ∙ ap (λ u. u ++ rest) a.1 in
    record { others = us; are = subst (λ k. AreExternals es us fs k rest) here_is (subst (λ s. AreExternals s us fs n rest) (sym a.0) (subst (λ u. AreExternals ds us fs n u) tokens b)) }
remaining (x ∷ xs) [] ds es fs n front rest ts a b e = absurd (no_tokens a.1 (a.2 ++ rest) (external_some ds (x, a.0) n a.1 a.3) (sym b.1 ∙ (e ∙ (ap (λ u. u ++ rest) a.5 ∙ append_assoc a.1 a.2 rest))))
remaining (x ∷ xs) (u ∷ us) ds es fs n front rest ts a b e =
    let k = agree ds (x, a.0) (u, b.0) n a.1 b.1 (a.2 ++ rest) b.2 a.3 b.3 (sym (append_assoc a.1 a.2 rest) ∙ (ap (λ v. v ++ rest) (sym a.5) ∙ (sym e ∙ b.5))) in
    let scopes : b.0 ≡ a.0 = ap (λ w. w.1) (sym k.tree) in
    let number : n + length b.1 ≡ n + length a.1 = ap (λ v. n + length v) (sym k.text) in
    let place : n + length a.1 + length a.2 ≡ n + length front = omega (arith, ap length a.5, length-append a.1 a.2) in
    let behind : AreExternals a.0 us fs (n + length a.1) b.2 = subst (λ j. AreExternals a.0 us fs j b.2) number (subst (λ s. AreExternals s us fs (n + length b.1) b.2) scopes b.4) in
    subst (λ j. Remains es fs j rest) place (remaining xs us a.0 es fs (n + length a.1) a.2 rest b.2 a.4 behind (sym k.behind))

-- a grammatical unit is a list of them

abbrev after_externals : List Scope → UnitTree → List Scope
after_externals ds [] = ds
after_externals ds (x ∷ xs) = after_externals (after_external ds x) xs

are_of : (xs : UnitTree) (ds : List Scope) (n : ℕ) → levelled_externals xs ≡ true → placed_unit n xs ≡ true → scoped_externals ds xs ≡ true → low_unit xs ≡ true → AreExternals ds xs (after_externals ds xs) n (spell_unit xs)
are_of [] ds n l q s w = (refl, refl)
are_of (x ∷ xs) ds n l q s w =
    let a = both (levelled_external x) (levelled_externals xs) l in let b = both (placed_external n x) (placed_unit (n + length (spell_external x)) xs) q in
    let c = both (scoped_external ds x) (scoped_externals (after_external ds x) xs) s in let d = both (nat_le (external_height x) 512) (low_unit xs) w in
    (after_external ds x, spell_external x, spell_unit xs, record { grammatical = rw (a.0, b.0, c.0, d.0) refl; after = refl; spelled = refl }, are_of xs (after_external ds x) (n + length (spell_external x)) a.1 b.1 c.1 d.1, refl)

record UnitParts (xs : UnitTree) (ds : List Scope) (n : ℕ) (text : List Lexeme) : Type 0 where
  levelled : levelled_externals xs ≡ true
  placed : placed_unit n xs ≡ true
  scoped : scoped_externals ds xs ≡ true
  low : low_unit xs ≡ true
  spelled : text ≡ spell_unit xs

of_are : (xs : UnitTree) (ds es : List Scope) (n : ℕ) (text : List Lexeme) → AreExternals ds xs es n text → UnitParts xs ds n text
of_are [] ds es n text a = record { levelled = refl; placed = refl; scoped = refl; low = refl; spelled = a.1 }
of_are (x ∷ xs) ds es n text a =
    let i = a.3 in let m = of_are xs a.0 es (n + length a.1) a.2 a.4 in
    let f = both (levelled_external x) (placed_external n x && (scoped_external ds x && nat_le (external_height x) greatest_height)) i.grammatical in
    let g = both (placed_external n x) (scoped_external ds x && nat_le (external_height x) greatest_height) f.1 in let k = both (scoped_external ds x) (nat_le (external_height x) greatest_height) g.1 in
    let next : n + length a.1 ≡ n + length (spell_external x) = ap (λ u. n + length u) i.spelled in
    let placed : placed_unit (n + length (spell_external x)) xs ≡ true = subst (λ j. placed_unit j xs ≡ true) next m.placed in
    let scoped : scoped_externals (after_external ds x) xs ≡ true = subst (λ j. scoped_externals j xs ≡ true) i.after m.scoped in
    record { levelled = rw (f.0, m.levelled) refl; placed = rw (g.0, placed) refl; scoped = rw (k.0, scoped) refl; low = rw (k.1, m.low) refl; spelled = rw (a.5, i.spelled, m.spelled) refl }

-- a list of them, at least one, is a grammatical unit
pub accepted : (xs : UnitTree) (es : List Scope) (ts : List Lexeme) → has_some xs ≡ true → AreExternals file_scope xs es 0 ts → ReadsUnit ts xs
accepted xs es ts some a = let m = of_are xs file_scope es 0 ts a in record { grammatical = rw (some, m.levelled, m.placed, m.scoped, m.low) refl; spelled = m.spelled }

record Accepted (ts : List Lexeme) (u : UnitTree) : Type 0 where
  after : List Scope
  some : has_some u ≡ true
  are : AreExternals file_scope u after 0 ts

of_accepted : (ts : List Lexeme) (u : UnitTree) → ReadsUnit ts u → Accepted ts u
of_accepted ts u r =
    let a = both (has_some u && levelled_externals u) (placed_unit 0 u && (scoped_externals file_scope u && low_unit u)) r.grammatical in let b = both (has_some u) (levelled_externals u) a.0 in
    let c = both (placed_unit 0 u) (scoped_externals file_scope u && low_unit u) a.1 in let d = both (scoped_externals file_scope u) (low_unit u) c.1 in
    record { after = after_externals file_scope u; some = b.0; are = subst (AreExternals file_scope u (after_externals file_scope u) 0) (sym r.spelled) (are_of u file_scope 0 b.1 c.0 d.0 d.1) }

-- where an external declaration is refused behind whole ones, no unit spells the tokens; behind them some token stands, or there are none
no_remaining : (es fs : List Scope) (n : ℕ) (rest : List Lexeme) (i : Input) → external_of greatest_height es (input n rest) ≡ Err i → (us : List ExternalTree) → AreExternals es us fs n rest → (token_ahead (head rest) ≡ true) → ⊥
no_remaining es fs n rest i e [] a some = true≢false (sym some ∙ ap (λ u. token_ahead (head u)) a.1)
no_remaining es fs n rest i e (u ∷ us) a some = not_both (sym ((external_reading es greatest_height).again (u, a.0) n a.1 a.2 a.3 refl) ∙ (ap (λ v. external_of greatest_height es (input n v)) (sym a.5) ∙ e))

none_first : (us : List ExternalTree) (fs : List Scope) (ts : List Lexeme) (i : Input) → has_some us ≡ true → AreExternals file_scope us fs 0 ts → external_of greatest_height file_scope (input 0 ts) ≡ Err i → ⊥
none_first [] fs ts i some a e = true≢false (sym some)
none_first (u ∷ us) fs ts i some a e = not_both (sym ((external_reading file_scope greatest_height).again (u, a.0) 0 a.1 a.2 a.3 refl) ∙ (ap (λ v. external_of greatest_height file_scope (input 0 v)) (sym a.5) ∙ e))

no_unit_here : (xs : List ExternalTree) (es : List Scope) (ts front rest : List Lexeme) (i : Input) → ts ≡ front ++ rest → AreExternals file_scope xs es 0 front → (has_some xs ≡ true → token_ahead (head rest) ≡ true) → external_of greatest_height es (input (length front) rest) ≡ Err i → (u : UnitTree) → ReadsUnit ts u → ⊥
no_unit_here [] es ts front rest i parts a some e u r =
    let c = of_accepted ts u r in let tokens : rest ≡ ts = sym (parts ∙ ap (λ v. v ++ rest) a.1) in
    none_first u c.after ts i c.some c.are (ap (λ v. external_of greatest_height file_scope (input 0 v)) (sym tokens) ∙ (ap (λ s. external_of greatest_height s (input 0 rest)) (sym a.0) ∙ (ap (λ k. external_of greatest_height es (input k rest)) (ap length (sym a.1)) ∙ e)))
no_unit_here (x ∷ xs) es ts front rest i parts a some e u r =
    let c = of_accepted ts u r in
    let m = remaining (x ∷ xs) u file_scope es c.after 0 front rest ts a c.are parts in
    let number : 0 + length front ≡ length front = omega arith in
    no_remaining es c.after (length front) rest i e m.others (subst (λ j. AreExternals es m.others c.after j rest) number m.are) (some refl)

pub refused : (xs : List ExternalTree) (es : List Scope) (ts front rest : List Lexeme) (i : Input) → ts ≡ front ++ rest → AreExternals file_scope xs es 0 front → (has_some xs ≡ true → token_ahead (head rest) ≡ true) → external_of greatest_height es (input (length front) rest) ≡ Err i → RefusesUnit ts (length front) i.at
refused xs es ts front rest i parts a some e = record {
  whole = xs;
  scopes = es;
  front = front;
  rest = rest;
  left = i.rest;
  parts = parts;
  number = refl;
  before = a;
  none = refuses (external_reading es greatest_height) (λ x. refl) (length front) rest i e;
  no_unit = no_unit_here xs es ts front rest i parts a some e;
}

-- no tokens are spelled by two grammatical units
same_unit : (us vs : List ExternalTree) (ds es fs : List Scope) (n : ℕ) (ts : List Lexeme) → AreExternals ds us es n ts → AreExternals ds vs fs n ts → us ≡ vs
same_unit [] [] ds es fs n ts a b = refl
same_unit [] (v ∷ vs) ds es fs n ts a b = absurd (no_tokens b.1 b.2 (external_some ds (v, b.0) n b.1 b.3) (sym a.1 ∙ b.5))
same_unit (u ∷ us) [] ds es fs n ts a b = absurd (no_tokens a.1 a.2 (external_some ds (u, a.0) n a.1 a.3) (sym b.1 ∙ a.5))
same_unit (u ∷ us) (v ∷ vs) ds es fs n ts a b =
    let k = agree ds (u, a.0) (v, b.0) n a.1 b.1 a.2 b.2 a.3 b.3 (sym a.5 ∙ b.5) in
    let scopes : b.0 ≡ a.0 = ap (λ w. w.1) (sym k.tree) in let number : n + length b.1 ≡ n + length a.1 = ap (λ w. n + length w) (sym k.text) in
    let behind : AreExternals a.0 vs fs (n + length a.1) a.2 = subst (λ w. AreExternals a.0 vs fs (n + length a.1) w) (sym k.behind) (subst (λ j. AreExternals a.0 vs fs j b.2) number (subst (λ s. AreExternals s vs fs (n + length b.1) b.2) scopes b.4)) in
    ap (λ w. w ∷ us) (ap (λ w. w.0) k.tree) ∙ ap (λ w. v ∷ w) (same_unit us vs a.0 es fs (n + length a.1) a.2 a.4 behind)

pub one_unit : (ts : List Lexeme) (u v : UnitTree) → ReadsUnit ts u → ReadsUnit ts v → u ≡ v
one_unit ts u v r s = let a = of_accepted ts u r in let b = of_accepted ts v s in same_unit u v file_scope a.after b.after 0 ts a.are b.are

-- the token at which, behind whole external declarations, none begins is one
same_length : (xs ys : List ExternalTree) (ds es fs : List Scope) (n : ℕ) (front back rest others : List Lexeme) → AreExternals ds xs es n front → AreExternals ds ys fs n back → front ++ rest ≡ back ++ others →
    ((a : In ExternalTree) (text more : List Lexeme) → IsExternal es greatest_height a (n + length front) text → rest ≡ text ++ more → ⊥) → ((a : In ExternalTree) (text more : List Lexeme) → IsExternal fs greatest_height a (n + length back) text → others ≡ text ++ more → ⊥) → length front ≡ length back
same_length [] [] ds es fs n front back rest others a b e none no_other = ap length a.1 ∙ ap length (sym b.1)
same_length [] (y ∷ ys) ds es fs n front back rest others a b e none no_other =
    let number : n ≡ n + length front = sym (ap (λ u. n + length u) a.1 ∙ add_none n) in
    let split : rest ≡ b.1 ++ (b.2 ++ others) = sym (ap (λ u. u ++ rest) a.1) ∙ (e ∙ (ap (λ u. u ++ others) b.5 ∙ append_assoc b.1 b.2 others)) in
    absurd (none (y, b.0) b.1 (b.2 ++ others) (subst (λ k. IsExternal es greatest_height (y, b.0) k b.1) number (subst (λ s. IsExternal s greatest_height (y, b.0) n b.1) (sym a.0) b.3)) split)
same_length (x ∷ xs) [] ds es fs n front back rest others a b e none no_other =
    let number : n ≡ n + length back = sym (ap (λ u. n + length u) b.1 ∙ add_none n) in
    let split : others ≡ a.1 ++ (a.2 ++ rest) = sym (ap (λ u. u ++ others) b.1) ∙ (sym e ∙ (ap (λ u. u ++ rest) a.5 ∙ append_assoc a.1 a.2 rest)) in
    absurd (no_other (x, a.0) a.1 (a.2 ++ rest) (subst (λ k. IsExternal fs greatest_height (x, a.0) k a.1) number (subst (λ s. IsExternal s greatest_height (x, a.0) n a.1) (sym b.0) a.3)) split)
same_length (x ∷ xs) (y ∷ ys) ds es fs n front back rest others a b e none no_other =
    let k = agree ds (x, a.0) (y, b.0) n a.1 b.1 (a.2 ++ rest) (b.2 ++ others) a.3 b.3 (sym (append_assoc a.1 a.2 rest) ∙ (ap (λ v. v ++ rest) (sym a.5) ∙ (e ∙ (ap (λ v. v ++ others) b.5 ∙ append_assoc b.1 b.2 others)))) in
    let scopes : b.0 ≡ a.0 = ap (λ w. w.1) (sym k.tree) in
    let number : n + length b.1 ≡ n + length a.1 = ap (λ v. n + length v) (sym k.text) in
    let behind : AreExternals a.0 ys fs (n + length a.1) b.2 = subst (λ j. AreExternals a.0 ys fs j b.2) number (subst (λ s. AreExternals s ys fs (n + length b.1) b.2) scopes b.4) in
    let place : n + length a.1 + length a.2 ≡ n + length front = omega (arith, ap length a.5, length-append a.1 a.2) in
    let other_place : n + length a.1 + length b.2 ≡ n + length back = omega (arith, number, ap length b.5, length-append b.1 b.2) in
    let tails = same_length xs ys a.0 es fs (n + length a.1) a.2 b.2 rest others a.4 behind k.behind
    (λ z text more i split. none z text more (subst (λ j. IsExternal es greatest_height z j text) place i) split) (λ z text more i split. no_other z text more (subst (λ j. IsExternal fs greatest_height z j text) other_place i) split) in
    omega (arith, ap length a.5, length-append a.1 a.2, ap length b.5, length-append b.1 b.2, ap length k.text, tails)

pub one_start : (ts : List Lexeme) (start stop other_start other_stop : ℕ) → RefusesUnit ts start stop → RefusesUnit ts other_start other_stop → start ≡ other_start
one_start ts start stop other_start other_stop r s =
    let here_is : start ≡ 0 + length r.front = r.number ∙ omega arith in let there_is : other_start ≡ 0 + length s.front = s.number ∙ omega arith in
    r.number
    ∙ (same_length r.whole s.whole file_scope r.scopes s.scopes 0 r.front s.front r.rest s.rest r.before s.before (sym r.parts ∙ s.parts)
    (λ a text more i split. r.none.no_whole a text more (subst (λ j. IsExternal r.scopes greatest_height a j text) (sym here_is) i) split refl)
    (λ a text more i split. s.none.no_whole a text more (subst (λ j. IsExternal s.scopes greatest_height a j text) (sym there_is) i) split refl) ∙ sym s.number)

-- each list of tokens has an answer

pub some_more : (xs : List ExternalTree) (x : ExternalTree) → has_some (xs ++ x ∷ []) ≡ true
some_more [] x = refl
some_more (y ∷ ys) x = refl

abbrev AnswersBelow : ℕ → Type 0
AnswersBelow fuel = (xs : List ExternalTree) (es : List Scope) (ts front rest : List Lexeme) → length rest < fuel → ts ≡ front ++ rest → AreExternals file_scope xs es 0 front → (has_some xs ≡ true → token_ahead (head rest) ≡ true) → UnitAnswer ts

answer_behind : (fuel : ℕ) → AnswersBelow fuel → (xs : List ExternalTree) (es : List Scope) (ts front rest : List Lexeme) → length rest < fuel → ts ≡ front ++ rest → AreExternals file_scope xs es 0 front → has_some xs ≡ true → UnitAnswer ts
answer_behind fuel ih xs es ts front [] long parts a some = Read xs (accepted xs es ts some (subst (AreExternals file_scope xs es 0) (sym (append-nil front) ∙ sym parts) a))
answer_behind fuel ih xs es ts front (u ∷ us) long parts a some = ih xs es ts front (u ∷ us) long parts a (λ s. refl)

answer_by : (fuel : ℕ) → AnswersBelow fuel → (xs : List ExternalTree) (es : List Scope) (ts front rest : List Lexeme) → length rest < suc fuel → ts ≡ front ++ rest → AreExternals file_scope xs es 0 front → (has_some xs ≡ true → token_ahead (head rest) ≡ true) →
    (r : Result (In ExternalTree × Input) Input) → external_of greatest_height es (input (length front) rest) ≡ r → UnitAnswer ts
answer_by fuel ih xs es ts front rest long parts a some (Err i) e = Refused (length front) i.at (refused xs es ts front rest i parts a some e)
answer_by fuel ih xs es ts front rest long parts a some (Ok y) e =
    let t = (external_reading es greatest_height).takes (length front) rest y.0 y.1 tt e in
    let number : length front ≡ 0 + length front = omega arith in
    let next = extended xs file_scope es y.0.1 y.0.0 0 front t.text a (subst (λ k. IsExternal es greatest_height y.0 k t.text) number t.holds) in
    let split : ts ≡ (front ++ t.text) ++ y.1.rest = parts ∙ (ap (λ u. front ++ u) t.parts ∙ sym (append_assoc front t.text y.1.rest)) in
    let taken : 0 < length t.text = external_some es y.0 (length front) t.text t.holds in
    answer_behind fuel ih (xs ++ y.0.0 ∷ []) y.0.1 ts (front ++ t.text) y.1.rest (omega (arith, long, taken, ap length t.parts, length-append t.text y.1.rest)) split next (some_more xs y.0.0)

answer_from : (fuel : ℕ) → AnswersBelow fuel
answer_from zero xs es ts front rest long parts a some = absurd (omega (arith, long))
answer_from (suc fuel) xs es ts front rest long parts a some = answer_by fuel (answer_from fuel) xs es ts front rest long parts a some (external_of greatest_height es (input (length front) rest)) refl

pub answered : (ts : List Lexeme) → UnitAnswer ts
answered ts = answer_from (suc (length ts)) [] file_scope ts [] ts (omega arith) refl (refl, refl) (λ s. absurd (true≢false (sym s)))
