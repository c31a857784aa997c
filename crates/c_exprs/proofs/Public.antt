-- Device: what each reading answers, in terms of grammatical trees; and that tokens are spelled by one tree of a form.
use Rattle.std.proofs.Common.{◌≡◌, refl, sym, ap, ◌∙◌, ℕ, suc, ◌+◌, max, length, Bool, true, false, not, ◌&&◌, ◌||◌, nat_le, List, [], ◌∷◌, ◌++◌, Option, None, Ok, Err, append-nil, arith}
use Rattle.typedef_scopes.specs.Scopes.{Scope}
use Rattle.c_tree.specs.declared.level.Level.{Level}
use Rattle.c_tree.specs.Syntax.{ExprTree, TypeName, SpecifierTrees, DeclaratorTree, Declared, Absent, Grouped, Pointer, Array, Function, Unprototyped, InitTree}
use Rattle.c_tree.specs.Spelling.{Lexeme, spell_specifiers}
use Rattle.c_tree.specs.Height.{expr_height, specifiers_height, declarator_height, init_height}
use Rattle.c_tree.specs.Levels.{has_some, is_within, is_type_name, has_specifier, declares, has_names, has_other_names, is_underived, levelled, levelled_specifiers, levelled_declarator, levelled_init}
use Rattle.c_tree.specs.Placed.{placed_expr, placed_specifiers, placed_declarator, placed_init}
use Rattle.c_tree.specs.Scoped.{scoped_expr, scoped_type_name, scoped_specifiers, scoped_declarator, scoped_init}
use Rattle.c_exprs.specs.declared.words.SpecifierForm.TheVariants.{Declaration as InDeclaration}
use Rattle.c_exprs.specs.declared.words.DeclaratorForm.TheVariants.{Definition as InDefinition, Member as InMember}
use Rattle.c_cursor.specs.Readers.{Input, input, Reader}
use Rattle.c_exprs.specs.Subs.{In}
use Rattle.c_exprs.specs.ExprReading.{type_name}
use Rattle.c_exprs.specs.InitReading.{initialiser}
use Rattle.c_exprs.specs.Reading.{below}
use Rattle.c_exprs.specs.Answers.{Reads, Refuses}
use Rattle.c_exprs.specs.Forms.{IsExpr, expr_goes, IsTypeName, type_name_goes, IsSpecifiers, specifiers_goes, IsDeclarator, declarator_goes, IsNamedDeclarator, named_declarator_goes, IsInit, init_goes}
use Rattle.c_exprs.proofs.Laws.{Lawful, Any, said, same_value, not_both}
use Rattle.c_exprs.proofs.Tokens.{both, le_true, true_le}
use Rattle.c_exprs.proofs.Relations.{Below, ExprIs, TypeIs, SpecifiersIs, DeclaratorIs}
use Rattle.c_exprs.proofs.ExprLaws.{type_name_lawful}
use Rattle.c_exprs.proofs.InitLaws.{InitIs, initialiser_lawful}
use Rattle.c_exprs.proofs.Whole.{below_lawful}

-- the law of a reading, said of the trees of a form: `goes` tells what goes on
abbrev pub Reading : {A : Type 0} → Reader A → (A → ℕ → List Lexeme → Type 0) → (A → Option Lexeme → Bool) → Type 0
Reading read Is goes = Lawful Any read Is (λ a o. goes a o ≡ false)

module _ {A : Type 0} {read : Reader A} {Is : A → ℕ → List Lexeme → Type 0} {goes : A → Option Lexeme → Bool} (law : Reading read Is goes) (free : (a : A) → goes a None ≡ false) where
  pub gives : (n : ℕ) (ts : List Lexeme) (a : A) (i : Input) → read (input n ts) ≡ Ok (a, i) → Reads Is goes n ts a i.at i.rest
  gives n ts a i e = let t = law.takes n ts a i tt e in record { text = t.text; is = t.holds; parts = t.parts; number = t.number; ends = t.stops }

  pub gives_back : (n : ℕ) (ts : List Lexeme) (a : A) (at : ℕ) (rest : List Lexeme) → Reads Is goes n ts a at rest → read (input n ts) ≡ Ok (a, input at rest)
  gives_back n ts a at rest r = ap (λ us. read (input n us)) r.parts ∙ (law.again a n r.text rest r.is r.ends ∙ ap (λ m. Ok (a, input m rest)) (sym r.number))

  front_again : (a : A) (n : ℕ) (text : List Lexeme) → Is a n text → read (input n text) ≡ Ok (a, input (n + length text) [])
  front_again a n text i = ap (λ us. read (input n us)) (sym (append-nil text)) ∙ law.again a n text [] i (free a)

  pub refuses : (n : ℕ) (ts : List Lexeme) (i : Input) → read (input n ts) ≡ Err i → Refuses Is goes n ts i.at i.rest
  refuses n ts i e =
      let f = law.local n ts i tt e in
      record {
        front = f.front;
        parts = f.parts;
        number = f.number;
        no_front = λ a u more first is. not_both (sym (front_again a n (f.front ++ u ∷ more) is) ∙ f.same (u ∷ more) (sym first));
        no_whole = λ a text others is split ends. not_both (sym (law.again a n text others is ends) ∙ (ap (λ us. read (input n us)) (sym split) ∙ e));
      }

  -- tokens are spelled by one tree of the form
  pub one_tree : (a b : A) (n : ℕ) (text : List Lexeme) → Is a n text → Is b n text → a ≡ b
  one_tree a b n text i j = ap (λ x. x.0) (same_value (sym (front_again a n text i) ∙ front_again b n text j))

-- the six forms

expr_to : (ds : List Scope) (level : Level) (h : ℕ) (x : In ExprTree) (n : ℕ) (t : List Lexeme) → IsExpr ds level h x n t → ExprIs (Below (suc h)) level ds x n t
expr_to ds level h x n t i =
    let a = both (is_within level x.0 && levelled x.0) (placed_expr n x.0 && (scoped_expr ds x.0 && nat_le (expr_height x.0) h)) i.grammatical in
    let b = both (is_within level x.0) (levelled x.0) a.0 in let c = both (placed_expr n x.0) (scoped_expr ds x.0 && nat_le (expr_height x.0) h) a.1 in let d = both (scoped_expr ds x.0) (nat_le (expr_height x.0) h) c.1 in
    record { good = record { levelled = b.1; placed = c.0; scoped = d.0; low = omega (arith, le_true (expr_height x.0) h d.1); after = i.after }; within = b.0; spelled = i.spelled }

expr_from : (ds : List Scope) (level : Level) (h : ℕ) (x : In ExprTree) (n : ℕ) (t : List Lexeme) → ExprIs (Below (suc h)) level ds x n t → IsExpr ds level h x n t
expr_from ds level h x n t i = let g = i.good in record { grammatical = rw (i.within, g.levelled, g.placed, g.scoped, true_le (expr_height x.0) h (omega (arith, g.low))) refl; after = g.after; spelled = i.spelled }

pub expr_reading : (level : Level) (ds : List Scope) (h : ℕ) → Reading ((below (suc h)).expr level ds) (IsExpr ds level h) (expr_goes level)
expr_reading level ds h = said ((below_lawful (suc h)).expr level ds) (expr_to ds level h) (expr_from ds level h)

type_to : (ds : List Scope) (h : ℕ) (x : In (SpecifierTrees × DeclaratorTree)) (n : ℕ) (t : List Lexeme) → IsTypeName ds h x n t → TypeIs (Below (suc h)) ds x n t
type_to ds h x n t i =
    let m : ℕ = n + length (spell_specifiers x.0.0) in
    let low : ℕ = max (specifiers_height x.0.0) (declarator_height x.0.1) in
    let a = both (is_type_name x.0.0 x.0.1 && (levelled_specifiers x.0.0 && levelled_declarator x.0.1)) ((placed_specifiers n x.0.0 && placed_declarator m x.0.1) && (scoped_type_name ds (TypeName x.0.0 x.0.1) && nat_le low h)) i.grammatical in
    let b = both (is_type_name x.0.0 x.0.1) (levelled_specifiers x.0.0 && levelled_declarator x.0.1) a.0 in let c = both (levelled_specifiers x.0.0) (levelled_declarator x.0.1) b.1 in
    let d = both (placed_specifiers n x.0.0 && placed_declarator m x.0.1) (scoped_type_name ds (TypeName x.0.0 x.0.1) && nat_le low h) a.1 in let e = both (placed_specifiers n x.0.0) (placed_declarator m x.0.1) d.0 in let f = both (scoped_type_name ds (TypeName x.0.0 x.0.1)) (nat_le low h) d.1 in
    record { good = record { type_name = b.0; specifiers = c.0; declarator = c.1; specifiers_placed = e.0; declarator_placed = e.1; scoped = f.0; low = omega (arith, le_true low h f.1); after = i.after }; spelled = i.spelled }

type_from : (ds : List Scope) (h : ℕ) (x : In (SpecifierTrees × DeclaratorTree)) (n : ℕ) (t : List Lexeme) → TypeIs (Below (suc h)) ds x n t → IsTypeName ds h x n t
type_from ds h x n t i =
    let g = i.good in
    record { grammatical = rw (g.type_name, g.specifiers, g.declarator, g.specifiers_placed, g.declarator_placed, g.scoped, true_le (max (specifiers_height x.0.0) (declarator_height x.0.1)) h (omega (arith, g.low))) refl; after = g.after; spelled = i.spelled }

pub type_name_reading : (ds : List Scope) (h : ℕ) → Reading (type_name (below (suc h)) ds) (IsTypeName ds h) type_name_goes
type_name_reading ds h = said (type_name_lawful (suc h) (below (suc h)) (below_lawful (suc h)) ds) (type_to ds h) (type_from ds h)

specifiers_to : (ds : List Scope) (h : ℕ) (x : In SpecifierTrees) (n : ℕ) (t : List Lexeme) → IsSpecifiers ds h x n t → SpecifiersIs (Below (suc h)) InDeclaration ds x n t
specifiers_to ds h x n t i =
    let a = both (has_specifier x.0 && levelled_specifiers x.0) (placed_specifiers n x.0 && (scoped_specifiers false ds x.0 && nat_le (specifiers_height x.0) h)) i.grammatical in
    let b = both (has_specifier x.0) (levelled_specifiers x.0) a.0 in let c = both (placed_specifiers n x.0) (scoped_specifiers false ds x.0 && nat_le (specifiers_height x.0) h) a.1 in let d = both (scoped_specifiers false ds x.0) (nat_le (specifiers_height x.0) h) c.1 in
    record { some = b.0; of_form = refl; levelled = b.1; placed = c.0; scoped = d.0; low = omega (arith, le_true (specifiers_height x.0) h d.1); after = i.after; spelled = i.spelled }

specifiers_from : (ds : List Scope) (h : ℕ) (x : In SpecifierTrees) (n : ℕ) (t : List Lexeme) → SpecifiersIs (Below (suc h)) InDeclaration ds x n t → IsSpecifiers ds h x n t
specifiers_from ds h x n t i = record { grammatical = rw (i.some, i.levelled, i.placed, i.scoped, true_le (specifiers_height x.0) h (omega (arith, i.low))) refl; after = i.after; spelled = i.spelled }

pub specifiers_reading : (ds : List Scope) (h : ℕ) → Reading ((below (suc h)).specifiers InDeclaration ds) (IsSpecifiers ds h) specifiers_goes
specifiers_reading ds h = said ((below_lawful (suc h)).specifiers InDeclaration ds) (specifiers_to ds h) (specifiers_from ds h)

declarator_to : (ds : List Scope) (h : ℕ) (x : In DeclaratorTree) (n : ℕ) (t : List Lexeme) → IsDeclarator ds h x n t → DeclaratorIs (Below (suc h)) InDefinition ds x n t
declarator_to ds h x n t i =
    let a = both ((declares x.0 && not (has_other_names x.0)) && levelled_declarator x.0) (placed_declarator n x.0 && (scoped_declarator ds x.0 && nat_le (declarator_height x.0) h)) i.grammatical in
    let b = both (declares x.0 && not (has_other_names x.0)) (levelled_declarator x.0) a.0 in let c = both (placed_declarator n x.0) (scoped_declarator ds x.0 && nat_le (declarator_height x.0) h) a.1 in let d = both (scoped_declarator ds x.0) (nat_le (declarator_height x.0) h) c.1 in
    record { of_form = b.0; levelled = b.1; placed = c.0; scoped = d.0; low = omega (arith, le_true (declarator_height x.0) h d.1); after = i.after; spelled = i.spelled }

declarator_from : (ds : List Scope) (h : ℕ) (x : In DeclaratorTree) (n : ℕ) (t : List Lexeme) → DeclaratorIs (Below (suc h)) InDefinition ds x n t → IsDeclarator ds h x n t
declarator_from ds h x n t i = record { grammatical = rw (i.of_form, i.levelled, i.placed, i.scoped, true_le (declarator_height x.0) h (omega (arith, i.low))) refl; after = i.after; spelled = i.spelled }

pub declarator_reading : (ds : List Scope) (h : ℕ) → Reading ((below (suc h)).declarator InDefinition ds) (IsDeclarator ds h) declarator_goes
declarator_reading ds h = said ((below_lawful (suc h)).declarator InDefinition ds) (declarator_to ds h) (declarator_from ds h)

both_false : (a b : Bool) → (a || b) ≡ false → (a ≡ false) × (b ≡ false)
both_false false b e = (refl, e)
both_false true b e = let wrong : true ≡ false = e in cc

neither : (a b c : Bool) → b ≡ false → c ≡ false → ((a && b) || c) ≡ false
neither false b c e f = f
neither true b c e f = rw (e, f) refl

not_true : (a : Bool) → not a ≡ true → a ≡ false
not_true false e = refl
not_true true e = sym e

-- what has no identifier list has none but of its own
no_other_names : (d : DeclaratorTree) → has_names d ≡ false → has_other_names d ≡ false
no_other_names (Declared at n) e = refl
no_other_names (Absent at) e = refl
no_other_names (Grouped at d) e = no_other_names d e
no_other_names (Pointer at qs d) e = no_other_names d e
no_other_names (Array at d b) e = no_other_names d e
no_other_names (Function at d ps variadic) e = no_other_names d e
no_other_names (Unprototyped at d names) e = let b = both_false (has_some names) (has_names d) e in neither (not (is_underived d)) (has_some names) (has_other_names d) b.0 (no_other_names d b.1)

named_to : (ds : List Scope) (h : ℕ) (x : In DeclaratorTree) (n : ℕ) (t : List Lexeme) → IsNamedDeclarator ds h x n t → DeclaratorIs (Below (suc h)) InMember ds x n t
named_to ds h x n t i =
    let d = declarator_to ds h x n t i.is in
    let named = both (declares x.0) (not (has_other_names x.0)) d.of_form in
    record { of_form = rw (named.0, i.no_names) refl; levelled = d.levelled; placed = d.placed; scoped = d.scoped; low = d.low; after = d.after; spelled = d.spelled }

named_from : (ds : List Scope) (h : ℕ) (x : In DeclaratorTree) (n : ℕ) (t : List Lexeme) → DeclaratorIs (Below (suc h)) InMember ds x n t → IsNamedDeclarator ds h x n t
named_from ds h x n t i =
    let named = both (declares x.0) (not (has_names x.0)) i.of_form in
    let none : has_names x.0 ≡ false = not_true (has_names x.0) named.1 in
    let whole : (declares x.0 && not (has_other_names x.0)) ≡ true = rw (named.0, no_other_names x.0 none) refl in
    record { is = declarator_from ds h x n t (record { of_form = whole; levelled = i.levelled; placed = i.placed; scoped = i.scoped; low = i.low; after = i.after; spelled = i.spelled }); no_names = none }

pub named_declarator_reading : (ds : List Scope) (h : ℕ) → Reading ((below (suc h)).declarator InMember ds) (IsNamedDeclarator ds h) named_declarator_goes
named_declarator_reading ds h = said ((below_lawful (suc h)).declarator InMember ds) (named_to ds h) (named_from ds h)

init_to : (ds : List Scope) (h : ℕ) (x : In InitTree) (n : ℕ) (t : List Lexeme) → IsInit ds h x n t → InitIs (Below (suc h)) ds x n t
init_to ds h x n t i =
    let a = both (levelled_init x.0) (placed_init n x.0 && (scoped_init ds x.0 && nat_le (init_height x.0) h)) i.grammatical in
    let c = both (placed_init n x.0) (scoped_init ds x.0 && nat_le (init_height x.0) h) a.1 in let d = both (scoped_init ds x.0) (nat_le (init_height x.0) h) c.1 in
    record { levelled = a.0; placed = c.0; scoped = d.0; low = omega (arith, le_true (init_height x.0) h d.1); after = i.after; spelled = i.spelled }

init_from : (ds : List Scope) (h : ℕ) (x : In InitTree) (n : ℕ) (t : List Lexeme) → InitIs (Below (suc h)) ds x n t → IsInit ds h x n t
init_from ds h x n t i = record { grammatical = rw (i.levelled, i.placed, i.scoped, true_le (init_height x.0) h (omega (arith, i.low))) refl; after = i.after; spelled = i.spelled }

pub init_reading : (ds : List Scope) (h : ℕ) → Reading (initialiser h (below h) ds) (IsInit ds h) init_goes
init_reading ds h = said (initialiser_lawful h (below h) (below_lawful h) ds) (init_to ds h) (init_from ds h)

-- one tree of each form

pub one_expr : (ds : List Scope) (level : Level) (h n : ℕ) (text : List Lexeme) (x y : In ExprTree) → IsExpr ds level h x n text → IsExpr ds level h y n text → x ≡ y
one_expr ds level h n text x y i j = one_tree (expr_reading level ds h) (λ a. refl) x y n text i j

pub one_type_name : (ds : List Scope) (h n : ℕ) (text : List Lexeme) (x y : In (SpecifierTrees × DeclaratorTree)) → IsTypeName ds h x n text → IsTypeName ds h y n text → x ≡ y
one_type_name ds h n text x y i j = one_tree (type_name_reading ds h) (λ a. refl) x y n text i j

pub one_specifiers : (ds : List Scope) (h n : ℕ) (text : List Lexeme) (x y : In SpecifierTrees) → IsSpecifiers ds h x n text → IsSpecifiers ds h y n text → x ≡ y
one_specifiers ds h n text x y i j = one_tree (specifiers_reading ds h) (λ a. refl) x y n text i j

pub one_declarator : (ds : List Scope) (h n : ℕ) (text : List Lexeme) (x y : In DeclaratorTree) → IsDeclarator ds h x n text → IsDeclarator ds h y n text → x ≡ y
one_declarator ds h n text x y i j = one_tree (declarator_reading ds h) (λ a. refl) x y n text i j

pub one_init : (ds : List Scope) (h n : ℕ) (text : List Lexeme) (x y : In InitTree) → IsInit ds h x n text → IsInit ds h y n text → x ≡ y
one_init ds h n text x y i j = one_tree (init_reading ds h) (λ a. refl) x y n text i j
