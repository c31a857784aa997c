-- The readings of parts below a height: none below 0, and otherwise those of one height less.
use Rattle.std.proofs.Common.{◌≡◌, refl, sym, subst, ℕ, zero, suc, ◌-◌, ◌<◌, ◌≤◌, arith, List, Result, Err}
use Rattle.typedef_scopes.specs.Scopes.{Scope}
use Rattle.c_tree.specs.declared.level.Level.{Level}
use Rattle.c_tree.specs.Syntax.{ExprTree, SpecifierTrees, DeclaratorTree, InitTree}
use Rattle.c_tree.specs.Units.{DeclarationTree, StmtTree, BlockItems}
use Rattle.c_cursor.specs.declared.stops.ParseStop.{ParseStop}
use Rattle.c_exprs.specs.declared.words.SpecifierForm.{SpecifierForm}
use Rattle.c_exprs.specs.declared.words.DeclaratorForm.{DeclaratorForm}
use Rattle.c_cursor.specs.Readers.{Input}
use Rattle.c_cursor.specs.Given.{Gives, Fails}
use Rattle.c_exprs.specs.Subs.{In}
use Rattle.c_exprs.specs.InitReading.{initialiser}
use Rattle.c_exprs.specs.Reading.{readings, below}
use Rattle.c_parser.specs.DeclarationReading.{declaration}
use Rattle.c_parser.specs.StatementReading.{statement, body}
use Rattle.c_parser.specs.UnitReading.{lower}

pub no_expr : (h : ℕ) (level : Level) (ds : List Scope) (i : Input) → h < 1 → (lower h).trees.expr level ds i ≡ Err i
unfolding lower below
no_expr zero level ds i lt = refl
no_expr (suc k) level ds i lt = absurd (omega (arith, lt))

pub lower_expr : {A : Type 0} (seen : A → In ExprTree) (r : Result A ParseStop) (h : ℕ) (level : Level) (ds : List Scope) (i j : Input) → 1 ≤ h → Gives seen r ((readings (h - 1) (below (h - 1))).expr level ds i) j → Gives seen r ((lower h).trees.expr level ds i) j
unfolding lower below
lower_expr seen r zero level ds i j le g = absurd (omega (arith, le))
lower_expr seen r (suc k) level ds i j le g = let e : suc k - 1 ≡ k = omega arith in subst (λ m. Gives seen r ((readings m (below m)).expr level ds i) j) e g

pub no_specifiers : (h : ℕ) (form : SpecifierForm) (ds : List Scope) (i : Input) → h < 1 → (lower h).trees.specifiers form ds i ≡ Err i
unfolding lower below
no_specifiers zero form ds i lt = refl
no_specifiers (suc k) form ds i lt = absurd (omega (arith, lt))

pub lower_specifiers : {A : Type 0} (seen : A → In SpecifierTrees) (r : Result A ParseStop) (h : ℕ) (form : SpecifierForm) (ds : List Scope) (i j : Input) → 1 ≤ h → Gives seen r ((readings (h - 1) (below (h - 1))).specifiers form ds i) j → Gives seen r ((lower h).trees.specifiers form ds i) j
unfolding lower below
lower_specifiers seen r zero form ds i j le g = absurd (omega (arith, le))
lower_specifiers seen r (suc k) form ds i j le g = let e : suc k - 1 ≡ k = omega arith in subst (λ m. Gives seen r ((readings m (below m)).specifiers form ds i) j) e g

pub no_declarator : (h : ℕ) (form : DeclaratorForm) (ds : List Scope) (i : Input) → h < 1 → (lower h).trees.declarator form ds i ≡ Err i
unfolding lower below
no_declarator zero form ds i lt = refl
no_declarator (suc k) form ds i lt = absurd (omega (arith, lt))

pub lower_declarator : {A : Type 0} (seen : A → In DeclaratorTree) (r : Result A ParseStop) (h : ℕ) (form : DeclaratorForm) (ds : List Scope) (i j : Input) → 1 ≤ h → Gives seen r ((readings (h - 1) (below (h - 1))).declarator form ds i) j → Gives seen r ((lower h).trees.declarator form ds i) j
unfolding lower below
lower_declarator seen r zero form ds i j le g = absurd (omega (arith, le))
lower_declarator seen r (suc k) form ds i j le g = let e : suc k - 1 ≡ k = omega arith in subst (λ m. Gives seen r ((readings m (below m)).declarator form ds i) j) e g

pub no_init : (h : ℕ) (ds : List Scope) (i : Input) → h < 1 → (lower h).init ds i ≡ Err i
unfolding lower below
no_init zero ds i lt = refl
no_init (suc k) ds i lt = absurd (omega (arith, lt))

pub lower_init : {A : Type 0} (seen : A → In InitTree) (r : Result A ParseStop) (h : ℕ) (ds : List Scope) (i j : Input) → 1 ≤ h → Gives seen r (initialiser (h - 1) (below (h - 1)) ds i) j → Gives seen r ((lower h).init ds i) j
unfolding lower below
lower_init seen r zero ds i j le g = absurd (omega (arith, le))
lower_init seen r (suc k) ds i j le g = let e : suc k - 1 ≡ k = omega arith in subst (λ m. Gives seen r (initialiser m (below m) ds i) j) e g

pub no_declaration : (h : ℕ) (ds : List Scope) (i : Input) → h < 1 → (lower h).declaration ds i ≡ Err i
unfolding lower below
no_declaration zero ds i lt = refl
no_declaration (suc k) ds i lt = absurd (omega (arith, lt))

pub lower_declaration : {A : Type 0} (seen : A → In DeclarationTree) (r : Result A ParseStop) (h : ℕ) (ds : List Scope) (i j : Input) → 1 ≤ h → Gives seen r (declaration (lower (h - 1)) ds i) j → Gives seen r ((lower h).declaration ds i) j
unfolding lower below
lower_declaration seen r zero ds i j le g = absurd (omega (arith, le))
lower_declaration seen r (suc k) ds i j le g = let e : suc k - 1 ≡ k = omega arith in subst (λ m. Gives seen r (declaration (lower m) ds i) j) e g

pub no_statement : (h : ℕ) (ds : List Scope) (i : Input) → h < 1 → (lower h).statement ds i ≡ Err i
unfolding lower below
no_statement zero ds i lt = refl
no_statement (suc k) ds i lt = absurd (omega (arith, lt))

pub lower_statement : {A : Type 0} (seen : A → In StmtTree) (r : Result A ParseStop) (h : ℕ) (ds : List Scope) (i j : Input) → 1 ≤ h → Gives seen r (statement (h - 1) (lower (h - 1)) ds i) j → Gives seen r ((lower h).statement ds i) j
unfolding lower below
lower_statement seen r zero ds i j le g = absurd (omega (arith, le))
lower_statement seen r (suc k) ds i j le g = let e : suc k - 1 ≡ k = omega arith in subst (λ m. Gives seen r (statement m (lower m) ds i) j) e g

pub no_body : (h : ℕ) (ds : List Scope) (i : Input) → h < 1 → (lower h).body ds i ≡ Err i
unfolding lower below
no_body zero ds i lt = refl
no_body (suc k) ds i lt = absurd (omega (arith, lt))

pub lower_body : {A : Type 0} (seen : A → BlockItems) (r : Result A ParseStop) (h : ℕ) (ds : List Scope) (i j : Input) → 1 ≤ h → Gives seen r (body (h - 1) (lower (h - 1)) ds i) j → Gives seen r ((lower h).body ds i) j
unfolding lower below
lower_body seen r zero ds i j le g = absurd (omega (arith, le))
lower_body seen r (suc k) ds i j le g = let e : suc k - 1 ≡ k = omega arith in subst (λ m. Gives seen r (body m (lower m) ds i) j) e g

pub expr_same : (h : ℕ) (level : Level) (ds : List Scope) (i : Input) → 1 ≤ h → (lower h).trees.expr level ds i ≡ (readings (h - 1) (below (h - 1))).expr level ds i
unfolding lower below
expr_same zero level ds i le = absurd (omega (arith, le))
expr_same (suc k) level ds i le = let e : suc k - 1 ≡ k = omega arith in subst (λ m. (lower (suc k)).trees.expr level ds i ≡ (readings m (below m)).expr level ds i) (sym e) refl

pub expr_fails : (e : ParseStop) (h : ℕ) (level : Level) (ds : List Scope) (i j : Input) → 1 ≤ h → Fails e ((readings (h - 1) (below (h - 1))).expr level ds i) j → Fails e ((lower h).trees.expr level ds i) j
expr_fails e h level ds i j le f = lower_expr (λ (x : In ExprTree). x) (Err e) h level ds i j le f

pub specifiers_same : (h : ℕ) (form : SpecifierForm) (ds : List Scope) (i : Input) → 1 ≤ h → (lower h).trees.specifiers form ds i ≡ (readings (h - 1) (below (h - 1))).specifiers form ds i
unfolding lower below
specifiers_same zero form ds i le = absurd (omega (arith, le))
specifiers_same (suc k) form ds i le = let e : suc k - 1 ≡ k = omega arith in subst (λ m. (lower (suc k)).trees.specifiers form ds i ≡ (readings m (below m)).specifiers form ds i) (sym e) refl

pub specifiers_fails : (e : ParseStop) (h : ℕ) (form : SpecifierForm) (ds : List Scope) (i j : Input) → 1 ≤ h → Fails e ((readings (h - 1) (below (h - 1))).specifiers form ds i) j → Fails e ((lower h).trees.specifiers form ds i) j
specifiers_fails e h form ds i j le f = lower_specifiers (λ (x : In SpecifierTrees). x) (Err e) h form ds i j le f

pub declarator_same : (h : ℕ) (form : DeclaratorForm) (ds : List Scope) (i : Input) → 1 ≤ h → (lower h).trees.declarator form ds i ≡ (readings (h - 1) (below (h - 1))).declarator form ds i
unfolding lower below
declarator_same zero form ds i le = absurd (omega (arith, le))
declarator_same (suc k) form ds i le = let e : suc k - 1 ≡ k = omega arith in subst (λ m. (lower (suc k)).trees.declarator form ds i ≡ (readings m (below m)).declarator form ds i) (sym e) refl

pub declarator_fails : (e : ParseStop) (h : ℕ) (form : DeclaratorForm) (ds : List Scope) (i j : Input) → 1 ≤ h → Fails e ((readings (h - 1) (below (h - 1))).declarator form ds i) j → Fails e ((lower h).trees.declarator form ds i) j
declarator_fails e h form ds i j le f = lower_declarator (λ (x : In DeclaratorTree). x) (Err e) h form ds i j le f

pub init_same : (h : ℕ) (ds : List Scope) (i : Input) → 1 ≤ h → (lower h).init ds i ≡ initialiser (h - 1) (below (h - 1)) ds i
unfolding lower below
init_same zero ds i le = absurd (omega (arith, le))
init_same (suc k) ds i le = let e : suc k - 1 ≡ k = omega arith in subst (λ m. (lower (suc k)).init ds i ≡ initialiser m (below m) ds i) (sym e) refl

pub init_fails : (e : ParseStop) (h : ℕ) (ds : List Scope) (i j : Input) → 1 ≤ h → Fails e (initialiser (h - 1) (below (h - 1)) ds i) j → Fails e ((lower h).init ds i) j
init_fails e h ds i j le f = lower_init (λ (x : In InitTree). x) (Err e) h ds i j le f
