-- The readings below a height: none below 0, and otherwise those of one height less.
use Rattle.std.proofs.Common.{◌≡◌, refl, subst, ℕ, zero, suc, ◌-◌, ◌<◌, ◌≤◌, arith, Bool, List, Result, Err}
use Rattle.typedef_scopes.specs.Scopes.{Scope}
use Rattle.c_tree.specs.declared.level.Level.{Level}
use Rattle.c_tree.specs.Syntax.{ExprTree, SpecifierTrees, DeclaratorTree, ItemTrees}
use Rattle.c_cursor.specs.declared.stops.ParseStop.{ParseStop}
use Rattle.c_exprs.specs.declared.words.SpecifierForm.{SpecifierForm}
use Rattle.c_exprs.specs.declared.words.DeclaratorForm.{DeclaratorForm}
use Rattle.c_cursor.specs.Readers.{Input}
use Rattle.c_cursor.specs.Given.{Gives}
use Rattle.c_exprs.specs.Subs.{In}
use Rattle.c_exprs.specs.ExprReading.{expression, parenthesised, starred, literal_of}
use Rattle.c_exprs.specs.SpecifierReading.{specifiers}
use Rattle.c_exprs.specs.DeclaratorReading.{declarator}
use Rattle.c_exprs.specs.InitReading.{items}
use Rattle.c_exprs.specs.Reading.{below}

pub no_expr : (h : ℕ) (level : Level) (ds : List Scope) (i : Input) → h < 1 → (below h).expr level ds i ≡ Err i
unfolding below
no_expr zero level ds i lt = refl
no_expr (suc k) level ds i lt = absurd (omega (arith, lt))

pub lower_expr : {A : Type 0} (seen : A → In ExprTree) (r : Result A ParseStop) (h : ℕ) (level : Level) (ds : List Scope) (i j : Input) → 1 ≤ h → Gives seen r (expression (h - 1) (below (h - 1)) level ds i) j → Gives seen r ((below h).expr level ds i) j
unfolding below
lower_expr seen r zero level ds i j le g = absurd (omega (arith, le))
lower_expr seen r (suc k) level ds i j le g = let e : suc k - 1 ≡ k = omega arith in subst (λ m. Gives seen r (expression m (below m) level ds i) j) e g

pub no_parenthesised : (h : ℕ) (at : ℕ) (ds : List Scope) (i : Input) → h < 1 → (below h).parenthesised at ds i ≡ Err i
unfolding below
no_parenthesised zero at ds i lt = refl
no_parenthesised (suc k) at ds i lt = absurd (omega (arith, lt))

pub lower_parenthesised : {A : Type 0} (seen : A → In ExprTree) (r : Result A ParseStop) (h : ℕ) (at : ℕ) (ds : List Scope) (i j : Input) → 1 ≤ h → Gives seen r (parenthesised (h - 1) (below (h - 1)) at ds i) j → Gives seen r ((below h).parenthesised at ds i) j
unfolding below
lower_parenthesised seen r zero at ds i j le g = absurd (omega (arith, le))
lower_parenthesised seen r (suc k) at ds i j le g = let e : suc k - 1 ≡ k = omega arith in subst (λ m. Gives seen r (parenthesised m (below m) at ds i) j) e g

pub no_starred : (h : ℕ) (at : ℕ) (ds : List Scope) (i : Input) → h < 1 → (below h).starred at ds i ≡ Err i
unfolding below
no_starred zero at ds i lt = refl
no_starred (suc k) at ds i lt = absurd (omega (arith, lt))

pub lower_starred : {A : Type 0} (seen : A → In ExprTree) (r : Result A ParseStop) (h : ℕ) (at : ℕ) (ds : List Scope) (i j : Input) → 1 ≤ h → Gives seen r (starred (h - 1) (below (h - 1)) at ds i) j → Gives seen r ((below h).starred at ds i) j
unfolding below
lower_starred seen r zero at ds i j le g = absurd (omega (arith, le))
lower_starred seen r (suc k) at ds i j le g = let e : suc k - 1 ≡ k = omega arith in subst (λ m. Gives seen r (starred m (below m) at ds i) j) e g

pub no_specifiers : (h : ℕ) (form : SpecifierForm) (ds : List Scope) (i : Input) → h < 1 → (below h).specifiers form ds i ≡ Err i
unfolding below
no_specifiers zero form ds i lt = refl
no_specifiers (suc k) form ds i lt = absurd (omega (arith, lt))

pub lower_specifiers : {A : Type 0} (seen : A → In SpecifierTrees) (r : Result A ParseStop) (h : ℕ) (form : SpecifierForm) (ds : List Scope) (i j : Input) → 1 ≤ h → Gives seen r (specifiers (h - 1) (below (h - 1)) form ds i) j → Gives seen r ((below h).specifiers form ds i) j
unfolding below
lower_specifiers seen r zero form ds i j le g = absurd (omega (arith, le))
lower_specifiers seen r (suc k) form ds i j le g = let e : suc k - 1 ≡ k = omega arith in subst (λ m. Gives seen r (specifiers m (below m) form ds i) j) e g

pub no_declarator : (h : ℕ) (form : DeclaratorForm) (ds : List Scope) (i : Input) → h < 1 → (below h).declarator form ds i ≡ Err i
unfolding below
no_declarator zero form ds i lt = refl
no_declarator (suc k) form ds i lt = absurd (omega (arith, lt))

pub lower_declarator : {A : Type 0} (seen : A → In DeclaratorTree) (r : Result A ParseStop) (h : ℕ) (form : DeclaratorForm) (ds : List Scope) (i j : Input) → 1 ≤ h → Gives seen r (declarator (h - 1) (below (h - 1)) form ds i) j → Gives seen r ((below h).declarator form ds i) j
unfolding below
lower_declarator seen r zero form ds i j le g = absurd (omega (arith, le))
lower_declarator seen r (suc k) form ds i j le g = let e : suc k - 1 ≡ k = omega arith in subst (λ m. Gives seen r (declarator m (below m) form ds i) j) e g

pub no_literal : (h : ℕ) (at : ℕ) (t : In (SpecifierTrees × DeclaratorTree)) (i : Input) → h < 1 → (below h).literal at t i ≡ Err i
unfolding below
no_literal zero at t i lt = refl
no_literal (suc k) at t i lt = absurd (omega (arith, lt))

pub lower_literal : {A : Type 0} (seen : A → In ExprTree) (r : Result A ParseStop) (h : ℕ) (at : ℕ) (t : In (SpecifierTrees × DeclaratorTree)) (i j : Input) → 1 ≤ h → Gives seen r (literal_of (h - 1) (below (h - 1)) at t i) j → Gives seen r ((below h).literal at t i) j
unfolding below
lower_literal seen r zero at t i j le g = absurd (omega (arith, le))
lower_literal seen r (suc k) at t i j le g = let e : suc k - 1 ≡ k = omega arith in subst (λ m. Gives seen r (literal_of m (below m) at t i) j) e g

pub no_items : (h : ℕ) (ds : List Scope) (i : Input) → h < 1 → (below h).items ds i ≡ Err i
unfolding below
no_items zero ds i lt = refl
no_items (suc k) ds i lt = absurd (omega (arith, lt))

pub lower_items : {A : Type 0} (seen : A → In (ItemTrees × Bool)) (r : Result A ParseStop) (h : ℕ) (ds : List Scope) (i j : Input) → 1 ≤ h → Gives seen r (items (h - 1) (below (h - 1)) ds i) j → Gives seen r ((below h).items ds i) j
unfolding below
lower_items seen r zero ds i j le g = absurd (omega (arith, le))
lower_items seen r (suc k) ds i j le g = let e : suc k - 1 ≡ k = omega arith in subst (λ m. Gives seen r (items m (below m) ds i) j) e g
