-- A reading that ends in another, and gives what that gives.
use Rattle.std.proofs.Common.{◌≡◌, sym, ◌∙◌, ap, subst, ℕ, ◌≤◌, Bool, true, false, nat_le, List, Result, Ok}
use Rattle.cil_base.specs.declared.tokens.Punctuator.TheVariants.{Star as StarSign}
use Rattle.typedef_scopes.specs.Scopes.{Scope}
use Rattle.c_tree.specs.Syntax.{DeclaratorTree}
use Rattle.c_cursor.specs.declared.stops.ParseStop.{ParseStop}
use Rattle.c_exprs.specs.declared.words.DeclaratorForm.{DeclaratorForm}
use Rattle.c_exprs.specs.declared.words.Derivation.{Derivation}
use Rattle.c_exprs.specs.declared.words.Derivation.TheVariants.{Array as ArrayOf}
use Rattle.c_cursor.specs.Readers.{Input, Reader, head, pick, fail, one, and_then}
use Rattle.c_cursor.specs.Given.{Gives}
use Rattle.c_cursor.specs.Classes.{is_sign, next_is}
use Rattle.c_exprs.specs.Classes.{derivation_for}
use Rattle.c_exprs.specs.Subs.{In, Subs}
use Rattle.c_exprs.specs.DeclaratorReading.{array_of, behind_derivation, derivation, pointer, direct, declarator_at, declarator}
use Rattle.c_exprs.proofs.Tokens.{true_le}

chosen : {A : Type 0} (b : Bool) (met unmet : Reader A) (i : Input) → b ≡ true → pick b met unmet i ≡ met i
chosen b met unmet i e = ap (λ a. pick a met unmet i) e

refused : {A : Type 0} (b : Bool) (met unmet : Reader A) (i : Input) → b ≡ false → pick b met unmet i ≡ unmet i
refused b met unmet i e = ap (λ a. pick a met unmet i) e

allowed : (h : ℕ) (sub : Subs) (form : DeclaratorForm) (ds : List Scope) (i : Input) → 1 ≤ h → declarator h sub form ds i ≡ declarator_at h sub form ds i.at i
allowed h sub form ds i some = chosen (nat_le 1 h) (λ j. declarator_at h sub form ds j.at j) fail i (true_le 1 h some)

starred : (h : ℕ) (sub : Subs) (form : DeclaratorForm) (ds : List Scope) (i : Input) → next_is (is_sign StarSign) (head i.rest) ≡ true → declarator_at h sub form ds i.at i ≡ pointer sub form i.at ds i
starred h sub form ds i e = chosen (next_is (is_sign StarSign) (head i.rest)) (pointer sub form i.at ds) (direct h sub form i.at ds) i e

unstarred : (h : ℕ) (sub : Subs) (form : DeclaratorForm) (ds : List Scope) (i : Input) → next_is (is_sign StarSign) (head i.rest) ≡ false → declarator_at h sub form ds i.at i ≡ direct h sub form i.at ds i
unstarred h sub form ds i e = refused (next_is (is_sign StarSign) (head i.rest)) (pointer sub form i.at ds) (direct h sub form i.at ds) i e

pub declarator_pointer : {A : Type 0} (seen : A → In DeclaratorTree) (r : Result A ParseStop) (h : ℕ) (sub : Subs) (form : DeclaratorForm) (ds : List Scope) (b : Bool) (at : ℕ) (i j : Input) →
    1 ≤ h → at ≡ i.at → b ≡ next_is (is_sign StarSign) (head i.rest) → b ≡ true → Gives seen r (pointer sub form at ds i) j → Gives seen r (declarator h sub form ds i) j
declarator_pointer seen r h sub form ds b at i j some here is on g =
    subst (λ w. Gives seen r w j) (ap (λ n. pointer sub form n ds i) here ∙ sym (allowed h sub form ds i some ∙ starred h sub form ds i (sym is ∙ on))) g

pub declarator_direct : {A : Type 0} (seen : A → In DeclaratorTree) (r : Result A ParseStop) (h : ℕ) (sub : Subs) (form : DeclaratorForm) (ds : List Scope) (b : Bool) (at : ℕ) (i j : Input) →
    1 ≤ h → at ≡ i.at → b ≡ next_is (is_sign StarSign) (head i.rest) → b ≡ false → Gives seen r (direct h sub form at ds i) j → Gives seen r (declarator h sub form ds i) j
declarator_direct seen r h sub form ds b at i j some here is off g =
    subst (λ w. Gives seen r w j) (ap (λ n. direct h sub form n ds i) here ∙ sym (allowed h sub form ds i some ∙ unstarred h sub form ds i (sym is ∙ off))) g

pub derived_array : {A : Type 0} (seen : A → In DeclaratorTree) (r : Result A ParseStop) (h : ℕ) (sub : Subs) (form : DeclaratorForm) (at b : ℕ) (x : In DeclaratorTree) (k : Derivation) (i j l : Input) →
    b ≡ i.at → one (derivation_for h x.0) i ≡ Ok (k, j) → k ≡ ArrayOf → Gives seen r (array_of sub at b x j) l → Gives seen r (derivation h sub form at x i) l
derived_array seen r h sub form at b x k i j l here took is g =
    let behind : behind_derivation sub form at b x ArrayOf j ≡ behind_derivation sub form at i.at x k j = ap (λ n. behind_derivation sub form at n x ArrayOf j) here ∙ ap (λ m. behind_derivation sub form at i.at x m j) (sym is) in
    let whole : derivation h sub form at x i ≡ behind_derivation sub form at i.at x k j = ap (λ o. and_then (λ m. behind_derivation sub form at i.at x m) o) took in
    subst (λ w. Gives seen r w l) (behind ∙ sym whole) g
