-- What the public calls answer, from what the readings give.
use Rattle.std.proofs.Common.{◌≡◌, refl, sym, ◌∙◌, ap, subst, ℕ, List, drop, Ok, Err, Result, IfOk, IfErr}
use Rattle.typedef_scopes.specs.Scopes.{Scope}
use Rattle.c_tree.specs.declared.level.Level.{Level}
use Rattle.c_tree.specs.Syntax.{ExprTree, SpecifierTrees, DeclaratorTree, InitTree}
use Rattle.c_cursor.specs.declared.stops.ParseStop.{ParseStop}
use Rattle.c_cursor.specs.declared.stops.ParseStop.TheVariants.{At, Memory}
use Rattle.c_exprs.specs.declared.words.SpecifierForm.TheVariants.{Declaration as InDeclaration}
use Rattle.c_exprs.specs.declared.words.DeclaratorForm.TheVariants.{Definition as InDefinition, Member as InMember}
use Rattle.c_cursor.specs.Lexemes.{Standing, ahead}
use Rattle.c_cursor.specs.Given.{Fails, Gives}
use Rattle.c_exprs.specs.Subs.{In}
use Rattle.c_exprs.specs.ExprReading.{expression, type_name}
use Rattle.c_exprs.specs.SpecifierReading.{specifiers}
use Rattle.c_exprs.specs.DeclaratorReading.{declarator}
use Rattle.c_exprs.specs.InitReading.{initialiser}
use Rattle.c_exprs.specs.Reading.{readings, below}
use Rattle.c_exprs.specs.Answers.{Reads, Refuses}
use Rattle.c_exprs.specs.Forms.{IsExpr, expr_goes, IsTypeName, type_name_goes, IsSpecifiers, specifiers_goes, IsDeclarator, declarator_goes, IsNamedDeclarator, named_declarator_goes, IsInit, init_goes}
use Rattle.c_cursor.specs.Telling.{Tells}
use Rattle.c_exprs.proofs.Public.{gives, refuses, expr_reading, type_name_reading, specifiers_reading, declarator_reading, named_declarator_reading, init_reading}

-- the tokens where the number says
left_there : (c d : Standing) (n : ℕ) → d.all ≡ c.all → n ≡ d.at → drop d.at d.all ≡ drop n c.all
left_there c d n same e = ap (λ us. drop d.at us) same ∙ ap (λ m. drop m c.all) (sym e)

pub reads_expr : (h : ℕ) (level : Level) (ds : List Scope) (c d : Standing) (x : In ExprTree) → expression h (below h) level ds (ahead c) ≡ Ok (x, ahead d) → Reads (IsExpr ds level h) (expr_goes level) c.at (drop c.at c.all) x d.at (drop d.at d.all)
unfolding below
reads_expr h level ds c d x e = gives (expr_reading level ds h) (λ a. refl) c.at (drop c.at c.all) x (ahead d) e

pub refused_expr : (h : ℕ) (level : Level) (ds : List Scope) (c d : Standing) (stop : ParseStop) → Fails stop (expression h (below h) level ds (ahead c)) (ahead d) → d.all ≡ c.all → Tells (λ i. Refuses (IsExpr ds level h) (expr_goes level) c.at (drop c.at c.all) i (drop i c.all)) stop
unfolding below
refused_expr h level ds c d (At n) f same =
    subst (λ m. Refuses (IsExpr ds level h) (expr_goes level) c.at (drop c.at c.all) m (drop n c.all)) (sym f.1)
    (subst (λ us. Refuses (IsExpr ds level h) (expr_goes level) c.at (drop c.at c.all) d.at us) (left_there c d n same f.1) (refuses (expr_reading level ds h) (λ a. refl) c.at (drop c.at c.all) (ahead d) f.0))
refused_expr h level ds c d Memory f same = tt

pub reads_type_name : (h : ℕ) (ds : List Scope) (c d : Standing) (x : In (SpecifierTrees × DeclaratorTree)) → type_name (readings h (below h)) ds (ahead c) ≡ Ok (x, ahead d) → Reads (IsTypeName ds h) (type_name_goes) c.at (drop c.at c.all) x d.at (drop d.at d.all)
unfolding below
reads_type_name h ds c d x e = gives (type_name_reading ds h) (λ a. refl) c.at (drop c.at c.all) x (ahead d) e

pub refused_type_name : (h : ℕ) (ds : List Scope) (c d : Standing) (stop : ParseStop) → Fails stop (type_name (readings h (below h)) ds (ahead c)) (ahead d) → d.all ≡ c.all → Tells (λ i. Refuses (IsTypeName ds h) (type_name_goes) c.at (drop c.at c.all) i (drop i c.all)) stop
unfolding below
refused_type_name h ds c d (At n) f same =
    subst (λ m. Refuses (IsTypeName ds h) (type_name_goes) c.at (drop c.at c.all) m (drop n c.all)) (sym f.1)
    (subst (λ us. Refuses (IsTypeName ds h) (type_name_goes) c.at (drop c.at c.all) d.at us) (left_there c d n same f.1) (refuses (type_name_reading ds h) (λ a. refl) c.at (drop c.at c.all) (ahead d) f.0))
refused_type_name h ds c d Memory f same = tt

pub type_name_reads : {A : Type 0} (h : ℕ) (ds es : List Scope) (c d : Standing) (seen : A → SpecifierTrees × DeclaratorTree) (result : Result A ParseStop) → Gives (λ x. (seen x, es)) result (type_name (readings h (below h)) ds (ahead c)) (ahead d) →
    IfOk result (λ x. Reads (IsTypeName ds h) (type_name_goes) c.at (drop c.at c.all) (seen x, es) d.at (drop d.at d.all))
type_name_reads h ds es c d seen (Ok x) g = reads_type_name h ds c d (seen x, es) g
type_name_reads h ds es c d seen (Err stop) g = tt

pub type_name_refused : {A : Type 0} (h : ℕ) (ds es : List Scope) (c d : Standing) (seen : A → SpecifierTrees × DeclaratorTree) (result : Result A ParseStop) → Gives (λ x. (seen x, es)) result (type_name (readings h (below h)) ds (ahead c)) (ahead d) →
    d.all ≡ c.all → IfErr result (λ stop. Tells (λ i. Refuses (IsTypeName ds h) (type_name_goes) c.at (drop c.at c.all) i (drop i c.all)) stop)
type_name_refused h ds es c d seen (Ok x) g same = tt
type_name_refused h ds es c d seen (Err stop) g same = refused_type_name h ds c d stop g same

pub reads_specifiers : (h : ℕ) (ds : List Scope) (c d : Standing) (x : In SpecifierTrees) → specifiers h (below h) InDeclaration ds (ahead c) ≡ Ok (x, ahead d) → Reads (IsSpecifiers ds h) (specifiers_goes) c.at (drop c.at c.all) x d.at (drop d.at d.all)
unfolding below
reads_specifiers h ds c d x e = gives (specifiers_reading ds h) (λ a. refl) c.at (drop c.at c.all) x (ahead d) e

pub refused_specifiers : (h : ℕ) (ds : List Scope) (c d : Standing) (stop : ParseStop) → Fails stop (specifiers h (below h) InDeclaration ds (ahead c)) (ahead d) → d.all ≡ c.all → Tells (λ i. Refuses (IsSpecifiers ds h) (specifiers_goes) c.at (drop c.at c.all) i (drop i c.all)) stop
unfolding below
refused_specifiers h ds c d (At n) f same =
    subst (λ m. Refuses (IsSpecifiers ds h) (specifiers_goes) c.at (drop c.at c.all) m (drop n c.all)) (sym f.1)
    (subst (λ us. Refuses (IsSpecifiers ds h) (specifiers_goes) c.at (drop c.at c.all) d.at us) (left_there c d n same f.1) (refuses (specifiers_reading ds h) (λ a. refl) c.at (drop c.at c.all) (ahead d) f.0))
refused_specifiers h ds c d Memory f same = tt

pub reads_declarator : (h : ℕ) (ds : List Scope) (c d : Standing) (x : In DeclaratorTree) → declarator h (below h) InDefinition ds (ahead c) ≡ Ok (x, ahead d) → Reads (IsDeclarator ds h) (declarator_goes) c.at (drop c.at c.all) x d.at (drop d.at d.all)
unfolding below
reads_declarator h ds c d x e = gives (declarator_reading ds h) (λ a. refl) c.at (drop c.at c.all) x (ahead d) e

pub refused_declarator : (h : ℕ) (ds : List Scope) (c d : Standing) (stop : ParseStop) → Fails stop (declarator h (below h) InDefinition ds (ahead c)) (ahead d) → d.all ≡ c.all → Tells (λ i. Refuses (IsDeclarator ds h) (declarator_goes) c.at (drop c.at c.all) i (drop i c.all)) stop
unfolding below
refused_declarator h ds c d (At n) f same =
    subst (λ m. Refuses (IsDeclarator ds h) (declarator_goes) c.at (drop c.at c.all) m (drop n c.all)) (sym f.1)
    (subst (λ us. Refuses (IsDeclarator ds h) (declarator_goes) c.at (drop c.at c.all) d.at us) (left_there c d n same f.1) (refuses (declarator_reading ds h) (λ a. refl) c.at (drop c.at c.all) (ahead d) f.0))
refused_declarator h ds c d Memory f same = tt

pub reads_named : (h : ℕ) (ds : List Scope) (c d : Standing) (x : In DeclaratorTree) → declarator h (below h) InMember ds (ahead c) ≡ Ok (x, ahead d) → Reads (IsNamedDeclarator ds h) (named_declarator_goes) c.at (drop c.at c.all) x d.at (drop d.at d.all)
unfolding below
reads_named h ds c d x e = gives (named_declarator_reading ds h) (λ a. refl) c.at (drop c.at c.all) x (ahead d) e

pub refused_named : (h : ℕ) (ds : List Scope) (c d : Standing) (stop : ParseStop) → Fails stop (declarator h (below h) InMember ds (ahead c)) (ahead d) → d.all ≡ c.all → Tells (λ i. Refuses (IsNamedDeclarator ds h) (named_declarator_goes) c.at (drop c.at c.all) i (drop i c.all)) stop
unfolding below
refused_named h ds c d (At n) f same =
    subst (λ m. Refuses (IsNamedDeclarator ds h) (named_declarator_goes) c.at (drop c.at c.all) m (drop n c.all)) (sym f.1)
    (subst (λ us. Refuses (IsNamedDeclarator ds h) (named_declarator_goes) c.at (drop c.at c.all) d.at us) (left_there c d n same f.1) (refuses (named_declarator_reading ds h) (λ a. refl) c.at (drop c.at c.all) (ahead d) f.0))
refused_named h ds c d Memory f same = tt

pub reads_init : (h : ℕ) (ds : List Scope) (c d : Standing) (x : In InitTree) → initialiser h (below h) ds (ahead c) ≡ Ok (x, ahead d) → Reads (IsInit ds h) (init_goes) c.at (drop c.at c.all) x d.at (drop d.at d.all)
unfolding below
reads_init h ds c d x e = gives (init_reading ds h) (λ a. refl) c.at (drop c.at c.all) x (ahead d) e

pub refused_init : (h : ℕ) (ds : List Scope) (c d : Standing) (stop : ParseStop) → Fails stop (initialiser h (below h) ds (ahead c)) (ahead d) → d.all ≡ c.all → Tells (λ i. Refuses (IsInit ds h) (init_goes) c.at (drop c.at c.all) i (drop i c.all)) stop
unfolding below
refused_init h ds c d (At n) f same =
    subst (λ m. Refuses (IsInit ds h) (init_goes) c.at (drop c.at c.all) m (drop n c.all)) (sym f.1)
    (subst (λ us. Refuses (IsInit ds h) (init_goes) c.at (drop c.at c.all) d.at us) (left_there c d n same f.1) (refuses (init_reading ds h) (λ a. refl) c.at (drop c.at c.all) (ahead d) f.0))
refused_init h ds c d Memory f same = tt
