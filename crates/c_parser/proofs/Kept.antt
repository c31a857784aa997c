-- Declarations, statements and expressions change the innermost scope alone, so that a block is left with the scopes in front of it.
use Rattle.std.proofs.Common.{◌≡◌, refl, sym, ap, ◌∙◌, subst, ℕ, ◌-◌, ◌≤◌, arith, Bool, true, false, if◌then◌else◌, List, [], ◌∷◌, ◌++◌, length, Option, Some, None, Result, Ok, Err, IfOk}
use Rattle.typedef_scopes.specs.Scopes.{Scope}
use Rattle.c_tree.specs.declared.level.Level.{Level}
use Rattle.c_tree.specs.declared.expression.Expr.{Expr}
use Rattle.c_tree.specs.declared.statement.Declaration.{Declaration}
use Rattle.c_tree.specs.declared.statement.Stmt.{Stmt}
use Rattle.cil_base.specs.declared.numbers.NameId.{NameId}
use Rattle.typedef_scopes.specs.Scopes.{declared}
use Rattle.c_tree.specs.Syntax.{ExprTree, DeclaratorTree, Declared, Absent, Grouped, Pointer, Array, Function, Unprototyped, InitTree}
use Rattle.c_tree.specs.Levels.{is_underived}
use Rattle.c_tree.specs.Units.{DeclarationTree, Declares, Asserts, StmtTree, Labelled, Case, Default, Compound, Expression, If, IfElse, Switch, While, Do, For, Goto, Continue, Break, Return}
use Rattle.c_tree.specs.View.{expr_of}
use Rattle.c_tree.specs.UnitView.{declaration_of, stmt_of}
use Rattle.c_tree.specs.Scoped.{name_of, has_typedef, after_expr, after_specifiers, after_declarator, after_maybe, after_maybe_init, after_named, after_init_declarator, after_init_declarators, after_declaration, after_stmt, after_parameters, declared_all, after_own_list}
use Rattle.c_cursor.specs.declared.stops.ParseStop.{ParseStop}
use Rattle.c_cursor.specs.Readers.{Input}
use Rattle.c_cursor.specs.Given.{Gives}
use Rattle.c_exprs.specs.DeclaratorReading.{outer_of}
use Rattle.c_exprs.proofs.LeaveLemmas.{left_outer, two_of_outer}
use Rattle.c_exprs.proofs.ScopeLemmas.{outer_declared, outer_declared_if, outer_expr, outer_specifiers, outer_declarator, outer_init, outer_parameters}
use Rattle.c_exprs.specs.Reading.{readings, below}
use Rattle.c_parser.specs.DeclarationReading.{declaration}
use Rattle.c_parser.specs.StatementReading.{statement}
use Rattle.c_parser.specs.UnitReading.{lower}
use Rattle.c_parser.proofs.Lower.{expr_same, lower_declaration, lower_statement}
use Rattle.c_parser.proofs.UnitLaws.{lower_lawful}

outer_maybe : (ds : List Scope) (e : Option ExprTree) → outer_of (after_maybe ds e) ≡ outer_of ds
outer_maybe ds None = refl
outer_maybe ds (Some e) = outer_expr ds e

outer_maybe_init : (ds : List Scope) (i : Option InitTree) → outer_of (after_maybe_init ds i) ≡ outer_of ds
outer_maybe_init ds None = refl
outer_maybe_init ds (Some i) = outer_init ds i

outer_init_declarators : (typedef : Bool) (ds : List Scope) (xs : List (DeclaratorTree × Option InitTree)) → outer_of (after_init_declarators typedef ds xs) ≡ outer_of ds
outer_init_declarators typedef ds [] = refl
outer_init_declarators typedef ds (x ∷ xs) =
    outer_init_declarators typedef (after_init_declarator typedef ds x) xs
    ∙ (outer_maybe_init (after_named typedef ds x.0) x.1 ∙ (outer_declared_if (name_of x.0) typedef (after_declarator ds x.0) ∙ outer_declarator ds x.0))

outer_declaration : (ds : List Scope) (d : DeclarationTree) → outer_of (after_declaration ds d) ≡ outer_of ds
outer_declaration ds (Declares at ss xs) = outer_init_declarators (has_typedef ss) (after_specifiers ds ss) xs ∙ outer_specifiers ds ss
outer_declaration ds (Asserts at e m texts) = outer_expr ds e

outer_stmt : (ds : List Scope) (s : StmtTree) → outer_of (after_stmt ds s) ≡ outer_of ds
outer_stmt ds (Labelled at n s) = outer_stmt ds s
outer_stmt ds (Case at e s) = outer_stmt (after_expr ds e) s ∙ outer_expr ds e
outer_stmt ds (Default at s) = outer_stmt ds s
outer_stmt ds (Compound at items) = refl
outer_stmt ds (Expression at e) = outer_maybe ds e
outer_stmt ds (If at e s) = refl
outer_stmt ds (IfElse at e s u) = refl
outer_stmt ds (Switch at e s) = refl
outer_stmt ds (While at e s) = refl
outer_stmt ds (Do at s e) = refl
outer_stmt ds (For at start c step s) = refl
outer_stmt ds (Goto at n) = refl
outer_stmt ds (Continue at) = refl
outer_stmt ds (Break at) = refl
outer_stmt ds (Return at e) = outer_maybe ds e

expr_read : (h : ℕ) (level : Level) (ds es : List Scope) (e : ExprTree) (i j : Input) → (lower h).trees.expr level ds i ≡ Ok ((e, es), j) → outer_of es ≡ outer_of ds
expr_read h level ds es e i j read = let t = ((lower_lawful h).trees.expr level ds).takes i.at i.rest (e, es) j tt read in ap outer_of t.holds.good.after ∙ outer_expr ds e

-- the same of what the code reads, which is of one height less
pub expr_kept_below : (h : ℕ) (level : Level) (ds es : List Scope) (e : ExprTree) (i j : Input) → 1 ≤ h → (readings (h - 1) (below (h - 1))).expr level ds i ≡ Ok ((e, es), j) → outer_of es ≡ outer_of ds
expr_kept_below h level ds es e i j le read = expr_read h level ds es e i j (expr_same h level ds i le ∙ read)

declaration_read : (h : ℕ) (ds es : List Scope) (d : DeclarationTree) (i j : Input) → (lower h).declaration ds i ≡ Ok ((d, es), j) → outer_of es ≡ outer_of ds
declaration_read h ds es d i j read = let t = ((lower_lawful h).declaration ds).takes i.at i.rest (d, es) j tt read in ap outer_of t.holds.after ∙ outer_declaration ds d

declaration_kept : (r : Result Declaration ParseStop) (h : ℕ) (ds es : List Scope) (i j : Input) → Gives (λ x. (declaration_of x, es)) r ((lower h).declaration ds i) j → IfOk r (λ _. outer_of es ≡ outer_of ds)
declaration_kept (Ok x) h ds es i j g = declaration_read h ds es (declaration_of x) i j g
declaration_kept (Err e) h ds es i j g = tt

pub declaration_kept_below : (r : Result Declaration ParseStop) (h : ℕ) (ds es : List Scope) (i j : Input) → 1 ≤ h → Gives (λ x. (declaration_of x, es)) r (declaration (lower (h - 1)) ds i) j → IfOk r (λ _. outer_of es ≡ outer_of ds)
declaration_kept_below r h ds es i j le g = declaration_kept r h ds es i j (lower_declaration (λ x. (declaration_of x, es)) r h ds i j le g)

statement_read : (h : ℕ) (ds es : List Scope) (s : StmtTree) (i j : Input) → (lower h).statement ds i ≡ Ok ((s, es), j) → outer_of es ≡ outer_of ds
statement_read h ds es s i j read = let t = ((lower_lawful h).statement ds).takes i.at i.rest (s, es) j tt read in ap outer_of t.holds.after ∙ outer_stmt ds s

statement_kept : (r : Result Stmt ParseStop) (h : ℕ) (ds es : List Scope) (i j : Input) → Gives (λ x. (stmt_of x, es)) r ((lower h).statement ds i) j → IfOk r (λ _. outer_of es ≡ outer_of ds)
statement_kept (Ok x) h ds es i j g = statement_read h ds es (stmt_of x) i j g
statement_kept (Err e) h ds es i j g = tt

pub statement_kept_below : (r : Result Stmt ParseStop) (h : ℕ) (ds es : List Scope) (i j : Input) → 1 ≤ h → Gives (λ x. (stmt_of x, es)) r (statement (h - 1) (lower (h - 1)) ds i) j → IfOk r (λ _. outer_of es ≡ outer_of ds)
statement_kept_below r h ds es i j le g = statement_kept r h ds es i j (lower_statement (λ x. (stmt_of x, es)) r h ds i j le g)

-- a block is left with the scopes outside the innermost
pub left_block : (es new : List Scope) → (innermost : Scope) × (es ≡ new ++ innermost ∷ []) → new ≡ outer_of es
left_block es new w = sym (left_outer es new w)

some_outer : (ds : List Scope) → 2 ≤ length ds → 1 ≤ length (outer_of ds)
some_outer [] h = absurd (omega (arith, h))
some_outer (s ∷ []) h = absurd (omega (arith, h))
some_outer (s ∷ t ∷ ss) h = omega arith

-- where the scopes outside the innermost stay, the innermost can still be left
pub two_kept : (es ds : List Scope) → outer_of es ≡ outer_of ds → 2 ≤ length ds → 2 ≤ length es
two_kept es ds e two = two_of_outer es (subst (λ m. 1 ≤ length m) (sym e) (some_outer ds two))

-- what a function's own list declares

outer_either : (b : Bool) (ds es fs : List Scope) → outer_of es ≡ outer_of ds → outer_of fs ≡ outer_of ds → outer_of (if b then es else fs) ≡ outer_of ds
outer_either true ds es fs e f = e
outer_either false ds es fs e f = f

outer_declared_all : (ds : List Scope) (ns : List NameId) → outer_of (declared_all ds ns) ≡ outer_of ds
outer_declared_all ds [] = refl
outer_declared_all ds (n ∷ ns) = outer_declared_all (declared n false ds) ns ∙ outer_declared n false ds

outer_own_list : (ds : List Scope) (d : DeclaratorTree) → outer_of (after_own_list ds d) ≡ outer_of ds
outer_own_list ds (Declared at n) = refl
outer_own_list ds (Absent at) = refl
outer_own_list ds (Grouped at d) = outer_own_list ds d
outer_own_list ds (Pointer at qs d) = outer_own_list ds d
outer_own_list ds (Array at d b) = outer_own_list ds d
outer_own_list ds (Function at d ps variadic) = outer_either (is_underived d) ds (after_parameters ds ps) (after_own_list ds d) (outer_parameters ds ps) (outer_own_list ds d)
outer_own_list ds (Unprototyped at d names) = outer_either (is_underived d) ds (declared_all ds names) (after_own_list ds d) (outer_declared_all ds names) (outer_own_list ds d)

pub own_list_kept : (es ds : List Scope) (d : DeclaratorTree) → es ≡ after_own_list ds d → outer_of es ≡ outer_of ds
own_list_kept es ds d e = ap outer_of e ∙ outer_own_list ds d
