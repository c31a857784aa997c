-- A parameter list is left with the scopes in front of it.
use Rattle.std.proofs.Common.{◌≡◌, refl, sym, ◌∙◌, ap, subst, ℕ, ◌≤◌, arith, Bool, List, [], ◌∷◌, ◌++◌, length, map, Ok}
use Rattle.typedef_scopes.specs.Scopes.{Scope}
use Rattle.cil_base.specs.declared.tokens.Punctuator.TheVariants.{RightParen}
use Rattle.c_tree.specs.declared.expression.Parameter.{Parameter}
use Rattle.c_tree.specs.Syntax as plain
use Rattle.c_tree.specs.Syntax.{ParameterTree, DeclaratorTree}
use Rattle.c_tree.specs.View.{parameter_of, parameters_of}
use Rattle.c_tree.specs.Scoped.{after_parameters}
use Rattle.c_cursor.specs.Readers.{Input, and_then, bind, pure}
use Rattle.c_cursor.specs.Classes.{is_sign, take}
use Rattle.c_exprs.specs.DeclaratorReading.{outer_of, parameters, parameter_trees, prototyped}
use Rattle.c_exprs.specs.Reading.{below}
use Rattle.c_exprs.proofs.ParameterLaws.{parameters_lawful, parameters_from}
use Rattle.c_exprs.proofs.ScopeLemmas.{outer_after}
use Rattle.c_exprs.proofs.Whole.{below_lawful}
use Rattle.c_exprs.proofs.TreeLists.{seen_parameters}

outer_last : (ss : List Scope) (s : Scope) → outer_of (ss ++ s ∷ []) ≡ ss
outer_last [] s = refl
outer_last (t ∷ []) s = refl
outer_last (t ∷ u ∷ ss) s = ap (λ r. t ∷ r) (outer_last (u ∷ ss) s)

pub left_outer : (es new : List Scope) → (innermost : Scope) × (es ≡ new ++ innermost ∷ []) → outer_of es ≡ new
left_outer es new w = ap outer_of w.1 ∙ outer_last new w.0

pub two_of_outer : (es : List Scope) → 1 ≤ length (outer_of es) → 2 ≤ length es
two_of_outer [] h = absurd (omega (arith, h))
two_of_outer (s ∷ []) h = absurd (omega (arith, h))
two_of_outer (s ∷ t ∷ ss) h = omega arith

one_less : (ds : List Scope) (s : Scope) → 2 ≤ length (ds ++ s ∷ []) → 1 ≤ length ds
one_less [] s h = absurd (omega (arith, h))
one_less (t ∷ ts) s h = omega arith

outer_read : (h : ℕ) (ds mid es : List Scope) (z : List ParameterTree × Bool) (i j : Input) → mid ≡ ds ++ [] ∷ [] → parameters (below h) mid i ≡ Ok ((z, es), j) → outer_of es ≡ ds
outer_read h ds mid es z i j e read =
    let t = (parameters_lawful h (below h) (below_lawful h) mid).takes i.at i.rest (z, es) j tt read in
    let p = parameters_from h (below h) (below_lawful h) mid z.1 z.0 es i.at t.text t.holds in
    ap outer_of (p.after ∙ ap (λ m. after_parameters m (parameter_trees z.0)) e) ∙ outer_after ds (parameter_trees z.0)

-- behind the parameters the scope that was opened for them is still there
pub left_parameters : (h : ℕ) (ds mid es : List Scope) (z : List ParameterTree × Bool) (i j : Input) → mid ≡ ds ++ [] ∷ [] → 2 ≤ length mid → parameters (below h) mid i ≡ Ok ((z, es), j) → 2 ≤ length es
left_parameters h ds mid es z i j e two read =
    two_of_outer es (subst (λ m. 1 ≤ length m) (sym (outer_read h ds mid es z i j e read)) (one_less ds [] (subst (λ m. 2 ≤ length m) e two)))

-- what stands behind the `(` of a function with parameters, by its parts
pub prototyped_read : (h at : ℕ) (d y : DeclaratorTree) (ds mid es new : List Scope) (ps : List Parameter) (variadic : Bool) (u : Unit {0}) (i j k : Input) →
    mid ≡ ds ++ [] ∷ [] → parameters (below h) mid i ≡ Ok (((map parameter_of ps, variadic), es), j) → take (is_sign RightParen) j ≡ Ok (u, k) → (innermost : Scope) × (es ≡ new ++ innermost ∷ []) → y ≡ plain.Function at d (parameters_of ps) variadic →
    prototyped (below h) at (d, ds) i ≡ Ok ((y, new), k)
prototyped_read h at d y ds mid es new ps variadic u i j k e read closed left is =
    ap (and_then (λ z. bind (take (is_sign RightParen)) (λ c. pure (plain.Function at d (parameter_trees z.0.0) z.0.1, outer_of z.1)))) (subst (λ m. parameters (below h) m i ≡ Ok (((map parameter_of ps, variadic), es), j)) e read)
    ∙ (ap (and_then (λ c. pure (plain.Function at d (parameter_trees (map parameter_of ps)) variadic, outer_of es))) closed
    ∙ (ap (λ t. Ok ((plain.Function at d t variadic, outer_of es), k)) (seen_parameters ps)
    ∙ (ap (λ o. Ok ((plain.Function at d (parameters_of ps) variadic, o), k)) (left_outer es new left)
    ∙ ap (λ z. Ok ((z, new), k)) (sym is))))
