-- Device: the arguments of a call as a list that is read.
use Rattle.std.proofs.Common.{◌≡◌, refl, sym, ap, subst, ℕ, suc, ◌+◌, ◌-◌, ◌<◌, ◌≤◌, length, true, List, [], ◌∷◌, ◌++◌, arith}
use Rattle.typedef_scopes.specs.Scopes.{Scope}
use Rattle.c_tree.specs.declared.level.Level.TheVariants.{Assignment}
use Rattle.c_tree.specs.Syntax.{ExprTree, Name}
use Rattle.c_tree.specs.Spelling.{Lexeme, behind_commas, spell_expr, spell_exprs}
use Rattle.c_tree.specs.Height.{expr_height, exprs_height}
use Rattle.c_tree.specs.Levels.{levelled_arguments}
use Rattle.c_tree.specs.Placed.{placed_exprs}
use Rattle.c_tree.specs.Scoped.{scoped_exprs, after_expr, after_exprs}
use Rattle.c_exprs.specs.Subs.{In}
use Rattle.c_exprs.specs.ExprReading.{expr_trees}
use Rattle.c_exprs.proofs.Tokens.{both}
use Rattle.c_exprs.proofs.Relations.{Below, ExprIs}
use Rattle.c_exprs.proofs.Lists.{Over, Rest, AfterComma, Listed}
use Rattle.c_exprs.proofs.Climbing.{ArgumentsIs}

pub tall : (e : ExprTree) → 1 ≤ expr_height e
tall e = elim e as (λ x. 1 ≤ expr_height x) [ Name at n ↦ omega arith | _ ↦ omega arith ]

-- arguments behind the first; n is the number of the comma in front of them
record MoreIs (h : ℕ) (ds : List Scope) (es : List ExprTree) (after : List Scope) (n : ℕ) (text : List Lexeme) : Type 0 where
  levelled : levelled_arguments (expr_trees es) ≡ true
  placed : placed_exprs (n + 1) (expr_trees es) ≡ true
  scoped : scoped_exprs ds (expr_trees es) ≡ true
  low : exprs_height (expr_trees es) ≤ h - 1
  behind : after ≡ after_exprs ds (expr_trees es)
  spelled : text ≡ behind_commas (spell_exprs (expr_trees es))

abbrev Argument : ℕ → List Scope → In ExprTree → ℕ → List Lexeme → Type 0
Argument h ds = ExprIs (Below h) Assignment ds

more_from : (h : ℕ) (es before : List ExprTree) (ds after : List Scope) (n : ℕ) (text : List Lexeme) → Rest Over (AfterComma (Argument h)) before ds after n text es → MoreIs h ds es after n text
more_from h [] before ds after n text r = record { levelled = refl; placed = refl; scoped = refl; low = omega arith; behind = r.0; spelled = r.1 }
more_from h (e ∷ es) before ds after n text r =
    let i = r.3.holds in
    let next : n + length r.1 + 1 ≡ n + 1 + length (spell_expr e) + 1 = omega (arith, ap length r.3.parts, ap length i.spelled) in
    let m = more_from h es (before ++ e ∷ []) r.0 after (n + length r.1) r.2 r.4 in
    record {
      levelled = rw (i.within, i.good.levelled, m.levelled) refl;
      placed = rw (i.good.placed, ← next, m.placed) refl;
      scoped = rw (i.good.scoped, ← i.good.after, m.scoped) refl;
      low = omega (arith, i.good.low, m.low);
      behind = rw (← i.good.after) m.behind;
      spelled = rw (r.5, r.3.parts, i.spelled, m.spelled) refl;
    }

more_to : (h : ℕ) (es before : List ExprTree) (ds after : List Scope) (n : ℕ) (text : List Lexeme) → MoreIs h ds es after n text → Rest Over (AfterComma (Argument h)) before ds after n text es
more_to h [] before ds after n text m = (m.behind, m.spelled)
more_to h (e ∷ es) before ds after n text m =
    let low : expr_height e < h = omega (arith, m.low, tall e) in
    let rest_low : exprs_height (expr_trees es) ≤ h - 1 = omega (arith, m.low) in
    let l = both _ _ m.levelled in let l0 = both _ _ l.0 in let p = both _ _ m.placed in let s = both _ _ m.scoped in
    let next : n + 1 + length (spell_expr e) + 1 ≡ n + suc (length (spell_expr e)) + 1 = omega arith in (
      after_expr ds e,
      _,
      behind_commas (spell_exprs (expr_trees es)),
      record { back = spell_expr e; holds = record { good = record { levelled = l0.1; placed = p.0; scoped = s.0; low = low; after = refl }; within = l0.0; spelled = refl }; parts = refl },
      more_to h es (before ++ e ∷ []) (after_expr ds e) after (n + suc (length (spell_expr e))) (behind_commas (spell_exprs (expr_trees es)))
          (record { levelled = l.1; placed = subst (λ k. placed_exprs k (expr_trees es) ≡ true) next p.1; scoped = s.1; low = rest_low; behind = m.behind; spelled = refl }),
      m.spelled,
    )

pub arguments_from : (h : ℕ) (ds : List Scope) (es : List ExprTree) (after : List Scope) (n : ℕ) (text : List Lexeme) → Listed Over (Argument h) ds es after n text → ArgumentsIs h ds es after n text
arguments_from h ds es after n text l =
    let i = l.holds in
    let m = more_from h l.others (l.first.0 ∷ []) l.first.1 after (n + length l.front) l.back l.rest in
    let next : n + length l.front + 1 ≡ n + length (spell_expr l.first.0) + 1 = omega (arith, ap length i.spelled) in
    subst (λ xs. ArgumentsIs h ds xs after n text) (sym l.list) (record {
      levelled = rw (i.within, i.good.levelled, m.levelled) refl;
      placed = rw (i.good.placed, ← next, m.placed) refl;
      scoped = rw (i.good.scoped, ← i.good.after, m.scoped) refl;
      low = omega (arith, i.good.low, m.low);
      behind = rw (← i.good.after) m.behind;
      spelled = rw (l.parts, i.spelled, m.spelled) refl;
    })

pub arguments_to : (h : ℕ) (ds : List Scope) (e : ExprTree) (es : List ExprTree) (after : List Scope) (n : ℕ) (text : List Lexeme) → ArgumentsIs h ds (e ∷ es) after n text → Listed Over (Argument h) ds (e ∷ es) after n text
arguments_to h ds e es after n text m =
    let low : expr_height e < h = omega (arith, m.low, tall e) in
    let rest_low : exprs_height (expr_trees es) ≤ h - 1 = omega (arith, m.low) in
    let l = both _ _ m.levelled in let l0 = both _ _ l.0 in let p = both _ _ m.placed in let s = both _ _ m.scoped in
    record {
      first = (e, after_expr ds e);
      others = es;
      front = spell_expr e;
      back = behind_commas (spell_exprs (expr_trees es));
      list = refl;
      holds = record { good = record { levelled = l0.1; placed = p.0; scoped = s.0; low = low; after = refl }; within = l0.0; spelled = refl };
      rest = more_to h es (e ∷ []) (after_expr ds e) after (n + length (spell_expr e)) (behind_commas (spell_exprs (expr_trees es)))
          (record { levelled = l.1; placed = p.1; scoped = s.1; low = rest_low; behind = m.behind; spelled = refl });
      parts = m.spelled;
    }
