-- Device: statements whose parts are mapped are mapped.
use Rattle.std.proofs.Common.{◌≡◌, ℕ, zero, suc, ◌≤◌, List, [], ◌∷◌, length, refl, sym, ap, ◌∙◌, arith, Global}
use Rattle.std.specs.declared.vec.Vec.{Vec}
use Rattle.cil_tree.specs.declared.expressions.Exp.{Exp}
use Rattle.cil_tree.specs.declared.statements.Stmt.{Stmt}
use Rattle.cil_tree.specs.declared.statements.Stmt.TheViews as stmts
use Rattle.cil_tree.specs.Tree as tree
use Rattle.cil_tree.specs.View.{exp_of, stmts_of}
use Rattle.cil_tree.proofs.Views.{at_if, at_switch, at_loop, at_block}
use Rattle.cil_bodies.specs.declared.mapping.Mapping.{Mapping as Table}
use Rattle.cil_bodies.specs.Mapped.{mapped_exp, mapped_stmt}
use Rattle.cil_bodies.specs.Maps.{MapsExp, MapsExps, MapsStmt, MapsStmts}
use Rattle.cil_bodies.proofs.Replaced.{Replaced}

two : {X Y Z : Type 0} (f : X → Y → Z) {x x' : X} {y y' : Y} → x ≡ x' → y ≡ y' → f x y ≡ f x' y'
two f {x} {x'} {y} {y'} p q = ap (λ z. f z y) p ∙ ap (f x') q

pub exps_map : (t : Table) (i : ℕ) (ds es : List Exp) → length ds ≤ i → Replaced (MapsExp t) i ds es → MapsExps t ds es
exps_map t i [] [] past all = record { at = λ m from to tables. refl }
exps_map t i [] (e ∷ es) past all = absurd all
exps_map t i (d ∷ ds) [] past all = absurd all
exps_map t zero (d ∷ ds) (e ∷ es) past all = absurd (omega arith)
exps_map t (suc i) (d ∷ ds) (e ∷ es) past all = let rest = exps_map t i ds es (omega arith) all.1 in record { at = λ m from to tables. two ◌∷◌ (all.0.at m from to tables) (rest.at m from to tables) }

pub stmts_map : (t : Table) (i : ℕ) (rs ss : List Stmt) → length rs ≤ i → Replaced (MapsStmt t) i rs ss → MapsStmts t rs ss
stmts_map t i [] [] past all = record { at = λ m from to tables. refl }
stmts_map t i [] (s ∷ ss) past all = absurd all
stmts_map t i (r ∷ rs) [] past all = absurd all
stmts_map t zero (r ∷ rs) (s ∷ ss) past all = absurd (omega arith)
stmts_map t (suc i) (r ∷ rs) (s ∷ ss) past all = let rest = stmts_map t i rs ss (omega arith) all.1 in record { at = λ m from to tables. two tree.Seq (all.0.at m from to tables) (rest.at m from to tables) }

-- statements that hold statements

pub if_maps : (t : Table) (d e : Exp) (v w x y : Vec Stmt Global) → MapsExp t d e → MapsStmts t v.items x.items → MapsStmts t w.items y.items → MapsStmt t (stmts.If d v w) (stmts.If e x y)
if_maps t d e v w x y test holds fails = record {
  at = λ m from to tables.
      at_if to (stmts.If e x y) e x y x.items y.items refl refl refl
      ∙ ap (λ z. tree.If z (stmts_of to x.items) (stmts_of to y.items)) (test.at m from to tables) ∙ two (tree.If (mapped_exp m (exp_of from d))) (holds.at m from to tables) (fails.at m from to tables)
      ∙ sym (ap (mapped_stmt m) (at_if from (stmts.If d v w) d v w v.items w.items refl refl refl));
}

pub switch_maps : (t : Table) (d e : Exp) (v w : Vec Stmt Global) → MapsExp t d e → MapsStmts t v.items w.items → MapsStmt t (stmts.Switch d v) (stmts.Switch e w)
switch_maps t d e v w value body = record {
  at = λ m from to tables.
      at_switch to (stmts.Switch e w) e w w.items refl refl ∙ two tree.Switch (value.at m from to tables) (body.at m from to tables)
      ∙ sym (ap (mapped_stmt m) (at_switch from (stmts.Switch d v) d v v.items refl refl));
}

pub loop_maps : (t : Table) (v w : Vec Stmt Global) → MapsStmts t v.items w.items → MapsStmt t (stmts.Loop v) (stmts.Loop w)
loop_maps t v w body = record { at = λ m from to tables. at_loop to (stmts.Loop w) w w.items refl refl ∙ ap tree.Loop (body.at m from to tables) ∙ sym (ap (mapped_stmt m) (at_loop from (stmts.Loop v) v v.items refl refl)) }

pub block_maps : (t : Table) (v w : Vec Stmt Global) → MapsStmts t v.items w.items → MapsStmt t (stmts.Block v) (stmts.Block w)
block_maps t v w body = record { at = λ m from to tables. at_block to (stmts.Block w) w w.items refl refl ∙ ap tree.Block (body.at m from to tables) ∙ sym (ap (mapped_stmt m) (at_block from (stmts.Block v) v v.items refl refl)) }
