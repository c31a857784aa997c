-- Device: what the walk of an initialiser adds to its steps (6.7.9).
use Rattle.std.proofs.Common.{◌≡◌, ℕ, ◌+◌, Bool, true, false, not, List, [], ◌∷◌, ◌++◌, length, Option, Some, None, refl, sym, ap, ◌∙◌, subst, append_assoc, append-nil}
use Rattle.std.specs.Prelude.{ℤ, if◌then◌else◌}
use Rattle.std.specs.Option.{option_and_then}
use Rattle.cil_base.specs.declared.faults.Fault.{Fault}
use Rattle.cil_base.specs.declared.faults.Code.{Code}
use Rattle.cil_base.specs.declared.faults.Code.TheVariants as code
use Rattle.cil_base.specs.declared.faults.Feature.TheVariants as feature
use Rattle.typed_tree.specs.Tree.{Init, Zero, Scalar, Aggregate, Bytes}
use Rattle.c_tree.specs.Syntax.{DesignatorTrees, NoDesignators, MoreDesignators, AtIndex, AtMember}
use Rattle.c_tree.specs.Places.{first_expr}
use Rattle.c_rules.specs.Types.{Types, is_scalar}
use Rattle.c_rules.specs.Conversions.{Operand, value_of as value_node, value_as}
use Rattle.c_rules.specs.Evaluation.{integer_value}
use Rattle.c_typing.specs.Initialisers.{Path, Part, Frame, Filling, Given, takes_whole, AValue, next_part, down_to, nesting_of, with_whole, with_zero, with_bytes, fitting, has_room, bound_of_array}
use Rattle.c_rules.specs.Nodes.{ConvertNode}
use Rattle.c_typing.specs.Scopes.{Env, ◌>>=◌, pure, Found, Good, following, faults_if, excludes_if, refuses_if, required}
use Rattle.c_typing.specs.Steps.{at_node, by_node, known_integer, init_step, scalar_step, with_value, with_literal, in_flexible}
use Rattle.c_typing.specs.Walk.{designated_index, designated_member, outermost, part_for, fitted, with_brace, expr, designation, designators, designator}
use Rattle.c_semantics.specs.Walks.{designators as walked_designators}
use Rattle.c_elaboration.proofs.Initialisers.{AreZero, zero_append, whole_steps}
use Rattle.c_elaboration.proofs.Unviolated.{stepped, node_given}

-- steps that change nothing of what is declared

pub good : {A : Type 0} (x y : A × Env) → Good x ≡ Good y → y ≡ x
good x y e = cc

pub required_here : {A : Type 0} (o : Option A) (c : Code) (at : ℕ) (env : Env) (y : A × Env) → required o c at env ≡ Good y → y.1 ≡ env
required_here {A} (Some a) c at env y e = ap (λ (x : A × Env). x.1) (good (a, env) y e)
required_here None c at env y e = cc

pub faults_here : (b : Bool) (f : Fault) (at : ℕ) (env : Env) (y : Unit {0} × Env) → faults_if b f at env ≡ Good y → y.1 ≡ env
faults_here true f at env y e = cc
faults_here false f at env y e = ap (λ (x : Unit {0} × Env). x.1) (good (tt, env) y e)

pub part_here : (first : ℕ) (d : Option (Part × List Frame)) (f : Filling) (env : Env) (y : (Part × List Frame) × Env) → part_for first d f env ≡ Good y → y.1 ≡ env
part_here first (Some x) f env y e = ap (λ (z : (Part × List Frame) × Env). z.1) (good (x, env) y e)
part_here first None f env y e = required_here (next_part env.types f.frames) code.Initialiser first env y e

pub fitted_here : (first : ℕ) (g : Given) (x : Part × List Frame) (env : Env) (y : (Part × List Frame) × Env) → fitted first g x env ≡ Good y → y.1 ≡ env
fitted_here first g x env y e =
    let i = stepped {A = Part × List Frame} (required (down_to (nesting_of env.types x.0.type.shape) env.types g x) code.Initialiser first env) (λ z. excludes_if (in_flexible z) feature.FlexibleInit first >>= (λ u. pure z)) y e in
    let j = stepped {A = Unit {0}} (excludes_if (in_flexible i.0.0) feature.FlexibleInit first i.0.1) (λ u. pure i.0.0) y i.2 in
    ap (λ (z : (Part × List Frame) × Env). z.1) (good (i.0.0, j.0.1) y j.2)
    ∙ (faults_here (in_flexible i.0.0) _ first i.0.1 j.0 j.1 ∙ required_here (down_to (nesting_of env.types x.0.type.shape) env.types g x) code.Initialiser first env i.0 i.1)

-- designators are looked at where their expressions stand (6.7.9p6)

integer_here : (at : ℕ) (x : Operand) (env : Env) (y : ℤ × Env) → known_integer at x env ≡ Good y → y.1 ≡ env
integer_here at x env y e = required_here (integer_value env.types (value_node x.typed)) code.NotConstant at env y e

designators_here : (ds : DesignatorTrees) (x : Option (Part × List Frame)) (env : Env) (y : Option (Part × List Frame) × Env) → designators x ds env ≡ Good y → walked_designators ds env ≡ Good (tt, y.1)
designators_here NoDesignators x env y e = ap (λ (v : Env). Good (tt, v)) (sym (ap (λ (z : Option (Part × List Frame) × Env). z.1) (good (x, env) y e)))
designators_here (MoreDesignators (AtMember at m) ds) x env y h =
    let i = stepped {A = Option (Part × List Frame)} (designator x (AtMember at m) env) (λ z. designators z ds) y h in
    let j = stepped {A = Part × List Frame} (required (option_and_then (designated_member env.types m) x) code.Initialiser at env) (λ z. pure (Some z)) i.0 i.1 in
    let there : i.0.1 ≡ env = ap (λ (z : Option (Part × List Frame) × Env). z.1) (good (Some j.0.0, j.0.1) i.0 j.2) ∙ required_here (option_and_then (designated_member env.types m) x) code.Initialiser at env j.0 j.1 in
    subst (λ (v : Env). walked_designators ds v ≡ Good (tt, y.1)) there (designators_here ds i.0.0 i.0.1 y i.2)
designators_here (MoreDesignators (AtIndex at e) ds) x env y h =
    let i = stepped {A = Option (Part × List Frame)} (designator x (AtIndex at e) env) (λ z. designators z ds) y h in
    let k = stepped {A = Operand} (expr e env) (λ v. known_integer (first_expr e) v >>= (λ n w. (required (option_and_then (designated_index w.types n) x) code.Initialiser at >>= (λ z. pure (Some z))) w)) i.0 i.1 in
    let l = stepped {A = ℤ} (known_integer (first_expr e) k.0.0 k.0.1) (λ n w. (required (option_and_then (designated_index w.types n) x) code.Initialiser at >>= (λ z. pure (Some z))) w) i.0 k.2 in
    let m = stepped {A = Part × List Frame} (required (option_and_then (designated_index l.0.1.types l.0.0) x) code.Initialiser at l.0.1) (λ z. pure (Some z)) i.0 l.2 in
    let there : i.0.1 ≡ k.0.1 =
    ap (λ (z : Option (Part × List Frame) × Env). z.1) (good (Some m.0.0, m.0.1) i.0 m.2)
    ∙ (required_here (option_and_then (designated_index l.0.1.types l.0.0) x) code.Initialiser at l.0.1 m.0 m.1 ∙ integer_here (first_expr e) k.0.0 k.0.1 l.0 l.1) in
    ap (λ (r : Found (Operand × Env)). following (λ u. walked_designators ds) r) k.1
    ∙ subst (λ (v : Env). walked_designators ds v ≡ Good (tt, y.1)) there (designators_here ds i.0.0 i.0.1 y i.2)

pub designation_here : (f : Filling) (ds : DesignatorTrees) (env : Env) (y : Option (Part × List Frame) × Env) → designation f ds env ≡ Good y → walked_designators ds env ≡ Good (tt, y.1)
designation_here f NoDesignators env y e = ap (λ (v : Env). Good (tt, v)) (sym (ap (λ (z : Option (Part × List Frame) × Env). z.1) (good (None, env) y e)))
designation_here f (MoreDesignators d ds) env y e = designators_here (MoreDesignators d ds) (outermost f.frames) env y e

-- values (6.7.9p11, p13)

-- the step that a value is: of a scalar that is converted as by assignment, or of a structure or union
pub data IsStep (p : Part) (x : Operand) : Init → Type 0 where
  OfScalar : IsStep p x (Scalar p.path (value_as p.type.shape x))
  OfWhole : IsStep p x (Aggregate p.path (value_node x.typed))

pub record Adds (p : Part) (x : Operand) (before behind : List Init) : Type 0 where
  pub zeros : List Init
  pub are : AreZero zeros
  pub step : Init
  pub is : IsStep p x step
  pub adds : behind ≡ before ++ (zeros ++ step ∷ [])

step_here : (whole : Bool) (at : ℕ) (p : Part) (x : Operand) (env : Env) (y : Init × Env) → init_step whole false at p x env ≡ Good y → (y.1 ≡ env) × IsStep p x y.0
step_here true at p x env y e = (ap (λ (z : Init × Env). z.1) (good (Aggregate p.path (value_node x.typed), env) y e), subst (λ (z : Init × Env). IsStep p x z.0) (sym (good (Aggregate p.path (value_node x.typed), env) y e)) OfWhole)
step_here false at p x env y e =
    let i = stepped {A = Operand} (at_node (by_node at) (ConvertNode p.type.shape x) env) (λ z. scalar_step false at p.path z) y e in
    let n = (node_given (by_node at) (ConvertNode p.type.shape x) env i.0 i.1).1 in
    let s = good (Scalar p.path i.0.0.typed, i.0.1) y i.2 in (
      ap (λ (z : Init × Env). z.1) s ∙ ap (λ (z : Operand × Env). z.1) n,
      subst (λ (z : Init × Env). IsStep p x z.0) (sym s) (subst (λ (z : Operand × Env). IsStep p x (Scalar p.path z.0.typed)) (sym n) OfScalar),
    )

pub value_adds : (at : ℕ) (p : Part) (x : Operand) (f : Filling) (env : Env) (y : Filling × Env) → with_value false at p x f env ≡ Good y → (y.1 ≡ env) × Adds p x f.steps y.0.steps
value_adds at p x f env y e =
    let i = stepped {A = Init} (init_step (takes_whole env.types p.type.shape (AValue x)) false at p x env) (λ s. pure (with_whole env.types p s 1 f)) y e in
    let h = step_here (takes_whole env.types p.type.shape (AValue x)) at p x env i.0 i.1 in
    let g = good (with_whole env.types p i.0.0 1 f, i.0.1) y i.2 in
    let w = whole_steps env.types p i.0.0 1 f in
    (ap (λ (z : Filling × Env). z.1) g ∙ h.0, record { zeros = w.0; are = w.1; step = i.0.0; is = h.1; adds = ap (λ (z : Filling × Env). z.0.steps) g ∙ w.2 })

-- literals (6.7.9p14)
pub record AddsBytes (p : Part) (before behind : List Init) : Type 0 where
  pub zeros : List Init
  pub are : AreZero zeros
  pub bytes : List ℕ
  pub adds : behind ≡ before ++ (zeros ++ Bytes p.path bytes ∷ [])

abbrev counting : ℕ → Filling → Filling
counting n f = record f { scalars = f.scalars + n }

abbrev reaching : ℕ → Path → Filling → Filling
reaching n path f = elim path [ [] ↦ record f { reach = n } | x ∷ xs ↦ f ]

reaching_steps : (n : ℕ) (path : Path) (f : Filling) → (reaching n path f).steps ≡ f.steps
reaching_steps n [] f = refl
reaching_steps n (x ∷ xs) f = refl

pub literal_adds : (first at : ℕ) (p : Part) (o : Option (List ℕ)) (f : Filling) (env : Env) (y : Filling × Env) → with_literal first at p o f env ≡ Good y → (y.1 ≡ env) × AddsBytes p f.steps y.0.steps
literal_adds first at p None f env y e = cc
literal_adds first at p (Some bytes) f env y e =
    let i = stepped {A = Unit {0}} (refuses_if (not (has_room (bound_of_array p.type.shape) bytes)) code.Initialiser first env) (λ u. pure (reaching (length bytes) p.path (with_bytes env.types p (length bytes) (fitting (bound_of_array p.type.shape) bytes) f))) y e in
    let g = good (reaching (length bytes) p.path (with_bytes env.types p (length bytes) (fitting (bound_of_array p.type.shape) bytes) f), i.0.1) y i.2 in
    let w = whole_steps env.types p (Zero p.path) 0 (counting (length bytes) f) in (
      ap (λ (z : Filling × Env). z.1) g ∙ faults_here _ _ first env i.0 i.1,
      record {
        zeros = w.0 ++ Zero p.path ∷ [];
        are = zero_append w.0 (Zero p.path ∷ []) w.1 (tt, tt);
        bytes = fitting (bound_of_array p.type.shape) bytes;
        adds =
            ap (λ (z : Filling × Env). z.0.steps) g
            ∙ (reaching_steps (length bytes) p.path (with_bytes env.types p (length bytes) (fitting (bound_of_array p.type.shape) bytes) f)
            ∙ (ap (λ xs. xs ++ Bytes p.path (fitting (bound_of_array p.type.shape) bytes) ∷ []) w.2
            ∙ append_assoc f.steps (w.0 ++ Zero p.path ∷ []) (Bytes p.path (fitting (bound_of_array p.type.shape) bytes) ∷ [])));
      },
    )

-- a brace list makes the bytes of its aggregate zero first (6.7.9p19, p21)
pub record AddsZeros (before behind : List Init) : Type 0 where
  pub zeros : List Init
  pub are : AreZero zeros
  pub adds : behind ≡ before ++ zeros

pub brace_adds : (t : Types) (p : Part) (f : Filling) → AddsZeros f.steps (with_brace t p f).steps
brace_adds t p f = by (is_scalar t p.type.shape)
  where
    by : (b : Bool) → AddsZeros f.steps (if b then f else with_zero t p f).steps
    by true = record { zeros = []; are = tt; adds = sym (append-nil f.steps) }
    by false =
        let w = whole_steps t p (Zero p.path) 0 f in
        record { zeros = w.0 ++ Zero p.path ∷ []; are = zero_append w.0 (Zero p.path ∷ []) w.1 (tt, tt); adds = w.2 }
