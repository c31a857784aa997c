-- Device: an operator whose node the walk gives violates no constraint, so its rule gives what it says.
use Rattle.std.proofs.Common.{◌≡◌, ℕ, zero, suc, Bool, true, false, not, ◌&&◌, List, [], ◌∷◌, Option, Some, None, is_some, refl, sym, ap, ◌∙◌}
use Rattle.cil_base.specs.declared.faults.Code.{Code}
use Rattle.cil_base.specs.declared.faults.Code.TheVariants.{IntegerRange, Undeclared, Operand as OperandCode, Member as MemberCode, Call}
use Rattle.c_rules.specs.Types.{Types}
use Rattle.c_rules.specs.Conversions.{Operand}
use Rattle.c_rules.specs.Constraints.{violates, all_codes, first_where, first_violated}
use Rattle.c_rules.specs.Nodes.{Node, typed_node}
use Rattle.c_typing.specs.Scopes.{Env, Walk, Found, Good, Bad, following}
use Rattle.c_typing.specs.Steps.{node_or, at_node}

-- a walk of two steps that finds something finds both
pub stepped : {A B : Type 0} (r : Found (A × Env)) (next : A → Walk B) (y : B × Env) → following next r ≡ Good y → (x : A × Env) × (r ≡ Good x) × (next x.0 x.1 ≡ Good y)
stepped (Good x) next y e = (x, refl, e)
stepped (Bad fault at) next y e = cc

code_at : ℕ → List Code → Option Code
code_at n [] = None
code_at zero (c ∷ cs) = Some c
code_at (suc n) (c ∷ cs) = code_at n cs

abbrev first_of : Bool → Code → Option Code → Option Code
first_of b c rest = elim b [ true ↦ Some c | false ↦ rest ]

heads : (b : Bool) (c : Code) (rest : Option Code) → first_of b c rest ≡ None → (b ≡ false) × (rest ≡ None)
heads true c rest e = cc
heads false c rest e = (refl, e)

unviolated_at : (test : Code → Bool) (cs : List Code) → first_where test cs ≡ None → (n : ℕ) (c : Code) → code_at n cs ≡ Some c → test c ≡ false
unfolding code_at
unviolated_at test [] e n c i = cc
unviolated_at test (d ∷ cs) e zero c i = ap test (sym (same d c i)) ∙ (heads (test d) d (first_where test cs) e).0
  where
    same : (d c : Code) → Some d ≡ Some c → d ≡ c
    same d c i = cc
unviolated_at test (d ∷ cs) e (suc n) c i = unviolated_at test cs (heads (test d) d (first_where test cs) e).1 n c i

module _ (t : Types) (n : Node) (e : first_violated t n ≡ None) where
  pub has_a_type : violates t n IntegerRange ≡ false
  unfolding code_at
  has_a_type = unviolated_at (violates t n) all_codes e 0 IntegerRange refl

  pub is_declared : violates t n Undeclared ≡ false
  unfolding code_at
  is_declared = unviolated_at (violates t n) all_codes e 1 Undeclared refl

  pub takes_operands : violates t n OperandCode ≡ false
  unfolding code_at
  takes_operands = unviolated_at (violates t n) all_codes e 16 OperandCode refl

  pub has_member : violates t n MemberCode ≡ false
  unfolding code_at
  has_member = unviolated_at (violates t n) all_codes e 18 MemberCode refl

  pub is_call : violates t n Call ≡ false
  unfolding code_at
  is_call = unviolated_at (violates t n) all_codes e 19 Call refl

-- a rule that gives something
pub some_of : {A : Type 0} (o : Option A) → not (is_some o) ≡ false → (a : A) × (o ≡ Some a)
some_of (Some a) e = (a, refl)
some_of None e = cc

pub second_holds : (p q : Bool) → not (p && q) ≡ false → not q ≡ false
second_holds true q e = e
second_holds false q e = cc

-- what the walk gives at a node
pub node_given : (at : Code → ℕ) (n : Node) (env : Env) (y : Operand × Env) → at_node at n env ≡ Good y → (first_violated env.types n ≡ None) × (y ≡ (typed_node env.types n, env))
node_given at n env y e = by (first_violated env.types n) refl e
  where
    by : (o : Option Code) → first_violated env.types n ≡ o → node_or at n o env.types env ≡ Good y → (first_violated env.types n ≡ None) × (y ≡ (typed_node env.types n, env))
    by None f i = (f, same (typed_node env.types n, env) y i)
      where
        same : (x y : Operand × Env) → Good x ≡ Good y → y ≡ x
        same x y i = cc
    by (Some c) f i = cc
