-- Device: steps of the loops over arguments.
use Rattle.std.proofs.Common.{◌≡◌, ℕ, zero, suc, ◌<◌, ◌≤◌, Bool, true, false, ◌&&◌, List, [], ◌∷◌, length, drop, map, get_or, refl, arith}
use Rattle.cil_base.specs.declared.numbers.TypeId.{TypeId}
use Rattle.type_graph.specs.declared.nodes.Node.{Node}
use Rattle.type_graph.specs.Shapes.{Shape, NoTypes, shapes_of}
use Rattle.cil_tree.specs.declared.expressions.Exp.{Exp}
use Rattle.cil_tree.specs.View.{exp_of}
use Rattle.cil_tree.specs.Typing.{Scope}
use Rattle.cil_tree.specs.Bodies.{has_type, argument_is_promoted, arguments_fit}

joined : (p q r : Bool) → p && (q && r) ≡ (p && q) && r
joined true q r = refl
joined false q r = refl

-- arguments past the parameters, from one on
pub rest_from : (c : Scope) (nodes : List Node) (more : Bool) (es : List Exp) (i : ℕ) (d : Exp) → i < length es →
    arguments_fit c NoTypes more (map (exp_of nodes) (drop i es)) ≡ (more && argument_is_promoted c (exp_of nodes (get_or es i d))) && arguments_fit c NoTypes more (map (exp_of nodes) (drop (suc i) es))
rest_from c nodes more [] i d h = absurd (omega arith)
rest_from c nodes more (e ∷ es) zero d h = joined more (argument_is_promoted c (exp_of nodes e)) (arguments_fit c NoTypes more (map (exp_of nodes) es))
rest_from c nodes more (e ∷ es) (suc i) d h = rest_from c nodes more es i d (omega arith)

-- arguments from one on that has a parameter
pub argument_next : (c : Scope) (nodes : List Node) (at : ℕ → Shape) (more : Bool) (ts : List TypeId) (es : List Exp) (i : ℕ) (t : TypeId) (d : Exp) → i < length ts → i < length es →
    arguments_fit c (shapes_of at (drop i ts)) more (map (exp_of nodes) (drop i es)) ≡ has_type c (exp_of nodes (get_or es i d)) (at (get_or ts i t).0) && arguments_fit c (shapes_of at (drop (suc i) ts)) more (map (exp_of nodes) (drop (suc i) es))
argument_next c nodes at more [] es i t d h k = absurd (omega arith)
argument_next c nodes at more (x ∷ ts) [] i t d h k = absurd (omega arith)
argument_next c nodes at more (x ∷ ts) (e ∷ es) zero t d h k = refl
argument_next c nodes at more (x ∷ ts) (e ∷ es) (suc i) t d h k = argument_next c nodes at more ts es i t d (omega arith) (omega arith)

none_left : (c : Scope) (at : ℕ → Shape) (more : Bool) (ts : List TypeId) (i : ℕ) → i < length ts → arguments_fit c (shapes_of at (drop i ts)) more [] ≡ false
none_left c at more [] i h = absurd (omega arith)
none_left c at more (x ∷ ts) zero h = refl
none_left c at more (x ∷ ts) (suc i) h = none_left c at more ts i (omega arith)

-- a parameter without an argument
pub argument_missing : (c : Scope) (nodes : List Node) (at : ℕ → Shape) (more : Bool) (ts : List TypeId) (es : List Exp) (i : ℕ) → i < length ts → length es ≤ i →
    arguments_fit c (shapes_of at (drop i ts)) more (map (exp_of nodes) (drop i es)) ≡ false
argument_missing c nodes at more ts [] zero h k = none_left c at more ts 0 h
argument_missing c nodes at more ts [] (suc i) h k = none_left c at more ts (suc i) h
argument_missing c nodes at more ts (e ∷ es) zero h k = absurd (omega arith)
argument_missing c nodes at more [] (e ∷ es) (suc i) h k = absurd (omega arith)
argument_missing c nodes at more (x ∷ ts) (e ∷ es) (suc i) h k = argument_missing c nodes at more ts es i (omega arith) (omega arith)

-- behind the last parameter
pub past_parameters : (at : ℕ → Shape) (ts : List TypeId) (i : ℕ) → i ≡ length ts → shapes_of at (drop i ts) ≡ NoTypes
past_parameters at [] zero h = refl
past_parameters at [] (suc i) h = refl
past_parameters at (t ∷ ts) zero h = absurd (omega (arith, h))
past_parameters at (t ∷ ts) (suc i) h = past_parameters at ts i (omega (arith, h))
