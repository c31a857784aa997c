-- Device: what may be assigned to a pointer.
use Rattle.std.proofs.Common.{◌≡◌, Bool, true, false, ◌||◌, refl, sym, ap, ◌∙◌, subst}
use Rattle.type_graph.specs.declared.nodes.Quals.{Quals}
use Rattle.type_graph.specs.Arena.{Graph}
use Rattle.type_graph.specs.Shapes.{Shape, PtrType}
use Rattle.cast_rules.specs.declared.operands.Operand.{Operand}
use Rattle.cast_rules.specs.Assigning.{assignable, points_to}
use Rattle.cast_rules.specs.Values.{value_of}

or_false : (b : Bool) → (b || false) ≡ b
or_false true = refl
or_false false = refl

-- to a type that is told to be a pointer
pub pointer_assigned : (g : Graph) (e : Operand) (p : Quals) (s to : Shape) (r : Bool) → to ≡ PtrType p s → r ≡ (points_to g p s (value_of g e) || e.null) → r ≡ assignable g to e
pointer_assigned g e p s to r told is = subst (λ (k : Shape). r ≡ assignable g k e) (sym told) (is ∙ ap (λ (b : Bool). points_to g p s (value_of g e) || b) (sym (or_false e.null)))
