-- Device: a number whose type is no void is that of a type that is there.
use Rattle.std.proofs.Common.{◌≡◌, ℕ, ◌<◌, Bool, true, false, List, length, nat_lt, ltb-false, refl, sym, ◌∙◌, arith}
use Rattle.std.proofs.lemmas.Bool.{ltb-true}
use Rattle.type_graph.specs.declared.nodes.Node.{Node}
use Rattle.type_graph.specs.Shapes.{Shape, Shapes, VoidType, FuncType, shape}
use Rattle.type_graph.proofs.ShapeLaws.{shape_past}

-- the numbers that a shape other than void has are there
pub there : (nodes : List Node) (t : ℕ) → ((shape nodes t ≡ VoidType) → ⊥) → t < length nodes
there nodes t other = by (nat_lt t (length nodes)) refl
  where
    by : (b : Bool) → nat_lt t (length nodes) ≡ b → t < length nodes
    by true known = omega (arith, ltb-true _ _ known)
    by false known = absurd (other (shape_past nodes t (ltb-false _ _ known)))

pub function_there : (nodes : List Node) (t : ℕ) (ret : Shape) (params : Shapes) (proto variadic : Bool) → shape nodes t ≡ FuncType ret params proto variadic → t < length nodes
function_there nodes t ret params proto variadic is = there nodes t (λ past. let e : FuncType ret params proto variadic ≡ VoidType = sym is ∙ past in cc)
