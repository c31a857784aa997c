-- Device: equal types have equal numbers.
use Rattle.std.proofs.Common.{◌≡◌, Bool, true, false, IsTrue, refl, sym}
use Rattle.type_graph.specs.Shapes.{Shape}
use Rattle.cil_tree.specs.Typing.{same_shape}
use Rattle.cil_tree.proofs.ShapeEquality.{same_is_equal}

-- a test that tells equality is the test of equal types
pub one_test : (r : Bool) (s t : Shape) → (IsTrue r → s ≡ t) → (s ≡ t → IsTrue r) → r ≡ same_shape s t
one_test r s t h k = by r h k
  where
    by : (b : Bool) → (IsTrue b → s ≡ t) → (s ≡ t → IsTrue b) → b ≡ same_shape s t
    by true f g = sym ((same_is_equal s t).1 (f refl))
    by false f g = by_same (same_shape s t) refl
      where
        by_same : (q : Bool) → same_shape s t ≡ q → false ≡ q
        by_same true e = g ((same_is_equal s t).0 e)
        by_same false e = refl
