-- A type specifier among one.
use Rattle.std.proofs.Common.{◌≡◌, refl, Bool, true, false, ◌||◌, [], ◌∷◌}
use Rattle.c_tree.specs.Syntax.{SpecifierTree}
use Rattle.c_tree.specs.Scoped.{names_type}
use Rattle.c_exprs.specs.SpecifierReading.{some_typed}

or_false : (b : Bool) → (b || false) ≡ b
or_false true = refl
or_false false = refl

pub one_typed : (x : SpecifierTree) → some_typed (x ∷ []) ≡ names_type x
one_typed x = or_false (names_type x)
