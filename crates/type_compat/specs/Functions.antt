-- Device: the parts of a function's type, and the composites of parameters one by one.
use Rattle.std.specs.Prelude.{◌≡◌, ℕ, ◌<◌, Bool, true, false, List, [], ◌∷◌, Option, Some, None, drop}
use Rattle.cil_base.specs.declared.numbers.TypeId.{TypeId}
use Rattle.type_graph.specs.Shapes.{Shape, Shapes, VoidType, IntType, PtrType, ArrayType, FuncType, AggType, NoTypes, MoreTypes, shapes_of}
use Rattle.type_graph.specs.Arena.{EachType}
use Rattle.type_compat.specs.declared.composites.Function.{Function}
use Rattle.type_compat.specs.Composed.{composite_shape}

abbrev pub is_function : Shape → Bool
is_function VoidType = false
is_function (IntType kind) = false
is_function (PtrType quals s) = false
is_function (ArrayType quals s bound) = false
is_function (FuncType ret params proto variadic) = true
is_function (AggType a) = false

abbrev pub IsFunction : (ℕ → Shape) → Option Function → Shape → Type 0
IsFunction at (Some f) s = s ≡ FuncType (at f.ret.0) (shapes_of at f.params.items) f.proto f.variadic
IsFunction at None s = is_function s ≡ false

abbrev pub PartsBelow : ℕ → Option Function → Type 0
PartsBelow n (Some f) = (f.ret.0 < n) × EachType n f.params.items
PartsBelow n None = Unit {0}

abbrev pub first_with : (ℕ → Shape) → Shape → List TypeId → Shape
first_with at s [] = s
first_with at s (q ∷ qs) = composite_shape s (at q.0)

-- a shape with the one at a place, if there is one
abbrev pub composite_with : (ℕ → Shape) → Shape → List TypeId → ℕ → Shape
composite_with at s others i = first_with at s (drop i others)

-- some types, and then others
abbrev pub then_types : Shapes → Shapes → Shapes
then_types NoTypes ts = ts
then_types (MoreTypes s ss) ts = MoreTypes s (then_types ss ts)
