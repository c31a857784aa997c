-- Device: what falls where types are compared: the numbers of types.
use Rattle.std.specs.Prelude.{ℕ, suc, max, List, [], ◌∷◌}
use Rattle.cil_base.specs.declared.numbers.TypeId.{TypeId}

-- one more than the greatest number
abbrev pub most : List TypeId → ℕ
most [] = 0
most (t ∷ ts) = max (suc t.0) (most ts)
