-- Definition: the numbers that stand in the units of a sample, drawn by a linear congruential generator (own).
use Rattle.std.specs.Prelude.{ℕ, zero, suc, ◌+◌, ◌*◌, ◌^◌, ◌/◌, ◌%◌}

-- the state behind a draw, and the number that is drawn
abbrev pub next_state : ℕ → ℕ
next_state x = (x * 1103515245 + 12345) % 2 ^ 31

abbrev pub drawn : ℕ → ℕ
drawn x = next_state x / 65536

-- the state before the two draws of a unit
abbrev pub state_at : ℕ → ℕ → ℕ
state_at seed zero = seed
state_at seed (suc u) = next_state (next_state (state_at seed u))

-- the number of a unit's cell, from 0 to 49, and its factor, from 1 to 9
abbrev pub cell_of : ℕ → ℕ → ℕ
cell_of seed u = drawn (state_at seed u) % 50

abbrev pub factor_of : ℕ → ℕ → ℕ
factor_of seed u = drawn (next_state (state_at seed u)) % 9 + 1
