-- Device: one unit more is read.
use Rattle.std.specs.Prelude.{ℕ, ◌+◌, ◌≤◌, List, [], ◌∷◌, ◌++◌, length, Option, Some, None}
use Rattle.cil_base.specs.Limits.{total_bytes}
use Rattle.cil_base.specs.declared.faults.What.{What}
use Rattle.cil_sources.specs.declared.sources.Sources.{Sources}
use Rattle.cil_sources.specs.Units.{Kept, kept, unit_fault}

-- what was kept, and its bytes
pub record State : Type 0 where
  pub units : List (List ℕ)
  pub over : Option What
  pub total : ℕ

abbrev pub state_of : Sources → State
state_of s = record { units = s.units.items; over = s.over; total = s.total }

abbrev pub is_within : Sources → Type 0
is_within s = s.total ≤ total_bytes

abbrev pub unit_by : Option What → State → List ℕ → State
unit_by (Some what) s bytes = record { units = s.units; over = Some what; total = s.total }
unit_by None s bytes = record { units = s.units ++ bytes ∷ []; over = None; total = s.total + length bytes }

abbrev pub with_unit_by : Option What → State → List ℕ → State
with_unit_by (Some what) s bytes = s
with_unit_by None s bytes = unit_by (unit_fault s.total (length bytes)) s bytes

abbrev pub with_unit : State → List ℕ → State
with_unit s bytes = with_unit_by s.over s bytes

-- what is kept of all, where these are still to be read
abbrev pub resumed_by : Option What → State → List (List ℕ) → Kept
resumed_by (Some what) s more = record { units = s.units; over = Some what }
resumed_by None s more = record { units = s.units ++ (kept s.total more).units; over = (kept s.total more).over }

abbrev pub resumed : State → List (List ℕ) → Kept
resumed s more = resumed_by s.over s more
