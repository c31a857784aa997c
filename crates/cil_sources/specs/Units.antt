-- Definition: the units of a merge that are kept, and the limit that the first of the others passes (own).
use Rattle.std.specs.Prelude.{ℕ, ◌+◌, nat_lt, if◌then◌else◌, List, [], ◌∷◌, length, Option, Some, None}
use Rattle.cil_base.specs.Limits.{total_bytes, unit_bytes}
use Rattle.cil_base.specs.declared.faults.What.{What}
use Rattle.cil_base.specs.declared.faults.What.TheVariants.{UnitBytes, TotalBytes}

-- the limit that a unit passes behind units of so many bytes: 4,194,304 bytes in a unit, or 16,777,216 in the units so far
abbrev pub unit_fault : ℕ → ℕ → Option What
unit_fault total size = if nat_lt unit_bytes size then Some UnitBytes else (if nat_lt total_bytes (total + size) then Some TotalBytes else None)

pub record Kept : Type 0 where
  pub units : List (List ℕ)
  pub over : Option What

-- a unit that passes a limit, and those behind it, are not kept
abbrev pub kept_by : Option What → List ℕ → Kept → Kept
kept_by (Some what) bytes more = record { units = []; over = Some what }
kept_by None bytes more = record { units = bytes ∷ more.units; over = more.over }

-- the units before the first that passes a limit, behind units of so many bytes
abbrev pub kept : ℕ → List (List ℕ) → Kept
kept total [] = record { units = []; over = None }
kept total (bytes ∷ more) = kept_by (unit_fault total (length bytes)) bytes (kept (total + length bytes) more)
