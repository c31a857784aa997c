-- Device: refusals as rows expect them, by their numbers: of the unit, the token, the file's name and the line.
use Rattle.std.specs.Prelude.{ℕ, suc, zero, List, [], ◌∷◌, Option, Some, None}
use Rattle.cil_base.specs.declared.faults.Fault.{Fault}
use Rattle.cil_base.specs.declared.faults.Fault.TheVariants.{Duplicate}
use Rattle.cil_base.specs.declared.faults.Place.{Place}
use Rattle.cil_base.specs.declared.faults.Refusal.{Refusal}

abbrev pub place : ℕ → ℕ → ℕ → ℕ → Place
place unit token file line = record { unit = record { 0 = unit }; token = token; file = record { 0 = file }; line = line }

abbrev pub refused : Fault → Place → Option Place → Option (Option Refusal)
refused fault at other = Some (Some (record { fault = fault; at = at; other = other }))

-- the same in each data model
abbrev pub both : {A : Type 0} → A → A × A
both a = (a, a)

-- a fault with one place, in each
abbrev pub at : Fault → ℕ → ℕ → ℕ → ℕ → Option (Option Refusal) × Option (Option Refusal)
at fault unit token file line = both (refused fault (place unit token file line) None)

-- a second definition with the first one, in each
abbrev pub twice : Place → Place → Option (Option Refusal) × Option (Option Refusal)
twice second first = both (refused Duplicate second (Some first))

-- nothing is refused, in each
abbrev pub accepted : Option (Option Refusal) × Option (Option Refusal)
accepted = both (Some None)

-- one byte so many times
abbrev pub so_many : ℕ → ℕ → List ℕ
so_many zero byte = []
so_many (suc n) byte = byte ∷ so_many n byte
