-- Definition: what a run may be compared with: an outcome stands for itself, and undefined behaviour (C11 3.4.3) for whatever follows its output.
use Rattle.std.specs.Prelude.{◌≡◌, ℕ, List, ◌++◌, ◌⊎◌}
use Rattle.cil_base.specs.declared.runs.Outcome.{Outcome}
use Rattle.cil_base.specs.declared.runs.Outcome.TheVariants.{Exit, Running, Undefined}

-- the bytes that were written until the end of the run, its bound, or its first undefined behaviour
abbrev pub output : Outcome → List ℕ
output (Exit status out) = out
output (Running out) = out
output (Undefined out) = out

-- the list begins with the part
abbrev pub IsPrefix : List ℕ → List ℕ → Type 0
IsPrefix part whole = (rest : List ℕ) × (whole ≡ part ++ rest)

-- the outcome is undefined, and its output is a prefix of the bytes
abbrev pub Breaks : Outcome → List ℕ → Type 0
Breaks (Exit status out) bytes = ⊥
Breaks (Running out) bytes = ⊥
Breaks (Undefined out) bytes = IsPrefix out bytes

-- a program whose outcome is x may be replaced by one whose outcome is y
abbrev pub Allows : Outcome → Outcome → Type 0
Allows x y = (x ≡ y) ⊎ Breaks x (output y)
