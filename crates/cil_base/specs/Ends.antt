-- Definition: how a program ends (C11 5.1.2.2.3).
use Rattle.std.specs.Prelude.{ℕ, ℤ, pos, unsigned_abs, List, Option, Some, None}
use Rattle.std.specs.Int.{int_rem_euclid}
use Rattle.cil_base.specs.declared.runs.Outcome.{Outcome}
use Rattle.cil_base.specs.declared.runs.Outcome.TheVariants.{Exit, Undefined}

-- the exit status of a program whose main returns v (C11 5.1.2.2.3 and 7.22.4.4p5; modulo 256 is own)
abbrev pub exit_status : ℤ → ℕ
exit_status v = unsigned_abs (int_rem_euclid v (pos 256))

-- how a program ends that has written the bytes, and whose main returns a value, or none where its evaluation is undefined
abbrev pub returned : Option ℤ → List ℕ → Outcome
returned None out = Undefined out
returned (Some v) out = Exit (exit_status v) out
