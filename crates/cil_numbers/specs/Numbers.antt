-- Device: values with their signs, by the code's steps.
use Rattle.std.specs.Prelude.{ℕ, if◌then◌else◌, List, negsuc}
use Rattle.cil_base.specs.declared.kinds.IntKind.{IntKind}
use Rattle.cil_text.specs.Words.{Word}
use Rattle.cil_text.specs.ReadTypes.{skip_one}
use Rattle.cil_text.specs.ReadStmts.{Numbered, is_minus, negated}

-- behind `- n`
abbrev pub below_zero : IntKind → ℕ → List Word → Numbered × List Word
below_zero kind n ws = if is_minus ws then ((kind, negsuc n), skip_one (skip_one ws)) else ((kind, negated n), ws)
