use Rattle.std.proofs.Common.{◌≡◌, drop}
use Rattle.cil_text.specs.Words.{number_from}
use Rattle.cil_scan.proofs.words.number.Given as goal

abbrev pub invariant-loop-at : goal.invariant-loop-at
invariant-loop-at l = number_from l.value (drop l.at l.token) ≡ number_from 0 l.token
