use Rattle.std.proofs.Common.{◌≡◌, ◌+◌, drop}
use Rattle.cil_layout.specs.Scan.{blanks_of}
use Rattle.cil_layout.proofs.layout.blanks.Given as goal

abbrev pub invariant-loop-b : goal.invariant-loop-b
invariant-loop-b l = (l.count ≡ l.b-index) × (l.count + blanks_of (drop l.count l.text) ≡ blanks_of l.text)
