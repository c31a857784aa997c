use Rattle.std.proofs.Common.{◌≡◌, ◌++◌, drop}
use Rattle.execution.specs.Runs.{word_pointers}
use Rattle.cil_start.proofs.words.argv_bytes.Given as goal

abbrev pub invariant-loop-i : goal.invariant-loop-i
invariant-loop-i l = l.bytes.items ++ word_pointers l.fn.abi l.i (drop l.i l.words) ≡ word_pointers l.fn.abi 0 l.words
