use Rattle.std.proofs.Common.{◌≡◌, ◌+◌, List, [], Option, take}
use Rattle.byte_mem.specs.Object.{Held}
use Rattle.byte_mem.specs.Store.{memory}
use Rattle.execution.specs.Runs.{memory_of, words_held}
use Rattle.cil_start.proofs.words.make_arguments.Given as goal

abbrev pub invariant-loop-i : goal.invariant-loop-i
invariant-loop-i l = record {
  model : l.mem.abi ≡ l.fn.mem.abi;
  filled : (entities : List (Option Held)) → memory l.fn.mem ≡ memory_of entities [] → memory l.mem ≡ memory_of entities (take (l.i + 1) (words_held l.fn.abi l.words));
}
