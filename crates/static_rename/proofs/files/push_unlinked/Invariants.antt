use Rattle.std.proofs.Common.{◌≡◌, ◌++◌, drop}
use Rattle.static_rename.specs.Files.{unlinked_from}
use Rattle.static_rename.proofs.files.push_unlinked.Given as goal

abbrev pub invariant-loop-e : goal.invariant-loop-e
invariant-loop-e l = l.all.items ++ unlinked_from l.e l.ordinary (drop l.e l.globals) ≡ l.fn.all.items ++ unlinked_from 0 l.ordinary l.globals
