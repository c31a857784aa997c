use Rattle.std.proofs.Common.{◌≡◌, drop}
use Rattle.outside.specs.Named.{find_file}
use Rattle.outside.specs.InMemory.{names_in}
use Rattle.outside.proofs.mem_files.place_of.Given as goal

abbrev pub invariant-loop-i : goal.invariant-loop-i
invariant-loop-i l = find_file l.name (names_in l.files) ≡ find_file l.name (names_in (drop l.i l.files))
