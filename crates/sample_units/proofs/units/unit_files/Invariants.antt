use Rattle.std.proofs.Common.{◌≡◌, map}
use Rattle.std.specs.List.{range_with_len}
use Rattle.std.specs.String.{string_bytes}
use Rattle.sample_units.specs.Units.{file_name}
use Rattle.sample_units.proofs.units.unit_files.Given as goal

-- the files so far are named
abbrev pub invariant-loop-u : goal.invariant-loop-u
invariant-loop-u l = map string_bytes l.names.items ≡ map file_name (range_with_len 0 l.u)
