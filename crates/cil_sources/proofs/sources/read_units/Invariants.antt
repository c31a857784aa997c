use Rattle.std.proofs.Common.{◌≡◌, map, drop, IfSome}
use Rattle.std.specs.String.{string_bytes}
use Rattle.outside.specs.Named.{names_of}
use Rattle.cil_sources.specs.Files.{all_under}
use Rattle.cil_sources.specs.Steps.{is_within, state_of}
use Rattle.cil_sources.proofs.Reading.{Reading}
use Rattle.cil_sources.proofs.sources.read_units.Given as goal

abbrev pub invariant-loop-name : goal.invariant-loop-name
invariant-loop-name g l = record {
  within : is_within l.sources;
  names : names_of (g.F.Files.told l.files) ≡ names_of (g.F.Files.told l.fn.files);
  calm : g.F.Files.faults l.files ≡ g.F.Files.faults l.fn.files;
  same_strays : IfSome (all_under (g.F.Files.told l.fn.files) (map string_bytes l.names)) (λ _. g.F.Files.strays l.files ≡ g.F.Files.strays l.fn.files);
  reading : Reading (g.F.Files.told l.fn.files) (map string_bytes l.names) (map string_bytes (drop l.name-index l.names)) (state_of l.sources);
}
