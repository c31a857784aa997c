use Rattle.std.proofs.Common.{◌≡◌, ◌++◌, drop, map}
use Rattle.link_names.specs.Linking.{party_of}
use Rattle.link_names.proofs.parties.parties.Given as goal

abbrev pub invariant-loop-s : goal.invariant-loop-s
invariant-loop-s l = l.all.items ++ map party_of (drop l.s-index l.sites) ≡ map party_of l.sites
