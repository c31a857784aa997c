use Rattle.std.proofs.Common.{◌≡◌, drop}
use Rattle.std.specs.List.{filter_map}
use Rattle.link_names.specs.Linking.{strong}
use Rattle.link_names.proofs.duplicates.next_definition.Given as goal

abbrev pub invariant-loop-i : goal.invariant-loop-i
invariant-loop-i l = filter_map (λ s. strong l.mode.common s.site) (drop l.i l.sites) ≡ filter_map (λ s. strong l.mode.common s.site) (drop l.from l.sites)
