use Rattle.std.proofs.Common.{◌≡◌, drop}
use Rattle.link_names.specs.Linking.{declared_from}
use Rattle.link_names.specs.Grouping.{InStep, added_all, found}
use Rattle.link_names.proofs.grouping.add_units.Given as goal

abbrev pub invariant-loop-u : goal.invariant-loop-u
invariant-loop-u l = InStep l.f × (added_all (found l.f) (declared_from l.u (drop l.u l.units)) ≡ added_all (found l.fn.f) (declared_from 0 l.units))
