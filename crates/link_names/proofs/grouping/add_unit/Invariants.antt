use Rattle.std.proofs.Common.{◌≡◌, drop}
use Rattle.link_names.specs.Linking.{declared_in}
use Rattle.link_names.specs.Grouping.{InStep, added_all, found}
use Rattle.link_names.proofs.grouping.add_unit.Given as goal

abbrev pub invariant-loop-site : goal.invariant-loop-site
invariant-loop-site l = InStep l.f × (added_all (found l.f) (declared_in l.unit l.globals (drop l.site-index l.sites)) ≡ added_all (found l.fn.f) (declared_in l.fn.unit l.globals l.sites))
