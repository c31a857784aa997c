use Rattle.std.proofs.Common.{◌≡◌, Vec, Global, map, length, subst, arith}
use Rattle.link_names.specs.declared.units.Fronted.{Fronted}
use Rattle.std.specs.String.{string_bytes}
use Rattle.unit_merger.specs.Units.{AreGrammatical}
use Rattle.unit_merger.proofs.InOrder.{over_here}
use Rattle.unit_merger.proofs.Links.{over_early}
use Rattle.unit_merger.proofs.merger.fronted.Goals as goal

pub returns-in-Some-clause-cause : goal.returns-in-Some-clause-cause
returns-in-Some-clause-cause c =
    let all : c.loop-i.i ≡ length c.args.units.now = omega (arith, c.loop-i-test.false, c.loop-i.auto.i-end) in
    over_here (Vec Fronted Global) c.limit_of.result c.args.units.now (map string_bytes c.args.files.now) c.named.new.names c.args.over c.in-Some.limit c.in_ok-unit.unit c.in_ok-unit.file c.in-Some.is
    (subst (AreGrammatical c.args.units.now (map string_bytes c.args.files.now)) all c.loop-i.invariant.0) c.in_ok-unit.ensures.named c.limit_of.ensures

pub returns-in-Some-clause-early : goal.returns-in-Some-clause-early
returns-in-Some-clause-early c = over_early (Vec Fronted Global) c.limit_of.result c.in-Some.limit c.in_ok-unit.unit.0 c.in_ok-unit.file c.limit_of.ensures
