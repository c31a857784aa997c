use Rattle.std.proofs.Common.{◌+◌, ◌∷◌, [], ℕ, List, Vec, Global, map, arith, sym, ap, subst, ◌∙◌}
use Rattle.std.proofs.lemmas.List.{map-append, length-map}
use Rattle.std.proofs.lemmas.List.Elements.{All-get_or}
use Rattle.cil_tree.specs.declared.globals.CilUnit.{CilUnit}
use Rattle.cil_tree.specs.View.{program_of}
use Rattle.cil_semantics.specs.Units.{IsUnit}
use Rattle.cil_link.specs.Entities.{in_run}
use Rattle.cil_link.specs.Meeting.{Finding}
use Rattle.cil_link.proofs.EntityLaws.{units_begin, units_next, units_end, unit_at, unit_read, unit_of_run}
use Rattle.cil_link.proofs.entities.entities_of.Goals as goal

pub loop-i-init : goal.loop-i-init
loop-i-init c =
    let programs = map (program_of c.args.names.now) c.args.units.now in (
      c.in_ok-found.ensures.found,
      subst (λ (vs : List (Vec ℕ Global)). Finding programs c.args.names.now (in_run programs) c.in_ok-found.found (map (λ v. v.items) vs)) (sym c.new-numbers.ensures.items)
          (units_begin programs c.args.names.now c.in_ok-found.found (c.in_ok-found.ensures.finds (in_run programs))),
    )

pub meet_unit-requires-clause-program : goal.meet_unit-requires-clause-program
meet_unit-requires-clause-program c =
    subst (λ (u : CilUnit). IsUnit (program_of c.args.names.now u)) (sym c.index-units-i.is)
    (All-get_or (λ (u : CilUnit). IsUnit (program_of c.args.names.now u)) c.args.units.now c.loop-i.i c.index-units-i.result c.loop-i-test.true c.requires)

pub loop-i-preserved : goal.loop-i-preserved
loop-i-preserved c =
    let names = c.args.names.now in
    let u = c.index-units-i.result in
    let programs = map (program_of names) c.args.units.now in
    let at = unit_at programs c.loop-i.i (program_of names u) (unit_read names c.args.units.now c.loop-i.i u c.loop-i-test.true c.index-units-i.is) in
    let k = c.loop-i.invariant.1 in (
      c.in_ok-meet_unit.ensures.kept,
      units_next programs names c.loop-i.i (c.loop-i.i + 1) (program_of names u) at c.loop-i.found c.meet_unit.new.found (map (λ v. v.items) c.loop-i.numbers.items) _ c.in_ok-meet_unit.field-0.items (omega arith)
          (ap (map (λ v. v.items)) c.in_ok-push.ensures.items ∙ map-append (λ v. v.items) c.loop-i.numbers.items (c.in_ok-meet_unit.field-0 ∷ [])) k
          (c.in_ok-meet_unit.ensures.meets (in_run programs) at.entities k.met (unit_of_run names programs c.loop-i.i u at) k.finds),
    )

pub returns-clause-numbers : goal.returns-clause-numbers
returns-clause-numbers c =
    (units_end (map (program_of c.args.names.now) c.args.units.now) c.args.names.now c.loop-i.i c.loop-i.found _ (omega (arith, c.loop-i-test.false, length-map c.args.units.now (program_of c.args.names.now))) c.loop-i.invariant.1).0

pub returns-clause-table : goal.returns-clause-table
returns-clause-table c =
    (units_end (map (program_of c.args.names.now) c.args.units.now) c.args.names.now c.loop-i.i c.loop-i.found _ (omega (arith, c.loop-i-test.false, length-map c.args.units.now (program_of c.args.names.now))) c.loop-i.invariant.1).1
