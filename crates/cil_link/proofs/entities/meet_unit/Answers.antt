use Rattle.std.proofs.Common.{◌≡◌, ◌+◌, ◌<◌, ◌∷◌, length, get_or, rules, arith, map, drop, refl, ap, sym}
use Rattle.cil_tree.specs.View.{global_of, program_of}
use Rattle.cil_semantics.specs.Runs.{linkable, linkables}
use Rattle.cil_link.specs.Meeting.{link_of}
use Rattle.cil_link.proofs.Programs.{name_there, next_global, no_global}
use Rattle.cil_link.proofs.EntityLaws.{global_of_unit, unit_next, unit_ends}
use Rattle.cil_link.proofs.entities.meet_unit.Goals as goal

pub meet-requires-clause-named : goal.meet-requires-clause-named
meet-requires-clause-named c =
    let is : c.index.result.now ≡ get_or c.args.u.now.globals.items c.loop-i.i c.index.result.now = search rules in
    name_there c.args.u.now c.args.names.now c.loop-i.i c.index.result.now c.requires.program (omega (arith, c.loop-i-test.true, c.len-i-end.ensures)) is

pub loop-i-preserved : goal.loop-i-preserved
loop-i-preserved c =
    let u = c.args.u.now in
    let names = c.args.names.now in
    let see = global_of u.graph.nodes names in
    let low : c.loop-i.i < length u.globals.items = omega (arith, c.loop-i-test.true, c.len-i-end.ensures) in
    let is : c.index.result.now ≡ get_or u.globals.items c.loop-i.i c.index.result.now = search rules in
    let next : see c.index.result.now ∷ map see (drop (c.loop-i.i + 1) u.globals.items) ≡ map see (drop c.loop-i.i u.globals.items) = next_global see u.globals.items c.loop-i.i c.index.result.now low is in (
      c.in_ok-meet.ensures.kept,
      λ units entities m unit finds.
          let k = c.loop-i.invariant.1 units entities m unit finds in
          unit_next units names entities m (linkables (program_of names u)) (link_of names u c.index.result.now) (map (linkable (program_of names u)) (map see (drop (c.loop-i.i + 1) u.globals.items))) _ _ c.loop-i.found c.meet.new.found c.loop-i.numbers.items _ c.in_ok-meet.field-0
          (sym (ap (map (linkable (program_of names u))) next)) refl c.in_ok-push.ensures.items k (c.in_ok-meet.ensures.meets units entities k.met (global_of_unit units u names entities c.args.unit c.loop-i.i c.index.result.now c.requires.program unit low is) k.finds),
    )

pub returns-clause-meets : goal.returns-clause-meets
returns-clause-meets c = λ units entities m is finds.
    let u = c.args.u.now in
    let names = c.args.names.now in
    unit_ends units names entities m (linkables (program_of names u)) _ c.loop-i.found c.loop-i.numbers.items
    (ap (map (linkable (program_of names u))) (no_global (global_of u.graph.nodes names) u.globals.items c.loop-i.i (omega (arith, c.loop-i-test.false, c.len-i-end.ensures)))) (c.loop-i.invariant.1 units entities m is finds)
