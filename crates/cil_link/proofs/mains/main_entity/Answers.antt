use Rattle.std.proofs.Common.{◌≡◌, length, map, get_or, rules, arith, sym, ap, ◌∙◌}
use Rattle.std.proofs.lemmas.List.{length-map}
use Rattle.cil_tree.specs.declared.globals.CilUnit.{CilUnit}
use Rattle.cil_tree.specs.View.{global_of}
use Rattle.cil_link.specs.Units.{units_in}
use Rattle.cil_link.specs.MainGlobals.{main_number}
use Rattle.cil_link.proofs.UnitLaws.{numbers_there, many_units, unit_is}
use Rattle.cil_link.proofs.MainLaws.{among_past, met_unit, next_unit}
use Rattle.cil_link.proofs.mains.main_entity.Goals as goal

pub index-requires : goal.index-requires
index-requires c = omega (arith, numbers_there c.args.l.now c.loop-k.k c.requires c.loop-k-test.true, c.args.l.now.entities.now.numbers.ok.0)

pub main_number-number-requires : goal.main_number-number-requires
main_number-number-requires c =
    let l = c.args.l.now in
    let u = c.index-l-k.result in
    let at : c.index.result.now ≡ get_or l.entities.now.numbers.items c.loop-k.k c.index.result.now = search rules in
    (unit_is l c.loop-k.k u c.index.result.now c.as_slice.result.now c.requires c.loop-k-test.true c.index-l-k.is at c.as_slice.ensures.value).many ∙ length-map u.globals.items (global_of u.graph.nodes l.names.now) ∙ ap (λ (w : CilUnit). length w.globals.items) c.index-l-k.is

pub returns-then-is_some : goal.returns-then-is_some
returns-then-is_some c =
    let l = c.args.l.now in
    let u = c.index-l-k.result in
    let at : c.index.result.now ≡ get_or l.entities.now.numbers.items c.loop-k.k c.index.result.now = search rules in
    met_unit (units_in l) c.loop-k.k _ c.main_number-number.result ((unit_is l c.loop-k.k u c.index.result.now c.as_slice.result.now c.requires c.loop-k-test.true c.index-l-k.is at c.as_slice.ensures.value).unit) (c.main_number-number.ensures ∙ ap (λ (w : CilUnit). main_number c.as_slice.result.now (map (global_of w.graph.nodes l.names.now) w.globals.items)) (sym c.index-l-k.is)) (sym c.is_some.ensures ∙ c.if-is_some.true) c.loop-k.invariant

pub loop-k-preserved : goal.loop-k-preserved
loop-k-preserved c =
    let l = c.args.l.now in
    let u = c.index-l-k.result in
    let at : c.index.result.now ≡ get_or l.entities.now.numbers.items c.loop-k.k c.index.result.now = search rules in
    next_unit (units_in l) c.loop-k.k _ c.main_number-number.result ((unit_is l c.loop-k.k u c.index.result.now c.as_slice.result.now c.requires c.loop-k-test.true c.index-l-k.is at c.as_slice.ensures.value).unit) (c.main_number-number.ensures ∙ ap (λ (w : CilUnit). main_number c.as_slice.result.now (map (global_of w.graph.nodes l.names.now) w.globals.items)) (sym c.index-l-k.is)) (sym c.is_some.ensures ∙ c.if-is_some.false) c.loop-k.invariant

pub returns : goal.returns
returns c = sym (sym c.loop-k.invariant ∙ among_past (units_in c.args.l.now) c.loop-k.k (omega (arith, many_units c.args.l.now, c.loop-k-test.false)))
