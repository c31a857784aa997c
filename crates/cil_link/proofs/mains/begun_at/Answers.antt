use Rattle.std.proofs.Common.{◌<◌, ◌≡◌, Option, get_or, arith, sym, ap, subst, ◌∙◌}
use Rattle.std.specs.Vec.{vec_len}
use Rattle.execution.specs.Calls.{Meaning}
use Rattle.cil_tree.specs.declared.globals.CilUnit.{CilUnit}
use Rattle.cil_tree.specs.View.{global_of, program_of}
use Rattle.cil_semantics.specs.Runs.{global_meaning}
use Rattle.cil_link.specs.MainGlobals.{Begun}
use Rattle.cil_link.proofs.UnitLaws.{unit_there, global_low, meant_by}
use Rattle.cil_link.proofs.mains.begun_at.Goals as goal

pub bounds-l-unit : goal.bounds-l-unit
bounds-l-unit c = unit_there c.args.l.now c.args.unit c.args.global c.requires.there

pub index-requires : goal.index-requires
index-requires c =
    let u = c.index-l-unit.result in
    subst (λ (w : CilUnit). c.args.global.0 < vec_len w.globals) c.index-l-unit.is (omega (arith, global_low c.args.l.now c.args.unit c.args.global u c.requires.there c.index-l-unit.is, u.globals.ok.0))

pub returns : goal.returns
returns c =
    let l = c.args.l.now in
    let u = c.index-l-unit.result in
    let at : c.index.result.now ≡ get_or u.globals.items c.args.global.0 c.index.result.now = c.index.ensures ∙ ap (λ (w : CilUnit). get_or w.globals.items c.args.global.0 c.index.result.now) (sym c.index-l-unit.is) in
    let m = meant_by l c.args.unit c.args.global u c.index.result.now c.requires.there c.index-l-unit.is at in
    let p = program_of l.names.now u in
    subst (λ (o : Option Meaning). Begun o c.args.entity c.begun_by.result) (sym m.means)
    (subst (λ (w : CilUnit). Begun (global_meaning p (global_of w.graph.nodes l.names.now c.index.result.now) m.entities) c.args.entity c.begun_by.result) (sym c.index-l-unit.is) (c.begun_by.ensures p m.entities l.names.now))
