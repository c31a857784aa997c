use Rattle.std.proofs.Common.{◌+◌, arith, sym, subst}
use Rattle.layout_lp64.specs.Tables.{InStep}
use Rattle.cil_tree.specs.declared.globals.CilUnit.{CilUnit}
use Rattle.cil_runner.proofs.Loads.{layouts_next, layouts_end}
use Rattle.cil_runner.proofs.loading.all_layouts.Goals as goal

pub loop-i-preserved : goal.loop-i-preserved
loop-i-preserved c =
    layouts_next c.args.units.now c.loop-i.i (c.loop-i.i + 1) c.index-units-i.result c.loop-i.layouts.items c.push.new.self.items c.in_ok-layouts_of.field-0 c.loop-i-test.true (omega arith) c.index-units-i.is c.loop-i.invariant
    (subst (λ (u : CilUnit). InStep c.in_ok-layouts_of.field-0 u.graph) (sym c.index-units-i.is) c.in_ok-layouts_of.ensures)
    c.in_ok-push.ensures.items

pub returns : goal.returns
returns c = layouts_end c.args.units.now c.loop-i.i c.loop-i.layouts.items (omega (arith, c.loop-i-test.false)) c.loop-i.invariant
