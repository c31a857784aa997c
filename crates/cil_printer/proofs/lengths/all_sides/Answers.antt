use Rattle.std.proofs.Common.{◌≡◌, ◌++◌, ◌∷◌, [], List, length, length-append, ap, sym, subst, arith}
use Rattle.cil_tree.specs.View.{program_of}
use Rattle.cil_printer.specs.declared.sides.Sides.{Sides}
use Rattle.cil_printer.specs.Sides.{AreSides}
use Rattle.cil_printer.proofs.Counted.{no_sides, sides_more}
use Rattle.cil_printer.proofs.lengths.all_sides.Goals as goal

pub loop-t-init : goal.loop-t-init
loop-t-init c =
    let p = program_of c.args.names.now c.args.unit.now in
    (subst (λ (ss : List Sides). AreSides ss p) (sym c.in_ok-sides.ensures.items) (no_sides p), ap length c.in_ok-sides.ensures.items)

pub loop-t-preserved : goal.loop-t-preserved
loop-t-preserved c =
    let p = program_of c.args.names.now c.args.unit.now in
    let x : Sides = c.next_sides-next.result in
    let pushed : c.push.new.self.items ≡ c.loop-t.sides.items ++ x ∷ [] = c.in_ok-push.ensures.items in
    let more : length c.push.new.self.items ≡ length (c.loop-t.sides.items ++ x ∷ []) = ap length pushed in (
      subst (λ (ss : List Sides). AreSides ss p) (sym pushed) (sides_more c.loop-t.sides.items p c.loop-t.t x c.loop-t.invariant.0 (sym c.loop-t.invariant.1) c.next_sides-next.ensures),
      omega (arith, more, length-append c.loop-t.sides.items (x ∷ []), c.loop-t.invariant.1),
    )
