use Rattle.std.proofs.Common.{◌≡◌, ◌++◌, ◌∷◌, [], List, length, length-append, ap, sym, subst, arith}
use Rattle.cil_check.specs.declared.elements.Tops.{Tops}
use Rattle.cil_check.specs.Rules.{AreTops}
use Rattle.cil_check.proofs.ElementTable.{tops_pushed}
use Rattle.cil_check.proofs.elements.element_tops.Goals as goal

pub loop-t-preserved : goal.loop-t-preserved
loop-t-preserved c =
    let pushed : c.push.new.self.items ≡ c.loop-t.tops.items ++ c.top_of-top.result ∷ [] = c.in_ok-push.ensures.items in
    let more : length c.push.new.self.items ≡ length (c.loop-t.tops.items ++ c.top_of-top.result ∷ []) = ap length pushed in (
      subst (λ (ts : List Tops). AreTops ts c.args.g.now) (sym pushed) (tops_pushed c.loop-t.tops.items c.args.g.now c.loop-t.t c.top_of-top.result c.node.result.now c.loop-t.invariant.0 c.loop-t.invariant.1 (omega (arith, c.loop-t-test.true, c.len-t-end.ensures.count)) c.node.ensures.shape c.top_of-top.ensures),
      omega (arith, more, length-append c.loop-t.tops.items (c.top_of-top.result ∷ []), c.loop-t.invariant.1),
    )
