use Rattle.std.proofs.Common.{◌≡◌, ◌<◌, ◌+◌, Some, cond, length, map, drop, get_or, rules, arith, sym, ap, ◌∙◌}
use Rattle.cil_tree.specs.View.{global_of}
use Rattle.cil_link.specs.MainGlobals.{main_number}
use Rattle.cil_link.proofs.MainLaws.{number_here}
use Rattle.cil_link.proofs.mains.main_number.Goals as goal

pub loop-i-preserved : goal.loop-i-preserved
loop-i-preserved c =
    let u = c.args.u.now in
    let see = global_of u.graph.nodes c.args.names.now in
    let low : c.loop-i.i < length u.globals.items = omega (arith, c.loop-i-test.true, c.len-i-end.ensures) in
    let is : c.index.result.now ≡ get_or u.globals.items c.loop-i.i c.index.result.now = search rules in
    sym (ap (λ b. cond b (Some (get_or c.args.numbers.now c.loop-i.i 0)) (main_number (drop (c.loop-i.i + 1) c.args.numbers.now) (map see (drop (c.loop-i.i + 1) u.globals.items)))) (sym c.is_main.ensures ∙ c.if-is_main.false))
    ∙ sym (number_here see u.globals.items c.args.numbers.now c.loop-i.i c.index.result.now low c.requires is) ∙ c.loop-i.invariant
