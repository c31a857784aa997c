use Rattle.std.proofs.Common.{refl, ◌∙◌, arith}
use Rattle.c_exprs.proofs.ListLoops.{growing_from, growing_next, growing_stops, growing_ends}
use Rattle.c_parser.proofs.declarations.more_init_declarators.Goals as goal

pub loop-alloc-init : goal.loop-alloc-init
loop-alloc-init g c = (grind (arith, growing_from), record { same = refl; onward = omega arith })

pub loop-alloc-preserved : goal.loop-alloc-preserved
loop-alloc-preserved g c = (
  grind (arith, growing_next),
  record { same = c.next_init_declarator.ensures.onward.same ∙ c.loop-alloc.invariant.1.same; onward = omega (arith, c.next_init_declarator.ensures.onward.onward, c.loop-alloc.invariant.1.onward) },
)

pub returns-in_err-d-clause-gives : goal.returns-in_err-d-clause-gives
returns-in_err-d-clause-gives g c = grind (arith, growing_stops)

pub returns-clause-gives : goal.returns-clause-gives
returns-clause-gives g c = grind (arith, growing_ends)
