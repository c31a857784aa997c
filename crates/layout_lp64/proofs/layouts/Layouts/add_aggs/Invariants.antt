use Rattle.layout_lp64.specs.Tables.{Extended}
use Rattle.layout_lp64.proofs.layouts.Layouts.add_aggs.Given as goal

abbrev pub invariant-loop-i : goal.invariant-loop-i
invariant-loop-i l = Extended l.fn.self l.self l._i
