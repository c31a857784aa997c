use Rattle.std.proofs.Common.{◌≡◌, drop, map}
use Rattle.cil_tree.specs.Names.{is_among}
use Rattle.cil_check.proofs.words.is_among.Given as goal

abbrev pub invariant-loop-i : goal.invariant-loop-i
invariant-loop-i l = is_among (map (λ w. w.now) (drop l.i l.words)) l.text ≡ is_among (map (λ w. w.now) l.words) l.text
