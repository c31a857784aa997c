use Rattle.std.proofs.Common.{◌≡◌, drop}
use Rattle.std.specs.List.{list_all}
use Rattle.cil_tree.specs.Names.{goes_on_word}
use Rattle.cil_layout.proofs.signs.all_go_on.Given as goal

abbrev pub invariant-loop-b : goal.invariant-loop-b
invariant-loop-b l = list_all goes_on_word (drop l.b-index l.token) ≡ list_all goes_on_word l.token
