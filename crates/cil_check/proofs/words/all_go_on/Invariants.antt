use Rattle.std.proofs.Common.{◌≡◌, drop}
use Rattle.std.specs.List.{list_all}
use Rattle.cil_tree.specs.Names.{goes_on_word}
use Rattle.cil_check.proofs.words.all_go_on.Given as goal

abbrev pub invariant-loop-i : goal.invariant-loop-i
invariant-loop-i l = list_all goes_on_word (drop l.i l.text) ≡ list_all goes_on_word l.text
