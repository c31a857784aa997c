use Rattle.std.proofs.Common.{◌≡◌, ◌≤◌, ◌+◌, ◌-◌, take, drop, []}
use Rattle.cil_tree.specs.Declarators.{words_from}
use Rattle.cil_layout.specs.Scan.{read_words}
use Rattle.cil_layout.proofs.layout.read_words.Given as goal

abbrev pub invariant-loop-at : goal.invariant-loop-at
invariant-loop-at l =
    (l.start ≤ l.at) × (l.open ≤ l.braces + l.start)
    × (read_words l.open (words_from (take (l.at - l.start) (drop l.start l.text)) (drop l.at l.text)) ≡ read_words l.braces (words_from [] l.text))
