use Rattle.std.proofs.Common.{◌≡◌, [], ◌∷◌, map, take}
use Rattle.execution.specs.Linking.{memset_symbol}
use Rattle.cil_link.specs.Meeting.{known_in}
use Rattle.cil_link.proofs.entities.first_numbers.Given as goal

abbrev pub invariant-loop-n : goal.invariant-loop-n
invariant-loop-n l = l.known.items ≡ map (known_in (memset_symbol ∷ [])) (take l.n l.names)
