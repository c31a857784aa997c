use Rattle.std.proofs.Common.{◌≡◌, ◌<◌, ◌-◌, ℕ, true, length, get_or}
use Rattle.std.specs.Char.{is_ascii_digit}
use Rattle.type_things.proofs.stems.count_digits.Given as goal

abbrev pub invariant-loop-k : goal.invariant-loop-k
invariant-loop-k l = (j : ℕ) → j < l.k → is_ascii_digit (get_or l.text (length l.text - 1 - j) 0) ≡ true
