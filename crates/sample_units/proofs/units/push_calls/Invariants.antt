use Rattle.std.proofs.Common.{◌≡◌, ◌++◌, map}
use Rattle.std.specs.List.{concat, range_with_len}
use Rattle.sample_units.specs.Units.{call_line}
use Rattle.sample_units.proofs.units.push_calls.Given as goal

-- the lines of the units so far stand behind the text
abbrev pub invariant-loop-u : goal.invariant-loop-u
invariant-loop-u l = l.out.items ≡ l.fn.out.items ++ concat (map call_line (range_with_len 0 l.u))
