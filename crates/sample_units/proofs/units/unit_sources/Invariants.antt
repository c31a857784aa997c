use Rattle.std.proofs.Common.{◌≡◌, ◌<◌, ◌^◌, map}
use Rattle.std.specs.List.{range_with_len}
use Rattle.sample_units.specs.Draws.{state_at}
use Rattle.sample_units.specs.Units.{unit_text}
use Rattle.sample_units.proofs.units.unit_sources.Given as goal

-- the units so far were made, and their numbers were drawn
abbrev pub invariant-loop-u : goal.invariant-loop-u
invariant-loop-u l = (l.texts.items ≡ map (unit_text l.seed l.units) (range_with_len 0 l.u)) × ((l.state ≡ state_at l.seed l.u) × (l.state < 2 ^ 32))
