use Rattle.std.proofs.Common.{◌≡◌, ◌-◌, length}
use Rattle.type_things.specs.Stems.{stem_within, stem_of}
use Rattle.type_things.proofs.stems.stem.Given as goal

abbrev pub invariant-loop-turn : goal.invariant-loop-turn
invariant-loop-turn l = stem_within (length l.text - l._turn) l.rest ≡ stem_of l.text
