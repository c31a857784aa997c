use Rattle.std.proofs.Common.{length, sym, ap, ◌∙◌}
use Rattle.type_things.specs.Stems.{stem_of}
use Rattle.type_things.proofs.StemLaws.{stem_next}
use Rattle.std.specs.Option.{option_map}
use Rattle.type_things.proofs.stems.stem.Goals as goal

pub loop-turn-preserved : goal.loop-turn-preserved
loop-turn-preserved c = stem_next (length c.args.text.now) c.loop-turn._turn c.loop-turn.rest.now c.in-Some.front.now (stem_of c.args.text.now) c.loop-turn-test.true (sym c.shortened.ensures ∙ ap (option_map (λ s. s.now)) c.in-Some.is) c.loop-turn.invariant
