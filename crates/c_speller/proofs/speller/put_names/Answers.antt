use Rattle.std.proofs.Common.{[], ◌∷◌, get_or}
use Rattle.c_tree.specs.Spelling.{named}
use Rattle.c_tree.proofs.CappedLemmas.{same_default}
use Rattle.c_speller.proofs.AddedLemmas.{commas_step}
use Rattle.c_speller.proofs.speller.put_names.Goals as goal

pub loop-x-preserved : goal.loop-x-preserved
loop-x-preserved c = commas_step c.args.from.now.names.now c.args.out.now c.loop-x.out c.put_comma_if.new.out c.put_name.new.out (λ n. named n ∷ []) c.args.xs.now c.loop-x.x-index c.loop-x.is_more
    (get_or c.args.xs.now c.loop-x.x-index record { 0 = 0 }) c.loop-x-test.true (same_default c.args.xs.now c.loop-x.x-index record { 0 = 0 } (get_or c.args.xs.now c.loop-x.x-index record { 0 = 0 }) c.loop-x-test.true)
    c.loop-x.invariant c.put_comma_if.ensures c.put_name.ensures
