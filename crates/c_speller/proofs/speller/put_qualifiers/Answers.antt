use Rattle.std.proofs.Common.{[], ◌∷◌, get_or, subst}
use Rattle.c_tree.specs.declared.words.Qualifier.TheVariants.{Const}
use Rattle.c_tree.specs.Spelling.{word, qualifier_word}
use Rattle.c_speller.specs.Added.{Adds}
use Rattle.c_tree.proofs.CappedLemmas.{same_default}
use Rattle.c_speller.proofs.AddedLemmas.{added_step}
use Rattle.c_speller.proofs.speller.put_qualifiers.Goals as goal

pub loop-x-preserved : goal.loop-x-preserved
loop-x-preserved c = added_step c.args.from.now.names.now c.args.out.now c.loop-x.out c.put_word.new.out (λ q. word (qualifier_word q) ∷ []) c.args.xs.now c.loop-x.x-index
    (get_or c.args.xs.now c.loop-x.x-index Const) c.loop-x-test.true (same_default c.args.xs.now c.loop-x.x-index Const (get_or c.args.xs.now c.loop-x.x-index Const) c.loop-x-test.true)
    c.loop-x.invariant (subst (λ k. Adds c.args.from.now.names.now c.loop-x.out c.put_word.new.out (word k ∷ [])) c.qualifier_word.ensures c.put_word.ensures)
