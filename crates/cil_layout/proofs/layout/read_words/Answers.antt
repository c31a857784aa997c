use Rattle.std.proofs.Common.{◌+◌, ◌<◌, length, [], arith, subst, sym, ◌∙◌}
use Rattle.cil_tree.specs.Declarators.{words_from}
use Rattle.cil_layout.specs.Scan.{read_words}
use Rattle.cil_layout.proofs.ScanLaws.{Reads, reads_on, reads_blank}
use Rattle.cil_layout.proofs.layout.read_words.Goals as goal
use Rattle.cil_layout.proofs.layout.read_words.Goals.{then-text-at-eq32+in-Some, else-text-at-eq32}

pub loop-at-preserved : goal.loop-at-preserved
loop-at-preserved c =
    let text = c.args.text.now in
    let whole = read_words c.args.braces (words_from [] text) in
    let less : c.loop-at.at < length text = omega arith in
    elim c.if-text-at-eq32.branch [
      | then-text-at-eq32+in-Some w ↦
          subst (λ s. Reads text c.args.braces s (c.loop-at.at + 1) c.if-text-at-eq32.open whole) (sym w.start-is)
          (subst (λ o. Reads text c.args.braces (c.loop-at.at + 1) (c.loop-at.at + 1) o whole) (sym w.open-is)
          (reads_blank text c.args.braces c.loop-at.start c.loop-at.at c.loop-at.open w.in-Some.next whole less c.loop-at.invariant w.if-text-at-eq32.true (sym w.in-Some.is ∙ w.behind_token.ensures.told) w.in-Some.ensures.room))
      | else-text-at-eq32 w ↦
          subst (λ s. Reads text c.args.braces s (c.loop-at.at + 1) c.if-text-at-eq32.open whole) (sym w.start-is)
          (subst (λ o. Reads text c.args.braces c.loop-at.start (c.loop-at.at + 1) o whole) (sym w.open-is)
          (reads_on text c.args.braces c.loop-at.start c.loop-at.at c.loop-at.open whole less c.loop-at.invariant w.if-text-at-eq32.false))
    ]
