use Rattle.std.proofs.Common.{List, [], ◌∷◌, ◌++◌, length, ap, ◌∙◌}
use Rattle.layout_lp64.specs.declared.spans.Span.{Span}
use Rattle.layout_lp64.specs.Compacts.{spans_kept}
use Rattle.layout_lp64.proofs.CompactLaws.{on_err, same_spans, more_aside, span_pushed, aside_pushed}
use Rattle.layout_lp64.proofs.span_table.SpanTable.push.Goals as goal

pub returns-in_err-push-clause-err : goal.returns-in_err-push-clause-err
returns-in_err-push-clause-err c =
    on_err _
    (ap (spans_kept c.compacted.new.others.items) c.in_err-push.ensures.items
    ∙ same_spans c.self.inside.others.items c.compacted.new.others.items c.self.inside.spans.items c.self.invariant c.in_ok-c.ensures.adds ∙ c.self.view_is)

pub invariant_of-self-2 : goal.invariant_of-self-2
invariant_of-self-2 c =
    aside_pushed (length c.compacted.new.others.items) c.self.inside.spans.items c.push.new.self.items c.in_ok-c.c
    (more_aside c.self.inside.others.items c.compacted.new.others.items c.self.inside.spans.items c.self.invariant c.in_ok-c.ensures.adds)
    c.in_ok-c.ensures.within c.in_ok-push.ensures.items

pub returns-clause-ok : goal.returns-clause-ok
returns-clause-ok c =
    span_pushed c.self.inside.others.items c.compacted.new.others.items c.self.inside.spans.items c.push.new.self.items c.in_ok-c.c c.args.span c.self.invariant c.in_ok-c.ensures.adds c.in_ok-c.ensures.is c.in_ok-push.ensures.items
    ∙ ap (λ (ss : List Span). ss ++ c.args.span ∷ []) c.self.view_is
