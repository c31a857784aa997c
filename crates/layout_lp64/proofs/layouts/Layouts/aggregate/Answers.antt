use Rattle.std.proofs.Common.{◌<◌, List, slice_get, sym, ap, subst, ◌∙◌}
use Rattle.type_graph.specs.declared.aggregates.Member.{Member}
use Rattle.layout_lp64.proofs.TableLaws.{members_there}
use Rattle.layout_lp64.proofs.layouts.Layouts.aggregate.Goals as goal

pub of_members-requires-clause-there : goal.of_members-requires-clause-there
of_members-requires-clause-there c i m e =
    subst (λ k. m.ty.of.0 < k) (sym c.requires.all)
    (members_there c.args.g.now c.requires.arena c.args.a.0 c.agg-aggregate.result.now c.in-Some.members c.agg-aggregate.ensures c.in-Some.is i m (ap (λ (ms : List Member). slice_get ms i) (sym c.as_slice.ensures) ∙ e))
