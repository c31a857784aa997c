use Rattle.std.proofs.Common.{List, Option, slice_set, ap, ◌∙◌}
use Rattle.std.specs.Option.{option_map}
use Rattle.type_graph.specs.Layouts.{AggLayout}
use Rattle.layout_lp64.specs.Placements.{seen}
use Rattle.layout_lp64.proofs.EntryLaws.{entries_set, within_set}
use Rattle.layout_lp64.proofs.aggregate_table.AggregateTable.set.Goals as goal

pub invariant_of-self-2 : goal.invariant_of-self-2
invariant_of-self-2 c =
    within_set c.self.inside.offsets.items c.kept_if.new.offsets.items c.self.inside.entries.items c.args.a.0 c.in_ok-entry.entry c.self.invariant c.in_ok-entry.ensures.adds c.in_ok-entry.ensures.within

pub returns-clause-ok : goal.returns-clause-ok
returns-clause-ok c =
    entries_set c.self.inside.offsets.items c.kept_if.new.offsets.items c.self.inside.entries.items c.args.a.0 c.in_ok-entry.entry (option_map seen c.args.layout.now) c.self.invariant c.in_ok-entry.ensures.adds c.in_ok-entry.ensures.is
    ∙ ap (λ (ls : List (Option AggLayout)). slice_set ls c.args.a.0 (option_map seen c.args.layout.now)) c.self.view_is
