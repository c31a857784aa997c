-- Device: layouts stay in step with an arena under other names.
use Rattle.std.proofs.Common.{◌≡◌, ℕ, List, nat_lt, slice_get, Option, Some, None, cond, sym, ap, ◌∙◌}
use Rattle.std.proofs.Math.ListN.{set, length-set}
use Rattle.std.specs.Option.{option_and_then, option_map}
use Rattle.cil_base.specs.declared.numbers.NameId.{NameId}
use Rattle.type_graph.specs.declared.aggregates.Aggregate.{Aggregate}
use Rattle.type_graph.specs.Arena.{Graph, IsArena, rank}
use Rattle.type_graph.specs.Growth.{renamed}
use Rattle.type_graph.specs.Layouts.{AggLayout}
use Rattle.type_graph.proofs.RenamingLaws.{agg_layout_renamed, layout_renamed}
use Rattle.layout_lp64.specs.declared.layouts.Layouts.{Layouts}
use Rattle.layout_lp64.specs.Capped.{capped_agg}
use Rattle.layout_lp64.specs.Tables.{InStep}

pub in_step_renamed : (l : Layouts) (g : Graph) (a : ℕ) (x : Aggregate) (tag : NameId) (names : List NameId) → slice_get g.aggs a ≡ Some x → IsArena (record g { aggs = set g.aggs a (renamed x tag names) }) → InStep l g → InStep l (record g { aggs = set g.aggs a (renamed x tag names) })
in_step_renamed l g a x tag names at w s = record {
  sizes = λ t. s.sizes t ∙ sym (layout_renamed g a x tag names at w t);
  offsets = λ t b e i. s.offsets t b e i ∙ sym (ap (option_and_then (λ (y : AggLayout). slice_get y.offsets i)) (agg_layout_renamed g a x tag names at w b.0));
  fit = record { each = λ t y e. s.fit.each t y (sym (layout_renamed g a x tag names at w t) ∙ e) };
  tables = record {
    spans = record { count = s.tables.spans.count; each = s.tables.spans.each };
    aggs_count = s.tables.aggs_count ∙ sym (length-set g.aggs a (renamed x tag names));
    most_count = s.tables.most_count ∙ sym (length-set g.aggs a (renamed x tag names));
    layouts = λ b. s.tables.layouts b ∙ ap (λ (o : Option AggLayout). cond (nat_lt (rank g.completed b) l.completed) (option_map capped_agg o) None) (sym (agg_layout_renamed g a x tag names at w b));
    most = s.tables.most;
    done = s.tables.done;
  };
  all_types = s.all_types;
  all_aggs = s.all_aggs;
}
