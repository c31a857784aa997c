use Rattle.std.proofs.Common.{slice_set, ap, ◌∙◌}
use Rattle.type_graph.specs.Growth.{renamed}
use Rattle.static_rename.proofs.types.retag.Goals as goal

pub returns : goal.returns
returns c = record {
  aggregate = c.agg.result.now;
  it_is = c.agg.ensures;
  new_is = c.rename_agg.ensures.renames c.agg.result.now c.agg.ensures
      ∙ ap (λ ns. record c.args.g.now { aggs = slice_set c.args.g.now.aggs c.args.a.0 (renamed c.agg.result.now c.args.tag ns) }) (c.deref.ensures.value ∙ c.in_ok-names.ensures);
}
