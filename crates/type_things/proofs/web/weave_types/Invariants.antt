use Rattle.std.proofs.Common.{◌≡◌, ℕ, map, take}
use Rattle.type_things.specs.Units.{types_from, firsts_from}
use Rattle.type_things.specs.Webs.{first_pairs}
use Rattle.type_things.specs.Weaving.{IsSpanned, Adds}
use Rattle.type_things.proofs.web.weave_types.Given as goal

abbrev pub invariant-loop-u : goal.invariant-loop-u
invariant-loop-u g l = record {
  spanned : IsSpanned l.web;
  adds : (types : ℕ) → first_pairs l.fn.web ≡ firsts_from 0 types (map g.G.HasGraph.graph_of l.units) → Adds l.fn.web l.web (types_from 0 types (take l.u (map g.G.HasGraph.graph_of l.units)));
}
