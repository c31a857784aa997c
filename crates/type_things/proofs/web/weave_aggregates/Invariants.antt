use Rattle.std.proofs.Common.{◌≡◌, ℕ, List, map, take}
use Rattle.type_things.specs.Units.{aggregates_from, firsts_from}
use Rattle.type_things.specs.Webs.{first_pairs}
use Rattle.type_things.specs.Weaving.{IsSpanned, Adds, AreStems}
use Rattle.type_things.proofs.web.weave_aggregates.Given as goal

abbrev pub invariant-loop-u : goal.invariant-loop-u
invariant-loop-u g l = record {
  spanned : IsSpanned l.web;
  adds : (names : List (List ℕ)) (types : ℕ) → AreStems names l.stems → first_pairs l.fn.web ≡ firsts_from 0 types (map g.G.HasGraph.graph_of l.units) → Adds l.fn.web l.web (aggregates_from names types (take l.u (map g.G.HasGraph.graph_of l.units)));
}
