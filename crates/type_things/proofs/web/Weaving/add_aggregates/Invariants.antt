use Rattle.std.proofs.Common.{ℕ, List, map, take}
use Rattle.type_things.specs.Units.{aggregate_thing}
use Rattle.type_things.specs.Weaving.{IsSpanned, Adds, AreStems}
use Rattle.type_things.proofs.web.Weaving.add_aggregates.Given as goal

abbrev pub invariant-loop-a : goal.invariant-loop-a
invariant-loop-a l = record {
  spanned : IsSpanned l.web;
  adds : (names : List (List ℕ)) → AreStems names l.self.stems.now → Adds l.fn.web l.web (map (aggregate_thing names l.self.first.ty) (take l.a l.g.aggs));
}
