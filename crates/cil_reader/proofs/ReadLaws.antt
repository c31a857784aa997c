-- Device: what the reading of aggregates leaves, step by step.
use Rattle.std.proofs.Common.{◌≡◌, ◌<◌, ◌+◌, ℕ, List, [], length, drop, ap}
use Rattle.cil_base.specs.declared.numbers.AggId.{AggId}
use Rattle.type_graph.specs.Arena.{Graph}
use Rattle.cil_reader.specs.Settings.{Setting, env_in}
use Rattle.cil_reader.specs.Aggregates.{aggregates_in, Holds, AreOpen, with_fields, AggregatesAdded, AggregatesRead, OthersStay}
use Rattle.cil_reader.proofs.AggregateLaws.{left_holds, left_rest}
use Rattle.cil_reader.proofs.AddedMembers.{added_none, left_added}

pub read_both : (s t : Setting) (names later : List (List ℕ)) (k : ℕ) → Holds t later k → AggregatesAdded s.graph t.graph names later → AggregatesRead s t names later k
read_both s t names later k holds adds = record { holds = holds; adds = adds }

pub read_none : (s : Setting) (names : List (List ℕ)) (k : ℕ) → Holds s names k → AggregatesRead s s names names k
read_none s names k holds = record { holds = holds; adds = added_none s.graph names }

pub read_holds : (s t : Setting) (names later : List (List ℕ)) (k : ℕ) → AggregatesRead s t names later k → Holds t later k
read_holds s t names later k a = a.holds

pub read_adds : (s t : Setting) (names later : List (List ℕ)) (k : ℕ) → AggregatesRead s t names later k → AggregatesAdded s.graph t.graph names later
read_adds s t names later k a = a.adds

-- one without members

pub left_read : (s t : Setting) (names : List (List ℕ)) (a : AggId) → Holds s names a.0 → a.0 < length s.graph.aggs → AreOpen (drop a.0 (aggregates_in s.graph names)) → t.graph ≡ s.graph → env_in t ≡ with_fields (env_in s) [] → AggregatesRead s t names names (a.0 + 1)
left_read s t names a h less o same env = record { holds = left_holds s t names a h less o same env; adds = left_added s t names same }

pub others_left : (s t : Setting) (names : List (List ℕ)) (a : ℕ) → t.graph ≡ s.graph → (env_in t).tags ≡ (env_in s).tags → OthersStay s t names names a
others_left s t names a same tags = record { rest = left_rest s t names (a + 1) same; tags = tags; count = ap (λ (g : Graph). length g.aggs) same }

pub others_by : (s t : Setting) (names later : List (List ℕ)) (a : ℕ) → drop (a + 1) (aggregates_in t.graph later) ≡ drop (a + 1) (aggregates_in s.graph names) → (env_in t).tags ≡ (env_in s).tags → length t.graph.aggs ≡ length s.graph.aggs → OthersStay s t names later a
others_by s t names later a rest tags count = record { rest = rest; tags = tags; count = count }
