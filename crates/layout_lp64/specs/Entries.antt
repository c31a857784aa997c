-- Device: the layouts of aggregates as they are kept, with the offsets of all in one list.
use Rattle.std.specs.Prelude.{◌≡◌, ℕ, ◌+◌, ◌≤◌, List, ◌++◌, Option, Some, map, take, drop, slice_get}
use Rattle.std.specs.Option.{option_map}
use Rattle.type_graph.specs.Layouts.{AggLayout}
use Rattle.layout_lp64.specs.declared.aggregate_table.Entry.{Entry}

abbrev pub entry_of : List ℕ → Entry → AggLayout
entry_of offsets e = record { whole = e.whole; offsets = take e.count (drop e.first offsets) }

abbrev pub entries_of : List ℕ → List (Option Entry) → List (Option AggLayout)
entries_of offsets entries = map (option_map (entry_of offsets)) entries

-- the offsets of an aggregate are among the first n
abbrev pub IsWithin : ℕ → Option Entry → Type 0
IsWithin n o = (e : Entry) → o ≡ Some e → e.first + e.count ≤ n

pub record AreWithin (entries : List (Option Entry)) (n : ℕ) : Type 0 where
  pub each : (i : ℕ) (o : Option Entry) → slice_get entries i ≡ Some o → IsWithin n o

-- offsets were added behind those that were there
pub record AddsOffsets (old new : List ℕ) : Type 0 where
  pub more : List ℕ
  pub are : new ≡ old ++ more
