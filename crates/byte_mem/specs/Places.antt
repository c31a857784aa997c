-- Definition: where objects stand among regions of bytes that they share, and what these calls keep.
use Rattle.std.specs.Prelude.{◌≡◌, ◌≢◌, ◌⊎◌, ℕ, ◌+◌, ◌<◌, ◌≤◌, if◌then◌else◌, nat_eq, nat_le, max, List, [], ◌∷◌, ◌++◌, length, map, take, replicate, Option, Some, None, Result, Ok, Err, option_map, slice_index_or, slice_set}
use Rattle.byte_mem.specs.declared.values.Byte.{Byte}
use Rattle.byte_mem.specs.declared.objects.Place.{Place}
use Rattle.byte_mem.specs.declared.objects.Beginning.{Beginning}
use Rattle.byte_mem.specs.Object.{Held, part_at}

abbrev pub region_at : List (List Byte) → ℕ → List Byte
region_at regions r = slice_index_or regions r []

abbrev pub place_at : List (Option Place) → ℕ → Option Place
place_at places i = slice_index_or places i None

-- what stands at a place of some bytes
abbrev pub held_of : List Byte → Place → Held
held_of bytes p = record { function = p.is_function; read_only = p.read_only; bytes = part_at p.start p.size bytes }

abbrev pub held_in : List (List Byte) → Place → Held
held_in regions p = held_of (region_at regions p.region) p

-- what is live at each place
abbrev pub placed : List (List Byte) → List (Option Place) → List (Option Held)
placed regions places = map (option_map (held_in regions)) places

-- what begins to live
abbrev pub begun : Beginning → Held
begun b = record { function = b.is_function; read_only = b.read_only; bytes = replicate b.size b.fill }

abbrev pub IsWithin : List Byte → Place → Type 0
IsWithin bytes p = p.start + p.size ≤ length bytes

abbrev pub IsIn : List (List Byte) → Place → Type 0
IsIn regions p = (p.region < length regions) × IsWithin (region_at regions p.region) p

-- each place lies in its region
abbrev pub AllIn : List (List Byte) → List (Option Place) → Type 0
AllIn regions places = (i : ℕ) (p : Place) → place_at places i ≡ Some p → IsIn regions p

-- the bytes of two places are others
abbrev pub IsClear : Place → Place → Type 0
IsClear p q = (p.region ≢ q.region) ⊎ ((p.start + p.size ≤ q.start) ⊎ (q.start + q.size ≤ p.start))

abbrev pub AllClear : List (Option Place) → Type 0
AllClear places = (i j : ℕ) (p q : Place) → place_at places i ≡ Some p → place_at places j ≡ Some q → i ≢ j → IsClear p q

-- objects that share regions have no byte in common
abbrev pub IsApart : List (List Byte) → List (Option Place) → Type 0
IsApart regions places = AllIn regions places × AllClear places

-- no region is fewer or other bytes than before
abbrev pub IsSameRegions : List (List Byte) → List (List Byte) → Type 0
IsSameRegions old new = (length old ≤ length new) × ((r : ℕ) → region_at new r ≡ region_at old r)

-- each region begins as it was
abbrev pub IsGrown : List (List Byte) → List (List Byte) → Type 0
IsGrown old new = (length old ≤ length new) × ((r : ℕ) → take (length (region_at old r)) (region_at new r) ≡ region_at old r)

-- a place behind all that its region had
abbrev pub IsBegun : List (List Byte) → List (List Byte) → Beginning → Place → Type 0
IsBegun old new b p = IsIn new p × (held_in new p ≡ begun b) × (length (region_at old p.region) ≤ p.start)

-- what stands at the places is as it was
abbrev pub Keeps : List (Option Place) → List (List Byte) → List (List Byte) → Type 0
Keeps places old new = (i : ℕ) (p : Place) → place_at places i ≡ Some p → IsIn new p × (held_in new p ≡ held_in old p)

-- the end of an object, if it stands in a region
abbrev pub end_in : Option Place → ℕ → ℕ
end_in None r = 0
end_in (Some p) r = if nat_eq p.region r then p.start + p.size else 0

-- the end of the last object of a region
abbrev pub top_of : List (Option Place) → ℕ → ℕ
top_of [] r = 0
top_of (o ∷ places) r = max (end_in o r) (top_of places r)

-- the regions where one has no bytes behind its last object
abbrev pub trimmed : List (List Byte) → List (Option Place) → ℕ → List (List Byte)
trimmed regions places r = slice_set regions r (take (top_of places r) (region_at regions r))

-- the regions without what an earlier place alone needed
abbrev pub given_up : List (List Byte) → List (Option Place) → Option Place → List (List Byte)
given_up regions places None = regions
given_up regions places (Some p) = if nat_le (length (region_at regions p.region)) (p.start + p.size) then trimmed regions places p.region else regions

-- bytes apart from a place are as they were
abbrev pub IsBeside : Place → List Byte → List Byte → Type 0
IsBeside p old new = (length new ≡ length old) × ((s n : ℕ) → (s + n ≤ p.start) ⊎ (p.start + p.size ≤ s) → part_at s n new ≡ part_at s n old)

abbrev pub IsSamePlace : Place → Place → Type 0
IsSamePlace p q = (q.region ≡ p.region) × (q.start ≡ p.start) × (q.size ≡ p.size)

-- a change of what stands at a place of some bytes
abbrev pub PlaceChanges : Option Place → List Byte → List Byte → Place → Option Held → Type 0
PlaceChanges None old new p o = (o ≡ None) × (new ≡ old)
PlaceChanges (Some q) old new p o = (o ≡ Some (held_of new q)) × IsSamePlace p q × IsBeside p old new

-- a change of what stands at a place of some regions
abbrev pub RegionChanges : Option Place → List (List Byte) → List (List Byte) → Place → Option Held → Type 0
RegionChanges None old new p o = (o ≡ None) × (new ≡ old)
RegionChanges (Some q) old new p o =
    (o ≡ Some (held_in new q)) × IsSamePlace p q × (length new ≡ length old) × IsBeside p (region_at old p.region) (region_at new p.region)
    × ((r : ℕ) → r ≢ p.region → region_at new r ≡ region_at old r)

-- the bytes go on with others, or are as they were
abbrev pub Extended : {E : Type 0} → Result (Unit {0}) E → List Byte → List Byte → List Byte → Type 0
Extended (Ok u) old new more = new ≡ old ++ more
Extended (Err e) old new more = new ≡ old
