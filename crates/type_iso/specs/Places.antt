-- Device: aggregates and types by their units and their numbers there, by the first numbers of the units.
use Rattle.std.specs.Prelude.{◌≡◌, ◌⊎◌, ℕ, suc, ◌+◌, ◌<◌, List, Some, length, slice_get}
use Rattle.cil_base.specs.declared.numbers.TypeId.{TypeId}
use Rattle.cil_base.specs.declared.numbers.UnitNo.{UnitNo}
use Rattle.cil_base.specs.declared.numbers.AggId.{AggId}
use Rattle.type_iso.specs.declared.merging.ClassStop.{ClassStop}
use Rattle.type_iso.specs.declared.merging.ClassStop.TheVariants as stop
use Rattle.type_links.specs.declared.linking.Failure.{Failure}
use Rattle.type_things.specs.declared.web.First.{First}
use Rattle.type_things.specs.declared.web.Head.{Head}
use Rattle.type_things.specs.declared.web.Head.TheVariants.{Agg}
use Rattle.type_things.specs.declared.web.Label.{Label}
use Rattle.type_things.specs.declared.web.Web.{Web}
use Rattle.type_things.specs.Heads.{first_part}
use Rattle.type_things.specs.Things.{Thing, head_of}
use Rattle.type_things.specs.Webs.{things_of}

-- the next unit begins above x
abbrev pub EndsAbove : List First → ℕ → ℕ → Type 0
EndsAbove fs x u = (f : First) → slice_get fs (suc u) ≡ Some f → x < f.aggregate

-- x is an aggregate of a unit, by its number there
pub record IsPlace (fs : List First) (x : ℕ) (p : UnitNo × AggId) : Type 0 where
  pub first : First
  pub unit : slice_get fs p.0.0 ≡ Some first
  pub number : first.aggregate + p.1.0 ≡ x
  pub ends : EndsAbove fs x p.0.0

-- the places of the first k things
pub record ArePlaces (fs : List First) (k : ℕ) (ps : List (UnitNo × AggId)) : Type 0 where
  pub count : length ps ≡ k
  pub each : (x : ℕ) (p : UnitNo × AggId) → slice_get ps x ≡ Some p → IsPlace fs x p

-- the places of the first k things of an order
pub record ArePlacedUpTo (fs : List First) (order : List ℕ) (k : ℕ) (ps : List (UnitNo × AggId)) : Type 0 where
  pub count : length ps ≡ k
  pub each : (i s : ℕ) → i < k → slice_get order i ≡ Some s → (p : UnitNo × AggId) × (slice_get ps i ≡ Some p) × IsPlace fs s p

-- the places of the things of an order
pub record ArePlaced (fs : List First) (order : List ℕ) (ps : List (UnitNo × AggId)) : Type 0 where
  pub count : length ps ≡ length order
  pub each : (i s : ℕ) → slice_get order i ≡ Some s → (p : UnitNo × AggId) × (slice_get ps i ≡ Some p) × IsPlace fs s p

-- a type of a unit, by its number there and among all n things
pub record IsTypePlace (fs : List First) (n y : ℕ) (p : UnitNo × TypeId) : Type 0 where
  pub first : First
  pub unit : slice_get fs p.0.0 ≡ Some first
  pub number : first.ty + p.1.0 ≡ y
  pub ends : (f : First) → slice_get fs (suc p.0.0) ≡ Some f → y < f.ty
  pub within : y < n

-- a type is the thing x, or it is the aggregate that x is
abbrev pub IsOver : List (Thing Head Label) → ℕ → ℕ → Type 0
IsOver ts x y = (y ≡ x) ⊎ ((head_of ts y ≡ Some Agg) × (first_part ts y ≡ x))

-- the refusal of a link that fails, with the types of its pair
pub record IsClashAt (w : Web) (f : Failure) (s : ClassStop) : Type 0 where
  pub left : UnitNo × TypeId
  pub right : UnitNo × TypeId
  pub is : s ≡ stop.Clash f.group f.earlier f.later left right
  pub first : ℕ
  pub first_over : IsOver (things_of w) f.pair.0 first
  pub first_at : IsTypePlace w.firsts.items (length w.things.items) first left
  pub second : ℕ
  pub second_over : IsOver (things_of w) f.pair.1 second
  pub second_at : IsTypePlace w.firsts.items (length w.things.items) second right
