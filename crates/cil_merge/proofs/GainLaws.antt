-- Device: types of a program grow.
use Rattle.std.proofs.Common.{◌≡◌, ℕ, ◌≤◌, Bool, List, length, refl, ◌∙◌, ap, arith, length-append}
use Rattle.cil_base.specs.declared.numbers.TypeId.{TypeId}
use Rattle.type_graph.specs.Arena.{Graph}
use Rattle.type_graph.specs.Growth.{Grows}
use Rattle.type_graph.proofs.GrowthLaws.{grows_none, grows_twice}
use Rattle.type_graph.proofs.ShapeLaws.{kept}
use Rattle.map_graph.specs.Mapped.{Maps}
use Rattle.cil_merge.specs.Numbering.{GainsTypes}

pub gains_none : (g : Graph) → GainsTypes g g
gains_none g = record { grows = grows_none g; stay = refl }

pub gains_of : (g h : Graph) → Grows g h → h.aggs ≡ g.aggs → GainsTypes g h
gains_of g h grows stay = record { grows = grows; stay = stay }

pub gains_twice : (f g h : Graph) → GainsTypes f g → GainsTypes g h → GainsTypes f h
gains_twice f g h p q = record { grows = grows_twice f g h p.grows q.grows; stay = q.stay ∙ p.stay }

longer : (g h : Graph) → Grows g h → length g.nodes ≤ length h.nodes
longer g h grows = omega (arith, ap length grows.nodes.1, length-append g.nodes grows.nodes.0)

-- a table of types says the same of types that grew
pub maps_grown : (unit g h : Graph) (f : ℕ → ℕ) (keep : Bool) (types : List TypeId) → Grows g h → Maps unit g f keep types → Maps unit h f keep types
maps_grown unit g h f keep types grows maps = record {
  each = λ t u e.
      let one = maps.each t u e in
      (omega (arith, one.0, longer g h grows), kept g h u.0 grows one.0 ∙ one.1);
}

pub gains_more : (f g h : Graph) → GainsTypes f g → Grows g h → h.aggs ≡ g.aggs → GainsTypes f h
gains_more f g h p grows stay = gains_twice f g h p (gains_of g h grows stay)
