-- Device: pairs of types whose answers are known, and that the answers are right.
use Rattle.std.specs.Prelude.{◌≡◌, ◌<◌, Bool, true, Option, Some, length, ◌⊎◌}
use Rattle.std.specs.HashMap.{get}
use Rattle.std.specs.HashSet.{contains}
use Rattle.cil_base.specs.declared.numbers.TypeId.{TypeId}
use Rattle.type_graph.specs.Shapes.{shape}
use Rattle.type_graph.specs.Arena.{Graph}
use Rattle.type_compat.specs.declared.pairs.Pair.{Pair}
use Rattle.type_compat.specs.declared.pairs.Known.{Known}
use Rattle.type_compat.specs.declared.pairs.Composites.{Composites}
use Rattle.type_compat.specs.contracts.pairs.PairPartialEq.TheImpl.{ghosts}
use Rattle.type_compat.specs.Compatible.{compatible_shape}
use Rattle.type_compat.specs.Composed.{composite_shape}

abbrev pub pair : TypeId → TypeId → Pair
pair a b = record { left = a; right = b }

-- the pair is known
abbrev pub knows : Known → Pair → Bool
knows known p = contains ghosts.eq known.pairs p

-- a pair is known only if it was, or if it is this one
abbrev pub KnowsMore : Known → Known → Pair → Type 0
KnowsMore old new p = (q : Pair) → knows new q ≡ true → (knows old q ≡ true) ⊎ (q ≡ p)

-- each pair that is known is one of compatible types
abbrev pub AllCompatible : Graph → Known → Type 0
AllCompatible g known = (p : Pair) → knows known p ≡ true → compatible_shape g.aggs (shape g.nodes p.left.0) (shape g.nodes p.right.0) ≡ true

-- the composite that is known of a pair
abbrev pub answer_of : Composites → Pair → Option TypeId
answer_of known p = get ghosts.eq known.answers p

-- a composite is known only if it was, or if it is this one
abbrev pub AnswersMore : Composites → Composites → Pair → TypeId → Type 0
AnswersMore old new p t = (q : Pair) (u : TypeId) → answer_of new q ≡ Some u → (answer_of old q ≡ Some u) ⊎ ((q ≡ p) × (u ≡ t))

-- the type is the composite of the pair, and all three are there
pub record IsComposed (g : Graph) (p : Pair) (t : TypeId) : Type 0 where
  pub left : p.left.0 < length g.nodes
  pub right : p.right.0 < length g.nodes
  pub there : t.0 < length g.nodes
  pub is : shape g.nodes t.0 ≡ composite_shape (shape g.nodes p.left.0) (shape g.nodes p.right.0)

-- each composite that is known is right
abbrev pub AllComposed : Graph → Composites → Type 0
AllComposed g known = (p : Pair) (t : TypeId) → answer_of known p ≡ Some t → IsComposed g p t
