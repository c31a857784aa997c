-- Device: parts of objects by number and offset, and images that grow.
use Rattle.std.specs.Prelude.{ℕ, suc, ◌≡◌, ◌≤◌, List, [], ◌∷◌, Option, Some}
use Rattle.type_graph.specs.Shapes.{Shape, shape}
use Rattle.type_graph.specs.Arena.{Graph}
use Rattle.cil_tree.specs.declared.globals.ImageItem.{ImageItem}
use Rattle.cil_tree.specs.Tree.{Step, ToField, ToIndex}
use Rattle.cil_tree.specs.View.{item_of}
use Rattle.cil_tree.specs.Globals.{Part, member_part, element_part, item_offset}
use Rattle.init_expand.specs.declared.spots.Spot.{Spot}

abbrev pub part_of : Graph → Spot → Part
part_of g at = (shape g.nodes at.ty.0, at.offset)

-- the part that a step leads to
abbrev pub step_part : Graph → Step → Part → Option Part
step_part g (ToField number) part = member_part g number part
step_part g (ToIndex index) part = element_part g index part

-- the offsets of scalars rise from one number to another
abbrev pub RisesTo : Graph → Shape → ℕ → List ImageItem → ℕ → Type 0
RisesTo g s m [] n = m ≤ n
RisesTo g s m (x ∷ xs) n = (k : ℕ) × (item_offset g s (item_of x) ≡ Some k) × (m ≤ k) × RisesTo g s (suc k) xs n
