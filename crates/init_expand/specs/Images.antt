-- Definition: what an object with an initialiser is in a program: zero, or an image of scalars within it that are not zero, at rising offsets, and of each union of one member (C11 6.7.9p10, p17, p19).
use Rattle.std.specs.Prelude.{Bool, true, false, ◌≡◌, List, [], ◌∷◌, map, pos}
use Rattle.std.specs.List.{list_all}
use Rattle.std.specs.Ordering.{int_eq}
use Rattle.cil_base.specs.declared.constants.Constant.{Constant}
use Rattle.cil_base.specs.declared.constants.Constant.TheVariants.{Int as Number, Address, Function}
use Rattle.type_graph.specs.Shapes.{Shape}
use Rattle.type_graph.specs.Arena.{Graph}
use Rattle.cil_tree.specs.declared.globals.ImageItem.{ImageItem}
use Rattle.cil_tree.specs.declared.globals.GlobalDef.{GlobalDef}
use Rattle.cil_tree.specs.declared.globals.GlobalDef.TheVariants.{Declared, Zero, Image, Body}
use Rattle.cil_tree.specs.View.{item_of}
use Rattle.cil_tree.specs.Globals.{item_offset, are_rising, unions_agree}
use Rattle.cil_check.specs.Paths.{leads_to_scalar}

-- zero, or a null pointer
abbrev pub is_zero : Constant → Bool
is_zero (Number kind v) = int_eq v (pos 0)
is_zero (Address object at) = false
is_zero (Function function) = false

-- none of these scalars is zero
abbrev pub HasNoZero : List ImageItem → Type 0
HasNoZero [] = Unit
HasNoZero (x ∷ xs) = (is_zero x.value ≡ false) × HasNoZero xs

-- scalars of an object of that type stand at rising offsets
abbrev pub IsRising : Graph → Shape → List ImageItem → Type 0
IsRising g s items = are_rising (map (item_offset g s) (map item_of items)) ≡ true

-- each path leads to a scalar within an object of that type
abbrev pub AreScalars : Graph → Shape → List ImageItem → Type 0
AreScalars g s items = list_all (leads_to_scalar g s) (map item_of items) ≡ true

-- the scalars of an object of that type that are not zero: they stand within it, at rising offsets, and of each union they initialise one member
pub record IsImageOf (g : Graph) (s : Shape) (items : List ImageItem) : Type 0 where
  pub none : HasNoZero items
  pub scalars : AreScalars g s items
  pub rising : IsRising g s items
  pub unions : unions_agree g s (map item_of items) ≡ true

-- the definition of an object of that type
abbrev pub IsImage : Graph → Shape → GlobalDef → Type 0
IsImage g s Declared = ⊥
IsImage g s Zero = Unit
IsImage g s (Image items) = IsImageOf g s items.items
IsImage g s (Body body) = ⊥
