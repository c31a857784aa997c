-- Device: definitions whose parts are mapped are mapped.
use Rattle.std.proofs.Common.{◌≡◌, ℕ, ℤ, zero, suc, ◌≤◌, List, [], ◌∷◌, Option, Some, slice_get, map, length, refl, ap, ◌∙◌, arith, Global}
use Rattle.std.specs.declared.vec.Vec.{Vec}
use Rattle.cil_base.specs.declared.constants.Constant.{Constant}
use Rattle.cil_base.specs.declared.constants.Constant.TheVariants as constant
use Rattle.cil_base.specs.declared.numbers.EntityId.{EntityId}
use Rattle.cil_base.specs.declared.numbers.TypeId.{TypeId}
use Rattle.type_graph.specs.Shapes.{Shape}
use Rattle.cil_tree.specs.declared.globals.Step.{Step}
use Rattle.cil_tree.specs.declared.globals.ImageItem.{ImageItem}
use Rattle.cil_tree.specs.declared.globals.Local.{Local}
use Rattle.cil_tree.specs.Tree as tree
use Rattle.cil_tree.specs.View.{text_at, step_of, type_at}
use Rattle.cil_bodies.specs.declared.mapping.Mapping.{Mapping as Table}
use Rattle.cil_bodies.specs.declared.mapping.Use.{Use as Entry}
use Rattle.cil_bodies.specs.Mapped.{Use}
use Rattle.cil_bodies.specs.Maps.{MapsConstant, MapsItem, MapsItems, MapsLocal, MapsLocals}
use Rattle.cil_bodies.proofs.Replaced.{Replaced}

two : {X Y Z : Type 0} (f : X → Y → Z) {x x' : X} {y y' : Y} → x ≡ x' → y ≡ y' → f x y ≡ f x' y'
two f {x} {x'} {y} {y'} p q = ap (λ z. f z y) p ∙ ap (f x') q

abbrev local : List ℕ → Option Shape → tree.Local
local name type = record { name = name; type = type }

abbrev item : List tree.Step → Constant → tree.Item
item path value = record { path = path; value = value }

pub local_maps : (t : Table) (k l : Local) (u : TypeId) → slice_get t.types.now k.ty.0 ≡ Some u → l.name ≡ k.name → l.ty ≡ u → MapsLocal t k l
local_maps t k l u found name ty = record { at = λ m from to names tables. two local (ap (text_at names) name) (ap (type_at to) ty ∙ tables.types k.ty u found) }

pub item_maps : (t : Table) (x y : ImageItem) → MapsConstant t x.value y.value → y.path ≡ x.path → MapsItem t x y
item_maps t x y value path = record { at = λ m from to tables. two item (ap (λ (p : Vec Step Global). map step_of p.items) path) (value.at m from to tables) }

-- constants

pub object_maps : (t : Table) (e : EntityId) (offset : ℤ) (u : Entry) → slice_get t.uses.now e.0 ≡ Some u → MapsConstant t (constant.Address e offset) (constant.Address u.entity offset)
object_maps t e offset u found = record { at = λ m from to tables. ap (λ (x : Use). constant.Address (record { 0 = x.entity }) offset) (tables.uses e.0 u found) }

pub function_maps : (t : Table) (e : EntityId) (u : Entry) → slice_get t.uses.now e.0 ≡ Some u → MapsConstant t (constant.Function e) (constant.Function u.entity)
function_maps t e u found = record { at = λ m from to tables. ap (λ (x : Use). constant.Function (record { 0 = x.entity })) (tables.uses e.0 u found) }

-- lists

pub locals_map : (t : Table) (i : ℕ) (ks ls : List Local) → length ks ≤ i → Replaced (MapsLocal t) i ks ls → MapsLocals t ks ls
locals_map t i [] [] past all = record { at = λ m from to names tables. refl }
locals_map t i [] (l ∷ ls) past all = absurd all
locals_map t i (k ∷ ks) [] past all = absurd all
locals_map t zero (k ∷ ks) (l ∷ ls) past all = absurd (omega arith)
locals_map t (suc i) (k ∷ ks) (l ∷ ls) past all =
    let rest = locals_map t i ks ls (omega arith) all.1 in record { at = λ m from to names tables. two ◌∷◌ (all.0.at m from to names tables) (rest.at m from to names tables) }

pub items_map : (t : Table) (i : ℕ) (xs ys : List ImageItem) → length xs ≤ i → Replaced (MapsItem t) i xs ys → MapsItems t xs ys
items_map t i [] [] past all = record { at = λ m from to tables. refl }
items_map t i [] (y ∷ ys) past all = absurd all
items_map t i (x ∷ xs) [] past all = absurd all
items_map t zero (x ∷ xs) (y ∷ ys) past all = absurd (omega arith)
items_map t (suc i) (x ∷ xs) (y ∷ ys) past all = let rest = items_map t i xs ys (omega arith) all.1 in record { at = λ m from to tables. two ◌∷◌ (all.0.at m from to tables) (rest.at m from to tables) }
