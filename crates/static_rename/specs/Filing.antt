-- Device: names at file scope that are given unit by unit.
use Rattle.std.specs.Prelude.{◌≡◌, ℕ, ◌||◌, Bool, List, [], ◌∷◌, ◌++◌, nat_eq, map}
use Rattle.std.specs.List.{list_any}
use Rattle.cil_base.specs.declared.names.Bases.{Bases}
use Rattle.cil_base.specs.declared.numbers.EntityId.{EntityId}
use Rattle.cil_base.specs.declared.numbers.NameId.{NameId}
use Rattle.typed_tree.specs.declared.units.Ordinary.{Ordinary}
use Rattle.link_names.specs.declared.units.Fronted.{Fronted}
use Rattle.static_rename.specs.declared.files.Filed.{Filed}
use Rattle.static_rename.specs.Files.{is_object, has_linkage, named_in, things_in, wish_at, wishes_of}
use Rattle.fresh_names.specs.Giving.{GivesAll}

abbrev pub same_entity : EntityId → EntityId → Bool
same_entity a b = nat_eq a.0 b.0

-- a set gets the object or function that has internal linkage
abbrev pub Links : List EntityId → List EntityId → Ordinary → Type 0
Links old new o = (e : EntityId) → list_any (same_entity e) new ≡ (list_any (same_entity e) old || is_object e o)

-- a set has the objects and functions with internal linkage
abbrev pub AreLinked : List EntityId → List Ordinary → Type 0
AreLinked set ordinary = (e : EntityId) → list_any (same_entity e) set ≡ has_linkage ordinary e

abbrev pub things_of : List Filed → List (List Ordinary)
things_of fs = map (λ f. f.things.items) fs

abbrev pub names_of : List Filed → List NameId
names_of [] = []
names_of (f ∷ fs) = f.names.items ++ names_of fs

-- what a unit names at file scope is named
pub record Files (bases : Bases) (stands : List Bool) (unit : Fronted) (before after : List NameId) (next : List (NameId × ℕ)) (old new : List (List ℕ)) (filed : Filed) : Type 0 where
  pub things : filed.things.items ≡ named_in stands unit
  pub names : GivesAll before after next old new (map (wish_at bases unit) (named_in stands unit)) filed.names.items

-- what units name at file scope is named
pub record FilesAll (bases : Bases) (stands : List (List Bool)) (units : List Fronted) (before after : List NameId) (next : List (NameId × ℕ)) (old new : List (List ℕ)) (filed : List Filed) : Type 0 where
  pub things : things_of filed ≡ things_in stands units
  pub names : GivesAll before after next old new (wishes_of bases stands units) (names_of filed)
