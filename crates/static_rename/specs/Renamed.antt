-- Definition: what units are once all that they declare has names that are distinct where one program needs them so (C11 6.2.1, 6.2.3; own).
use Rattle.std.specs.Prelude.{◌≡◌, ℕ, suc, Bool, List, [], ◌∷◌, ◌++◌, map}
use Rattle.cil_base.specs.declared.names.Bases.{Bases}
use Rattle.cil_base.specs.declared.numbers.NameId.{NameId}
use Rattle.cil_base.specs.NamePool.{NumbersBases}
use Rattle.type_graph.specs.Arena.{Graph}
use Rattle.typed_tree.specs.declared.units.Ordinary.{Ordinary}
use Rattle.type_iso.specs.declared.class_table.Classes.{Classes}
use Rattle.link_names.specs.declared.units.Fronted.{Fronted}
use Rattle.fresh_names.specs.Naming.{AreNamed, AreNew}
use Rattle.static_rename.specs.Files.{AreKept, named_in, things_in, wishes_of, with_given}
use Rattle.static_rename.specs.Within.{Each, IsNamedWithin}
use Rattle.static_rename.specs.Tags.{NamedClasses, standing_from, all_standing, class_wish, given_from, enumerators_of, AreTagged}

-- the types of a unit stay, but its structs, unions and enums get the names of their classes
pub record AreRetagged (t : NamedClasses) (u : ℕ) (old new : Graph) : Type 0 where
  pub aggregates : AreTagged t u 0 old.aggs new.aggs
  pub rest_stays : new ≡ record old { aggs = new.aggs }

-- a unit by its number, whose things at file scope have these names, whose types have those of their classes, and whose functions name what they declare; all else stays
pub record IsNamedUnit (t : NamedClasses) (u : ℕ) (file : List NameId) (pool : List (List ℕ)) (bases : Bases) (things : List Ordinary) (names : List NameId) (old new : Fronted) : Type 0 where
  pub globals : Each (IsNamedWithin file pool bases) (with_given things names old.cil.globals.items) new.cil.globals.items
  pub types : AreRetagged t u old.cil.graph new.cil.graph
  pub sites_stay : new.sites ≡ old.sites
  pub ordinary_stay : new.ordinary ≡ old.ordinary

-- units, the first of which has this number
abbrev pub AreNamedUnits : NamedClasses → ℕ → List NameId → List (List ℕ) → Bases → List (List Bool) → List (List NameId) → List Fronted → List Fronted → Type 0
AreNamedUnits t u file pool bases [] [] [] [] = Unit {0}
AreNamedUnits t u file pool bases (s ∷ stands) (ns ∷ names) (f ∷ old) (g ∷ new) = IsNamedUnit t u file pool bases (named_in s f) ns f g × AreNamedUnits t (suc u) file pool bases stands names old new
AreNamedUnits t u file pool bases _ _ _ _ = ⊥

abbrev pub joined : List (List NameId) → List NameId
joined [] = []
joined (ns ∷ names) = ns ++ joined names

-- external names and those of the host stay; what has a name at file scope gets it unit by unit, then each class its tag, and then what functions declare
pub record AreRenamed (c : Classes) (externals : List NameId) (pool : List (List ℕ)) (old new : List Fronted) : Type 0 where
  pub bases : Bases
  pub bases_are : NumbersBases pool bases
  pub kept : List NameId
  pub kept_are : AreKept externals pool kept
  pub names : List (List NameId)
  pub given : AreNamed kept pool (wishes_of bases (standing_from c 0 old) old) (joined names)
  pub distinct : AreNew kept (joined names)
  pub tags : List NameId
  pub tags_are : AreNamed [] pool (map (class_wish bases old) (all_standing c)) tags
  pub tags_distinct : AreNew [] tags
  pub enumerators : List (List NameId)
  pub enumerators_are : enumerators ≡ enumerators_of c (given_from 0 (things_in (standing_from c 0 old) old) names) old 0 (all_standing c)
  pub units : AreNamedUnits (record { classes = c; tags = tags; enumerators = enumerators }) 0 (kept ++ joined names) pool bases (standing_from c 0 old) names old new
