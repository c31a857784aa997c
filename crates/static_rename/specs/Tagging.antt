-- Device: classes that get their names one by one, and units that get the names of their classes.
use Rattle.std.specs.Prelude.{◌≡◌, ℕ, suc, List, [], ◌∷◌, ◌++◌, Option, None, Some, map, get_or, slice_get, slice_set}
use Rattle.std.specs.Global.{Global}
use Rattle.std.specs.declared.vec.Vec.{Vec}
use Rattle.cil_base.specs.declared.numbers.NameId.{NameId}
use Rattle.type_graph.specs.declared.aggregates.Aggregate.{Aggregate}
use Rattle.type_graph.specs.Arena.{Graph}
use Rattle.type_graph.specs.Growth.{renamed}
use Rattle.typed_tree.specs.declared.units.Ordinary.{Ordinary}
use Rattle.typed_tree.specs.declared.units.Ordinary.TheVariants.{Static, Enumerator}
use Rattle.type_iso.specs.declared.class_table.Classes.{Classes}
use Rattle.type_iso.specs.Classes.{class_in}
use Rattle.static_rename.specs.declared.files.Filed.{Filed}
use Rattle.static_rename.specs.declared.types.NamedTypes.{NamedTypes}
use Rattle.static_rename.specs.Tags.{Given, given_in, NamedClasses, names_under, IsTagged}

abbrev pub lists : List (Vec NameId Global) → List (List NameId)
lists vs = map (λ v. v.items) vs

-- the names of the enumerators of classes once one of a class has another
abbrev pub with_enumerator : Option ℕ → ℕ → NameId → List (List NameId) → List (List NameId)
with_enumerator None i n es = es
with_enumerator (Some k) i n es = slice_set es k (slice_set (get_or es k []) i n)

abbrev pub with_thing : Classes → ℕ → Ordinary → NameId → List (List NameId) → List (List NameId)
with_thing c u (Static e) n es = es
with_thing c u (Enumerator a i) n es = with_enumerator (class_in c u a.0) i n es

abbrev pub with_things : Classes → List Given → List (List NameId) → List (List NameId)
with_things c [] es = es
with_things c (g ∷ gs) es = with_things c gs (with_thing c g.unit g.thing g.name es)

-- what got names in units, the first of which has this number
abbrev pub given_filed : ℕ → List Filed → List Given
given_filed u [] = []
given_filed u (f ∷ fs) = given_in u f.things.items f.names.items ++ given_filed (suc u) fs

abbrev pub named_by : NamedTypes → NamedClasses
named_by t = record { classes = t.classes.now; tags = t.tags.items; enumerators = lists t.enumerators.items }

-- one aggregate gets a tag, and names of its enumerators
pub record RetagsAt (i : ℕ) (tag : NameId) (enumerators : List NameId) (old new : Graph) : Type 0 where
  pub aggregate : Aggregate
  pub it_is : slice_get old.aggs i ≡ Some aggregate
  pub new_is : new ≡ record old { aggs = slice_set old.aggs i (renamed aggregate tag (names_under enumerators aggregate)) }

-- one aggregate of a unit gets the names of its class
pub record Retags (t : NamedClasses) (u i : ℕ) (old new : Graph) : Type 0 where
  pub before : Aggregate
  pub after : Aggregate
  pub it_is : slice_get old.aggs i ≡ Some before
  pub tagged : IsTagged t u i before after
  pub new_is : new ≡ record old { aggs = slice_set old.aggs i after }
