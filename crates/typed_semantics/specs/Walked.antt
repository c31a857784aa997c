-- Definition: the typed unit that the walk over a syntax tree gives (C11 6.2 to 6.9).
use Rattle.std.specs.Prelude.{ℕ, ◌||◌, List, [], ◌∷◌, map, Option, Some, None}
use Rattle.cil_base.specs.declared.kinds.Abi.{Abi}
use Rattle.c_tree.specs.Units.{UnitTree}
use Rattle.c_typing.specs.Scopes.{Entity, Env, Found, Good, Bad}
use Rattle.c_typing.specs.Faults.{walked, is_only_tentative}
use Rattle.c_semantics.specs.Values.{is_const}
use Rattle.c_semantics.specs.Literals.{literals_in_unit}
use Rattle.c_semantics.specs.Units.{is_internal, is_literal, name_text}
use Rattle.typed_semantics.specs.Units.{TypedEntity, TypedUnit}

abbrev pub entity_in : Env → List ℕ → Entity → TypedEntity
entity_in env compound e =
    record { internal = is_internal e.linkage; name = name_text env.texts e.name; shape = e.type.shape; read_only = is_const e.type || is_literal compound e; tentative = is_only_tentative e; definition = e.definition }

abbrev pub unit_in : UnitTree → Found ((Unit {0}) × Env) → Option TypedUnit
unit_in unit (Bad fault at) = None
unit_in unit (Good x) = Some (record { types = x.1.types; entities = map (entity_in x.1 (literals_in_unit unit)) x.1.entities })

-- none of a unit that has a fault
abbrev pub typed_unit : List (List ℕ) → Abi → UnitTree → Option TypedUnit
typed_unit texts abi unit = unit_in unit (walked texts abi unit)

abbrev pub typed_units : List (List ℕ) → Abi → List UnitTree → List TypedUnit
typed_units texts abi [] = []
typed_units texts abi (u ∷ us) = elim (typed_unit texts abi u) [ None ↦ typed_units texts abi us | Some x ↦ x ∷ typed_units texts abi us ]
