-- Device: the entities of a run, as the globals of its programs are met one after another.
use Rattle.std.specs.Prelude.{◌≡◌, ◌≤◌, ◌<◌, ◌^◌, ℕ, true, false, List, [], ◌∷◌, ◌++◌, length, map, is_some, slice_get, All, IfSome, Option, Some, None}
use Rattle.std.specs.List.{list_any}
use Rattle.byte_mem.specs.Steps.{◌>>=◌, only_if}
use Rattle.execution.specs.Calls.{Meaning, Host}
use Rattle.execution.specs.Linking.{Linkable, Symbol, External, Internal, same_symbol, symbol_of, rank_after, memset_symbol, memset_row, is_known, numbered, place_in, Row, defined, declared_function, host_meaning}
use Rattle.cil_base.specs.declared.numbers.UnitNo.{UnitNo}
use Rattle.cil_base.specs.NamePool.{IsOnceEach}
use Rattle.cil_tree.specs.declared.globals.CilUnit.{CilUnit}
use Rattle.cil_tree.specs.declared.globals.GlobalDecl.{GlobalDecl}
use Rattle.cil_tree.specs.Tree.{Program}
use Rattle.cil_tree.specs.View.{global_of, program_of}
use Rattle.cil_semantics.specs.Units.{IsUnit}
use Rattle.cil_semantics.specs.Runs.{linkable, linkables}
use Rattle.cil_link.specs.declared.entities.Definer.{Definer}
use Rattle.cil_link.specs.declared.entities.Definer.TheVariants.{Nothing, Global, Host as OfHost}
use Rattle.cil_link.specs.declared.entities.Found.{Found}
use Rattle.cil_link.specs.declared.entities.Site.{Site}
use Rattle.cil_link.specs.Entities.{InRun, in_run, meant, IsThere}

-- the symbols of the globals that were met, the rank of the next internal one, and what was said of them
pub record Met : Type 0 where
  pub table : List Symbol
  pub rank : ℕ
  pub rows : List Row

-- before the first global is met
abbrev pub nothing_met : Met
nothing_met = record { table = memset_symbol ∷ []; rank = 0; rows = memset_row ∷ [] }

abbrev pub symbol_at : ℕ → Linkable → Symbol
symbol_at rank x = symbol_of x.internal x.name rank

abbrev pub row_of : List ℕ → ℕ → Linkable → Row
row_of entities rank x = record { symbol = symbol_at rank x; function = x.function; tentative = x.tentative; meaning = x.means entities }

-- a global more
abbrev pub meet : List ℕ → Met → Linkable → Met
meet entities m x = record { table = numbered m.table (symbol_at m.rank x); rank = rank_after x.internal m.rank; rows = m.rows ++ row_of entities m.rank x ∷ [] }

abbrev pub meet_all : List ℕ → Met → List Linkable → Met
meet_all entities m [] = m
meet_all entities m (x ∷ xs) = meet_all entities (meet entities m x) xs

-- all globals of some programs
abbrev pub meet_units : Met → List InRun → Met
meet_units m [] = m
meet_units m (u ∷ units) = meet_units (meet_all u.entities m (linkables u.program)) units

-- the numbers that globals get as they are met
abbrev pub numbers_from : List Symbol → ℕ → List Linkable → List ℕ
numbers_from table rank [] = []
numbers_from table rank (x ∷ xs) = place_in (numbered table (symbol_at rank x)) (symbol_at rank x) ∷ numbers_from (numbered table (symbol_at rank x)) (rank_after x.internal rank) xs

abbrev pub numbers_of : Met → List InRun → List (List ℕ)
numbers_of m [] = []
numbers_of m (u ∷ units) = numbers_from m.table m.rank (linkables u.program) ∷ numbers_of (meet_all u.entities m (linkables u.program)) units

-- the number of an external name, if it has one
abbrev pub known_in : List Symbol → List ℕ → Option ℕ
known_in table name = only_if (is_known table (External name)) (place_in table (External name))

-- what the host means by a symbol that nothing defines
abbrev pub hosted : List Row → Symbol → Option Meaning
hosted rows x = only_if (declared_function rows x) x >>= host_meaning

-- an entity is that, where its first definition means that, and the host that by its name
abbrev pub IsSo : List InRun → Option Meaning → Option Meaning → Definer → Type 0
IsSo units definition host Nothing = (definition ≡ None) × (host ≡ None)
IsSo units definition host (Global unit e) = IsThere units unit e × (definition ≡ meant units (Global unit e)) × (is_some definition ≡ true)
IsSo units definition host (OfHost name) = (definition ≡ None) × (host ≡ Some (Host name))

-- entities are what was said of their symbols
abbrev pub AreSo : List InRun → List Row → List Symbol → List Definer → Type 0
AreSo units rows [] [] = Unit {0}
AreSo units rows (x ∷ table) (d ∷ definers) = IsSo units (defined rows x) (hosted rows x) d × AreSo units rows table definers
AreSo units rows [] (d ∷ definers) = ⊥
AreSo units rows (x ∷ table) [] = ⊥

-- no symbol has two places
abbrev pub AreOnce : List Symbol → Type 0
AreOnce [] = Unit {0}
AreOnce (x ∷ table) = (list_any (same_symbol x) table ≡ false) × AreOnce table

abbrev pub symbol_in : Row → Symbol
symbol_in r = r.symbol

-- no internal symbol from that rank on is there
abbrev pub NoneFrom : ℕ → List Symbol → Type 0
NoneFrom rank table = (r : ℕ) → rank ≤ r → list_any (same_symbol (Internal r)) table ≡ false

-- what was found is what there is to find in the globals that were met
pub record Finds (units : List InRun) (names : List (List ℕ)) (m : Met) (f : Found) : Type 0 where
  pub known : f.known.items ≡ map (known_in m.table) names
  pub definers : AreSo units m.rows m.table f.definers.items
  pub few : length f.definers.items < 2 ^ 32
  pub once : AreOnce m.table
  pub ranks : NoneFrom m.rank m.table
  pub speaks : (x : Symbol) → list_any (same_symbol x) (map symbol_in m.rows) ≡ list_any (same_symbol x) m.table

-- a global of the unit with that number in a run, whose names are those of the pool
pub record IsGlobalOf (units : List InRun) (u : CilUnit) (names : List (List ℕ)) (entities : List ℕ) (at : Site) (x : GlobalDecl) : Type 0 where
  pub program : IsUnit (program_of names u)
  pub unit : slice_get units at.unit.0 ≡ Some (record { program = program_of names u; entities = entities })
  pub global : slice_get (program_of names u).globals at.global.0 ≡ Some (global_of u.graph.nodes names x)
  pub numbers : length entities ≡ length (program_of names u).globals

abbrev pub link_of : List (List ℕ) → CilUnit → GlobalDecl → Linkable
link_of names u x = linkable (program_of names u) (global_of u.graph.nodes names x)

-- a global is met: that is the number of its entity, and that is found
pub record Meets (units : List InRun) (names : List (List ℕ)) (entities : List ℕ) (m : Met) (x : Linkable) (e : ℕ) (f : Found) : Type 0 where
  pub number : e ≡ place_in (meet entities m x).table (symbol_at m.rank x)
  pub finds : Finds units names (meet entities m x) f

-- all globals of a unit are
pub record MeetsAll (units : List InRun) (names : List (List ℕ)) (entities : List ℕ) (m : Met) (xs : List Linkable) (numbers : List ℕ) (f : Found) : Type 0 where
  pub numbers_are : numbers ≡ numbers_from m.table m.rank xs
  pub finds : Finds units names (meet_all entities m xs) f

-- the unit with that number in a run
pub record IsUnitOf (units : List InRun) (u : CilUnit) (names : List (List ℕ)) (entities : List ℕ) (unit : UnitNo) : Type 0 where
  pub unit_is : slice_get units unit.0 ≡ Some (record { program = program_of names u; entities = entities })
  pub numbers : length entities ≡ length (program_of names u).globals

-- no name has two numbers, each has a place, and each number that was given is that of an entity
pub record IsFound (names : List (List ℕ)) (f : Found) : Type 0 where
  pub once : IsOnceEach names
  pub places : length f.known.items ≡ length names
  pub numbers : All (λ o. IfSome o (λ e. e < length f.definers.items)) f.known.items

-- the globals of a unit that are met, and those that remain, give all
pub record FindingIn (units : List InRun) (names : List (List ℕ)) (entities : List ℕ) (first : Met) (all rest : List Linkable) (f : Found) (numbers : List ℕ) : Type 0 where
  pub met : Met
  pub finds : Finds units names met f
  pub whole : meet_all entities met rest ≡ meet_all entities first all
  pub counted : numbers ++ numbers_from met.table met.rank rest ≡ numbers_from first.table first.rank all

-- the same of all units
pub record Finding (programs : List Program) (names : List (List ℕ)) (rest : List InRun) (f : Found) (numbers : List (List ℕ)) : Type 0 where
  pub met : Met
  pub finds : Finds (in_run programs) names met f
  pub whole : meet_units met rest ≡ meet_units nothing_met (in_run programs)
  pub counted : numbers ++ numbers_of met rest ≡ numbers_of nothing_met (in_run programs)
