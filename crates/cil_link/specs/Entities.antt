-- Definition: the entities of the run of linked programs: the number of each global, and what each entity is (C11 6.2.2p2; own: numbers).
use Rattle.std.specs.Prelude.{◌≡◌, ℕ, ◌<◌, ◌^◌, false, List, [], ◌∷◌, length, map, All, Option, Some, None, slice_get}
use Rattle.byte_mem.specs.Steps.{◌>>=◌}
use Rattle.cil_base.specs.declared.numbers.EntityId.{EntityId}
use Rattle.cil_base.specs.declared.numbers.UnitNo.{UnitNo}
use Rattle.execution.specs.Calls.{Meaning, Host, Linked}
use Rattle.execution.specs.Linking.{Symbol, rank_behind, table_of, entities_of, linked}
use Rattle.cil_tree.specs.Tree.{GlobalDecl, Program}
use Rattle.cil_semantics.specs.Runs.{global_meaning, linkables}
use Rattle.cil_link.specs.declared.entities.Definer.{Definer}
use Rattle.cil_link.specs.declared.entities.Definer.TheVariants.{Nothing, Global, Host as OfHost}

-- a program of a run, with the run's number of each of its globals
pub record InRun : Type 0 where
  pub program : Program
  pub entities : List ℕ

-- the programs of a run, where so many internal names stand before
abbrev pub in_run_from : List Symbol → ℕ → List Program → List InRun
in_run_from table rank [] = []
in_run_from table rank (p ∷ programs) = record { program = p; entities = entities_of table rank (linkables p) } ∷ in_run_from table (rank_behind rank (linkables p)) programs

abbrev pub in_run : List Program → List InRun
in_run programs = in_run_from (table_of (map linkables programs)) 0 programs

-- what each entity of their run means where tentative definitions are not common
abbrev pub linked_in : List Program → Linked
linked_in programs = linked false (map linkables programs)

-- what a unit's global with that number means
abbrev pub global_meant : InRun → ℕ → Option Meaning
global_meant u e = slice_get u.program.globals e >>= λ x. global_meaning u.program x u.entities

-- what an entity means, by what it is
abbrev pub meant : List InRun → Definer → Option Meaning
meant units Nothing = None
meant units (Global unit e) = slice_get units unit.0 >>= λ u. global_meant u e.0
meant units (OfHost name) = Some (Host name)

-- the unit and its global are there
pub record IsThere (units : List InRun) (unit : UnitNo) (e : EntityId) : Type 0 where
  pub program : InRun
  pub unit_is : slice_get units unit.0 ≡ Some program
  pub global : GlobalDecl
  pub global_is : slice_get program.program.globals e.0 ≡ Some global

-- the global that defines an entity is there
abbrev pub IsOne : List InRun → Definer → Type 0
IsOne units Nothing = Unit {0}
IsOne units (Global unit e) = IsThere units unit e
IsOne units (OfHost name) = Unit {0}

-- the numbers of a program's globals
abbrev pub entities_in : InRun → List ℕ
entities_in u = u.entities

-- the table tells of each entity of the programs' run what it is
pub record IsTable (programs : List Program) (definers : List Definer) : Type 0 where
  pub means : linked_in programs ≡ map (meant (in_run programs)) definers
  pub all : All (IsOne (in_run programs)) definers
  pub few : length definers < 2 ^ 32
