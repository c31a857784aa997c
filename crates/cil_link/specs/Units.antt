-- Definition: linked programs with the entities of their run.
use Rattle.std.specs.Prelude.{◌≡◌, List, map, All}
use Rattle.cil_tree.specs.Tree.{Program}
use Rattle.cil_tree.specs.View.{program_of}
use Rattle.cil_semantics.specs.Units.{IsUnit}
use Rattle.cil_link.specs.declared.units.Units.{Units}
use Rattle.cil_link.specs.Entities.{InRun, in_run, entities_in, IsTable}

-- the programs
abbrev pub programs_in : Units → List Program
programs_in l = map (program_of l.names.now) l.units.now

abbrev pub units_in : Units → List InRun
units_in l = in_run (programs_in l)

-- each is a unit that can be linked, the numbers are those of their globals in the run, and the table tells what each entity is
pub record AreLinked (l : Units) : Type 0 where
  pub programs : All (λ u. IsUnit (program_of l.names.now u)) l.units.now
  pub numbers : map (λ v. v.items) l.entities.now.numbers.items ≡ map entities_in (in_run (map (program_of l.names.now) l.units.now))
  pub table : IsTable (map (program_of l.names.now) l.units.now) l.entities.now.definers.items
