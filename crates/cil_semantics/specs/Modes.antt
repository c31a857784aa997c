-- Definition: the data model of programs that are run together, the modes in which nothing is common of them, and the mode of a program that is run alone (own).
use Rattle.std.specs.Prelude.{◌≡◌, true, false, List, map, All}
use Rattle.cil_base.specs.declared.kinds.Abi.{Abi}
use Rattle.cil_base.specs.declared.kinds.Mode.{Mode}
use Rattle.execution.specs.Linking.{AreDefinedOnce}
use Rattle.cil_tree.specs.Tree.{Program}
use Rattle.cil_semantics.specs.Runs.{linkables}

-- each program has that data model
abbrev pub HaveModel : Abi → List Program → Type 0
HaveModel abi programs = All (λ p. p.graph.abi ≡ abi) programs

-- the programs have one data model
pub record HaveOneModel (programs : List Program) : Type 0 where
  pub model : Abi
  pub each : HaveModel model programs

-- the mode of a program that is run alone: its own data model, and no common definitions
abbrev pub mode_of : Program → Mode
mode_of p = record { common = false; abi = p.graph.abi }

-- the programs have no definitions in common: where the mode says that tentative definitions of several of them are common, no name has more than one definition
abbrev pub LinksApart : Mode → List Program → Type 0
LinksApart mode programs = mode.common ≡ true → AreDefinedOnce (map linkables programs)
