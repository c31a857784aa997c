-- Definition: the program that a translation unit becomes which is merged alone, and its text (C11 5.1.1.1, 5.1.1.2p1).
use Rattle.std.specs.Prelude.{◌≡◌, ◌<◌, ◌∷◌, [], ℕ, false, List, length}
use Rattle.cil_base.specs.Limits.{text_bytes}
use Rattle.cil_base.specs.NamePool.{Stays}
use Rattle.cil_base.specs.declared.kinds.Abi.TheVariants.{Lp64}
use Rattle.c_lexer.specs.Lexed.{Lexed}
use Rattle.cil_tree.specs.declared.globals.CilUnit.{CilUnit}
use Rattle.cil_tree.specs.View.{program_of}
use Rattle.cil_tree.specs.Text.{Text}
use Rattle.cil_tree.specs.Programs.{IsProgram, IsTextOf}
use Rattle.link_names.specs.declared.units.Fronted.{Fronted}
use Rattle.unit_lower.specs.Externals.{HasExternals}
use Rattle.unit_front.specs.Identifiers.{AreDeclared}
use Rattle.cil_merge.specs.Merged.{IsMerged}

-- a program of LP64 to which a CIL program of a unit of these tokens is merged alone, whose external names are declared and defined at the unit's identifiers. The names that its tokens have stay, and the pool keeps the names behind its lowering. The mode says nothing of one unit, which has each name once
pub record IsProgramOfUnit (t : Lexed) (before pool : List (List ℕ)) (program : CilUnit) : Type 0 where
  pub fronted : Fronted
  pub names : List (List ℕ)
  pub stays : Stays before names
  pub keeps : Stays names pool
  pub externals : HasExternals fronted
  pub declared : AreDeclared t fronted
  pub merged : IsMerged false names pool (fronted ∷ []) program
  pub model : program.graph.abi ≡ Lp64

-- the bytes are the text of that program
pub record IsTextOfUnit (t : Lexed) (before : List (List ℕ)) (bytes : List ℕ) : Type 0 where
  pub pool : List (List ℕ)
  pub program : CilUnit
  pub of : IsProgramOfUnit t before pool program
  pub text : IsTextOf bytes (program_of pool program)

-- its text is too long
pub record IsUnitLong (t : Lexed) (before : List (List ℕ)) : Type 0 where
  pub pool : List (List ℕ)
  pub program : CilUnit
  pub of : IsProgramOfUnit t before pool program
  pub formed : IsProgram (program_of pool program)
  pub long : text_bytes < length (Text (program_of pool program))
