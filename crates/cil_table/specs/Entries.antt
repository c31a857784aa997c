-- Device: the entries of the table of linked programs, one for each entity of their run.
use Rattle.std.specs.Prelude.{◌≡◌, ℕ, List, [], ◌∷◌, Option, Some}
use Rattle.cil_base.specs.declared.kinds.Abi.{Abi}
use Rattle.cil_tree.specs.Tree.{GlobalDecl, Program}
use Rattle.cil_tree.specs.Typing.{global_at}
use Rattle.cil_semantics.specs.Runs.{global_meaning}
use Rattle.cil_semantics.specs.Laws.{calls_in}
use Rattle.cil_semantics.specs.Modes.{HaveModel}
use Rattle.cil_frames.specs.declared.frames.Entity.{Entity}
use Rattle.cil_frames.specs.Frames.{IsEntity, IsMachine}
use Rattle.cil_link.specs.declared.entities.Definer.{Definer}
use Rattle.cil_link.specs.Entities.{InRun, in_run, linked_in, meant}
use Rattle.cil_table.specs.Courses.{global_course, entity_course, courses_in}

-- the global is one of the program
pub record IsGlobal (p : Program) (x : GlobalDecl) : Type 0 where
  pub number : ℕ
  pub there : global_at p number ≡ Some x

-- an entry is what a program's global means, with whichever programs it is linked
abbrev pub IsGlobalEntry : InRun → GlobalDecl → Option Entity → Type 0
IsGlobalEntry u x e = (programs : List Program) → IsEntity u.program.graph.abi (calls_in programs) (global_course programs u (Some x)) (global_meaning u.program x u.entities) e

-- an entry is what an entity means, in the data model of the programs
abbrev pub IsEntry : List Program → Definer → Option Entity → Type 0
IsEntry programs d e = (abi : Abi) → HaveModel abi programs → IsEntity abi (calls_in programs) (entity_course programs (Some d)) (meant (in_run programs) d) e

-- entries one by one
abbrev pub AreEntries : List Program → List Definer → List (Option Entity) → Type 0
AreEntries programs [] [] = Unit {0}
AreEntries programs (d ∷ definers) (e ∷ table) = IsEntry programs d e × AreEntries programs definers table
AreEntries programs [] (e ∷ table) = ⊥
AreEntries programs (d ∷ definers) [] = ⊥

-- the table is what the linked programs mean, in their data model
abbrev pub IsLoadedTable : List Program → List Definer → List (Option Entity) → Type 0
IsLoadedTable programs definers table = (abi : Abi) → HaveModel abi programs → IsMachine abi (linked_in programs) (calls_in programs) (courses_in programs definers) table
