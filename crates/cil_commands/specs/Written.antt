-- Device: what a merge writes, and what it answers of a file that is merged alone (own).
use Rattle.std.specs.Prelude.{◌≡◌, ◌⊎◌, ℕ, List, Option, IfSome}
use Rattle.cil_base.specs.declared.faults.Refusal.{Refusal}
use Rattle.c_meaning.specs.SourceFile.{SourceFile}
use Rattle.c_meaning.specs.Grammar.{Expression, IsUnit}
use Rattle.outside.specs.Moves.{Began, Wrote}
use Rattle.cil_tree.specs.Tree.{Program}
use Rattle.cil_tree.specs.Text.{Text}
use Rattle.cil_lines.specs.declared.status.Status.{Status}
use Rattle.cil_lines.specs.declared.status.Status.TheVariants.{Done, WriteFault, Memory}
use Rattle.cil_commands.specs.Merge.{IsWritten, IsMergedTo, IsNoGrammar, IsRefused, IsRefusedLike, IfRefused}

-- where it is done, out took the text of a program, to which the unit is merged where one is merged alone; where a write failed, a front of such a text
pub record WritesProgram (asked : Option SourceFile) (status : Status) (taken taken' : Option (List ℕ)) : Type 0 where
  pub done : status ≡ Done → (p : Program) × IsWritten p × Wrote taken taken' (Text p) × IfSome asked (λ unit. IsMergedTo unit p)
  pub part : status ≡ WriteFault → (p : Program) × IsWritten p × Began taken taken' (Text p) × IfSome asked (λ unit. IsMergedTo unit p)

-- where no call failed, a unit of the form is accepted; where no read failed, one that is not grammatical is refused for that; in both cases memory may be wanting instead. Each refusal has its cause, whatever failed. `reads` is that a call on files failed, `writes` that one on out did
pub record AnswersUnit (asked : Option SourceFile) (status : Status) (reads writes : Type 0) : Type 0 where
  pub accepted : IfSome asked (λ unit. (e : Expression) → IsUnit unit e → ¬ reads → ¬ writes → (status ≡ Done) ⊎ (status ≡ Memory))
  pub refuses : IfSome asked (λ unit. (refusal : Refusal) (names : List (List ℕ)) → IsNoGrammar unit refusal names → ¬ reads → IsRefusedLike status refusal ⊎ (status ≡ Memory))
  pub refused : IfSome asked (λ unit. IfRefused status (λ refusal. (others : List (List ℕ)) × IsRefused unit refusal others))
