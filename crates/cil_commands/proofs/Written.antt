-- Device: what is said of one file is said of the file that the words ask for, where they ask for one alone.
use Rattle.std.proofs.Common.{◌≡◌, ℕ, List, Option, None, IfSome}
use Rattle.c_meaning.specs.SourceFile.{SourceFile}
use Rattle.outside.specs.Moves.{Began, Wrote}
use Rattle.cil_tree.specs.Tree.{Program}
use Rattle.cil_tree.specs.Text.{Text}
use Rattle.cil_lines.specs.declared.status.Status.{Status}
use Rattle.cil_lines.specs.declared.status.Status.TheVariants.{Done, ReadFault, WriteFault}
use Rattle.cil_commands.specs.Merge.{IsMergeAnswer, IsWritten, IsMergedTo, IsRefused, IfRefused}
use Rattle.cil_commands.specs.Written.{WritesProgram, AnswersUnit}
use Rattle.cil_commands.proofs.Answered.{accepted_by, refuses_by, refused_by, unit_of_merged}
use Rattle.cil_commands.proofs.Words.{if_some_by}

pub written_as : (asked : Option SourceFile) (status : Status) (taken taken' : Option (List ℕ)) → (status ≡ Done → (p : Program) × IsWritten p × Wrote taken taken' (Text p) × IfSome asked (λ unit. IsMergedTo unit p))
    → (status ≡ WriteFault → (p : Program) × IsWritten p × Began taken taken' (Text p) × IfSome asked (λ unit. IsMergedTo unit p)) → WritesProgram asked status taken taken'
written_as asked status taken taken' done part = record { done = done; part = part }

pub program_written : (asked there : Option SourceFile) (status : Status) (taken taken' : Option (List ℕ)) → asked ≡ there
    → (status ≡ Done → (p : Program) × IsWritten p × Wrote taken taken' (Text p) × IfSome there (λ unit. IsMergedTo unit p))
    → (status ≡ WriteFault → (p : Program) × IsWritten p × Began taken taken' (Text p) × IfSome there (λ unit. IsMergedTo unit p)) → WritesProgram asked status taken taken'
program_written asked there status taken taken' same done part = record {
  done = λ s. (let made = done s in (made.0, made.1, made.2, if_some_by asked there (λ unit. IsMergedTo unit made.0) same made.3));
  part = λ s. (let made = part s in (made.0, made.1, made.2, if_some_by asked there (λ unit. IsMergedTo unit made.0) same made.3));
}

pub unit_answered : (units : ℕ) (asked there : Option SourceFile) (status : Status) (names : List (List ℕ)) (reads writes : Type 0) (taken taken' : Option (List ℕ)) → asked ≡ there → IsMergeAnswer units status → (status ≡ ReadFault → reads) → (status ≡ WriteFault → writes)
    → (status ≡ Done → (p : Program) × IsWritten p × Wrote taken taken' (Text p) × IfSome there (λ unit. IsMergedTo unit p))
    → (status ≡ WriteFault → (p : Program) × IsWritten p × Began taken taken' (Text p) × IfSome there (λ unit. IsMergedTo unit p))
    → IfSome there (λ unit. IfRefused status (λ refusal. IsRefused unit refusal names)) → AnswersUnit asked status reads writes
unit_answered units asked there status names reads writes taken taken' same kind read write done part refused = record {
  accepted = if_some_by asked there _ same (accepted_by units there status names reads writes kind read write refused);
  refuses = if_some_by asked there _ same (refuses_by units there status names reads kind read (λ s. unit_of_merged there (done s).0 (done s).3) (λ s. unit_of_merged there (part s).0 (part s).3) refused);
  refused = if_some_by asked there _ same (refused_by there status names refused);
}

-- several files are no unit alone
pub none_answered : (asked : Option SourceFile) (status : Status) (reads writes : Type 0) → asked ≡ None → AnswersUnit asked status reads writes
none_answered asked status reads writes none = record { accepted = if_some_by asked None _ none tt; refuses = if_some_by asked None _ none tt; refused = if_some_by asked None _ none tt }
