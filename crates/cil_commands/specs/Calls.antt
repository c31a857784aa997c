-- Device: the calls on files and out that failed while a command was done, and what files keep of before (own).
use Rattle.std.specs.Prelude.{◌≡◌, ◌≢◌, ◌≤◌, ◌⊎◌, ℕ, List, Option, None, IfSome}
use Rattle.outside.specs.Counts.{Rose}
use Rattle.outside.specs.Named.{Told, names_of}
use Rattle.cil_sources.specs.Files.{all_under, found_all}
use Rattle.cil_lines.specs.declared.status.Status.{Status}
use Rattle.cil_lines.specs.declared.status.Status.TheVariants.{ReadFault, Memory}

-- one status is that of a failed call on a device: it comes only where one failed, and each other where none did. The count of failed calls never falls
pub record CountsCalls (fault status : Status) (before now : ℕ) : Type 0 where
  pub failed : status ≡ fault → Rose before now
  pub calm : status ≢ fault → now ≡ before
  pub later : before ≤ now

-- files keep their names and bytes. Where one that is asked for is not there, the answer is ReadFault, or memory is wanting; where all are there, no name is opened that is not
pub record LeavesFiles (status : Status) (asked : List (List ℕ)) (before now : Option Told) (strays strays' : ℕ) : Type 0 where
  pub missing : IfSome before (λ t. found_all t.names asked ≡ None → (status ≡ ReadFault) ⊎ (status ≡ Memory))
  pub names_stay : names_of now ≡ names_of before
  pub strays_stay : IfSome (all_under before asked) (λ _. strays' ≡ strays)
