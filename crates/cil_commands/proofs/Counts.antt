-- Device: the calls that failed while a command was done, counted, and files that it does not ask for.
use Rattle.std.proofs.Common.{◌≡◌, ◌≢◌, ◌≤◌, ◌⊎◌, ℕ, List, [], Option, None, Some, IfSome, refl, ap, sym, ◌∙◌}
use Rattle.outside.specs.Counts.{Rose}
use Rattle.outside.specs.Named.{Told, names_of}
use Rattle.cil_sources.specs.Files.{all_under, found_all}
use Rattle.cil_lines.specs.declared.status.Status.{Status}
use Rattle.cil_lines.specs.declared.status.Status.TheVariants.{ReadFault, Memory}
use Rattle.cil_commands.specs.Calls.{CountsCalls, LeavesFiles}

pub counted : (fault status : Status) (before now : ℕ) → (status ≡ fault → Rose before now) → (status ≢ fault → now ≡ before) → before ≤ now → CountsCalls fault status before now
counted fault status before now failed calm later = record { failed = failed; calm = calm; later = later }

pub left_alone : (status : Status) (asked : List (List ℕ)) (before now : Option Told) (strays strays' : ℕ) → IfSome before (λ t. found_all t.names asked ≡ None → (status ≡ ReadFault) ⊎ (status ≡ Memory)) → names_of now ≡ names_of before
    → IfSome (all_under before asked) (λ _. strays' ≡ strays) → LeavesFiles status asked before now strays strays'
left_alone status asked before now strays strays' missing stay same = record { missing = missing; names_stay = stay; strays_stay = same }

-- where no file is asked for, none is missing
none_missing : (status : Status) (asked : List (List ℕ)) (told : Option Told) → asked ≡ [] → IfSome told (λ t. found_all t.names asked ≡ None → (status ≡ ReadFault) ⊎ (status ≡ Memory))
none_missing status asked None is = tt
none_missing status asked (Some t) is = λ none. (let clash : Some [] ≡ None = sym (ap (found_all t.names) is) ∙ none in cc)

same_strays : {A : Type 0} (found : Option A) (strays : ℕ) → IfSome found (λ _. strays ≡ strays)
same_strays None strays = tt
same_strays (Some a) strays = refl

pub none_opened : (status : Status) (asked : List (List ℕ)) (told : Option Told) (strays : ℕ) → asked ≡ [] → LeavesFiles status asked told told strays strays
none_opened status asked told strays is = record { missing = none_missing status asked told is; names_stay = refl; strays_stay = same_strays (all_under told asked) strays }
