-- Which answer is left where the others are excluded.
use Rattle.std.proofs.Common.{◌≡◌, ◌≢◌, ℕ, List, [], Option, Some, None, IfSome, ◌⊎◌, inl, inr, refl, ap, sym, append-nil}
use Rattle.cil_base.specs.declared.faults.Refusal.{Refusal}
use Rattle.c_meaning.specs.SourceFile.{SourceFile}
use Rattle.c_meaning.specs.Grammar.{Expression, IsUnit}
use Rattle.outside.specs.Named.{Told}
use Rattle.cil_tree.specs.Tree.{Program}
use Rattle.cil_words.specs.Command.{SampleWords, steps_asked, merged_files, sample_asked}
use Rattle.sample_command.specs.Answers.{SampleSays}
use Rattle.cil_commands.specs.Grammatical.{IsGrammatical}
use Rattle.cil_commands.specs.Merge.{unit_asked, IsMergeAnswer, IsMergedTo, IsNoGrammar, IsRefused, IsRefusedLike, IfRefused}
use Rattle.cil_lines.specs.Messages.{line_of}
use Rattle.cil_commands.specs.Messages.{AreNames, SaysWith, names_asked}
use Rattle.cil_commands.specs.Several.{SaysOfUnits, SaysOfLinks, common_asked}
use Rattle.cil_sources.specs.Files.{all_under}
use Rattle.cil_sources.specs.Units.{kept}
use Rattle.cil_commands.proofs.Units.{not_both, not_grammar, like_refusal}
use Rattle.cil_lines.specs.declared.status.Status.{Status}
use Rattle.cil_lines.specs.declared.status.Status.TheVariants.{Done, Exited, StillRunning, WentUndefined, Usage, Refused, NotCil, ReadFault, WriteFault, Memory}

-- of a unit of the form
accepted_as : (units : ℕ) (status : Status) (files out : Type 0) → IsMergeAnswer units status → (status ≡ ReadFault → files) → (status ≡ WriteFault → out) → IfRefused status (λ refusal. ⊥)
    → ¬ files → ¬ out → (status ≡ Done) ⊎ (status ≡ Memory)
accepted_as units Done files out kind read write refused calm quiet = inl refl
accepted_as units (Exited s) files out kind read write refused calm quiet = absurd kind
accepted_as units StillRunning files out kind read write refused calm quiet = absurd kind
accepted_as units WentUndefined files out kind read write refused calm quiet = absurd kind
accepted_as units Usage files out kind read write refused calm quiet = absurd kind
accepted_as units (Refused r) files out kind read write refused calm quiet = absurd refused
accepted_as units (NotCil k) files out kind read write refused calm quiet = absurd kind
accepted_as units ReadFault files out kind read write refused calm quiet = absurd (calm (read refl))
accepted_as units WriteFault files out kind read write refused calm quiet = absurd (quiet (write refl))
accepted_as units Memory files out kind read write refused calm quiet = inr refl

not_refused : (status : Status) (unit : SourceFile) (e : Expression) (names : List (List ℕ)) → IsUnit unit e → IfRefused status (λ refusal. IsRefused unit refusal names) → IfRefused status (λ refusal. ⊥)
not_refused (Refused r) unit e names is says = not_both unit e r names is says
not_refused _ unit e names is says = tt

pub accepted_by : (units : ℕ) (asked : Option SourceFile) (status : Status) (names : List (List ℕ)) (files out : Type 0) → IsMergeAnswer units status → (status ≡ ReadFault → files) → (status ≡ WriteFault → out)
    → IfSome asked (λ unit. IfRefused status (λ refusal. IsRefused unit refusal names))
    → IfSome asked (λ unit. (e : Expression) → IsUnit unit e → ¬ files → ¬ out → (status ≡ Done) ⊎ (status ≡ Memory))
accepted_by units None status names files out kind read write refused = tt
accepted_by units (Some unit) status names files out kind read write refused = λ e is calm quiet. accepted_as units status files out kind read write (not_refused status unit e names is refused) calm quiet

-- of a file that is refused: what is written is a program that some unit is merged to
refused_as : (units : ℕ) (status : Status) (unit : SourceFile) (refusal : Refusal) (names others : List (List ℕ)) (files : Type 0) → IsMergeAnswer units status → (status ≡ ReadFault → files) → status ≢ Done → status ≢ WriteFault
    → IfRefused status (λ r. IsRefused unit r names) → IsNoGrammar unit refusal others → ¬ files → IsRefusedLike status refusal ⊎ (status ≡ Memory)
refused_as units Done unit refusal names others files kind read done write says is calm = absurd (done refl)
refused_as units (Exited s) unit refusal names others files kind read done write says is calm = absurd kind
refused_as units StillRunning unit refusal names others files kind read done write says is calm = absurd kind
refused_as units WentUndefined unit refusal names others files kind read done write says is calm = absurd kind
refused_as units Usage unit refusal names others files kind read done write says is calm = absurd kind
refused_as units (Refused r) unit refusal names others files kind read done write says is calm = inl (r, refl, like_refusal unit r refusal names others says is)
refused_as units (NotCil k) unit refusal names others files kind read done write says is calm = absurd kind
refused_as units ReadFault unit refusal names others files kind read done write says is calm = absurd (calm (read refl))
refused_as units WriteFault unit refusal names others files kind read done write says is calm = absurd (write refl)
refused_as units Memory unit refusal names others files kind read done write says is calm = inr refl

pub refuses_by : (units : ℕ) (asked : Option SourceFile) (status : Status) (names : List (List ℕ)) (files : Type 0) → IsMergeAnswer units status → (status ≡ ReadFault → files)
    → (status ≡ Done → IfSome asked (λ unit. IsGrammatical unit)) → (status ≡ WriteFault → IfSome asked (λ unit. IsGrammatical unit))
    → IfSome asked (λ unit. IfRefused status (λ refusal. IsRefused unit refusal names))
    → IfSome asked (λ unit. (refusal : Refusal) (others : List (List ℕ)) → IsNoGrammar unit refusal others → ¬ files → IsRefusedLike status refusal ⊎ (status ≡ Memory))
refuses_by units None status names files kind read done write refused = tt
refuses_by units (Some unit) status names files kind read done write refused = λ refusal others is calm.
    refused_as units status unit refusal names others files kind read (λ s. not_grammar unit refusal others (done s) is) (λ s. not_grammar unit refusal others (write s) is) refused is calm

-- what is merged is grammatical
pub unit_of_merged : (asked : Option SourceFile) (p : Program) → IfSome asked (λ unit. IsMergedTo unit p) → IfSome asked (λ unit. IsGrammatical unit)
unit_of_merged None p merged = tt
unit_of_merged (Some unit) p merged = merged.grammatical

-- a refusal is told with the names of its places
some_names : (status : Status) (unit : SourceFile) (names : List (List ℕ)) → IfRefused status (λ refusal. IsRefused unit refusal names) → IfRefused status (λ refusal. (others : List (List ℕ)) × IsRefused unit refusal others)
some_names (Refused r) unit names says = (names, says)
some_names _ unit names says = tt

pub refused_by : (asked : Option SourceFile) (status : Status) (names : List (List ℕ)) → IfSome asked (λ unit. IfRefused status (λ refusal. IsRefused unit refusal names))
    → IfSome asked (λ unit. IfRefused status (λ refusal. (others : List (List ℕ)) × IsRefused unit refusal others))
refused_by None status names refused = tt
refused_by (Some unit) status names refused = some_names status unit names refused

-- a status is told by one line, also where the names are not known because memory is wanting
pub record IsLine (told : Option Told) (words names : List (List ℕ)) (given : ℕ) (status : Status) (taken taken' : Option (List ℕ)) : Type 0 where
  pub known : List (List ℕ)
  pub are : AreNames told words status known
  pub says : SaysWith told words status known taken taken'
  pub line : line_of names given status ≡ line_of known (steps_asked words) status

line_at : (told : Option Told) (words names : List (List ℕ)) (given : ℕ) (status : Status) (taken taken' : Option (List ℕ)) → AreNames told words status names → SaysWith told words status names taken taken' → given ≡ steps_asked words → IsLine told words names given status taken taken'
line_at told words names given status taken taken' are says equal = record { known = names; are = are; says = says; line = ap (λ k. line_of names k status) equal }

no_refusal : (asked : Option SourceFile) (names : List (List ℕ)) → IfSome asked (λ unit. IfRefused Memory (λ refusal. IsRefused unit refusal names))
no_refusal None names = tt
no_refusal (Some unit) names = tt

-- want of memory has no names
memory_names : (told : Option Told) (words : List (List ℕ)) → AreNames told words Memory (names_asked words)
memory_names told words = record { begin = record { more = []; is = sym (append-nil _) }; files = tt; refused = no_refusal (unit_asked told words) (names_asked words) }

memory_says : (told : Option Told) (words names : List (List ℕ)) (taken taken' : Option (List ℕ)) → SaysWith told words Memory names taken taken'
memory_says told words names taken taken' = record { units = λ none. units (all_under told (merged_files words)); links = λ several. links (all_under told (merged_files words)); sampled = sampled (sample_asked words) }
  where
    units : (asked : Option (List (List ℕ))) → IfSome asked (λ units. SaysOfUnits units (merged_files words) names Memory)
    units None = tt
    units (Some us) = tt

    links : (asked : Option (List (List ℕ))) → IfSome asked (λ units. SaysOfLinks (common_asked words) (kept 0 units).units (merged_files words) names Memory taken taken')
    links None = tt
    links (Some us) = tt

    sampled : (asked : Option SampleWords) → IfSome asked (λ asked. SampleSays asked.seed asked.units names Memory taken taken')
    sampled None = tt
    sampled (Some asked) = tt

pub line_by : (told : Option Told) (words names : List (List ℕ)) (given : ℕ) (status : Status) (taken taken' : Option (List ℕ)) → (status ≢ Memory → AreNames told words status names) → SaysWith told words status names taken taken' → given ≡ steps_asked words → IsLine told words names given status taken taken'
line_by told words names given Memory taken taken' are says equal = record { known = names_asked words; are = memory_names told words; says = memory_says told words (names_asked words) taken taken'; line = refl }
line_by told words names given Done taken taken' are says equal = line_at told words names given Done taken taken' (are (λ e. let is : Done ≡ Memory = e in cc)) says equal
line_by told words names given (Exited s) taken taken' are says equal = line_at told words names given (Exited s) taken taken' (are (λ e. let is : Exited s ≡ Memory = e in cc)) says equal
line_by told words names given StillRunning taken taken' are says equal = line_at told words names given StillRunning taken taken' (are (λ e. let is : StillRunning ≡ Memory = e in cc)) says equal
line_by told words names given WentUndefined taken taken' are says equal = line_at told words names given WentUndefined taken taken' (are (λ e. let is : WentUndefined ≡ Memory = e in cc)) says equal
line_by told words names given Usage taken taken' are says equal = line_at told words names given Usage taken taken' (are (λ e. let is : Usage ≡ Memory = e in cc)) says equal
line_by told words names given (Refused r) taken taken' are says equal = line_at told words names given (Refused r) taken taken' (are (λ e. let is : Refused r ≡ Memory = e in cc)) says equal
line_by told words names given (NotCil k) taken taken' are says equal = line_at told words names given (NotCil k) taken taken' (are (λ e. let is : NotCil k ≡ Memory = e in cc)) says equal
line_by told words names given ReadFault taken taken' are says equal = line_at told words names given ReadFault taken taken' (are (λ e. let is : ReadFault ≡ Memory = e in cc)) says equal
line_by told words names given WriteFault taken taken' are says equal = line_at told words names given WriteFault taken taken' (are (λ e. let is : WriteFault ≡ Memory = e in cc)) says equal
