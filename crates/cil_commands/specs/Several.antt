-- Definition: what `merge` and `sample` say of their units, in the units' order, and of what out took (own).
use Rattle.std.specs.Prelude.{◌≡◌, ℕ, ◌<◌, None, Bool, false, List, length, Option, unwrap_or, IfSome}
use Rattle.std.specs.Option.{option_map}
use Rattle.cil_base.specs.declared.faults.What.{What}
use Rattle.outside.specs.Moves.{Began, Wrote}
use Rattle.outside.specs.Named.{Told}
use Rattle.unit_merger.specs.Units.{AreMerged, IsRefusedAmong}
use Rattle.unit_merger.specs.Linking.{IsTextOfUnits, LateSays}
use Rattle.cil_sources.specs.Files.{all_under}
use Rattle.cil_sources.specs.Units.{kept}
use Rattle.sample_command.specs.Answers.{SampleSays}
use Rattle.cil_words.specs.Command.{command_of, is_common, merged_files, sample_asked}
use Rattle.cil_lines.specs.declared.status.Status.{Status}
use Rattle.cil_lines.specs.declared.status.Status.TheVariants.{Done, Refused, WriteFault}

-- what a status says of units of these files, behind which one may stand that passes a limit, with the names that its places' files are numbers in: where a text is written each unit is grammatical and none passes a limit, and a refusal is for the first fault in order
abbrev pub SaysOfKept : List (List ℕ) → Option What → List (List ℕ) → List (List ℕ) → Status → Type 0
SaysOfKept units over files names Done = AreMerged units over files
SaysOfKept units over files names WriteFault = AreMerged units over files
SaysOfKept units over files names (Refused refusal) = IsRefusedAmong units over files names refusal
SaysOfKept units over files names _ = Unit {0}

-- what it says of the bytes of the files
abbrev pub SaysOfUnits : List (List ℕ) → List (List ℕ) → List (List ℕ) → Status → Type 0
SaysOfUnits units files names status = SaysOfKept (kept 0 units).units (kept 0 units).over files names status

-- out took the text of a program to which CIL programs of units of these files are merged
pub record WroteUnits (common : Bool) (units files names : List (List ℕ)) (taken taken' : Option (List ℕ)) : Type 0 where
  pub bytes : List ℕ
  pub text : IsTextOfUnits common units files names bytes
  pub wrote : Wrote taken taken' bytes

-- out took a front of such a text
pub record BeganUnits (common : Bool) (units files names : List (List ℕ)) (taken taken' : Option (List ℕ)) : Type 0 where
  pub bytes : List ℕ
  pub text : IsTextOfUnits common units files names bytes
  pub began : Began taken taken' bytes

-- what a status says of the links of units of these files, and of the text of a program to which their CIL programs are merged, where out had taken `taken` and has taken `taken'`: where a text is written, or a front of one, the units are linked, and it is such a text; a refusal that is found behind all has its cause in their links, or in the length of such a text
abbrev pub SaysOfLinks : Bool → (units files names : List (List ℕ)) → Status → (taken taken' : Option (List ℕ)) → Type 0
SaysOfLinks common units files names Done taken taken' = WroteUnits common units files names taken taken'
SaysOfLinks common units files names WriteFault taken taken' = BeganUnits common units files names taken taken'
SaysOfLinks common units files names (Refused refusal) taken taken' = LateSays common units files names refusal refusal.fault
SaysOfLinks common units files names _ taken taken' = Unit {0}

-- whether tentative definitions of several units are one object in the merge that the words ask for
abbrev pub common_asked : List (List ℕ) → Bool
common_asked words = unwrap_or (option_map is_common (command_of words)) false

-- what it says of the files that the words ask to be merged
abbrev pub UnitsSay : Option Told → List (List ℕ) → List (List ℕ) → Status → Type 0
UnitsSay told words names status = sample_asked words ≡ None → IfSome (all_under told (merged_files words)) (λ units. SaysOfUnits units (merged_files words) names status)

-- what it says of their links and their text, where there are several
abbrev pub LinksSay : Option Told → (words names : List (List ℕ)) → Status → (taken taken' : Option (List ℕ)) → Type 0
LinksSay told words names status taken taken' = 1 < length (merged_files words) → IfSome (all_under told (merged_files words)) (λ units. SaysOfLinks (common_asked words) (kept 0 units).units (merged_files words) names status taken taken')

-- what it says of the sample that the words ask for
abbrev pub SampledSays : (words names : List (List ℕ)) → Status → (taken taken' : Option (List ℕ)) → Type 0
SampledSays words names status taken taken' = IfSome (sample_asked words) (λ asked. SampleSays asked.seed asked.units names status taken taken')
