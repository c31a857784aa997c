-- Device: what is written of a program, and of one that has no summary.
use Rattle.std.proofs.Common.{◌≡◌, ◌≢◌, ◌≤◌, ℕ, false, List, length, Option, None, Result, Ok, Err, IfOk, refl, subst}
use Rattle.cil_base.specs.Limits.{text_bytes}
use Rattle.outside.specs.Moves.{Began, Wrote}
use Rattle.cil_base.specs.declared.faults.Refusal.{Refusal}
use Rattle.cil_base.specs.declared.faults.Stop.{Stop}
use Rattle.cil_tree.specs.declared.globals.CilUnit.{CilUnit}
use Rattle.cil_tree.specs.View.{program_of}
use Rattle.cil_tree.specs.Text.{Text}
use Rattle.cil_tree.specs.Programs.{IsProgram}
use Rattle.merge_refusals.specs.Refusals.{IsMergeRefusal, PrintedIfLong}
use Rattle.unit_merger.specs.Units.{AreMerged, IsRefusedAmong}
use Rattle.unit_merger.specs.Linking.{IsProgramOf, LateSays}
use Rattle.sample_units.specs.Units.{unit_texts, file_names}
use Rattle.sample_summary.specs.Summary.{IsSummary}
use Rattle.cil_lines.specs.declared.status.Status.{Status}
use Rattle.cil_lines.specs.declared.status.Status.TheVariants.{Done, Exited, StillRunning, WentUndefined, Usage, Refused, NotCil, ReadFault, WriteFault, Memory}
use Rattle.sample_command.specs.Answers.{IsOfSample, IsSampleRefusal, SampleSays}

pub formed_of : (seed units : ℕ) (pool : List (List ℕ)) (r : Result CilUnit Stop) → IfOk r (λ _. AreMerged (unit_texts seed units) None (file_names units)) → IfOk r (λ u. IsProgram (program_of pool u)) → IfOk r (λ u. length (Text (program_of pool u)) ≤ text_bytes) → IfOk r (IsProgramOf false (unit_texts seed units) (file_names units) pool) → IfOk r (IsOfSample seed units pool)
formed_of seed units pool (Ok u) grammatical formed short of = record { grammatical = grammatical; of = of; formed = formed; short = short }
formed_of seed units pool (Err stop) grammatical formed short of = tt

-- what stops, as a result
abbrev pub stopped : Stop → Result CilUnit Stop
stopped stop = Err stop

pub refused_so : (seed units count : ℕ) (pool : List (List ℕ)) (refusal : Refusal) → IsMergeRefusal units count refusal → PrintedIfLong refusal → IsRefusedAmong (unit_texts seed units) None (file_names units) pool refusal
    → LateSays false (unit_texts seed units) (file_names units) pool refusal refusal.fault → IsSampleRefusal seed units pool refusal
refused_so seed units count pool refusal is printed among links = record { fault = is.fault; unit = is.unit; other = is.other; printed = printed; among = among; links = links }

abbrev NotDone : Status → Type 0
NotDone Done = ⊥
NotDone _ = Unit {0}

abbrev NotFailed : Status → Type 0
NotFailed WriteFault = ⊥
NotFailed _ = Unit {0}

neither : (status : Status) → NotDone status → NotFailed status → (status ≢ Done → status ≡ WriteFault) → ⊥
neither status done failed two = subst NotFailed (two (λ e. subst NotDone e done)) failed

-- the lines are sent: either the whole of them, or a call on out failed
pub sent : (seed units : ℕ) (pool : List (List ℕ)) (u : CilUnit) (lines : List ℕ) (status : Status) (taken taken' : Option (List ℕ)) → IsSummary units (program_of pool u) lines → (status ≡ Done → Wrote taken taken' lines) → Began taken taken' lines → (status ≢ Done → status ≡ WriteFault)
    → IsOfSample seed units pool u → SampleSays seed units pool status taken taken'
sent seed units pool u lines Done taken taken' is done began two of = record { lines = lines; are = record { program = u; of = of; summary = is }; wrote = done refl }
sent seed units pool u lines WriteFault taken taken' is done began two of = record { lines = lines; are = record { program = u; of = of; summary = is }; began = began }
sent seed units pool u lines Memory taken taken' is done began two of = tt
sent seed units pool u lines (Exited s) taken taken' is done began two of = absurd (neither (Exited s) tt tt two)
sent seed units pool u lines StillRunning taken taken' is done began two of = absurd (neither StillRunning tt tt two)
sent seed units pool u lines WentUndefined taken taken' is done began two of = absurd (neither WentUndefined tt tt two)
sent seed units pool u lines Usage taken taken' is done began two of = absurd (neither Usage tt tt two)
sent seed units pool u lines (Refused r) taken taken' is done began two of = absurd (neither (Refused r) tt tt two)
sent seed units pool u lines (NotCil k) taken taken' is done began two of = absurd (neither (NotCil k) tt tt two)
sent seed units pool u lines ReadFault taken taken' is done began two of = absurd (neither ReadFault tt tt two)
