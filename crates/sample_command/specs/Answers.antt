-- Definition: what `sample` answers (own).
use Rattle.std.specs.Prelude.{ℕ, ◌<◌, ◌≤◌, false, List, length, Option, None}
use Rattle.cil_base.specs.Limits.{text_bytes}
use Rattle.outside.specs.Moves.{Began, Wrote}
use Rattle.cil_base.specs.declared.faults.Refusal.{Refusal}
use Rattle.cil_tree.specs.declared.globals.CilUnit.{CilUnit}
use Rattle.cil_tree.specs.View.{program_of}
use Rattle.cil_tree.specs.Text.{Text}
use Rattle.cil_tree.specs.Programs.{IsProgram}
use Rattle.merge_refusals.specs.Refusals.{IsMergeFault, HasOther, PrintedIfLong}
use Rattle.unit_merger.specs.Units.{AreMerged, IsRefusedAmong}
use Rattle.unit_merger.specs.Linking.{IsProgramOf, LateSays}
use Rattle.sample_units.specs.Units.{unit_texts, file_names}
use Rattle.sample_summary.specs.Summary.{IsSummary, StopsSo}
use Rattle.sample_summary.specs.declared.stop.SampleStop.{SampleStop}
use Rattle.sample_summary.specs.declared.stop.SampleStop.TheVariants as stop
use Rattle.cil_lines.specs.declared.status.Status.{Status}
use Rattle.cil_lines.specs.declared.status.Status.TheVariants.{Done, Exited, StillRunning, WentUndefined, Usage, Refused, NotCil, ReadFault, WriteFault, Memory}

-- a well-formed program, whose text is not too long, to which CIL programs of so many units of a sample are merged, which are made from that seed; each of these units is grammatical (C11 6.9)
pub record IsOfSample (seed units : ℕ) (pool : List (List ℕ)) (program : CilUnit) : Type 0 where
  pub grammatical : AreMerged (unit_texts seed units) None (file_names units)
  pub of : IsProgramOf false (unit_texts seed units) (file_names units) pool program
  pub formed : IsProgram (program_of pool program)
  pub short : length (Text (program_of pool program)) ≤ text_bytes

-- the lines tell that program
pub record AreOfProgram (seed units : ℕ) (pool : List (List ℕ)) (lines : List ℕ) : Type 0 where
  pub program : CilUnit
  pub of : IsOfSample seed units pool program
  pub summary : IsSummary units (program_of pool program) lines

-- that program has no summary, for this cause
pub record HasNone (seed units : ℕ) (pool : List (List ℕ)) (cause : SampleStop) : Type 0 where
  pub program : CilUnit
  pub of : IsOfSample seed units pool program
  pub stops : StopsSo (program_of pool program) cause

-- the lines that out took, or a front of which it took
pub record WroteLines (seed units : ℕ) (pool : List (List ℕ)) (taken taken' : Option (List ℕ)) : Type 0 where
  pub lines : List ℕ
  pub are : AreOfProgram seed units pool lines
  pub wrote : Wrote taken taken' lines

pub record BeganLines (seed units : ℕ) (pool : List (List ℕ)) (taken taken' : Option (List ℕ)) : Type 0 where
  pub lines : List ℕ
  pub are : AreOfProgram seed units pool lines
  pub began : Began taken taken' lines

-- why the units of a sample are refused, as those of any merge are
pub record IsSampleRefusal (seed units : ℕ) (pool : List (List ℕ)) (refusal : Refusal) : Type 0 where
  pub fault : IsMergeFault refusal.fault
  pub unit : refusal.at.unit.0 < units
  pub other : HasOther units refusal.fault refusal.other
  pub printed : PrintedIfLong refusal
  pub among : IsRefusedAmong (unit_texts seed units) None (file_names units) pool refusal
  pub links : LateSays false (unit_texts seed units) (file_names units) pool refusal refusal.fault

-- what a status of `sample` says of so many units from that seed, with the texts of the names of their program, where out had taken `taken` and has taken `taken'`
abbrev pub SampleSays : (seed units : ℕ) → (pool : List (List ℕ)) → Status → (taken taken' : Option (List ℕ)) → Type 0
SampleSays seed units pool Done taken taken' = WroteLines seed units pool taken taken'
SampleSays seed units pool (Exited status) taken taken' = ⊥
SampleSays seed units pool StillRunning taken taken' = HasNone seed units pool stop.StillRunning
SampleSays seed units pool WentUndefined taken taken' = HasNone seed units pool stop.Undefined
SampleSays seed units pool Usage taken taken' = ⊥
SampleSays seed units pool (Refused refusal) taken taken' = IsSampleRefusal seed units pool refusal
SampleSays seed units pool (NotCil byte) taken taken' = ⊥
SampleSays seed units pool ReadFault taken taken' = ⊥
SampleSays seed units pool WriteFault taken taken' = BeganLines seed units pool taken taken'
SampleSays seed units pool Memory taken taken' = Unit {0}

-- the statuses that `sample` answers of so many units
abbrev pub IsSampleAnswer : ℕ → Status → Type 0
IsSampleAnswer units Done = Unit {0}
IsSampleAnswer units (Exited status) = ⊥
IsSampleAnswer units StillRunning = Unit {0}
IsSampleAnswer units WentUndefined = Unit {0}
IsSampleAnswer units Usage = ⊥
IsSampleAnswer units (Refused refusal) = IsMergeFault refusal.fault × (refusal.at.unit.0 < units) × HasOther units refusal.fault refusal.other
IsSampleAnswer units (NotCil byte) = ⊥
IsSampleAnswer units ReadFault = ⊥
IsSampleAnswer units WriteFault = Unit {0}
IsSampleAnswer units Memory = Unit {0}
