-- Definition: the exit code of each status, and the one line that tells it on standard error (own).
use Rattle.std.specs.Prelude.{ℕ, ◌<◌, List, [], ◌∷◌, ◌++◌, codes, decimal, Option, Some, None, slice_get, unwrap_or}
use Rattle.std.specs.List.{concat}
use Rattle.std.specs.Option.{ForSome}
use Rattle.cil_base.specs.declared.faults.Fault.{Fault}
use Rattle.cil_base.specs.declared.faults.Fault.TheVariants.{Lexical, Excluded, Syntax, Constraint, Limit, Duplicate, Incompatible}
use Rattle.cil_base.specs.declared.faults.Place.{Place}
use Rattle.cil_base.specs.declared.faults.Refusal.{Refusal}
use Rattle.cil_base.specs.Fault.{feature_text, code_text, what_text}
use Rattle.cil_lines.specs.declared.status.Status.{Status}
use Rattle.cil_lines.specs.declared.status.Status.TheVariants.{Done, Exited, StillRunning, WentUndefined, Usage, Refused, NotCil, ReadFault, WriteFault, Memory}

abbrev pub code_of : Status → ℕ
code_of Done = 0
code_of (Exited status) = status
code_of StillRunning = 124
code_of WentUndefined = 125
code_of Usage = 64
code_of (Refused refusal) = 65
code_of (NotCil byte) = 65
code_of ReadFault = 74
code_of WriteFault = 74
code_of Memory = 71

-- presumed file and line of a place (C11 6.10.4); the file is a number in these names
abbrev pub place_pieces : List (List ℕ) → Place → List (List ℕ)
place_pieces names place = unwrap_or (slice_get names place.file.0) [] ∷ codes ":" ∷ decimal place.line ∷ []

-- what a fault is called, up to the other place where it has one
abbrev pub fault_pieces : Fault → List (List ℕ)
fault_pieces Lexical = codes "lexical fault" ∷ codes "" ∷ []
fault_pieces (Excluded feature) = codes "excluded: " ∷ feature_text feature ∷ []
fault_pieces Syntax = codes "syntax fault, stopped at " ∷ codes "" ∷ []
fault_pieces (Constraint code) = codes "constraint: " ∷ code_text code ∷ []
fault_pieces (Limit what) = codes "limit: " ∷ what_text what ∷ []
fault_pieces Duplicate = codes "duplicate definition, other at " ∷ codes "" ∷ []
fault_pieces Incompatible = codes "incompatible declaration, other at " ∷ codes "" ∷ []

abbrev pub other_pieces : List (List ℕ) → Option Place → List (List ℕ)
other_pieces names None = []
other_pieces names (Some place) = place_pieces names place

-- the line of a refusal, such as `cil: a.c:1: lexical fault`
abbrev pub refusal_line : List (List ℕ) → Refusal → List ℕ
refusal_line names refusal =
    concat (codes "cil: " ∷ place_pieces names refusal.at) ++ (concat (codes ": " ∷ fault_pieces refusal.fault) ++ concat (other_pieces names refusal.other ++ codes "\n" ∷ []))

-- the line of a status, whose files are numbers in these names; a run that reached its bound had so many steps
abbrev pub line_of : List (List ℕ) → ℕ → Status → List ℕ
line_of names steps Done = []
line_of names steps (Exited status) = []
line_of names steps StillRunning = concat (codes "cil: still running after " ∷ decimal steps ∷ codes " steps\n" ∷ [])
line_of names steps WentUndefined = codes "cil: undefined behaviour\n"
line_of names steps Usage = codes "cil: usage: cil merge [--common] FILE... | cil run [--steps N] FILE [ARG...] | cil sample SEED UNITS\n"
line_of names steps (Refused refusal) = refusal_line names refusal
line_of names steps (NotCil byte) = concat (codes "cil: not CIL at byte " ∷ decimal byte ∷ codes "\n" ∷ [])
line_of names steps ReadFault = codes "cil: read fault\n"
line_of names steps WriteFault = codes "cil: write fault\n"
line_of names steps Memory = codes "cil: want of memory\n"

-- a status that is told by nothing on standard error
abbrev pub IsQuiet : Status → Type 0
IsQuiet Done = Unit {0}
IsQuiet (Exited status) = Unit {0}
IsQuiet _ = ⊥

-- the files of the status's places are numbers in so many names
abbrev pub HasFiles : ℕ → Status → Type 0
HasFiles count (Refused refusal) = (refusal.at.file.0 < count) × ForSome refusal.other (λ place. place.file.0 < count)
HasFiles count _ = Unit {0}
