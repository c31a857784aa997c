-- Definition: how a run starts and ends (C11 5.1.2.2.1, 5.1.2.2.3; own: statuses are modulo 256, and the bound).
use Rattle.std.specs.Prelude.{ℕ, suc, ◌-◌, Bool, false, List, [], ◌∷◌, ◌++◌, length, map, Option, Some, None, option_map, slice_get, pos}
use Rattle.cil_base.specs.declared.kinds.Abi.{Abi}
use Rattle.cil_base.specs.declared.kinds.Mode.{Mode}
use Rattle.cil_base.specs.declared.kinds.IntKind.TheVariants.{Int as int}
use Rattle.cil_base.specs.declared.runs.Outcome.{Outcome}
use Rattle.cil_base.specs.declared.runs.Outcome.TheVariants.{Exit, Running as StillRunning, Undefined as WentUndefined}
use Rattle.byte_mem.specs.declared.pointers.ObjName.{ObjName}
use Rattle.byte_mem.specs.declared.pointers.ObjName.TheVariants.{Entity, Local, Literal, Heap, Argument as Word}
use Rattle.byte_mem.specs.declared.values.Byte.{Byte}
use Rattle.byte_mem.specs.declared.values.Byte.TheVariants.{Known}
use Rattle.byte_mem.specs.declared.values.Scalar.TheVariants.{Int as OfKind, Ptr as OfPointer}
use Rattle.byte_mem.specs.declared.values.Value.{Value}
use Rattle.byte_mem.specs.declared.values.Value.TheVariants.{Int, Ptr, Unknown, Part}
use Rattle.byte_mem.specs.Steps.{◌>>=◌}
use Rattle.byte_mem.specs.Scalar.{bytes_of}
use Rattle.byte_mem.specs.Object.{Held, function_held}
use Rattle.byte_mem.specs.Memory.{Memory}
use Rattle.byte_mem.specs.Layers.{slot}
use Rattle.host_calls.specs.Host.{byte_of}
use Rattle.execution.specs.States.{State, Result, Goes, Exits, Running, Undefined, last}
use Rattle.execution.specs.Data.{Kind, OfScalar, Datum, Single, Bytes, Argument}
use Rattle.execution.specs.Calls.{Call, Start, NotMain, WithoutWords, WithWords, Function, Meaning, Object, Code, Host, Linked, calls}
use Rattle.execution.specs.Linking.{Linkable, linked, main_entity}

abbrev pub writable : List Byte → Held
writable bytes = record { function = false; read_only = false; bytes = bytes }

-- what is live of an entity when the program starts (C11 5.1.2p1): a function is, and an object with its bytes; what nothing defines is not
abbrev pub entity_held : Option Meaning → Option Held
entity_held None = None
entity_held (Some (Object read_only bytes)) = Some (record { function = false; read_only = read_only; bytes = bytes })
entity_held (Some (Code f)) = Some function_held
entity_held (Some (Host name)) = Some function_held

abbrev pub pointer_to_name : ObjName → Value
pointer_to_name name = Ptr (record { name = name; offset = pos 0 })

-- C11 5.1.2.2.1p2: argv[i] points to word i, and argv[argc] is null; the words are the arguments behind the array (own)
abbrev pub word_pointers : Abi → ℕ → List (List ℕ) → List Byte
word_pointers abi i [] = bytes_of abi OfPointer (Int (pos 0))
word_pointers abi i (w ∷ words) = bytes_of abi OfPointer (pointer_to_name (Word (suc i))) ++ word_pointers abi (suc i) words

-- a word's bytes, and a zero byte behind them
abbrev pub word_held : List ℕ → Option Held
word_held w = Some (writable (map Known w ++ Known 0 ∷ []))

-- argument 0 is the array argv, and the words follow; all may be modified (C11 5.1.2.2.1p2)
abbrev pub words_held : Abi → List (List ℕ) → List (Option Held)
words_held abi words = Some (writable (word_pointers abi 0 words)) ∷ map word_held words

abbrev pub memory_of : List (Option Held) → List (Option Held) → Memory
memory_of entities words (Entity e) = slot entities e.0
memory_of entities words (Word i) = slot words i
memory_of entities words (Local act i) = None
memory_of entities words (Literal i) = None
memory_of entities words (Heap i) = None

-- the state in which a program starts, with so many units
abbrev pub start_state : Abi → Linked → List (List ℕ) → List ℕ → ℕ → State
start_state abi link words input n =
    record { memory = memory_of (map entity_held link) (words_held abi words); input = input; at_end = false; out = []; left = n; next = 0; live = 0; heap = 0 }

abbrev pub int_kind : Option Kind
int_kind = Some (OfScalar (OfKind int))

abbrev pub int_argument : ℕ → Argument
int_argument n = record { kind = int_kind; datum = Single (Int (pos n)) }

abbrev pub words_argument : Argument
words_argument = record { kind = Some (OfScalar OfPointer); datum = Single (pointer_to_name (Word 0)) }

-- C11 5.1.2.2.1p1, p2: the arguments that main is called with, none for a function whose type is not that of a main
abbrev pub main_arguments : Start → List (List ℕ) → Option (List Argument)
main_arguments NotMain words = None
main_arguments WithoutWords words = Some []
main_arguments WithWords words = Some (int_argument (length words) ∷ words_argument ∷ [])

-- the call of main, from outside the program
abbrev pub main_call : Abi → ℕ → List Argument → Call
main_call abi entity arguments = record { abi = abi; callee = pointer_to_name (Entity (record { 0 = entity })); result = int_kind; arguments = arguments }

-- C11 5.1.2.2.3p1: the value that main returns is the status; without a number the run is undefined (own)
abbrev pub status_of : Datum → List ℕ → Outcome
status_of (Single (Int v)) out = Exit (byte_of v) out
status_of (Single (Ptr p)) out = WentUndefined out
status_of (Single Unknown) out = WentUndefined out
status_of (Single (Part p k)) out = WentUndefined out
status_of (Bytes bytes) out = WentUndefined out

abbrev pub outcome_of : Result Datum → Outcome
outcome_of (Goes d s) = status_of d s.out
outcome_of (Exits status s) = Exit status s.out
outcome_of (Running s) = StillRunning s.out
outcome_of (Undefined s) = WentUndefined s.out

abbrev pub code_in : Option Meaning → Option Function
code_in (Some (Code f)) = Some f
code_in _ = None

-- the function main, with the arguments that it is called with
abbrev pub main_in : Linked → ℕ → List (List ℕ) → Option (Function × List Argument)
main_in link entity words = slice_get link entity >>= code_in >>= λ f. main_arguments f.start words >>= λ arguments. Some (f, arguments)

-- what a linked program does under that data model with those words, that input and at most n units; none without a main
abbrev pub result_with : Abi → Linked → ℕ → List (List ℕ) → List ℕ → ℕ → Function × List Argument → Result Datum
result_with abi link entity words input n (f, arguments) = calls link (main_call abi entity arguments) (start_state abi link words input n)

abbrev pub result_linked : Abi → Linked → ℕ → List (List ℕ) → List ℕ → ℕ → Option (Result Datum)
result_linked abi link entity words input n = option_map (result_with abi link entity words input n) (main_in link entity words)

-- without a main a run is undefined, with no output (own)
abbrev pub outcome_in : Option (Result Datum) → Outcome
outcome_in None = WentUndefined []
outcome_in (Some r) = outcome_of r

abbrev pub run_linked : Abi → Linked → ℕ → List (List ℕ) → List ℕ → ℕ → Outcome
run_linked abi link entity words input n = outcome_in (result_linked abi link entity words input n)

-- units of any languages, linked and run in a mode: argv and the call of main have the mode's data model, and it says whether tentative definitions of several units are common (own)
abbrev pub run : List (List Linkable) → Mode → List (List ℕ) → List ℕ → ℕ → Outcome
run units mode words input n = run_linked mode.abi (linked mode.common units) (main_entity units) words input n

-- the state in which that run ends; none without a main
abbrev pub end_of : List (List Linkable) → Mode → List (List ℕ) → List ℕ → ℕ → Option State
end_of units mode words input n = option_map last (result_linked mode.abi (linked mode.common units) (main_entity units) words input n)

-- the units that the run has spent
abbrev pub spent_until : ℕ → Option State → ℕ
spent_until n None = 0
spent_until n (Some s) = n - s.left

abbrev pub units_spent : List (List Linkable) → Mode → List (List ℕ) → List ℕ → ℕ → ℕ
units_spent units mode words input n = spent_until n (end_of units mode words input n)

-- whether a call of getchar in the run has found no input left
abbrev pub finds_end : List (List Linkable) → Mode → List (List ℕ) → List ℕ → ℕ → Bool
finds_end units mode words input n = elim (end_of units mode words input n) [ None ↦ false | Some s ↦ s.at_end ]
