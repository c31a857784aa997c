-- Device: the arguments and objects of an activation, as the code has them.
use Rattle.std.specs.Prelude.{◌≡◌, ℕ, List, length, drop, map}
use Rattle.byte_mem.specs.declared.stores.Store.{Store}
use Rattle.byte_mem.specs.Memory.{Memory}
use Rattle.byte_mem.specs.Store.{memory}
use Rattle.cil_base.specs.declared.kinds.Abi.{Abi}
use Rattle.execution.specs.Data as passed
use Rattle.execution.specs.Data.{with_arguments, with_objects, without_objects}
use Rattle.execution.specs.Calls.{numbers, number_of}
use Rattle.cil_code.specs.Calling.{kind_from}
use Rattle.cil_code.specs.Taking.{datum_of}
use Rattle.cil_frames.specs.declared.activations.Argument.{Argument}
use Rattle.cil_frames.specs.declared.activations.Automatic.{Automatic}

abbrev pub argument_of : Argument → passed.Argument
argument_of a = record { kind = kind_from a.kind; datum = datum_of a.datum }

abbrev pub arguments_of : List Argument → List passed.Argument
arguments_of arguments = map argument_of arguments

abbrev pub automatic_of : Automatic → passed.Automatic
automatic_of x = record { number = x.number.0; size = x.size }

abbrev pub objects_of : List Automatic → List passed.Automatic
objects_of objects = map automatic_of objects

-- the memory in which an activation runs: its arguments and its objects have begun to live
abbrev pub begun_in : Abi → ℕ → List passed.Argument → List passed.Automatic → Memory → Memory
begun_in abi act arguments objects m = with_objects act objects (with_arguments abi act 0 arguments m)

-- the memory behind an activation: its objects have ended, and then its arguments
abbrev pub ended_in : ℕ → List passed.Argument → List passed.Automatic → Memory → Memory
ended_in act arguments objects m = without_objects act (numbers 0 arguments) (without_objects act (map number_of objects) m)

-- what is still to be done to memory gives the whole
pub record Remaining (old now : Store) (rest whole : Memory) : Type 0 where
  pub same : rest ≡ whole
  pub abi : now.abi ≡ old.abi

-- the arguments from one on are still to begin
abbrev pub ArgumentsRemain : Store → Store → ℕ → List Argument → ℕ → Type 0
ArgumentsRemain old now act xs i = Remaining old now (with_arguments old.abi act i (arguments_of (drop i xs)) (memory now)) (with_arguments old.abi act 0 (arguments_of xs) (memory old))

-- the objects from one on are
abbrev pub ObjectsRemain : Store → Store → ℕ → List Automatic → ℕ → Type 0
ObjectsRemain old now act xs i = Remaining old now (with_objects act (objects_of (drop i xs)) (memory now)) (with_objects act (objects_of xs) (memory old))

-- the objects from one on are still to end
abbrev pub EndsRemain : Store → Store → ℕ → List Automatic → ℕ → Type 0
EndsRemain old now act xs i = Remaining old now (without_objects act (map number_of (objects_of (drop i xs))) (memory now)) (without_objects act (map number_of (objects_of xs)) (memory old))

-- the arguments from one on are
abbrev pub NumbersRemain : Store → Store → ℕ → ℕ → ℕ → Type 0
NumbersRemain old now act n i = (xs : List passed.Argument) → length xs ≡ n → Remaining old now (without_objects act (numbers i (drop i xs)) (memory now)) (without_objects act (numbers 0 xs) (memory old))
