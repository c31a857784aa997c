-- Device: the memory of a program's arguments, as it is filled.
use Rattle.std.specs.Prelude.{◌≡◌, ℕ, List, Option, Some, take}
use Rattle.byte_mem.specs.Object.{Held}
use Rattle.byte_mem.specs.Memory.{Memory}
use Rattle.cil_base.specs.declared.kinds.Abi.{Abi}
use Rattle.execution.specs.Runs.{memory_of, words_held, word_pointers, writable}

-- the object argv
abbrev pub argv_held : Abi → List (List ℕ) → Option Held
argv_held abi words = Some (writable (word_pointers abi 0 words))

-- the entities are these, and the first arguments are there
abbrev pub HasArguments : Memory → List (Option Held) → Abi → List (List ℕ) → ℕ → Type 0
HasArguments m entities abi words count = m ≡ memory_of entities (take count (words_held abi words))
