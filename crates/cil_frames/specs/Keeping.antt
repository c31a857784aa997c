-- Device: what the run of a body leaves of the objects of malloc: each as it was, and as large.
use Rattle.std.specs.Prelude.{◌≡◌, ℕ}
use Rattle.byte_mem.specs.declared.pointers.ObjName.TheVariants.{Heap}
use Rattle.byte_mem.specs.Memory.{Memory, live_size}

-- only calls of the host make and end objects of malloc
abbrev pub SameHeap : Memory → Memory → Type 0
SameHeap m n = (i : ℕ) → live_size n (Heap i) ≡ live_size m (Heap i)
