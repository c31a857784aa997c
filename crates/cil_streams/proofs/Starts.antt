-- What is counted where a run starts.
use Rattle.std.proofs.Common.{◌≡◌, ℕ, None, refl}
use Rattle.byte_mem.specs.declared.pointers.ObjName.TheVariants.{Heap}
use Rattle.byte_mem.specs.Memory.{Memory, live_size, no_memory}
use Rattle.host_calls.specs.Counted.{IsCounted}
use Rattle.cil_streams.specs.Held.{StreamsState, fresh, host_part}

-- no object of malloc is live
pub counted_fresh : (m : Memory) (held : StreamsState) → ((i : ℕ) → live_size m (Heap i) ≡ None) → held ≡ fresh → IsCounted (host_part m held)
counted_fresh m held none start = rw start (record { live = refl; fresh = λ i above. none i })

pub counted_empty : (m : Memory) (held : StreamsState) → m ≡ no_memory → held ≡ fresh → IsCounted (host_part m held)
counted_empty m held empty start = rw empty (counted_fresh no_memory held (λ i. refl) start)
