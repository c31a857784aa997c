-- Device: activations and results that are kept leave the objects of malloc.
use Rattle.std.proofs.Common.{◌≡◌, ℕ, zero, suc, false, List, [], ◌∷◌, Option, Some, None, unwrap_or, refl, sym, ap, ◌∙◌, subst, arith}
use Rattle.cil_base.specs.declared.kinds.Abi.{Abi}
use Rattle.byte_mem.specs.declared.pointers.ObjName.TheVariants.{Heap}
use Rattle.byte_mem.specs.declared.values.Byte.TheVariants.{Unknown as Blank}
use Rattle.byte_mem.specs.declared.values.Value.{Value}
use Rattle.byte_mem.specs.Steps.{◌>>=◌}
use Rattle.byte_mem.specs.Memory.{Memory, with_held, make, end_object, live_size}
use Rattle.host_calls.specs.Counted.{heap_total, IsCounted}
use Rattle.execution.specs.Data as passed
use Rattle.execution.specs.Data.{Datum, local_name, argument_held, with_arguments, with_objects, without_objects, store_datum}
use Rattle.cil_streams.specs.Held.{StreamsState, host_part}
use Rattle.cil_code.specs.Calling.{kind_from}
use Rattle.cil_frames.specs.declared.calling.Destination.{Destination}
use Rattle.cil_frames.specs.Entering.{begun_in}
use Rattle.cil_frames.specs.Evaluating.{kept_in}
use Rattle.cil_frames.specs.Keeping.{SameHeap}
use Rattle.cil_frames.proofs.Keeping.{same_heap, KeepsHeap, datum_keeps}

arguments_heap : (abi : Abi) (act i : ℕ) (xs : List passed.Argument) (m : Memory) → SameHeap m (with_arguments abi act i xs m)
arguments_heap abi act i [] m = λ j. refl
arguments_heap abi act i (x ∷ xs) m = arguments_heap abi act (suc i) xs (with_held m (local_name act i) (Some (argument_held abi x)))

objects_heap : (act : ℕ) (xs : List passed.Automatic) (m : Memory) → SameHeap m (with_objects act xs m)
objects_heap act [] m = λ j. refl
objects_heap act (x ∷ xs) m = objects_heap act xs (make m (local_name act x.number) x.size Blank false)

pub without_heap : (act : ℕ) (ns : List ℕ) (m : Memory) → SameHeap m (without_objects act ns m)
without_heap act [] m = λ j. refl
without_heap act (n ∷ ns) m = without_heap act ns (end_object m (local_name act n))

pub begun_heap : (abi : Abi) (act : ℕ) (xs : List passed.Argument) (ys : List passed.Automatic) (m : Memory) → SameHeap m (begun_in abi act xs ys m)
begun_heap abi act xs ys m = same_heap m (with_arguments abi act 0 xs m) (begun_in abi act xs ys m) (arguments_heap abi act 0 xs m) (objects_heap act ys (with_arguments abi act 0 xs m))

pub kept_heap : (abi : Abi) (to : Option Destination) (d : Datum) (m n : Memory) → kept_in abi to d m ≡ Some n → SameHeap m n
kept_heap abi to d m n e = subst (KeepsHeap m) e (by to)
  where
    at : (place : Value) (k : Option passed.Kind) → KeepsHeap m (k >>= λ k. store_datum abi m k place d)
    at place None = tt
    at place (Some k) = datum_keeps abi m k place d

    by : (to : Option Destination) → KeepsHeap m (kept_in abi to d m)
    by None = λ i. refl
    by (Some to) = at to.place (kind_from to.kind)

total_same : (m n : Memory) → SameHeap m n → (h : ℕ) → heap_total n h ≡ heap_total m h
total_same m n same zero = refl
total_same m n same (suc h) =
    let rest : heap_total n h ≡ heap_total m h = total_same m n same h in
    let last : unwrap_or (live_size n (Heap h)) 0 ≡ unwrap_or (live_size m (Heap h)) 0 = ap (λ o. unwrap_or o 0) (same h) in
    omega arith

-- what the host keeps is still right
pub still_counted : (m n : Memory) (held held' : StreamsState) → SameHeap m n → held' ≡ held → IsCounted (host_part m held) → IsCounted (host_part n held')
still_counted m n held held' same e h = subst (λ (x : StreamsState). IsCounted (host_part n x)) (sym e) (record {
  live = h.live ∙ sym (total_same m n same held.heap);
  fresh = λ i low. same i ∙ h.fresh i low;
})
