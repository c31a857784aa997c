-- Device: laws of the bytes of the live objects of malloc.
use Rattle.std.proofs.Common.{◌≡◌, ◌≢◌, ℕ, zero, suc, ◌+◌, ◌-◌, ◌<◌, ◌≤◌, ◌⊎◌, inl, inr, Bool, true, false, cond, ◌&&◌, List, length, replicate, Option, Some, None, Result, Ok, Err, unwrap_or, ℤ, pos, negsuc, refl, sym, ap, ◌∙◌, subst, arith, add-one}
use Rattle.std.specs.Prelude.{nat_eq, nat_lt, nat_le, unsigned_abs}
use Rattle.std.specs.Option.{option_map}
use Rattle.std.specs.Ordering.{int_eq}
use Rattle.std.proofs.lemmas.Bool.{cases_lt}
use Rattle.std.proofs.lemmas.Bool.Decides.{nat_tests, Decides-int_eq}
use Rattle.std.proofs.lemmas.Option.{none-some}
use Rattle.std.proofs.lemmas.List.{length-replicate}
use Rattle.byte_mem.specs.declared.pointers.ObjName.{ObjName}
use Rattle.byte_mem.specs.declared.pointers.ObjName.TheVariants.{Entity, Local, Literal, Heap, Argument}
use Rattle.byte_mem.specs.declared.pointers.Pointer.{Pointer}
use Rattle.byte_mem.specs.declared.values.Byte.TheVariants.{Known, Unknown}
use Rattle.cil_base.specs.declared.kinds.Abi.{Abi}
use Rattle.byte_mem.specs.declared.values.Scalar.{Scalar}
use Rattle.byte_mem.specs.declared.values.Value.{Value}
use Rattle.byte_mem.specs.declared.values.Value.TheVariants.{Int, Ptr, Unknown as NoValue, Part}
use Rattle.byte_mem.specs.Steps.{◌>>=◌, only_if}
use Rattle.byte_mem.specs.Name.{same_name}
use Rattle.byte_mem.specs.Object.{Held, inside, with_part, fill_part, write_at, new_held}
use Rattle.byte_mem.specs.Memory.{Memory, no_memory, with_held, make, end_object, live_size, fill}
use Rattle.byte_mem.specs.declared.stores.Store.{Store}
use Rattle.byte_mem.specs.Store.{memory, Put}
use Rattle.byte_mem.proofs.NameLemmas.{name_same}
use Rattle.byte_mem.proofs.AgainLemmas.{changed_some, write_some, inside_room, length_with, held_here}
use Rattle.host_calls.specs.declared.calls.HostResult.{HostResult}
use Rattle.host_calls.specs.declared.calls.HostResult.TheVariants.{Value as Gives, Exit as Ends, Undefined, NeedsInput, Memory as WantOfMemory}
use Rattle.host_calls.specs.declared.calls.Io.{Io}
use Rattle.host_calls.specs.declared.names.HostName.{HostName}
use Rattle.host_calls.specs.declared.names.HostName.TheVariants.{Getchar, Putchar, Exit, Abort, Malloc, Free, Memset}
use Rattle.host_calls.specs.Host.{HostState, Outcome, heap_limit, undefined, with_number, byte_of, getchar, putchar, malloc, free_object, free_named, free, filled, memset, called, host, values_of, value_arg, number_arg, with_value, same_result, result_of, have_kinds, parameters_of}
use Rattle.host_calls.specs.Counted.{heap_total, IsCounted, state, Answers}

pub answers_along : (r : HostResult) (old new : HostState) (o u : Outcome) → o ≡ u → Answers r old new o → Answers r old new u
answers_along r old new o u e h = subst (λ (x : Outcome). Answers r old new x) e h

-- sums

size_below : (m : Memory) (h i size : ℕ) → i < h → live_size m (Heap i) ≡ Some size → size ≤ heap_total m h
size_below m zero i size l e = absurd (omega arith)
size_below m (suc h) i size l e = by (cases_lt i h) (size_below m h i size)
  where
    by : (i < h) ⊎ (h ≤ i) → (i < h → live_size m (Heap i) ≡ Some size → size ≤ heap_total m h) → size ≤ heap_total m h + unwrap_or (live_size m (Heap h)) 0
    by (inl p) rest = let low : size ≤ heap_total m h = rest p e in omega arith
    by (inr p) rest =
        let same : i ≡ h = omega arith in
        let last : unwrap_or (live_size m (Heap h)) 0 ≡ size = ap (λ o. unwrap_or o 0) (ap (λ j. live_size m (Heap j)) (sym same) ∙ e) in
        omega arith

pub live_below : (s : HostState) (i size : ℕ) → IsCounted s → live_size s.memory (Heap i) ≡ Some size → i < s.heap
live_below s i size h e = by (cases_lt i s.heap)
  where
    by : (i < s.heap) ⊎ (s.heap ≤ i) → i < s.heap
    by (inl p) = p
    by (inr p) = absurd (none-some size (sym (h.fresh i p) ∙ e))

pub size_counted : (s : HostState) (i size : ℕ) → IsCounted s → Some size ≡ live_size s.memory (Heap i) → size ≤ s.live
size_counted s i size h e =
    let low : size ≤ heap_total s.memory s.heap = size_below s.memory s.heap i size (live_below s i size h (sym e)) (sym e) in
    let all : s.live ≡ heap_total s.memory s.heap = h.live in
    omega arith

total_same : (m k : Memory) (h : ℕ) → ((i : ℕ) → i < h → live_size k (Heap i) ≡ live_size m (Heap i)) → heap_total k h ≡ heap_total m h
total_same m k zero e = refl
total_same m k (suc h) e =
    let rest : heap_total k h ≡ heap_total m h = total_same m k h (λ i l. e i (omega arith)) in
    let last : unwrap_or (live_size k (Heap h)) 0 ≡ unwrap_or (live_size m (Heap h)) 0 = ap (λ o. unwrap_or o 0) (e h (omega arith)) in
    omega arith

size_other : (m : Memory) (i j : ℕ) (o : Option Held) → i ≢ j → live_size (with_held m (Heap i) o) (Heap j) ≡ live_size m (Heap j)
size_other m i j o ne = by (nat_eq i j) refl
  where
    by : (t : Bool) → nat_eq i j ≡ t → option_map (λ h. length h.bytes) (cond t o (m (Heap j))) ≡ option_map (λ h. length h.bytes) (m (Heap j))
    by true e = absurd (ne (grind (arith, nat_tests)))
    by false e = refl

size_here : (m : Memory) (i : ℕ) (o : Option Held) → live_size (with_held m (Heap i) o) (Heap i) ≡ option_map (λ h. length h.bytes) o
size_here m i o = ap (option_map (λ h. length h.bytes)) (held_here m (Heap i) o)

-- what is no object of malloc does not count
pub counted_apart : (s : HostState) (n : ObjName) (o : Option Held) → ((i : ℕ) → same_name n (Heap i) ≡ false) → IsCounted s → IsCounted (record s { memory = with_held s.memory n o })
counted_apart s n o apart h = record { live = h.live ∙ sym (total_same s.memory (with_held s.memory n o) s.heap (λ i l. same i)); fresh = λ i l. same i ∙ h.fresh i l }
  where
    same : (i : ℕ) → live_size (with_held s.memory n o) (Heap i) ≡ live_size s.memory (Heap i)
    same i = ap (λ t. option_map (λ x. length x.bytes) (cond t o (s.memory (Heap i)))) (apart i)

pub counted_put : {E : Type 0} (r : Result (Unit {0}) E) (old new : Store) (io : Io) (n : ObjName) (o : Option Held) → ((i : ℕ) → same_name n (Heap i) ≡ false) → Put r old new (with_held (memory old) n o) → IsCounted (state (memory old) io) → IsCounted (state (memory new) io)
counted_put (Ok u) old new io n o apart p h = subst (λ (m : Memory). IsCounted (state m io)) (sym p.0) (counted_apart (state (memory old) io) n o apart h)
counted_put (Err e) old new io n o apart p h = subst (λ (m : Memory). IsCounted (state m io)) (sym p.0) h

size_made : (m : Memory) (i n : ℕ) → live_size (make m (Heap i) n Unknown false) (Heap i) ≡ Some n
size_made m i n = size_here m i (Some (new_held n Unknown false)) ∙ ap Some (length-replicate n Unknown)

made_total : (m : Memory) (h n : ℕ) → heap_total (make m (Heap h) n Unknown false) (suc h) ≡ heap_total m h + n
made_total m h n =
    let rest : heap_total (make m (Heap h) n Unknown false) h ≡ heap_total m h = total_same m (make m (Heap h) n Unknown false) h (λ i l. size_other m h i (Some (new_held n Unknown false)) (omega arith)) in
    let last : unwrap_or (live_size (make m (Heap h) n Unknown false) (Heap h)) 0 ≡ n = ap (λ o. unwrap_or o 0) (size_made m h n) in
    omega arith

ended_total : (m : Memory) (h i size : ℕ) → i < h → live_size m (Heap i) ≡ Some size → heap_total (end_object m (Heap i)) h + size ≡ heap_total m h
ended_total m zero i size l e = absurd (omega arith)
ended_total m (suc h) i size l e = by (cases_lt i h) (ended_total m h i size)
  where
    by : (i < h) ⊎ (h ≤ i) → (i < h → live_size m (Heap i) ≡ Some size → heap_total (end_object m (Heap i)) h + size ≡ heap_total m h)
        → heap_total (end_object m (Heap i)) h + unwrap_or (live_size (end_object m (Heap i)) (Heap h)) 0 + size ≡ heap_total m h + unwrap_or (live_size m (Heap h)) 0
    by (inl p) rest =
        let low : heap_total (end_object m (Heap i)) h + size ≡ heap_total m h = rest p e in
        let last : unwrap_or (live_size (end_object m (Heap i)) (Heap h)) 0 ≡ unwrap_or (live_size m (Heap h)) 0 = ap (λ o. unwrap_or o 0) (size_other m i h None (omega arith)) in
        omega arith
    by (inr p) rest =
        let same : i ≡ h = omega arith in
        let before : unwrap_or (live_size m (Heap h)) 0 ≡ size = ap (λ o. unwrap_or o 0) (ap (λ j. live_size m (Heap j)) (sym same) ∙ e) in
        let after : unwrap_or (live_size (end_object m (Heap i)) (Heap h)) 0 ≡ 0 = ap (λ j. unwrap_or (live_size (end_object m (Heap i)) (Heap j)) 0) (sym same) ∙ ap (λ o. unwrap_or o 0) (size_here m i None) in
        let front : heap_total (end_object m (Heap i)) h ≡ heap_total m h = total_same m (end_object m (Heap i)) h (λ j q. size_other m i j None (omega arith)) in
        omega arith

filled_size : (m k : Memory) (p : Pointer) (n b : ℕ) (x : ObjName) → fill m p n b ≡ Some k → live_size k x ≡ live_size m x
filled_size m k p n b x e =
    let found = changed_some m p.name (λ h. fill_part h p.offset n b) k e in
    let wrote = write_some found.0 (inside p.offset (length (replicate n (Known b))) (length found.0.bytes)) (replicate n (Known b)) found.1 found.3 in
    at found.0 found.1 found.2 found.4 wrote.0 (inside_room p.offset (length (replicate n (Known b))) (length found.0.bytes) wrote.0 wrote.1) wrote.2
  where
    at : (h j : Held) → m p.name ≡ Some h → with_held m p.name (Some j) ≡ k → (i : ℕ) → i + length (replicate n (Known b)) ≤ length h.bytes → record { function = h.function; read_only = h.read_only; bytes = with_part i (replicate n (Known b)) h.bytes } ≡ j
        → live_size k x ≡ live_size m x
    at h j here there i room same = ap (λ (y : Memory). live_size y x) (sym there) ∙ by (same_name p.name x) refl
      where
        long : length j.bytes ≡ length h.bytes
        long = ap (λ (y : Held). length y.bytes) (sym same) ∙ length_with i (replicate n (Known b)) h.bytes room

        by : (t : Bool) → same_name p.name x ≡ t → option_map (λ h. length h.bytes) (cond t (Some j) (m x)) ≡ option_map (λ h. length h.bytes) (m x)
        by true d = ap Some long ∙ sym (ap (option_map (λ h. length h.bytes)) (ap m (sym (name_same p.name x d)) ∙ here))
        by false d = refl

-- no object has room for more bytes than it has
part_too_long : (h : Held) (offset : ℤ) (n b : ℕ) → length h.bytes < n → fill_part h offset n b ≡ None
part_too_long h (negsuc i) n b l = refl
part_too_long h (pos i) n b l =
    let long : length (replicate n (Known b)) ≡ n = length-replicate n (Known b) in
    let past : nat_le (i + length (replicate n (Known b))) (length h.bytes) ≡ false = above (i + length (replicate n (Known b))) (length h.bytes) (omega arith) in
    ap (λ t. write_at h (only_if t i) (replicate n (Known b))) past
  where
    above : (a c : ℕ) → c < a → nat_le a c ≡ false
    above a c q = grind (arith, nat_tests)

pub fill_too_long : (m : Memory) (p : Pointer) (size n b : ℕ) → Some size ≡ live_size m p.name → size < n → fill m p n b ≡ None
fill_too_long m p size n b e l = by (m p.name) refl
  where
    by : (o : Option Held) → m p.name ≡ o → ((o >>= λ h. fill_part h p.offset n b) >>= λ h. Some (with_held m p.name (Some h))) ≡ None
    by None d = refl
    by (Some h) d =
        let same : Some size ≡ Some (length h.bytes) = e ∙ ap (option_map (λ h. length h.bytes)) d in
        let long : size ≡ length h.bytes = cc in
        ap (λ (o : Option Held). o >>= λ k. Some (with_held m p.name (Some k))) (part_too_long h p.offset n b (omega arith))

pub fill_nowhere : (m : Memory) (p : Pointer) (n b : ℕ) → None ≡ live_size m p.name → fill m p n b ≡ None
fill_nowhere m p n b e = by (m p.name) refl
  where
    by : (o : Option Held) → m p.name ≡ o → ((o >>= λ h. fill_part h p.offset n b) >>= λ h. Some (with_held m p.name (Some h))) ≡ None
    by None d = refl
    by (Some h) d = absurd (none-some (length h.bytes) (e ∙ ap (option_map (λ h. length h.bytes)) d))

-- the rows, where the code comes to them

pub free_is : (s : HostState) (v : Value) (p : Pointer) → v ≡ Ptr p → p.offset ≡ pos 0 → free s v ≡ free_named s p.name
free_is s v p e d = ap (free s) e ∙ ap (λ t. cond t (free_named s p.name) (undefined s)) ((Decides-int_eq p.offset (pos 0)).1 d)

pub malloc_is : (s : HostState) (n : ℕ) (m : Memory) (live : ℕ) → s.live + n ≤ heap_limit → m ≡ make s.memory (Heap s.heap) n Unknown false → live ≡ s.live + n
    → malloc s n ≡ (Gives (Ptr (record { name = Heap s.heap; offset = pos 0 })), record { memory = m; ready = s.ready; out = s.out; live = live; heap = s.heap + 1 })
malloc_is s n m live l e d =
    let past : nat_lt heap_limit (s.live + n) ≡ false = grind (arith, nat_tests) in
    ap (λ t. cond t (Gives (Int (pos 0)), s) (Gives (Ptr (record { name = Heap s.heap; offset = pos 0 })), record s { memory = make s.memory (Heap s.heap) n Unknown false; live = s.live + n; heap = s.heap + 1 })) past
    ∙ ap (λ (k : Memory). let o : Outcome = (Gives (Ptr (record { name = Heap s.heap; offset = pos 0 })), record s { memory = k; live = s.live + n; heap = s.heap + 1 }) in o) (sym e)
    ∙ ap (λ (n : ℕ). let o : Outcome = (Gives (Ptr (record { name = Heap s.heap; offset = pos 0 })), record s { memory = m; live = n; heap = s.heap + 1 }) in o) (sym d)

pub freed_is : (s : HostState) (i size : ℕ) (m : Memory) (live : ℕ) → Some size ≡ live_size s.memory (Heap i) → m ≡ end_object s.memory (Heap i) → live ≡ s.live - size
    → free_object s i (live_size s.memory (Heap i)) ≡ (Gives NoValue, record { memory = m; ready = s.ready; out = s.out; live = live; heap = s.heap })
freed_is s i size m live e d l =
    ap (free_object s i) (sym e)
    ∙ ap (λ (k : Memory). let o : Outcome = (Gives NoValue, record s { memory = k; live = s.live - size }) in o) (sym d)
    ∙ ap (λ (n : ℕ). let o : Outcome = (Gives NoValue, record s { memory = m; live = n }) in o) (sym l)

-- a call leaves the sum right

counted_number : (s : HostState) (o : Option ℤ) (next : ℤ → Outcome) → IsCounted s → ((n : ℤ) → IsCounted (next n).1) → IsCounted (with_number s o next).1
counted_number s None next h k = h
counted_number s (Some n) next h k = k n

counted_value : (s : HostState) (o : Option Value) (next : Value → Outcome) → IsCounted s → ((v : Value) → IsCounted (next v).1) → IsCounted (with_value s o next).1
counted_value s None next h k = h
counted_value s (Some v) next h k = k v

counted_getchar : (s : HostState) (o : Option (Option ℕ)) → IsCounted s → IsCounted (getchar s o).1
counted_getchar s None h = h
counted_getchar s (Some None) h = h
counted_getchar s (Some (Some b)) h = record { live = h.live; fresh = h.fresh }

counted_putchar : (s : HostState) (b : ℕ) → IsCounted s → IsCounted (putchar s b).1
counted_putchar s b h = record { live = h.live; fresh = h.fresh }

counted_malloc : (s : HostState) (n : ℕ) → IsCounted s → IsCounted (malloc s n).1
counted_malloc s n h = by (nat_lt heap_limit (s.live + n))
  where
    live : s.live + n ≡ heap_total (make s.memory (Heap s.heap) n Unknown false) (s.heap + 1)
    live =
        let all : s.live ≡ heap_total s.memory s.heap = h.live in
        let sum : heap_total (make s.memory (Heap s.heap) n Unknown false) (suc s.heap) ≡ heap_total s.memory s.heap + n = made_total s.memory s.heap n in
        ap (λ t. t + n) all ∙ sym sum ∙ ap (heap_total (make s.memory (Heap s.heap) n Unknown false)) (sym (add-one s.heap))

    fresh : (i : ℕ) → s.heap + 1 ≤ i → live_size (make s.memory (Heap s.heap) n Unknown false) (Heap i) ≡ None
    fresh i l = size_other s.memory s.heap i (Some (new_held n Unknown false)) (omega arith) ∙ h.fresh i (omega arith)

    by : (t : Bool) → IsCounted (let o : Outcome = cond t (Gives (Int (pos 0)), s) (Gives (Ptr (record { name = Heap s.heap; offset = pos 0 })), record s { memory = make s.memory (Heap s.heap) n Unknown false; live = s.live + n; heap = s.heap + 1 }) in o.1)
    by true = h
    by false = record { live = live; fresh = fresh }

counted_free_object : (s : HostState) (i : ℕ) (o : Option ℕ) → live_size s.memory (Heap i) ≡ o → IsCounted s → IsCounted (free_object s i o).1
counted_free_object s i None e h = h
counted_free_object s i (Some size) e h = record { live = live; fresh = fresh }
  where
    live : s.live - size ≡ heap_total (end_object s.memory (Heap i)) s.heap
    live =
        let all : s.live ≡ heap_total s.memory s.heap = h.live in
        let sum : heap_total (end_object s.memory (Heap i)) s.heap + size ≡ heap_total s.memory s.heap = ended_total s.memory s.heap i size (live_below s i size h e) e in
        omega arith

    fresh : (j : ℕ) → s.heap ≤ j → live_size (end_object s.memory (Heap i)) (Heap j) ≡ None
    fresh j l =
        let low : i < s.heap = live_below s i size h e in
        size_other s.memory i j None (omega arith) ∙ h.fresh j l

counted_free_named : (s : HostState) (n : ObjName) → IsCounted s → IsCounted (free_named s n).1
counted_free_named s (Heap i) h = counted_free_object s i (live_size s.memory (Heap i)) refl h
counted_free_named s (Entity e) h = h
counted_free_named s (Local a l) h = h
counted_free_named s (Literal i) h = h
counted_free_named s (Argument i) h = h

counted_choice : (t : Bool) (o u : Outcome) → IsCounted o.1 → IsCounted u.1 → IsCounted (let x : Outcome = cond t o u in x.1)
counted_choice true o u h k = h
counted_choice false o u h k = k

counted_free : (s : HostState) (v : Value) → IsCounted s → IsCounted (free s v).1
counted_free s (Int n) h = counted_choice (int_eq n (pos 0)) (Gives NoValue, s) (undefined s) h h
counted_free s (Ptr p) h = counted_choice (int_eq p.offset (pos 0)) (free_named s p.name) (undefined s) (counted_free_named s p.name h) h
counted_free s NoValue h = h
counted_free s (Part p k) h = h

counted_filled : (s : HostState) (p : Pointer) (n b : ℕ) (o : Option Memory) → fill s.memory p n b ≡ o → IsCounted s → IsCounted (filled s p o).1
counted_filled s p n b None e h = h
counted_filled s p n b (Some m) e h = record {
  live = h.live ∙ sym (total_same s.memory m s.heap (λ i l. filled_size s.memory m p n b (Heap i) e));
  fresh = λ i l. filled_size s.memory m p n b (Heap i) e ∙ h.fresh i l;
}

counted_memset : (s : HostState) (v : Value) (b n : ℕ) → IsCounted s → IsCounted (memset s v b n).1
counted_memset s (Ptr p) b n h = counted_filled s p n b (fill s.memory p n b) refl h
counted_memset s (Int m) b n h = h
counted_memset s NoValue b n h = h
counted_memset s (Part p k) b n h = h

called_counted : (name : HostName) (values : List Value) (s : HostState) → IsCounted s → IsCounted (called name values s).1
called_counted Getchar values s h = counted_getchar s s.ready h
called_counted Putchar values s h = counted_number s (number_arg values 0) (λ n. putchar s (byte_of n)) h (λ n. counted_putchar s (byte_of n) h)
called_counted Exit values s h = counted_number s (number_arg values 0) (λ n. (Ends (byte_of n), s)) h (λ n. h)
called_counted Abort values s h = h
called_counted Malloc values s h = counted_number s (number_arg values 0) (λ n. malloc s (unsigned_abs n)) h (λ n. counted_malloc s (unsigned_abs n) h)
called_counted Free values s h = counted_value s (value_arg values 0) (λ v. free s v) h (λ v. counted_free s v h)
called_counted Memset values s h =
    counted_value s (value_arg values 0) (λ v. with_number s (number_arg values 1) (λ c. with_number s (number_arg values 2) (λ n. memset s v (byte_of c) (unsigned_abs n)))) h
    (λ v. counted_number s (number_arg values 1) (λ c. with_number s (number_arg values 2) (λ n. memset s v (byte_of c) (unsigned_abs n))) h
    (λ c. counted_number s (number_arg values 2) (λ n. memset s v (byte_of c) (unsigned_abs n)) h (λ n. counted_memset s v (byte_of c) (unsigned_abs n) h)))

pub answers_counted : (r : HostResult) (old new : HostState) (o : Outcome) → Answers r old new o → IsCounted old → IsCounted o.1 → IsCounted new
answers_counted (Gives v) old new o h a b = subst (λ (x : Outcome). IsCounted x.1) h b
answers_counted (Ends status) old new o h a b = subst (λ (x : Outcome). IsCounted x.1) h b
answers_counted Undefined old new o h a b = subst (λ (x : Outcome). IsCounted x.1) h b
answers_counted NeedsInput old new o h a b = subst (λ (x : Outcome). IsCounted x.1) h b
answers_counted WantOfMemory old new o h a b = subst IsCounted (sym h) a

pub call_counted : (r : HostResult) (old new : HostState) (name : HostName) (values : List Value) → IsCounted old → Answers r old new (called name values old) → IsCounted new
call_counted r old new name values h a = answers_counted r old new (called name values old) a h (called_counted name values old h)

pub host_fits : (abi : Abi) (name : HostName) (wanted : Option Scalar) (args : List (Scalar × Value)) (s : HostState) → same_result (result_of abi name) wanted ≡ true → have_kinds (parameters_of abi name) args ≡ true
    → called name (values_of args) s ≡ host abi name wanted args s
host_fits abi name wanted args s e d = sym (ap (λ t. cond (t && have_kinds (parameters_of abi name) args) (called name (values_of args) s) (undefined s)) e ∙ ap (λ t. cond t (called name (values_of args) s) (undefined s)) d)

pub memset_args : (s : HostState) (values : List Value) (v : Value) (c n : ℤ) (b : ℕ) → Some v ≡ value_arg values 0 → Some c ≡ number_arg values 1 → Some n ≡ number_arg values 2 → b ≡ byte_of c
    → memset s v b (unsigned_abs n) ≡ called Memset values s
memset_args s values v c n b e d f g =
    ap (λ (k : ℕ). memset s v k (unsigned_abs n)) g
    ∙ ap (λ o. with_number s o (λ n. memset s v (byte_of c) (unsigned_abs n))) f
    ∙ ap (λ o. with_number s o (λ c. with_number s (number_arg values 2) (λ n. memset s v (byte_of c) (unsigned_abs n)))) d
    ∙ ap (λ o. with_value s o (λ v. with_number s (number_arg values 1) (λ c. with_number s (number_arg values 2) (λ n. memset s v (byte_of c) (unsigned_abs n))))) e

-- the host may begin where there is no object
pub counted_start : (m : Memory) (io : Io) → m ≡ no_memory → (io.live ≡ 0) × (io.heap ≡ 0) → IsCounted (state m io)
counted_start m io e z = record {
  live = z.0 ∙ sym (ap (heap_total m) z.1);
  fresh = λ i l. ap (λ (k : Memory). live_size k (Heap i)) e;
}
