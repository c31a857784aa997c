-- Device: steps and activations leave the objects of malloc.
use Rattle.std.proofs.Common.{◌≡◌, ℕ, ◌+◌, ◌≤◌, Bool, true, false, cond, List, [], length, replicate, Option, Some, None, option_map, refl, sym, ap, ◌∙◌, subst, arith, ℤ, pos}
use Rattle.std.specs.Prelude.{nat_eq, not, ◌%◌}
use Rattle.std.proofs.lemmas.Option.{none-some}
use Rattle.cil_base.specs.declared.kinds.Abi.{Abi}
use Rattle.byte_mem.specs.declared.pointers.ObjName.{ObjName}
use Rattle.byte_mem.specs.declared.pointers.ObjName.TheVariants.{Heap}
use Rattle.byte_mem.specs.declared.pointers.Pointer.{Pointer}
use Rattle.byte_mem.specs.declared.stores.Store.{Store}
use Rattle.byte_mem.specs.declared.values.Byte.{Byte}
use Rattle.byte_mem.specs.declared.values.Byte.TheVariants.{Known}
use Rattle.byte_mem.specs.declared.values.Scalar.{Scalar}
use Rattle.byte_mem.specs.declared.values.Scalar.TheVariants.{Int as OfKind}
use Rattle.byte_mem.specs.declared.values.Value.{Value}
use Rattle.byte_mem.specs.declared.values.Value.TheVariants.{Int}
use Rattle.byte_mem.specs.Steps.{◌>>=◌, only_if}
use Rattle.byte_mem.specs.Name.{same_name}
use Rattle.byte_mem.specs.Operator.{truth, number_in, pointer_in}
use Rattle.byte_mem.specs.Scalar.{scalar_size, bytes_of}
use Rattle.byte_mem.specs.Object.{Held, inside, aligned, write_at, store_held, store_part}
use Rattle.byte_mem.specs.Memory.{Memory, with_held, changed, live_size, store, store_bytes, zero as zero_bytes}
use Rattle.byte_mem.specs.Store.{memory}
use Rattle.byte_mem.proofs.AgainLemmas.{changed_some, write_some, inside_room, length_with}
use Rattle.byte_mem.proofs.BelowLemmas.{length_bytes}
use Rattle.byte_mem.proofs.NameLemmas.{name_same}
use Rattle.execution.specs.States.{State, Result, Goes, Undefined, with_memory, given, last}
use Rattle.execution.specs.Data.{Kind, OfVoid, OfScalar, OfAggregate, Datum, Single, Bytes, store_datum, store_to}
use Rattle.execution.specs.Calls.{Enter}
use Rattle.cil_machine.specs.Terms.{term_value, spot_place}
use Rattle.cil_machine.specs.Instructions.{zeroed, pointer_from}
use Rattle.cil_code.specs.declared.steps.Step.{Step}
use Rattle.cil_code.specs.declared.steps.Step.TheVariants.{Set, Zero, Call, Test, Choose, Forward, Back, Leave, Stuck}
use Rattle.cil_code.specs.declared.taking.Onward.{Onward}
use Rattle.cil_code.specs.declared.taking.Onward.TheVariants as onward
use Rattle.cil_code.specs.Passing.{operand_kind, operand_datum}
use Rattle.cil_code.specs.Doing.{assigned, done}
use Rattle.cil_code.specs.Taking.{is_call, on, Took}
use Rattle.cil_frames.specs.Keeping.{SameHeap}

pub same_heap : (m n k : Memory) → SameHeap m n → SameHeap n k → SameHeap m k
same_heap m n k h g i = g i ∙ h i

-- an access that gives a memory leaves them
abbrev pub KeepsHeap : Memory → Option Memory → Type 0
KeepsHeap m None = Unit {0}
KeepsHeap m (Some n) = SameHeap m n

-- a change that keeps an object's length
changed_keeps : (m : Memory) (n : ObjName) (g : Held → Option Held) → ((h j : Held) → g h ≡ Some j → length j.bytes ≡ length h.bytes) → KeepsHeap m (changed m n g)
changed_keeps m n g long = by (changed m n g) refl
  where
    sized : (h j : Held) (k : Memory) (x : ObjName) → m n ≡ Some h → length j.bytes ≡ length h.bytes → with_held m n (Some j) ≡ k → live_size k x ≡ live_size m x
    sized h j k x here same there = ap (λ (y : Memory). live_size y x) (sym there) ∙ at (same_name n x) refl
      where
        at : (t : Bool) → same_name n x ≡ t → option_map (λ h. length h.bytes) (cond t (Some j) (m x)) ≡ option_map (λ h. length h.bytes) (m x)
        at true d = ap Some same ∙ sym (ap (option_map (λ h. length h.bytes)) (ap m (sym (name_same n x d)) ∙ here))
        at false d = refl

    by : (o : Option Memory) → changed m n g ≡ o → KeepsHeap m o
    by None e = tt
    by (Some k) e = let f = changed_some m n g k e in λ i. sized f.0 f.1 k (Heap i) f.2 (long f.0 f.1 f.3) f.4

written_long : (h j : Held) (place : Option ℕ) (new : List Byte) → ((i : ℕ) → place ≡ Some i → i + length new ≤ length h.bytes) → write_at h place new ≡ Some j → length j.bytes ≡ length h.bytes
written_long h j place new room e =
    let f = write_some h place new j e in
    ap (λ (y : Held). length y.bytes) (sym f.2) ∙ length_with f.0 new h.bytes (room f.0 f.1)

-- a scalar lies in its object
room_by : (o : Option ℕ) (n size i : ℕ) → ((k : ℕ) → o ≡ Some k → k + n ≤ size) → (o >>= λ k. only_if (nat_eq (k % n) 0) k) ≡ Some i → i + n ≤ size
room_by None n size i room e = absurd (none-some i e)
room_by (Some k) n size i room e = by (nat_eq (k % n) 0) e
  where
    by : (t : Bool) → only_if t k ≡ Some i → i + n ≤ size
    by true d = let same : k ≡ i = cc in subst (λ x. x + n ≤ size) same (room k refl)
    by false d = absurd (none-some i d)

aligned_room : (offset : ℤ) (n size i : ℕ) → aligned offset n size ≡ Some i → i + n ≤ size
aligned_room offset n size i e = room_by (inside offset n size) n size i (inside_room offset n size) e

store_keeps : (abi : Abi) (m : Memory) (p : Pointer) (s : Scalar) (v : Value) → KeepsHeap m (store abi m p s v)
store_keeps abi m p s v = changed_keeps m p.name (λ h. store_held abi h p.offset s v) (λ h j e.
    written_long h j (aligned p.offset (scalar_size abi s) (length h.bytes)) (bytes_of abi s v)
    (λ i d. let room : i + scalar_size abi s ≤ length h.bytes = aligned_room p.offset (scalar_size abi s) (length h.bytes) i d in omega (arith, length_bytes abi s v)) e)

bytes_keep : (m : Memory) (p : Pointer) (new : List Byte) → KeepsHeap m (store_bytes m p new)
bytes_keep m p new = changed_keeps m p.name (λ h. store_part h p.offset new) (λ h j e. written_long h j (inside p.offset (length new) (length h.bytes)) new (inside_room p.offset (length new) (length h.bytes)) e)

bind_keeps : {A : Type 0} (m : Memory) (o : Option A) (f : A → Option Memory) → ((a : A) → KeepsHeap m (f a)) → KeepsHeap m (o >>= f)
bind_keeps m None f h = tt
bind_keeps m (Some a) f h = h a

to_keeps : (abi : Abi) (m : Memory) (k : Kind) (p : Pointer) (d : Datum) → KeepsHeap m (store_to abi m k p d)
to_keeps abi m OfVoid p (Single v) = tt
to_keeps abi m OfVoid p (Bytes bytes) = tt
to_keeps abi m (OfScalar s) p (Single v) = store_keeps abi m p s v
to_keeps abi m (OfScalar s) p (Bytes bytes) = tt
to_keeps abi m (OfAggregate size) p (Single v) = tt
to_keeps abi m (OfAggregate size) p (Bytes bytes) = bytes_keep m p bytes

pub datum_keeps : (abi : Abi) (m : Memory) (k : Kind) (place : Value) (d : Datum) → KeepsHeap m (store_datum abi m k place d)
datum_keeps abi m k place d = bind_keeps m (pointer_in place) (λ p. store_to abi m k p d) (λ p. to_keeps abi m k p d)

-- steps

abbrev base : Memory → State
base m = record { memory = m; input = []; at_end = false; out = []; left = 1; next = 0; live = 0; heap = 0 }

abbrev goes_nowhere : Enter
goes_nowhere c s = Undefined s

abbrev nothing : Datum
nothing = Single (Int (pos 0))

-- each place ends the run at once
abbrev at_once : ℕ → State → Result Datum
at_once q s = Goes nothing s

changes_keep : (m : Memory) (o : Option Memory) → KeepsHeap m o → SameHeap m (last (given (base m) o (λ n. at_once 0 (with_memory (base m) n)))).memory
changes_keep m None h = λ i. refl
changes_keep m (Some n) h = h

given_keeps : {A : Type 0} (m : Memory) (o : Option A) (f : A → Datum) → SameHeap m (last (given (base m) o (λ a. Goes (f a) (base m)))).memory
given_keeps m None f = λ i. refl
given_keeps m (Some a) f = λ i. refl

done_keeps : (abi : Abi) (m : Memory) (act p : ℕ) (y : Step) → is_call y ≡ false → SameHeap m (last (done abi act goes_nowhere nothing at_once p y (base m))).memory
done_keeps abi m act p (Set place o) c =
    changes_keep m (assigned abi m act place o)
    (bind_keeps m (operand_kind o) (λ k. spot_place abi m act place >>= λ at. operand_datum abi m act o >>= store_datum abi m k at) (λ k.
    bind_keeps m (spot_place abi m act place) (λ at. operand_datum abi m act o >>= store_datum abi m k at) (λ at.
    bind_keeps m (operand_datum abi m act o) (store_datum abi m k at) (datum_keeps abi m k at))))
done_keeps abi m act p (Zero size place) c =
    changes_keep m (zeroed abi m act size place) (bind_keeps m (pointer_from abi m act place) (λ p. zero_bytes m p size) (λ p. bytes_keep m p (replicate size (Known 0))))
done_keeps abi m act p (Call k) c = absurd (cc)
done_keeps abi m act p (Test t x q) c = given_keeps m (term_value abi m act t x >>= truth m t) (λ v. nothing)
done_keeps abi m act p (Choose kind x table other) c = given_keeps m (term_value abi m act (OfKind kind) x >>= number_in) (λ v. nothing)
done_keeps abi m act p (Forward q) c = λ i. refl
done_keeps abi m act p (Back q) c = λ i. refl
done_keeps abi m act p (Leave None) c = λ i. refl
done_keeps abi m act p (Leave (Some o)) c = given_keeps m (operand_datum abi m act o) (λ d. d)
done_keeps abi m act p Stuck c = λ i. refl

on_memory : (m k : Memory) (n : Onward) → (last (on nothing at_once n (with_memory (base m) k))).memory ≡ k
on_memory m k (onward.At q) = refl
on_memory m k (onward.Back q) = refl
on_memory m k (onward.Ended d) = refl
on_memory m k onward.Undefined = refl

-- a step that was taken leaves them
pub took_keeps : (old new : Store) (act p : ℕ) (y : Step) (n : Onward) → is_call y ≡ false → Took old new act p y n → SameHeap (memory old) (memory new)
took_keeps old new act p y n c took =
    let t = took.does (base (memory old)) refl goes_nowhere nothing at_once in
    let e : (last (done old.abi act goes_nowhere nothing at_once p y (base (memory old)))).memory ≡ memory new = ap (λ r. (last r).memory) t ∙ on_memory (memory old) (memory new) n in
    subst (SameHeap (memory old)) e (done_keeps old.abi (memory old) act p y c)

-- what is taken is no call
pub no_call : (b : Bool) → true ≡ not b → b ≡ false
no_call true h = absurd (cc)
no_call false h = refl
