-- Device: objects that begin to live with a value in them.
use Rattle.std.proofs.Common.{◌≡◌, ℕ, zero, suc, ◌+◌, Bool, true, false, List, [], ◌++◌, length, drop, replicate, cond, Option, Some, None, Result, Ok, Err, OnOk, refl, sym, ap, ◌∙◌, subst, arith}
use Rattle.std.specs.Prelude.{pos}
use Rattle.std.proofs.lemmas.Bool.{le-leb}
use Rattle.std.proofs.lemmas.List.{append-nil}
use Rattle.std.proofs.lemmas.Option.{none-some}
use Rattle.cil_base.specs.declared.kinds.Abi.{Abi}
use Rattle.cil_base.specs.declared.kinds.Abi.TheVariants.{Lp64, Ilp32}
use Rattle.cil_base.specs.declared.kinds.IntKind.TheVariants.{Bool as Boolean, Char, SChar, UChar, Short, UShort, Int, UInt, Long, ULong, LLong, ULLong, Long4, ULong4}
use Rattle.byte_mem.specs.declared.pointers.ObjName.{ObjName}
use Rattle.byte_mem.specs.declared.stores.Store.{Store}
use Rattle.byte_mem.specs.declared.values.Byte.{Byte}
use Rattle.byte_mem.specs.declared.values.Byte.TheVariants.{Unknown as Blank}
use Rattle.byte_mem.specs.declared.values.Scalar.{Scalar}
use Rattle.byte_mem.specs.declared.values.Scalar.TheVariants.{Int as OfKind, Ptr as OfPointer}
use Rattle.byte_mem.specs.declared.values.Value.{Value}
use Rattle.byte_mem.specs.Steps.{◌>>=◌, only_if}
use Rattle.byte_mem.specs.Name.{same_name}
use Rattle.byte_mem.specs.Scalar.{scalar_size, bytes_of}
use Rattle.byte_mem.specs.Object.{Held, new_held, with_part, inside, aligned, write_at, store_held, store_part}
use Rattle.byte_mem.specs.Memory.{Memory, with_held, make, changed, store, store_bytes}
use Rattle.byte_mem.specs.Store.{memory, Stored, Becomes, Put}
use Rattle.byte_mem.proofs.AgainLemmas.{held_here}
use Rattle.byte_mem.proofs.BelowLemmas.{length_bytes}
use Rattle.byte_mem.proofs.ObjectLemmas.{replicate_long}
use Rattle.byte_mem.proofs.StoreLemmas.{same_memory}
use Rattle.execution.specs.Data as passed
use Rattle.execution.specs.Data.{bytes_in, argument_held}
use Rattle.execution.specs.Runs.{writable}
use Rattle.cil_code.specs.declared.calls.Kind.{Kind}
use Rattle.cil_code.specs.declared.calls.Kind.TheVariants.{Void as NoValue, Single as OneScalar, Bytes as OneSize}
use Rattle.cil_code.specs.declared.taking.Datum.TheVariants.{Single as OneValue, Bytes as ManyBytes}
use Rattle.cil_code.specs.Calling.{kind_from}
use Rattle.cil_code.specs.Taking.{datum_of}
use Rattle.cil_frames.specs.declared.activations.Argument.{Argument}
use Rattle.cil_frames.specs.Kinds.{single_in}
use Rattle.cil_frames.specs.Entering.{argument_of}

-- what is put under a name last stands there
held_again : (m : Memory) (n : ObjName) (h k : Option Held) → with_held (with_held m n h) n k ≡ with_held m n k
held_again m n h k = same_memory (with_held (with_held m n h) n k) (with_held m n k) (λ x. by x (same_name n x))
  where
    by : (x : ObjName) (b : Bool) → cond b k (cond b h (m x)) ≡ cond b k (m x)
    by x true = refl
    by x false = refl

drop_all : (n : ℕ) (b : Byte) → drop n (replicate n b) ≡ []
drop_all zero b = refl
drop_all (suc n) b = drop_all n b

-- all bytes of an object are replaced
whole_part : (new : List Byte) (n : ℕ) (b : Byte) → length new ≡ n → with_part 0 new (replicate n b) ≡ new
whole_part new n b e =
    let all : 0 + length new ≡ n = omega arith in
    ap (λ k. new ++ drop k (replicate n b)) all ∙ (ap (λ z. new ++ z) (drop_all n b) ∙ append-nil new)

-- the memory where a new object is written to
fresh_changed : (m : Memory) (n : ObjName) (size : ℕ) (g : Held → Option Held) (h : Held) → g (new_held size Blank false) ≡ Some h → changed (make m n size Blank false) n g ≡ Some (with_held m n (Some h))
fresh_changed m n size g h e =
    ap (λ o. (o >>= g) >>= λ h. Some (with_held (make m n size Blank false) n (Some h))) (held_here m n (Some (new_held size Blank false)))
    ∙ (ap (λ o. o >>= λ h. Some (with_held (make m n size Blank false) n (Some h))) e ∙ ap Some (held_again m n (Some (new_held size Blank false)) (Some h)))

-- a scalar has its place at the beginning of an object of its size
first_place : (abi : Abi) (s : Scalar) → aligned (pos 0) (scalar_size abi s) (length (replicate (scalar_size abi s) Blank)) ≡ Some 0
first_place abi (OfKind Boolean) = refl
first_place abi (OfKind Char) = refl
first_place abi (OfKind SChar) = refl
first_place abi (OfKind UChar) = refl
first_place abi (OfKind Short) = refl
first_place abi (OfKind UShort) = refl
first_place abi (OfKind Int) = refl
first_place abi (OfKind UInt) = refl
first_place abi (OfKind Long) = refl
first_place abi (OfKind ULong) = refl
first_place abi (OfKind LLong) = refl
first_place abi (OfKind ULLong) = refl
first_place abi (OfKind Long4) = refl
first_place abi (OfKind ULong4) = refl
first_place Lp64 OfPointer = refl
first_place Ilp32 OfPointer = refl

written_first : (new : List Byte) (n : ℕ) → length new ≡ n → write_at (new_held n Blank false) (Some 0) new ≡ Some (writable new)
written_first new n e = ap (λ b. Some (writable b)) (whole_part new n Blank e)

fresh_scalar : (abi : Abi) (s : Scalar) (v : Value) → store_held abi (new_held (scalar_size abi s) Blank false) (pos 0) s v ≡ Some (writable (bytes_of abi s v))
fresh_scalar abi s v = ap (λ o. write_at (new_held (scalar_size abi s) Blank false) o (bytes_of abi s v)) (first_place abi s) ∙ written_first (bytes_of abi s v) (scalar_size abi s) (length_bytes abi s v)

within_all : (n k : ℕ) → k ≡ n → inside (pos 0) n k ≡ Some 0
within_all n k e = ap (λ b. only_if b 0) (le-leb (0 + n) k (omega arith))

fresh_bytes : (new : List Byte) (n : ℕ) → length new ≡ n → store_part (new_held n Blank false) (pos 0) new ≡ Some (writable new)
fresh_bytes new n e =
    let long : length (replicate n Blank) ≡ length new = replicate_long n Blank ∙ sym e in
    ap (λ o. write_at (new_held n Blank false) o new) (within_all (length new) (length (replicate n Blank)) long) ∙ written_first new n e

-- what is stored in a new object stands there
stored_first : (r : Option (Unit {0})) (old mid new : Store) (m : Option Memory) (h : Memory) → mid.abi ≡ old.abi → m ≡ Some h → Stored r mid new m → Becomes old new h
stored_first None old mid new m h abi e k = absurd (none-some h (sym k.0 ∙ e))
stored_first (Some u) old mid new m h abi e k = (some_same (memory new) h (sym k.0 ∙ e), k.1 ∙ abi)
  where
    some_same : (a b : Memory) → Some a ≡ Some b → a ≡ b
    some_same a b e = ap (λ o. elim o [ None ↦ a | Some x ↦ x ]) e

pub scalar_begun : (r : Option (Unit {0})) (old mid new : Store) (n : ObjName) (s : Scalar) (v : Value) (a : Abi) (size : ℕ) → a ≡ old.abi → size ≡ scalar_size a s → Becomes old mid (make (memory old) n size Blank false)
    → Stored r mid new (store mid.abi (memory mid) (record { name = n; offset = pos 0 }) s v) → Becomes old new (with_held (memory old) n (Some (writable (bytes_of old.abi s v))))
scalar_begun r old mid new n s v a size model long b k =
    stored_first r old mid new (store mid.abi (memory mid) (record { name = n; offset = pos 0 }) s v) (with_held (memory old) n (Some (writable (bytes_of old.abi s v)))) b.1
    (ap (λ (a : Abi). store a (memory mid) (record { name = n; offset = pos 0 }) s v) b.1
    ∙ (ap (λ (m : Memory). store old.abi m (record { name = n; offset = pos 0 }) s v) b.0
    ∙ (ap (λ z. store old.abi (make (memory old) n z Blank false) (record { name = n; offset = pos 0 }) s v) (long ∙ ap (λ (a : Abi). scalar_size a s) model)
    ∙ fresh_changed (memory old) n (scalar_size old.abi s) (λ h. store_held old.abi h (pos 0) s v) (writable (bytes_of old.abi s v)) (fresh_scalar old.abi s v))))
    k

pub bytes_begun : (r : Option (Unit {0})) (old mid new : Store) (n : ObjName) (size : ℕ) (bytes : List Byte) → length bytes ≡ size → Becomes old mid (make (memory old) n size Blank false) → Stored r mid new (store_bytes (memory mid) (record { name = n; offset = pos 0 }) bytes)
    → Becomes old new (with_held (memory old) n (Some (writable bytes)))
bytes_begun r old mid new n size bytes long b k =
    stored_first r old mid new (store_bytes (memory mid) (record { name = n; offset = pos 0 }) bytes) (with_held (memory old) n (Some (writable bytes))) b.1
    (ap (λ (m : Memory). store_bytes m (record { name = n; offset = pos 0 }) bytes) b.0
    ∙ fresh_changed (memory old) n size (λ h. store_part h (pos 0) bytes) (writable bytes) (fresh_bytes bytes size long))
    k

-- what holds the value of a kind

single_bytes : (abi : Abi) (k : Option Kind) (s : Scalar) (v : Value) → Some s ≡ single_in k → bytes_of abi s v ≡ bytes_in abi (kind_from k) (passed.Single v)
single_bytes abi None s v e = absurd (cc)
single_bytes abi (Some NoValue) s v e = absurd (cc)
single_bytes abi (Some (OneScalar t)) s v e = ap (λ o. elim o [ None ↦ bytes_of abi s v | Some x ↦ bytes_of abi x v ]) e
single_bytes abi (Some (OneSize n)) s v e = absurd (cc)

no_bytes : (abi : Abi) (k : Option Kind) (v : Value) → None ≡ single_in k → [] ≡ bytes_in abi (kind_from k) (passed.Single v)
no_bytes abi None v e = refl
no_bytes abi (Some NoValue) v e = refl
no_bytes abi (Some (OneScalar s)) v e = absurd (cc)
no_bytes abi (Some (OneSize n)) v e = refl

some_bytes : (abi : Abi) (k : Option passed.Kind) (b : List Byte) → b ≡ bytes_in abi k (passed.Bytes b)
some_bytes abi None b = refl
some_bytes abi (Some passed.OfVoid) b = refl
some_bytes abi (Some (passed.OfScalar s)) b = refl
some_bytes abi (Some (passed.OfAggregate n)) b = refl

-- an object that holds these bytes has begun
abbrev Begun : {E : Type 0} → Result (Unit {0}) E → Store → Store → ObjName → List Byte → Type 0
Begun r old new n b = OnOk r (Becomes old new (with_held (memory old) n (Some (writable b))))

pub value_begun : {E : Type 0} (r : Result (Unit {0}) E) (old new : Store) (n : ObjName) (k : Option Kind) (s : Scalar) (v : Value) → Some s ≡ single_in k → OnOk r (Becomes old new (with_held (memory old) n (Some (writable (bytes_of old.abi s v)))))
    → OnOk r (Becomes old new (with_held (memory old) n (Some (writable (bytes_in old.abi (kind_from k) (passed.Single v))))))
value_begun r old new n k s v e h = subst (Begun r old new n) (single_bytes old.abi k s v e) h

pub nothing_begun : {E : Type 0} (r : Result (Unit {0}) E) (old new : Store) (n : ObjName) (k : Option Kind) (v : Value) → None ≡ single_in k → Put r old new (make (memory old) n 0 Blank false)
    → OnOk r (Becomes old new (with_held (memory old) n (Some (writable (bytes_in old.abi (kind_from k) (passed.Single v))))))
nothing_begun (Ok u) old new n k v e h = subst (λ b. Becomes old new (with_held (memory old) n (Some (writable b)))) (no_bytes old.abi k v e) h
nothing_begun (Err x) old new n k v e h = tt

pub single_begun : {E : Type 0} (r : Result (Unit {0}) E) (old new : Store) (n : ObjName) (a : Argument) (v : Value) → a.datum ≡ OneValue v → OnOk r (Becomes old new (with_held (memory old) n (Some (writable (bytes_in old.abi (kind_from a.kind) (passed.Single v))))))
    → OnOk r (Becomes old new (with_held (memory old) n (Some (argument_held old.abi (argument_of a)))))
single_begun r old new n a v e h = subst (Begun r old new n) (ap (λ d. bytes_in old.abi (kind_from a.kind) (datum_of d)) (sym e)) h

pub bytes_passed : {E : Type 0} (r : Result (Unit {0}) E) (old new : Store) (n : ObjName) (a : Argument) (b : List Byte) → a.datum ≡ ManyBytes b → OnOk r (Becomes old new (with_held (memory old) n (Some (writable b))))
    → OnOk r (Becomes old new (with_held (memory old) n (Some (argument_held old.abi (argument_of a)))))
bytes_passed r old new n a b e h = subst (Begun r old new n) (some_bytes old.abi (kind_from a.kind) b ∙ ap (λ d. bytes_in old.abi (kind_from a.kind) (datum_of d)) (sym e)) h
