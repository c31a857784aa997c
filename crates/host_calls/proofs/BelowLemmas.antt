-- Device: each row of the host keeps the order of states.
use Rattle.std.proofs.Common.{◌≡◌, ℕ, zero, suc, ◌+◌, ◌-◌, Bool, true, false, cond, ◌&&◌, List, [], ◌∷◌, length, Option, Some, None, ℤ, pos, refl, sym, ap, ◌∙◌, subst}
use Rattle.std.specs.Prelude.{nat_lt, unsigned_abs}
use Rattle.std.specs.Ordering.{int_eq}
use Rattle.cil_base.specs.declared.kinds.Abi.{Abi}
use Rattle.byte_mem.specs.declared.pointers.ObjName.{ObjName}
use Rattle.byte_mem.specs.declared.pointers.ObjName.TheVariants.{Entity, Local, Literal, Heap, Argument}
use Rattle.byte_mem.specs.declared.pointers.Pointer.{Pointer}
use Rattle.byte_mem.specs.declared.values.Byte.TheVariants.{Unknown as Blank}
use Rattle.byte_mem.specs.declared.values.Scalar.{Scalar}
use Rattle.byte_mem.specs.declared.values.Value.{Value}
use Rattle.byte_mem.specs.declared.values.Value.TheVariants.{Int, Ptr, Unknown, Part}
use Rattle.byte_mem.specs.Memory.{Memory, make, end_object, live_size, fill}
use Rattle.byte_mem.specs.Operator.{number_in}
use Rattle.byte_mem.specs.Below.{Names, IsOneToOne, moved, BelowValue, Lift, Same, BelowHeld, BelowMemory}
use Rattle.byte_mem.proofs.BelowLemmas.{lift_bind, lift_map, number_in_below, make_below, end_below, fill_below, length_below}
use Rattle.host_calls.specs.declared.names.HostName.{HostName}
use Rattle.host_calls.specs.declared.names.HostName.TheVariants.{Getchar, Putchar, Exit, Abort, Malloc, Free, Memset}
use Rattle.host_calls.specs.declared.calls.HostResult.TheVariants.{Value as Gives, Exit as Ends}
use Rattle.host_calls.specs.Host.{HostState, Outcome, heap_limit, undefined, with_number, with_value, byte_of, getchar, putchar, malloc, free_object, free_named, free, filled, memset, value_arg, number_arg, called, same_scalar, same_result, result_of, have_kinds, parameters_of, values_of, host}
use Rattle.host_calls.specs.Laws.{KeepsHeap, BelowState, BelowArgs, BelowOutcome}

-- the same state over another memory
abbrev pub over : HostState → Memory → HostState
over s n = record s { memory = n }

pub over_is : (f : Names) (s t : HostState) → BelowState f s t → over s t.memory ≡ t
over_is f s t r =
    ap (λ (x : Option (Option ℕ)). let u : HostState = record { memory = t.memory; ready = x; out = s.out; live = s.live; heap = s.heap } in u) (sym r.ready)
    ∙ ap (λ (x : List ℕ). let u : HostState = record { memory = t.memory; ready = t.ready; out = x; live = s.live; heap = s.heap } in u) (sym r.out)
    ∙ ap (λ (x : ℕ). let u : HostState = record { memory = t.memory; ready = t.ready; out = t.out; live = x; heap = s.heap } in u) (sym r.live)
    ∙ ap (λ (x : ℕ). let u : HostState = record { memory = t.memory; ready = t.ready; out = t.out; live = t.live; heap = x } in u) (sym r.heap)

state_below : (f : Names) (s : HostState) (n : Memory) → BelowMemory f s.memory n → BelowState f s (over s n)
state_below f s n r = record { memory = r; ready = refl; out = refl; live = refl; heap = refl }

number_below : (f : Names) (s t : HostState) (o u : Option ℤ) (next more : ℤ → Outcome) → Lift Same o u → ((n : ℤ) → BelowOutcome f (next n) (more n)) → BelowOutcome f (with_number s o next) (with_number t u more)
number_below f s t None u next more r h = tt
number_below f s t (Some n) None next more r h = absurd r
number_below f s t (Some n) (Some m) next more r h = subst (λ (x : ℤ). BelowOutcome f (next n) (more x)) (sym r) (h n)

value_below : (f : Names) (s t : HostState) (o u : Option Value) (next more : Value → Outcome) → Lift (BelowValue f) o u → ((v w : Value) → BelowValue f v w → BelowOutcome f (next v) (more w)) → BelowOutcome f (with_value s o next) (with_value t u more)
value_below f s t None u next more r h = tt
value_below f s t (Some v) None next more r h = absurd r
value_below f s t (Some v) (Some w) next more r h = h v w r

choice_below : (f : Names) (t : Bool) (o u a b : Outcome) → BelowOutcome f o u → BelowOutcome f a b → BelowOutcome f (cond t o a) (cond t u b)
choice_below f true o u a b r q = r
choice_below f false o u a b r q = q

pub value_arg_below : (f : Names) (args more : List (Scalar × Value)) (i : ℕ) → BelowArgs f args more → Lift (BelowValue f) (value_arg (values_of args) i) (value_arg (values_of more) i)
value_arg_below f [] [] i r = tt
value_arg_below f [] (b ∷ more) i r = absurd r
value_arg_below f (a ∷ args) [] i r = absurd r
value_arg_below f (a ∷ args) (b ∷ more) zero r = r.1
value_arg_below f (a ∷ args) (b ∷ more) (suc i) r = value_arg_below f args more i r.2

pub number_arg_below : (f : Names) (args more : List (Scalar × Value)) (i : ℕ) → BelowArgs f args more → Lift Same (number_arg (values_of args) i) (number_arg (values_of more) i)
number_arg_below f args more i r = lift_bind (BelowValue f) Same (value_arg (values_of args) i) (value_arg (values_of more) i) number_in number_in (value_arg_below f args more i r) (λ v w q. number_in_below f v w q)

pub kinds_below : (f : Names) (kinds : List Scalar) (args more : List (Scalar × Value)) → BelowArgs f args more → have_kinds kinds more ≡ have_kinds kinds args
kinds_below f [] [] [] r = refl
kinds_below f [] [] (b ∷ more) r = absurd r
kinds_below f [] (a ∷ args) [] r = absurd r
kinds_below f [] (a ∷ args) (b ∷ more) r = refl
kinds_below f (s ∷ kinds) [] [] r = refl
kinds_below f (s ∷ kinds) [] (b ∷ more) r = absurd r
kinds_below f (s ∷ kinds) (a ∷ args) [] r = absurd r
kinds_below f (s ∷ kinds) (a ∷ args) (b ∷ more) r = ap (λ (x : Scalar). same_scalar s x && have_kinds kinds more) r.0 ∙ ap (λ t. same_scalar s a.0 && t) (kinds_below f kinds args more r.2)

getchar_below : (f : Names) (s : HostState) (n : Memory) (o : Option (Option ℕ)) → BelowMemory f s.memory n → BelowOutcome f (getchar s o) (getchar (over s n) o)
getchar_below f s n None r = (refl, state_below f s n r)
getchar_below f s n (Some None) r = (refl, state_below f s n r)
getchar_below f s n (Some (Some b)) r = (refl, record { memory = r; ready = refl; out = refl; live = refl; heap = refl })

malloc_below : (f : Names) → IsOneToOne f → KeepsHeap f → (s : HostState) (n : Memory) (size : ℕ) → BelowMemory f s.memory n → BelowOutcome f (malloc s size) (malloc (over s n) size)
malloc_below f o k s n size r =
    choice_below f (nat_lt heap_limit (s.live + size)) (Gives (Int (pos 0)), s) (Gives (Int (pos 0)), over s n)
    (Gives (Ptr (record { name = Heap s.heap; offset = pos 0 })), record s { memory = make s.memory (Heap s.heap) size Blank false; live = s.live + size; heap = s.heap + 1 })
    (Gives (Ptr (record { name = Heap s.heap; offset = pos 0 })), record s { memory = make n (Heap s.heap) size Blank false; live = s.live + size; heap = s.heap + 1 })
    (refl, state_below f s n r) (
      ap (λ (x : ObjName). Ptr (record { name = x; offset = pos 0 })) (sym (k s.heap)),
      record { memory = subst (λ (x : ObjName). BelowMemory f (make s.memory (Heap s.heap) size Blank false) (make n x size Blank false)) (k s.heap) (make_below f o s.memory n (Heap s.heap) size Blank Blank false false r tt (λ e. e)); ready = refl; out = refl; live = refl; heap = refl },
    )

size_below : (f : Names) (m n : Memory) (x : ObjName) → BelowMemory f m n → Lift Same (live_size m x) (live_size n (f x))
size_below f m n x r = lift_map (BelowHeld f) Same (m x) (n (f x)) (λ h. length h.bytes) (λ h. length h.bytes) (r x) (λ h k q. length_below f h.bytes k.bytes q.bytes)

free_object_below : (f : Names) → IsOneToOne f → KeepsHeap f → (s : HostState) (n : Memory) (i : ℕ) (o u : Option ℕ) → BelowMemory f s.memory n → Lift Same o u → BelowOutcome f (free_object s i o) (free_object (over s n) i u)
free_object_below f q k s n i None u r e = tt
free_object_below f q k s n i (Some a) None r e = absurd e
free_object_below f q k s n i (Some a) (Some b) r e =
    (tt, record { memory = subst (λ (x : ObjName). BelowMemory f (end_object s.memory (Heap i)) (end_object n x)) (k i) (end_below f q s.memory n (Heap i) r); ready = refl; out = refl; live = ap (λ c. s.live - c) e; heap = refl })

free_named_below : (f : Names) → IsOneToOne f → KeepsHeap f → (s : HostState) (n : Memory) (x : ObjName) → BelowMemory f s.memory n → BelowOutcome f (free_named s x) (free_named (over s n) (f x))
free_named_below f o k s n (Heap i) r =
    subst (λ (x : ObjName). BelowOutcome f (free_named s (Heap i)) (free_named (over s n) x)) (sym (k i))
    (free_object_below f o k s n i (live_size s.memory (Heap i)) (live_size n (Heap i)) r (subst (λ (x : ObjName). Lift Same (live_size s.memory (Heap i)) (live_size n x)) (k i) (size_below f s.memory n (Heap i) r)))
free_named_below f o k s n (Entity e) r = tt
free_named_below f o k s n (Local a l) r = tt
free_named_below f o k s n (Literal i) r = tt
free_named_below f o k s n (Argument i) r = tt

free_below : (f : Names) → IsOneToOne f → KeepsHeap f → (s : HostState) (n : Memory) (v w : Value) → BelowMemory f s.memory n → BelowValue f v w → BelowOutcome f (free s v) (free (over s n) w)
free_below f o k s n (Int c) w r q =
    subst (λ (x : Value). BelowOutcome f (free s (Int c)) (free (over s n) x)) (sym q)
    (choice_below f (int_eq c (pos 0)) (Gives Unknown, s) (Gives Unknown, over s n) (undefined s) (undefined (over s n)) (tt, state_below f s n r) tt)
free_below f o k s n (Ptr p) w r q =
    subst (λ (x : Value). BelowOutcome f (free s (Ptr p)) (free (over s n) x)) (sym q)
    (choice_below f (int_eq p.offset (pos 0)) (free_named s p.name) (free_named (over s n) (f p.name)) (undefined s) (undefined (over s n)) (free_named_below f o k s n p.name r) tt)
free_below f o k s n Unknown w r q = tt
free_below f o k s n (Part p j) w r q = tt

filled_below : (f : Names) (s : HostState) (n : Memory) (p : Pointer) (a b : Option Memory) → Lift (BelowMemory f) a b → BelowOutcome f (filled s p a) (filled (over s n) (moved f p) b)
filled_below f s n p None b r = tt
filled_below f s n p (Some a) None r = absurd r
filled_below f s n p (Some a) (Some b) r = (refl, record { memory = r; ready = refl; out = refl; live = refl; heap = refl })

memset_below : (f : Names) → IsOneToOne f → (s : HostState) (n : Memory) (v w : Value) (b len : ℕ) → BelowMemory f s.memory n → BelowValue f v w → BelowOutcome f (memset s v b len) (memset (over s n) w b len)
memset_below f o s n (Ptr p) w b len r q =
    subst (λ (x : Value). BelowOutcome f (memset s (Ptr p) b len) (memset (over s n) x b len)) (sym q)
    (filled_below f s n p (fill s.memory p len b) (fill n (moved f p) len b) (fill_below f o s.memory n p len b r))
memset_below f o s n (Int c) w b len r q = tt
memset_below f o s n Unknown w b len r q = tt
memset_below f o s n (Part p k) w b len r q = tt

called_below : (f : Names) → IsOneToOne f → KeepsHeap f → (name : HostName) (args more : List (Scalar × Value)) (s : HostState) (n : Memory) → BelowArgs f args more → BelowMemory f s.memory n
    → BelowOutcome f (called name (values_of args) s) (called name (values_of more) (over s n))
called_below f o k Getchar args more s n q r = getchar_below f s n s.ready r
called_below f o k Putchar args more s n q r =
    number_below f s (over s n) (number_arg (values_of args) 0) (number_arg (values_of more) 0) (λ c. putchar s (byte_of c)) (λ c. putchar (over s n) (byte_of c)) (number_arg_below f args more 0 q)
    (λ c. (refl, record { memory = r; ready = refl; out = refl; live = refl; heap = refl }))
called_below f o k Exit args more s n q r =
    number_below f s (over s n) (number_arg (values_of args) 0) (number_arg (values_of more) 0) (λ c. (Ends (byte_of c), s)) (λ c. (Ends (byte_of c), over s n)) (number_arg_below f args more 0 q) (λ c. (refl, state_below f s n r))
called_below f o k Abort args more s n q r = (refl, state_below f s n r)
called_below f o k Malloc args more s n q r =
    number_below f s (over s n) (number_arg (values_of args) 0) (number_arg (values_of more) 0) (λ c. malloc s (unsigned_abs c)) (λ c. malloc (over s n) (unsigned_abs c)) (number_arg_below f args more 0 q) (λ c. malloc_below f o k s n (unsigned_abs c) r)
called_below f o k Free args more s n q r =
    value_below f s (over s n) (value_arg (values_of args) 0) (value_arg (values_of more) 0) (λ v. free s v) (λ v. free (over s n) v) (value_arg_below f args more 0 q) (λ v w e. free_below f o k s n v w r e)
called_below f o k Memset args more s n q r =
    value_below f s (over s n) (value_arg (values_of args) 0) (value_arg (values_of more) 0)
    (λ v. with_number s (number_arg (values_of args) 1) (λ c. with_number s (number_arg (values_of args) 2) (λ z. memset s v (byte_of c) (unsigned_abs z))))
    (λ v. with_number (over s n) (number_arg (values_of more) 1) (λ c. with_number (over s n) (number_arg (values_of more) 2) (λ z. memset (over s n) v (byte_of c) (unsigned_abs z)))) (value_arg_below f args more 0 q)
    (λ v w e. number_below f s (over s n) (number_arg (values_of args) 1) (number_arg (values_of more) 1)
    (λ c. with_number s (number_arg (values_of args) 2) (λ z. memset s v (byte_of c) (unsigned_abs z))) (λ c. with_number (over s n) (number_arg (values_of more) 2) (λ z. memset (over s n) w (byte_of c) (unsigned_abs z))) (number_arg_below f args more 1 q)
    (λ c. number_below f s (over s n) (number_arg (values_of args) 2) (number_arg (values_of more) 2) (λ z. memset s v (byte_of c) (unsigned_abs z)) (λ z. memset (over s n) w (byte_of c) (unsigned_abs z)) (number_arg_below f args more 2 q)
    (λ z. memset_below f o s n v w (byte_of c) (unsigned_abs z) r e)))

pub host_below : (f : Names) → IsOneToOne f → KeepsHeap f → (abi : Abi) (name : HostName) (wanted : Option Scalar) (args more : List (Scalar × Value)) (s t : HostState)
    → BelowArgs f args more → BelowState f s t → BelowOutcome f (host abi name wanted args s) (host abi name wanted more t)
host_below f o k abi name wanted args more s t q r =
    subst (λ (u : HostState). BelowOutcome f (host abi name wanted args s) (host abi name wanted more u)) (over_is f s t r)
    (subst (λ (b : Bool). BelowOutcome f (host abi name wanted args s) (cond (same_result (result_of abi name) wanted && b) (called name (values_of more) (over s t.memory)) (undefined (over s t.memory)))) (sym (kinds_below f (parameters_of abi name) args more q))
    (choice_below f (same_result (result_of abi name) wanted && have_kinds (parameters_of abi name) args) (called name (values_of args) s) (called name (values_of more) (over s t.memory)) (undefined s) (undefined (over s t.memory))
    (called_below f o k name args more s t.memory q r.memory) tt))
