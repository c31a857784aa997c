-- Device: each row of the host leaves activations' objects as they are.
use Rattle.std.proofs.Common.{ℕ, ◌+◌, Bool, true, false, cond, ◌&&◌, List, replicate, Option, Some, None, ℤ, pos, refl, sym, subst}
use Rattle.std.specs.Prelude.{nat_lt, unsigned_abs}
use Rattle.std.specs.Ordering.{int_eq}
use Rattle.byte_mem.specs.declared.pointers.ObjName.{ObjName}
use Rattle.byte_mem.specs.declared.pointers.ObjName.TheVariants.{Entity, Local, Literal, Heap, Argument}
use Rattle.byte_mem.specs.declared.pointers.Pointer.{Pointer}
use Rattle.byte_mem.specs.declared.values.Byte.TheVariants.{Known, Unknown as Blank}
use Rattle.byte_mem.specs.declared.values.Scalar.{Scalar}
use Rattle.byte_mem.specs.declared.values.Value.{Value}
use Rattle.byte_mem.specs.declared.values.Value.TheVariants.{Int, Ptr, Unknown, Part}
use Rattle.byte_mem.specs.Object.{Held, fill_part}
use Rattle.byte_mem.specs.Memory.{Memory, make, live_size, fill}
use Rattle.byte_mem.specs.Below.{BelowValue, Lift, Same, BelowMemory}
use Rattle.byte_mem.proofs.BelowLemmas.{fill_below}
use Rattle.host_calls.specs.declared.names.HostName.{HostName}
use Rattle.host_calls.specs.declared.names.HostName.TheVariants.{Getchar, Putchar, Exit, Abort, Malloc, Free, Memset}
use Rattle.host_calls.specs.declared.calls.HostResult.TheVariants.{Value as Gives, Exit as Ends}
use Rattle.host_calls.specs.Host.{HostState, Outcome, heap_limit, undefined, with_number, with_value, byte_of, getchar, putchar, malloc, free_object, free_named, free, filled, memset, value_arg, number_arg, called, same_result, result_of, have_kinds, parameters_of, values_of, host}
use Rattle.host_calls.specs.Laws.{BelowArgs}
use Rattle.host_calls.proofs.BelowLemmas.{over, over_is, value_arg_below, number_arg_below, kinds_below}
use Rattle.simulation_laws.specs.Changes.{itself, Moves}
use Rattle.simulation_laws.specs.Fitted.{Stays, StaysBy, HostStays}
use Rattle.simulation_laws.proofs.Alone.{changed_lift, part_sizes}

-- from outcomes of two calls
Stay : Memory → Memory → Outcome → Outcome → Type 0
Stay s t o u = StaysBy o.0 s t o.1.memory u.1.memory

untouched : (s t : Memory) → Stays s t s t
untouched s t = record { none = λ act i e. e; same = λ act i e. refl; room = λ size act i h. h }

numbers : (m n : Memory) (s t : HostState) (o u : Option ℤ) (next more : ℤ → Outcome) → Lift Same o u → ((k : ℤ) → Stay m n (next k) (more k)) → Stay m n (with_number s o next) (with_number t u more)
unfolding Stay
numbers m n s t None u next more r h = tt
numbers m n s t (Some k) None next more r h = absurd r
numbers m n s t (Some k) (Some j) next more r h = subst (λ (x : ℤ). Stay m n (next k) (more x)) (sym r) (h k)

values : (m n : Memory) (s t : HostState) (o u : Option Value) (next more : Value → Outcome) → Lift (BelowValue itself) o u → ((v w : Value) → BelowValue itself v w → Stay m n (next v) (more w)) → Stay m n (with_value s o next) (with_value t u more)
unfolding Stay
values m n s t None u next more r h = tt
values m n s t (Some v) None next more r h = absurd r
values m n s t (Some v) (Some w) next more r h = h v w r

choice : (m n : Memory) (b : Bool) (o u x y : Outcome) → Stay m n o u → Stay m n x y → Stay m n (cond b o x) (cond b u y)
choice m n true o u x y h k = h
choice m n false o u x y h k = k

getchar_stays : (s : HostState) (n : Memory) (o : Option (Option ℕ)) → Stay s.memory n (getchar s o) (getchar (over s n) o)
unfolding Stay
getchar_stays s n None = untouched s.memory n
getchar_stays s n (Some None) = untouched s.memory n
getchar_stays s n (Some (Some b)) = untouched s.memory n

malloc_stays : (s : HostState) (n : Memory) (size : ℕ) → Stay s.memory n (malloc s size) (malloc (over s n) size)
unfolding Stay
malloc_stays s n size =
    choice s.memory n (nat_lt heap_limit (s.live + size)) (Gives (Int (pos 0)), s) (Gives (Int (pos 0)), over s n)
    (Gives (Ptr (record { name = Heap s.heap; offset = pos 0 })), record s { memory = make s.memory (Heap s.heap) size Blank false; live = s.live + size; heap = s.heap + 1 })
    (Gives (Ptr (record { name = Heap s.heap; offset = pos 0 })), record s { memory = make n (Heap s.heap) size Blank false; live = s.live + size; heap = s.heap + 1 })
    (untouched s.memory n) (record { none = λ act i e. e; same = λ act i e. refl; room = λ size act i h. h })

object_stays : (s : HostState) (n : Memory) (i : ℕ) (o u : Option ℕ) → Stay s.memory n (free_object s i o) (free_object (over s n) i u)
unfolding Stay
object_stays s n i None u = tt
object_stays s n i (Some a) None = record { none = λ act i e. e; same = λ act i e. refl; room = λ size act i h. h }
object_stays s n i (Some a) (Some b) = record { none = λ act i e. e; same = λ act i e. refl; room = λ size act i h. h }

named_stays : (s : HostState) (n : Memory) (x : ObjName) → Stay s.memory n (free_named s x) (free_named (over s n) x)
unfolding Stay
named_stays s n (Heap i) = object_stays s n i (live_size s.memory (Heap i)) (live_size n (Heap i))
named_stays s n (Entity e) = tt
named_stays s n (Local a l) = tt
named_stays s n (Literal i) = tt
named_stays s n (Argument i) = tt

free_stays : (s : HostState) (n : Memory) (v w : Value) → BelowValue itself v w → Stay s.memory n (free s v) (free (over s n) w)
unfolding Stay
free_stays s n (Int c) w q =
    subst (λ (x : Value). Stay s.memory n (free s (Int c)) (free (over s n) x)) (sym q) (choice s.memory n (int_eq c (pos 0)) (Gives Unknown, s) (Gives Unknown, over s n) (undefined s) (undefined (over s n)) (untouched s.memory n) tt)
free_stays s n (Ptr p) w q =
    subst (λ (x : Value). Stay s.memory n (free s (Ptr p)) (free (over s n) x)) (sym q) (choice s.memory n (int_eq p.offset (pos 0)) (free_named s p.name) (free_named (over s n) p.name) (undefined s) (undefined (over s n)) (named_stays s n p.name) tt)
free_stays s n Unknown w q = tt
free_stays s n (Part p k) w q = tt

filled_stays : (s : HostState) (n : Memory) (p : Pointer) (a b : Option Memory) → Lift (Moves s.memory n) a b → Stay s.memory n (filled s p a) (filled (over s n) p b)
unfolding Stay
filled_stays s n p None b r = tt
filled_stays s n p (Some a) None r = absurd r
filled_stays s n p (Some a) (Some b) r = record { none = λ act i e. r.none _ e; same = λ act i e. r.same _ e; room = λ size act i h. r.room size _ h }

memset_stays : (s : HostState) (n : Memory) (v w : Value) (b len : ℕ) → BelowMemory itself s.memory n → BelowValue itself v w → Stay s.memory n (memset s v b len) (memset (over s n) w b len)
unfolding Stay
memset_stays s n (Ptr p) w b len r q =
    subst (λ (x : Value). Stay s.memory n (memset s (Ptr p) b len) (memset (over s n) x b len)) (sym q)
    (filled_stays s n p (fill s.memory p len b) (fill n p len b)
    (changed_lift s.memory n p.name (λ (h : Held). fill_part h p.offset len b) (λ (h : Held). fill_part h p.offset len b) (fill_below itself (λ x y e. e) s.memory n p len b r) (part_sizes p.offset (replicate len (Known b)))))
memset_stays s n (Int c) w b len r q = tt
memset_stays s n Unknown w b len r q = tt
memset_stays s n (Part p k) w b len r q = tt

-- what only reads or writes leaves memory as it is
stay_on : (s : HostState) (n : Memory) → Stays s.memory n s.memory n
stay_on s n = untouched s.memory n

row_stays : (name : HostName) (xs ys : List (Scalar × Value)) (s : HostState) (n : Memory) → BelowArgs itself xs ys → BelowMemory itself s.memory n → Stay s.memory n (called name (values_of xs) s) (called name (values_of ys) (over s n))
unfolding Stay
row_stays Getchar xs ys s n q r = getchar_stays s n s.ready
row_stays Putchar xs ys s n q r = numbers s.memory n s (over s n) (number_arg (values_of xs) 0) (number_arg (values_of ys) 0) (λ c. putchar s (byte_of c)) (λ c. putchar (over s n) (byte_of c)) (number_arg_below itself xs ys 0 q) (λ c. stay_on s n)
row_stays Exit xs ys s n q r = numbers s.memory n s (over s n) (number_arg (values_of xs) 0) (number_arg (values_of ys) 0) (λ c. (Ends (byte_of c), s)) (λ c. (Ends (byte_of c), over s n)) (number_arg_below itself xs ys 0 q) (λ c. stay_on s n)
row_stays Abort xs ys s n q r = stay_on s n
row_stays Malloc xs ys s n q r = numbers s.memory n s (over s n) (number_arg (values_of xs) 0) (number_arg (values_of ys) 0) (λ c. malloc s (unsigned_abs c)) (λ c. malloc (over s n) (unsigned_abs c)) (number_arg_below itself xs ys 0 q) (λ c. malloc_stays s n (unsigned_abs c))
row_stays Free xs ys s n q r = values s.memory n s (over s n) (value_arg (values_of xs) 0) (value_arg (values_of ys) 0) (λ v. free s v) (λ v. free (over s n) v) (value_arg_below itself xs ys 0 q) (λ v w e. free_stays s n v w e)
row_stays Memset xs ys s n q r =
    values s.memory n s (over s n) (value_arg (values_of xs) 0) (value_arg (values_of ys) 0)
    (λ v. with_number s (number_arg (values_of xs) 1) (λ c. with_number s (number_arg (values_of xs) 2) (λ z. memset s v (byte_of c) (unsigned_abs z))))
    (λ v. with_number (over s n) (number_arg (values_of ys) 1) (λ c. with_number (over s n) (number_arg (values_of ys) 2) (λ z. memset (over s n) v (byte_of c) (unsigned_abs z)))) (value_arg_below itself xs ys 0 q)
    (λ v w e. numbers s.memory n s (over s n) (number_arg (values_of xs) 1) (number_arg (values_of ys) 1)
    (λ c. with_number s (number_arg (values_of xs) 2) (λ z. memset s v (byte_of c) (unsigned_abs z))) (λ c. with_number (over s n) (number_arg (values_of ys) 2) (λ z. memset (over s n) w (byte_of c) (unsigned_abs z))) (number_arg_below itself xs ys 1 q)
    (λ c. numbers s.memory n s (over s n) (number_arg (values_of xs) 2) (number_arg (values_of ys) 2) (λ z. memset s v (byte_of c) (unsigned_abs z)) (λ z. memset (over s n) w (byte_of c) (unsigned_abs z)) (number_arg_below itself xs ys 2 q)
    (λ z. memset_stays s n v w (byte_of c) (unsigned_abs z) r e)))

pub host_stays : HostStays
unfolding Stay
host_stays abi name wanted xs ys s t q r =
    subst (λ (u : HostState). Stay s.memory u.memory (host abi name wanted xs s) (host abi name wanted ys u)) (over_is itself s t r)
    (subst (λ (b : Bool). Stay s.memory t.memory (host abi name wanted xs s) (cond (same_result (result_of abi name) wanted && b) (called name (values_of ys) (over s t.memory)) (undefined (over s t.memory)))) (sym (kinds_below itself (parameters_of abi name) xs ys q))
    (choice s.memory t.memory (same_result (result_of abi name) wanted && have_kinds (parameters_of abi name) xs) (called name (values_of xs) s) (called name (values_of ys) (over s t.memory)) (undefined s) (undefined (over s t.memory))
    (row_stays name xs ys s t.memory q r.memory) tt))
