-- Device: a call of the host only adds to the output.
use Rattle.std.proofs.Common.{ℕ, ◌+◌, Bool, true, false, ◌&&◌, List, [], ◌∷◌, Option, Some, None, ℤ, pos, refl}
use Rattle.std.specs.Prelude.{nat_lt, if◌then◌else◌, unsigned_abs}
use Rattle.std.specs.Ordering.{int_eq}
use Rattle.cil_base.specs.declared.kinds.Abi.{Abi}
use Rattle.cil_base.specs.Outcome.{IsPrefix}
use Rattle.cil_base.proofs.OutcomeLaws.{IsPrefix-refl}
use Rattle.byte_mem.specs.declared.pointers.ObjName.{ObjName}
use Rattle.byte_mem.specs.declared.pointers.ObjName.TheVariants.{Entity, Local, Literal, Heap, Argument}
use Rattle.byte_mem.specs.declared.pointers.Pointer.{Pointer}
use Rattle.byte_mem.specs.declared.values.Scalar.{Scalar}
use Rattle.byte_mem.specs.declared.values.Value.{Value}
use Rattle.byte_mem.specs.declared.values.Value.TheVariants.{Int, Ptr, Unknown, Part}
use Rattle.byte_mem.specs.Memory.{Memory, live_size, fill}
use Rattle.host_calls.specs.declared.names.HostName.{HostName}
use Rattle.host_calls.specs.declared.names.HostName.TheVariants.{Getchar, Putchar, Exit, Abort, Malloc, Free, Memset}
use Rattle.host_calls.specs.Host.{HostState, Outcome, byte_of, heap_limit, undefined, with_number, getchar, putchar, malloc, free_object, free_named, free, filled, memset, number_arg, value_arg, with_value, called, values_of, result_of, parameters_of, same_result, have_kinds, host}

-- the output after a call begins with the one before
abbrev Adds : HostState → Outcome → Type 0
Adds s o = IsPrefix s.out o.1.out

number_adds : (s : HostState) (o : Option ℤ) (next : ℤ → Outcome) → ((n : ℤ) → Adds s (next n)) → Adds s (with_number s o next)
number_adds s (Some n) next h = h n
number_adds s None next h = IsPrefix-refl s.out

value_adds : (s : HostState) (o : Option Value) (next : Value → Outcome) → ((v : Value) → Adds s (next v)) → Adds s (with_value s o next)
value_adds s (Some v) next h = h v
value_adds s None next h = IsPrefix-refl s.out

getchar_adds : (s : HostState) (o : Option (Option ℕ)) → Adds s (getchar s o)
getchar_adds s (Some (Some b)) = IsPrefix-refl s.out
getchar_adds s (Some None) = IsPrefix-refl s.out
getchar_adds s None = IsPrefix-refl s.out

chosen_adds : (s : HostState) (b : Bool) (x y : Outcome) → Adds s x → Adds s y → Adds s (if b then x else y)
chosen_adds s true x y h k = h
chosen_adds s false x y h k = k

object_adds : (s : HostState) (i : ℕ) (o : Option ℕ) → Adds s (free_object s i o)
object_adds s i (Some size) = IsPrefix-refl s.out
object_adds s i None = IsPrefix-refl s.out

named_adds : (s : HostState) (name : ObjName) → Adds s (free_named s name)
named_adds s (Entity e) = IsPrefix-refl s.out
named_adds s (Local act i) = IsPrefix-refl s.out
named_adds s (Literal i) = IsPrefix-refl s.out
named_adds s (Heap i) = object_adds s i (live_size s.memory (Heap i))
named_adds s (Argument i) = IsPrefix-refl s.out

free_adds : (s : HostState) (v : Value) → Adds s (free s v)
free_adds s (Int n) = chosen_adds s (int_eq n (pos 0)) _ _ (IsPrefix-refl s.out) (IsPrefix-refl s.out)
free_adds s (Ptr p) = chosen_adds s (int_eq p.offset (pos 0)) _ _ (named_adds s p.name) (IsPrefix-refl s.out)
free_adds s Unknown = IsPrefix-refl s.out
free_adds s (Part p k) = IsPrefix-refl s.out

filled_adds : (s : HostState) (p : Pointer) (o : Option Memory) → Adds s (filled s p o)
filled_adds s p (Some m) = IsPrefix-refl s.out
filled_adds s p None = IsPrefix-refl s.out

memset_adds : (s : HostState) (v : Value) (b n : ℕ) → Adds s (memset s v b n)
memset_adds s (Int v) b n = IsPrefix-refl s.out
memset_adds s (Ptr p) b n = filled_adds s p (fill s.memory p n b)
memset_adds s Unknown b n = IsPrefix-refl s.out
memset_adds s (Part p k) b n = IsPrefix-refl s.out

called_adds : (name : HostName) (values : List Value) (s : HostState) → Adds s (called name values s)
called_adds Getchar values s = getchar_adds s s.ready
called_adds Putchar values s = number_adds s (number_arg values 0) (λ n. putchar s (byte_of n)) (λ n. (byte_of n ∷ [], refl))
called_adds Exit values s = number_adds s (number_arg values 0) _ (λ n. IsPrefix-refl s.out)
called_adds Abort values s = IsPrefix-refl s.out
called_adds Malloc values s = number_adds s (number_arg values 0) (λ n. malloc s (unsigned_abs n)) (λ n. chosen_adds s (nat_lt heap_limit (s.live + unsigned_abs n)) _ _ (IsPrefix-refl s.out) (IsPrefix-refl s.out))
called_adds Free values s = value_adds s (value_arg values 0) (free s) (free_adds s)
called_adds Memset values s =
    value_adds s (value_arg values 0) (λ v. with_number s (number_arg values 1) (λ c. with_number s (number_arg values 2) (λ n. memset s v (byte_of c) (unsigned_abs n))))
    (λ v. number_adds s (number_arg values 1) (λ c. with_number s (number_arg values 2) (λ n. memset s v (byte_of c) (unsigned_abs n)))
    (λ c. number_adds s (number_arg values 2) (λ n. memset s v (byte_of c) (unsigned_abs n)) (λ n. memset_adds s v (byte_of c) (unsigned_abs n))))

pub host_adds : (abi : Abi) (name : HostName) (wanted : Option Scalar) (args : List (Scalar × Value)) (s : HostState) → IsPrefix s.out (host abi name wanted args s).1.out
host_adds abi name wanted args s = chosen_adds s (same_result (result_of abi name) wanted && have_kinds (parameters_of abi name) args) (called name (values_of args) s) (undefined s) (called_adds name (values_of args) s) (IsPrefix-refl s.out)
