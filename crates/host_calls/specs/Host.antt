-- Definition: the host's functions (C11 7.21.7, 7.22.3, 7.22.4; own): from the name, the kind of the call's result, the arguments with their kinds and the state to the result and the state after it.
use Rattle.std.specs.Prelude.{ℕ, ◌+◌, ◌-◌, ◌^◌, Bool, true, false, ◌&&◌, nat_lt, if◌then◌else◌, List, [], ◌∷◌, ◌++◌, codes, slice_get, Option, Some, None, ℤ, pos, negsuc, unsigned_abs}
use Rattle.std.specs.Ordering.{int_eq}
use Rattle.cil_base.specs.declared.kinds.Abi.{Abi}
use Rattle.cil_base.specs.declared.kinds.IntKind.TheVariants.{Int as Int'}
use Rattle.cil_base.specs.Kinds.{same_kind}
use Rattle.cil_base.specs.Integer.{reduced, ulong_of}
use Rattle.byte_mem.specs.declared.pointers.ObjName.{ObjName}
use Rattle.byte_mem.specs.declared.pointers.ObjName.TheVariants.{Heap}
use Rattle.byte_mem.specs.declared.pointers.Pointer.{Pointer}
use Rattle.byte_mem.specs.declared.values.Byte.TheVariants.{Unknown as Blank}
use Rattle.byte_mem.specs.declared.values.Scalar.{Scalar}
use Rattle.byte_mem.specs.declared.values.Scalar.TheVariants.{Int as OfKind, Ptr as OfPointer}
use Rattle.byte_mem.specs.declared.values.Value.{Value}
use Rattle.byte_mem.specs.declared.values.Value.TheVariants.{Int, Ptr, Unknown, Part}
use Rattle.byte_mem.specs.Steps.{◌>>=◌}
use Rattle.byte_mem.specs.Memory.{Memory, make, end_object, live_size, fill}
use Rattle.byte_mem.specs.Operator.{number_in}
use Rattle.host_calls.specs.declared.names.HostName.{HostName}
use Rattle.host_calls.specs.declared.names.HostName.TheVariants.{Getchar, Putchar, Exit, Abort, Malloc, Free, Memset}
use Rattle.host_calls.specs.declared.calls.HostResult.{HostResult}
use Rattle.host_calls.specs.declared.calls.HostResult.TheVariants.{Value as Gives, Exit as Ends, Undefined, NeedsInput}

-- the name of each function
abbrev pub text_of : HostName → List ℕ
text_of Getchar = codes "getchar"
text_of Putchar = codes "putchar"
text_of Exit = codes "exit"
text_of Abort = codes "abort"
text_of Malloc = codes "malloc"
text_of Free = codes "free"
text_of Memset = codes "__builtin_memset"

-- the kind of each function's result; none for void
abbrev pub result_of : Abi → HostName → Option Scalar
result_of abi Getchar = Some (OfKind Int')
result_of abi Putchar = Some (OfKind Int')
result_of abi Exit = None
result_of abi Abort = None
result_of abi Malloc = Some OfPointer
result_of abi Free = None
result_of abi Memset = Some OfPointer

-- the kinds of each function's parameters
abbrev pub parameters_of : Abi → HostName → List Scalar
parameters_of abi Getchar = []
parameters_of abi Putchar = OfKind Int' ∷ []
parameters_of abi Exit = OfKind Int' ∷ []
parameters_of abi Abort = []
parameters_of abi Malloc = OfKind (ulong_of abi) ∷ []
parameters_of abi Free = OfPointer ∷ []
parameters_of abi Memset = OfPointer ∷ OfKind Int' ∷ OfKind (ulong_of abi) ∷ []

-- the state that the host's functions see
pub record HostState : Type 0 where
  pub memory : Memory
  pub ready : Option (Option ℕ)
  pub out : List ℕ
  pub live : ℕ
  pub heap : ℕ

-- the most bytes of live objects that malloc makes (own)
abbrev pub heap_limit : ℕ
heap_limit = 67108864

-- a call's result, and the state after it
abbrev pub Outcome : Type 0
Outcome = HostResult × HostState

-- a number as a byte: converted to unsigned char (C11 7.21.7.3p2)
abbrev pub byte_of : ℤ → ℕ
byte_of n = unsigned_abs (reduced (2 ^ 8) n)

-- an undefined call leaves the state as it was
abbrev pub undefined : HostState → Outcome
undefined s = (Undefined, s)

-- the number that an argument is; for what is no number the call is undefined (own)
abbrev pub with_number : HostState → Option ℤ → (ℤ → Outcome) → Outcome
with_number s (Some n) next = next n
with_number s None next = undefined s

-- C11 7.21.7.6: the next byte as an unsigned char converted to an int, or -1 at the end, which stays
abbrev pub getchar : HostState → Option (Option ℕ) → Outcome
getchar s (Some (Some b)) = (Gives (Int (pos b)), record s { ready = None })
getchar s (Some None) = (Gives (Int (negsuc 0)), s)
getchar s None = (NeedsInput, s)

-- C11 7.21.7.8, 7.21.7.3: the byte is written, and it is the result
abbrev pub putchar : HostState → ℕ → Outcome
putchar s b = (Gives (Int (pos b)), record s { out = s.out ++ b ∷ [] })

-- C11 7.22.3.4: an object whose bytes are indeterminate; null exactly where the bound would be passed (own)
abbrev pub malloc : HostState → ℕ → Outcome
malloc s n =
    if nat_lt heap_limit (s.live + n) then (Gives (Int (pos 0)), s)
    else (Gives (Ptr (record { name = Heap s.heap; offset = pos 0 })), record s { memory = make s.memory (Heap s.heap) n Blank false; live = s.live + n; heap = s.heap + 1 })

-- C11 7.22.3.3: a live object of malloc ends
abbrev pub free_object : HostState → ℕ → Option ℕ → Outcome
free_object s i (Some size) = (Gives Unknown, record s { memory = end_object s.memory (Heap i); live = s.live - size })
free_object s i None = undefined s

abbrev pub free_named : HostState → ObjName → Outcome
free_named s (Heap i) = free_object s i (live_size s.memory (Heap i))
free_named s n = undefined s

-- C11 7.22.3.3: nothing for null, and undefined for what is not the beginning of such an object
abbrev pub free : HostState → Value → Outcome
free s (Int n) = if int_eq n (pos 0) then (Gives Unknown, s) else undefined s
free s (Ptr p) = if int_eq p.offset (pos 0) then free_named s p.name else undefined s
free s Unknown = undefined s
free s (Part p k) = undefined s

abbrev pub filled : HostState → Pointer → Option Memory → Outcome
filled s p (Some m) = (Gives (Ptr p), record s { memory = m })
filled s p None = undefined s

-- n bytes from p on become b; undefined for what is no pointer to so many writable bytes
abbrev pub memset : HostState → Value → ℕ → ℕ → Outcome
memset s (Ptr p) b n = filled s p (fill s.memory p n b)
memset s v b n = undefined s

-- the value of the argument at a place, and the number that it is
abbrev pub value_arg : List Value → ℕ → Option Value
value_arg values i = slice_get values i

abbrev pub number_arg : List Value → ℕ → Option ℤ
number_arg values i = value_arg values i >>= number_in

abbrev pub with_value : HostState → Option Value → (Value → Outcome) → Outcome
with_value s (Some v) next = next v
with_value s None next = undefined s

-- a call with as many arguments as the row has
abbrev pub called : HostName → List Value → HostState → Outcome
called Getchar values s = getchar s s.ready
called Putchar values s = with_number s (number_arg values 0) (λ n. putchar s (byte_of n))
called Exit values s = with_number s (number_arg values 0) (λ n. (Ends (byte_of n), s))
called Abort values s = (Ends 134, s)
called Malloc values s = with_number s (number_arg values 0) (λ n. malloc s (unsigned_abs n))
called Free values s = with_value s (value_arg values 0) (λ v. free s v)
called Memset values s = with_value s (value_arg values 0) (λ v. with_number s (number_arg values 1) (λ c. with_number s (number_arg values 2) (λ n. memset s v (byte_of c) (unsigned_abs n))))

-- two kinds are the same
abbrev pub same_scalar : Scalar → Scalar → Bool
same_scalar (OfKind a) (OfKind b) = same_kind a b
same_scalar OfPointer OfPointer = true
same_scalar (OfKind a) OfPointer = false
same_scalar OfPointer (OfKind b) = false

abbrev pub same_result : Option Scalar → Option Scalar → Bool
same_result None None = true
same_result (Some s) (Some t) = same_scalar s t
same_result None (Some t) = false
same_result (Some s) None = false

-- the arguments have these kinds, and are as many
abbrev pub have_kinds : List Scalar → List (Scalar × Value) → Bool
have_kinds [] [] = true
have_kinds (s ∷ kinds) (a ∷ args) = same_scalar s a.0 && have_kinds kinds args
have_kinds [] (a ∷ args) = false
have_kinds (s ∷ kinds) [] = false

abbrev pub values_of : List (Scalar × Value) → List Value
values_of [] = []
values_of (a ∷ args) = a.1 ∷ values_of args

-- a call of a function of the host; undefined where the kinds differ from the row's (own)
abbrev pub host : Abi → HostName → Option Scalar → List (Scalar × Value) → HostState → Outcome
host abi name wanted args s =
    if same_result (result_of abi name) wanted && have_kinds (parameters_of abi name) args then called name (values_of args) s else undefined s
