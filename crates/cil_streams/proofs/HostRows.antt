-- The host does not look at the output, to which it only adds, and only getchar looks at what is ready.
use Rattle.std.proofs.Common.{◌≡◌, ℕ, ◌+◌, ◌≤◌, Bool, true, false, ◌&&◌, List, [], ◌∷◌, ◌++◌, Option, Some, None, ℤ, pos, length, refl, ap, append_assoc, arith, length-append}
use Rattle.std.specs.Prelude.{nat_lt, if◌then◌else◌, unsigned_abs}
use Rattle.std.specs.Ordering.{int_eq}
use Rattle.cil_base.specs.declared.kinds.Abi.{Abi}
use Rattle.byte_mem.specs.declared.pointers.ObjName.{ObjName}
use Rattle.byte_mem.specs.declared.pointers.ObjName.TheVariants.{Entity, Local, Literal, Heap, Argument}
use Rattle.byte_mem.specs.declared.pointers.Pointer.{Pointer}
use Rattle.byte_mem.specs.declared.values.Scalar.{Scalar}
use Rattle.byte_mem.specs.declared.values.Value.{Value}
use Rattle.byte_mem.specs.declared.values.Value.TheVariants.{Int, Ptr, Unknown, Part}
use Rattle.byte_mem.specs.Memory.{Memory, live_size, fill}
use Rattle.host_calls.specs.declared.names.HostName.{HostName}
use Rattle.host_calls.specs.declared.names.HostName.TheVariants.{Getchar, Putchar, Exit, Abort, Malloc, Free, Memset}
use Rattle.host_calls.specs.declared.calls.HostResult.{HostResult}
use Rattle.host_calls.specs.declared.calls.HostResult.TheVariants.{Value as Gives, Exit as Ends, Undefined, NeedsInput, Memory as WantOfMemory}
use Rattle.host_calls.specs.Host.{HostState, Outcome, byte_of, heap_limit, undefined, with_number, putchar, malloc, free_object, free_named, free, filled, memset, number_arg, value_arg, with_value, called, values_of, result_of, parameters_of, same_result, have_kinds, host}

-- the same state with output in front, and this ready
abbrev pub moved : List ℕ → Option (Option ℕ) → HostState → HostState
moved front next h = record h { ready = next; out = front ++ h.out }

abbrev pub shifted : List ℕ → Option (Option ℕ) → Outcome → Outcome
shifted front next o = (o.0, moved front next o.1)

-- with a value at most one byte of output comes, and a result without value leaves the state as it was; input and memory are not wanting
abbrev pub Leaves : HostState → HostResult → HostState → Type 0
Leaves h (Gives v) k = (k.ready ≡ h.ready) × (length k.out ≤ length h.out + 1)
Leaves h (Ends status) k = k ≡ h
Leaves h Undefined k = k ≡ h
Leaves h NeedsInput k = ⊥
Leaves h WantOfMemory k = ⊥

-- the second outcome is the first one, moved
pub record IsRow (front : List ℕ) (next : Option (Option ℕ)) (h : HostState) (o u : Outcome) : Type 0 where
  pub moves : u ≡ shifted front next o
  pub leaves : Leaves h o.0 o.1

module _ (front : List ℕ) (next : Option (Option ℕ)) (h : HostState) where
  undefined_row : IsRow front next h (undefined h) (undefined (moved front next h))
  undefined_row = record { moves = refl; leaves = refl }

  no_more_out : length h.out ≤ length h.out + 1
  no_more_out = omega arith

  number_row : (o : Option ℤ) (go far : ℤ → Outcome) → ((n : ℤ) → IsRow front next h (go n) (far n)) → IsRow front next h (with_number h o go) (with_number (moved front next h) o far)
  number_row (Some n) go far row = row n
  number_row None go far row = undefined_row

  value_row : (o : Option Value) (go far : Value → Outcome) → ((v : Value) → IsRow front next h (go v) (far v)) → IsRow front next h (with_value h o go) (with_value (moved front next h) o far)
  value_row (Some v) go far row = row v
  value_row None go far row = undefined_row

  chosen_row : (b : Bool) (o u p q : Outcome) → IsRow front next h o u → IsRow front next h p q → IsRow front next h (if b then o else p) (if b then u else q)
  chosen_row true o u p q yes_row no_row = yes_row
  chosen_row false o u p q yes_row no_row = no_row

  putchar_row : (b : ℕ) → IsRow front next h (putchar h b) (putchar (moved front next h) b)
  putchar_row b = record {
    moves = ap (λ out. (Gives (Int (pos b)), record h { ready = next; out = out })) (append_assoc front h.out (b ∷ []));
    leaves = (refl, omega (arith, length-append h.out (b ∷ [])));
  }

  malloc_row : (n : ℕ) → IsRow front next h (malloc h n) (malloc (moved front next h) n)
  malloc_row n = chosen_row (nat_lt heap_limit (h.live + n)) _ _ _ _ (record { moves = refl; leaves = (refl, no_more_out) }) (record { moves = refl; leaves = (refl, no_more_out) })

  object_row : (i : ℕ) (o : Option ℕ) → IsRow front next h (free_object h i o) (free_object (moved front next h) i o)
  object_row i (Some size) = record { moves = refl; leaves = (refl, no_more_out) }
  object_row i None = undefined_row

  named_row : (name : ObjName) → IsRow front next h (free_named h name) (free_named (moved front next h) name)
  named_row (Entity e) = undefined_row
  named_row (Local act i) = undefined_row
  named_row (Literal i) = undefined_row
  named_row (Heap i) = object_row i (live_size h.memory (Heap i))
  named_row (Argument i) = undefined_row

  free_row : (v : Value) → IsRow front next h (free h v) (free (moved front next h) v)
  free_row (Int n) = chosen_row (int_eq n (pos 0)) _ _ _ _ (record { moves = refl; leaves = (refl, no_more_out) }) undefined_row
  free_row (Ptr p) = chosen_row (int_eq p.offset (pos 0)) _ _ _ _ (named_row p.name) undefined_row
  free_row Unknown = undefined_row
  free_row (Part p k) = undefined_row

  filled_row : (p : Pointer) (o : Option Memory) → IsRow front next h (filled h p o) (filled (moved front next h) p o)
  filled_row p (Some m) = record { moves = refl; leaves = (refl, no_more_out) }
  filled_row p None = undefined_row

  memset_row : (v : Value) (b n : ℕ) → IsRow front next h (memset h v b n) (memset (moved front next h) v b n)
  memset_row (Int v) b n = undefined_row
  memset_row (Ptr p) b n = filled_row p (fill h.memory p n b)
  memset_row Unknown b n = undefined_row
  memset_row (Part p k) b n = undefined_row

-- each function but getchar
abbrev pub IsQuiet : HostName → Type 0
IsQuiet Getchar = ⊥
IsQuiet _ = Unit {0}

called_row : (front : List ℕ) (next : Option (Option ℕ)) (h : HostState) (name : HostName) (values : List Value) → IsQuiet name → IsRow front next h (called name values h) (called name values (moved front next h))
called_row front next h Getchar values quiet = absurd quiet
called_row front next h Putchar values quiet = number_row front next h (number_arg values 0) (λ n. putchar h (byte_of n)) (λ n. putchar (moved front next h) (byte_of n)) (λ n. putchar_row front next h (byte_of n))
called_row front next h Exit values quiet = number_row front next h (number_arg values 0) (λ n. (Ends (byte_of n), h)) (λ n. (Ends (byte_of n), moved front next h)) (λ n. record { moves = refl; leaves = refl })
called_row front next h Abort values quiet = record { moves = refl; leaves = refl }
called_row front next h Malloc values quiet = number_row front next h (number_arg values 0) (λ n. malloc h (unsigned_abs n)) (λ n. malloc (moved front next h) (unsigned_abs n)) (λ n. malloc_row front next h (unsigned_abs n))
called_row front next h Free values quiet = value_row front next h (value_arg values 0) (free h) (free (moved front next h)) (free_row front next h)
called_row front next h Memset values quiet =
    value_row front next h (value_arg values 0)
    (λ v. with_number h (number_arg values 1) (λ c. with_number h (number_arg values 2) (λ n. memset h v (byte_of c) (unsigned_abs n))))
    (λ v. with_number (moved front next h) (number_arg values 1) (λ c. with_number (moved front next h) (number_arg values 2) (λ n. memset (moved front next h) v (byte_of c) (unsigned_abs n))))
    (λ v. number_row front next h (number_arg values 1)
    (λ c. with_number h (number_arg values 2) (λ n. memset h v (byte_of c) (unsigned_abs n)))
    (λ c. with_number (moved front next h) (number_arg values 2) (λ n. memset (moved front next h) v (byte_of c) (unsigned_abs n)))
    (λ c. number_row front next h (number_arg values 2) (λ n. memset h v (byte_of c) (unsigned_abs n)) (λ n. memset (moved front next h) v (byte_of c) (unsigned_abs n))
    (λ n. memset_row front next h v (byte_of c) (unsigned_abs n))))

-- a call of each function but getchar
pub host_row : (front : List ℕ) (next : Option (Option ℕ)) (h : HostState) (abi : Abi) (name : HostName) (wanted : Option Scalar) (args : List (Scalar × Value)) → IsQuiet name
    → IsRow front next h (host abi name wanted args h) (host abi name wanted args (moved front next h))
host_row front next h abi name wanted args quiet =
    chosen_row front next h (same_result (result_of abi name) wanted && have_kinds (parameters_of abi name) args) _ _ _ _ (called_row front next h name (values_of args) quiet) (undefined_row front next h)
