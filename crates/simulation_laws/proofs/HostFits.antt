-- Device: each row of the host gives a value of its kind.
use Rattle.std.proofs.Common.{◌≡◌, ℕ, ◌+◌, ◌<◌, ◌^◌, Bool, true, false, cond, ◌&&◌, List, Option, Some, None, ℤ, pos, negsuc, refl, ap, subst, arith, lit<}
use Rattle.std.specs.Prelude.{nat_lt, unsigned_abs}
use Rattle.std.specs.Ordering.{int_eq}
use Rattle.std.proofs.lemmas.Int.{ints}
use Rattle.cil_base.specs.declared.kinds.Abi.{Abi}
use Rattle.cil_base.specs.declared.kinds.IntKind.TheVariants.{Int as Int', ULong, ULong4}
use Rattle.cil_base.specs.declared.kinds.Abi.TheVariants.{Lp64, Ilp32}
use Rattle.cil_base.specs.Integer.{IsOf}
use Rattle.cil_base.proofs.IntegerLaws.{wrapped_value}
use Rattle.cil_base.proofs.KindLaws.{kind_told}
use Rattle.byte_mem.specs.declared.pointers.ObjName.{ObjName}
use Rattle.byte_mem.specs.declared.pointers.ObjName.TheVariants.{Entity, Local, Literal, Heap, Argument}
use Rattle.byte_mem.specs.declared.pointers.Pointer.{Pointer}
use Rattle.byte_mem.specs.declared.values.Byte.TheVariants.{Unknown as Blank}
use Rattle.byte_mem.specs.declared.values.Scalar.{Scalar}
use Rattle.byte_mem.specs.declared.values.Scalar.TheVariants.{Int as OfKind, Ptr as OfPointer}
use Rattle.byte_mem.specs.declared.values.Value.{Value}
use Rattle.byte_mem.specs.declared.values.Value.TheVariants.{Int, Ptr, Unknown, Part}
use Rattle.byte_mem.specs.Scalar.{IsValue}
use Rattle.byte_mem.specs.Memory.{Memory, make, live_size, fill}
use Rattle.byte_mem.proofs.AgainLemmas.{reduced_below}
use Rattle.host_calls.specs.declared.names.HostName.{HostName}
use Rattle.host_calls.specs.declared.names.HostName.TheVariants.{Getchar, Putchar, Exit, Abort, Malloc, Free, Memset}
use Rattle.host_calls.specs.declared.calls.HostResult.TheVariants.{Value as Gives, Exit as Ends}
use Rattle.host_calls.specs.Host.{HostState, Outcome, heap_limit, undefined, with_number, with_value, byte_of, getchar, putchar, malloc, free_object, free_named, free, filled, memset, value_arg, number_arg, values_of, called, same_scalar, same_result, result_of, have_kinds, parameters_of}
use Rattle.simulation_laws.specs.Fitting.{IsReady, FitsResult, HostFits}

pub scalar_told : (s t : Scalar) → same_scalar s t ≡ true → s ≡ t
scalar_told (OfKind a) (OfKind b) e = ap OfKind (kind_told a b e)
scalar_told (OfKind a) OfPointer e = cc
scalar_told OfPointer (OfKind b) e = cc
scalar_told OfPointer OfPointer e = refl

result_told : (s t : Option Scalar) → same_result s t ≡ true → s ≡ t
result_told None None e = refl
result_told None (Some t) e = cc
result_told (Some s) None e = cc
result_told (Some s) (Some t) e = ap Some (scalar_told s t e)

byte_fits : (b : ℕ) → b < 2 ^ 8 → IsOf Int' (pos b)
byte_fits b h = (omega (arith, ints), omega (arith, ints))

end_fits : IsOf Int' (negsuc 0)
end_fits = (omega (arith, ints), omega (arith, ints))

Fits : Abi → Option Scalar → Outcome → Type 0
Fits abi wanted o = FitsResult abi wanted o.0

numbers : (abi : Abi) (wanted : Option Scalar) (s : HostState) (o : Option ℤ) (next : ℤ → Outcome) → ((n : ℤ) → Fits abi wanted (next n)) → Fits abi wanted (with_number s o next)
unfolding Fits
numbers abi wanted s None next h = tt
numbers abi wanted s (Some n) next h = h n

values : (abi : Abi) (wanted : Option Scalar) (s : HostState) (o : Option Value) (next : Value → Outcome) → ((v : Value) → Fits abi wanted (next v)) → Fits abi wanted (with_value s o next)
unfolding Fits
values abi wanted s None next h = tt
values abi wanted s (Some v) next h = h v

choice : (abi : Abi) (wanted : Option Scalar) (b : Bool) (o u : Outcome) → Fits abi wanted o → Fits abi wanted u → Fits abi wanted (cond b o u)
choice abi wanted true o u h k = h
choice abi wanted false o u h k = k

getchar_fits : (abi : Abi) (s : HostState) (o : Option (Option ℕ)) → IsReady o → Fits abi (Some (OfKind Int')) (getchar s o)
unfolding Fits
getchar_fits abi s None r = tt
getchar_fits abi s (Some None) r = end_fits
getchar_fits abi s (Some (Some b)) r = byte_fits b r

free_object_fits : (abi : Abi) (s : HostState) (i : ℕ) (o : Option ℕ) → Fits abi None (free_object s i o)
unfolding Fits
free_object_fits abi s i None = tt
free_object_fits abi s i (Some n) = tt

free_named_fits : (abi : Abi) (s : HostState) (n : ObjName) → Fits abi None (free_named s n)
unfolding Fits
free_named_fits abi s (Heap i) = free_object_fits abi s i (live_size s.memory (Heap i))
free_named_fits abi s (Entity e) = tt
free_named_fits abi s (Local a l) = tt
free_named_fits abi s (Literal i) = tt
free_named_fits abi s (Argument i) = tt

free_fits : (abi : Abi) (s : HostState) (v : Value) → Fits abi None (free s v)
unfolding Fits
free_fits abi s (Int n) = choice abi None (int_eq n (pos 0)) (Gives Unknown, s) (undefined s) tt tt
free_fits abi s (Ptr p) = choice abi None (int_eq p.offset (pos 0)) (free_named s p.name) (undefined s) (free_named_fits abi s p.name) tt
free_fits abi s Unknown = tt
free_fits abi s (Part p k) = tt

filled_fits : (abi : Abi) (s : HostState) (p : Pointer) (o : Option Memory) → Fits abi (Some OfPointer) (filled s p o)
unfolding Fits
filled_fits abi s p None = tt
filled_fits abi s p (Some m) = refl

memset_fits : (abi : Abi) (s : HostState) (v : Value) (b n : ℕ) → Fits abi (Some OfPointer) (memset s v b n)
unfolding Fits
memset_fits abi s (Ptr p) b n = filled_fits abi s p (fill s.memory p n b)
memset_fits abi s (Int k) b n = tt
memset_fits abi s Unknown b n = tt
memset_fits abi s (Part p k) b n = tt

null_fits : (abi : Abi) → IsValue abi OfPointer (Int (pos 0))
null_fits Lp64 = wrapped_value ULong (pos 0)
null_fits Ilp32 = wrapped_value ULong4 (pos 0)

malloc_fits : (abi : Abi) (s : HostState) (n : ℕ) → Fits abi (Some OfPointer) (malloc s n)
unfolding Fits
malloc_fits abi s n = choice abi (Some OfPointer) (nat_lt heap_limit (s.live + n)) (Gives (Int (pos 0)), s)
    (Gives (Ptr (record { name = Heap s.heap; offset = pos 0 })), record s { memory = make s.memory (Heap s.heap) n Blank false; live = s.live + n; heap = s.heap + 1 }) (null_fits abi) refl

row_fits : (abi : Abi) (name : HostName) (vs : List Value) (s : HostState) → IsReady s.ready → Fits abi (result_of abi name) (called name vs s)
unfolding Fits
row_fits abi Getchar vs s r = getchar_fits abi s s.ready r
row_fits abi Putchar vs s r = numbers abi (Some (OfKind Int')) s (number_arg vs 0) (λ n. putchar s (byte_of n)) (λ n. byte_fits (byte_of n) (reduced_below (2 ^ 8) n (lit< tt)))
row_fits abi Exit vs s r = numbers abi None s (number_arg vs 0) (λ n. (Ends (byte_of n), s)) (λ n. tt)
row_fits abi Abort vs s r = tt
row_fits abi Malloc vs s r = numbers abi (Some OfPointer) s (number_arg vs 0) (λ n. malloc s (unsigned_abs n)) (λ n. malloc_fits abi s (unsigned_abs n))
row_fits abi Free vs s r = values abi None s (value_arg vs 0) (λ v. free s v) (λ v. free_fits abi s v)
row_fits abi Memset vs s r =
    values abi (Some OfPointer) s (value_arg vs 0) (λ v. with_number s (number_arg vs 1) (λ c. with_number s (number_arg vs 2) (λ n. memset s v (byte_of c) (unsigned_abs n))))
    (λ v. numbers abi (Some OfPointer) s (number_arg vs 1) (λ c. with_number s (number_arg vs 2) (λ n. memset s v (byte_of c) (unsigned_abs n)))
    (λ c. numbers abi (Some OfPointer) s (number_arg vs 2) (λ n. memset s v (byte_of c) (unsigned_abs n)) (λ n. memset_fits abi s v (byte_of c) (unsigned_abs n))))

pub host_fits : HostFits
unfolding Fits
host_fits abi name wanted args s r = by (same_result (result_of abi name) wanted) (have_kinds (parameters_of abi name) args) refl
  where
    by : (b c : Bool) → same_result (result_of abi name) wanted ≡ b → FitsResult abi wanted (cond (b && c) (called name (values_of args) s) (undefined s)).0
    by true true e = subst (λ (w : Option Scalar). FitsResult abi w (called name (values_of args) s).0) (result_told (result_of abi name) wanted e) (row_fits abi name (values_of args) s r)
    by true false e = tt
    by false c e = tt
