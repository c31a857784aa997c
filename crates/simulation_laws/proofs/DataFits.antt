-- Device: data that are loaded fit their kinds, and what fits comes back as it was stored.
use Rattle.std.proofs.Common.{◌≡◌, ℕ, suc, ◌+◌, ◌≤◌, List, [], ◌∷◌, length, drop, Option, Some, None, IfSome, option_map, ℤ, refl, sym, ap, ◌∙◌, subst, arith, length-take, length-drop}
use Rattle.cil_base.specs.declared.kinds.Abi.{Abi}
use Rattle.byte_mem.specs.declared.pointers.Pointer.{Pointer}
use Rattle.byte_mem.specs.declared.values.Byte.{Byte}
use Rattle.byte_mem.specs.declared.values.Byte.TheVariants.{Unknown as Blank}
use Rattle.byte_mem.specs.declared.values.Scalar.{Scalar}
use Rattle.byte_mem.specs.declared.values.Value.{Value}
use Rattle.byte_mem.specs.declared.values.Value.TheVariants.{Int, Ptr, Unknown, Part}
use Rattle.byte_mem.specs.Steps.{◌>>=◌}
use Rattle.byte_mem.specs.Scalar.{IsValue}
use Rattle.byte_mem.specs.Object.{Held, inside, part_at, load_part}
use Rattle.byte_mem.specs.Memory.{Memory, load, load_bytes}
use Rattle.byte_mem.proofs.AgainLemmas.{inside_room, load_again, load_bytes_again}
use Rattle.byte_mem.proofs.ObjectLemmas.{replicate_long}
use Rattle.host_calls.specs.declared.names.HostName.{HostName}
use Rattle.host_calls.specs.declared.calls.HostResult.{HostResult}
use Rattle.host_calls.specs.declared.calls.HostResult.TheVariants.{Value as Gives, Exit as Ends, Undefined, NeedsInput, Memory as WantOfMemory}
use Rattle.host_calls.specs.Host.{Outcome, host}
use Rattle.execution.specs.States.{State, given}
use Rattle.execution.specs.Data.{Kind, OfVoid, OfScalar, OfAggregate, Datum, Single, Bytes, load_from, load_datum, store_to, store_datum, unknown}
use Rattle.execution.specs.Calls.{Call, ready, input_after, host_state, host_outcome, scalar_arguments, scalar_result, host_called}
use Rattle.simulation_laws.specs.Fitting.{IsReady, FitsWanted, FitsResult}
use Rattle.simulation_laws.specs.Fitted.{AreBytes, FitsKind, FitsAny, GivesKind, DataFit}
use Rattle.simulation_laws.proofs.Fits.{loaded_fits}
use Rattle.simulation_laws.proofs.HostFits.{host_fits}

single_fits : (abi : Abi) (s : Scalar) (o : Option Value) → IfSome o (IsValue abi s) → IfSome (option_map Single o) (FitsKind abi (OfScalar s))
single_fits abi s None h = tt
single_fits abi s (Some v) h = h

part_long : (i n : ℕ) (bytes : List Byte) → i + n ≤ length bytes → length (part_at i n bytes) ≡ n
part_long i n bytes h = omega (arith, length-take n (drop i bytes), length-drop i bytes)

held_bytes : (abi : Abi) (n : ℕ) (offset : ℤ) (h : Held) → IfSome (option_map Bytes (load_part h offset n)) (FitsKind abi (OfAggregate n))
held_bytes abi n offset h = by (inside offset n (length h.bytes)) (λ i e. inside_room offset n (length h.bytes) i e)
  where
    by : (o : Option ℕ) → ((i : ℕ) → o ≡ Some i → i + n ≤ length h.bytes) → IfSome (option_map Bytes (o >>= λ i. Some (part_at i n h.bytes))) (FitsKind abi (OfAggregate n))
    by None r = tt
    by (Some i) r = part_long i n h.bytes (r i refl)

bytes_fit : (abi : Abi) (m : Memory) (n : ℕ) (p : Pointer) → IfSome (option_map Bytes (load_bytes m p n)) (FitsKind abi (OfAggregate n))
bytes_fit abi m n p = by (m p.name)
  where
    by : (o : Option Held) → IfSome (option_map Bytes (o >>= λ (h : Held). load_part h p.offset n)) (FitsKind abi (OfAggregate n))
    by None = tt
    by (Some h) = held_bytes abi n p.offset h

from_fits : (abi : Abi) (m : Memory) (kind : Kind) (p : Pointer) → IfSome (load_from abi m kind p) (FitsKind abi kind)
from_fits abi m OfVoid p = tt
from_fits abi m (OfScalar s) p = single_fits abi s (load abi m p s) (loaded_fits abi m p s)
from_fits abi m (OfAggregate n) p = bytes_fit abi m n p

datum_fits : (abi : Abi) (m : Memory) (kind : Kind) (place : Value) → IfSome (load_datum abi m kind place) (FitsKind abi kind)
datum_fits abi m kind (Int n) = tt
datum_fits abi m kind (Ptr p) = from_fits abi m kind p
datum_fits abi m kind Unknown = tt
datum_fits abi m kind (Part p k) = tt

unknown_fits : (abi : Abi) (kind : Kind) → FitsKind abi kind (unknown kind)
unknown_fits abi OfVoid = tt
unknown_fits abi (OfScalar s) = tt
unknown_fits abi (OfAggregate n) = replicate_long n Blank

to_again : (abi : Abi) (m n : Memory) (kind : Kind) (p : Pointer) (d : Datum) → FitsKind abi kind d → store_to abi m kind p d ≡ Some n → load_from abi n kind p ≡ Some d
to_again abi m n OfVoid p d h e = cc
to_again abi m n (OfScalar s) p (Single v) h e = ap (option_map Single) (load_again abi m n p s v h e)
to_again abi m n (OfScalar s) p (Bytes bytes) h e = absurd h
to_again abi m n (OfAggregate size) p (Single v) h e = absurd h
to_again abi m n (OfAggregate size) p (Bytes bytes) h e = ap (λ k. option_map Bytes (load_bytes n p k)) (sym h) ∙ ap (option_map Bytes) (load_bytes_again m n p bytes e)

datum_again : (abi : Abi) (m n : Memory) (kind : Kind) (place : Value) (d : Datum) → FitsKind abi kind d → store_datum abi m kind place d ≡ Some n → load_datum abi n kind place ≡ Some d
datum_again abi m n kind (Int k) d h e = cc
datum_again abi m n kind (Ptr p) d h e = to_again abi m n kind p d h e
datum_again abi m n kind Unknown d h e = cc
datum_again abi m n kind (Part p k) d h e = cc

-- the host

wanted_fits : (abi : Abi) (kind : Option Kind) (wanted : Option Scalar) → scalar_result kind ≡ Some wanted → (v : Value) → FitsWanted abi wanted v → FitsAny abi kind (Single v)
wanted_fits abi None wanted e v h = tt
wanted_fits abi (Some OfVoid) wanted e v h = tt
wanted_fits abi (Some (OfScalar s)) wanted e v h = subst (λ (w : Option Scalar). FitsWanted abi w v) (same wanted (Some s) e) h
  where
    same : (a b : Option Scalar) → Some b ≡ Some a → a ≡ b
    same a b e = cc
wanted_fits abi (Some (OfAggregate size)) wanted e v h = cc

outcome_gives : (name : HostName) (c : Call) (s : State) (wanted : Option Scalar) → scalar_result c.result ≡ Some wanted → (o : Outcome) → FitsResult c.abi wanted o.0 → GivesKind c.abi c.result (host_outcome name s o)
outcome_gives name c s wanted e o h = by o.0 h
  where
    by : (r : HostResult) → FitsResult c.abi wanted r → GivesKind c.abi c.result (host_outcome name s (r, o.1))
    by (Gives v) h = wanted_fits c.abi c.result wanted e v h
    by (Ends status) h = tt
    by Undefined h = tt
    by NeedsInput h = tt
    by WantOfMemory h = tt

pub host_gives : (name : HostName) (c : Call) (s : State) → IsReady (ready s.input) → GivesKind c.abi c.result (host_called name c s)
host_gives name c s r = by (scalar_result c.result) refl
  where
    arguments : (wanted : Option Scalar) → scalar_result c.result ≡ Some wanted → (o : Option (List (Scalar × Value))) → GivesKind c.abi c.result (given s o (λ args. host_outcome name s (host c.abi name wanted args (host_state s))))
    arguments wanted e None = tt
    arguments wanted e (Some args) = outcome_gives name c s wanted e (host c.abi name wanted args (host_state s)) (host_fits c.abi name wanted args (host_state s) r)

    by : (o : Option (Option Scalar)) → scalar_result c.result ≡ o → GivesKind c.abi c.result (given s o (λ wanted. given s (scalar_arguments c.arguments) (λ args. host_outcome name s (host c.abi name wanted args (host_state s)))))
    by None e = tt
    by (Some wanted) e = arguments wanted e (scalar_arguments c.arguments)

pub ready_bytes : (input : List ℕ) → AreBytes input → IsReady (ready input)
ready_bytes [] h = tt
ready_bytes (b ∷ input) h = h 0 b (omega arith)

pub left_bytes : (next : Option (Option ℕ)) (input : List ℕ) → AreBytes input → AreBytes (input_after next input)
left_bytes (Some next) input h = h
left_bytes None [] h = h
left_bytes None (b ∷ input) h = λ k d l. h (suc k) d (omega (arith, l))

pub data_fit : DataFit
data_fit = record { ready = ready_bytes; left = left_bytes; loaded = datum_fits; unknown = unknown_fits; again = datum_again; host = host_gives }
