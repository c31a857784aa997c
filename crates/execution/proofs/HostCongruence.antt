-- Device: a call of the host keeps likeness where the host itself does.
use Rattle.std.proofs.Common.{◌≡◌, List, [], ◌∷◌, Option, Some, None, refl, sym, ap, subst, arith}
use Rattle.cil_base.specs.declared.kinds.Abi.{Abi}
use Rattle.cil_base.specs.Outcome.{IsPrefix}
use Rattle.byte_mem.specs.declared.values.Scalar.{Scalar}
use Rattle.byte_mem.specs.declared.values.Value.{Value}
use Rattle.host_calls.specs.declared.names.HostName.{HostName}
use Rattle.host_calls.specs.declared.calls.HostResult.{HostResult}
use Rattle.host_calls.specs.declared.calls.HostResult.TheVariants.{Value as Gives, Exit as Ends, Undefined as Breaks, NeedsInput, Memory as WantOfMemory}
use Rattle.host_calls.specs.Host.{HostState, host}
use Rattle.execution.specs.States.{State, Result, Undefined, last, given}
use Rattle.execution.specs.Data.{Kind, OfVoid, OfScalar, OfAggregate, Datum, Single, Bytes, Argument}
use Rattle.execution.specs.Calls.{Call, host_state, host_gave, host_outcome, scalar_argument, scalar_arguments, scalar_result, host_called}
use Rattle.execution.specs.Likeness.{Ending, Exact, Past, Later, Likeness, ends, Like, Computes, DataRelation, LikeArguments, LikeScalars, KeepsForms}
use Rattle.execution.proofs.Congruence.{later_refl, given_grows, given_like, gives_so, gives_bind, needed}
use Rattle.execution.proofs.HostOutput.{host_adds}

-- the host only writes, and spends nothing

gave_grows : (name : HostName) (s : State) (r : HostResult) (h : HostState) → IsPrefix s.out h.out → Later s (last (host_gave name s r h))
gave_grows name s (Gives v) h p = record { written = p; spent = omega arith }
gave_grows name s (Ends status) h p = record { written = p; spent = omega arith }
gave_grows name s Breaks h p = later_refl s
gave_grows name s NeedsInput h p = later_refl s
gave_grows name s WantOfMemory h p = later_refl s

pub outcome_grows : (abi : Abi) (name : HostName) (wanted : Option Scalar) (args : List (Scalar × Value)) (s : State) → Later s (last (host_outcome name s (host abi name wanted args (host_state s))))
outcome_grows abi name wanted args s = gave_grows name s (host abi name wanted args (host_state s)).0 (host abi name wanted args (host_state s)).1 (host_adds abi name wanted args (host_state s))

-- what the host is given of arguments that are alike

abbrev LikeScalar : DataRelation → Scalar × Value → Scalar × Value → Type 0
LikeScalar V x y = (y.0 ≡ x.0) × V (Single x.1) (Single y.1)

scalar_like : (V : DataRelation) → KeepsForms V → (kind : Option Kind) (d e : Datum) → V d e → Computes Exact (LikeScalar V) (scalar_argument kind d) (scalar_argument kind e)
scalar_like V k None d e h = refl
scalar_like V k (Some OfVoid) d e h = refl
scalar_like V k (Some (OfAggregate size)) d e h = refl
scalar_like V k (Some (OfScalar s)) (Single v) e h =
    let w = k.single v e h in
    ((s, w.0), (refl, subst (V (Single v)) w.1 h), ap (scalar_argument (Some (OfScalar s))) w.1)
scalar_like V k (Some (OfScalar s)) (Bytes bs) e h = ap (scalar_argument (Some (OfScalar s))) (k.bytes bs e h).1

arguments_given : (V : DataRelation) → KeepsForms V → (xs ys : List Argument) → LikeArguments V xs ys → Computes Exact (LikeScalars V) (scalar_arguments xs) (scalar_arguments ys)
arguments_given V k [] [] l = ([], tt, refl)
arguments_given V k [] (b ∷ ys) l = absurd l
arguments_given V k (a ∷ xs) [] l = absurd l
arguments_given V k (a ∷ xs) (b ∷ ys) l =
    gives_bind Exact (LikeScalar V) (LikeScalars V) (scalar_argument a.kind a.datum) (scalar_argument b.kind b.datum) _ _ (subst (λ x. Computes Exact (LikeScalar V) (scalar_argument a.kind a.datum) (scalar_argument x b.datum)) (sym l.0) (scalar_like V k a.kind a.datum b.datum l.1)) (λ x y h.
    gives_bind Exact (LikeScalars V) (LikeScalars V) (scalar_arguments xs) (scalar_arguments ys) _ _ (arguments_given V k xs ys l.2) (λ more rest i. (y ∷ rest, (h.0, h.1, i), refl)))

pub scalars_like : (e : Ending) (V : DataRelation) → KeepsForms V → (xs ys : List Argument) → LikeArguments V xs ys → Computes e (LikeScalars V) (scalar_arguments xs) (scalar_arguments ys)
scalars_like e V k xs ys l = gives_so e (LikeScalars V) (scalar_arguments xs) (scalar_arguments ys) (arguments_given V k xs ys l)

-- what both compute is the same, and it is known
abbrev Known : Option (Option Scalar) → Option Scalar → Option Scalar → Type 0
Known o x y = (y ≡ x) × (o ≡ Some x)

gives_known : (e : Ending) (o : Option (Option Scalar)) → Computes e (Known o) o o
gives_known e (Some x) = (x, (refl, refl), refl)
gives_known Exact None = refl
gives_known Past None = tt

-- a call of the host, where it answers alike what is alike by Q, for the result that the caller's kind asks for
pub host_like : (L : Likeness) (Q : List (Scalar × Value) → List (Scalar × Value) → Type 0) (name : HostName) (c d : Call) (s t : State) → d.result ≡ c.result
    → Computes L.wild Q (scalar_arguments c.arguments) (scalar_arguments d.arguments) → ends {B = Datum} L.wild L Undefined s (Undefined t)
    → ((wanted : Option Scalar) → scalar_result c.result ≡ Some wanted → (xs ys : List (Scalar × Value)) → Q xs ys → Like L L.values (host_outcome name s (host c.abi name wanted xs (host_state s))) (host_outcome name t (host d.abi name wanted ys (host_state t))))
    → Like L L.values (host_called name c s) (host_called name d t)
host_like L Q name c d s t r g w k =
    given_like L (Known (scalar_result c.result)) L.values s t (scalar_result c.result) (scalar_result d.result) (asked c s) (asked d t)
    (subst (λ x. Computes L.wild (Known (scalar_result c.result)) (scalar_result c.result) (scalar_result x)) (sym r) (gives_known L.wild (scalar_result c.result)))
    (λ x y i. given_like L Q L.values s t (scalar_arguments c.arguments) (scalar_arguments d.arguments) (answered c s x) (answered d t y) g
    (λ xs ys h. subst (λ z. Like L L.values (answered c s x xs) (answered d t z ys)) (sym i.0) (k x i.1 xs ys h)) w (needed L.wild (λ ys. outcome_grows d.abi name y ys t)))
    w (needed L.wild (λ y. given_grows t (scalar_arguments d.arguments) (answered d t y) (λ ys. outcome_grows d.abi name y ys t)))
  where
    answered : Call → State → Option Scalar → List (Scalar × Value) → Result Datum
    answered c s wanted args = host_outcome name s (host c.abi name wanted args (host_state s))

    asked : Call → State → Option Scalar → Result Datum
    asked c s wanted = given s (scalar_arguments c.arguments) (answered c s wanted)
