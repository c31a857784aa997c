-- Device: calls on two sides where the first side's data say no more and fit their kinds: what a call gives fits the kind that its caller asked for, and its arguments need no kind.
use Rattle.std.proofs.Common.{◌≡◌, ℕ, suc, Bool, true, false, ◌&&◌, List, Option, Some, None, refl, sym, ap, ◌∙◌, subst}
use Rattle.cil_base.specs.declared.kinds.Abi.{Abi}
use Rattle.cil_base.specs.Outcome.{IsPrefix}
use Rattle.cil_base.proofs.OutcomeLaws.{IsPrefix-trans}
use Rattle.byte_mem.specs.declared.values.Scalar.{Scalar}
use Rattle.byte_mem.specs.declared.values.Value.{Value}
use Rattle.byte_mem.specs.Memory.{Memory, with_held}
use Rattle.byte_mem.specs.Below.{BelowValue, BelowMemory}
use Rattle.byte_mem.proofs.BelowLemmas.{with_below}
use Rattle.host_calls.specs.declared.names.HostName.{HostName}
use Rattle.host_calls.specs.declared.calls.HostResult.{HostResult}
use Rattle.host_calls.specs.declared.calls.HostResult.TheVariants.{Value as Gives, Exit as Ends, Undefined as Breaks, NeedsInput, Memory as WantOfMemory}
use Rattle.host_calls.specs.Host.{Outcome, host}
use Rattle.execution.specs.States.{State, Result, Goes, Exits, Running, Undefined, given, with_memory}
use Rattle.execution.specs.Data.{Kind, OfVoid, OfScalar, OfAggregate, kinds_match, same_kind, Datum, local_name, argument_held, without_objects}
use Rattle.execution.specs.Calls.{Call, Enter, Function, Linked, host_state, host_gave, host_outcome, scalar_arguments, scalar_result, host_called, begun, numbers, activated, arguments_match, matches, function_called, meant, calls}
use Rattle.execution.specs.Likeness.{Exact, Past, Likeness, Like, Computes, DataRelation, CallRelation, LikeCall, AlikeCalls, SameKinds, LikeMeaning, Grows}
use Rattle.execution.specs.Bounds.{AllTame}
use Rattle.execution.proofs.Congruence.{spend_like, within_itself}
use Rattle.execution.proofs.CallCongruence.{begun_like, numbers_like, activated_like, function_like, calls_like}
use Rattle.execution.proofs.CallLaws.{calls_grow}
use Rattle.execution.proofs.Ordered.{BelowRun, BelowDatum, ordered, outputs, with_run, held_below, ends_below, host_ordered}
use Rattle.simulation_laws.specs.Changes.{itself}
use Rattle.simulation_laws.specs.Fitted.{FitsAny, AreBytes, GivesKind}
use Rattle.simulation_laws.proofs.Fits.{numbers_same}
use Rattle.simulation_laws.proofs.HostFits.{scalar_told}
use Rattle.simulation_laws.proofs.DataFits.{ready_bytes, left_bytes, host_gives}

-- states of which the first says no more, and whose input is bytes
pub record FitRun (s t : State) : Type 0 where
  pub run : BelowRun itself s t
  pub input : AreBytes s.input

-- data of which the first says no more, and fits a kind
abbrev pub FitDatum : Abi → Option Kind → DataRelation
FitDatum abi kind d e = BelowDatum itself d e × FitsAny abi kind d

-- runs of which the first says no more, and whose values fit that kind
abbrev pub fitting : Abi → Option Kind → Likeness
fitting abi kind = record {
  states = FitRun;
  ended = λ s t. t.out ≡ s.out;
  values = FitDatum abi kind;
  past = λ s t. IsPrefix s.out t.out;
  later = λ s t u p l. IsPrefix-trans s.out t.out u.out p l.written;
  cut = Exact;
  wild = Past;
}

-- calls from one data model that ask for that kind, with values of which the first say no more
abbrev pub Asks : Abi → Option Kind → CallRelation
Asks abi kind c d = LikeCall (BelowDatum itself) c d × (c.abi ≡ abi) × (c.result ≡ kind)

-- whichever kind is asked for, calls give what fits it
abbrev pub FittedCalls : Abi → Enter → Enter → Type 0
FittedCalls abi = AlikeCalls {I = Option Kind} (fitting abi) (Asks abi)

-- functions of the same kinds whose bodies keep the order and give what fits, where calls do
pub record FittedFunctions (model : Abi) (f g : Function) : Type 0 where
  pub of_model : f.abi ≡ model
  pub abi : g.abi ≡ f.abi
  pub kinds : SameKinds f g
  pub body : (enter also : Enter) → Grows also → FittedCalls model enter also → (act : ℕ) (s t : State) → FitRun s t → Like (fitting model f.result) (FitDatum model f.result) (f.body enter act s) (g.body also act t)

-- kinds that are compared and found the same are the same

kinds_told : (k l : Kind) → kinds_match k l ≡ true → k ≡ l
kinds_told OfVoid OfVoid e = refl
kinds_told (OfScalar s) (OfScalar t) e = ap OfScalar (scalar_told s t e)
kinds_told (OfAggregate m) (OfAggregate n) e = ap OfAggregate (numbers_same m n e)
kinds_told OfVoid (OfScalar t) e = cc
kinds_told OfVoid (OfAggregate n) e = cc
kinds_told (OfScalar s) OfVoid e = cc
kinds_told (OfScalar s) (OfAggregate n) e = cc
kinds_told (OfAggregate m) OfVoid e = cc
kinds_told (OfAggregate m) (OfScalar t) e = cc

kind_told : (k l : Option Kind) → same_kind k l ≡ true → k ≡ l
kind_told (Some k) (Some l) e = ap Some (kinds_told k l e)
kind_told (Some k) None e = cc
kind_told None (Some l) e = cc
kind_told None None e = cc

result_told : (f : Function) (c : Call) → matches f c ≡ true → f.result ≡ c.result
result_told f c e = kind_told f.result c.result (first (same_kind f.result c.result) (arguments_match f.parameters c.arguments) e)
  where
    first : (a b : Bool) → (a && b) ≡ true → a ≡ true
    first true b e = refl
    first false b e = cc

-- calls of the host

-- what is left of the input of a run that goes on is bytes
LeavesBytes : Result Datum → Type 0
LeavesBytes (Goes d s) = AreBytes s.input
LeavesBytes (Exits status s) = Unit {0}
LeavesBytes (Running s) = Unit {0}
LeavesBytes (Undefined s) = Unit {0}

outcome_leaves : (name : HostName) (s : State) (o : Outcome) → AreBytes s.input → LeavesBytes (host_outcome name s o)
unfolding LeavesBytes
outcome_leaves name s o h = by o.0
  where
    by : (r : HostResult) → LeavesBytes (host_gave name s r o.1)
    by (Gives v) = left_bytes o.1.ready s.input h
    by (Ends status) = tt
    by Breaks = tt
    by NeedsInput = tt
    by WantOfMemory = tt

host_leaves : (name : HostName) (c : Call) (s : State) → AreBytes s.input → LeavesBytes (host_called name c s)
unfolding LeavesBytes
host_leaves name c s h = by (scalar_result c.result)
  where
    arguments : (wanted : Option Scalar) (o : Option (List (Scalar × Value))) → LeavesBytes (given s o (λ args. host_outcome name s (host c.abi name wanted args (host_state s))))
    arguments wanted None = tt
    arguments wanted (Some args) = outcome_leaves name s (host c.abi name wanted args (host_state s)) h

    by : (o : Option (Option Scalar)) → LeavesBytes (given s o (λ wanted. given s (scalar_arguments c.arguments) (λ args. host_outcome name s (host c.abi name wanted args (host_state s)))))
    by None = tt
    by (Some wanted) = arguments wanted (scalar_arguments c.arguments)

-- what says no more and fits
also_fits : (abi : Abi) (kind : Option Kind) (r q : Result Datum) → Like (ordered itself) (BelowDatum itself) r q → GivesKind abi kind r → LeavesBytes r → Like (fitting abi kind) (FitDatum abi kind) r q
unfolding LeavesBytes
also_fits abi kind (Goes d s) q l f b = (l.0, l.1, (l.2, f), record { run = l.3; input = b }, l.4)
also_fits abi kind (Exits status s) q l f b = l
also_fits abi kind (Running s) q l f b = l
also_fits abi kind (Undefined s) q l f b = l

-- and what fits says no more
pub below_alone : (abi : Abi) (kind : Option Kind) (r q : Result Datum) → Like (fitting abi kind) (FitDatum abi kind) r q → Like (ordered itself) (BelowDatum itself) r q
below_alone abi kind (Goes d s) q l = (l.0, l.1, l.2.0, l.3.run, l.4)
below_alone abi kind (Exits status s) q l = l
below_alone abi kind (Running s) q l = l
below_alone abi kind (Undefined s) q l = l

host_fitted : (abi : Abi) (kind : Option Kind) (name : HostName) (c d : Call) (s t : State) → Asks abi kind c d → FitRun s t → Like (fitting abi kind) (FitDatum abi kind) (host_called name c s) (host_called name d t)
host_fitted abi kind name c d s t q n =
    also_fits abi kind (host_called name c s) (host_called name d t) (host_ordered itself (λ a b e. e) (λ i. refl) name c d s t q.0 n.run)
    (subst (λ (k : Option Kind). GivesKind abi k (host_called name c s)) q.2 (subst (λ (x : Abi). GivesKind x c.result (host_called name c s)) q.1 (host_gives name c s (ready_bytes s.input n.input))))
    (host_leaves name c s n.input)

-- calls of functions

over_run : (s t : State) (m n : Memory) → FitRun s t → BelowMemory itself m n → FitRun (with_memory s m) (with_memory t n)
over_run s t m n r q = record { run = with_run itself s t m n r.run q; input = r.input }

function_fitted : (abi : Abi) (kind : Option Kind) (f g : Function) (enter also : Enter) (c d : Call) (s t : State) → FittedFunctions abi f g → Grows also → FittedCalls abi enter also → Asks abi kind c d → FitRun s t
    → Like (fitting abi kind) (FitDatum abi kind) (function_called enter f c s) (function_called also g d t)
function_fitted abi kind f g enter also c d s t p grows alike q n =
    function_like (fitting abi kind) (BelowDatum itself) f g enter also c d s t p.kinds q.0 (outputs itself s t n.run) (λ ok.
    spend_like (fitting abi kind) (FitDatum abi kind) (activated enter f c.arguments) (activated also g d.arguments) (λ u v w. w.run.left) (λ u v m w. lowered u v m w) (λ u v w. (v, w.run.out, refl))
    (λ u v w. by (result_told f c ok ∙ q.2) u v w) s t n)
  where
    lowered : (u v : State) (m : ℕ) → FitRun u v → FitRun (record u { left = m }) (record v { left = m })
    lowered u v m w = record { run = record { memory = w.run.memory; input = w.run.input; at_end = w.run.at_end; out = w.run.out; left = refl; next = w.run.next; live = w.run.live; heap = w.run.heap }; input = w.input }

    by : f.result ≡ kind → (u v : State) → FitRun u v → Like (fitting abi kind) (FitDatum abi kind) (activated enter f c.arguments u) (activated also g d.arguments v)
    by same u v w =
        activated_like (fitting abi kind) (fitting abi kind) f g enter also c.arguments d.arguments u v (within_itself (fitting abi kind))
        (subst (λ (x : Abi). FitRun (begun f.abi c.arguments u) (begun x d.arguments v)) (sym p.abi) (begun_like (fitting abi kind) (BelowDatum itself) f.abi c.arguments d.arguments u v q.0.arguments
        (record { run = record { memory = w.run.memory; input = w.run.input; at_end = w.run.at_end; out = w.run.out; left = w.run.left; next = ap suc w.run.next; live = w.run.live; heap = w.run.heap }; input = w.input })
        (λ j x y a b small kinds values r. over_run a b _ _ r (subst (λ z. BelowMemory itself (with_held a.memory (local_name u.next j) (Some (argument_held f.abi x))) (with_held b.memory z (Some (argument_held f.abi y)))) (ap (λ z. local_name z j) (sym w.run.next))
        (with_below itself (λ m n e. e) a.memory b.memory (local_name u.next j) (Some (argument_held f.abi x)) (Some (argument_held f.abi y)) r.run.memory (held_below itself f.abi x y kinds values))))))
        (λ a b r. over_run a b _ _ r (subst (λ z. BelowMemory itself (without_objects u.next (numbers 0 c.arguments) a.memory) (without_objects z (numbers 0 d.arguments) b.memory)) (sym w.run.next)
        (subst (λ z. BelowMemory itself (without_objects u.next (numbers 0 c.arguments) a.memory) (without_objects u.next z b.memory)) (sym (numbers_like (BelowDatum itself) 0 c.arguments d.arguments q.0.arguments))
        (ends_below itself (λ m n e. e) (λ m n. refl) u.next (numbers 0 c.arguments) a.memory b.memory r.run.memory))))
        (λ a b r. subst (λ z. Like (fitting abi kind) (FitDatum abi kind) (f.body enter u.next a) (g.body also z b)) (sym w.run.next)
        (subst (λ (k : Option Kind). Like (fitting abi k) (FitDatum abi k) (f.body enter u.next a) (g.body also u.next b)) same (p.body enter also grows alike u.next a b r)))

-- whatever they are, calls of linked programs give what fits the kind that is asked for
pub calls_fitted : (abi : Abi) (link other : Linked) → AllTame other → ((v w : Value) → BelowValue itself v w → Computes Past (LikeMeaning (FittedFunctions abi)) (meant link v) (meant other w)) → FittedCalls abi (calls link) (calls other)
calls_fitted abi link other tame names =
    calls_like {I = Option Kind} (fitting abi) (Asks abi) (FittedFunctions abi) link other (λ k s t n. n.run.left) (λ k s t n. (t, n.run.out, refl)) (λ k s t n. outputs itself s t n.run) (calls_grow other tame) (λ k c d q. names c.callee d.callee q.0.callee)
    (λ k name c d s t q n. host_fitted abi k name c d s t q n)
    (λ f g enter also p grows alike k c d s t q n. function_fitted abi k f g enter also c d s t p grows alike q n)
