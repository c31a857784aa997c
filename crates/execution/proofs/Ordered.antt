-- Device: the order of memories along a map of names is a likeness that calls keep.
use Rattle.std.proofs.Common.{◌≡◌, ℕ, suc, ◌+◌, List, [], ◌∷◌, ◌++◌, length, Option, Some, None, inl, inr, refl, sym, ap, ◌∙◌, subst, arith}
use Rattle.std.proofs.lemmas.List.{length-append, nil_from_length, append-nil}
use Rattle.cil_base.specs.declared.kinds.Abi.{Abi}
use Rattle.cil_base.specs.declared.runs.Outcome.{Outcome}
use Rattle.cil_base.specs.declared.runs.Outcome.TheVariants.{Exit, Running as StillRunning, Undefined as WentUndefined}
use Rattle.cil_base.specs.Outcome.{output as written, IsPrefix, Breaks, Allows}
use Rattle.cil_base.proofs.OutcomeLaws.{IsPrefix-refl, IsPrefix-trans}
use Rattle.byte_mem.specs.declared.values.Byte.{Byte}
use Rattle.byte_mem.specs.declared.values.Scalar.{Scalar}
use Rattle.byte_mem.specs.declared.values.Value.{Value}
use Rattle.byte_mem.specs.declared.values.Value.TheVariants.{Int, Ptr, Unknown, Part}
use Rattle.byte_mem.specs.Memory.{Memory, with_held, end_object}
use Rattle.byte_mem.specs.Below.{Names, IsOneToOne, BelowValue, BelowBytes, BelowHeld, BelowMemory}
use Rattle.byte_mem.proofs.BelowLemmas.{bytes_below, with_below, end_below}
use Rattle.host_calls.specs.declared.names.HostName.{HostName}
use Rattle.host_calls.specs.declared.calls.HostResult.{HostResult}
use Rattle.host_calls.specs.declared.calls.HostResult.TheVariants.{Value as Gives, Exit as Ends, Undefined as Broke, NeedsInput, Memory as WantOfMemory}
use Rattle.host_calls.specs.Host.{byte_of, HostState, host}
use Rattle.host_calls.specs.Laws.{KeepsHeap, BelowState, BelowArgs, BelowAnswer}
use Rattle.host_calls.proofs.BelowLemmas.{host_below}
use Rattle.execution.specs.States.{State, Result, Goes, Exits, Running, Undefined, last, with_memory}
use Rattle.execution.specs.Data.{Kind, OfScalar, OfVoid, OfAggregate, Datum, Single, Bytes, Argument, local_name, bytes_in, argument_held, without_objects}
use Rattle.execution.specs.Calls.{Call, Function, Enter, host_state, after_host, host_gave, host_outcome, host_called, ready, input_after, at_end_after, begun, numbers, activated, function_called, Linked, meant, calls}
use Rattle.execution.specs.Runs.{status_of, outcome_of}
use Rattle.execution.specs.Likeness.{Exact, Past, Likeness, Like, Computes, LikeMeaning, LikeScalars, KeepsForms, LikeCall, SameKinds, Grows, AlikeCalls}
use Rattle.execution.specs.Bounds.{AllTame}
use Rattle.execution.proofs.Congruence.{spend_like, within_itself}
use Rattle.execution.proofs.CallCongruence.{begun_like, numbers_like, activated_like, function_like, calls_like}
use Rattle.execution.proofs.HostCongruence.{outcome_grows, scalars_like, host_like}
use Rattle.execution.proofs.CallLaws.{calls_grow}
use Rattle.execution.proofs.RunLaws.{status_output, outcome_output}

-- the first state says no more than the second: of memory alone it may know less
pub record BelowRun (f : Names) (s t : State) : Type 0 where
  pub memory : BelowMemory f s.memory t.memory
  pub input : t.input ≡ s.input
  pub at_end : t.at_end ≡ s.at_end
  pub out : t.out ≡ s.out
  pub left : t.left ≡ s.left
  pub next : t.next ≡ s.next
  pub live : t.live ≡ s.live
  pub heap : t.heap ≡ s.heap

abbrev pub BelowDatum : Names → Datum → Datum → Type 0
BelowDatum f (Single v) (Single w) = BelowValue f v w
BelowDatum f (Single v) (Bytes cs) = ⊥
BelowDatum f (Bytes bs) (Single w) = ⊥
BelowDatum f (Bytes bs) (Bytes cs) = BelowBytes f bs cs

abbrev pub ordered : Names → Likeness
ordered f = record {
  states = BelowRun f;
  ended = λ s t. t.out ≡ s.out;
  values = BelowDatum f;
  past = λ s t. IsPrefix s.out t.out;
  later = λ s t u p l. IsPrefix-trans s.out t.out u.out p l.written;
  cut = Exact;
  wild = Past;
}

abbrev pub OrderedCalls : Names → Enter → Enter → Type 0
OrderedCalls f = AlikeCalls (λ (i : Unit {0}). ordered f) (λ i. LikeCall (BelowDatum f))

pub outputs : (f : Names) (s t : State) → BelowRun f s t → IsPrefix s.out t.out
outputs f s t h = subst (IsPrefix s.out) (sym h.out) (IsPrefix-refl s.out)

pub keeps_forms : (f : Names) → KeepsForms (BelowDatum f)
keeps_forms f = record { single = single; bytes = bytes }
  where
    single : (v : Value) (e : Datum) → BelowDatum f (Single v) e → (w : Value) × (e ≡ Single w)
    single v (Single w) h = (w, refl)
    single v (Bytes cs) h = absurd h

    bytes : (bs : List Byte) (e : Datum) → BelowDatum f (Bytes bs) e → (cs : List Byte) × (e ≡ Bytes cs)
    bytes bs (Single w) h = absurd h
    bytes bs (Bytes cs) h = (cs, refl)

-- the host

pub args_below : (f : Names) (xs ys : List (Scalar × Value)) → LikeScalars (BelowDatum f) xs ys → BelowArgs f xs ys
args_below f [] [] h = tt
args_below f [] (y ∷ ys) h = absurd h
args_below f (x ∷ xs) [] h = absurd h
args_below f (x ∷ xs) (y ∷ ys) h = (h.0, h.1, args_below f xs ys h.2)

pub seen_below : (f : Names) (s t : State) → BelowRun f s t → BelowState f (host_state s) (host_state t)
seen_below f s t h = record { memory = h.memory; ready = ap ready h.input; out = h.out; live = h.live; heap = h.heap }

pub after_below : (f : Names) (name : HostName) (s t : State) (h k : HostState) → BelowRun f s t → BelowState f h k → BelowRun f (after_host name s h) (after_host name t k)
after_below f name s t h k r q = record {
  memory = q.memory;
  input = ap (λ x. input_after x t.input) q.ready ∙ ap (input_after h.ready) r.input;
  at_end = ap (λ x. at_end_after name x t.at_end) r.input ∙ ap (at_end_after name s.input) r.at_end;
  out = q.out;
  left = r.left;
  next = r.next;
  live = q.live;
  heap = q.heap;
}

gave_below : (f : Names) (name : HostName) (s t : State) (r : HostResult) (h : HostState) (a : HostResult) (k : HostState) → BelowRun f s t → IsPrefix s.out (last (host_gave name t a k)).out → BelowAnswer f r h (a, k)
    → Like (ordered f) (BelowDatum f) (host_gave name s r h) (host_gave name t a k)
gave_below f name s t (Gives v) h (Gives w) k n p b = (Single w, after_host name t k, b.0, after_below f name s t h k n b.1, refl)
gave_below f name s t (Gives v) h (Ends status) k n p b = absurd b.0
gave_below f name s t (Gives v) h Broke k n p b = absurd b.0
gave_below f name s t (Gives v) h NeedsInput k n p b = absurd b.0
gave_below f name s t (Gives v) h WantOfMemory k n p b = absurd b.0
gave_below f name s t (Ends status) h a k n p b = (after_host name t k, b.1.out, ap (λ x. host_gave name t x k) b.0)
gave_below f name s t Broke h a k n p b = p
gave_below f name s t NeedsInput h a k n p b = p
gave_below f name s t WantOfMemory h a k n p b = p

pub host_ordered : (f : Names) → IsOneToOne f → KeepsHeap f → (name : HostName) (c d : Call) (s t : State) → LikeCall (BelowDatum f) c d → BelowRun f s t → Like (ordered f) (BelowDatum f) (host_called name c s) (host_called name d t)
host_ordered f o heap name c d s t l n =
    host_like (ordered f) (LikeScalars (BelowDatum f)) name c d s t l.result (scalars_like Past (BelowDatum f) (keeps_forms f) c.arguments d.arguments l.arguments) (outputs f s t n) (λ wanted i xs ys h.
    subst (λ x. Like (ordered f) (BelowDatum f) (host_outcome name s (host c.abi name wanted xs (host_state s))) (host_outcome name t (host x name wanted ys (host_state t)))) (sym l.abi)
    (gave_below f name s t (host c.abi name wanted xs (host_state s)).0 (host c.abi name wanted xs (host_state s)).1 (host c.abi name wanted ys (host_state t)).0 (host c.abi name wanted ys (host_state t)).1 n
    (IsPrefix-trans s.out t.out (last (host_outcome name t (host c.abi name wanted ys (host_state t)))).out (outputs f s t n) (outcome_grows c.abi name wanted ys t).written)
    (host_below f o heap c.abi name wanted xs ys (host_state s) (host_state t) (args_below f xs ys h) (seen_below f s t n))))

-- activations

abbrev pub KeepsLocals : Names → Type 0
KeepsLocals f = (act i : ℕ) → f (local_name act i) ≡ local_name act i

pub held_below : (f : Names) (abi : Abi) (a b : Argument) → b.kind ≡ a.kind → BelowDatum f a.datum b.datum → BelowHeld f (argument_held abi a) (argument_held abi b)
held_below f abi a b i h = record { function = refl; writable = λ e. e; bytes = subst (λ k. BelowBytes f (bytes_in abi a.kind a.datum) (bytes_in abi k b.datum)) (sym i) (by a.kind a.datum b.datum h) }
  where
    by : (k : Option Kind) (d e : Datum) → BelowDatum f d e → BelowBytes f (bytes_in abi k d) (bytes_in abi k e)
    by (Some (OfScalar s)) (Single v) (Single w) h = bytes_below f abi s v w h
    by (Some OfVoid) (Single v) (Single w) h = tt
    by (Some (OfAggregate n)) (Single v) (Single w) h = tt
    by None (Single v) (Single w) h = tt
    by k (Single v) (Bytes cs) h = absurd h
    by k (Bytes bs) (Single w) h = absurd h
    by (Some (OfScalar s)) (Bytes bs) (Bytes cs) h = h
    by (Some OfVoid) (Bytes bs) (Bytes cs) h = h
    by (Some (OfAggregate n)) (Bytes bs) (Bytes cs) h = h
    by None (Bytes bs) (Bytes cs) h = h

pub with_run : (f : Names) (s t : State) (m n : Memory) → BelowRun f s t → BelowMemory f m n → BelowRun f (with_memory s m) (with_memory t n)
with_run f s t m n r q = record { memory = q; input = r.input; at_end = r.at_end; out = r.out; left = r.left; next = r.next; live = r.live; heap = r.heap }

pub ends_below : (f : Names) → IsOneToOne f → KeepsLocals f → (act : ℕ) (xs : List ℕ) (m n : Memory) → BelowMemory f m n → BelowMemory f (without_objects act xs m) (without_objects act xs n)
ends_below f o k act [] m n h = h
ends_below f o k act (i ∷ xs) m n h =
    ends_below f o k act xs (end_object m (local_name act i)) (end_object n (local_name act i)) (subst (λ x. BelowMemory f (end_object m (local_name act i)) (end_object n x)) (k act i) (end_below f o m n (local_name act i) h))

-- a function whose body keeps the order is called so
function_ordered : (f : Names) → IsOneToOne f → KeepsLocals f → (g h : Function) (enter also : Enter) (c d : Call) (s t : State) → SameKinds g h → h.abi ≡ g.abi → LikeCall (BelowDatum f) c d → BelowRun f s t
    → ((act : ℕ) (u v : State) → BelowRun f u v → Like (ordered f) (BelowDatum f) (g.body enter act u) (h.body also act v))
    → Like (ordered f) (BelowDatum f) (function_called enter g c s) (function_called also h d t)
function_ordered f o k g h enter also c d s t i a l n body =
    function_like (ordered f) (BelowDatum f) g h enter also c d s t i l (outputs f s t n) (λ ok.
    spend_like (ordered f) (BelowDatum f) (activated enter g c.arguments) (activated also h d.arguments) (λ u v w. w.left) (λ u v m w. record { memory = w.memory; input = w.input; at_end = w.at_end; out = w.out; left = refl; next = w.next; live = w.live; heap = w.heap })
    (λ u v w. (v, w.out, refl)) by s t n)
  where
    by : (u v : State) → BelowRun f u v → Like (ordered f) (BelowDatum f) (activated enter g c.arguments u) (activated also h d.arguments v)
    by u v w =
        activated_like (ordered f) (ordered f) g h enter also c.arguments d.arguments u v (within_itself (ordered f))
        (subst (λ x. BelowRun f (begun g.abi c.arguments u) (begun x d.arguments v)) (sym a) (begun_like (ordered f) (BelowDatum f) g.abi c.arguments d.arguments u v l.arguments
        (record { memory = w.memory; input = w.input; at_end = w.at_end; out = w.out; left = w.left; next = ap suc w.next; live = w.live; heap = w.heap })
        (λ j x y p q small kinds values r. with_run f p q _ _ r (subst (λ z. BelowMemory f (with_held p.memory (local_name u.next j) (Some (argument_held g.abi x))) (with_held q.memory z (Some (argument_held g.abi y)))) (k u.next j ∙ ap (λ z. local_name z j) (sym w.next))
        (with_below f o p.memory q.memory (local_name u.next j) (Some (argument_held g.abi x)) (Some (argument_held g.abi y)) r.memory (held_below f g.abi x y kinds values))))))
        (λ p q r. with_run f p q _ _ r (subst (λ z. BelowMemory f (without_objects u.next (numbers 0 c.arguments) p.memory) (without_objects z (numbers 0 d.arguments) q.memory)) (sym w.next)
        (subst (λ z. BelowMemory f (without_objects u.next (numbers 0 c.arguments) p.memory) (without_objects u.next z q.memory)) (sym (numbers_like (BelowDatum f) 0 c.arguments d.arguments l.arguments))
        (ends_below f o k u.next (numbers 0 c.arguments) p.memory q.memory r.memory))))
        (λ p q r. subst (λ z. Like (ordered f) (BelowDatum f) (g.body enter u.next p) (h.body also z q)) (sym w.next) (body u.next p q r))

-- functions of the same kinds whose bodies keep the order where calls do
pub record OrderedFunctions (f : Names) (g h : Function) : Type 0 where
  pub abi : h.abi ≡ g.abi
  pub kinds : SameKinds g h
  pub body : (enter also : Enter) → Grows also → OrderedCalls f enter also → (act : ℕ) (s t : State) → BelowRun f s t → Like (ordered f) (BelowDatum f) (g.body enter act s) (h.body also act t)

pub calls_ordered : (f : Names) → IsOneToOne f → KeepsHeap f → KeepsLocals f → (link other : Linked) → AllTame other
    → ((v w : Value) → BelowValue f v w → Computes Past (LikeMeaning (OrderedFunctions f)) (meant link v) (meant other w)) → OrderedCalls f (calls link) (calls other)
calls_ordered f o heap locals link other tame names =
    calls_like (λ i. ordered f) (λ i. LikeCall (BelowDatum f)) (OrderedFunctions f) link other (λ i s t n. n.left) (λ i s t n. (t, n.out, refl)) (λ i s t n. outputs f s t n) (calls_grow other tame) (λ i c d l. names c.callee d.callee l.callee)
    (λ i name c d s t. host_ordered f o heap name c d s t)
    (λ g h enter also k grows alike i c d s t l n. function_ordered f o locals g h enter also c d s t k.kinds k.abi l n (k.body enter also grows alike))

-- a run allows what it stands below

begins_so : (w : Value) (o p : List ℕ) → p ≡ o → IsPrefix o (written (status_of (Single w) p))
begins_so w o p i = subst (IsPrefix o) (sym (status_output (Single w) p ∙ i)) (IsPrefix-refl o)

status_allows : (f : Names) (d e : Datum) (o p : List ℕ) → BelowDatum f d e → p ≡ o → Allows (status_of d o) (status_of e p)
status_allows f d (Bytes cs) o p h i = inr (broken d h)
  where
    broken : (d : Datum) → BelowDatum f d (Bytes cs) → Breaks (status_of d o) p
    broken (Single v) h = absurd h
    broken (Bytes bs) h = subst (IsPrefix o) (sym i) (IsPrefix-refl o)
status_allows f (Bytes bs) (Single w) o p h i = absurd h
status_allows f (Single (Int v)) (Single w) o p h i = inl (sym (ap (λ x. status_of (Single x) p) h ∙ ap (Exit (byte_of v)) i))
status_allows f (Single (Ptr x)) (Single w) o p h i = inr (begins_so w o p i)
status_allows f (Single Unknown) (Single w) o p h i = inr (begins_so w o p i)
status_allows f (Single (Part x k)) (Single w) o p h i = inr (begins_so w o p i)

pub ordered_allows : (f : Names) (r q : Result Datum) → Like (ordered f) (BelowDatum f) r q → Allows (outcome_of r) (outcome_of q)
ordered_allows f (Goes d s) q l = subst (λ x. Allows (status_of d s.out) (outcome_of x)) (sym l.4) (status_allows f d l.0 s.out l.1.out l.2 l.3.out)
ordered_allows f (Exits status s) q l = inl (sym (ap outcome_of l.2 ∙ ap (Exit status) l.1))
ordered_allows f (Running s) q l = inl (sym (ap outcome_of l.2 ∙ ap StillRunning l.1))
ordered_allows f (Undefined s) q l = inr (subst (IsPrefix s.out) (sym (outcome_output q)) l)

-- where each stands below the other, the outcomes are the same

prefix_both : (xs ys : List ℕ) → IsPrefix xs ys → IsPrefix ys xs → ys ≡ xs
prefix_both xs ys (r, p) (s, q) =
    let longer : length ys ≡ length xs + length r = ap length p ∙ length-append xs r in
    let also : length xs ≡ length ys + length s = ap length q ∙ length-append ys s in
    p ∙ ap (λ l. xs ++ l) (nil_from_length r (omega arith)) ∙ append-nil xs

breaks_both : (x y : Outcome) → Breaks x (written y) → Breaks y (written x) → y ≡ x
breaks_both (Exit status out) y b c = absurd b
breaks_both (StillRunning out) y b c = absurd b
breaks_both (WentUndefined o) (Exit status out) b c = absurd c
breaks_both (WentUndefined o) (StillRunning out) b c = absurd c
breaks_both (WentUndefined o) (WentUndefined p) b c = ap WentUndefined (prefix_both o p b c)

allows_both : (x y : Outcome) → Allows x y → Allows y x → y ≡ x
allows_both x y (inl e) b = sym e
allows_both x y (inr a) (inl e) = e
allows_both x y (inr a) (inr b) = breaks_both x y a b

pub ordered_both : (f g : Names) (r q : Result Datum) → Like (ordered f) (BelowDatum f) r q → Like (ordered g) (BelowDatum g) q r → outcome_of q ≡ outcome_of r
ordered_both f g r q h k = allows_both (outcome_of r) (outcome_of q) (ordered_allows f r q h) (ordered_allows g q r k)
