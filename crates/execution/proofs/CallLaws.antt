-- Device: calls in a program whose bodies are tame have a meaning that is a fixed point, and units more only continue them.
use Rattle.std.proofs.Common.{◌≡◌, ℕ, zero, suc, ◌+◌, ◌<◌, ◌≤◌, Bool, List, [], ◌∷◌, Option, Some, None, map, slice_get, refl, sym, subst, arith}
use Rattle.cil_base.specs.Outcome.{IsPrefix}
use Rattle.cil_base.proofs.OutcomeLaws.{IsPrefix-trans}
use Rattle.byte_mem.specs.Steps.{◌>>=◌}
use Rattle.host_calls.specs.declared.names.HostName.{HostName}
use Rattle.host_calls.specs.declared.calls.HostResult.{HostResult}
use Rattle.host_calls.specs.declared.calls.HostResult.TheVariants.{Value as Gives, Exit as Ends, Undefined as Breaks, NeedsInput, Memory as WantOfMemory}
use Rattle.host_calls.specs.Host.{HostState, host}
use Rattle.execution.specs.States.{State, Result, last, with_left, with_memory}
use Rattle.execution.specs.Unrolling.{unrolled}
use Rattle.execution.specs.Data.{Datum, Single, Argument, Automatic, with_objects, without_objects}
use Rattle.execution.specs.Jumps.{Signal}
use Rattle.execution.specs.Calls.{Call, Enter, Function, Meaning, Object, Code, Host, Linked, number_of, scoped, returns, numbers, begun, activated, matches, entered, host_state, after_host, host_gave, host_outcome, scalar_arguments, host_called, called, entity_at, meant, call_step, calls}
use Rattle.execution.specs.Likeness.{Exact, Later, Like, LikeSignal, Same, Grows, Needs}
use Rattle.execution.specs.Bounds.{cut_at, Twins, twins, Tied, Calm, Guarded, Tame, IsTame, AllTame}
use Rattle.execution.proofs.Congruence.{needs, within_itself, gives_itself}
use Rattle.execution.proofs.FixedPoint.{calm_grows, spend_tied, unrolled_calm, guarded_calm, meaning_is, meaning_calm, meaning_tied}
use Rattle.execution.proofs.Twins.{like_weaker, signal_like, at_twin, undefined_tied}
use Rattle.execution.proofs.HostOutput.{host_adds}
use Rattle.execution.proofs.CallCongruence.{leaves_grows, scoped_like, returns_like, activated_like, entered_like}
use Rattle.execution.proofs.HostCongruence.{host_like}

-- objects, and what a body returns

twins_without : (n more : ℕ) (base : List ℕ) (act : ℕ) (ns : List ℕ) (s t : State) → Twins n more base s t → Twins n more base (with_memory s (without_objects act ns s.memory)) (with_memory t (without_objects act ns t.memory))
twins_without n more base act ns s t tw = at_twin n more base s t (λ z. Twins n more base (with_memory s (without_objects act ns s.memory)) (with_memory z (without_objects act ns z.memory))) tw (tw.0, refl, tw.2)

twins_within : (n more : ℕ) (base : List ℕ) (act : ℕ) (xs : List Automatic) (s t : State) → Twins n more base s t → Twins n more base (with_memory s (with_objects act xs s.memory)) (with_memory t (with_objects act xs t.memory))
twins_within n more base act xs s t tw = at_twin n more base s t (λ z. Twins n more base (with_memory s (with_objects act xs s.memory)) (with_memory z (with_objects act xs z.memory))) tw (tw.0, refl, tw.2)

pub scoped_tied : {A B : Type 0} (R : A → B → Type 0) (n more : ℕ) (base : List ℕ) (act : ℕ) (objects : List Automatic) (go : State → Result A) (to : State → Result B) (s t : State) → Twins n more base s t
    → ((u v : State) → Twins n more base u v → Like (twins n more base) R (go u) (to v)) → Like (twins n more base) R (scoped act objects go s) (scoped act objects to t)
scoped_tied R n more base act objects go to s t tw k =
    scoped_like (twins n more base) (twins n more base) R act act objects objects go to (within_itself (twins n more base)) (twins_within n more base act objects) (twins_without n more base act (map number_of objects)) k s t tw

pub returns_tied : (n more : ℕ) (base : List ℕ) (end : Datum) (r q : Result Signal) → Like (twins n more base) Same r q → Like (twins n more base) Same (returns end r) (returns end q)
returns_tied n more base end r q l =
    returns_like (twins n more base) Same end end r q refl (λ s t tw. (t, tw, refl)) (like_weaker (twins n more base) Same (LikeSignal (twins n more base) Same) r q (signal_like n more base) l)

-- the host

gave_tied : (n more : ℕ) (base : List ℕ) (name : HostName) (s : State) (r : HostResult) (h : HostState) → s.left ≤ n → IsPrefix base s.out → IsPrefix s.out h.out
    → Like (twins n more base) Same (host_gave name s r h) (host_gave name (with_left s (s.left + more)) r h)
gave_tied n more base name s (Gives v) h few old new = (Single v, after_host name (with_left s (s.left + more)) h, refl, (few, refl, IsPrefix-trans base s.out h.out old new), refl)
gave_tied n more base name s (Ends status) h few old new = (after_host name (with_left s (s.left + more)) h, (few, refl, IsPrefix-trans base s.out h.out old new), refl)
gave_tied n more base name s Breaks h few old new = (with_left s (s.left + more), (few, refl, old), refl)
gave_tied n more base name s NeedsInput h few old new = (with_left s (s.left + more), (few, refl, old), refl)
gave_tied n more base name s WantOfMemory h few old new = (with_left s (s.left + more), (few, refl, old), refl)

host_tied : (n more : ℕ) (base : List ℕ) (name : HostName) (c : Call) (s t : State) → Twins n more base s t → Like (twins n more base) Same (host_called name c s) (host_called name c t)
host_tied n more base name c s t tw =
    at_twin n more base s t (λ z. Like (twins n more base) Same (host_called name c s) (host_called name c z)) tw
    (host_like (twins n more base) Same name c c s (with_left s (s.left + more)) refl (gives_itself Exact (scalar_arguments c.arguments)) (with_left s (s.left + more), (tw.0, refl, tw.2), refl) (λ wanted i xs ys e.
    subst (λ z. Like (twins n more base) Same (host_outcome name s (host c.abi name wanted xs (host_state s))) (host_outcome name (with_left s (s.left + more)) (host c.abi name wanted z (host_state s)))) (sym e)
    (gave_tied n more base name s (host c.abi name wanted xs (host_state s)).0 (host c.abi name wanted xs (host_state s)).1 tw.0 tw.2 (host_adds c.abi name wanted xs (host_state s)))))

-- a function of a unit

pub body_calm : (body : Enter → ℕ → State → Result Datum) (enter : Enter) → Tame body → Calm enter → Calm (body enter)
body_calm body enter tame calm n base = tame n 0 base enter enter tt (λ m l. calm m base)

activated_grows : (f : Function) (enter : Enter) (arguments : List Argument) → Grows (f.body enter) → (u : State) → Later u (last (activated enter f arguments u))
activated_grows f enter arguments g u = leaves_grows u.next (numbers 0 arguments) u (f.body enter u.next (begun f.abi arguments u)) (record { written = (g u.next (begun f.abi arguments u)).written; spent = (g u.next (begun f.abi arguments u)).spent })

activated_tied : (n more : ℕ) (base : List ℕ) (f : Function) (enter also : Enter) (arguments : List Argument) → Tied n more base (f.body enter) (f.body also) → (s t : State) → Twins n more base s t
    → Like (twins n more base) Same (activated enter f arguments s) (activated also f arguments t)
activated_tied n more base f enter also arguments k s t tw =
    at_twin n more base s t (λ z. Like (twins n more base) Same (activated enter f arguments s) (activated also f arguments z)) tw
    (activated_like (twins n more base) (twins n more base) f f enter also arguments arguments s (with_left s (s.left + more)) (within_itself (twins n more base)) (tw.0, refl, tw.2)
    (twins_without n more base s.next (numbers 0 arguments)) (k s.next))

entered_tied : (n more : ℕ) (base : List ℕ) (ok : Bool) (f : Function) (enter also : Enter) (arguments : List Argument) → Tame f.body → Needs (cut_at more) (Calm also) → ((m : ℕ) → m < n → Tied m more base enter also) → (s t : State) → Twins n more base s t
    → Like (twins n more base) Same (entered ok enter f arguments s) (entered ok also f arguments t)
entered_tied n more base ok f enter also arguments tame calm k s t tw =
    entered_like (twins n more base) ok f f enter also arguments arguments s t (t, tw, refl) (λ e.
    spend_tied Same n more base (activated enter f arguments) (activated also f arguments) s t tw
    (needs (cut_at more) (λ c. activated_grows f also arguments (calm_grows (f.body also) (body_calm f.body also tame c))) calm)
    (λ m u v l w. activated_tied m more base f enter also arguments
    (tame m more base enter also calm (λ j h. let small : j < n = omega arith in k j small)) u v w))

called_tied : (n more : ℕ) (base : List ℕ) (m : Option Meaning) (enter also : Enter) (c : Call) → IsTame m → Needs (cut_at more) (Calm also) → ((m : ℕ) → m < n → Tied m more base enter also) → (s t : State) → Twins n more base s t
    → Like (twins n more base) Same (called enter m c s) (called also m c t)
called_tied n more base None enter also c tame calm k s t tw = undefined_tied Same n more base s t tw
called_tied n more base (Some (Object read_only bytes)) enter also c tame calm k s t tw = undefined_tied Same n more base s t tw
called_tied n more base (Some (Code f)) enter also c tame calm k s t tw = entered_tied n more base (matches f c) f enter also c.arguments tame calm k s t tw
called_tied n more base (Some (Host name)) enter also c tame calm k s t tw = host_tied n more base name c s t tw

-- what is meant is one of the meanings
tame_at : (link : Linked) → AllTame link → (e : ℕ) → IsTame (slice_get link e >>= λ m. m)
tame_at [] h e = tt
tame_at (m ∷ link) h zero = h.0
tame_at (m ∷ link) h (suc e) = tame_at link h.1 e

tame_meant : (link : Linked) → AllTame link → (o : Option ℕ) → IsTame (o >>= λ e. slice_get link e >>= λ m. m)
tame_meant link h None = tt
tame_meant link h (Some e) = tame_at link h e

pub call_guarded : (link : Linked) → AllTame link → Guarded (call_step link)
call_guarded link h n more base enter also calm k c s t tw = called_tied n more base (meant link c.callee) enter also c (tame_meant link h (entity_at c.callee)) calm k s t tw

-- what calls do is the step over itself
pub calls_are : (link : Linked) → AllTame link → (c : Call) (s : State) → calls link c s ≡ called (calls link) (meant link c.callee) c s
calls_are link h c s = meaning_is (call_step link) (call_guarded link h) c s

pub calls_tied : (link : Linked) → AllTame link → (n more : ℕ) (base : List ℕ) → Tied n more base (calls link) (calls link)
calls_tied link h = meaning_tied (call_step link) (call_guarded link h)

pub calls_calm : (link : Linked) → AllTame link → Calm (calls link)
calls_calm link h = meaning_calm (call_step link) (call_guarded link h)

pub calls_grow : (link : Linked) → AllTame link → (n : ℕ) → Grows (unrolled (call_step link) n)
calls_grow link h n = calm_grows (unrolled (call_step link) n) (unrolled_calm (call_step link) (guarded_calm (call_step link) (call_guarded link h)) n)
