-- Device: what is done in a state does the same where units more are left, and only writes and spends.
use Rattle.std.proofs.Common.{ℕ, ◌+◌, List, map, Option, Some, None, refl, sym, subst, arith}
use Rattle.cil_base.proofs.OutcomeLaws.{IsPrefix-refl}
use Rattle.byte_mem.specs.Memory.{Memory}
use Rattle.execution.specs.States.{State, Result, Goes, Undefined, bind, given, pure, last, with_left, with_memory}
use Rattle.execution.specs.Data.{Automatic, without_objects, with_objects}
use Rattle.execution.specs.Calls.{Call, Enter, leaves, scoped, number_of}
use Rattle.execution.specs.Likeness.{Ending, Exact, Past, Later, Like, Same, Needs}
use Rattle.execution.specs.Bounds.{cut_at, Twins, twins, Tied, Calm}
use Rattle.execution.proofs.Congruence.{later_refl, later_trans, needs, needed, bind_like, bind_grows}
use Rattle.execution.proofs.FixedPoint.{calm_grows}
use Rattle.execution.proofs.Twins.{at_twin, goes_tied, undefined_tied, given_tied, pure_tied, twins_with, carried}
use Rattle.execution.proofs.CallLaws.{scoped_tied}
use Rattle.execution.proofs.CallCongruence.{leaves_grows}
use Rattle.c_semantics.specs.Operations.{◌>>=◌, gives, known, seen, changes}

pub record Matched {A : Type 0} (n more : ℕ) (base : List ℕ) (go to : State → Result A) : Type 0 where
  pub like : (s t : State) → Twins n more base s t → Like (twins n more base) Same (go s) (to t)
  pub grows : Needs (cut_at more) ((t : State) → Later t (last (to t)))

-- what is needed of each is needed of all
pub all_needs : {A : Type 0} (X : A → Type 0) (e : Ending) → ((a : A) → Needs e (X a)) → Needs e ((a : A) → X a)
all_needs X Exact h = tt
all_needs X Past h = h

pub needs_two : {X Y Z : Type 0} (e : Ending) → (X → Y → Z) → Needs e X → Needs e Y → Needs e Z
needs_two Exact f x y = tt
needs_two Past f x y = f x y

-- the state with units more, as a twin
pub twin : (n more : ℕ) (base : List ℕ) (s t : State) → Twins n more base s t → Twins n more base s (with_left s (s.left + more))
twin n more base s t tw = (tw.0, refl, tw.2)

pub later_with : (t : State) (m : Memory) → Later t (with_memory t m)
later_with t m = record { written = IsPrefix-refl t.out; spent = omega arith }

given_later : {A : Type 0} (t : State) (o : Option Memory) (next : Memory → Result A) → ((m : Memory) → Later t (last (next m))) → Later t (last (given t o next))
given_later t None next h = later_refl t
given_later t (Some m) next h = h m

pure_later : {A : Type 0} (t : State) (o : Option A) → Later t (last (pure t o))
pure_later t None = later_refl t
pure_later t (Some a) = later_refl t

pub gives_matched : {A : Type 0} {n more : ℕ} {base : List ℕ} (a : A) → Matched n more base (gives a) (gives a)
gives_matched {A} {n} {more} {base} a = record { like = λ s t tw. goes_tied Same n more base s t a a refl tw; grows = needed (cut_at more) later_refl }

pub undefined_matched : {A : Type 0} {n more : ℕ} {base : List ℕ} → Matched {A = A} n more base Undefined Undefined
undefined_matched {A} {n} {more} {base} = record { like = λ s t tw. undefined_tied (Same {A = A}) n more base s t tw; grows = needed (cut_at more) later_refl }

pub known_matched : {A : Type 0} {n more : ℕ} {base : List ℕ} (o : Option A) → Matched n more base (known o) (known o)
known_matched {A} {n} {more} {base} o = record { like = λ s t tw. pure_tied n more base s t o tw; grows = needed (cut_at more) (λ t. pure_later t o) }

pub seen_matched : {A : Type 0} {n more : ℕ} {base : List ℕ} (f : Memory → Option A) → Matched n more base (seen f) (seen f)
seen_matched {A} {n} {more} {base} f = record {
  like = λ s t tw. at_twin n more base s t (λ z. Like (twins n more base) Same (pure s (f s.memory)) (pure z (f z.memory))) tw (pure_tied n more base s (with_left s (s.left + more)) (f s.memory) (twin n more base s t tw));
  grows = needed (cut_at more) (λ t. pure_later t (f t.memory));
}

-- a change of the memory alone
pub memory_matched : {A : Type 0} {n more : ℕ} {base : List ℕ} (a : A) (f : Memory → Option Memory) → Matched n more base (λ s. given s (f s.memory) (λ m. Goes a (with_memory s m))) (λ s. given s (f s.memory) (λ m. Goes a (with_memory s m)))
memory_matched {A} {n} {more} {base} a f = record {
  like = λ s t tw. at_twin n more base s t (λ z. Like (twins n more base) Same (given s (f s.memory) (λ m. Goes a (with_memory s m))) (given z (f z.memory) (λ m. Goes a (with_memory z m)))) tw
      (given_tied Same n more base s (with_left s (s.left + more)) (f s.memory) (λ m. Goes a (with_memory s m)) (λ m. Goes a (with_memory (with_left s (s.left + more)) m)) (twin n more base s t tw)
      (λ m. goes_tied Same n more base (with_memory s m) (with_memory (with_left s (s.left + more)) m) a a refl (twins_with n more base s (with_left s (s.left + more)) m (twin n more base s t tw))));
  grows = needed (cut_at more) (λ t. given_later t (f t.memory) (λ m. Goes a (with_memory t m)) (λ m. later_with t m));
}

pub changes_matched : {n more : ℕ} {base : List ℕ} (f : Memory → Option Memory) → Matched n more base (changes f) (changes f)
changes_matched f = memory_matched tt f

pub bind_matched : {A B : Type 0} {n more : ℕ} {base : List ℕ} {go to : State → Result A} {next also : A → State → Result B}
    → Matched n more base go to → ((a : A) → Matched n more base (next a) (also a)) → Matched n more base (go >>= next) (to >>= also)
bind_matched {A} {B} {n} {more} {base} {go} {to} {next} {also} m k = record {
  like = λ s t tw. bind_like (twins n more base) Same Same (go s) (to t) next also (m.like s t tw)
      (λ a b u v e w. subst (λ x. Like (twins n more base) Same (next a u) (also x v)) (sym e) ((k a).like u v w))
      (carried n more base also (all_needs (λ a. (t : State) → Later t (last (also a t))) (cut_at more) (λ a. (k a).grows)));
  grows = needs_two (cut_at more) (λ g h t. later_trans t (last (to t)) (last (bind (to t) also)) (g t) (bind_grows (to t) also h)) m.grows (all_needs (λ a. (t : State) → Later t (last (also a t))) (cut_at more) (λ a. (k a).grows));
}

-- what calls do
pub record Ready (n more : ℕ) (base : List ℕ) (enter also : Enter) : Type 0 where
  pub calm : Needs (cut_at more) (Calm also)
  pub calls : Tied n more base enter also

pub enter_matched : {n more : ℕ} {base : List ℕ} {enter also : Enter} → Ready n more base enter also → (c : Call) → Matched n more base (enter c) (also c)
enter_matched {n} {more} {base} {enter} {also} r c = record { like = r.calls c; grows = needs (cut_at more) (λ g. calm_grows also g c) r.calm }

-- a block's objects
pub leaves_matched : {A : Type 0} {n more : ℕ} {base : List ℕ} (act : ℕ) (numbers : List ℕ) {go to : State → Result A} → Matched n more base go to → Matched n more base (λ s. leaves act numbers (go s)) (λ s. leaves act numbers (to s))
leaves_matched act numbers m = bind_matched m (λ a. memory_matched a (λ x. Some (without_objects act numbers x)))

pub scoped_matched : {A : Type 0} {n more : ℕ} {base : List ℕ} (act : ℕ) (objects : List Automatic) {go to : State → Result A} → Matched n more base go to → Matched n more base (scoped act objects go) (scoped act objects to)
scoped_matched {A} {n} {more} {base} act objects {go} {to} m = record {
  like = λ s t tw. scoped_tied Same n more base act objects go to s t tw m.like;
  grows = needs (cut_at more) (λ g t. leaves_grows act (map number_of objects) t (to (with_memory t (with_objects act objects t.memory)))
      (later_trans t (with_memory t (with_objects act objects t.memory)) (last (to (with_memory t (with_objects act objects t.memory)))) (later_with t (with_objects act objects t.memory)) (g (with_memory t (with_objects act objects t.memory))))) m.grows;
}
