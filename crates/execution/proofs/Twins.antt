-- Device: likeness of runs that differ in their bounds alone.
use Rattle.std.proofs.Common.{◌≡◌, ℕ, ◌+◌, ◌<◌, List, Option, Some, None, refl, sym, ap, ◌∙◌, subst}
use Rattle.byte_mem.specs.Memory.{Memory}
use Rattle.execution.specs.States.{State, Result, Goes, Undefined, given, pure, last, with_left, with_memory}
use Rattle.execution.specs.Jumps.{Signal, Normal, Broken, Jumped, Returned, Has, Goer, spending}
use Rattle.execution.specs.Likeness.{Exact, Later, Likeness, Like, Same, LikeSignal, LikeGoer, Grows, Needs, Carries, Along, Follows}
use Rattle.execution.specs.Bounds.{cut_at, Twins, twins}
use Rattle.execution.proofs.Congruence.{needs, follows_along, within_itself, like_wider, gives_itself, given_like}
use Rattle.execution.proofs.FixedPoint.{spend_tied}

pub like_weaker : {A B : Type 0} (L : Likeness) (R S : A → B → Type 0) (r : Result A) (q : Result B) → ((a : A) (b : B) → R a b → S a b) → Like L R r q → Like L S r q
like_weaker L R S r q f = like_wider L L R S r q (within_itself L) (λ s t n. n) f

-- signals that are alike, with the same data and targets, are the same
pub signal_same : (n more : ℕ) (base : List ℕ) (a b : Signal) → LikeSignal (twins n more base) Same a b → b ≡ a
signal_same n more base Normal b l = l
signal_same n more base Broken b l = l
signal_same n more base (Jumped x) b l = l.2 ∙ ap Jumped l.1
signal_same n more base (Returned None) b l = l
signal_same n more base (Returned (Some d)) b l = l.2 ∙ ap (λ e. Returned (Some e)) l.1

pub signal_like : (n more : ℕ) (base : List ℕ) (a b : Signal) → b ≡ a → LikeSignal (twins n more base) Same a b
signal_like n more base Normal b e = e
signal_like n more base Broken b e = e
signal_like n more base (Jumped x) b e = (x, refl, e)
signal_like n more base (Returned None) b e = e
signal_like n more base (Returned (Some d)) b e = (d, refl, e)

-- what holds of a twin holds of the state with units more
pub at_twin : (n more : ℕ) (base : List ℕ) (s t : State) (P : State → Type 0) → Twins n more base s t → P (with_left s (s.left + more)) → P t
at_twin n more base s t P tw p = subst P (sym tw.1) p

pub twins_with : (n more : ℕ) (base : List ℕ) (s t : State) (m : Memory) → Twins n more base s t → Twins n more base (with_memory s m) (with_memory t m)
twins_with n more base s t m tw = (tw.0, ap (λ z. with_memory z m) tw.1, tw.2)

-- the same step on both sides, which goes on
pub goes_tied : {A B : Type 0} (R : A → B → Type 0) (n more : ℕ) (base : List ℕ) (s t : State) (a : A) (b : B) → R a b → Twins n more base s t → Like (twins n more base) R (Goes a s) (Goes b t)
goes_tied R n more base s t a b r tw = (b, t, r, tw, refl)

pub undefined_tied : {A B : Type 0} (R : A → B → Type 0) (n more : ℕ) (base : List ℕ) (s t : State) → Twins n more base s t → Like (twins n more base) R (Undefined s) (Undefined t)
undefined_tied R n more base s t tw = (t, tw, refl)

pub given_tied : {A B C : Type 0} (R : B → C → Type 0) (n more : ℕ) (base : List ℕ) (s t : State) (o : Option A) (go : A → Result B) (to : A → Result C) → Twins n more base s t
    → ((a : A) → Like (twins n more base) R (go a) (to a)) → Like (twins n more base) R (given s o go) (given t o to)
given_tied R n more base s t o go to tw k =
    given_like (twins n more base) Same R s t o o go to (gives_itself Exact o) (λ a c e. subst (λ z. Like (twins n more base) R (go a) (to z)) (sym e) (k a)) (t, tw, refl) tt

pub pure_tied : {A : Type 0} (n more : ℕ) (base : List ℕ) (s t : State) (o : Option A) → Twins n more base s t → Like (twins n more base) Same (pure s o) (pure t o)
pure_tied n more base s t (Some a) tw = goes_tied Same n more base s t a a refl tw
pure_tied n more base s t None tw = undefined_tied Same n more base s t tw

-- what jumps to the same targets on both sides follows, and so it is along
pub follows_same : (n more : ℕ) (base : List ℕ) (has : Has) (go to : Goer) → LikeGoer (twins n more base) Same Same go to → Carries (twins n more base) to → Follows (twins n more base) Same Same has has go to
follows_same n more base has go to l g = record { goer = l; same = λ x y i. ap has i; out = λ x y i h. i; grows = g }

pub along_same : (n more : ℕ) (base : List ℕ) (has : Has) (go to : Goer) → LikeGoer (twins n more base) Same Same go to → Carries (twins n more base) to → Along (twins n more base) Same Same has has go to
along_same n more base has go to l g = follows_along (twins n more base) Same Same has has go to (follows_same n more base has go to l g)

-- a continuation whose outputs grow, where that is asked
pub carried : {A B : Type 0} (n more : ℕ) (base : List ℕ) (to : A → State → Result B) → Needs (cut_at more) (Grows to) → Carries (twins n more base) to
carried n more base to g = record { cut = g; wild = tt }

pub grown_at : {A B : Type 0} (to : A → State → Result B) (a : A) → Grows to → (u : State) → Later u (last (to a u))
grown_at to a g u = g a u

-- at fewer units signals are alike as at more
pub signals_wider : (m n more : ℕ) (base : List ℕ) (r q : Result Signal) → Like (twins m more base) (LikeSignal (twins m more base) Same) r q → Like (twins m more base) (LikeSignal (twins n more base) Same) r q
signals_wider m n more base r q l = like_weaker (twins m more base) (LikeSignal (twins m more base) Same) (LikeSignal (twins n more base) Same) r q (λ a b h. signal_like n more base a b (signal_same m more base a b h)) l

-- behind a spent unit a jump leads back
pub spending_tied : (n more : ℕ) (base : List ℕ) (go to : Goer) → ((m : ℕ) → m < n → LikeGoer (twins m more base) Same Same go to) → Needs (cut_at more) (Grows to) → LikeGoer (twins n more base) Same Same (spending go) (spending to)
spending_tied n more base go to k g = record {
  start = λ s t tw. goes_tied (LikeSignal (twins n more base) Same) n more base s t Normal Normal refl tw;
  at = λ x y i s t tw. spend_tied (LikeSignal (twins n more base) Same) n more base (go (Some x)) (to (Some y)) s t tw (needs (cut_at more) (grown_at to (Some y)) g)
      (λ m u v l w. signals_wider m n more base (go (Some x) u) (to (Some y) v) ((k m l).at x y i u v w));
}
