-- Device: the meaning of a guarded step is a fixed point of it, and units more only continue a run.
use Rattle.std.proofs.Common.{◌≡◌, ℕ, zero, suc, ◌+◌, ◌<◌, ◌≤◌, List, refl, sym, ap, ◌∙◌, subst, arith}
use Rattle.cil_base.proofs.OutcomeLaws.{IsPrefix-refl}
use Rattle.execution.specs.States.{State, Result, Goes, Exits, Running, Undefined, last, with_left, spent, spend}
use Rattle.execution.specs.Unrolling.{Step, unrolled, meaning}
use Rattle.execution.specs.Likeness.{Ending, Exact, Past, Later, Like, Same, Grows, Needs}
use Rattle.execution.specs.Bounds.{cut_at, PastBound, Twins, twins, Tied, Calm, Guarded, TiedSteps, CalmStep}
use Rattle.execution.proofs.Congruence.{needed, like_wider}

states_wider : (m n more : ℕ) (base : List ℕ) (s t : State) → m ≤ n → Twins m more base s t → Twins n more base s t
states_wider m n more base s t h tw =
    let few : s.left ≤ m = tw.0 in
    let fewer : s.left ≤ n = omega arith in
    (fewer, tw.1, tw.2)

-- more units are no less
pub twins_wider : {A B : Type 0} (R : A → B → Type 0) (m n more : ℕ) (base : List ℕ) (r : Result A) (q : Result B) → m ≤ n → Like (twins m more base) R r q → Like (twins n more base) R r q
twins_wider R m n more base r q h =
    like_wider (twins m more base) (twins n more base) R R r q (record { ended = λ s t. states_wider m n more base s t h; past = λ s t p. p; cut = refl; wild = refl }) (λ s t. states_wider m n more base s t h) (λ a b i. i)

-- a state is its own twin
pub itself : (n : ℕ) (s : State) → s.left ≤ n → Twins n 0 s.out s s
itself n s h =
    let same : s.left + 0 ≡ s.left = omega arith in
    (h, sym (ap (with_left s) same), IsPrefix-refl s.out)

pub calm_grows : {X A : Type 0} (to : X → State → Result A) → Calm to → Grows to
calm_grows to c x s = by (to x s) (c s.left s.out x s s (itself s.left s (omega arith)))
  where
    by : {A : Type 0} (r : Result A) → Like (twins s.left 0 s.out) (Same {A = A}) r r → Later s (last r)
    by (Goes a u) l = record { written = l.3.2; spent = l.3.0 }
    by (Exits status u) l = record { written = l.1.2; spent = l.1.0 }
    by (Running u) l = record { written = l.1.2; spent = l.1.0 }
    by (Undefined u) l = record { written = l.1.2; spent = l.1.0 }

-- behind a spent unit
pub spend_tied : {A B : Type 0} (R : A → B → Type 0) (n more : ℕ) (base : List ℕ) (go : State → Result A) (to : State → Result B) (s t : State)
    → Twins n more base s t → Needs (cut_at more) ((u : State) → Later u (last (to u)))
    → ((m : ℕ) (u v : State) → m < n → Twins m more base u v → Like (twins m more base) R (go u) (to v)) → Like (twins n more base) R (spend s go) (spend t to)
spend_tied {A} {B} R n more base go to s t tw g k =
    subst (λ z. Like (twins n more base) R (spend s go) (spend z to)) (sym tw.1) (by s.left more refl tw.0 g k)
  where
    by : (l more : ℕ) → s.left ≡ l → l ≤ n → Needs (cut_at more) ((u : State) → Later u (last (to u)))
        → ((m : ℕ) (u v : State) → m < n → Twins m more base u v → Like (twins m more base) R (go u) (to v)) → Like (twins n more base) R (spent l s go) (spent (l + more) (with_left s (l + more)) to)
    by zero zero is h g k =
        let same : zero + zero ≡ zero = omega arith in
        (with_left s (zero + zero), (tw.0, ap (λ z. with_left s (z + zero)) (sym is), tw.2), ap (λ i. spent i (with_left s i) to) same ∙ ap (λ i. Running (with_left s i)) (sym same))
    by zero (suc j) is h g k =
        let more_is : zero + suc j ≡ suc j = omega arith in
        subst (λ i. PastBound (suc j) s (last (spent i (with_left s i) to))) (sym more_is) (record { written = (g (with_left s j)).written; spent = (g (with_left s j)).spent })
    by (suc l) j is h g k =
        let left_is : suc l + j ≡ suc (l + j) = omega arith in
        subst (λ i. Like (twins n j base) R (go (with_left s l)) (spent i (with_left s i) to)) (sym left_is)
        (twins_wider R l n j base (go (with_left s l)) (to (with_left s (l + j))) (omega arith) (k l (with_left s l) (with_left s (l + j)) (omega arith) (omega arith, refl, tw.2)))

-- from states with less than n units, n times over are enough
pub pairs_tied : {X A : Type 0} (step other : Step X A) (top more : ℕ) (base : List ℕ) → TiedSteps top more base step other → Needs (cut_at more) ((j : ℕ) → Calm (unrolled other j))
    → (i j n : ℕ) → n ≤ top → n < i → n + more < j → Tied n more base (unrolled step i) (unrolled other j)
pairs_tied step other top more base g c zero j n f h k = absurd (omega arith)
pairs_tied step other top more base g c (suc i) zero n f h k = absurd (omega arith)
pairs_tied {X} {A} step other top more base g c (suc i) (suc j) n f h k =
    g n (unrolled step i) (unrolled other j) f (at more c)
    (λ m l. let e : m ≤ top = omega arith in let a : m < i = omega arith in let b : m + more < j = omega arith in pairs_tied step other top more base g c i j m e a b)
  where
    at : (more : ℕ) → Needs (cut_at more) ((j : ℕ) → Calm (unrolled other j)) → Needs (cut_at more) (Calm (unrolled other j))
    at zero c = tt
    at (suc more) c = c j

pub unrolled_calm : {X A : Type 0} (step : Step X A) → CalmStep step → (j : ℕ) → Calm (unrolled step j)
unrolled_calm step g zero n base x s t tw = (t, tw, refl)
unrolled_calm step g (suc j) n base x s t tw = g n base (unrolled step j) (λ m l. unrolled_calm step g j m base) x s t tw

pub guarded_calm : {X A : Type 0} (step : Step X A) → Guarded step → CalmStep step
guarded_calm step g n base go k = g n 0 base go go tt k

pub guarded_tied : {X A : Type 0} (step : Step X A) → Guarded step → (top more : ℕ) (base : List ℕ) → TiedSteps top more base step step
guarded_tied step g top more base n go to l = g n more base go to

pub unrolled_tied : {X A : Type 0} (step : Step X A) (more : ℕ) (base : List ℕ) → Guarded step → Needs (cut_at more) ((j : ℕ) → Calm (unrolled step j))
    → (i j n : ℕ) → n < i → n + more < j → Tied n more base (unrolled step i) (unrolled step j)
unrolled_tied step more base g c i j n = pairs_tied step step n more base (guarded_tied step g n more base) c i j n (omega arith)

-- the meanings of steps that are alike are alike
pub meanings_tied : {X A : Type 0} (step other : Step X A) (top more : ℕ) (base : List ℕ) → TiedSteps top more base step other → Needs (cut_at more) (CalmStep other) → (n : ℕ) → n ≤ top → Tied n more base (meaning step) (meaning other)
meanings_tied step other top more base g c n f x s t tw =
    let at : s.left < suc s.left = omega arith in
    let also : s.left + more < suc (s.left + more) = omega arith in
    let few : s.left ≤ n = tw.0 in
    let fewer : s.left ≤ top = omega arith in
    let small : Twins s.left more base s t = (omega arith, tw.1, tw.2) in
    let like = pairs_tied step other top more base g (calmed (cut_at more) c) (suc s.left) (suc (s.left + more)) s.left fewer at also x s t small in
    subst (λ z. Like (twins n more base) Same (meaning step x s) (unrolled other (suc z) x t)) (sym (ap (λ z. z.left) tw.1))
    (twins_wider Same s.left n more base (meaning step x s) (unrolled other (suc (s.left + more)) x t) tw.0 like)
  where
    calmed : (e : Ending) → Needs e (CalmStep other) → Needs e ((j : ℕ) → Calm (unrolled other j))
    calmed Exact c = tt
    calmed Past c = unrolled_calm other c

-- a meaning with units more only goes on
pub meaning_tied : {X A : Type 0} (step : Step X A) → Guarded step → (n more : ℕ) (base : List ℕ) → Tied n more base (meaning step) (meaning step)
meaning_tied step g n more base = meanings_tied step step n more base (guarded_tied step g n more base) (needed (cut_at more) (guarded_calm step g)) n (omega arith)

pub meaning_calm : {X A : Type 0} (step : Step X A) → Guarded step → Calm (meaning step)
meaning_calm step g n base = meaning_tied step g n 0 base

same_state : (n : ℕ) (base : List ℕ) (s t : State) → Twins n 0 base s t → t ≡ s
same_state n base s t tw =
    let same : s.left + 0 ≡ s.left = omega arith in
    tw.1 ∙ ap (with_left s) same

-- alike without units more is the same
pub the_same : {A : Type 0} (n : ℕ) (base : List ℕ) (r q : Result A) → Like (twins n 0 base) Same r q → q ≡ r
the_same n base (Goes a s) q l =
    l.4 ∙ (ap (λ b. Goes b l.1) l.2 ∙ ap (Goes a) (same_state n base s l.1 l.3))
the_same n base (Exits status s) q l = l.2 ∙ ap (Exits status) (same_state n base s l.0 l.1)
the_same n base (Running s) q l = l.2 ∙ ap Running (same_state n base s l.0 l.1)
the_same n base (Undefined s) q l = l.2 ∙ ap Undefined (same_state n base s l.0 l.1)

-- the meaning is the step over itself
pub meaning_is : {X A : Type 0} (step : Step X A) → Guarded step → (x : X) (s : State) → meaning step x s ≡ step (meaning step) x s
meaning_is {X} {A} step g x s =
    sym (the_same s.left s.out (meaning step x s) (step (meaning step) x s)
    (g s.left 0 s.out (unrolled step s.left) (meaning step) tt below x s s (itself s.left s (omega arith))))
  where
    below : (m : ℕ) → m < s.left → Tied m 0 s.out (unrolled step s.left) (meaning step)
    below m h y u v tw =
        let fewer : u.left < s.left = (let few : u.left ≤ m = tw.0 in omega arith) in
        let also : u.left + 0 < suc (u.left + 0) = omega arith in
        subst (λ z. Like (twins m 0 s.out) Same (unrolled step s.left y u) (unrolled step (suc z) y v)) (sym (ap (λ z. z.left) tw.1))
        (twins_wider Same u.left m 0 s.out (unrolled step s.left y u) (unrolled step (suc (u.left + 0)) y v) tw.0
        (unrolled_tied step 0 s.out g tt s.left (suc (u.left + 0)) u.left fewer also y u v (omega arith, tw.1, tw.2)))

-- and nothing else is
pub one_meaning : {X A : Type 0} (step : Step X A) → Guarded step → (other : X → State → Result A) → ((x : X) (s : State) → other x s ≡ step other x s) → (x : X) (s : State) → other x s ≡ meaning step x s
one_meaning {X} {A} step g other is x s = sym (the_same s.left s.out (other x s) (meaning step x s) (all (suc s.left) s.left s.out (omega arith) x s s (itself s.left s (omega arith))))
  where
    all : (k n : ℕ) (base : List ℕ) → n < k → Tied n 0 base other (meaning step)
    all zero n base h y u v tw = absurd (omega arith)
    all (suc k) n base h y u v tw =
        subst (λ r. Like (twins n 0 base) Same r (meaning step y v)) (sym (is y u))
        (subst (λ q. Like (twins n 0 base) Same (step other y u) q) (sym (meaning_is step g y v))
        (g n 0 base other (meaning step) tt (λ m l. let small : m < k = omega arith in all k m base small) y u v tw))
