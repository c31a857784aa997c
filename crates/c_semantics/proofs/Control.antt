-- Device: the constructs of statements are matched where their parts are.
use Rattle.std.proofs.Common.{ℕ, ◌<◌, ◌≤◌, Bool, true, false, List, Some, None, arith}
use Rattle.std.specs.Prelude.{ℤ}
use Rattle.execution.specs.States.{State, Result, Goes, spend, last}
use Rattle.execution.specs.Jumps.{Target, ToLabel, Entry, Signal, Normal, Broken, Jumped, Returned, Has, Goer, jumped, after, behind, jumping, spending, caught, seq_at, seq_from, chosen, if_from, case_for, broken_off, switch_ends, switched, switch_from, turned, turn_ends, turn, loop_from}
use Rattle.execution.specs.Loops.{nowhere, is_continue, at_end, while_holds, asked, asked_first, started}
use Rattle.execution.specs.Likeness.{Later, Same, Needs}
use Rattle.execution.specs.Bounds.{cut_at}
use Rattle.execution.proofs.Congruence.{later_trans, needs, bind_grows, turned_grows, spending_grows}
use Rattle.execution.proofs.FixedPoint.{spend_tied}
use Rattle.c_semantics.specs.Statements.{ended}
use Rattle.c_semantics.specs.Operations.{Action}
use Rattle.c_semantics.proofs.Matched.{Matched, needs_two, gives_matched, bind_matched}

abbrev pub MatchedGoer : ℕ → ℕ → List ℕ → Goer → Goer → Type 0
MatchedGoer n more base go to = (en : Entry) → Matched n more base (go en) (to en)

jumped_m : {n more : ℕ} {base : List ℕ} (b : Bool) (t : Target) (go to : Goer) → MatchedGoer n more base go to → Matched n more base (λ s. jumped b t s go) (λ s. jumped b t s to)
jumped_m true t go to m = m (Some t)
jumped_m false t go to m = gives_matched (Jumped t)

after_m : {n more : ℕ} {base : List ℕ} (has : Has) (go to : Goer) → MatchedGoer n more base go to → (x : Signal) → Matched n more base (after has go x) (after has to x)
after_m has go to m Normal = m None
after_m has go to m Broken = gives_matched Broken
after_m has go to m (Jumped t) = jumped_m (has t) t go to m
after_m has go to m (Returned v) = gives_matched (Returned v)

pub behind_m : {n more : ℕ} {base : List ℕ} (has : Has) (go to : Action Signal) (next also : Goer) → Matched n more base go to → MatchedGoer n more base next also → Matched n more base (λ s. behind has (go s) next) (λ s. behind has (to s) also)
behind_m has go to next also m k = bind_matched {go = go} {to = to} {next = after has next} {also = after has also} m (λ x. after_m has next also k x)

jumping_m : {n more : ℕ} {base : List ℕ} (go to : Goer) → MatchedGoer n more base go to → MatchedGoer n more base (jumping go) (jumping to)
jumping_m go to m None = gives_matched Normal
jumping_m go to m (Some t) = m (Some t)

-- behind a spent unit
pub spend_m : {n more : ℕ} {base : List ℕ} (go to : State → Result Signal) → ((m : ℕ) → m < n → Matched m more base go to) → Needs (cut_at more) ((t : State) → Later t (last (to t))) → Matched n more base (λ s. spend s go) (λ s. spend s to)
spend_m {n} {more} {base} go to k g = record {
  like = λ s t tw. spend_tied Same n more base go to s t tw g (λ m u v l w. (k m l).like u v w);
  grows = needs (cut_at more) (λ h t. spending_grows (λ en u. to u) (λ en u. h u) (Some (ToLabel 0)) t) g;
}

spending_m : {n more : ℕ} {base : List ℕ} (go to : Goer) → ((m : ℕ) → m < n → MatchedGoer m more base go to) → ((en : Entry) → Needs (cut_at more) ((t : State) → Later t (last (to en t)))) → MatchedGoer n more base (spending go) (spending to)
spending_m go to k g None = gives_matched Normal
spending_m go to k g (Some t) = spend_m (go (Some t)) (to (Some t)) (λ m l. k m l (Some t)) (g (Some t))

pub caught_m : {n more : ℕ} {base : List ℕ} (has : Has) (go to : Action Signal) (next also : Goer) → Matched n more base go to → ((m : ℕ) → m < n → MatchedGoer m more base next also) → ((en : Entry) → Needs (cut_at more) ((t : State) → Later t (last (also en t))))
    → Matched n more base (λ s. caught has (go s) next) (λ s. caught has (to s) also)
caught_m has go to next also m k g = behind_m has go to (spending next) (spending also) m (spending_m next also k g)

seq_at_m : {n more : ℕ} {base : List ℕ} (b : Bool) (rest : Has) (t : Target) (a a' b1 b2 : Goer) → MatchedGoer n more base a a' → MatchedGoer n more base b1 b2 → Matched n more base (seq_at b rest a b1 t) (seq_at b rest a' b2 t)
seq_at_m true rest t a a' b b' m k = behind_m rest (a (Some t)) (a' (Some t)) b b' (m (Some t)) k
seq_at_m false rest t a a' b b' m k = k (Some t)

pub seq_m : {n more : ℕ} {base : List ℕ} (first rest : Has) (a a' b b' : Goer) → MatchedGoer n more base a a' → MatchedGoer n more base b b' → MatchedGoer n more base (seq_from first rest a b) (seq_from first rest a' b')
seq_m first rest a a' b b' m k None = behind_m rest (a None) (a' None) b b' (m None) k
seq_m first rest a a' b b' m k (Some t) = seq_at_m (first t) rest t a a' b b' m k

chosen_goer_m : {n more : ℕ} {base : List ℕ} (v : Bool) (fails : Has) (a a' b b' : Goer) → MatchedGoer n more base a a' → MatchedGoer n more base b b' → MatchedGoer n more base (chosen v fails a b) (chosen v fails a' b')
chosen_goer_m true fails a a' b b' m k en = behind_m fails (a en) (a' en) (jumping b) (jumping b') (m en) (jumping_m b b' k)
chosen_goer_m false fails a a' b b' m k en = k en

pub if_m : {n more : ℕ} {base : List ℕ} (test test' : Action Bool) (holds fails : Has) (a a' b b' : Goer) → Matched n more base test test' → MatchedGoer n more base a a' → MatchedGoer n more base b b'
    → MatchedGoer n more base (if_from test holds fails a b) (if_from test' holds fails a' b')
if_m test test' holds fails a a' b b' c m k None = bind_matched {go = test} {to = test'} {next = λ v t. chosen v fails a b None t} {also = λ v t. chosen v fails a' b' None t} c (λ v. chosen_goer_m v fails a a' b b' m k None)
if_m test test' holds fails a a' b b' c m k (Some t) = chosen_goer_m (holds t) fails a a' b b' m k (Some t)

broken_off_m : {n more : ℕ} {base : List ℕ} (x : Signal) → Matched n more base (broken_off x) (broken_off x)
broken_off_m Normal = gives_matched Normal
broken_off_m Broken = gives_matched Normal
broken_off_m (Jumped t) = gives_matched (Jumped t)
broken_off_m (Returned v) = gives_matched (Returned v)

switch_ends_m : {n more : ℕ} {base : List ℕ} (go to : Action Signal) → Matched n more base go to → Matched n more base (λ s. switch_ends (go s)) (λ s. switch_ends (to s))
switch_ends_m go to m = bind_matched {go = go} {to = to} {next = broken_off} {also = broken_off} m (λ x. broken_off_m x)

switched_m : {n more : ℕ} {base : List ℕ} (en : Entry) (a a' : Goer) → MatchedGoer n more base a a' → Matched n more base (switched en a) (switched en a')
switched_m None a a' m = gives_matched Normal
switched_m (Some t) a a' m = switch_ends_m (a (Some t)) (a' (Some t)) (m (Some t))

pub switch_m : {n more : ℕ} {base : List ℕ} (value value' : Action ℤ) (has : Has) (a a' : Goer) → Matched n more base value value' → MatchedGoer n more base a a' → MatchedGoer n more base (switch_from value has a) (switch_from value' has a')
switch_m value value' has a a' c m None = bind_matched {go = value} {to = value'} {next = λ v t. switched (case_for has v) a t} {also = λ v t. switched (case_for has v) a' t} c (λ v. switched_m (case_for has v) a a' m)
switch_m value value' has a a' c m (Some t) = switch_ends_m (a (Some t)) (a' (Some t)) (m (Some t))

turned_m : {n more : ℕ} {base : List ℕ} (next also : Action Signal) → Matched n more base next also → (x : Signal) → Matched n more base (turned next x) (turned also x)
turned_m next also m Normal = m
turned_m next also m Broken = gives_matched Normal
turned_m next also m (Jumped t) = gives_matched (Jumped t)
turned_m next also m (Returned v) = gives_matched (Returned v)

turn_ends_m : {n more : ℕ} {base : List ℕ} (go to next also : Action Signal) → Matched n more base go to → Matched n more base next also → Matched n more base (λ s. turn_ends (go s) next) (λ s. turn_ends (to s) also)
turn_ends_m go to next also m k = bind_matched {go = go} {to = to} {next = turned next} {also = turned also} m (λ x. turned_m next also k x)

-- a turn spends a unit, and the next one stands behind it
turn_m : {n more : ℕ} {base : List ℕ} (next also : Action Signal) (a a' : Goer) → ((m : ℕ) → m < n → Matched m more base next also) → ((m : ℕ) → m ≤ n → MatchedGoer m more base a a') → Needs (cut_at more) ((t : State) → Later t (last (also t)))
    → Matched n more base (turn next a) (turn also a')
turn_m {n} {more} {base} next also a a' k m g = spend_m (λ t. turn_ends (a None t) next) (λ t. turn_ends (a' None t) also) (λ i l. turn_ends_m (a None) (a' None) next also (m i (omega (arith, l)) None) (k i l)) (needs_two (cut_at more) (λ e h t. later_trans t (last (a' None t)) (last (turn_ends (a' None t) also)) (e t) (bind_grows (a' None t) (turned also) (turned_grows also h))) (m n (omega arith) None).grows g)

pub loop_m : {n more : ℕ} {base : List ℕ} (next also : Action Signal) (a a' : Goer) → ((m : ℕ) → m < n → Matched m more base next also) → ((m : ℕ) → m ≤ n → MatchedGoer m more base a a') → Needs (cut_at more) ((t : State) → Later t (last (also t)))
    → MatchedGoer n more base (loop_from next a) (loop_from also a')
loop_m {n} next also a a' k m g None = turn_m next also a a' k m g
loop_m {n} next also a a' k m g (Some t) = turn_ends_m (a (Some t)) (a' (Some t)) (turn next a) (turn also a') (m n (omega arith) (Some t)) (turn_m next also a a' k m g)

-- the constructs of C

pub at_end_m : {n more : ℕ} {base : List ℕ} (next also : Action Signal) (a a' : Goer) → Matched n more base next also → MatchedGoer n more base a a' → MatchedGoer n more base (at_end next a) (at_end also a')
at_end_m next also a a' k m en = behind_m is_continue (a en) (a' en) (λ e. next) (λ e. also) (m en) (λ e. k)

while_holds_m : {n more : ℕ} {base : List ℕ} (go to : Action Signal) → Matched n more base go to → (v : Bool) → Matched n more base (while_holds go v) (while_holds to v)
while_holds_m go to m true = m
while_holds_m go to m false = gives_matched Broken

pub asked_m : {n more : ℕ} {base : List ℕ} (c c' : Action Bool) (go to : Action Signal) → Matched n more base c c' → Matched n more base go to → Matched n more base (asked c go) (asked c' to)
asked_m c c' go to k m = bind_matched {go = c} {to = c'} {next = while_holds go} {also = while_holds to} k (λ v. while_holds_m go to m v)

pub asked_first_m : {n more : ℕ} {base : List ℕ} (c c' : Action Bool) (a a' : Goer) → Matched n more base c c' → MatchedGoer n more base a a' → MatchedGoer n more base (asked_first c a) (asked_first c' a')
asked_first_m c c' a a' k m None = asked_m c c' (a None) (a' None) k (m None)
asked_first_m c c' a a' k m (Some t) = m (Some t)

pub started_m : {n more : ℕ} {base : List ℕ} (go to a a' : Goer) → Matched n more base (go None) (to None) → MatchedGoer n more base a a' → MatchedGoer n more base (started go a) (started to a')
started_m go to a a' k m None = behind_m nowhere (go None) (to None) (λ e. a None) (λ e. a' None) k (λ e. m None)
started_m go to a a' k m (Some t) = m (Some t)

pub ended_m : {n more : ℕ} {base : List ℕ} (go to : Action (Unit {0})) → Matched n more base go to → Matched n more base (ended go) (ended to)
ended_m go to m = bind_matched {go = go} {to = to} {next = λ u. Goes Normal} {also = λ u. Goes Normal} m (λ u. gives_matched Normal)
