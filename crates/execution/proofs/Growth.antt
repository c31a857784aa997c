-- Device: each construct only writes and spends, where its parts do.
use Rattle.std.proofs.Common.{Bool, Option, Some, None, ℤ}
use Rattle.execution.specs.States.{State, Result, bind, pure, last}
use Rattle.execution.specs.Jumps.{ToLabel, Signal, Has, Goer, after, spending, caught, chosen, if_from, case_for, switched, switch_from, turned, turn_ends, turn, loop_from}
use Rattle.execution.specs.Likeness.{Later, Grows}
use Rattle.execution.proofs.Congruence.{later_refl, later_trans, bind_grows, after_grows, spending_grows, chosen_grows, switched_grows, turned_grows}

pub pure_grows : {A : Type 0} (s : State) (o : Option A) → Later s (last (pure s o))
pure_grows s None = later_refl s
pure_grows s (Some a) = later_refl s

pub if_grows : (test : State → Result Bool) (holds fails : Has) (a b : Goer) → ((s : State) → Later s (last (test s))) → Grows a → Grows b → Grows (if_from test holds fails a b)
if_grows test holds fails a b t g h None s =
    later_trans s (last (test s)) (last (bind (test s) (λ v u. chosen v fails a b None u))) (t s) (bind_grows (test s) (λ v u. chosen v fails a b None u) (λ v u. chosen_grows fails a b g h v None u))
if_grows test holds fails a b t g h (Some x) s = chosen_grows fails a b g h (holds x) (Some x) s

pub switch_grows : (value : State → Result ℤ) (has : Has) (body : Goer) → ((s : State) → Later s (last (value s))) → Grows body → Grows (switch_from value has body)
switch_grows value has body t g None s =
    later_trans s (last (value s)) (last (bind (value s) (λ v u. switched (case_for has v) body u))) (t s) (bind_grows (value s) (λ v u. switched (case_for has v) body u) (λ v u. switched_grows body g (case_for has v) u))
switch_grows value has body t g (Some x) s = switched_grows body g (Some x) s

turn_ends_grows : (next : State → Result Signal) (r : Result Signal) (s : State) → ((u : State) → Later u (last (next u))) → Later s (last r) → Later s (last (turn_ends r next))
turn_ends_grows next r s n l = later_trans s (last r) (last (turn_ends r next)) l (bind_grows r (turned next) (turned_grows next n))

pub turn_grows : (next : State → Result Signal) (body : Goer) → ((s : State) → Later s (last (next s))) → Grows body → (s : State) → Later s (last (turn next body s))
turn_grows next body n g s = spending_grows (λ en u. turn_ends (body None u) next) (λ en u. turn_ends_grows next (body None u) u n (g None u)) (Some (ToLabel 0)) s

pub loop_grows : (next : State → Result Signal) (body : Goer) → ((s : State) → Later s (last (next s))) → Grows body → Grows (loop_from next body)
loop_grows next body n g None s = turn_grows next body n g s
loop_grows next body n g (Some x) s = turn_ends_grows (turn next body) (body (Some x) s) s (turn_grows next body n g) (g (Some x) s)

pub caught_grows : (has : Has) (r : Result Signal) (again : Goer) (s : State) → Grows again → Later s (last r) → Later s (last (caught has r again))
caught_grows has r again s g l = later_trans s (last r) (last (caught has r again)) l (bind_grows r (after has (spending again)) (after_grows has (spending again) (spending_grows again g)))
