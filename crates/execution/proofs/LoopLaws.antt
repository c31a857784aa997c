-- Device: the ends of loops keep likeness, and only write and spend where their parts do.
use Rattle.std.proofs.Common.{◌≡◌, Bool, true, false, Some, None, refl, sym, subst}
use Rattle.execution.specs.States.{State, Result, last}
use Rattle.execution.specs.Jumps.{Target, Signal, Broken, Goer, after}
use Rattle.execution.specs.Loops.{nowhere, is_continue, at_end, while_holds, asked, asked_first, started}
use Rattle.execution.specs.Likeness.{Later, Likeness, Like, Targets, Same, LikeSignal, LikeGoer, Grows, Carries, Along}
use Rattle.execution.proofs.Congruence.{later_refl, later_trans, bind_grows, bind_like, carries, after_grows, behind_like}

-- the end of a body

pub at_end_grows : (next : State → Result Signal) (body : Goer) → ((s : State) → Later s (last (next s))) → Grows body → Grows (at_end next body)
at_end_grows next body n g en s = later_trans s (last (body en s)) (last (at_end next body en s)) (g en s) (bind_grows (body en s) (after is_continue (λ e. next)) (after_grows is_continue (λ e. next) (λ e. n)))

-- a body, entered at c, that jumps to what e relates, continues among it; what else it jumps to passes on to d
pub at_end_like : (L : Likeness) (c e d : Targets) (go to : State → Result Signal) (body also : Goer)
    → LikeGoer L c e body also → ((x y : Target) → e x y → is_continue y ≡ is_continue x) → ((x y : Target) → e x y → is_continue x ≡ false → d x y)
    → ((s t : State) → L.states s t → Like L (LikeSignal L d) (go s) (to t)) → Carries L (λ (x : Unit {0}). to) → LikeGoer L c d (at_end go body) (at_end to also)
at_end_like L c e d go to body also b same out k g = record {
  start = λ s t n. behind_like L e d is_continue is_continue (λ en. go) (λ en. to) (body None s) (also None t) l (b.start s t n);
  at = λ x y i s t n. behind_like L e d is_continue is_continue (λ en. go) (λ en. to) (body (Some x) s) (also (Some y) t) l (b.at x y i s t n);
}
  where
    l : Along L e d is_continue is_continue (λ en. go) (λ en. to)
    l = record { start = k; at = λ x y i h. k; same = same; out = out; grows = carries L (λ (x : Unit {0}). to) (λ en. to) (λ h en. h tt) g }

-- conditions

while_grows : (go : State → Result Signal) → ((s : State) → Later s (last (go s))) → Grows (while_holds go)
while_grows go g true s = g s
while_grows go g false s = later_refl s

pub asked_grows : (condition : State → Result Bool) (go : State → Result Signal) → ((s : State) → Later s (last (condition s))) → ((s : State) → Later s (last (go s))) → (s : State) → Later s (last (asked condition go s))
asked_grows condition go c g s = later_trans s (last (condition s)) (last (asked condition go s)) (c s) (bind_grows (condition s) (while_holds go) (while_grows go g))

pub asked_like : (L : Likeness) (d : Targets) (condition other : State → Result Bool) (go to : State → Result Signal) → ((s t : State) → L.states s t → Like L Same (condition s) (other t))
    → ((s t : State) → L.states s t → Like L (LikeSignal L d) (go s) (to t)) → Carries L (λ (x : Unit {0}). to) → (s t : State) → L.states s t → Like L (LikeSignal L d) (asked condition go s) (asked other to t)
asked_like L d condition other go to c k g s t n =
    bind_like L Same (LikeSignal L d) (condition s) (other t) (while_holds go) (while_holds to) (c s t n) (λ v w u z i m. subst (λ x. Like L (LikeSignal L d) (while_holds go v u) (while_holds to x z)) (sym i) (by v u z m))
    (carries L (λ (x : Unit {0}). to) (while_holds to) (λ h. while_grows to (h tt)) g)
  where
    by : (v : Bool) (u z : State) → L.states u z → Like L (LikeSignal L d) (while_holds go v u) (while_holds to v z)
    by true u z m = k u z m
    by false u z m = (Broken, z, refl, m, refl)

pub asked_first_grows : (condition : State → Result Bool) (body : Goer) → ((s : State) → Later s (last (condition s))) → Grows body → Grows (asked_first condition body)
asked_first_grows condition body c g None s = asked_grows condition (body None) c (g None) s
asked_first_grows condition body c g (Some x) s = g (Some x) s

pub asked_first_like : (L : Likeness) (c d : Targets) (condition other : State → Result Bool) (body also : Goer) → ((s t : State) → L.states s t → Like L Same (condition s) (other t)) → LikeGoer L c d body also → Carries L also
    → LikeGoer L c d (asked_first condition body) (asked_first other also)
asked_first_like L c d condition other body also k b g = record {
  start = asked_like L d condition other (body None) (also None) k b.start (carries L also (λ (x : Unit {0}). also None) (λ h x. h None) g);
  at = b.at;
}

-- the start of a `for`

pub started_grows : (start loop : Goer) → Grows start → Grows loop → Grows (started start loop)
started_grows start loop g h None s = later_trans s (last (start None s)) (last (started start loop None s)) (g None s) (bind_grows (start None s) (after nowhere (λ en. loop None)) (after_grows nowhere (λ en. loop None) (λ en. h None)))
started_grows start loop g h (Some x) s = h (Some x) s

-- what the start jumps to is nowhere in the loop
pub started_like : (L : Likeness) (c d : Targets) (start other loop also : Goer) → ((s t : State) → L.states s t → Like L (LikeSignal L d) (start None s) (other None t)) → LikeGoer L c d loop also → Carries L also
    → LikeGoer L c d (started start loop) (started other also)
started_like L c d start other loop also k l g = record {
  start = λ s t n. behind_like L d d nowhere nowhere (λ en. loop None) (λ en. also None) (start None s) (other None t) behind (k s t n);
  at = l.at;
}
  where
    behind : Along L d d nowhere nowhere (λ en. loop None) (λ en. also None)
    behind = record { start = l.start; at = λ x y i h. l.start; same = λ x y i. refl; out = λ x y i h. i; grows = carries L also (λ en. also None) (λ h en. h None) g }
