-- Device: each combinator keeps likeness.
use Rattle.std.proofs.Common.{◌≡◌, ℕ, zero, suc, Bool, true, false, if◌then◌else◌, Option, Some, None, ℤ, refl, sym, ap, ◌∙◌, subst, arith}
use Rattle.std.proofs.Math.Nat.{le_trans}
use Rattle.cil_base.proofs.OutcomeLaws.{IsPrefix-refl, IsPrefix-trans}
use Rattle.byte_mem.specs.Steps.{◌>>=◌}
use Rattle.execution.specs.States.{State, Result, Goes, Exits, Running, Undefined, bind, given, spend, spent, last, with_left}
use Rattle.execution.specs.Unrolling.{Step, unrolled, meaning}
use Rattle.execution.specs.Jumps.{Target, ToCase, ToDefault, Entry, Signal, Normal, Broken, Jumped, Returned, Has, Goer, jumped, after, behind, jumping, spending, across, caught, seq_at, seq_from, chosen, if_from, case_for, broken_off, switch_ends, switched, switch_from, turned, turn_ends, turn, loop_from}
use Rattle.execution.specs.Likeness.{Ending, Exact, Past, Later, Likeness, ends, Like, Within, Computes, Alike, Targets, Same, LikeSignal, LikeGoer, Grows, Needs, Carries, JumpedInto, Along, Follows}

pub later_refl : (s : State) → Later s s
later_refl s = record { written = IsPrefix-refl s.out; spent = omega arith }

pub later_trans : (s t u : State) → Later s t → Later t u → Later s u
later_trans s t u h k = record { written = IsPrefix-trans s.out t.out u.out h.written k.written; spent = le_trans k.spent h.spent }

-- runs only write and spend

pub bind_grows : {A B : Type 0} (q : Result A) (to : A → State → Result B) → Grows to → Later (last q) (last (bind q to))
bind_grows (Goes a s) to g = g a s
bind_grows (Exits status s) to g = later_refl s
bind_grows (Running s) to g = later_refl s
bind_grows (Undefined s) to g = later_refl s

pub needs : {X Y : Type 0} (e : Ending) → (X → Y) → Needs e X → Needs e Y
needs Exact f x = tt
needs Past f x = f x

pub needed : {X : Type 0} (e : Ending) → X → Needs e X
needed Exact x = tt
needed Past x = x

pub carries : {A B C D : Type 0} (L : Likeness) (to : A → State → Result B) (also : C → State → Result D) → (Grows to → Grows also) → Carries L to → Carries L also
carries L to also f g = record { cut = needs L.cut f g.cut; wild = needs L.wild f g.wild }

pub carries_both : {A B C D E F : Type 0} (L : Likeness) (to : A → State → Result B) (on : C → State → Result D) (also : E → State → Result F) → (Grows to → Grows on → Grows also) → Carries L to → Carries L on → Carries L also
carries_both L to on also f g h = record { cut = two L.cut f g.cut h.cut; wild = two L.wild f g.wild h.wild }
  where
    two : {X Y Z : Type 0} (e : Ending) → (X → Y → Z) → Needs e X → Needs e Y → Needs e Z
    two Exact f x y = tt
    two Past f x y = f x y

-- one part behind another

ended : {C D : Type 0} (e : Ending) (L : Likeness) (end : State → Result C) (stop : State → Result D) (s : State) (q : Result C) (to : C → State → Result D)
    → ((t : State) → bind (end t) to ≡ stop t) → Needs e (Grows to) → ends {B = C} e L end s q → ends {B = D} e L stop s (bind q to)
ended Exact L end stop s q to d g h = (h.0, h.1, ap (λ x. bind x to) h.2 ∙ d h.0)
ended Past L end stop s q to d g h = L.later s (last q) (last (bind q to)) h (bind_grows q to g)

pub ends_within : {B : Type 0} (M L : Likeness) → Within M L → (d e : Ending) → d ≡ e → (end : State → Result B) (s : State) (q : Result B) → ends d M end s q → ends e L end s q
ends_within {B} M L w d e i end s q h = subst (λ x. ends {B = B} x L end s q) i (by d h)
  where
    by : (d : Ending) → ends {B = B} d M end s q → ends {B = B} d L end s q
    by Exact h = (h.0, w.ended s h.0 h.1, h.2)
    by Past h = w.past s (last q) h

pub within_itself : (L : Likeness) → Within L L
within_itself L = record { ended = λ s t h. h; past = λ s t h. h; cut = refl; wild = refl }

-- the first part is alike by M, and what comes behind it by L
pub bind_into : {A B C D : Type 0} (M L : Likeness) (R : A → C → Type 0) (S : B → D → Type 0) (r : Result A) (q : Result C) (go : A → State → Result B) (to : C → State → Result D)
    → Within M L → Like M R r q → ((a : A) (b : C) (s t : State) → R a b → M.states s t → Like L S (go a s) (to b t)) → Carries L to → Like L S (bind r go) (bind q to)
bind_into M L R S (Goes a s) q go to w h k g = subst (λ x. Like L S (go a s) (bind x to)) (sym h.4) (k a h.0 s h.1 h.2 h.3)
bind_into M L R S (Exits status s) q go to w h k g = (h.0, w.ended s h.0 h.1, ap (λ x. bind x to) h.2)
bind_into {A} {B} {C} {D} M L R S (Running s) q go to w h k g = ended {C = C} {D = D} L.cut L Running Running s q to (λ t. refl) g.cut (ends_within M L w M.cut L.cut w.cut Running s q h)
bind_into {A} {B} {C} {D} M L R S (Undefined s) q go to w h k g = ended {C = C} {D = D} L.wild L Undefined Undefined s q to (λ t. refl) g.wild (ends_within M L w M.wild L.wild w.wild Undefined s q h)

pub bind_like : {A B C D : Type 0} (L : Likeness) (R : A → C → Type 0) (S : B → D → Type 0) (r : Result A) (q : Result C) (go : A → State → Result B) (to : C → State → Result D)
    → Like L R r q → ((a : A) (b : C) (s t : State) → R a b → L.states s t → Like L S (go a s) (to b t)) → Carries L to → Like L S (bind r go) (bind q to)
bind_like L R S r q go to = bind_into L L R S r q go to (within_itself L)

-- alike in more is alike in less
pub like_wider : {A B : Type 0} (M L : Likeness) (R S : A → B → Type 0) (r : Result A) (q : Result B)
    → Within M L → ((s t : State) → M.states s t → L.states s t) → ((a : A) (b : B) → R a b → S a b) → Like M R r q → Like L S r q
like_wider M L R S (Goes a s) q w n f h = (h.0, h.1, f a h.0 h.2, n s h.1 h.3, h.4)
like_wider M L R S (Exits status s) q w n f h = (h.0, w.ended s h.0 h.1, h.2)
like_wider M L R S (Running s) q w n f h = ends_within M L w M.cut L.cut w.cut Running s q h
like_wider M L R S (Undefined s) q w n f h = ends_within M L w M.wild L.wild w.wild Undefined s q h

-- computations

pub gives_itself : {A : Type 0} (e : Ending) (o : Option A) → Computes e Same o o
gives_itself e (Some a) = (a, refl, refl)
gives_itself Exact None = refl
gives_itself Past None = tt

-- what is undefined on both sides may be anything too
pub gives_so : {A B : Type 0} (e : Ending) (R : A → B → Type 0) (o : Option A) (u : Option B) → Computes Exact R o u → Computes e R o u
gives_so e R (Some a) u g = g
gives_so Exact R None u g = g
gives_so Past R None u g = tt

pub gives_bind : {A B C D : Type 0} (e : Ending) (R : A → C → Type 0) (S : B → D → Type 0) (o : Option A) (u : Option C) (go : A → Option B) (to : C → Option D)
    → Computes e R o u → ((a : A) (c : C) → R a c → Computes e S (go a) (to c)) → Computes e S (o >>= go) (u >>= to)
gives_bind e R S (Some a) u go to g k = subst (λ z. Computes e S (go a) (z >>= to)) (sym g.2) (k a g.0 g.1)
gives_bind Exact R S None u go to g k = ap (λ z. z >>= to) g
gives_bind Past R S None u go to g k = tt

-- what is done with what they give
pub given_grows : {A B : Type 0} (s : State) (o : Option A) (to : A → Result B) → ((a : A) → Later s (last (to a))) → Later s (last (given s o to))
given_grows s (Some a) to g = g a
given_grows s None to g = later_refl s

pub given_like : {A B C D : Type 0} (L : Likeness) (Q : A → C → Type 0) (R : B → D → Type 0) (s t : State) (o : Option A) (u : Option C) (go : A → Result B) (to : C → Result D)
    → Computes L.wild Q o u → ((a : A) (c : C) → Q a c → Like L R (go a) (to c)) → ends {B = D} L.wild L Undefined s (Undefined t) → Needs L.wild ((c : C) → Later t (last (to c)))
    → Like L R (given s o go) (given t u to)
given_like L Q R s t (Some a) u go to g k w m = subst (λ z. Like L R (go a) (given t z to)) (sym g.2) (k a g.0 g.1)
given_like {A} {B} {C} {D} L Q R s t None u go to g k w m = by L.wild g w m
  where
    by : (e : Ending) → Computes e Q None u → ends {B = D} e L Undefined s (Undefined t) → Needs e ((c : C) → Later t (last (to c))) → ends {B = D} e L Undefined s (given t u to)
    by Exact g w m = (w.0, w.1, ap (λ z. given t z to) g ∙ w.2)
    by Past g w m = L.later s t (last (given t u to)) w (given_grows t u to m)

-- jumps

pub after_grows : (has : Has) (to : Goer) → Grows to → Grows (after has to)
after_grows has to g Normal s = g None s
after_grows has to g Broken s = later_refl s
after_grows has to g (Jumped x) s = caught_or (has x)
  where
    caught_or : (b : Bool) → Later s (last (jumped b x s to))
    caught_or true = g (Some x) s
    caught_or false = later_refl s
after_grows has to g (Returned v) s = later_refl s

pub behind_like : (L : Likeness) (c d : Targets) (has also : Has) (go to : Goer) (r q : Result Signal) → Along L c d has also go to → Like L (LikeSignal L c) r q → Like L (LikeSignal L d) (behind has r go) (behind also q to)
behind_like L c d has also go to r q l h = bind_like L (LikeSignal L c) (LikeSignal L d) r q (after has go) (after also to) h step (carries L to (after also to) (after_grows also to) l.grows)
  where
    by : (x y : Target) (s t : State) → c x y → L.states s t → (b e : Bool) → has x ≡ b → e ≡ b → Like L (LikeSignal L d) (jumped b x s go) (jumped e y t to)
    by x y s t i n true e hb he = subst (λ f. Like L (LikeSignal L d) (go (Some x) s) (jumped f y t to)) (sym he) (l.at x y i hb s t n)
    by x y s t i n false e hb he = subst (λ f. Like L (LikeSignal L d) (Goes (Jumped x) s) (jumped f y t to)) (sym he) (Jumped y, t, (y, l.out x y i hb, refl), n, refl)

    step : (a b : Signal) (s t : State) → LikeSignal L c a b → L.states s t → Like L (LikeSignal L d) (after has go a s) (after also to b t)
    step Normal b s t i n = subst (λ y. Like L (LikeSignal L d) (go None s) (after also to y t)) (sym i) (l.start s t n)
    step Broken b s t i n = (Broken, t, refl, n, ap (λ y. after also to y t) i)
    step (Jumped x) b s t i n = subst (λ y. Like L (LikeSignal L d) (jumped (has x) x s go) (after also to y t)) (sym i.2) (by x i.0 s t i.1 n (has x) (also i.0) refl (l.same x i.0 i.1))
    step (Returned None) b s t i n = (Returned None, t, refl, n, ap (λ y. after also to y t) i)
    step (Returned (Some v)) b s t i n = (Returned (Some i.0), t, (i.0, i.1, refl), n, ap (λ y. after also to y t) i.2)

pub along_jumped : (L : Likeness) (c d : Targets) (has also : Has) (go to : Goer) → Along L c d has also go to → JumpedInto L c d has also go to
along_jumped L c d has also go to l = record { at = l.at; same = l.same; out = l.out; grows = l.grows }

pub follows_along : (L : Likeness) (c d : Targets) (has also : Has) (go to : Goer) → Follows L c d has also go to → Along L c d has also go to
follows_along L c d has also go to f = record { start = f.goer.start; at = λ x y i h. f.goer.at x y i; same = f.same; out = f.out; grows = f.grows }

pub follows_jumped : (L : Likeness) (c d : Targets) (has also : Has) (go to : Goer) → Follows L c d has also go to → JumpedInto L c d has also go to
follows_jumped L c d has also go to f = record { at = λ x y i h. f.goer.at x y i; same = f.same; out = f.out; grows = f.grows }

-- what is only entered by jumps
pub jumping_grows : (to : Goer) → Grows to → Grows (jumping to)
jumping_grows to g None s = later_refl s
jumping_grows to g (Some x) s = g (Some x) s

pub jumping_along : (L : Likeness) (c d : Targets) (has also : Has) (go to : Goer) → JumpedInto L c d has also go to → Along L c d has also (jumping go) (jumping to)
jumping_along L c d has also go to l = record {
  start = λ s t n. (Normal, t, refl, n, refl);
  at = l.at;
  same = l.same;
  out = l.out;
  grows = carries L to (jumping to) (jumping_grows to) l.grows;
}

pub spending_grows : (to : Goer) → Grows to → Grows (spending to)
spending_grows to g None s = later_refl s
spending_grows to g (Some x) s = by s.left refl
  where
    by : (n : ℕ) → s.left ≡ n → Later s (last (spent n s (to (Some x))))
    by zero e = later_refl s
    by (suc n) e = later_trans s (with_left s n) (last (to (Some x) (with_left s n))) (record { written = IsPrefix-refl s.out; spent = omega arith }) (g (Some x) (with_left s n))

-- statements in order
pub seq_grows : (first rest : Has) (a b : Goer) → Grows a → Grows b → Grows (seq_from first rest a b)
seq_grows first rest a b g h None s = later_trans s (last (a None s)) (last (behind rest (a None s) b)) (g None s) (bind_grows (a None s) (after rest b) (after_grows rest b h))
seq_grows first rest a b g h (Some x) s = by (first x)
  where
    by : (f : Bool) → Later s (last (seq_at f rest a b x s))
    by true = later_trans s (last (a (Some x) s)) (last (behind rest (a (Some x) s) b)) (g (Some x) s) (bind_grows (a (Some x) s) (after rest b) (after_grows rest b h))
    by false = h (Some x) s

-- the first part, entered at c, jumps to what c relates; the rest follows
pub seq_like : (L : Likeness) (c d : Targets) (first also_first rest also_rest : Has) (a a' b b' : Goer)
    → ((x y : Target) → c x y → also_first y ≡ first x) → LikeGoer L c c a a' → Follows L c d rest also_rest b b' → LikeGoer L c d (seq_from first rest a b) (seq_from also_first also_rest a' b')
seq_like L c d first also_first rest also_rest a a' b b' f g h = record {
  start = λ s t n. behind_like L c d rest also_rest b b' (a None s) (a' None t) l (g.start s t n);
  at = λ x y i s t n. by x y i s t n (first x) (also_first y) (f x y i);
}
  where
    l : Along L c d rest also_rest b b'
    l = follows_along L c d rest also_rest b b' h

    by : (x y : Target) → c x y → (s t : State) → L.states s t → (p q : Bool) → q ≡ p → Like L (LikeSignal L d) (seq_at p rest a b x s) (seq_at q also_rest a' b' y t)
    by x y i s t n true q e = subst (λ z. Like L (LikeSignal L d) (behind rest (a (Some x) s) b) (seq_at z also_rest a' b' y t)) (sym e) (behind_like L c d rest also_rest b b' (a (Some x) s) (a' (Some y) t) l (g.at x y i s t n))
    by x y i s t n false q e = subst (λ z. Like L (LikeSignal L d) (b (Some x) s) (seq_at z also_rest a' b' y t)) (sym e) (h.goer.at x y i s t n)

-- an if

-- a side that a jump may come to from the other one
pub chosen_like : (L : Likeness) (c d : Targets) (fails also : Has) (a a' b b' : Goer) → LikeGoer L c c a a' → Follows L c d fails also b b'
    → (p : Bool) → LikeGoer L c d (chosen p fails a b) (chosen p also a' b')
chosen_like L c d fails also a a' b b' g h true = record {
  start = λ s t n. behind_like L c d fails also (jumping b) (jumping b') (a None s) (a' None t) (jumping_along L c d fails also b b' (follows_jumped L c d fails also b b' h)) (g.start s t n);
  at = λ x y i s t n. behind_like L c d fails also (jumping b) (jumping b') (a (Some x) s) (a' (Some y) t) (jumping_along L c d fails also b b' (follows_jumped L c d fails also b b' h)) (g.at x y i s t n);
}
chosen_like L c d fails also a a' b b' g h false = record { start = h.goer.start; at = h.goer.at }

pub chosen_grows : (fails : Has) (a b : Goer) → Grows a → Grows b → (p : Bool) → Grows (chosen p fails a b)
chosen_grows fails a b g h true en s = later_trans s (last (a en s)) (last (across fails (a en s) b)) (g en s) (bind_grows (a en s) (after fails (jumping b)) (after_grows fails (jumping b) (jumping_grows b h)))
chosen_grows fails a b g h false en s = h en s

pub if_like : (L : Likeness) (c d : Targets) (test test' : State → Result Bool) (holds holds' fails fails' : Has) (a a' b b' : Goer)
    → ((s t : State) → L.states s t → Like L Same (test s) (test' t))
    → ((x y : Target) → c x y → holds' y ≡ holds x)
    → LikeGoer L c c a a' → Follows L c d fails fails' b b' → Carries L a'
    → LikeGoer L c d (if_from test holds fails a b) (if_from test' holds' fails' a' b')
if_like L c d test test' holds holds' fails fails' a a' b b' e f g h ga = record {
  start = λ s t n. bind_like L Same (LikeSignal L d) (test s) (test' t) (λ v u. chosen v fails a b None u) (λ v u. chosen v fails' a' b' None u) (e s t n)
      (λ v w u z i m. subst (λ x. Like L (LikeSignal L d) (chosen v fails a b None u) (chosen x fails' a' b' None z)) (sym i) ((chosen_like L c d fails fails' a a' b b' g h v).start u z m))
      (carries_both L a' b' (λ v u. chosen v fails' a' b' None u) (λ p q v u. chosen_grows fails' a' b' p q v None u) ga h.grows);
  at = λ x y i s t n. subst (λ z. Like L (LikeSignal L d) (chosen (holds x) fails a b (Some x) s) (chosen z fails' a' b' (Some y) t)) (sym (f x y i)) ((chosen_like L c d fails fails' a a' b b' g h (holds x)).at x y i s t n);
}

-- a switch

pub broken_off_grows : Grows broken_off
broken_off_grows Normal s = later_refl s
broken_off_grows Broken s = later_refl s
broken_off_grows (Jumped x) s = later_refl s
broken_off_grows (Returned v) s = later_refl s

pub always : {A B : Type 0} (L : Likeness) (to : A → State → Result B) → Grows to → Carries L to
always L to g = record { cut = needed L.cut g; wild = needed L.wild g }

pub switch_ends_like : (L : Likeness) (d : Targets) (r q : Result Signal) → Like L (LikeSignal L d) r q → Like L (LikeSignal L d) (switch_ends r) (switch_ends q)
switch_ends_like L d r q h = bind_like L (LikeSignal L d) (LikeSignal L d) r q broken_off broken_off h step (always L broken_off broken_off_grows)
  where
    step : (a b : Signal) (s t : State) → LikeSignal L d a b → L.states s t → Like L (LikeSignal L d) (broken_off a s) (broken_off b t)
    step Normal b s t i n = (Normal, t, refl, n, ap (λ y. broken_off y t) i)
    step Broken b s t i n = (Normal, t, refl, n, ap (λ y. broken_off y t) i)
    step (Jumped x) b s t i n = (Jumped i.0, t, (i.0, i.1, refl), n, ap (λ y. broken_off y t) i.2)
    step (Returned None) b s t i n = (Returned None, t, refl, n, ap (λ y. broken_off y t) i)
    step (Returned (Some v)) b s t i n = (Returned (Some i.0), t, (i.0, i.1, refl), n, ap (λ y. broken_off y t) i.2)

pub switched_grows : (body : Goer) → Grows body → (en : Entry) (s : State) → Later s (last (switched en body s))
switched_grows body g None s = later_refl s
switched_grows body g (Some x) s = later_trans s (last (body (Some x) s)) (last (switch_ends (body (Some x) s))) (g (Some x) s) (bind_grows (body (Some x) s) broken_off broken_off_grows)

-- a switch whose selector is known on both sides, as it is behind code that computes it
pub switched_like : (L : Likeness) (c d : Targets) (body also : Goer) → LikeGoer L c d body also → (x y : Target) → c x y → (s t : State) → L.states s t
    → Like L (LikeSignal L d) (switched (Some x) body s) (switched (Some y) also t)
switched_like L c d body also h x y i s t n = switch_ends_like L d (body (Some x) s) (also (Some y) t) (h.at x y i s t n)

pub switch_like : (L : Likeness) (c d : Targets) (value value' : State → Result ℤ) (has also : Has) (body body' : Goer)
    → ((s t : State) → L.states s t → Like L Same (value s) (value' t))
    → ((v : ℤ) → c (ToCase v) (ToCase v)) → c ToDefault ToDefault
    → ((x y : Target) → c x y → also y ≡ has x)
    → LikeGoer L c d body body' → Carries L body'
    → LikeGoer L c d (switch_from value has body) (switch_from value' also body')
switch_like L c d value value' has also body body' e cases default f h gb = record {
  start = λ s t n. bind_like L Same (LikeSignal L d) (value s) (value' t) (λ v u. switched (case_for has v) body u) (λ v u. switched (case_for also v) body' u) (e s t n)
      (λ v w u z i m. subst (λ x. Like L (LikeSignal L d) (switched (case_for has v) body u) (switched (case_for also x) body' z)) (sym i) (by v u z m (has (ToCase v)) (also (ToCase v)) (has ToDefault) (also ToDefault) (f (ToCase v) (ToCase v) (cases v)) (f ToDefault ToDefault default)))
      (carries L body' (λ v u. switched (case_for also v) body' u) (λ g v u. switched_grows body' g (case_for also v) u) gb);
  at = λ x y i s t n. switch_ends_like L d (body (Some x) s) (body' (Some y) t) (h.at x y i s t n);
}
  where
    by : (v : ℤ) (u z : State) → L.states u z → (p p' q q' : Bool) → p' ≡ p → q' ≡ q
        → Like L (LikeSignal L d) (switched (if p then Some (ToCase v) else (if q then Some ToDefault else None)) body u) (switched (if p' then Some (ToCase v) else (if q' then Some ToDefault else None)) body' z)
    by v u z m true p' q q' a b = subst (λ x. Like L (LikeSignal L d) (switch_ends (body (Some (ToCase v)) u)) (switched (if x then Some (ToCase v) else (if q' then Some ToDefault else None)) body' z)) (sym a) (switch_ends_like L d (body (Some (ToCase v)) u) (body' (Some (ToCase v)) z) (h.at (ToCase v) (ToCase v) (cases v) u z m))
    by v u z m false p' true q' a b = subst (λ x. Like L (LikeSignal L d) (switch_ends (body (Some ToDefault) u)) (switched (if x then Some (ToCase v) else (if q' then Some ToDefault else None)) body' z)) (sym a)
        (subst (λ x. Like L (LikeSignal L d) (switch_ends (body (Some ToDefault) u)) (switched (if x then Some ToDefault else None) body' z)) (sym b) (switch_ends_like L d (body (Some ToDefault) u) (body' (Some ToDefault) z) (h.at ToDefault ToDefault default u z m)))
    by v u z m false p' false q' a b = subst (λ x. Like L (LikeSignal L d) (Goes Normal u) (switched (if x then Some (ToCase v) else (if q' then Some ToDefault else None)) body' z)) (sym a)
        (subst (λ x. Like L (LikeSignal L d) (Goes Normal u) (switched (if x then Some ToDefault else None) body' z)) (sym b) (Normal, z, refl, m, refl))

-- a loop

pub turned_grows : (to : State → Result Signal) → ((s : State) → Later s (last (to s))) → Grows (turned to)
turned_grows to g Normal s = g s
turned_grows to g Broken s = later_refl s
turned_grows to g (Jumped x) s = later_refl s
turned_grows to g (Returned v) s = later_refl s

-- behind a turn: what the body jumps to and the loop does not catch passes on
pub turn_ends_like : (L : Likeness) (c d : Targets) (go to : State → Result Signal) (r q : Result Signal)
    → ((s t : State) → L.states s t → Like L (LikeSignal L d) (go s) (to t)) → ((x y : Target) → c x y → d x y) → Carries L (turned to)
    → Like L (LikeSignal L c) r q → Like L (LikeSignal L d) (turn_ends r go) (turn_ends q to)
turn_ends_like L c d go to r q k o g h = bind_like L (LikeSignal L c) (LikeSignal L d) r q (turned go) (turned to) h step g
  where
    step : (a b : Signal) (s t : State) → LikeSignal L c a b → L.states s t → Like L (LikeSignal L d) (turned go a s) (turned to b t)
    step Normal b s t i n = subst (λ y. Like L (LikeSignal L d) (go s) (turned to y t)) (sym i) (k s t n)
    step Broken b s t i n = (Normal, t, refl, n, ap (λ y. turned to y t) i)
    step (Jumped x) b s t i n = (Jumped i.0, t, (i.0, o x i.0 i.1, refl), n, ap (λ y. turned to y t) i.2)
    step (Returned None) b s t i n = (Returned None, t, refl, n, ap (λ y. turned to y t) i)
    step (Returned (Some v)) b s t i n = (Returned (Some i.0), t, (i.0, i.1, refl), n, ap (λ y. turned to y t) i.2)

-- a loop, whose own list is entered at c and jumps to e; what it does not catch passes on to d
pub loop_like : (L : Likeness) (c e d : Targets) (go to : State → Result Signal) (body also : Goer)
    → LikeGoer L c e body also → ((x y : Target) → e x y → d x y)
    → ((s t : State) → L.states s t → Like L (LikeSignal L d) (turn go body s) (turn to also t)) → Carries L (turned (turn to also))
    → LikeGoer L c d (loop_from go body) (loop_from to also)
loop_like L c e d go to body also b o k g = record {
  start = k;
  at = λ x y i s t n. turn_ends_like L e d (turn go body) (turn to also) (body (Some x) s) (also (Some y) t) k o g (b.at x y i s t n);
}

-- a construct that catches jumps back
pub caught_like : (L : Likeness) (c e d : Targets) (has also : Has) (inner outer again once : Goer)
    → LikeGoer L c e inner outer → Along L e d has also (spending again) (spending once)
    → LikeGoer L c d (λ en s. caught has (inner en s) again) (λ en s. caught also (outer en s) once)
caught_like L c e d has also inner outer again once l a = record {
  start = λ s t n. behind_like L e d has also (spending again) (spending once) (inner None s) (outer None t) a (l.start s t n);
  at = λ x y i s t n. behind_like L e d has also (spending again) (spending once) (inner (Some x) s) (outer (Some y) t) a (l.at x y i s t n);
}

-- a unit is spent on both sides, where as many are left on both
pub spend_like : {A B : Type 0} (L : Likeness) (R : A → B → Type 0) (go : State → Result A) (to : State → Result B)
    → ((s t : State) → L.states s t → t.left ≡ s.left) → ((s t : State) (n : ℕ) → L.states s t → L.states (with_left s n) (with_left t n))
    → ((s t : State) → L.states s t → ends {B = B} L.cut L Running s (Running t))
    → ((s t : State) → L.states s t → Like L R (go s) (to t)) → (s t : State) → L.states s t → Like L R (spend s go) (spend t to)
spend_like {A} {B} L R go to even lower stop k s t n = subst (λ m. Like L R (spend s go) (spent m t to)) (sym (even s t n)) (by s.left)
  where
    by : (m : ℕ) → Like L R (spent m s go) (spent m t to)
    by zero = stop s t n
    by (suc m) = k (with_left s m) (with_left t m) (lower s t m n)

-- so a jump back is along where the statement that it enters is, at the target alone
pub spending_along : (L : Likeness) (c d : Targets) (has also : Has) (go to : Goer)
    → ((s t : State) → L.states s t → t.left ≡ s.left) → ((s t : State) (n : ℕ) → L.states s t → L.states (with_left s n) (with_left t n))
    → ((s t : State) → L.states s t → ends {B = Signal} L.cut L Running s (Running t))
    → JumpedInto L c d has also go to → Along L c d has also (spending go) (spending to)
spending_along L c d has also go to even lower stop l = record {
  start = λ s t n. (Normal, t, refl, n, refl);
  at = λ x y i h. spend_like L (LikeSignal L d) (go (Some x)) (to (Some y)) even lower stop (l.at x y i h);
  same = l.same;
  out = l.out;
  grows = carries L to (spending to) (spending_grows to) l.grows;
}

-- the meanings of steps that are alike are alike, where as many units are left on both sides
pub meanings_like : {I X Y A B : Type 0} (L : I → Likeness) (Q : I → X → Y → Type 0) (R : I → A → B → Type 0) (step : Step X A) (other : Step Y B)
    → ((i : I) (s t : State) → (L i).states s t → t.left ≡ s.left) → ((i : I) (s t : State) → (L i).states s t → ends {B = B} (L i).cut (L i) Running s (Running t))
    → ((n : ℕ) → Grows (unrolled other n)) → ((go : X → State → Result A) (to : Y → State → Result B) → Grows to → Grows (other to) → Alike L Q R go to → Alike L Q R (step go) (other to))
    → Alike L Q R (meaning step) (meaning other)
meanings_like {I} {X} {Y} {A} {B} L Q R step other even stop grows k i x y s t q h =
    subst (λ m. Like (L i) (R i) (meaning step x s) (unrolled other (suc m) y t)) (sym (even i s t h)) (by (suc s.left) i x y s t q h)
  where
    by : (n : ℕ) → Alike L Q R (unrolled step n) (unrolled other n)
    by zero i x y s t q h = stop i s t h
    by (suc n) i x y s t q h = k (unrolled step n) (unrolled other n) (grows n) (grows (suc n)) (by n) i x y s t q h
