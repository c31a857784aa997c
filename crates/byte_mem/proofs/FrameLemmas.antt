-- Device: laws of the frames of activations in rising order.
use Rattle.std.proofs.Common.{◌≡◌, ◌≢◌, ℕ, zero, suc, ◌<◌, ◌≤◌, Bool, true, false, cond, List, [], ◌∷◌, ◌++◌, length, get_or, take, drop, Option, Some, None, Result, Ok, Err, ◌&&◌, ◌⊎◌, inl, inr, IsSome, set, refl, sym, ap, ◌∙◌, subst, arith}
use Rattle.std.proofs.lemmas.Bool.{cases_lt}
use Rattle.std.proofs.lemmas.List.{set-get_or, length-set, length-append, length-take, length-drop}
use Rattle.std.specs.Prelude.{nat_eq}
use Rattle.std.specs.declared.alloc.AllocError.{AllocError}
use Rattle.std.proofs.lemmas.Bool.Decides.{nat_tests}
use Rattle.byte_mem.specs.declared.frames.Frame.{Frame}
use Rattle.byte_mem.specs.Object.{Held}
use Rattle.byte_mem.specs.Layers.{paged, frame_slots, number_at, slots_at, local, IsRising, IsFrame, IsAbsent, IsPagedPut, PagedChanges, PagedPut, IsLocalPut, LocalChanges, LocalPut}

-- what a read of a frame tells
pub number_read : (frames : List Frame) (k : ℕ) (f : Frame) → k < length frames → f ≡ get_or frames k f → number_at frames k ≡ f.activation
number_read [] k f h e = absurd (omega arith)
number_read (g ∷ frames) zero f h e = ap (λ (x : Frame). x.activation) (sym e)
number_read (g ∷ frames) (suc k) f h e = number_read frames k f (omega arith) e

pub slots_read : (frames : List Frame) (k : ℕ) (f : Frame) → k < length frames → f ≡ get_or frames k f → slots_at frames k ≡ f.slots
slots_read [] k f h e = absurd (omega arith)
slots_read (g ∷ frames) zero f h e = ap (λ (x : Frame). x.slots) (sym e)
slots_read (g ∷ frames) (suc k) f h e = slots_read frames k f (omega arith) e

pub slots_past : (frames : List Frame) (k : ℕ) → length frames ≤ k → slots_at frames k ≡ []
slots_past [] k h = refl
slots_past (f ∷ frames) zero h = absurd (omega arith)
slots_past (f ∷ frames) (suc k) h = slots_past frames k (omega arith)

-- a choice by a test of numbers
pub if_same : {A : Type 0} (a b : ℕ) (x y : A) → a ≡ b → cond (nat_eq a b) x y ≡ x
if_same a b x y e = grind (arith, nat_tests)

pub if_other : {A : Type 0} (a b : ℕ) (x y : A) → a ≢ b → cond (nat_eq a b) x y ≡ y
if_other a b x y e = grind (arith, nat_tests)

rising_rest : (f : Frame) (frames : List Frame) → IsRising (f ∷ frames) → IsRising frames
rising_rest f frames h i j l m = h (suc i) (suc j) (omega arith) (omega arith)

rising_first : (f : Frame) (frames : List Frame) (k : ℕ) → IsRising (f ∷ frames) → k < length frames → f.activation < number_at frames k
rising_first f frames k h l = h 0 (suc k) (omega arith) (omega arith)

frame_found : (frames : List Frame) (act k : ℕ) → IsRising frames → k < length frames → number_at frames k ≡ act → frame_slots frames act ≡ slots_at frames k
frame_found [] act k h l e = absurd (omega arith)
frame_found (f ∷ frames) act zero h l e = if_same f.activation act f.slots (frame_slots frames act) e
frame_found (f ∷ frames) act (suc k) h l e =
    let low : f.activation < number_at frames k = rising_first f frames k h (omega arith) in
    let ne : f.activation ≢ act = omega arith in
    if_other f.activation act f.slots (frame_slots frames act) ne ∙ frame_found frames act k (rising_rest f frames h) (omega arith) e

frame_absent : (frames : List Frame) (act : ℕ) → IsAbsent frames act → frame_slots frames act ≡ []
frame_absent [] act h = refl
frame_absent (f ∷ frames) act h =
    let ne : f.activation ≢ act = h 0 (omega arith) in
    if_other f.activation act f.slots (frame_slots frames act) ne ∙ frame_absent frames act (λ k l. h (suc k) (omega arith))

pub local_found : (frames : List Frame) (act k i : ℕ) (f : Frame) → IsRising frames → IsFrame frames act k → f ≡ get_or frames k f → local frames act i ≡ paged f.slots i
local_found frames act k i f h g e = ap (λ (xs : List (List (Option Held))). paged xs i) (frame_found frames act k h g.0 g.1 ∙ slots_read frames k f g.0 e)

pub local_absent : (frames : List Frame) (act i : ℕ) → IsAbsent frames act → local frames act i ≡ None
local_absent frames act i h = ap (λ (xs : List (List (Option Held))). paged xs i) (frame_absent frames act h)

number_get : (frames : List Frame) (k : ℕ) (d : Frame) → k < length frames → number_at frames k ≡ (get_or frames k d).activation
number_get [] k d h = absurd (omega arith)
number_get (g ∷ frames) zero d h = refl
number_get (g ∷ frames) (suc k) d h = number_get frames k d (omega arith)

slots_get : (frames : List Frame) (k : ℕ) (d : Frame) → k < length frames → slots_at frames k ≡ (get_or frames k d).slots
slots_get [] k d h = absurd (omega arith)
slots_get (g ∷ frames) zero d h = refl
slots_get (g ∷ frames) (suc k) d h = slots_get frames k d (omega arith)

numbers_same : (a b : ℕ) → nat_eq a b ≡ true → a ≡ b
numbers_same a b e = grind (arith, nat_tests)

-- of two choices by different numbers either may come first
choices_swap : {A : Type 0} (f g a : ℕ) (x y z : A) → f ≢ g → cond (nat_eq f a) x (cond (nat_eq g a) y z) ≡ cond (nat_eq g a) y (cond (nat_eq f a) x z)
choices_swap f g a x y z h = by (nat_eq f a) (nat_eq g a) refl refl
  where
    by : (t u : Bool) → nat_eq f a ≡ t → nat_eq g a ≡ u → cond t x (cond u y z) ≡ cond u y (cond t x z)
    by true true e d = absurd (h (numbers_same f a e ∙ sym (numbers_same g a d)))
    by true false e d = refl
    by false true e d = refl
    by false false e d = refl

choice_twice : {A : Type 0} (t : Bool) (x y z : A) → cond t x z ≡ cond t x (cond t y z)
choice_twice true x y z = refl
choice_twice false x y z = refl

frame_slots_set : (frames : List Frame) (k a : ℕ) (g : Frame) → IsRising frames → k < length frames → g.activation ≡ number_at frames k → frame_slots (set frames k g) a ≡ cond (nat_eq g.activation a) g.slots (frame_slots frames a)
frame_slots_set [] k a g h l e = absurd (omega arith)
frame_slots_set (f ∷ frames) zero a g h l e =
    choice_twice (nat_eq g.activation a) g.slots f.slots (frame_slots frames a)
    ∙ ap (λ n. cond (nat_eq g.activation a) g.slots (cond (nat_eq n a) f.slots (frame_slots frames a))) e
frame_slots_set (f ∷ frames) (suc k) a g h l e =
    let low : f.activation < number_at frames k = rising_first f frames k h (omega arith) in
    let ne : f.activation ≢ g.activation = omega arith in
    ap (λ xs. cond (nat_eq f.activation a) f.slots xs) (frame_slots_set frames k a g (rising_rest f frames h) (omega arith) e)
    ∙ choices_swap f.activation g.activation a f.slots g.slots (frame_slots frames a) ne

local_set : (frames : List Frame) (act k i : ℕ) (d : Frame) (new : List (List (Option Held))) (o : Option Held) → IsRising frames → IsFrame frames act k → IsPagedPut (get_or frames k d).slots new i o
    → IsLocalPut frames (set frames k (record { activation = (get_or frames k d).activation; slots = new })) act i o
local_set frames act k i d new o h g p a j =
    ap (λ (xs : List (List (Option Held))). paged xs j) (frame_slots_set frames k a (record { activation = (get_or frames k d).activation; slots = new }) h g.0 (sym (number_get frames k d g.0)))
    ∙ ap (λ n. paged (cond (nat_eq n a) new (frame_slots frames a)) j) (sym (number_get frames k d g.0) ∙ g.1)
    ∙ by (nat_eq act a) refl
  where
    by : (t : Bool) → nat_eq act a ≡ t → paged (cond t new (frame_slots frames a)) j ≡ cond (t && nat_eq i j) o (local frames a j)
    by true s = p j ∙ ap (λ (xs : List (List (Option Held))). cond (nat_eq i j) o (paged xs j)) (sym (frame_found frames a k h g.0 (g.1 ∙ numbers_same act a s) ∙ slots_get frames k d g.0))
    by false s = refl

number_set : (frames : List Frame) (k j : ℕ) (g : Frame) → g.activation ≡ number_at frames k → number_at (set frames k g) j ≡ number_at frames j
number_set [] k j g e = refl
number_set (f ∷ frames) zero zero g e = e
number_set (f ∷ frames) zero (suc j) g e = refl
number_set (f ∷ frames) (suc k) zero g e = refl
number_set (f ∷ frames) (suc k) (suc j) g e = number_set frames k j g e

pub rising_set : (frames : List Frame) (k : ℕ) (d : Frame) (new : List (List (Option Held))) → IsRising frames → k < length frames → IsRising (set frames k (record { activation = (get_or frames k d).activation; slots = new }))
rising_set frames k d new h l i j m n =
    let g : Frame = record { activation = (get_or frames k d).activation; slots = new } in
    let e : g.activation ≡ number_at frames k = sym (number_get frames k d l) in
    rw (number_set frames k i g e, number_set frames k j g e) (h i j m (omega (arith, length-set frames k g)))

found_local : (frames : List Frame) (act k i : ℕ) (d : Frame) → IsRising frames → IsFrame frames act k → local frames act i ≡ paged (get_or frames k d).slots i
found_local frames act k i d h g = ap (λ (xs : List (List (Option Held))). paged xs i) (frame_found frames act k h g.0 g.1 ∙ slots_get frames k d g.0)

set_same : (frames : List Frame) (k : ℕ) (d : Frame) (new : List (List (Option Held))) → new ≡ (get_or frames k d).slots → set frames k (record { activation = (get_or frames k d).activation; slots = new }) ≡ frames
set_same frames k d new e = ap (λ (xs : List (List (Option Held))). set frames k (record { activation = (get_or frames k d).activation; slots = xs })) e ∙ set-get_or frames k d

pub local_changed : (r : Option (Unit {0})) (frames : List Frame) (act k i : ℕ) (d : Frame) (new : List (List (Option Held))) (change : Option Held → Option Held) → IsRising frames → IsFrame frames act k
    → PagedChanges r (get_or frames k d).slots new i (change (paged (get_or frames k d).slots i))
    → LocalChanges r frames (set frames k (record { activation = (get_or frames k d).activation; slots = new })) act i (change (local frames act i))
local_changed None frames act k i d new change h g s = (ap change (found_local frames act k i d h g) ∙ s.0, set_same frames k d new s.1)
local_changed (Some u) frames act k i d new change h g s = (
  subst (λ (o : Option Held). IsSome (change o)) (sym (found_local frames act k i d h g)) s.0,
  subst (λ (o : Option Held). IsLocalPut frames (set frames k (record { activation = (get_or frames k d).activation; slots = new })) act i (change o)) (sym (found_local frames act k i d h g))
      (local_set frames act k i d new (change (paged (get_or frames k d).slots i)) h g s.1),
)

-- an activation whose objects are as they were
local_kept : (frames : List Frame) (act k : ℕ) (d : Frame) (new : List (List (Option Held))) → IsRising frames → IsFrame frames act k → ((j : ℕ) → paged new j ≡ paged (get_or frames k d).slots j)
    → (a j : ℕ) → local (set frames k (record { activation = (get_or frames k d).activation; slots = new })) a j ≡ local frames a j
local_kept frames act k d new h g s a j =
    ap (λ (xs : List (List (Option Held))). paged xs j) (frame_slots_set frames k a (record { activation = (get_or frames k d).activation; slots = new }) h g.0 (sym (number_get frames k d g.0)))
    ∙ ap (λ n. paged (cond (nat_eq n a) new (frame_slots frames a)) j) (sym (number_get frames k d g.0) ∙ g.1)
    ∙ by (nat_eq act a) refl
  where
    by : (t : Bool) → nat_eq act a ≡ t → paged (cond t new (frame_slots frames a)) j ≡ local frames a j
    by true c = s j ∙ sym (ap (λ (xs : List (List (Option Held))). paged xs j) (frame_found frames a k h g.0 (g.1 ∙ numbers_same act a c) ∙ slots_get frames k d g.0))
    by false c = refl

pub local_put : (r : Result (Unit {0}) AllocError) (frames : List Frame) (act k i : ℕ) (d : Frame) (new : List (List (Option Held))) (o : Option Held) → IsRising frames → IsFrame frames act k
    → PagedPut r (get_or frames k d).slots new i o
    → LocalPut r frames (set frames k (record { activation = (get_or frames k d).activation; slots = new })) act i o
local_put (Ok u) frames act k i d new o h g s = local_set frames act k i d new o h g s
local_put (Err e) frames act k i d new o h g s = local_kept frames act k d new h g s

pub local_cleared : (frames : List Frame) (act k i : ℕ) (d : Frame) (new : List (List (Option Held))) → IsRising frames → IsFrame frames act k → IsPagedPut (get_or frames k d).slots new i None
    → IsLocalPut frames (set frames k (record { activation = (get_or frames k d).activation; slots = new })) act i None
local_cleared frames act k i d new h g p = local_set frames act k i d new None h g p

-- an activation without objects has none to end
pub local_nowhere : (frames : List Frame) (act i : ℕ) → IsAbsent frames act → IsLocalPut frames frames act i None
local_nowhere frames act i h a j = by (nat_eq act a) refl
  where
    in_slot : (t : Bool) → None ≡ cond t None (local frames act j) → local frames act j ≡ None → local frames act j ≡ cond t None (local frames act j)
    in_slot t e d = d ∙ e

    none_either : (t : Bool) → None ≡ cond t None (local frames act j)
    none_either true = refl
    none_either false = sym (local_absent frames act j h)

    by : (t : Bool) → nat_eq act a ≡ t → local frames a j ≡ cond (t && nat_eq i j) None (local frames a j)
    by true e = subst (λ (n : ℕ). local frames n j ≡ cond (nat_eq i j) None (local frames n j)) (numbers_same act a e) (in_slot (nat_eq i j) (none_either (nat_eq i j)) (local_absent frames act j h))
    by false e = refl

frame_slots_inserted : (frames : List Frame) (k a : ℕ) (g : Frame) → ((j : ℕ) → j < k → number_at frames j ≢ g.activation) → k ≤ length frames
    → frame_slots (take k frames ++ g ∷ drop k frames) a ≡ cond (nat_eq g.activation a) g.slots (frame_slots frames a)
frame_slots_inserted [] zero a g h l = refl
frame_slots_inserted [] (suc k) a g h l = absurd (omega arith)
frame_slots_inserted (f ∷ frames) zero a g h l = refl
frame_slots_inserted (f ∷ frames) (suc k) a g h l =
    ap (λ xs. cond (nat_eq f.activation a) f.slots xs) (frame_slots_inserted frames k a g (λ j m. h (suc j) (omega arith)) (omega arith))
    ∙ choices_swap f.activation g.activation a f.slots g.slots (frame_slots frames a) (h 0 (omega arith))

pub local_inserted : (frames : List Frame) (act k i : ℕ) (old new : List (List (Option Held))) (o : Option Held) → IsAbsent frames act → k ≤ length frames → old ≡ [] → IsPagedPut old new i o
    → IsLocalPut frames (take k frames ++ record { activation = act; slots = new } ∷ drop k frames) act i o
local_inserted frames act k i old new o h l e p a j =
    ap (λ (xs : List (List (Option Held))). paged xs j) (frame_slots_inserted frames k a (record { activation = act; slots = new }) (λ m n. h m (omega arith)) l) ∙ by (nat_eq act a) refl
  where
    by : (t : Bool) → nat_eq act a ≡ t → paged (cond t new (frame_slots frames a)) j ≡ cond (t && nat_eq i j) o (local frames a j)
    by true s = p j ∙ ap (λ (x : Option Held). cond (nat_eq i j) o x) (ap (λ (xs : List (List (Option Held))). paged xs j) e ∙ sym (local_absent frames a j (subst (λ (n : ℕ). IsAbsent frames n) (numbers_same act a s) h)))
    by false s = refl

number_before : (frames : List Frame) (k j : ℕ) (g : Frame) → j < k → k ≤ length frames → number_at (take k frames ++ g ∷ drop k frames) j ≡ number_at frames j
number_before [] k j g h l = absurd (omega arith)
number_before (f ∷ frames) zero j g h l = absurd (omega arith)
number_before (f ∷ frames) (suc k) zero g h l = refl
number_before (f ∷ frames) (suc k) (suc j) g h l = number_before frames k j g (omega arith) (omega arith)

number_here : (frames : List Frame) (k : ℕ) (g : Frame) → k ≤ length frames → number_at (take k frames ++ g ∷ drop k frames) k ≡ g.activation
number_here [] zero g l = refl
number_here [] (suc k) g l = absurd (omega arith)
number_here (f ∷ frames) zero g l = refl
number_here (f ∷ frames) (suc k) g l = number_here frames k g (omega arith)

number_behind : (frames : List Frame) (k j : ℕ) (g : Frame) → k ≤ j → k ≤ length frames → number_at (take k frames ++ g ∷ drop k frames) (suc j) ≡ number_at frames j
number_behind [] zero j g h l = refl
number_behind [] (suc k) j g h l = absurd (omega arith)
number_behind (f ∷ frames) zero j g h l = refl
number_behind (f ∷ frames) (suc k) zero g h l = absurd (omega arith)
number_behind (f ∷ frames) (suc k) (suc j) g h l = number_behind frames k j g (omega arith) (omega arith)

length_inserted : (frames : List Frame) (k : ℕ) (g : Frame) → k ≤ length frames → length (take k frames ++ g ∷ drop k frames) ≡ suc (length frames)
length_inserted frames k g l = omega (arith, length-append (take k frames) (g ∷ drop k frames), length-take k frames, length-drop k frames)

-- a new number among the others: before it, at it and behind it
rising_below : (frames : List Frame) (k i j : ℕ) (g : Frame) → IsRising frames → k ≤ length frames → i < j → j < k → number_at (take k frames ++ g ∷ drop k frames) i < number_at (take k frames ++ g ∷ drop k frames) j
rising_below frames k i j g h l m p = rw (number_before frames k i g (omega arith) l, number_before frames k j g p l) (h i j m (omega arith))

rising_to : (frames : List Frame) (k i : ℕ) (g : Frame) → k ≤ length frames → i < k → number_at frames i < g.activation → number_at (take k frames ++ g ∷ drop k frames) i < number_at (take k frames ++ g ∷ drop k frames) k
rising_to frames k i g l m low = rw (number_before frames k i g m l, number_here frames k g l) low

rising_across : (frames : List Frame) (k i j : ℕ) (g : Frame) → IsRising frames → k ≤ length frames → i < k → k ≤ j → j < length frames → number_at (take k frames ++ g ∷ drop k frames) i < number_at (take k frames ++ g ∷ drop k frames) (suc j)
rising_across frames k i j g h l m p q = rw (number_before frames k i g m l, number_behind frames k j g p l) (h i j (omega arith) q)

rising_from : (frames : List Frame) (k j : ℕ) (g : Frame) → k ≤ length frames → k ≤ j → g.activation < number_at frames j → number_at (take k frames ++ g ∷ drop k frames) k < number_at (take k frames ++ g ∷ drop k frames) (suc j)
rising_from frames k j g l p high = rw (number_here frames k g l, number_behind frames k j g p l) high

rising_behind : (frames : List Frame) (k i j : ℕ) (g : Frame) → IsRising frames → k ≤ length frames → k ≤ i → i < j → j < length frames → number_at (take k frames ++ g ∷ drop k frames) (suc i) < number_at (take k frames ++ g ∷ drop k frames) (suc j)
rising_behind frames k i j g h l p m q = rw (number_behind frames k i g p l, number_behind frames k j g (omega arith) l) (h i j m q)

pub rising_inserted : (frames : List Frame) (act k : ℕ) (new : List (List (Option Held))) → IsRising frames → IsAbsent frames act → k ≤ length frames
    → ((j : ℕ) → j < k → number_at frames j < act) → ((j : ℕ) → k ≤ j → j < length frames → act ≤ number_at frames j)
    → IsRising (take k frames ++ record { activation = act; slots = new } ∷ drop k frames)
rising_inserted frames act k new h absent l low high i j m n = by i j m n (cases_lt j k) (cases_lt i k) (cases_lt k i) (cases_lt k j)
  where
    g : Frame
    g = record { activation = act; slots = new }

    above : (j : ℕ) → k ≤ j → j < length frames → act < number_at frames j
    above j p q = let most : act ≤ number_at frames j = high j p q in let ne : number_at frames j ≢ act = absent j q in omega arith

    by : (i j : ℕ) → i < j → j < length (take k frames ++ g ∷ drop k frames) → (j < k) ⊎ (k ≤ j) → (i < k) ⊎ (k ≤ i) → (k < i) ⊎ (i ≤ k) → (k < j) ⊎ (j ≤ k)
        → number_at (take k frames ++ g ∷ drop k frames) i < number_at (take k frames ++ g ∷ drop k frames) j
    by i j m n (inl p) q r s = rising_below frames k i j g h l m p
    by i zero m n (inr p) q r s = absurd (omega arith)
    by i (suc j) m n (inr p) (inl q) r (inl s) = rising_across frames k i j g h l q (omega arith) (omega (arith, length_inserted frames k g l))
    by i (suc j) m n (inr p) (inl q) r (inr s) =
        let here : suc j ≡ k = omega arith in
        subst (λ (x : ℕ). number_at (take k frames ++ g ∷ drop k frames) i < number_at (take k frames ++ g ∷ drop k frames) x) (sym here) (rising_to frames k i g l q (low i q))
    by zero (suc j) m n (inr p) (inr q) (inl r) s = absurd (omega arith)
    by (suc i) (suc j) m n (inr p) (inr q) (inl r) s = rising_behind frames k i j g h l (omega arith) (omega arith) (omega (arith, length_inserted frames k g l))
    by i (suc j) m n (inr p) (inr q) (inr r) s =
        let here : i ≡ k = omega arith in
        subst (λ (x : ℕ). number_at (take k frames ++ g ∷ drop k frames) x < number_at (take k frames ++ g ∷ drop k frames) (suc j)) (sym here)
        (rising_from frames k j g l (omega arith) (above j (omega arith) (omega (arith, length_inserted frames k g l))))

none_left : (frames : List Frame) (a : ℕ) → ((j : ℕ) → slots_at frames j ≡ []) → frame_slots frames a ≡ []
none_left [] a h = refl
none_left (f ∷ frames) a h = rw (none_left frames a (λ j. h (suc j)), h 0) (by (nat_eq f.activation a))
  where
    by : (t : Bool) → cond {A = List (List (Option Held))} t [] [] ≡ []
    by true = refl
    by false = refl

frame_slots_taken : (frames : List Frame) (n a : ℕ) → ((j : ℕ) → n ≤ j → slots_at frames j ≡ []) → frame_slots (take n frames) a ≡ frame_slots frames a
frame_slots_taken [] zero a h = refl
frame_slots_taken [] (suc n) a h = refl
frame_slots_taken (f ∷ frames) zero a h = sym (none_left (f ∷ frames) a (λ j. h j (omega arith)))
frame_slots_taken (f ∷ frames) (suc n) a h = ap (λ xs. cond (nat_eq f.activation a) f.slots xs) (frame_slots_taken frames n a (λ j m. h (suc j) (omega arith)))

pub local_taken : (frames : List Frame) (n a k : ℕ) → ((j : ℕ) → n ≤ j → slots_at frames j ≡ []) → local (take n frames) a k ≡ local frames a k
local_taken frames n a k h = ap (λ (xs : List (List (Option Held))). paged xs k) (frame_slots_taken frames n a h)

number_taken : (frames : List Frame) (n j : ℕ) → j < n → number_at (take n frames) j ≡ number_at frames j
number_taken [] zero j h = refl
number_taken [] (suc n) j h = refl
number_taken (f ∷ frames) zero j h = absurd (omega arith)
number_taken (f ∷ frames) (suc n) zero h = refl
number_taken (f ∷ frames) (suc n) (suc j) h = number_taken frames n j (omega arith)

pub rising_taken : (frames : List Frame) (n : ℕ) → IsRising frames → IsRising (take n frames)
rising_taken frames n h i j m l =
    rw (number_taken frames n i (omega (arith, length-take n frames)), number_taken frames n j (omega (arith, length-take n frames))) (h i j m (omega (arith, length-take n frames)))
