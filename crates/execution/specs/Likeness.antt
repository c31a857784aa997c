-- Device: what it means that two runs are alike: the form in which each combinator's congruence is stated, once for the fixed point, for bounds and for translations.
use Rattle.std.specs.Prelude.{◌≡◌, ◌≤◌, true, false, List, [], ◌∷◌, Option, Some, None}
use Rattle.cil_base.specs.Outcome.{IsPrefix}
use Rattle.byte_mem.specs.declared.values.Byte.{Byte}
use Rattle.byte_mem.specs.declared.values.Scalar.{Scalar}
use Rattle.byte_mem.specs.declared.values.Value.{Value}
use Rattle.execution.specs.States.{State, Result, Goes, Exits, Running, Undefined, last}
use Rattle.execution.specs.Data.{Datum, Single, Bytes, Argument}
use Rattle.execution.specs.Jumps.{Target, Signal, Normal, Broken, Jumped, Returned, Has, Goer}
use Rattle.execution.specs.Calls.{Call, Enter, Function, Meaning, Object, Code, Host}

-- what a run may come to from a state: its output only grows, and no units come
pub record Later (s u : State) : Type 0 where
  pub written : IsPrefix s.out u.out
  pub spent : u.left ≤ s.left

-- where the first run ends, the second ends so too, or comes to a state past that end
pub data Ending : Type 0 where
  Exact : Ending
  Past : Ending

-- which states are alike while both runs go on, and which where both end; which data are; which states are past another's end; and what the second run does where the first is at its bound, and where it is undefined
pub record Likeness : Type 1 where
  pub states : State → State → Type 0
  pub ended : State → State → Type 0
  pub values : Datum → Datum → Type 0
  pub past : State → State → Type 0
  pub later : (s t u : State) → past s t → Later t u → past s u
  pub cut : Ending
  pub wild : Ending

-- the second run ends so too, in a state that is alike then
abbrev pub EndsSo : {B : Type 0} → Likeness → (State → Result B) → State → Result B → Type 0
EndsSo L end s q = (t : State) × L.ended s t × (q ≡ end t)

abbrev pub ends : {B : Type 0} → Ending → Likeness → (State → Result B) → State → Result B → Type 0
ends Exact L end s q = EndsSo L end s q
ends Past L end s q = L.past s (last q)

-- alike results: what they give is related by R
abbrev pub Like : {A B : Type 0} → Likeness → (A → B → Type 0) → Result A → Result B → Type 0
Like {A} {B} L R (Goes a s) q = (b : B) × (t : State) × R a b × L.states s t × (q ≡ Goes b t)
Like L R (Exits status s) q = EndsSo L (Exits status) s q
Like L R (Running s) q = ends L.cut L Running s q
Like L R (Undefined s) q = ends L.wild L Undefined s q

-- runs that end in a part, alike by M, are alike by L around it
pub record Within (M L : Likeness) : Type 0 where
  pub ended : (s t : State) → M.ended s t → L.ended s t
  pub past : (s t : State) → M.past s t → L.past s t
  pub cut : M.cut ≡ L.cut
  pub wild : M.wild ≡ L.wild

-- what is computed on both sides: where the first is undefined, so is the second, or it may be anything
abbrev pub Computes : {A B : Type 0} → Ending → (A → B → Type 0) → Option A → Option B → Type 0
Computes {A} {B} e R (Some a) y = (b : B) × R a b × (y ≡ Some b)
Computes Exact R None y = y ≡ None
Computes Past R None y = Unit {0}

-- for each likeness of a family: from states that are alike, and what Q relates, two parts give alike results
abbrev pub Alike : {I X Y A B : Type 0} → (I → Likeness) → (I → X → Y → Type 0) → (I → A → B → Type 0) → (X → State → Result A) → (Y → State → Result B) → Type 0
Alike {I} {X} {Y} L Q R go to = (i : I) (x : X) (y : Y) (s t : State) → Q i x y → (L i).states s t → Like (L i) (R i) (go x s) (to y t)

-- which targets of the second side stand for one of the first
abbrev pub Targets : Type 1
Targets = Target → Target → Type 0

abbrev pub Same : {A : Type 0} → A → A → Type 0
Same a b = b ≡ a

abbrev pub LikeValue : Likeness → Option Datum → Signal → Type 0
LikeValue L None y = y ≡ Returned None
LikeValue L (Some d) y = (e : Datum) × L.values d e × (y ≡ Returned (Some e))

abbrev pub LikeSignal : Likeness → Targets → Signal → Signal → Type 0
LikeSignal L c Normal y = y ≡ Normal
LikeSignal L c Broken y = y ≡ Broken
LikeSignal L c (Jumped x) y = (u : Target) × c x u × (y ≡ Jumped u)
LikeSignal L c (Returned v) y = LikeValue L v y

-- entered at targets that c relates, two parts jump to targets that d relates
pub record LikeGoer (L : Likeness) (c d : Targets) (go to : Goer) : Type 0 where
  pub start : (s t : State) → L.states s t → Like L (LikeSignal L d) (go None s) (to None t)
  pub at : (x y : Target) → c x y → (s t : State) → L.states s t → Like L (LikeSignal L d) (go (Some x) s) (to (Some y) t)

-- what comes behind only writes and spends
abbrev pub Grows : {A B : Type 0} → (A → State → Result B) → Type 0
Grows {A} to = (a : A) (s : State) → Later s (last (to a s))

abbrev pub Needs : Ending → Type 0 → Type 0
Needs Exact X = Unit {0}
Needs Past X = X

-- what the second side's continuation must keep, where the second run may go past the first one's end
pub record Carries {A B : Type 0} (L : Likeness) (to : A → State → Result B) : Type 0 where
  pub cut : Needs L.cut (Grows to)
  pub wild : Needs L.wild (Grows to)

-- a part that jumps alone enter, behind what jumps to targets that c relates: those that it has, it has on both sides, and others pass on to d; of its start nothing is asked
pub record JumpedInto (L : Likeness) (c d : Targets) (has also : Has) (go to : Goer) : Type 0 where
  pub at : (x y : Target) → c x y → has x ≡ true → (s t : State) → L.states s t → Like L (LikeSignal L d) (go (Some x) s) (to (Some y) t)
  pub same : (x y : Target) → c x y → also y ≡ has x
  pub out : (x y : Target) → c x y → has x ≡ false → d x y
  pub grows : Carries L to

-- a part that a jump may enter, and that is entered at its start too
pub record Along (L : Likeness) (c d : Targets) (has also : Has) (go to : Goer) : Type 0 where
  pub start : (s t : State) → L.states s t → Like L (LikeSignal L d) (go None s) (to None t)
  pub at : (x y : Target) → c x y → has x ≡ true → (s t : State) → L.states s t → Like L (LikeSignal L d) (go (Some x) s) (to (Some y) t)
  pub same : (x y : Target) → c x y → also y ≡ has x
  pub out : (x y : Target) → c x y → has x ≡ false → d x y
  pub grows : Carries L to

-- a statement and what is behind it, entered at its start and at each target that c relates, whether it stands in it or not
pub record Follows (L : Likeness) (c d : Targets) (has also : Has) (go to : Goer) : Type 0 where
  pub goer : LikeGoer L c d go to
  pub same : (x y : Target) → c x y → also y ≡ has x
  pub out : (x y : Target) → c x y → has x ≡ false → d x y
  pub grows : Carries L to

-- which data of the second side are alike to one of the first
abbrev pub DataRelation : Type 1
DataRelation = Datum → Datum → Type 0

-- arguments of the same kinds, with data that V relates
abbrev pub LikeArguments : DataRelation → List Argument → List Argument → Type 0
LikeArguments V [] [] = Unit {0}
LikeArguments V [] (b ∷ ys) = ⊥
LikeArguments V (a ∷ xs) [] = ⊥
LikeArguments V (a ∷ xs) (b ∷ ys) = (b.kind ≡ a.kind) × V a.datum b.datum × LikeArguments V xs ys

-- what the host is given of them
abbrev pub LikeScalars : DataRelation → List (Scalar × Value) → List (Scalar × Value) → Type 0
LikeScalars V [] [] = Unit {0}
LikeScalars V [] (b ∷ ys) = ⊥
LikeScalars V (a ∷ xs) [] = ⊥
LikeScalars V (a ∷ xs) (b ∷ ys) = (b.0 ≡ a.0) × V (Single a.1) (Single b.1) × LikeScalars V xs ys

-- what V relates to a value is a value, and what it relates to bytes is bytes
pub record KeepsForms (V : DataRelation) : Type 0 where
  pub single : (v : Value) (e : Datum) → V (Single v) e → (w : Value) × (e ≡ Single w)
  pub bytes : (bs : List Byte) (e : Datum) → V (Bytes bs) e → (cs : List Byte) × (e ≡ Bytes cs)

-- calls of the same kinds, with values that V relates; it need not be the relation of what the calls give
pub record LikeCall (V : DataRelation) (c d : Call) : Type 0 where
  pub abi : d.abi ≡ c.abi
  pub callee : V (Single c.callee) (Single d.callee)
  pub result : d.result ≡ c.result
  pub arguments : LikeArguments V c.arguments d.arguments

-- which calls of the second side are alike to one of the first
abbrev pub CallRelation : Type 1
CallRelation = Call → Call → Type 0

-- what calls do on the two sides is alike, from calls that Q relates
abbrev pub AlikeCalls : {I : Type 0} → (I → Likeness) → (I → CallRelation) → Enter → Enter → Type 0
AlikeCalls L Q = Alike L Q (λ i. (L i).values)

-- functions that take and give the same kinds
pub record SameKinds (f g : Function) : Type 0 where
  pub parameters : g.parameters ≡ f.parameters
  pub result : g.result ≡ f.result

-- names that mean functions which P relates, or the same function of the host, or objects
abbrev pub LikeMeaning : (Function → Function → Type 0) → Meaning → Meaning → Type 0
LikeMeaning P (Object read_only bytes) (Object also others) = Unit {0}
LikeMeaning P (Code f) (Code g) = P f g
LikeMeaning P (Host name) (Host also) = also ≡ name
LikeMeaning P _ _ = ⊥
