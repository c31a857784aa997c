-- Device: what surrounds a body keeps likeness: lifetimes of objects, the value that is returned, activations, and calls.
use Rattle.std.proofs.Common.{◌≡◌, ℕ, suc, ◌+◌, ◌<◌, Bool, true, false, ◌&&◌, List, [], ◌∷◌, length, map, Option, Some, None, refl, sym, ap, ◌∙◌, subst, arith}
use Rattle.cil_base.proofs.OutcomeLaws.{IsPrefix-refl}
use Rattle.cil_base.specs.declared.kinds.Abi.{Abi}
use Rattle.byte_mem.specs.Memory.{with_held}
use Rattle.host_calls.specs.declared.names.HostName.{HostName}
use Rattle.execution.specs.States.{State, Result, Goes, Running, Undefined, last, with_memory, spend}
use Rattle.execution.specs.Unrolling.{unrolled}
use Rattle.execution.specs.Data.{Kind, same_kind, Datum, Argument, local_name, argument_held, with_arguments, Automatic, with_objects, without_objects}
use Rattle.execution.specs.Jumps.{Signal, Normal, Broken, Jumped, Returned}
use Rattle.execution.specs.Calls.{Call, Enter, Function, Meaning, Object, Code, Host, Linked, leaves, number_of, scoped, returned, returns, numbers, begun, activated, arguments_match, matches, entered, function_called, host_called, called, meant, call_step, calls}
use Rattle.execution.specs.Likeness.{Ending, Exact, Past, Likeness, ends, Like, Within, Computes, Targets, LikeSignal, Later, Grows, Needs, DataRelation, LikeArguments, LikeCall, CallRelation, AlikeCalls, SameKinds, LikeMeaning}
use Rattle.execution.proofs.Congruence.{later_refl, later_trans, bind_grows, needed, always, bind_into, bind_like, meanings_like}

-- objects whose lifetimes end

left_grows : {A : Type 0} (act : ℕ) (ns : List ℕ) → Grows {A = A} {B = A} (λ a s. Goes a (with_memory s (without_objects act ns s.memory)))
left_grows act ns a s = record { written = IsPrefix-refl s.out; spent = omega arith }

pub leaves_grows : {A : Type 0} (act : ℕ) (ns : List ℕ) (s : State) (r : Result A) → Later s (last r) → Later s (last (leaves act ns r))
leaves_grows act ns s r h = later_trans s (last r) (last (leaves act ns r)) h (bind_grows r (λ a s. Goes a (with_memory s (without_objects act ns s.memory))) (left_grows act ns))

-- within, the states are alike by M; behind, where the objects are gone, by L
pub leaves_like : {A B : Type 0} (M L : Likeness) (R : A → B → Type 0) (act other : ℕ) (ns ms : List ℕ) (r : Result A) (q : Result B) → Within M L
    → ((s t : State) → M.states s t → L.states (with_memory s (without_objects act ns s.memory)) (with_memory t (without_objects other ms t.memory)))
    → Like M R r q → Like L R (leaves act ns r) (leaves other ms q)
leaves_like M L R act other ns ms r q w gone l =
    bind_into M L R R r q (λ a s. Goes a (with_memory s (without_objects act ns s.memory))) (λ b t. Goes b (with_memory t (without_objects other ms t.memory))) w l
    (λ a b s t h n. (b, with_memory t (without_objects other ms t.memory), h, gone s t n, refl))
    (always L (λ b t. Goes b (with_memory t (without_objects other ms t.memory))) (left_grows other ms))

pub scoped_like : {A B : Type 0} (M L : Likeness) (R : A → B → Type 0) (act other : ℕ) (xs ys : List Automatic) (go : State → Result A) (to : State → Result B) → Within M L
    → ((s t : State) → L.states s t → M.states (with_memory s (with_objects act xs s.memory)) (with_memory t (with_objects other ys t.memory)))
    → ((s t : State) → M.states s t → L.states (with_memory s (without_objects act (map number_of xs) s.memory)) (with_memory t (without_objects other (map number_of ys) t.memory)))
    → ((s t : State) → M.states s t → Like M R (go s) (to t)) → (s t : State) → L.states s t → Like L R (scoped act xs go s) (scoped other ys to t)
scoped_like M L R act other xs ys go to w born gone k s t n =
    leaves_like M L R act other (map number_of xs) (map number_of ys) (go (with_memory s (with_objects act xs s.memory))) (to (with_memory t (with_objects other ys t.memory))) w gone
    (k (with_memory s (with_objects act xs s.memory)) (with_memory t (with_objects other ys t.memory)) (born s t n))

-- what a body returns

returned_grows : (end : Datum) → Grows (returned end)
returned_grows end Normal s = later_refl s
returned_grows end (Returned (Some d)) s = later_refl s
returned_grows end (Returned None) s = later_refl s
returned_grows end Broken s = later_refl s
returned_grows end (Jumped x) s = later_refl s

pub returns_like : (L : Likeness) (c : Targets) (end other : Datum) (r q : Result Signal) → L.values end other → ((s t : State) → L.states s t → ends {B = Datum} L.wild L Undefined s (Undefined t))
    → Like L (LikeSignal L c) r q → Like L L.values (returns end r) (returns other q)
returns_like L c end other r q v w l = bind_like L (LikeSignal L c) L.values r q (returned end) (returned other) l step (always L (returned other) (returned_grows other))
  where
    step : (a b : Signal) (s t : State) → LikeSignal L c a b → L.states s t → Like L L.values (returned end a s) (returned other b t)
    step Normal b s t i n = (other, t, v, n, ap (λ y. returned other y t) i)
    step Broken b s t i n = subst (λ y. Like L L.values (Undefined s) (returned other y t)) (sym i) (w s t n)
    step (Jumped x) b s t i n = subst (λ y. Like L L.values (Undefined s) (returned other y t)) (sym i.2) (w s t n)
    step (Returned None) b s t i n = (other, t, v, n, ap (λ y. returned other y t) i)
    step (Returned (Some d)) b s t i n = (i.0, t, i.1, n, ap (λ y. returned other y t) i.2)

-- an activation: its arguments, its body, and the call that leads to it

-- a state in which the number of the next activation is taken
abbrev pub next_taken : State → State
next_taken s = record s { next = suc s.next }

arguments_like : (M : Likeness) (V : DataRelation) (abi : Abi) (act other i : ℕ) (xs ys : List Argument) (n : ℕ) → LikeArguments V xs ys → i + length xs ≡ n
    → ((j : ℕ) (a b : Argument) (s t : State) → j < n → b.kind ≡ a.kind → V a.datum b.datum → M.states s t
    → M.states (with_memory s (with_held s.memory (local_name act j) (Some (argument_held abi a)))) (with_memory t (with_held t.memory (local_name other j) (Some (argument_held abi b)))))
    → (s t : State) → M.states s t → M.states (with_memory s (with_arguments abi act i xs s.memory)) (with_memory t (with_arguments abi other i ys t.memory))
arguments_like M V abi act other i [] [] n l e one s t h = h
arguments_like M V abi act other i [] (b ∷ ys) n l e one s t h = absurd l
arguments_like M V abi act other i (a ∷ xs) [] n l e one s t h = absurd l
arguments_like M V abi act other i (a ∷ xs) (b ∷ ys) n l e one s t h =
    arguments_like M V abi act other (suc i) xs ys n l.2 (omega arith) one (with_memory s (with_held s.memory (local_name act i) (Some (argument_held abi a)))) (with_memory t (with_held t.memory (local_name other i) (Some (argument_held abi b))))
    (one i a b s t (omega arith) l.0 l.1 h)

-- an activation begins: its number is taken, and its arguments are made in turn
pub begun_like : (M : Likeness) (V : DataRelation) (abi : Abi) (xs ys : List Argument) (s t : State) → LikeArguments V xs ys → M.states (next_taken s) (next_taken t)
    → ((j : ℕ) (a b : Argument) (u v : State) → j < length xs → b.kind ≡ a.kind → V a.datum b.datum → M.states u v
    → M.states (with_memory u (with_held u.memory (local_name s.next j) (Some (argument_held abi a)))) (with_memory v (with_held v.memory (local_name t.next j) (Some (argument_held abi b)))))
    → M.states (begun abi xs s) (begun abi ys t)
begun_like M V abi xs ys s t l h one = arguments_like M V abi s.next t.next 0 xs ys (length xs) l (omega arith) one (next_taken s) (next_taken t) h

pub activated_like : (M L : Likeness) (f g : Function) (enter also : Enter) (xs ys : List Argument) (s t : State) → Within M L → M.states (begun f.abi xs s) (begun g.abi ys t)
    → ((u v : State) → M.states u v → L.states (with_memory u (without_objects s.next (numbers 0 xs) u.memory)) (with_memory v (without_objects t.next (numbers 0 ys) v.memory)))
    → ((u v : State) → M.states u v → Like M L.values (f.body enter s.next u) (g.body also t.next v))
    → Like L L.values (activated enter f xs s) (activated also g ys t)
activated_like M L f g enter also xs ys s t w h gone k =
    leaves_like M L L.values s.next t.next (numbers 0 xs) (numbers 0 ys) (f.body enter s.next (begun f.abi xs s)) (g.body also t.next (begun g.abi ys t)) w gone (k (begun f.abi xs s) (begun g.abi ys t) h)

-- arguments that are alike are as many, and of the same kinds
pub numbers_like : (V : DataRelation) (i : ℕ) (xs ys : List Argument) → LikeArguments V xs ys → numbers i ys ≡ numbers i xs
numbers_like V i [] [] l = refl
numbers_like V i [] (b ∷ ys) l = absurd l
numbers_like V i (a ∷ xs) [] l = absurd l
numbers_like V i (a ∷ xs) (b ∷ ys) l = ap (λ ns. i ∷ ns) (numbers_like V (suc i) xs ys l.2)

arguments_match_like : (V : DataRelation) (kinds : List (Option Kind)) (xs ys : List Argument) → LikeArguments V xs ys → arguments_match kinds ys ≡ arguments_match kinds xs
arguments_match_like V kinds [] [] l = refl
arguments_match_like V kinds [] (b ∷ ys) l = absurd l
arguments_match_like V kinds (a ∷ xs) [] l = absurd l
arguments_match_like V [] (a ∷ xs) (b ∷ ys) l = refl
arguments_match_like V (k ∷ kinds) (a ∷ xs) (b ∷ ys) l = ap (λ x. same_kind k x && arguments_match kinds ys) l.0 ∙ ap (λ x. same_kind k a.kind && x) (arguments_match_like V kinds xs ys l.2)

pub matches_like : (V : DataRelation) (f g : Function) (c d : Call) → SameKinds f g → LikeCall V c d → matches g d ≡ matches f c
matches_like V f g c d i l =
    ap (λ x. same_kind x d.result && arguments_match g.parameters d.arguments) i.result
    ∙ ap (λ x. same_kind f.result x && arguments_match g.parameters d.arguments) l.result
    ∙ ap (λ x. same_kind f.result c.result && arguments_match x d.arguments) i.parameters
    ∙ ap (λ x. same_kind f.result c.result && x) (arguments_match_like V f.parameters c.arguments d.arguments l.arguments)

-- how the spent unit keeps likeness is asked where the kinds agree
pub entered_like : (L : Likeness) (ok : Bool) (f g : Function) (enter also : Enter) (xs ys : List Argument) (s t : State) → ends {B = Datum} L.wild L Undefined s (Undefined t)
    → (ok ≡ true → Like L L.values (spend s (activated enter f xs)) (spend t (activated also g ys))) → Like L L.values (entered ok enter f xs s) (entered ok also g ys t)
entered_like L true f g enter also xs ys s t w k = k refl
entered_like L false f g enter also xs ys s t w k = w

pub function_like : (L : Likeness) (V : DataRelation) (f g : Function) (enter also : Enter) (c d : Call) (s t : State) → SameKinds f g → LikeCall V c d → ends {B = Datum} L.wild L Undefined s (Undefined t)
    → (matches f c ≡ true → Like L L.values (spend s (activated enter f c.arguments)) (spend t (activated also g d.arguments)))
    → Like L L.values (function_called enter f c s) (function_called also g d t)
function_like L V f g enter also c d s t i l w k =
    subst (λ x. Like L L.values (function_called enter f c s) (entered x also g d.arguments t)) (sym (matches_like V f g c d i l)) (entered_like L (matches f c) f g enter also c.arguments d.arguments s t w k)

-- what is called is one or the other on both sides; where the first side calls nothing that is known, the second may do anything
pub called_like : (L : Likeness) (P : Function → Function → Type 0) (enter also : Enter) (m n : Option Meaning) (c d : Call) (s t : State)
    → Computes L.wild (LikeMeaning P) m n → ends {B = Datum} L.wild L Undefined s (Undefined t) → Needs L.wild (Later t (last (called also n d t)))
    → ((f g : Function) → P f g → Like L L.values (function_called enter f c s) (function_called also g d t)) → ((name : HostName) → Like L L.values (host_called name c s) (host_called name d t))
    → Like L L.values (called enter m c s) (called also n d t)
called_like L P enter also (Some m) n c d s t g w later f h = subst (λ x. Like L L.values (called enter (Some m) c s) (called also x d t)) (sym g.2) (by m g.0 g.1)
  where
    by : (a b : Meaning) → LikeMeaning P a b → Like L L.values (called enter (Some a) c s) (called also (Some b) d t)
    by (Object read_only bytes) (Object q bs) i = w
    by (Object read_only bytes) (Code y) i = absurd i
    by (Object read_only bytes) (Host name) i = absurd i
    by (Code x) (Object q bs) i = absurd i
    by (Code x) (Code y) i = f x y i
    by (Code x) (Host name) i = absurd i
    by (Host name) (Object q bs) i = absurd i
    by (Host name) (Code y) i = absurd i
    by (Host name) (Host other) i = subst (λ x. Like L L.values (host_called name c s) (host_called x d t)) (sym i) (h name)
called_like L P enter also None n c d s t g w later f h = by L.wild g w later
  where
    by : (e : Ending) → Computes e (LikeMeaning P) None n → ends {B = Datum} e L Undefined s (Undefined t) → Needs e (Later t (last (called also n d t))) → ends {B = Datum} e L Undefined s (called also n d t)
    by Exact g w later = (w.0, w.1, ap (λ x. called also x d t) g ∙ w.2)
    by Past g w later = L.later s t (last (called also n d t)) w later

-- calls of linked programs that Q relates are alike where what is called is, and the functions that P relates are where the calls in them are
pub calls_like : {I : Type 0} (L : I → Likeness) (Q : I → CallRelation) (P : Function → Function → Type 0) (link other : Linked)
    → ((i : I) (s t : State) → (L i).states s t → t.left ≡ s.left)
    → ((i : I) (s t : State) → (L i).states s t → ends {B = Datum} (L i).cut (L i) Running s (Running t))
    → ((i : I) (s t : State) → (L i).states s t → ends {B = Datum} (L i).wild (L i) Undefined s (Undefined t))
    → ((n : ℕ) → Grows (unrolled (call_step other) n))
    → ((i : I) (c d : Call) → Q i c d → Computes (L i).wild (LikeMeaning P) (meant link c.callee) (meant other d.callee))
    → ((i : I) (name : HostName) (c d : Call) (s t : State) → Q i c d → (L i).states s t → Like (L i) (L i).values (host_called name c s) (host_called name d t))
    → ((f g : Function) (enter also : Enter) → P f g → Grows also → AlikeCalls L Q enter also → (i : I) (c d : Call) (s t : State) → Q i c d → (L i).states s t → Like (L i) (L i).values (function_called enter f c s) (function_called also g d t))
    → AlikeCalls L Q (calls link) (calls other)
calls_like L Q P link other even stop wild grows names host functions =
    meanings_like L Q (λ i. (L i).values) (call_step link) (call_step other) even stop grows (λ enter also g now k i c d s t l h.
    called_like (L i) P enter also (meant link c.callee) (meant other d.callee) c d s t (names i c d l) (wild i s t h) (needed (L i).wild (now d t))
    (λ x y p. functions x y enter also p g k i c d s t l h) (λ name. host i name c d s t l h))
