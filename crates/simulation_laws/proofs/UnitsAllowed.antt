-- Device: of units that link alike, whose functions keep the order of memories, each run of the first list allows that of the second.
use Rattle.std.proofs.Common.{◌≡◌, ℕ, zero, suc, List, [], ◌∷◌, Option, Some, None, option_map, slice_get, inl, refl, sym, subst}
use Rattle.cil_base.specs.declared.kinds.Abi.{Abi}
use Rattle.cil_base.specs.declared.kinds.Mode.{Mode}
use Rattle.cil_base.specs.declared.runs.Env.{Env}
use Rattle.cil_base.specs.Env.{IsEnv}
use Rattle.cil_base.specs.Outcome.{Allows}
use Rattle.byte_mem.specs.Steps.{◌>>=◌}
use Rattle.execution.specs.States.{State}
use Rattle.execution.specs.Data.{Argument}
use Rattle.execution.specs.Calls.{Call, Start, NotMain, WithoutWords, WithWords, Function, Meaning, Object, Code, Host, Linked, meant, calls}
use Rattle.execution.specs.Linking.{Linkable, linked, main_entity}
use Rattle.execution.specs.Runs.{int_kind, main_arguments, main_call, code_in, start_state, result_with, outcome_in, run_linked, run}
use Rattle.execution.specs.Likeness.{Past, Like, Computes, LikeMeaning, LikeArguments, LikeCall}
use Rattle.execution.specs.Bounds.{TameUnits}
use Rattle.execution.proofs.LinkLaws.{linked_tame}
use Rattle.execution.proofs.Ordered.{BelowRun, BelowDatum, ordered, OrderedCalls, OrderedFunctions, calls_ordered, ordered_allows}
use Rattle.simulation_laws.specs.Changes.{itself}
use Rattle.simulation_laws.specs.Starts.{AlikeOption, AlikeUnits, AlikeLinked, StartAlike}
use Rattle.simulation_laws.specs.Fitted.{AreBytes}
use Rattle.simulation_laws.proofs.StartsAlike.{starts_alike}
use Rattle.simulation_laws.proofs.CallsFit.{FittedCalls, FittedFunctions, below_alone, calls_fitted}

-- what a name means, where functions that P relates are related by Q too

like_more : (P Q : Function → Function → Type 0) → ((f g : Function) → P f g → Q f g) → (m n : Meaning) → LikeMeaning P m n → LikeMeaning Q m n
like_more P Q k (Object r bs) (Object q cs) h = h
like_more P Q k (Object r bs) (Code g) h = h
like_more P Q k (Object r bs) (Host b) h = h
like_more P Q k (Code f) (Object q cs) h = h
like_more P Q k (Code f) (Code g) h = k f g h
like_more P Q k (Code f) (Host b) h = h
like_more P Q k (Host a) (Object q cs) h = h
like_more P Q k (Host a) (Code g) h = h
like_more P Q k (Host a) (Host b) h = h

computes_more : (P Q : Function → Function → Type 0) → ((f g : Function) → P f g → Q f g) → (o u : Option Meaning) → Computes Past (LikeMeaning P) o u → Computes Past (LikeMeaning Q) o u
computes_more P Q k None u h = tt
computes_more P Q k (Some m) u h = (h.0, like_more P Q k m h.0 h.1, h.2)

-- the call of main

arguments_itself : (start : Start) (words : List (List ℕ)) (xs : List Argument) → main_arguments start words ≡ Some xs → LikeArguments (BelowDatum itself) xs xs
arguments_itself NotMain words xs e = cc
arguments_itself WithoutWords words xs e = subst (λ (ys : List Argument). LikeArguments (BelowDatum itself) ys ys) (same [] xs e) tt
  where
    same : (p q : List Argument) → Some p ≡ Some q → p ≡ q
    same p q e = cc
arguments_itself WithWords words xs e = subst (λ (ys : List Argument). LikeArguments (BelowDatum itself) ys ys) (same _ xs e) (refl, refl, (refl, refl, tt))
  where
    same : (p q : List Argument) → Some p ≡ Some q → p ≡ q
    same p q e = cc

-- calls as main is called say no more on the first side
abbrev MainsBelow : Abi → List ℕ → Linked → Linked → Type 0
MainsBelow abi input link other =
    (c d : Call) (s t : State) → LikeCall (BelowDatum itself) c d → c.abi ≡ abi → c.result ≡ int_kind → BelowRun itself s t → s.input ≡ input → Like (ordered itself) (BelowDatum itself) (calls link c s) (calls other d t)

module _ (P : Function → Function → Type 0) (begins : (f g : Function) → P f g → g.start ≡ f.start) (mode : Mode) (words : List (List ℕ)) (input : List ℕ) (n : ℕ) (us vs : List (List Linkable)) (s : StartAlike P mode.common us vs)
    (called : MainsBelow mode.abi input (linked mode.common us) (linked mode.common vs)) where
  starts : BelowRun itself (start_state mode.abi (linked mode.common us) words input n) (start_state mode.abi (linked mode.common vs) words input n)
  starts = record { memory = s.memory mode.abi words input n; input = refl; at_end = refl; out = refl; left = refl; next = refl; live = refl; heap = refl }

  with_main : (entity : ℕ) (f g : Function) (o : Option (List Argument)) → main_arguments f.start words ≡ o
      → Allows (outcome_in (option_map (result_with mode.abi (linked mode.common us) entity words input n) (o >>= λ xs. Some (f, xs)))) (outcome_in (option_map (result_with mode.abi (linked mode.common vs) entity words input n) (o >>= λ xs. Some (g, xs))))
  with_main entity f g None e = inl refl
  with_main entity f g (Some xs) e =
      ordered_allows itself (calls (linked mode.common us) (main_call mode.abi entity xs) (start_state mode.abi (linked mode.common us) words input n)) (calls (linked mode.common vs) (main_call mode.abi entity xs) (start_state mode.abi (linked mode.common vs) words input n))
      (called (main_call mode.abi entity xs) (main_call mode.abi entity xs) (start_state mode.abi (linked mode.common us) words input n) (start_state mode.abi (linked mode.common vs) words input n)
      (record { abi = refl; callee = refl; result = refl; arguments = arguments_itself f.start words xs e }) refl refl starts refl)

  at_main : (entity : ℕ) (m q : Option Meaning) → AlikeOption P m q
      → Allows (outcome_in (option_map (result_with mode.abi (linked mode.common us) entity words input n) (code_in m >>= λ f. main_arguments f.start words >>= λ xs. Some (f, xs))))
      (outcome_in (option_map (result_with mode.abi (linked mode.common vs) entity words input n) (code_in q >>= λ f. main_arguments f.start words >>= λ xs. Some (f, xs))))
  at_main entity None None h = inl refl
  at_main entity None (Some q) h = absurd h
  at_main entity (Some m) None h = absurd h
  at_main entity (Some (Object r bs)) (Some (Object q cs)) h = inl refl
  at_main entity (Some (Object r bs)) (Some (Code g)) h = absurd h
  at_main entity (Some (Object r bs)) (Some (Host b)) h = absurd h
  at_main entity (Some (Code f)) (Some (Object q cs)) h = absurd h
  at_main entity (Some (Code f)) (Some (Host b)) h = absurd h
  at_main entity (Some (Host a)) (Some (Object q cs)) h = absurd h
  at_main entity (Some (Host a)) (Some (Code g)) h = absurd h
  at_main entity (Some (Host a)) (Some (Host b)) h = inl refl
  at_main entity (Some (Code f)) (Some (Code g)) h =
      subst (λ (x : Start). Allows (outcome_in (option_map (result_with mode.abi (linked mode.common us) entity words input n) (main_arguments f.start words >>= λ xs. Some (f, xs))))
      (outcome_in (option_map (result_with mode.abi (linked mode.common vs) entity words input n) (main_arguments x words >>= λ xs. Some (g, xs))))) (sym (begins f g h))
      (with_main entity f g (main_arguments f.start words) refl)

  looked_up : (entity e : ℕ) (ms ns : Linked) → AlikeLinked P ms ns
      → Allows (outcome_in (option_map (result_with mode.abi (linked mode.common us) entity words input n) (slice_get ms e >>= code_in >>= λ f. main_arguments f.start words >>= λ xs. Some (f, xs))))
      (outcome_in (option_map (result_with mode.abi (linked mode.common vs) entity words input n) (slice_get ns e >>= code_in >>= λ f. main_arguments f.start words >>= λ xs. Some (f, xs))))
  looked_up entity e [] [] h = inl refl
  looked_up entity e [] (q ∷ ns) h = absurd h
  looked_up entity e (m ∷ ms) [] h = absurd h
  looked_up entity zero (m ∷ ms) (q ∷ ns) h = at_main entity m q h.0
  looked_up entity (suc e) (m ∷ ms) (q ∷ ns) h = looked_up entity e ms ns h.1

  -- the outcome of the second list is one that the first allows, where main and what it calls keep some relation
  pub allowed : Allows (run us mode words input n) (run vs mode words input n)
  allowed = subst (λ (e : ℕ). Allows (run us mode words input n) (run_linked mode.abi (linked mode.common vs) e words input n)) (sym s.main) (looked_up (main_entity us) (main_entity us) (linked mode.common us) (linked mode.common vs) s.linked)

-- functions that keep the order, and begin a program alike
pub record KeepsRuns (f g : Function) : Type 0 where
  pub keeps : OrderedFunctions itself f g
  pub start : g.start ≡ f.start

-- the outcome of the second list is one that the first allows
pub units_allowed : (us vs : List (List Linkable)) → AlikeUnits KeepsRuns us vs → TameUnits vs → (mode : Mode) (words : List (List ℕ)) (input : List ℕ) (n : ℕ) → Allows (run us mode words input n) (run vs mode words input n)
units_allowed us vs h tame mode words input n = allowed KeepsRuns (λ f g k. k.start) mode words input n us vs start (λ c d x y l a k r i. called tt c d x y l r)
  where
    start : StartAlike KeepsRuns mode.common us vs
    start = starts_alike KeepsRuns mode.common us vs h

    called : OrderedCalls itself (calls (linked mode.common us)) (calls (linked mode.common vs))
    called = calls_ordered itself (λ a b e. e) (λ i. refl) (λ act i. refl) (linked mode.common us) (linked mode.common vs) (linked_tame mode.common vs tame)
        (λ v w b. computes_more KeepsRuns (OrderedFunctions itself) (λ f g k. k.keeps) (meant (linked mode.common us) v) (meant (linked mode.common vs) w) (start.named v w b))

-- functions that keep the order where values fit their kinds, and begin a program alike
pub record FitsRuns (abi : Abi) (f g : Function) : Type 0 where
  pub fits : FittedFunctions abi f g
  pub start : g.start ≡ f.start

-- so it is where the bodies ask that calls give what fits, and the input is bytes
pub units_fitted : (us vs : List (List Linkable)) (mode : Mode) → AlikeUnits (FitsRuns mode.abi) us vs → TameUnits vs → (words : List (List ℕ)) (input : List ℕ) → AreBytes input → (n : ℕ) → Allows (run us mode words input n) (run vs mode words input n)
units_fitted us vs mode h tame words input bytes n =
    allowed (FitsRuns mode.abi) (λ f g k. k.start) mode words input n us vs start (λ c d x y l a k r i. below_alone mode.abi int_kind (calls (linked mode.common us) c x) (calls (linked mode.common vs) d y)
    (called int_kind c d x y (l, a, k) (record { run = r; input = subst AreBytes (sym i) bytes })))
  where
    start : StartAlike (FitsRuns mode.abi) mode.common us vs
    start = starts_alike (FitsRuns mode.abi) mode.common us vs h

    called : FittedCalls mode.abi (calls (linked mode.common us)) (calls (linked mode.common vs))
    called = calls_fitted mode.abi (linked mode.common us) (linked mode.common vs) (linked_tame mode.common vs tame)
        (λ v w b. computes_more (FitsRuns mode.abi) (FittedFunctions mode.abi) (λ f g k. k.fits) (meant (linked mode.common us) v) (meant (linked mode.common vs) w) (start.named v w b))

-- so it is of each environment, whose input is bytes
pub units_fitted_in : (us vs : List (List Linkable)) (mode : Mode) → AlikeUnits (FitsRuns mode.abi) us vs → TameUnits vs → (words : List (List ℕ)) (env : Env) → IsEnv env → (n : ℕ) → Allows (run us mode words env.input n) (run vs mode words env.input n)
units_fitted_in us vs mode h tame words env is n = units_fitted us vs mode h tame words env.input is.input n
