-- Device: a loaded body runs from step to step.
use Rattle.std.proofs.Common.{◌≡◌, ℕ, zero, suc, List, [], ◌∷◌, slice_get, Some, None, refl, sym, ap, ◌∙◌, subst}
use Rattle.cil_tree.specs.Typing.{Scope}
use Rattle.cil_semantics.specs.Laws.{calls_in}
use Rattle.cil_control.specs.Flat as flat
use Rattle.cil_control.specs.Flat.{taken, labels_from}
use Rattle.cil_control.proofs.BodySteps.{bodies_are_taken}
use Rattle.cil_control.proofs.Labels.{labels_are}
use Rattle.cil_machine.specs.Resolution.{activation}
use Rattle.cil_code.specs.declared.steps.Step.{Step}
use Rattle.cil_code.specs.Doing.{Fits, IsStep, AreSteps}
use Rattle.cil_code.specs.Running.{AllFit, steps_of, remains_at, LoadedBodiesRun}

-- the body's step that a step of the code is
record Matched (c : Scope) (es : List ℕ) (xs : List flat.Step) (p : ℕ) (y : Step) : Type 0 where
  step : flat.Step
  there : slice_get xs p ≡ Some step
  fit : Fits c step
  does : IsStep c es step y

matched : (c : Scope) (es : List ℕ) (xs : List flat.Step) (ys : List Step) (p : ℕ) (y : Step) → AreSteps c es xs ys → AllFit c xs → slice_get ys p ≡ Some y → Matched c es xs p y
matched c es [] [] zero y h f e = absurd (cc)
matched c es [] [] (suc p) y h f e = absurd (cc)
matched c es [] (z ∷ ys) p y h f e = absurd h
matched c es (x ∷ xs) [] p y h f e = absurd h
matched c es (x ∷ xs) (z ∷ ys) zero y h f e =
    let same : z ≡ y = ap (λ o. elim o [ None ↦ z | Some a ↦ a ]) e in
    record { step = x; there = refl; fit = f.0; does = subst (IsStep c es x) same h.0 }
matched c es (x ∷ xs) (z ∷ ys) (suc p) y h f e =
    let m = matched c es xs ys p y h.1 f.1 e in
    record { step = m.step; there = m.there; fit = m.fit; does = m.does }

pub loaded_bodies_run : LoadedBodiesRun
loaded_bodies_run programs c es end body code numbered fit steps = record {
  begins = λ act s. (bodies_are_taken programs (activation c es act) end (slice_get (labels_from 0 body)) body (labels_are body c.labels numbered)).begins s;
  goes = λ act p y e s.
      let m = matched c es (steps_of body) code p y steps fit e in
      (bodies_are_taken programs (activation c es act) end (slice_get (labels_from 0 body)) body (labels_are body c.labels numbered)).goes p m.step m.there s
      ∙ sym (m.does.does m.fit act (calls_in programs) end (remains_at programs c es act end body) p s);
}
