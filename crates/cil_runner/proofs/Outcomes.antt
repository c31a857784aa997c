-- Device: what the result of the run of linked programs says of its outcome.
use Rattle.std.proofs.Common.{◌≡◌, ℕ, ◌-◌, List, map, [], Option, Some, None, option_map, true, false, refl, sym, ap, ◌∙◌, subst, arith}
use Rattle.cil_base.specs.declared.kinds.Mode.{Mode}
use Rattle.cil_base.specs.declared.runs.Outcome.{Outcome}
use Rattle.cil_base.specs.Outcome.{output as written, IsPrefix}
use Rattle.execution.specs.States.{Result, last, output}
use Rattle.execution.specs.Data.{Datum}
use Rattle.execution.specs.Runs.{outcome_of, outcome_in, result_linked, spent_until}
use Rattle.execution.specs.Linking.{linked, main_entity}
use Rattle.execution.specs.Laws.{HasEnded, IsLeastBound}
use Rattle.execution.proofs.RunLaws.{outcome_output, spends_least}
use Rattle.cil_tree.specs.Tree.{Program}
use Rattle.cil_semantics.specs.Runs.{linkables, RunCil, UnitsSpent, FindsEnd}
use Rattle.cil_semantics.proofs.ProgramLaws.{programs_tame}
use Rattle.cil_turns.specs.Ends.{CutOff as IsCutOff}
use Rattle.cil_runner.specs.Outcomes.{EndsAs, GoesOn, HasWritten, CutOff}

-- the result of the run of linked programs
abbrev pub result_of : List Program → Mode → List (List ℕ) → List ℕ → ℕ → Option (Result Datum)
result_of programs mode words input steps = result_linked mode.abi (linked mode.common (map linkables programs)) (main_entity (map linkables programs)) words input steps

module _ (programs : List Program) (mode : Mode) (words : List (List ℕ)) (input : List ℕ) (steps : ℕ) where
  units_are : (o : Option (Result Datum)) → result_of programs mode words input steps ≡ o → UnitsSpent programs mode words input steps ≡ spent_until steps (option_map last o)
  units_are o e = ap (λ o. spent_until steps (option_map last o)) e

  outcome_is : (o : Option (Result Datum)) → result_of programs mode words input steps ≡ o → RunCil programs mode words input steps ≡ outcome_in o
  outcome_is o e = ap outcome_in e

  ended : (used : ℕ) (x : Outcome) → RunCil programs mode words input steps ≡ x → used ≡ UnitsSpent programs mode words input steps → HasEnded x → EndsAs programs mode words input steps used x
  ended used x outcome spent h = record {
    outcome = outcome;
    spent = spent;
    least = subst (IsLeastBound (RunCil programs mode words input) steps) (sym spent) (spends_least (map linkables programs) (programs_tame programs) mode words input steps (subst HasEnded (sym outcome) h));
  }

  module _ (r : Result Datum) (is : result_of programs mode words input steps ≡ Some r) where
    spent_is : (left : ℕ) → (last r).left ≡ left → steps - left ≡ UnitsSpent programs mode words input steps
    spent_is left e = sym (units_are (Some r) is ∙ ap (λ n. steps - n) e)

    pub ends_as : (left : ℕ) (x : Outcome) → outcome_of r ≡ x → (last r).left ≡ left → HasEnded x → EndsAs programs mode words input steps (steps - left) x
    ends_as left x o l h = ended (steps - left) x (outcome_is (Some r) is ∙ o) (spent_is left l) h

    pub goes_on : (left : ℕ) (x : Outcome) → outcome_of r ≡ x → (last r).left ≡ left → GoesOn programs mode words input steps (steps - left) x
    goes_on left x o l = record { outcome = outcome_is (Some r) is ∙ o; spent = spent_is left l }

    has_written : (text : List ℕ) → IsPrefix text (output r) → HasWritten programs mode words input steps text
    has_written text h = subst (IsPrefix text) (sym (ap written (outcome_is (Some r) is) ∙ outcome_output r)) h

    pub cut_off : (left : ℕ) (text : List ℕ) → IsCutOff r text left → CutOff programs mode words input steps (steps - left) text
    cut_off left text h = record {
      written = has_written text h.written;
      spent = let all : UnitsSpent programs mode words input steps ≡ steps - (last r).left = units_are (Some r) is in omega (arith, h.spent);
    }

    pub finds_end : (last r).at_end ≡ true → FindsEnd programs mode words input steps ≡ true
    finds_end e = ap (λ o. elim (option_map last o) [ None ↦ false | Some s ↦ s.at_end ]) is ∙ e

  -- nothing was written and no unit used
  pub cut_at_once : CutOff programs mode words input steps 0 []
  cut_at_once = record { written = (_, refl); spent = omega arith }

  -- without a main a run is undefined, with no output
  pub undefined_without : result_of programs mode words input steps ≡ None → EndsAs programs mode words input steps 0 (outcome_in None)
  undefined_without e = ended 0 (outcome_in None) (outcome_is None e) (sym (units_are None e)) tt
