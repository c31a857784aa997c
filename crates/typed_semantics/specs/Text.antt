-- Device: runs of the typed units of texts, for rows.
use Rattle.std.specs.Prelude.{ℕ, false, List, [], ◌∷◌, Option, codes}
use Rattle.std.specs.Option.{option_map}
use Rattle.cil_base.specs.declared.kinds.Abi.{Abi}
use Rattle.cil_base.specs.declared.kinds.Mode.{Mode}
use Rattle.cil_base.specs.declared.runs.Outcome.{Outcome}
use Rattle.c_tree.specs.Units.{UnitTree}
use Rattle.c_semantics.specs.Text.{parsed_all}
use Rattle.typed_semantics.specs.Units.{RunTyped}
use Rattle.typed_semantics.specs.Walked.{typed_units}

abbrev pub ran : Mode → List (List ℕ) → List ℕ → ℕ → List UnitTree × List (List ℕ) → Outcome
ran mode words bytes n x = RunTyped (typed_units x.1 mode.abi x.0) mode words bytes n

-- the outcome of units in a mode, with words, an input and a bound; none where they are no units
unfoldable pub runs_in : Mode → List (List ℕ) → List (List ℕ) → List ℕ → ℕ → Option Outcome
unfolding parsed_all
runs_in mode texts words bytes n = option_map (ran mode words bytes n) (parsed_all 0 (codes "a.c" ∷ []) texts)

unfoldable pub runs_with : Abi → List (List ℕ) → List (List ℕ) → List ℕ → ℕ → Option Outcome
unfolding runs_in
runs_with abi texts words bytes n = runs_in (record { common = false; abi = abi }) texts words bytes n
