-- Definition: two programs that do the same, each run alone (own).
use Rattle.std.specs.Prelude.{◌≡◌, ℕ, List, [], ◌∷◌}
use Rattle.cil_base.specs.declared.kinds.Mode.{Mode}
use Rattle.cil_tree.specs.Tree.{Program}
use Rattle.cil_semantics.specs.Runs.{RunCil, UnitsSpent, FindsEnd}

-- they have one data model, and in each mode, with the same words, input and bound, they have one outcome, have spent the same units, and both or neither have found the end of the input
pub record RunAlike (p q : Program) : Type 0 where
  pub model : p.graph.abi ≡ q.graph.abi
  pub outcome : (mode : Mode) (words : List (List ℕ)) (input : List ℕ) (n : ℕ) → RunCil (p ∷ []) mode words input n ≡ RunCil (q ∷ []) mode words input n
  pub spent : (mode : Mode) (words : List (List ℕ)) (input : List ℕ) (n : ℕ) → UnitsSpent (p ∷ []) mode words input n ≡ UnitsSpent (q ∷ []) mode words input n
  pub end : (mode : Mode) (words : List (List ℕ)) (input : List ℕ) (n : ℕ) → FindsEnd (p ∷ []) mode words input n ≡ FindsEnd (q ∷ []) mode words input n
