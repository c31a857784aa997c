-- Device: texts that differ, and one more.
use Rattle.std.specs.Prelude.{ℕ, if◌then◌else◌, List, [], ◌∷◌, ◌++◌, Option, Some, None}
use Rattle.cil_tree.specs.Names.{is_among}

-- texts and one more, which is none of them
abbrev pub with_new : List (List ℕ) → List ℕ → Option (List (List ℕ))
with_new texts text = if is_among texts text then None else Some (texts ++ text ∷ [])
