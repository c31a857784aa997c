-- Device: lists of which no two elements are alike, by a test of likeness.
use Rattle.std.specs.Prelude.{◌&&◌, not, Bool, true, List, [], ◌∷◌, ◌++◌}
use Rattle.std.specs.List.{list_any}

-- no two elements are alike
abbrev pub distinct : {A : Type 0} → (A → A → Bool) → List A → Bool
distinct alike [] = true
distinct alike (x ∷ xs) = not (list_any (alike x) xs) && distinct alike xs

-- nor is one like one of those that were seen
abbrev pub fresh : {A : Type 0} → (A → A → Bool) → List A → List A → Bool
fresh alike seen [] = true
fresh alike seen (x ∷ xs) = not (list_any (alike x) seen) && fresh alike (seen ++ x ∷ []) xs
