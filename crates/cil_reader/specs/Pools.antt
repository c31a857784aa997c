-- Definition: what a pool of names keeps while others are asked for (own).
use Rattle.std.specs.Prelude.{◌≡◌, ℕ, List, Some, slice_get}

-- each name of the one pool has its number and its text in the other
pub record KeepsNames (names later : List (List ℕ)) : Type 0 where
  pub at : (n : ℕ) (text : List ℕ) → slice_get names n ≡ Some text → slice_get later n ≡ Some text
