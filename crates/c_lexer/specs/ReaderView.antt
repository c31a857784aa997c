-- Device: what the reader of the code knows, and how its answers follow the definition's outcomes.
use Rattle.std.specs.Prelude.{◌≡◌, ℕ, ◌+◌, ◌≤◌, List, length, reverse, Result, Ok, Err, All}
use Rattle.cil_base.specs.Limits.{unit_bytes}
use Rattle.cil_base.specs.declared.faults.Stop.{Stop}
use Rattle.cil_base.specs.declared.faults.Stop.TheVariants.{Refused as IsRefused, Memory as IsMemory}
use Rattle.c_lexer.specs.declared.reader.Reader.{Reader}
use Rattle.c_lexer.specs.Entries.{IsWithin}
use Rattle.c_lexer.specs.Tokens.{Reading, Outcome, Goes, Stops}

abbrev pub reading_of : Reader → List (List ℕ) → Reading
reading_of r names = record { unit = r.unit; names = names; entries = r.entries.items; spot = r.spot; attribute = r.attribute; brackets = reverse r.brackets.items }

-- the answer is the outcome, where memory is not wanting
abbrev pub Follows : {A : Type 0} → Result A Stop → Reading → Outcome → Type 0
Follows (Ok a) after outcome = outcome ≡ Goes after
Follows (Err (IsRefused refusal)) after outcome = outcome ≡ Stops refusal after.names
Follows (Err IsMemory) after outcome = Unit {0}

-- the stop is a refusal, and that of the outcome
abbrev pub Refuses : Stop → Outcome → List (List ℕ) → Type 0
Refuses (IsRefused refusal) outcome names = outcome ≡ Stops refusal names
Refuses IsMemory outcome names = ⊥

-- numbers are in range
pub record IsBounded (limit : ℕ) (r : Reader) : Type 0 where
  pub same : r.limit ≡ limit
  pub low : limit ≤ unit_bytes
  pub line : r.spot.line ≤ 2147483648 + r.spot.start
  pub few : length r.entries.items ≤ r.spot.start
  pub all : All (IsWithin limit) r.entries.items
