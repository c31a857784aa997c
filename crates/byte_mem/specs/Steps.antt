-- Definition: steps of which each may be undefined (C11 3.4.3): what follows an undefined step is undefined.
use Rattle.std.specs.Prelude.{Bool, Option, Some, None, if◌then◌else◌}

infixl 10 ◌>>=◌
abbrev pub ◌>>=◌ : {A B : Type 0} → Option A → (A → Option B) → Option B
None >>= next = None
(Some a) >>= next = next a

-- the value where the test holds, and undefined where it does not
abbrev pub only_if : {A : Type 0} → Bool → A → Option A
only_if test a = if test then Some a else None
