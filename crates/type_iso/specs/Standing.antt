-- Device: which aggregate stands for a class of aggregates, and the numbers of classes.
use Rattle.std.specs.Prelude.{◌≡◌, ◌⊎◌, ◌↔◌, ℕ, ◌<◌, ◌≤◌, true, false, List, Some, Option, length, get_or, slice_get, slice_set}
use Rattle.type_things.specs.Things.{Thing, Joint, Same}
use Rattle.type_iso.specs.Classes.{has_parts, Represents}

abbrev pub at_own : List ℕ → ℕ → ℕ
at_own cs x = get_or cs x x

-- classes by their least members
abbrev pub AreLeast : List ℕ → Type 0
AreLeast cs = (x : ℕ) → x < length cs → (at_own cs x ≤ x) × (at_own cs (at_own cs x) ≡ at_own cs x)

module _ {H L : Type 0} (ts : List (Thing H L)) where
  -- of the members of a class up to k, s is the least one with parts, if one has them, or else the least of all
  pub record StandsFor (cs : List ℕ) (k low s : ℕ) : Type 0 where
    pub member : at_own cs s ≡ low
    pub full : (y : ℕ) → y < k → at_own cs y ≡ low → has_parts ts y ≡ true → (has_parts ts s ≡ true) × (s ≤ y)
    pub empty : has_parts ts s ≡ false → s ≡ low
    pub early : (s ≡ low) ⊎ (s < k)

  -- a thing with parts stands for its class where none with parts stood for it
  pub record LetsStand (low x : ℕ) (old new : List ℕ) : Type 0 where
    pub within : low < length old
    pub which : ((new ≡ old) × ((has_parts ts (at_own old low) ≡ true) ⊎ (has_parts ts x ≡ false))) ⊎ ((new ≡ slice_set old low x) × (has_parts ts (at_own old low) ≡ false) × (has_parts ts x ≡ true))

  -- for each low, by its least member, the one of the first k things that stands for it
  pub record StandUpTo (cs st : List ℕ) (k : ℕ) : Type 0 where
    pub count : length st ≡ length cs
    pub each : (low : ℕ) → low < length cs → at_own cs low ≡ low → StandsFor cs k low (at_own st low)

  -- for each of the first k things the one that stands for its low, by what stands for the classes
  pub record AllUpTo (cs st all : List ℕ) (k : ℕ) : Type 0 where
    pub count : length all ≡ k
    pub within : (x : ℕ) → x < k → x < length cs
    pub through : (x : ℕ) → x < k → at_own all x ≡ at_own st (at_own cs x)

  -- for each of the first m things the one that stands for its low
  pub record AreStanding (cs : List ℕ) (m : ℕ) (all : List ℕ) : Type 0 where
    pub count : length all ≡ m
    pub within : (x : ℕ) → x < m → x < length cs
    pub each : (x : ℕ) → x < m → StandsFor cs m (at_own cs x) (at_own all x)
    pub same : (x y : ℕ) → x < m → y < m → at_own cs x ≡ at_own cs y → at_own all x ≡ at_own all y

-- numbers by places in an order
abbrev pub AreNumbersIn : List ℕ → List (Option ℕ) → Type 0
AreNumbersIn order numbers = (s n : ℕ) → slice_get numbers s ≡ Some (Some n) → slice_get order n ≡ Some s

-- the k-th of an order stands for its class
pub record IsStandingAt (order standing : List ℕ) (k s : ℕ) : Type 0 where
  pub there : slice_get order k ≡ Some s
  pub within : s < length standing
  pub own : at_own standing s ≡ s

-- the first k of an order, which stand for their classes, have their places as numbers
pub record AreNumbersOf (order standing : List ℕ) (numbers : List (Option ℕ)) (k : ℕ) : Type 0 where
  pub places : AreNumbersIn order numbers
  pub each : (i s : ℕ) → i < k → slice_get order i ≡ Some s → (slice_get numbers s ≡ Some (Some i)) × IsStandingAt order standing i s

-- the numbers of things in an order
pub record AreOrdered (order standing all : List ℕ) : Type 0 where
  pub count : length all ≡ length standing
  pub each : (x : ℕ) → x < length standing → slice_get order (at_own all x) ≡ Some (at_own standing x)
  pub same : (x y : ℕ) → x < length standing → y < length standing → at_own standing x ≡ at_own standing y → at_own all x ≡ at_own all y
  pub own : (k s : ℕ) → slice_get order k ≡ Some s → (s < length standing) × (at_own all s ≡ k)

-- the numbers of the first k things, by a table of numbers
pub record OrderedUpTo (order standing all : List ℕ) (numbers : List (Option ℕ)) (k : ℕ) : Type 0 where
  pub count : length all ≡ k
  pub each : (x : ℕ) → x < k → slice_get numbers (at_own standing x) ≡ Some (Some (at_own all x))

-- the first m things have the numbers of their classes by the places in an order of things that stand for them
pub record AreClassed {H L : Type 0} (ts : List (Thing H L)) (done : List (ℕ × ℕ)) (m : ℕ) (all order : List ℕ) : Type 0 where
  pub count : length all ≡ m
  pub joint : Joint ts done
  pub same : (x y : ℕ) → x < m → y < m → (at_own all x ≡ at_own all y) ↔ Same ts done x y
  pub own : (k s : ℕ) → slice_get order k ≡ Some s → (s < m) × (at_own all s ≡ k)
  pub placed : (x : ℕ) → x < m → (s : ℕ) × (slice_get order (at_own all x) ≡ Some s) × Represents ts done m s x
