-- Device: numbers by which isomorphic things are one, and the classes of what is joined and isomorphic.
use Rattle.std.specs.Prelude.{◌≡◌, ◌⊎◌, ℕ, ◌<◌, List, Some}
use Rattle.type_things.specs.Things.{Thing, HoldsPairs, read, head_of, inside_of, Isomorphic, AreAlike, Fits, Same}
use Rattle.type_joins.specs.Joined.{Within}

-- for each thing one of its number, which is the same for all of that number
pub record AreFirsts (i l : ℕ → ℕ) : Type 0 where
  pub same : (x : ℕ) → i (l x) ≡ i x
  pub one : (x y : ℕ) → i x ≡ i y → l x ≡ l y

pub record Covers (r l e : ℕ → ℕ) : Type 0 where
  pub roots : Within r e
  pub firsts : Within l e

module _ {H L : Type 0} (ts : List (Thing H L)) where
  -- two things are alike, with parts of the same numbers
  pub record Twins (i : ℕ → ℕ) (x y : ℕ) : Type 0 where
    pub heads : head_of ts x ≡ head_of ts y
    pub left : List (L × ℕ)
    pub right : List (L × ℕ)
    pub inside_left : inside_of ts x ≡ Some left
    pub inside_right : inside_of ts y ≡ Some right
    pub parts : read i left ≡ read i right

  -- the numbers of things are those of the classes of isomorphic ones
  pub record AreNumbers (i : ℕ → ℕ) : Type 0 where
    pub alike : (x y : ℕ) → i x ≡ i y → (x ≡ y) ⊎ Twins i x y
    pub coarse : (x y : ℕ) → Isomorphic ts x y → i x ≡ i y

  -- isomorphic things are joined up to the place k
  pub record IsGathering (r l g : ℕ → ℕ) (k : ℕ) : Type 0 where
    pub least : (x : ℕ) → g (g x) ≡ g x
    pub roots : (x : ℕ) → g (r x) ≡ g x
    pub firsts : (x : ℕ) → x < k → g (l x) ≡ g x
    pub forced : (e : ℕ → ℕ) → Covers r l e → Within g e
    pub alike : (e : ℕ → ℕ) → Covers r l e → (x y : ℕ) → g x ≡ g y → AreAlike ts e x y

  -- the classes of things, by a number for each
  pub record ArePartition (done : List (ℕ × ℕ)) (c : ℕ → ℕ) : Type 0 where
    pub same : (x y : ℕ) → c x ≡ c y → Same ts done x y
    pub found : (x y : ℕ) → Same ts done x y → c x ≡ c y
    pub fits : Fits ts c
    pub links : HoldsPairs c done
