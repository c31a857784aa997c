-- Device: keys that stand for heads with parts: a number for each, by its place.
use Rattle.std.specs.Prelude.{◌≡◌, ℕ, ◌+◌, ◌<◌, ◌≤◌, List, [], ◌∷◌, Option, Some, None, length, get_or, slice_get, MatchOption}
use Rattle.type_things.specs.declared.web.Head.{Head}
use Rattle.type_things.specs.declared.web.Label.{Label}
use Rattle.type_partition.specs.declared.refining.Key.{Key}
use Rattle.type_partition.specs.declared.refining.Key.TheVariants.{Start, Part, Alone}
use Rattle.type_things.specs.Things.{Thing, read, head_of, inside_of}
use Rattle.type_things.specs.Webs.{AllBelow}

-- no key stands twice
abbrev pub Distinct : {K : Type 0} → List K → Type 0
Distinct ks = (i j : ℕ) (k : _) → slice_get ks i ≡ Some k → slice_get ks j ≡ Some k → i ≡ j

-- keys keep their places
abbrev pub Grown : {K : Type 0} → List K → List K → Type 0
Grown old new = (i : ℕ) (k : _) → slice_get old i ≡ Some k → slice_get new i ≡ Some k

-- the key at n stands for a head with parts
abbrev pub Chain : List Key → Head → List (Label × ℕ) → ℕ → Type 0
Chain ks h [] n = slice_get ks n ≡ Some (Start h)
Chain ks h (p ∷ ps) n = (m : ℕ) × Chain ks h ps m × (slice_get ks n ≡ Some (Part m p.0 p.1))

-- the numbers of a list, and for what it does not have, numbers that are no u32
abbrev pub num_at : List ℕ → ℕ → ℕ
num_at numbers x = get_or numbers x (4294967296 + x)

abbrev pub SignedAs : List Key → (ℕ → ℕ) → Option Head → ℕ → Option (List (Label × ℕ)) → ℕ → Type 0
SignedAs ks num h x None n = slice_get ks n ≡ Some (Alone x)
SignedAs ks num h x (Some ps) n = (k : Head) × (h ≡ Some k) × Chain ks k (read num ps) n

-- the key at n stands for a thing, whose parts have numbers
abbrev pub Signed : List (Thing Head Label) → List Key → (ℕ → ℕ) → ℕ → ℕ → Type 0
Signed ts ks num x n = SignedAs ks num (head_of ts x) x (inside_of ts x) n

abbrev pub InsideBelow : List (Thing Head Label) → ℕ → ℕ → Type 0
InsideBelow ts x k = MatchOption (inside_of ts x) (Unit {0}) (AllBelow k)

-- a type has the number of its key behind those of the aggregates
pub record IsNumbered (ts : List (Thing Head Label)) (m : ℕ) (ks : List Key) (numbers : List ℕ) (x : ℕ) : Type 0 where
  pub key : ℕ
  pub number : num_at numbers x ≡ m + key
  pub signed : Signed ts ks (num_at numbers) x key
  pub below : InsideBelow ts x (length numbers)

-- the types up to k have numbers behind the classes of the aggregates
pub record AreNumbered (ts : List (Thing Head Label)) (m : ℕ) (ks : List Key) (classes numbers : List ℕ) (k : ℕ) : Type 0 where
  pub distinct : Distinct ks
  pub count : length numbers ≡ k
  pub kept : (x : ℕ) → x < m → num_at numbers x ≡ num_at classes x
  pub types : (x : ℕ) → m ≤ x → x < k → IsNumbered ts m ks numbers x

-- the class of an aggregate is the place of its key's number among those that came
pub record IsRanked (ts : List (Thing Head Label)) (ks : List Key) (num : ℕ → ℕ) (seen : List ℕ) (next : List ℕ) (x : ℕ) : Type 0 where
  pub key : ℕ
  pub signed : Signed ts ks num x key
  pub rank : slice_get seen (num_at next x) ≡ Some key

pub record AreRanked (ts : List (Thing Head Label)) (ks : List Key) (num : ℕ → ℕ) (seen : List ℕ) (next : List ℕ) (k : ℕ) : Type 0 where
  pub distinct : Distinct ks
  pub once : Distinct seen
  pub count : length next ≡ k
  pub few : length seen ≤ k
  pub ranks : (x : ℕ) → x < k → IsRanked ts ks num seen next x
