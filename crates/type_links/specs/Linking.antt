-- Device: the links of one name while they are joined, of which those are left out that say nothing new.
use Rattle.std.specs.Prelude.{◌≡◌, ◌⊎◌, ℕ, ◌<◌, ◌≤◌, List, [], ◌∷◌, ◌++◌, Some, map, take, slice_get}
use Rattle.type_things.specs.declared.web.Head.{Head}
use Rattle.type_things.specs.declared.web.Label.{Label}
use Rattle.type_joins.specs.declared.joining.Joining.{Joining}
use Rattle.type_links.specs.declared.linking.Side.{Side}
use Rattle.type_links.specs.declared.linking.Distinct.{Distinct}
use Rattle.type_things.specs.Things.{Thing, HoldsPairs, Fits, Joint, Forced, IsClash}
use Rattle.type_joins.specs.Forests.{root, IsForest}
use Rattle.type_joins.specs.Joined.{IsJoining}
use Rattle.type_links.specs.Links.{link, links_with, links_behind}

abbrev pub Holds : (ℕ → ℕ) → ℕ × ℕ → Type 0
Holds e p = e p.0 ≡ e p.1

abbrev pub sides_of : List Distinct → List Side
sides_of ds = map (λ (d : Distinct). d.side) ds

-- a declaration says what another one says
abbrev pub Says : (ℕ → ℕ) → Side → Side → Type 0
Says r a b = (a.bare ≡ b.bare) × (r a.ty ≡ r b.ty)

-- one of those that count says it
pub record IsKnown (r : ℕ → ℕ) (ds : List Distinct) (b : Side) : Type 0 where
  pub place : ℕ
  pub one : Distinct
  pub there : slice_get ds place ≡ Some one
  pub says : Says r one.side b

-- a declaration is among those that count, or one of them says it
abbrev pub IsCounted : (ℕ → ℕ) → List Distinct → Distinct → List Distinct → Type 0
IsCounted r old d new = (IsKnown r old d.side × (new ≡ old)) ⊎ (new ≡ old ++ d ∷ [])

module _ (ts : List (Thing Head Label)) where
  -- one of those that count, which is not behind the declaration at i, says what it says
  pub record IsSaid (done : List (ℕ × ℕ)) (ds : List Distinct) (i : ℕ) (s : Side) : Type 0 where
    pub place : ℕ
    pub one : Distinct
    pub there : slice_get ds place ≡ Some one
    pub before : one.place ≤ i
    pub bare : one.side.bare ≡ s.bare
    pub same : Forced ts done one.side.ty s.ty

  -- the declarations of a name up to now, and those of them that count
  pub record IsGroup (done : List (ℕ × ℕ)) (sides : List Side) (ds : List Distinct) : Type 0 where
    pub said : (i : ℕ) (s : Side) → slice_get sides i ≡ Some s → IsSaid done ds i s
    pub own : (q : ℕ) (d : Distinct) → slice_get ds q ≡ Some d → slice_get sides d.place ≡ Some d.side
    pub sorted : (p q : ℕ) (c d : Distinct) → p < q → slice_get ds p ≡ Some c → slice_get ds q ≡ Some d → c.place < d.place
    pub fit : (p q : ℕ) (c d : Distinct) → slice_get ds p ≡ Some c → slice_get ds q ≡ Some d → (e : ℕ → ℕ) → HoldsPairs e done → Fits ts e → Holds e (link ts c.side d.side)

  -- the link with one of those that count fails, and those with the ones before it do not
  pub record FailsCounted (done : List (ℕ × ℕ)) (ds : List Distinct) (b : Side) (earlier : ℕ) (pair : ℕ × ℕ) : Type 0 where
    pub place : ℕ
    pub one : Distinct
    pub there : slice_get ds place ≡ Some one
    pub number : earlier ≡ one.place
    pub joint : Joint ts (done ++ links_with ts (sides_of (take place ds)) b)
    pub clash : IsClash ts ((done ++ links_with ts (sides_of (take place ds)) b) ++ link ts one.side b ∷ []) pair

  -- the link with one of the declarations before it fails, and those with the ones before that do not
  pub record FailsWith (done : List (ℕ × ℕ)) (sides : List Side) (b : Side) (earlier : ℕ) (pair : ℕ × ℕ) : Type 0 where
    pub a : Side
    pub there : slice_get sides earlier ≡ Some a
    pub joint : Joint ts (done ++ links_with ts (take earlier sides) b)
    pub clash : IsClash ts ((done ++ links_with ts (take earlier sides) b) ++ link ts a b ∷ []) pair

  -- a declaration is joined with those before it
  abbrev pub JoinsParty : List (ℕ × ℕ) → List Side → Side → (ℕ → ℕ) → List ℕ → List Distinct → Type 0
  JoinsParty done sides b r st ds = IsJoining ts (done ++ links_with ts sides b) r st [] × IsGroup (done ++ links_with ts sides b) (sides ++ b ∷ []) ds

  -- the links of a name up to one, which fails
  pub record FailsAmong (done : List (ℕ × ℕ)) (sides : List Side) (earlier later : ℕ) (pair : ℕ × ℕ) : Type 0 where
    pub a : Side
    pub b : Side
    pub first : slice_get sides earlier ≡ Some a
    pub second : slice_get sides later ≡ Some b
    pub order : earlier < later
    pub joint : Joint ts (done ++ (links_behind ts [] (take later sides) ++ links_with ts (take earlier sides) b))
    pub clash : IsClash ts ((done ++ (links_behind ts [] (take later sides) ++ links_with ts (take earlier sides) b)) ++ link ts a b ∷ []) pair

  -- the first declarations of a name are joined
  abbrev pub IsGroupUpTo : {P : Type 0} → (P → Side) → List (ℕ × ℕ) → List P → ℕ → (ℕ → ℕ) → List ℕ → List Distinct → Type 0
  IsGroupUpTo f done ps n r st ds = IsJoining ts (done ++ links_behind ts [] (take n (map f ps))) r st [] × IsGroup (done ++ links_behind ts [] (take n (map f ps))) (take n (map f ps)) ds

-- the same is joined: roots are only found on shorter ways
pub record IsKept (old new : Joining) : Type 0 where
  pub forest : IsForest new.forest.parents.items
  pub roots : (x : ℕ) → root new.forest.parents.items x ≡ root old.forest.parents.items x
  pub stand : new.stand ≡ old.stand
  pub work : new.work ≡ old.work
