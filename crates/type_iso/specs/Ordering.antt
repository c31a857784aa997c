-- Device: what types have by value, which things are settled from the start, and what each other one waits for, while an order is made.
use Rattle.std.specs.Prelude.{◌≡◌, ◌≢◌, ◌⊎◌, ℕ, ◌<◌, ◌≤◌, Bool, true, false, List, [], ◌∷◌, ◌++◌, Option, Some, None, MatchBool, length, slice_get, take}
use Rattle.type_things.specs.declared.web.Head.{Head}
use Rattle.type_things.specs.declared.web.Head.TheVariants.{Void, Int, Ptr, Array, Func, Agg, Tagged}
use Rattle.type_things.specs.declared.web.Label.{Label}
use Rattle.type_things.specs.Heads.{is_enum, parts_of}
use Rattle.type_things.specs.Things.{Thing, head_of}
use Rattle.type_links.specs.Links.{is_enum_at}
use Rattle.type_order.specs.Order.{IsIn, marked}
use Rattle.type_iso.specs.Standing.{at_own}
use Rattle.type_iso.specs.Order.{StandsNext}

-- an array, or a struct, union or enum: its parts stand in it by value
abbrev pub has_values : Head → Bool
has_values (Array bound) = true
has_values (Tagged kind stem) = true
has_values h = false

-- all parts are settled
abbrev pub AreSettled : List Bool → List (Label × ℕ) → Type 0
AreSettled settled ps = (i y : ℕ) (l : Label) → slice_get ps i ≡ Some (l, y) → slice_get settled y ≡ Some true

-- the first k parts are settled
abbrev pub AreSettledTo : List Bool → List (Label × ℕ) → ℕ → Type 0
AreSettledTo settled ps k = (i y : ℕ) (l : Label) → i < k → slice_get ps i ≡ Some (l, y) → slice_get settled y ≡ Some true

module _ (ts : List (Thing Head Label)) where
  -- n is the only part of x
  abbrev pub IsOnlyPart : ℕ → ℕ → Type 0
  IsOnlyPart x n = (l : Label) × (parts_of ts x ≡ (l, n) ∷ [])

  -- what a type has by value, by a table
  abbrev pub IsValueBy : List (Option ℕ) → ℕ → Option ℕ → Head → Type 0
  IsValueBy vs x o Void = o ≡ None
  IsValueBy vs x o (Int kind) = o ≡ None
  IsValueBy vs x o Ptr = o ≡ None
  IsValueBy vs x o (Array bound) = (n : ℕ) × IsOnlyPart x n × (slice_get vs n ≡ Some o)
  IsValueBy vs x o (Func proto variadic) = o ≡ None
  IsValueBy vs x o Agg = (n : ℕ) × IsOnlyPart x n × (o ≡ Some n)
  IsValueBy vs x o (Tagged kind stem) = o ≡ None

  abbrev pub IsValue : List (Option ℕ) → ℕ → Option ℕ → Type 0
  IsValue vs x o = (h : Head) × (head_of ts x ≡ Some h) × IsValueBy vs x o h

  -- what the first k things have by value
  pub record AreValues (vs : List (Option ℕ)) (k : ℕ) : Type 0 where
    pub count : length vs ≡ k
    pub each : (x : ℕ) (o : Option ℕ) → slice_get vs x ≡ Some o → IsValue (take x vs) x o

  module _ (m : ℕ) where
    abbrev pub IsDerivedSettled : List Bool → ℕ → Bool → Type 0
    IsDerivedSettled settled x b = (m ≤ x) × (b ≡ true → AreSettled settled (parts_of ts x))

    abbrev pub IsArraySettled : List (Option ℕ) → List Bool → ℕ → Bool → Type 0
    IsArraySettled vs settled x b = IsDerivedSettled settled x b × (b ≡ true → (n : ℕ) × IsOnlyPart x n × (slice_get vs n ≡ Some None))

    -- whether a thing is settled from the start
    abbrev pub IsSettledBy : List ℕ → List (Option ℕ) → List Bool → ℕ → Bool → Head → Type 0
    IsSettledBy st vs settled x b Void = (m ≤ x) × (b ≡ true)
    IsSettledBy st vs settled x b (Int kind) = (m ≤ x) × (b ≡ true)
    IsSettledBy st vs settled x b Ptr = IsDerivedSettled settled x b
    IsSettledBy st vs settled x b (Array bound) = IsArraySettled vs settled x b
    IsSettledBy st vs settled x b (Func proto variadic) = IsDerivedSettled settled x b
    IsSettledBy st vs settled x b Agg = (m ≤ x) × (b ≡ true)
    IsSettledBy st vs settled x b (Tagged kind stem) = (x < length st) × MatchBool b ((at_own st x ≢ x) ⊎ (is_enum (Tagged kind stem) ≡ true)) ((at_own st x ≡ x) × (is_enum (Tagged kind stem) ≡ false))

    abbrev pub IsSettled : List ℕ → List (Option ℕ) → List Bool → ℕ → Bool → Type 0
    IsSettled st vs settled x b = (h : Head) × (head_of ts x ≡ Some h) × IsSettledBy st vs settled x b h

    -- which of the first k things are settled
    pub record AreSettledUpTo (st : List ℕ) (vs : List (Option ℕ)) (settled : List Bool) (k : ℕ) : Type 0 where
      pub count : length settled ≡ k
      pub each : (x : ℕ) (b : Bool) → slice_get settled x ≡ Some b → IsSettled st vs (take x settled) x b

module _ (st : List ℕ) (vs : List (Option ℕ)) where
  -- the aggregate that stands for what a part has by value
  abbrev pub IsStanding : ℕ → ℕ → Type 0
  IsStanding y w = (a : ℕ) × (slice_get vs y ≡ Some (Some a)) × (w ≡ at_own st a)

  -- what a part has by value is among these
  pub record HasValueIn (y : ℕ) (ns : List ℕ) : Type 0 where
    pub read : (o : Option ℕ) × (slice_get vs y ≡ Some o)
    pub value : (a : ℕ) → slice_get vs y ≡ Some (Some a) → (a < length st) × IsIn ns (at_own st a)

  -- what a part has by value is put behind the others
  pub record AddsValue (y : ℕ) (old new : List ℕ) : Type 0 where
    pub kept : (w : ℕ) → IsIn old w → IsIn new w
    pub added : HasValueIn y new
    pub only : (w : ℕ) → IsIn new w → IsIn old w ⊎ IsStanding y w

  module _ (m : ℕ) (by_value : Bool) (x : ℕ) where
    -- what x waits for by a part is among these
    pub record HasNeeds (y : ℕ) (ns : List ℕ) : Type 0 where
      pub above : m ≤ y
      pub below : m ≤ x → y < x
      pub itself : IsIn ns y
      pub value : by_value ≡ true → HasValueIn y ns

    -- what x waits for by a part is put behind the others
    pub record AddsNeeds (y : ℕ) (old new : List ℕ) : Type 0 where
      pub kept : (w : ℕ) → IsIn old w → IsIn new w
      pub added : HasNeeds y new
      pub only : (w : ℕ) → IsIn new w → IsIn old w ⊎ ((w ≡ y) ⊎ ((by_value ≡ true) × IsStanding y w))

    -- what x waits for by the first k of its parts
    pub record AreNeedsUpTo (ps : List (Label × ℕ)) (ns : List ℕ) (k : ℕ) : Type 0 where
      pub all : (i y : ℕ) (l : Label) → i < k → slice_get ps i ≡ Some (l, y) → HasNeeds y ns
      pub only : (w : ℕ) → IsIn ns w → (i y : ℕ) × (l : Label) × (slice_get ps i ≡ Some (l, y)) × ((w ≡ y) ⊎ ((by_value ≡ true) × IsStanding y w))

module _ (m : ℕ) (st : List ℕ) (vs : List (Option ℕ)) (ts : List (Thing Head Label)) where
  -- what a thing waits for
  abbrev pub AreNeedsOf : ℕ → List ℕ → Type 0
  AreNeedsOf x ns = (h : Head) × (head_of ts x ≡ Some h) × AreNeedsUpTo st vs m (has_values h) x (parts_of ts x) ns (length (parts_of ts x))

  -- what each of the first k things waits for that is not settled
  abbrev pub AreNeeds : List Bool → (ℕ → List ℕ) → ℕ → Type 0
  AreNeeds settled needs k = (x : ℕ) → x < k → slice_get settled x ≡ Some false → AreNeedsOf x (needs x)

-- what stands for a class stands for its own
abbrev pub AreIdempotent : ℕ → List ℕ → Type 0
AreIdempotent m st = (length st ≡ m) × ((a : ℕ) → a < m → (at_own st a < m) × (at_own st (at_own st a) ≡ at_own st a))

-- x is put behind an order if it is an aggregate
abbrev pub Lists : ℕ → ℕ → List ℕ → List ℕ → Type 0
Lists m x old new = ((x < m) × (new ≡ old ++ x ∷ [])) ⊎ ((m ≤ x) × (new ≡ old))

abbrev pub IsOwnEnum : List (Thing Head Label) → List ℕ → ℕ → Type 0
IsOwnEnum ts st a = (at_own st a ≡ a) × (is_enum_at ts a ≡ true)

-- an enum that stands for its class is put behind an order
abbrev pub ListsEnum : List (Thing Head Label) → List ℕ → ℕ → List ℕ → List ℕ → Type 0
ListsEnum ts st a old new = (IsOwnEnum ts st a × (new ≡ old ++ a ∷ [])) ⊎ ((¬ (IsOwnEnum ts st a)) × (new ≡ old))

module _ (ts : List (Thing Head Label)) (m : ℕ) (st : List ℕ) where
  -- an aggregate stands for its class
  abbrev pub IsOwn : ℕ → Type 0
  IsOwn b = at_own st b ≡ b

  -- a class is among those of an order
  abbrev pub IsListed : List ℕ → ℕ → Type 0
  IsListed order a = IsIn order (at_own st a)

  -- an order of aggregates that stand for their classes
  abbrev pub IsOrder : List ℕ → Type 0
  IsOrder order = (k s : ℕ) → slice_get order k ≡ Some s → StandsNext ts m IsOwn (IsListed (take k order)) s

  -- the enums of the first k things that stand for their classes
  pub record AreEnums (order : List ℕ) (k : ℕ) : Type 0 where
    pub order_so_far : IsOrder order
    pub all : (e : ℕ) → e < k → IsOwnEnum ts st e → IsIn order e
    pub only : (e : ℕ) → IsIn order e → (e < k) × IsOwnEnum ts st e

  -- what was found of all things
  pub record IsReckoned (vs : List (Option ℕ)) (settled : List Bool) (needs : ℕ → List ℕ) : Type 0 where
    pub within : m ≤ length ts
    pub stand : AreIdempotent m st
    pub values : AreValues ts vs (length ts)
    pub settles : AreSettledUpTo ts m st vs settled (length ts)
    pub waits : AreNeeds m st vs ts settled needs (length ts)

  -- the aggregates among the first k of what comes stand in order, behind the enums
  pub record AreListed (settled : List Bool) (come order : List ℕ) (k : ℕ) : Type 0 where
    pub order_so_far : IsOrder order
    pub enums : (e : ℕ) → e < m → IsOwnEnum ts st e → IsIn order e
    pub listed : (a : ℕ) → IsIn order a → slice_get (marked settled (take k come)) a ≡ Some true
    pub come_are : (a : ℕ) → a < m → slice_get (marked settled (take k come)) a ≡ Some true → (slice_get settled a ≡ Some true) ⊎ IsIn order a

-- an order of classes by their numbers: each stands next where those with smaller numbers stand before
abbrev pub AreInOrder : List (Thing Head Label) → ℕ → List ℕ → List ℕ → Type 0
AreInOrder ts m all order = (k s : ℕ) → slice_get order k ≡ Some s → StandsNext ts m (IsIn order) (λ a. at_own all a < k) s
