-- Device: numbers while they come: which may, and which wait for which.
use Rattle.std.specs.Prelude.{◌≡◌, ◌⊎◌, ℕ, zero, suc, ◌<◌, ◌≤◌, Bool, true, false, List, [], ◌∷◌, ◌++◌, Some, MatchOption, length, get_or, take, slice_get, slice_set}
use Rattle.type_order.specs.declared.coming.Wait.{Wait}
use Rattle.type_order.specs.declared.coming.Coming.{Coming}
use Rattle.type_order.specs.Order.{IsIn, IsReady, IsNext, marked}

-- the first k of a list have come
abbrev pub IsUpTo : List ℕ → List Bool → ℕ → Type 0
IsUpTo needed done k = (j w : ℕ) → j < k → slice_get needed j ≡ Some w → slice_get done w ≡ Some true

-- what stands at a place of a list, if something does, has not come
abbrev pub IsOpenAt : List ℕ → List Bool → ℕ → Type 0
IsOpenAt needed done i = (w : ℕ) → slice_get needed i ≡ Some w → slice_get done w ≡ Some false

-- a number is added to a list
pub record IsAdded (old new : List ℕ) (x : ℕ) : Type 0 where
  pub there : IsIn new x
  pub kept : (y : ℕ) → IsIn old y → IsIn new y
  pub only : (y : ℕ) → IsIn new y → IsIn old y ⊎ (y ≡ x)

-- x is one of those that wait, from the one by a number on
abbrev pub IsChainedIn : List Wait → ℕ → ℕ → ℕ → Type 0
IsChainedIn all zero n x = ⊥
IsChainedIn all (suc k) n x = (i : ℕ) × (v : Wait) × (n ≡ suc i) × (slice_get all i ≡ Some v) × ((v.who ≡ x) ⊎ IsChainedIn all k v.next x)

abbrev pub IsChained : List Wait → ℕ → ℕ → Type 0
IsChained all n x = (k : ℕ) × IsChainedIn all k n x

-- a number is put before those that wait for another one
pub record Waits (who whom : ℕ) (old new : Coming) : Type 0 where
  pub within : whom < length old.firsts.items
  pub firsts : new.firsts.items ≡ slice_set old.firsts.items whom (suc (length old.all.items))
  pub all : new.all.items ≡ old.all.items ++ record { who = who; next = get_or old.firsts.items whom 0 } ∷ []
  pub ready : new.ready.keys ≡ old.ready.keys
  pub silent : new.silent.items ≡ old.silent.items

-- a number waits for nothing any more
pub record Frees (listed x : ℕ) (old new : Coming) : Type 0 where
  pub firsts : new.firsts.items ≡ old.firsts.items
  pub all : new.all.items ≡ old.all.items
  pub where_to : ((x < listed) × IsAdded old.ready.keys new.ready.keys x × (new.silent.items ≡ old.silent.items)) ⊎ ((listed ≤ x) × IsAdded old.silent.items new.silent.items x × (new.ready.keys ≡ old.ready.keys))

-- a number waits for the first of its list that has not come, or for nothing any more
pub record Attempts (needed : List ℕ) (listed x : ℕ) (old new : Coming) : Type 0 where
  pub place : ℕ
  pub done : new.done ≡ old.done
  pub within : x < length old.seen.items
  pub seen : new.seen.items ≡ slice_set old.seen.items x place
  pub up : IsUpTo needed old.done.items (get_or old.seen.items x 0) → IsUpTo needed old.done.items place
  pub first : IsOpenAt needed old.done.items place
  pub put : MatchOption (slice_get needed place) (Frees listed x old new) (λ w. Waits x w old new)

-- a number comes
pub record Marks (x : ℕ) (old new : Coming) : Type 0 where
  pub done : new.done.items ≡ slice_set old.done.items x true
  pub seen : new.seen ≡ old.seen
  pub firsts : new.firsts ≡ old.firsts
  pub all : new.all ≡ old.all
  pub ready : new.ready ≡ old.ready
  pub silent : new.silent ≡ old.silent

-- nothing is left that waits for nothing
pub record IsDrained (old new : Coming) : Type 0 where
  pub ready : old.ready.keys ≡ []
  pub silent : old.silent.items ≡ []
  pub done : new.done ≡ old.done

-- one that waits for nothing is taken out: one that is not listed, or the least
pub record Pops (x : ℕ) (old new : Coming) : Type 0 where
  pub done : new.done ≡ old.done
  pub seen : new.seen ≡ old.seen
  pub firsts : new.firsts ≡ old.firsts
  pub all : new.all ≡ old.all
  pub which : ((old.silent.items ≡ new.silent.items ++ x ∷ []) × (new.ready.keys ≡ old.ready.keys)) ⊎ ((new.silent.items ≡ []) × (old.silent.items ≡ []) × (old.ready.keys ≡ x ∷ new.ready.keys) × ((y : ℕ) → IsIn new.ready.keys y → x < y))

module _ (needs : ℕ → List ℕ) (listed : ℕ) where
  -- each number that has not come is pending, waits for nothing, or stands among those that wait for one that has not come
  pub record IsComing (P : ℕ → Type 0) (c : Coming) : Type 0 where
    pub seen : (x : ℕ) → IsUpTo (needs x) c.done.items (get_or c.seen.items x 0)
    pub ready : (x : ℕ) → IsIn c.ready.keys x → (x < listed) × IsReady needs c.done.items x
    pub silent : (x : ℕ) → IsIn c.silent.items x → (listed ≤ x) × IsReady needs c.done.items x
    pub each : (x : ℕ) → slice_get c.done.items x ≡ Some false → P x ⊎ (IsIn c.ready.keys x ⊎ (IsIn c.silent.items x ⊎ ((w : ℕ) × IsIn (needs x) w × (slice_get c.done.items w ≡ Some false) × IsChained c.all.items (get_or c.firsts.items w 0) x)))

  module _ (start : List Bool) (order : List ℕ) where
    -- x is taken out
    pub record IsPopped (x : ℕ) (c : Coming) : Type 0 where
      pub coming : IsComing (λ y. y ≡ x) c
      pub done : c.done.items ≡ marked start order
      pub each : (k y : ℕ) → slice_get order k ≡ Some y → IsNext needs listed (marked start (take k order)) y
      pub ready : IsReady needs c.done.items x
      pub least : (listed ≤ x) ⊎ ((x < listed) × (c.silent.items ≡ []) × ((y : ℕ) → IsIn c.ready.keys y → x < y))

    -- what has come by an order
    pub record IsRun (c : Coming) : Type 0 where
      pub coming : IsComing (λ y. ⊥) c
      pub done : c.done.items ≡ marked start order
      pub each : (k y : ℕ) → slice_get order k ≡ Some y → IsNext needs listed (marked start (take k order)) y
