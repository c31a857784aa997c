-- Definition: what the layers of a store stand for: lists with a place for each number, and activations with such a list each.
use Rattle.std.specs.Prelude.{◌≡◌, ◌≢◌, ℕ, zero, suc, ◌<◌, ◌/◌, ◌%◌, ◌&&◌, nat_eq, if◌then◌else◌, List, [], ◌∷◌, length, Option, Some, None, IsSome, Result, Ok, Err, slice_index_or}
use Rattle.byte_mem.specs.declared.frames.Frame.{Frame}
use Rattle.byte_mem.specs.Object.{Held}

-- what is live at a place of a list; nothing is past its end
abbrev pub slot : List (Option Held) → ℕ → Option Held
slot slots i = slice_index_or slots i None

-- the new list has that at the place, and all else is as before
abbrev pub IsPut : List (Option Held) → List (Option Held) → ℕ → Option Held → Type 0
IsPut old new i o = (k : ℕ) → slot new k ≡ (if nat_eq i k then o else slot old k)

-- None: nothing is put, and nothing has changed
abbrev pub SlotChanges : Option (Unit {0}) → List (Option Held) → List (Option Held) → ℕ → Option Held → Type 0
SlotChanges None old new i o = (o ≡ None) × (new ≡ old)
SlotChanges (Some u) old new i o = IsSome o × IsPut old new i o

-- Err: nothing has changed
abbrev pub SlotPut : {E : Type 0} → Result (Unit {0}) E → List (Option Held) → List (Option Held) → ℕ → Option Held → Type 0
SlotPut (Ok u) old new i o = IsPut old new i o
SlotPut (Err e) old new i o = (k : ℕ) → slot new k ≡ slot old k

-- the objects of 64 numbers, from a multiple of 64 on
abbrev pub page_at : List (List (Option Held)) → ℕ → List (Option Held)
page_at pages k = slice_index_or pages k []

abbrev pub paged : List (List (Option Held)) → ℕ → Option Held
paged pages i = slot (page_at pages (i / 64)) (i % 64)

abbrev pub IsPagedPut : List (List (Option Held)) → List (List (Option Held)) → ℕ → Option Held → Type 0
IsPagedPut old new i o = (k : ℕ) → paged new k ≡ (if nat_eq i k then o else paged old k)

abbrev pub PagedChanges : Option (Unit {0}) → List (List (Option Held)) → List (List (Option Held)) → ℕ → Option Held → Type 0
PagedChanges None old new i o = (o ≡ None) × (new ≡ old)
PagedChanges (Some u) old new i o = IsSome o × IsPagedPut old new i o

abbrev pub PagedPut : {E : Type 0} → Result (Unit {0}) E → List (List (Option Held)) → List (List (Option Held)) → ℕ → Option Held → Type 0
PagedPut (Ok u) old new i o = IsPagedPut old new i o
PagedPut (Err e) old new i o = (k : ℕ) → paged new k ≡ paged old k

-- the objects of an activation
abbrev pub frame_slots : List Frame → ℕ → List (List (Option Held))
frame_slots [] act = []
frame_slots (f ∷ frames) act = if nat_eq f.activation act then f.slots else frame_slots frames act

abbrev pub number_at : List Frame → ℕ → ℕ
number_at [] k = 0
number_at (f ∷ frames) zero = f.activation
number_at (f ∷ frames) (suc k) = number_at frames k

abbrev pub slots_at : List Frame → ℕ → List (List (Option Held))
slots_at [] k = []
slots_at (f ∷ frames) zero = f.slots
slots_at (f ∷ frames) (suc k) = slots_at frames k

-- the activations stand in rising order
abbrev pub IsRising : List Frame → Type 0
IsRising frames = (i j : ℕ) → i < j → j < length frames → number_at frames i < number_at frames j

abbrev pub local : List Frame → ℕ → ℕ → Option Held
local frames act i = paged (frame_slots frames act) i

abbrev pub IsLocalPut : List Frame → List Frame → ℕ → ℕ → Option Held → Type 0
IsLocalPut old new act i o = (a k : ℕ) → local new a k ≡ (if nat_eq act a && nat_eq i k then o else local old a k)

abbrev pub LocalChanges : Option (Unit {0}) → List Frame → List Frame → ℕ → ℕ → Option Held → Type 0
LocalChanges None old new act i o = (o ≡ None) × (new ≡ old)
LocalChanges (Some u) old new act i o = IsSome o × IsLocalPut old new act i o

abbrev pub LocalPut : {E : Type 0} → Result (Unit {0}) E → List Frame → List Frame → ℕ → ℕ → Option Held → Type 0
LocalPut (Ok u) old new act i o = IsLocalPut old new act i o
LocalPut (Err e) old new act i o = (a k : ℕ) → local new a k ≡ local old a k

-- the frame at the place is that of the activation
abbrev pub IsFrame : List Frame → ℕ → ℕ → Type 0
IsFrame frames act k = (k < length frames) × (number_at frames k ≡ act)

-- no frame is that of the activation
abbrev pub IsAbsent : List Frame → ℕ → Type 0
IsAbsent frames act = (k : ℕ) → k < length frames → number_at frames k ≢ act
