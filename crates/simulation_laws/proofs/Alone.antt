-- Device: one side of two memories changes alone, and what a change of one object leaves as it was.
use Rattle.std.proofs.Common.{◌≡◌, ℕ, ◌+◌, ◌≤◌, Bool, true, false, List, length, Option, Some, None, ℤ, refl, sym, ap, ◌∙◌, subst}
use Rattle.cil_base.specs.declared.kinds.Abi.{Abi}
use Rattle.byte_mem.specs.declared.pointers.ObjName.{ObjName}
use Rattle.byte_mem.specs.declared.pointers.Pointer.{Pointer}
use Rattle.byte_mem.specs.declared.values.Byte.{Byte}
use Rattle.byte_mem.specs.declared.values.Scalar.{Scalar}
use Rattle.byte_mem.specs.declared.values.Value.{Value}
use Rattle.byte_mem.specs.declared.values.Value.TheVariants.{Int, Ptr, Unknown, Part}
use Rattle.byte_mem.specs.Name.{same_name}
use Rattle.byte_mem.specs.Scalar.{scalar_size, bytes_of}
use Rattle.byte_mem.specs.Object.{Held, inside, aligned, write_at, store_held, store_part}
use Rattle.byte_mem.specs.Memory.{Memory, with_held, changed}
use Rattle.byte_mem.specs.Below.{Names, BelowValue, Lift, BelowHeld, BelowMemory}
use Rattle.byte_mem.proofs.NameLemmas.{name_same}
use Rattle.byte_mem.proofs.BelowLemmas.{length_bytes}
use Rattle.byte_mem.proofs.AgainLemmas.{length_with, inside_room, aligned_room, write_some, changed_some, held_here, held_there}
use Rattle.execution.specs.Data.{Kind, OfVoid, OfScalar, OfAggregate, Datum, Single, Bytes, store_to, store_datum}
use Rattle.simulation_laws.specs.Changes.{ChangesAlone, itself, HasRoom, Moves, Sizes, ChangesMove}

first_alone : (f : Names) (m n : Memory) (x : ObjName) (o : Option Held) → Lift (BelowHeld f) o (n (f x)) → BelowMemory f m n → BelowMemory f (with_held m x o) n
first_alone f m n x o here r z = by (same_name x z) refl
  where
    by : (b : Bool) → same_name x z ≡ b → Lift (BelowHeld f) (with_held m x o z) (n (f z))
    by true e = subst (λ (w : ObjName). Lift (BelowHeld f) (with_held m x o w) (n (f w))) (name_same x z e) (subst (λ (h : Option Held). Lift (BelowHeld f) h (n (f x))) (sym (held_here m x o)) here)
    by false e = subst (λ (h : Option Held). Lift (BelowHeld f) h (n (f z))) (sym (held_there m x z o e)) (r z)

second_alone : (f : Names) (m n : Memory) (y : ObjName) (o : Option Held) → ((x : ObjName) → f x ≡ y → m x ≡ None) → BelowMemory f m n → BelowMemory f m (with_held n y o)
second_alone f m n y o none r z = by (same_name y (f z)) refl
  where
    by : (b : Bool) → same_name y (f z) ≡ b → Lift (BelowHeld f) (m z) (with_held n y o (f z))
    by true e = subst (λ (h : Option Held). Lift (BelowHeld f) h (with_held n y o (f z))) (sym (none z (sym (name_same y (f z) e)))) tt
    by false e = subst (λ (h : Option Held). Lift (BelowHeld f) (m z) h) (sym (held_there n y (f z) o e)) (r z)

pub changes_alone : (f : Names) → ChangesAlone f
changes_alone f = record { first = first_alone f; second = second_alone f }

-- a change under a name

some_none : {A : Type 0} (a : A) {X : Type 0} → Some a ≡ None → X
some_none a e = cc

none_stays : (s m : Memory) (x : ObjName) (g : Held → Option Held) → changed s x g ≡ Some m → (y : ObjName) → s y ≡ None → m y ≡ None
none_stays s m x g e y none = by (same_name x y) refl
  where
    by : (b : Bool) → same_name x y ≡ b → m y ≡ None
    by true i = some_none (changed_some s x g m e).0 (sym (changed_some s x g m e).2 ∙ (ap s (name_same x y i) ∙ none))
    by false i = ap (λ (w : Memory). w y) (sym (changed_some s x g m e).4) ∙ (held_there s x y (Some (changed_some s x g m e).1) i ∙ none)

same_stays : (s t n : Memory) (x : ObjName) (k : Held → Option Held) → changed t x k ≡ Some n → (h : Held) → s x ≡ Some h → (y : ObjName) → s y ≡ None → n y ≡ t y
same_stays s t n x k e h there y none = by (same_name x y) refl
  where
    by : (b : Bool) → same_name x y ≡ b → n y ≡ t y
    by true i = some_none h (sym there ∙ (ap s (name_same x y i) ∙ none))
    by false i = ap (λ (w : Memory). w y) (sym (changed_some t x k n e).4) ∙ held_there t x y (Some (changed_some t x k n e).1) i

room_stays : (t n : Memory) (x : ObjName) (k : Held → Option Held) → changed t x k ≡ Some n → Sizes k → (size : ℕ) (y : ObjName) → HasRoom size (t y) → HasRoom size (n y)
room_stays t n x k e sizes size y has = by (same_name x y) refl
  where
    here : (h j : Held) → k h ≡ Some j → HasRoom size (Some h) → HasRoom size (Some j)
    here h j i r = ((sizes h j i).0 ∙ r.0, (sizes h j i).1 ∙ r.1, (sizes h j i).2 ∙ r.2)

    by : (b : Bool) → same_name x y ≡ b → HasRoom size (n y)
    by true i =
        let c = changed_some t x k n e in
        subst (λ (w : Memory). HasRoom size (w y)) c.4
        (subst (λ (w : ObjName). HasRoom size (with_held t x (Some c.1) w)) (name_same x y i)
        (subst (HasRoom size) (sym (held_here t x (Some c.1))) (here c.0 c.1 c.3 (subst (HasRoom size) c.2 (subst (λ (w : ObjName). HasRoom size (t w)) (sym (name_same x y i)) has)))))
    by false i = subst (HasRoom size) (sym (ap (λ (w : Memory). w y) (sym (changed_some t x k n e).4) ∙ held_there t x y (Some (changed_some t x k n e).1) i)) has

pub changed_lift : (s t : Memory) (x : ObjName) (g k : Held → Option Held) → Lift (BelowMemory itself) (changed s x g) (changed t x k) → Sizes k → Lift (Moves s t) (changed s x g) (changed t x k)
changed_lift s t x g k r sizes = by (changed s x g) (changed t x k) refl refl r
  where
    by : (o u : Option Memory) → changed s x g ≡ o → changed t x k ≡ u → Lift (BelowMemory itself) o u → Lift (Moves s t) o u
    by None u e f r = tt
    by (Some m) None e f r = absurd r
    by (Some m) (Some n) e f r = record { below = r; none = none_stays s m x g e; same = same_stays s t n x k f (changed_some s x g m e).0 (changed_some s x g m e).2; room = room_stays t n x k f sizes }

-- what a write leaves

write_sizes : (h : Held) (place : Option ℕ) (new : List Byte) (j : Held) → write_at h place new ≡ Some j → ((i : ℕ) → place ≡ Some i → i + length new ≤ length h.bytes) → (j.function ≡ h.function) × (j.read_only ≡ h.read_only) × (length j.bytes ≡ length h.bytes)
write_sizes h place new j e room =
    let w = write_some h place new j e in
    subst (λ (x : Held). (x.function ≡ h.function) × (x.read_only ≡ h.read_only) × (length x.bytes ≡ length h.bytes)) w.2 (refl, refl, length_with w.0 new h.bytes (room w.0 w.1))

-- a store that is undefined on the second side alone is none
none_there : (s t : Memory) (o : Option Memory) → Lift (BelowMemory itself) o None → Lift (Moves s t) o None
none_there s t None r = tt
none_there s t (Some m) r = absurd r

pub part_sizes : (offset : ℤ) (new : List Byte) → Sizes (λ h. store_part h offset new)
part_sizes offset new h j e = write_sizes h (inside offset (length new) (length h.bytes)) new j e (λ i f. inside_room offset (length new) (length h.bytes) i f)

scalar_sizes : (abi : Abi) (offset : ℤ) (s : Scalar) (v : Value) → Sizes (λ h. store_held abi h offset s v)
scalar_sizes abi offset s v h j e =
    write_sizes h (aligned offset (scalar_size abi s) (length h.bytes)) (bytes_of abi s v) j e
    (λ i f. subst (λ (n : ℕ). i + n ≤ length h.bytes) (sym (length_bytes abi s v)) (aligned_room offset (scalar_size abi s) (length h.bytes) i f))

stored_to : (abi : Abi) (s t : Memory) (kind : Kind) (p : Pointer) (d e : Datum) → Lift (BelowMemory itself) (store_to abi s kind p d) (store_to abi t kind p e) → Lift (Moves s t) (store_to abi s kind p d) (store_to abi t kind p e)
stored_to abi s t OfVoid p d e r = tt
stored_to abi s t (OfScalar k) p (Single v) (Single w) r = changed_lift s t p.name (λ h. store_held abi h p.offset k v) (λ h. store_held abi h p.offset k w) r (scalar_sizes abi p.offset k w)
stored_to abi s t (OfScalar k) p (Single v) (Bytes cs) r = none_there s t (store_to abi s (OfScalar k) p (Single v)) r
stored_to abi s t (OfScalar k) p (Bytes bs) e r = tt
stored_to abi s t (OfAggregate size) p (Single v) e r = tt
stored_to abi s t (OfAggregate size) p (Bytes bs) (Single w) r = none_there s t (store_to abi s (OfAggregate size) p (Bytes bs)) r
stored_to abi s t (OfAggregate size) p (Bytes bs) (Bytes cs) r = changed_lift s t p.name (λ h. store_part h p.offset bs) (λ h. store_part h p.offset cs) r (part_sizes p.offset cs)

pub stored_moves : (abi : Abi) (s t : Memory) (kind : Kind) (v w : Value) (d e : Datum) → BelowValue itself v w → Lift (BelowMemory itself) (store_datum abi s kind v d) (store_datum abi t kind w e) → Lift (Moves s t) (store_datum abi s kind v d) (store_datum abi t kind w e)
stored_moves abi s t kind (Int n) w d e b r = tt
stored_moves abi s t kind Unknown w d e b r = tt
stored_moves abi s t kind (Part p k) w d e b r = tt
stored_moves abi s t kind (Ptr p) w d e b r =
    subst (λ (x : Value). Lift (Moves s t) (store_datum abi s kind (Ptr p) d) (store_datum abi t kind x e)) (sym b)
    (stored_to abi s t kind p d e (subst (λ (x : Value). Lift (BelowMemory itself) (store_datum abi s kind (Ptr p) d) (store_datum abi t kind x e)) b r))

pub changes_move : ChangesMove
changes_move = record { changed = changed_lift; stored = stored_moves }
