-- Device: laws of the places of objects that share regions of bytes.
use Rattle.std.proofs.Common.{◌≡◌, ◌≢◌, ◌⊎◌, inl, inr, ℕ, zero, suc, ◌+◌, ◌<◌, ◌≤◌, Bool, true, false, not, cond, List, [], ◌∷◌, ◌++◌, length, get_or, set, take, drop, max, replicate, Option, Some, None, IsSome, refl, sym, ap, ◌∙◌, subst, arith, ℤ}
use Rattle.std.specs.Prelude.{nat_eq, nat_le, option_map}
use Rattle.std.proofs.lemmas.Bool.{cases_lt}
use Rattle.std.proofs.lemmas.Bool.Decides.{nat_tests}
use Rattle.std.proofs.lemmas.Option.{none-some}
use Rattle.std.proofs.lemmas.List.{get_or_default, get_or_past, get_or-set_same, get_or-set_other, set-get_or, length-set, length-replicate, length-take, get_or-take, drop_more}
use Rattle.std.proofs.Math.ListN.{get_or-map}
use Rattle.cil_base.specs.declared.kinds.Abi.{Abi}
use Rattle.byte_mem.specs.declared.values.Byte.{Byte}
use Rattle.byte_mem.specs.declared.values.Scalar.{Scalar}
use Rattle.byte_mem.specs.declared.objects.Place.{Place}
use Rattle.byte_mem.specs.declared.objects.Beginning.{Beginning}
use Rattle.byte_mem.specs.Steps.{◌>>=◌, only_if}
use Rattle.byte_mem.specs.declared.values.Value.{Value}
use Rattle.byte_mem.specs.declared.values.Byte.TheVariants.{Known}
use Rattle.byte_mem.specs.Scalar.{scalar_size, value_of, bytes_of}
use Rattle.byte_mem.specs.Object.{Held, part_at, with_part, aligned, inside, load_held, load_part, store_held, store_part, fill_part, write_at}
use Rattle.byte_mem.specs.Layers.{slot, IsPut, SlotChanges}
use Rattle.byte_mem.specs.Places.{region_at, place_at, held_of, held_in, placed, begun, IsWithin, IsIn, AllIn, IsClear, AllClear, IsApart, IsGrown, IsBegun, Keeps, IsBeside, IsSamePlace, PlaceChanges, RegionChanges, end_in, top_of, trimmed, given_up}
use Rattle.byte_mem.proofs.PartLemmas.{length_part, part_of_part, part_with, part_before, part_behind, part_grown, part_taken}
use Rattle.byte_mem.proofs.AgainLemmas.{length_with}
use Rattle.byte_mem.proofs.BelowLemmas.{length_bytes}

-- a load at a place of some bytes
pub load_is : (abi : Abi) (bs : List Byte) (p : Place) (offset : ℤ) (s : Scalar) (i : ℕ) → IsWithin bs p → i + scalar_size abi s ≤ p.size → Some i ≡ aligned offset (scalar_size abi s) p.size
    → Some (value_of abi s (part_at (p.start + i) (scalar_size abi s) bs)) ≡ load_held abi (held_of bs p) offset s
load_is abi bs p offset s i w h e =
    ap (λ xs. Some (value_of abi s xs)) (sym (part_of_part p.start p.size i (scalar_size abi s) bs h))
    ∙ ap (λ (o : Option ℕ). o >>= λ j. Some (value_of abi s (part_at j (scalar_size abi s) (part_at p.start p.size bs)))) (e ∙ ap (λ k. aligned offset (scalar_size abi s) k) (sym (length_part p.start p.size bs w)))

pub load_part_is : (bs : List Byte) (p : Place) (offset : ℤ) (n i : ℕ) → IsWithin bs p → i + n ≤ p.size → Some i ≡ inside offset n p.size → Some (part_at (p.start + i) n bs) ≡ load_part (held_of bs p) offset n
load_part_is bs p offset n i w h e =
    ap Some (sym (part_of_part p.start p.size i n bs h))
    ∙ ap (λ (o : Option ℕ). o >>= λ j. Some (part_at j n (part_at p.start p.size bs))) (e ∙ ap (λ k. inside offset n k) (sym (length_part p.start p.size bs w)))

-- the same, step by step
pub loaded : (abi : Abi) (bs : List Byte) (p : Place) (offset : ℤ) (s : Scalar) (n i at : ℕ) (v : Value) → IsWithin bs p → n ≡ scalar_size abi s → i + n ≤ p.size → Some i ≡ aligned offset n p.size → at ≡ p.start + i → v ≡ value_of abi s (part_at at (scalar_size abi s) bs)
    → Some v ≡ load_held abi (held_of bs p) offset s
loaded abi bs p offset s n i at v w e h a f d =
    ap Some (d ∙ ap (λ k. value_of abi s (part_at k (scalar_size abi s) bs)) f)
    ∙ load_is abi bs p offset s i w (omega arith) (subst (λ k. Some i ≡ aligned offset k p.size) e a)

pub loaded_part : (bs : List Byte) (p : Place) (offset : ℤ) (n i at : ℕ) (v : List Byte) → IsWithin bs p → i + n ≤ p.size → Some i ≡ inside offset n p.size → at ≡ p.start + i → v ≡ part_at at n bs → Some v ≡ load_part (held_of bs p) offset n
loaded_part bs p offset n i at v w h e f d = ap Some (d ∙ ap (λ k. part_at k n bs) f) ∙ load_part_is bs p offset n i w h e

written_held : (bs new bytes : List Byte) (p : Place) (place : Option ℕ) (i : ℕ) → IsWithin bs p → p.read_only ≡ false → Some i ≡ place → i + length bytes ≤ p.size → new ≡ with_part (p.start + i) bytes bs
    → write_at (held_of bs p) place bytes ≡ Some (held_of new p)
written_held bs new bytes p place i w r e h d =
    ap (λ o. write_at (held_of bs p) o bytes) (sym e)
    ∙ ap (λ t. only_if (not t) (the Held (record { function = p.is_function; read_only = p.read_only; bytes = with_part i bytes (part_at p.start p.size bs) }))) r
    ∙ ap (λ xs. Some (the Held (record { function = p.is_function; read_only = p.read_only; bytes = xs }))) (sym (part_with p.start p.size i bytes bs h w) ∙ ap (part_at p.start p.size) (sym d))
  where
    the : (A : Type 0) → A → A
    the A a = a

written_beside : (bs new bytes : List Byte) (p : Place) (i : ℕ) → IsWithin bs p → i + length bytes ≤ p.size → new ≡ with_part (p.start + i) bytes bs → IsBeside p bs new
written_beside bs new bytes p i w h d = (ap length d ∙ length_with (p.start + i) bytes bs (omega arith), by)
  where
    by : (s n : ℕ) → (s + n ≤ p.start) ⊎ (p.start + p.size ≤ s) → part_at s n new ≡ part_at s n bs
    by s n (inl q) = ap (part_at s n) d ∙ part_before s n (p.start + i) bytes bs (omega arith) (omega arith)
    by s n (inr q) = ap (part_at s n) d ∙ part_behind s n (p.start + i) bytes bs (omega arith) (omega arith)

-- a write at a place of some bytes
pub written : (bs new bytes : List Byte) (p : Place) (place : Option ℕ) (i : ℕ) → IsWithin bs p → p.read_only ≡ false → Some i ≡ place → i + length bytes ≤ p.size → new ≡ with_part (p.start + i) bytes bs
    → PlaceChanges (Some p) bs new p (write_at (held_of bs p) place bytes)
written bs new bytes p place i w r e h d = (written_held bs new bytes p place i w r e h d, (refl, refl, refl), written_beside bs new bytes p i w h d)

pub aligned_same : (bs : List Byte) (p : Place) (offset : ℤ) (n : ℕ) → IsWithin bs p → aligned offset n p.size ≡ aligned offset n (length (part_at p.start p.size bs))
aligned_same bs p offset n w = ap (λ k. aligned offset n k) (sym (length_part p.start p.size bs w))

pub inside_same : (bs : List Byte) (p : Place) (offset : ℤ) (n : ℕ) → IsWithin bs p → inside offset n p.size ≡ inside offset n (length (part_at p.start p.size bs))
inside_same bs p offset n w = ap (λ k. inside offset n k) (sym (length_part p.start p.size bs w))

pub stored : (bs new : List Byte) (p : Place) (abi : Abi) (offset : ℤ) (s : Scalar) (v : Value) (n i at : ℕ) → IsWithin bs p → p.read_only ≡ false → n ≡ scalar_size abi s → i + n ≤ p.size → Some i ≡ aligned offset n p.size → at ≡ p.start + i → new ≡ with_part at (bytes_of abi s v) bs
    → PlaceChanges (Some p) bs new p (store_held abi (held_of bs p) offset s v)
stored bs new p abi offset s v n i at w r e h a f d =
    written bs new (bytes_of abi s v) p (aligned offset (scalar_size abi s) (length (part_at p.start p.size bs))) i w r
    (subst (λ k. Some i ≡ aligned offset k p.size) e a ∙ aligned_same bs p offset (scalar_size abi s) w) (omega (arith, length_bytes abi s v)) (d ∙ ap (λ k. with_part k (bytes_of abi s v) bs) f)

pub stored_part : (bs new bytes : List Byte) (p : Place) (offset : ℤ) (i at : ℕ) → IsWithin bs p → p.read_only ≡ false → i + length bytes ≤ p.size → Some i ≡ inside offset (length bytes) p.size → at ≡ p.start + i → new ≡ with_part at bytes bs
    → PlaceChanges (Some p) bs new p (store_part (held_of bs p) offset bytes)
stored_part bs new bytes p offset i at w r h e f d =
    written bs new bytes p (inside offset (length bytes) (length (part_at p.start p.size bs))) i w r (e ∙ inside_same bs p offset (length bytes) w) h (d ∙ ap (λ k. with_part k bytes bs) f)

pub filled : (bs new : List Byte) (p : Place) (offset : ℤ) (n b i at : ℕ) → IsWithin bs p → p.read_only ≡ false → i + n ≤ p.size → Some i ≡ inside offset n p.size → at ≡ p.start + i → new ≡ with_part at (replicate n (Known b)) bs
    → PlaceChanges (Some p) bs new p (fill_part (held_of bs p) offset n b)
filled bs new p offset n b i at w r h e f d =
    let long : length (replicate n (Known b)) ≡ n = length-replicate n (Known b) in
    stored_part bs new (replicate n (Known b)) p offset i at w r (omega arith) (e ∙ ap (λ k. inside offset k p.size) (sym long)) f d

-- a change of one region
pub region_changed : (r : Option Place) (regions : List (List Byte)) (p : Place) (d new : List Byte) (f : Held → Option Held) → IsIn regions p → PlaceChanges r (get_or regions p.region d) new p (f (held_of (get_or regions p.region d) p))
    → RegionChanges r regions (set regions p.region new) p (f (held_in regions p))
region_changed None regions p d new f w h =
    let here : get_or regions p.region d ≡ region_at regions p.region = sym (get_or_default regions p.region [] d w.0) in
    (ap (λ xs. f (held_of xs p)) (sym here) ∙ h.0, ap (λ xs. set regions p.region xs) h.1 ∙ set-get_or regions p.region d)
region_changed (Some q) regions p d new f w h =
    let here : get_or regions p.region d ≡ region_at regions p.region = sym (get_or_default regions p.region [] d w.0) in
    let there : region_at (set regions p.region new) p.region ≡ new = get_or-set_same regions p.region new [] w.0 in (
      ap (λ xs. f (held_of xs p)) (sym here) ∙ h.0 ∙ ap (λ xs. Some (held_of xs q)) (sym there ∙ ap (region_at (set regions p.region new)) (sym h.1.0)),
      h.1,
      length-set regions p.region new,
      subst (λ xs. IsBeside p (region_at regions p.region) xs) (sym there) (subst (λ xs. IsBeside p xs new) here h.2),
      λ k ne. get_or-set_other regions p.region k new [] ne,
    )

-- what is live at a place
pub placed_at : (regions : List (List Byte)) (places : List (Option Place)) (i : ℕ) → slot (placed regions places) i ≡ option_map (held_in regions) (place_at places i)
placed_at regions places i = get_or-map (option_map (held_in regions)) places i None

numbers_same : (a b : ℕ) → nat_eq a b ≡ true → a ≡ b
numbers_same a b e = grind (arith, nat_tests)

equal_numbers : (a b : ℕ) → a ≡ b → nat_eq a b ≡ true
equal_numbers a b e = grind (arith, nat_tests)

numbers_other : (a b : ℕ) → nat_eq a b ≡ false → a ≢ b
numbers_other a b e = grind (arith, nat_tests)

-- changes that leave what stands at each place
pub keeps_slot : (old new : List (List Byte)) (places : List (Option Place)) (k : ℕ) → Keeps places old new → slot (placed new places) k ≡ slot (placed old places) k
keeps_slot old new places k h = placed_at new places k ∙ by (place_at places k) refl ∙ sym (placed_at old places k)
  where
    by : (o : Option Place) → place_at places k ≡ o → option_map (held_in new) (place_at places k) ≡ option_map (held_in old) (place_at places k)
    by None e = ap (option_map (held_in new)) e ∙ sym (ap (option_map (held_in old)) e)
    by (Some p) e = ap (option_map (held_in new)) e ∙ ap Some ((h k p e).1) ∙ sym (ap (option_map (held_in old)) e)

pub keeps_apart : (old new : List (List Byte)) (places : List (Option Place)) → Keeps places old new → AllClear places → IsApart new places
keeps_apart old new places h g = (λ i p e. (h i p e).0, g)

pub same_slot : (regions : List (List Byte)) (old new : List (Option Place)) (k : ℕ) → ((j : ℕ) → place_at new j ≡ place_at old j) → slot (placed regions new) k ≡ slot (placed regions old) k
same_slot regions old new k h = placed_at regions new k ∙ ap (option_map (held_in regions)) (h k) ∙ sym (placed_at regions old k)

pub same_apart : (regions : List (List Byte)) (old new : List (Option Place)) → ((j : ℕ) → place_at new j ≡ place_at old j) → IsApart regions old → IsApart regions new
same_apart regions old new h g = (λ i p e. g.0 i p (sym (h i) ∙ e), λ i j p q e d ne. g.1 i j p q (sym (h i) ∙ e) (sym (h j) ∙ d) ne)

set_past : (xs : List (List Byte)) (r : ℕ) (bs : List Byte) → length xs ≤ r → set xs r bs ≡ xs
set_past [] r bs h = refl
set_past (x ∷ xs) zero bs h = absurd (omega arith)
set_past (x ∷ xs) (suc r) bs h = ap (λ ys. x ∷ ys) (set_past xs r bs (omega arith))

keeps_all : (regions : List (List Byte)) (places : List (Option Place)) → AllIn regions places → Keeps places regions regions
keeps_all regions places h i p e = (h i p e, refl)

-- a region that is cut off behind its last object
trimmed_keeps : (regions : List (List Byte)) (places : List (Option Place)) (r top : ℕ) (d new : List Byte) → AllIn regions places → r < length regions → new ≡ take top (get_or regions r d)
    → ((k : ℕ) (p : Place) → place_at places k ≡ Some p → p.region ≡ r → p.start + p.size ≤ top) → Keeps places regions (set regions r new)
trimmed_keeps regions places r top d new h l e t i p f = by (nat_eq p.region r) refl
  where
    held : List Byte → Held
    held xs = record { function = p.is_function; read_only = p.read_only; bytes = part_at p.start p.size xs }

    here : region_at (set regions r new) r ≡ take top (region_at regions r)
    here = get_or-set_same regions r new [] l ∙ e ∙ ap (take top) (sym (get_or_default regions r [] d l))

    by : (u : Bool) → nat_eq p.region r ≡ u → IsIn (set regions r new) p × (held_in (set regions r new) p ≡ held_in regions p)
    by true c =
        let same : p.region ≡ r = numbers_same p.region r c in
        let there : region_at (set regions r new) p.region ≡ take top (region_at regions p.region) = ap (region_at (set regions r new)) same ∙ here ∙ ap (λ k. take top (region_at regions k)) (sym same) in
        let end : p.start + p.size ≤ top = t i p f same in
        let many : length (set regions r new) ≡ length regions = length-set regions r new in
        let all : IsIn regions p = h i p f in
        let long : length (region_at (set regions r new) p.region) ≡ length (take top (region_at regions p.region)) = ap length there in
        ((omega (arith, all.0), omega (arith, length-take top (region_at regions p.region), all.1)), ap held there ∙ ap (λ xs. made xs) (part_taken p.start p.size top (region_at regions p.region) end))
      where
        made : List Byte → Held
        made xs = record { function = p.is_function; read_only = p.read_only; bytes = xs }
    by false c =
        let ne : p.region ≢ r = numbers_other p.region r c in
        let there : region_at (set regions r new) p.region ≡ region_at regions p.region = get_or-set_other regions r p.region new [] ne in
        let many : length (set regions r new) ≡ length regions = length-set regions r new in
        let all : IsIn regions p = h i p f in
        let long : length (region_at (set regions r new) p.region) ≡ length (region_at regions p.region) = ap length there in
        ((omega (arith, all.0), omega (arith, all.1)), ap held there)

top_bound : (places : List (Option Place)) (k : ℕ) (p : Place) (r : ℕ) → place_at places k ≡ Some p → p.region ≡ r → p.start + p.size ≤ top_of places r
top_bound [] k p r e d = absurd (none-some p e)
top_bound (o ∷ places) zero p r e d =
    let here : end_in o r ≡ p.start + p.size = ap (λ x. end_in x r) e ∙ ap (λ t. cond t (p.start + p.size) 0) (equal_numbers p.region r d) in
    omega arith
top_bound (o ∷ places) (suc k) p r e d = let rest : p.start + p.size ≤ top_of places r = top_bound places k p r e d in omega arith

trimmed_all : (regions : List (List Byte)) (places : List (Option Place)) (r : ℕ) → AllIn regions places → (r < length regions) ⊎ (length regions ≤ r) → Keeps places regions (trimmed regions places r)
trimmed_all regions places r h (inl l) = trimmed_keeps regions places r (top_of places r) [] (take (top_of places r) (region_at regions r)) h l refl (λ k p e d. top_bound places k p r e d)
trimmed_all regions places r h (inr l) = subst (λ rs. Keeps places regions rs) (sym (set_past regions r (take (top_of places r) (region_at regions r)) l)) (keeps_all regions places h)

-- what is given up is needed by no object
pub given_up_keeps : (regions : List (List Byte)) (places : List (Option Place)) (before : Option Place) → AllIn regions places → Keeps places regions (given_up regions places before)
given_up_keeps regions places None h = keeps_all regions places h
given_up_keeps regions places (Some p) h = by (nat_le (length (region_at regions p.region)) (p.start + p.size))
  where
    by : (t : Bool) → Keeps places regions (cond t (trimmed regions places p.region) regions)
    by true = trimmed_all regions places p.region h (cases_lt p.region (length regions))
    by false = keeps_all regions places h

-- the top, one place at a time
pub top_first : (places : List (Option Place)) (r i top end : ℕ) (o : Option Place) → i < length places → o ≡ get_or places i o → end ≡ end_in o r → max top (top_of (drop i places) r) ≡ max (max top end) (top_of (drop (i + 1) places) r)
top_first places r i top end o l e d =
    let first : top_of (drop i places) r ≡ max (end_in o r) (top_of (drop (i + 1) places) r) = ap (λ ps. top_of ps r) (drop_more places i o l) ∙ ap (λ x. max (end_in x r) (top_of (drop (i + 1) places) r)) (sym e) in
    omega arith

-- regions that go on
pub grown_in : (old new : List (List Byte)) (p : Place) → IsGrown old new → IsIn old p → IsIn new p × (held_in new p ≡ held_in old p)
grown_in old new p g w =
    let long : length (region_at old p.region) ≤ length (region_at new p.region) = omega (arith, length-take (length (region_at old p.region)) (region_at new p.region), ap length (g.1 p.region)) in
    ((omega arith, omega arith), ap (λ xs. held p xs) (part_grown p.start p.size (region_at old p.region) (region_at new p.region) (g.1 p.region) w.1))
  where
    held : Place → List Byte → Held
    held p xs = record { function = p.is_function; read_only = p.read_only; bytes = xs }

pub grown_keeps : (old new : List (List Byte)) (places : List (Option Place)) → IsGrown old new → AllIn old places → Keeps places old new
grown_keeps old new places g h i p e = grown_in old new p g (h i p e)

-- a new object behind the others of its region
begun_clear : (old new : List (List Byte)) (b : Beginning) (p q : Place) → IsBegun old new b p → IsIn old q → (t : Bool) → nat_eq p.region q.region ≡ t → IsClear q p
begun_clear old new b p q h w true e =
    let same : p.region ≡ q.region = numbers_same p.region q.region e in
    let long : length (region_at old p.region) ≡ length (region_at old q.region) = ap (λ r. length (region_at old r)) same in
    inr (inl (omega arith))
begun_clear old new b p q h w false e =
    let ne : p.region ≢ q.region = numbers_other p.region q.region e in
    inl (λ d. ne (sym d))

clear_swap : (p q : Place) → IsClear p q → IsClear q p
clear_swap p q (inl ne) = inl (λ e. ne (sym e))
clear_swap p q (inr (inl h)) = inr (inr h)
clear_swap p q (inr (inr h)) = inr (inl h)

some_same : {A : Type 0} (a b : A) → Some a ≡ Some b → a ≡ b
some_same a b e = cc

-- a place that is set: it, and the others
set_here : (places : List (Option Place)) (i : ℕ) (o : Option Place) → i < length places → place_at (set places i o) i ≡ o
set_here places i o h = get_or-set_same places i o None h

set_there : (places : List (Option Place)) (i k : ℕ) (o : Option Place) → k ≢ i → place_at (set places i o) k ≡ place_at places k
set_there places i k o h = get_or-set_other places i k o None h

pub begun_apart : (old new : List (List Byte)) (places : List (Option Place)) (i : ℕ) (b : Beginning) (p : Place) → i < length places → IsApart old places → IsGrown old new → IsBegun old new b p → IsApart new (set places i (Some p))
begun_apart old new places i b p l a g h = (λ k q e. lies k q e (nat_eq k i) refl, λ j k q r e d ne. clear j k q r e d ne (nat_eq j i) (nat_eq k i) refl refl)
  where
    lies : (k : ℕ) (q : Place) → place_at (set places i (Some p)) k ≡ Some q → (t : Bool) → nat_eq k i ≡ t → IsIn new q
    lies k q e true d = subst (λ (x : Place). IsIn new x) (some_same p q (sym (set_here places i (Some p) l) ∙ ap (place_at (set places i (Some p))) (sym (numbers_same k i d)) ∙ e)) h.0
    lies k q e false d = (grown_in old new q g (a.0 k q (sym (set_there places i k (Some p) (numbers_other k i d)) ∙ e))).0

    new_is : (k : ℕ) (q : Place) → place_at (set places i (Some p)) k ≡ Some q → nat_eq k i ≡ true → p ≡ q
    new_is k q e d = some_same p q (sym (set_here places i (Some p) l) ∙ ap (place_at (set places i (Some p))) (sym (numbers_same k i d)) ∙ e)

    old_is : (k : ℕ) (q : Place) → place_at (set places i (Some p)) k ≡ Some q → nat_eq k i ≡ false → place_at places k ≡ Some q
    old_is k q e d = sym (set_there places i k (Some p) (numbers_other k i d)) ∙ e

    clear : (j k : ℕ) (q r : Place) → place_at (set places i (Some p)) j ≡ Some q → place_at (set places i (Some p)) k ≡ Some r → j ≢ k → (t u : Bool) → nat_eq j i ≡ t → nat_eq k i ≡ u → IsClear q r
    clear j k q r e d ne true true x y = absurd (ne (numbers_same j i x ∙ sym (numbers_same k i y)))
    clear j k q r e d ne true false x y = subst (λ (z : Place). IsClear z r) (new_is j q e x) (clear_swap r p (begun_clear old new b p r h (a.0 k r (old_is k r d y)) (nat_eq p.region r.region) refl))
    clear j k q r e d ne false true x y = subst (λ (z : Place). IsClear q z) (new_is k r d y) (begun_clear old new b p q h (a.0 j q (old_is j q e x)) (nat_eq p.region q.region) refl)
    clear j k q r e d ne false false x y = a.1 j k q r (old_is j q e x) (old_is k r d y) ne

pub begun_slot : (old new : List (List Byte)) (places : List (Option Place)) (i k : ℕ) (b : Beginning) (p : Place) → i < length places → AllIn old places → IsGrown old new → IsBegun old new b p
    → slot (placed new (set places i (Some p))) k ≡ cond (nat_eq i k) (Some (begun b)) (slot (placed old places) k)
begun_slot old new places i k b p l a g h = placed_at new (set places i (Some p)) k ∙ by (nat_eq i k) refl
  where
    by : (t : Bool) → nat_eq i k ≡ t → option_map (held_in new) (place_at (set places i (Some p)) k) ≡ cond t (Some (begun b)) (slot (placed old places) k)
    by true e = ap (option_map (held_in new)) (ap (place_at (set places i (Some p))) (sym (numbers_same i k e)) ∙ set_here places i (Some p) l) ∙ ap Some h.1
    by false e =
        let ne : i ≢ k = numbers_other i k e in
        ap (option_map (held_in new)) (set_there places i k (Some p) (λ d. ne (sym d))) ∙ sym (placed_at new places k) ∙ keeps_slot old new places k (grown_keeps old new places g a)

-- a place that is emptied
emptied_in : (regions : List (List Byte)) (old new : List (Option Place)) (i : ℕ) → ((k : ℕ) → place_at new k ≡ cond (nat_eq i k) None (place_at old k)) → IsApart regions old → IsApart regions new
emptied_in regions old new i h a = (λ k p e. a.0 k p (was k p e (nat_eq i k) refl), λ j k p q e d ne. a.1 j k p q (was j p e (nat_eq i j) refl) (was k q d (nat_eq i k) refl) ne)
  where
    was : (k : ℕ) (p : Place) → place_at new k ≡ Some p → (t : Bool) → nat_eq i k ≡ t → place_at old k ≡ Some p
    was k p e true d = absurd (none-some p (ap (λ t. cond t None (place_at old k)) (sym d) ∙ sym (h k) ∙ e))
    was k p e false d = ap (λ t. cond t None (place_at old k)) (sym d) ∙ sym (h k) ∙ e

pub emptied_slot : (regions : List (List Byte)) (old new : List (Option Place)) (i k : ℕ) → ((j : ℕ) → place_at new j ≡ cond (nat_eq i j) None (place_at old j)) → slot (placed regions new) k ≡ cond (nat_eq i k) None (slot (placed regions old) k)
emptied_slot regions old new i k h = placed_at regions new k ∙ ap (option_map (held_in regions)) (h k) ∙ by (nat_eq i k)
  where
    by : (t : Bool) → option_map (held_in regions) (cond t None (place_at old k)) ≡ cond t None (slot (placed regions old) k)
    by true = refl
    by false = sym (placed_at regions old k)

pub place_emptied : (places : List (Option Place)) (i k : ℕ) → i < length places → place_at (set places i None) k ≡ cond (nat_eq i k) None (place_at places k)
place_emptied places i k l = by (nat_eq i k) refl
  where
    by : (t : Bool) → nat_eq i k ≡ t → place_at (set places i None) k ≡ cond t None (place_at places k)
    by true e = ap (place_at (set places i None)) (sym (numbers_same i k e)) ∙ set_here places i None l
    by false e = let ne : i ≢ k = numbers_other i k e in set_there places i k None (λ d. ne (sym d))

pub place_absent : (places : List (Option Place)) (i k : ℕ) → length places ≤ i → place_at places k ≡ cond (nat_eq i k) None (place_at places k)
place_absent places i k l = by (nat_eq i k) refl
  where
    by : (t : Bool) → nat_eq i k ≡ t → place_at places k ≡ cond t None (place_at places k)
    by true e = let same : i ≡ k = numbers_same i k e in get_or_past places k None (omega arith)
    by false e = refl

-- empty places at the end that are taken away
pub taken_place : (places : List (Option Place)) (n k : ℕ) → ((j : ℕ) → n ≤ j → place_at places j ≡ None) → place_at (take n places) k ≡ place_at places k
taken_place places n k h = by (cases_lt k n)
  where
    by : (k < n) ⊎ (n ≤ k) → place_at (take n places) k ≡ place_at places k
    by (inl lt) = get_or-take n places k None lt
    by (inr ge) = get_or_past (take n places) k None (omega (arith, length-take n places)) ∙ sym (h k ge)

pub place_push : (xs : List (Option Place)) (k : ℕ) → place_at (xs ++ None ∷ []) k ≡ place_at xs k
place_push [] zero = refl
place_push [] (suc k) = refl
place_push (x ∷ xs) zero = refl
place_push (x ∷ xs) (suc k) = place_push xs k

pub place_past : (xs : List (Option Place)) (k : ℕ) → length xs ≤ k → place_at xs k ≡ None
place_past xs k h = get_or_past xs k None h

-- what a change at a place does to the others
lengths_same : (q : Place) (old new : List (List Byte)) (p : Place) (o : Option Held) (r : ℕ) → RegionChanges (Some q) old new p o → (t : Bool) → nat_eq r p.region ≡ t → length (region_at new r) ≡ length (region_at old r)
lengths_same q old new p o r h true e =
    let same : r ≡ p.region = numbers_same r p.region e in
    ap (λ x. length (region_at new x)) same ∙ h.3.0 ∙ sym (ap (λ x. length (region_at old x)) same)
lengths_same q old new p o r h false e = ap length (h.4 r (numbers_other r p.region e))

parts_same : (q : Place) (old new : List (List Byte)) (p x : Place) (o : Option Held) → RegionChanges (Some q) old new p o → IsClear p x → (t : Bool) → nat_eq x.region p.region ≡ t → part_at x.start x.size (region_at new x.region) ≡ part_at x.start x.size (region_at old x.region)
parts_same q old new p x o h g false e = ap (part_at x.start x.size) (h.4 x.region (numbers_other x.region p.region e))
parts_same q old new p x o h (inl ne) true e = absurd (ne (sym (numbers_same x.region p.region e)))
parts_same q old new p x o h (inr (inl g)) true e =
    let same : x.region ≡ p.region = numbers_same x.region p.region e in
    ap (λ r. part_at x.start x.size (region_at new r)) same ∙ h.3.1 x.start x.size (inr g) ∙ sym (ap (λ r. part_at x.start x.size (region_at old r)) same)
parts_same q old new p x o h (inr (inr g)) true e =
    let same : x.region ≡ p.region = numbers_same x.region p.region e in
    ap (λ r. part_at x.start x.size (region_at new r)) same ∙ h.3.1 x.start x.size (inl g) ∙ sym (ap (λ r. part_at x.start x.size (region_at old r)) same)

still_in : (q : Place) (old new : List (List Byte)) (p x : Place) (o : Option Held) → RegionChanges (Some q) old new p o → IsIn old x → IsIn new x
still_in q old new p x o h w =
    let long : length (region_at new x.region) ≡ length (region_at old x.region) = lengths_same q old new p o x.region h (nat_eq x.region p.region) refl in
    let many : length new ≡ length old = h.2 in
    (omega arith, omega arith)

-- the place that a change gives has the bytes of the one before
moved_in : (regions : List (List Byte)) (p q : Place) → IsSamePlace p q → IsIn regions p → IsIn regions q
moved_in regions p q e w =
    let long : length (region_at regions q.region) ≡ length (region_at regions p.region) = ap (λ r. length (region_at regions r)) e.0 in
    (omega arith, omega arith)

moved_clear : (p q x : Place) → IsSamePlace p q → IsClear p x → IsClear q x
moved_clear p q x e (inl ne) = inl (λ d. ne (sym e.0 ∙ d))
moved_clear p q x e (inr (inl h)) = inr (inl (omega (arith, e.1, e.2)))
moved_clear p q x e (inr (inr h)) = inr (inr (omega (arith, e.1, e.2)))

pub changed_apart : (q : Place) (old new : List (List Byte)) (places : List (Option Place)) (i : ℕ) (p : Place) (o : Option Held) → i < length places → IsApart old places → place_at places i ≡ Some p → RegionChanges (Some q) old new p o → IsApart new (set places i (Some q))
changed_apart q old new places i p o l a e h = (λ k x d. lies k x d (nat_eq k i) refl, λ j k x y d f ne. clear j k x y d f ne (nat_eq j i) (nat_eq k i) refl refl)
  where
    new_is : (k : ℕ) (x : Place) → place_at (set places i (Some q)) k ≡ Some x → nat_eq k i ≡ true → q ≡ x
    new_is k x d c = some_same q x (sym (set_here places i (Some q) l) ∙ ap (place_at (set places i (Some q))) (sym (numbers_same k i c)) ∙ d)

    old_is : (k : ℕ) (x : Place) → place_at (set places i (Some q)) k ≡ Some x → nat_eq k i ≡ false → place_at places k ≡ Some x
    old_is k x d c = sym (set_there places i k (Some q) (numbers_other k i c)) ∙ d

    lies : (k : ℕ) (x : Place) → place_at (set places i (Some q)) k ≡ Some x → (t : Bool) → nat_eq k i ≡ t → IsIn new x
    lies k x d true c = subst (λ (z : Place). IsIn new z) (new_is k x d c) (moved_in new p q h.1 (still_in q old new p p o h (a.0 i p e)))
    lies k x d false c = still_in q old new p x o h (a.0 k x (old_is k x d c))

    apart : (k : ℕ) (x : Place) → place_at (set places i (Some q)) k ≡ Some x → nat_eq k i ≡ false → IsClear q x
    apart k x d c = let ne : k ≢ i = numbers_other k i c in moved_clear p q x h.1 (a.1 i k p x e (old_is k x d c) (λ f. ne (sym f)))

    clear : (j k : ℕ) (x y : Place) → place_at (set places i (Some q)) j ≡ Some x → place_at (set places i (Some q)) k ≡ Some y → j ≢ k → (t u : Bool) → nat_eq j i ≡ t → nat_eq k i ≡ u → IsClear x y
    clear j k x y d f ne true true c g = absurd (ne (numbers_same j i c ∙ sym (numbers_same k i g)))
    clear j k x y d f ne true false c g = subst (λ (z : Place). IsClear z y) (new_is j x d c) (apart k y f g)
    clear j k x y d f ne false true c g = subst (λ (z : Place). IsClear x z) (new_is k y f g) (clear_swap q x (apart j x d c))
    clear j k x y d f ne false false c g = a.1 j k x y (old_is j x d c) (old_is k y f g) ne

changed_slot : (q : Place) (old new : List (List Byte)) (places : List (Option Place)) (i k : ℕ) (p : Place) (o : Option Held) → i < length places → IsApart old places → place_at places i ≡ Some p → RegionChanges (Some q) old new p o
    → slot (placed new (set places i (Some q))) k ≡ cond (nat_eq i k) o (slot (placed old places) k)
changed_slot q old new places i k p o l a e h = placed_at new (set places i (Some q)) k ∙ by (nat_eq i k) refl
  where
    held : Place → List Byte → Held
    held x xs = record { function = x.is_function; read_only = x.read_only; bytes = xs }

    there : (x : Option Place) → place_at places k ≡ x → i ≢ k → option_map (held_in new) x ≡ option_map (held_in old) x
    there None d ne = refl
    there (Some x) d ne = ap (λ xs. Some (held x xs)) (parts_same q old new p x o h (a.1 i k p x e d ne) (nat_eq x.region p.region) refl)

    by : (t : Bool) → nat_eq i k ≡ t → option_map (held_in new) (place_at (set places i (Some q)) k) ≡ cond t o (slot (placed old places) k)
    by true c = ap (option_map (held_in new)) (ap (place_at (set places i (Some q))) (sym (numbers_same i k c)) ∙ set_here places i (Some q) l) ∙ sym h.0
    by false c =
        let ne : i ≢ k = numbers_other i k c in
        ap (option_map (held_in new)) (set_there places i k (Some q) (λ d. ne (sym d))) ∙ there (place_at places k) refl ne ∙ sym (placed_at old places k)

live_at : (regions : List (List Byte)) (places : List (Option Place)) (i : ℕ) (p : Place) (f : Held → Option Held) → place_at places i ≡ Some p → (slot (placed regions places) i >>= f) ≡ f (held_in regions p)
live_at regions places i p f e = ap (λ (o : Option Held). o >>= f) (placed_at regions places i ∙ ap (option_map (held_in regions)) e)

pub slots_changed : (u : Unit {0}) (q : Place) (old new : List (List Byte)) (places : List (Option Place)) (i : ℕ) (p : Place) (f : Held → Option Held) → i < length places → IsApart old places → place_at places i ≡ Some p → RegionChanges (Some q) old new p (f (held_in old p))
    → SlotChanges (Some u) (placed old places) (placed new (set places i (Some q))) i (slot (placed old places) i >>= f)
slots_changed u q old new places i p f l a e h =
    let live : (slot (placed old places) i >>= f) ≡ f (held_in old p) = live_at old places i p f e in (
      subst (λ (o : Option Held). IsSome o) (sym (live ∙ h.0)) refl,
      λ k. changed_slot q old new places i k p (f (held_in old p)) l a e h ∙ ap (λ (o : Option Held). cond (nat_eq i k) o (slot (placed old places) k)) (sym live),
    )

-- a store leaves the object where it is
set_same : (places : List (Option Place)) (i : ℕ) (p q : Place) → place_at places i ≡ Some p → q ≡ p → set places i (Some q) ≡ places
set_same places i p q e same = ap (λ x. set places i (Some x)) same ∙ ap (λ o. set places i o) (sym e) ∙ set-get_or places i None

pub stored_apart : (q : Place) (old new : List (List Byte)) (places : List (Option Place)) (i : ℕ) (p : Place) (o : Option Held) → i < length places → IsApart old places → place_at places i ≡ Some p → q ≡ p → RegionChanges (Some q) old new p o → IsApart new places
stored_apart q old new places i p o l a e same h = subst (IsApart new) (set_same places i p q e same) (changed_apart q old new places i p o l a e h)

pub slots_stored : (u : Unit {0}) (q : Place) (old new : List (List Byte)) (places : List (Option Place)) (i : ℕ) (p : Place) (f : Held → Option Held) → i < length places → IsApart old places → place_at places i ≡ Some p → q ≡ p → RegionChanges (Some q) old new p (f (held_in old p))
    → SlotChanges (Some u) (placed old places) (placed new places) i (slot (placed old places) i >>= f)
slots_stored u q old new places i p f l a e same h =
    subst (λ xs. SlotChanges (Some u) (placed old places) (placed new xs) i (slot (placed old places) i >>= f)) (set_same places i p q e same) (slots_changed u q old new places i p f l a e h)

pub slots_refused : (old new : List (List Byte)) (places : List (Option Place)) (i : ℕ) (p : Place) (f : Held → Option Held) → place_at places i ≡ Some p → RegionChanges None old new p (f (held_in old p))
    → ((slot (placed old places) i >>= f) ≡ None) × (placed new places ≡ placed old places)
slots_refused old new places i p f e h = (live_at old places i p f e ∙ h.0, ap (λ (rs : List (List Byte)). placed rs places) h.1)

pub place_below : (places : List (Option Place)) (i : ℕ) (p : Place) → place_at places i ≡ Some p → i < length places
place_below places i p e = by (cases_lt i (length places))
  where
    by : (i < length places) ⊎ (length places ≤ i) → i < length places
    by (inl lt) = lt
    by (inr ge) = absurd (none-some p (sym (place_past places i ge) ∙ e))

-- the end of an object of some, and what is given up then
pub cleared_apart : (old new : List (List Byte)) (places emptied first second left : List (Option Place)) (i last : ℕ) → ((k : ℕ) → place_at emptied k ≡ cond (nat_eq i k) None (place_at places k)) → IsApart old places → (before : Option Place) → first ≡ emptied → new ≡ given_up old first before → second ≡ emptied
    → ((k : ℕ) → last ≤ k → place_at second k ≡ None) → left ≡ take last emptied → IsApart new left
cleared_apart old new places emptied first second left i last h a before e k f r d =
    let rest : (j : ℕ) → last ≤ j → place_at emptied j ≡ None = subst (λ ps. (j : ℕ) → last ≤ j → place_at ps j ≡ None) f r in
    let kept : Keeps emptied old new = subst (λ rs. Keeps emptied old rs) (sym (k ∙ ap (λ ps. given_up old ps before) e)) (given_up_keeps old emptied before (emptied_in old places emptied i h a).0) in
    rw d (same_apart new emptied (take last emptied) (λ j. taken_place emptied last j rest) (keeps_apart old new emptied kept (emptied_in old places emptied i h a).1))

pub cleared_slot : (old new : List (List Byte)) (places emptied first second left : List (Option Place)) (i last : ℕ) → ((k : ℕ) → place_at emptied k ≡ cond (nat_eq i k) None (place_at places k)) → IsApart old places → (before : Option Place) → first ≡ emptied → new ≡ given_up old first before → second ≡ emptied
    → ((k : ℕ) → last ≤ k → place_at second k ≡ None) → left ≡ take last emptied → IsPut (placed old places) (placed new left) i None
cleared_slot old new places emptied first second left i last h a before e k f r d j =
    let rest : (j : ℕ) → last ≤ j → place_at emptied j ≡ None = subst (λ ps. (j : ℕ) → last ≤ j → place_at ps j ≡ None) f r in
    let kept : Keeps emptied old new = subst (λ rs. Keeps emptied old rs) (sym (k ∙ ap (λ ps. given_up old ps before) e)) (given_up_keeps old emptied before (emptied_in old places emptied i h a).0) in
    ap (λ ps. slot (placed new ps) j) d ∙ same_slot new emptied (take last emptied) j (λ m. taken_place emptied last m rest) ∙ keeps_slot old new emptied j kept ∙ emptied_slot old places emptied i j h

-- the beginning of an object among others
added_in : (old mid : List (List Byte)) (places more : List (Option Place)) (i : ℕ) (b : Beginning) (p : Place) → IsApart old places → ((k : ℕ) → place_at more k ≡ place_at places k) → i < length more → IsGrown old mid → IsBegun old mid b p → IsApart mid (set more i (Some p))
added_in old mid places more i b p a e l g h = begun_apart old mid more i b p l (same_apart old places more e a) g h

added_keeps : (old mid new : List (List Byte)) (places more first : List (Option Place)) (i : ℕ) (b : Beginning) (p : Place) (before : Option Place) → IsApart old places → ((k : ℕ) → place_at more k ≡ place_at places k) → i < length more → IsGrown old mid → IsBegun old mid b p
    → first ≡ set more i (Some p) → new ≡ given_up mid first before → Keeps (set more i (Some p)) mid new
added_keeps old mid new places more first i b p before a e l g h f k =
    subst (λ rs. Keeps (set more i (Some p)) mid rs) (sym (k ∙ ap (λ ps. given_up mid ps before) f)) (given_up_keeps mid (set more i (Some p)) before (added_in old mid places more i b p a e l g h).0)

pub added_apart : (old mid new : List (List Byte)) (places more first : List (Option Place)) (i : ℕ) (b : Beginning) (p : Place) (before : Option Place) → IsApart old places → ((k : ℕ) → place_at more k ≡ place_at places k) → i < length more → IsGrown old mid → IsBegun old mid b p
    → first ≡ set more i (Some p) → new ≡ given_up mid first before → IsApart new (set more i (Some p))
added_apart old mid new places more first i b p before a e l g h f k = keeps_apart mid new (set more i (Some p)) (added_keeps old mid new places more first i b p before a e l g h f k) (added_in old mid places more i b p a e l g h).1

pub added_slot : (old mid new : List (List Byte)) (places more first : List (Option Place)) (i : ℕ) (b : Beginning) (p : Place) (before : Option Place) → IsApart old places → ((k : ℕ) → place_at more k ≡ place_at places k) → i < length more → IsGrown old mid → IsBegun old mid b p
    → first ≡ set more i (Some p) → new ≡ given_up mid first before → IsPut (placed old places) (placed new (set more i (Some p))) i (Some (begun b))
added_slot old mid new places more first i b p before a e l g h f k j =
    keeps_slot mid new (set more i (Some p)) j (added_keeps old mid new places more first i b p before a e l g h f k) ∙ begun_slot old mid more i j b p l (same_apart old places more e a).0 g h
    ∙ ap (λ (o : Option Held). cond (nat_eq i j) (Some (begun b)) o) (same_slot old places more j e)

-- nothing begins, for want of memory
pub failed_apart : (old new : List (List Byte)) (places more : List (Option Place)) → IsApart old places → ((k : ℕ) → place_at more k ≡ place_at places k) → IsGrown old new → IsApart new more
failed_apart old new places more a e g = let b = same_apart old places more e a in keeps_apart old new more (grown_keeps old new more g b.0) b.1

pub failed_slot : (old new : List (List Byte)) (places more : List (Option Place)) (k : ℕ) → IsApart old places → ((k : ℕ) → place_at more k ≡ place_at places k) → IsGrown old new → slot (placed new more) k ≡ slot (placed old places) k
failed_slot old new places more k a e g = keeps_slot old new more k (grown_keeps old new more g (same_apart old places more e a).0) ∙ same_slot old places more k e

pub within_read : (regions : List (List Byte)) (places : List (Option Place)) (i : ℕ) (p : Place) (bs : List Byte) → AllIn regions places → place_at places i ≡ Some p → bs ≡ get_or regions p.region bs → IsWithin bs p
within_read regions places i p bs a e f = let w = a i p e in subst (λ xs. IsWithin xs p) (get_or_default regions p.region [] bs w.0 ∙ sym f) w.1

pub place_found : (places read : List (Option Place)) (i : ℕ) (o : Option Place) (p : Place) → read ≡ places → o ≡ place_at read i → o ≡ Some p → place_at places i ≡ Some p
place_found places read i o p e f d = ap (λ ps. place_at ps i) (sym e) ∙ sym f ∙ d

pub trimmed_is : (regions : List (List Byte)) (places : List (Option Place)) (r top : ℕ) (bs new : List Byte) → r < length regions → bs ≡ get_or regions r bs → top ≡ top_of places r → new ≡ take top bs → set regions r new ≡ trimmed regions places r
trimmed_is regions places r top bs new l e d f =
    let here : bs ≡ region_at regions r = e ∙ sym (get_or_default regions r [] bs l) in
    ap (set regions r) (f ∙ ap (λ k. take k bs) d ∙ ap (take (top_of places r)) here)

pub trimmed_past : (regions : List (List Byte)) (places : List (Option Place)) (r : ℕ) → length regions ≤ r → regions ≡ trimmed regions places r
trimmed_past regions places r l = sym (set_past regions r (take (top_of places r) (region_at regions r)) l)
