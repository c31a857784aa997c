-- Device: steps of the loops over names.
use Rattle.std.proofs.Common.{◌≡◌, ℕ, zero, suc, ◌+◌, ◌<◌, Bool, true, false, ◌&&◌, ◌||◌, not, Option, Some, None, List, [], ◌∷◌, ◌++◌, length, drop, map, get_or, slice_get, refl, sym, ap, ◌∙◌, subst, append_assoc, eqb, arith}
use Rattle.std.specs.List.{list_all, list_any}
use Rattle.cil_base.specs.declared.numbers.NameId.{NameId}
use Rattle.type_graph.specs.declared.aggregates.Aggregate.{Aggregate}
use Rattle.type_graph.specs.declared.aggregates.Member.{Member}
use Rattle.cil_base.specs.declared.numbers.TypeId.{TypeId}
use Rattle.type_graph.specs.Shapes.{Shape, NoTypes, shapes_of, VoidType, IntType, PtrType, ArrayType, FuncType, AggType}
use Rattle.cil_tree.specs.Tree.{Program}
use Rattle.cil_tree.specs.View.{text_at}
use Rattle.cil_tree.specs.Text.{member_name}
use Rattle.cil_tree.specs.Typing.{same_shape, same_shapes, is_void}
use Rattle.cil_tree.specs.Names.{member_names, are_apart, is_among}
use Rattle.cil_check.specs.NameLists.{member_id, member_ids, enumerator_ids_of, enumerator_ids, tag_ids_of, tag_ids}

-- what each element gives, from one on
pub ids_from : {A B : Type 0} (see : A → B) (xs : List A) (i : ℕ) (d : A) → i < length xs → map see (drop i xs) ≡ see (get_or xs i d) ∷ map see (drop (suc i) xs)
ids_from see [] i d h = absurd (omega arith)
ids_from see (x ∷ xs) zero d h = refl
ids_from see (x ∷ xs) (suc i) d h = ids_from see xs i d (omega arith)

-- a test of each from one on that was found
pub all_found : {A : Type 0} (of : A → Bool) (xs : List A) (i : ℕ) (x : A) → slice_get xs i ≡ Some x → list_all of (drop i xs) ≡ of x && list_all of (drop (suc i) xs)
all_found of [] i x e = cc
all_found of (y ∷ ys) zero x e = let same : y ≡ x = cc in ap (λ z. of z && list_all of ys) same
all_found of (y ∷ ys) (suc i) x e = all_found of ys i x e

pub enumerators_found : (xs : List Aggregate) (i : ℕ) (x : Aggregate) → slice_get xs i ≡ Some x → enumerator_ids (drop i xs) ≡ enumerator_ids_of x ++ enumerator_ids (drop (suc i) xs)
enumerators_found [] i x e = cc
enumerators_found (y ∷ ys) zero x e = let same : y ≡ x = cc in ap (λ z. enumerator_ids_of z ++ enumerator_ids ys) same
enumerators_found (y ∷ ys) (suc i) x e = enumerators_found ys i x e

pub tags_found : (xs : List Aggregate) (i : ℕ) (x : Aggregate) → slice_get xs i ≡ Some x → tag_ids (drop i xs) ≡ tag_ids_of x ++ tag_ids (drop (suc i) xs)
tags_found [] i x e = cc
tags_found (y ∷ ys) zero x e = let same : y ≡ x = cc in ap (λ z. tag_ids_of z ++ tag_ids ys) same
tags_found (y ∷ ys) (suc i) x e = tags_found ys i x e

names_of : (p : Program) (ms : List Member) → map (text_at p.names) (map member_id ms) ≡ map (member_name p) ms
names_of p [] = refl
names_of p (m ∷ ms) = ap (λ z. member_name p m ∷ z) (names_of p ms)

-- the members' names are the texts of their numbers
pub member_names_are : (p : Program) (x : Aggregate) → map (text_at p.names) (member_ids x) ≡ member_names p x
member_names_are p x = by x.members
  where
    by : (o : Option (List Member)) → map (text_at p.names) (elim o [ None ↦ [] | Some ms ↦ map member_id ms ]) ≡ elim o [ None ↦ [] | Some ms ↦ map (member_name p) ms ]
    by None = refl
    by (Some ms) = names_of p ms

-- names apart from texts, from one on
pub apart_from : {A : Type 0} (see : A → List ℕ) (xs : List A) (others : List (List ℕ)) (i : ℕ) (d : A) → i < length xs → are_apart (map see (drop i xs)) others ≡ not (is_among others (see (get_or xs i d))) && are_apart (map see (drop (suc i) xs)) others
apart_from see [] others i d h = absurd (omega arith)
apart_from see (x ∷ xs) others zero d h = split (is_among others (see x)) (list_any (is_among others) (map see xs))
  where
    split : (p q : Bool) → not (p || q) ≡ not p && not q
    split true q = refl
    split false q = refl
apart_from see (x ∷ xs) others (suc i) d h = apart_from see xs others i d (omega arith)

pub void_is : (s : Shape) → same_shape s VoidType ≡ is_void s
void_is VoidType = refl
void_is (IntType kind) = refl
void_is (PtrType q s) = refl
void_is (ArrayType q s bound) = refl
void_is (FuncType ret params proto variadic) = refl
void_is (AggType a) = refl

-- a list that grew by what one element gives
grown : {A : Type 0} (new ids own rest whole all : List A) → new ≡ ids ++ own → whole ≡ own ++ rest → ids ++ whole ≡ all → new ++ rest ≡ all
grown new ids own rest whole all e w h = ap (λ z. z ++ rest) e ∙ append_assoc ids own rest ∙ ap (λ z. ids ++ z) (sym w) ∙ h

pub ids_grow : {A B : Type 0} (see : A → B) (xs : List A) (i : ℕ) (d : A) (new ids all : List B) → i < length xs → new ≡ ids ++ see (get_or xs i d) ∷ [] → ids ++ map see (drop i xs) ≡ all → new ++ map see (drop (i + 1) xs) ≡ all
ids_grow see xs i d new ids all here e h =
    let next : suc i ≡ i + 1 = omega arith in
    subst (λ k. new ++ map see (drop k xs) ≡ all) next (grown new ids (see (get_or xs i d) ∷ []) (map see (drop (suc i) xs)) (map see (drop i xs)) all e (ids_from see xs i d here) h)

pub enumerators_grow : (xs : List Aggregate) (i : ℕ) (x : Aggregate) (new ids all : List NameId) → slice_get xs i ≡ Some x → new ≡ ids ++ enumerator_ids_of x → ids ++ enumerator_ids (drop i xs) ≡ all → new ++ enumerator_ids (drop (i + 1) xs) ≡ all
enumerators_grow xs i x new ids all f e h =
    let next : suc i ≡ i + 1 = omega arith in
    subst (λ k. new ++ enumerator_ids (drop k xs) ≡ all) next (grown new ids (enumerator_ids_of x) (enumerator_ids (drop (suc i) xs)) (enumerator_ids (drop i xs)) all e (enumerators_found xs i x f) h)

pub tags_grow : (xs : List Aggregate) (i : ℕ) (x : Aggregate) (new ids all : List NameId) → slice_get xs i ≡ Some x → new ≡ ids ++ tag_ids_of x → ids ++ tag_ids (drop i xs) ≡ all → new ++ tag_ids (drop (i + 1) xs) ≡ all
tags_grow xs i x new ids all f e h =
    let next : suc i ≡ i + 1 = omega arith in
    subst (λ k. new ++ tag_ids (drop k xs) ≡ all) next (grown new ids (tag_ids_of x) (tag_ids (drop (suc i) xs)) (tag_ids (drop i xs)) all e (tags_found xs i x f) h)

-- where the test of the one that was found fails or holds
pub found_fails : {A : Type 0} (of : A → Bool) (xs : List A) (i : ℕ) (x : A) (all : Bool) → slice_get xs i ≡ Some x → list_all of (drop i xs) ≡ all → of x ≡ false → false ≡ all
found_fails of xs i x all f h e = sym (sym h ∙ all_found of xs i x f ∙ ap (λ b. b && list_all of (drop (suc i) xs)) e)

pub found_passes : {A : Type 0} (of : A → Bool) (xs : List A) (i : ℕ) (x : A) (all : Bool) → slice_get xs i ≡ Some x → list_all of (drop i xs) ≡ all → of x ≡ true → list_all of (drop (i + 1) xs) ≡ all
found_passes of xs i x all f h e =
    let next : suc i ≡ i + 1 = omega arith in
    subst (λ k. list_all of (drop k xs) ≡ all) next (sym (all_found of xs i x f ∙ ap (λ b. b && list_all of (drop (suc i) xs)) e) ∙ h)

-- no parameters
pub none_there : (at : ℕ → Shape) (ts : List TypeId) → same_shapes (shapes_of at ts) NoTypes ≡ eqb (length ts) 0
none_there at [] = refl
none_there at (t ∷ ts) = suc_is_not_zero (length ts)
  where
    suc_is_not_zero : (n : ℕ) → false ≡ eqb (suc n) 0
    suc_is_not_zero n = grind arith
