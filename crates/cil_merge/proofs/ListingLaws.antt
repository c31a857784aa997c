-- Device: the objects and functions of units become those of a program one by one.
use Rattle.std.proofs.Common.{◌≡◌, ℕ, zero, suc, ◌+◌, ◌<◌, ◌≤◌, Bool, true, false, cond, ◌||◌, ◌&&◌, not, List, [], ◌∷◌, ◌++◌, Some, None, map, length, drop, filter, get_or, slice_set, nat_eq, refl, sym, ap, ◌∙◌, add-one, append_assoc, append-nil, subst, true≢false, arith}
use Rattle.std.specs.List.{list_any}
use Rattle.std.specs.Map.{lookup, keys_of}
use Rattle.std.proofs.lemmas.Bool.{eqb-true}
use Rattle.std.proofs.lemmas.List.{map-append}
use Rattle.std.proofs.lemmas.List.Folds.{list_any-append}
use Rattle.indexmap.specs.IndexMap.{insert_entry}
use Rattle.cil_base.specs.declared.numbers.EntityId.{EntityId}
use Rattle.cil_base.specs.declared.numbers.NameId.{NameId}
use Rattle.cil_tree.specs.declared.globals.GlobalDecl.{GlobalDecl}
use Rattle.link_names.specs.declared.units.Fronted.{Fronted}
use Rattle.cil_merge.specs.Listing.{Mark, mark, is_external, is_one, once_each, marks_of}
use Rattle.cil_merge.specs.declared.globals.Globals.{Globals}
use Rattle.cil_merge.specs.Numbering.{stands_in, with_mark, with_marks, marks, IsKnown}

abbrev same_name : NameId → NameId → Bool
same_name a b = nat_eq a.0 b.0

abbrev Entries : Type 0
Entries = List (NameId × EntityId)

or_left : (a : Bool) → (a || false) ≡ a
or_left true = refl
or_left false = refl

-- one object or function is added

pub mark_behind : (gs new : List GlobalDecl) (g : GlobalDecl) (m : Mark) → new ≡ gs ++ g ∷ [] → mark g ≡ m → map mark new ≡ map mark gs ++ m ∷ []
mark_behind gs new g m put is = ap (map mark) put ∙ map-append mark gs (g ∷ []) ∙ ap (λ n. map mark gs ++ n ∷ []) is

pub marks_set : (gs : List GlobalDecl) (i : ℕ) (g d : GlobalDecl) → i < length gs → mark g ≡ mark (get_or gs i d) → map mark (slice_set gs i g) ≡ map mark gs
marks_set [] i g d h e = absurd (omega arith)
marks_set (x ∷ gs) zero g d h e = ap (λ m. m ∷ map mark gs) e
marks_set (x ∷ gs) (suc i) g d h e = ap (λ ms. mark x ∷ ms) (marks_set gs i g d (omega arith) e)

-- external names are known

name_is : (a b : NameId) → same_name a b ≡ true → a ≡ b
name_is a b e = ap (λ (k : ℕ). let m : NameId = record { 0 = k } in m) (eqb-true a.0 b.0 e)

absent : (es : Entries) (n : NameId) → None ≡ lookup (same_name n) es → list_any (same_name n) (keys_of es) ≡ false
absent [] n e = refl
absent (x ∷ es) n e = by (absent es n) (same_name n x.0) e
  where
    by : (None ≡ lookup (same_name n) es → list_any (same_name n) (keys_of es) ≡ false) → (b : Bool) → None ≡ cond b (Some x.1) (lookup (same_name n) es) → (b || list_any (same_name n) (keys_of es)) ≡ false
    by rest true f = cc
    by rest false f = rest f

present : (es : Entries) (n : NameId) (k : EntityId) → Some k ≡ lookup (same_name n) es → list_any (same_name n) (keys_of es) ≡ true
present [] n k e = cc
present (x ∷ es) n k e = by (present es n k) (same_name n x.0) e
  where
    by : (Some k ≡ lookup (same_name n) es → list_any (same_name n) (keys_of es) ≡ true) → (b : Bool) → Some k ≡ cond b (Some x.1) (lookup (same_name n) es) → (b || list_any (same_name n) (keys_of es)) ≡ true
    by rest true f = refl
    by rest false f = rest f

keys_insert : (es : Entries) (k n : NameId) (e : EntityId) → list_any (same_name n) (keys_of (insert_entry same_name es k e)) ≡ (list_any (same_name n) (keys_of es) || same_name n k)
keys_insert [] k n e = or_left (same_name n k)
keys_insert (x ∷ es) k n e = by (keys_insert es k n e) (same_name k x.0) refl
  where
    swap : (a b c : Bool) → (a || (b || c)) ≡ ((a || b) || c)
    swap true b c = refl
    swap false b c = refl

    twice : (a b : Bool) → (a || b) ≡ ((a || b) || a)
    twice true b = refl
    twice false true = refl
    twice false false = refl

    by : list_any (same_name n) (keys_of (insert_entry same_name es k e)) ≡ (list_any (same_name n) (keys_of es) || same_name n k) → (b : Bool) → same_name k x.0 ≡ b
        → list_any (same_name n) (keys_of (cond b ((x.0, e) ∷ es) (x ∷ insert_entry same_name es k e))) ≡ ((same_name n x.0 || list_any (same_name n) (keys_of es)) || same_name n k)
    by rest true f = subst (λ (m : NameId). (same_name n x.0 || list_any (same_name n) (keys_of es)) ≡ ((same_name n x.0 || list_any (same_name n) (keys_of es)) || same_name n m)) (sym (name_is k x.0 f)) (twice (same_name n x.0) (list_any (same_name n) (keys_of es)))
    by rest false f = ap (λ b. same_name n x.0 || b) rest ∙ swap (same_name n x.0) (list_any (same_name n) (keys_of es)) (same_name n k)

stands_behind : (ms : List Mark) (m : Mark) (n : NameId) → stands_in (ms ++ m ∷ []) n ≡ (stands_in ms n || is_external n m)
stands_behind ms m n = list_any-append (is_external n) ms (m ∷ []) ∙ ap (λ b. stands_in ms n || b) (or_left (is_external n m))

pub known_at_first : (g : Globals) → g.external.entries ≡ [] → g.all.items ≡ [] → IsKnown g
known_at_first g entries none = record { stands = λ n. ap (λ (xs : Entries). list_any (same_name n) (keys_of xs)) entries ∙ sym (ap (λ (gs : List GlobalDecl). stands_in (map mark gs) n) none) }

-- an external name that is new
pub known_next : (g h : Globals) (m : Mark) (e : EntityId) → IsKnown g → m.1 ≡ false → h.external.entries ≡ insert_entry same_name g.external.entries m.0 e → marks h ≡ marks g ++ m ∷ [] → IsKnown h
known_next g h m e known out is put = record {
  stands = λ n.
      ap (λ (xs : Entries). list_any (same_name n) (keys_of xs)) is ∙ keys_insert g.external.entries m.0 n e ∙ ap (λ b. b || same_name n m.0) (known.stands n) ∙ ap (λ b. stands_in (marks g) n || (not b && same_name n m.0)) (sym out) ∙ sym (stands_behind (marks g) m n) ∙ ap (λ (ms : List Mark). stands_in ms n) (sym put);
}

-- an internal one
pub known_inside : (g h : Globals) (m : Mark) → IsKnown g → m.1 ≡ true → h.external.entries ≡ g.external.entries → marks h ≡ marks g ++ m ∷ [] → IsKnown h
known_inside g h m known inside is put = record {
  stands = λ n.
      ap (λ (xs : Entries). list_any (same_name n) (keys_of xs)) is ∙ known.stands n ∙ sym (or_left (stands_in (marks g) n)) ∙ ap (λ b. stands_in (marks g) n || (not b && same_name n m.0)) (sym inside) ∙ sym (stands_behind (marks g) m n) ∙ ap (λ (ms : List Mark). stands_in ms n) (sym put);
}

pub known_kept : (g h : Globals) → IsKnown g → h.external.entries ≡ g.external.entries → marks h ≡ marks g → IsKnown h
known_kept g h known is stay = record { stands = λ n. ap (λ (xs : Entries). list_any (same_name n) (keys_of xs)) is ∙ known.stands n ∙ ap (λ (ms : List Mark). stands_in ms n) (sym stay) }

pub mark_inside : (before after : List Mark) (m : Mark) → m.1 ≡ true → after ≡ before ++ m ∷ [] → after ≡ with_mark before m
mark_inside before after m inside put = put ∙ ap (λ b. cond (not b && stands_in before m.0) before (before ++ m ∷ [])) (sym inside)

pub mark_new : (g h : Globals) (m : Mark) → IsKnown g → m.1 ≡ false → None ≡ lookup (same_name m.0) g.external.entries → marks h ≡ marks g ++ m ∷ [] → marks h ≡ with_mark (marks g) m
mark_new g h m known out none put =
    put ∙ ap (λ b. cond b (marks g) (marks g ++ m ∷ [])) (sym (sym (known.stands m.0) ∙ absent g.external.entries m.0 none)) ∙ ap (λ b. cond (not b && stands_in (marks g) m.0) (marks g) (marks g ++ m ∷ [])) (sym out)

pub mark_known : (g h : Globals) (m : Mark) (e : EntityId) → IsKnown g → m.1 ≡ false → Some e ≡ lookup (same_name m.0) g.external.entries → marks h ≡ marks g → marks h ≡ with_mark (marks g) m
mark_known g h m e known out found stays =
    stays ∙ ap (λ b. cond b (marks g) (marks g ++ m ∷ [])) (sym (sym (known.stands m.0) ∙ present g.external.entries m.0 e found)) ∙ ap (λ b. cond (not b && stands_in (marks g) m.0) (marks g) (marks g ++ m ∷ [])) (sym out)

-- one after another

drop_at : {T : Type 0} (xs : List T) (i : ℕ) (d : T) → i < length xs → drop i xs ≡ get_or xs i d ∷ drop (suc i) xs
drop_at [] i d h = absurd (omega arith)
drop_at (x ∷ xs) zero d h = refl
drop_at (x ∷ xs) (suc i) d h = drop_at xs i d (omega arith)

drop_whole : {T : Type 0} (xs : List T) (i : ℕ) → length xs ≤ i → drop i xs ≡ []
drop_whole [] zero h = refl
drop_whole [] (suc i) h = refl
drop_whole (x ∷ xs) zero h = absurd (omega arith)
drop_whole (x ∷ xs) (suc i) h = drop_whole xs i (omega arith)

pub marks_next : (gs : List GlobalDecl) (i : ℕ) (g : GlobalDecl) (before after start : List Mark) → i < length gs → g ≡ get_or gs i g → after ≡ with_mark before (mark g) → with_marks before (map mark (drop i gs)) ≡ start
    → with_marks after (map mark (drop (i + 1) gs)) ≡ start
marks_next gs i g before after start less is step inv =
    ap (λ k. with_marks after (map mark (drop k gs))) (add-one i)
    ∙ ap (λ (ms : List Mark). with_marks ms (map mark (drop (suc i) gs))) (step ∙ ap (λ (h : GlobalDecl). with_mark before (mark h)) is)
    ∙ ap (λ (hs : List GlobalDecl). with_marks before (map mark hs)) (sym (drop_at gs i g less)) ∙ inv

pub marks_end : (gs : List GlobalDecl) (i : ℕ) (before start : List Mark) → length gs ≤ i → with_marks before (map mark (drop i gs)) ≡ start → before ≡ start
marks_end gs i before start past inv = ap (λ (hs : List GlobalDecl). with_marks before (map mark hs)) (sym (drop_whole gs i past)) ∙ inv

marks-append : (before xs ys : List Mark) → with_marks before (xs ++ ys) ≡ with_marks (with_marks before xs) ys
marks-append before [] ys = refl
marks-append before (x ∷ xs) ys = marks-append (with_mark before x) xs ys

pub units_next : (fs : List Fronted) (u : ℕ) (f d : Fronted) (before after start : List Mark) → u < length fs → f ≡ get_or fs u d → after ≡ with_marks before (map mark f.cil.globals.items) → with_marks before (marks_of (drop u fs)) ≡ start
    → with_marks after (marks_of (drop (u + 1) fs)) ≡ start
units_next fs u f d before after start less is step inv =
    ap (λ k. with_marks after (marks_of (drop k fs))) (add-one u)
    ∙ ap (λ (ms : List Mark). with_marks ms (marks_of (drop (suc u) fs))) (step ∙ ap (λ (h : Fronted). with_marks before (map mark h.cil.globals.items)) is)
    ∙ sym (marks-append before (map mark (get_or fs u d).cil.globals.items) (marks_of (drop (suc u) fs)))
    ∙ ap (λ (hs : List Fronted). with_marks before (marks_of hs)) (sym (drop_at fs u d less)) ∙ inv

pub units_end : (fs : List Fronted) (u : ℕ) (before start : List Mark) → length fs ≤ u → with_marks before (marks_of (drop u fs)) ≡ start → before ≡ start
units_end fs u before start past inv = ap (λ (hs : List Fronted). with_marks before (marks_of hs)) (sym (drop_whole fs u past)) ∙ inv

-- what is listed one by one is each once

abbrev is_seen : List Mark → Mark → Bool
is_seen before k = not k.1 && stands_in before k.0

abbrev is_fresh : List Mark → Mark → Bool
is_fresh before k = not (is_seen before k)

abbrev is_other : Mark → Mark → Bool
is_other m k = not (is_one m k)

filter_implied : {X : Type 0} (p q : X → Bool) (xs : List X) → ((x : X) → p x ≡ true → q x ≡ true) → filter p (filter q xs) ≡ filter p xs
filter_implied p q [] h = refl
filter_implied p q (x ∷ xs) h = by (filter_implied p q xs h) (p x) (q x) refl refl
  where
    by : filter p (filter q xs) ≡ filter p xs → (a b : Bool) → p x ≡ a → q x ≡ b → filter p (cond b (x ∷ filter q xs) (filter q xs)) ≡ cond a (x ∷ filter p xs) (filter p xs)
    by rest true true e f = ap (λ k. cond k (x ∷ filter p (filter q xs)) (filter p (filter q xs))) e ∙ ap (λ k. x ∷ k) rest
    by rest true false e f = absurd (true≢false (sym (h x e) ∙ f))
    by rest false true e f = ap (λ k. cond k (x ∷ filter p (filter q xs)) (filter p (filter q xs))) e ∙ rest
    by rest false false e f = rest

filter_both : {X : Type 0} (p q r : X → Bool) (xs : List X) → ((x : X) → r x ≡ (q x && p x)) → filter r xs ≡ filter p (filter q xs)
filter_both p q r [] h = refl
filter_both p q r (x ∷ xs) h = by (filter_both p q r xs h) (q x) (p x) refl (h x)
  where
    by : filter r xs ≡ filter p (filter q xs) → (a b : Bool) → p x ≡ b → r x ≡ (a && b) → cond (r x) (x ∷ filter r xs) (filter r xs) ≡ filter p (cond a (x ∷ filter q xs) (filter q xs))
    by rest true true e f = ap (λ k. cond k (x ∷ filter r xs) (filter r xs)) f ∙ ap (λ k. x ∷ k) rest ∙ ap (λ k. cond k (x ∷ filter p (filter q xs)) (filter p (filter q xs))) (sym e)
    by rest true false e f = ap (λ k. cond k (x ∷ filter r xs) (filter r xs)) f ∙ rest ∙ ap (λ k. cond k (x ∷ filter p (filter q xs)) (filter p (filter q xs))) (sym e)
    by rest false b e f = ap (λ k. cond k (x ∷ filter r xs) (filter r xs)) f ∙ rest

filter_whole : {X : Type 0} (p : X → Bool) (xs : List X) → ((x : X) → p x ≡ true) → filter p xs ≡ xs
filter_whole p [] h = refl
filter_whole p (x ∷ xs) h = ap (λ k. cond k (x ∷ filter p xs) (filter p xs)) (h x) ∙ ap (λ k. x ∷ k) (filter_whole p xs h)

both : (a b : Bool) → (a && b) ≡ true → (a ≡ true) × (b ≡ true)
both true b e = (refl, e)
both false b e = absurd (true≢false (sym e))

-- what is one with what is seen is seen
seen_too : (before : List Mark) (m k : Mark) → is_seen before m ≡ true → is_one m k ≡ true → is_seen before k ≡ true
seen_too before m k seen one =
    let out = both (not k.1) (is_external k.0 m) one in
    let name : k.0 ≡ m.0 = name_is k.0 m.0 (both (not m.1) (nat_eq k.0.0 m.0.0) out.1).1 in
    ap (λ b. b && stands_in before k.0) out.0 ∙ ap (stands_in before) name ∙ (both (not m.1) (stands_in before m.0) seen).1

fresh_other : (before : List Mark) (m k : Mark) → is_seen before m ≡ true → is_fresh before k ≡ true → is_other m k ≡ true
fresh_other before m k seen fresh = by (is_one m k) refl
  where
    by : (b : Bool) → is_one m k ≡ b → not b ≡ true
    by true one = absurd (true≢false (sym fresh ∙ ap not (seen_too before m k seen one)))
    by false one = refl

fresh_next : (before : List Mark) (m k : Mark) → is_fresh (before ++ m ∷ []) k ≡ (is_other m k && is_fresh before k)
fresh_next before m k = ap (λ s. not (not k.1 && s)) (stands_behind before m k.0) ∙ split (not k.1) (stands_in before k.0) (is_external k.0 m)
  where
    split : (o s x : Bool) → not (o && (s || x)) ≡ (not (o && x) && not (o && s))
    split false s x = refl
    split true true true = refl
    split true true false = refl
    split true false true = refl
    split true false false = refl

listed_from : (before ms : List Mark) → with_marks before ms ≡ before ++ filter (is_fresh before) (once_each ms)
listed_from before [] = sym (append-nil before)
listed_from before (m ∷ ms) = by (listed_from before ms) (listed_from (before ++ m ∷ []) ms) (is_seen before m) refl
  where
    by : with_marks before ms ≡ before ++ filter (is_fresh before) (once_each ms) → with_marks (before ++ m ∷ []) ms ≡ (before ++ m ∷ []) ++ filter (is_fresh (before ++ m ∷ [])) (once_each ms) → (b : Bool) → is_seen before m ≡ b
        → with_marks (cond b before (before ++ m ∷ [])) ms ≡ before ++ cond (not b) (m ∷ filter (is_fresh before) (filter (is_other m) (once_each ms))) (filter (is_fresh before) (filter (is_other m) (once_each ms)))
    by stays goes true e = stays ∙ ap (λ ks. before ++ ks) (sym (filter_implied (is_fresh before) (is_other m) (once_each ms) (λ k f. fresh_other before m k e f)))
    by stays goes false e =
        goes ∙ append_assoc before (m ∷ []) (filter (is_fresh (before ++ m ∷ [])) (once_each ms))
        ∙ ap (λ ks. before ++ m ∷ ks) (filter_both (is_fresh before) (is_other m) (is_fresh (before ++ m ∷ [])) (once_each ms) (λ k. fresh_next before m k))

pub listed : (ms : List Mark) → with_marks [] ms ≡ once_each ms
listed ms = listed_from [] ms ∙ filter_whole (is_fresh []) (once_each ms) (λ k. none k.1)
  where
    none : (b : Bool) → not (not b && false) ≡ true
    none true = refl
    none false = refl
