-- The log of declarations against the table.
use Rattle.std.proofs.Common.{◌≡◌, refl, sym, ◌∙◌, ap, ℕ, zero, suc, ◌<◌, ◌≤◌, ◌-◌, ◌+◌, List, [], ◌∷◌, ◌++◌, Option, Some, None, map, nat_eq, length, get_or, arith, subst, length-append, length-set, Result, Ok, Err, OnOk, OnErr, take}
use Rattle.std.specs.Prelude.{if◌then◌else◌, slice_set, slice_get}
use Rattle.std.proofs.lemmas.Grind.{common_steps}
use Rattle.std.proofs.lemmas.Bool.Decides.{nat_tests}
use Rattle.std.proofs.lemmas.Option.{slice_get_within}
use Rattle.cil_base.specs.declared.numbers.NameId.{NameId}
use Rattle.name_scopes.specs.declared.log.Entry.{Entry}
use Rattle.name_scopes.specs.Scopes.{Scope, found_in, found_behind, found, declared}
use Rattle.name_scopes.specs.Undo.{pair_of, told, told_all, told_scopes, IsLog, AreLogs, Agree, nothing, InStep, Grown}

pub grown_same : {T : Type 0} (xs : List (Option T)) → Grown xs xs
grown_same xs = record { longer = omega arith; same = λ n. refl }

get_or-none : {T : Type 0} (xs : List (Option T)) (n : ℕ) → get_or (xs ++ None ∷ []) n None ≡ get_or xs n None
get_or-none [] zero = refl
get_or-none [] (suc n) = refl
get_or-none (x ∷ xs) zero = refl
get_or-none (x ∷ xs) (suc n) = get_or-none xs n

pub grown_push : {T : Type 0} (old new more : List (Option T)) → Grown old new → more ≡ new ++ None ∷ [] → Grown old more
grown_push old new more g e = record {
  longer = let h : length old ≤ length new = g.longer in rw e (omega (arith, length-append new (None ∷ []), h));
  same = λ n. ap (λ xs. get_or xs n None) e ∙ get_or-none new n ∙ g.same n;
}

log_longer : {T : Type 0} (small big : ℕ) (f : ℕ → Option T) (ds : List (Entry T)) → small ≤ big → IsLog small f ds → IsLog big f ds
log_longer small big f [] le l = tt
log_longer small big f (d ∷ ds) le l = (omega (arith, l.0), l.1, log_longer small big (told f d) ds le l.2)

log_append : {T : Type 0} (bound : ℕ) (f : ℕ → Option T) (ds : List (Entry T)) (d : Entry T) → IsLog bound f ds → d.name.0 < bound → d.before ≡ told_all f ds d.name.0 → IsLog bound f (ds ++ d ∷ [])
log_append bound f [] d l lt was = (lt, was, tt)
log_append bound f (c ∷ ds) d l lt was = (l.0, l.1, log_append bound (told f c) ds d l.2 lt was)

log_front : {T : Type 0} (bound : ℕ) (f : ℕ → Option T) (ds : List (Entry T)) (d : Entry T) → IsLog bound f (ds ++ d ∷ []) → IsLog bound f ds × (d.name.0 < bound) × (d.before ≡ told_all f ds d.name.0)
log_front bound f [] d l = (tt, l.0, l.1)
log_front bound f (c ∷ ds) d l =
    let r : IsLog bound (told f c) ds × (d.name.0 < bound) × (d.before ≡ told_all (told f c) ds d.name.0) = log_front bound (told f c) ds d l.2 in
    ((l.0, l.1, r.0), r.1, r.2)

told_append : {T : Type 0} (f : ℕ → Option T) (ds : List (Entry T)) (d : Entry T) (n : ℕ) → told_all f (ds ++ d ∷ []) n ≡ told (told_all f ds) d n
told_append f [] d n = refl
told_append f (c ∷ ds) d n = told_append (told f c) ds d n

pub agree_grown : {T : Type 0} (f : ℕ → Option T) (table more : List (Option T)) (ds : List (Entry T)) → Grown table more → Agree f table ds → Agree f more ds
agree_grown f table more ds g a = record {
  log = log_longer (length table) (length more) f ds g.longer a.log;
  tells = λ n. g.same n ∙ a.tells n;
}

-- what a table has behind a change at one place
set_tells : {T : Type 0} (table : List (Option T)) (i : ℕ) (b : Option T) (n : ℕ) → i < length table → get_or (slice_set table i b) n None ≡ (if nat_eq i n then b else get_or table n None)
set_tells table i b n lt = grind (arith, common_steps)

pub agree_entered : {T : Type 0} (f : ℕ → Option T) (table after : List (Option T)) (ds es : List (Entry T)) (n : NameId) (v : T) (was : Option T) →
    n.0 < length table → was ≡ get_or table n.0 None → after ≡ slice_set table n.0 (Some v) → es ≡ ds ++ record { name = n; value = v; before = was } ∷ [] →
    Agree f table ds → Agree f after es
agree_entered {T} f table after ds es n v was lt t s e a =
    let d : Entry T = record { name = n; value = v; before = was } in
    let len : length after ≡ length table = ap length s ∙ length-set table n.0 (Some v) in
    record {
      log = rw (e, len) (log_append (length table) f ds d a.log lt (t ∙ a.tells n.0));
      tells = λ m. ap (λ xs. get_or xs m None) s ∙ set_tells table n.0 (Some v) m lt ∙ ap (λ b. if nat_eq n.0 m then Some v else b) (a.tells m) ∙ sym (ap (λ xs. told_all f xs m) e ∙ told_append f ds d m);
    }

pairs : {T : Type 0} (xs : List (Entry T)) (x : Entry T) → map pair_of (xs ++ x ∷ []) ≡ map pair_of xs ++ pair_of x ∷ []
pairs [] x = refl
pairs (y ∷ xs) x = ap (λ r. pair_of y ∷ r) (pairs xs x)

pub pairs_entered : {T : Type 0} (ds es : List (Entry T)) (d : Entry T) → es ≡ ds ++ d ∷ [] → map pair_of es ≡ map pair_of ds ++ pair_of d ∷ []
pairs_entered ds es d e = ap (map pair_of) e ∙ pairs ds d

put_case : {T : Type 0} (i m : ℕ) (g : ℕ → Option T) (is was got : Option T) → was ≡ g i → got ≡ (if nat_eq i m then is else g m) → (if nat_eq i m then was else got) ≡ g m
put_case i m g is was got w q = grind (arith, nat_tests)

pub agree_put_back : {T : Type 0} (f : ℕ → Option T) (table after : List (Option T)) (ds es : List (Entry T)) (d : Entry T) →
    es ≡ ds ++ d ∷ [] → after ≡ slice_set table d.name.0 d.before → Agree f table es → Agree f after ds
agree_put_back f table after ds es d e s a =
    let r : IsLog (length table) f ds × (d.name.0 < length table) × (d.before ≡ told_all f ds d.name.0) = log_front (length table) f ds d (subst (IsLog (length table) f) e a.log) in
    let len : length after ≡ length table = ap length s ∙ length-set table d.name.0 d.before in
    record {
      log = rw len r.0;
      tells = λ m. ap (λ xs. get_or xs m None) s ∙ set_tells table d.name.0 d.before m r.1
          ∙ put_case d.name.0 m (told_all f ds) (Some d.value) d.before (get_or table m None) r.2 (a.tells m ∙ ap (λ xs. told_all f xs m) e ∙ told_append f ds d m);
    }

-- The log is taken back from its end.

take_get : {X : Type 0} (xs : List X) (k : ℕ) (x : X) → slice_get xs k ≡ Some x → take (suc k) xs ≡ take k xs ++ x ∷ []
take_get [] k x e = let h : k < 0 = slice_get_within [] k x e in absurd (omega (arith, h))
take_get (y ∷ ys) zero x e = grind (arith, common_steps)
take_get (y ∷ ys) (suc k) x e = ap (λ r. y ∷ r) (take_get ys k x e)

less : (n i : ℕ) → i < n → n - i ≡ suc (n - 1 - i)
less n i lt = omega (arith, lt)

pub step_back : {T : Type 0} (f : ℕ → Option T) (table after : List (Option T)) (scope : List (Entry T)) (i : ℕ) (d : Entry T) → i < length scope →
    slice_get scope (length scope - 1 - i) ≡ Some d → after ≡ slice_set table d.name.0 d.before →
    Agree f table (take (length scope - i) scope) → Agree f after (take (length scope - (i + 1)) scope)
step_back f table after scope i d lt g s a =
    let e : length scope - (i + 1) ≡ length scope - 1 - i = omega arith in
    rw e (agree_put_back f table after (take (length scope - 1 - i) scope) (take (length scope - i) scope) d
    (ap (λ k. take k scope) (less (length scope) i lt) ∙ take_get scope (length scope - 1 - i) d g) s a)

-- Scopes.

scopes_append : {T : Type 0} (f : ℕ → Option T) (ss : List (List (Entry T))) (s : List (Entry T)) (n : ℕ) → told_scopes f (ss ++ s ∷ []) n ≡ told_all (told_scopes f ss) s n
scopes_append f [] s n = refl
scopes_append f (t ∷ ss) s n = scopes_append (told_all f t) ss s n

logs_append : {T : Type 0} (bound : ℕ) (f : ℕ → Option T) (ss : List (List (Entry T))) (s : List (Entry T)) → AreLogs bound f ss → IsLog bound (told_scopes f ss) s → AreLogs bound f (ss ++ s ∷ [])
logs_append bound f [] s l m = (m, tt)
logs_append bound f (t ∷ ss) s l m = (l.0, logs_append bound (told_all f t) ss s l.1 m)

logs_front : {T : Type 0} (bound : ℕ) (f : ℕ → Option T) (ss : List (List (Entry T))) (s : List (Entry T)) → AreLogs bound f (ss ++ s ∷ []) → AreLogs bound f ss × IsLog bound (told_scopes f ss) s
logs_front bound f [] s l = (tt, l.0)
logs_front bound f (t ∷ ss) s l =
    let r : AreLogs bound (told_all f t) ss × IsLog bound (told_scopes (told_all f t) ss) s = logs_front bound (told_all f t) ss s l.1 in
    ((l.0, r.0), r.1)

logs_longer : {T : Type 0} (small big : ℕ) (f : ℕ → Option T) (ss : List (List (Entry T))) → small ≤ big → AreLogs small f ss → AreLogs big f ss
logs_longer small big f [] le l = tt
logs_longer small big f (t ∷ ss) le l = (log_longer small big f t le l.0, logs_longer small big (told_all f t) ss le l.1)

pub begun : {T : Type 0} (table : List (Option T)) → table ≡ [] → InStep table [] []
begun table e = record { logs = tt; last = record { log = tt; tells = λ n. ap (λ xs. get_or xs n None) e } }

pub step_entered : {T : Type 0} (table : List (Option T)) (outer more : List (List (Entry T))) (inner new : List (Entry T)) → more ≡ outer ++ inner ∷ [] → new ≡ [] → InStep table outer inner → InStep table more new
step_entered table outer more inner new e s i = rw (e, s) (record {
  logs = logs_append (length table) nothing outer inner i.logs i.last.log;
  last = record { log = tt; tells = λ n. i.last.tells n ∙ sym (scopes_append nothing outer inner n) };
})

pub step_left : {T : Type 0} (table after : List (Option T)) (outer less : List (List (Entry T))) (inner new : List (Entry T)) → outer ≡ less ++ new ∷ [] →
    ((f : ℕ → Option T) → Agree f table inner → Agree f after []) → length after ≡ length table → InStep table outer inner → InStep after less new
step_left table after outer less inner new e back len i =
    let r : AreLogs (length table) nothing less × IsLog (length table) (told_scopes nothing less) new = logs_front (length table) nothing less new (subst (AreLogs (length table) nothing) e i.logs) in
    let b : Agree (told_scopes nothing outer) after [] = back (told_scopes nothing outer) i.last in
    record {
      logs = rw len r.0;
      last = record { log = rw len r.1; tells = λ n. b.tells n ∙ ap (λ ss. told_scopes nothing ss n) e ∙ scopes_append nothing less new n };
    }

pub step_declared : {T : Type 0} (table after : List (Option T)) (outer : List (List (Entry T))) (inner new : List (Entry T)) →
    ((f : ℕ → Option T) → Agree f table inner → Agree f after new) → length table ≤ length after → InStep table outer inner → InStep after outer new
step_declared table after outer inner new more le i = record {
  logs = logs_longer (length table) (length after) nothing outer le i.logs;
  last = more (told_scopes nothing outer) i.last;
}

-- What callers see.

found_in_told : {T : Type 0} (n : NameId) (f : ℕ → Option T) (ds : List (Entry T)) → found_in n (f n.0) (map pair_of ds) ≡ told_all f ds n.0
found_in_told n f [] = refl
found_in_told n f (d ∷ ds) = found_in_told n (told f d) ds

found_behind_told : {T : Type 0} (n : NameId) (f : ℕ → Option T) (ss : List (List (Entry T))) → found_behind n (f n.0) (map (map pair_of) ss) ≡ told_scopes f ss n.0
found_behind_told n f [] = refl
found_behind_told n f (s ∷ ss) = ap (λ b. found_behind n b (map (map pair_of) ss)) (found_in_told n f s) ∙ found_behind_told n (told_all f s) ss

found_behind_append : {T : Type 0} (n : NameId) (b : Option T) (ss : List (Scope T)) (s : Scope T) → found_behind n b (ss ++ s ∷ []) ≡ found_in n (found_behind n b ss) s
found_behind_append n b [] s = refl
found_behind_append n b (t ∷ ss) s = found_behind_append n (found_in n b t) ss s

pub found_told : {T : Type 0} (table : List (Option T)) (outer : List (List (Entry T))) (inner : List (Entry T)) (n : NameId) → InStep table outer inner →
    get_or table n.0 None ≡ found (map (map pair_of) outer ++ map pair_of inner ∷ []) n
found_told table outer inner n i =
    i.last.tells n.0 ∙ sym (found_in_told n (told_scopes nothing outer) inner) ∙ ap (λ b. found_in n b (map pair_of inner)) (sym (found_behind_told n nothing outer))
    ∙ sym (found_behind_append n None (map (map pair_of) outer) (map pair_of inner))

map_last : {T : Type 0} (ss : List (List (Entry T))) (s : List (Entry T)) → map (map pair_of) (ss ++ s ∷ []) ≡ map (map pair_of) ss ++ map pair_of s ∷ []
map_last [] s = refl
map_last (t ∷ ss) s = ap (λ r. map pair_of t ∷ r) (map_last ss s)

pub seen_entered : {T : Type 0} (outer more : List (List (Entry T))) (inner new : List (Entry T)) → more ≡ outer ++ inner ∷ [] → new ≡ [] →
    map (map pair_of) more ++ map pair_of new ∷ [] ≡ (map (map pair_of) outer ++ map pair_of inner ∷ []) ++ [] ∷ []
seen_entered outer more inner new e s = rw (e, s) (ap (λ r. r ++ [] ∷ []) (map_last outer inner))

pub seen_left : {T : Type 0} (outer less : List (List (Entry T))) (inner new : List (Entry T)) → outer ≡ less ++ new ∷ [] →
    map (map pair_of) outer ++ map pair_of inner ∷ [] ≡ (map (map pair_of) less ++ map pair_of new ∷ []) ++ map pair_of inner ∷ []
seen_left outer less inner new e = ap (λ ss. map (map pair_of) ss ++ map pair_of inner ∷ []) e ∙ ap (λ r. r ++ map pair_of inner ∷ []) (map_last less new)

pub declared_last : {T : Type 0} (n : NameId) (v : T) (ss : List (Scope T)) (s : Scope T) → declared n v (ss ++ s ∷ []) ≡ ss ++ (s ++ (n, v) ∷ []) ∷ []
declared_last n v [] s = refl
declared_last n v (t ∷ []) s = refl
declared_last n v (t ∷ u ∷ ss) s = ap (λ r. t ∷ r) (declared_last n v (u ∷ ss) s)

pub seen_declared : {T : Type 0} (outer : List (List (Entry T))) (inner new : List (Entry T)) (n : NameId) (v : T) → map pair_of new ≡ map pair_of inner ++ (n, v) ∷ [] →
    map (map pair_of) outer ++ map pair_of new ∷ [] ≡ declared n v (map (map pair_of) outer ++ map pair_of inner ∷ [])
seen_declared outer inner new n v e = ap (λ s. map (map pair_of) outer ++ s ∷ []) e ∙ sym (declared_last n v (map (map pair_of) outer) (map pair_of inner))

pub step_opened : {T X E : Type 0} (r : Result X E) (table : List (Option T)) (outer more : List (List (Entry T))) (inner new : List (Entry T)) →
    OnOk r ((more ≡ outer ++ inner ∷ []) × (new ≡ [])) → OnErr r ((more ≡ outer) × (new ≡ inner)) → InStep table outer inner → InStep table more new
step_opened (Ok x) table outer more inner new ok err i = step_entered table outer more inner new ok.0 ok.1 i
step_opened (Err e) table outer more inner new ok err i = rw (err.0, err.1) i

pub step_or_same : {T X E : Type 0} (r : Result X E) (outer : List (List (Entry T))) (inner new : List (Entry T)) (n : NameId) (v : T) (seen : List (Scope T)) →
    OnOk r (map pair_of new ≡ map pair_of inner ++ (n, v) ∷ []) → map (map pair_of) outer ++ map pair_of inner ∷ [] ≡ seen →
    OnOk r (map (map pair_of) outer ++ map pair_of new ∷ [] ≡ declared n v seen)
step_or_same (Ok x) outer inner new n v seen ok e = seen_declared outer inner new n v ok ∙ ap (declared n v) e
step_or_same (Err y) outer inner new n v seen ok e = tt
