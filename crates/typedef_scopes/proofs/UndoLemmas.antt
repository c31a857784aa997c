-- The log of declarations against the table.
use Rattle.std.proofs.Common.{◌≡◌, refl, sym, ◌∙◌, ap, ℕ, zero, suc, ◌<◌, ◌≤◌, List, [], ◌∷◌, ◌++◌, Bool, false, map, nat_eq, length, get_or, arith, subst, length-append, length-set, Result, Ok, Err, OnOk, OnErr}
use Rattle.std.specs.Prelude.{if◌then◌else◌, slice_set}
use Rattle.std.proofs.lemmas.Grind.{common_steps}
use Rattle.std.proofs.lemmas.Bool.Decides.{nat_tests}
use Rattle.std.proofs.lemmas.List.{length-map}
use Rattle.cil_base.specs.declared.numbers.NameId.{NameId}
use Rattle.typedef_scopes.specs.declared.log.Declaration.{Declaration}
use Rattle.typedef_scopes.specs.Scopes.{Scope, type_in, type_behind, is_type, declared}
use Rattle.typedef_scopes.specs.Undo.{pair_of, told, told_all, told_scopes, IsLog, AreLogs, Agree, nothing, InStep, Grown}

pub grown_same : (xs : List Bool) → Grown xs xs
grown_same xs = record { longer = omega arith; same = λ n. refl }

get_or-false : (xs : List Bool) (n : ℕ) → get_or (xs ++ false ∷ []) n false ≡ get_or xs n false
get_or-false [] zero = refl
get_or-false [] (suc n) = refl
get_or-false (x ∷ xs) zero = refl
get_or-false (x ∷ xs) (suc n) = get_or-false xs n

pub grown_push : (old new more : List Bool) → Grown old new → more ≡ new ++ false ∷ [] → Grown old more
grown_push old new more g e = record {
  longer = let h : length old ≤ length new = g.longer in rw e (omega (arith, length-append new (false ∷ []), h));
  same = λ n. ap (λ xs. get_or xs n false) e ∙ get_or-false new n ∙ g.same n;
}

log_longer : (small big : ℕ) (f : ℕ → Bool) (ds : List Declaration) → small ≤ big → IsLog small f ds → IsLog big f ds
log_longer small big f [] le l = tt
log_longer small big f (d ∷ ds) le l = (omega (arith, l.0), l.1, log_longer small big (told f d) ds le l.2)

log_append : (bound : ℕ) (f : ℕ → Bool) (ds : List Declaration) (d : Declaration) → IsLog bound f ds → d.name.0 < bound → d.was_typedef ≡ told_all f ds d.name.0 → IsLog bound f (ds ++ d ∷ [])
log_append bound f [] d l lt was = (lt, was, tt)
log_append bound f (c ∷ ds) d l lt was = (l.0, l.1, log_append bound (told f c) ds d l.2 lt was)

log_front : (bound : ℕ) (f : ℕ → Bool) (ds : List Declaration) (d : Declaration) → IsLog bound f (ds ++ d ∷ []) → IsLog bound f ds × (d.name.0 < bound) × (d.was_typedef ≡ told_all f ds d.name.0)
log_front bound f [] d l = (tt, l.0, l.1)
log_front bound f (c ∷ ds) d l =
    let r : IsLog bound (told f c) ds × (d.name.0 < bound) × (d.was_typedef ≡ told_all (told f c) ds d.name.0) = log_front bound (told f c) ds d l.2 in
    ((l.0, l.1, r.0), r.1, r.2)

told_append : (f : ℕ → Bool) (ds : List Declaration) (d : Declaration) (n : ℕ) → told_all f (ds ++ d ∷ []) n ≡ told (told_all f ds) d n
told_append f [] d n = refl
told_append f (c ∷ ds) d n = told_append (told f c) ds d n

pub agree_grown : (f : ℕ → Bool) (table more : List Bool) (ds : List Declaration) → Grown table more → Agree f table ds → Agree f more ds
agree_grown f table more ds g a = record {
  log = log_longer (length table) (length more) f ds g.longer a.log;
  tells = λ n. g.same n ∙ a.tells n;
}

-- what a table has behind a change at one place
set_tells : (table : List Bool) (i : ℕ) (b : Bool) (n : ℕ) → i < length table → get_or (slice_set table i b) n false ≡ (if nat_eq i n then b else get_or table n false)
set_tells table i b n lt = grind (arith, common_steps)

pub agree_entered : (f : ℕ → Bool) (table after : List Bool) (ds es : List Declaration) (n : NameId) (is was : Bool) →
    n.0 < length table → was ≡ get_or table n.0 false → after ≡ slice_set table n.0 is → es ≡ ds ++ record { name = n; is_typedef = is; was_typedef = was } ∷ [] →
    Agree f table ds → Agree f after es
agree_entered f table after ds es n is was lt t s e a =
    let d : Declaration = record { name = n; is_typedef = is; was_typedef = was } in
    let len : length after ≡ length table = ap length s ∙ length-set table n.0 is in
    record {
      log = rw (e, len) (log_append (length table) f ds d a.log lt (t ∙ a.tells n.0));
      tells = λ m. ap (λ xs. get_or xs m false) s ∙ set_tells table n.0 is m lt ∙ ap (λ b. if nat_eq n.0 m then is else b) (a.tells m) ∙ sym (ap (λ xs. told_all f xs m) e ∙ told_append f ds d m);
    }

pairs : (xs : List Declaration) (x : Declaration) → map pair_of (xs ++ x ∷ []) ≡ map pair_of xs ++ pair_of x ∷ []
pairs [] x = refl
pairs (y ∷ xs) x = ap (λ r. pair_of y ∷ r) (pairs xs x)

pub pairs_entered : (ds es : List Declaration) (d : Declaration) → es ≡ ds ++ d ∷ [] → map pair_of es ≡ map pair_of ds ++ pair_of d ∷ []
pairs_entered ds es d e = ap (map pair_of) e ∙ pairs ds d

put_case : (i m : ℕ) (g : ℕ → Bool) (is was got : Bool) → was ≡ g i → got ≡ (if nat_eq i m then is else g m) → (if nat_eq i m then was else got) ≡ g m
put_case i m g is was got w q = grind (arith, nat_tests)

pub agree_put_back : (f : ℕ → Bool) (table after : List Bool) (ds es : List Declaration) (d : Declaration) →
    es ≡ ds ++ d ∷ [] → after ≡ slice_set table d.name.0 d.was_typedef → Agree f table es → Agree f after ds
agree_put_back f table after ds es d e s a =
    let r : IsLog (length table) f ds × (d.name.0 < length table) × (d.was_typedef ≡ told_all f ds d.name.0) = log_front (length table) f ds d (subst (IsLog (length table) f) e a.log) in
    let len : length after ≡ length table = ap length s ∙ length-set table d.name.0 d.was_typedef in
    record {
      log = rw len r.0;
      tells = λ m. ap (λ xs. get_or xs m false) s ∙ set_tells table d.name.0 d.was_typedef m r.1
          ∙ put_case d.name.0 m (told_all f ds) d.is_typedef d.was_typedef (get_or table m false) r.2 (a.tells m ∙ ap (λ xs. told_all f xs m) e ∙ told_append f ds d m);
    }

-- Scopes.

scopes_append : (f : ℕ → Bool) (ss : List (List Declaration)) (s : List Declaration) (n : ℕ) → told_scopes f (ss ++ s ∷ []) n ≡ told_all (told_scopes f ss) s n
scopes_append f [] s n = refl
scopes_append f (t ∷ ss) s n = scopes_append (told_all f t) ss s n

logs_append : (bound : ℕ) (f : ℕ → Bool) (ss : List (List Declaration)) (s : List Declaration) → AreLogs bound f ss → IsLog bound (told_scopes f ss) s → AreLogs bound f (ss ++ s ∷ [])
logs_append bound f [] s l m = (m, tt)
logs_append bound f (t ∷ ss) s l m = (l.0, logs_append bound (told_all f t) ss s l.1 m)

logs_front : (bound : ℕ) (f : ℕ → Bool) (ss : List (List Declaration)) (s : List Declaration) → AreLogs bound f (ss ++ s ∷ []) → AreLogs bound f ss × IsLog bound (told_scopes f ss) s
logs_front bound f [] s l = (tt, l.0)
logs_front bound f (t ∷ ss) s l =
    let r : AreLogs bound (told_all f t) ss × IsLog bound (told_scopes (told_all f t) ss) s = logs_front bound (told_all f t) ss s l.1 in
    ((l.0, r.0), r.1)

logs_longer : (small big : ℕ) (f : ℕ → Bool) (ss : List (List Declaration)) → small ≤ big → AreLogs small f ss → AreLogs big f ss
logs_longer small big f [] le l = tt
logs_longer small big f (t ∷ ss) le l = (log_longer small big f t le l.0, logs_longer small big (told_all f t) ss le l.1)

pub begun : (table : List Bool) → table ≡ [] → InStep table [] []
begun table e = record { logs = tt; last = record { log = tt; tells = λ n. ap (λ xs. get_or xs n false) e } }

pub step_entered : (table : List Bool) (outer more : List (List Declaration)) (inner new : List Declaration) → more ≡ outer ++ inner ∷ [] → new ≡ [] → InStep table outer inner → InStep table more new
step_entered table outer more inner new e s i = rw (e, s) (record {
  logs = logs_append (length table) nothing outer inner i.logs i.last.log;
  last = record { log = tt; tells = λ n. i.last.tells n ∙ sym (scopes_append nothing outer inner n) };
})

pub step_left : (table after : List Bool) (outer less : List (List Declaration)) (inner new : List Declaration) → outer ≡ less ++ new ∷ [] →
    ((f : ℕ → Bool) → Agree f table inner → Agree f after []) → length after ≡ length table → InStep table outer inner → InStep after less new
step_left table after outer less inner new e back len i =
    let r : AreLogs (length table) nothing less × IsLog (length table) (told_scopes nothing less) new = logs_front (length table) nothing less new (subst (AreLogs (length table) nothing) e i.logs) in
    let b : Agree (told_scopes nothing outer) after [] = back (told_scopes nothing outer) i.last in
    record {
      logs = rw len r.0;
      last = record { log = rw len r.1; tells = λ n. b.tells n ∙ ap (λ ss. told_scopes nothing ss n) e ∙ scopes_append nothing less new n };
    }

pub step_declared : (table after : List Bool) (outer : List (List Declaration)) (inner new : List Declaration) →
    ((f : ℕ → Bool) → Agree f table inner → Agree f after new) → length table ≤ length after → InStep table outer inner → InStep after outer new
step_declared table after outer inner new more le i = record {
  logs = logs_longer (length table) (length after) nothing outer le i.logs;
  last = more (told_scopes nothing outer) i.last;
}

-- What callers see.

type_in_told : (n : NameId) (f : ℕ → Bool) (ds : List Declaration) → type_in n (f n.0) (map pair_of ds) ≡ told_all f ds n.0
type_in_told n f [] = refl
type_in_told n f (d ∷ ds) = type_in_told n (told f d) ds

type_behind_told : (n : NameId) (f : ℕ → Bool) (ss : List (List Declaration)) → type_behind n (f n.0) (map (map pair_of) ss) ≡ told_scopes f ss n.0
type_behind_told n f [] = refl
type_behind_told n f (s ∷ ss) = ap (λ b. type_behind n b (map (map pair_of) ss)) (type_in_told n f s) ∙ type_behind_told n (told_all f s) ss

type_behind_append : (n : NameId) (b : Bool) (ss : List Scope) (s : Scope) → type_behind n b (ss ++ s ∷ []) ≡ type_in n (type_behind n b ss) s
type_behind_append n b [] s = refl
type_behind_append n b (t ∷ ss) s = type_behind_append n (type_in n b t) ss s

pub is_type_told : (table : List Bool) (outer : List (List Declaration)) (inner : List Declaration) (n : NameId) → InStep table outer inner →
    get_or table n.0 false ≡ is_type (map (map pair_of) outer ++ map pair_of inner ∷ []) n
is_type_told table outer inner n i =
    i.last.tells n.0 ∙ sym (type_in_told n (told_scopes nothing outer) inner) ∙ ap (λ b. type_in n b (map pair_of inner)) (sym (type_behind_told n nothing outer))
    ∙ sym (type_behind_append n false (map (map pair_of) outer) (map pair_of inner))

map_last : (ss : List (List Declaration)) (s : List Declaration) → map (map pair_of) (ss ++ s ∷ []) ≡ map (map pair_of) ss ++ map pair_of s ∷ []
map_last [] s = refl
map_last (t ∷ ss) s = ap (λ r. map pair_of t ∷ r) (map_last ss s)

pub seen_entered : (outer more : List (List Declaration)) (inner new : List Declaration) → more ≡ outer ++ inner ∷ [] → new ≡ [] →
    map (map pair_of) more ++ map pair_of new ∷ [] ≡ (map (map pair_of) outer ++ map pair_of inner ∷ []) ++ [] ∷ []
seen_entered outer more inner new e s = rw (e, s) (ap (λ r. r ++ [] ∷ []) (map_last outer inner))

pub seen_left : (outer less : List (List Declaration)) (inner new : List Declaration) → outer ≡ less ++ new ∷ [] →
    map (map pair_of) outer ++ map pair_of inner ∷ [] ≡ (map (map pair_of) less ++ map pair_of new ∷ []) ++ map pair_of inner ∷ []
seen_left outer less inner new e = ap (λ ss. map (map pair_of) ss ++ map pair_of inner ∷ []) e ∙ ap (λ r. r ++ map pair_of inner ∷ []) (map_last less new)

pub declared_last : (n : NameId) (b : Bool) (ss : List Scope) (s : Scope) → declared n b (ss ++ s ∷ []) ≡ ss ++ (s ++ (n, b) ∷ []) ∷ []
declared_last n b [] s = refl
declared_last n b (t ∷ []) s = refl
declared_last n b (t ∷ u ∷ ss) s = ap (λ r. t ∷ r) (declared_last n b (u ∷ ss) s)

pub seen_declared : (outer : List (List Declaration)) (inner new : List Declaration) (n : NameId) (b : Bool) → map pair_of new ≡ map pair_of inner ++ (n, b) ∷ [] →
    map (map pair_of) outer ++ map pair_of new ∷ [] ≡ declared n b (map (map pair_of) outer ++ map pair_of inner ∷ [])
seen_declared outer inner new n b e = ap (λ s. map (map pair_of) outer ++ s ∷ []) e ∙ sym (declared_last n b (map (map pair_of) outer) (map pair_of inner))

pub more_than_one : (outer : List (List Declaration)) (s : Scope) → 2 ≤ length (map (map pair_of) outer ++ s ∷ []) → 0 < length outer
more_than_one outer s h = omega (arith, simp (length-append, length-map) at h)

two_seen : (more : List (List Declaration)) (s : Scope) → 1 ≤ length more → 2 ≤ length (map (map pair_of) more ++ s ∷ [])
two_seen [] s h = absurd (omega (arith, h))
two_seen (t ∷ []) s h = omega arith
two_seen (t ∷ u ∷ ts) s h = omega (arith, two_seen (u ∷ ts) s (omega arith))

one_entered : (outer : List (List Declaration)) (inner : List Declaration) → 1 ≤ length (outer ++ inner ∷ [])
one_entered [] inner = omega arith
one_entered (t ∷ ts) inner = omega arith

-- where a scope was opened, there are two at least
pub two_opened : {X E : Type 0} (r : Result X E) (outer more : List (List Declaration)) (inner new : List Declaration) →
    OnOk r ((more ≡ outer ++ inner ∷ []) × (new ≡ [])) → OnOk r (2 ≤ length (map (map pair_of) more ++ map pair_of new ∷ []))
two_opened (Ok x) outer more inner new ok = two_seen more (map pair_of new) (subst (λ m. 1 ≤ length m) (sym ok.0) (one_entered outer inner))
two_opened (Err e) outer more inner new ok = tt

pub step_opened : {X E : Type 0} (r : Result X E) (table : List Bool) (outer more : List (List Declaration)) (inner new : List Declaration) →
    OnOk r ((more ≡ outer ++ inner ∷ []) × (new ≡ [])) → OnErr r ((more ≡ outer) × (new ≡ inner)) → InStep table outer inner → InStep table more new
step_opened (Ok x) table outer more inner new ok err i = step_entered table outer more inner new ok.0 ok.1 i
step_opened (Err e) table outer more inner new ok err i = rw (err.0, err.1) i

pub step_or_same : {X E : Type 0} (r : Result X E) (outer : List (List Declaration)) (inner new : List Declaration) (n : NameId) (b : Bool) (seen : List Scope) →
    OnOk r (map pair_of new ≡ map pair_of inner ++ (n, b) ∷ []) → map (map pair_of) outer ++ map pair_of inner ∷ [] ≡ seen →
    OnOk r (map (map pair_of) outer ++ map pair_of new ∷ [] ≡ declared n b seen)
step_or_same (Ok x) outer inner new n b seen ok e = seen_declared outer inner new n b ok ∙ ap (declared n b) e
step_or_same (Err y) outer inner new n b seen ok e = tt
