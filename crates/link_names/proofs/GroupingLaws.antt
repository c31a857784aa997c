-- Device: declarations that are put to those of their names one by one are those of each name together.
use Rattle.std.proofs.Common.{◌≡◌, ℕ, zero, suc, ◌+◌, ◌<◌, Bool, ◌||◌, true, false, cond, not, List, [], ◌∷◌, ◌++◌, map, length, drop, get_or, slice_set, refl, sym, ap, ◌∙◌, add-one, arith, Result, Ok, Err, OnOk}
use Rattle.std.specs.List.{list_any, position_or_len}
use Rattle.std.proofs.lemmas.Bool.{not-true, not-false}
use Rattle.std.proofs.lemmas.List.{map-append}
use Rattle.cil_base.specs.declared.numbers.NameId.{NameId}
use Rattle.cil_base.specs.declared.numbers.UnitNo.{UnitNo}
use Rattle.link_names.specs.declared.units.Site.{Site}
use Rattle.cil_tree.specs.declared.globals.GlobalDecl.{GlobalDecl}
use Rattle.link_names.specs.declared.units.Fronted.{Fronted}
use Rattle.link_names.specs.declared.names.LinkedSite.{LinkedSite}
use Rattle.link_names.specs.declared.names.LinkedName.{LinkedName}
use Rattle.link_names.specs.Linking.{Declared, Linked, same_name, declared_in, declared_from}
use Rattle.link_names.specs.Grouping.{with_site, sites_at, added, added_all, linked_of, names_in}

pub linked_push : (ns : List LinkedName) (n : LinkedName) (id : NameId) (s : LinkedSite) → n.name ≡ id → n.sites.items ≡ s ∷ [] → map linked_of (ns ++ n ∷ []) ≡ map linked_of ns ++ (id, s ∷ []) ∷ []
linked_push ns n id s e f = map-append linked_of ns (n ∷ []) ∙ ap (λ l. map linked_of ns ++ l ∷ []) (ap (λ k. (k, n.sites.items)) e ∙ ap (λ k. (id, k)) f)

pub sites_set : (ns : List LinkedName) (i : ℕ) (m : LinkedName) (s : LinkedSite) (d : LinkedName) → i < length ns → linked_of m ≡ with_site (linked_of (get_or ns i d)) s → map linked_of (slice_set ns i m) ≡ sites_at i s (map linked_of ns)
sites_set [] i m s d h e = absurd (omega arith)
sites_set (n ∷ ns) zero m s d h e = ap (λ l. l ∷ map linked_of ns) e
sites_set (n ∷ ns) (suc i) m s d h e = ap (λ ls. linked_of n ∷ ls) (sites_set ns i m s d (omega arith) e)

pub new_added : (ls : List Linked) (n : NameId) (s : LinkedSite) → list_any (same_name n) (names_in ls) ≡ false → ls ++ (n, s ∷ []) ∷ [] ≡ added ls (n, s)
new_added [] n s e = refl
new_added (l ∷ ls) n s e = by (new_added ls n s) (same_name n l.0) e
  where
    by : (list_any (same_name n) (names_in ls) ≡ false → ls ++ (n, s ∷ []) ∷ [] ≡ added ls (n, s)) → (b : Bool) → (b || list_any (same_name n) (names_in ls)) ≡ false → l ∷ (ls ++ (n, s ∷ []) ∷ []) ≡ cond b (with_site l s ∷ ls) (l ∷ added ls (n, s))
    by rest true f = cc
    by rest false f = ap (λ k. l ∷ k) (rest f)

pub known_added : (ls : List Linked) (n : NameId) (s : LinkedSite) → list_any (same_name n) (names_in ls) ≡ true → sites_at (position_or_len (same_name n) (names_in ls)) s ls ≡ added ls (n, s)
known_added [] n s e = cc
known_added (l ∷ ls) n s e = by (known_added ls n s) (same_name n l.0) e
  where
    by : (list_any (same_name n) (names_in ls) ≡ true → sites_at (position_or_len (same_name n) (names_in ls)) s ls ≡ added ls (n, s)) → (b : Bool) → (b || list_any (same_name n) (names_in ls)) ≡ true
        → sites_at (cond (not b) (1 + position_or_len (same_name n) (names_in ls)) 0) s (l ∷ ls) ≡ cond b (with_site l s ∷ ls) (l ∷ added ls (n, s))
    by rest true f = refl
    by rest false f = let e : 1 + position_or_len (same_name n) (names_in ls) ≡ suc (position_or_len (same_name n) (names_in ls)) = omega arith in ap (λ k. sites_at k s (l ∷ ls)) e ∙ ap (λ k. l ∷ k) (rest f)

pub names_known : (ls : List Linked) (n : NameId) (s : LinkedSite) → list_any (same_name n) (names_in ls) ≡ true → names_in (added ls (n, s)) ≡ names_in ls
names_known [] n s e = cc
names_known (l ∷ ls) n s e = by (names_known ls n s) (same_name n l.0) e
  where
    by : (list_any (same_name n) (names_in ls) ≡ true → names_in (added ls (n, s)) ≡ names_in ls) → (b : Bool) → (b || list_any (same_name n) (names_in ls)) ≡ true → names_in (cond b (with_site l s ∷ ls) (l ∷ added ls (n, s))) ≡ l.0 ∷ names_in ls
    by rest true f = refl
    by rest false f = ap (λ k. l.0 ∷ k) (rest f)

none_of : (n : NameId) (ls : List Linked) (ks : List NameId) (new : Bool) → ks ≡ names_in ls → new ≡ not (list_any (same_name n) ks) → new ≡ true → list_any (same_name n) (names_in ls) ≡ false
none_of n ls ks new e f g = ap (list_any (same_name n)) (sym e) ∙ not-true (list_any (same_name n) ks) (sym f ∙ g)

one_of : (n : NameId) (ls : List Linked) (ks : List NameId) (new : Bool) → ks ≡ names_in ls → new ≡ not (list_any (same_name n) ks) → new ≡ false → list_any (same_name n) (names_in ls) ≡ true
one_of n ls ks new e f g = ap (list_any (same_name n)) (sym e) ∙ not-false (list_any (same_name n) ks) (sym f ∙ g)

on_ok : {T E P Q : Type 0} (r : Result T E) → (P → Q) → OnOk r P → OnOk r Q
on_ok (Ok x) f h = f h
on_ok (Err e) f h = h

-- a site of a name that is new
pub put_new : {T E : Type 0} (r : Result T E) (n : NameId) (s : LinkedSite) (ls after : List Linked) (ks : List NameId) (new : Bool) → ks ≡ names_in ls → new ≡ not (list_any (same_name n) ks) → new ≡ true
    → OnOk r (after ≡ ls ++ (n, s ∷ []) ∷ []) → OnOk r (after ≡ added ls (n, s))
put_new r n s ls after ks new e f g = on_ok r (λ h. h ∙ new_added ls n s (none_of n ls ks new e f g))

pub step_new : {T E : Type 0} (r : Result T E) (n : NameId) (s : LinkedSite) (ls after : List Linked) (ks next : List NameId) (new : Bool) → ks ≡ names_in ls → new ≡ not (list_any (same_name n) ks) → new ≡ true
    → next ≡ cond (list_any (same_name n) ks) ks (ks ++ n ∷ []) → OnOk r (after ≡ ls ++ (n, s ∷ []) ∷ []) → OnOk r (next ≡ names_in after)
step_new r n s ls after ks next new e f g k = on_ok r (λ h.
    k ∙ ap (λ b. cond b ks (ks ++ n ∷ [])) (not-true (list_any (same_name n) ks) (sym f ∙ g)) ∙ ap (λ ms. ms ++ n ∷ []) e ∙ sym (ap names_in h ∙ map-append (λ l. l.0) ls ((n, s ∷ []) ∷ [])))

-- a site of a name that is known
pub put_known : {T E : Type 0} (r : Result T E) (n : NameId) (s : LinkedSite) (ls after : List Linked) (ks : List NameId) (new : Bool) (i : ℕ) → ks ≡ names_in ls → new ≡ not (list_any (same_name n) ks) → new ≡ false
    → i ≡ position_or_len (same_name n) ks → OnOk r (after ≡ sites_at i s ls) → OnOk r (after ≡ added ls (n, s))
put_known r n s ls after ks new i e f g k = on_ok r (λ h. h ∙ ap (λ j. sites_at j s ls) (k ∙ ap (position_or_len (same_name n)) e) ∙ known_added ls n s (one_of n ls ks new e f g))

pub step_known : {T E : Type 0} (r : Result T E) (n : NameId) (s : LinkedSite) (ls after : List Linked) (ks next : List NameId) (new : Bool) (i : ℕ) → ks ≡ names_in ls → new ≡ not (list_any (same_name n) ks) → new ≡ false
    → i ≡ position_or_len (same_name n) ks → next ≡ cond (list_any (same_name n) ks) ks (ks ++ n ∷ []) → OnOk r (after ≡ sites_at i s ls) → OnOk r (next ≡ names_in after)
step_known r n s ls after ks next new i e f g k j = on_ok r (λ h.
    let one = one_of n ls ks new e f g in
    j ∙ ap (λ b. cond b ks (ks ++ n ∷ [])) (ap (list_any (same_name n)) e ∙ one) ∙ e
    ∙ sym (ap names_in (h ∙ ap (λ j. sites_at j s ls) (k ∙ ap (position_or_len (same_name n)) e) ∙ known_added ls n s one) ∙ names_known ls n s one))

added_all-append : (ls : List Linked) (xs ys : List Declared) → added_all ls (xs ++ ys) ≡ added_all (added_all ls xs) ys
added_all-append ls [] ys = refl
added_all-append ls (x ∷ xs) ys = added_all-append (added ls x) xs ys

drop_at : (us : List Fronted) (u : ℕ) (d : Fronted) → u < length us → drop u us ≡ get_or us u d ∷ drop (suc u) us
drop_at [] u d h = absurd (omega arith)
drop_at (f ∷ us) zero d h = refl
drop_at (f ∷ us) (suc u) d h = drop_at us u d (omega arith)

unit_is : (n : UnitNo) (u : ℕ) → n.0 ≡ u → n ≡ record { 0 = u }
unit_is n u e = ap (λ (k : ℕ). let m : UnitNo = record { 0 = k } in m) e

-- what the units say from one on, and from the next
pub next_unit : (us : List Fronted) (u : ℕ) (n : UnitNo) (f : Fronted) (gs : List GlobalDecl) (ss : List Site) (before after start : List Linked)
    → u < length us → n.0 ≡ u → f ≡ get_or us u f → gs ≡ f.cil.globals.items → ss ≡ f.sites.items
    → after ≡ added_all before (declared_in n gs ss) → added_all before (declared_from u (drop u us)) ≡ start → added_all after (declared_from (u + 1) (drop (u + 1) us)) ≡ start
next_unit us u n f gs ss before after start h e is eg es step inv =
    let rest : List Declared = declared_from (suc u) (drop (suc u) us) in
    let here : declared_in n gs ss ≡ declared_in (record { 0 = u }) f.cil.globals.items f.sites.items =
    ap (λ m. declared_in m gs ss) (unit_is n u e) ∙ ap (λ g. declared_in (record { 0 = u }) g ss) eg ∙ ap (declared_in (record { 0 = u }) f.cil.globals.items) es in
    ap (λ k. added_all after (declared_from k (drop k us))) (add-one u)
    ∙ ap (λ ls. added_all ls rest) (step ∙ ap (added_all before) here)
    ∙ sym (added_all-append before (declared_in (record { 0 = u }) f.cil.globals.items f.sites.items) rest)
    ∙ ap (λ (g : Fronted). added_all before (declared_from u (g ∷ drop (suc u) us))) is
    ∙ ap (λ fs. added_all before (declared_from u fs)) (sym (drop_at us u f h)) ∙ inv
