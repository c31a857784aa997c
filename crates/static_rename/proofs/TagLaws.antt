-- Device: classes get their names one by one, and the aggregates of a unit those of their classes.
use Rattle.std.proofs.Common.{◌≡◌, ℕ, zero, suc, ◌+◌, ◌<◌, ◌≤◌, true, false, cond, ◌&&◌, nat_eq, List, [], ◌∷◌, ◌++◌, Option, None, Some, map, length, drop, get_or, slice_get, slice_set, refl, sym, ap, ◌∙◌, add-one, subst, arith, Global}
use Rattle.std.specs.declared.vec.Vec.{Vec}
use Rattle.std.proofs.lemmas.Bool.{and_from, and_left, and_right, eq-eqb, ne_eqb}
use Rattle.std.proofs.lemmas.List.{append_assoc, append-nil}
use Rattle.cil_base.specs.declared.numbers.AggId.{AggId}
use Rattle.cil_base.specs.declared.numbers.NameId.{NameId}
use Rattle.cil_base.specs.declared.numbers.UnitNo.{UnitNo}
use Rattle.type_graph.specs.declared.aggregates.Aggregate.{Aggregate}
use Rattle.type_graph.specs.declared.aggregates.Member.{Member}
use Rattle.type_graph.specs.Arena.{Graph}
use Rattle.type_graph.specs.Growth.{renamed}
use Rattle.typed_tree.specs.declared.units.Ordinary.{Ordinary}
use Rattle.typed_tree.specs.declared.units.Ordinary.TheVariants.{Static, Enumerator}
use Rattle.type_iso.specs.declared.class_table.Classes.{Classes}
use Rattle.type_iso.specs.Classes.{class_in}
use Rattle.link_names.specs.declared.units.Fronted.{Fronted}
use Rattle.static_rename.specs.declared.files.Filed.{Filed}
use Rattle.static_rename.specs.Tags.{members_at, Given, given_in, given_from, is_number, is_enumerator, enumerator_name, enumerators_from, enumerators_of, NamedClasses, names_under, IsTagged, AreTagged}
use Rattle.static_rename.specs.Tagging.{lists, with_enumerator, with_thing, with_things, given_filed, RetagsAt, Retags}
use Rattle.static_rename.specs.Filing.{things_of}
use Rattle.static_rename.specs.Renamed.{AreRetagged}
use Rattle.static_rename.proofs.EachLaws.{UpTo, each_next}
use Rattle.static_rename.proofs.FilingLaws.{drop_at}

-- the names that enumerators have before they get any

abbrev own : List Fronted → UnitNo × AggId → List NameId
own fs at = map (λ m. m.name) (members_at fs at)

-- enumerators get their names one by one

pub enumerator_put : (old new : List (Vec NameId Global)) (k i : ℕ) (n : NameId) (v w : Vec NameId Global) → k < length old → v ≡ get_or old k v → w.items ≡ slice_set v.items i n → new ≡ slice_set old k w
    → lists new ≡ slice_set (lists old) k (slice_set (get_or (lists old) k []) i n)
enumerator_put old new k i n v w less is names put = ap lists put ∙ by old k less is
  where
    by : (vs : List (Vec NameId Global)) (j : ℕ) → j < length vs → v ≡ get_or vs j v → lists (slice_set vs j w) ≡ slice_set (lists vs) j (slice_set (get_or (lists vs) j []) i n)
    by [] j few e = absurd (omega arith)
    by (x ∷ vs) zero few e = ap (λ ns. ns ∷ lists vs) (names ∙ ap (λ (y : Vec NameId Global). slice_set y.items i n) e)
    by (x ∷ vs) (suc j) few e = ap (λ es. x.items ∷ es) (by vs j (omega arith) e)

things_behind : (c : Classes) (gs hs : List Given) (es : List (List NameId)) → with_things c (gs ++ hs) es ≡ with_things c hs (with_things c gs es)
things_behind c [] hs es = refl
things_behind c (g ∷ gs) hs es = things_behind c gs hs (with_thing c g.unit g.thing g.name es)

pub units_next : (c : Classes) (filed : List Filed) (u : ℕ) (f : Filed) (before after start : List (List NameId)) → u < length filed → f ≡ get_or filed u f → after ≡ with_things c (given_in u f.things.items f.names.items) before
    → with_things c (given_filed u (drop u filed)) before ≡ start → with_things c (given_filed (u + 1) (drop (u + 1) filed)) after ≡ start
units_next c filed u f before after start less is step inv =
    ap (λ k. with_things c (given_filed k (drop k filed)) after) (add-one u)
    ∙ ap (with_things c (given_filed (suc u) (drop (suc u) filed))) step
    ∙ sym (things_behind c (given_in u f.things.items f.names.items) (given_filed (suc u) (drop (suc u) filed)) before)
    ∙ ap (λ (g : Filed). with_things c (given_filed u (g ∷ drop (suc u) filed)) before) is
    ∙ ap (λ gs. with_things c (given_filed u gs) before) (sym (drop_at filed u f less)) ∙ inv

-- the names that enumerators got

name_last : (c : Classes) (gs : List Given) (g : Given) (k i : ℕ) (n : NameId) → enumerator_name c (gs ++ g ∷ []) k i n ≡ cond (is_enumerator c k i g.unit g.thing) g.name (enumerator_name c gs k i n)
name_last c [] g k i n = refl
name_last c (h ∷ gs) g k i n = name_last c gs g k i (cond (is_enumerator c k i h.unit h.thing) h.name n)

-- one is given that is not this enumerator, or is this one
name_other : (c : Classes) (gs : List Given) (g : Given) (k i : ℕ) (n : NameId) → is_enumerator c k i g.unit g.thing ≡ false → enumerator_name c (gs ++ g ∷ []) k i n ≡ enumerator_name c gs k i n
name_other c gs g k i n fails = name_last c gs g k i n ∙ ap (λ b. cond b g.name (enumerator_name c gs k i n)) fails

name_this : (c : Classes) (gs : List Given) (g : Given) (k i : ℕ) (n : NameId) → is_enumerator c k i g.unit g.thing ≡ true → enumerator_name c (gs ++ g ∷ []) k i n ≡ g.name
name_this c gs g k i n holds = name_last c gs g k i n ∙ ap (λ b. cond b g.name (enumerator_name c gs k i n)) holds

from_same : (c : Classes) (gs : List Given) (g : Given) (k i : ℕ) (ms : List Member) → ((j : ℕ) → i ≤ j → is_enumerator c k j g.unit g.thing ≡ false) → enumerators_from c (gs ++ g ∷ []) k i ms ≡ enumerators_from c gs k i ms
from_same c gs g k i [] none = refl
from_same c gs g k i (m ∷ ms) none =
    ap (λ n. n ∷ enumerators_from c (gs ++ g ∷ []) k (suc i) ms) (name_other c gs g k i m.name (none i (omega arith)))
    ∙ ap (λ ns. enumerator_name c gs k i m.name ∷ ns) (from_same c gs g k (suc i) ms (λ j low. none j (omega (arith, low))))

from_set : (c : Classes) (gs : List Given) (g : Given) (k i d t : ℕ) (ms : List Member) → t ≡ i + d → is_enumerator c k t g.unit g.thing ≡ true → ((j : ℕ) → (j ≡ t → ⊥) → is_enumerator c k j g.unit g.thing ≡ false)
    → slice_set (enumerators_from c gs k i ms) d g.name ≡ enumerators_from c (gs ++ g ∷ []) k i ms
from_set c gs g k i d t [] e holds fails = refl
from_set c gs g k i zero t (m ∷ ms) e holds fails =
    let same : t ≡ i = omega (arith, e) in
    ap (λ n. n ∷ enumerators_from c gs k (suc i) ms) (sym (name_this c gs g k i m.name (subst (λ j. is_enumerator c k j g.unit g.thing ≡ true) same holds)))
    ∙ ap (λ ns. enumerator_name c (gs ++ g ∷ []) k i m.name ∷ ns) (sym (from_same c gs g k (suc i) ms (λ j low. fails j (λ f. omega (arith, low, f, same)))))
from_set c gs g k i (suc d) t (m ∷ ms) e holds fails =
    ap (λ n. n ∷ slice_set (enumerators_from c gs k (suc i) ms) d g.name) (sym (name_other c gs g k i m.name (fails i (λ f. omega (arith, e, f)))))
    ∙ ap (λ ns. enumerator_name c (gs ++ g ∷ []) k i m.name ∷ ns) (from_set c gs g k (suc i) d t ms (omega (arith, e)) holds fails)

of_same : (c : Classes) (gs : List Given) (g : Given) (fs : List Fronted) (k : ℕ) (ats : List (UnitNo × AggId)) → ((h : ℕ) → k ≤ h → (j : ℕ) → is_enumerator c h j g.unit g.thing ≡ false) → enumerators_of c (gs ++ g ∷ []) fs k ats ≡ enumerators_of c gs fs k ats
of_same c gs g fs k [] none = refl
of_same c gs g fs k (at ∷ ats) none =
    ap (λ ns. ns ∷ enumerators_of c (gs ++ g ∷ []) fs (suc k) ats) (from_same c gs g k 0 (members_at fs at) (λ j low. none k (omega arith) j))
    ∙ ap (λ es. enumerators_from c gs k 0 (members_at fs at) ∷ es) (of_same c gs g fs (suc k) ats (λ h low. none h (omega (arith, low))))

of_set : (c : Classes) (gs : List Given) (g : Given) (fs : List Fronted) (k d t i : ℕ) (ats : List (UnitNo × AggId)) → t ≡ k + d → is_enumerator c t i g.unit g.thing ≡ true
    → ((j : ℕ) → (j ≡ i → ⊥) → is_enumerator c t j g.unit g.thing ≡ false) → ((h : ℕ) → (h ≡ t → ⊥) → (j : ℕ) → is_enumerator c h j g.unit g.thing ≡ false)
    → slice_set (enumerators_of c gs fs k ats) d (slice_set (get_or (enumerators_of c gs fs k ats) d []) i g.name) ≡ enumerators_of c (gs ++ g ∷ []) fs k ats
of_set c gs g fs k d t i [] e holds place class = refl
of_set c gs g fs k zero t i (at ∷ ats) e holds place class =
    let same : t ≡ k = omega (arith, e) in
    ap (λ ns. ns ∷ enumerators_of c gs fs (suc k) ats)
    (from_set c gs g k 0 i i (members_at fs at) (omega arith) (subst (λ h. is_enumerator c h i g.unit g.thing ≡ true) same holds) (λ j n. subst (λ h. is_enumerator c h j g.unit g.thing ≡ false) same (place j n)))
    ∙ ap (λ es. enumerators_from c (gs ++ g ∷ []) k 0 (members_at fs at) ∷ es) (sym (of_same c gs g fs (suc k) ats (λ h low j. class h (λ f. omega (arith, low, f, same)) j)))
of_set c gs g fs k (suc d) t i (at ∷ ats) e holds place class =
    let rest : List (List NameId) = enumerators_of c gs fs (suc k) ats in
    ap (λ ns. ns ∷ slice_set rest d (slice_set (get_or rest d []) i g.name)) (sym (from_same c gs g k 0 (members_at fs at) (λ j low. class k (λ f. omega (arith, e, f)) j)))
    ∙ ap (λ es. enumerators_from c (gs ++ g ∷ []) k 0 (members_at fs at) ∷ es) (of_set c gs g fs (suc k) d t i ats (omega (arith, e)) holds place class)

thing_named : (c : Classes) (gs : List Given) (u : ℕ) (o : Ordinary) (n : NameId) (fs : List Fronted) (ats : List (UnitNo × AggId))
    → with_thing c u o n (enumerators_of c gs fs 0 ats) ≡ enumerators_of c (gs ++ record { unit = u; thing = o; name = n } ∷ []) fs 0 ats
thing_named c gs u (Static e) n fs ats = sym (of_same c gs (record { unit = u; thing = Static e; name = n }) fs 0 ats (λ h low j. refl))
thing_named c gs u (Enumerator a i) n fs ats = by (class_in c u a.0) refl
  where
    by : (k : Option ℕ) → class_in c u a.0 ≡ k → with_enumerator k i n (enumerators_of c gs fs 0 ats) ≡ enumerators_of c (gs ++ record { unit = u; thing = Enumerator a i; name = n } ∷ []) fs 0 ats
    by None e = sym (of_same c gs (record { unit = u; thing = Enumerator a i; name = n }) fs 0 ats (λ h low j. ap (λ o. is_number h o && nat_eq i j) e))
    by (Some k) e = of_set c gs (record { unit = u; thing = Enumerator a i; name = n }) fs 0 k k i ats (omega arith)
        (ap (λ o. is_number k o && nat_eq i i) e ∙ and_from (nat_eq k k) (nat_eq i i) (eq-eqb k k refl) (eq-eqb i i refl))
        (λ j m. ap (λ o. is_number k o && nat_eq i j) e ∙ and_right (nat_eq k k) (nat_eq i j) (ne_eqb i j (λ f. m (sym f))))
        (λ h m j. ap (λ o. is_number h o && nat_eq i j) e ∙ and_left (nat_eq k h) (nat_eq i j) (ne_eqb k h (λ f. m (sym f))))

things_named : (c : Classes) (done gs : List Given) (fs : List Fronted) (ats : List (UnitNo × AggId)) → with_things c gs (enumerators_of c done fs 0 ats) ≡ enumerators_of c (done ++ gs) fs 0 ats
things_named c done [] fs ats = ap (λ d. enumerators_of c d fs 0 ats) (sym (append-nil done))
things_named c done (g ∷ gs) fs ats =
    ap (with_things c gs) (thing_named c done g.unit g.thing g.name fs ats) ∙ things_named c (done ++ g ∷ []) gs fs ats ∙ ap (λ d. enumerators_of c d fs 0 ats) (append_assoc done (g ∷ []) gs)

from_none : (c : Classes) (k i : ℕ) (ms : List Member) → map (λ m. m.name) ms ≡ enumerators_from c [] k i ms
from_none c k i [] = refl
from_none c k i (m ∷ ms) = ap (λ ns. m.name ∷ ns) (from_none c k (suc i) ms)

of_none : (c : Classes) (fs : List Fronted) (k : ℕ) (ats : List (UnitNo × AggId)) → map (own fs) ats ≡ enumerators_of c [] fs k ats
of_none c fs k [] = refl
of_none c fs k (at ∷ ats) = ap (λ ns. ns ∷ map (own fs) ats) (from_none c k 0 (members_at fs at)) ∙ ap (λ es. enumerators_from c [] k 0 (members_at fs at) ∷ es) (of_none c fs (suc k) ats)

pub enumerators_named : (c : Classes) (gs : List Given) (fs : List Fronted) (ats : List (UnitNo × AggId)) (first last : List (List NameId)) → first ≡ map (own fs) ats → last ≡ with_things c gs first → last ≡ enumerators_of c gs fs 0 ats
enumerators_named c gs fs ats first last is put = put ∙ ap (with_things c gs) (is ∙ of_none c fs 0 ats) ∙ things_named c [] gs fs ats

pub given_same : (u : ℕ) (fs : List Filed) → given_filed u fs ≡ given_from u (things_of fs) (map (λ f. f.names.items) fs)
given_same u [] = refl
given_same u (f ∷ fs) = ap (λ gs. given_in u f.things.items f.names.items ++ gs) (given_same (suc u) fs)

-- aggregates get the names of their classes

pub list_is : (all : List (Vec NameId Global)) (k : ℕ) (v : Vec NameId Global) (ns : List NameId) → slice_get all k ≡ Some v → ns ≡ v.items → slice_get (lists all) k ≡ Some ns
list_is [] k v ns e is = cc
list_is (x ∷ all) zero v ns e is = let same : x ≡ v = cc in ap (λ (y : Vec NameId Global). Some y.items) same ∙ ap Some (sym is)
list_is (x ∷ all) (suc k) v ns e is = list_is all k v ns e is

pub retags_one : (t : NamedClasses) (u i class : ℕ) (tag : NameId) (enumerators : List NameId) (old new : Graph) → class_in t.classes u i ≡ Some class → slice_get t.tags class ≡ Some tag → slice_get t.enumerators class ≡ Some enumerators
    → RetagsAt i tag enumerators old new → Retags t u i old new
retags_one t u i class tag enumerators old new is tagged named r = record {
  before = r.aggregate;
  after = renamed r.aggregate tag (names_under enumerators r.aggregate);
  it_is = r.it_is;
  tagged = record { class = class; tag = tag; enumerators = enumerators; class_is = is; tag_is = tagged; enumerators_are = named; new_is = refl };
  new_is = r.new_is;
}

got : {T : Type 0} (xs : List T) (i : ℕ) (x : T) → slice_get xs i ≡ Some x → get_or xs i x ≡ x
got [] i x e = cc
got (y ∷ ys) zero x e = cc
got (y ∷ ys) (suc i) x e = got ys i x e

pub retagged_next : (t : NamedClasses) (u : ℕ) (old now after : Graph) (i : ℕ) → i < length old.aggs → Retags t u i now after → UpTo (IsTagged t u) i old.aggs now.aggs × (now ≡ record old { aggs = now.aggs })
    → UpTo (IsTagged t u) (i + 1) old.aggs after.aggs × (after ≡ record old { aggs = after.aggs })
retagged_next t u old now after i less r before =
    let put : after.aggs ≡ slice_set now.aggs i r.after = ap (λ (g : Graph). g.aggs) r.new_is in (
      subst (UpTo (IsTagged t u) (i + 1) old.aggs) (sym put)
          (each_next (IsTagged t u) (IsTagged t u) i old.aggs now.aggs r.before r.after (λ k a b h. h) less before.0 (subst (λ x. IsTagged t u i x r.after) (sym (got now.aggs i r.before r.it_is)) r.tagged)),
      r.new_is ∙ ap (λ (g : Graph). record g { aggs = slice_set now.aggs i r.after }) before.1 ∙ ap (λ xs. record old { aggs = xs }) (sym put),
    )

tagged_all : (t : NamedClasses) (u a i : ℕ) (P : ℕ → Aggregate → Aggregate → Type 0) → ((k : ℕ) (x y : Aggregate) → P k x y → IsTagged t u (a + k) x y) → (xs ys : List Aggregate) → length xs ≤ i → UpTo P i xs ys → AreTagged t u a xs ys
tagged_all t u a i P h [] [] past all = tt
tagged_all t u a i P h [] (y ∷ ys) past all = absurd all
tagged_all t u a i P h (x ∷ xs) [] past all = absurd all
tagged_all t u a zero P h (x ∷ xs) (y ∷ ys) past all = absurd (omega arith)
tagged_all t u a (suc i) P h (x ∷ xs) (y ∷ ys) past all =
    let first : a + 0 ≡ a = omega arith in (
      subst (λ k. IsTagged t u k x y) first (h 0 x y all.0),
      tagged_all t u (suc a) i (λ k. P (suc k)) (λ k v w p. let next : a + suc k ≡ suc a + k = omega arith in subst (λ j. IsTagged t u j v w) next (h (suc k) v w p)) xs ys (omega arith) all.1,
    )

pub retagged_of : (t : NamedClasses) (u : ℕ) (old new : Graph) (i : ℕ) → length old.aggs ≤ i → UpTo (IsTagged t u) i old.aggs new.aggs → new ≡ record old { aggs = new.aggs } → AreRetagged t u old new
retagged_of t u old new i past all rest = record {
  aggregates = tagged_all t u 0 i (IsTagged t u) (λ k x y p. let same : k ≡ 0 + k = omega arith in subst (λ j. IsTagged t u j x y) same p) old.aggs new.aggs past all;
  rest_stays = rest;
}
