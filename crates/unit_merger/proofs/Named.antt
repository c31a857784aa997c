-- Device: the places of a refusal of links are those of one identifier, which units declare.
use Rattle.std.proofs.Common.{◌≡◌, ℕ, zero, suc, Bool, ◌&&◌, true, false, cond, if◌then◌else◌, List, [], ◌∷◌, ◌++◌, map, filter, Option, Some, None, IfSome, slice_get, refl, sym, ap, subst, ◌∙◌}
use Rattle.std.specs.List.{AllByRecursion, filter_map, cons_option}
use Rattle.std.proofs.lemmas.Option.{same_Some}
use Rattle.std.proofs.lemmas.Bool.{eqb-true}
use Rattle.cil_base.specs.declared.numbers.NameId.{NameId}
use Rattle.cil_base.specs.declared.numbers.UnitNo.{UnitNo}
use Rattle.cil_base.specs.declared.faults.Place.{Place}
use Rattle.cil_base.specs.declared.faults.Refusal.{Refusal}
use Rattle.cil_base.specs.NamePool.{Stays}
use Rattle.cil_base.proofs.PoolLemmas.{stays_then}
use Rattle.cil_tree.specs.declared.globals.GlobalDecl.{GlobalDecl}
use Rattle.type_graph.specs.Arena.{Graph}
use Rattle.c_lexer.specs.Lexed.{Lexed}
use Rattle.link_names.specs.declared.units.Site.{Site}
use Rattle.link_names.specs.declared.units.Fronted.{Fronted}
use Rattle.link_names.specs.declared.names.LinkedSite.{LinkedSite}
use Rattle.link_names.specs.Linking.{Declared, Linked, same_name, declared_at, declared_in, declared_from, once_each, said_of, strong, first_two, twice, first_twice}
use Rattle.unit_front.specs.Identifiers.{IsIdentifier, IsDeclared, AreDeclared}
use Rattle.unit_front.proofs.Files.{kept}
use Rattle.cil_merge.specs.Merging.{IsSiteOf, IsLinkRefusal, IsRefusal}
use Rattle.unit_merger.specs.Units.{IsPlaceAmong, ArePlacesAmong}
use Rattle.unit_merger.specs.Linking.{AreFronted, IsFrontedAt, names_in, IsNamedAmong, AreNamedAmong}

-- what is said of each name at a site
abbrev AtSite : (NameId → Place → Type 0) → NameId → LinkedSite → Type 0
AtSite P name s = P name s.site.first × IfSome s.site.defined (P name)

abbrev AllSay : (NameId → Place → Type 0) → List Declared → Type 0
AllSay P ds = AllByRecursion (λ (d : Declared). AtSite P d.0 d.1) ds

abbrev AllLinked : (NameId → Place → Type 0) → List Linked → Type 0
AllLinked P ls = AllByRecursion (λ (l : Linked). AllByRecursion (AtSite P l.0) l.1) ls

name_is : (a b : NameId) → same_name a b ≡ true → a ≡ b
name_is a b e = ap (λ (k : ℕ). let m : NameId = record { 0 = k } in m) (eqb-true a.0 b.0 e)

said_named : (P : NameId → Place → Type 0) (n : NameId) (ds : List Declared) → AllSay P ds → AllByRecursion (AtSite P n) (said_of ds n)
said_named P n [] all = tt
said_named P n (d ∷ ds) all = by (said_named P n ds all.1) (same_name n d.0) refl
  where
    by : AllByRecursion (AtSite P n) (said_of ds n) → (b : Bool) → same_name n d.0 ≡ b → AllByRecursion (AtSite P n) (map (λ (e : Declared). e.1) (cond b (d ∷ filter (λ e. same_name n e.0) ds) (filter (λ e. same_name n e.0) ds)))
    by rest true is = (subst (λ m. AtSite P m d.1) (sym (name_is n d.0 is)) all.0, rest)
    by rest false is = rest

grouped_named : (P : NameId → Place → Type 0) (ds : List Declared) (ns : List NameId) → AllSay P ds → AllLinked P (map (λ n. (n, said_of ds n)) ns)
grouped_named P ds [] all = tt
grouped_named P ds (n ∷ ns) all = (said_named P n ds all, grouped_named P ds ns all)

both_say : (P : NameId → Place → Type 0) (xs ys : List Declared) → AllSay P xs → AllSay P ys → AllSay P (xs ++ ys)
both_say P [] ys one two = two
both_say P (x ∷ xs) ys one two = (one.0, both_say P xs ys one.1 two)

site_says : (P : NameId → Place → Type 0) (t : Lexed) (u : UnitNo) (globals : List GlobalDecl) (s : Site) → ((name : NameId) (place : Place) → IsIdentifier t name place → P name place) → IsDeclared t globals s → AllSay P (declared_at u globals s)
site_says P t u globals s named is =
    subst (λ (o : Option GlobalDecl). AllSay P (elim o [ None ↦ [] | Some g ↦ (g.name, record { unit = u; ty = g.ty; site = s }) ∷ [] ])) (sym is.global_is)
    ((named is.global.name s.first is.first, by s.defined is.defined), tt)
  where
    by : (o : Option Place) → IfSome o (IsIdentifier t is.global.name) → IfSome o (P is.global.name)
    by None at = tt
    by (Some place) at = named is.global.name place at

unit_says : (P : NameId → Place → Type 0) (t : Lexed) (u : UnitNo) (globals : List GlobalDecl) (sites : List Site) → ((name : NameId) (place : Place) → IsIdentifier t name place → P name place)
    → ((i : ℕ) (s : Site) → slice_get sites i ≡ Some s → IsDeclared t globals s) → AllSay P (declared_in u globals sites)
unit_says P t u globals [] named declared = tt
unit_says P t u globals (s ∷ sites) named declared =
    both_say P (declared_at u globals s) (declared_in u globals sites) (site_says P t u globals s named (declared 0 s refl)) (unit_says P t u globals sites named (λ i r there. declared (suc i) r there))

-- a unit whose external names are declared at its identifiers
record Tells (P : NameId → Place → Type 0) (f : Fronted) : Type 0 where
  tokens : Lexed
  named : (name : NameId) (place : Place) → IsIdentifier tokens name place → P name place
  declared : AreDeclared tokens f

units_say : (P : NameId → Place → Type 0) (n : ℕ) (fs : List Fronted) → ((i : ℕ) (f : Fronted) → slice_get fs i ≡ Some f → Tells P f) → AllSay P (declared_from n fs)
units_say P n [] each = tt
units_say P n (f ∷ fs) each =
    let it = each 0 f refl in
    both_say P (declared_in (record { 0 = n }) f.cil.globals.items f.sites.items) (declared_from (suc n) fs) (unit_says P it.tokens (record { 0 = n }) f.cil.globals.items f.sites.items it.named it.declared) (units_say P (suc n) fs (λ i g there. each (suc i) g there))

-- the first name that is defined twice

strong_named : (P : NameId → Place → Type 0) (n : NameId) (common : Bool) (s : LinkedSite) → AtSite P n s → IfSome (strong common s.site) (P n)
strong_named P n common s at = by (common && s.site.tentative)
  where
    by : (b : Bool) → IfSome (if b then None else s.site.defined) (P n)
    by true = tt
    by false = at.1

kept_named : (P : NameId → Place → Type 0) (n : NameId) (common : Bool) (ss : List LinkedSite) → AllByRecursion (AtSite P n) ss → AllByRecursion (P n) (filter_map (λ (s : LinkedSite). strong common s.site) ss)
kept_named P n common [] all = tt
kept_named P n common (s ∷ ss) all = by (kept_named P n common ss all.1) (strong common s.site) (strong_named P n common s all.0)
  where
    by : AllByRecursion (P n) (filter_map (λ (s : LinkedSite). strong common s.site) ss) → (o : Option Place) → IfSome o (P n) → AllByRecursion (P n) (cons_option o (filter_map (λ (s : LinkedSite). strong common s.site) ss))
    by rest None is = rest
    by rest (Some place) is = (is, rest)

two_named : (P : NameId → Place → Type 0) (n : NameId) (ps : List Place) (places : Place × Place) → first_two ps ≡ Some places → AllByRecursion (P n) ps → P n places.0 × P n places.1
two_named P n [] places is all = cc
two_named P n (a ∷ []) places is all = cc
two_named P n (a ∷ b ∷ ps) places is all =
    let same : (a, b) ≡ places = same_Some (a, b) places is in
    subst (λ (q : Place × Place). P n q.0 × P n q.1) same (all.0, all.1.0)

-- a name, and what is said of its places
record Both (P : NameId → Place → Type 0) (at : Place) (other : Option Place) : Type 0 where
  name : NameId
  here : P name at
  there : IfSome other (P name)

twice_named : (P : NameId → Place → Type 0) (common : Bool) (ls : List Linked) (places : Place × Place) → first_twice common ls ≡ Some places → AllLinked P ls → Both P places.1 (Some places.0)
twice_named P common [] places is all = cc
twice_named P common (l ∷ ls) places is all = by (λ more. twice_named P common ls places more all.1) (twice common l) refl is
  where
    by : (first_twice common ls ≡ Some places → Both P places.1 (Some places.0)) → (o : Option (Place × Place)) → twice common l ≡ o → (elim o [ None ↦ first_twice common ls | Some found ↦ Some found ]) ≡ Some places → Both P places.1 (Some places.0)
    by rest None e found = rest found
    by rest (Some ps) e found =
        let both = two_named P l.0 (filter_map (λ (s : LinkedSite). strong common s.site) l.1) places (e ∙ found) (kept_named P l.0 common l.1 all.0) in
        record { name = l.0; here = both.1; there = both.0 }

-- the link that is refused

all_at : {X : Type 0} (Q : X → Type 0) (xs : List X) (i : ℕ) (x : X) → AllByRecursion Q xs → slice_get xs i ≡ Some x → Q x
all_at Q [] zero x all is = cc
all_at Q [] (suc i) x all is = cc
all_at Q (y ∷ xs) zero x all is = subst Q (same_Some y x is) all.0
all_at Q (y ∷ xs) (suc i) x all is = all_at Q xs i x all.1 is

site_named : (P : NameId → Place → Type 0) (ls : List Linked) (name unit : ℕ) (place : Place) → AllLinked P ls → (at : IsSiteOf ls name unit place) → P at.among.linked.0 place
site_named P ls name unit place all at =
    let said : AllByRecursion (AtSite P at.among.linked.0) at.among.linked.1 = all_at (λ (l : Linked). AllByRecursion (AtSite P l.0) l.1) ls name at.among.linked all at.among.linked_is in
    let here : AtSite P at.among.linked.0 at.site = all_at (AtSite P at.among.linked.0) at.sites unit at.site (subst (AllByRecursion (AtSite P at.among.linked.0)) at.among.sites_are said) at.site_is in
    subst (P at.among.linked.0) at.place_is here.0

clash_named : (P : NameId → Place → Type 0) (ls : List Linked) (name earlier later : ℕ) (refusal : Refusal) → AllLinked P ls → IsLinkRefusal ls name earlier later refusal → Both P refusal.at refusal.other
clash_named P ls name earlier later refusal all is =
    let one = is.at_is.among.linked in
    let same : is.other_at.among.linked ≡ one = same_Some is.other_at.among.linked one (sym is.other_at.among.linked_is ∙ is.at_is.among.linked_is) in
    record {
      name = one.0;
      here = site_named P ls name later refusal.at all is.at_is;
      there = subst (λ o. IfSome o (P one.0)) (sym is.other_is) (subst (λ (l : Linked). P l.0 is.other) same (site_named P ls name earlier is.other all is.other_at));
    }

refusal_named : (P : NameId → Place → Type 0) (common : Bool) (names : List (List ℕ)) (gs : List Graph) (ls : List Linked) (refusal : Refusal) → AllLinked P ls → IsRefusal (first_twice common ls) names gs ls refusal → Both P refusal.at refusal.other
refusal_named P common names gs ls refusal all is = by (first_twice common ls) refl is
  where
    by : (o : Option (Place × Place)) → first_twice common ls ≡ o → IsRefusal o names gs ls refusal → Both P refusal.at refusal.other
    by None e clash = clash_named P ls clash.name clash.earlier clash.later refusal all clash.refused
    by (Some places) e same = subst (λ (r : Refusal). Both P r.at r.other) (sym same) (twice_named P common ls places e all)

identifier : (units files names pool : List (List ℕ)) (i : ℕ) (f : Fronted) (at : IsFrontedAt units files names i f) → Stays names pool → (name : NameId) (place : Place) → IsIdentifier at.declared.tokens name place → IsNamedAmong units files pool name place
identifier units files names pool i f at stays name place is =
    let all = stays_then at.declared.are.names names pool at.declared.stays stays in
    record {
      among = record {
        source = at.source;
        stands = at.stands;
        tokens = at.declared.tokens;
        are = at.declared.are;
        at = (place.token, is.at);
        file = kept at.declared.are.names pool place (at.declared.within place.token place is.at) all;
      };
      stays = all;
      named = is;
    }

pub are_named : (common : Bool) (units files names pool : List (List ℕ)) (count : ℕ) (gs : List Graph) (fs : List Fronted) (refusal : Refusal) → AreFronted units files names count fs → Stays names pool
    → IsRefusal (first_twice common (names_in fs)) names gs (names_in fs) refusal → AreNamedAmong units files pool refusal
are_named common units files names pool count gs fs refusal are stays is =
    let P : NameId → Place → Type 0 = IsNamedAmong units files pool in
    let all = units_say P 0 fs (λ i f there. (let at = are.each i f there in record { tokens = at.declared.tokens; named = identifier units files names pool i f at stays; declared = at.declared.declared })) in
    let both = refusal_named P common names gs (names_in fs) refusal (grouped_named P (declared_from 0 fs) (once_each (map (λ (d : Declared). d.0) (declared_from 0 fs))) all) is in
    record { name = both.name; at = both.here; other = both.there }

pub are_placed : (units files pool : List (List ℕ)) (refusal : Refusal) → AreNamedAmong units files pool refusal → ArePlacesAmong units files pool refusal
are_placed units files pool refusal named = record { at = named.at.among; other = by refusal.other named.other }
  where
    by : (o : Option Place) → IfSome o (IsNamedAmong units files pool named.name) → IfSome o (IsPlaceAmong units files pool)
    by None is = tt
    by (Some place) is = is.among
