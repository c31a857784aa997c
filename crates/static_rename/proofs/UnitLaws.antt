-- Device: units get their names one by one.
use Rattle.std.proofs.Common.{◌≡◌, ℕ, zero, suc, ◌+◌, ◌<◌, ◌≤◌, Bool, List, [], ◌∷◌, ◌++◌, Some, map, length, get_or, slice_get, slice_set, refl, sym, ap, ◌∙◌, subst, arith, Global}
use Rattle.std.specs.declared.vec.Vec.{Vec}
use Rattle.cil_base.specs.declared.names.Bases.{Bases}
use Rattle.cil_base.specs.declared.numbers.AggId.{AggId}
use Rattle.cil_base.specs.declared.numbers.NameId.{NameId}
use Rattle.cil_base.specs.declared.numbers.UnitNo.{UnitNo}
use Rattle.cil_base.specs.NamePool.{NumbersBases, Stays}
use Rattle.cil_base.specs.HostNames.{host_names}
use Rattle.cil_tree.specs.declared.globals.GlobalDecl.{GlobalDecl}
use Rattle.typed_tree.specs.declared.units.Ordinary.{Ordinary}
use Rattle.type_iso.specs.declared.class_table.Classes.{Classes}
use Rattle.link_names.specs.declared.units.Fronted.{Fronted}
use Rattle.static_rename.specs.declared.files.Filed.{Filed}
use Rattle.fresh_names.specs.Naming.{AreNamed}
use Rattle.static_rename.specs.Files.{AreKept, named_in, things_in, wishes_of, with_given}
use Rattle.static_rename.specs.Filing.{things_of, names_of, FilesAll}
use Rattle.static_rename.specs.Within.{Each, IsNamedWithin}
use Rattle.static_rename.specs.Tags.{NamedClasses, standing_from, all_standing, class_wish, given_from, enumerators_of}
use Rattle.static_rename.specs.Tagging.{given_filed}
use Rattle.static_rename.specs.Renamed.{AreRetagged, IsNamedUnit, AreNamedUnits, joined, AreRenamed}
use Rattle.static_rename.specs.Unit.{NamesUnit, AreUnits}
use Rattle.static_rename.proofs.EachLaws.{UpTo, each_next}
use Rattle.static_rename.proofs.BodyLaws.{within_stays}
use Rattle.static_rename.proofs.KeptLaws.{texts_stay}
use Rattle.static_rename.proofs.TagLaws.{given_same}
use Rattle.fresh_names.proofs.NamingLaws.{are_named_stay, are_new, stays_twice}

-- units

each_stays : (file : List NameId) (p q : List (List ℕ)) (bases : Bases) (xs ys : List GlobalDecl) → Stays p q → Each (IsNamedWithin file p bases) xs ys → Each (IsNamedWithin file q bases) xs ys
each_stays file p q bases [] [] h all = tt
each_stays file p q bases [] (y ∷ ys) h all = absurd all
each_stays file p q bases (x ∷ xs) [] h all = absurd all
each_stays file p q bases (x ∷ xs) (y ∷ ys) h all = (within_stays file p q bases h x y all.0, each_stays file p q bases xs ys h all.1)

unit_stays : (t : NamedClasses) (v : ℕ) (file : List NameId) (p q : List (List ℕ)) (bases : Bases) (things : List Ordinary) (names : List NameId) (old new : Fronted) → Stays p q → IsNamedUnit t v file p bases things names old new → IsNamedUnit t v file q bases things names old new
unit_stays t v file p q bases things names old new h u = record { globals = each_stays file p q bases _ new.cil.globals.items h u.globals; types = u.types; sites_stay = u.sites_stay; ordinary_stay = u.ordinary_stay }

found_same : {T : Type 0} (xs : List T) (i : ℕ) (x y : T) → x ≡ get_or xs i x → slice_get xs i ≡ Some y → i < length xs → x ≡ y
found_same [] i x y e f less = absurd (omega arith)
found_same (z ∷ xs) zero x y e f less = cc
found_same (z ∷ xs) (suc i) x y e f less = found_same xs i x y e f (omega arith)

pub unit_next : (t : NamedClasses) (file : List NameId) (p q : List (List ℕ)) (bases : Bases) (filed : List Filed) (u : ℕ) (f : Filed) (xs ys : List Fronted) (d y : Fronted) → u < length xs → u < length filed → f ≡ get_or filed u f → Stays p q
    → UpTo (NamesUnit t file p bases filed) u xs ys → IsNamedUnit t u file q bases f.things.items f.names.items (get_or ys u d) y → UpTo (NamesUnit t file q bases filed) (u + 1) xs (slice_set ys u y)
unit_next t file p q bases filed u f xs ys d y less few is h before one =
    each_next (NamesUnit t file p bases filed) (NamesUnit t file q bases filed) u xs ys d y (λ k a b before g e. unit_stays t k file p q bases g.things.items g.names.items a b h (before g e)) less before
    (λ g e. subst (λ (x : Filed). IsNamedUnit t u file q bases x.things.items x.names.items (get_or ys u d) y) (found_same filed u f g is e few) one)

units_all : (t : NamedClasses) (v : ℕ) (file : List NameId) (pool : List (List ℕ)) (bases : Bases) (filed : List Filed) (u : ℕ) (P : ℕ → Fronted → Fronted → Type 0)
    → ((k : ℕ) (x y : Fronted) → P k x y → (f : Filed) → slice_get filed k ≡ Some f → IsNamedUnit t (v + k) file pool bases f.things.items f.names.items x y)
    → (xs ys : List Fronted) → length xs ≤ u → length filed ≡ length xs → UpTo P u xs ys → AreUnits t v file pool bases filed xs ys
units_all t v file pool bases [] u P h [] [] past many all = tt
units_all t v file pool bases [] u P h [] (y ∷ ys) past many all = absurd all
units_all t v file pool bases [] u P h (x ∷ xs) ys past many all = absurd (omega (arith, many))
units_all t v file pool bases (f ∷ filed) u P h [] ys past many all = absurd (omega (arith, many))
units_all t v file pool bases (f ∷ filed) u P h (x ∷ xs) [] past many all = absurd all
units_all t v file pool bases (f ∷ filed) zero P h (x ∷ xs) (y ∷ ys) past many all = absurd (omega arith)
units_all t v file pool bases (f ∷ filed) (suc u) P h (x ∷ xs) (y ∷ ys) past many all =
    let first : v + 0 ≡ v = omega arith in (
      subst (λ k. IsNamedUnit t k file pool bases f.things.items f.names.items x y) first (h 0 x y all.0 f refl),
      units_all t (suc v) file pool bases filed u (λ k. P (suc k)) (λ k a b p g e. let next : v + suc k ≡ suc v + k = omega arith in subst (λ j. IsNamedUnit t j file pool bases g.things.items g.names.items a b) next (h (suc k) a b p g e)) xs ys (omega arith) (omega (arith, many)) all.1,
    )

pub units_of : (t : NamedClasses) (file : List NameId) (pool : List (List ℕ)) (bases : Bases) (filed : List Filed) (u : ℕ) (xs ys : List Fronted) → length xs ≤ u → length filed ≡ length xs → UpTo (NamesUnit t file pool bases filed) u xs ys → AreUnits t 0 file pool bases filed xs ys
units_of t file pool bases filed u xs ys past many all =
    units_all t 0 file pool bases filed u (NamesUnit t file pool bases filed) (λ k x y p f e. let same : k ≡ 0 + k = omega arith in subst (λ j. IsNamedUnit t j file pool bases f.things.items f.names.items x y) same (p f e)) xs ys past many all

-- all together

first_same : {T : Type 0} (x y : T) (xs ys : List T) → x ∷ xs ≡ y ∷ ys → x ≡ y
first_same x y xs ys e = ap (λ zs. get_or zs 0 x) e

rest_same : {T : Type 0} (x y : T) (xs ys : List T) → x ∷ xs ≡ y ∷ ys → xs ≡ ys
rest_same x y xs ys e = ap tail e
  where
    tail : {T : Type 0} → List T → List T
    tail [] = []
    tail (z ∷ zs) = zs

abbrev names_lists : List Filed → List (List NameId)
names_lists fs = map (λ f. f.names.items) fs

names_joined : (fs : List Filed) → joined (names_lists fs) ≡ names_of fs
names_joined [] = refl
names_joined (f ∷ fs) = ap (λ ns. f.names.items ++ ns) (names_joined fs)

named_units : (t : NamedClasses) (v : ℕ) (file : List NameId) (pool : List (List ℕ)) (bases : Bases) (stands : List (List Bool)) (filed : List Filed) (old new : List Fronted) → things_of filed ≡ things_in stands old → length stands ≡ length old → AreUnits t v file pool bases filed old new
    → AreNamedUnits t v file pool bases stands (names_lists filed) old new
named_units t v file pool bases [] [] [] [] things many all = tt
named_units t v file pool bases [] [] [] (y ∷ new) things many all = absurd all
named_units t v file pool bases [] [] (x ∷ old) new things many all = absurd (omega (arith, many))
named_units t v file pool bases [] (f ∷ filed) [] new things many all = absurd all
named_units t v file pool bases [] (f ∷ filed) (x ∷ old) new things many all = absurd (omega (arith, many))
named_units t v file pool bases (s ∷ stands) [] [] new things many all = absurd (omega (arith, many))
named_units t v file pool bases (s ∷ stands) [] (x ∷ old) new things many all = absurd all
named_units t v file pool bases (s ∷ stands) (f ∷ filed) [] new things many all = absurd all
named_units t v file pool bases (s ∷ stands) (f ∷ filed) (x ∷ old) [] things many all = absurd all
named_units t v file pool bases (s ∷ stands) (f ∷ filed) (x ∷ old) (y ∷ new) things many all = (
  subst (λ os. IsNamedUnit t v file pool bases os f.names.items x y) (first_same f.things.items (named_in s x) (things_of filed) (things_in stands old) things) all.0,
  named_units t (suc v) file pool bases stands filed old new (rest_same f.things.items (named_in s x) (things_of filed) (things_in stands old) things) (omega (arith, many)) all.1,
)

bases_stay : (p q : List (List ℕ)) (bases : Bases) → Stays p q → NumbersBases p bases → NumbersBases q bases
bases_stay p q bases h is = record { literal = h _ _ is.literal; tagless = h _ _ is.tagless; temporary = h _ _ is.temporary; label = h _ _ is.label }

kept_stay : (externals : List NameId) (p q : List (List ℕ)) (taken : List NameId) → Stays p q → AreKept externals p taken → AreKept externals q taken
kept_stay externals p q taken h kept = record { hosts = kept.hosts; texts = texts_stay p q kept.hosts host_names h kept.texts; taken_are = kept.taken_are }

pub renamed_all : (k : Classes) (externals : List NameId) (a b c d e : List (List ℕ)) (bases : Bases) (kept after file : List NameId) (next : List (NameId × ℕ)) (filed : List Filed) (tags : List NameId) (enumerators : List (List NameId)) (old new : List Fronted)
    → NumbersBases a bases → Stays a b → AreKept externals b kept → FilesAll bases (standing_from k 0 old) old kept after next b c filed → length (standing_from k 0 old) ≡ length old
    → enumerators ≡ enumerators_of k (given_filed 0 filed) old 0 (all_standing k) → Stays c d → AreNamed [] d (map (class_wish bases old) (all_standing k)) tags → file ≡ after → Stays d e
    → AreUnits (record { classes = k; tags = tags; enumerators = enumerators }) 0 file e bases filed old new
    → AreRenamed k externals e old new
renamed_all k externals a b c d e bases kept after file next filed tags enumerators old new numbers first keeps files many named_enumerators tagging tagged same last units =
    let late : Stays c e = stays_twice c d e tagging last in
    let later : Stays b e = stays_twice b c e files.names.stays late in
    let given : AreNamed kept c (wishes_of bases (standing_from k 0 old) old) (joined (names_lists filed)) = subst (λ ns. AreNamed kept c (wishes_of bases (standing_from k 0 old) old) ns) (sym (names_joined filed)) files.names.named in
    let all : file ≡ kept ++ joined (names_lists filed) = same ∙ files.names.taken ∙ ap (λ ns. kept ++ ns) (sym (names_joined filed)) in
    let types : NamedClasses = record { classes = k; tags = tags; enumerators = enumerators } in
    record {
      bases = bases;
      bases_are = bases_stay a e bases (stays_twice a b e first later) numbers;
      kept = kept;
      kept_are = kept_stay externals b e kept later keeps;
      names = names_lists filed;
      given = are_named_stay kept c e (wishes_of bases (standing_from k 0 old) old) (joined (names_lists filed)) late given;
      distinct = are_new kept c (wishes_of bases (standing_from k 0 old) old) (joined (names_lists filed)) given;
      tags = tags;
      tags_are = are_named_stay [] d e (map (class_wish bases old) (all_standing k)) tags last tagged;
      tags_distinct = are_new [] d (map (class_wish bases old) (all_standing k)) tags tagged;
      enumerators = enumerators;
      enumerators_are = named_enumerators ∙ ap (λ gs. enumerators_of k gs old 0 (all_standing k)) (given_same 0 filed ∙ ap (λ os. given_from 0 os (names_lists filed)) files.things);
      units = subst (λ ns. AreNamedUnits types 0 ns e bases (standing_from k 0 old) (names_lists filed) old new) all (named_units types 0 file e bases (standing_from k 0 old) filed old new files.things many units);
    }

pub unit_named : (t : NamedClasses) (u : ℕ) (file : List NameId) (q : List (List ℕ)) (bases : Bases) (things : List Ordinary) (names : List NameId) (old new : Fronted) (mid : List GlobalDecl) → mid ≡ with_given things names old.cil.globals.items → AreRetagged t u old.cil.graph new.cil.graph
    → Each (IsNamedWithin file q bases) mid new.cil.globals.items → new.sites ≡ old.sites → new.ordinary ≡ old.ordinary → IsNamedUnit t u file q bases things names old new
unit_named t u file q bases things names old new mid is types all sites ordinary = record { globals = subst (λ gs. Each (IsNamedWithin file q bases) gs new.cil.globals.items) is all; types = types; sites_stay = sites; ordinary_stay = ordinary }

standing_many : (c : Classes) (u : ℕ) (fs : List Fronted) → length (standing_from c u fs) ≡ length fs
standing_many c u [] = refl
standing_many c u (f ∷ fs) = ap suc (standing_many c (suc u) fs)

abbrev flags : List (Vec Bool Global) → List (List Bool)
flags ss = map (λ s. s.items) ss

-- the same, where what is read is known to be what was made
pub renamed_read : (k : Classes) (externals : List NameId) (a b c d e : List (List ℕ)) (bases : Bases) (kept after file : List NameId) (next : List (NameId × ℕ)) (stands stands_1 : List (Vec Bool Global)) (filed filed_1 filed_2 : List Filed) (standing standing_1 standing_2 : List (UnitNo × AggId))
    (tags : List NameId) (enumerators : List (List NameId)) (old old_1 old_2 old_3 old_4 new : List Fronted)
    → old_1 ≡ old → old_2 ≡ old → old_3 ≡ old → old_4 ≡ old → stands_1 ≡ stands → filed_1 ≡ filed → filed_2 ≡ filed → standing_1 ≡ standing → standing_2 ≡ standing
    → NumbersBases a bases → Stays a b → AreKept externals b kept → flags stands ≡ standing_from k 0 old_1 → FilesAll bases (flags stands_1) old_2 kept after next b c filed → standing ≡ all_standing k
    → enumerators ≡ enumerators_of k (given_filed 0 filed_1) old_3 0 standing_1 → Stays c d → AreNamed [] d (map (class_wish bases old_4) standing_2) tags → file ≡ after → Stays d e
    → AreUnits (record { classes = k; tags = tags; enumerators = enumerators }) 0 file e bases filed_2 old new
    → AreRenamed k externals e old new
renamed_read k externals a b c d e bases kept after file next stands stands_1 filed filed_1 filed_2 standing standing_1 standing_2 tags enumerators old old_1 old_2 old_3 old_4 new
    same_1 same_2 same_3 same_4 flags_1 files_1 files_2 first second numbers keeps kept_are stand files all named tagging tagged same last units =
    let flagged : flags stands_1 ≡ standing_from k 0 old = ap flags flags_1 ∙ stand ∙ ap (standing_from k 0) same_1 in
    renamed_all k externals a b c d e bases kept after file next filed tags enumerators old new numbers keeps kept_are
    (subst (λ ss. FilesAll bases ss old kept after next b c filed) flagged (subst (λ us. FilesAll bases (flags stands_1) us kept after next b c filed) same_2 files))
    (standing_many k 0 old)
    (named ∙ ap (λ fs. enumerators_of k (given_filed 0 fs) old_3 0 standing_1) files_1 ∙ ap (λ us. enumerators_of k (given_filed 0 filed) us 0 standing_1) same_3 ∙ ap (enumerators_of k (given_filed 0 filed) old 0) (first ∙ all))
    tagging
    (subst (λ ws. AreNamed [] d ws tags) (ap (λ us. map (class_wish bases us) standing_2) same_4 ∙ ap (map (class_wish bases old)) (second ∙ all)) tagged)
    same last (subst (λ fs. AreUnits (record { classes = k; tags = tags; enumerators = enumerators }) 0 file e bases fs old new) files_2 units)
