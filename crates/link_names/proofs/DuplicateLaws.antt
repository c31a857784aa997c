-- Device: definitions of a name are looked for one by one.
use Rattle.std.proofs.Common.{◌≡◌, ℕ, zero, suc, ◌+◌, ◌<◌, Bool, List, [], ◌∷◌, Option, Some, None, map, length, drop, get_or, refl, sym, ap, ◌∙◌, add-one, arith}
use Rattle.std.specs.List.{filter_map}
use Rattle.std.specs.Option.{option_map}
use Rattle.cil_base.specs.declared.faults.Place.{Place}
use Rattle.cil_base.specs.declared.faults.Refusal.{Refusal}
use Rattle.link_names.specs.declared.names.LinkedSite.{LinkedSite}
use Rattle.link_names.specs.declared.names.LinkedName.{LinkedName}
use Rattle.link_names.specs.Linking.{Linked, strong, first_two, twice, first_twice, duplicate_of}
use Rattle.link_names.specs.Grouping.{linked_of}

abbrev strongs : Bool → List LinkedSite → List Place
strongs common ss = filter_map (λ (s : LinkedSite). strong common s.site) ss

drop_at : {X : Type 0} (xs : List X) (i : ℕ) (d : X) → i < length xs → drop i xs ≡ get_or xs i d ∷ drop (i + 1) xs
drop_at xs i d h = go xs i h ∙ ap (λ k. get_or xs i d ∷ drop k xs) (sym (add-one i))
  where
    go : (xs : List _) (i : ℕ) → i < length xs → drop i xs ≡ get_or xs i d ∷ drop (suc i) xs
    go [] i h = absurd (omega arith)
    go (x ∷ xs) zero h = refl
    go (x ∷ xs) (suc i) h = go xs i (omega arith)

none_here : (common : Bool) (l : Linked) (ls : List Linked) → None ≡ option_map duplicate_of (twice common l) → first_twice common (l ∷ ls) ≡ first_twice common ls
none_here common l ls e = by (twice common l) e
  where
    by : (o : Option (Place × Place)) → None ≡ option_map duplicate_of o → elim o [ None ↦ first_twice common ls | Some places ↦ Some places ] ≡ first_twice common ls
    by None f = refl
    by (Some p) f = cc

some_here : (common : Bool) (l : Linked) (ls : List Linked) (r : Refusal) → Some r ≡ option_map duplicate_of (twice common l) → Some r ≡ option_map duplicate_of (first_twice common (l ∷ ls))
some_here common l ls r e = by (twice common l) e
  where
    by : (o : Option (Place × Place)) → Some r ≡ option_map duplicate_of o → Some r ≡ option_map duplicate_of (elim o [ None ↦ first_twice common ls | Some places ↦ Some places ])
    by None f = cc
    by (Some p) f = f

names_from : (ns : List LinkedName) (i : ℕ) (n : LinkedName) → i < length ns → n ≡ get_or ns i n → map linked_of (drop i ns) ≡ linked_of n ∷ map linked_of (drop (i + 1) ns)
names_from ns i n h e = ap (map linked_of) (drop_at ns i n h) ∙ ap (λ m. linked_of m ∷ map linked_of (drop (i + 1) ns)) (sym e)

-- a name that is defined twice is the first, where those before it are not
pub twice_found : (common : Bool) (ns : List LinkedName) (i : ℕ) (n : LinkedName) (ss : List LinkedSite) (r : Refusal) → i < length ns → n ≡ get_or ns i n → ss ≡ n.sites.items
    → Some r ≡ option_map duplicate_of (first_two (strongs common ss)) → first_twice common (map linked_of (drop i ns)) ≡ first_twice common (map linked_of ns)
    → Some r ≡ option_map duplicate_of (first_twice common (map linked_of ns))
twice_found common ns i n ss r h e f g inv =
    some_here common (linked_of n) (map linked_of (drop (i + 1) ns)) r (g ∙ ap (λ k. option_map duplicate_of (first_two (strongs common k))) f)
    ∙ ap (option_map duplicate_of) (ap (first_twice common) (sym (names_from ns i n h e)) ∙ inv)

pub twice_passed : (common : Bool) (ns : List LinkedName) (i : ℕ) (n : LinkedName) (ss : List LinkedSite) → i < length ns → n ≡ get_or ns i n → ss ≡ n.sites.items
    → None ≡ option_map duplicate_of (first_two (strongs common ss)) → first_twice common (map linked_of (drop i ns)) ≡ first_twice common (map linked_of ns)
    → first_twice common (map linked_of (drop (i + 1) ns)) ≡ first_twice common (map linked_of ns)
twice_passed common ns i n ss h e f g inv =
    sym (none_here common (linked_of n) (map linked_of (drop (i + 1) ns)) (g ∙ ap (λ k. option_map duplicate_of (first_two (strongs common k))) f))
    ∙ ap (first_twice common) (sym (names_from ns i n h e)) ∙ inv
