-- Device: names by number. A name that is an identifier is in the pool, and equal texts of a pool have equal numbers.
use Rattle.std.proofs.Common.{◌≡◌, ℕ, zero, suc, ◌<◌, ◌≤◌, Bool, true, false, ◌&&◌, ◌||◌, not, nat_eq, Some, List, [], ◌∷◌, ◌++◌, length, drop, map, get_or, slice_get, slice_index_or, refl, sym, ap, ◌∙◌, arith, append_assoc, eqb-true, eq-eqb, ◌⊎◌, inl, inr}
use Rattle.std.proofs.lemmas.Option.{slice_get-get_or}
use Rattle.std.proofs.lemmas.Slice.Eq.{bytes_eq-Decides}
use Rattle.std.specs.List.{list_all, list_any}
use Rattle.std.specs.Str.{bytes_eq}
use Rattle.cil_base.specs.declared.numbers.NameId.{NameId}
use Rattle.cil_base.specs.NamePool.{IsOnceEach}
use Rattle.cil_tree.specs.View.{text_at}
use Rattle.cil_tree.specs.Names.{is_name, is_plain_name, is_builtin, is_among, are_different}
use Rattle.cil_check.specs.NameLists.{number, AllIn}
use Rattle.cil_check.specs.Sets.{distinct, fresh}
use Rattle.cil_check.proofs.SetLaws.{fresh_is}
use Rattle.cil_check.proofs.TypeSteps.{cases}

both : (p q : Bool) → p && q ≡ true → (p ≡ true) × (q ≡ true)
both true q e = (refl, e)
both false q e = cc

past : (texts : List (List ℕ)) (i : ℕ) → length texts ≤ i → slice_index_or texts i [] ≡ []
past [] i h = refl
past (t ∷ ts) zero h = absurd (omega arith)
past (t ∷ ts) (suc i) h = past ts i (omega arith)

-- a name is in the pool
pub named_in : (texts : List (List ℕ)) (n : NameId) → is_name (text_at texts n) ≡ true → n.0 < length texts
named_in texts n e = by (cases (length texts) n.0)
  where
    by : (length texts ≤ n.0) ⊎ (n.0 < length texts) → n.0 < length texts
    by (inl h) = let no : false ≡ true = sym (ap is_name (past texts n.0 h)) ∙ e in absurd (cc)
    by (inr h) = h

pub plain_in : (texts : List (List ℕ)) (n : NameId) → is_plain_name (text_at texts n) ≡ true → n.0 < length texts
plain_in texts n e = named_in texts n (both (is_name (text_at texts n)) (not (is_builtin (text_at texts n))) e).0

pub all_named_in : (texts : List (List ℕ)) (ns : List NameId) → list_all is_name (map (text_at texts) ns) ≡ true → AllIn (length texts) ns
all_named_in texts [] e = tt
all_named_in texts (n ∷ ns) e = let h = both (is_name (text_at texts n)) (list_all is_name (map (text_at texts) ns)) e in (named_in texts n h.0, all_named_in texts ns h.1)

pub all_plain_in : (texts : List (List ℕ)) (ns : List NameId) → list_all is_plain_name (map (text_at texts) ns) ≡ true → AllIn (length texts) ns
all_plain_in texts [] e = tt
all_plain_in texts (n ∷ ns) e = let h = both (is_plain_name (text_at texts n)) (list_all is_plain_name (map (text_at texts) ns)) e in (plain_in texts n h.0, all_plain_in texts ns h.1)

-- two names of the pool have one text where they have one number
alike_is : (texts : List (List ℕ)) (m n : NameId) → IsOnceEach texts → m.0 < length texts → n.0 < length texts → nat_eq m.0 n.0 ≡ bytes_eq (text_at texts m) (text_at texts n)
alike_is texts m n once h k = by (nat_eq m.0 n.0) (bytes_eq (text_at texts m) (text_at texts n)) refl refl
  where
    by : (p q : Bool) → nat_eq m.0 n.0 ≡ p → bytes_eq (text_at texts m) (text_at texts n) ≡ q → p ≡ q
    by true true a b = refl
    by false false a b = refl
    by true false a b =
        let same : m.0 ≡ n.0 = eqb-true m.0 n.0 a in
        sym ((bytes_eq-Decides (text_at texts m) (text_at texts n)).1 (ap (λ (i : ℕ). slice_index_or texts i []) same)) ∙ b
    by false true a b =
        let texts_same : text_at texts m ≡ text_at texts n = (bytes_eq-Decides (text_at texts m) (text_at texts n)).0 b in
        let left : slice_get texts m.0 ≡ Some (text_at texts m) = slice_get-get_or texts m.0 [] h in
        let right : slice_get texts n.0 ≡ Some (text_at texts m) = slice_get-get_or texts n.0 [] k ∙ ap Some (sym texts_same) in
        let same : m.0 ≡ n.0 = once.once m.0 n.0 (text_at texts m) left right in
        sym a ∙ eq-eqb m.0 n.0 same

pub any_alike : (texts : List (List ℕ)) (n : NameId) (ns : List NameId) → IsOnceEach texts → n.0 < length texts → AllIn (length texts) ns → list_any (nat_eq n.0) (map number ns) ≡ is_among (map (text_at texts) ns) (text_at texts n)
any_alike texts n [] once h a = refl
any_alike texts n (m ∷ ns) once h a = ap (λ b. b || list_any (nat_eq n.0) (map number ns)) (alike_is texts n m once h a.0) ∙ ap (λ b. bytes_eq (text_at texts n) (text_at texts m) || b) (any_alike texts n ns once h a.1)

distinct_is : (texts : List (List ℕ)) (ns : List NameId) → IsOnceEach texts → AllIn (length texts) ns → distinct nat_eq (map number ns) ≡ are_different (map (text_at texts) ns)
distinct_is texts [] once a = refl
distinct_is texts (n ∷ ns) once a = ap (λ b. not b && distinct nat_eq (map number ns)) (any_alike texts n ns once a.0 a.1) ∙ ap (λ b. not (is_among (map (text_at texts) ns) (text_at texts n)) && b) (distinct_is texts ns once a.1)

alike_both : (m n : ℕ) → nat_eq m n ≡ nat_eq n m
alike_both m n = grind arith

-- the texts of names of the pool are different where each number is fresh
pub different_is : (texts : List (List ℕ)) (ns : List NameId) → IsOnceEach texts → AllIn (length texts) ns → fresh nat_eq [] (map number ns) ≡ are_different (map (text_at texts) ns)
different_is texts ns once a = fresh_is nat_eq alike_both (map number ns) ∙ distinct_is texts ns once a

-- from one name on
pub fresh_next : (seen : List ℕ) (ns : List NameId) (i : ℕ) (d : NameId) → i < length ns → fresh nat_eq seen (map number (drop i ns)) ≡ not (list_any (nat_eq (get_or ns i d).0) seen) && fresh nat_eq (seen ++ (get_or ns i d).0 ∷ []) (map number (drop (suc i) ns))
fresh_next seen [] i d h = absurd (omega arith)
fresh_next seen (n ∷ ns) zero d h = refl
fresh_next seen (n ∷ ns) (suc i) d h = fresh_next seen ns i d (omega arith)

pub seen_next : (seen : List ℕ) (ns : List NameId) (i : ℕ) (d : NameId) → i < length ns → seen ++ map number (drop i ns) ≡ (seen ++ (get_or ns i d).0 ∷ []) ++ map number (drop (suc i) ns)
seen_next seen [] i d h = absurd (omega arith)
seen_next seen (n ∷ ns) zero d h = sym (append_assoc seen (n.0 ∷ []) (map number ns))
seen_next seen (n ∷ ns) (suc i) d h = seen_next seen ns i d (omega arith)
