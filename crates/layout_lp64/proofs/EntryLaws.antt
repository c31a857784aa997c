-- Device: the layouts of aggregates as they are kept.
use Rattle.std.proofs.Common.{◌≡◌, ℕ, zero, suc, ◌+◌, ◌≤◌, Bool, true, false, eqb, eqb-true, eq-eqb, List, [], ◌∷◌, ◌++◌, length, take, drop, slice_get, Option, Some, None, refl, sym, ap, ◌∙◌, subst, true≢false, arith, length-append}
use Rattle.std.proofs.Math.ListN.{set}
use Rattle.std.proofs.lemmas.List.{map-set}
use Rattle.std.specs.Option.{option_map}
use Rattle.type_graph.specs.declared.layout.Layout.{Layout}
use Rattle.type_graph.specs.Layouts.{AggLayout}
use Rattle.type_graph.proofs.Lists.{get_set_other}
use Rattle.layout_lp64.specs.declared.aggregate_table.Entry.{Entry}
use Rattle.layout_lp64.specs.Entries.{entry_of, entries_of, IsWithin, AreWithin, AddsOffsets}

taken : (xs ys : List ℕ) → take (length ys) (drop (length xs) (xs ++ ys)) ≡ ys
taken [] ys = all ys
  where
    all : (zs : List ℕ) → take (length zs) zs ≡ zs
    all [] = refl
    all (z ∷ zs) = ap (λ (ws : List ℕ). z ∷ ws) (all zs)
taken (x ∷ xs) ys = taken xs ys

-- what is read from the offsets behind the others
pub entry_kept : (old new more : List ℕ) (first count : ℕ) (whole : Layout) → first ≡ length old → count ≡ length more → new ≡ old ++ more → ◌≡◌ {A = AggLayout} (record { whole = whole; offsets = take count (drop first new) }) (record { whole = whole; offsets = more })
entry_kept old new more first count whole f c e =
    let same : take count (drop first new) ≡ more =
    ap (λ n. take n (drop first new)) c ∙ ap (λ n. take (length more) (drop n new)) f ∙ ap (λ (xs : List ℕ). take (length more) (drop (length old) xs)) e ∙ taken old more in
    ap (λ (xs : List ℕ). let l : AggLayout = record { whole = whole; offsets = xs } in l) same

read_same : (xs more : List ℕ) (first count : ℕ) → first + count ≤ length xs → take count (drop first (xs ++ more)) ≡ take count (drop first xs)
read_same xs more zero zero h = refl
read_same [] more zero (suc count) h = absurd (omega arith)
read_same (x ∷ xs) more zero (suc count) h = ap (λ (ws : List ℕ). x ∷ ws) (read_same xs more zero count (omega arith))
read_same [] more (suc first) count h = absurd (omega arith)
read_same (x ∷ xs) more (suc first) count h = read_same xs more first count (omega arith)

entry_stays : (xs more : List ℕ) (o : Option Entry) → IsWithin (length xs) o → option_map (entry_of (xs ++ more)) o ≡ option_map (entry_of xs) o
entry_stays xs more None h = refl
entry_stays xs more (Some e) h = ap (λ (us : List ℕ). let l : Option AggLayout = Some (record { whole = e.whole; offsets = us }) in l) (read_same xs more e.first e.count (h e refl))

entries_stay : (xs more : List ℕ) (es : List (Option Entry)) → AreWithin es (length xs) → entries_of (xs ++ more) es ≡ entries_of xs es
entries_stay xs more [] h = refl
entries_stay xs more (o ∷ es) h =
    ap (λ (l : Option AggLayout). l ∷ entries_of (xs ++ more) es) (entry_stays xs more o (h.each 0 o refl))
    ∙ ap (λ (ls : List (Option AggLayout)). option_map (entry_of xs) o ∷ ls) (entries_stay xs more es (record { each = λ i p q. h.each (suc i) p q }))

-- one entry is given
pub entries_set : (xs ys : List ℕ) (es : List (Option Entry)) (a : ℕ) (o : Option Entry) (l : Option AggLayout) → AreWithin es (length xs) → AddsOffsets xs ys → option_map (entry_of ys) o ≡ l → entries_of ys (set es a o) ≡ set (entries_of xs es) a l
entries_set xs ys es a o l h adds is =
    map-set (option_map (entry_of ys)) es a o
    ∙ ap (λ (ls : List (Option AggLayout)). set ls a (option_map (entry_of ys) o)) (ap (λ (us : List ℕ). entries_of us es) adds.are ∙ entries_stay xs adds.more es h)
    ∙ ap (set (entries_of xs es) a) is

pub within_set : (xs ys : List ℕ) (es : List (Option Entry)) (a : ℕ) (o : Option Entry) → AreWithin es (length xs) → AddsOffsets xs ys → IsWithin (length ys) o → AreWithin (set es a o) (length ys)
within_set xs ys es a o h adds w = record { each = λ i p q. one i p q (eqb i a) refl }
  where
    more : length xs ≤ length ys
    more = omega (arith, ap (λ (us : List ℕ). length us) adds.are, length-append xs adds.more)

    old : (i : ℕ) (p : Option Entry) → slice_get es i ≡ Some p → IsWithin (length ys) p
    old i p q e same = omega (arith, h.each i p q e same, more)

    there : (zs : List (Option Entry)) (i : ℕ) (p q : Option Entry) → slice_get (set zs i p) i ≡ Some q → p ≡ q
    there [] i p q e = cc
    there (z ∷ zs) zero p q e = cc
    there (z ∷ zs) (suc i) p q e = there zs i p q e

    one : (i : ℕ) (p : Option Entry) → slice_get (set es a o) i ≡ Some p → (b : Bool) → eqb i a ≡ b → IsWithin (length ys) p
    one i p q true t = subst (IsWithin (length ys)) (there es a o p (ap (slice_get (set es a o)) (sym (eqb-true i a t)) ∙ q)) w
    one i p q false t = old i p (sym (get_set_other es a i o (λ same. true≢false (sym (eq-eqb i a same) ∙ t))) ∙ q)

pub within_push : (es : List (Option Entry)) (n : ℕ) → AreWithin es n → AreWithin (es ++ None ∷ []) n
within_push es n h = record { each = λ i o q. one es i o q (λ j p r. h.each j p r) }
  where
    one : (zs : List (Option Entry)) (i : ℕ) (o : Option Entry) → slice_get (zs ++ None ∷ []) i ≡ Some o → ((j : ℕ) (p : Option Entry) → slice_get zs j ≡ Some p → IsWithin n p) → IsWithin n o
    one [] zero o q k = λ e same. cc
    one [] (suc i) o q k = cc
    one (z ∷ zs) zero o q k = k zero o q
    one (z ∷ zs) (suc i) o q k = one zs i o q (λ j p r. k (suc j) p r)
