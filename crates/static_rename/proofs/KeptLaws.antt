-- Device: names that are taken before any is given.
use Rattle.std.proofs.Common.{◌≡◌, ℕ, zero, suc, ◌+◌, ◌<◌, Bool, true, false, cond, List, [], ◌∷◌, ◌++◌, Some, map, length, take, get_or, slice_get, sym, ap, ◌∙◌, add-one, subst, arith}
use Rattle.cil_base.specs.declared.numbers.NameId.{NameId}
use Rattle.std.specs.List.{list_any}
use Rattle.std.proofs.lemmas.List.{map-append}
use Rattle.std.specs.Str.{bytes_eq}
use Rattle.cil_base.specs.NamePool.{Interns, Stays}
use Rattle.cil_base.specs.HostNames.{host_names}
use Rattle.fresh_names.specs.Naming.{with_names}
use Rattle.fresh_names.specs.Giving.{start_of, AreTakenBelow}
use Rattle.static_rename.specs.Files.{HaveTexts, AreKept}
use Rattle.static_rename.proofs.FilingLaws.{take_at}

pub texts_stay : (p q : List (List ℕ)) (ns : List NameId) (ts : List (List ℕ)) → Stays p q → HaveTexts p ns ts → HaveTexts q ns ts
texts_stay p q [] [] h all = tt
texts_stay p q [] (t ∷ ts) h all = absurd all
texts_stay p q (n ∷ ns) [] h all = absurd all
texts_stay p q (n ∷ ns) (t ∷ ts) h all = (h n.0 t all.0, texts_stay p q ns ts h all.1)

texts_behind : (q : List (List ℕ)) (ns : List NameId) (ts : List (List ℕ)) (n : NameId) (t : List ℕ) → HaveTexts q ns ts → slice_get q n.0 ≡ Some t → HaveTexts q (ns ++ n ∷ []) (ts ++ t ∷ [])
texts_behind q [] [] n t all e = (e, tt)
texts_behind q [] (s ∷ ts) n t all e = absurd all
texts_behind q (m ∷ ns) [] n t all e = absurd all
texts_behind q (m ∷ ns) (s ∷ ts) n t all e = (all.0, texts_behind q ns ts n t all.1 e)

pub texts_next : {T : Type 0} (f : T → List ℕ) (p q : List (List ℕ)) (ns ms : List NameId) (xs : List T) (i : ℕ) (n : NameId) (d : T) (t : List ℕ) → i < length xs → t ≡ f (get_or xs i d) → Stays p q → slice_get q n.0 ≡ Some t → ms ≡ ns ++ n ∷ []
    → HaveTexts p ns (map f (take i xs)) → HaveTexts q ms (map f (take (i + 1) xs))
texts_next f p q ns ms xs i n d t less read h e step all =
    let more : map f (take (i + 1) xs) ≡ map f (take i xs) ++ f (get_or xs i d) ∷ [] =
    ap (λ k. map f (take k xs)) (add-one i) ∙ ap (map f) (take_at xs i d less) ∙ map-append f (take i xs) (get_or xs i d ∷ []) in
    subst (HaveTexts q ms) (sym more) (subst (λ l. HaveTexts q l (map f (take i xs) ++ f (get_or xs i d) ∷ [])) (sym step) (texts_behind q ns (map f (take i xs)) n (f (get_or xs i d)) (texts_stay p q ns (map f (take i xs)) h all) (e ∙ ap Some read)))

got_more : (p : List (List ℕ)) (x : List ℕ) (i : ℕ) (t : List ℕ) → slice_get p i ≡ Some t → slice_get (p ++ x ∷ []) i ≡ Some t
got_more [] x i t e = cc
got_more (y ∷ p) x zero t e = e
got_more (y ∷ p) x (suc i) t e = got_more p x i t e

-- a text that is asked for leaves the others
pub interned_stay : (p q : List (List ℕ)) (text : List ℕ) (n : ℕ) → Interns p q text n → Stays p q
interned_stay p q text n is = subst (Stays p) (sym is.after) (by (list_any (bytes_eq text) p))
  where
    by : (b : Bool) → Stays p (cond b p (p ++ text ∷ []))
    by true i t e = e
    by false i t e = got_more p text i t e

pub ready_at_first : (taken : List NameId) (next : List (NameId × ℕ)) (pool : List (List ℕ)) → next ≡ [] → AreTakenBelow taken pool next
ready_at_first taken next pool is base j less = let none : j < 0 = subst (λ es. j < start_of es base) is less in absurd (omega (arith, none))

pub are_kept : (externals hosts : List NameId) (p : List (List ℕ)) (ts : List (List ℕ)) (first taken : List NameId) → HaveTexts p hosts ts → ts ≡ host_names → first ≡ with_names [] externals → taken ≡ with_names first hosts → AreKept externals p taken
are_kept externals hosts p ts first taken texts names one two = record { hosts = hosts; texts = subst (HaveTexts p hosts) names texts; taken_are = two ∙ ap (λ ns. with_names ns hosts) one }
