-- Device: the place of a text among those of a set is the place at which it stands first.
use Rattle.std.proofs.Common.{◌≡◌, ℕ, suc, ◌||◌, nat_lt, Bool, true, false, cond, List, [], ◌∷◌, ◌++◌, is_some, length, Option, Some, None, refl, sym, ap, ◌∙◌, map, arith, ◌+◌, lt-ltb}
use Rattle.std.specs.Option.{option_map}
use Rattle.std.specs.List.{list_any, position}
use Rattle.std.specs.Str.{bytes_eq}
use Rattle.std.proofs.lemmas.Bool.Decides.{nat_tests}
use Rattle.std.proofs.lemmas.List.Recursion.{is_position_or_len}
use Rattle.cil_text.specs.ReadTypes.{find}
use Rattle.cil_declarators.specs.Fresh.{with_new}

one_on : (k n : ℕ) → nat_lt (suc k) (suc n) ≡ nat_lt k n
one_on k n = grind (arith, nat_tests)

found_next : (v : Bool) (p n : ℕ) (o : Option ℕ) → cond (nat_lt p n) (Some p) None ≡ o → cond (nat_lt (cond v 0 (suc p)) (suc n)) (Some (cond v 0 (suc p))) None ≡ cond v (Some 0) (option_map suc o)
found_next true p n o e = ap (λ b. cond b (Some 0) None) (lt-ltb 0 (suc n) (omega arith))
found_next false p n o e = ap (λ b. cond b (Some (suc p)) None) (one_on p n) ∙ by (nat_lt p n) ∙ ap (option_map suc) e
  where
    by : (b : Bool) → cond b (Some (suc p)) None ≡ option_map suc (cond b (Some p) None)
    by true = refl
    by false = refl

abbrev first : {K : Type 0} → (K → List ℕ) → List ℕ → List K → ℕ
first text_of text [] = 0
first text_of text (k ∷ ks) = cond (bytes_eq text (text_of k)) 0 (1 + first text_of text ks)

first_found : {K : Type 0} (text_of : K → List ℕ) (text : List ℕ) (ks : List K) → cond (nat_lt (first text_of text ks) (length ks)) (Some (first text_of text ks)) None ≡ find text (map text_of ks)
first_found text_of text [] = refl
first_found text_of text (k ∷ ks) =
    ap (λ n. cond (nat_lt (cond (bytes_eq text (text_of k)) 0 n) (suc (length ks))) (Some (cond (bytes_eq text (text_of k)) 0 n)) None) (one_more (first text_of text ks))
    ∙ found_next (bytes_eq text (text_of k)) (first text_of text ks) (length ks) (find text (map text_of ks)) (first_found text_of text ks)
  where
    one_more : (n : ℕ) → 1 + n ≡ suc n
    one_more n = omega arith

pub found_place : {K : Type 0} (text_of : K → List ℕ) (text : List ℕ) (ks : List K) → position (λ k. bytes_eq text (text_of k)) ks ≡ find text (map text_of ks)
found_place text_of text ks =
    ap (λ n. cond (nat_lt n (length ks)) (Some n) None) (sym (is_position_or_len (first text_of text) (λ k. bytes_eq text (text_of k)) refl (λ x xs. refl) ks))
    ∙ first_found text_of text ks

unmapped : (o : Option ℕ) → option_map suc o ≡ None → o ≡ None
unmapped None e = refl
unmapped (Some n) e = absurd (cc e)

none_here : (b c : Bool) (o : Option ℕ) → (o ≡ None → c ≡ false) → cond b (Some 0) (option_map suc o) ≡ None → b || c ≡ false
none_here true c o rest e = absurd (cc e)
none_here false c o rest e = rest (unmapped o e)

-- a text that is not found is none of them
pub none_any : (text : List ℕ) (ts : List (List ℕ)) → find text ts ≡ None → list_any (bytes_eq text) ts ≡ false
none_any text [] e = refl
none_any text (t ∷ ts) e = none_here (bytes_eq text t) (list_any (bytes_eq text) ts) (find text ts) (none_any text ts) e

-- a text that is found is one of them
some_any : (text : List ℕ) (ts : List (List ℕ)) (n : ℕ) → find text ts ≡ Some n → list_any (bytes_eq text) ts ≡ true
some_any text [] n e = absurd (cc e)
some_any text (t ∷ ts) n e = by (bytes_eq text t) (find text ts) (some_any text ts) e
  where
    by : (b : Bool) (o : Option ℕ) → ((m : ℕ) → o ≡ Some m → list_any (bytes_eq text) ts ≡ true) → cond b (Some 0) (option_map suc o) ≡ Some n → b || list_any (bytes_eq text) ts ≡ true
    by true o rest f = refl
    by false None rest f = absurd (cc f)
    by false (Some m) rest f = rest m refl

-- one text more

pub new_gives : (text : List ℕ) (ts : List (List ℕ)) → find text ts ≡ None → with_new ts text ≡ Some (ts ++ text ∷ [])
new_gives text ts e = ap (λ b. cond b None (Some (ts ++ text ∷ []))) (none_any text ts e)

pub new_refused : (text : List ℕ) (ts : List (List ℕ)) (o : Option ℕ) → o ≡ find text ts → is_some o ≡ true → with_new ts text ≡ None
new_refused text ts None e h = absurd (cc h)
new_refused text ts (Some n) e h = ap (λ b. cond b None (Some (ts ++ text ∷ []))) (some_any text ts n (sym e))
