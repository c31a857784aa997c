-- Device: the number that a pool gives to a text is the place of its first appearance.
use Rattle.std.proofs.Common.{◌≡◌, ℕ, zero, suc, Bool, true, false, cond, List, [], ◌∷◌, slice_get, Some, Result, Ok, Err, IfOk, OnErr, ◌++◌, refl, ◌∙◌, sym, ap, subst}
use Rattle.std.specs.Str.{bytes_eq}
use Rattle.std.proofs.lemmas.Slice.Eq.{bytes_eq-Decides}
use Rattle.cil_base.specs.NamePool.{IsOnceEach, Interns, interned, interned_all}
use Rattle.cil_base.specs.declared.numbers.NameId.{NameId}
use Rattle.c_lexer.specs.Lexed.{Grows}
use Rattle.c_lexer.specs.Tokens.{number_of, id_of}

-- a text that stands somewhere stands at the place of its first appearance
number_of-get : (names : List (List ℕ)) (text : List ℕ) (n : ℕ) → slice_get names n ≡ Some text → slice_get names (number_of names text) ≡ Some text
number_of-get [] text n e = cc
number_of-get (t ∷ ts) text n e = by (number_of-get ts text) (bytes_eq text t) refl n e
  where
    by : ((k : ℕ) → slice_get ts k ≡ Some text → slice_get ts (number_of ts text) ≡ Some text) → (b : Bool) → bytes_eq text t ≡ b → (k : ℕ) → slice_get (t ∷ ts) k ≡ Some text → slice_get (t ∷ ts) (cond b 0 (suc (number_of ts text))) ≡ Some text
    by rest true q k f = ap Some (sym ((bytes_eq-Decides text t).0 q))
    by rest false q zero f = let same : text ≡ t = cc in absurd (let is : bytes_eq text t ≡ true = (bytes_eq-Decides text t).1 same in cc)
    by rest false q (suc k) f = rest k f

pub id_of-is : (names : List (List ℕ)) (text : List ℕ) (n : NameId) → IsOnceEach names → slice_get names n.0 ≡ Some text → n ≡ id_of names text
id_of-is names text n once e = let same : n.0 ≡ number_of names text = once.once n.0 (number_of names text) text e (number_of-get names text n.0 e) in ap (λ (k : ℕ). let m : NameId = record { 0 = k } in m) same

pub asked_id : {E : Type 0} (old new : List (List ℕ)) (text : List ℕ) (r : Result NameId E) → IsOnceEach new → IfOk r (λ n. Interns old new text n.0) → IfOk r (λ n. n ≡ id_of (interned old text) text)
asked_id old new text (Ok n) once interns = subst (λ names. n ≡ id_of names text) interns.after (id_of-is new text n once interns.number)
asked_id old new text (Err e) once interns = tt

pub grows_same : (names : List (List ℕ)) → Grows names names
grows_same names = record { asked = []; is = refl }

interned_all-append : (names xs ys : List (List ℕ)) → interned_all names (xs ++ ys) ≡ interned_all (interned_all names xs) ys
interned_all-append names [] ys = refl
interned_all-append names (x ∷ xs) ys = interned_all-append (interned names x) xs ys

pub grows_on : (old middle new : List (List ℕ)) → Grows old middle → Grows middle new → Grows old new
grows_on old middle new x y = record {
  asked = x.asked ++ y.asked;
  is = y.is ∙ (ap (λ names. interned_all names y.asked) x.is ∙ sym (interned_all-append old x.asked y.asked));
}

pub asked_grows : {E : Type 0} (old new : List (List ℕ)) (text : List ℕ) (r : Result NameId E) → IfOk r (λ n. Interns old new text n.0) → OnErr r (new ≡ old) → Grows old new
asked_grows old new text (Ok n) interns same = record { asked = text ∷ []; is = interns.after }
asked_grows old new text (Err e) interns same = record { asked = []; is = same }
