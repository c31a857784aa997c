-- What stands in the buffer of bytes that were read ahead.
use Rattle.std.proofs.Common.{◌≡◌, ℕ, zero, suc, ◌≤◌, ◌<◌, true, nat_eq, List, [], ◌∷◌, ◌++◌, Option, Some, None, Result, Ok, Err, length, take, drop, refl, ap, sym, ◌∙◌, arith, length-take, length-drop, eqb-true}
use Rattle.std.proofs.Math.Dec.{eqb-suc-zero}
use Rattle.std.specs.Prelude.{IfSome, IsErr}
use Rattle.std.proofs.lemmas.List.{drop_all, take-append-drop}
use Rattle.outside.specs.Moves.{Reads, WasRead}
use Rattle.cil_streams.specs.Held.{AheadState}
use Rattle.cil_streams.specs.Fetching.{ended_by, Fills}

-- all bytes are taken
pub no_unread : (bytes : List ℕ) (n k : ℕ) → n ≡ k → drop n (take k bytes) ≡ []
no_unread bytes n k same = drop_all n (take k bytes) (omega (arith, length-take k bytes))

pub all_taken : (bytes : List ℕ) (n k : ℕ) → n ≤ k → k ≤ length bytes → drop n (take k bytes) ≡ [] → n ≡ k
all_taken bytes n k within fits none =
    let left : length (drop n (take k bytes)) ≡ 0 = ap length none in
    omega (arith, length-take k bytes, length-drop n (take k bytes))

none_read : (left left' : Option (List ℕ)) → left' ≡ left → WasRead left left' []
none_read left None same = sym same
none_read left (Some rest) same = sym same

same_ahead : (a b : AheadState) → a.unread ≡ b.unread → a.ended ≡ b.ended → a ≡ b
same_ahead a b unread ended = ap (λ bytes. record { unread = bytes; ended = a.ended }) unread ∙ ap (λ x. record { unread = b.unread; ended = x }) ended

-- a read failed
pub fill_fails : {A E : Type 0} (result : Result A E) (ahead ahead' : AheadState) (left left' : Option (List ℕ)) → IsErr result → ahead.unread ≡ [] → ahead'.unread ≡ [] → ahead'.ended ≡ ahead.ended → left' ≡ left
    → Fills result ahead ahead' left left'
fill_fails (Ok x) ahead ahead' left left' is none none' ended same = absurd (cc)
fill_fails (Err e) ahead ahead' left left' is none none' ended same =
    record { got = []; read = none_read left left' same; few = omega arith; now = none'; filled = tt; failed = same_ahead ahead' ahead (none' ∙ sym none) ended; finds = λ found. tt }

-- the front of a buffer that was filled
front_is : (n : ℕ) (bytes rest : List ℕ) → n ≤ length bytes → take n (take n bytes ++ rest) ≡ take n bytes
front_is zero bytes rest fits = refl
front_is (suc n) [] rest fits = absurd (omega arith)
front_is (suc n) (b ∷ bytes) rest fits = ap (λ x. b ∷ x) (front_is n bytes rest (omega arith))

was_read : (left left' : Option (List ℕ)) (buf buf' : List ℕ) (n : ℕ) → Reads left left' buf buf' n → WasRead left left' (take n buf')
was_read None left' buf buf' n r = rw r.rest refl
was_read (Some bytes) left' buf buf' n r =
    let front : take n buf' ≡ take n bytes = ap (take n) r.bytes.1 ∙ front_is n bytes (drop n buf) r.bytes.0 in
    rw r.rest (ap Some (sym (ap (λ x. x ++ drop n bytes) front ∙ take-append-drop n bytes)))

ends : (n : ℕ) (bytes : List ℕ) → n ≤ length bytes → nat_eq n 0 ≡ ended_by (take n bytes)
ends zero bytes fits = refl
ends (suc n) [] fits = absurd (omega arith)
ends (suc n) (b ∷ bytes) fits = eqb-suc-zero n

-- a read gave n bytes
pub fill_gives : {A E : Type 0} (x : A) (ahead : AheadState) (left left' : Option (List ℕ)) (buf buf' : List ℕ) (n : ℕ) → Reads left left' buf buf' n → length buf' ≡ length buf → length buf ≡ 4096
    → Fills {A = A} {E = E} (Ok x) ahead (record { unread = drop 0 (take n buf'); ended = nat_eq n 0 }) left left'
fill_gives x ahead left left' buf buf' n r same size = record {
  got = take n buf';
  read = was_read left left' buf buf' n r;
  few = omega (arith, length-take n buf', r.fits);
  now = refl;
  filled = ends n buf' (omega (arith, r.fits));
  failed = tt;
  finds = λ found. ended_is left left' buf buf' n r (omega (arith, size)) found;
}
  where
    ended_is : (left left' : Option (List ℕ)) (buf buf' : List ℕ) (n : ℕ) → Reads left left' buf buf' n → 0 < length buf → nat_eq n 0 ≡ true → IfSome left' (λ bytes. bytes ≡ [])
    ended_is None left' buf buf' n r some found = rw r.rest tt
    ended_is (Some bytes) left' buf buf' n r some found = rw r.rest (ap (drop n) (r.end (eqb-true n 0 found) some) ∙ drop_all n [] (omega arith))
