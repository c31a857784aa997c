-- Device: each read was needed, over the parts of a run.
use Rattle.std.proofs.Common.{◌≡◌, ℕ, ◌≤◌, Bool, true, false, List, [], ◌∷◌, ◌++◌, length, refl, sym, ap, ◌∙◌, subst, append_assoc, arith}
use Rattle.std.specs.List.{concat}
use Rattle.std.proofs.lemmas.List.{append-nil}
use Rattle.std.proofs.lemmas.List.Folds.{concat-append}
use Rattle.cil_turns.specs.Ends.{EachNeeded, ReadAsNeeded}

pub not_both : (x : Bool) → x ≡ false → x ≡ true → ⊥
not_both true f t = cc
not_both false f t = cc

-- nothing was read
pub needed_none : (found : List ℕ → Type 0) (was ended : Bool) → ended ≡ was → ReadAsNeeded found was [] ended
needed_none found was ended same = record { pieces = []; whole = refl; each = tt; end = λ before now. absurd (not_both ended (same ∙ before) now) }

-- one read, which gave bytes or the end, was needed
pub needed_once : (found : List ℕ → Type 0) (was ended : Bool) (got : List ℕ) → length got ≤ 4096 → (ended ≡ true → got ≡ []) → found [] → ReadAsNeeded found was got ended
needed_once found was ended [] few gives finds = record { pieces = []; whole = refl; each = tt; end = λ before now. finds }
needed_once found was ended (b ∷ got) few gives finds = record {
  pieces = (b ∷ got) ∷ [];
  whole = append-nil (b ∷ got);
  each = (finds, record { some = omega arith; few = few }, tt);
  end = λ before now. absurd (cc (gives now));
}

-- where the end of an input that one run finds is found by another too, all that the one needs is needed by the other

each_along : (first second : List ℕ → Type 0) → ((input : List ℕ) → first input → second input) → (pieces : List (List ℕ)) → EachNeeded first pieces → EachNeeded second pieces
each_along first second along [] x = tt
each_along first second along (piece ∷ pieces) x = (along [] x.0, x.1, each_along (λ input. first (piece ++ input)) (λ input. second (piece ++ input)) (λ input. along (piece ++ input)) pieces x.2)

pub needed_along : (first second : List ℕ → Type 0) (was ended : Bool) (got : List ℕ) → ((input : List ℕ) → first input → second input) → ReadAsNeeded first was got ended → ReadAsNeeded second was got ended
needed_along first second was ended got along x = record {
  pieces = x.pieces;
  whole = x.whole;
  each = each_along first second along x.pieces x.each;
  end = λ before now. along got (x.end before now);
}

-- one part behind another: the pieces of the second come behind all that the first has read

each_then : (first second : List ℕ → Type 0) (before pieces : List (List ℕ)) → ((input : List ℕ) → second input → first (concat before ++ input)) → EachNeeded first before → EachNeeded second pieces → EachNeeded first (before ++ pieces)
each_then first second [] pieces back x y = each_along second first back pieces y
each_then first second (piece ∷ before) pieces back x y = (
  x.0,
  x.1,
  each_then (λ input. first (piece ++ input)) second before pieces (λ input found. subst first (append_assoc piece (concat before) input) (back input found)) x.2 y,
)

-- the first has not found the end of the source
needed_on : (first second : List ℕ → Type 0) (was last : Bool) (a b : List ℕ) → ((input : List ℕ) → second input → first (a ++ input)) → ReadAsNeeded first was a false → ReadAsNeeded second false b last → ReadAsNeeded first was (a ++ b) last
needed_on first second was last a b back x y = record {
  pieces = x.pieces ++ y.pieces;
  whole = concat-append x.pieces y.pieces ∙ (ap (λ z. z ++ concat y.pieces) x.whole ∙ ap (λ z. a ++ z) y.whole);
  each = each_then first second x.pieces y.pieces (λ input found. subst (λ z. first (z ++ input)) (sym x.whole) (back input found)) x.each y.each;
  end = λ before now. back b (y.end refl now);
}

-- it has, and nothing is read behind that
needed_first : (found : List ℕ → Type 0) (was last : Bool) (a b : List ℕ) → b ≡ [] → ReadAsNeeded found was a true → ReadAsNeeded found was (a ++ b) last
needed_first found was last a b none x =
    let same : a ++ b ≡ a = ap (λ z. a ++ z) none ∙ append-nil a in
    record {
      pieces = x.pieces;
      whole = x.whole ∙ sym same;
      each = x.each;
      end = λ before now. subst found (sym same) (x.end before refl);
    }

pub needed_then : (first second : List ℕ → Type 0) (was between last : Bool) (a b : List ℕ) → (between ≡ true → (last ≡ true) × (b ≡ [])) → ((input : List ℕ) → (between ≡ true → input ≡ []) → second input → first (a ++ input))
    → ReadAsNeeded first was a between → ReadAsNeeded second between b last → ReadAsNeeded first was (a ++ b) last
needed_then first second was true last a b stays back x y = needed_first first was last a b (stays refl).1 x
needed_then first second was false last a b stays back x y = needed_on first second was last a b (λ input found. back input (λ over. absurd (cc over)) found) x y
