-- Device: the kinds of arguments, one by one.
use Rattle.std.proofs.Common.{◌≡◌, ◌≢◌, ℕ, zero, suc, ◌<◌, ◌≤◌, Bool, true, false, ◌&&◌, List, [], ◌∷◌, length, map, drop, get_or, Option, refl, sym, ap, ◌∙◌, arith}
use Rattle.execution.specs.Data.{same_kind}
use Rattle.execution.specs.Calls.{arguments_match}
use Rattle.cil_code.specs.declared.calls.Kind.{Kind}
use Rattle.cil_code.specs.Calling.{kind_from}
use Rattle.cil_frames.specs.declared.activations.Argument.{Argument}
use Rattle.cil_frames.specs.Entering.{arguments_of}
use Rattle.cil_frames.proofs.Turns.{as_long, mapped_long}

-- from one argument on
pub match_next : (ks : List (Option Kind)) (xs : List Argument) (i : ℕ) (k : Option Kind) (x : Argument) → i < length ks → length ks ≡ length xs
    → arguments_match (map kind_from (drop i ks)) (arguments_of (drop i xs))
    ≡ (same_kind (kind_from (get_or ks i k)) (kind_from (get_or xs i x).kind) && arguments_match (map kind_from (drop (suc i) ks)) (arguments_of (drop (suc i) xs)))
match_next [] xs i k x h e = absurd (omega arith)
match_next (a ∷ ks) [] i k x h e = absurd (omega arith)
match_next (a ∷ ks) (b ∷ xs) zero k x h e = refl
match_next (a ∷ ks) (b ∷ xs) (suc i) k x h e = match_next ks xs i k x (omega arith) (omega arith)

pub match_end : (ks : List (Option Kind)) (xs : List Argument) (i : ℕ) → length ks ≤ i → length ks ≡ length xs → arguments_match (map kind_from (drop i ks)) (arguments_of (drop i xs)) ≡ true
match_end [] [] zero h e = refl
match_end [] [] (suc i) h e = refl
match_end [] (b ∷ xs) i h e = absurd (omega arith)
match_end (a ∷ ks) [] i h e = absurd (omega arith)
match_end (a ∷ ks) (b ∷ xs) zero h e = absurd (omega arith)
match_end (a ∷ ks) (b ∷ xs) (suc i) h e = match_end ks xs i (omega arith) (omega arith)

both_hold : (a b : Bool) → (a && b) ≡ true → b ≡ true
both_hold true b h = h
both_hold false b h = absurd (cc)

pub passed_long : (xs : List Argument) → length (arguments_of xs) ≡ length xs
passed_long [] = refl
passed_long (x ∷ xs) = ap suc (passed_long xs)

-- kinds that agree are as many
pub agree_long : (a : Bool) (ks : List (Option Kind)) (xs : List Argument) → (a && arguments_match (map kind_from ks) (arguments_of xs)) ≡ true → length (arguments_of xs) ≡ length ks
agree_long a ks xs h = as_long (map kind_from ks) (arguments_of xs) (both_hold a (arguments_match (map kind_from ks) (arguments_of xs)) h) ∙ mapped_long ks

no_true : (b : Bool) → (b ≡ true → ⊥) → b ≡ false
no_true true h = absurd (h refl)
no_true false h = refl

pub match_counts : (ks : List (Option Kind)) (xs : List Argument) → length ks ≢ length xs → arguments_match (map kind_from ks) (arguments_of xs) ≡ false
match_counts ks xs ne = no_true (arguments_match (map kind_from ks) (arguments_of xs)) (λ h. ne (sym (mapped_long ks) ∙ (sym (as_long (map kind_from ks) (arguments_of xs) h) ∙ passed_long xs)))
