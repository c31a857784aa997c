-- Device: the files of places keep their texts while a pool gets more names.
use Rattle.std.proofs.Common.{◌≡◌, ℕ, zero, suc, ◌<◌, List, [], ◌∷◌, length, Option, Some, None, IfSome, slice_get, refl, sym, subst, arith}
use Rattle.cil_base.specs.declared.numbers.UnitNo.{UnitNo}
use Rattle.cil_base.specs.declared.numbers.NameId.{NameId}
use Rattle.cil_base.specs.declared.faults.Place.{Place}
use Rattle.cil_base.specs.declared.faults.Refusal.{Refusal}
use Rattle.cil_base.specs.NamePool.{Stays}
use Rattle.cil_base.proofs.PoolLemmas.{interned_all-stays}
use Rattle.c_lexer.specs.Lexed.{Lexed, Grows, PlacesWithin, IsTokenRefusal}
use Rattle.unit_front.specs.Refusals.{KeepsFile, KeepsFiles, IsTokensRefusal, OfGrammar, OfCheck, too_large, Source, IsFrontRefusal, Large, OfToken, OfTokens}

pub grows_stays : (old new : List (List ℕ)) → Grows old new → Stays old new
grows_stays old new grows = subst (Stays old) (sym grows.is) (λ i text is. interned_all-stays old grows.asked i text is)

within : (names : List (List ℕ)) (i : ℕ) → i < length names → (text : List ℕ) × (slice_get names i ≡ Some text)
within [] i h = absurd (omega arith)
within (name ∷ names) zero h = (name, refl)
within (name ∷ names) (suc i) h = within names i (omega arith)

pub kept : (names pool : List (List ℕ)) (place : Place) → place.file.0 < length names → Stays names pool → KeepsFile names pool place
kept names pool place below stays =
    let found = within names place.file.0 below in
    (found.0, found.1, stays place.file.0 found.0 found.1)

pub too_large_kept : (u : UnitNo) (file : NameId) (names : List (List ℕ)) → file.0 < length names → KeepsFiles names names (too_large u file)
too_large_kept u file names below = record { at = kept names names (too_large u file).at below (λ i text is. is); other = tt }

pub token_kept : (u : UnitNo) (names : List (List ℕ)) (refusal : Refusal) → IsTokenRefusal u (length names) refusal → KeepsFiles names names refusal
token_kept u names refusal is = record {
  at = kept names names refusal.at is.file (λ i text same. same);
  other = subst (λ o. IfSome o (KeepsFile names names)) (sym is.other) tt;
}

pub tokens_kept : (t : Lexed) (names pool : List (List ℕ)) (refusal : Refusal) → PlacesWithin (length names) t → Stays names pool → IsTokensRefusal t refusal → KeepsFiles names pool refusal
tokens_kept t names pool _ files stays (OfGrammar refusal is) = record {
  at = kept names pool refusal.at (files is.start refusal.at is.at) stays;
  other = subst (λ o. IfSome o (KeepsFile names pool)) (sym is.told) (kept names pool is.other (files is.stop is.other is.behind) stays);
}
tokens_kept t names pool _ files stays (OfCheck refusal spelled is) = record {
  at = kept names pool refusal.at (files is.at.0 refusal.at is.at.1) stays;
  other = subst (λ o. IfSome o (KeepsFile names pool)) (sym is.other) tt;
}

pub file_later : (names p q : List (List ℕ)) (place : Place) → Stays p q → KeepsFile names p place → KeepsFile names q place
file_later names p q place stays (text, before, now) = (text, before, stays place.file.0 text now)

pub files_later : (names p q : List (List ℕ)) (refusal : Refusal) → Stays p q → KeepsFiles names p refusal → KeepsFiles names q refusal
files_later names p q refusal stays kept = record { at = file_later names p q refusal.at stays kept.at; other = by refusal.other kept.other }
  where
    by : (o : Option Place) → IfSome o (KeepsFile names p) → IfSome o (KeepsFile names q)
    by None is = tt
    by (Some place) is = file_later names p q place stays is

pub refused_later : (s : Source) (p q : List (List ℕ)) (refusal : Refusal) → Stays p q → IsFrontRefusal s p refusal → IsFrontRefusal s q refusal
refused_later s p q _ stays (Large over kept) = Large over (files_later s.names p q (too_large s.unit s.file) stays kept)
refused_later s p q _ stays (OfToken refusal names small is kept) = OfToken refusal names small is (files_later names p q refusal stays kept)
refused_later s p q _ stays (OfTokens refusal t are is kept) = OfTokens refusal t are is (files_later are.names p q refusal stays kept)
