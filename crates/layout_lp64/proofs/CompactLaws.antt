-- Device: spans as they are kept.
use Rattle.std.proofs.Common.{◌≡◌, ℕ, zero, suc, ◌<◌, List, [], ◌∷◌, ◌++◌, length, map, get_or, slice_get, Some, Result, Ok, Err, OnErr, refl, sym, ap, ◌∙◌, arith, length-append}
use Rattle.std.proofs.lemmas.Option.{slice_get-map, unwrap_or-slice_get}
use Rattle.std.proofs.lemmas.List.{map-append}
use Rattle.std.specs.Option.{option_map, unwrap_or}
use Rattle.layout_lp64.specs.declared.spans.Span.{Span}
use Rattle.layout_lp64.specs.declared.spans.Span.TheVariants.{Nothing}
use Rattle.layout_lp64.specs.declared.span_table.Compact.{Compact}
use Rattle.layout_lp64.specs.declared.span_table.Compact.TheVariants as compact
use Rattle.layout_lp64.specs.Compacts.{span_kept, spans_kept, IsAside, AreAside, AddsSpansAside}

pub kept_get : (others : List Span) (cs : List Compact) (t : ℕ) → slice_get (map (span_kept others) cs) t ≡ option_map (span_kept others) (slice_get cs t)
kept_get others cs t = slice_get-map (span_kept others) cs t

pub aside_at : (others : List Span) (span : Span) → get_or (others ++ span ∷ []) (length others) Nothing ≡ span
aside_at [] span = refl
aside_at (x ∷ others) span = aside_at others span

get_stays : (xs more : List Span) (i : ℕ) → i < length xs → get_or (xs ++ more) i Nothing ≡ get_or xs i Nothing
get_stays [] more i h = absurd (omega arith)
get_stays (x ∷ xs) more zero h = refl
get_stays (x ∷ xs) more (suc i) h = get_stays xs more i (omega arith)

span_stays : (xs more : List Span) (c : Compact) → IsAside (length xs) c → span_kept (xs ++ more) c ≡ span_kept xs c
span_stays xs more compact.Nothing h = refl
span_stays xs more (compact.Fixed align size) h = refl
span_stays xs more (compact.Whole a) h = refl
span_stays xs more (compact.Other i) h = get_stays xs more i (h i refl)

spans_stay : (xs more : List Span) (cs : List Compact) → AreAside cs (length xs) → spans_kept (xs ++ more) cs ≡ spans_kept xs cs
spans_stay xs more [] h = refl
spans_stay xs more (c ∷ cs) h =
    ap (λ (s : Span). s ∷ spans_kept (xs ++ more) cs) (span_stays xs more c (h.each 0 c refl))
    ∙ ap (λ (ss : List Span). span_kept xs c ∷ ss) (spans_stay xs more cs (record { each = λ t d q. h.each (suc t) d q }))

pub same_spans : (old new : List Span) (cs : List Compact) → AreAside cs (length old) → AddsSpansAside old new → spans_kept new cs ≡ spans_kept old cs
same_spans old new cs h adds = ap (λ (xs : List Span). spans_kept xs cs) adds.are ∙ spans_stay old adds.more cs h

pub more_aside : (old new : List Span) (cs : List Compact) → AreAside cs (length old) → AddsSpansAside old new → AreAside cs (length new)
more_aside old new cs h adds = record { each = λ t c q i e. omega (arith, h.each t c q i e, ap (λ (xs : List Span). length xs) adds.are, length-append old adds.more) }

pub span_pushed : (old new : List Span) (cs ds : List Compact) (c : Compact) (span : Span) → AreAside cs (length old) → AddsSpansAside old new → span_kept new c ≡ span → ds ≡ cs ++ c ∷ [] → spans_kept new ds ≡ spans_kept old cs ++ span ∷ []
span_pushed old new cs ds c span h adds is e =
    ap (spans_kept new) e ∙ map-append (span_kept new) cs (c ∷ []) ∙ ap (λ (s : Span). spans_kept new cs ++ s ∷ []) is
    ∙ ap (λ (ss : List Span). ss ++ span ∷ []) (same_spans old new cs h adds)

pub aside_pushed : (n : ℕ) (cs ds : List Compact) (c : Compact) → AreAside cs n → IsAside n c → ds ≡ cs ++ c ∷ [] → AreAside ds n
aside_pushed n cs ds c h w e = record { each = λ t d q. one cs t d (λ s x p. h.each s x p) (ap (λ (xs : List Compact). slice_get xs t) (sym e) ∙ q) }
  where
    one : (xs : List Compact) (t : ℕ) (d : Compact) → ((s : ℕ) (x : Compact) → slice_get xs s ≡ Some x → IsAside n x) → slice_get (xs ++ c ∷ []) t ≡ Some d → IsAside n d
    one [] zero d k q = let same : c ≡ d = cc in λ i p. w i (same ∙ p)
    one [] (suc t) d k q = cc
    one (x ∷ xs) zero d k q = k zero d q
    one (x ∷ xs) (suc t) d k q = one xs t d (λ s y p. k (suc s) y p) q

pub at_is : (spans : List Span) (t : ℕ) → unwrap_or (slice_get spans t) Nothing ≡ get_or spans t Nothing
at_is spans t = unwrap_or-slice_get spans t Nothing

pub on_err : {T E P : Type 0} (r : Result T E) → P → OnErr r P
on_err (Ok x) p = tt
on_err (Err e) p = p
