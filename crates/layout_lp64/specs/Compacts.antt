-- Device: spans as they are kept, eight bytes each, with those that do not fit aside.
use Rattle.std.specs.Prelude.{◌≡◌, ℕ, ◌<◌, List, ◌++◌, Some, map, slice_get, slice_index_or}
use Rattle.layout_lp64.specs.declared.spans.Span.{Span}
use Rattle.layout_lp64.specs.declared.spans.Span.TheVariants.{Nothing, Fixed, Copies}
use Rattle.layout_lp64.specs.declared.span_table.Compact.{Compact}
use Rattle.layout_lp64.specs.declared.span_table.Compact.TheVariants as compact

abbrev pub span_kept : List Span → Compact → Span
span_kept others compact.Nothing = Nothing
span_kept others (compact.Fixed align size) = Fixed (record { size = size; align = align })
span_kept others (compact.Whole a) = Copies a 1
span_kept others (compact.Other i) = slice_index_or others i Nothing

abbrev pub spans_kept : List Span → List Compact → List Span
spans_kept others spans = map (span_kept others) spans

-- what stands aside is among the first n
abbrev pub IsAside : ℕ → Compact → Type 0
IsAside n c = (i : ℕ) → c ≡ compact.Other i → i < n

pub record AreAside (spans : List Compact) (n : ℕ) : Type 0 where
  pub each : (t : ℕ) (c : Compact) → slice_get spans t ≡ Some c → IsAside n c

-- spans were added behind those that were there
pub record AddsSpansAside (old new : List Span) : Type 0 where
  pub more : List Span
  pub are : new ≡ old ++ more
