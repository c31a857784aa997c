-- Device: which aggregates have more bytes than an object may have, by the tables of layouts.
use Rattle.std.proofs.Common.{◌≡◌, ◌↔◌, ℕ, ◌<◌, ◌≤◌, Bool, true, false, length, Option, Some, None, ◌⊎◌, inl, inr, refl, sym, ap, ◌∙◌, true≢false, arith}
use Rattle.std.proofs.lemmas.Option.{slice_get_past}
use Rattle.std.specs.Option.{option_map, option_and_then}
use Rattle.type_graph.specs.declared.layout.Layout.{Layout}
use Rattle.type_graph.specs.Arena.{Graph, IsArena}
use Rattle.type_graph.specs.Layouts.{AggLayout, whole_of, agg_layout}
use Rattle.layout_lp64.specs.declared.layouts.Layouts.{Layouts}
use Rattle.layout_lp64.specs.Capped.{capped}
use Rattle.layout_lp64.specs.Tables.{whole_found, is_large, InStep, AggregatesFit}
use Rattle.layout_lp64.proofs.CapLaws.{cases}
use Rattle.layout_lp64.proofs.UpdateLaws.{whole_is, fits_from, large_from}

whole_some : (o : Option AggLayout) (x : Layout) → whole_of o ≡ Some x → (l : AggLayout) × (o ≡ Some l) × (l.whole ≡ x)
whole_some None x e = cc
whole_some (Some l) x e = (l, refl, cc)

module _ (l : Layouts) (g : Graph) (arena : IsArena g) (step : InStep l g) where
  capped_is : (a : ℕ) → whole_found l.aggs a ≡ option_map capped (whole_of (agg_layout g a))
  capped_is a = whole_is l g arena step.tables step.all_types step.all_aggs a

  -- a large aggregate breaks it
  pub not_fit : (a : ℕ) (o : Option Layout) (big : Bool) → o ≡ whole_found l.aggs a → big ≡ is_large o → big ≡ true → (false ≡ true) ↔ AggregatesFit g
  not_fit a o big found large is = (λ h. absurd (true≢false (sym h)), λ fit. absurd (refused fit))
    where
      refused : AggregatesFit g → ⊥
      refused fit =
          let big = large_from (whole_of (agg_layout g a)) (ap is_large (sym (capped_is a) ∙ sym found) ∙ sym large ∙ is) in
          let whole = whole_some (agg_layout g a) big.0 big.1 in
          let small : whole.0.whole.size ≤ 2147483647 = fit.each a whole.0 whole.1 in
          omega (arith, small, ap (λ (x : Layout). x.size) whole.2, big.2)

  -- where none of all is large it holds
  pub all_fit : (n : ℕ) → length g.aggs ≤ n → ((a : ℕ) → a < n → is_large (whole_found l.aggs a) ≡ false) → (true ≡ true) ↔ AggregatesFit g
  all_fit n all each = (λ h. record { each = one }, λ fit. refl)
    where
      none_large : (a : ℕ) → (length g.aggs ≤ a) ⊎ (a < length g.aggs) → is_large (whole_found l.aggs a) ≡ false
      none_large a (inl past) = ap (λ (o : Option (Option AggLayout)). is_large (option_map (λ (x : AggLayout). x.whole) (option_and_then (λ (p : Option AggLayout). p) o))) (slice_get_past l.aggs a (omega (arith, step.tables.aggs_count)))
      none_large a (inr there) = each a (omega arith)

      one : (a : ℕ) (x : AggLayout) → agg_layout g a ≡ Some x → x.whole.size ≤ 2147483647
      one a x e = fits_from (whole_of (agg_layout g a)) (ap is_large (sym (capped_is a)) ∙ none_large a (cases (length g.aggs) a)) x.whole (ap whole_of e)
