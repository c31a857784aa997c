-- Device: bringing layouts up to date.
use Rattle.std.proofs.Common.{◌≡◌, ℕ, zero, suc, ◌+◌, ◌*◌, ◌<◌, ◌≤◌, min, Bool, true, false, cond, nat_lt, nat_eq, List, [], ◌∷◌, ◌++◌, length, get_or, slice_get, is_some, Option, Some, None, Result, Ok, Err, is_err, OnOk, ◌⊎◌, inl, inr, refl, sym, ap, ◌∙◌, subst, true≢false, arith, length-append, lt-ltb, le-ltb, ltb-true, ltb-false}
use Rattle.std.proofs.Math.Path.{fun_ext}
use Rattle.std.proofs.lemmas.Option.{slice_get_within, slice_get_past, slice_get-get_or}
use Rattle.std.proofs.lemmas.Grind.{get_or_default_zero}
use Rattle.std.specs.Option.{option_map, option_and_then}
use Rattle.cil_base.specs.declared.kinds.Abi.{Abi}
use Rattle.cil_base.specs.declared.numbers.AggId.{AggId}
use Rattle.type_graph.specs.declared.layout.Layout.{Layout}
use Rattle.type_graph.specs.Shapes.{Shape, shape}
use Rattle.type_graph.specs.Arena.{Graph, IsArena, rank, members_of, empty_graph}
use Rattle.type_graph.specs.Growth.{Grows}
use Rattle.type_graph.specs.Layouts.{AggLayout, layout, layout_in, whole_of, agg_layout}
use Rattle.type_graph.proofs.ShapeLaws.{shape_past, kept}
use Rattle.type_graph.proofs.ArenaLaws.{IsArena-empty, some_there, is_some_from, rank_stays}
use Rattle.type_graph.proofs.LayoutLaws.{agg_layout_there, agg_layout_grows}
use Rattle.layout_lp64.specs.declared.layouts.Layouts.{Layouts}
use Rattle.layout_lp64.specs.declared.spans.Span.{Span}
use Rattle.layout_lp64.specs.declared.spans.Span.TheVariants.{Nothing, Fixed, Copies}
use Rattle.layout_lp64.specs.Capped.{capped, capped_agg, span_shape, copies, resolve}
use Rattle.layout_lp64.specs.Tables.{agg_found, whole_found, known, AreTables, AddsAggs, AddsLayouts, Extended, WereInStep, InStep, AggsFit, FitsOrNew, IsLeastLarge, IsLeastTooBig, found, is_large}
use Rattle.layout_lp64.proofs.CapLaws.{resolve_span, cases}
use Rattle.layout_lp64.proofs.OffsetLaws.{offset_is}
use Rattle.layout_lp64.proofs.TableLaws.{part, found_parts, rank_get, completed_there}

-- entries for new aggregates
found_push : (xs : List (Option AggLayout)) (a : ℕ) → agg_found (xs ++ None ∷ []) a ≡ agg_found xs a
found_push [] zero = refl
found_push [] (suc a) = refl
found_push (x ∷ xs) zero = refl
found_push (x ∷ xs) (suc a) = found_push xs a

most_push : (xs : List ℕ) (a : ℕ) → get_or (xs ++ 0 ∷ []) a 0 ≡ get_or xs a 0
most_push [] zero = refl
most_push [] (suc a) = refl
most_push (x ∷ xs) zero = refl
most_push (x ∷ xs) (suc a) = most_push xs a

pub extended_more : (old now new : Layouts) (i : ℕ) → Extended old now i → new.spans ≡ now.spans → new.completed ≡ now.completed → new.aggs ≡ now.aggs ++ None ∷ [] → new.most.items ≡ now.most.items ++ 0 ∷ [] → Extended old new (i + 1)
extended_more old now new i h spans done aggs most = record {
  spans = spans ∙ h.spans;
  done = done ∙ h.done;
  aggs_count = ap length aggs ∙ length-append now.aggs (None ∷ []) ∙ ap (λ n. n + 1) h.aggs_count;
  most_count = ap length most ∙ length-append now.most.items (0 ∷ []) ∙ ap (λ n. n + 1) h.most_count;
  layouts = λ a. ap (λ (xs : List (Option AggLayout)). agg_found xs a) aggs ∙ found_push now.aggs a ∙ h.layouts a;
  most = λ a. ap (λ (xs : List ℕ). get_or xs a 0) most ∙ most_push now.most.items a ∙ h.most a;
}

pub extended_none : (old : Layouts) (g : Graph) → WereInStep old g → Extended old old (length old.aggs)
extended_none old g w = record { spans = refl; done = refl; aggs_count = refl; most_count = w.step.tables.most_count ∙ sym w.step.tables.aggs_count; layouts = λ a. refl; most = λ a. refl }

pub aggs_before : (old : Layouts) (g : Graph) → WereInStep old g → length old.aggs ≤ length g.aggs
aggs_before old g w = let h : length w.before.aggs ≤ length g.aggs = w.grows.more_aggs in omega (arith, w.step.tables.aggs_count)

rank_past : (order more : List AggId) (b : ℕ) → length order ≤ rank order b → length order ≤ rank (order ++ more) b
rank_past [] more b h = omega arith
rank_past (a ∷ order) more b h = by (nat_eq a.0 b) h (rank_past order more b)
  where
    by : (v : Bool) → suc (length order) ≤ cond v 0 (suc (rank order b)) → (length order ≤ rank order b → length order ≤ rank (order ++ more) b) → suc (length order) ≤ cond v 0 (suc (rank (order ++ more) b))
    by true q rest = absurd (omega arith)
    by false q rest = let r : length order ≤ rank (order ++ more) b = rest (omega arith) in omega arith

known_first : (g : Graph) (i a : ℕ) → rank g.completed a < i → known g i a ≡ option_map capped_agg (agg_layout g a)
known_first g i a h = ap (λ v. cond v (option_map capped_agg (agg_layout g a)) None) (lt-ltb (rank g.completed a) i h)

known_none : (g : Graph) (i a : ℕ) → i ≤ rank g.completed a → known g i a ≡ None
known_none g i a h = ap (λ v. cond v (option_map capped_agg (agg_layout g a)) None) (le-ltb (rank g.completed a) i h)

-- a completed aggregate has a layout, which growth keeps
listed_layout : (g : Graph) → IsArena g → (a : ℕ) → rank g.completed a < length g.completed → (l : AggLayout) × (agg_layout g a ≡ Some l)
listed_layout g w a h =
    let at = rank_get g.completed a h in
    let defined : is_some (members_of g.aggs a) ≡ true = subst (λ k. is_some (members_of g.aggs k) ≡ true) at.2 (w.ordered (rank g.completed a) at.0 at.1).0 in
    some_there (agg_layout g a) (agg_layout_there g w a ∙ defined)

-- an aggregate that was not completed has no layout
no_layout : (g : Graph) → IsArena g → (a : ℕ) → length g.completed ≤ rank g.completed a → agg_layout g a ≡ None
no_layout g arena a q = by (agg_layout g a) refl
  where
    by : (o : Option AggLayout) → agg_layout g a ≡ o → o ≡ None
    by None e = refl
    by (Some x) e =
        let ms = some_there (members_of g.aggs a) (sym (agg_layout_there g arena a) ∙ is_some_from (agg_layout g a) x e) in
        let listed : rank g.completed a < length g.completed = (arena.nested a ms.0 ms.1).0 in
        absurd (omega arith)

pub known_grows : (f g : Graph) → IsArena f → Grows f g → (a : ℕ) → known f (length f.completed) a ≡ known g (length f.completed) a
known_grows f g w e a = by (cases (length f.completed) (rank f.completed a))
  where
    same : rank g.completed a ≡ rank (f.completed ++ e.completed.0) a
    same = ap (λ (order : List AggId). rank order a) e.completed.1

    by : (length f.completed ≤ rank f.completed a) ⊎ (rank f.completed a < length f.completed) → known f (length f.completed) a ≡ known g (length f.completed) a
    by (inl h) = known_none f (length f.completed) a h ∙ sym (known_none g (length f.completed) a (subst (λ n. length f.completed ≤ n) (sym same) (rank_past f.completed e.completed.0 a h)))
    by (inr h) =
        let l = listed_layout f w a h in
        let place : rank g.completed a < length f.completed = subst (λ n. n < length f.completed) (sym (same ∙ rank_stays f.completed e.completed.0 a h)) h in
        known_first f (length f.completed) a h ∙ ap (option_map capped_agg) (l.1 ∙ sym (agg_layout_grows f g a l.0 w e l.1)) ∙ sym (known_first g (length f.completed) a place)

pub aggs_added : (old new : Layouts) (g : Graph) → WereInStep old g → Extended old new (length g.aggs) → AddsAggs old new g
aggs_added old new g w h = record {
  tables = record {
    spans = record {
      count = omega (arith, ap length h.spans, w.step.all_types, more);
      each = λ t l. each t (subst (λ n. t < n) (ap length h.spans) l);
    };
    aggs_count = h.aggs_count;
    most_count = h.most_count;
    layouts = λ a. h.layouts a ∙ w.step.tables.layouts a ∙ ap (λ i. known w.before i a) w.step.all_aggs ∙ known_grows w.before g w.arena w.grows a ∙ ap (λ i. known g i a) (sym (h.done ∙ w.step.all_aggs));
    most = λ t a k q. subst (λ n. k ≤ n) (sym (h.most a.0)) (w.step.tables.most t a k (ap (λ (ss : List Span). slice_get ss t) (sym h.spans) ∙ q));
    done = omega (arith, h.done, w.step.all_aggs, more_completed);
  };
  spans = h.spans;
  done = h.done;
}
  where
    more : length w.before.nodes ≤ length g.nodes
    more = omega (arith, ap length w.grows.nodes.1, length-append w.before.nodes w.grows.nodes.0)

    more_completed : length w.before.completed ≤ length g.completed
    more_completed = omega (arith, ap length w.grows.completed.1, length-append w.before.completed w.grows.completed.0)

    each : (t : ℕ) → t < length old.spans → slice_get new.spans t ≡ Some (span_shape g.abi (shape g.nodes t))
    each t l =
        ap (λ (ss : List Span). slice_get ss t) h.spans ∙ w.step.tables.spans.each t l
        ∙ ap (λ (s : Shape). Some (span_shape w.before.abi s)) (sym (kept w.before g t w.grows (subst (λ n. t < n) w.step.all_types l)))
        ∙ ap (λ (abi : Abi). Some (span_shape abi (shape g.nodes t))) (sym w.grows.abi)

-- what the tables give is what the arena defines
module _ (l : Layouts) (g : Graph) (arena : IsArena g) (t : AreTables l g) (all : length l.spans ≡ length g.nodes) (done : l.completed ≡ length g.completed) where
  part_full : (b : ℕ) → part g l.completed b ≡ whole_of (agg_layout g b)
  unfolding part
  part_full b = by (cases (length g.completed) (rank g.completed b))
    where
      by : (length g.completed ≤ rank g.completed b) ⊎ (rank g.completed b < length g.completed) → cond (nat_lt (rank g.completed b) l.completed) (whole_of (agg_layout g b)) None ≡ whole_of (agg_layout g b)
      by (inr h) = ap (λ v. cond v (whole_of (agg_layout g b)) None) (lt-ltb (rank g.completed b) l.completed (omega (arith, done)))
      by (inl h) = ap (λ v. cond v (whole_of (agg_layout g b)) None) (le-ltb (rank g.completed b) l.completed (omega (arith, done))) ∙ sym (ap whole_of (none (agg_layout g b) refl))
        where
          none : (o : Option AggLayout) → agg_layout g b ≡ o → o ≡ None
          none None e = refl
          none (Some x) e =
              let ms = some_there (members_of g.aggs b) (sym (agg_layout_there g arena b) ∙ is_some_from (agg_layout g b) x e) in
              let listed : rank g.completed b < length g.completed = (arena.nested b ms.0 ms.1).0 in
              absurd (omega arith)

  whole_full : whole_found l.aggs ≡ (λ b. option_map capped (whole_of (agg_layout g b)))
  whole_full = found_parts l g t ∙ fun_ext (λ b. ap (option_map capped) (part_full b))

  pub found_is : (s : ℕ) → found l s ≡ option_map capped (layout g s)
  found_is s = by (cases (length g.nodes) s)
    where
      by : (length g.nodes ≤ s) ⊎ (s < length g.nodes) → found l s ≡ option_map capped (layout g s)
      by (inl h) =
          ap (option_and_then (resolve (whole_found l.aggs))) (slice_get_past l.spans s (omega (arith, all)))
          ∙ sym (ap (λ (x : Shape). option_map capped (layout_in g.abi (λ b. whole_of (agg_layout g b)) x)) (shape_past g.nodes s h))
      by (inr h) =
          ap (option_and_then (resolve (whole_found l.aggs))) (t.spans.each s (omega (arith, all)))
          ∙ ap (λ (f : ℕ → Option Layout). resolve f (span_shape g.abi (shape g.nodes s))) whole_full
          ∙ resolve_span g.abi (λ b. whole_of (agg_layout g b)) (shape g.nodes s)

  pub whole_is : (b : ℕ) → whole_found l.aggs b ≡ option_map capped (whole_of (agg_layout g b))
  whole_is b = ap (λ (f : ℕ → Option Layout). f b) whole_full

-- sizes below the limit
small_size : (n : ℕ) → nat_lt 2147483647 (min n 2147483648) ≡ false → n ≤ 2147483647
small_size n h = let l : min n 2147483648 ≤ 2147483647 = ltb-false 2147483647 (min n 2147483648) h in omega arith

large_size : (n : ℕ) → nat_lt 2147483647 (min n 2147483648) ≡ true → 2147483647 < n
large_size n h = let l : 2147483647 < min n 2147483648 = ltb-true 2147483647 (min n 2147483648) h in omega arith

pub fits_from : (o : Option Layout) → is_large (option_map capped o) ≡ false → (x : Layout) → o ≡ Some x → x.size ≤ 2147483647
fits_from None h x e = cc
fits_from (Some y) h x e = let same : y ≡ x = cc in subst (λ (z : Layout). z.size ≤ 2147483647) same (small_size y.size h)

capped_small : (o : Option Layout) → ((x : Layout) → o ≡ Some x → x.size ≤ 2147483647) → option_map capped o ≡ o
capped_small None h = refl
capped_small (Some y) h =
    let l : y.size ≤ 2147483647 = h y refl in
    let e : min y.size 2147483648 ≡ y.size = omega arith in
    ap (λ n. let r : Option Layout = Some (record { size = n; align = y.align }) in r) e

pub large_from : (o : Option Layout) → is_large (option_map capped o) ≡ true → (x : Layout) × (o ≡ Some x) × (2147483647 < x.size)
large_from None h = cc
large_from (Some y) h = (y, refl, large_size y.size h)

pub in_step_fit : (l : Layouts) (g : Graph) → IsArena g → AddsLayouts l l g → ((t : ℕ) → t < length g.nodes → is_large (found l t) ≡ false) → InStep l g
in_step_fit l g arena h fit = record {
  sizes = λ t. is t ∙ capped_small (layout g t) (small t);
  offsets = λ t a at i. ap (option_and_then (λ (x : AggLayout). slice_get x.offsets i)) (h.tables.layouts a.0 ∙ known_all a.0) ∙ offset_is g arena small t a at i;
  fit = record { each = small };
  tables = h.tables;
  all_types = h.all;
  all_aggs = h.done;
}
  where
    is : (t : ℕ) → found l t ≡ option_map capped (layout g t)
    is t = found_is l g arena h.tables h.all h.done t

    known_all : (a : ℕ) → known g l.completed a ≡ option_map capped_agg (agg_layout g a)
    known_all a = by (cases (length g.completed) (rank g.completed a))
      where
        by : (length g.completed ≤ rank g.completed a) ⊎ (rank g.completed a < length g.completed) → known g l.completed a ≡ option_map capped_agg (agg_layout g a)
        by (inr q) = let done : l.completed ≡ length g.completed = h.done in known_first g l.completed a (omega arith)
        by (inl q) = let done : l.completed ≡ length g.completed = h.done in known_none g l.completed a (omega arith) ∙ sym (ap (option_map capped_agg) (no_layout g arena a q))

    small : (t : ℕ) (x : Layout) → layout g t ≡ Some x → x.size ≤ 2147483647
    small t x e = by (cases (length g.nodes) t)
      where
        by : (length g.nodes ≤ t) ⊎ (t < length g.nodes) → x.size ≤ 2147483647
        by (inl q) = let none : None ≡ Some x = sym (ap (λ (s : Shape). layout_in g.abi (λ b. whole_of (agg_layout g b)) s) (shape_past g.nodes t q)) ∙ e in cc
        by (inr q) = fits_from (layout g t) (ap is_large (sym (is t)) ∙ fit t q) x e

pub least_is : (l : Layouts) (g : Graph) (t : ℕ) → IsArena g → AddsLayouts l l g → IsLeastLarge l t → IsLeastTooBig g t
least_is l g t arena h w =
    let big = large_from (layout g t) (ap is_large (sym (is t)) ∙ w.large) in
    record {
      large = big.0;
      is = big.1;
      size = big.2;
      least = λ s x below e. fits_from (layout g s) (ap is_large (sym (is s)) ∙ w.least s below) x e;
    }
  where
    is : (s : ℕ) → found l s ≡ option_map capped (layout g s)
    is s = found_is l g arena h.tables h.all h.done s

not_large : (o : Option Layout) → ((x : Layout) → o ≡ Some x → x.size ≤ 2147483647) → is_large o ≡ false
not_large None h = refl
not_large (Some x) h = let l : x.size ≤ 2147483647 = h x refl in le-ltb 2147483647 x.size l

fewer : (o : Option Layout) (k m : ℕ) → k ≤ m → is_large (option_map (copies m) o) ≡ false → is_large (option_map (copies k) o) ≡ false
fewer None k m h e = refl
fewer (Some x) k m h e =
    let l : m * x.size ≤ 2147483647 = small_size (m * x.size) e in
    let p : k * x.size ≤ m * x.size = products k m x.size h in
    let q : min (k * x.size) 2147483648 ≤ 2147483647 = omega arith in
    le-ltb 2147483647 (min (k * x.size) 2147483648) q
  where
    products : (a b c : ℕ) → a ≤ b → a * c ≤ b * c
    products a b c q = grind arith

-- nothing new is too big, and nothing was
old_fit : (old new : Layouts) (g : Graph) → IsArena g → WereInStep old g → AddsLayouts old new g → AggsFit new g old.completed → (t : ℕ) → t < length old.spans → is_large (found new t) ≡ false
old_fit old new g arena w h aggs t below = by (span_shape g.abi (shape g.nodes t)) refl
  where
    old_span : slice_get old.spans t ≡ Some (span_shape g.abi (shape g.nodes t))
    old_span =
        w.step.tables.spans.each t below
        ∙ ap (λ (s : Shape). Some (span_shape w.before.abi s)) (sym (kept w.before g t w.grows (subst (λ n. t < n) w.step.all_types below)))
        ∙ ap (λ (abi : Abi). Some (span_shape abi (shape g.nodes t))) (sym w.grows.abi)

    within : t < length new.spans
    within =
        let more : length w.before.nodes ≤ length g.nodes = omega (arith, ap length w.grows.nodes.1, length-append w.before.nodes w.grows.nodes.0) in
        omega (arith, w.step.all_types, h.all)

    new_found : (sp : Span) → span_shape g.abi (shape g.nodes t) ≡ sp → found new t ≡ resolve (whole_found new.aggs) sp
    new_found sp e = ap (option_and_then (resolve (whole_found new.aggs))) (h.tables.spans.each t within ∙ ap Some e)

    old_found : (sp : Span) → span_shape g.abi (shape g.nodes t) ≡ sp → resolve (whole_found old.aggs) sp ≡ layout w.before t
    old_found sp e = sym (ap (option_and_then (resolve (whole_found old.aggs))) (old_span ∙ ap Some e)) ∙ w.step.sizes t

    same_agg : (a : ℕ) → rank g.completed a < old.completed → whole_found old.aggs a ≡ whole_found new.aggs a
    same_agg a l =
        let done : new.completed ≡ length g.completed = h.done in
        let more : length w.before.completed ≤ length g.completed = omega (arith, ap length w.grows.completed.1, length-append w.before.completed w.grows.completed.0) in
        let same : old.completed ≡ length w.before.completed = w.step.all_aggs in
        ap (option_map (λ (x : AggLayout). x.whole))
        (w.step.tables.layouts a ∙ ap (λ i. known w.before i a) same ∙ known_grows w.before g w.arena w.grows a ∙ known_first g (length w.before.completed) a (omega arith)
        ∙ sym (h.tables.layouts a ∙ known_first g new.completed a (omega arith)))

    no_agg : (a : ℕ) → length g.completed ≤ rank g.completed a → whole_found new.aggs a ≡ None
    no_agg a l = let done : new.completed ≡ length g.completed = h.done in ap (option_map (λ (x : AggLayout). x.whole)) (h.tables.layouts a ∙ known_none g new.completed a (omega arith))

    newer : (a : AggId) (k : ℕ) → k ≤ get_or new.most.items a.0 0 → old.completed ≤ rank g.completed a.0 → (length g.completed ≤ rank g.completed a.0) ⊎ (rank g.completed a.0 < length g.completed) → is_large (option_map (copies k) (whole_found new.aggs a.0)) ≡ false
    newer a k m l (inl q) = ap (λ (o : Option Layout). is_large (option_map (copies k) o)) (no_agg a.0 q)
    newer a k m l (inr q) =
        let at = rank_get g.completed a.0 q in
        fewer (whole_found new.aggs a.0) k (get_or new.most.items a.0 0) m
        (subst (λ b. is_large (option_map (copies (get_or new.most.items b 0)) (whole_found new.aggs b)) ≡ false) at.2 (aggs.each (rank g.completed a.0) at.0 l at.1))

    by : (sp : Span) → span_shape g.abi (shape g.nodes t) ≡ sp → is_large (found new t) ≡ false
    by Nothing e = ap is_large (new_found Nothing e)
    by (Fixed x) e = ap is_large (new_found (Fixed x) e ∙ old_found (Fixed x) e) ∙ not_large (layout w.before t) (λ y q. w.step.fit.each t y q)
    by (Copies a k) e = ap is_large (new_found (Copies a k) e) ∙ split (cases old.completed (rank g.completed a.0))
      where
        split : (old.completed ≤ rank g.completed a.0) ⊎ (rank g.completed a.0 < old.completed) → is_large (option_map (copies k) (whole_found new.aggs a.0)) ≡ false
        split (inl l) = newer a k (h.tables.most t a k (h.tables.spans.each t within ∙ ap Some e)) l (cases (length g.completed) (rank g.completed a.0))
        split (inr l) =
            ap (λ (o : Option Layout). is_large (option_map (copies k) o)) (sym (same_agg a.0 l)) ∙ ap is_large (old_found (Copies a k) e) ∙ not_large (layout w.before t) (λ y q. w.step.fit.each t y q)

pub updated : (old new : Layouts) (g : Graph) → IsArena g → WereInStep old g → AddsLayouts old new g → FitsOrNew new g (length old.spans) old.completed → InStep new g
updated old new g arena w h (inl fit) = in_step_fit new g arena (record { tables = h.tables; all = h.all; done = h.done }) (λ t l. fit.each t (omega arith) (omega (arith, h.all)))
updated old new g arena w h (inr (fit, aggs)) = in_step_fit new g arena (record { tables = h.tables; all = h.all; done = h.done }) (λ t l. one t l (cases (length old.spans) t))
  where
    one : (t : ℕ) → t < length g.nodes → (length old.spans ≤ t) ⊎ (t < length old.spans) → is_large (found new t) ≡ false
    one t l (inl q) = fit.each t q (omega (arith, h.all))
    one t l (inr q) = old_fit old new g arena w h aggs t q

pub too_big : (old new : Layouts) (g : Graph) (t : ℕ) → IsArena g → AddsLayouts old new g → IsLeastLarge new t → IsLeastTooBig g t
too_big old new g t arena h w = least_is new g t arena (record { tables = h.tables; all = h.all; done = h.done }) w

-- layouts of nothing
pub empty_in_step : (l : Layouts) (abi : Abi) → l.spans ≡ [] → l.aggs ≡ [] → l.most.items ≡ [] → l.completed ≡ 0 → InStep l (empty_graph abi)
empty_in_step l abi spans aggs most done = in_step_fit l (empty_graph abi) (IsArena-empty (empty_graph abi) refl refl refl) (record {
  tables = record {
    spans = record { count = omega (arith, ap length spans); each = λ t h. absurd (omega (arith, ap length spans)) };
    aggs_count = ap length aggs;
    most_count = ap length most;
    layouts = λ a. ap (λ (xs : List (Option AggLayout)). agg_found xs a) aggs ∙ sym (known_none (empty_graph abi) l.completed a (omega (arith, done)));
    most = λ t a k e. let none : None ≡ Some (Copies a k) = sym (ap (λ (ss : List Span). slice_get ss t) spans) ∙ e in cc;
    done = omega (arith, done);
  };
  all = ap length spans;
  done = done;
}) (λ t h. absurd (omega arith))

pub were_empty : (l : Layouts) (g : Graph) → ((abi : Abi) → InStep l (empty_graph abi)) → WereInStep l g
were_empty l g h = record {
  before = empty_graph g.abi;
  arena = IsArena-empty (empty_graph g.abi) refl refl refl;
  step = h g.abi;
  grows = record { abi = refl; nodes = (g.nodes, refl); more_aggs = omega arith; aggs = λ a x e. cc; completed = (g.completed, refl) };
}

-- what a call promised where it went well
pub ok_from : {T E P : Type 0} (r : Result T E) (b : Bool) → b ≡ is_err r → b ≡ false → OnOk r P → P
ok_from (Ok x) b e f h = h
ok_from (Err x) b e f h = absurd (true≢false (sym e ∙ f))

-- the aggregate at a place of the order of completion
order_place : (g : Graph) (order : List AggId) (i : ℕ) (d : AggId) → order ≡ g.completed → i < length order → slice_get g.completed i ≡ Some (get_or order i d)
order_place g order i d e h = ap (λ (xs : List AggId). slice_get xs i) (sym e) ∙ slice_get-get_or order i d h

pub order_within : (l : Layouts) (g : Graph) → IsArena g → AreTables l g → (order : List AggId) (i : ℕ) (d : AggId) → order ≡ g.completed → i < length order → (get_or order i d).0 < length l.most.items
order_within l g arena t order i d e h = subst (λ n. (get_or order i d).0 < n) (sym t.most_count) (completed_there g arena i (get_or order i d) (order_place g order i d e h))

pub aggs_step : (l : Layouts) (g : Graph) → IsArena g → AreTables l g → (first i : ℕ) (d : AggId) (order : List AggId) (aggs : List (Option AggLayout)) (v : ℕ) (w c : Option Layout) (big : Bool) → order ≡ g.completed → i < length order → aggs ≡ l.aggs → v ≡ get_or l.most.items (get_or order i d).0 v → w ≡ whole_found aggs (get_or order i d).0 → c ≡ option_map (copies v) w → big ≡ is_large c → big ≡ false
    → ((j : ℕ) (a : AggId) → first ≤ j → j < i → slice_get g.completed j ≡ Some a → is_large (option_map (copies (get_or l.most.items a.0 0)) (whole_found l.aggs a.0)) ≡ false)
    → (j : ℕ) (a : AggId) → first ≤ j → j < i + 1 → slice_get g.completed j ≡ Some a → is_large (option_map (copies (get_or l.most.items a.0 0)) (whole_found l.aggs a.0)) ≡ false
aggs_step l g arena t first i d order aggs v w c big eo h ea ev ew ec eb fine before j a f below at = by (cases i j)
  where
    b : AggId
    b = get_or order i d

    most : v ≡ get_or l.most.items (get_or order i d).0 0
    most = ev ∙ get_or_default_zero l.most.items (get_or order i d).0 v (order_within l g arena t order i d eo h)

    last : is_large (option_map (copies (get_or l.most.items (get_or order i d).0 0)) (whole_found l.aggs (get_or order i d).0)) ≡ false
    last =
        ap (λ n. is_large (option_map (copies n) (whole_found l.aggs (get_or order i d).0))) (sym most)
        ∙ ap (λ (xs : List (Option AggLayout)). is_large (option_map (copies v) (whole_found xs (get_or order i d).0))) (sym ea)
        ∙ ap (λ (o : Option Layout). is_large (option_map (copies v) o)) (sym ew) ∙ ap is_large (sym ec) ∙ sym eb ∙ fine

    by : (i ≤ j) ⊎ (j < i) → is_large (option_map (copies (get_or l.most.items a.0 0)) (whole_found l.aggs a.0)) ≡ false
    by (inr q) = before j a f q at
    by (inl q) =
        let here : i ≡ j = omega arith in
        let same : Some (get_or order i d) ≡ Some a = sym (order_place g order i d eo h) ∙ ap (slice_get g.completed) here ∙ at in
        let id : get_or order i d ≡ a = cc in
        subst (λ (x : AggId). is_large (option_map (copies (get_or l.most.items x.0 0)) (whole_found l.aggs x.0)) ≡ false) id last

pub aggs_fit_all : (l : Layouts) (g : Graph) (first i : ℕ) (order : List AggId) → order ≡ g.completed → length order ≤ i → ((j : ℕ) (a : AggId) → first ≤ j → j < i → slice_get g.completed j ≡ Some a → is_large (option_map (copies (get_or l.most.items a.0 0)) (whole_found l.aggs a.0)) ≡ false) → AggsFit l g first
aggs_fit_all l g first i order e h before = record { each = λ j a f at. let q : j < length g.completed = slice_get_within g.completed j a at in before j a f (omega (arith, ap length e)) at }
