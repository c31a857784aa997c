-- Device: lists of members, one by one.
use Rattle.std.proofs.Common.{◌≡◌, ◌≢◌, ℕ, zero, suc, ◌+◌, ◌<◌, ◌≤◌, Bool, true, false, ◌&&◌, ◌||◌, nat_lt, nat_eq, List, [], ◌∷◌, length, drop, get_or, add-one, lt-ltb, eqb-true, eq-eqb, true≢false, refl, sym, ap, ◌∙◌, arith}
use Rattle.type_graph.specs.declared.aggregates.AggKind.{AggKind}
use Rattle.type_graph.specs.declared.aggregates.Member.{Member}
use Rattle.type_graph.specs.Shapes.{shape}
use Rattle.type_graph.specs.Arena.{Graph, complete, flexible_shape, is_struct, is_last, members_fit}
use Rattle.unit_types.specs.Normal.{is_normal, normal_member, normal_members}

abbrev fits_at : Graph → AggKind → Bool → Bool → Member → Bool
fits_at g kind behind last m = complete g m.ty.of.0 || (is_struct kind && (behind && (last && flexible_shape g.aggs (shape g.nodes m.ty.of.0))))

last_true : (ms : List Member) (i : ℕ) → suc i ≡ length ms → is_last (drop (suc i) ms) ≡ true
last_true [] i e = absurd (omega (arith, e))
last_true (m ∷ []) zero e = refl
last_true (m ∷ k ∷ ms) zero e = absurd (omega (arith, e))
last_true (m ∷ ms) (suc i) e = last_true ms i (omega (arith, e))

last_false : (ms : List Member) (i : ℕ) → suc i < length ms → is_last (drop (suc i) ms) ≡ false
last_false [] i h = absurd (omega arith)
last_false (m ∷ []) zero h = absurd (omega arith)
last_false (m ∷ k ∷ ms) zero h = refl
last_false (m ∷ ms) (suc i) h = last_false ms i (omega arith)

last_is : (ms : List Member) (i : ℕ) → i < length ms → is_last (drop (suc i) ms) ≡ nat_eq (suc i) (length ms)
last_is ms i h = by (nat_eq (suc i) (length ms)) refl
  where
    by : (q : Bool) → nat_eq (suc i) (length ms) ≡ q → is_last (drop (suc i) ms) ≡ q
    by true e = last_true ms i (eqb-true _ _ e)
    by false e = let other : suc i ≢ length ms = λ p. true≢false (sym (eq-eqb _ _ p) ∙ e) in last_false ms i (omega (arith, h, other))

-- the member behind the first i, and those behind it
fit_at : (g : Graph) (kind : AggKind) (behind : Bool) (ms : List Member) (i : ℕ) (d : Member) → i < length ms → members_fit g kind behind (drop i ms) ≡ (fits_at g kind behind (is_last (drop (suc i) ms)) (get_or ms i d) && members_fit g kind true (drop (suc i) ms))
fit_at g kind behind [] i d h = absurd (omega arith)
fit_at g kind behind (m ∷ ms) zero d h = refl
fit_at g kind behind (m ∷ ms) (suc i) d h = fit_at g kind behind ms i d (omega arith)

at_test : (g : Graph) (kind : AggKind) (ms : List Member) (i : ℕ) (d : Member) (b : Bool) → i < length ms → b ≡ fits_at g kind (nat_lt 0 i) (nat_eq (i + 1) (length ms)) (get_or ms i d)
    → members_fit g kind (nat_lt 0 i) (drop i ms) ≡ (b && members_fit g kind true (drop (suc i) ms))
at_test g kind ms i d b h e =
    fit_at g kind (nat_lt 0 i) ms i d h
    ∙ ap (λ last. fits_at g kind (nat_lt 0 i) last (get_or ms i d) && members_fit g kind true (drop (suc i) ms)) (last_is ms i h ∙ ap (λ k. nat_eq k (length ms)) (sym (add-one i)))
    ∙ ap (λ q. q && members_fit g kind true (drop (suc i) ms)) (sym e)

pub fit_stops : (g : Graph) (kind : AggKind) (ms : List Member) (i : ℕ) (d : Member) (b : Bool) → i < length ms → b ≡ fits_at g kind (nat_lt 0 i) (nat_eq (i + 1) (length ms)) (get_or ms i d) → b ≡ false
    → members_fit g kind (nat_lt 0 i) (drop i ms) ≡ members_fit g kind false ms → false ≡ members_fit g kind false ms
fit_stops g kind ms i d b h e fails inv = sym (at_test g kind ms i d b h e ∙ ap (λ q. q && members_fit g kind true (drop (suc i) ms)) fails) ∙ inv

pub fit_next : (g : Graph) (kind : AggKind) (ms : List Member) (i : ℕ) (d : Member) (b : Bool) → i < length ms → b ≡ fits_at g kind (nat_lt 0 i) (nat_eq (i + 1) (length ms)) (get_or ms i d) → b ≡ true
    → members_fit g kind (nat_lt 0 i) (drop i ms) ≡ members_fit g kind false ms → members_fit g kind (nat_lt 0 (i + 1)) (drop (i + 1) ms) ≡ members_fit g kind false ms
fit_next g kind ms i d b h e holds inv =
    ap (λ k. members_fit g kind (nat_lt 0 k) (drop k ms)) (add-one i)
    ∙ ap (λ q. members_fit g kind q (drop (suc i) ms)) (lt-ltb 0 (suc i) (omega arith))
    ∙ sym (at_test g kind ms i d b h e ∙ ap (λ q. q && members_fit g kind true (drop (suc i) ms)) holds) ∙ inv

none_left : (g : Graph) (kind : AggKind) (behind : Bool) (ms : List Member) (i : ℕ) → length ms ≤ i → members_fit g kind behind (drop i ms) ≡ true
none_left g kind behind [] zero h = refl
none_left g kind behind [] (suc i) h = refl
none_left g kind behind (m ∷ ms) zero h = absurd (omega arith)
none_left g kind behind (m ∷ ms) (suc i) h = none_left g kind behind ms i (omega arith)

pub fit_ends : (g : Graph) (kind : AggKind) (ms : List Member) (i : ℕ) → length ms ≤ i → members_fit g kind (nat_lt 0 i) (drop i ms) ≡ members_fit g kind false ms → true ≡ members_fit g kind false ms
fit_ends g kind ms i h inv = sym (none_left g kind (nat_lt 0 i) ms i h) ∙ inv

normal_at : (g : Graph) (ms : List Member) (i : ℕ) (d : Member) → i < length ms → normal_members g (drop i ms) ≡ (normal_member g (get_or ms i d) && normal_members g (drop (suc i) ms))
normal_at g [] i d h = absurd (omega arith)
normal_at g (m ∷ ms) zero d h = refl
normal_at g (m ∷ ms) (suc i) d h = normal_at g ms i d (omega arith)

pub normal_stops : (g : Graph) (ms : List Member) (i : ℕ) (d : Member) → i < length ms → is_normal (get_or ms i d).ty.quals (shape g.nodes (get_or ms i d).ty.of.0) ≡ false → normal_members g (drop i ms) ≡ normal_members g ms → false ≡ normal_members g ms
normal_stops g ms i d h is same = sym (normal_at g ms i d h ∙ ap (λ b. b && normal_members g (drop (suc i) ms)) is) ∙ same

pub normal_next : (g : Graph) (ms : List Member) (i : ℕ) (d : Member) → i < length ms → is_normal (get_or ms i d).ty.quals (shape g.nodes (get_or ms i d).ty.of.0) ≡ true → normal_members g (drop i ms) ≡ normal_members g ms
    → normal_members g (drop (i + 1) ms) ≡ normal_members g ms
normal_next g ms i d h is same = ap (λ k. normal_members g (drop k ms)) (add-one i) ∙ sym (normal_at g ms i d h ∙ ap (λ b. b && normal_members g (drop (suc i) ms)) is) ∙ same

no_more : (g : Graph) (ms : List Member) (i : ℕ) → length ms ≤ i → normal_members g (drop i ms) ≡ true
no_more g [] zero h = refl
no_more g [] (suc i) h = refl
no_more g (m ∷ ms) zero h = absurd (omega arith)
no_more g (m ∷ ms) (suc i) h = no_more g ms i (omega arith)

pub normal_ends : (g : Graph) (ms : List Member) (i : ℕ) → length ms ≤ i → normal_members g (drop i ms) ≡ normal_members g ms → true ≡ normal_members g ms
normal_ends g ms i h same = sym (no_more g ms i h) ∙ same
