-- Device: numbers that stop at the limit give the layouts that stop at the limit.
use Rattle.std.proofs.Common.{◌≡◌, ℕ, zero, suc, ◌+◌, ◌*◌, ◌/◌, ◌<◌, ◌≤◌, min, max, Bool, true, false, List, [], ◌∷◌, ◌++◌, map, Option, Some, None, ◌⊎◌, inl, inr, refl, sym, ap, ◌∙◌, subst, arith}
use Rattle.std.proofs.lemmas.List.{map-append}
use Rattle.std.specs.Option.{option_map, option_and_then}
use Rattle.cil_base.specs.declared.kinds.Abi.{Abi}
use Rattle.cil_base.specs.declared.kinds.Abi.TheVariants.{Lp64, Ilp32}
use Rattle.cil_base.specs.declared.kinds.IntKind.{IntKind}
use Rattle.cil_base.specs.declared.kinds.IntKind.TheVariants as kind
use Rattle.cil_base.specs.Integer.{size_of, pointer_size_of}
use Rattle.type_graph.specs.declared.aggregates.AggKind.{AggKind}
use Rattle.type_graph.specs.declared.aggregates.AggKind.TheVariants.{Struct, Union, Enum}
use Rattle.type_graph.specs.declared.aggregates.Member.{Member}
use Rattle.type_graph.specs.declared.layout.Layout.{Layout}
use Rattle.type_graph.specs.Shapes.{Shape, VoidType, IntType, PtrType, ArrayType, FuncType, AggType}
use Rattle.type_graph.specs.Layouts.{AggLayout, Placed, layout_in, member_in, array_of, without_elements, round_up, placed_behind, placed_over, placed_all, nothing_placed, finished, members_layout}
use Rattle.layout_lp64.specs.declared.spans.Span.{Span}
use Rattle.layout_lp64.specs.declared.spans.Span.TheVariants.{Nothing, Fixed, Copies}
use Rattle.layout_lp64.specs.Capped.{cap, capped, capped_agg, capped_placed, times, span_shape, copies, resolve, member_span, capped_step, capped_all, capped_finished, capped_members}

pub cases : (m n : ℕ) → (m ≤ n) ⊎ (n < m)
cases m n = grind arith

product : (c n m : ℕ) → min (min n c * m) c ≡ min (n * m) c
product c n zero = omega arith
product c n (suc k) = by (cases n c)
  where
    by : (n ≤ c) ⊎ (c < n) → min (min n c * suc k) c ≡ min (n * suc k) c
    by (inl h) = let e : min n c ≡ n = omega arith in ap (λ x. min (x * suc k) c) e
    by (inr h) =
        let e : min n c ≡ c = omega arith in
        let f : min (c * suc k) c ≡ min (n * suc k) c = omega arith in
        ap (λ x. min (x * suc k) c) e ∙ f

-- a product stops where one of a factor that stops does
pub cap_mul : (n m : ℕ) → min (min n 2147483648 * m) 2147483648 ≡ min (n * m) 2147483648
cap_mul n m = product 2147483648 n m

pub cap_mul_right : (n m : ℕ) → cap (n * cap m) ≡ cap (n * m)
cap_mul_right n m =
    let e : n * min m 2147483648 ≡ min m 2147483648 * n = omega arith in
    let f : m * n ≡ n * m = omega arith in
    ap (λ x. min x 2147483648) e ∙ cap_mul m n ∙ ap (λ x. min x 2147483648) f

cap_twice : (n k m : ℕ) → cap (cap (n * k) * m) ≡ cap (n * cap (k * m))
cap_twice n k m =
    let e : n * k * m ≡ n * (k * m) = grind arith in
    cap_mul (n * k) m ∙ ap cap e ∙ sym (cap_mul_right n (k * m))

cap_size : (k : IntKind) → cap (size_of k) ≡ size_of k
cap_size k = elim k as (λ v. cap (size_of v) ≡ size_of v) [ kind.Bool ↦ refl | kind.Char ↦ refl | kind.SChar ↦ refl | kind.UChar ↦ refl | kind.Short ↦ refl | kind.UShort ↦ refl | kind.Int ↦ refl | kind.UInt ↦ refl | kind.Long ↦ refl | kind.ULong ↦ refl | kind.LLong ↦ refl | kind.ULLong ↦ refl | kind.Long4 ↦ refl | kind.ULong4 ↦ refl ]

cap_pointer : (abi : Abi) → cap (pointer_size_of abi) ≡ pointer_size_of abi
cap_pointer Lp64 = refl
cap_pointer Ilp32 = refl

same_layout : (m n a : ℕ) → m ≡ n → ◌≡◌ {A = Layout} (record { size = m; align = a }) (record { size = n; align = a })
same_layout m n a e = ap (λ k. let l : Layout = record { size = k; align = a } in l) e

pub resolve_times : (f : ℕ → Option Layout) (n : ℕ) (sp : Span) → resolve f (times n sp) ≡ option_map (copies n) (resolve f sp)
resolve_times f n Nothing = refl
resolve_times f n (Fixed l) = refl
resolve_times f n (Copies a k) = by (f a.0)
  where
    by : (o : Option Layout) → option_map (copies (cap (n * k))) o ≡ option_map (copies n) (option_map (copies k) o)
    by None = refl
    by (Some l) = ap Some (same_layout (cap (cap (n * k) * l.size)) (cap (n * cap (k * l.size))) l.align (cap_twice n k l.size))

copies_capped : (n : ℕ) (o : Option Layout) → option_map (copies n) (option_map capped o) ≡ option_map capped (option_map (array_of n) o)
copies_capped n None = refl
copies_capped n (Some l) = ap Some (same_layout (cap (n * cap l.size)) (cap (n * l.size)) l.align (cap_mul_right n l.size))

one_copy : (o : Option Layout) → option_map (copies 1) (option_map capped o) ≡ option_map capped o
one_copy None = refl
one_copy (Some l) =
    let e : 1 * l.size ≡ l.size = omega arith in
    ap Some (same_layout (cap (1 * cap l.size)) (cap l.size) l.align (cap_mul_right 1 l.size ∙ ap cap e))

-- the layout of a span is that of the type
pub resolve_span : (abi : Abi) (f : ℕ → Option Layout) (s : Shape) → resolve (λ b. option_map capped (f b)) (span_shape abi s) ≡ option_map capped (layout_in abi f s)
resolve_span abi f VoidType = refl
resolve_span abi f (IntType k) = ap Some (same_layout (size_of k) (cap (size_of k)) (size_of k) (sym (cap_size k)))
resolve_span abi f (PtrType quals s) = ap Some (same_layout (pointer_size_of abi) (cap (pointer_size_of abi)) (pointer_size_of abi) (sym (cap_pointer abi)))
resolve_span abi f (ArrayType quals s None) = refl
resolve_span abi f (ArrayType quals s (Some n)) =
    resolve_times (λ b. option_map capped (f b)) n (span_shape abi s) ∙ ap (option_map (copies n)) (resolve_span abi f s) ∙ copies_capped n (layout_in abi f s)
resolve_span abi f (FuncType ret params proto variadic) = refl
resolve_span abi f (AggType a) = one_copy (f a)

elements_capped : (o : Option Layout) → option_map without_elements (option_map capped o) ≡ option_map capped (option_map without_elements o)
elements_capped None = refl
elements_capped (Some l) = refl

pub member_is : (abi : Abi) (f : ℕ → Option Layout) (s : Shape) → member_span abi (λ b. option_map capped (f b)) s ≡ option_map capped (member_in abi f s)
member_is abi f VoidType = refl
member_is abi f (IntType k) = ap Some (same_layout (size_of k) (cap (size_of k)) (size_of k) (sym (cap_size k)))
member_is abi f (PtrType quals s) = ap Some (same_layout (pointer_size_of abi) (cap (pointer_size_of abi)) (pointer_size_of abi) (sym (cap_pointer abi)))
member_is abi f (ArrayType quals s None) = ap (option_map without_elements) (resolve_span abi f s) ∙ elements_capped (layout_in abi f s)
member_is abi f (ArrayType quals s (Some n)) = resolve_span abi f (ArrayType quals s (Some n))
member_is abi f (FuncType ret params proto variadic) = refl
member_is abi f (AggType a) = one_copy (f a)

-- alignments: each is 1, 2, 4 or 8
abbrev pub Aligned : ℕ → Type 0
Aligned a = (a ≡ 1) ⊎ ((a ≡ 2) ⊎ ((a ≡ 4) ⊎ (a ≡ 8)))

cap_round : (e a : ℕ) → Aligned a → cap (round_up (cap e) a) ≡ cap (round_up e a)
cap_round e a (inl h) = subst (λ k. cap (round_up (cap e) k) ≡ cap (round_up e k)) (sym h) (one e)
  where
    one : (e : ℕ) → min ((min e 2147483648 + 0) / 1 * 1) 2147483648 ≡ min ((e + 0) / 1 * 1) 2147483648
    one e = omega arith
cap_round e a (inr (inl h)) = subst (λ k. cap (round_up (cap e) k) ≡ cap (round_up e k)) (sym h) (one e)
  where
    one : (e : ℕ) → min ((min e 2147483648 + 1) / 2 * 2) 2147483648 ≡ min ((e + 1) / 2 * 2) 2147483648
    one e = omega arith
cap_round e a (inr (inr (inl h))) = subst (λ k. cap (round_up (cap e) k) ≡ cap (round_up e k)) (sym h) (one e)
  where
    one : (e : ℕ) → min ((min e 2147483648 + 3) / 4 * 4) 2147483648 ≡ min ((e + 3) / 4 * 4) 2147483648
    one e = omega arith
cap_round e a (inr (inr (inr h))) = subst (λ k. cap (round_up (cap e) k) ≡ cap (round_up e k)) (sym h) (one e)
  where
    one : (e : ℕ) → min ((min e 2147483648 + 7) / 8 * 8) 2147483648 ≡ min ((e + 7) / 8 * 8) 2147483648
    one e = omega arith

abbrev pub placed_step : Bool → Placed → Layout → Placed
placed_step true = placed_over
placed_step false = placed_behind

same_placed : (e f a : ℕ) (us vs : List ℕ) → e ≡ f → us ≡ vs → ◌≡◌ {A = Placed} (record { end = e; align = a; offsets = us }) (record { end = f; align = a; offsets = vs })
same_placed e f a us vs p q =
    ap (λ k. let r : Placed = record { end = k; align = a; offsets = us } in r) p ∙ ap (λ (ws : List ℕ). let r : Placed = record { end = f; align = a; offsets = ws } in r) q

step_is : (over : Bool) (p : Placed) (l : Layout) → Aligned l.align → capped_step over (capped_placed p) (capped l) ≡ capped_placed (placed_step over p l)
step_is true p l h =
    let e : max (min p.end 2147483648) (min l.size 2147483648) ≡ min (max p.end l.size) 2147483648 = omega arith in
    same_placed (max (cap p.end) (cap l.size)) (cap (max p.end l.size)) (max p.align l.align) (map cap p.offsets ++ 0 ∷ []) (map cap (p.offsets ++ 0 ∷ [])) e (sym (map-append cap p.offsets (0 ∷ [])))
step_is false p l h =
    let round : cap (round_up (cap p.end) l.align) ≡ cap (round_up p.end l.align) = cap_round p.end l.align h in
    same_placed (cap (cap (round_up (cap p.end) l.align) + cap l.size)) (cap (round_up p.end l.align + l.size)) (max p.align l.align)
    (map cap p.offsets ++ cap (round_up (cap p.end) l.align) ∷ []) (map cap (p.offsets ++ round_up p.end l.align ∷ []))
    (ap (λ k. cap (k + cap l.size)) round ∙ sums (round_up p.end l.align) l.size)
    (ap (λ k. map cap p.offsets ++ k ∷ []) round ∙ sym (map-append cap p.offsets (round_up p.end l.align ∷ [])))
  where
    sums : (m n : ℕ) → min (min m 2147483648 + min n 2147483648) 2147483648 ≡ min (m + n) 2147483648
    sums m n = omega arith

all_are : (over : Bool) (f : Member → Option Layout) → ((m : Member) (l : Layout) → f m ≡ Some l → Aligned l.align) → (p : Placed) (ms : List Member) → capped_all over (λ m. option_map capped (f m)) (capped_placed p) ms ≡ option_map capped_placed (placed_all (placed_step over) f p ms)
all_are over f h p [] = refl
all_are over f h p (m ∷ ms) = by (f m) refl (λ l. all_are over f h (placed_step over p l) ms)
  where
    by : (o : Option Layout) → f m ≡ o → ((l : Layout) → capped_all over (λ n. option_map capped (f n)) (capped_placed (placed_step over p l)) ms ≡ option_map capped_placed (placed_all (placed_step over) f (placed_step over p l) ms)) → option_and_then (λ (l : Layout). capped_all over (λ n. option_map capped (f n)) (capped_step over (capped_placed p) l) ms) (option_map capped o) ≡ option_map capped_placed (option_and_then (λ (l : Layout). placed_all (placed_step over) f (placed_step over p l) ms) o)
    by None e rest = refl
    by (Some l) e rest = ap (λ (q : Placed). capped_all over (λ n. option_map capped (f n)) q ms) (step_is over p l (h m l e)) ∙ rest l

same_agg : (m n a : ℕ) (us : List ℕ) → m ≡ n → ◌≡◌ {A = AggLayout} (record { whole = record { size = m; align = a }; offsets = us }) (record { whole = record { size = n; align = a }; offsets = us })
same_agg m n a us e = ap (λ k. let r : AggLayout = record { whole = record { size = k; align = a }; offsets = us } in r) e

all_finished : (o : Option Placed) → ((p : Placed) → o ≡ Some p → Aligned p.align) → option_map capped_finished (option_map capped_placed o) ≡ option_map capped_agg (option_map finished o)
all_finished None h = refl
all_finished (Some p) h = ap Some (same_agg (cap (round_up (cap p.end) p.align)) (cap (round_up p.end p.align)) p.align (map cap p.offsets) (cap_round p.end p.align (h p refl)))

no_offsets : (ms : List Member) → map (λ (m : Member). 0) ms ≡ map cap (map (λ (m : Member). 0) ms)
no_offsets [] = refl
no_offsets (m ∷ ms) = ap (λ (us : List ℕ). 0 ∷ us) (no_offsets ms)

max_aligned : (a b : ℕ) → Aligned a → Aligned b → Aligned (max a b)
max_aligned a b (inl p) (inl q) = inl (omega arith)
max_aligned a b (inl p) (inr (inl q)) = inr (inl (omega arith))
max_aligned a b (inl p) (inr (inr (inl q))) = inr (inr (inl (omega arith)))
max_aligned a b (inl p) (inr (inr (inr q))) = inr (inr (inr (omega arith)))
max_aligned a b (inr (inl p)) (inl q) = inr (inl (omega arith))
max_aligned a b (inr (inl p)) (inr (inl q)) = inr (inl (omega arith))
max_aligned a b (inr (inl p)) (inr (inr (inl q))) = inr (inr (inl (omega arith)))
max_aligned a b (inr (inl p)) (inr (inr (inr q))) = inr (inr (inr (omega arith)))
max_aligned a b (inr (inr (inl p))) (inl q) = inr (inr (inl (omega arith)))
max_aligned a b (inr (inr (inl p))) (inr (inl q)) = inr (inr (inl (omega arith)))
max_aligned a b (inr (inr (inl p))) (inr (inr (inl q))) = inr (inr (inl (omega arith)))
max_aligned a b (inr (inr (inl p))) (inr (inr (inr q))) = inr (inr (inr (omega arith)))
max_aligned a b (inr (inr (inr p))) (inl q) = inr (inr (inr (omega arith)))
max_aligned a b (inr (inr (inr p))) (inr (inl q)) = inr (inr (inr (omega arith)))
max_aligned a b (inr (inr (inr p))) (inr (inr (inl q))) = inr (inr (inr (omega arith)))
max_aligned a b (inr (inr (inr p))) (inr (inr (inr q))) = inr (inr (inr (omega arith)))

placed_aligned : (over : Bool) (p : Placed) (l : Layout) → Aligned p.align → Aligned l.align → Aligned (placed_step over p l).align
placed_aligned true p l g h = max_aligned p.align l.align g h
placed_aligned false p l g h = max_aligned p.align l.align g h

pub all_aligned : (over : Bool) (f : Member → Option Layout) → ((m : Member) (l : Layout) → f m ≡ Some l → Aligned l.align) → (p : Placed) → Aligned p.align → (ms : List Member) (q : Placed) → placed_all (placed_step over) f p ms ≡ Some q → Aligned q.align
all_aligned over f h p g [] q e = let same : p ≡ q = cc in subst (λ (r : Placed). Aligned r.align) same g
all_aligned over f h p g (m ∷ ms) q e = by (f m) refl e (λ l k. all_aligned over f h (placed_step over p l) k ms q)
  where
    by : (o : Option Layout) → f m ≡ o → option_and_then (λ (l : Layout). placed_all (placed_step over) f (placed_step over p l) ms) o ≡ Some q → ((l : Layout) → Aligned (placed_step over p l).align → placed_all (placed_step over) f (placed_step over p l) ms ≡ Some q → Aligned q.align) → Aligned q.align
    by None s d rest = cc
    by (Some l) s d rest = rest l (placed_aligned over p l g (h m l s)) d

pub members_are : (kind : AggKind) (f : Member → Option Layout) → ((m : Member) (l : Layout) → f m ≡ Some l → Aligned l.align) → (ms : List Member) → capped_members kind (λ m. option_map capped (f m)) ms ≡ option_map capped_agg (members_layout kind f ms)
members_are Struct f h ms = ap (option_map capped_finished) (all_are false f h nothing_placed ms) ∙ all_finished (placed_all placed_behind f nothing_placed ms) (λ p e. all_aligned false f h nothing_placed (inl refl) ms p e)
members_are Union f h ms = ap (option_map capped_finished) (all_are true f h nothing_placed ms) ∙ all_finished (placed_all placed_over f nothing_placed ms) (λ p e. all_aligned true f h nothing_placed (inl refl) ms p e)
members_are Enum f h ms = ap (λ (us : List ℕ). let r : Option AggLayout = Some (record { whole = record { size = 4; align = 4 }; offsets = us }) in r) (no_offsets ms)
