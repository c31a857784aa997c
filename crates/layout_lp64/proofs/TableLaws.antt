-- Device: the tables of layouts, and the layouts that the arena defines.
use Rattle.std.proofs.Common.{◌≡◌, ◌≢◌, ℕ, zero, suc, ◌+◌, ◌<◌, ◌≤◌, max, Bool, true, false, cond, nat_lt, nat_eq, List, [], ◌∷◌, ◌++◌, length, map, drop, get_or, replicate, slice_get, is_some, Option, Some, None, ◌⊎◌, inl, inr, refl, sym, ap, ◌∙◌, subst, arith, length-append, add-one, lt-ltb, le-ltb, drop-cons}
use Rattle.std.proofs.Math.ListN.{set, length-set}
use Rattle.std.proofs.Math.Path.{fun_ext}
use Rattle.std.proofs.lemmas.Bool.Decides.{eqb_tells}
use Rattle.std.proofs.lemmas.List.{get_or-set_same}
use Rattle.std.proofs.lemmas.Grind.{get_or_default_zero}
use Rattle.std.proofs.lemmas.Option.{slice_get_within, get_or_from_slice_get}
use Rattle.std.specs.Option.{option_map, option_and_then}
use Rattle.cil_base.specs.declared.kinds.Abi.{Abi}
use Rattle.cil_base.specs.declared.kinds.IntKind.{IntKind}
use Rattle.cil_base.specs.Integer.{size_of, pointer_size_of}
use Rattle.cil_base.specs.declared.numbers.AggId.{AggId}
use Rattle.type_graph.specs.declared.aggregates.Aggregate.{Aggregate}
use Rattle.type_graph.specs.declared.aggregates.Member.{Member}
use Rattle.type_graph.specs.declared.layout.Layout.{Layout}
use Rattle.type_graph.specs.declared.nodes.Node.{Node}
use Rattle.type_graph.specs.declared.nodes.Node.TheVariants.{Void, Int, Ptr, Array, Func, Agg}
use Rattle.type_graph.specs.Shapes.{Shape, VoidType, IntType, PtrType, ArrayType, FuncType, AggType, shape, shape_of}
use Rattle.type_graph.proofs.ShapeLaws.{shape_is}
use Rattle.type_graph.specs.Arena.{Graph, IsArena, NamesBelow, rank, held, EachBelow}
use Rattle.type_graph.specs.Layouts.{AggLayout, Placed, member_in, without_elements, members_layout, aggregate_in, whole_of, agg_layout}
use Rattle.type_graph.proofs.LayoutLaws.{step_same, agg_layout_is}
use Rattle.layout_lp64.specs.declared.layouts.Layouts.{Layouts}
use Rattle.layout_lp64.specs.declared.spans.Span.{Span}
use Rattle.layout_lp64.specs.declared.spans.Span.TheVariants.{Nothing, Fixed, Copies}
use Rattle.layout_lp64.specs.Capped.{capped, capped_agg, times, span_of, span_shape, copies, resolve, member_span, capped_all, capped_step, capped_members, capped_aggregate}
use Rattle.layout_lp64.specs.Tables.{agg_found, whole_found, known, AreSpans, AreTables, AreAligned, AddsSpan, AddsLayout}
use Rattle.layout_lp64.proofs.CapLaws.{Aligned, cases, resolve_times, member_is, members_are}
use Rattle.layout_lp64.proofs.AlignLaws.{size_aligned, pointer_aligned, agg_aligned, whole_aligned, member_in_aligned, mapped_from}

pub placed_next : (over : Bool) (f : Member → Option Layout) (p q : Placed) (ms : List Member) (i : ℕ) (d : Member) (l : Layout) (whole : Option Placed) → i < length ms → Some l ≡ f (get_or ms i d) → q ≡ capped_step over p l → whole ≡ capped_all over f p (drop i ms) → whole ≡ capped_all over f q (drop (i + 1) ms)
placed_next over f p q ms i d l whole h e s w =
    w ∙ ap (capped_all over f p) (dropped ms i d h)
    ∙ ap (option_and_then (λ (y : Layout). capped_all over f (capped_step over p y) (drop (i + 1) ms))) (sym e)
    ∙ ap (λ (r : Placed). capped_all over f r (drop (i + 1) ms)) (sym s)
  where
    dropped : (xs : List Member) (j : ℕ) (x : Member) → j < length xs → drop j xs ≡ get_or xs j x ∷ drop (j + 1) xs
    dropped xs j x l = rw (add-one, drop-cons xs j x) refl

pub no_offsets : (ms : List Member) (us : List ℕ) → us ≡ replicate {A = ℕ} (length ms) 0 → us ≡ map (λ (m : Member). 0) ms
no_offsets ms us e = e ∙ zeros ms
  where
    zeros : (ns : List Member) → replicate {A = ℕ} (length ns) 0 ≡ map (λ (m : Member). 0) ns
    zeros [] = refl
    zeros (n ∷ ns) = ap (λ (ws : List ℕ). 0 ∷ ws) (zeros ns)

pub enum_is : (r : ℕ) (us : List ℕ) (ms : List Member) → r ≡ 4 → us ≡ replicate {A = ℕ} (length ms) 0 → ◌≡◌ {A = Option AggLayout} (Some (record { whole = record { size = r; align = r }; offsets = us })) (Some (record { whole = record { size = 4; align = 4 }; offsets = map (λ (m : Member). 0) ms }))
enum_is r us ms e q =
    ap (λ n. let x : Option AggLayout = Some (record { whole = record { size = n; align = n }; offsets = us }) in x) e
    ∙ ap (λ (vs : List ℕ). let x : Option AggLayout = Some (record { whole = record { size = 4; align = 4 }; offsets = vs }) in x) (no_offsets ms us q)

-- what is known of an aggregate among the first that were completed
unfoldable pub part : Graph → ℕ → ℕ → Option Layout
part g i b = cond (nat_lt (rank g.completed b) i) (whole_of (agg_layout g b)) None

pub part_is : (g : Graph) (i b : ℕ) → option_map (λ (l : AggLayout). l.whole) (known g i b) ≡ option_map capped (part g i b)
unfolding part
part_is g i b = by (nat_lt (rank g.completed b) i) (agg_layout g b)
  where
    by : (v : Bool) (o : Option AggLayout) → option_map (λ (l : AggLayout). l.whole) (cond v (option_map capped_agg o) None) ≡ option_map capped (cond v (whole_of o) None)
    by true None = refl
    by true (Some l) = refl
    by false o = refl

pub part_aligned : (g : Graph) (i b : ℕ) (l : Layout) → part g i b ≡ Some l → Aligned l.align
unfolding part
part_aligned g i b l = by (nat_lt (rank g.completed b) i)
  where
    by : (v : Bool) → cond v (whole_of (agg_layout g b)) None ≡ Some l → Aligned l.align
    by true e = whole_aligned (agg_layout g b) (λ x q. agg_aligned g b x q) l e
    by false e = cc

positive : (a : ℕ) → Aligned a → 0 < a
positive a (inl h) = omega arith
positive a (inr (inl h)) = omega arith
positive a (inr (inr (inl h))) = omega arith
positive a (inr (inr (inr h))) = omega arith

module _ (l : Layouts) (g : Graph) (t : AreTables l g) where
  found_part : (b : ℕ) → whole_found l.aggs b ≡ option_map capped (part g l.completed b)
  found_part b = ap (option_map (λ (x : AggLayout). x.whole)) (t.layouts b) ∙ part_is g l.completed b

  pub found_parts : whole_found l.aggs ≡ (λ b. option_map capped (part g l.completed b))
  found_parts = fun_ext found_part

  pub are_aligned : AreAligned l.aggs
  are_aligned = record { each = λ b x e. one b x (sym (found_part b) ∙ e) }
    where
      one : (b : ℕ) (x : Layout) → option_map capped (part g l.completed b) ≡ Some x → 0 < x.align
      one b x e =
          let from = mapped_from capped (part g l.completed b) x e in
          subst (λ (y : Layout). 0 < y.align) from.2 (positive from.0.align (part_aligned g l.completed b from.0 from.1))

-- the loop over members
pub size_positive : (k : IntKind) → 0 < size_of k
size_positive k = positive (size_of k) (size_aligned k)

pub pointer_positive : (abi : Abi) → 0 < pointer_size_of abi
pointer_positive abi = positive (pointer_size_of abi) (pointer_aligned abi)

resolved_positive : (abi : Abi) (f : ℕ → Option Layout) (s : Shape) → ((b : ℕ) (x : Layout) → f b ≡ Some x → 0 < x.align) → (x : Layout) → resolve f (span_shape abi s) ≡ Some x → 0 < x.align
resolved_positive abi f VoidType h x e = cc
resolved_positive abi f (IntType k) h x e = let same : ◌≡◌ {A = Layout} (record { size = size_of k; align = size_of k }) x = cc in subst (λ (y : Layout). 0 < y.align) same (size_positive k)
resolved_positive abi f (PtrType quals s) h x e = let same : ◌≡◌ {A = Layout} (record { size = pointer_size_of abi; align = pointer_size_of abi }) x = cc in subst (λ (y : Layout). 0 < y.align) same (positive (pointer_size_of abi) (pointer_aligned abi))
resolved_positive abi f (ArrayType quals s None) h x e = cc
resolved_positive abi f (ArrayType quals s (Some n)) h x e =
    let from = mapped_from (copies n) (resolve f (span_shape abi s)) x (sym (resolve_times f n (span_shape abi s)) ∙ e) in
    subst (λ (y : Layout). 0 < y.align) from.2 (resolved_positive abi f s h from.0 from.1)
resolved_positive abi f (FuncType ret params proto variadic) h x e = cc
resolved_positive abi f (AggType a) h x e =
    let from = mapped_from (copies 1) (f a) x e in
    subst (λ (y : Layout). 0 < y.align) from.2 (h a from.0 from.1)

member_positive : (abi : Abi) (f : ℕ → Option Layout) (s : Shape) → ((b : ℕ) (x : Layout) → f b ≡ Some x → 0 < x.align) → (x : Layout) → member_span abi f s ≡ Some x → 0 < x.align
member_positive abi f VoidType h x e = cc
member_positive abi f (IntType k) h x e = resolved_positive abi f (IntType k) h x e
member_positive abi f (PtrType quals s) h x e = resolved_positive abi f (PtrType quals s) h x e
member_positive abi f (ArrayType quals s None) h x e =
    let from = mapped_from without_elements (resolve f (span_shape abi s)) x e in
    subst (λ (y : Layout). 0 < y.align) from.2 (resolved_positive abi f s h from.0 from.1)
member_positive abi f (ArrayType quals s (Some n)) h x e = resolved_positive abi f (ArrayType quals s (Some n)) h x e
member_positive abi f (FuncType ret params proto variadic) h x e = cc
member_positive abi f (AggType a) h x e = resolved_positive abi f (AggType a) h x e

-- a span of an aggregate is that of a type that has it within itself, and the aggregate is there
span_held : (abi : Abi) (s : Shape) (a : AggId) (k : ℕ) → span_shape abi s ≡ Copies a k → held s ≡ Some a.0
span_held abi VoidType a k e = cc
span_held abi (IntType kind) a k e = cc
span_held abi (PtrType quals s) a k e = cc
span_held abi (ArrayType quals s None) a k e = cc
span_held abi (ArrayType quals s (Some n)) a k e = by (span_shape abi s) e (span_held abi s)
  where
    by : (sp : Span) → times n sp ≡ Copies a k → ((b : AggId) (j : ℕ) → sp ≡ Copies b j → held s ≡ Some b.0) → held s ≡ Some a.0
    by Nothing q rest = cc
    by (Fixed l) q rest = cc
    by (Copies b j) q rest = let same : b ≡ a = cc in rest b j refl ∙ ap (λ (c : AggId). Some c.0) same
span_held abi (FuncType ret params proto variadic) a k e = cc
span_held abi (AggType b) a k e = let same : ◌≡◌ {A = AggId} (record { 0 = b }) a = cc in ap (λ (c : AggId). Some c.0) same

held_node : (ns : List Node) (t m b : ℕ) (x : Node) → NamesBelow t m x → ((s : ℕ) → s < t → held (shape ns s) ≡ Some b → b < m) → held (shape_of (shape ns) x) ≡ Some b → b < m
held_node ns t m b Void n rest e = cc
held_node ns t m b (Int kind) n rest e = cc
held_node ns t m b (Ptr q) n rest e = cc
held_node ns t m b (Array q bound) n rest e = rest q.of.0 n e
held_node ns t m b (Func proto variadic ret params) n rest e = cc
held_node ns t m b (Agg a) n rest e = let same : a.0 ≡ b = cc in omega arith

get_there : {K : Type 0} (xs : List K) (i : ℕ) → i < length xs → (x : K) × (slice_get xs i ≡ Some x)
get_there [] i h = absurd (omega arith)
get_there (x ∷ xs) zero h = (x, refl)
get_there (x ∷ xs) (suc i) h = get_there xs i (omega arith)

held_within : (g : Graph) → IsArena g → (k t b : ℕ) → t < k → t < length g.nodes → held (shape g.nodes t) ≡ Some b → b < length g.aggs
held_within g w zero t b h l e = absurd (omega arith)
held_within g w (suc k) t b h l e =
    let x = get_there g.nodes t l in
    held_node g.nodes t (length g.aggs) b x.0 (w.grounded t x.0 x.1) (λ s below q. held_within g w k s b (omega arith) (omega arith) q)
    (ap held (sym (shape_is g.nodes t (length g.aggs) x.0 x.1 (w.grounded t x.0 x.1))) ∙ e)

pub copies_within : (g : Graph) → IsArena g → (t : ℕ) (a : AggId) (k : ℕ) → t < length g.nodes → span_shape g.abi (shape g.nodes t) ≡ Copies a k → a.0 < length g.aggs
copies_within g w t a k l e = held_within g w (suc t) t a.0 (omega arith) l (span_held g.abi (shape g.nodes t) a k e)

-- the types of members are there
below_there : (ns : List Node) (order : List AggId) (r : ℕ) (ms : List Member) (i : ℕ) (m : Member) → EachBelow ns order r ms → slice_get ms i ≡ Some m → m.ty.of.0 < length ns
below_there ns order r [] i m h e = cc
below_there ns order r (x ∷ ms) zero m h e = let same : x ≡ m = cc in subst (λ (y : Member). y.ty.of.0 < length ns) same h.0
below_there ns order r (x ∷ ms) (suc i) m h e = below_there ns order r ms i m h.2 e

pub members_there : (g : Graph) → IsArena g → (a : ℕ) (x : Aggregate) (ms : List Member) → slice_get g.aggs a ≡ Some x → x.members ≡ Some ms → (i : ℕ) (m : Member) → slice_get ms i ≡ Some m → m.ty.of.0 < length g.nodes
members_there g w a x ms at some i m e =
    below_there g.nodes g.completed (rank g.completed a) ms i m (w.nested a ms (ap (option_and_then (λ (y : Aggregate). y.members)) at ∙ some)).1 e

-- a completed aggregate is there
pub completed_there : (g : Graph) → IsArena g → (i : ℕ) (a : AggId) → slice_get g.completed i ≡ Some a → a.0 < length g.aggs
completed_there g w i a e = by (slice_get g.aggs a.0) refl (w.ordered i a e).0
  where
    by : (o : Option Aggregate) → slice_get g.aggs a.0 ≡ o → is_some (option_and_then (λ (y : Aggregate). y.members) o) ≡ true → a.0 < length g.aggs
    by None q h = cc
    by (Some x) q h = slice_get_within g.aggs a.0 x q

pub span_aligned : (l : Layouts) (g : Graph) (s : Shape) (x : Layout) → AreAligned l.aggs → Some x ≡ member_span g.abi (whole_found l.aggs) s → 0 < x.align
span_aligned l g s x h e = member_positive g.abi (whole_found l.aggs) s h.each x (sym e)

pub placed_positive : (l : Layouts) (g : Graph) (f : Member → Option Layout) (ms : List Member) (i : ℕ) (d : Member) (x : Layout) → AreAligned l.aggs → ((m : Member) → f m ≡ member_span g.abi (whole_found l.aggs) (shape g.nodes m.ty.of.0)) → Some x ≡ f (get_or ms i d) → 0 < x.align
placed_positive l g f ms i d x h same e = span_aligned l g (shape g.nodes (get_or ms i d).ty.of.0) x h (e ∙ same (get_or ms i d))

-- the layout of an aggregate from what is known of those within it
aggregate_is : (abi : Abi) (ns : List Node) (f : ℕ → Option Layout) → ((b : ℕ) (l : Layout) → f b ≡ Some l → Aligned l.align) → (o : Option Aggregate) → option_and_then (capped_aggregate abi ns (λ b. option_map capped (f b))) o ≡ option_map capped_agg (option_and_then (aggregate_in abi ns f) o)
aggregate_is abi ns f h None = refl
aggregate_is abi ns f h (Some x) = by x.members
  where
    same : ◌≡◌ {A = Member → Option Layout} (λ (m : Member). member_span abi (λ b. option_map capped (f b)) (shape ns m.ty.of.0)) (λ (m : Member). option_map capped (member_in abi f (shape ns m.ty.of.0)))
    same = fun_ext (λ (m : Member). member_is abi f (shape ns m.ty.of.0))

    by : (o : Option (List Member)) → option_and_then (capped_members x.kind (λ (m : Member). member_span abi (λ b. option_map capped (f b)) (shape ns m.ty.of.0))) o ≡ option_map capped_agg (option_and_then (members_layout x.kind (λ (m : Member). member_in abi f (shape ns m.ty.of.0))) o)
    by None = refl
    by (Some ms) = ap (λ (k : Member → Option Layout). capped_members x.kind k ms) same ∙ members_are x.kind (λ (m : Member). member_in abi f (shape ns m.ty.of.0)) (λ m l e. member_in_aligned abi f (shape ns m.ty.of.0) h l e) ms

-- the next aggregate's layout, from the tables so far
pub next_layout : (l : Layouts) (g : Graph) (t : AreTables l g) → IsArena g → (a : AggId) → slice_get g.completed l.completed ≡ Some a → option_and_then (capped_aggregate g.abi g.nodes (whole_found l.aggs)) (slice_get g.aggs a.0) ≡ option_map capped_agg (agg_layout g a.0)
unfolding part
next_layout l g t w a e =
    ap (λ (f : ℕ → Option Layout). option_and_then (capped_aggregate g.abi g.nodes f) (slice_get g.aggs a.0)) (found_parts l g t)
    ∙ aggregate_is g.abi g.nodes (part g l.completed) (λ b x q. part_aligned g l.completed b x q) (slice_get g.aggs a.0)
    ∙ ap (option_map capped_agg) (step_same g w (part g l.completed) (λ b. whole_of (agg_layout g b)) a.0 within ∙ sym (agg_layout_is g w a.0))
  where
    within : (b : ℕ) → rank g.completed b < rank g.completed a.0 → cond (nat_lt (rank g.completed b) l.completed) (whole_of (agg_layout g b)) None ≡ whole_of (agg_layout g b)
    within b h =
        let place : rank g.completed a.0 ≡ l.completed = (w.ordered l.completed a e).1 in
        let below : nat_lt (rank g.completed b) l.completed ≡ true = lt-ltb (rank g.completed b) l.completed (omega arith) in
        ap (λ v. cond v (whole_of (agg_layout g b)) None) below

-- spans
span_of_is : (abi : Abi) (ns : List Node) (spans : List Span) (n m : ℕ) (x : Node) → n ≤ length spans → ((t : ℕ) → t < length spans → slice_get spans t ≡ Some (span_shape abi (shape ns t))) → NamesBelow n m x → span_of abi (λ k. get_or spans k Nothing) x ≡ span_shape abi (shape_of (shape ns) x)
span_of_is abi ns spans n m Void l h b = refl
span_of_is abi ns spans n m (Int kind) l h b = refl
span_of_is abi ns spans n m (Ptr q) l h b = refl
span_of_is abi ns spans n m (Array q None) l h b = refl
span_of_is abi ns spans n m (Array q (Some k)) l h b = ap (times k) (get_or_from_slice_get spans q.of.0 (span_shape abi (shape ns q.of.0)) Nothing (h q.of.0 (omega arith)))
span_of_is abi ns spans n m (Func proto variadic ret params) l h b = refl
span_of_is abi ns spans n m (Agg a) l h b = refl

pub push_get : {K : Type 0} (xs : List K) (y : K) (i : ℕ) (x : K) → slice_get (xs ++ y ∷ []) i ≡ Some x → (slice_get xs i ≡ Some x) ⊎ ((i ≡ length xs) × (y ≡ x))
push_get [] y zero x e = inr (refl, cc)
push_get [] y (suc i) x e = cc
push_get (z ∷ xs) y zero x e = inl e
push_get (z ∷ xs) y (suc i) x e = elim (push_get xs y i x e) [ inl h ↦ inl h | inr h ↦ inr (ap suc h.0, h.1) ]

pub get_pushed : {K : Type 0} (xs : List K) (y : K) (i : ℕ) → i < length xs → slice_get (xs ++ y ∷ []) i ≡ slice_get xs i
get_pushed [] y i h = absurd (omega arith)
get_pushed (z ∷ xs) y zero h = refl
get_pushed (z ∷ xs) y (suc i) h = get_pushed xs y i (omega arith)

pub get_last : {K : Type 0} (xs : List K) (y : K) → slice_get (xs ++ y ∷ []) (length xs) ≡ Some y
get_last [] y = refl
get_last (z ∷ xs) y = get_last xs y

spans_pushed : (spans : List Span) (g : Graph) (sp : Span) → AreSpans spans g → length spans < length g.nodes → sp ≡ span_shape g.abi (shape g.nodes (length spans)) → AreSpans (spans ++ sp ∷ []) g
spans_pushed spans g sp w within e = record {
  count = omega (arith, length-append spans (sp ∷ []));
  each = λ t l. one t (cases_last t (length spans) (omega (arith, length-append spans (sp ∷ []))));
}
  where
    cases_last : (m n : ℕ) → m ≤ n → (m < n) ⊎ (m ≡ n)
    cases_last m n l = grind arith

    one : (t : ℕ) → (t < length spans) ⊎ (t ≡ length spans) → slice_get (spans ++ sp ∷ []) t ≡ Some (span_shape g.abi (shape g.nodes t))
    one t (inl h) = get_pushed spans sp t h ∙ w.each t h
    one t (inr h) = ap (slice_get (spans ++ sp ∷ [])) h ∙ get_last spans sp ∙ ap Some e ∙ ap (λ k. Some (span_shape g.abi (shape g.nodes k))) (sym h)

-- the span of the next type
pub next_span : (l : Layouts) (g : Graph) → AreTables l g → (t m : ℕ) (x : Node) → t ≡ length l.spans → NamesBelow t m x → shape g.nodes t ≡ shape_of (shape g.nodes) x → span_of g.abi (λ k. get_or l.spans k Nothing) x ≡ span_shape g.abi (shape g.nodes (length l.spans))
next_span l g w t m x e b s = span_of_is g.abi g.nodes l.spans t m x (omega arith) w.spans.each b ∙ ap (span_shape g.abi) (sym s) ∙ ap (λ k. span_shape g.abi (shape g.nodes k)) e

pub span_from : (l : Layouts) (g : Graph) → AreTables l g → (abi : Abi) (spans : List Span) (t m : ℕ) (x : Node) (sp : Span) → abi ≡ g.abi → spans ≡ l.spans → sp ≡ span_of abi (λ k. get_or spans k Nothing) x → t ≡ length l.spans → NamesBelow t m x → shape g.nodes t ≡ shape_of (shape g.nodes) x → sp ≡ span_shape g.abi (shape g.nodes (length l.spans))
span_from l g w abi spans t m x sp a s e p b q =
    e ∙ ap (λ (i : Abi). span_of i (λ k. get_or spans k Nothing) x) a ∙ ap (λ (ss : List Span). span_of g.abi (λ k. get_or ss k Nothing) x) s ∙ next_span l g w t m x p b q

pub most_covers : (xs : List ℕ) (i v k m : ℕ) → i < length xs → v ≡ get_or xs i v → m ≡ max v k → (get_or xs i 0 ≤ m) × (k ≤ get_or (set xs i m) i 0)
most_covers xs i v k m h e q =
    let zero_default : get_or xs i v ≡ get_or xs i 0 = get_or_default_zero xs i v h in
    let same : get_or (set xs i m) i 0 ≡ m = get_or-set_same xs i m 0 h in
    (omega arith, omega arith)

pub span_within : (l : Layouts) (g : Graph) → IsArena g → AreTables l g → (t : ℕ) (a : AggId) (k : ℕ) (sp : Span) → t ≡ length l.spans → t < length g.nodes → sp ≡ span_shape g.abi (shape g.nodes (length l.spans)) → sp ≡ Copies a k → a.0 < length l.most.items
span_within l g arena w t a k sp e within is copy =
    subst (λ n. a.0 < n) (sym w.most_count) (copies_within g arena (length l.spans) a k (subst (λ n. n < length g.nodes) e within) (sym is ∙ copy))

pub copy_covered : (ms : List ℕ) (a b : AggId) (j k : ℕ) (sp : Span) → sp ≡ Copies a j → j ≤ get_or ms a.0 0 → sp ≡ Copies b k → k ≤ get_or ms b.0 0
copy_covered ms a b j k sp e h q =
    let same : Copies a j ≡ Copies b k = sym e ∙ q in
    let id : a ≡ b = cc in
    let count : j ≡ k = cc in
    subst (λ (x : AggId). k ≤ get_or ms x.0 0) id (subst (λ n. n ≤ get_or ms a.0 0) count h)

-- tables with one more span
pub span_added : (old new : Layouts) (g : Graph) (sp : Span) → AreTables old g → length old.spans < length g.nodes → sp ≡ span_shape g.abi (shape g.nodes (length old.spans)) → new.spans ≡ old.spans ++ sp ∷ [] → new.aggs ≡ old.aggs → length new.most.items ≡ length old.most.items → new.completed ≡ old.completed → ((a : ℕ) → get_or old.most.items a 0 ≤ get_or new.most.items a 0) → ((a : AggId) (k : ℕ) → sp ≡ Copies a k → k ≤ get_or new.most.items a.0 0) → AddsSpan old new g
span_added old new g sp w within e spans aggs most done more last = record {
  tables = record {
    spans = subst (λ (s : List Span). AreSpans s g) (sym spans) (spans_pushed old.spans g sp w.spans within e);
    aggs_count = ap length aggs ∙ w.aggs_count;
    most_count = most ∙ w.most_count;
    layouts = λ a. ap (λ (x : List (Option AggLayout)). agg_found x a) aggs ∙ w.layouts a ∙ ap (λ i. known g i a) (sym done);
    most = λ t a k q. one t a k (push_get old.spans sp t (Copies a k) (ap (λ (s : List Span). slice_get s t) (sym spans) ∙ q));
    done = subst (λ i. i ≤ length g.completed) (sym done) w.done;
  };
  count = ap length spans ∙ length-append old.spans (sp ∷ []) ∙ add-one (length old.spans);
  done = done;
}
  where
    one : (t : ℕ) (a : AggId) (k : ℕ) → (slice_get old.spans t ≡ Some (Copies a k)) ⊎ ((t ≡ length old.spans) × (sp ≡ Copies a k)) → k ≤ get_or new.most.items a.0 0
    one t a k (inl h) = let p : k ≤ get_or old.most.items a.0 0 = w.most t a k h in let q : get_or old.most.items a.0 0 ≤ get_or new.most.items a.0 0 = more a.0 in omega arith
    one t a k (inr h) = last a k h.1

-- a larger number at a place
pub set_larger : (xs : List ℕ) (i v a : ℕ) → get_or xs i 0 ≤ v → get_or xs a 0 ≤ get_or (set xs i v) a 0
set_larger [] i v a h = omega arith
set_larger (x ∷ xs) zero v zero h = h
set_larger (x ∷ xs) zero v (suc a) h = omega arith
set_larger (x ∷ xs) (suc i) v zero h = omega arith
set_larger (x ∷ xs) (suc i) v (suc a) h = set_larger xs i v a h

-- the aggregate at its place in the order of completion
pub rank_get : (order : List AggId) (b : ℕ) → rank order b < length order → (a : AggId) × (slice_get order (rank order b) ≡ Some a) × (a.0 ≡ b)
rank_get [] b h = absurd (omega arith)
rank_get (c ∷ order) b h = by (eqb_tells c.0 b) h (rank_get order b)
  where
    by : ((nat_eq c.0 b ≡ true) × (c.0 ≡ b)) ⊎ ((nat_eq c.0 b ≡ false) × (c.0 ≢ b)) → cond (nat_eq c.0 b) 0 (suc (rank order b)) < suc (length order) → (rank order b < length order → (a : AggId) × (slice_get order (rank order b) ≡ Some a) × (a.0 ≡ b)) → (a : AggId) × (slice_get (c ∷ order) (cond (nat_eq c.0 b) 0 (suc (rank order b))) ≡ Some a) × (a.0 ≡ b)
    by (inl q) l rest = (c, ap (λ v. slice_get (c ∷ order) (cond v 0 (suc (rank order b)))) q.0, q.1)
    by (inr q) l rest =
        let place : cond (nat_eq c.0 b) 0 (suc (rank order b)) ≡ suc (rank order b) = ap (λ v. cond v 0 (suc (rank order b))) q.0 in
        let found = rest (omega arith) in
        (found.0, ap (slice_get (c ∷ order)) place ∙ found.1, found.2)

beyond : (m i : ℕ) → i ≤ m → m ≢ i → i + 1 ≤ m
beyond m i l h = grind arith

found_set : (xs : List (Option AggLayout)) (a : ℕ) (o : Option AggLayout) → a < length xs → agg_found (set xs a o) a ≡ o
found_set [] a o h = absurd (omega arith)
found_set (x ∷ xs) zero o h = refl
found_set (x ∷ xs) (suc a) o h = found_set xs a o (omega arith)

found_set_other : (xs : List (Option AggLayout)) (a b : ℕ) (o : Option AggLayout) → b ≢ a → agg_found (set xs a o) b ≡ agg_found xs b
found_set_other [] a b o h = refl
found_set_other (x ∷ xs) zero zero o h = absurd (h refl)
found_set_other (x ∷ xs) zero (suc b) o h = refl
found_set_other (x ∷ xs) (suc a) zero o h = refl
found_set_other (x ∷ xs) (suc a) (suc b) o h = found_set_other xs a b o (λ e. h (ap suc e))

same_test : (m i : ℕ) → m ≢ i → nat_lt m i ≡ nat_lt m (i + 1)
same_test m i h = by (cases i m)
  where
    by : (i ≤ m) ⊎ (m < i) → nat_lt m i ≡ nat_lt m (i + 1)
    by (inl l) =
        let more : i + 1 ≤ m = beyond m i l h in
        le-ltb m i l ∙ sym (le-ltb m (i + 1) more)
    by (inr l) = lt-ltb m i l ∙ sym (lt-ltb m (i + 1) (omega arith))

-- tables with one more layout
pub layout_added : (old new : Layouts) (g : Graph) (a : AggId) (o : Option AggLayout) → IsArena g → AreTables old g → slice_get g.completed old.completed ≡ Some a → a.0 < length g.aggs → o ≡ option_and_then (capped_aggregate g.abi g.nodes (whole_found old.aggs)) (slice_get g.aggs a.0) → new.spans ≡ old.spans → new.aggs ≡ set old.aggs a.0 o → new.most.items ≡ old.most.items → new.completed ≡ old.completed + 1 → AddsLayout old new g
layout_added old new g a o arena w next there is spans aggs most done = record {
  tables = record {
    spans = subst (λ (s : List Span). AreSpans s g) (sym spans) w.spans;
    aggs_count = ap length aggs ∙ length-set old.aggs a.0 o ∙ w.aggs_count;
    most_count = ap length most ∙ w.most_count;
    layouts = λ b. ap (λ (x : List (Option AggLayout)). agg_found x b) aggs ∙ one b (eqb_tells b a.0) ∙ ap (λ i. known g i b) (sym done);
    most = λ t b k q. subst (λ (ms : List ℕ). k ≤ get_or ms b.0 0) (sym most) (w.most t b k (ap (λ (s : List Span). slice_get s t) (sym spans) ∙ q));
    done = let l : old.completed < length g.completed = slice_get_within g.completed old.completed a next in omega arith;
  };
  count = ap length spans;
  done = done ∙ add-one old.completed;
}
  where
    place : rank g.completed a.0 ≡ old.completed
    place = (arena.ordered old.completed a next).1

    now : agg_found (set old.aggs a.0 o) a.0 ≡ o
    now = found_set old.aggs a.0 o (omega (arith, w.aggs_count))

    other : (b : ℕ) → b ≢ a.0 → known g old.completed b ≡ known g (old.completed + 1) b
    other b differ = ap (λ v. cond v (option_map capped_agg (agg_layout g b)) None) (same_test (rank g.completed b) old.completed (λ e. differ (unplaced b e)))
      where
        unplaced : (c : ℕ) → rank g.completed c ≡ old.completed → c ≡ a.0
        unplaced c e =
            let l : old.completed < length g.completed = slice_get_within g.completed old.completed a next in
            let found = rank_get g.completed c (omega arith) in
            let same : Some found.0 ≡ Some a = sym found.1 ∙ ap (slice_get g.completed) e ∙ next in
            let id : found.0 ≡ a = cc in
            sym found.2 ∙ ap (λ (x : AggId). x.0) id

    one : (b : ℕ) → ((nat_eq b a.0 ≡ true) × (b ≡ a.0)) ⊎ ((nat_eq b a.0 ≡ false) × (b ≢ a.0)) → agg_found (set old.aggs a.0 o) b ≡ known g (old.completed + 1) b
    one b (inl h) =
        let p : rank g.completed a.0 ≡ old.completed = place in
        let test : nat_lt (rank g.completed a.0) (old.completed + 1) ≡ true = lt-ltb (rank g.completed a.0) (old.completed + 1) (omega arith) in
        ap (agg_found (set old.aggs a.0 o)) h.1 ∙ now ∙ is ∙ next_layout old g w arena a next
        ∙ sym (ap (known g (old.completed + 1)) h.1 ∙ ap (λ v. cond v (option_map capped_agg (agg_layout g a.0)) None) test)
    one b (inr h) = found_set_other old.aggs a.0 b o h.1 ∙ w.layouts b ∙ other b h.1
