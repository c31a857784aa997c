-- Device: items whose paths lead to scalars with rising offsets, and each of which agrees with the next at unions, stand in order.
use Rattle.std.proofs.Common.{◌≡◌, ◌≢◌, ℕ, zero, suc, ◌+◌, ◌*◌, ◌<◌, ◌≤◌, Bool, true, false, ◌&&◌, ◌||◌, not, cond, nat_eq, nat_lt, List, [], ◌∷◌, map, slice_get, is_some, Option, Some, None, ◌⊎◌, inl, inr, refl, sym, ap, ◌∙◌, subst, arith, eqb-true, true≢false}
use Rattle.std.specs.Prelude.{unwrap_or}
use Rattle.std.specs.List.{list_all}
use Rattle.std.specs.Option.{option_map, option_and_then}
use Rattle.std.proofs.Math.Nat.{mul-le-mul_right}
use Rattle.cil_base.specs.declared.kinds.Abi.{Abi}
use Rattle.cil_base.specs.Integer.{size_of, pointer_size_of}
use Rattle.type_graph.specs.declared.aggregates.AggKind.{AggKind}
use Rattle.type_graph.specs.declared.aggregates.AggKind.TheVariants.{Struct, Union, Enum}
use Rattle.type_graph.specs.declared.aggregates.Aggregate.{Aggregate}
use Rattle.type_graph.specs.declared.aggregates.Member.{Member}
use Rattle.type_graph.specs.declared.layout.Layout.{Layout}
use Rattle.type_graph.specs.declared.nodes.Node.{Node}
use Rattle.type_graph.specs.declared.nodes.Quals.{Quals}
use Rattle.type_graph.specs.Shapes.{Shape, VoidType, IntType, PtrType, ArrayType, FuncType, AggType, shape}
use Rattle.type_graph.specs.Arena.{Graph, IsArena, EachFits, has_room, complete_shape, flexible_shape, members_of}
use Rattle.type_graph.specs.Layouts.{AggLayout, layout, layout_in, member_in, array_of, enum_layout, members_layout, aggregate_in, whole_of, agg_layout, offset}
use Rattle.type_graph.proofs.ArenaLaws.{some_there, each_has_room}
use Rattle.type_graph.proofs.LayoutLaws.{agg_layout_there, agg_layout_is, layout_there}
use Rattle.layout_lp64.proofs.CapLaws.{cases}
use Rattle.layout_lp64.proofs.AlignLaws.{mapped_from, then_from}
use Rattle.layout_lp64.proofs.TableLaws.{size_positive, pointer_positive}
use Rattle.layout_lp64.proofs.MemberRanges.{member_layout, member_within, members_apart}
use Rattle.cil_tree.specs.Tree.{Step, ToField, ToIndex, Item, Program}
use Rattle.cil_tree.specs.Typing.{is_enum, is_scalar, names_enum, member_of, member_at, member_type}
use Rattle.cil_tree.specs.Text.{shape_layout}
use Rattle.cil_tree.specs.Globals.{Part, member_part, element_part, path_part, is_union, is_union_kind, next_type, next_element, agree, item_fits, item_offset, is_below, are_rising, unions_agree, constant_fits}
use Rattle.cil_check.specs.Paths.{before, adjacent_agree, in_order, leads_to_scalar, ScalarsRise}
use Rattle.cil_check.proofs.UnionLaws.{ordered_agree, some_part}

-- a struct or union with members
record Whole (g : Graph) (s : Shape) : Type 0 where
  a : ℕ
  is : s ≡ AggType a
  x : Aggregate
  there : slice_get g.aggs a ≡ Some x
  kind : is_enum x.kind ≡ false
  ms : List Member
  some : x.members ≡ Some ms

-- a member of it, and its place
record Field (g : Graph) (s : Shape) (w : Whole g s) (n at : ℕ) (t : Shape) (to : ℕ) : Type 0 where
  m : Member
  member : slice_get w.ms n ≡ Some m
  type : shape g.nodes m.ty.of.0 ≡ t
  o : ℕ
  offset : offset g w.a n ≡ Some o
  place : at + o ≡ to

-- an element of an array, and its place
record Element (g : Graph) (s : Shape) (i at : ℕ) (t : Shape) (to : ℕ) : Type 0 where
  q : Quals
  k : ℕ
  is : s ≡ ArrayType q t (Some k)
  below : i < k
  l : Layout
  layout : shape_layout g t ≡ Some l
  place : at + i * l.size ≡ to

-- a member that has a type is one of a struct or union
member_whole : (g : Graph) (a n : ℕ) (x : Aggregate) (m : Member) → slice_get g.aggs a ≡ Some x → member_of g x n ≡ Some m → Whole g (AggType a)
member_whole g a n x m there e = by (is_enum x.kind) refl x.members refl e
  where
    by : (b : Bool) → is_enum x.kind ≡ b → (o : Option (List Member)) → x.members ≡ o → cond b None (option_and_then (λ (ms : List Member). slice_get ms n) o) ≡ Some m → Whole g (AggType a)
    by true k o s q = cc
    by false k None s q = cc
    by false k (Some ms) s q = record { a = a; is = refl; x = x; there = there; kind = k; ms = ms; some = s }

whole_of_step : (g : Graph) (n : ℕ) (s : Shape) (at : ℕ) (q : Part) → member_part g n (s, at) ≡ Some q → Whole g s
whole_of_step g n VoidType at q e = cc
whole_of_step g n (IntType kind) at q e = cc
whole_of_step g n (PtrType quals s) at q e = cc
whole_of_step g n (ArrayType quals s bound) at q e = cc
whole_of_step g n (FuncType ret params proto variadic) at q e = cc
whole_of_step g n (AggType a) at q e =
    let t = then_from (λ (s : Shape). option_map (λ (o : ℕ). let r : Part = (s, at + o) in r) (offset g a n)) (member_type g (AggType a) n) q e in
    let m = mapped_from (λ (m : Member). shape g.nodes m.ty.of.0) (member_at g (AggType a) n) t.0 t.1 in
    let x = then_from (λ (x : Aggregate). member_of g x n) (slice_get g.aggs a) m.0 m.1 in
    member_whole g a n x.0 m.0 x.1 x.2

-- its member's type, by the list of members
member_is : (g : Graph) (s : Shape) (w : Whole g s) (n : ℕ) → member_type g s n ≡ option_map (λ (m : Member). shape g.nodes m.ty.of.0) (slice_get w.ms n)
member_is g s w n =
    ap (λ (r : Shape). member_type g r n) w.is
    ∙ ap (λ (o : Option Aggregate). option_map (λ (m : Member). shape g.nodes m.ty.of.0) (option_and_then (λ (x : Aggregate). member_of g x n) o)) w.there
    ∙ ap (λ b. option_map (λ (m : Member). shape g.nodes m.ty.of.0) (cond b None (option_and_then (λ (ms : List Member). slice_get ms n) w.x.members))) w.kind
    ∙ ap (λ (o : Option (List Member)). option_map (λ (m : Member). shape g.nodes m.ty.of.0) (option_and_then (λ (ms : List Member). slice_get ms n) o)) w.some

part_is : (g : Graph) (s : Shape) (w : Whole g s) (n at : ℕ) → member_part g n (s, at) ≡ option_and_then (λ (t : Shape). option_map (λ (o : ℕ). let r : Part = (t, at + o) in r) (offset g w.a n)) (option_map (λ (m : Member). shape g.nodes m.ty.of.0) (slice_get w.ms n))
part_is g s w n at =
    ap (λ (r : Shape). member_part g n (r, at)) w.is
    ∙ ap (option_and_then (λ (t : Shape). option_map (λ (o : ℕ). let r : Part = (t, at + o) in r) (offset g w.a n))) (ap (λ (r : Shape). member_type g r n) (sym w.is) ∙ member_is g s w n)

field : (g : Graph) (s : Shape) (w : Whole g s) (n at : ℕ) (q : Part) → member_part g n (s, at) ≡ Some q → Field g s w n at q.0 q.1
field g s w n at q e =
    let t = then_from (λ (t : Shape). option_map (λ (o : ℕ). let r : Part = (t, at + o) in r) (offset g w.a n)) (option_map (λ (m : Member). shape g.nodes m.ty.of.0) (slice_get w.ms n)) q (sym (part_is g s w n at) ∙ e) in
    let m = mapped_from (λ (m : Member). shape g.nodes m.ty.of.0) (slice_get w.ms n) t.0 t.1 in
    let o = mapped_from (λ (o : ℕ). let r : Part = (t.0, at + o) in r) (offset g w.a n) q t.2 in
    record { m = m.0; member = m.1; type = m.2 ∙ ap (λ (r : Part). r.0) o.2; o = o.0; offset = o.1; place = ap (λ (r : Part). r.1) o.2 }

-- the type that the step leads to
field_type : (g : Graph) (n : ℕ) (s : Shape) (at : ℕ) (q : Part) → member_part g n (s, at) ≡ Some q → next_type g s n ≡ q.0
field_type g n s at q e =
    let w = whole_of_step g n s at q e in
    let f = field g s w n at q e in
    ap (λ (o : Option Shape). unwrap_or o VoidType) (member_is g s w n ∙ ap (option_map (λ (m : Member). shape g.nodes m.ty.of.0)) f.member) ∙ f.type

both : (p q : Bool) → p && q ≡ true → (p ≡ true) × (q ≡ true)
both true q e = (refl, e)
both false q e = cc

joined : (p q : Bool) → p ≡ true → q ≡ true → p && q ≡ true
joined p q e f = ap (λ b. b && q) e ∙ f

less : (m n : ℕ) → nat_lt m n ≡ true → m < n
less m n h = grind arith

-- of two numbers that differ the first is the less where the second is not
in_order_by : (m n : ℕ) → nat_eq m n ≡ false → (n < m → ⊥) → nat_lt m n ≡ true
in_order_by m n e h = by (cases m n)
  where
    by : (m ≤ n) ⊎ (n < m) → nat_lt m n ≡ true
    by (inl c) = grind arith
    by (inr c) = absurd (h c)

element : (g : Graph) (i : ℕ) (s : Shape) (at : ℕ) (q : Part) → element_part g i (s, at) ≡ Some q → Element g s i at q.0 q.1
element g i VoidType at q e = cc
element g i (IntType kind) at q e = cc
element g i (PtrType quals s) at q e = cc
element g i (FuncType ret params proto variadic) at q e = cc
element g i (AggType a) at q e = cc
element g i (ArrayType quals s None) at q e = cc
element g i (ArrayType quals s (Some k)) at q e = by (nat_lt i k) refl e
  where
    by : (b : Bool) → nat_lt i k ≡ b → cond b (option_map (λ (l : Layout). let r : Part = (s, at + i * l.size) in r) (shape_layout g s)) None ≡ Some q → Element g (ArrayType quals s (Some k)) i at q.0 q.1
    by true h c =
        let l = mapped_from (λ (l : Layout). let r : Part = (s, at + i * l.size) in r) (shape_layout g s) q c in
        let same : s ≡ q.0 = ap (λ (r : Part). r.0) l.2 in
        record { q = quals; k = k; is = ap (λ (t : Shape). ArrayType quals t (Some k)) same; below = less i k h; l = l.0; layout = ap (shape_layout g) (sym same) ∙ l.1; place = ap (λ (r : Part). r.1) l.2 }
    by false h c = cc

-- a path that has steps begins at no scalar
no_scalar : (g : Graph) (x : Step) (xs : List Step) (s : Shape) (at : ℕ) (p : Part) → path_part g (x ∷ xs) (s, at) ≡ Some p → is_scalar g s ≡ true → ⊥
no_scalar g (ToField n) xs s at p e h =
    let q = then_from (path_part g xs) (member_part g n (s, at)) p e in
    let w = whole_of_step g n s at q.0 q.1 in
    let enum : names_enum g w.a ≡ true = sym (ap (is_scalar g) w.is) ∙ h in
    let none : names_enum g w.a ≡ false = ap (λ (o : Option Aggregate). elim o [ None ↦ false | Some x ↦ is_enum x.kind ]) w.there ∙ w.kind in
    true≢false (sym enum ∙ none)
no_scalar g (ToIndex i) xs s at p e h =
    let q = then_from (path_part g xs) (element_part g i (s, at)) p e in
    let t = element g i s at q.0 q.1 in
    let array : false ≡ true = sym (ap (is_scalar g) t.is) ∙ h in
    true≢false (sym array)

-- nor does any path lead from a flexible array to a scalar
no_flexible : (g : Graph) (xs : List Step) (s : Shape) (at : ℕ) (p : Part) → path_part g xs (s, at) ≡ Some p → is_scalar g p.0 ≡ true → flexible_shape g.aggs s ≡ true → ⊥
no_flexible g xs VoidType at p e h f = cc
no_flexible g xs (IntType kind) at p e h f = cc
no_flexible g xs (PtrType quals s) at p e h f = cc
no_flexible g xs (FuncType ret params proto variadic) at p e h f = cc
no_flexible g xs (AggType a) at p e h f = cc
no_flexible g xs (ArrayType quals s (Some n)) at p e h f = cc
no_flexible g [] (ArrayType quals s None) at p e h f =
    let none : false ≡ true = ap (λ (o : Option Part). elim o [ None ↦ true | Some r ↦ is_scalar g r.0 ]) e ∙ h in
    true≢false (sym none)
no_flexible g (ToField n ∷ xs) (ArrayType quals s None) at p e h f = cc
no_flexible g (ToIndex n ∷ xs) (ArrayType quals s None) at p e h f = cc

-- an enum has a byte at least
enum_positive : (kind : AggKind) (f : Member → Option Layout) (ms : List Member) (y : AggLayout) → is_enum kind ≡ true → members_layout kind f ms ≡ Some y → 0 < y.whole.size
enum_positive Struct f ms y k e = cc
enum_positive Union f ms y k e = cc
enum_positive Enum f ms y k e = let same : enum_layout ms ≡ y = cc in subst (λ (z : AggLayout). 0 < z.whole.size) same (omega arith)

flexible_or_complete : (aggs : List Aggregate) (s : Shape) → has_room aggs s ≡ true → (complete_shape aggs s ≡ true) ⊎ (flexible_shape aggs s ≡ true)
flexible_or_complete aggs s = by (complete_shape aggs s)
  where
    by : (b : Bool) → b || flexible_shape aggs s ≡ true → (b ≡ true) ⊎ (flexible_shape aggs s ≡ true)
    by true e = inl refl
    by false e = inr e

room_at : (aggs : List Aggregate) (ns : List Node) (ms : List Member) (i : ℕ) (m : Member) → EachFits aggs ns ms → slice_get ms i ≡ Some m → has_room aggs (shape ns m.ty.of.0) ≡ true
room_at aggs ns [] i m h e = cc
room_at aggs ns (x ∷ ms) zero m h e = let same : x ≡ m = cc in subst (λ (y : Member). has_room aggs (shape ns y.ty.of.0) ≡ true) same h.0
room_at aggs ns (x ∷ ms) (suc i) m h e = room_at aggs ns ms i m h.1 e

-- a member that has a layout as a type has it as a member
member_as_type : (abi : Abi) (f : ℕ → Option Layout) (s : Shape) (l : Layout) → layout_in abi f s ≡ Some l → member_in abi f s ≡ Some l
member_as_type abi f VoidType l e = cc
member_as_type abi f (IntType kind) l e = e
member_as_type abi f (PtrType quals s) l e = e
member_as_type abi f (ArrayType quals s None) l e = cc
member_as_type abi f (ArrayType quals s (Some n)) l e = e
member_as_type abi f (FuncType ret params proto variadic) l e = cc
member_as_type abi f (AggType a) l e = e

next_multiple : (i k size : ℕ) → i < k → i * size + size ≤ k * size
next_multiple i k size h = let more : suc i * size ≤ k * size = mul-le-mul_right size (omega arith) in omega (arith, more)

module _ (g : Graph) (arena : IsArena g) where
  scalar_positive : (s : Shape) (l : Layout) → is_scalar g s ≡ true → shape_layout g s ≡ Some l → 0 < l.size
  scalar_positive VoidType l h e = cc
  scalar_positive (IntType kind) l h e = let same : size_of kind ≡ l.size = ap (λ (o : Option Layout). elim o [ None ↦ 0 | Some y ↦ y.size ]) e in subst (λ n. 0 < n) same (size_positive kind)
  scalar_positive (PtrType quals s) l h e = let same : pointer_size_of g.abi ≡ l.size = ap (λ (o : Option Layout). elim o [ None ↦ 0 | Some y ↦ y.size ]) e in subst (λ n. 0 < n) same (pointer_positive g.abi)
  scalar_positive (ArrayType quals s bound) l h e = cc
  scalar_positive (FuncType ret params proto variadic) l h e = cc
  scalar_positive (AggType a) l h e =
      let al = mapped_from (λ (y : AggLayout). y.whole) (agg_layout g a) l e in
      by (slice_get g.aggs a) refl h al.0 (sym (agg_layout_is g arena a) ∙ al.1) al.2
    where
      by : (o : Option Aggregate) → slice_get g.aggs a ≡ o → elim o [ None ↦ false | Some x ↦ is_enum x.kind ] ≡ true → (y : AggLayout) → option_and_then (aggregate_in g.abi g.nodes (λ b. whole_of (agg_layout g b))) (slice_get g.aggs a) ≡ Some y → y.whole ≡ l → 0 < l.size
      by None s q y r w = cc
      by (Some x) s q y r w =
          let ms = then_from (members_layout x.kind (member_layout g)) x.members y (sym (ap (option_and_then (aggregate_in g.abi g.nodes (λ b. whole_of (agg_layout g b)))) s) ∙ r) in
          subst (λ (z : Layout). 0 < z.size) w (enum_positive x.kind (member_layout g) ms.0 y q ms.2)

  known : (s : Shape) (w : Whole g s) → members_of g.aggs w.a ≡ Some w.ms
  known s w = ap (option_and_then (λ (y : Aggregate). y.members)) w.there ∙ w.some

  -- the layout of an aggregate with members
  whole_layout : (s : Shape) (w : Whole g s) → (l : AggLayout) × (agg_layout g w.a ≡ Some l)
  whole_layout s w = some_there (agg_layout g w.a) (agg_layout_there g arena w.a ∙ ap is_some (known s w))

  not_enum : (s : Shape) (w : Whole g s) → w.x.kind ≢ Enum
  not_enum s w e = true≢false (ap is_enum (sym e) ∙ w.kind)

  -- a member from which a path leads to a scalar has a layout
  member_known : (s : Shape) (w : Whole g s) (n at : ℕ) (t : Shape) (to : ℕ) (f : Field g s w n at t to) (xs : List Step) (p : Part) → path_part g xs (t, to) ≡ Some p → is_scalar g p.0 ≡ true → (l : Layout) × (shape_layout g t ≡ Some l)
  member_known s w n at t to f xs p e h = by (flexible_or_complete g.aggs (shape g.nodes f.m.ty.of.0) (room_at g.aggs g.nodes w.ms n f.m (each_has_room g arena w.a w.ms (known s w)) f.member))
    where
      by : (complete_shape g.aggs (shape g.nodes f.m.ty.of.0) ≡ true) ⊎ (flexible_shape g.aggs (shape g.nodes f.m.ty.of.0) ≡ true) → (l : Layout) × (shape_layout g t ≡ Some l)
      by (inl c) = let l = some_there (layout g f.m.ty.of.0) (layout_there g arena f.m.ty.of.0 ∙ c) in (l.0, ap (shape_layout g) (sym f.type) ∙ l.1)
      by (inr c) = absurd (no_flexible g xs t to p e h (subst (λ (r : Shape). flexible_shape g.aggs r ≡ true) f.type c))

  as_member : (s : Shape) (w : Whole g s) (n at : ℕ) (t : Shape) (to : ℕ) (f : Field g s w n at t to) (l : Layout) → shape_layout g t ≡ Some l → member_layout g f.m ≡ Some l
  as_member s w n at t to f l e = member_as_type g.abi (λ b. whole_of (agg_layout g b)) (shape g.nodes f.m.ty.of.0) l (ap (shape_layout g) f.type ∙ e)

  -- a scalar that a path leads to lies within the part from which it leads
  inside : (xs : List Step) (s : Shape) (at : ℕ) (p : Part) (l : Layout) → path_part g xs (s, at) ≡ Some p → is_scalar g p.0 ≡ true → shape_layout g s ≡ Some l → (at ≤ p.1) × (p.1 < at + l.size)
  inside [] s at p l e h size =
      let type : p.0 ≡ s = ap (λ (o : Option Part). elim o [ None ↦ s | Some r ↦ r.0 ]) (sym e) in
      let place : p.1 ≡ at = ap (λ (o : Option Part). elim o [ None ↦ at | Some r ↦ r.1 ]) (sym e) in
      let some : 0 < l.size = scalar_positive s l (ap (is_scalar g) (sym type) ∙ h) size in
      (omega arith, omega arith)
  inside (ToField n ∷ xs) s at p l e h size =
      let q = then_from (path_part g xs) (member_part g n (s, at)) p e in
      let w = whole_of_step g n s at q.0 q.1 in
      let f = field g s w n at q.0 q.1 in
      let al = whole_layout s w in
      let y = member_known s w n at q.0.0 q.0.1 f xs p q.2 h in
      let whole : Some al.0.whole ≡ Some l = ap whole_of (sym al.1) ∙ sym (ap (shape_layout g) w.is) ∙ size in
      let same : al.0.whole ≡ l = cc in
      let room : f.o + y.0.size ≤ al.0.whole.size = member_within g arena w.a w.x w.ms al.0 w.there w.some al.1 (not_enum s w) n f.m y.0 f.o f.member (as_member s w n at q.0.0 q.0.1 f y.0 y.1) f.offset in
      let rest = inside xs q.0.0 q.0.1 p y.0 q.2 h y.1 in
      (omega (arith, rest.0, f.place), omega (arith, rest.1, f.place, room, ap (λ (v : Layout). v.size) same))
  inside (ToIndex i ∷ xs) s at p l e h size =
      let q = then_from (path_part g xs) (element_part g i (s, at)) p e in
      let t = element g i s at q.0 q.1 in
      let whole : Some (array_of t.k t.l) ≡ Some l = ap (option_map (array_of t.k)) (sym t.layout) ∙ sym (ap (shape_layout g) t.is) ∙ size in
      let same : array_of t.k t.l ≡ l = cc in
      let count : t.k * t.l.size ≡ l.size = ap (λ (v : Layout). v.size) same in
      let room : i * t.l.size + t.l.size ≤ t.k * t.l.size = next_multiple i t.k t.l.size t.below in
      let rest = inside xs q.0.0 q.0.1 p t.l q.2 h t.layout in
      (omega (arith, rest.0, t.place), omega (arith, rest.1, t.place, room, count))

  struct_kind : (s : Shape) (w : Whole g s) → not (is_union g s) ≡ true → w.x.kind ≡ Struct
  struct_kind s w h =
      by w.x.kind w.kind (sym (ap (λ (r : Shape). not (is_union g r)) w.is ∙ ap (λ (o : Option Aggregate). not (elim o [ None ↦ false | Some x ↦ is_union_kind x.kind ])) w.there) ∙ h)
    where
      by : (k : AggKind) → is_enum k ≡ false → not (is_union_kind k) ≡ true → k ≡ Struct
      by Struct e q = refl
      by Union e q = cc
      by Enum e q = cc

  -- of two members of a struct the one before has its scalars before
  fields_apart : (s : Shape) (at m n : ℕ) (p q u v : Part) (xs ys : List Step) → m < n → not (is_union g s) ≡ true → member_part g m (s, at) ≡ Some u → path_part g xs u ≡ Some p → is_scalar g p.0 ≡ true → member_part g n (s, at) ≡ Some v → path_part g ys v ≡ Some q → is_scalar g q.0 ≡ true → p.1 < q.1
  fields_apart s at m n p q u v xs ys h k mu mp ps nv nq qs =
      let w = whole_of_step g m s at u mu in
      let f = field g s w m at u mu in
      let d = field g s w n at v nv in
      let al = whole_layout s w in
      let y = member_known s w m at u.0 u.1 f xs p mp ps in
      let z = member_known s w n at v.0 v.1 d ys q nq qs in
      let room : f.o + y.0.size ≤ d.o = members_apart g arena w.a w.x w.ms al.0 w.there w.some al.1 (struct_kind s w k) m n f.m d.m y.0 z.0 f.o d.o h f.member (as_member s w m at u.0 u.1 f y.0 y.1) f.offset d.member (as_member s w n at v.0 v.1 d z.0 z.1) d.offset in
      let one = inside xs u.0 u.1 p y.0 mp ps y.1 in
      let two = inside ys v.0 v.1 q z.0 nq qs z.1 in
      omega (arith, one.1, two.0, f.place, d.place, room)

  elements_apart : (s : Shape) (at i j : ℕ) (p q u v : Part) (xs ys : List Step) → i < j → element_part g i (s, at) ≡ Some u → path_part g xs u ≡ Some p → is_scalar g p.0 ≡ true → element_part g j (s, at) ≡ Some v → path_part g ys v ≡ Some q → is_scalar g q.0 ≡ true → p.1 < q.1
  elements_apart s at i j p q u v xs ys h iu ip ps jv jq qs =
      let t = element g i s at u iu in
      let r = element g j s at v jv in
      let array : ArrayType t.q u.0 (Some t.k) ≡ ArrayType r.q v.0 (Some r.k) = sym t.is ∙ r.is in
      let type : u.0 ≡ v.0 = cc in
      let both : Some t.l ≡ Some r.l = sym t.layout ∙ ap (shape_layout g) type ∙ r.layout in
      let size : t.l ≡ r.l = cc in
      let room : i * t.l.size + t.l.size ≤ j * t.l.size = next_multiple i j t.l.size h in
      let far : j * t.l.size ≡ j * r.l.size = ap (λ (y : Layout). j * y.size) size in
      let one = inside xs u.0 u.1 p t.l ip ps t.layout in
      let two = inside ys v.0 v.1 q r.l jq qs r.layout in
      omega (arith, one.1, two.0, t.place, r.place, room, far)

  -- where they agree at unions, and the first one's scalar stands before, it stands in order
  fields_ordered : (m n : ℕ) (xs ys : List Step) (s : Shape) (at : ℕ) (p q : Part)
      → ((t : Shape) (to : ℕ) → path_part g xs (t, to) ≡ Some p → path_part g ys (t, to) ≡ Some q → agree g t xs ys ≡ true → before xs ys ≡ true)
      → path_part g (ToField m ∷ xs) (s, at) ≡ Some p → path_part g (ToField n ∷ ys) (s, at) ≡ Some q → is_scalar g p.0 ≡ true → is_scalar g q.0 ≡ true → p.1 < q.1
      → agree g s (ToField m ∷ xs) (ToField n ∷ ys) ≡ true → before (ToField m ∷ xs) (ToField n ∷ ys) ≡ true
  fields_ordered m n xs ys s at p q again e f ps qs h k = by (nat_eq m n) refl (then_from (path_part g xs) (member_part g m (s, at)) p e) (then_from (path_part g ys) (member_part g n (s, at)) q f)
    where
      by : (b : Bool) → nat_eq m n ≡ b → (u : Part) × (member_part g m (s, at) ≡ Some u) × (path_part g xs u ≡ Some p) → (v : Part) × (member_part g n (s, at) ≡ Some v) × (path_part g ys v ≡ Some q) → before (ToField m ∷ xs) (ToField n ∷ ys) ≡ true
      by true c u v =
          let same : m ≡ n = eqb-true m n c in
          let parts : Some u.0 ≡ Some v.0 = sym u.1 ∙ ap (λ i. member_part g i (s, at)) same ∙ v.1 in
          let part : u.0 ≡ v.0 = cc in
          let type = field_type g m s at u.0 u.1 in
          ap (λ b. cond b (before xs ys) (nat_lt m n)) c
          ∙ again u.0.0 u.0.1 u.2 (subst (λ (r : Part). path_part g ys r ≡ Some q) (sym part) v.2)
          (subst (λ (t : Shape). agree g t xs ys ≡ true) type (sym (ap (λ b. cond b (agree g (next_type g s m) xs ys) (not (is_union g s))) c) ∙ k))
      by false c u v =
          let no_union : not (is_union g s) ≡ true = sym (ap (λ b. cond b (agree g (next_type g s m) xs ys) (not (is_union g s))) c) ∙ k in
          ap (λ b. cond b (before xs ys) (nat_lt m n)) c
          ∙ in_order_by m n c (λ back. let wrong : q.1 < p.1 = fields_apart s at n m q p v.0 u.0 ys xs back no_union v.1 v.2 qs u.1 u.2 ps in omega (arith, wrong, h))

  elements_ordered : (m n : ℕ) (xs ys : List Step) (s : Shape) (at : ℕ) (p q : Part)
      → ((t : Shape) (to : ℕ) → path_part g xs (t, to) ≡ Some p → path_part g ys (t, to) ≡ Some q → agree g t xs ys ≡ true → before xs ys ≡ true)
      → path_part g (ToIndex m ∷ xs) (s, at) ≡ Some p → path_part g (ToIndex n ∷ ys) (s, at) ≡ Some q → is_scalar g p.0 ≡ true → is_scalar g q.0 ≡ true → p.1 < q.1
      → agree g s (ToIndex m ∷ xs) (ToIndex n ∷ ys) ≡ true → before (ToIndex m ∷ xs) (ToIndex n ∷ ys) ≡ true
  elements_ordered m n xs ys s at p q again e f ps qs h k = by (nat_eq m n) refl (then_from (path_part g xs) (element_part g m (s, at)) p e) (then_from (path_part g ys) (element_part g n (s, at)) q f)
    where
      by : (b : Bool) → nat_eq m n ≡ b → (u : Part) × (element_part g m (s, at) ≡ Some u) × (path_part g xs u ≡ Some p) → (v : Part) × (element_part g n (s, at) ≡ Some v) × (path_part g ys v ≡ Some q) → before (ToIndex m ∷ xs) (ToIndex n ∷ ys) ≡ true
      by true c u v =
          let same : m ≡ n = eqb-true m n c in
          let parts : Some u.0 ≡ Some v.0 = sym u.1 ∙ ap (λ i. element_part g i (s, at)) same ∙ v.1 in
          let part : u.0 ≡ v.0 = cc in
          let t = element g m s at u.0 u.1 in
          let type : next_element s ≡ u.0.0 = ap next_element t.is in
          ap (λ b. cond b (before xs ys) (nat_lt m n)) c
          ∙ again u.0.0 u.0.1 u.2 (subst (λ (r : Part). path_part g ys r ≡ Some q) (sym part) v.2)
          (subst (λ (r : Shape). agree g r xs ys ≡ true) type (sym (ap (λ b. cond b (agree g (next_element s) xs ys) true) c) ∙ k))
      by false c u v =
          ap (λ b. cond b (before xs ys) (nat_lt m n)) c
          ∙ in_order_by m n c (λ back. let wrong : q.1 < p.1 = elements_apart s at n m q p v.0 u.0 ys xs back v.1 v.2 qs u.1 u.2 ps in omega (arith, wrong, h))

  no_both : (m n : ℕ) (xs ys : List Step) (s : Shape) (at : ℕ) (p q : Part) → path_part g (ToIndex m ∷ xs) (s, at) ≡ Some p → path_part g (ToField n ∷ ys) (s, at) ≡ Some q → ⊥
  no_both m n xs ys s at p q e f =
      let u = then_from (path_part g xs) (element_part g m (s, at)) p e in
      let v = then_from (path_part g ys) (member_part g n (s, at)) q f in
      let t = element g m s at u.0 u.1 in
      let w = whole_of_step g n s at v.0 v.1 in
      let array : ArrayType t.q u.0.0 (Some t.k) ≡ AggType w.a = sym t.is ∙ w.is in
      cc

  stands_before : (xs ys : List Step) (s : Shape) (at : ℕ) (p q : Part) → path_part g xs (s, at) ≡ Some p → path_part g ys (s, at) ≡ Some q → is_scalar g p.0 ≡ true → is_scalar g q.0 ≡ true → p.1 < q.1 → agree g s xs ys ≡ true → before xs ys ≡ true
  stands_before [] ys s at p q e f ps qs h k = refl
  stands_before (x ∷ xs) [] s at p q e f ps qs h k =
      let type : q.0 ≡ s = ap (λ (o : Option Part). elim o [ None ↦ s | Some r ↦ r.0 ]) (sym f) in
      absurd (no_scalar g x xs s at p e (ap (is_scalar g) (sym type) ∙ qs))
  stands_before (ToField m ∷ xs) (ToField n ∷ ys) s at p q e f ps qs h k = fields_ordered m n xs ys s at p q (λ t to pt qt kt. stands_before xs ys t to p q pt qt ps qs h kt) e f ps qs h k
  stands_before (ToField m ∷ xs) (ToIndex n ∷ ys) s at p q e f ps qs h k = refl
  stands_before (ToIndex m ∷ xs) (ToField n ∷ ys) s at p q e f ps qs h k = absurd (no_both m n xs ys s at p q e f)
  stands_before (ToIndex m ∷ xs) (ToIndex n ∷ ys) s at p q e f ps qs h k = elements_ordered m n xs ys s at p q (λ t to pt qt kt. stands_before xs ys t to p q pt qt ps qs h kt) e f ps qs h k

  -- what is known of an item
  record Leads (s : Shape) (x : Item) : Type 0 where
    part : Part
    is : path_part g x.path (s, 0) ≡ Some part
    scalar : is_scalar g part.0 ≡ true

  leads : (s : Shape) (x : Item) → leads_to_scalar g s x ≡ true → Leads s x
  leads s x h = by (path_part g x.path (s, 0)) refl h
    where
      by : (o : Option Part) → path_part g x.path (s, 0) ≡ o → elim o [ None ↦ false | Some part ↦ is_scalar g part.0 ] ≡ true → Leads s x
      by None e q = cc
      by (Some part) e q = record { part = part; is = e; scalar = q }

  next_ordered : (s : Shape) (x y : Item) → leads_to_scalar g s x ≡ true → leads_to_scalar g s y ≡ true → is_below (item_offset g s x) (item_offset g s y) ≡ true → agree g s x.path y.path ≡ true → before x.path y.path ≡ true
  next_ordered s x y hx hy b k =
      let u = leads s x hx in
      let v = leads s y hy in
      let below : nat_lt u.part.1 v.part.1 ≡ true =
      sym (ap (λ (o : Option Part). is_below (option_map (λ (r : Part). r.1) o) (item_offset g s y)) u.is ∙ ap (λ (o : Option Part). is_below (Some u.part.1) (option_map (λ (r : Part). r.1) o)) v.is) ∙ b in
      stands_before x.path y.path s 0 u.part v.part u.is v.is u.scalar v.scalar (less u.part.1 v.part.1 below) k

  pub rising_ordered : (s : Shape) (xs : List Item) → list_all (leads_to_scalar g s) xs ≡ true → are_rising (map (item_offset g s) xs) ≡ true → adjacent_agree g s xs ≡ true → in_order xs ≡ true
  rising_ordered s [] h r k = refl
  rising_ordered s (x ∷ []) h r k = refl
  rising_ordered s (x ∷ y ∷ xs) h r k =
      let a = both (leads_to_scalar g s x) (list_all (leads_to_scalar g s) (y ∷ xs)) h in
      let c = both (leads_to_scalar g s y) (list_all (leads_to_scalar g s) xs) a.1 in
      let b = both (is_below (item_offset g s x) (item_offset g s y)) (are_rising (map (item_offset g s) (y ∷ xs))) r in
      let d = both (agree g s x.path y.path) (adjacent_agree g s (y ∷ xs)) k in
      joined (before x.path y.path) (in_order (y ∷ xs)) (next_ordered s x y a.0 c.0 b.0 d.0) (rising_ordered s (y ∷ xs) a.1 b.1 d.1)

  -- so it is enough that each agrees with the next
  pub adjacent_is : (s : Shape) (xs : List Item) → ScalarsRise g s xs → adjacent_agree g s xs ≡ unions_agree g s xs
  adjacent_is s xs h = by (adjacent_agree g s xs) refl
    where
      by : (b : Bool) → adjacent_agree g s xs ≡ b → b ≡ unions_agree g s xs
      by true e = sym (ordered_agree g s xs e (rising_ordered s xs h.scalars h.rising e))
      by false e = some_part g s xs e

-- items that fit lead to scalars
one_leads : (p : Program) (s : Shape) (x : Item) → item_fits p s x ≡ true → leads_to_scalar p.graph s x ≡ true
one_leads p s x = by (path_part p.graph x.path (s, 0))
  where
    by : (o : Option Part) → elim o [ None ↦ false | Some part ↦ is_scalar p.graph part.0 && constant_fits p part.0 x.value ] ≡ true → elim o [ None ↦ false | Some part ↦ is_scalar p.graph part.0 ] ≡ true
    by None e = cc
    by (Some part) e = (both (is_scalar p.graph part.0) (constant_fits p part.0 x.value) e).0

all_lead : (p : Program) (s : Shape) (xs : List Item) → list_all (item_fits p s) xs ≡ true → list_all (leads_to_scalar p.graph s) xs ≡ true
all_lead p s [] e = refl
all_lead p s (x ∷ xs) e =
    let h = both (item_fits p s x) (list_all (item_fits p s) xs) e in
    joined (leads_to_scalar p.graph s x) (list_all (leads_to_scalar p.graph s) xs) (one_leads p s x h.0) (all_lead p s xs h.1)

pub rise : (p : Program) (s : Shape) (xs : List Item) → list_all (item_fits p s) xs ≡ true → are_rising (map (item_offset p.graph s) xs) ≡ true → ScalarsRise p.graph s xs
rise p s xs e r = record { scalars = all_lead p s xs e; rising = r }
