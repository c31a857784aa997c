-- Device: a scalar that a path leads to lies within the object, at a multiple of its size.
use Rattle.std.proofs.Common.{◌≡◌, ◌≢◌, ℕ, zero, suc, ◌+◌, ◌*◌, ◌<◌, ◌≤◌, Bool, true, false, ◌||◌, cond, nat_lt, List, [], ◌∷◌, slice_get, is_some, Option, Some, None, ◌⊎◌, inl, inr, refl, sym, ap, ◌∙◌, subst, arith, true≢false}
use Rattle.std.specs.Option.{option_map, option_and_then}
use Rattle.std.proofs.Math.Nat.{mul-le-mul_right, mul_assoc}
use Rattle.cil_base.specs.declared.kinds.Abi.{Abi}
use Rattle.type_graph.specs.declared.aggregates.AggKind.{AggKind}
use Rattle.type_graph.specs.declared.aggregates.AggKind.TheVariants.{Enum}
use Rattle.type_graph.specs.declared.aggregates.Aggregate.{Aggregate}
use Rattle.type_graph.specs.declared.aggregates.Member.{Member}
use Rattle.type_graph.specs.declared.layout.Layout.{Layout}
use Rattle.type_graph.specs.declared.nodes.Node.{Node}
use Rattle.type_graph.specs.declared.nodes.Quals.{Quals}
use Rattle.type_graph.specs.Shapes.{Shape, VoidType, IntType, PtrType, ArrayType, FuncType, AggType, shape}
use Rattle.type_graph.specs.Arena.{Graph, IsArena, EachFits, has_room, complete_shape, flexible_shape, members_of}
use Rattle.type_graph.specs.Layouts.{AggLayout, layout, layout_in, member_in, array_of, whole_of, agg_layout, offset}
use Rattle.type_graph.proofs.ArenaLaws.{some_there, each_has_room}
use Rattle.type_graph.proofs.LayoutLaws.{agg_layout_there, layout_there}
use Rattle.layout_lp64.proofs.AlignLaws.{mapped_from, then_from}
use Rattle.layout_lp64.proofs.MemberRanges.{member_layout, member_within}
use Rattle.cil_tree.specs.Tree.{Step, ToField, ToIndex}
use Rattle.cil_tree.specs.Typing.{is_enum, is_scalar, member_of, member_at, member_type}
use Rattle.cil_tree.specs.Text.{shape_layout}
use Rattle.cil_tree.specs.Globals.{Part, member_part, element_part, path_part}
use Rattle.cil_start.proofs.Alignments.{Divides, member_aligned, sized}

-- a member of a struct or union, and its place
record Field (g : Graph) (s : Shape) (n at : ℕ) (q : Part) : Type 0 where
  a : ℕ
  is : s ≡ AggType a
  x : Aggregate
  there : slice_get g.aggs a ≡ Some x
  kind : is_enum x.kind ≡ false
  ms : List Member
  some : x.members ≡ Some ms
  m : Member
  member : slice_get ms n ≡ Some m
  type : shape g.nodes m.ty.of.0 ≡ q.0
  o : ℕ
  offset : offset g a n ≡ Some o
  place : at + o ≡ q.1

-- an element of an array, and its place
record Element (g : Graph) (s : Shape) (i at : ℕ) (t : Shape) (to : ℕ) : Type 0 where
  q : Quals
  k : ℕ
  is : s ≡ ArrayType q t (Some k)
  below : i < k
  l : Layout
  layout : shape_layout g t ≡ Some l
  place : at + i * l.size ≡ to

among : (g : Graph) (x : Aggregate) (n : ℕ) (m : Member) → member_of g x n ≡ Some m → (is_enum x.kind ≡ false) × (ms : List Member) × (x.members ≡ Some ms) × (slice_get ms n ≡ Some m)
among g x n m e = by (is_enum x.kind) refl e
  where
    by : (b : Bool) → is_enum x.kind ≡ b → cond b None (option_and_then (λ (ms : List Member). slice_get ms n) x.members) ≡ Some m → (is_enum x.kind ≡ false) × (ms : List Member) × (x.members ≡ Some ms) × (slice_get ms n ≡ Some m)
    by true k q = cc
    by false k q = let ms = then_from (λ (ms : List Member). slice_get ms n) x.members m q in (k, ms.0, ms.1, ms.2)

field : (g : Graph) (n : ℕ) (s : Shape) (at : ℕ) (q : Part) → member_part g n (s, at) ≡ Some q → Field g s n at q
field g n VoidType at q e = cc
field g n (IntType kind) at q e = cc
field g n (PtrType quals s) at q e = cc
field g n (ArrayType quals s bound) at q e = cc
field g n (FuncType ret params proto variadic) at q e = cc
field g n (AggType a) at q e =
    let t = then_from (λ (s : Shape). option_map (λ (o : ℕ). let r : Part = (s, at + o) in r) (offset g a n)) (member_type g (AggType a) n) q e in
    let m = mapped_from (λ (m : Member). shape g.nodes m.ty.of.0) (member_at g (AggType a) n) t.0 t.1 in
    let x = then_from (λ (x : Aggregate). member_of g x n) (slice_get g.aggs a) m.0 m.1 in
    let ms = among g x.0 n m.0 x.2 in
    let o = mapped_from (λ (o : ℕ). let r : Part = (t.0, at + o) in r) (offset g a n) q t.2 in
    record {
      a = a;
      is = refl;
      x = x.0;
      there = x.1;
      kind = ms.0;
      ms = ms.1;
      some = ms.2;
      m = m.0;
      member = ms.3;
      type = m.2 ∙ ap (λ (r : Part). r.0) o.2;
      o = o.0;
      offset = o.1;
      place = ap (λ (r : Part). r.1) o.2;
    }

less : (m n : ℕ) → nat_lt m n ≡ true → m < n
less m n h = grind arith

element : (g : Graph) (i : ℕ) (s : Shape) (at : ℕ) (q : Part) → element_part g i (s, at) ≡ Some q → Element g s i at q.0 q.1
element g i VoidType at q e = cc
element g i (IntType kind) at q e = cc
element g i (PtrType quals s) at q e = cc
element g i (FuncType ret params proto variadic) at q e = cc
element g i (AggType a) at q e = cc
element g i (ArrayType quals s None) at q e = cc
element g i (ArrayType quals s (Some k)) at q e = by (nat_lt i k) refl e
  where
    by : (b : Bool) → nat_lt i k ≡ b → cond b (option_map (λ (l : Layout). let r : Part = (s, at + i * l.size) in r) (shape_layout g s)) None ≡ Some q → Element g (ArrayType quals s (Some k)) i at q.0 q.1
    by true h c =
        let l = mapped_from (λ (l : Layout). let r : Part = (s, at + i * l.size) in r) (shape_layout g s) q c in
        let same : s ≡ q.0 = ap (λ (r : Part). r.0) l.2 in
        record { q = quals; k = k; is = ap (λ (t : Shape). ArrayType quals t (Some k)) same; below = less i k h; l = l.0; layout = ap (shape_layout g) (sym same) ∙ l.1; place = ap (λ (r : Part). r.1) l.2 }
    by false h c = cc

-- no path leads from a flexible array to a scalar
no_flexible : (g : Graph) (xs : List Step) (s : Shape) (at : ℕ) (p : Part) → path_part g xs (s, at) ≡ Some p → is_scalar g p.0 ≡ true → flexible_shape g.aggs s ≡ true → ⊥
no_flexible g xs VoidType at p e h f = cc
no_flexible g xs (IntType kind) at p e h f = cc
no_flexible g xs (PtrType quals s) at p e h f = cc
no_flexible g xs (FuncType ret params proto variadic) at p e h f = cc
no_flexible g xs (AggType a) at p e h f = cc
no_flexible g xs (ArrayType quals s (Some n)) at p e h f = cc
no_flexible g [] (ArrayType quals s None) at p e h f =
    let none : false ≡ true = ap (λ (o : Option Part). elim o [ None ↦ true | Some r ↦ is_scalar g r.0 ]) e ∙ h in
    true≢false (sym none)
no_flexible g (ToField n ∷ xs) (ArrayType quals s None) at p e h f = cc
no_flexible g (ToIndex n ∷ xs) (ArrayType quals s None) at p e h f = cc

flexible_or_complete : (aggs : List Aggregate) (s : Shape) → has_room aggs s ≡ true → (complete_shape aggs s ≡ true) ⊎ (flexible_shape aggs s ≡ true)
flexible_or_complete aggs s = by (complete_shape aggs s)
  where
    by : (b : Bool) → b || flexible_shape aggs s ≡ true → (b ≡ true) ⊎ (flexible_shape aggs s ≡ true)
    by true e = inl refl
    by false e = inr e

room_at : (aggs : List Aggregate) (ns : List Node) (ms : List Member) (i : ℕ) (m : Member) → EachFits aggs ns ms → slice_get ms i ≡ Some m → has_room aggs (shape ns m.ty.of.0) ≡ true
room_at aggs ns [] i m h e = cc
room_at aggs ns (x ∷ ms) zero m h e = let same : x ≡ m = cc in subst (λ (y : Member). has_room aggs (shape ns y.ty.of.0) ≡ true) same h.0
room_at aggs ns (x ∷ ms) (suc i) m h e = room_at aggs ns ms i m h.1 e

-- a member that has a layout as a type has it as a member
member_as_type : (abi : Abi) (f : ℕ → Option Layout) (s : Shape) (l : Layout) → layout_in abi f s ≡ Some l → member_in abi f s ≡ Some l
member_as_type abi f VoidType l e = cc
member_as_type abi f (IntType kind) l e = e
member_as_type abi f (PtrType quals s) l e = e
member_as_type abi f (ArrayType quals s None) l e = cc
member_as_type abi f (ArrayType quals s (Some n)) l e = e
member_as_type abi f (FuncType ret params proto variadic) l e = cc
member_as_type abi f (AggType a) l e = e

next_multiple : (i k size : ℕ) → i < k → i * size + size ≤ k * size
next_multiple i k size h = let more : suc i * size ≤ k * size = mul-le-mul_right size (omega arith) in omega (arith, more)

pub divides_sum : (a m n : ℕ) → Divides a m → Divides a n → Divides a (m + n)
divides_sum a m n d e = (d.0 + e.0, omega (arith, d.1, e.1))

pub divides_through : (a b n : ℕ) → Divides a b → Divides b n → Divides a n
divides_through a b n d e = (e.0 * d.0, e.1 ∙ ap (λ (m : ℕ). e.0 * m) d.1 ∙ sym (mul_assoc e.0 d.0 a))

-- where a scalar lies in an object of that layout that begins there
pub record Lies (g : Graph) (at : ℕ) (l : Layout) (p : Part) : Type 0 where
  pub own : Layout
  pub room : shape_layout g p.0 ≡ Some own
  pub within : p.1 + own.size ≤ at + l.size
  pub multiple : Divides own.align p.1

module _ (g : Graph) (arena : IsArena g) where
  known : (s : Shape) (n at : ℕ) (q : Part) (f : Field g s n at q) → members_of g.aggs f.a ≡ Some f.ms
  known s n at q f = ap (option_and_then (λ (y : Aggregate). y.members)) f.there ∙ f.some

  -- the layout of an aggregate with members
  whole_layout : (s : Shape) (n at : ℕ) (q : Part) (f : Field g s n at q) → (l : AggLayout) × (agg_layout g f.a ≡ Some l)
  whole_layout s n at q f = some_there (agg_layout g f.a) (agg_layout_there g arena f.a ∙ ap is_some (known s n at q f))

  not_enum : (k : AggKind) → is_enum k ≡ false → k ≢ Enum
  not_enum k h e = true≢false (ap is_enum (sym e) ∙ h)

  -- a member from which a path leads to a scalar has a layout
  member_known : (s : Shape) (n at : ℕ) (q : Part) (f : Field g s n at q) (xs : List Step) (p : Part) → path_part g xs q ≡ Some p → is_scalar g p.0 ≡ true → (l : Layout) × (shape_layout g q.0 ≡ Some l)
  member_known s n at q f xs p e h = by (flexible_or_complete g.aggs (shape g.nodes f.m.ty.of.0) (room_at g.aggs g.nodes f.ms n f.m (each_has_room g arena f.a f.ms (known s n at q f)) f.member))
    where
      by : (complete_shape g.aggs (shape g.nodes f.m.ty.of.0) ≡ true) ⊎ (flexible_shape g.aggs (shape g.nodes f.m.ty.of.0) ≡ true) → (l : Layout) × (shape_layout g q.0 ≡ Some l)
      by (inl c) = let l = some_there (layout g f.m.ty.of.0) (layout_there g arena f.m.ty.of.0 ∙ c) in (l.0, ap (shape_layout g) (sym f.type) ∙ l.1)
      by (inr c) = absurd (no_flexible g xs q.0 q.1 p e h (subst (λ (r : Shape). flexible_shape g.aggs r ≡ true) f.type c))

  as_member : (s : Shape) (n at : ℕ) (q : Part) (f : Field g s n at q) (l : Layout) → shape_layout g q.0 ≡ Some l → member_layout g f.m ≡ Some l
  as_member s n at q f l e = member_as_type g.abi (λ b. whole_of (agg_layout g b)) (shape g.nodes f.m.ty.of.0) l (ap (shape_layout g) f.type ∙ e)

  -- a scalar that a path leads to lies within the part from which it leads
  pub lies : (xs : List Step) (s : Shape) (at : ℕ) (p : Part) (l : Layout) → path_part g xs (s, at) ≡ Some p → is_scalar g p.0 ≡ true → shape_layout g s ≡ Some l → Divides l.align at → Lies g at l p
  lies [] s at p l e h size d =
      let type : p.0 ≡ s = ap (λ (o : Option Part). elim o [ None ↦ s | Some r ↦ r.0 ]) (sym e) in
      let place : p.1 ≡ at = ap (λ (o : Option Part). elim o [ None ↦ at | Some r ↦ r.1 ]) (sym e) in
      record { own = l; room = ap (shape_layout g) type ∙ size; within = omega (arith, place); multiple = subst (λ (n : ℕ). Divides l.align n) (sym place) d }
  lies (ToField n ∷ xs) s at p l e h size d =
      let q = then_from (path_part g xs) (member_part g n (s, at)) p e in
      let f = field g n s at q.0 q.1 in
      let al = whole_layout s n at q.0 f in
      let y = member_known s n at q.0 f xs p q.2 h in
      let whole : Some al.0.whole ≡ Some l = ap whole_of (sym al.1) ∙ sym (ap (shape_layout g) f.is) ∙ size in
      let same : al.0.whole ≡ l = cc in
      let room : f.o + y.0.size ≤ al.0.whole.size = member_within g arena f.a f.x f.ms al.0 f.there f.some al.1 (not_enum f.x.kind f.kind) n f.m y.0 f.o f.member (as_member s n at q.0 f y.0 y.1) f.offset in
      let steps = member_aligned g arena f.a f.x f.ms al.0 f.there f.some al.1 (not_enum f.x.kind f.kind) n f.m y.0 f.o f.member (as_member s n at q.0 f y.0 y.1) f.offset in
      let begins : Divides y.0.align at = divides_through y.0.align l.align at (subst (λ (v : Layout). Divides y.0.align v.align) same steps.1) d in
      let here : Divides y.0.align q.0.1 = subst (λ (m : ℕ). Divides y.0.align m) f.place (divides_sum y.0.align at f.o begins steps.0) in
      let rest = lies xs q.0.0 q.0.1 p y.0 q.2 h y.1 here in
      record { own = rest.own; room = rest.room; within = omega (arith, rest.within, f.place, room, ap (λ (v : Layout). v.size) same); multiple = rest.multiple }
  lies (ToIndex i ∷ xs) s at p l e h size d =
      let q = then_from (path_part g xs) (element_part g i (s, at)) p e in
      let t = element g i s at q.0 q.1 in
      let whole : Some (array_of t.k t.l) ≡ Some l = ap (option_map (array_of t.k)) (sym t.layout) ∙ sym (ap (shape_layout g) t.is) ∙ size in
      let same : array_of t.k t.l ≡ l = cc in
      let count : t.k * t.l.size ≡ l.size = ap (λ (v : Layout). v.size) same in
      let room : i * t.l.size + t.l.size ≤ t.k * t.l.size = next_multiple i t.k t.l.size t.below in
      let begins : Divides t.l.align at = subst (λ (v : Layout). Divides v.align at) (sym same) d in
      let step : Divides t.l.align (i * t.l.size) = divides_through t.l.align t.l.size (i * t.l.size) (sized g arena q.0.0 t.l t.layout) (i, refl) in
      let here : Divides t.l.align q.0.1 = subst (λ (m : ℕ). Divides t.l.align m) t.place (divides_sum t.l.align at (i * t.l.size) begins step) in
      let rest = lies xs q.0.0 q.0.1 p t.l q.2 h t.layout here in
      record { own = rest.own; room = rest.room; within = omega (arith, rest.within, t.place, room, count); multiple = rest.multiple }
