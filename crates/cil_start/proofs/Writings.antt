-- Device: writing the items of an image one after another makes the image of the definition.
use Rattle.std.proofs.Common.{◌≡◌, ℕ, zero, suc, ◌+◌, ◌*◌, ◌%◌, ◌^◌, ◌<◌, ◌≤◌, Bool, true, false, cond, nat_eq, nat_le, List, [], ◌∷◌, length, map, drop, get_or, slice_get, Option, Some, None, ℤ, refl, sym, ap, ◌∙◌, subst, arith, eq-eqb}
use Rattle.std.specs.Prelude.{pos}
use Rattle.std.specs.List.{list_all}
use Rattle.std.specs.Option.{option_and_then}
use Rattle.std.proofs.Math.Nat.{mul-mod_left}
use Rattle.cil_base.specs.declared.numbers.EntityId.{EntityId}
use Rattle.cil_base.specs.declared.kinds.Abi.{Abi}
use Rattle.cil_base.specs.declared.kinds.IntKind.TheVariants.{Int as int}
use Rattle.cil_base.specs.Integer.{size_of, pointer_size_of}
use Rattle.byte_mem.specs.declared.pointers.ObjName.{ObjName}
use Rattle.byte_mem.specs.declared.pointers.ObjName.TheVariants.{Entity}
use Rattle.byte_mem.specs.declared.values.Byte.{Byte}
use Rattle.byte_mem.specs.declared.values.Scalar.{Scalar}
use Rattle.byte_mem.specs.declared.values.Scalar.TheVariants.{Int as OfKind, Ptr as OfPointer}
use Rattle.byte_mem.specs.declared.values.Value.{Value}
use Rattle.byte_mem.specs.declared.stores.Store.{Store}
use Rattle.byte_mem.specs.Steps.{◌>>=◌, only_if}
use Rattle.byte_mem.specs.Name.{same_name}
use Rattle.byte_mem.specs.Scalar.{scalar_size, bytes_of}
use Rattle.byte_mem.specs.Object.{Held, with_part, aligned, store_held}
use Rattle.byte_mem.specs.Memory.{Memory, with_held, store}
use Rattle.byte_mem.specs.Store.{memory, Stored, Becomes}
use Rattle.byte_mem.proofs.NameLemmas.{name_same}
use Rattle.byte_mem.proofs.StoreLemmas.{same_memory}
use Rattle.byte_mem.proofs.AgainLemmas.{held_here, length_with}
use Rattle.byte_mem.proofs.BelowLemmas.{length_bytes}
use Rattle.type_graph.specs.declared.aggregates.AggKind.{AggKind}
use Rattle.type_graph.specs.declared.aggregates.AggKind.TheVariants.{Struct, Union, Enum}
use Rattle.type_graph.specs.declared.aggregates.Aggregate.{Aggregate}
use Rattle.type_graph.specs.declared.aggregates.Member.{Member}
use Rattle.type_graph.specs.declared.layout.Layout.{Layout}
use Rattle.type_graph.specs.Shapes.{Shape, VoidType, IntType, PtrType, ArrayType, FuncType, AggType, shape}
use Rattle.type_graph.specs.Arena.{Graph, IsArena}
use Rattle.type_graph.specs.Layouts.{AggLayout, agg_layout, aggregate_in, members_layout, enum_layout, whole_of}
use Rattle.type_graph.proofs.LayoutLaws.{agg_layout_is}
use Rattle.layout_lp64.proofs.AlignLaws.{mapped_from, then_from}
use Rattle.layout_lp64.proofs.MemberRanges.{member_layout}
use Rattle.execution.specs.Runs.{writable}
use Rattle.cil_tree.specs.declared.globals.ImageItem.{ImageItem}
use Rattle.cil_tree.specs.Tree.{Item, Program}
use Rattle.cil_tree.specs.Typing.{is_scalar, is_enum}
use Rattle.cil_tree.specs.Text.{shape_layout}
use Rattle.cil_tree.specs.View.{item_of}
use Rattle.cil_tree.specs.Globals.{Part, item_fits}
use Rattle.typed_values.specs.Values.{scalar_kind, aggregate_kind}
use Rattle.cil_semantics.specs.Values.{size_in, scalar_in}
use Rattle.typed_values.specs.Units.{constant_value}
use Rattle.cil_start.specs.declared.images.Written.{Written}
use Rattle.cil_start.specs.declared.loaded.Loaded.{Loaded}
use Rattle.cil_start.specs.Loads.{program_in, IsReady, written_of, place_of, Changed, IsObject, item_held, items_held, Writing}
use Rattle.cil_link.proofs.Definitions.{both, Writes, item_writes, item_is}
use Rattle.cil_start.proofs.Alignments.{Divides}
use Rattle.cil_start.proofs.Places.{lies}

pub changed_from : (r : Option (Unit {0})) (old new : Store) (m : Option Memory) → Stored r old new m → Changed old new m
changed_from None old new m h = subst (λ (o : Option Memory). Changed old new o) (sym h.0) h.1
changed_from (Some u) old new m h = subst (λ (o : Option Memory). Changed old new o) (sym h.0) (refl, h.1)

pub put_changed : (r : Option (Unit {0})) (old new : Store) (abi : Abi) (m : Memory) (e : EntityId) (offset : ℤ) (w : Written) → offset ≡ pos w.at → Stored r old new (store abi m (record { name = Entity e; offset = offset }) w.scalar w.value)
    → Changed old new (store abi m (place_of e w) w.scalar w.value)
put_changed r old new abi m e offset w is s = changed_from r old new (store abi m (place_of e w) w.scalar w.value) (subst (λ (o : ℤ). Stored r old new (store abi m (record { name = Entity e; offset = o }) w.scalar w.value)) is s)

-- the size and alignment of a scalar type are the scalar's size
record Scaled (abi : Abi) (t : Scalar) (l : Layout) : Type 0 where
  size : l.size ≡ scalar_size abi t
  align : l.align ≡ scalar_size abi t

module _ (g : Graph) (arena : IsArena g) where
  enum_scaled : (kind : AggKind) (f : Member → Option Layout) (ms : List Member) (y : AggLayout) (l : Layout) → is_enum kind ≡ true → members_layout kind f ms ≡ Some y → y.whole ≡ l → Scaled g.abi (OfKind int) l
  enum_scaled Struct f ms y l k e w = cc
  enum_scaled Union f ms y l k e w = cc
  enum_scaled Enum f ms y l k e w =
      let same : enum_layout ms ≡ y = cc in
      let whole : (enum_layout ms).whole ≡ l = ap (λ (z : AggLayout). z.whole) same ∙ w in
      record { size = sym (ap (λ (z : Layout). z.size) whole); align = sym (ap (λ (z : Layout). z.align) whole) }

  scaled : (s : Shape) (t : Scalar) (l : Layout) → is_scalar g s ≡ true → scalar_in g s ≡ Some t → shape_layout g s ≡ Some l → Scaled g.abi t l
  scaled VoidType t l h k e = cc
  scaled (IntType kind) t l h k e =
      let scalar : OfKind kind ≡ t = cc in
      let size : size_of kind ≡ l.size = ap (λ (o : Option Layout). elim o [ None ↦ 0 | Some y ↦ y.size ]) e in
      let align : size_of kind ≡ l.align = ap (λ (o : Option Layout). elim o [ None ↦ 0 | Some y ↦ y.align ]) e in
      record { size = sym size ∙ ap (scalar_size g.abi) scalar; align = sym align ∙ ap (scalar_size g.abi) scalar }
  scaled (PtrType q s) t l h k e =
      let scalar : OfPointer ≡ t = cc in
      let size : pointer_size_of g.abi ≡ l.size = ap (λ (o : Option Layout). elim o [ None ↦ 0 | Some y ↦ y.size ]) e in
      let align : pointer_size_of g.abi ≡ l.align = ap (λ (o : Option Layout). elim o [ None ↦ 0 | Some y ↦ y.align ]) e in
      record { size = sym size ∙ ap (scalar_size g.abi) scalar; align = sym align ∙ ap (scalar_size g.abi) scalar }
  scaled (ArrayType q s bound) t l h k e = cc
  scaled (FuncType ret params proto variadic) t l h k e = cc
  scaled (AggType a) t l h k e =
      let al = mapped_from (λ (y : AggLayout). y.whole) (agg_layout g a) l e in
      let int_is : Some (OfKind int) ≡ Some t = sym (ap (λ b. aggregate_kind b (size_in g (AggType a)) >>= scalar_kind) h) ∙ k in
      let scalar : OfKind int ≡ t = cc in
      subst (λ (u : Scalar). Scaled g.abi u l) scalar (by (slice_get g.aggs a) refl h al.0 (sym (agg_layout_is g arena a) ∙ al.1) al.2)
    where
      by : (o : Option Aggregate) → slice_get g.aggs a ≡ o → elim o [ None ↦ false | Some x ↦ is_enum x.kind ] ≡ true → (y : AggLayout) → option_and_then (aggregate_in g.abi g.nodes (λ b. whole_of (agg_layout g b))) (slice_get g.aggs a) ≡ Some y → y.whole ≡ l → Scaled g.abi (OfKind int) l
      by None s q y r w = cc
      by (Some x) s q y r w =
          let ms = then_from (members_layout x.kind (member_layout g)) x.members y (sym (ap (option_and_then (aggregate_in g.abi g.nodes (λ b. whole_of (agg_layout g b)))) s) ∙ r) in
          enum_scaled x.kind (member_layout g) ms.0 y l q ms.2 w

-- a place that is a multiple and within is one where a scalar may be stored
aligned_is : (at n size : ℕ) → at + n ≤ size → Divides n at → aligned (pos at) n size ≡ Some at
aligned_is at n size h d =
    ap (λ b. only_if b at >>= λ i. only_if (nat_eq (i % n) 0) i) (let e : nat_le (at + n) size ≡ true = grind arith in e)
    ∙ ap (λ b. only_if b at) (eq-eqb (at % n) 0 (ap (λ (k : ℕ). k % n) d.1 ∙ mul-mod_left d.0 n))

-- where an item writes
record Lands (p : Program) (es : List ℕ) (s : Shape) (x : Item) (size : ℕ) : Type 0 where
  writes : Writes p es s x
  room : writes.part.1 + scalar_size p.graph.abi writes.scalar ≤ size
  place : aligned (pos writes.part.1) (scalar_size p.graph.abi writes.scalar) size ≡ Some writes.part.1

sized_layout : (g : Graph) (s : Shape) (n : ℕ) → size_in g s ≡ Some n → (l : Layout) × (shape_layout g s ≡ Some l) × (l.size ≡ n)
sized_layout g s n e = mapped_from (λ (l : Layout). l.size) (shape_layout g s) n e

lands : (p : Program) (es : List ℕ) (s : Shape) (x : Item) (size : ℕ) → IsArena p.graph → length es ≡ length p.globals → size_in p.graph s ≡ Some size → item_fits p s x ≡ true → Lands p es s x size
lands p es s x size arena all e fits =
    let w = item_writes p es all s x fits in
    let l = sized_layout p.graph s size e in
    let h = lies p.graph arena x.path s 0 w.part l.0 w.path w.is_scalar l.1 (0, let z : 0 ≡ 0 * l.0.align = omega arith in z) in
    let t = scaled p.graph arena w.part.0 w.scalar h.own w.is_scalar w.kind h.room in
    let room : w.part.1 + scalar_size p.graph.abi w.scalar ≤ size = omega (arith, h.within, t.size, l.2) in
    record { writes = w; room = room; place = aligned_is w.part.1 (scalar_size p.graph.abi w.scalar) size room (subst (λ (a : ℕ). Divides a w.part.1) t.align h.multiple) }

-- what an item writes is known
written_is : (p : Program) (es : List ℕ) (s : Shape) (x : Item) (w : Writes p es s x) → written_of p.graph es s x ≡ Some (record { at = w.part.1; scalar = w.scalar; value = w.value })
written_is p es s x w =
    ap (λ (o : Option Part). o >>= λ part. scalar_in p.graph part.0 >>= λ t. constant_value es x.value >>= λ v. let r : Written = record { at = part.1; scalar = t; value = v } in Some r) w.path
    ∙ ap (λ (o : Option Scalar). o >>= λ t. constant_value es x.value >>= λ v. let r : Written = record { at = w.part.1; scalar = t; value = v } in Some r) w.kind
    ∙ ap (λ (o : Option Value). o >>= λ v. let r : Written = record { at = w.part.1; scalar = w.scalar; value = v } in Some r) w.means

-- a store of what an item writes
stored_is : (p : Program) (es : List ℕ) (s : Shape) (x : Item) (m : Memory) (e : EntityId) (bytes : List Byte) (all : length es ≡ length p.globals) (l : Lands p es s x (length bytes)) → m (Entity e) ≡ Some (writable bytes)
    → store p.graph.abi m (record { name = Entity e; offset = pos l.writes.part.1 }) l.writes.scalar l.writes.value ≡ Some (with_held m (Entity e) (item_held p.graph es s x (m (Entity e))))
stored_is p es s x m e bytes all l is =
    let w = l.writes in
    let new = with_part w.part.1 (bytes_of p.graph.abi w.scalar w.value) bytes in
    ap (λ (o : Option Held). (o >>= λ h. store_held p.graph.abi h (pos w.part.1) w.scalar w.value) >>= λ h. Some (with_held m (Entity e) (Some h))) is
    ∙ ap (λ (o : Option ℕ). (o >>= λ i. Some (writable (with_part i (bytes_of p.graph.abi w.scalar w.value) bytes))) >>= λ h. Some (with_held m (Entity e) (Some h))) l.place
    ∙ sym (ap (λ (o : Option Held). Some (with_held m (Entity e) (item_held p.graph es s x o))) is
    ∙ ap (λ (o : Option (List Byte)). Some (with_held m (Entity e) (o >>= λ bs. Some (writable bs)))) (item_is p es all s x w bytes))

-- what is known of an item that is written into an object
record Facts (l : Loaded) (t : ℕ) (x : Item) (o : Option Held) : Type 0 where
  object : IsObject l.unit.now.graph (shape l.unit.now.graph.nodes t) o
  lands : Lands (program_in l) l.entities.now (shape l.unit.now.graph.nodes t) x (length object.bytes)
  written : written_of l.unit.now.graph l.entities.now (shape l.unit.now.graph.nodes t) x ≡ Some (record { at = lands.writes.part.1; scalar = lands.writes.scalar; value = lands.writes.value })

known : (l : Loaded) (t : ℕ) (x : Item) (o : Option Held) → IsReady l → item_fits (program_in l) (shape l.unit.now.graph.nodes t) x ≡ true → IsObject l.unit.now.graph (shape l.unit.now.graph.nodes t) o → Facts l t x o
known l t x o ready fits object =
    let here = lands (program_in l) l.entities.now (shape l.unit.now.graph.nodes t) x (length object.bytes) ready.program.arena ready.numbers object.size fits in
    record { object = object; lands = here; written = written_is (program_in l) l.entities.now (shape l.unit.now.graph.nodes t) x here.writes }

pub item_low : (l : Loaded) (t : ℕ) (x : Item) (o : Option Held) (w : Written) → IsReady l → item_fits (program_in l) (shape l.unit.now.graph.nodes t) x ≡ true → IsObject l.unit.now.graph (shape l.unit.now.graph.nodes t) o
    → Some w ≡ written_of l.unit.now.graph l.entities.now (shape l.unit.now.graph.nodes t) x → w.at < 2 ^ 63
item_low l t x o w ready fits object e =
    let k = known l t x o ready fits object in
    let size = sized_layout l.unit.now.graph (shape l.unit.now.graph.nodes t) (length k.object.bytes) k.object.size in
    let small : size.0.size ≤ 2147483647 = ready.step.fit.each t size.0 size.1 in
    let both : Some w ≡ Some (record { at = k.lands.writes.part.1; scalar = k.lands.writes.scalar; value = k.lands.writes.value }) = e ∙ k.written in
    let same : w.at ≡ k.lands.writes.part.1 = ap (λ (o : Option Written). elim o [ None ↦ w.at | Some v ↦ v.at ]) both in
    omega (arith, same, k.lands.room, size.2, small)

pub item_none : (l : Loaded) (t : ℕ) (x : Item) (o : Option Held) → IsReady l → item_fits (program_in l) (shape l.unit.now.graph.nodes t) x ≡ true → IsObject l.unit.now.graph (shape l.unit.now.graph.nodes t) o
    → None ≡ written_of l.unit.now.graph l.entities.now (shape l.unit.now.graph.nodes t) x → ⊥
item_none l t x o ready fits object e =
    let k = known l t x o ready fits object in
    let both : None ≡ Some (record { at = k.lands.writes.part.1; scalar = k.lands.writes.scalar; value = k.lands.writes.value }) = e ∙ k.written in
    cc

pub item_put : (l : Loaded) (t : ℕ) (x : Item) (e : EntityId) (old new : Store) (w : Written) → IsReady l → old.abi ≡ l.unit.now.graph.abi → item_fits (program_in l) (shape l.unit.now.graph.nodes t) x ≡ true → IsObject l.unit.now.graph (shape l.unit.now.graph.nodes t) (memory old (Entity e))
    → Some w ≡ written_of l.unit.now.graph l.entities.now (shape l.unit.now.graph.nodes t) x → Changed old new (store old.abi (memory old) (place_of e w) w.scalar w.value)
    → Becomes old new (with_held (memory old) (Entity e) (item_held l.unit.now.graph l.entities.now (shape l.unit.now.graph.nodes t) x (memory old (Entity e))))
item_put l t x e old new w ready model fits object is h =
    let k = known l t x (memory old (Entity e)) ready fits object in
    let v : Written = record { at = k.lands.writes.part.1; scalar = k.lands.writes.scalar; value = k.lands.writes.value } in
    let both : Some w ≡ Some v = is ∙ k.written in
    let same : w ≡ v = cc in
    let stored = stored_is (program_in l) l.entities.now (shape l.unit.now.graph.nodes t) x (memory old) e k.object.bytes ready.numbers k.lands k.object.is in
    let path : store old.abi (memory old) (place_of e w) w.scalar w.value ≡ Some (with_held (memory old) (Entity e) (item_held l.unit.now.graph l.entities.now (shape l.unit.now.graph.nodes t) x (memory old (Entity e)))) =
    ap (λ (a : Abi). store a (memory old) (place_of e w) w.scalar w.value) model ∙ ap (λ (u : Written). store l.unit.now.graph.abi (memory old) (place_of e u) u.scalar u.value) same ∙ stored in
    subst (λ (o : Option Memory). Changed old new o) path h

-- an object stays one
object_after : (l : Loaded) (t : ℕ) (x : Item) (o : Option Held) → IsReady l → item_fits (program_in l) (shape l.unit.now.graph.nodes t) x ≡ true → IsObject l.unit.now.graph (shape l.unit.now.graph.nodes t) o
    → IsObject l.unit.now.graph (shape l.unit.now.graph.nodes t) (item_held l.unit.now.graph l.entities.now (shape l.unit.now.graph.nodes t) x o)
object_after l t x o ready fits object =
    let k = known l t x o ready fits object in
    let g = l.unit.now.graph in
    let w = k.lands.writes in
    let new = bytes_of g.abi w.scalar w.value in
    let bytes = k.object.bytes in
    let room : w.part.1 + length new ≤ length bytes = omega (arith, k.lands.room, length_bytes g.abi w.scalar w.value) in
    record {
      bytes = with_part w.part.1 new bytes;
      is =
          ap (item_held g l.entities.now (shape g.nodes t) x) k.object.is
          ∙ ap (λ (o : Option (List Byte)). o >>= λ bs. Some (writable bs)) (item_is (program_in l) l.entities.now ready.numbers (shape g.nodes t) x w bytes);
      size = k.object.size ∙ ap Some (sym (length_with w.part.1 new bytes room));
    }

pub held_twice : (m : Memory) (n : ObjName) (a b : Option Held) → with_held (with_held m n a) n b ≡ with_held m n b
held_twice m n a b = same_memory (with_held (with_held m n a) n b) (with_held m n b) (λ x. by x (same_name n x))
  where
    by : (x : ObjName) (t : Bool) → cond t b (cond t a (m x)) ≡ cond t b (m x)
    by x true = refl
    by x false = refl

pub held_itself : (m : Memory) (n : ObjName) → with_held m n (m n) ≡ m
held_itself m n = same_memory (with_held m n (m n)) m (λ x. by x (same_name n x) refl)
  where
    by : (x : ObjName) (t : Bool) → same_name n x ≡ t → cond t (m n) (m x) ≡ m x
    by x true e = ap m (name_same n x e)
    by x false e = refl

pub writing_begins : (g : Graph) (es : List ℕ) (s : Shape) (e : EntityId) (first : Store) (all rest : List Item) → rest ≡ all → IsObject g s (memory first (Entity e)) → Writing g es s e first all first rest
writing_begins g es s e first all rest same object = record { object = object; abi = refl; whole = ap (λ (xs : List Item). with_held (memory first) (Entity e) (items_held g es s xs (memory first (Entity e)))) same }

-- the item at a place of a list
item_after : (items : List ImageItem) (i : ℕ) (r : ImageItem) → i < length items → r ≡ get_or items i r → map item_of (drop i items) ≡ item_of r ∷ map item_of (drop (suc i) items)
item_after [] i r h e = absurd (omega arith)
item_after (y ∷ items) zero r h e = ap (λ (z : ImageItem). item_of z ∷ map item_of items) (sym e)
item_after (y ∷ items) (suc i) r h e = item_after items i r (omega arith) e

item_drop : (items : List ImageItem) (i : ℕ) (r : ImageItem) → i < length items → r ≡ get_or items i r → map item_of (drop i items) ≡ item_of r ∷ map item_of (drop (i + 1) items)
item_drop items i r h e = item_after items i r h e ∙ ap (λ (k : ℕ). item_of r ∷ map item_of (drop k items)) (let one : suc i ≡ i + 1 = omega arith in one)

pub item_at : (p : Program) (s : Shape) (items : List ImageItem) (i : ℕ) (r : ImageItem) → list_all (item_fits p s) (map item_of items) ≡ true → i < length items → r ≡ get_or items i r → item_fits p s (item_of r) ≡ true
item_at p s [] i r all h e = absurd (omega arith)
item_at p s (y ∷ items) zero r all h e = ap (λ (z : ImageItem). item_fits p s (item_of z)) e ∙ (both (item_fits p s (item_of y)) (list_all (item_fits p s) (map item_of items)) all).0
item_at p s (y ∷ items) (suc i) r all h e = item_at p s items i r (both (item_fits p s (item_of y)) (list_all (item_fits p s) (map item_of items)) all).1 (omega arith) e

pub writing_next : (l : Loaded) (t : ℕ) (e : EntityId) (first now new : Store) (all : List Item) (items : List ImageItem) (i : ℕ) (r : ImageItem) → IsReady l → item_fits (program_in l) (shape l.unit.now.graph.nodes t) (item_of r) ≡ true → i < length items → r ≡ get_or items i r
    → Writing l.unit.now.graph l.entities.now (shape l.unit.now.graph.nodes t) e first all now (map item_of (drop i items))
    → Becomes now new (with_held (memory now) (Entity e) (item_held l.unit.now.graph l.entities.now (shape l.unit.now.graph.nodes t) (item_of r) (memory now (Entity e))))
    → Writing l.unit.now.graph l.entities.now (shape l.unit.now.graph.nodes t) e first all new (map item_of (drop (i + 1) items))
writing_next l t e first now new all items i r ready fits h at w b =
    let g = l.unit.now.graph in
    let es = l.entities.now in
    let s = shape g.nodes t in
    let n = Entity e in
    let rest = map item_of (drop (i + 1) items) in
    let after = item_held g es s (item_of r) (memory now n) in
    let here : memory new n ≡ after = ap (λ (m : Memory). m n) b.0 ∙ held_here (memory now) n after in
    record {
      object = subst (λ (o : Option Held). IsObject g s o) (sym here) (object_after l t (item_of r) (memory now n) ready fits w.object);
      abi = b.1 ∙ w.abi;
      whole =
          ap (λ (m : Memory). with_held m n (items_held g es s rest (memory new n))) b.0
          ∙ held_twice (memory now) n after (items_held g es s rest (memory new n))
          ∙ ap (λ (o : Option Held). with_held (memory now) n (items_held g es s rest o)) here
          ∙ sym (ap (λ (xs : List Item). with_held (memory now) n (items_held g es s xs (memory now n))) (item_drop items i r h at))
          ∙ w.whole;
    }

past : (items : List ImageItem) (i : ℕ) → length items ≤ i → map item_of (drop i items) ≡ []
past [] zero h = refl
past [] (suc i) h = refl
past (x ∷ items) zero h = absurd (omega arith)
past (x ∷ items) (suc i) h = past items i (omega arith)

pub writing_done : (g : Graph) (es : List ℕ) (s : Shape) (e : EntityId) (first now : Store) (all : List Item) (items : List ImageItem) (i : ℕ) → length items ≤ i → Writing g es s e first all now (map item_of (drop i items))
    → Becomes first now (with_held (memory first) (Entity e) (items_held g es s all (memory first (Entity e))))
writing_done g es s e first now all items i h w =
    (sym (held_itself (memory now) (Entity e)) ∙ ap (λ (xs : List Item). with_held (memory now) (Entity e) (items_held g es s xs (memory now (Entity e)))) (sym (past items i h)) ∙ w.whole, w.abi)
