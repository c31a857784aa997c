-- Device: places, step by step from what they begin with.
use Rattle.std.proofs.Common.{◌≡◌, ℕ, zero, suc, ◌+◌, ◌<◌, ◌≤◌, length, get_or, drop, drop-cons, add-one, [], ◌∷◌, arith, Bool, true, false, List, Option, Some, None, refl, sym, ap, ◌∙◌, subst}
use Rattle.std.specs.Prelude.{if◌then◌else◌, slice_get, IfSome}
use Rattle.std.specs.Option.{option_and_then}
use Rattle.cil_base.specs.declared.kinds.IntKind.{IntKind}
use Rattle.cil_base.specs.declared.numbers.EntityId.{EntityId}
use Rattle.cil_base.specs.declared.numbers.LocalId.{LocalId}
use Rattle.cil_base.specs.declared.numbers.TypeId.{TypeId}
use Rattle.type_graph.specs.declared.nodes.Node.{Node}
use Rattle.byte_mem.specs.declared.pointers.ObjName.TheVariants.{Entity}
use Rattle.type_graph.specs.Shapes.{Shape, VoidType, IntType, PtrType, ArrayType, FuncType, AggType, shape}
use Rattle.type_graph.specs.Arena.{Graph}
use Rattle.type_graph.specs.Layouts.{offset}
use Rattle.byte_mem.specs.declared.values.Scalar.TheVariants.{Int as OfKind, Ptr as OfPointer}
use Rattle.byte_mem.specs.declared.values.Value.{Value}
use Rattle.byte_mem.specs.Steps.{◌>>=◌}
use Rattle.byte_mem.specs.Operator.{member_place, element_place, place_of}
use Rattle.cil_tree.specs.Tree.{Exp, Host, Global, Var, At, Offsets, Here, Field, Index, Lval, Place}
use Rattle.cil_tree.specs.Typing.{Scope, type_of, host_type, part_type, place_type, member_type, element_of, element_type, is_index, pointed}
use Rattle.cil_tree.specs.Globals.{aggregate_of}
use Rattle.typed_values.specs.Values.{single_in}
use Rattle.cil_semantics.specs.Values.{scalar_in, size_in, value, member_offset, part_place, host_place}
use Rattle.cil_machine.specs.declared.terms.Term.{Term}
use Rattle.cil_machine.specs.declared.terms.Spot.{Spot, Entity as Global', Local as Own, At', Member', Element', Wrong as NoSpot}
use Rattle.cil_machine.specs.Terms.{term_value, spot_place, pointer_at}
use Rattle.cil_tree.specs.declared.expressions.Offset.{Offset}
use Rattle.cil_tree.specs.View.{offsets_of}
use Rattle.cil_check.specs.Seen.{is_other, told, at}
use Rattle.cil_machine.specs.declared.resolution.Typed.{Typed}
use Rattle.cil_machine.specs.declared.resolution.TypedSpot.{TypedSpot}
use Rattle.cil_machine.specs.Typed.{IsTyped, IsPlaced, IsHosted, IsOnWay}
use Rattle.cil_machine.specs.Resolution.{activation, scalar_type, Means, MeansHost, MeansPlace, IsPart}

none-some : {A X : Type 0} (a : A) → None ≡ Some a → X
none-some a e = absurd (cc)

-- at the host nothing of the way is gone
pub part_begins : (c : Scope) (es : List ℕ) (h : Host) (offsets : Offsets) (x : Spot) (s : Shape) → host_type c h ≡ Some s → MeansHost c es h x → IsPart c es (Place h offsets) offsets x s
part_begins c es h offsets x s is means = record {
  types = ap (λ o. option_and_then (part_type c offsets) o) is;
  places = λ m act. ap (λ o. o >>= λ s. host_place (activation c es act) m h >>= part_place (activation c es act) m offsets s) is
      ∙ ap (λ o. o >>= part_place (activation c es act) m offsets s) (sym (means.at s is m act));
}

-- at the end all of it is
last_part : (o : Option Value) → (o >>= λ v. Some v) ≡ o
last_part None = refl
last_part (Some v) = refl

pub part_ends : (c : Scope) (es : List ℕ) (whole : Lval) (x : Spot) (s : Shape) → IsPart c es whole Here x s → MeansPlace c es whole x
part_ends c es whole x s is = record { at = λ t h m act. sym (is.places m act ∙ last_part (spot_place c.program.graph.abi m act x)) }

pub part_type_ends : (c : Scope) (es : List ℕ) (whole : Lval) (x : Spot) (s : Shape) → IsPart c es whole Here x s → place_type c whole ≡ Some s
part_type_ends c es whole x s is = is.types

stepped : {A B C : Type 0} (o : Option A) (f : A → Option B) (g : B → Option C) → (o >>= λ v. f v >>= g) ≡ ((o >>= f) >>= g)
stepped None f g = refl
stepped (Some v) f g = refl

pub part_member : (c : Scope) (es : List ℕ) (whole : Lval) (n : ℕ) (more : Offsets) (x : Spot) (p : _) (s t : Shape) (a o : ℕ) → IsPart c es whole (Field n more) x s
    → member_type c.program.graph s n ≡ Some t → aggregate_of s ≡ Some a → offset c.program.graph a n ≡ Some o → IsPart c es whole more (Member' o p x) t
part_member c es whole n more x p s t a o is member aggregate at = record {
  types = is.types ∙ ap (λ u. option_and_then (part_type c more) u) member;
  places = λ m act. is.places m act
      ∙ (ap (λ u. spot_place c.program.graph.abi m act x >>= λ v. u >>= λ t. member_offset (activation c es act) s n >>= λ o. member_place m v o >>= part_place (activation c es act) m more t) member
      ∙ (ap (λ u. spot_place c.program.graph.abi m act x >>= λ v. u >>= λ o. member_place m v o >>= part_place (activation c es act) m more t) (ap (λ u. u >>= λ x. offset c.program.graph x n) aggregate ∙ at)
      ∙ stepped (spot_place c.program.graph.abi m act x) (λ v. member_place m v o) (part_place (activation c es act) m more t)));
}

deeper : {A B C D : Type 0} (o : Option A) (u : Option B) (f : A → B → Option C) (g : C → Option D) → (o >>= λ v. u >>= λ i. f v i >>= g) ≡ ((o >>= λ v. u >>= f v) >>= g)
deeper None u f g = refl
deeper (Some v) None f g = refl
deeper (Some v) (Some i) f g = refl

pub part_element : (c : Scope) (es : List ℕ) (whole : Lval) (e : Exp) (more : Offsets) (x : Spot) (i : Term) (p q : _) (s t : Shape) (kind : IntKind) (size : ℕ) → IsPart c es whole (Index e more) x s
    → type_of c e ≡ Some (IntType kind) → element_type s (IntType kind) ≡ Some t → element_of s ≡ Some t → size_in c.program.graph t ≡ Some size → Means c es e i → IsPart c es whole more (Element' size kind p x q i) t
part_element c es whole e more x i p q s t kind size is index elements element room means = record {
  types = is.types ∙ (ap (λ u. option_and_then (λ i. option_and_then (part_type c more) (element_type s i)) u) index ∙ ap (λ u. option_and_then (part_type c more) u) elements);
  places = λ m act. is.places m act
      ∙ (ap (λ u. spot_place c.program.graph.abi m act x >>= λ v. u >>= λ t. size_in c.program.graph t >>= λ size. value (activation c es act) m e >>= single_in >>= λ i. element_place m v i size >>= part_place (activation c es act) m more t) element
      ∙ (ap (λ u. spot_place c.program.graph.abi m act x >>= λ v. u >>= λ size. value (activation c es act) m e >>= single_in >>= λ i. element_place m v i size >>= part_place (activation c es act) m more t) room
      ∙ (ap (λ u. spot_place c.program.graph.abi m act x >>= λ v. u >>= λ i. element_place m v i size >>= part_place (activation c es act) m more t) (sym (means.at (OfKind kind) (ap (λ o. o >>= scalar_in c.program.graph) index) m act))
      ∙ deeper (spot_place c.program.graph.abi m act x) (term_value c.program.graph.abi m act (OfKind kind) i) (λ v i. element_place m v i size) (part_place (activation c es act) m more t))));
}

abbrev undefined : (B : Type 0) → Option B
undefined B = None

nowhere : {A : Type 0} (o : Option A) → (o >>= λ v. undefined Value) ≡ undefined Value
nowhere None = refl
nowhere (Some v) = refl

-- elements without a size are nowhere
pub part_unsized : (c : Scope) (es : List ℕ) (whole : Lval) (e : Exp) (more : Offsets) (x : Spot) (s t : Shape) (kind : IntKind) → IsPart c es whole (Index e more) x s
    → type_of c e ≡ Some (IntType kind) → element_type s (IntType kind) ≡ Some t → element_of s ≡ Some t → size_in c.program.graph t ≡ None → IsPart c es whole more NoSpot t
part_unsized c es whole e more x s t kind is index elements element room = record {
  types = is.types ∙ (ap (λ u. option_and_then (λ i. option_and_then (part_type c more) (element_type s i)) u) index ∙ ap (λ u. option_and_then (part_type c more) u) elements);
  places = λ m act. is.places m act
      ∙ (ap (λ u. spot_place c.program.graph.abi m act x >>= λ v. u >>= λ t. size_in c.program.graph t >>= λ size. value (activation c es act) m e >>= single_in >>= λ i. element_place m v i size >>= part_place (activation c es act) m more t) element
      ∙ (ap (λ u. spot_place c.program.graph.abi m act x >>= λ v. u >>= λ size. value (activation c es act) m e >>= single_in >>= λ i. element_place m v i size >>= part_place (activation c es act) m more t) room
      ∙ nowhere (spot_place c.program.graph.abi m act x)));
}

-- what a pointer points to, and globals and locals
pub means_at : (c : Scope) (es : List ℕ) (e : Exp) (t : Term) (p : _) → scalar_type c e ≡ Some OfPointer → Means c es e t → MeansHost c es (At e) (At' p t)
means_at c es e t p pointer means = record { at = λ s h m act. ap (λ o. o >>= place_of) (means.at OfPointer pointer m act) }

-- steps that lead to no type
pub lost : (c : Scope) (es : List ℕ) (w : Lval) (rest : Offsets) → place_type c w ≡ None → IsOnWay c es w rest (record { spot = NoSpot; ty = None })
lost c es w rest is = record { told = sym is; there = tt; part = tt }

pub no_member : (c : Scope) (es : List ℕ) (w : Lval) (n : ℕ) (rest : Offsets) (x : Spot) (s : Shape) → IsPart c es w (Field n rest) x s → None ≡ member_type c.program.graph s n → place_type c w ≡ None
no_member c es w n rest x s is absent = is.types ∙ ap (option_and_then (part_type c rest)) (sym absent)

-- what has members is an aggregate
aggregate_with : (g : Graph) (s t : Shape) (n : ℕ) → Some t ≡ member_type g s n → (a : ℕ) × (aggregate_of s ≡ Some a)
aggregate_with g (AggType a) t n e = (a, refl)
aggregate_with g VoidType t n e = absurd (cc)
aggregate_with g (IntType k) t n e = absurd (cc)
aggregate_with g (PtrType q s) t n e = absurd (cc)
aggregate_with g (ArrayType q s bound) t n e = absurd (cc)
aggregate_with g (FuncType ret params proto variadic) t n e = absurd (cc)

pub on_member : (c : Scope) (es : List ℕ) (w : Lval) (n : ℕ) (rest : Offsets) (x : Spot) (p : _) (s : Shape) (u : TypeId) (o : ℕ) → IsPart c es w (Field n rest) x s
    → Some (shape c.program.graph.nodes u.0) ≡ member_type c.program.graph s n → ((a : ℕ) → aggregate_of s ≡ Some a → offset c.program.graph a n ≡ Some o) → u.0 < length c.program.graph.nodes
    → IsOnWay c es w rest (record { spot = Member' o p x; ty = Some u })
on_member c es w n rest x p s u o is member at there =
    let whole : (a : ℕ) × (aggregate_of s ≡ Some a) = aggregate_with c.program.graph s (shape c.program.graph.nodes u.0) n member in
    let part : IsPart c es w rest (Member' o p x) (shape c.program.graph.nodes u.0) = part_member c es w n rest x p s (shape c.program.graph.nodes u.0) whole.0 o is (sym member) whole.1 (at whole.0 whole.1) in
    record { told = sym part.types; there = there; part = part }

pub no_element : (c : Scope) (es : List ℕ) (w : Lval) (e : Exp) (rest : Offsets) (x : Spot) (s i : Shape) → IsPart c es w (Index e rest) x s → type_of c e ≡ Some i → None ≡ element_type s i → place_type c w ≡ None
no_element c es w e rest x s i is index absent = is.types ∙ (ap (λ u. option_and_then (λ i. option_and_then (part_type c rest) (element_type s i)) u) index ∙ ap (λ u. option_and_then (part_type c rest) u) (sym absent))

pub on_element : (c : Scope) (es : List ℕ) (w : Lval) (rest : Offsets) (x : Spot) (u : TypeId) → IsPart c es w rest x (shape c.program.graph.nodes u.0) → u.0 < length c.program.graph.nodes → IsOnWay c es w rest (record { spot = x; ty = Some u })
on_element c es w rest x u part there = record { told = sym part.types; there = there; part = part }

-- an element that an index leads to is an element
pub element_by : (s i t : Shape) → element_type s i ≡ Some t → element_of s ≡ Some t
element_by s i t e = by (is_index i) e
  where
    by : (b : Bool) → (if b then element_of s else None) ≡ Some t → element_of s ≡ Some t
    by true e = e
    by false e = none-some t e

pub no_index : (s i : Shape) → is_index i ≡ false → None ≡ element_type s i
no_index s i e = sym (ap (λ b. if b then element_of s else None) e)

pub other_index : (s : Shape) → is_other s ≡ true → is_index s ≡ false
other_index VoidType e = refl
other_index (IntType k) e = absurd (cc)
other_index (PtrType q s) e = refl
other_index (ArrayType q s bound) e = refl
other_index (FuncType ret params proto variadic) e = refl
other_index (AggType a) e = refl

-- what a way begins with
pub means_global : (c : Scope) (es : List ℕ) (n e : ℕ) (i : EntityId) → i ≡ record { 0 = e } → Some e ≡ slice_get es n → MeansHost c es (Global n) (Global' i)
means_global c es n e i same there = record { at = λ s h m act. ap (λ i. Some (pointer_at (Entity i))) same ∙ ap (λ o. o >>= λ e. Some (pointer_at (Entity (record { 0 = e })))) there }

pub means_no_global : (c : Scope) (es : List ℕ) (n : ℕ) → None ≡ slice_get es n → MeansHost c es (Global n) NoSpot
means_no_global c es n there = record { at = λ s h m act. ap (λ o. o >>= λ e. Some (pointer_at (Entity (record { 0 = e })))) there }

pub means_local : (c : Scope) (es : List ℕ) (l : LocalId) → MeansHost c es (Var l.0) (Own l)
means_local c es l = record { at = λ s h m act. refl }

pub pointer_scalar : (c : Scope) (e : Exp) (o : Option Shape) (s : Shape) → type_of c e ≡ o → option_and_then pointed o ≡ Some s → scalar_type c e ≡ Some OfPointer
pointer_scalar c e None s is h = none-some s h
pointer_scalar c e (Some (PtrType q t)) s is h = ap (λ o. o >>= scalar_in c.program.graph) is
pointer_scalar c e (Some VoidType) s is h = none-some s h
pointer_scalar c e (Some (IntType k)) s is h = none-some s h
pointer_scalar c e (Some (ArrayType q t bound)) s is h = none-some s h
pointer_scalar c e (Some (FuncType ret params proto variadic)) s is h = none-some s h
pointer_scalar c e (Some (AggType a)) s is h = none-some s h

pub means_pointee : (c : Scope) (es : List ℕ) (e : Exp) (t : Term) (p : _) → Means c es e t → MeansHost c es (At e) (At' p t)
means_pointee c es e t p means = record { at = λ s h m act. ap (λ o. o >>= place_of) (means.at OfPointer (pointer_scalar c e (type_of c e) s refl h) m act) }

pub hosted_at : (c : Scope) (es : List ℕ) (e : Exp) (r : Typed) (p : _) (o : Option TypeId) → IsTyped c es e r → at c.program.graph o ≡ option_and_then pointed (told c.program.graph r.ty) → IfSome o (λ t. t.0 < length c.program.graph.nodes)
    → IsHosted c es (At e) (record { spot = At' p r.term; ty = o })
hosted_at c es e r p o is type there = record { told = type ∙ ap (option_and_then pointed) is.told; there = there; means = means_pointee c es e r.term p is.means }

-- ways
ended : (o : Option Shape) → option_and_then (λ s. Some s) o ≡ o
ended None = refl
ended (Some s) = refl

pub way_begins : (c : Scope) (es : List ℕ) (h : Host) (offsets : Offsets) (r : TypedSpot) → IsHosted c es h r → IsOnWay c es (Place h offsets) offsets r
way_begins c es h offsets r is = record { told = ap (option_and_then (part_type c offsets)) is.told; there = is.there; part = by r.ty is.told }
  where
    by : (o : Option TypeId) → at c.program.graph o ≡ host_type c h → IfSome o (λ t. IsPart c es (Place h offsets) offsets r.spot (shape c.program.graph.nodes t.0))
    by None told = tt
    by (Some t) told = part_begins c es h offsets r.spot (shape c.program.graph.nodes t.0) (sym told) is.means

pub way_ends : (c : Scope) (es : List ℕ) (w : Lval) (r : TypedSpot) → IsOnWay c es w Here r → IsPlaced c es w r
way_ends c es w r is = record { told = sym (ended (at c.program.graph r.ty)) ∙ is.told; there = is.there; means = by r.ty is.told is.part }
  where
    by : (o : Option TypeId) → option_and_then (λ s. Some s) (at c.program.graph o) ≡ place_type c w → IfSome o (λ t. IsPart c es w Here r.spot (shape c.program.graph.nodes t.0)) → MeansPlace c es w r.spot
    by None told part = record { at = λ s h m act. none-some s (told ∙ h) }
    by (Some t) told part = part_ends c es w r.spot (shape c.program.graph.nodes t.0) part

pub way_lost : (c : Scope) (es : List ℕ) (w : Lval) (rest : Offsets) (r : TypedSpot) → IsOnWay c es w rest r → r.ty ≡ None → place_type c w ≡ None
way_lost c es w rest r is e = sym is.told ∙ ap (λ o. option_and_then (part_type c rest) (at c.program.graph o)) e

pub way_part : (c : Scope) (es : List ℕ) (w : Lval) (rest : Offsets) (r : TypedSpot) (t : TypeId) (x : Spot) → IsOnWay c es w rest r → r.ty ≡ Some t → x ≡ r.spot → IsPart c es w rest x (shape c.program.graph.nodes t.0)
way_part c es w rest r t x is e same = subst (λ x. IsPart c es w rest x (shape c.program.graph.nodes t.0)) (sym same) (subst (λ o. IfSome o (λ t. IsPart c es w rest r.spot (shape c.program.graph.nodes t.0))) e is.part)

next : (xs : List Offset) (i : ℕ) (o : Offset) → i < length xs → o ≡ get_or xs i o → drop i xs ≡ o ∷ drop (i + 1) xs
next xs i o below is = rw add-one (drop-cons xs i o below ∙ ap (λ x. x ∷ drop (suc i) xs) (sym is))

-- a step of a way is the first of those that are left
pub way_next : (c : Scope) (es : List ℕ) (nodes : List Node) (w : Lval) (xs ys : List Offset) (i : ℕ) (o : Offset) (r : TypedSpot) → ys ≡ xs → i < length ys → o ≡ get_or ys i o → IsOnWay c es w (offsets_of nodes (drop i xs)) r
    → IsOnWay c es w (offsets_of nodes (o ∷ drop (i + 1) xs)) r
way_next c es nodes w xs ys i o r same below is way = subst (λ zs. IsOnWay c es w (offsets_of nodes zs) r) (next xs i o (subst (λ zs. i < length zs) same below) (subst (λ zs. o ≡ get_or zs i o) same is)) way

past : (xs : List Offset) (i : ℕ) → length xs ≤ i → drop i xs ≡ []
past [] zero h = refl
past [] (suc i) h = refl
past (x ∷ xs) zero h = absurd (omega arith)
past (x ∷ xs) (suc i) h = past xs i (omega arith)

-- at its end none is left
pub way_done : (c : Scope) (es : List ℕ) (nodes : List Node) (w : Lval) (xs ys : List Offset) (i : ℕ) (r : TypedSpot) → ys ≡ xs → length ys ≤ i → IsOnWay c es w (offsets_of nodes (drop i xs)) r → IsPlaced c es w r
way_done c es nodes w xs ys i r same end way = way_ends c es w r (subst (λ zs. IsOnWay c es w (offsets_of nodes zs) r) (past xs i (subst (λ zs. length zs ≤ i) same end)) way)

pub no_indexed : (c : Scope) (es : List ℕ) (w : Lval) (e : Exp) (rest : Offsets) (x : Spot) (s : Shape) → IsPart c es w (Index e rest) x s → type_of c e ≡ None → place_type c w ≡ None
no_indexed c es w e rest x s is index = is.types ∙ ap (λ u. option_and_then (λ i. option_and_then (part_type c rest) (element_type s i)) u) index
