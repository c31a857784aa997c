-- Definition: compatible types, conversions and operands (C11 6.2.7, 6.3), over plain typed expressions.
use Rattle.std.specs.Prelude.{ℕ, Bool, true, false, not, ◌&&◌, ◌||◌, nat_eq, Option, Some, None, map, is_some, if◌then◌else◌}
use Rattle.std.specs.Bool.{beq}
use Rattle.cil_base.specs.declared.kinds.IntKind.{IntKind}
use Rattle.cil_base.specs.declared.kinds.IntKind.TheVariants.{Bool as Boolean}
use Rattle.cil_base.specs.Kinds.{same_kind}
use Rattle.cil_base.specs.Usual.{promoted}
use Rattle.type_graph.specs.declared.aggregates.Aggregate.{Aggregate as Kinded}
use Rattle.type_graph.specs.declared.nodes.Quals.{Quals}
use Rattle.type_graph.specs.Shapes.{Shape, Shapes, VoidType, IntType, PtrType, ArrayType, FuncType, AggType, NoTypes, MoreTypes}
use Rattle.type_compat.specs.Compatible.{same_quals, compatible_shape}
use Rattle.type_compat.specs.Composed.{composite_shape}
use Rattle.typed_tree.specs.Tree.{Typed, Form, Has, Load, Decay, Convert, shape_in, acts}
use Rattle.typed_tree.specs.Places.{is_place}
use Rattle.c_rules.specs.Types.{CType, Aggregate, Types, plain, joined, is_void, is_array, is_function, is_object, is_aggregate, pointee, kind_in, is_integer, is_record, complete}

-- compatible types, and composites (6.2.7)

-- what the rules of compatibility ask of aggregates: their kinds
abbrev pub kinded : Aggregate → Kinded
kinded x = record { kind = x.kind; tag = x.tag; members = None }

abbrev pub compatible : Types → Shape → Shape → Bool
compatible t a b = compatible_shape (map kinded t.aggs) a b

-- one type
abbrev pub same_bound : Option ℕ → Option ℕ → Bool
same_bound None None = true
same_bound (Some m) (Some n) = nat_eq m n
same_bound _ _ = false

abbrev mutual
  pub same_shape : Shape → Shape → Bool
  same_shape VoidType VoidType = true
  same_shape (IntType k) (IntType j) = same_kind k j
  same_shape (PtrType p s) (PtrType q t) = same_quals p q && same_shape s t
  same_shape (ArrayType p s m) (ArrayType q t n) = same_quals p q && (same_bound m n && same_shape s t)
  same_shape (FuncType r ps p v) (FuncType u qs q w) = same_shape r u && (beq p q && (beq v w && same_shapes ps qs))
  same_shape (AggType a) (AggType b) = nat_eq a b
  same_shape s t = false

  pub same_shapes : Shapes → Shapes → Bool
  same_shapes NoTypes NoTypes = true
  same_shapes (MoreTypes s ss) (MoreTypes t ts) = same_shape s t && same_shapes ss ts
  same_shapes ss ts = false

-- one type, or pointers to one type that is qualified in two ways: a conversion between them is no node (own)
abbrev pub alike : Shape → Shape → Bool
alike (PtrType p s) (PtrType q t) = same_shape s t
alike s t = same_shape s t

-- operands

-- an operand: its expression, whether it is a null pointer constant (6.3.2.3p3), whether it designates a register object (6.7.1p6)
pub record Operand : Type 0 where
  pub typed : Typed
  pub null : Bool
  pub register : Bool

abbrev pub operand : Typed → Operand
operand e = record { typed = e; null = false; register = false }

-- an expression that is no lvalue has an unqualified type (6.3.2.1p2)
abbrev pub node : Shape → Bool → Form → Typed
node s effect form = Has plain s effect form

-- a part of another expression's effects
abbrev pub same_effect : Shape → Typed → Form → Typed
same_effect s e form = node s (acts e) form

-- the type of an operand's value: an array becomes a pointer to its first element, a function a pointer to it (6.3.2.1p3, p4)
abbrev pub value_shape : Shape → Shape
value_shape (ArrayType q s bound) = PtrType q s
value_shape (FuncType ret params proto variadic) = PtrType plain (FuncType ret params proto variadic)
value_shape s = s

-- the type of the operand's value
abbrev pub shape_of : Operand → Shape
shape_of x = value_shape (shape_in x.typed)

-- an lvalue designates an object (6.3.2.1p1): its type is not void and no function
abbrev pub is_lvalue : Typed → Bool
is_lvalue e = is_place e && not (is_void (shape_in e) || is_function (shape_in e))

abbrev pub decays : Shape → Bool
decays s = is_array s || is_function s

-- the value of an operand (6.3.2.1p2 to p4)
abbrev pub value_of : Typed → Typed
value_of e = if decays (shape_in e) then same_effect (value_shape (shape_in e)) e (Decay e) else (if is_lvalue e then same_effect (shape_in e) e (Load e) else e)

-- a value converted to a type (6.3)
abbrev pub converted : Shape → Typed → Typed
converted to e = if alike (shape_in e) to then e else same_effect to e (Convert e)

abbrev pub value_as : Shape → Operand → Typed
value_as to x = converted to (value_of x.typed)

abbrev pub kind_of : Types → Operand → Option IntKind
kind_of t x = kind_in t (shape_of x)

-- the type to which the integer promotions take an integer type (6.3.1.1p2); an enumerated type goes to int
abbrev pub promoted_shape : Types → Shape → Shape
promoted_shape t s = elim (kind_in t s) [ None ↦ s | Some kind ↦ IntType (promoted kind) ]

-- the default argument promotions (6.5.2.2p6)
abbrev pub promoted_value : Types → Operand → Typed
promoted_value t x = value_as (promoted_shape t (shape_of x)) x

-- an aggregate is read that is incomplete (6.3.2.1p2)
abbrev pub is_unreadable : Types → Operand → Bool
is_unreadable t x = is_aggregate (shape_in x.typed) && not (complete t (shape_in x.typed))

-- pairs of pointers

-- one is void, the other an object type (6.3.2.3p1)
abbrev pub meet_in_void : CType → CType → Bool
meet_in_void p q = (is_void p.shape && is_object q.shape) || (is_void q.shape && is_object p.shape)

-- where two pointers meet (6.5.9p5, 6.5.15p6): at a pointer to the composite type with the qualifiers of both, at the type of the one that is not a null pointer constant, or at a pointer to void
abbrev pub pointers_meet : Types → Operand → Operand → CType → CType → Option CType
pointers_meet t a b p q =
    if compatible t p.shape q.shape then Some (record { quals = joined p.quals q.quals; shape = composite_shape p.shape q.shape })
    else (if b.null then Some p else (if a.null then Some q
    else (if meet_in_void p q then Some (record { quals = joined p.quals q.quals; shape = VoidType }) else None)))

-- a pointer meets an integer only where that is a null pointer constant
abbrev pub only_null : Operand → CType → Option CType
only_null x p = if x.null then Some p else None

abbrev pub meeting : Types → Operand → Operand → Option CType
meeting t a b = by (pointee (shape_of a)) (pointee (shape_of b))
  where
    by : Option CType → Option CType → Option CType
    by (Some p) (Some q) = pointers_meet t a b p q
    by (Some p) None = only_null b p
    by None (Some q) = only_null a q
    by None None = None

-- simple assignment (6.5.16.1p1): what may be assigned to a type, case by case

abbrev pub has_all : Quals → Quals → Bool
has_all p q = (p.constant || not q.constant) && (p.restricted || not q.restricted)

abbrev pub holds_both : {A B : Type 0} → (A → B → Bool) → Option A → Option B → Bool
holds_both test (Some a) (Some b) = test a b
holds_both test _ _ = false

-- the left operand has arithmetic type, and the right has arithmetic type
abbrev pub assigns_number : Types → Shape → Operand → Bool
assigns_number t to x = is_integer t to && is_some (kind_of t x)

-- the left operand has a structure or union type compatible with the type of the right
abbrev pub assigns_record : Types → Shape → Operand → Bool
assigns_record t to x = is_record t to && (is_record t (shape_of x) && compatible t to (shape_of x))

-- what the left pointer points to is compatible with what the right one points to, or one is void and the other an object type; and it has all its qualifiers
abbrev pub may_point : Types → CType → CType → Bool
may_point t p q = has_all p.quals q.quals && (compatible t p.shape q.shape || meet_in_void p q)

-- both are pointers
abbrev pub assigns_pointer : Types → Shape → Operand → Bool
assigns_pointer t to x = holds_both (may_point t) (pointee to) (pointee (shape_of x))

-- the left operand is a pointer, and the right is a null pointer constant
abbrev pub assigns_null : Shape → Operand → Bool
assigns_null to x = is_some (pointee to) && x.null

-- the left operand has type _Bool, and the right is a pointer
abbrev pub assigns_truth : Shape → Operand → Bool
assigns_truth (IntType kind) x = same_kind kind Boolean && is_some (pointee (shape_of x))
assigns_truth _ x = false

abbrev pub assignable : Types → Shape → Operand → Bool
assignable t to x = assigns_number t to x || (assigns_record t to x || (assigns_pointer t to x || (assigns_null to x || assigns_truth to x)))
