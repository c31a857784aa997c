-- Definition: the types to which the operands of an operator go, and that of its result (C11 6.5), none where its constraint excludes the operands.
use Rattle.std.specs.Prelude.{Bool, true, false, not, ◌&&◌, ◌||◌, Option, Some, None, if◌then◌else◌}
use Rattle.std.specs.Option.{option_map}
use Rattle.cil_base.specs.declared.kinds.IntKind.{IntKind}
use Rattle.cil_base.specs.declared.kinds.IntKind.TheVariants.{Int as int}
use Rattle.cil_base.specs.declared.operators.BinOp.{BinOp}
use Rattle.cil_base.specs.declared.operators.BinOp.TheVariants.{Mul, Div, Rem, Add, Sub, Shl, Shr, Lt, Gt, Le, Ge, Eq, Ne, And, Xor, Or}
use Rattle.cil_base.specs.Integer.{long_of}
use Rattle.cil_base.specs.Usual.{promoted, common}
use Rattle.type_graph.specs.Shapes.{Shape, IntType, PtrType}
use Rattle.c_rules.specs.Types.{CType, Types, pointer_to, pointee, is_object, is_void, is_record, is_array, complete, joined, has_constant_part}
use Rattle.type_compat.specs.Composed.{composite_shape}
use Rattle.typed_tree.specs.Tree.{Typed, shape_in, quals_in}
use Rattle.c_rules.specs.Conversions.{Operand, shape_of, kind_of, compatible, meeting, same_shape}

pub record Sides : Type 0 where
  pub left : Shape
  pub right : Shape
  pub result : Shape

abbrev pub sides : Shape → Shape → Shape → Sides
sides left right result = record { left = left; right = right; result = result }

-- the usual arithmetic conversions on both, and their type for the result (6.3.1.8)
abbrev pub usual : IntKind → IntKind → Sides
usual k j = sides (IntType (common k j)) (IntType (common k j)) (IntType (common k j))

-- the usual arithmetic conversions, and an int for the result (6.5.8p6, 6.5.9p3)
abbrev pub told : IntKind → IntKind → Sides
told k j = sides (IntType (common k j)) (IntType (common k j)) (IntType int)

-- the integer promotions on each, and the type of the left for the result (6.5.7p3)
abbrev pub shifted : IntKind → IntKind → Sides
shifted k j = sides (IntType (promoted k)) (IntType (promoted j)) (IntType (promoted k))

-- two operands of integer types
abbrev pub of_numbers : BinOp → IntKind → IntKind → Sides
of_numbers Mul k j = usual k j
of_numbers Div k j = usual k j
of_numbers Rem k j = usual k j
of_numbers Add k j = usual k j
of_numbers Sub k j = usual k j
of_numbers Shl k j = shifted k j
of_numbers Shr k j = shifted k j
of_numbers Lt k j = told k j
of_numbers Gt k j = told k j
of_numbers Le k j = told k j
of_numbers Ge k j = told k j
of_numbers Eq k j = told k j
of_numbers Ne k j = told k j
of_numbers And k j = usual k j
of_numbers Xor k j = usual k j
of_numbers Or k j = usual k j

-- a pointer to an object type and an integer, which is promoted (6.5.6p2, p8; the promotion is own)
abbrev pub moved_right : CType → IntKind → Option Sides
moved_right p j = if is_object p.shape then Some (sides (pointer_to p) (IntType (promoted j)) (pointer_to p)) else None

-- an integer and a pointer to an object type
abbrev pub moved_left : IntKind → CType → Option Sides
moved_left k q = if is_object q.shape then Some (sides (IntType (promoted k)) (pointer_to q) (pointer_to q)) else None

-- `+` and `-` of a pointer and an integer (6.5.6p2, p3)
abbrev pub of_pointer_number : BinOp → CType → IntKind → Option Sides
of_pointer_number Add p j = moved_right p j
of_pointer_number Sub p j = moved_right p j
of_pointer_number _ p j = None

-- only `+` takes the pointer to the right of the integer (6.5.6p2)
abbrev pub of_number_pointer : BinOp → IntKind → CType → Option Sides
of_number_pointer Add k q = moved_left k q
of_number_pointer _ k q = None

-- pointers to compatible object types, qualified in any way: both go to a pointer to the composite type (own)
abbrev pub of_compatible : Types → Shape → CType → CType → Option Sides
of_compatible t result p q = if is_object p.shape && (is_object q.shape && compatible t p.shape q.shape) then Some (sides (common_pointer p q) (common_pointer p q) result) else None
  where
    common_pointer : CType → CType → Shape
    common_pointer p q = PtrType (joined p.quals q.quals) (composite_shape p.shape q.shape)

-- `==` and `!=` where one operand at least is a pointer (6.5.9p2): both go to where they meet
abbrev pub of_equality : Option CType → Option Sides
of_equality meet = option_map (λ (m : CType). sides (pointer_to m) (pointer_to m) (IntType int)) meet

-- two pointers: `-` (6.5.6p3, p9), the relations (6.5.8p2), equality
abbrev pub of_pointers : Types → BinOp → Operand → Operand → CType → CType → Option Sides
of_pointers t Sub a b p q = of_compatible t (IntType (long_of t.abi)) p q
of_pointers t Lt a b p q = of_compatible t (IntType int) p q
of_pointers t Gt a b p q = of_compatible t (IntType int) p q
of_pointers t Le a b p q = of_compatible t (IntType int) p q
of_pointers t Ge a b p q = of_compatible t (IntType int) p q
of_pointers t Eq a b p q = of_equality (meeting t a b)
of_pointers t Ne a b p q = of_equality (meeting t a b)
of_pointers t _ a b p q = None

abbrev pub is_equality : BinOp → Bool
is_equality Eq = true
is_equality Ne = true
is_equality _ = false

abbrev pub with_null : Types → BinOp → Operand → Operand → Option Sides → Option Sides
with_null t op a b other = if is_equality op then of_equality (meeting t a b) else other

-- a binary operator's operands (6.5.5 to 6.5.12)
abbrev pub binary_sides : Types → BinOp → Operand → Operand → Option Sides
binary_sides t op a b = by (kind_of t a) (kind_of t b) (pointee (shape_of a)) (pointee (shape_of b))
  where
    by : Option IntKind → Option IntKind → Option CType → Option CType → Option Sides
    by (Some k) (Some j) p q = Some (of_numbers op k j)
    by (Some k) None p (Some q) = with_null t op a b (of_number_pointer op k q)
    by None (Some j) (Some p) q = with_null t op a b (of_pointer_number op p j)
    by None None (Some p) (Some q) = of_pointers t op a b p q
    by _ _ _ _ = None

-- a pointer to an incomplete object type
abbrev pub points_to_incomplete : Types → Option CType → Bool
points_to_incomplete t None = false
points_to_incomplete t (Some p) = is_object p.shape && not (complete t p.shape)

-- pointer arithmetic over an incomplete object type: a pointer and an integer that are added, an integer that is subtracted from a pointer (6.5.6p2, p3), and two pointers of which one is subtracted from the other, whether or not they point to compatible types
abbrev pub steps_over_incomplete : Types → BinOp → Operand → Operand → Bool
steps_over_incomplete t op a b = by op (kind_of t a) (kind_of t b) (pointee (shape_of a)) (pointee (shape_of b))
  where
    by : BinOp → Option IntKind → Option IntKind → Option CType → Option CType → Bool
    by Add None (Some j) p q = points_to_incomplete t p
    by Add (Some k) None p q = points_to_incomplete t q
    by Sub None (Some j) p q = points_to_incomplete t p
    by Sub None None (Some p) (Some q) = points_to_incomplete t (Some p) || points_to_incomplete t (Some q)
    by _ _ _ _ _ = false

-- the element that a subscript designates (6.5.2.1p1): one operand is a pointer, the other an integer
abbrev pub subscript_sides : Types → Operand → Operand → Option Sides
subscript_sides t a b = by (kind_of t a) (kind_of t b) (pointee (shape_of a)) (pointee (shape_of b))
  where
    by : Option IntKind → Option IntKind → Option CType → Option CType → Option Sides
    by None (Some j) (Some p) q = moved_right p j
    by (Some k) None p (Some q) = moved_left k q
    by _ _ _ _ = None

-- compound assignment (6.5.16.2p1, p2): a pointer takes += and -= with an integer; else both are arithmetic. `left` is the type in which it computes
abbrev pub compound_sides : Types → BinOp → Operand → Operand → Option Sides
compound_sides t op a b = by (kind_of t a) (kind_of t b) (pointee (shape_of a))
  where
    by : Option IntKind → Option IntKind → Option CType → Option Sides
    by (Some k) (Some j) p = Some (of_numbers op k j)
    by None (Some j) (Some p) = of_pointer_number op p j
    by _ _ _ = None

-- ++ and -- (6.5.2.4p1, 6.5.3.1p1): the type in which 1 is added
abbrev pub step_shape : Types → Operand → Option Shape
step_shape t x = by (kind_of t x) (pointee (shape_of x))
  where
    by : Option IntKind → Option CType → Option Shape
    by (Some k) p = Some (IntType (common k int))
    by None (Some p) = if is_object p.shape then Some (pointer_to p) else None
    by None None = None

-- the type of `? :` (6.5.15p3, p5, p6): the common type of numbers, one structure or union type, void, or where pointers meet
abbrev pub is_one_type : Types → Shape → Shape → Bool
is_one_type t a b = (is_void a && is_void b) || (is_record t a && same_shape a b)

abbrev pub branch_shape : Types → Operand → Operand → Option Shape
branch_shape t a b = by (kind_of t a) (kind_of t b)
  where
    by : Option IntKind → Option IntKind → Option Shape
    by (Some k) (Some j) = Some (IntType (common k j))
    by _ _ = if is_one_type t (shape_of a) (shape_of b) then Some (shape_of a) else option_map pointer_to (meeting t a b)

-- a modifiable lvalue is no array, complete, and const in no part (6.3.2.1p1)
abbrev pub is_modifiable : Types → Typed → Bool
is_modifiable t e = complete t (shape_in e) && (not (is_array (shape_in e)) && not (has_constant_part t (record { quals = quals_in e; shape = shape_in e })))
