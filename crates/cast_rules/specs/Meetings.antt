-- Definition: where two operands meet of which one at least is a pointer (C11 6.3.2.3, 6.5.9p2, p5, 6.5.15p3, p6).
use Rattle.std.specs.Prelude.{Bool, ◌||◌, ◌&&◌, Option, Some, None, if◌then◌else◌}
use Rattle.type_graph.specs.declared.nodes.Quals.{Quals}
use Rattle.type_graph.specs.Arena.{Graph}
use Rattle.type_graph.specs.Shapes.{Shape, VoidType, PtrType}
use Rattle.type_compat.specs.Compatible.{compatible_shape}
use Rattle.type_compat.specs.Composed.{composite_shape}
use Rattle.unit_types.specs.Normal.{joined, qualified}
use Rattle.cast_rules.specs.declared.operands.Operand.{Operand}
use Rattle.cast_rules.specs.Types.{is_void, is_object}
use Rattle.cast_rules.specs.Values.{Paired, Numbers, PointerNumber, NumberPointer, Pointers, Others, pair_of}

abbrev pub compatible : Graph → Shape → Shape → Bool
compatible g s t = compatible_shape g.aggs s t

-- one is void, the other an object type (6.3.2.3p1)
abbrev pub meet_in_void : Shape → Shape → Bool
meet_in_void s t = (is_void s && is_object t) || (is_void t && is_object s)

abbrev pub pointer_to : Quals × Shape → Shape
pointer_to to = PtrType to.0 to.1

-- two pointers: at a pointer to the composite type with the qualifiers of both, at the type of the one that is no null pointer constant, or at a pointer to void with the qualifiers of both
abbrev pub pointers_meet : Graph → Bool → Bool → Quals → Shape → Quals → Shape → Option Shape
pointers_meet g left_null right_null p s q t =
    if compatible g s t then Some (pointer_to (qualified (joined p q) (composite_shape s t)))
    else (if right_null then Some (PtrType p s)
    else (if left_null then Some (PtrType q t)
    else (if meet_in_void s t then Some (PtrType (joined p q) VoidType) else None)))

-- a pointer meets a number only where that is a null pointer constant
abbrev pub meeting : Graph → Bool → Bool → Paired → Option Shape
meeting g left_null right_null (Numbers left right) = None
meeting g left_null right_null (PointerNumber p s) = if right_null then Some (PtrType p s) else None
meeting g left_null right_null (NumberPointer q t) = if left_null then Some (PtrType q t) else None
meeting g left_null right_null (Pointers p s q t) = pointers_meet g left_null right_null p s q t
meeting g left_null right_null Others = None

abbrev pub meeting_of : Graph → Operand → Operand → Option Shape
meeting_of g a b = meeting g a.null b.null (pair_of g a b)
