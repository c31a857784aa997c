-- Device: what a value points to whose type is that of a pointer.
use Rattle.std.proofs.Common.{◌≡◌, Some, refl, sym, ap, ◌∙◌}
use Rattle.type_graph.specs.declared.nodes.Quals.{Quals}
use Rattle.type_graph.specs.Shapes.{Shape, VoidType, IntType, PtrType, ArrayType, FuncType, AggType}
use Rattle.cast_rules.specs.Given.{value_shape, pointee_shape}

pub pointee_told : (s to : Shape) (quals : Quals) → value_shape s ≡ PtrType quals to → pointee_shape s ≡ Some to
pointee_told VoidType to quals e = cc
pointee_told (IntType kind) to quals e = cc
pointee_told (PtrType q t) to quals e = cc
pointee_told (ArrayType q t bound) to quals e = cc
pointee_told (FuncType ret params proto variadic) to quals e = cc
pointee_told (AggType a) to quals e = cc
