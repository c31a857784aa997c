-- Definition: the composite of two compatible types (C11 6.2.7p3), which is the first but for bounds and prototypes that only the second has.
use Rattle.std.specs.Prelude.{◌≡◌, ℕ, true, false, Option, Some, None}
use Rattle.type_graph.specs.declared.nodes.Quals.{Quals}
use Rattle.type_graph.specs.declared.nodes.QualType.{QualType}
use Rattle.type_graph.specs.Shapes.{Shape, Shapes, PtrType, ArrayType, FuncType, NoTypes, MoreTypes}

-- an array of unknown bound takes the bound of the other
abbrev pub known_bound : Option ℕ → Option ℕ → Option ℕ
known_bound None n = n
known_bound (Some m) n = Some m

abbrev mutual
  pub composite_shape : Shape → Shape → Shape
  composite_shape (PtrType p s) (PtrType q t) = PtrType p (composite_shape s t)
  composite_shape (ArrayType p s m) (ArrayType q t n) = ArrayType p (composite_shape s t) (known_bound m n)
  composite_shape (FuncType r ps true v) (FuncType u qs true w) = FuncType (composite_shape r u) (composite_shapes ps qs) true v
  composite_shape (FuncType r ps true v) (FuncType u qs false w) = FuncType (composite_shape r u) ps true v
  composite_shape (FuncType r ps false v) (FuncType u qs true w) = FuncType (composite_shape r u) qs true w
  composite_shape (FuncType r ps false v) (FuncType u qs false w) = FuncType (composite_shape r u) ps false v
  composite_shape s t = s

  pub composite_shapes : Shapes → Shapes → Shapes
  composite_shapes NoTypes ts = NoTypes
  composite_shapes (MoreTypes s ss) NoTypes = MoreTypes s ss
  composite_shapes (MoreTypes s ss) (MoreTypes t ts) = MoreTypes (composite_shape s t) (composite_shapes ss ts)

-- what a pointer points to, or that the type is no pointer
abbrev pub IsPointee : (ℕ → Shape) → Option QualType → Shape → Type 0
IsPointee at (Some q) s = s ≡ PtrType q.quals (at q.of.0)
IsPointee at None s = (p : Quals) (t : Shape) → composite_shape (PtrType p t) s ≡ PtrType p t

-- what an array is made of, or that the type is no array
abbrev pub IsElement : (ℕ → Shape) → Option (QualType × Option ℕ) → Shape → Type 0
IsElement at (Some e) s = s ≡ ArrayType e.0.quals (at e.0.of.0) e.1
IsElement at None s = (p : Quals) (t : Shape) (m : Option ℕ) → composite_shape (ArrayType p t m) s ≡ ArrayType p t m
