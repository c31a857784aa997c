-- Definition: qualified types in their normal form (C11 6.7.3p9): qualifiers on an array type are those of its elements, and a function type has none (own).
use Rattle.std.specs.Prelude.{◌≡◌, ◌≤◌, ℕ, Bool, true, false, ◌&&◌, ◌||◌, not, Some, List, [], ◌∷◌, slice_get}
use Rattle.type_graph.specs.declared.aggregates.Member.{Member}
use Rattle.cil_base.specs.declared.numbers.TypeId.{TypeId}
use Rattle.type_graph.specs.declared.nodes.QualType.{QualType}
use Rattle.type_graph.specs.declared.nodes.Quals.{Quals}
use Rattle.type_graph.specs.declared.nodes.Node.{Node}
use Rattle.type_graph.specs.declared.nodes.Node.TheVariants.{Void, Int, Ptr, Array, Func, Agg}
use Rattle.type_graph.specs.Shapes.{Shape, VoidType, IntType, PtrType, ArrayType, FuncType, AggType, shape}
use Rattle.type_graph.specs.Arena.{Graph, members_of}

-- no qualifier
abbrev pub plain : Quals
plain = record { constant = false; restricted = false }

-- the unqualified version of a type (C11 6.2.5p26)
abbrev pub unqualified : TypeId → QualType
unqualified of = record { quals = plain; of = of }

abbrev pub is_plain : Quals → Bool
is_plain q = not q.constant && not q.restricted

-- the type bears qualifiers of its own
abbrev pub bears : Shape → Bool
bears VoidType = true
bears (IntType kind) = true
bears (PtrType quals s) = true
bears (ArrayType quals s bound) = false
bears (FuncType ret params proto variadic) = false
bears (AggType a) = true

-- a qualified type is neither an array nor a function
abbrev pub is_normal : Quals → Shape → Bool
is_normal quals s = is_plain quals || bears s

-- the qualified type that a node names is in normal form
abbrev pub normal_node : List Node → Node → Bool
normal_node nodes Void = true
normal_node nodes (Int kind) = true
normal_node nodes (Ptr q) = is_normal q.quals (shape nodes q.of.0)
normal_node nodes (Array q bound) = is_normal q.quals (shape nodes q.of.0)
normal_node nodes (Func proto variadic ret params) = true
normal_node nodes (Agg a) = true

-- the type of a member is in normal form
abbrev pub normal_member : Graph → Member → Bool
normal_member g m = is_normal m.ty.quals (shape g.nodes m.ty.of.0)

abbrev pub normal_members : Graph → List Member → Bool
normal_members g [] = true
normal_members g (m ∷ ms) = normal_member g m && normal_members g ms

-- all qualified types of an arena are in normal form
pub record IsNormal (g : Graph) : Type 0 where
  pub nodes : (t : ℕ) (n : Node) → slice_get g.nodes t ≡ Some n → normal_node g.nodes n ≡ true
  pub members : (a i : ℕ) (ms : List Member) (m : Member) → members_of g.aggs a ≡ Some ms → slice_get ms i ≡ Some m → is_normal m.ty.quals (shape g.nodes m.ty.of.0) ≡ true

-- the qualified types that nodes name are in normal form, from a number on
abbrev pub NormalFrom : ℕ → Graph → Type 0
NormalFrom k g = (t : ℕ) (n : Node) → k ≤ t → slice_get g.nodes t ≡ Some n → normal_node g.nodes n ≡ true

-- both qualifiers, each once (C11 6.7.3p5)
abbrev pub joined : Quals → Quals → Quals
joined p q = record { constant = p.constant || q.constant; restricted = p.restricted || q.restricted }

-- a type with these qualifiers added: those of an array go down to its elements (C11 6.7.3p9), and those of a function type are dropped (own)
abbrev pub qualified : Quals → Shape → Quals × Shape
qualified p VoidType = (p, VoidType)
qualified p (IntType kind) = (p, IntType kind)
qualified p (PtrType q s) = (p, PtrType q s)
qualified p (ArrayType q s bound) = (plain, ArrayType (qualified (joined q p) s).0 (qualified (joined q p) s).1 bound)
qualified p (FuncType ret params proto variadic) = (plain, FuncType ret params proto variadic)
qualified p (AggType a) = (p, AggType a)
