-- Definition: declarators (C11 6.7.6): the derivations from the specifiers outward, one step of building a type for each, and parameters.
use Rattle.std.specs.Prelude.{ℕ, Bool, true, false, not, ◌&&◌, ◌||◌, ℤ, pos, int_lt, unsigned_abs, List, [], ◌∷◌, Option, Some, None, is_some}
use Rattle.std.specs.Option.{option_map}
use Rattle.cil_base.specs.declared.numbers.NameId.{NameId}
use Rattle.cil_base.specs.declared.faults.Fault.TheVariants.{Excluded}
use Rattle.cil_base.specs.declared.faults.Code.TheVariants.{Incomplete, FunctionType, ArraySize, NotConstant, Restrict}
use Rattle.cil_base.specs.declared.faults.Feature.TheVariants.{VariableArray}
use Rattle.cil_base.specs.declared.faults.What.TheVariants.{ObjectSize}
use Rattle.type_graph.specs.declared.nodes.Quals.{Quals}
use Rattle.type_graph.specs.Shapes.{Shape, Shapes, PtrType, ArrayType, FuncType, NoTypes}
use Rattle.typed_tree.specs.Tree.{Typed, shape_in}
use Rattle.typed_tree.specs.Units.{Local}
use Rattle.c_tree.specs.Syntax.{SpecifierTrees, DeclaratorTree, Declared, Absent, Grouped, Pointer, Array, Function, Unprototyped}
use Rattle.c_tree.specs.Places.{first_specifiers}
use Rattle.c_rules.specs.Types.{CType, Types, plain, unqualified, pointer_to, is_void, is_array, is_function, is_object, is_too_big, lacks_type, kind_in}
use Rattle.c_rules.specs.Evaluation.{integer_value, has_constant_form}
use Rattle.c_typing.specs.Scopes.{Scope, Walk, ◌>>=◌, pure, faults, refuses_if, exceeds_if, types_of}

-- the first token of what begins with specifiers: there is at least one (6.7p1, 6.7.2.1p1, 6.7.6p1)
abbrev pub at_first : Option ℕ → ℕ
at_first None = 0
at_first (Some at) = at

-- the declared identifier and its token
abbrev pub declared_in : DeclaratorTree → Option (NameId × ℕ)
declared_in (Declared at x) = Some (x, at)
declared_in (Absent at) = None
declared_in (Grouped at d) = declared_in d
declared_in (Pointer at qs d) = declared_in d
declared_in (Array at d bound) = declared_in d
declared_in (Function at d ps variadic) = declared_in d
declared_in (Unprototyped at d names) = declared_in d

-- the token of the identifier, or of the specifiers before a declarator without one (own)
abbrev pub place_in : SpecifierTrees → DeclaratorTree → ℕ
place_in ss d = elim (declared_in d) [ None ↦ at_first (first_specifiers ss) | Some x ↦ x.1 ]

-- nothing but an identifier or its place, in parentheses or not
abbrev pub is_bare : DeclaratorTree → Bool
is_bare (Declared at x) = true
is_bare (Absent at) = true
is_bare (Grouped at d) = is_bare d
is_bare (Pointer at qs d) = false
is_bare (Array at d bound) = false
is_bare (Function at d ps variadic) = false
is_bare (Unprototyped at d names) = false

-- derivations (6.7.6p4 to p6)

-- the parameters of a prototype: their types, and the scope and the objects that they declare
pub record Prototype : Type 0 where
  pub shapes : Shapes
  pub variadic : Bool
  pub all_named : Bool
  pub scope : Scope
  pub locals : List Local

pub data Derivation : Type 0 where
  PointerTo : (quals : Quals) → Derivation
  -- with the bound and its first token, and the qualifiers in its brackets, which are those of a parameter (6.7.6.3p7)
  ArrayOf : (bound : Option (ℤ × ℕ)) (quals : Quals) → Derivation
  FunctionOf : (prototype : Prototype) → Derivation
  -- `( )`, or an identifier list
  BareFunctionOf : (names : List NameId) → Derivation

-- a bound that is not known is that of a variable length array
abbrev pub bound_known : ℕ → Option ℤ → Walk ℤ
bound_known at None = faults (Excluded VariableArray) at
bound_known at (Some n) = pure n

-- the bound of an array (6.7.6.2p1, p4) is an integer constant expression: one of no integer type, or one with the form of a constant and no value, is none
abbrev pub bound_of : ℕ → Types → Typed → Walk ℤ
bound_of at t e = do
  _ ← refuses_if (not (is_some (kind_in t (shape_in e)))) NotConstant at
  _ ← refuses_if (has_constant_form t e && not (is_some (integer_value t e))) NotConstant at
  bound_known at (integer_value t e)

-- one step of building a type from the one before, at the token of the identifier

abbrev pub pointer_step : ℕ → Quals → CType → Walk CType
pointer_step at q c = do
  _ ← refuses_if (q.restricted && not (is_object c.shape)) Restrict at
  pure (record { quals = q; shape = pointer_to c })

-- a bound is above 0 (6.7.6.2p1), at its first token
abbrev pub refuses_bound : Option (ℤ × ℕ) → Walk (Unit {0})
refuses_bound None = pure tt
refuses_bound (Some b) = refuses_if (int_lt b.0 (pos 1)) ArraySize b.1

abbrev pub count_of : Option (ℤ × ℕ) → Option ℕ
count_of b = option_map (λ (x : ℤ × ℕ). unsigned_abs x.0) b

-- an array has complete objects as elements, no functions (6.7.6.2p1), and not too many (own)
abbrev pub array_step : ℕ → Option (ℤ × ℕ) → CType → Walk CType
array_step at bound c = do
  t ← types_of
  _ ← refuses_if (is_object c.shape && lacks_type t false c.shape) Incomplete at
  _ ← refuses_if (is_function c.shape) FunctionType at
  _ ← refuses_bound bound
  _ ← exceeds_if (is_too_big t (ArrayType c.quals c.shape (count_of bound))) ObjectSize at
  pure (unqualified (ArrayType c.quals c.shape (count_of bound)))

-- a function returns no function and no array (6.7.6.3p1); its result and parameters have no qualifiers (own)
abbrev pub function_step : ℕ → Shapes → Bool → Bool → CType → Walk CType
function_step at params proto variadic c = do
  _ ← refuses_if (is_function c.shape || is_array c.shape) FunctionType at
  pure (unqualified (FuncType c.shape params proto variadic))

abbrev pub step : ℕ → Derivation → CType → Walk CType
step at (PointerTo q) c = pointer_step at q c
step at (ArrayOf bound q) c = array_step at bound c
step at (FunctionOf p) c = function_step at p.shapes true p.variadic c
step at (BareFunctionOf names) c = function_step at NoTypes false false c

-- the type of a declarator: the steps from the specifiers outward
abbrev pub built : ℕ → List Derivation → CType → Walk CType
built at [] c = pure c
built at (d ∷ ds) c = do
  c' ← step at d c
  built at ds c'

-- the derivation next to the identifier
abbrev pub last_of : List Derivation → Option Derivation
last_of [] = None
last_of (d ∷ []) = Some d
last_of (d ∷ e ∷ ds) = last_of (e ∷ ds)

-- parameters (6.7.6.3)

-- a parameter of array type is a pointer with the qualifiers in the brackets (p7), one of function type a pointer to it (p8)
abbrev pub adjusted_shape : Quals → Quals → Shape → CType
adjusted_shape q p (ArrayType r s bound) = record { quals = q; shape = PtrType r s }
adjusted_shape q p (FuncType ret params proto variadic) = unqualified (PtrType plain (FuncType ret params proto variadic))
adjusted_shape q p s = record { quals = p; shape = s }

abbrev pub adjusted : Quals → CType → CType
adjusted q c = adjusted_shape q c.quals c.shape

abbrev pub bracket_quals : Option Derivation → Quals
bracket_quals (Some (ArrayOf bound q)) = q
bracket_quals _ = plain

-- the lone `void` of a prototype without parameters (p10): unnamed and unqualified, without a storage class
abbrev pub is_lone_void : CType → Option (NameId × ℕ) → Bool
is_lone_void c name = is_void c.shape && (not c.quals.constant && (not c.quals.restricted && not (is_some name)))
