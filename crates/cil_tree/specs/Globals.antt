-- Definition: which globals a program may have (own, over C11 6.6, 6.7.9 and 6.9), one rule for each sentence.
use Rattle.std.specs.Prelude.{ℕ, ◌+◌, ◌*◌, ◌^◌, ◌&&◌, ◌||◌, not, Bool, true, false, nat_eq, nat_lt, if◌then◌else◌, List, [], ◌∷◌, Option, Some, None, map, slice_get, unwrap_or, ℤ, pos, int_le, int_lt}
use Rattle.std.specs.List.{list_all}
use Rattle.std.specs.Option.{option_map, option_and_then}
use Rattle.std.specs.Ordering.{int_eq}
use Rattle.cil_base.specs.declared.constants.Constant.{Constant}
use Rattle.cil_base.specs.declared.constants.Constant.TheVariants.{Int as Number, Address, Function as Code}
use Rattle.cil_base.specs.declared.kinds.IntKind.{IntKind}
use Rattle.cil_base.specs.declared.kinds.IntKind.TheVariants.{Int as int}
use Rattle.cil_base.specs.Integer.{ulong_of}
use Rattle.cil_base.specs.Arithmetic.{fits}
use Rattle.type_graph.specs.declared.aggregates.AggKind.{AggKind}
use Rattle.type_graph.specs.declared.aggregates.AggKind.TheVariants.{Struct, Union, Enum}
use Rattle.type_graph.specs.declared.layout.Layout.{Layout}
use Rattle.type_graph.specs.Shapes.{Shape, VoidType, IntType, PtrType, ArrayType, AggType}
use Rattle.type_graph.specs.Arena.{Graph, complete_shape}
use Rattle.type_graph.specs.Layouts.{offset}
use Rattle.cil_tree.specs.Tree.{Step, ToField, ToIndex, Item, Definition, Declared, Zeros, Image, Function, GlobalDecl, Program}
use Rattle.cil_base.specs.Kinds.{same_kind}
use Rattle.cil_tree.specs.Typing.{is_void, is_function, is_scalar, names_enum, global_type, member_type, element_of}
use Rattle.cil_tree.specs.Text.{shape_layout, is_function_type}
use Rattle.cil_tree.specs.Bodies.{body_fits}

-- a function is declared or has a body; an object has no body and is not void
abbrev pub has_definition : Shape → Definition → Bool
has_definition s Declared = not (is_void s)
has_definition s Zeros = not (is_void s) && not (is_function s)
has_definition s (Image items) = not (is_void s) && not (is_function s)
has_definition s (Function body) = is_function s

-- an internal global is not declared alone
abbrev pub is_defined : Definition → Bool
is_defined Declared = false
is_defined _ = true

abbrev pub internal_is_defined : GlobalDecl → Bool
internal_is_defined x = not x.internal || is_defined x.definition

-- a defined object is complete (C11 6.9.2)
abbrev pub object_is_complete : Graph → Shape → Definition → Bool
object_is_complete g s Declared = true
object_is_complete g s Zeros = complete_shape g.aggs s
object_is_complete g s (Image items) = complete_shape g.aggs s
object_is_complete g s (Function body) = true

-- a part of an object: its type, and its offset in bytes
abbrev pub Part : Type 0
Part = Shape × ℕ

abbrev pub aggregate_of : Shape → Option ℕ
aggregate_of (AggType a) = Some a
aggregate_of _ = None

-- a member of a struct or union (C11 6.5.2.3)
abbrev pub member_part : Graph → ℕ → Part → Option Part
member_part g number part =
    option_and_then (λ a. option_and_then (λ s. option_map (λ at. (s, part.1 + at)) (offset g a number)) (member_type g part.0 number)) (aggregate_of part.0)

-- an element of an array, whose index is below the array's known bound
abbrev pub element_part : Graph → ℕ → Part → Option Part
element_part g index (ArrayType q s (Some n), at) = if nat_lt index n then option_map (λ (l : Layout). (s, at + index * l.size)) (shape_layout g s) else None
element_part g index _ = None

-- the part that a path leads to
abbrev pub path_part : Graph → List Step → Part → Option Part
path_part g [] part = Some part
path_part g (ToField number ∷ steps) part = option_and_then (path_part g steps) (member_part g number part)
path_part g (ToIndex index ∷ steps) part = option_and_then (path_part g steps) (element_part g index part)

-- an integer constant has the kind of its place, is a value of it, and is not zero
abbrev pub number_fits : IntKind → IntKind → ℤ → Bool
number_fits place kind v = same_kind kind place && (fits kind v && not (int_eq v (pos 0)))

abbrev pub is_object : Program → ℕ → Bool
is_object p n = elim (global_type p n) [ None ↦ false | Some s ↦ not (is_function s) ]

-- an address names an object, and its offset is from 0 to 2^31 - 1
abbrev pub address_fits : Program → ℕ → ℤ → Bool
address_fits p object at = is_object p object && (int_le (pos 0) at && int_lt at (pos (2 ^ 31)))

-- a constant of the type of its place: a pointer's is an unsigned long, an address or a function, and an enum's is an int
abbrev pub constant_fits : Program → Shape → Constant → Bool
constant_fits p (IntType place) (Number kind v) = number_fits place kind v
constant_fits p (PtrType q s) (Number kind v) = number_fits (ulong_of p.graph.abi) kind v
constant_fits p (PtrType q s) (Address object at) = address_fits p object.0 at
constant_fits p (PtrType q s) (Code function) = is_function_type (global_type p function.0)
constant_fits p (AggType a) (Number kind v) = names_enum p.graph a && number_fits int kind v
constant_fits p _ _ = false

-- a path leads to a scalar, of whose type the constant is
abbrev pub item_fits : Program → Shape → Item → Bool
item_fits p s x = elim (path_part p.graph x.path (s, 0)) [ None ↦ false | Some part ↦ is_scalar p.graph part.0 && constant_fits p part.0 x.value ]

abbrev pub item_offset : Graph → Shape → Item → Option ℕ
item_offset g s x = option_map (λ (part : Part). part.1) (path_part g x.path (s, 0))

abbrev pub is_below : Option ℕ → Option ℕ → Bool
is_below (Some m) (Some n) = nat_lt m n
is_below _ _ = false

-- offsets are strictly rising
abbrev pub are_rising : List (Option ℕ) → Bool
are_rising [] = true
are_rising (m ∷ []) = true
are_rising (m ∷ n ∷ more) = is_below m n && are_rising (n ∷ more)

abbrev pub is_union_kind : AggKind → Bool
is_union_kind Union = true
is_union_kind Struct = false
is_union_kind Enum = false

abbrev pub is_union : Graph → Shape → Bool
is_union g (AggType a) = elim (slice_get g.aggs a) [ None ↦ false | Some x ↦ is_union_kind x.kind ]
is_union g _ = false

abbrev pub next_type : Graph → Shape → ℕ → Shape
next_type g s number = unwrap_or (member_type g s number) VoidType

abbrev pub next_element : Shape → Shape
next_element s = unwrap_or (element_of s) VoidType

-- two paths from a place of that type do not part at a union
abbrev pub agree : Graph → Shape → List Step → List Step → Bool
agree g s (ToField m ∷ path) (ToField n ∷ other) = if nat_eq m n then agree g (next_type g s m) path other else not (is_union g s)
agree g s (ToIndex m ∷ path) (ToIndex n ∷ other) = if nat_eq m n then agree g (next_element s) path other else true
agree g s _ _ = true

-- of each union one member is initialised
abbrev pub unions_agree : Graph → Shape → List Item → Bool
unions_agree g s [] = true
unions_agree g s (x ∷ xs) = list_all (λ (y : Item). agree g s x.path y.path) xs && unions_agree g s xs

abbrev pub is_nonempty : List Item → Bool
is_nonempty [] = false
is_nonempty (x ∷ xs) = true

abbrev pub image_fits : Program → Shape → List Item → Bool
image_fits p s items = is_nonempty items && (list_all (item_fits p s) items && (are_rising (map (item_offset p.graph s) items) && unions_agree p.graph s items))

abbrev pub definition_fits : Program → Shape → Definition → Bool
definition_fits p s Declared = true
definition_fits p s Zeros = true
definition_fits p s (Image items) = image_fits p s items
definition_fits p s (Function body) = body_fits p body s

abbrev pub typed_fits : Program → Shape → GlobalDecl → Bool
typed_fits p s x = has_definition s x.definition && (internal_is_defined x && (object_is_complete p.graph s x.definition && definition_fits p s x.definition))

-- a global has a type of the program's, and fits
abbrev pub global_fits : Program → GlobalDecl → Bool
global_fits p x = elim x.type [ None ↦ false | Some s ↦ typed_fits p s x ]
