-- Device: parts of objects that paths lead to, by numbers of types.
use Rattle.std.specs.Prelude.{◌≡◌, Bool, true, false, ◌&&◌, if◌then◌else◌, nat_eq, nat_lt, List, [], ◌∷◌, Option, Some, None, unwrap_or, map}
use Rattle.std.specs.List.{list_all}
use Rattle.std.specs.Option.{option_map}
use Rattle.cil_base.specs.declared.numbers.TypeId.{TypeId}
use Rattle.type_graph.specs.Shapes.{Shape, VoidType, IntType, PtrType, ArrayType, FuncType, AggType, shape}
use Rattle.type_graph.specs.Arena.{Graph}
use Rattle.cil_tree.specs.Tree.{Item, Program, Step, ToField, ToIndex}
use Rattle.cil_tree.specs.Globals.{Part, agree, constant_fits, member_part, element_part, path_part, item_offset, are_rising, next_type, next_element}
use Rattle.cil_base.specs.declared.constants.Constant.{Constant}
use Rattle.cil_tree.specs.Typing.{is_scalar}
use Rattle.cil_check.specs.declared.paths.Subobject.{Subobject}
use Rattle.cil_check.specs.Seen.{at}

abbrev pub part_of : Graph → Subobject → Part
part_of g p = (shape g.nodes p.ty.0, p.at)

abbrev pub parts : Graph → Option Subobject → Option Part
parts g o = option_map (part_of g) o

-- the part that one step leads to
abbrev pub step_part : Graph → Step → Part → Option Part
step_part g (ToField number) part = member_part g number part
step_part g (ToIndex index) part = element_part g index part

-- a type that may be missing; void where it is
abbrev pub or_void : Graph → Option TypeId → Shape
or_void g o = unwrap_or (at g o) VoidType

-- two steps are one
abbrev pub same_step : Step → Step → Bool
same_step (ToField m) (ToField n) = nat_eq m n
same_step (ToIndex m) (ToIndex n) = nat_eq m n
same_step (ToField m) (ToIndex n) = false
same_step (ToIndex m) (ToField n) = false

-- both lead to members
abbrev pub both_fields : Step → Step → Bool
both_fields (ToField m) (ToField n) = true
both_fields (ToField m) (ToIndex n) = false
both_fields (ToIndex m) (ToField n) = false
both_fields (ToIndex m) (ToIndex n) = false

-- the type that a step leads to
abbrev pub after_step : Graph → Shape → Step → Shape
after_step g s (ToField number) = next_type g s number
after_step g s (ToIndex index) = next_element s

-- the paths of an item and of each of others do not part at a union
abbrev pub agrees_with : Graph → Shape → Item → List Item → Bool
agrees_with g s x ys = list_all (λ (y : Item). agree g s x.path y.path) ys

abbrev pub is_pointer : Shape → Bool
is_pointer VoidType = false
is_pointer (IntType kind) = false
is_pointer (PtrType q s) = true
is_pointer (ArrayType q s bound) = false
is_pointer (FuncType ret params proto variadic) = false
is_pointer (AggType a) = false

-- the type is scalar, and the constant is one of it
abbrev pub scalar_has : Program → Shape → Constant → Bool
scalar_has p s v = is_scalar p.graph s && constant_fits p s v

-- the step stands before the other: to members before to elements, and each by its number
abbrev pub step_below : Step → Step → Bool
step_below (ToField m) (ToField n) = nat_lt m n
step_below (ToIndex m) (ToIndex n) = nat_lt m n
step_below (ToField m) (ToIndex n) = true
step_below (ToIndex m) (ToField n) = false

-- the path is the other, a beginning of it, or before it where they part
abbrev pub before : List Step → List Step → Bool
before [] ys = true
before (x ∷ xs) [] = false
before (x ∷ xs) (y ∷ ys) = if same_step x y then before xs ys else step_below x y

-- each path agrees with the next at unions
abbrev pub adjacent_agree : Graph → Shape → List Item → Bool
adjacent_agree g s [] = true
adjacent_agree g s (x ∷ []) = true
adjacent_agree g s (x ∷ y ∷ items) = agree g s x.path y.path && adjacent_agree g s (y ∷ items)

-- each path stands before the next
abbrev pub in_order : List Item → Bool
in_order [] = true
in_order (x ∷ []) = true
in_order (x ∷ y ∷ items) = before x.path y.path && in_order (y ∷ items)

-- the item's path leads to a scalar
abbrev pub leads_to_scalar : Graph → Shape → Item → Bool
leads_to_scalar g s x = elim (path_part g x.path (s, 0)) [ None ↦ false | Some part ↦ is_scalar g part.0 ]

-- the paths of items lead to scalars, whose offsets rise
pub record ScalarsRise (g : Graph) (s : Shape) (items : List Item) : Type 0 where
  pub scalars : list_all (leads_to_scalar g s) items ≡ true
  pub rising : are_rising (map (item_offset g s) items) ≡ true
