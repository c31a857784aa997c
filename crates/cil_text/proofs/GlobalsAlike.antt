-- Device: whether globals fit depends on nothing but what the equality of programs speaks of.
use Rattle.std.proofs.Common.{◌≡◌, ℕ, ◌+◌, ◌*◌, ◌^◌, ◌&&◌, not, nat_eq, nat_lt, Bool, true, false, cond, List, [], ◌∷◌, map, Option, Some, None, slice_get, refl, ap, ◌∙◌}
use Rattle.std.specs.Prelude.{unwrap_or, pos, int_le, int_lt}
use Rattle.std.specs.List.{list_all}
use Rattle.std.specs.Option.{option_map, option_and_then}
use Rattle.cil_base.specs.declared.constants.Constant.{Constant}
use Rattle.cil_base.specs.declared.constants.Constant.TheVariants.{Int as Number, Address, Function as Code}
use Rattle.cil_base.specs.declared.kinds.Abi.{Abi}
use Rattle.cil_base.specs.declared.kinds.IntKind.TheVariants.{Int as int}
use Rattle.cil_base.specs.Integer.{ulong_of}
use Rattle.type_graph.specs.declared.layout.Layout.{Layout}
use Rattle.type_graph.specs.Shapes.{Shape, VoidType, IntType, PtrType, ArrayType, FuncType, AggType}
use Rattle.type_graph.specs.Layouts.{AggLayout, offset}
use Rattle.cil_tree.specs.Tree.{Step, ToField, ToIndex, Item, Definition, Declared, Zeros, Image, Function, GlobalDecl, Program}
use Rattle.cil_tree.specs.Typing.{is_function, is_scalar, global_type, member_type}
use Rattle.cil_tree.specs.Text.{is_function_type}
use Rattle.cil_tree.specs.Programs.{SeenAggregate, seen_aggregate}
use Rattle.cil_tree.specs.Globals.{Part, aggregate_of, member_part, element_part, path_part, number_fits, is_object, constant_fits, item_fits, item_offset, are_rising, is_union_kind, is_union, next_type, next_element, agree, unions_agree, is_nonempty, image_fits, has_definition, internal_is_defined, object_is_complete, definition_fits, typed_fits, global_fits}
use Rattle.cil_text.proofs.Alike.{through, enum_alike, scalar_alike, complete_alike, type_alike, global_type_alike}
use Rattle.cil_text.proofs.TypedAlike.{Equal, agg_alike, layout_alike}
use Rattle.cil_text.proofs.BodiesAlike.{elim_alike, and_alike, body_alike}

-- parts of objects

offset_alike : (p q : Program) → Equal p q → (a n : ℕ) → offset p.graph a n ≡ offset q.graph a n
offset_alike p q same a n = ap (option_and_then (λ (l : AggLayout). slice_get l.offsets n)) (agg_alike p q same a)

abbrev placed : Part → Shape → ℕ → Part
placed part s at = (s, part.1 + at)

abbrev placed_in : Part → Option ℕ → Shape → Option Part
placed_in part o s = option_map (placed part s) o

within_alike : (p q : Program) → Equal p q → (n : ℕ) (part : Part) (a : ℕ) → option_and_then (placed_in part (offset p.graph a n)) (member_type p.graph part.0 n) ≡ option_and_then (placed_in part (offset q.graph a n)) (member_type q.graph part.0 n)
within_alike p q same n part a =
    ap (λ (o : Option ℕ). option_and_then (placed_in part o) (member_type p.graph part.0 n)) (offset_alike p q same a n)
    ∙ ap (option_and_then (placed_in part (offset q.graph a n))) (type_alike p q same.aggregates part.0 n)

member_part_alike : (p q : Program) → Equal p q → (n : ℕ) (part : Part) → member_part p.graph n part ≡ member_part q.graph n part
member_part_alike p q same n part = ap (λ (f : ℕ → Option Part). option_and_then f (aggregate_of part.0)) (λ i a. within_alike p q same n part a i)

element_part_alike : (p q : Program) → Equal p q → (i : ℕ) (part : Part) → element_part p.graph i part ≡ element_part q.graph i part
element_part_alike p q same i (ArrayType r s (Some n), at) = ap (λ (o : Option Layout). cond (nat_lt i n) (option_map (λ (l : Layout). (s, at + i * l.size)) o) None) (layout_alike p q same s)
element_part_alike p q same i (ArrayType r s None, at) = refl
element_part_alike p q same i (VoidType, at) = refl
element_part_alike p q same i (IntType k, at) = refl
element_part_alike p q same i (PtrType r s, at) = refl
element_part_alike p q same i (FuncType ret params proto variadic, at) = refl
element_part_alike p q same i (AggType a, at) = refl

path_alike : (p q : Program) → Equal p q → (path : List Step) (part : Part) → path_part p.graph path part ≡ path_part q.graph path part
path_alike p q same [] part = refl
path_alike p q same (ToField n ∷ path) part =
    ap (option_and_then (path_part p.graph path)) (member_part_alike p q same n part) ∙ ap (λ (f : Part → Option Part). option_and_then f (member_part q.graph n part)) (λ i r. path_alike p q same path r i)
path_alike p q same (ToIndex n ∷ path) part =
    ap (option_and_then (path_part p.graph path)) (element_part_alike p q same n part) ∙ ap (λ (f : Part → Option Part). option_and_then f (element_part q.graph n part)) (λ i r. path_alike p q same path r i)

-- constants

object_alike : (p q : Program) → Equal p q → (n : ℕ) → is_object p n ≡ is_object q n
object_alike p q same n = elim_alike false (λ (s : Shape). not (is_function s)) (λ (s : Shape). not (is_function s)) (global_type p n) (global_type q n) (global_type_alike p q same.globals n) (λ s. refl)

value_alike : (p q : Program) → Equal p q → (s : Shape) (x : Constant) → constant_fits p s x ≡ constant_fits q s x
value_alike p q same (IntType k) (Number j v) = refl
value_alike p q same (IntType k) (Address o at) = refl
value_alike p q same (IntType k) (Code f) = refl
value_alike p q same (PtrType r s) (Number j v) = ap (λ (a : Abi). number_fits (ulong_of a) j v) same.abi
value_alike p q same (PtrType r s) (Address o at) = ap (λ b. b && (int_le (pos 0) at && int_lt at (pos (2 ^ 31)))) (object_alike p q same o.0)
value_alike p q same (PtrType r s) (Code f) = ap is_function_type (global_type_alike p q same.globals f.0)
value_alike p q same (AggType a) (Number j v) = ap (λ b. b && number_fits int j v) (enum_alike p q same.aggregates a)
value_alike p q same (AggType a) (Address o at) = refl
value_alike p q same (AggType a) (Code f) = refl
value_alike p q same VoidType x = refl
value_alike p q same (ArrayType r s bound) x = refl
value_alike p q same (FuncType ret params proto variadic) x = refl

-- images

item_alike : (p q : Program) → Equal p q → (s : Shape) (x : Item) → item_fits p s x ≡ item_fits q s x
item_alike p q same s x =
    elim_alike false (λ (part : Part). is_scalar p.graph part.0 && constant_fits p part.0 x.value) (λ (part : Part). is_scalar q.graph part.0 && constant_fits q part.0 x.value) (path_part p.graph x.path (s, 0)) (path_part q.graph x.path (s, 0)) (path_alike p q same x.path (s, 0))
    (λ part. and_alike (is_scalar p.graph part.0) (is_scalar q.graph part.0) (constant_fits p part.0 x.value) (constant_fits q part.0 x.value) (scalar_alike p q same.aggregates part.0) (value_alike p q same part.0 x.value))

item_offset_alike : (p q : Program) → Equal p q → (s : Shape) (x : Item) → item_offset p.graph s x ≡ item_offset q.graph s x
item_offset_alike p q same s x = ap (option_map (λ (part : Part). part.1)) (path_alike p q same x.path (s, 0))

union_alike : (p q : Program) → Equal p q → (s : Shape) → is_union p.graph s ≡ is_union q.graph s
union_alike p q same (AggType a) = through (seen_aggregate p) (seen_aggregate q) (λ (x : SeenAggregate). is_union_kind x.kind) false (slice_get p.graph.aggs a) (slice_get q.graph.aggs a) (same.aggregates a)
union_alike p q same VoidType = refl
union_alike p q same (IntType k) = refl
union_alike p q same (PtrType r s) = refl
union_alike p q same (ArrayType r s bound) = refl
union_alike p q same (FuncType ret params proto variadic) = refl

agree_alike : (p q : Program) → Equal p q → (s : Shape) (xs ys : List Step) → agree p.graph s xs ys ≡ agree q.graph s xs ys
agree_alike p q same s [] ys = refl
agree_alike p q same s (ToField m ∷ xs) [] = refl
agree_alike p q same s (ToField m ∷ xs) (ToIndex n ∷ ys) = refl
agree_alike p q same s (ToIndex m ∷ xs) [] = refl
agree_alike p q same s (ToIndex m ∷ xs) (ToField n ∷ ys) = refl
agree_alike p q same s (ToIndex m ∷ xs) (ToIndex n ∷ ys) = ap (λ b. cond (nat_eq m n) b true) (agree_alike p q same (next_element s) xs ys)
agree_alike p q same s (ToField m ∷ xs) (ToField n ∷ ys) =
    ap (λ (o : Option Shape). cond (nat_eq m n) (agree p.graph (unwrap_or o VoidType) xs ys) (not (is_union p.graph s))) (type_alike p q same.aggregates s m)
    ∙ ap (λ b. cond (nat_eq m n) b (not (is_union p.graph s))) (agree_alike p q same (next_type q.graph s m) xs ys)
    ∙ ap (λ b. cond (nat_eq m n) (agree q.graph (next_type q.graph s m) xs ys) (not b)) (union_alike p q same s)

unions_alike : (p q : Program) → Equal p q → (s : Shape) (xs : List Item) → unions_agree p.graph s xs ≡ unions_agree q.graph s xs
unions_alike p q same s [] = refl
unions_alike p q same s (x ∷ xs) =
    ap (λ (f : Item → Bool). list_all f xs && unions_agree p.graph s xs) (λ i y. agree_alike p q same s x.path y.path i)
    ∙ ap (λ b. list_all (λ (y : Item). agree q.graph s x.path y.path) xs && b) (unions_alike p q same s xs)

image_alike : (p q : Program) → Equal p q → (s : Shape) (items : List Item) → image_fits p s items ≡ image_fits q s items
image_alike p q same s items =
    ap (λ (f : Item → Bool). is_nonempty items && (list_all f items && (are_rising (map (item_offset p.graph s) items) && unions_agree p.graph s items))) (λ i x. item_alike p q same s x i)
    ∙ ap (λ (f : Item → Option ℕ). is_nonempty items && (list_all (item_fits q s) items && (are_rising (map f items) && unions_agree p.graph s items))) (λ i x. item_offset_alike p q same s x i)
    ∙ ap (λ b. is_nonempty items && (list_all (item_fits q s) items && (are_rising (map (item_offset q.graph s) items) && b))) (unions_alike p q same s items)

-- globals

object_complete_alike : (p q : Program) → Equal p q → (s : Shape) (d : Definition) → object_is_complete p.graph s d ≡ object_is_complete q.graph s d
object_complete_alike p q same s Declared = refl
object_complete_alike p q same s Zeros = complete_alike p q same.aggregates s
object_complete_alike p q same s (Image items) = complete_alike p q same.aggregates s
object_complete_alike p q same s (Function b) = refl

definition_alike : (p q : Program) → Equal p q → (s : Shape) (d : Definition) → definition_fits p s d ≡ definition_fits q s d
definition_alike p q same s Declared = refl
definition_alike p q same s Zeros = refl
definition_alike p q same s (Image items) = image_alike p q same s items
definition_alike p q same s (Function b) = body_alike p q same b s

typed_alike : (p q : Program) → Equal p q → (x : GlobalDecl) (s : Shape) → typed_fits p s x ≡ typed_fits q s x
typed_alike p q same x s =
    ap (λ b. has_definition s x.definition && (internal_is_defined x && b))
    (and_alike (object_is_complete p.graph s x.definition) (object_is_complete q.graph s x.definition) (definition_fits p s x.definition) (definition_fits q s x.definition) (object_complete_alike p q same s x.definition) (definition_alike p q same s x.definition))

pub global_alike : (p q : Program) → Equal p q → (x : GlobalDecl) → global_fits p x ≡ global_fits q x
global_alike p q same x = elim_alike false (λ (s : Shape). typed_fits p s x) (λ (s : Shape). typed_fits q s x) x.type x.type refl (typed_alike p q same x)
