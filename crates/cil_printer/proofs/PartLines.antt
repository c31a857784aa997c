-- Device: what is printed of the parts of a text, which leave no brace open.
use Rattle.std.proofs.Common.{◌≡◌, ℕ, zero, suc, ◌<◌, ◌≤◌, Bool, true, false, cond, List, [], ◌∷◌, ◌++◌, Option, Some, None, length, get_or, drop, map, slice_get, codes, decimal, refl, sym, ap, ◌∙◌, append_assoc, arith}
use Rattle.std.specs.Option.{option_and_then}
use Rattle.cil_base.specs.declared.constants.Constant.{Constant}
use Rattle.cil_base.specs.declared.constants.Constant.TheVariants.{Int as Number, Address, Function as Code}
use Rattle.cil_base.specs.Integer.{long_of}
use Rattle.type_graph.specs.declared.aggregates.Aggregate.{Aggregate}
use Rattle.type_graph.specs.declared.nodes.Node.{Node}
use Rattle.cil_tree.specs.declared.globals.GlobalDecl.{GlobalDecl as Declaration}
use Rattle.cil_tree.specs.View.{global_of}
use Rattle.type_graph.specs.Shapes.{Shape, VoidType, IntType, PtrType, ArrayType, FuncType, AggType}
use Rattle.cil_tree.specs.Tree.{Step, ToField, ToIndex, Item, Definition, Declared, Zeros, Image, Function, GlobalDecl, Program}
use Rattle.cil_tree.specs.Typing.{element_of, member_type}
use Rattle.cil_tree.specs.Lines.{Token, Line, open_behind}
use Rattle.cil_tree.specs.Declarators.{number, declared, in_parentheses}
use Rattle.cil_tree.specs.Text.{closed, name_in, global_name, in_brackets, path_tokens, path_type, cast_tokens, value_tokens, constant_tokens, item_tokens, items_tokens, is_scalar_type, scalar_tokens, in_braces, image_tokens, declarator, storage, linkage, declaration_line, object_lines, function_lines, concat_each, program_lines}
use Rattle.cil_tree.specs.Programs.{IsProgram}
use Rattle.cil_printer.specs.declared.aggregates.AggregatePart.{AggregatePart}
use Rattle.cil_printer.specs.declared.aggregates.AggregatePart.TheVariants.{Enums, Tags, Structs}
use Rattle.cil_printer.specs.declared.parts.GlobalPart.{GlobalPart}
use Rattle.cil_printer.specs.declared.parts.GlobalPart.TheVariants.{Declarations, Objects, Functions}
use Rattle.cil_printer.specs.Output.{Output}
use Rattle.cil_printer.specs.Plain.{is_plain, are_plain, IsPlainProgram, IsPlainAggregate, IsPlainGlobal, prints, open_past}
use Rattle.cil_printer.specs.Parts.{aggregate_lines, global_lines}
use Rattle.cil_printer.proofs.PlainTokens.{plain_append, plain_cons, plain_one, plain_in_parentheses, plain_in_brackets, plain_separated, decimal_plain, number_plain, declared_plain, type_plain}
use Rattle.cil_printer.proofs.Printed.{nothing_printed, prints-prints, past_append, open_plain, open_closed}
use Rattle.cil_printer.proofs.GlobalTokens.{storage_plain, linkage_plain}
use Rattle.cil_printer.proofs.DefinitionLines.{definition_past}
use Rattle.cil_printer.proofs.AggregateLines.{enum_past, tag_past, struct_past}
use Rattle.cil_printer.proofs.WellFormed.{plain_program, plain_aggregate, plain_global}

-- images

address_plain : (p : Program) → IsPlainProgram p → (n : ℕ) → are_plain (codes "&" ∷ global_name p n ∷ []) ≡ true
address_plain p is n = plain_cons (codes "&") (global_name p n ∷ []) refl (plain_one (global_name p n) (is.globals n))

value_plain : (p : Program) → IsPlainProgram p → (v : Constant) → are_plain (value_tokens p v) ≡ true
value_plain p is (Number kind v) = number_plain kind v
value_plain p is (Address object offset) =
    plain_in_parentheses (in_parentheses (codes "char" ∷ codes "*" ∷ []) ++ codes "&" ∷ global_name p object.0 ∷ codes "+" ∷ number (long_of p.graph.abi) offset)
    (plain_cons (codes "&") (global_name p object.0 ∷ codes "+" ∷ number (long_of p.graph.abi) offset) refl
    (plain_cons (global_name p object.0) (codes "+" ∷ number (long_of p.graph.abi) offset) (is.globals object.0) (plain_cons (codes "+") (number (long_of p.graph.abi) offset) refl (number_plain (long_of p.graph.abi) offset))))
value_plain p is (Code function) = address_plain p is function.0

cast_plain : (p : Program) → IsPlainProgram p → (s : Option Shape) → are_plain (cast_tokens p s) ≡ true
cast_plain p is None = refl
cast_plain p is (Some VoidType) = refl
cast_plain p is (Some (IntType kind)) = refl
cast_plain p is (Some (PtrType q s)) = plain_in_parentheses (declared p (PtrType q s) []) (declared_plain p is (PtrType q s) [] refl)
cast_plain p is (Some (ArrayType q s bound)) = refl
cast_plain p is (Some (FuncType ret params proto variadic)) = refl
cast_plain p is (Some (AggType a)) = refl

constant_plain : (p : Program) → IsPlainProgram p → (s : Option Shape) (v : Constant) → are_plain (constant_tokens p s v) ≡ true
constant_plain p is s v = plain_append (cast_tokens p s) (value_tokens p v) (cast_plain p is s) (value_plain p is v)

field_plain : (p : Program) → IsPlainProgram p → (s : Option Shape) (n : ℕ) → is_plain (elim s as (λ _. Token) [ None ↦ [] | Some t ↦ name_in p t n ]) ≡ true
field_plain p is None n = refl
field_plain p is (Some t) n = is.members t n

path_plain : (p : Program) → IsPlainProgram p → (steps : List Step) (s : Option Shape) → are_plain (path_tokens p steps s) ≡ true
path_plain p is [] s = refl
path_plain p is (ToField n ∷ steps) s =
    plain_cons (elim s as (λ _. Token) [ None ↦ [] | Some t ↦ name_in p t n ]) (path_tokens p steps (option_and_then (λ t. member_type p.graph t n) s)) (field_plain p is s n) (path_plain p is steps (option_and_then (λ t. member_type p.graph t n) s))
path_plain p is (ToIndex i ∷ steps) s = plain_append (in_brackets (decimal i ∷ [])) (path_tokens p steps (option_and_then element_of s)) (plain_in_brackets (decimal i ∷ []) (plain_one (decimal i) (decimal_plain i))) (path_plain p is steps (option_and_then element_of s))

item_plain : (p : Program) → IsPlainProgram p → (s : Option Shape) (x : Item) → are_plain (item_tokens p s x) ≡ true
item_plain p is s x =
    plain_append (path_tokens p x.path s) (codes "=" ∷ constant_tokens p (path_type p x.path s) x.value) (path_plain p is x.path s)
    (plain_cons (codes "=") (constant_tokens p (path_type p x.path s) x.value) refl (constant_plain p is (path_type p x.path s) x.value))

items_plain : (p : Program) → IsPlainProgram p → (s : Option Shape) (xs : List Item) → are_plain (items_tokens p s xs) ≡ true
items_plain p is s [] = refl
items_plain p is s (x ∷ xs) = plain_separated (item_tokens p s x) (items_tokens p s xs) (item_plain p is s x) (items_plain p is s xs)

scalar_image_plain : (p : Program) → IsPlainProgram p → (s : Option Shape) (xs : List Item) → are_plain (scalar_tokens p s xs) ≡ true
scalar_image_plain p is s [] = refl
scalar_image_plain p is s (x ∷ xs) = constant_plain p is s x.value

-- an image closes the brace that it opens
image_past : (p : Program) → IsPlainProgram p → (d : ℕ) (s : Option Shape) (xs : List Item) → open_behind d (image_tokens p s xs ++ codes ";" ∷ []) ≡ d
image_past p is d s xs = by (is_scalar_type p s)
  where
    braced : open_behind d (in_braces (items_tokens p s xs) ++ codes ";" ∷ []) ≡ d
    braced =
        ap (λ ts. open_behind (suc d) ts) (append_assoc (items_tokens p s xs) (codes "}" ∷ []) (codes ";" ∷ []))
        ∙ open_plain (suc d) (items_tokens p s xs) (codes "}" ∷ codes ";" ∷ []) (items_plain p is s xs) ∙ omega arith

    by : (b : Bool) → open_behind d (cond b (scalar_tokens p s xs) (in_braces (items_tokens p s xs)) ++ codes ";" ∷ []) ≡ d
    by true = open_closed d (scalar_tokens p s xs) (scalar_image_plain p is s xs)
    by false = braced

declarator_plain : (p : Program) → IsPlainProgram p → (x : GlobalDecl) → is_plain x.name ≡ true → are_plain (declarator p x) ≡ true
declarator_plain p is x named = type_plain p is x.type (x.name ∷ []) (plain_one x.name named)

object_past : (p : Program) → IsPlainProgram p → (x : GlobalDecl) → is_plain x.name ≡ true → (d : Definition) → open_past 0 (object_lines p x d) ≡ 0
object_past p is x named Declared = refl
object_past p is x named (Function body) = refl
object_past p is x named Zeros = by x.internal
  where
    by : (b : Bool) → open_past 0 (cond b [] (closed (declarator p x) ∷ [])) ≡ 0
    by true = refl
    by false = open_closed 0 (declarator p x) (declarator_plain p is x named)
object_past p is x named (Image items) = ap (open_behind 0) around ∙ open_plain 0 front (image_tokens p x.type items ++ codes ";" ∷ []) plain ∙ image_past p is 0 x.type items
  where
    front : List Token
    front = linkage x ++ (declarator p x ++ codes "=" ∷ [])

    plain : are_plain front ≡ true
    plain = plain_append (linkage x) (declarator p x ++ codes "=" ∷ []) (linkage_plain x) (plain_append (declarator p x) (codes "=" ∷ []) (declarator_plain p is x named) refl)

    around : closed (linkage x ++ (declarator p x ++ codes "=" ∷ image_tokens p x.type items)) ≡ front ++ (image_tokens p x.type items ++ codes ";" ∷ [])
    around = simp append_assoc

function_past : (p : Program) (x : GlobalDecl) → IsPlainGlobal p x → (d : Definition) → x.definition ≡ d → open_past 0 (function_lines p x d) ≡ 0
function_past p x is Declared e = refl
function_past p x is Zeros e = refl
function_past p x is (Image items) e = refl
function_past p x is (Function body) e = let b = is.body body e in definition_past p x body b.names is.named b.params

-- parts

aggregate_past : (part : AggregatePart) (p : Program) (x : Aggregate) → IsPlainProgram p → IsPlainAggregate p x → open_past 0 (aggregate_lines part p x) ≡ 0
aggregate_past part p x plain is = elim part as (λ k. open_past 0 (aggregate_lines k p x) ≡ 0) [ Enums ↦ enum_past p x is | Tags ↦ tag_past p x is | Structs ↦ struct_past p x plain is ]

global_past : (part : GlobalPart) (p : Program) (x : GlobalDecl) → IsPlainProgram p → IsPlainGlobal p x → open_past 0 (global_lines part p x) ≡ 0
global_past part p x plain is = elim part as (λ k. open_past 0 (global_lines k p x) ≡ 0) [
  | Declarations ↦ open_closed 0 (storage x ++ declarator p x) (plain_append (storage x) (declarator p x) (storage_plain x) (declarator_plain p plain x is.named))
  | Objects ↦ object_past p plain x is.named x.definition
  | Functions ↦ function_past p x is x.definition refl
]

each_past : {A : Type 0} (of : A → List Line) (xs : List A) → ((n : ℕ) (x : A) → slice_get xs n ≡ Some x → open_past 0 (of x) ≡ 0) → open_past 0 (concat_each of xs) ≡ 0
each_past of [] h = refl
each_past of (x ∷ xs) h = past_append 0 (of x) (concat_each of xs) ∙ ap (λ k. open_past k (concat_each of xs)) (h 0 x refl) ∙ each_past of xs (λ n y e. h (suc n) y e)

aggregates_past : (part : AggregatePart) (p : Program) → IsProgram p → open_past 0 (concat_each (aggregate_lines part p) p.graph.aggs) ≡ 0
aggregates_past part p is = each_past (aggregate_lines part p) p.graph.aggs (λ a x e. aggregate_past part p x (plain_program p is) (plain_aggregate p a x is e))

globals_past : (part : GlobalPart) (p : Program) → IsProgram p → open_past 0 (concat_each (global_lines part p) p.globals) ≡ 0
globals_past part p is = each_past (global_lines part p) p.globals (λ n x e. global_past part p x (plain_program p is) (plain_global p n x is e))

-- one thing after the other
drop_next : {A : Type 0} (xs : List A) (i : ℕ) (x : A) → slice_get xs i ≡ Some x → drop i xs ≡ x ∷ drop (suc i) xs
drop_next [] i x e = absurd (cc e)
drop_next (y ∷ xs) zero x e = let same : y ≡ x = cc in ap (λ z. z ∷ xs) same
drop_next (y ∷ xs) (suc i) x e = drop_next xs i x e

drop_past : {A : Type 0} (xs : List A) (i : ℕ) → length xs ≤ i → drop i xs ≡ []
drop_past [] zero h = refl
drop_past [] (suc i) h = refl
drop_past (x ∷ xs) zero h = absurd (omega arith)
drop_past (x ∷ xs) (suc i) h = drop_past xs i (omega arith)

part_from : {A : Type 0} (o a : Output) (of : A → List Line) (xs : List A) (i j : ℕ) (x : A) → j ≡ suc i → slice_get xs i ≡ Some x → open_past 0 (of x) ≡ 0 → a ≡ prints o 0 (of x) → prints a 0 (concat_each of (drop j xs)) ≡ prints o 0 (concat_each of (drop i xs))
part_from o a of xs i j x k e past ea =
    ap (λ l. prints a 0 (concat_each of (drop l xs))) k ∙ ap (λ y. prints y 0 (concat_each of (drop (suc i) xs))) ea ∙ prints-prints o 0 0 (of x) (concat_each of (drop (suc i) xs)) past
    ∙ ap (λ ys. prints o 0 (concat_each of ys)) (sym (drop_next xs i x e))

pub part_end : {A : Type 0} (o x : Output) (of : A → List Line) (xs : List A) (i : ℕ) → length xs ≤ i → prints o 0 (concat_each of (drop i xs)) ≡ x → o ≡ x
part_end o x of xs i h e = nothing_printed o 0 ∙ ap (λ ys. prints o 0 (concat_each of ys)) (sym (drop_past xs i h)) ∙ e

pub aggregates_from : (o a : Output) (part : AggregatePart) (p : Program) (i j : ℕ) (x : Aggregate) → IsProgram p → j ≡ suc i → slice_get p.graph.aggs i ≡ Some x → a ≡ prints o 0 (aggregate_lines part p x) →
    prints a 0 (concat_each (aggregate_lines part p) (drop j p.graph.aggs)) ≡ prints o 0 (concat_each (aggregate_lines part p) (drop i p.graph.aggs))
aggregates_from o a part p i j x is k e ea = part_from o a (aggregate_lines part p) p.graph.aggs i j x k e (aggregate_past part p x (plain_program p is) (plain_aggregate p i x is e)) ea

pub globals_from : (o a : Output) (part : GlobalPart) (p : Program) (i j : ℕ) (x : GlobalDecl) → IsProgram p → j ≡ suc i → slice_get p.globals i ≡ Some x → a ≡ prints o 0 (global_lines part p x) →
    prints a 0 (concat_each (global_lines part p) (drop j p.globals)) ≡ prints o 0 (concat_each (global_lines part p) (drop i p.globals))
globals_from o a part p i j x is k e ea = part_from o a (global_lines part p) p.globals i j x k e (global_past part p x (plain_program p is) (plain_global p i x is e)) ea

at_item : {A B : Type 0} (f : A → B) (xs : List A) (i : ℕ) (x : A) → i < length xs → x ≡ get_or xs i x → slice_get (map f xs) i ≡ Some (f x)
at_item f [] i x h e = absurd (omega arith)
at_item f (y ∷ xs) zero x h e = ap (λ z. Some (f z)) (sym e)
at_item f (y ∷ xs) (suc i) x h e = at_item f xs i x (omega arith) e

pub global_here : (nodes : List Node) (names : List (List ℕ)) (xs ys : List Declaration) (i : ℕ) (x : Declaration) → ys ≡ xs → i < length ys → x ≡ get_or ys i x → slice_get (map (global_of nodes names) xs) i ≡ Some (global_of nodes names x)
global_here nodes names xs ys i x same h e = ap (λ zs. slice_get (map (global_of nodes names) zs) i) (sym same) ∙ at_item (global_of nodes names) ys i x h e

pub globals_length : (nodes : List Node) (names : List (List ℕ)) (xs ys : List Declaration) (i : ℕ) → ys ≡ xs → length ys ≤ i → length (map (global_of nodes names) xs) ≤ i
globals_length nodes names xs ys i same h = omega (arith, h, mapped xs, ap length same)
  where
    mapped : (zs : List Declaration) → length (map (global_of nodes names) zs) ≡ length zs
    mapped [] = refl
    mapped (z ∷ zs) = ap suc (mapped zs)

-- the whole
declarations_are : (p : Program) (xs : List GlobalDecl) → concat_each (global_lines Declarations p) xs ≡ map (declaration_line p) xs
declarations_are p [] = refl
declarations_are p (x ∷ xs) = ap (λ ls. declaration_line p x ∷ ls) (declarations_are p xs)

pub program_printed : (o a b c d e f : Output) (p : Program) → IsProgram p →
    a ≡ prints o 0 (concat_each (aggregate_lines Enums p) p.graph.aggs) → b ≡ prints a 0 (concat_each (aggregate_lines Tags p) p.graph.aggs) → c ≡ prints b 0 (concat_each (aggregate_lines Structs p) p.graph.aggs) →
    d ≡ prints c 0 (concat_each (global_lines Declarations p) p.globals) → e ≡ prints d 0 (concat_each (global_lines Objects p) p.globals) → f ≡ prints e 0 (concat_each (global_lines Functions p) p.globals) →
    f ≡ prints o 0 (program_lines p)
program_printed o a b c d e f p is ea eb ec ed ee ef =
    ef ∙ ap (λ y. prints y 0 functions) ee ∙ prints-prints d 0 0 objects functions (globals_past Objects p is)
    ∙ ap (λ y. prints y 0 (objects ++ functions)) (ed ∙ ap (prints c 0) (declarations_are p p.globals)) ∙ prints-prints c 0 0 declarations (objects ++ functions) (ap (open_past 0) (sym (declarations_are p p.globals)) ∙ globals_past Declarations p is)
    ∙ ap (λ y. prints y 0 (declarations ++ (objects ++ functions))) ec ∙ prints-prints b 0 0 structs (declarations ++ (objects ++ functions)) (aggregates_past Structs p is)
    ∙ ap (λ y. prints y 0 (structs ++ (declarations ++ (objects ++ functions)))) eb ∙ prints-prints a 0 0 tags (structs ++ (declarations ++ (objects ++ functions))) (aggregates_past Tags p is)
    ∙ ap (λ y. prints y 0 (tags ++ (structs ++ (declarations ++ (objects ++ functions))))) ea ∙ prints-prints o 0 0 enums (tags ++ (structs ++ (declarations ++ (objects ++ functions)))) (aggregates_past Enums p is)
  where
    enums : List Line
    enums = concat_each (aggregate_lines Enums p) p.graph.aggs

    tags : List Line
    tags = concat_each (aggregate_lines Tags p) p.graph.aggs

    structs : List Line
    structs = concat_each (aggregate_lines Structs p) p.graph.aggs

    declarations : List Line
    declarations = map (declaration_line p) p.globals

    objects : List Line
    objects = concat_each (global_lines Objects p) p.globals

    functions : List Line
    functions = concat_each (global_lines Functions p) p.globals
