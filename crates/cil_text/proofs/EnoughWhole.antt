-- Device: the fuel that the reading of a program's text takes is at most twice the bytes of the text.
use Rattle.std.proofs.Common.{◌≡◌, ℕ, suc, ◌+◌, ◌*◌, ◌≤◌, ◌&&◌, ◌||◌, not, Bool, true, false, cond, List, [], ◌∷◌, ◌++◌, length, map, codes, Option, Some, None, replicate, refl, sym, ap, ◌∙◌, subst, arith, length-append}
use Rattle.std.specs.List.{list_all, join_with_byte}
use Rattle.std.specs.Option.{option_and_then}
use Rattle.cil_base.specs.declared.constants.Constant.{Constant}
use Rattle.cil_base.specs.declared.constants.Constant.TheVariants.{Int as Integer, Address, Function as Code}
use Rattle.type_graph.specs.declared.aggregates.Aggregate.{Aggregate}
use Rattle.type_graph.specs.declared.aggregates.Member.{Member}
use Rattle.type_graph.specs.Shapes.{Shape, Shapes, IntType, PtrType, AggType, NoTypes, MoreTypes, shape}
use Rattle.cil_tree.specs.Tree.{Step, ToField, ToIndex, Item, Local, Body, Definition, Declared, Zeros, Image, Function, GlobalDecl, Program}
use Rattle.cil_tree.specs.Typing.{scope_of, is_enum, is_scalar, member_type, element_of}
use Rattle.cil_tree.specs.Lines.{Token, Line, depth_of, open_behind, line_bytes, lines_bytes}
use Rattle.cil_tree.specs.Declarators.{tagged, in_parentheses, declared, type_tokens, listed}
use Rattle.cil_tree.specs.WellFormedTypes.{has_parameter}
use Rattle.cil_tree.specs.Text.{in_brackets, member_name, path_tokens, path_type, value_tokens, constant_tokens, item_tokens, items_tokens, in_braces, image_tokens, declarator, linkage, storage, closed, closing, declaration_line, object_lines, parameter_tokens, function_tokens, local_line, body_lines, function_lines, enumerator_line, member_line, complete_lines, enum_lines, tag_lines, struct_lines, concat_each, program_lines, lines_of, Text}
use Rattle.cil_tree.specs.Text as text
use Rattle.cil_tree.specs.Globals.{constant_fits, item_offset, are_rising, item_fits, unions_agree, image_fits, path_part, has_definition, internal_is_defined, object_is_complete, definition_fits}
use Rattle.cil_tree.specs.Programs.{IsProgram}
use Rattle.cil_text.specs.ReadGlobals.{param_locals}
use Rattle.cil_text.proofs.WordsBack.{both}
use Rattle.cil_text.proofs.TypesBack.{IsShape}
use Rattle.cil_text.proofs.DeclsBack.{size}
use Rattle.cil_text.proofs.StmtsBack.{stmts_weight}
use Rattle.cil_text.proofs.StmtsThere.{StmtsCast}
use Rattle.cil_text.proofs.CastsThere.{DefinitionCast}
use Rattle.cil_text.proofs.ImagesBack.{IsFile, path_weight, part_size, item_weight, items_weight, item_part, path_back, scalar_item, one_scalar}
use Rattle.cil_text.proofs.AggregatesBack.{EachMember, IsEnumerator, IsField, EachAggregate, IsEnum, IsStruct, fields_told, members_size, some_size, aggregates_size}
use Rattle.cil_text.proofs.ObjectsBack.{shape_of, EachGlobal, IsDeclared}
use Rattle.cil_text.proofs.BodiesBack.{AreParams, IsLocal, EachLocal, locals_size, BodyTold, FunctionTold, NoBody, OneBody}
use Rattle.cil_text.proofs.ProgramThere.{definition_weight, globals_weight, GlobalRules, rules_there, typed_there, declared_there, file_there, program_weight, told_there}
use Rattle.cil_text.proofs.Enough.{separated_low, listed_low, parens_low, shape_low, words, words_append, closed_low, stmts_low, number_low}

-- images

value_low : (p : Program) (x : Constant) → 1 ≤ length (value_tokens p x)
value_low p (Integer kind v) = number_low kind v
value_low p (Address object offset) = omega arith
value_low p (Code function) = omega arith

constant_low : (p : Program) (s : Shape) (x : Constant) → IsShape p s → constant_fits p s x ≡ true → size s + 2 ≤ 2 * length (constant_tokens p (Some s) x)
constant_low p (IntType k) x shaped e = omega (arith, value_low p x)
constant_low p (AggType a) x shaped e = omega (arith, value_low p x)
constant_low p (PtrType q s) x shaped e =
    let type = declared p (PtrType q s) [] in
    omega (arith, shape_low p (PtrType q s) [] shaped, length-append (in_parentheses type) (value_tokens p x), parens_low type)
constant_low p s x shaped e = absurd (cc e)

path_low : (p : Program) (path : List Step) (s : Option Shape) → path_weight path ≤ length (path_tokens p path s)
path_low p [] s = omega arith
path_low p (ToField n ∷ path) s = omega (arith, path_low p path (option_and_then (λ (t : Shape). member_type p.graph t n) s))
path_low p (ToIndex i ∷ path) s = omega (arith, path_low p path (option_and_then element_of s))

item_low : (p : Program) → IsFile p → (s : Shape) (x : Item) → IsShape p s → item_fits p s x ≡ true → item_weight p s x ≤ 2 * length (item_tokens p (Some s) x)
item_low p is s x shaped e =
    let h = item_part p s x e in
    let back = path_back p is (suc (path_weight x.path)) x.path (s, 0) h.0 (omega arith) shaped h.1 in
    let part : part_size (path_part p.graph x.path (s, 0)) ≡ size h.0.0 = ap part_size h.1 in
    let value : length (constant_tokens p (path_type p x.path (Some s)) x.value) ≡ length (constant_tokens p (Some h.0.0) x.value) = ap (λ (o : Option Shape). length (constant_tokens p o x.value)) back.1 in
    omega (arith, part, value, constant_low p h.0.0 x.value back.2 h.2, path_low p x.path (Some s), length-append (path_tokens p x.path (Some s)) (codes "=" ∷ constant_tokens p (path_type p x.path (Some s)) x.value))

items_low : (p : Program) → IsFile p → (s : Shape) (xs : List Item) → IsShape p s → list_all (item_fits p s) xs ≡ true → items_weight p s xs ≤ 2 * length (items_tokens p (Some s) xs)
items_low p is s [] shaped e = omega arith
items_low p is s (x ∷ xs) shaped e =
    let h = both (item_fits p s x) (list_all (item_fits p s) xs) e in
    omega (arith, item_low p is s x shaped h.0, items_low p is s xs shaped h.1, separated_low (item_tokens p (Some s) x) (items_tokens p (Some s) xs))

scalar_low : (p : Program) (s : Shape) (x : Item) (xs : List Item) → IsShape p s → is_scalar p.graph s ≡ true → list_all (item_fits p s) (x ∷ xs) ≡ true → are_rising (map (item_offset p.graph s) (x ∷ xs)) ≡ true →
    items_weight p s (x ∷ xs) ≤ 2 * length (constant_tokens p (Some s) x.value) + 2
scalar_low p s x (y ∷ ys) shaped scalar fit rising =
    let h = both (item_fits p s x) (list_all (item_fits p s) (y ∷ ys)) fit in
    absurd (one_scalar p s x y ys scalar h.0 (both (item_fits p s y) (list_all (item_fits p s) ys) h.1).0 rising)
scalar_low p s x [] shaped scalar fit rising =
    let h = scalar_item p s x scalar (both (item_fits p s x) true fit).0 in
    let part : part_size (path_part p.graph x.path (s, 0)) ≡ size s = ap (λ path. part_size (path_part p.graph path (s, 0))) h.0 in
    let flat : path_weight x.path ≡ 0 = ap path_weight h.0 in
    omega (arith, part, flat, constant_low p s x.value shaped h.1)

image_low : (p : Program) → IsFile p → (s : Shape) (items : List Item) → IsShape p s → image_fits p s items ≡ true → items_weight p s items ≤ 2 * length (image_tokens p (Some s) items) + 2
image_low p is s [] shaped e = absurd (cc e)
image_low p is s (x ∷ xs) shaped e =
    let h = both (list_all (item_fits p s) (x ∷ xs)) (are_rising (map (item_offset p.graph s) (x ∷ xs)) && unions_agree p.graph s (x ∷ xs)) e in
    by (is_scalar p.graph s) refl h.0 (both (are_rising (map (item_offset p.graph s) (x ∷ xs))) (unions_agree p.graph s (x ∷ xs)) h.1).0
  where
    by : (b : Bool) → is_scalar p.graph s ≡ b → list_all (item_fits p s) (x ∷ xs) ≡ true → are_rising (map (item_offset p.graph s) (x ∷ xs)) ≡ true →
        items_weight p s (x ∷ xs) ≤ 2 * length (cond b (constant_tokens p (Some s) x.value) (in_braces (items_tokens p (Some s) (x ∷ xs)))) + 2
    by true scalar fit rising = scalar_low p s x xs shaped scalar fit rising
    by false other fit rising = omega (arith, items_low p is s (x ∷ xs) shaped fit, length-append (items_tokens p (Some s) (x ∷ xs)) (codes "}" ∷ []))

-- bodies

local_low : (p : Program) (x : Local) → IsLocal p x → 2 + size (shape_of x.type) ≤ 2 * length (local_line p x)
local_low p x is =
    let type : length (type_tokens p x.type (x.name ∷ [])) ≡ length (declared p (shape_of x.type) (x.name ∷ [])) = ap (λ (o : Option Shape). length (type_tokens p o (x.name ∷ []))) is.1 in
    omega (arith, type, shape_low p (shape_of x.type) (x.name ∷ []) is.2, closed_low (type_tokens p x.type (x.name ∷ [])))

locals_low : (p : Program) (xs : List Local) → EachLocal (IsLocal p) xs → locals_size xs ≤ 2 * words (map (local_line p) xs)
locals_low p [] each = omega arith
locals_low p (x ∷ xs) each = omega (arith, local_low p x each.0, locals_low p xs each.1)

locals_joined : (a b : List Local) → locals_size (a ++ b) ≡ locals_size a + locals_size b
locals_joined [] b = omega arith
locals_joined (x ∷ a) b = omega (arith, locals_joined a b)

named_low : (p : Program) (params : Shapes) (names : List (List ℕ)) → AreParams p params names → locals_size (param_locals params names) ≤ 2 * length (parameter_tokens p params names)
named_low p NoTypes [] are = omega arith
named_low p NoTypes (name ∷ names) are = absurd are
named_low p (MoreTypes s more) [] are = absurd are
named_low p (MoreTypes s more) (name ∷ names) are = omega (arith, shape_low p s (name ∷ []) are.0, named_low p more names are.2, separated_low (declared p s (name ∷ [])) (parameter_tokens p more names))

header_low : (p : Program) (params : Shapes) (names : List (List ℕ)) (proto : Bool) → AreParams p params names → proto || not (has_parameter params) ≡ true → locals_size (param_locals params names) ≤ 2 * length (listed proto false (parameter_tokens p params names))
header_low p params names true are prototype = omega (arith, named_low p params names are, listed_low false (parameter_tokens p params names))
header_low p NoTypes [] false are prototype = omega arith
header_low p NoTypes (name ∷ names) false are prototype = absurd are
header_low p (MoreTypes s more) names false are prototype = absurd (cc prototype)

body_low : (p : Program) (n : ℕ) (x : GlobalDecl) (b : Body) → BodyTold p n x b → StmtsCast p b.stmts → 1 + locals_size b.locals + stmts_weight b.stmts ≤ 2 * words (function_lines p x (Function b))
body_low p n x b told cast =
    let others = text.behind b.params b.locals in
    let list = listed told.proto false (parameter_tokens p told.params b.params) in
    let inner = x.name ∷ in_parentheses list in
    let header = function_tokens p x b x.type in
    let tokens : length header ≡ length (declared p told.ret inner) = ap (λ (o : Option Shape). length (function_tokens p x b o)) told.type in
    let sizes : locals_size (param_locals told.params b.params ++ others) ≡ locals_size b.locals = ap locals_size told.joined in
    let stmts = lines_of (scope_of p b) b.stmts in
    omega (
      arith,
      tokens,
      sizes,
      locals_joined (param_locals told.params b.params) others,
      header_low p told.params b.params told.proto told.names told.prototype,
      parens_low list,
      shape_low p told.ret inner told.result,
      locals_low p others told.locals,
      stmts_low (scope_of p b) b.stmts cast,
      words_append (map (local_line p) others) stmts,
      words_append (body_lines p b) (closing ∷ []),
      length-append (linkage x) (header ++ codes "{" ∷ []),
      length-append header (codes "{" ∷ []),
    )

-- globals

image_line_low : (p : Program) → IsFile p → (x : GlobalDecl) (items : List Item) → IsDeclared p x → image_fits p (shape_of x.type) items ≡ true → items_weight p (shape_of x.type) items ≤ 2 * words (object_lines p x (Image items))
image_line_low p is x items told fit =
    let image = image_tokens p x.type items in
    let tokens : length image ≡ length (image_tokens p (Some (shape_of x.type)) items) = ap (λ (o : Option Shape). length (image_tokens p o items)) told.1 in
    let behind = declarator p x ++ codes "=" ∷ image in
    omega (arith, tokens, image_low p is (shape_of x.type) items told.2 fit, closed_low (linkage x ++ behind), length-append (linkage x) behind, length-append (declarator p x) (codes "=" ∷ image))

definition_low : (p : Program) → IsFile p → (n : ℕ) (x : GlobalDecl) → GlobalRules p x → FunctionTold p n x → (d : Definition) → x.definition ≡ d →
    definition_weight p (shape_of x.type) d ≤ 2 * (words (object_lines p x d) + words (function_lines p x d))
definition_low p is n x rules told Declared e = omega arith
definition_low p is n x rules told Zeros e = omega arith
definition_low p is n x rules told (Image items) e =
    let s = shape_of x.type in
    let t = (typed_there p x rules).1 in
    let a = both (has_definition s x.definition) (internal_is_defined x && (object_is_complete p.graph s x.definition && definition_fits p s x.definition)) t in
    let b = both (internal_is_defined x) (object_is_complete p.graph s x.definition && definition_fits p s x.definition) a.1 in
    let fit = (both (object_is_complete p.graph s x.definition) (definition_fits p s x.definition) b.1).1 in
    omega (arith, image_line_low p is x items (declared_there p x rules) (sym (ap (definition_fits p s) e) ∙ fit))
definition_low p is n x rules (NoBody lines none) (Function b) e = absurd (none b e)
definition_low p is n x rules (OneBody body has named told) (Function b) e =
    let same : Function body ≡ Function b = sym has ∙ e in
    let one : body ≡ b = cc in
    let cast : StmtsCast p b.stmts = (subst (DefinitionCast p) e rules.cast.1).0 in
    omega (arith, body_low p n x b (subst (BodyTold p n x) one told) cast)

global_low : (p : Program) → IsFile p → (n : ℕ) (x : GlobalDecl) → GlobalRules p x → FunctionTold p n x →
    2 + size (shape_of x.type) + definition_weight p (shape_of x.type) x.definition ≤ 2 * (length (declaration_line p x) + words (object_lines p x x.definition) + words (function_lines p x x.definition))
global_low p is n x rules told =
    let h = declared_there p x rules in
    let tokens : length (declarator p x) ≡ length (declared p (shape_of x.type) (x.name ∷ [])) = ap (λ (o : Option Shape). length (type_tokens p o (x.name ∷ []))) h.1 in
    omega (arith, tokens, shape_low p (shape_of x.type) (x.name ∷ []) h.2, closed_low (storage x ++ declarator p x), length-append (storage x) (declarator p x), definition_low p is n x rules told x.definition refl)

abbrev objects : Program → GlobalDecl → List Line
objects p x = object_lines p x x.definition

abbrev functions : Program → GlobalDecl → List Line
functions p x = function_lines p x x.definition

globals_low : (p : Program) → IsFile p → (n : ℕ) (xs : List GlobalDecl) → EachGlobal (GlobalRules p) xs → EachGlobal (FunctionTold p n) xs →
    globals_weight p xs ≤ 2 * (words (map (declaration_line p) xs) + words (concat_each (objects p) xs) + words (concat_each (functions p) xs))
globals_low p is n [] rules told = omega arith
globals_low p is n (x ∷ xs) rules told =
    omega (arith, global_low p is n x rules.0 told.0, globals_low p is n xs rules.1 told.1, words_append (objects p x) (concat_each (objects p) xs), words_append (functions p x) (concat_each (functions p) xs))

-- aggregates

members_low : (p : Program) (ms : List Member) → EachMember (IsField p) ms → members_size p ms ≤ 2 * words (map (member_line p) ms)
members_low p [] is = omega arith
members_low p (m ∷ ms) is =
    let s = shape p.graph.nodes m.ty.of.0 in
    let inner = member_name p m ∷ [] in
    omega (arith, shape_low p s inner is.0.1, closed_low (declared p s inner), members_low p ms is.1)

enumerators_low : (p : Program) (ms : List Member) → EachMember (IsEnumerator p) ms → members_size p ms ≤ 2 * words (map (enumerator_line p) ms)
enumerators_low p [] is = omega arith
enumerators_low p (m ∷ ms) is =
    let flat : size (shape p.graph.nodes m.ty.of.0) ≡ 0 = ap size is.0.2 in
    omega (arith, flat, enumerators_low p ms is.1)

opened_low : (p : Program) (of : Member → Line) (x : Aggregate) (o : Option (List Member)) → ((ms : List Member) → o ≡ Some ms → members_size p ms ≤ 2 * words (map of ms)) →
    some_size p o ≤ 2 * words (elim o as (λ _. List Line) [ None ↦ [] | Some ms ↦ (tagged p x ++ codes "{" ∷ []) ∷ (map of ms ++ (codes "}" ∷ codes ";" ∷ []) ∷ []) ])
opened_low p of x None low = omega arith
opened_low p of x (Some ms) low = omega (arith, low ms refl, words_append (map of ms) ((codes "}" ∷ codes ";" ∷ []) ∷ []))

enum_low : (p : Program) (x : Aggregate) → IsEnum p x → 1 + some_size p x.members ≤ 2 * words (enum_lines p x)
enum_low p x is = by is.2.0 is.2.1 (enumerators_low p is.2.0 is.2.2)
  where
    lines : (ms : List Member) → x.members ≡ Some ms → words (enum_lines p x) ≡ words ((tagged p x ++ codes "{" ∷ []) ∷ (map (enumerator_line p) ms ++ (codes "}" ∷ codes ";" ∷ []) ∷ []))
    lines ms e =
        ap (λ k. words (cond (is_enum k) (complete_lines p (enumerator_line p) x) [])) is.1
        ∙ ap (λ (o : Option (List Member)). words (elim o as (λ _. List Line) [ None ↦ [] | Some ys ↦ (tagged p x ++ codes "{" ∷ []) ∷ (map (enumerator_line p) ys ++ (codes "}" ∷ codes ";" ∷ []) ∷ []) ])) e

    by : (ms : List Member) → x.members ≡ Some ms → members_size p ms ≤ 2 * words (map (enumerator_line p) ms) → 1 + some_size p x.members ≤ 2 * words (enum_lines p x)
    by ms e low =
        let size_is : some_size p x.members ≡ members_size p ms = ap (some_size p) e in
        omega (arith, size_is, lines ms e, low, words_append (map (enumerator_line p) ms) ((codes "}" ∷ codes ";" ∷ []) ∷ []))

struct_low : (p : Program) (x : Aggregate) → IsStruct p x → 1 + some_size p x.members ≤ 2 * (words (tag_lines p x) + words (struct_lines p x))
struct_low p x is =
    let tags : words (tag_lines p x) ≡ words (closed (tagged p x) ∷ []) = ap (λ b. words (cond b [] (closed (tagged p x) ∷ []))) is.1 in
    let lines : words (struct_lines p x) ≡ words (complete_lines p (member_line p) x) = ap (λ b. words (cond b [] (complete_lines p (member_line p) x))) is.1 in
    omega (arith, tags, lines, closed_low (tagged p x), opened_low p (member_line p) x x.members (λ ms e. members_low p ms (subst (fields_told p) e is.2)))

abbrev all_words : Program → List Aggregate → ℕ
all_words p xs = words (concat_each (enum_lines p) xs) + words (concat_each (tag_lines p) xs) + words (concat_each (struct_lines p) xs)

next_words : (p : Program) (x : Aggregate) (xs : List Aggregate) → all_words p (x ∷ xs) ≡ words (enum_lines p x) + words (tag_lines p x) + words (struct_lines p x) + all_words p xs
next_words p x xs =
    omega (arith, words_append (enum_lines p x) (concat_each (enum_lines p) xs), words_append (tag_lines p x) (concat_each (tag_lines p) xs), words_append (struct_lines p x) (concat_each (struct_lines p) xs))

structs_low : (p : Program) (xs : List Aggregate) → EachAggregate (IsStruct p) xs → aggregates_size p xs ≤ 2 * all_words p xs
structs_low p [] is = omega arith
structs_low p (x ∷ xs) is = omega (arith, struct_low p x is.0, structs_low p xs is.1, next_words p x xs)

aggregates_low : (p : Program) (es ss : List Aggregate) → EachAggregate (IsEnum p) es → EachAggregate (IsStruct p) ss → aggregates_size p (es ++ ss) ≤ 2 * all_words p (es ++ ss)
aggregates_low p [] ss enums structs = structs_low p ss structs
aggregates_low p (x ∷ es) ss enums structs = omega (arith, enum_low p x enums.0, aggregates_low p es ss enums.1 structs, next_words p x (es ++ ss))

-- the whole

lines_low : (p : Program) → words (program_lines p) ≡ all_words p p.graph.aggs + (words (map (declaration_line p) p.globals) + words (concat_each (objects p) p.globals) + words (concat_each (functions p) p.globals))
lines_low p =
    let e = concat_each (enum_lines p) p.graph.aggs in
    let t = concat_each (tag_lines p) p.graph.aggs in
    let s = concat_each (struct_lines p) p.graph.aggs in
    let d = map (declaration_line p) p.globals in
    let o = concat_each (objects p) p.globals in
    let f = concat_each (functions p) p.globals in
    omega (arith, words_append e (t ++ (s ++ (d ++ (o ++ f)))), words_append t (s ++ (d ++ (o ++ f))), words_append s (d ++ (o ++ f)), words_append d (o ++ f), words_append o f)

weight_low : (p : Program) → IsProgram p → program_weight p ≤ 2 * words (program_lines p)
weight_low p is =
    let n = program_weight p in
    let told = told_there p n is (omega arith) in
    let low : aggregates_size p p.graph.aggs ≤ 2 * all_words p p.graph.aggs = subst (λ xs. aggregates_size p xs ≤ 2 * all_words p xs) (sym told.both_are) (aggregates_low p told.enums told.structs told.are_enums told.are_structs) in
    omega (arith, low, globals_low p (file_there p is) n p.globals (rules_there p is) told.functions, lines_low p)

-- bytes

joined_low : (tokens : List Token) → length tokens ≤ length (join_with_byte 32 tokens) + 1
joined_low [] = omega arith
joined_low (t ∷ []) = omega arith
joined_low (t ∷ u ∷ ts) = omega (arith, joined_low (u ∷ ts), length-append t (32 ∷ join_with_byte 32 (u ∷ ts)))

line_low : (braces : ℕ) (line : Line) → length line ≤ length (line_bytes braces line)
line_low braces line =
    omega (arith, joined_low line, length-append (replicate (2 * depth_of braces line) 32) (join_with_byte 32 line ++ 10 ∷ []), length-append (join_with_byte 32 line) (10 ∷ []))

bytes_low : (braces : ℕ) (lines : List Line) → words lines ≤ length (lines_bytes braces lines)
bytes_low braces [] = omega arith
bytes_low braces (line ∷ lines) = omega (arith, line_low braces line, bytes_low (open_behind braces line) lines, length-append (line_bytes braces line) (lines_bytes (open_behind braces line) lines))

pub enough : (p : Program) → IsProgram p → program_weight p ≤ 2 * length (Text p)
enough p is = omega (arith, weight_low p is, bytes_low 0 (program_lines p))
