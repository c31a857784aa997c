-- Device: the reading of a text's lines gives back the program's aggregates and globals.
use Rattle.std.proofs.Common.{◌≡◌, ℕ, ◌+◌, ◌≤◌, Bool, true, false, cond, List, [], ◌∷◌, ◌++◌, map, Option, Some, None, slice_get, refl, sym, ap, ◌∙◌}
use Rattle.std.specs.Option.{option_map, option_and_then}
use Rattle.cil_base.specs.declared.kinds.IntKind.{IntKind}
use Rattle.cil_base.specs.declared.kinds.IntKind.TheVariants as kind
use Rattle.cil_base.specs.declared.operators.BinOp.TheVariants.{Mul}
use Rattle.type_graph.specs.declared.aggregates.Aggregate.{Aggregate}
use Rattle.type_graph.specs.declared.aggregates.Member.{Member}
use Rattle.type_graph.specs.Shapes.{Shape, VoidType, IntType, PtrType, ArrayType, FuncType, AggType}
use Rattle.cil_tree.specs.Tree.{Local, Definition, Declared, Zeros, Image, Function, GlobalDecl, Program}
use Rattle.cil_tree.specs.Typing.{is_enum, is_function}
use Rattle.cil_tree.specs.Names.{is_name, are_different, tags}
use Rattle.cil_tree.specs.Declarators.{tag_text}
use Rattle.cil_tree.specs.Text.{enum_lines, tag_lines, struct_lines, declaration_line, concat_each, program_lines}
use Rattle.cil_tree.specs.Programs.{seen_member, SeenAggregate, seen_aggregate}
use Rattle.cil_text.specs.Words.{Word, LeftParen, LeftBrace, Semicolon, Operator, TagWord, Name, word_of, onto}
use Rattle.cil_text.specs.ReadExps.{Env}
use Rattle.cil_text.specs.Known.{known_member, known_members, known_global, known_of}
use Rattle.std.specs.List.{list_all}
use Rattle.cil_text.specs.Allowed.{allowed, is_filled}
use Rattle.cil_text.specs.ReadAggregates.{Lines, opened_tag, lone_tag, tag_of, aggregates_allowed, first_filled}
use Rattle.cil_text.specs.ReadGlobals.{read_declarations, read_objects, read_bodies, seen_field, seen_fields, declared_local, env_from, definition_with, assembled, seen_end, declared_name, read_defined, read_lines, Definitions, bases_from}
use Rattle.cil_text.proofs.WordsBack.{name_word}
use Rattle.cil_text.proofs.TypesBack.{kind_spelled, tag_spelled, base_spelled, grouped, before, behind, IsShape}
use Rattle.cil_text.proofs.DeclsBack.{cond_both}
use Rattle.cil_text.proofs.StmtsBack.{lines_onto, lines_append}
use Rattle.cil_text.proofs.AggregatesBack.{EachAggregate, IsEnum, IsStruct, aggregates_size, opened_first, lone_first, tags_seen, aggregate_lines, aggregates_back}
use Rattle.cil_text.proofs.ObjectsBack.{shape_of, declaration_of, IsDeclared, EachGlobal, declarator_spelled, storage_word, storage_words, globals_size, declarations_back, object_of, ObjectTold, name_of, objects_of, objects_told, objects_back, objects_declare_nothing}
use Rattle.cil_text.proofs.BodiesBack.{FunctionTold, body_of, bodies_told, functions_of, bodies_back, functions_headed, headed_declares_nothing}

-- the first declaration opens no aggregate and is no tag alone

abbrev is_tag_end : List Word → Bool
is_tag_end (LeftBrace ∷ ws) = true
is_tag_end (Semicolon ∷ ws) = true
is_tag_end _ = false

abbrev Apart : List Word → Type 0
Apart ws = (opened_tag ws ≡ None) × (lone_tag ws ≡ None)

tag_apart : (x : Aggregate) (name : List ℕ) (rest : List Word) → is_tag_end rest ≡ false → Apart (TagWord x.kind ∷ Name name ∷ rest)
tag_apart x name [] e = (refl, refl)
tag_apart x name (LeftBrace ∷ ws) e = absurd (cc e)
tag_apart x name (Semicolon ∷ ws) e = absurd (cc e)
tag_apart x name (w ∷ ws) e = (refl, refl)

kind_apart : (k : IntKind) (rest : List Word) → Apart (kind_spelled k rest)
kind_apart k rest = elim k as (λ v. Apart (kind_spelled v rest)) [ kind.Bool ↦ (refl, refl) | kind.Char ↦ (refl, refl) | kind.SChar ↦ (refl, refl) | kind.UChar ↦ (refl, refl) | kind.Short ↦ (refl, refl) | kind.UShort ↦ (refl, refl) | kind.Int ↦ (refl, refl) | kind.UInt ↦ (refl, refl) | kind.Long ↦ (refl, refl) | kind.ULong ↦ (refl, refl) | kind.LLong ↦ (refl, refl) | kind.ULLong ↦ (refl, refl) | kind.Long4 ↦ (refl, refl) | kind.ULong4 ↦ (refl, refl) ]

spelled_apart : (p : Program) (o : Option Aggregate) (x : Aggregate) (rest : List Word) → o ≡ Some x → is_name (tag_text p x) ≡ true → is_tag_end rest ≡ false → Apart (tag_spelled p o rest)
spelled_apart p None x rest e named stops = absurd (cc e)
spelled_apart p (Some y) x rest e named stops =
    let same : y ≡ x = cc in
    let word : word_of (tag_text p y) ≡ Name (tag_text p x) = ap (λ (z : Aggregate). word_of (tag_text p z)) same ∙ name_word (tag_text p x) named in
    let a = tag_apart y (tag_text p x) rest stops in
    (ap (λ (w : Word). opened_tag (TagWord y.kind ∷ w ∷ rest)) word ∙ a.0, ap (λ (w : Word). lone_tag (TagWord y.kind ∷ w ∷ rest)) word ∙ a.1)

base_apart : (p : Program) (s : Shape) (rest : List Word) → IsShape p s → is_tag_end rest ≡ false → Apart (base_spelled p s rest)
base_apart p VoidType rest is e = (refl, refl)
base_apart p (IntType k) rest is e = kind_apart k rest
base_apart p (PtrType q s) rest is e = base_apart p s rest is.1 e
base_apart p (ArrayType q s bound) rest is e = base_apart p s rest is.2 e
base_apart p (FuncType ret params proto variadic) rest is e = base_apart p ret rest is.0 e
base_apart p (AggType a) rest is e = spelled_apart p (slice_get p.graph.aggs a) is.0 rest is.1 is.2 e

before_apart : (s : Shape) (rest : List Word) → is_tag_end rest ≡ false → is_tag_end (before s rest) ≡ false
before_apart VoidType rest e = e
before_apart (IntType k) rest e = e
before_apart (PtrType q s) rest e = before_apart s (cond (grouped s) (LeftParen ∷ Operator Mul ∷ rest) (Operator Mul ∷ rest)) (cond_both is_tag_end (grouped s) (LeftParen ∷ Operator Mul ∷ rest) (Operator Mul ∷ rest) false refl refl)
before_apart (ArrayType q s bound) rest e = before_apart s rest e
before_apart (FuncType ret params proto variadic) rest e = before_apart ret rest e
before_apart (AggType a) rest e = e

declaration_apart : (p : Program) (x : GlobalDecl) → IsDeclared p x → Apart (onto (declaration_line p x) [])
declaration_apart p x is =
    let h = by x.internal (is_function (shape_of x.type)) in
    (ap opened_tag (storage_words p x is) ∙ h.0, ap lone_tag (storage_words p x is) ∙ h.1)
  where
    by : (a b : Bool) → Apart (storage_word a b (declarator_spelled p x (Semicolon ∷ [])))
    by true b = (refl, refl)
    by false false = (refl, refl)
    by false true = base_apart p (shape_of x.type) (before (shape_of x.type) (Name x.name ∷ behind p (shape_of x.type) (Semicolon ∷ []))) is.2 (before_apart (shape_of x.type) (Name x.name ∷ behind p (shape_of x.type) (Semicolon ∷ [])) refl)

-- lines of globals
abbrev pub global_lines : Program → List GlobalDecl → Lines
global_lines p xs = lines_onto (map (declaration_line p) xs) (lines_onto (objects_of p xs) (lines_onto (functions_of p xs) []))

globals_apart : (p : Program) (xs : List GlobalDecl) → EachGlobal (IsDeclared p) xs → (opened_first (global_lines p xs) ≡ None) × (lone_first (global_lines p xs) ≡ None)
globals_apart p [] is = (refl, refl)
globals_apart p (x ∷ xs) is = declaration_apart p x is.0

-- what is read of a program is what is known of it

fields_seen : (p : Program) (ms : List Member) → map seen_field (map (seen_member p) ms) ≡ map (known_member p) ms
fields_seen p [] = refl
fields_seen p (m ∷ ms) = ap (λ xs. known_member p m ∷ xs) (fields_seen p ms)

members_seen : (p : Program) (x : Aggregate) → seen_fields (seen_aggregate p x) ≡ known_members p x
members_seen p x = ap (λ ls. cond (is_enum x.kind) [] ls) (by x.members)
  where
    by : (o : Option (List Member)) → elim (option_map (map (seen_member p)) o) as (λ _. List Local) [ None ↦ [] | Some ms ↦ map seen_field ms ] ≡ elim o as (λ _. List Local) [ None ↦ [] | Some ms ↦ map (known_member p) ms ]
    by None = refl
    by (Some ms) = fields_seen p ms

all_members_seen : (p : Program) (xs : List Aggregate) → map seen_fields (map (seen_aggregate p) xs) ≡ map (known_members p) xs
all_members_seen p [] = refl
all_members_seen p (x ∷ xs) = ap (λ l. l ∷ map seen_fields (map (seen_aggregate p) xs)) (members_seen p x) ∙ ap (λ ls. known_members p x ∷ ls) (all_members_seen p xs)

globals_seen : (p : Program) (xs : List GlobalDecl) → EachGlobal (IsDeclared p) xs → map declared_local (map declaration_of xs) ≡ map known_global xs
globals_seen p [] is = refl
globals_seen p (x ∷ xs) is =
    ap (λ (o : Option Shape). record { name = x.name; type = o } ∷ map declared_local (map declaration_of xs)) (sym is.0.1) ∙ ap (λ ls. known_global x ∷ ls) (globals_seen p xs is.1)

env_seen : (p : Program) → EachGlobal (IsDeclared p) p.globals → env_from p.graph.abi (map (seen_aggregate p) p.graph.aggs) (map declaration_of p.globals) ≡ known_of p []
env_seen p is =
    ap (λ (ts : List (List ℕ)). record { abi = p.graph.abi; tags = ts; members = map seen_fields (map (seen_aggregate p) p.graph.aggs); globals = map declared_local (map declaration_of p.globals); locals = [] }) (tags_seen p p.graph.aggs)
    ∙ ap (λ (ms : List (List Local)). record { abi = p.graph.abi; tags = tags p; members = ms; globals = map declared_local (map declaration_of p.globals); locals = [] }) (all_members_seen p p.graph.aggs)
    ∙ ap (λ (gs : List Local). record { abi = p.graph.abi; tags = tags p; members = map (known_members p) p.graph.aggs; globals = gs; locals = [] }) (globals_seen p p.globals is)

whole_definition : (d : Definition) → definition_with (object_of d) (body_of d) ≡ d
whole_definition Declared = refl
whole_definition Zeros = refl
whole_definition (Image items) = refl
whole_definition (Function b) = refl

assembled_back : (p : Program) (xs : List GlobalDecl) → EachGlobal (IsDeclared p) xs → assembled (map declaration_of xs) (objects_told xs) (bodies_told xs) ≡ xs
assembled_back p [] is = refl
assembled_back p (x ∷ xs) is =
    ap (λ (o : Option Shape). record { name = x.name; type = o; internal = x.internal; definition = definition_with (object_of x.definition) (body_of x.definition) } ∷ assembled (map declaration_of xs) (objects_told xs) (bodies_told xs)) (sym is.0.1)
    ∙ ap (λ (d : Definition). record x { definition = d } ∷ assembled (map declaration_of xs) (objects_told xs) (bodies_told xs)) (whole_definition x.definition)
    ∙ ap (λ ys. x ∷ ys) (assembled_back p xs is.1)

names_declared : (xs : List GlobalDecl) → map declared_name (map declaration_of xs) ≡ map name_of xs
names_declared [] = refl
names_declared (x ∷ xs) = ap (λ ns. x.name ∷ ns) (names_declared xs)

-- a program whose text is read back
pub record IsTold (p : Program) (n : ℕ) : Type 0 where
  pub enums : List Aggregate
  pub structs : List Aggregate
  pub both_are : p.graph.aggs ≡ enums ++ structs
  pub are_enums : EachAggregate (IsEnum p) enums
  pub are_structs : EachAggregate (IsStruct p) structs
  pub aggregates_low : aggregates_size p enums + aggregates_size p structs ≤ n
  pub tags_differ : are_different (tags p) ≡ true
  pub allowed : aggregates_allowed (map (seen_aggregate p) p.graph.aggs) ≡ true
  pub filled : list_all is_filled (map (seen_aggregate p) p.graph.aggs) ≡ true
  pub declared : EachGlobal (IsDeclared p) p.globals
  pub globals_low : globals_size p.globals ≤ n
  pub objects : EachGlobal (ObjectTold p n) p.globals
  pub functions : EachGlobal (FunctionTold p n) p.globals
  pub names_differ : are_different (map name_of p.globals) ≡ true

lines_are : (p : Program) → lines_onto (program_lines p) [] ≡ aggregate_lines p (global_lines p p.globals)
lines_are p =
    let e = concat_each (enum_lines p) p.graph.aggs in
    let t = concat_each (tag_lines p) p.graph.aggs in
    let s = concat_each (struct_lines p) p.graph.aggs in
    let d = map (declaration_line p) p.globals in
    let o = objects_of p p.globals in
    let f = functions_of p p.globals in
    lines_append e (t ++ (s ++ (d ++ (o ++ f)))) []
    ∙ ap (lines_onto e) (lines_append t (s ++ (d ++ (o ++ f))) []
    ∙ ap (lines_onto t) (lines_append s (d ++ (o ++ f)) []
    ∙ ap (lines_onto s) (lines_append d (o ++ f) []
    ∙ ap (lines_onto d) (lines_append o f []))))

pub lines_back : (p : Program) (n : ℕ) → IsTold p n → read_lines p.graph.abi n (lines_onto (program_lines p) []) ≡ Some (map (seen_aggregate p) p.graph.aggs, p.globals)
lines_back p n is =
    let xs = p.globals in
    let seen = map (seen_aggregate p) p.graph.aggs in
    let apart = globals_apart p xs is.declared in
    let functions = lines_onto (functions_of p xs) [] in
    let objects = lines_onto (objects_of p xs) functions in
    let nothing = headed_declares_nothing functions (functions_headed p n xs is.functions) in
    ap (read_lines p.graph.abi n) (lines_are p)
    ∙ ap (λ o. option_and_then (λ (r : List SeenAggregate × Lines). option_and_then (read_defined p.graph.abi n r.0) (read_declarations (bases_from p.graph.abi r.0) n r.1)) (option_and_then (allowed first_filled) o)) (aggregates_back p n is.enums is.structs (global_lines p xs) is.both_are is.are_enums is.are_structs is.aggregates_low is.tags_differ is.allowed apart.0 apart.1)
    ∙ ap (λ b. option_and_then (λ (r : List SeenAggregate × Lines). option_and_then (read_defined p.graph.abi n r.0) (read_declarations (bases_from p.graph.abi r.0) n r.1)) (cond b (Some (seen, global_lines p xs)) None)) is.filled
    ∙ ap (λ (ts : List (List ℕ)). option_and_then (read_defined p.graph.abi n seen) (read_declarations (record { abi = p.graph.abi; tags = ts }) n (global_lines p xs))) (tags_seen p p.graph.aggs)
    ∙ ap (option_and_then (read_defined p.graph.abi n seen)) (declarations_back p n xs objects is.globals_low is.declared (objects_declare_nothing p n xs functions is.objects nothing.0))
    ∙ ap (λ b. cond b (option_and_then (λ (o : Definitions × Lines). option_and_then (seen_end seen (map declaration_of xs) o.0) (read_bodies (env_from p.graph.abi seen (map declaration_of xs)) n (map declaration_of xs) o.1)) (read_objects (env_from p.graph.abi seen (map declaration_of xs)) n (map declaration_of xs) objects)) None) (ap are_different (names_declared xs) ∙ is.names_differ)
    ∙ ap (λ (env : Env). option_and_then (λ (o : Definitions × Lines). option_and_then (seen_end seen (map declaration_of xs) o.0) (read_bodies env n (map declaration_of xs) o.1)) (read_objects env n (map declaration_of xs) objects)) (env_seen p is.declared)
    ∙ ap (option_and_then (λ (o : Definitions × Lines). option_and_then (seen_end seen (map declaration_of xs) o.0) (read_bodies (known_of p []) n (map declaration_of xs) o.1))) (objects_back p n xs functions is.objects is.names_differ nothing.1)
    ∙ ap (option_and_then (seen_end seen (map declaration_of xs) (objects_told xs))) (bodies_back p n xs is.functions is.names_differ)
    ∙ ap (λ ys. Some (seen, ys)) (assembled_back p xs is.declared)
