-- Device: the reading of declarations and of objects gives back each global's from its lines.
use Rattle.std.proofs.Common.{◌≡◌, ℕ, ◌+◌, ◌≤◌, ◌&&◌, ◌||◌, not, Bool, true, false, cond, List, [], ◌∷◌, ◌++◌, map, codes, Option, Some, None, refl, sym, ap, ◌∙◌, arith}
use Rattle.std.specs.List.{list_any}
use Rattle.std.specs.Option.{option_map, option_and_then}
use Rattle.std.specs.Str.{bytes_eq}
use Rattle.std.proofs.lemmas.Slice.Eq.{bytes_eq-Decides}
use Rattle.type_graph.specs.Shapes.{Shape, VoidType}
use Rattle.cil_tree.proofs.ShapeEquality.{shape_itself}
use Rattle.cil_tree.specs.Tree.{Item, Definition, Declared, Zeros, Image, Function, GlobalDecl, Program}
use Rattle.cil_tree.specs.Typing.{is_void, is_function}
use Rattle.cil_tree.specs.Lines.{Token, Line}
use Rattle.cil_tree.specs.Names.{is_name, is_among, are_different}
use Rattle.cil_tree.specs.Declarators.{type_tokens}
use Rattle.cil_tree.specs.Text.{closed, is_function_type, declarator, linkage, storage, image_tokens, declaration_line, object_lines, concat_each}
use Rattle.cil_tree.specs.Globals.{has_definition, is_defined, image_fits}
use Rattle.cil_text.specs.Words.{Word, Semicolon, Assign, ExternWord, StaticWord, Name, word_of, onto}
use Rattle.cil_text.specs.ReadTypes.{read_decl, Bases}
use Rattle.cil_text.specs.ReadExps.{Env, is_base}
use Rattle.cil_text.specs.Known.{known_of, bases_of}
use Rattle.cil_text.specs.ReadAggregates.{Lines}
use Rattle.cil_text.specs.ReadGlobals.{Declaration, is_open_brace, ends_open, name_in_front, first_name, is_call_in_front, names_function, is_called, declares_alone, declares, declared_with, only_function, declaration_from, declaration_first, read_declarations, without_static, own_name, image_end, defined_by, object_defined, own_definition, default_of, Definitions, definition_first, read_objects}
use Rattle.cil_text.proofs.WordsBack.{onto_append, both, denied, name_word}
use Rattle.cil_text.proofs.TypesBack.{base_spelled, before, behind, IsShape, declared_words}
use Rattle.cil_text.proofs.DeclsBack.{size, named_back}
use Rattle.cil_text.proofs.ExpsBack.{type_base}
use Rattle.cil_text.proofs.StmtsBack.{lines_onto, lines_append, closed_words}
use Rattle.cil_text.proofs.ImagesBack.{IsFile, items_weight, image_back}
use Rattle.cil_text.proofs.AggregatesBack.{other_way, neither}
use Rattle.cil_text.proofs.TypesSkipped.{named_from, named_assign, named_call}

-- a global as it is declared
abbrev pub shape_of : Option Shape → Shape
shape_of None = VoidType
shape_of (Some s) = s

abbrev pub declaration_of : GlobalDecl → Declaration
declaration_of x = record { name = x.name; type = shape_of x.type; internal = x.internal }

-- a global whose name and type are read back
abbrev pub IsDeclared : Program → GlobalDecl → Type 0
IsDeclared p x = (is_name x.name ≡ true) × (x.type ≡ Some (shape_of x.type)) × IsShape p (shape_of x.type)

abbrev pub EachGlobal : (GlobalDecl → Type 0) → List GlobalDecl → Type 0
EachGlobal P [] = Unit {0}
EachGlobal P (x ∷ xs) = P x × EachGlobal P xs

-- the last word of a line

last_word : (ts : List Token) (t : Token) → ends_open (onto (ts ++ t ∷ []) []) ≡ is_open_brace (word_of t)
last_word [] t = refl
last_word (u ∷ []) t = refl
last_word (u ∷ v ∷ ts) t = last_word (v ∷ ts) t

pub not_opened : (ts : List Token) → ends_open (onto (closed ts) []) ≡ false
unfolding word_of
not_opened ts = last_word ts (codes ";")

pub opened : (ts : List Token) → ends_open (onto (ts ++ codes "{" ∷ []) []) ≡ true
unfolding word_of
opened ts = last_word ts (codes "{")

-- base words are no storage class

no_storage : (bases : Bases) (n : ℕ) (ws : List Word) → is_base ws ≡ true → declaration_from bases n ws ≡ option_and_then only_function (option_and_then (declared_with false) (read_decl bases n ws))
no_storage bases n [] e = absurd (cc e)
no_storage bases n (ExternWord ∷ ws) e = absurd (cc e)
no_storage bases n (StaticWord ∷ ws) e = absurd (cc e)
no_storage bases n (w ∷ ws) e = refl

no_static : (ws : List Word) → is_base ws ≡ true → without_static ws ≡ ws
no_static [] e = refl
no_static (StaticWord ∷ ws) e = absurd (cc e)
no_static (w ∷ ws) e = refl

-- the words of a declarator, in front of others
abbrev pub declarator_spelled : Program → GlobalDecl → List Word → List Word
declarator_spelled p x rest = base_spelled p (shape_of x.type) (before (shape_of x.type) (Name x.name ∷ behind p (shape_of x.type) rest))

pub declarator_words : (p : Program) (x : GlobalDecl) (rest : List Word) → IsDeclared p x → onto (declarator p x) rest ≡ declarator_spelled p x rest
declarator_words p x rest is =
    ap (λ (o : Option Shape). onto (type_tokens p o (x.name ∷ [])) rest) is.1
    ∙ declared_words p (shape_of x.type) (x.name ∷ []) rest is.2
    ∙ ap (λ (w : Word). base_spelled p (shape_of x.type) (before (shape_of x.type) (w ∷ behind p (shape_of x.type) rest))) (name_word x.name is.0)

declarator_base : (p : Program) (x : GlobalDecl) (rest : List Word) → IsDeclared p x → is_base (declarator_spelled p x rest) ≡ true
declarator_base p x rest is = type_base p (shape_of x.type) (before (shape_of x.type) (Name x.name ∷ behind p (shape_of x.type) rest)) is.2

-- declarations

abbrev pub storage_word : Bool → Bool → List Word → List Word
storage_word true function ws = StaticWord ∷ ws
storage_word false true ws = ws
storage_word false false ws = ExternWord ∷ ws

pub storage_words : (p : Program) (x : GlobalDecl) → IsDeclared p x → onto (declaration_line p x) [] ≡ storage_word x.internal (is_function (shape_of x.type)) (declarator_spelled p x (Semicolon ∷ []))
unfolding word_of
storage_words p x is =
    closed_words (storage x ++ declarator p x)
    ∙ onto_append (storage x) (declarator p x) (Semicolon ∷ [])
    ∙ ap (onto (storage x)) (declarator_words p x (Semicolon ∷ []) is)
    ∙ ap (λ (o : Option Shape). onto (cond x.internal (codes "static" ∷ []) (cond (is_function_type o) [] (codes "extern" ∷ []))) (declarator_spelled p x (Semicolon ∷ []))) is.1
    ∙ by x.internal (is_function (shape_of x.type)) (declarator_spelled p x (Semicolon ∷ []))
  where
    by : (a b : Bool) (ws : List Word) → onto (cond a (codes "static" ∷ []) (cond b [] (codes "extern" ∷ []))) ws ≡ storage_word a b ws
    by true b ws = refl
    by false true ws = refl
    by false false ws = refl

base_alone : (ws : List Word) → is_base ws ≡ true → declares_alone ws ≡ names_function ws
base_alone [] e = absurd (cc e)
base_alone (ExternWord ∷ ws) e = absurd (cc e)
base_alone (StaticWord ∷ ws) e = absurd (cc e)
base_alone (w ∷ ws) e = refl

-- a declarator without storage class declares alone if it is a function's
alone_function : (p : Program) (x : GlobalDecl) (rest : List Word) → IsDeclared p x → is_call_in_front (Name x.name ∷ rest) ≡ false → declares_alone (declarator_spelled p x rest) ≡ is_function (shape_of x.type)
alone_function p x rest is e =
    base_alone (declarator_spelled p x rest) (declarator_base p x rest is)
    ∙ ap is_call_in_front (named_from p (shape_of x.type) x.name rest is.2)
    ∙ named_call p (shape_of x.type) x.name rest e

declares_itself : (p : Program) (x : GlobalDecl) → IsDeclared p x → declares (onto (declaration_line p x) []) ≡ true
declares_itself p x is =
    ap (λ b. cond b false (declares_alone (onto (declaration_line p x) []))) (not_opened (storage x ++ declarator p x))
    ∙ ap declares_alone (storage_words p x is)
    ∙ by x.internal (is_function (shape_of x.type)) refl
  where
    by : (a b : Bool) → is_function (shape_of x.type) ≡ b → declares_alone (storage_word a b (declarator_spelled p x (Semicolon ∷ []))) ≡ true
    by true b f = ap not (named_assign p (shape_of x.type) x.name (Semicolon ∷ []) is.2)
    by false false f = refl
    by false true f = alone_function p x (Semicolon ∷ []) is refl ∙ f

declaration_back : (p : Program) (n : ℕ) (x : GlobalDecl) → size (shape_of x.type) + 2 ≤ n → IsDeclared p x → declaration_from (bases_of p) n (onto (declaration_line p x) []) ≡ Some (declaration_of x)
declaration_back p n x low is =
    ap (declaration_from (bases_of p) n) (storage_words p x is)
    ∙ by x.internal (is_function (shape_of x.type)) refl refl
  where
    read : read_decl (bases_of p) n (declarator_spelled p x (Semicolon ∷ [])) ≡ Some ((shape_of x.type, Some x.name), Semicolon ∷ [])
    read = named_back p n (shape_of x.type) x.name (Semicolon ∷ []) low is.2 refl

    by : (a b : Bool) → x.internal ≡ a → is_function (shape_of x.type) ≡ b → declaration_from (bases_of p) n (storage_word a b (declarator_spelled p x (Semicolon ∷ []))) ≡ Some (declaration_of x)
    by true b e f = ap (option_and_then (declared_with true)) read ∙ ap (λ (i : Bool). Some (record (declaration_of x) { internal = i })) (sym e)
    by false false e f = ap (option_and_then (declared_with false)) read ∙ ap (λ (i : Bool). Some (record (declaration_of x) { internal = i })) (sym e)
    by false true e f =
        no_storage (bases_of p) n (declarator_spelled p x (Semicolon ∷ [])) (declarator_base p x (Semicolon ∷ []) is)
        ∙ ap (λ o. option_and_then only_function (option_and_then (declared_with false) o)) read
        ∙ ap (λ (b : Bool). cond b (Some (record (declaration_of x) { internal = false })) None) f
        ∙ ap (λ (i : Bool). Some (record (declaration_of x) { internal = i })) (sym e)

-- the first line declares
abbrev pub declared_first : Lines → Bool
declared_first [] = false
declared_first (line ∷ lines) = declares line

declarations_end : (bases : Bases) (n : ℕ) (more : Lines) → declared_first more ≡ false → read_declarations bases n more ≡ Some ([], more)
declarations_end bases n [] e = refl
declarations_end bases n (line ∷ lines) e = rw (e, read_declarations) refl

abbrev pub globals_size : List GlobalDecl → ℕ
globals_size [] = 0
globals_size (x ∷ xs) = 2 + size (shape_of x.type) + globals_size xs

pub declarations_back : (p : Program) (n : ℕ) (xs : List GlobalDecl) (more : Lines) → globals_size xs ≤ n → EachGlobal (IsDeclared p) xs → declared_first more ≡ false →
    read_declarations (bases_of p) n (lines_onto (map (declaration_line p) xs) more) ≡ Some (map declaration_of xs, more)
declarations_back p n [] more low is e = declarations_end (bases_of p) n more e
declarations_back p n (x ∷ xs) more low is e =
    let line = onto (declaration_line p x) [] in
    let rest = lines_onto (map (declaration_line p) xs) more in
    ap (λ b. cond b (option_and_then (λ (d : Declaration). option_map (declaration_first d) (read_declarations (bases_of p) n rest)) (declaration_from (bases_of p) n line)) (Some ([], line ∷ rest))) (declares_itself p x is.0)
    ∙ ap (option_and_then (λ (d : Declaration). option_map (declaration_first d) (read_declarations (bases_of p) n rest))) (declaration_back p n x (omega arith) is.0)
    ∙ ap (option_map (declaration_first (declaration_of x))) (declarations_back p n xs more (omega arith) is.1 e)

-- objects

-- what a global is by the lines of objects alone
abbrev pub object_of : Definition → Definition
object_of (Function body) = Declared
object_of definition = definition

-- a global has no line among objects, and is the default; or one, which gives its definition
pub data ObjectTold (p : Program) (n : ℕ) (x : GlobalDecl) : Type 0 where
  NoLine : object_lines p x x.definition ≡ [] → default_of (declaration_of x) ≡ object_of x.definition → ObjectTold p n x
  OneLine : (line : Line) → object_lines p x x.definition ≡ line ∷ [] → own_name (onto line []) ≡ Some x.name →
      own_definition (known_of p []) n (declaration_of x) (onto line []) ≡ Some (object_of x.definition) → declares (onto line []) ≡ false → ObjectTold p n x

abbrev pub name_of : GlobalDecl → List ℕ
name_of x = x.name

-- the name in the first line, if it defines an object
abbrev pub object_first : Lines → Option (List ℕ)
object_first [] = None
object_first (line ∷ lines) = own_name line

abbrev pub objects_of : Program → List GlobalDecl → List Line
objects_of p xs = concat_each (λ (x : GlobalDecl). object_lines p x x.definition) xs

not_next_object : (p : Program) (n : ℕ) (name : List ℕ) (xs : List GlobalDecl) (more : Lines) → EachGlobal (ObjectTold p n) xs → is_among (map name_of xs) name ≡ false → object_first more ≡ None →
    is_called (object_first (lines_onto (objects_of p xs) more)) name ≡ false
not_next_object p n name [] more told apart e = ap (λ o. is_called o name) e
not_next_object p n name (x ∷ xs) more told apart e =
    let h = neither (bytes_eq name x.name) (list_any (bytes_eq name) (map name_of xs)) apart in
    ap (λ ls. is_called (object_first ls) name) (lines_append (object_lines p x x.definition) (objects_of p xs) more)
    ∙ by told.0 h.0 (not_next_object p n name xs more told.1 h.1 e)
  where
    by : ObjectTold p n x → bytes_eq name x.name ≡ false → is_called (object_first (lines_onto (objects_of p xs) more)) name ≡ false →
        is_called (object_first (lines_onto (object_lines p x x.definition) (lines_onto (objects_of p xs) more))) name ≡ false
    by (NoLine f d) q later = ap (λ ls. is_called (object_first (lines_onto ls (lines_onto (objects_of p xs) more))) name) f ∙ later
    by (OneLine line f g d other) q later =
        ap (λ ls. is_called (object_first (lines_onto ls (lines_onto (objects_of p xs) more))) name) f
        ∙ ap (λ o. is_called o name) g
        ∙ other_way name x.name q

skipped_object : (env : Env) (n : ℕ) (d : Declaration) (ds : List Declaration) (lines : Lines) → is_called (object_first lines) d.name ≡ false → read_objects env n (d ∷ ds) lines ≡ option_map (definition_first (default_of d)) (read_objects env n ds lines)
skipped_object env n d ds [] e = refl
skipped_object env n d ds (line ∷ lines) e = ap (λ b. cond b (option_and_then (λ (x : Definition). option_map (definition_first x) (read_objects env n ds lines)) (own_definition env n d line)) (option_map (definition_first (default_of d)) (read_objects env n ds (line ∷ lines)))) e

taken_object : (env : Env) (n : ℕ) (d : Declaration) (ds : List Declaration) (line : List Word) (lines : Lines) (x : Definition) →
    own_name line ≡ Some d.name → own_definition env n d line ≡ Some x → read_objects env n (d ∷ ds) (line ∷ lines) ≡ option_map (definition_first x) (read_objects env n ds lines)
taken_object env n d ds line lines x e f =
    ap (λ b. cond b (option_and_then (λ (y : Definition). option_map (definition_first y) (read_objects env n ds lines)) (own_definition env n d line)) (option_map (definition_first (default_of d)) (read_objects env n ds (line ∷ lines))))
    (ap (λ o. is_called o d.name) e ∙ (bytes_eq-Decides d.name d.name).1 refl)
    ∙ ap (option_and_then (λ (y : Definition). option_map (definition_first y) (read_objects env n ds lines))) f

abbrev pub objects_told : List GlobalDecl → Definitions
objects_told [] = []
objects_told (x ∷ xs) = object_of x.definition ∷ objects_told xs

pub objects_back : (p : Program) (n : ℕ) (xs : List GlobalDecl) (more : Lines) → EachGlobal (ObjectTold p n) xs → are_different (map name_of xs) ≡ true → object_first more ≡ None →
    read_objects (known_of p []) n (map declaration_of xs) (lines_onto (objects_of p xs) more) ≡ Some (objects_told xs, more)
objects_back p n [] more told apart e = refl
objects_back p n (x ∷ xs) more told apart e =
    let h = both (not (is_among (map name_of xs) x.name)) (are_different (map name_of xs)) apart in
    ap (read_objects (known_of p []) n (declaration_of x ∷ map declaration_of xs)) (lines_append (object_lines p x x.definition) (objects_of p xs) more)
    ∙ by told.0 (not_next_object p n x.name xs more told.1 (denied (is_among (map name_of xs) x.name) h.0) e)
    ∙ ap (option_map (definition_first (object_of x.definition))) (objects_back p n xs more told.1 h.1 e)
  where
    by : ObjectTold p n x → is_called (object_first (lines_onto (objects_of p xs) more)) x.name ≡ false →
        read_objects (known_of p []) n (declaration_of x ∷ map declaration_of xs) (lines_onto (object_lines p x x.definition) (lines_onto (objects_of p xs) more))
        ≡ option_map (definition_first (object_of x.definition)) (read_objects (known_of p []) n (map declaration_of xs) (lines_onto (objects_of p xs) more))
    by (NoLine f d) q =
        ap (λ ls. read_objects (known_of p []) n (declaration_of x ∷ map declaration_of xs) (lines_onto ls (lines_onto (objects_of p xs) more))) f
        ∙ skipped_object (known_of p []) n (declaration_of x) (map declaration_of xs) (lines_onto (objects_of p xs) more) q
        ∙ ap (λ (y : Definition). option_map (definition_first y) (read_objects (known_of p []) n (map declaration_of xs) (lines_onto (objects_of p xs) more))) d
    by (OneLine line f g d other) q =
        ap (λ ls. read_objects (known_of p []) n (declaration_of x ∷ map declaration_of xs) (lines_onto ls (lines_onto (objects_of p xs) more))) f
        ∙ taken_object (known_of p []) n (declaration_of x) (map declaration_of xs) (onto line []) (lines_onto (objects_of p xs) more) (object_of x.definition) g d

-- a line of an object: it names the object and declares nothing alone

zero_declares_nothing : (p : Program) (x : GlobalDecl) → IsDeclared p x → is_function (shape_of x.type) ≡ false → declares (onto (closed (declarator p x)) []) ≡ false
zero_declares_nothing p x is object =
    ap (λ b. cond b false (declares_alone (onto (closed (declarator p x)) []))) (not_opened (declarator p x))
    ∙ ap declares_alone (closed_words (declarator p x) ∙ declarator_words p x (Semicolon ∷ []) is)
    ∙ alone_function p x (Semicolon ∷ []) is refl
    ∙ object

zero_named : (p : Program) (x : GlobalDecl) → IsDeclared p x → own_name (onto (closed (declarator p x)) []) ≡ Some x.name
zero_named p x is =
    ap (λ b. cond b None (first_name (onto (closed (declarator p x)) []))) (not_opened (declarator p x))
    ∙ ap first_name (closed_words (declarator p x) ∙ declarator_words p x (Semicolon ∷ []) is)
    ∙ ap name_in_front (named_from p (shape_of x.type) x.name (Semicolon ∷ []) is.2)

-- an object's line is read where its declarator is
own_told : (p : Program) (n : ℕ) (x : GlobalDecl) (line rest : List Word) → read_decl (bases_of p) n (without_static line) ≡ Some ((shape_of x.type, Some x.name), rest) →
    own_definition (known_of p []) n (declaration_of x) line ≡ defined_by (known_of p []) n (shape_of x.type) rest
own_told p n x line rest e =
    ap (option_and_then (object_defined (known_of p []) n (declaration_of x))) e
    ∙ ap (λ b. cond b (defined_by (known_of p []) n (shape_of x.type) rest) None) (shape_itself (shape_of x.type))

-- the words of an image's line
abbrev linkage_word : Bool → List Word → List Word
linkage_word true ws = StaticWord ∷ ws
linkage_word false ws = ws

image_line : Program → GlobalDecl → List Item → Line
image_line p x items = closed (linkage x ++ (declarator p x ++ codes "=" ∷ image_tokens p x.type items))

image_words : (p : Program) (x : GlobalDecl) (items : List Item) → IsDeclared p x → onto (image_line p x items) [] ≡ linkage_word x.internal (declarator_spelled p x (Assign ∷ onto (image_tokens p (Some (shape_of x.type)) items) (Semicolon ∷ [])))
unfolding word_of image_line
image_words p x items is =
    let image = onto (image_tokens p (Some (shape_of x.type)) items) (Semicolon ∷ []) in
    closed_words (linkage x ++ (declarator p x ++ codes "=" ∷ image_tokens p x.type items))
    ∙ onto_append (linkage x) (declarator p x ++ codes "=" ∷ image_tokens p x.type items) (Semicolon ∷ [])
    ∙ ap (onto (linkage x)) (
    onto_append (declarator p x) (codes "=" ∷ image_tokens p x.type items) (Semicolon ∷ [])
    ∙ ap (λ (o : Option Shape). onto (declarator p x) (Assign ∷ onto (image_tokens p o items) (Semicolon ∷ []))) is.1
    ∙ declarator_words p x (Assign ∷ image) is)
    ∙ by x.internal (declarator_spelled p x (Assign ∷ image))
  where
    by : (a : Bool) (ws : List Word) → onto (cond a (codes "static" ∷ []) []) ws ≡ linkage_word a ws
    by true ws = refl
    by false ws = refl

linkage_cut : (a : Bool) (ws : List Word) → is_base ws ≡ true → without_static (linkage_word a ws) ≡ ws
linkage_cut true ws e = refl
linkage_cut false ws e = no_static ws e

zero_told : (p : Program) (n : ℕ) (x : GlobalDecl) → size (shape_of x.type) + 2 ≤ n → IsDeclared p x → own_definition (known_of p []) n (declaration_of x) (onto (closed (declarator p x)) []) ≡ Some Zeros
zero_told p n x low is = own_told p n x (onto (closed (declarator p x)) []) (Semicolon ∷ []) (
    ap (λ (ws : List Word). read_decl (bases_of p) n (without_static ws)) (closed_words (declarator p x) ∙ declarator_words p x (Semicolon ∷ []) is)
    ∙ ap (read_decl (bases_of p) n) (no_static (declarator_spelled p x (Semicolon ∷ [])) (declarator_base p x (Semicolon ∷ []) is))
    ∙ named_back p n (shape_of x.type) x.name (Semicolon ∷ []) low is.2 refl)

image_told : (p : Program) (n : ℕ) (x : GlobalDecl) (items : List Item) → size (shape_of x.type) + 2 ≤ n → IsDeclared p x →
    own_definition (known_of p []) n (declaration_of x) (onto (image_line p x items) []) ≡ defined_by (known_of p []) n (shape_of x.type) (Assign ∷ onto (image_tokens p (Some (shape_of x.type)) items) (Semicolon ∷ []))
unfolding image_line
image_told p n x items low is =
    let image = onto (image_tokens p (Some (shape_of x.type)) items) (Semicolon ∷ []) in
    own_told p n x (onto (image_line p x items) []) (Assign ∷ image) (
    ap (λ (ws : List Word). read_decl (bases_of p) n (without_static ws)) (image_words p x items is)
    ∙ ap (read_decl (bases_of p) n) (linkage_cut x.internal (declarator_spelled p x (Assign ∷ image)) (declarator_base p x (Assign ∷ image) is))
    ∙ named_back p n (shape_of x.type) x.name (Assign ∷ image) low is.2 refl)

linkage_named : (a : Bool) (ws : List Word) → first_name (linkage_word a ws) ≡ first_name ws
linkage_named true ws = refl
linkage_named false ws = refl

image_named : (p : Program) (x : GlobalDecl) (items : List Item) → IsDeclared p x → own_name (onto (image_line p x items) []) ≡ Some x.name
unfolding image_line
image_named p x items is =
    let image = onto (image_tokens p (Some (shape_of x.type)) items) (Semicolon ∷ []) in
    ap (λ b. cond b None (first_name (onto (image_line p x items) []))) (not_opened (linkage x ++ (declarator p x ++ codes "=" ∷ image_tokens p x.type items)))
    ∙ ap first_name (image_words p x items is)
    ∙ linkage_named x.internal (declarator_spelled p x (Assign ∷ image))
    ∙ ap name_in_front (named_from p (shape_of x.type) x.name (Assign ∷ image) is.2)

image_declares_nothing : (p : Program) (x : GlobalDecl) (items : List Item) → IsDeclared p x → is_function (shape_of x.type) ≡ false → declares (onto (image_line p x items) []) ≡ false
unfolding image_line
image_declares_nothing p x items is object =
    let image = onto (image_tokens p (Some (shape_of x.type)) items) (Semicolon ∷ []) in
    ap (λ b. cond b false (declares_alone (onto (image_line p x items) []))) (not_opened (linkage x ++ (declarator p x ++ codes "=" ∷ image_tokens p x.type items)))
    ∙ ap declares_alone (image_words p x items is)
    ∙ by x.internal image
  where
    by : (a : Bool) (image : List Word) → declares_alone (linkage_word a (declarator_spelled p x (Assign ∷ image))) ≡ false
    by true image = ap not (named_assign p (shape_of x.type) x.name (Assign ∷ image) is.2)
    by false image = alone_function p x (Assign ∷ image) is refl ∙ object

-- what the rules say of a global's definition
abbrev pub HasImage : Program → ℕ → Shape → Definition → Type 0
HasImage p n s (Image items) = (image_fits p s items ≡ true) × (items_weight p s items ≤ n)
HasImage p n s Declared = Unit {0}
HasImage p n s Zeros = Unit {0}
HasImage p n s (Function body) = Unit {0}

not_first : (a b : Bool) → not a && b ≡ true → a ≡ false
not_first true b e = absurd (cc e)
not_first false b e = refl

pub object_told : (p : Program) → IsFile p → (n : ℕ) (x : GlobalDecl) → size (shape_of x.type) + 2 ≤ n → IsDeclared p x → (d : Definition) → x.definition ≡ d → has_definition (shape_of x.type) d ≡ true → not x.internal || is_defined d ≡ true → HasImage p n (shape_of x.type) d → ObjectTold p n x
unfolding image_line
object_told p file n x low is Declared e has defined image =
    NoLine (ap (object_lines p x) e) (by (is_function (shape_of x.type)) x.internal defined ∙ ap object_of (sym e))
  where
    by : (a b : Bool) → not b || false ≡ true → cond a Declared (cond b Zeros Declared) ≡ Declared
    by true b h = refl
    by false true h = absurd (cc h)
    by false false h = refl
object_told p file n x low is Zeros e has defined image =
    let object : is_function (shape_of x.type) ≡ false = denied (is_function (shape_of x.type)) (both (not (is_void (shape_of x.type))) (not (is_function (shape_of x.type))) has).1 in
    by x.internal refl object
  where
    by : (b : Bool) → x.internal ≡ b → is_function (shape_of x.type) ≡ false → ObjectTold p n x
    by true h object =
        NoLine (ap (object_lines p x) e ∙ ap (λ (b : Bool). cond b [] (closed (declarator p x) ∷ [])) h)
        (ap (λ b. cond b Declared (cond x.internal Zeros Declared)) object ∙ ap (λ b. cond b Zeros Declared) h ∙ ap object_of (sym e))
    by false h object =
        OneLine (closed (declarator p x)) (ap (object_lines p x) e ∙ ap (λ (b : Bool). cond b [] (closed (declarator p x) ∷ [])) h) (zero_named p x is) (zero_told p n x low is ∙ ap (λ d. Some (object_of d)) (sym e)) (zero_declares_nothing p x is object)
object_told p file n x low is (Image items) e has defined image =
    let object : is_function (shape_of x.type) ≡ false = denied (is_function (shape_of x.type)) (both (not (is_void (shape_of x.type))) (not (is_function (shape_of x.type))) has).1 in
    OneLine (image_line p x items) (ap (object_lines p x) e) (image_named p x items is)
    (image_told p n x items low is ∙ ap (option_and_then image_end) (image_back p file n (shape_of x.type) items (Semicolon ∷ []) image.1 is.2 image.0 refl) ∙ ap (λ d. Some (object_of d)) (sym e))
    (image_declares_nothing p x items is object)
object_told p file n x low is (Function body) e has defined image =
    NoLine (ap (object_lines p x) e) (ap (λ b. cond b Declared (cond x.internal Zeros Declared)) has ∙ ap object_of (sym e))

-- behind the declarations no line declares
pub objects_declare_nothing : (p : Program) (n : ℕ) (xs : List GlobalDecl) (more : Lines) → EachGlobal (ObjectTold p n) xs → declared_first more ≡ false → declared_first (lines_onto (objects_of p xs) more) ≡ false
objects_declare_nothing p n [] more told e = e
objects_declare_nothing p n (x ∷ xs) more told e =
    ap declared_first (lines_append (object_lines p x x.definition) (objects_of p xs) more) ∙ by told.0 (objects_declare_nothing p n xs more told.1 e)
  where
    by : ObjectTold p n x → declared_first (lines_onto (objects_of p xs) more) ≡ false → declared_first (lines_onto (object_lines p x x.definition) (lines_onto (objects_of p xs) more)) ≡ false
    by (NoLine f d) later = ap (λ ls. declared_first (lines_onto ls (lines_onto (objects_of p xs) more))) f ∙ later
    by (OneLine line f g d other) later = ap (λ ls. declared_first (lines_onto ls (lines_onto (objects_of p xs) more))) f ∙ other
