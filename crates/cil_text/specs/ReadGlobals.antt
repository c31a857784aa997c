-- Device: the executable reading of a text's globals (C11 6.7, 6.9) from lines of words: declarations, objects that are defined, and functions with bodies; and of a whole text.
use Rattle.std.specs.Prelude.{ℕ, suc, zero, ◌&&◌, not, Bool, true, false, if◌then◌else◌, List, [], ◌∷◌, ◌++◌, Option, Some, None, map}
use Rattle.std.specs.Option.{option_map, option_and_then}
use Rattle.std.specs.Str.{bytes_eq}
use Rattle.cil_base.specs.declared.kinds.Abi.{Abi}
use Rattle.type_graph.specs.Shapes.{Shape, Shapes, FuncType, NoTypes, MoreTypes}
use Rattle.cil_tree.specs.Tree.{Stmts, Item, Local, Body, Definition, Declared, Zeros, Image, Function, GlobalDecl}
use Rattle.cil_tree.specs.Typing.{same_shape, is_function, is_enum}
use Rattle.cil_tree.specs.Names.{are_different, local_name_of}
use Rattle.cil_tree.specs.Programs.{SeenMember, SeenAggregate}
use Rattle.cil_text.specs.Words.{Word, LeftParen, LeftBrace, Semicolon, Assign, TagWord, ExternWord, StaticWord, Name}
use Rattle.cil_text.specs.ReadTypes.{Bases, Named, read_decl}
use Rattle.cil_text.specs.ReadExps.{Env, bases, is_base}
use Rattle.cil_text.specs.ReadStmts.{Head, is_label, label_text, read_heads, read_nested}
use Rattle.cil_text.specs.ReadImages.{read_image}
use Rattle.cil_text.specs.ReadAggregates.{Lines, LinesReading, is_close, tag_of, read_aggregates}

-- a global as it is declared
pub record Declaration : Type 0 where
  pub name : List ℕ
  pub type : Shape
  pub internal : Bool

abbrev pub is_open_brace : Word → Bool
is_open_brace LeftBrace = true
is_open_brace _ = false

-- the line ends with `{`
abbrev pub ends_open : List Word → Bool
ends_open [] = false
ends_open (w ∷ []) = is_open_brace w
ends_open (w ∷ v ∷ ws) = ends_open (v ∷ ws)

-- names

-- the words from the first name on that stands behind no `struct`, `union` or `enum`
abbrev pub from_name : List Word → List Word
from_name [] = []
from_name (TagWord kind ∷ []) = []
from_name (TagWord kind ∷ w ∷ ws) = from_name ws
from_name (Name name ∷ ws) = Name name ∷ ws
from_name (w ∷ ws) = from_name ws

abbrev pub name_in_front : List Word → Option (List ℕ)
name_in_front (Name name ∷ ws) = Some name
name_in_front _ = None

-- what the line declares
abbrev pub first_name : List Word → Option (List ℕ)
first_name ws = name_in_front (from_name ws)

abbrev pub is_call_in_front : List Word → Bool
is_call_in_front (Name name ∷ LeftParen ∷ ws) = true
is_call_in_front _ = false

-- the first name is that of a function, whose parameters stand right behind it (C11 6.7.6.3)
abbrev pub names_function : List Word → Bool
names_function ws = is_call_in_front (from_name ws)

abbrev pub is_called : Option (List ℕ) → List ℕ → Bool
is_called None name = false
is_called (Some x) name = bytes_eq x name

abbrev pub has_assign : List Word → Bool
has_assign [] = false
has_assign (Assign ∷ ws) = true
has_assign (w ∷ ws) = has_assign ws

-- declarations

-- a line that declares alone: an object that is external, what is internal and has no `=`, or a function
abbrev pub declares_alone : List Word → Bool
declares_alone (ExternWord ∷ ws) = true
declares_alone (StaticWord ∷ ws) = not (has_assign ws)
declares_alone ws = names_function ws

abbrev pub declares : List Word → Bool
declares ws = if ends_open ws then false else declares_alone ws

abbrev pub declared_with : Bool → Named × List Word → Option Declaration
declared_with internal ((s, Some name), Semicolon ∷ []) = Some (record { name = name; type = s; internal = internal })
declared_with internal _ = None

-- without storage class only a function is declared
abbrev pub only_function : Declaration → Option Declaration
only_function d = if is_function d.type then Some d else None

abbrev pub declaration_from : Bases → ℕ → List Word → Option Declaration
declaration_from bases n (ExternWord ∷ ws) = option_and_then (declared_with false) (read_decl bases n ws)
declaration_from bases n (StaticWord ∷ ws) = option_and_then (declared_with true) (read_decl bases n ws)
declaration_from bases n ws = option_and_then only_function (option_and_then (declared_with false) (read_decl bases n ws))

abbrev pub declaration_first : Declaration → List Declaration × Lines → List Declaration × Lines
declaration_first d r = (d ∷ r.0, r.1)

abbrev pub read_declarations : Bases → ℕ → Lines → LinesReading (List Declaration)
read_declarations bases n [] = Some ([], [])
read_declarations bases n (line ∷ lines) =
    if declares line
    then option_and_then (λ (d : Declaration). option_map (declaration_first d) (read_declarations bases n lines)) (declaration_from bases n line)
    else Some ([], line ∷ lines)

-- objects that are defined

abbrev pub without_static : List Word → List Word
without_static (StaticWord ∷ ws) = ws
without_static ws = ws

-- what the line defines, if it opens no body
abbrev pub own_name : List Word → Option (List ℕ)
own_name ws = if ends_open ws then None else first_name ws

abbrev pub image_end : List Item × List Word → Option Definition
image_end (items, Semicolon ∷ []) = Some (Image items)
image_end _ = None

abbrev pub defined_by : Env → ℕ → Shape → List Word → Option Definition
defined_by env n s (Semicolon ∷ []) = Some Zeros
defined_by env n s (Assign ∷ ws) = option_and_then image_end (read_image env n (Some s) ws)
defined_by env n s _ = None

-- an object by its own line, whose declarator gives the type that is declared (C11 6.7p4)
abbrev pub object_defined : Env → ℕ → Declaration → Named × List Word → Option Definition
object_defined env n d r = if same_shape r.0.0 d.type then defined_by env n d.type r.1 else None

abbrev pub own_definition : Env → ℕ → Declaration → List Word → Option Definition
own_definition env n d line = option_and_then (object_defined env n d) (read_decl (bases env) n (without_static line))

-- what a global is that no later line defines
abbrev pub default_of : Declaration → Definition
default_of d = if is_function d.type then Declared else (if d.internal then Zeros else Declared)

abbrev pub Definitions : Type 0
Definitions = List Definition

abbrev pub definition_first : Definition → Definitions × Lines → Definitions × Lines
definition_first x r = (x ∷ r.0, r.1)

-- each declared global with the line that stands next, if it is its own
abbrev pub read_objects : Env → ℕ → List Declaration → Lines → LinesReading Definitions
read_objects env n [] lines = Some ([], lines)
read_objects env n (d ∷ ds) [] = option_map (definition_first (default_of d)) (read_objects env n ds [])
read_objects env n (d ∷ ds) (line ∷ lines) =
    if is_called (own_name line) d.name
    then option_and_then (λ (x : Definition). option_map (definition_first x) (read_objects env n ds lines)) (own_definition env n d line)
    else option_map (definition_first (default_of d)) (read_objects env n ds (line ∷ lines))

-- functions with bodies

-- names that stand behind no `struct`, `union` or `enum`
abbrev pub plain_names : List Word → List (List ℕ)
plain_names [] = []
plain_names (TagWord kind ∷ []) = []
plain_names (TagWord kind ∷ w ∷ ws) = plain_names ws
plain_names (Name name ∷ ws) = name ∷ plain_names ws
plain_names (w ∷ ws) = plain_names ws

-- the names of a function and of its parameters in the line that opens its body
abbrev pub header_names : List Word → List (List ℕ)
header_names ws = if ends_open ws then plain_names ws else []

abbrev pub begins_with : List (List ℕ) → List ℕ → Bool
begins_with [] name = false
begins_with (x ∷ xs) name = bytes_eq x name

abbrev pub behind_first : List (List ℕ) → List (List ℕ)
behind_first [] = []
behind_first (x ∷ xs) = xs

abbrev pub is_outermost : ℕ → Bool
is_outermost zero = true
is_outermost (suc d) = false

abbrev pub one_less : ℕ → ℕ
one_less zero = zero
one_less (suc d) = d

-- the braces that are open behind a line
abbrev pub moved : List Word → ℕ → ℕ
moved line d = if ends_open line then suc (if is_close line then one_less d else d) else (if is_close line then one_less d else d)

abbrev pub line_first : List Word → Lines × Lines → Lines × Lines
line_first line r = (line ∷ r.0, r.1)

-- lines up to the `}` that closes what is open, and the lines behind it
abbrev pub split_block : ℕ → Lines → Lines × Lines
split_block d [] = ([], [])
split_block d (line ∷ lines) = if is_close line && is_outermost d then ([], lines) else line_first line (split_block (moved line d) lines)

abbrev pub local_of : Named × List Word → Option Local
local_of ((s, Some name), Semicolon ∷ []) = Some (record { name = name; type = Some s })
local_of _ = None

abbrev pub local_first : Local → List Local × Lines → List Local × Lines
local_first x r = (x ∷ r.0, r.1)

-- locals that are no parameters
abbrev pub read_locals : Bases → ℕ → Lines → LinesReading (List Local)
read_locals bases n [] = Some ([], [])
read_locals bases n (line ∷ lines) =
    if is_base line
    then option_and_then (λ (x : Local). option_map (local_first x) (read_locals bases n lines)) (option_and_then local_of (read_decl bases n line))
    else Some ([], line ∷ lines)

abbrev pub params_of : Shape → Shapes
params_of (FuncType ret params proto variadic) = params
params_of _ = NoTypes

abbrev pub param_locals : Shapes → List (List ℕ) → List Local
param_locals (MoreTypes s more) (name ∷ names) = record { name = name; type = Some s } ∷ param_locals more names
param_locals _ _ = []

-- the labels that lines set, in order
abbrev pub labels_in : Lines → List (List ℕ)
labels_in [] = []
labels_in (line ∷ lines) = if is_label line then label_text line ∷ labels_in lines else labels_in lines

-- the names of locals differ, and those of labels (C11 6.2.1p4, 6.8.1p3)
abbrev pub are_apart : List Local → List (List ℕ) → Bool
are_apart locals labels = are_different (map local_name_of locals) && are_different labels

abbrev pub body_with : List (List ℕ) → List Local → List (List ℕ) → Stmts × List Head → Option Body
body_with params locals labels (ss, []) = if are_apart locals labels then Some (record { params = params; locals = locals; labels = labels; stmts = ss }) else None
body_with params locals labels _ = None

abbrev pub read_stmts : Env → ℕ → List (List ℕ) → List Local → Lines → Option Body
read_stmts env n params locals lines =
    option_and_then (body_with params locals (labels_in lines)) (option_and_then (read_nested n) (read_heads (record env { locals = locals }) (labels_in lines) n lines))

abbrev pub read_body : Env → ℕ → Shape → List (List ℕ) → Lines → Option Body
read_body env n type params lines = option_and_then (λ (l : List Local × Lines). read_stmts env n params (param_locals (params_of type) params ++ l.0) l.1) (read_locals (bases env) n lines)

abbrev pub Bodies : Type 0
Bodies = List (Option Body)

abbrev pub body_first : Option Body → Bodies × Lines → Bodies × Lines
body_first b r = (b ∷ r.0, r.1)

-- each declared global with the body that stands next, if it is its own
abbrev pub read_bodies : Env → ℕ → List Declaration → Lines → LinesReading Bodies
read_bodies env n [] lines = Some ([], lines)
read_bodies env n (d ∷ ds) [] = option_map (body_first None) (read_bodies env n ds [])
read_bodies env n (d ∷ ds) (line ∷ lines) =
    if begins_with (header_names line) d.name
    then option_and_then (λ (b : Body). option_map (body_first (Some b)) (read_bodies env n ds (split_block 0 lines).1)) (read_body env n d.type (behind_first (header_names line)) (split_block 0 lines).0)
    else option_map (body_first None) (read_bodies env n ds (line ∷ lines))

-- the whole text

abbrev pub seen_field : SeenMember → Local
seen_field m = record { name = m.name; type = Some m.type }

abbrev pub seen_fields : SeenAggregate → List Local
seen_fields x = if is_enum x.kind then [] else elim x.members [ None ↦ [] | Some ms ↦ map seen_field ms ]

abbrev pub declared_local : Declaration → Local
declared_local d = record { name = d.name; type = Some d.type }

-- what base words are read by, behind the aggregates
abbrev pub bases_from : Abi → List SeenAggregate → Bases
bases_from abi xs = record { abi = abi; tags = map tag_of xs }

abbrev pub env_from : Abi → List SeenAggregate → List Declaration → Env
env_from abi xs ds = record { abi = abi; tags = map tag_of xs; members = map seen_fields xs; globals = map declared_local ds; locals = [] }

abbrev pub definition_with : Definition → Option Body → Definition
definition_with x None = x
definition_with x (Some b) = Function b

abbrev pub assembled : List Declaration → Definitions → Bodies → List GlobalDecl
assembled (d ∷ ds) (x ∷ xs) (b ∷ bs) = record { name = d.name; type = Some d.type; internal = d.internal; definition = definition_with x b } ∷ assembled ds xs bs
assembled _ _ _ = []

-- what the text of a program says: its aggregates and its globals
abbrev pub Seen : Type 0
Seen = List SeenAggregate × List GlobalDecl

abbrev pub seen_end : List SeenAggregate → List Declaration → Definitions → Bodies × Lines → Option Seen
seen_end xs ds definitions (bodies, []) = Some (xs, assembled ds definitions bodies)
seen_end xs ds definitions _ = None

abbrev pub declared_name : Declaration → List ℕ
declared_name d = d.name

-- behind declarations, whose names differ (C11 6.2.1p4)
abbrev pub read_defined : Abi → ℕ → List SeenAggregate → List Declaration × Lines → Option Seen
read_defined abi n xs r =
    if are_different (map declared_name r.0)
    then option_and_then (λ (o : Definitions × Lines). option_and_then (seen_end xs r.0 o.0) (read_bodies (env_from abi xs r.0) n r.0 o.1)) (read_objects (env_from abi xs r.0) n r.0 r.1)
    else None

-- the lines of a text; n bounds the depth of what is read
abbrev pub read_lines : Abi → ℕ → Lines → Option Seen
read_lines abi n lines = option_and_then (λ (r : List SeenAggregate × Lines). option_and_then (read_defined abi n r.0) (read_declarations (bases_from abi r.0) n r.1)) (read_aggregates abi n lines)
