-- Device: globals while they are read, and the readings of their lines by the code's steps.
use Rattle.std.specs.Prelude.{◌≡◌, ℕ, ◌<◌, Bool, true, false, if◌then◌else◌, List, [], ◌∷◌, ◌++◌, Option, Some, None, map}
use Rattle.std.specs.Option.{option_map}
use denote.Ref.{Bor}
use Rattle.type_graph.specs.declared.nodes.Node.{Node}
use Rattle.type_graph.specs.Shapes.{Shape, shape}
use Rattle.type_graph.specs.Arena.{Graph}
use Rattle.type_graph.specs.Growth.{Grows}
use Rattle.cil_tree.specs.declared.globals.GlobalDecl.{GlobalDecl as SeenGlobal}
use Rattle.cil_tree.specs.declared.globals.GlobalDef.{GlobalDef}
use Rattle.cil_tree.specs.Tree.{Local, Definition, GlobalDecl}
use Rattle.cil_tree.specs.Names.{is_among, are_different, local_name_of}
use Rattle.cil_tree.specs.View.{text_at, definition_of, global_of}
use Rattle.cil_text.specs.ReadExps.{Env}
use Rattle.cil_text.specs.ReadAggregates.{Lines, LinesReading}
use Rattle.cil_text.specs.ReadGlobals.{Declaration, Definitions, is_called, own_definition, default_of, read_objects, declared_name, declared_local}
use Rattle.cil_reader.specs.declared.globals.Declaration.{Declaration as SeenDeclaration}
use Rattle.cil_reader.specs.declared.globals.Waiting.{Waiting}
use Rattle.cil_scan.specs.Said.{all_lines}
use Rattle.cil_forms.specs.LineKinds.{next_name}
use Rattle.cil_reader.specs.Pools.{KeepsNames}

-- the types of declarations are among the first n
abbrev pub EachDeclared : ℕ → List SeenDeclaration → Type 0
EachDeclared n [] = Unit {0}
EachDeclared n (d ∷ ds) = (d.ty.0 < n) × EachDeclared n ds

abbrev pub declaration_of : List Node → SeenDeclaration → Declaration
declaration_of nodes d = record { name = d.name.now; type = shape nodes d.ty.0; internal = d.internal }

abbrev pub declarations_of : List Node → List SeenDeclaration → List Declaration
declarations_of nodes ds = map (declaration_of nodes) ds

-- the types of declarations
abbrev pub types_declared : List Node → List SeenDeclaration → List Shape
types_declared nodes [] = []
types_declared nodes (d ∷ ds) = shape nodes d.ty.0 ∷ types_declared nodes ds

abbrev pub declaration_behind : List Declaration → Declaration → List Declaration
declaration_behind ds d = ds ++ d ∷ []

-- declarations behind others
abbrev pub declarations_behind : List Declaration → List Declaration × Lines → List Declaration × Lines
declarations_behind ds r = (ds ++ r.0, r.1)

-- globals with their types, if their names differ
abbrev pub named_apart : List Declaration → Option (List Local)
named_apart ds = if are_different (map declared_name ds) then Some (map declared_local ds) else None

-- the same, one by one behind those that are known
abbrev pub names_on : List Local → List Declaration → Option (List Local)
names_on done [] = Some done
names_on done (d ∷ ds) = if is_among (map local_name_of done) d.name then None else names_on (done ++ declared_local d ∷ []) ds

-- an object by the line that stands next
abbrev pub next_definition : Env → ℕ → Declaration → Lines → Option Definition
next_definition env n d [] = None
next_definition env n d (line ∷ lines) = own_definition env n d line

abbrev pub behind_line : Lines → Lines
behind_line [] = []
behind_line (line ∷ lines) = lines

-- a declared global with what defines it
abbrev pub global_with : Declaration → Definition → GlobalDecl
global_with d x = record { name = d.name; type = Some d.type; internal = d.internal; definition = x }

abbrev pub defined_line : Declaration → Lines → Definition → GlobalDecl × Lines
defined_line d lines x = (global_with d x, behind_line lines)

abbrev pub global_from : Env → ℕ → Declaration → Lines → Bool → LinesReading GlobalDecl
global_from env n d lines true = option_map (defined_line d lines) (next_definition env n d lines)
global_from env n d lines false = Some (global_with d (default_of d), lines)

-- a declared global with the line that stands next, if it is its own
abbrev pub one_global : Env → ℕ → Declaration → Lines → LinesReading GlobalDecl
one_global env n d lines = global_from env n d lines (is_called (next_name lines) d.name)

abbrev pub globals_from : List Declaration → Definitions → List GlobalDecl
globals_from (d ∷ ds) (x ∷ xs) = global_with d x ∷ globals_from ds xs
globals_from _ _ = []

abbrev pub globals_with : List Declaration → Definitions × Lines → List GlobalDecl × Lines
globals_with ds r = (globals_from ds r.0, r.1)

-- declared globals, each with the line that stands next, if it is its own
abbrev pub objects_left : Env → ℕ → List Declaration → Lines → LinesReading (List GlobalDecl)
objects_left env n ds lines = option_map (globals_with ds) (read_objects env n ds lines)

-- globals behind others
abbrev pub globals_behind : List GlobalDecl → List GlobalDecl × Lines → List GlobalDecl × Lines
globals_behind xs r = (xs ++ r.0, r.1)

-- a definition without a body: it has neither types nor names
pub record DefinitionFlat (x : GlobalDef) : Type 0 where
  pub steady : (nodes : List Node) (names : List (List ℕ)) → definition_of nodes names x ≡ definition_of [] [] x

-- a declared global with this definition, whose name has its text in this pool and in each later one
pub record IsGlobal (pool : List (List ℕ)) (d : SeenDeclaration) (def : GlobalDef) (x : SeenGlobal) : Type 0 where
  pub name : (later : List (List ℕ)) → KeepsNames pool later → text_at later x.name ≡ d.name.now
  pub type : x.ty ≡ d.ty
  pub internal : x.internal ≡ d.internal
  pub definition : x.def ≡ def

-- a global that is seen as one tree in each later graph and pool
pub record GlobalKnown (g : Graph) (pool : List (List ℕ)) (x : SeenGlobal) : Type 0 where
  pub steady : (h : Graph) (later : List (List ℕ)) → Grows g h → KeepsNames pool later → global_of h.nodes later x ≡ global_of g.nodes pool x

abbrev pub globals_of : List Node → List (List ℕ) → List SeenGlobal → List GlobalDecl
globals_of nodes pool xs = map (global_of nodes pool) xs

pub record GlobalsKnown (g : Graph) (pool : List (List ℕ)) (xs : List SeenGlobal) : Type 0 where
  pub steady : (h : Graph) (later : List (List ℕ)) → Grows g h → KeepsNames pool later → globals_of h.nodes later xs ≡ globals_of g.nodes pool xs

-- lines, and what the first one defines
pub record WaitingKnown (w : Waiting) : Type 0 where
  pub line : option_map (λ (n : Bor (List ℕ)). n.now) w.next ≡ next_name (all_lines w.lines.now)
