-- Device: the entries of a table are what the globals of a unit mean.
use Rattle.std.proofs.Common.{◌≡◌, ℕ, ◌<◌, Bool, true, List, length, is_some, Option, Some, None, refl, sym, subst}
use Rattle.byte_mem.specs.declared.values.Byte.{Byte}
use Rattle.byte_mem.specs.Steps.{◌>>=◌}
use Rattle.type_graph.specs.Shapes.{Shape, Shapes, FuncType, shape}
use Rattle.execution.specs.Calls as meaning
use Rattle.execution.specs.Calls.{Enter, value_at_end, Code}
use Rattle.cil_tree.specs.declared.globals.GlobalDecl.{GlobalDecl}
use Rattle.cil_tree.specs.Tree as plain
use Rattle.cil_tree.specs.Tree.{Program, Body, Definition, Declared, Zeros, Image, Function}
use Rattle.cil_tree.specs.Typing.{scope_of}
use Rattle.cil_tree.specs.View.{global_of}
use Rattle.cil_tree.specs.Globals.{global_fits, has_definition, object_is_complete, definition_fits}
use Rattle.cil_semantics.specs.Units.{IsUnit}
use Rattle.cil_semantics.specs.Values.{kind_in}
use Rattle.typed_values.specs.Units.{start_of}
use Rattle.cil_semantics.specs.Runs.{zeros, with_items, object, is_main, kinds_of, body_meaning, definition_meaning}
use Rattle.cil_semantics.specs.Laws.{calls_in}
use Rattle.cil_control.specs.Remains.{Remains}
use Rattle.cil_code.specs.Taking.{datum_of}
use Rattle.cil_code.specs.Running.{remains_at}
use Rattle.cil_code.proofs.Fitting.{fitting_bodies_run}
use Rattle.cil_frames.specs.declared.frames.Function as loaded
use Rattle.cil_frames.specs.declared.frames.Entity.{Entity}
use Rattle.cil_frames.specs.declared.frames.Entity.TheVariants.{Data as OfData, Program as OfProgram}
use Rattle.cil_frames.specs.Frames.{IsFunction, IsEntity}
use Rattle.cil_frames.specs.Loaded.{IsLoaded}
use Rattle.cil_frames.proofs.Loaded.{loaded_functions_are_meant}
use Rattle.cil_link.specs.Entities.{InRun}
use Rattle.cil_start.specs.declared.loaded.Loaded.{Loaded}
use Rattle.cil_start.specs.Loads.{program_in, IsReady}
use Rattle.cil_link.proofs.Definitions.{definition_there}
use Rattle.cil_link.proofs.Programs.{Fits, global_is, each_at}
use Rattle.cil_table.specs.Parts.{HasParts}
use Rattle.cil_table.specs.Courses.{function_course}
use Rattle.cil_table.specs.Entries.{IsGlobal, IsGlobalEntry}

pub global_fit : (p : Program) (x : plain.GlobalDecl) → IsUnit p → IsGlobal p x → global_fits p x ≡ true
global_fit p x is g = each_at (global_fits p) p.globals g.number x is.globals g.there

-- what is known of a global of a program that is loaded
pub fits : (l : Loaded) (x : GlobalDecl) → IsReady l → IsGlobal (program_in l) (global_of l.unit.now.graph.nodes l.names.now x) → Fits (program_in l) x.ty.0 (global_of l.unit.now.graph.nodes l.names.now x)
fits l x ready g = global_is l.unit.now l.names.now x (global_fit (program_in l) (global_of l.unit.now.graph.nodes l.names.now x) ready.program g)

pub type_there : (l : Loaded) (x : GlobalDecl) → IsReady l → IsGlobal (program_in l) (global_of l.unit.now.graph.nodes l.names.now x) → x.ty.0 < length l.unit.now.graph.nodes
type_there l x ready g = (fits l x ready g).there

-- an object of the program
abbrev pub IsObject : Definition → Type 0
IsObject Declared = ⊥
IsObject Zeros = Unit {0}
IsObject (Image items) = Unit {0}
IsObject (Function b) = ⊥

object_entry : (u : InRun) (programs : List Program) (at : ℕ → ℕ → Remains) (o : Option (List Byte)) → is_some (object o) ≡ true → IsEntity u.program.graph.abi (calls_in programs) at (object o) (Some OfData)
object_entry u programs at None e = cc
object_entry u programs at (Some bytes) e = refl

-- each global of the program has a number in the run
abbrev AllNumbered : InRun → Type 0
AllNumbered u = length u.entities ≡ length u.program.globals

data_by : (u : InRun) (programs : List Program) (main : Bool) (t : ℕ) (d : Definition) → IsUnit u.program → AllNumbered u → has_definition (shape u.program.graph.nodes t) d ≡ true → object_is_complete u.program.graph (shape u.program.graph.nodes t) d ≡ true
    → definition_fits u.program (shape u.program.graph.nodes t) d ≡ true → IsObject d
    → IsEntity u.program.graph.abi (calls_in programs) (function_course programs u main (Some (shape u.program.graph.nodes t)) d) (definition_meaning u.program u.entities main (shape u.program.graph.nodes t) d) (Some OfData)
data_by u programs main t Declared is all has complete fit o = absurd o
data_by u programs main t Zeros is all has complete fit o =
    object_entry u programs (function_course programs u main (Some (shape u.program.graph.nodes t)) Zeros) (zeros u.program.graph (shape u.program.graph.nodes t))
    (definition_there u.program u.entities all t main Zeros is.arena has complete fit refl)
data_by u programs main t (Image items) is all has complete fit o =
    object_entry u programs (function_course programs u main (Some (shape u.program.graph.nodes t)) (Image items)) (zeros u.program.graph (shape u.program.graph.nodes t) >>= with_items u.program.graph u.entities (shape u.program.graph.nodes t) items)
    (definition_there u.program u.entities all t main (Image items) is.arena has complete fit refl)
data_by u programs main t (Function b) is all has complete fit o = absurd o

pub data_entry : (u : InRun) (x : plain.GlobalDecl) (t : ℕ) → IsUnit u.program → AllNumbered u → Fits u.program t x → IsObject x.definition → IsGlobalEntry u x (Some OfData)
data_entry u x t is all f o = λ programs.
    subst (λ (s : Option Shape). IsEntity u.program.graph.abi (calls_in programs) (function_course programs u (is_main x) s x.definition) (s >>= λ s. definition_meaning u.program u.entities (is_main x) s x.definition) (Some OfData)) (sym f.type)
    (data_by u programs (is_main x) t x.definition is all f.has f.complete f.definition o)

-- the entry of a global with a body, by its type
abbrev pub BodyEntry : InRun → List Program → Bool → Option Shape → Body → Option Entity → Type 0
BodyEntry u programs main t b e = IsEntity u.program.graph.abi (calls_in programs) (function_course programs u main t (Function b)) (t >>= λ s. definition_meaning u.program u.entities main s (Function b)) e

body_entry : (u : InRun) (x : plain.GlobalDecl) (b : Body) (s : Shape) (e : Option Entity) → x.definition ≡ Function b → x.type ≡ Some s → ((programs : List Program) → BodyEntry u programs (is_main x) (Some s) b e) → IsGlobalEntry u x e
body_entry u x b s e definition type h = λ programs.
    subst (λ (d : Definition). IsEntity u.program.graph.abi (calls_in programs) (function_course programs u (is_main x) x.type d) (x.type >>= λ s. definition_meaning u.program u.entities (is_main x) s d) e) (sym definition)
    (subst (λ (t : Option Shape). BodyEntry u programs (is_main x) t b e) (sym type) (h programs))

-- what is known of a loaded function
is_loaded : (u : InRun) (programs : List Program) (x : plain.GlobalDecl) (b : Body) (main : Bool) (ret : Shape) (params : Shapes) (f : loaded.Function) → IsUnit u.program → IsGlobal u.program x → x.definition ≡ Function b
    → HasParts (scope_of u.program b) u.entities main b ret params f → IsLoaded programs u.program u.entities main b ret params f
is_loaded u programs x b main ret params f is g definition parts = record {
  runs = fitting_bodies_run u.program is g.number x b g.there definition programs u.entities (datum_of f.end) f.code.items parts.steps;
  end = parts.end;
  parameters = parts.parameters;
  result = parts.result;
  objects = parts.objects;
  leads = parts.leads;
  there = parts.there;
}

-- what a function of the program is to calls
abbrev function_of : InRun → Bool → Body → Shape → Shapes → Bool → Bool → meaning.Function
function_of u main b ret params proto variadic = record {
  abi = u.program.graph.abi;
  parameters = kinds_of u.program.graph params;
  result = kind_in u.program.graph ret;
  start = start_of (FuncType ret params proto variadic);
  body = body_meaning u.program u.entities b (value_at_end main (kind_in u.program.graph ret));
}

function_by : (u : InRun) (programs : List Program) (main : Bool) (b : Body) (ret : Shape) (params : Shapes) (proto variadic : Bool) (f : loaded.Function) → IsLoaded programs u.program u.entities main b ret params f
    → BodyEntry u programs main (Some (FuncType ret params proto variadic)) b (Some (OfProgram f))
function_by u programs main b ret params proto variadic f is =
    subst (λ end. IsFunction u.program.graph.abi (calls_in programs) (λ act. remains_at programs (scope_of u.program b) u.entities act end b.stmts) (function_of u main b ret params proto variadic) f) is.end
    (loaded_functions_are_meant programs u.program u.entities main b ret params proto variadic (function_of u main b ret params proto variadic) f refl is)

-- a loaded function is what its global means
pub function_entry : (u : InRun) (x : plain.GlobalDecl) (b : Body) (ret : Shape) (params : Shapes) (proto variadic : Bool) (f : loaded.Function) → IsUnit u.program → IsGlobal u.program x
    → x.definition ≡ Function b → x.type ≡ Some (FuncType ret params proto variadic) → HasParts (scope_of u.program b) u.entities (is_main x) b ret params f → IsGlobalEntry u x (Some (OfProgram f))
function_entry u x b ret params proto variadic f is g definition type parts =
    body_entry u x b (FuncType ret params proto variadic) (Some (OfProgram f)) definition type
    (λ programs. function_by u programs (is_main x) b ret params proto variadic f (is_loaded u programs x b (is_main x) ret params f is g definition parts))
