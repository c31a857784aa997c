-- Definition: what a list of CIL programs does when it is linked and run: each global is given its meaning by its own program's types (C11 5.1.2, 6.2.4, 6.7.9, 6.9).
use Rattle.std.specs.Prelude.{ℕ, suc, Bool, true, false, ◌&&◌, not, codes, List, [], ◌∷◌, length, drop, map, replicate, Option, Some, None, option_map}
use Rattle.std.specs.Str.{bytes_eq}
use Rattle.cil_base.specs.declared.constants.Constant.{Constant}
use Rattle.cil_base.specs.declared.kinds.Mode.{Mode}
use Rattle.cil_base.specs.declared.runs.Outcome.{Outcome}
use Rattle.type_graph.specs.Shapes.{Shape, Shapes, FuncType}
use Rattle.type_graph.specs.Arena.{Graph}
use Rattle.byte_mem.specs.declared.values.Byte.{Byte}
use Rattle.byte_mem.specs.declared.values.Byte.TheVariants.{Known}
use Rattle.byte_mem.specs.Steps.{◌>>=◌}
use Rattle.byte_mem.specs.Scalar.{bytes_of}
use Rattle.byte_mem.specs.Object.{with_part}
use Rattle.execution.specs.States.{State, Result}
use Rattle.execution.specs.Data.{Kind, Datum, Automatic}
use Rattle.execution.specs.Calls.{Enter, Meaning, Object, Code, scoped, value_at_end, returns}
use Rattle.execution.specs.Linking.{Linkable}
use Rattle.execution.specs.Runs.{run, units_spent, finds_end}
use Rattle.typed_values.specs.Values as typed
use Rattle.typed_values.specs.Units.{constant_value, start_of}
use Rattle.cil_tree.specs.Tree.{Block, Item, Local, Body, Definition, Declared, Zeros, Image, Function, GlobalDecl, Program}
use Rattle.cil_tree.specs.Typing.{scope_of, is_function}
use Rattle.cil_tree.specs.Globals.{Part, path_part}
use Rattle.cil_semantics.specs.Values.{Activation, sizes_of, size_in, kind_in, scalar_in}
use Rattle.cil_semantics.specs.Statements.{statement}

abbrev pub item_written : Graph → List ℕ → Constant → Part → List Byte → Option (List Byte)
item_written g entities c part bytes = scalar_in g part.0 >>= λ t. constant_value entities c >>= λ v. Some (with_part part.1 (bytes_of g.abi t v) bytes)

-- the bytes with one scalar's value in its place; offsets are not held against any size (own)
abbrev pub with_item : Graph → List ℕ → Shape → Item → List Byte → Option (List Byte)
with_item g entities s x bytes = path_part g x.path (s, 0) >>= λ part. item_written g entities x.value part bytes

abbrev pub with_items : Graph → List ℕ → Shape → List Item → List Byte → Option (List Byte)
with_items g entities s [] bytes = Some bytes
with_items g entities s (x ∷ xs) bytes = with_item g entities s x bytes >>= with_items g entities s xs

-- C11 6.7.9p10, 6.2.4p3: an object with static storage duration begins with zero bytes (padding too, own)
abbrev pub zeros : Graph → Shape → Option (List Byte)
zeros g s = size_in g s >>= λ n. Some (replicate n (Known 0))

abbrev pub object : Option (List Byte) → Option Meaning
object bytes = option_map (Object false) bytes

abbrev pub kinds_of : Graph → Shapes → List (Option Kind)
kinds_of g params = typed.kinds_of (sizes_of g) params

-- the objects of an activation behind its arguments: the locals from number i on, of complete types
abbrev pub with_object : ℕ → Option ℕ → List Automatic → List Automatic
with_object i None more = more
with_object i (Some size) more = record { number = i; size = size } ∷ more

abbrev pub objects_from : Graph → ℕ → List Local → List Automatic
objects_from g i [] = []
objects_from g i (x ∷ xs) = with_object i (x.type >>= size_in g) (objects_from g (suc i) xs)

abbrev pub body_objects : Graph → Body → List Automatic
body_objects g b = objects_from g (length b.params) (drop (length b.params) b.locals)

abbrev pub activation_of : Program → List ℕ → Body → ℕ → Activation
activation_of p entities b act = record { scope = scope_of p b; entities = entities; number = act }

-- C11 6.9.1: what a body does in an activation; its locals live as long as that (own: whichever block they were declared in)
abbrev pub body_meaning : Program → List ℕ → Body → Datum → Enter → ℕ → State → Result Datum
body_meaning p entities b end enter act s =
    scoped act (body_objects p.graph b) (λ t. returns end (statement (activation_of p entities b act) enter (Block b.stmts) None t)) s

abbrev pub function_meaning : Program → List ℕ → Bool → Body → Shape → Option Meaning
function_meaning p entities main b (FuncType ret params proto variadic) =
    Some (Code (record {
      abi = p.graph.abi;
      parameters = kinds_of p.graph params;
      result = kind_in p.graph ret;
      start = start_of (FuncType ret params proto variadic);
      body = body_meaning p entities b (value_at_end main (kind_in p.graph ret));
    }))
function_meaning p entities main b _ = None

-- whether a global is the function that a run begins with (C11 5.1.2.2.1p1)
abbrev pub is_main : GlobalDecl → Bool
is_main x = not x.internal && bytes_eq x.name (codes "main")

abbrev pub definition_meaning : Program → List ℕ → Bool → Shape → Definition → Option Meaning
definition_meaning p entities main s Declared = None
definition_meaning p entities main s Zeros = object (zeros p.graph s)
definition_meaning p entities main s (Image items) = object (zeros p.graph s >>= with_items p.graph entities s items)
definition_meaning p entities main s (Function body) = function_meaning p entities main body s

abbrev pub global_meaning : Program → GlobalDecl → List ℕ → Option Meaning
global_meaning p x entities = x.type >>= λ s. definition_meaning p entities (is_main x) s x.definition

abbrev pub has_function_type : Option Shape → Bool
has_function_type None = false
has_function_type (Some s) = is_function s

-- C11 6.9.2p2: a definition by tentative definitions alone has no initialiser, and is so in CIL's text; one with an initialiser has its image
abbrev pub is_tentative : Definition → Bool
is_tentative Declared = false
is_tentative Zeros = true
is_tentative (Image items) = false
is_tentative (Function body) = false

abbrev pub linkable : Program → GlobalDecl → Linkable
linkable p x = record { internal = x.internal; name = x.name; function = has_function_type x.type; tentative = is_tentative x.definition; means = global_meaning p x }

abbrev pub linkables : Program → List Linkable
linkables p = map (linkable p) p.globals

-- the outcome of programs that are linked and run in a mode, with those words and that input, within so many units
abbrev pub RunCil : List Program → Mode → List (List ℕ) → List ℕ → ℕ → Outcome
RunCil programs mode words input n = run (map linkables programs) mode words input n

-- the units that such a run has spent
abbrev pub UnitsSpent : List Program → Mode → List (List ℕ) → List ℕ → ℕ → ℕ
UnitsSpent programs mode words input n = units_spent (map linkables programs) mode words input n

-- whether a call of getchar in such a run has found no input left
abbrev pub FindsEnd : List Program → Mode → List (List ℕ) → List ℕ → ℕ → Bool
FindsEnd programs mode words input n = finds_end (map linkables programs) mode words input n
