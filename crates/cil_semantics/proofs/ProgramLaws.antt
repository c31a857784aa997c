-- Device: CIL programs have tame bodies, so that the laws of runs hold of them.
use Rattle.std.proofs.Common.{ℕ, Bool, List, [], ◌∷◌, map, Option, Some, None}
use Rattle.byte_mem.specs.declared.values.Byte.{Byte}
use Rattle.byte_mem.specs.Steps.{◌>>=◌}
use Rattle.type_graph.specs.Shapes.{Shape, VoidType, IntType, PtrType, ArrayType, FuncType, AggType}
use Rattle.execution.specs.Data.{Datum}
use Rattle.execution.specs.Calls.{calls}
use Rattle.execution.specs.Linking.{linked}
use Rattle.execution.specs.Likeness.{Same}
use Rattle.execution.specs.Bounds.{Tied, Tame, IsTame, TameUnit, TameUnits}
use Rattle.execution.proofs.CallLaws.{scoped_tied, returns_tied, calls_tied}
use Rattle.execution.proofs.LinkLaws.{linked_tame}
use Rattle.cil_tree.specs.Tree.{Block, Body, Definition, Declared, Zeros, Image, Function, GlobalDecl, Program}
use Rattle.cil_semantics.specs.Runs.{zeros, with_items, object, body_objects, activation_of, body_meaning, function_meaning, is_main, definition_meaning, linkable, linkables}
use Rattle.cil_semantics.proofs.Tameness.{statements_tied}

body_tame : (p : Program) (entities : List ℕ) (b : Body) (end : Datum) → Tame (body_meaning p entities b end)
body_tame p entities b end n more base enter also calm k act s t tw =
    scoped_tied Same n more base act (body_objects p.graph b) _ _ s t tw (λ u v w.
    returns_tied n more base end _ _ (statements_tied (activation_of p entities b act) n more base enter also calm k (Block b.stmts, None) u v w))

object_tame : (o : Option (List Byte)) → IsTame (object o)
object_tame None = tt
object_tame (Some bytes) = tt

function_tame : (p : Program) (entities : List ℕ) (main : Bool) (b : Body) (s : Shape) → IsTame (function_meaning p entities main b s)
function_tame p entities main b VoidType = tt
function_tame p entities main b (IntType kind) = tt
function_tame p entities main b (PtrType q s) = tt
function_tame p entities main b (ArrayType q s bound) = tt
function_tame p entities main b (FuncType ret params proto variadic) = body_tame p entities b _
function_tame p entities main b (AggType a) = tt

definition_tame : (p : Program) (entities : List ℕ) (main : Bool) (s : Shape) (d : Definition) → IsTame (definition_meaning p entities main s d)
definition_tame p entities main s Declared = tt
definition_tame p entities main s Zeros = object_tame (zeros p.graph s)
definition_tame p entities main s (Image items) = object_tame (zeros p.graph s >>= with_items p.graph entities s items)
definition_tame p entities main s (Function body) = function_tame p entities main body s

typed_tame : (p : Program) (x : GlobalDecl) (entities : List ℕ) (o : Option Shape) → IsTame (o >>= λ s. definition_meaning p entities (is_main x) s x.definition)
typed_tame p x entities None = tt
typed_tame p x entities (Some s) = definition_tame p entities (is_main x) s x.definition

globals_tame : (p : Program) (globals : List GlobalDecl) → TameUnit (map (linkable p) globals)
globals_tame p [] = tt
globals_tame p (x ∷ xs) = (λ entities. typed_tame p x entities x.type, globals_tame p xs)

pub programs_tame : (programs : List Program) → TameUnits (map linkables programs)
programs_tame [] = tt
programs_tame (p ∷ ps) = (globals_tame p p.globals, programs_tame ps)

-- calls in linked programs are what they are at every bound
pub calls_steady : (common : Bool) (programs : List Program) (n more : ℕ) (base : List ℕ) → Tied n more base (calls (linked common (map linkables programs))) (calls (linked common (map linkables programs)))
calls_steady common programs = calls_tied (linked common (map linkables programs)) (linked_tame common (map linkables programs) (programs_tame programs))
