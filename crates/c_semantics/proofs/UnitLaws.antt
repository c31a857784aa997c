-- Device: units have tame bodies, so that the laws of runs hold of them.
use Rattle.std.proofs.Common.{ℕ, suc, ◌≤◌, Bool, List, [], ◌∷◌, take, Option, Some, None}
use Rattle.cil_base.specs.declared.kinds.Abi.{Abi}
use Rattle.cil_base.specs.declared.kinds.Mode.{Mode}
use Rattle.byte_mem.specs.declared.values.Byte.{Byte}
use Rattle.byte_mem.specs.Steps.{◌>>=◌}
use Rattle.type_graph.specs.Shapes.{Shape, VoidType, IntType, PtrType, ArrayType, FuncType, AggType}
use Rattle.execution.specs.States.{with_memory}
use Rattle.execution.specs.Data.{Datum}
use Rattle.execution.specs.Unrolling.{meaning}
use Rattle.execution.specs.Loops.{Entered}
use Rattle.execution.specs.Calls.{Enter, calls}
use Rattle.execution.specs.Linking.{linked}
use Rattle.execution.specs.Likeness.{Needs}
use Rattle.execution.specs.Bounds.{cut_at, Tied, Calm, Tame, IsTame, TameUnit, TameUnits}
use Rattle.execution.proofs.Congruence.{needs}
use Rattle.execution.proofs.FixedPoint.{calm_grows}
use Rattle.execution.proofs.CallLaws.{returns_tied, calls_tied}
use Rattle.execution.proofs.LinkLaws.{linked_tame}
use Rattle.typed_tree.specs.Units.{Definition, Declared, Zero, Initialised, Body, Function, Local}
use Rattle.c_tree.specs.Units.{Compound, UnitTree}
use Rattle.c_rules.specs.Types.{Types}
use Rattle.c_typing.specs.Scopes.{Entity, Env, Found, Good, Bad}
use Rattle.c_typing.specs.Faults.{walked, start_env}
use Rattle.c_semantics.specs.Places.{Activation}
use Rattle.c_semantics.specs.Statements.{part_step, c_meaning}
use Rattle.c_semantics.specs.Units.{Source, sources, protect_parameters, activation, body_meaning, function_meaning, zeros, image, object, source_of, is_main, Translated, definition_meaning, linkables_from, linkables_of, linkables}
use Rattle.c_semantics.specs.Literals.{literals_in_unit}
use Rattle.c_semantics.proofs.Matched.{Matched, memory_matched, bind_matched}
use Rattle.c_semantics.proofs.StatementsMatch.{block_m}
use Rattle.c_semantics.proofs.Tameness.{parts_tied, parts_calm}

-- the body of a function, behind the protection of its parameters
body_matched : (a : Activation) (x : Source) (ps : List Local) (n more : ℕ) (base : List ℕ) (enter also : Enter) → Needs (cut_at more) (Calm also) → ((m : ℕ) → m ≤ n → Tied m more base enter also)
    → Matched n more base (λ t. c_meaning a enter (Entered (Compound x.at x.items) x.here) None (with_memory t (protect_parameters a 0 ps t.memory))) (λ t. c_meaning a also (Entered (Compound x.at x.items) x.here) None (with_memory t (protect_parameters a 0 ps t.memory)))
body_matched a x ps n more base enter also calm k = bind_matched {A = Unit {0}} {next = λ u. c_meaning a enter (Entered (Compound x.at x.items) x.here) None} {also = λ u. c_meaning a also (Entered (Compound x.at x.items) x.here) None}
    (memory_matched tt (λ m. Some (protect_parameters a 0 ps m)))
    (λ u. record { like = parts_tied a n more base enter also calm k (Entered (Compound x.at x.items) x.here, None); grows = needs (cut_at more) (λ g t. calm_grows (meaning (part_step a also)) (parts_calm a also g) (Entered (Compound x.at x.items) x.here, None) t) calm })

body_tame : (t : Types) (entities : List ℕ) (f : Function) (x : Source) (end : Datum) → Tame (body_meaning t entities f x end)
body_tame t entities f x end n more base enter also calm k act s u tw =
    returns_tied n more base end _ _ ((block_m (activation t entities f act) x.items x.here _ _ (body_matched (activation t entities f act) x (take f.params f.locals) n more base enter also calm k)).like s u tw)

function_tame : (t : Types) (entities : List ℕ) (main : Bool) (f : Function) (x : Source) (s : Shape) → IsTame (function_meaning t entities main f x s)
function_tame t entities main f x VoidType = tt
function_tame t entities main f x (IntType kind) = tt
function_tame t entities main f x (PtrType q s) = tt
function_tame t entities main f x (ArrayType q s bound) = tt
function_tame t entities main f x (FuncType ret params proto variadic) = body_tame t entities f x _
function_tame t entities main f x (AggType a) = tt

object_tame : (compound : List ℕ) (e : Entity) (o : Option (List Byte)) → IsTame (object compound e o)
object_tame compound e None = tt
object_tame compound e (Some bytes) = tt

sourced_tame : (t : Types) (entities : List ℕ) (main : Bool) (f : Function) (s : Shape) (o : Option Source) → IsTame (o >>= λ x. function_meaning t entities main f x s)
sourced_tame t entities main f s None = tt
sourced_tame t entities main f s (Some x) = function_tame t entities main f x s

definition_tame : (u : Translated) (i : ℕ) (e : Entity) (entities : List ℕ) (d : Definition) → IsTame (definition_meaning u i e entities d)
definition_tame u i e entities Declared = tt
definition_tame u i e entities Zero = object_tame u.compound e (zeros u.env.types e.type.shape)
definition_tame u i e entities (Initialised is) = object_tame u.compound e (zeros u.env.types e.type.shape >>= image u.env.types entities e.type.shape is)
definition_tame u i e entities (Body f) = sourced_tame u.env.types entities (is_main u.env.texts e) f e.type.shape (source_of i u.functions)

-- units

entities_tame : (u : Translated) (i : ℕ) (es : List Entity) → TameUnit (linkables_from u i es)
entities_tame u i [] = tt
entities_tame u i (e ∷ es) = (λ entities. definition_tame u i e entities e.definition, entities_tame u (suc i) es)

walked_tame : (texts : List (List ℕ)) (abi : Abi) (unit : UnitTree) (r : Found ((Unit {0}) × Env)) → TameUnit (linkables_of texts abi unit r)
walked_tame texts abi unit (Bad fault at) = tt
walked_tame texts abi unit (Good x) = entities_tame (record { env = x.1; functions = sources unit (start_env texts abi); compound = literals_in_unit unit }) 0 x.1.entities

pub units_tame : (texts : List (List ℕ)) (abi : Abi) (units : List UnitTree) → TameUnits (linkables texts abi units)
units_tame texts abi [] = tt
units_tame texts abi (u ∷ us) = (walked_tame texts abi u (walked texts abi u), units_tame texts abi us)

-- calls in linked units are what they are at every bound
pub calls_steady : (texts : List (List ℕ)) (mode : Mode) (units : List UnitTree) (n more : ℕ) (base : List ℕ) → Tied n more base (calls (linked mode.common (linkables texts mode.abi units))) (calls (linked mode.common (linkables texts mode.abi units)))
calls_steady texts mode units = calls_tied (linked mode.common (linkables texts mode.abi units)) (linked_tame mode.common (linkables texts mode.abi units) (units_tame texts mode.abi units))
