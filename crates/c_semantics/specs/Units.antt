-- Definition: what a list of translation units does when it is linked and run: each object and function has its meaning by its own unit's types (C11 5.1.2, 6.2.4, 6.7.9, 6.9).
use Rattle.std.specs.Prelude.{ℕ, suc, Bool, true, false, not, ◌&&◌, ◌||◌, nat_eq, codes, List, [], ◌∷◌, ◌++◌, length, take, map, replicate, Option, Some, None, option_map, slice_get, is_some}
use Rattle.std.specs.Str.{bytes_eq}
use Rattle.cil_base.specs.declared.constants.Constant.{Constant}
use Rattle.cil_base.specs.declared.kinds.Abi.{Abi}
use Rattle.cil_base.specs.declared.kinds.Mode.{Mode}
use Rattle.cil_base.specs.declared.numbers.NameId.{NameId}
use Rattle.cil_base.specs.declared.runs.Outcome.{Outcome}
use Rattle.byte_mem.specs.declared.values.Byte.{Byte}
use Rattle.byte_mem.specs.declared.values.Byte.TheVariants.{Known}
use Rattle.byte_mem.specs.Steps.{◌>>=◌}
use Rattle.byte_mem.specs.Scalar.{bytes_of}
use Rattle.byte_mem.specs.Object.{with_part}
use Rattle.byte_mem.specs.Memory.{Memory, protect}
use Rattle.type_graph.specs.Shapes.{Shape, VoidType, IntType, PtrType, ArrayType, FuncType, AggType}
use Rattle.execution.specs.States.{State, with_memory, Result}
use Rattle.execution.specs.Data.{Datum}
use Rattle.execution.specs.Loops.{Entered}
use Rattle.execution.specs.Calls.{Enter, Meaning, Object, Code, value_at_end, returns}
use Rattle.execution.specs.Linking.{Linkable}
use Rattle.execution.specs.Runs.{run, units_spent, finds_end}
use Rattle.typed_tree.specs.Tree.{Inits, NoInits, MoreInits, Zero, Scalar, Constant', Aggregate, Bytes}
use Rattle.typed_tree.specs.Units.{Definition, Declared, Zero as ZeroBytes, Initialised, Body, Function as TypedFunction, Local}
use Rattle.c_tree.specs.Units.{BlockItems, Compound, ExternalTree, Definition as FunctionDefinition, External as ExternalDeclaration, UnitTree}
use Rattle.c_rules.specs.Types.{Types, is_function, size_in, any_of}
use Rattle.c_typing.specs.Initialisers.{Path}
use Rattle.c_typing.specs.Scopes.{Linkage, External, Internal, NoLinkage, Entity, Env, Found, Good, Bad}
use Rattle.c_typing.specs.Statements.{labels_in_items}
use Rattle.c_typing.specs.Faults.{external, walked, start_env, is_only_tentative}
use Rattle.typed_values.specs.Units.{constant_value, start_of}
use Rattle.c_semantics.specs.Values.{kind_of, scalar_of, kinds_of, part_from, is_const, known_bytes}
use Rattle.c_semantics.specs.Places.{Activation, Here, local_of}
use Rattle.c_semantics.specs.Walks.{opens_function}
use Rattle.c_semantics.specs.Literals.{literals_in_unit}
use Rattle.c_semantics.specs.Statements.{block, c_meaning}

-- functions (6.9.1)

-- the body of a function of the unit, with its first token, and what is declared where it begins
pub record Source : Type 0 where
  pub entity : ℕ
  pub at : ℕ
  pub items : BlockItems
  pub here : Here

abbrev pub source_at : ℕ → BlockItems → Found (Option (ℕ × Shape) × Env) → List Source
source_at at body (Bad fault token) = []
source_at at body (Good x) = of x.0 x.1
  where
    of : Option (ℕ × Shape) → Env → List Source
    of None env = []
    of (Some f) env = record { entity = f.0; at = at; items = body; here = record { env = env; arrays = 0; place = record { result = f.1; labels = labels_in_items body; in_loop = false; in_breakable = false } } } ∷ []

abbrev pub source_in : ExternalTree → Env → List Source
source_in (FunctionDefinition at ss d declarations body_at body) env = source_at body_at body (opens_function ss d env)
source_in (ExternalDeclaration d) env = []

abbrev pub env_behind : {A : Type 0} → Env → Found (A × Env) → Env
env_behind env (Good x) = x.1
env_behind env (Bad fault at) = env

-- the functions that a unit defines
abbrev pub sources : UnitTree → Env → List Source
sources [] env = []
sources (x ∷ xs) env = source_in x env ++ sources xs (env_behind env (external x env))

abbrev pub source_of : ℕ → List Source → Option Source
source_of n [] = None
source_of n (x ∷ xs) = elim (nat_eq n x.entity) [ true ↦ Some x | false ↦ source_of n xs ]

-- a parameter that is defined with a const type is read-only behind its argument (6.7.3p6, 6.9.1p9)
abbrev pub protect_one : Activation → ℕ → Bool → Memory → Memory
protect_one a n false m = m
protect_one a n true m = protect m (local_of a n) true

abbrev pub protect_parameters : Activation → ℕ → List Local → Memory → Memory
protect_parameters a n [] m = m
protect_parameters a n (l ∷ ls) m = protect_parameters a (suc n) ls (protect_one a n (is_const (record { quals = l.quals; shape = l.shape })) m)

abbrev pub activation : Types → List ℕ → TypedFunction → ℕ → Activation
activation t entities f act = record { types = t; entities = entities; number = act; locals = length f.locals; literals = length f.literals }

-- what a body does in an activation (6.9.1)
abbrev pub body_in : Activation → Source → List Local → Datum → Enter → State → Result Datum
body_in a x parameters end enter s =
    returns end (block a x.items x.here (λ t. c_meaning a enter (Entered (Compound x.at x.items) x.here) None (with_memory t (protect_parameters a 0 parameters t.memory))) s)

abbrev pub body_meaning : Types → List ℕ → TypedFunction → Source → Datum → Enter → ℕ → State → Result Datum
body_meaning t entities f x end enter act s = body_in (activation t entities f act) x (take f.params f.locals) end enter s

abbrev pub function_meaning : Types → List ℕ → Bool → TypedFunction → Source → Shape → Option Meaning
function_meaning t entities main f x (FuncType ret params proto variadic) =
    Some (Code (record {
      abi = t.abi;
      parameters = kinds_of t params;
      result = kind_of t ret;
      start = start_of (FuncType ret params proto variadic);
      body = body_meaning t entities f x (value_at_end main (kind_of t ret));
    }))
function_meaning t entities main f x VoidType = None
function_meaning t entities main f x (IntType kind) = None
function_meaning t entities main f x (PtrType q s) = None
function_meaning t entities main f x (ArrayType q s bound) = None
function_meaning t entities main f x (AggType a) = None

-- objects (6.2.4p3, 6.7.9)

-- an object with static storage duration begins with zero bytes (6.7.9p10; padding too, own)
abbrev pub zeros : Types → Shape → Option (List Byte)
zeros t s = size_in t s >>= λ n. Some (replicate n (Known 0))

-- the bytes with a part of them changed; offsets are not held against any size (own)
abbrev pub part_written : Types → Shape → Path → (Shape → Option (List Byte)) → List Byte → Option (List Byte)
part_written t s p new bytes = part_from t p s 0 >>= λ x. new x.0 >>= λ ys. Some (with_part x.1 ys bytes)

-- the value of a constant in the type of its place
abbrev pub constant_bytes : Types → List ℕ → Constant → Shape → Option (List Byte)
constant_bytes t entities c s = scalar_of t s >>= λ k. constant_value entities c >>= λ v. Some (bytes_of t.abi k v)

-- the steps of an initialiser of constants (6.7.9p4)
abbrev pub image : Types → List ℕ → Shape → Inits → List Byte → Option (List Byte)
image t entities s NoInits bytes = Some bytes
image t entities s (MoreInits (Zero p) is) bytes = part_written t s p (zeros t) bytes >>= image t entities s is
image t entities s (MoreInits (Scalar p e) is) bytes = None
image t entities s (MoreInits (Constant' p c) is) bytes = part_written t s p (constant_bytes t entities c) bytes >>= image t entities s is
image t entities s (MoreInits (Aggregate p e) is) bytes = None
image t entities s (MoreInits (Bytes p new) is) bytes = part_written t s p (λ x. Some (known_bytes new)) bytes >>= image t entities s is

-- the bytes of a string literal are not to be modified (6.4.5p7)
abbrev pub is_literal : List ℕ → Entity → Bool
is_literal compound e = not (is_some e.name) && not (any_of (nat_eq e.first) compound)

abbrev pub object : List ℕ → Entity → Option (List Byte) → Option Meaning
object compound e bytes = option_map (Object (is_const e.type || is_literal compound e)) bytes

-- linking (6.2.2)

-- a unit that is walked: its objects, functions and types at its end, the bodies of its functions, and its compound literals outside functions
pub record Translated : Type 0 where
  pub env : Env
  pub functions : List Source
  pub compound : List ℕ

abbrev pub name_text : List (List ℕ) → Option NameId → List ℕ
name_text texts None = []
name_text texts (Some x) = elim (slice_get texts x.0) [ None ↦ [] | Some text ↦ text ]

abbrev pub is_internal : Linkage → Bool
is_internal External = false
is_internal Internal = true
is_internal NoLinkage = true

-- the function that a run begins with (5.1.2.2.1p1)
abbrev pub is_main : List (List ℕ) → Entity → Bool
is_main texts e = not (is_internal e.linkage) && bytes_eq (name_text texts e.name) (codes "main")

abbrev pub definition_meaning : Translated → ℕ → Entity → List ℕ → Definition → Option Meaning
definition_meaning u n e entities Declared = None
definition_meaning u n e entities ZeroBytes = object u.compound e (zeros u.env.types e.type.shape)
definition_meaning u n e entities (Initialised is) = object u.compound e (zeros u.env.types e.type.shape >>= image u.env.types entities e.type.shape is)
definition_meaning u n e entities (Body f) = source_of n u.functions >>= λ x. function_meaning u.env.types entities (is_main u.env.texts e) f x e.type.shape

abbrev pub linkable : Translated → ℕ → Entity → Linkable
linkable u n e = record { internal = is_internal e.linkage; name = name_text u.env.texts e.name; function = is_function e.type.shape; tentative = is_only_tentative e; means = λ entities. definition_meaning u n e entities e.definition }

abbrev pub linkables_from : Translated → ℕ → List Entity → List Linkable
linkables_from u n [] = []
linkables_from u n (e ∷ es) = linkable u n e ∷ linkables_from u (suc n) es

-- a unit that has a fault has no meaning
abbrev pub linkables_of : List (List ℕ) → Abi → UnitTree → Found ((Unit {0}) × Env) → List Linkable
linkables_of texts abi unit (Bad fault at) = []
linkables_of texts abi unit (Good x) = linkables_from (record { env = x.1; functions = sources unit (start_env texts abi); compound = literals_in_unit unit }) 0 x.1.entities

-- what a unit says of its objects and functions; its names are numbers of the texts
abbrev pub linkables_in : List (List ℕ) → Abi → UnitTree → List Linkable
linkables_in texts abi unit = linkables_of texts abi unit (walked texts abi unit)

-- what units say in a data model, for linking
abbrev pub linkables : List (List ℕ) → Abi → List UnitTree → List (List Linkable)
linkables texts abi units = map (linkables_in texts abi) units

-- the outcome of units that are linked and run in a mode, with those words and that input, within so many units of the budget
abbrev pub RunC : List (List ℕ) → List UnitTree → Mode → List (List ℕ) → List ℕ → ℕ → Outcome
RunC texts units mode words input n = run (linkables texts mode.abi units) mode words input n

-- the units of the budget that such a run has spent
abbrev pub UnitsSpent : List (List ℕ) → List UnitTree → Mode → List (List ℕ) → List ℕ → ℕ → ℕ
UnitsSpent texts units mode words input n = units_spent (linkables texts mode.abi units) mode words input n

-- whether a call of getchar in such a run has found no input left
abbrev pub FindsEnd : List (List ℕ) → List UnitTree → Mode → List (List ℕ) → List ℕ → ℕ → Bool
FindsEnd texts units mode words input n = finds_end (linkables texts mode.abi units) mode words input n
