-- Definition: translation units (C11 6.9): functions, tentative definitions at the unit's end, and the first fault of a unit in the order of the walk.
use Rattle.std.specs.Prelude.{ℕ, suc, Bool, true, false, not, ◌&&◌, nat_lt, nat_le, List, [], ◌∷◌, Option, Some, None, length, map, codes, is_some, if◌then◌else◌}
use Rattle.std.specs.Str.{bytes_eq}
use Rattle.cil_base.specs.Limits.{function_locals}
use Rattle.cil_base.specs.declared.kinds.Abi.{Abi}
use Rattle.cil_base.specs.declared.kinds.IntKind.TheVariants.{Int as int}
use Rattle.cil_base.specs.declared.numbers.NameId.{NameId}
use Rattle.cil_base.specs.declared.faults.Fault.{Fault}
use Rattle.cil_base.specs.declared.faults.Code.{Code}
use Rattle.cil_base.specs.declared.faults.Code.TheVariants as code
use Rattle.cil_base.specs.declared.faults.What.TheVariants as limit
use Rattle.cil_base.specs.Integer.{ulong_of}
use Rattle.type_graph.specs.Shapes.{Shape, VoidType, IntType, PtrType, ArrayType, FuncType, NoTypes, MoreTypes}
use Rattle.typed_tree.specs.Statements.{Stmt}
use Rattle.typed_tree.specs.Units.{Function as TypedFunction, Local, Declared as DeclaredAlone, Zero as ZeroBytes, Body}
use Rattle.c_tree.specs.Syntax.{SpecifierTrees, DeclaratorTree, Declared, Absent, Grouped, Pointer, Array, Function, Unprototyped, Parameter, ParameterTrees, NoParameters, MoreParameters}
use Rattle.c_tree.specs.Units.{BlockItems, ExternalTree, Definition as FunctionDefinition, External as ExternalDeclaration, UnitTree}
use Rattle.c_rules.specs.Types.{CType, Types, plain, unqualified, is_function, lacks_type}
use Rattle.c_typing.specs.Specifiers.{AtFile, Defining, class_of, is_inline}
use Rattle.c_typing.specs.Scopes.{External, Internal, Static, Entity, Scope, Env, Found, Good, Bad, Walk, ◌>>=◌, pure, asks, changes, refuses_if, exceeds_if, types_of, left, changes_entity, empty_scope}
use Rattle.c_typing.specs.Declarators.{Derivation, FunctionOf, declared_in, place_in, is_bare, built, last_of}
use Rattle.c_typing.specs.Steps.{base_with}
use Rattle.c_typing.specs.Walk.{named, derived}
use Rattle.c_typing.specs.Declare.{AFunction, head_of, links, inherited, function_linkage, same_linkage}
use Rattle.c_typing.specs.Statements.{declaration, items, in_sequence, labels_in_items, gotos_in_items, refuses_lost}

-- function definitions (6.9.1)

-- the parameter list next to the identifier
abbrev pub own_parameters : DeclaratorTree → ParameterTrees
own_parameters (Declared at x) = NoParameters
own_parameters (Absent at) = NoParameters
own_parameters (Grouped at d) = own_parameters d
own_parameters (Pointer at qs d) = own_parameters d
own_parameters (Array at d b) = own_parameters d
own_parameters (Function at d ps variadic) = if is_bare d then ps else own_parameters d
own_parameters (Unprototyped at d names) = own_parameters d

-- the parameters of a function definition, with n before them, have complete types (6.7.6.3p4), and are not too many (own)
abbrev pub refuses_parameters : Types → ℕ → ParameterTrees → List Local → Walk (Unit {0})
refuses_parameters t n NoParameters ls = pure tt
refuses_parameters t n (MoreParameters p ps) [] = pure tt
refuses_parameters t n (MoreParameters (Parameter ss d) ps) (l ∷ ls) = do
  _ ← refuses_if (lacks_type t false l.shape) code.Incomplete (place_in ss d)
  _ ← exceeds_if (nat_le function_locals n) limit.Locals (place_in ss d)
  refuses_parameters t (suc n) ps ls

abbrev pub prototype_scope : Option Derivation → Scope
prototype_scope (Some (FunctionOf p)) = p.scope
prototype_scope _ = empty_scope

abbrev pub prototype_locals : Option Derivation → List Local
prototype_locals (Some (FunctionOf p)) = p.locals
prototype_locals _ = []

abbrev pub result_of : Shape → Shape
result_of (FuncType ret params proto variadic) = ret
result_of s = s

-- the scope of the parameters is that of the body (6.2.1p4)
abbrev pub enters_function : Option Derivation → Walk (Unit {0})
enters_function d = changes (λ (env : Env). record env { scopes = prototype_scope d ∷ env.scopes; locals = prototype_locals d; literals = []; labels = []; in_function = true })

abbrev pub leaves_function : Walk (Unit {0})
leaves_function = changes (λ (env : Env). record env { scopes = left env.scopes; locals = []; literals = []; labels = []; in_function = false })

abbrev pub typed_function : ℕ → BlockItems → List Stmt → Env → TypedFunction
typed_function params body ss env = record { params = params; locals = env.locals; literals = env.literals; labels = labels_in_items body; body = in_sequence ss }

-- the body: its faults, then gotos without a label
abbrev pub walks_body : ℕ → Shape → Option Derivation → ParameterTrees → BlockItems → Walk (Unit {0})
walks_body n result d ps body = do
  t ← types_of
  _ ← enters_function d
  _ ← refuses_parameters t 0 ps (prototype_locals d)
  ss ← items (record { result = result; labels = labels_in_items body; in_loop = false; in_breakable = false }) body
  _ ← refuses_lost (labels_in_items body) (gotos_in_items body)
  f ← asks (typed_function (length (prototype_locals d)) body ss)
  _ ← leaves_function
  changes_entity n (λ (e : Entity). record e { definition = Body f })

abbrev pub defines_function : SpecifierTrees → DeclaratorTree → BlockItems → CType → List Derivation → Option (NameId × ℕ) → Walk (Unit {0})
defines_function ss d body c ds None = pure tt
defines_function ss d body c ds (Some x) = do
  extern ← asks (λ (env : Env). inherited env x.0)
  n ← links x.0 x.1 (function_linkage (class_of ss) extern) c (AFunction (head_of (last_of ds))) (is_inline ss)
  walks_body n (result_of c.shape) (last_of ds) (own_parameters d) body

abbrev pub external : ExternalTree → Walk (Unit {0})
external (FunctionDefinition at ss d declarations body_at body) = do
  b ← base_with Defining ss (named false ss)
  ds ← derived false d
  c ← built (place_in ss d) ds b.type
  defines_function ss d body c ds (declared_in d)
external (ExternalDeclaration d) = do
  _ ← declaration AtFile d
  pure tt

abbrev pub externals : UnitTree → Walk (Unit {0})
externals [] = pure tt
externals (x ∷ xs) = do
  _ ← external x
  externals xs

-- the unit's end (6.9p3, 6.9.2p2)

-- a tentative definition without another one is a definition with zero bytes; an array of unknown bound has one element then (6.9.2p2, p5)
abbrev pub with_one_element : Shape → Shape
with_one_element (ArrayType q s None) = ArrayType q s (Some 1)
with_one_element s = s

abbrev pub is_only_tentative : Entity → Bool
is_only_tentative e = is_some e.tentative && not (is_some e.defined)

abbrev pub ended : Entity → Entity
ended e = if is_only_tentative e then record e { type = record e.type { shape = with_one_element e.type.shape }; definition = ZeroBytes } else e

-- late faults: a tentative definition whose type stays incomplete, at the first one; a static function that is used and not defined, at its first declaration

pub record Late : Type 0 where
  pub code : Code
  pub at : ℕ

abbrev pub at_or : ℕ → Option ℕ → ℕ
at_or n None = n
at_or n (Some at) = at

abbrev pub is_missing : Entity → Bool
is_missing e = same_linkage e.linkage Internal && (is_function e.type.shape && (e.used && not (is_some e.defined)))

abbrev pub late_of : Types → Entity → Option Late
late_of t e = if is_only_tentative e && lacks_type t false e.type.shape then Some (record { code = code.Incomplete; at = at_or e.first e.tentative }) else (if is_missing e then Some (record { code = code.Defined; at = e.first }) else None)

-- the one whose token comes first
abbrev pub earlier : Option Late → Option Late → Option Late
earlier None y = y
earlier (Some x) None = Some x
earlier (Some x) (Some y) = if nat_lt y.at x.at then Some y else Some x

abbrev pub first_late : Types → List Entity → Option Late
first_late t [] = None
first_late t (e ∷ es) = earlier (late_of t e) (first_late t es)

abbrev pub refuses_late : Option Late → Walk (Unit {0})
refuses_late None = pure tt
refuses_late (Some l) = refuses_if true l.code l.at

abbrev pub ends_unit : Walk (Unit {0})
ends_unit = do
  _ ← changes (λ (env : Env). record env { entities = map ended env.entities })
  late ← asks (λ (env : Env). first_late env.types env.entities)
  refuses_late late

-- the unit's beginning: where the unit has the name, `void * __builtin_memset ( void * , int , unsigned long )` is declared before it (own)

abbrev pub void_pointer : Shape
void_pointer = PtrType plain VoidType

abbrev pub memset_type : Abi → CType
memset_type abi = unqualified (FuncType void_pointer (MoreTypes void_pointer (MoreTypes (IntType int) (MoreTypes (IntType (ulong_of abi)) NoTypes))) true false)

abbrev pub memset : Abi → NameId → Entity
memset abi x = record { name = Some x; linkage = External; type = memset_type abi; first = 0; tentative = None; defined = None; bare = false; used = false; definition = DeclaredAlone }

abbrev pub place_of_text : ℕ → List ℕ → List (List ℕ) → Option NameId
place_of_text n text [] = None
place_of_text n text (t ∷ ts) = elim (bytes_eq text t) [ true ↦ Some (record { 0 = n }) | false ↦ place_of_text (suc n) text ts ]

abbrev pub empty_env : List (List ℕ) → Abi → List Entity → Scope → Env
empty_env texts abi entities scope = record { texts = texts; types = record { abi = abi; aggs = [] }; scopes = scope ∷ []; entities = entities; locals = []; literals = []; evaluated = true; in_function = false; labels = []; switches = [] }

abbrev pub start_with : List (List ℕ) → Abi → Option NameId → Env
start_with texts abi None = empty_env texts abi [] empty_scope
start_with texts abi (Some x) = empty_env texts abi (memset abi x ∷ []) (record { names = (x, Static 0 (memset_type abi)) ∷ []; tags = [] })

abbrev pub start_env : List (List ℕ) → Abi → Env
start_env texts abi = start_with texts abi (place_of_text 0 (codes "__builtin_memset") texts)

-- a translation unit: what it declares, or its first fault
abbrev pub walked : List (List ℕ) → Abi → UnitTree → Found ((Unit {0}) × Env)
walked texts abi unit = (externals unit >>= (λ _. ends_unit)) (start_env texts abi)

abbrev pub fault_in : {A : Type 0} → Found A → Option (Fault × ℕ)
fault_in (Good a) = None
fault_in (Bad fault at) = Some (fault, at)

-- the first fault of a unit, with its token
abbrev pub first_fault : List (List ℕ) → Abi → UnitTree → Option (Fault × ℕ)
first_fault texts abi unit = fault_in (walked texts abi unit)
