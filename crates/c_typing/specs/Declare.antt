-- Definition: declarations of identifiers (C11 6.2.2, 6.7, 6.9): linkage, storage, redeclarations, tentative definitions and definitions.
use Rattle.std.specs.Prelude.{ℕ, Bool, true, false, not, ◌&&◌, ◌||◌, List, [], ◌∷◌, Option, Some, None, slice_get, is_some, codes, if◌then◌else◌}
use Rattle.std.specs.Bool.{beq}
use Rattle.std.specs.Option.{option_and_then}
use Rattle.std.specs.Str.{bytes_eq}
use Rattle.cil_base.specs.declared.numbers.NameId.{NameId}
use Rattle.cil_base.specs.declared.faults.Code.TheVariants as code
use Rattle.cil_base.specs.declared.faults.Feature.TheVariants as feature
use Rattle.type_graph.specs.Shapes.{Shape, FuncType, MoreTypes}
use Rattle.type_compat.specs.Compatible.{same_quals}
use Rattle.type_compat.specs.Composed.{composite_shape}
use Rattle.typed_tree.specs.Tree.{Inits}
use Rattle.typed_tree.specs.Statements.{Stmt, Declare}
use Rattle.typed_tree.specs.Units.{Local, Definition, Declared as DeclaredAlone, Zero as ZeroBytes, Initialised}
use Rattle.c_tree.specs.declared.words.StorageClass.{StorageClass}
use Rattle.c_tree.specs.declared.words.StorageClass.TheVariants as class
use Rattle.c_tree.specs.Syntax.{SpecifierTrees, InitTree}
use Rattle.c_tree.specs.Places.{first_specifiers, first_init}
use Rattle.c_rules.specs.Types.{CType, Types, is_void, is_function, lacks_type, complete}
use Rattle.c_rules.specs.Conversions.{compatible, same_shape}
use Rattle.c_rules.specs.Constraints.{is_declared}
use Rattle.c_typing.specs.Specifiers.{class_of, is_inline}
use Rattle.c_typing.specs.Scopes.{Linkage, External, Internal, NoLinkage, Denotes, TypedefName, EnumerationConstant, Automatic, Static, Entity, Env, Walk, ◌>>=◌, pure, asks, changes, refuses_if, excludes_if, types_of, visible_name, own_name, is_file_scope, with_name, new_entity, changes_entity, changed_at, entity_named}
use Rattle.c_typing.specs.Declarators.{Derivation, PointerTo, ArrayOf, FunctionOf, BareFunctionOf, at_first}
use Rattle.c_typing.specs.Initialisers.{beginning, whole_part, completed, inits}
use Rattle.c_typing.specs.Steps.{is_reserved, refuses_reserved, declares_local, text_of}
use Rattle.c_typing.specs.Walk.{refuses_scalars, filled, initialise}

-- what a declaration does for the definition of its entity (6.9.1, 6.9.2)

-- the declarator of a function definition: of function form with named parameters, with `( )`, with an identifier list, or none of these (6.9.1p2, p5, p6)
pub data Head : Type 0 where
  Prototyped : Head
  Empty : Head
  Identifiers : Head
  Wrong : Head

pub data Defines : Type 0 where
  Nothing : Defines
  Tentatively : Defines
  Object : Defines
  AFunction : (head : Head) → Defines

abbrev pub head_of : Option Derivation → Head
head_of (Some (FunctionOf p)) = if p.all_named then Prototyped else Wrong
head_of (Some (BareFunctionOf [])) = Empty
head_of (Some (BareFunctionOf (x ∷ xs))) = Identifiers
head_of (Some (PointerTo q)) = Wrong
head_of (Some (ArrayOf bound q)) = Wrong
head_of None = Wrong

abbrev pub is_wrong_head : Head → Bool
is_wrong_head Wrong = true
is_wrong_head _ = false

abbrev pub is_empty_head : Head → Bool
is_empty_head Empty = true
is_empty_head _ = false

abbrev pub is_identifiers : Head → Bool
is_identifiers Identifiers = true
is_identifiers _ = false

abbrev pub head_test : (Head → Bool) → Defines → Bool
head_test test (AFunction h) = test h
head_test test _ = false

abbrev pub has_body : Defines → Bool
has_body d = head_test (λ h. true) d

-- a definition that is not tentative
abbrev pub is_full : Defines → Bool
is_full Nothing = false
is_full Tentatively = false
is_full Object = true
is_full (AFunction h) = true

-- linkage (6.2.2)

abbrev pub same_linkage : Linkage → Linkage → Bool
same_linkage External External = true
same_linkage Internal Internal = true
same_linkage NoLinkage NoLinkage = true
same_linkage _ _ = false

abbrev pub linkage_of : Env → Denotes → Linkage
linkage_of env (Static n c) = elim (slice_get env.entities n) [ None ↦ NoLinkage | Some e ↦ e.linkage ]
linkage_of env _ = NoLinkage

abbrev pub has_linkage : Env → Denotes → Bool
has_linkage env d = not (same_linkage (linkage_of env d) NoLinkage)

-- `extern` takes the linkage of the visible declaration, if it has one, else external (p4, p5)
abbrev pub inherited : Env → NameId → Linkage
inherited env x = elim (visible_name env x) [ None ↦ External | Some d ↦ if same_linkage (linkage_of env d) Internal then Internal else External ]

-- the type at which it is visible
abbrev pub visible_type : Denotes → Option CType
visible_type (TypedefName c) = None
visible_type (EnumerationConstant v) = None
visible_type (Automatic n c r) = Some c
visible_type (Static n c) = Some c

abbrev pub linked_type : Env → NameId → Option CType
linked_type env x = option_and_then (λ d. if has_linkage env d then visible_type d else None) (visible_name env x)

-- rows of a declaration with linkage, at its identifier

-- two kinds of one name in one scope (6.7p3): something without linkage, or a function and an object
abbrev pub is_redeclared : Env → NameId → CType → Bool
is_redeclared env x c = elim (own_name env x) [ None ↦ false | Some d ↦ not (has_linkage env d) || other_kind (visible_type d) c ]
  where
    other_kind : Option CType → CType → Bool
    other_kind None c = true
    other_kind (Some b) c = not (beq (is_function b.shape) (is_function c.shape))

abbrev pub takes_parameters : Shape → Bool
takes_parameters (FuncType ret (MoreTypes p ps) true variadic) = true
takes_parameters _ = false

-- the declarations of an entity have compatible types and one linkage (6.2.2p7, 6.2.7p2, 6.7p4); a definition with `( )` has no parameters (6.7.6.3p15)
abbrev pub agrees : Types → Linkage → CType → Bool → Entity → Bool
agrees t link c bare e =
    same_linkage e.linkage link && (same_quals e.type.quals c.quals && (compatible t e.type.shape c.shape
    && (not (e.bare && takes_parameters c.shape) && not (bare && takes_parameters e.type.shape))))

abbrev pub conflicts : Types → Linkage → CType → Bool → Option (ℕ × Entity) → Bool
conflicts t link c bare None = false
conflicts t link c bare (Some x) = not (agrees t link c bare x.1)

-- a function definition's result is complete, or void (6.9.1p3)
abbrev pub lacks_result : Types → Shape → Bool
lacks_result t (FuncType ret params proto variadic) = not (is_void ret || complete t ret)
lacks_result t s = false

-- a static tentative definition has a complete type (6.9.2p3), by itself or by the visible declaration
abbrev pub stays_incomplete : Types → Option CType → CType → Bool
stays_incomplete t prior c = not (complete t c.shape || is_complete prior)
  where
    is_complete : Option CType → Bool
    is_complete None = false
    is_complete (Some b) = complete t b.shape

abbrev pub is_internal : Linkage → Bool
is_internal link = same_linkage link Internal

-- a type that is not complete where it must be (6.7p7, 6.9.1p3, 6.9.2p3); no object has type void
abbrev pub is_incomplete : Types → Linkage → Option CType → CType → Defines → Bool
is_incomplete t link prior c Nothing = is_void c.shape
is_incomplete t link prior c Tentatively = is_void c.shape || (is_internal link && stays_incomplete t prior c)
is_incomplete t link prior c Object = lacks_type t true c.shape
is_incomplete t link prior c (AFunction h) = lacks_result t c.shape

-- a body stands behind a declarator of function form (6.9.1p2) whose parameters have names (p5)
abbrev pub is_misplaced : CType → Defines → Bool
is_misplaced c d = head_test (λ h. is_wrong_head h || not (is_function c.shape)) d

-- reserved names (own), but for a declaration of `__builtin_memset` as a function at file scope
abbrev pub is_memset : Env → NameId → Bool
is_memset env x = bytes_eq (codes "__builtin_memset") (text_of env x)

abbrev pub is_misnamed : Env → NameId → CType → Defines → Bool
is_misnamed env x c d = is_reserved env x && not (is_memset env x && (is_file_scope env && (not (is_full d) && is_function c.shape)))

abbrev pub is_defined : Option (ℕ × Entity) → Bool
is_defined None = false
is_defined (Some x) = is_some x.1.defined

abbrev pub is_variadic : Shape → Bool
is_variadic (FuncType ret params proto variadic) = variadic
is_variadic s = false

-- the entity behind the declaration

abbrev pub defined_at : Defines → ℕ → Option ℕ → Option ℕ
defined_at d at (Some before) = Some before
defined_at d at None = if is_full d then Some at else None

abbrev pub tentative_at : Defines → ℕ → Option ℕ → Option ℕ
tentative_at d at (Some before) = Some before
tentative_at Tentatively at None = Some at
tentative_at _ at None = None

abbrev pub first_declared : NameId → ℕ → Linkage → CType → Defines → Entity
first_declared x at link c d = record { name = Some x; linkage = link; type = c; first = at; tentative = tentative_at d at None; defined = defined_at d at None; bare = head_test is_empty_head d; used = false; definition = DeclaredAlone }

-- the composite type (6.2.7p3)
abbrev pub declared_again : ℕ → CType → Defines → Entity → Entity
declared_again at c d e = record e { type = record e.type { shape = composite_shape e.type.shape c.shape }; tentative = tentative_at d at e.tentative; defined = defined_at d at e.defined; bare = e.bare || head_test is_empty_head d }

abbrev pub entity_for : NameId → ℕ → Linkage → CType → Defines → Option (ℕ × Entity) → Walk ℕ
entity_for x at link c d None = new_entity (first_declared x at link c d)
entity_for x at link c d (Some e) = do
  _ ← changes_entity e.0 (declared_again at c d)
  pure e.0

-- the visible type is composite with that of the visible declaration (6.2.7p4)
abbrev pub seen_type : Option CType → CType → CType
seen_type None c = c
seen_type (Some b) c = record c { shape = composite_shape b.shape c.shape }

-- a declaration of an object or a function with linkage
abbrev pub links : NameId → ℕ → Linkage → CType → Defines → Bool → Walk ℕ
links x at link c d inline = do
  env ← asks (λ (env : Env). env)
  let_known env (entity_named x 0 env.entities)
  where
    let_known : Env → Option (ℕ × Entity) → Walk ℕ
    let_known env known = do
      _ ← refuses_if (is_redeclared env x c) code.Redeclared at
      _ ← refuses_if (conflicts env.types link c (head_test is_empty_head d) known) code.Conflict at
      _ ← refuses_if (is_incomplete env.types link (linked_type env x) c d) code.Incomplete at
      _ ← refuses_if (is_misplaced c d) code.FunctionType at
      _ ← refuses_if (is_misnamed env x c d) code.Reserved at
      _ ← refuses_if (is_full d && is_defined known) code.Defined at
      _ ← excludes_if (head_test is_identifiers d) feature.IdentifierList at
      _ ← excludes_if (is_function c.shape && (inline && same_linkage link External)) feature.ExternalInline at
      _ ← excludes_if (has_body d && is_variadic c.shape) feature.VariadicDefinition at
      n ← entity_for x at link c d known
      _ ← changes (with_name x (Static n (seen_type (linked_type env x) c)))
      pure n

-- declarations without linkage, at the identifier

-- a typedef name again as the same type is allowed (6.7p3)
abbrev pub is_same_typedef : CType → Denotes → Bool
is_same_typedef c (TypedefName b) = same_quals b.quals c.quals && same_shape b.shape c.shape
is_same_typedef c _ = false

abbrev pub typedef_clashes : CType → Option Denotes → Bool
typedef_clashes c None = false
typedef_clashes c (Some d) = not (is_same_typedef c d)

abbrev pub declares_typedef : NameId → ℕ → CType → Walk (Unit {0})
declares_typedef x at c = do
  seen ← asks (λ (env : Env). own_name env x)
  _ ← refuses_if (typedef_clashes c seen) code.Redeclared at
  _ ← refuses_reserved x at
  changes (with_name x (TypedefName c))

-- an object of a block has a complete type, behind its initialiser at the latest (6.7p7)
abbrev pub refuses_object : NameId → ℕ → CType → Bool → Walk (Unit {0})
refuses_object x at c initialised = do
  t ← types_of
  seen ← asks (λ (env : Env). own_name env x)
  _ ← refuses_if (is_declared seen) code.Redeclared at
  _ ← refuses_if (lacks_type t initialised c.shape) code.Incomplete at
  refuses_reserved x at

-- initialisers

-- an initialiser where none may stand (6.7.9p5; of a typedef name and of a function)
abbrev pub no_initialiser : Option InitTree → Walk (Unit {0})
no_initialiser None = pure tt
no_initialiser (Some i) = refuses_if true code.Initialiser (first_init i)

-- an initialiser, and the type that the object has behind it (6.7.9p22)
abbrev pub initialised_by : Bool → ℕ → CType → InitTree → Walk (CType × Inits)
initialised_by static at c i = do
  f ← initialise static (whole_part c) (beginning c) i
  c' ← filled at (first_init i) c f
  pure (c', inits f.steps)

abbrev pub defines_entity : ℕ → CType → Definition → Walk (Unit {0})
defines_entity n c d = changes_entity n (λ (e : Entity). record e { type = record e.type { shape = composite_shape e.type.shape c.shape }; definition = d })

-- the initialiser of a static object of a block
abbrev pub static_initialiser : NameId → ℕ → ℕ → CType → Option InitTree → Walk (Unit {0})
static_initialiser x at n c None = pure tt
static_initialiser x at n c (Some i) = do
  r ← initialised_by true at c i
  _ ← changes (with_name x (Static n r.0))
  defines_entity n r.0 (Initialised r.1)

-- another declaration, which is not visible, gives the array another bound (6.2.7p2)
abbrev pub has_other_bound : Types → CType → Option Entity → Bool
has_other_bound t c None = false
has_other_bound t c (Some e) = not (compatible t e.type.shape c.shape)

-- the initialiser of an object with linkage, which has the type that is visible behind its declarator (6.2.7p4)
abbrev pub linked_initialiser : NameId → ℕ → ℕ → CType → Option InitTree → Walk (Unit {0})
linked_initialiser x at n c None = pure tt
linked_initialiser x at n c (Some i) = do
  f ← initialise true (whole_part c) (beginning c) i
  _ ← refuses_scalars (first_init i) f
  t ← types_of
  e ← asks (λ (env : Env). slice_get env.entities n)
  _ ← refuses_if (has_other_bound t (completed f.reach c) e) code.Conflict at
  c' ← filled at (first_init i) c f
  _ ← changes (with_name x (Static n c'))
  defines_entity n c' (Initialised (inits f.steps))

-- the initialiser of an automatic object: its value is stored where its declaration is reached (6.2.4p6)
abbrev pub automatic_initialiser : NameId → ℕ → ℕ → CType → Bool → Option InitTree → Walk (List Stmt)
automatic_initialiser x at n c register None = pure (Declare n None ∷ [])
automatic_initialiser x at n c register (Some i) = do
  r ← initialised_by false at c i
  _ ← changes (λ (env : Env). record env { locals = changed_at n (λ (l : Local). record l { shape = r.0.shape }) env.locals })
  _ ← changes (with_name x (Automatic n r.0 register))
  pure (Declare n (Some r.1) ∷ [])

-- one declarator (6.7), with its initialiser

-- what an object at file scope defines (6.9.2): with an initialiser it is a definition, without one and without `extern` a tentative one
abbrev pub object_defines : Bool → Option StorageClass → Option InitTree → Defines
object_defines file c (Some i) = if file then Object else Nothing
object_defines file (Some class.Extern) None = Nothing
object_defines file c None = if file then Tentatively else Nothing

abbrev pub linked_object : NameId → ℕ → Linkage → CType → Option StorageClass → Option InitTree → Walk (List Stmt)
linked_object x at link c s i = do
  file ← asks is_file_scope
  visible ← asks (λ (env : Env). seen_type (linked_type env x) c)
  n ← links x at link c (object_defines file s i) false
  _ ← if file then linked_initialiser x at n visible i else no_initialiser i
  pure []

abbrev pub static_local : NameId → ℕ → CType → Option InitTree → Walk (List Stmt)
static_local x at c i = do
  _ ← refuses_object x at c (is_some i)
  n ← new_entity (record { name = Some x; linkage = NoLinkage; type = c; first = at; tentative = None; defined = Some at; bare = false; used = true; definition = ZeroBytes })
  _ ← changes (with_name x (Static n c))
  _ ← static_initialiser x at n c i
  pure []

abbrev pub automatic : NameId → ℕ → CType → Bool → Option InitTree → Walk (List Stmt)
automatic x at c register i = do
  _ ← refuses_object x at c (is_some i)
  n ← declares_local x at c register
  automatic_initialiser x at n c register i

-- the storage of an object (6.2.2p3 to p6, 6.2.4)
abbrev pub object_declared : NameId → ℕ → CType → Option StorageClass → Option InitTree → Bool → Linkage → Walk (List Stmt)
object_declared x at c (Some class.Extern) i file outer = linked_object x at outer c (Some class.Extern) i
object_declared x at c (Some class.Static) i true outer = linked_object x at Internal c (Some class.Static) i
object_declared x at c (Some class.Static) i false outer = static_local x at c i
object_declared x at c (Some class.Register) i false outer = automatic x at c true i
object_declared x at c s i true outer = linked_object x at External c s i
object_declared x at c s i false outer = automatic x at c false i

-- a function without storage class has the linkage that it has with `extern` (6.2.2p5)
abbrev pub function_linkage : Option StorageClass → Linkage → Linkage
function_linkage (Some class.Static) outer = Internal
function_linkage _ outer = outer

-- in a block a function has no other storage class than `extern` (6.7.1p7)
abbrev pub is_wrong_class : Bool → Option StorageClass → Bool
is_wrong_class file None = false
is_wrong_class file (Some class.Extern) = false
is_wrong_class file (Some class.Static) = not file
is_wrong_class file (Some c) = true

abbrev pub function_declared : SpecifierTrees → NameId → ℕ → CType → Option InitTree → Walk (List Stmt)
function_declared ss x at c i = do
  file ← asks is_file_scope
  _ ← refuses_if (is_wrong_class file (class_of ss)) code.Specifiers (at_first (first_specifiers ss))
  outer ← asks (λ (env : Env). inherited env x)
  _ ← links x at (function_linkage (class_of ss) outer) c Nothing (is_inline ss)
  _ ← no_initialiser i
  pure []

abbrev pub is_typedef : Option StorageClass → Bool
is_typedef (Some class.Typedef) = true
is_typedef _ = false

abbrev pub typedef_declared : NameId → ℕ → CType → Option InitTree → Walk (List Stmt)
typedef_declared x at c i = do
  _ ← declares_typedef x at c
  _ ← no_initialiser i
  pure []

abbrev pub object_or_function : SpecifierTrees → NameId → ℕ → CType → Option InitTree → Walk (List Stmt)
object_or_function ss x at c i = do
  file ← asks is_file_scope
  outer ← asks (λ (env : Env). inherited env x)
  if is_function c.shape then function_declared ss x at c i else object_declared x at c (class_of ss) i file outer

abbrev pub declares : SpecifierTrees → Option (NameId × ℕ) → CType → Option InitTree → Walk (List Stmt)
declares ss None c i = pure []
declares ss (Some x) c i = if is_typedef (class_of ss) then typedef_declared x.0 x.1 c i else object_or_function ss x.0 x.1 c i
