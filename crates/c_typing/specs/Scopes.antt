-- Definition: what a translation unit has declared so far (C11 6.2.1 to 6.2.3), and steps of which each may find a fault: nothing follows a fault.
use Rattle.std.specs.Prelude.{ℕ, zero, suc, ℤ, Bool, true, false, nat_eq, List, [], ◌∷◌, ◌++◌, Option, Some, None, length, if◌then◌else◌}
use Rattle.cil_base.specs.declared.kinds.IntKind.{IntKind}
use Rattle.cil_base.specs.declared.numbers.NameId.{NameId}
use Rattle.cil_base.specs.declared.faults.Fault.{Fault}
use Rattle.cil_base.specs.declared.faults.Fault.TheVariants.{Constraint, Excluded, Limit}
use Rattle.cil_base.specs.declared.faults.Code.{Code}
use Rattle.cil_base.specs.declared.faults.Feature.{Feature}
use Rattle.cil_base.specs.declared.faults.What.{What}
use Rattle.typed_tree.specs.Units.{Definition, Local, Literal}
use Rattle.c_rules.specs.Types.{CType, Aggregate, Types, same_name}

infixl 10 ◌>>=◌
-- linkage (6.2.2p1)
pub data Linkage : Type 0 where
  External : Linkage
  Internal : Linkage
  NoLinkage : Linkage

-- what an ordinary identifier denotes (6.2.3p1): a type, an enumeration constant, an object with automatic storage duration by its number in the function, or an object with static storage duration or a function by its number in the unit, at the type that is visible
pub data Denotes : Type 0 where
  TypedefName : (type : CType) → Denotes
  EnumerationConstant : (value : ℤ) → Denotes
  Automatic : (number : ℕ) (type : CType) (register : Bool) → Denotes
  Static : (entity : ℕ) (type : CType) → Denotes

-- the ordinary identifiers and the tags that a scope declares (6.2.1p4, 6.2.3p1)
pub record Scope : Type 0 where
  pub names : List (NameId × Denotes)
  pub tags : List (NameId × ℕ)

-- an object with static storage duration or a function: the composite type of its declarations so far, the tokens of its first declaration, of its first tentative definition and of its definition, whether its definition has no prototype, whether it is used
pub record Entity : Type 0 where
  pub name : Option NameId
  pub linkage : Linkage
  pub type : CType
  pub first : ℕ
  pub tentative : Option ℕ
  pub defined : Option ℕ
  pub bare : Bool
  pub used : Bool
  pub definition : Definition

-- the cases of a switch statement so far (6.8.4.2p3): the kind of its promoted expression, their values, whether there is a default
pub record Cases : Type 0 where
  pub kind : IntKind
  pub values : List ℤ
  pub has_default : Bool

-- the texts of names by their numbers; types; the open scopes, the innermost first; objects and functions; the parameters, automatic objects and compound literals of the function; whether an expression here is evaluated; whether a function is open; its labels so far; the open switch statements, the innermost first
pub record Env : Type 0 where
  pub texts : List (List ℕ)
  pub types : Types
  pub scopes : List Scope
  pub entities : List Entity
  pub locals : List Local
  pub literals : List Literal
  pub evaluated : Bool
  pub in_function : Bool
  pub labels : List NameId
  pub switches : List Cases

-- steps

-- what a step gives, or the fault and the token at which it stands
pub data Found (A : Type 0) : Type 0 where
  Good : A → Found A
  Bad : (fault : Fault) (at : ℕ) → Found A

abbrev pub Walk : Type 0 → Type 0
Walk A = Env → Found (A × Env)

abbrev pub following : {A B : Type 0} → (A → Walk B) → Found (A × Env) → Found (B × Env)
following next (Good x) = next x.0 x.1
following next (Bad fault at) = Bad fault at

abbrev pub ◌>>=◌ : {A B : Type 0} → Walk A → (A → Walk B) → Walk B
◌>>=◌ first next = λ env. following next (first env)

abbrev pub pure : {A : Type 0} → A → Walk A
pure a = λ env. Good (a, env)

abbrev pub asks : {A : Type 0} → (Env → A) → Walk A
asks f = λ env. Good (f env, env)

abbrev pub changes : (Env → Env) → Walk (Unit {0})
changes f = λ env. Good (tt, f env)

abbrev pub faults : {A : Type 0} → Fault → ℕ → Walk A
faults fault at = λ env. Bad fault at

abbrev pub faults_if : Bool → Fault → ℕ → Walk (Unit {0})
faults_if true fault at = faults fault at
faults_if false fault at = pure tt

abbrev pub refuses_if : Bool → Code → ℕ → Walk (Unit {0})
refuses_if test code at = faults_if test (Constraint code) at

abbrev pub excludes_if : Bool → Feature → ℕ → Walk (Unit {0})
excludes_if test feature at = faults_if test (Excluded feature) at

abbrev pub exceeds_if : Bool → What → ℕ → Walk (Unit {0})
exceeds_if test what at = faults_if test (Limit what) at

-- what is there, or a constraint is violated
abbrev pub required : {A : Type 0} → Option A → Code → ℕ → Walk A
required (Some a) code at = pure a
required None code at = faults (Constraint code) at

-- scopes (6.2.1p4, p7)

abbrev pub find : {A : Type 0} → NameId → List (NameId × A) → Option A
find x [] = None
find x (p ∷ ps) = elim (same_name p.0 x) [ true ↦ Some p.1 | false ↦ find x ps ]

-- the innermost declaration is the visible one (6.2.1p4)
abbrev pub find_in : {A : Type 0} → (Scope → List (NameId × A)) → NameId → List Scope → Option A
find_in part x [] = None
find_in part x (s ∷ ss) = elim (find x (part s)) [ Some a ↦ Some a | None ↦ find_in part x ss ]

abbrev pub visible_name : Env → NameId → Option Denotes
visible_name env x = find_in (λ (s : Scope). s.names) x env.scopes

abbrev pub visible_tag : Env → NameId → Option ℕ
visible_tag env x = find_in (λ (s : Scope). s.tags) x env.scopes

-- the declaration in the innermost scope alone
abbrev pub innermost : {A : Type 0} → (Scope → List (NameId × A)) → NameId → List Scope → Option A
innermost part x [] = None
innermost part x (s ∷ ss) = find x (part s)

abbrev pub own_name : Env → NameId → Option Denotes
own_name env x = innermost (λ (s : Scope). s.names) x env.scopes

abbrev pub own_tag : Env → NameId → Option ℕ
own_tag env x = innermost (λ (s : Scope). s.tags) x env.scopes

abbrev pub empty_scope : Scope
empty_scope = record { names = []; tags = [] }

abbrev pub is_file_scope : Env → Bool
is_file_scope env = nat_eq (length env.scopes) 1

abbrev pub in_innermost : (Scope → Scope) → List Scope → List Scope
in_innermost f [] = []
in_innermost f (s ∷ ss) = f s ∷ ss

abbrev pub with_name : NameId → Denotes → Env → Env
with_name x d env = record env { scopes = in_innermost (λ (s : Scope). record s { names = (x, d) ∷ s.names }) env.scopes }

abbrev pub with_tag : NameId → ℕ → Env → Env
with_tag x a env = record env { scopes = in_innermost (λ (s : Scope). record s { tags = (x, a) ∷ s.tags }) env.scopes }

abbrev pub left : List Scope → List Scope
left [] = []
left (s ∷ ss) = ss

abbrev pub enter : Walk (Unit {0})
enter = changes (λ (env : Env). record env { scopes = empty_scope ∷ env.scopes })

abbrev pub leave : Walk (Unit {0})
leave = changes (λ (env : Env). record env { scopes = left env.scopes })

-- what is walked in a scope of its own
abbrev pub scoped : {A : Type 0} → Walk A → Walk A
scoped walk = do
  _ ← enter
  a ← walk
  _ ← leave
  pure a

-- an operand that is not evaluated (6.5.3.4p2): in it nothing is used, and no object is made (own)
abbrev pub unevaluated : {A : Type 0} → Walk A → Walk A
unevaluated walk = do
  before ← asks (λ (env : Env). env.evaluated)
  _ ← changes (λ (env : Env). record env { evaluated = false })
  a ← walk
  _ ← changes (λ (env : Env). record env { evaluated = before })
  pure a

-- types

abbrev pub types_of : Walk Types
types_of = asks (λ (env : Env). env.types)

abbrev pub changed_at : {A : Type 0} → ℕ → (A → A) → List A → List A
changed_at n f [] = []
changed_at n f (x ∷ xs) = elim n [ zero ↦ f x ∷ xs | suc k ↦ x ∷ changed_at k f xs ]

abbrev pub with_aggregate : Aggregate → Env → Env
with_aggregate x env = record env { types = record env.types { aggs = env.types.aggs ++ x ∷ [] } }

abbrev pub with_changed_aggregate : ℕ → (Aggregate → Aggregate) → Env → Env
with_changed_aggregate a f env = record env { types = record env.types { aggs = changed_at a f env.types.aggs } }

-- a new aggregate, which has the next number
abbrev pub new_aggregate : Aggregate → Walk ℕ
new_aggregate x = do
  a ← asks (λ (env : Env). length env.types.aggs)
  _ ← changes (with_aggregate x)
  pure a

-- objects and functions

abbrev pub with_entity : Entity → Env → Env
with_entity x env = record env { entities = env.entities ++ x ∷ [] }

abbrev pub new_entity : Entity → Walk ℕ
new_entity x = do
  n ← asks (λ (env : Env). length env.entities)
  _ ← changes (with_entity x)
  pure n

abbrev pub changes_entity : ℕ → (Entity → Entity) → Walk (Unit {0})
changes_entity n f = changes (λ (env : Env). record env { entities = changed_at n f env.entities })

-- an entity that appears in an evaluated operand is used (6.9p3)
abbrev pub uses : ℕ → Walk (Unit {0})
uses n = do
  evaluated ← asks (λ (env : Env). env.evaluated)
  changes_entity n (λ (x : Entity). record x { used = if evaluated then true else x.used })

-- the entity of an external name, whatever is visible (6.2.2p2)
abbrev pub entity_named : NameId → ℕ → List Entity → Option (ℕ × Entity)
entity_named x n [] = None
entity_named x n (e ∷ es) = elim (is_of e.linkage e.name) [ true ↦ Some (n, e) | false ↦ entity_named x (suc n) es ]
  where
    is_of : Linkage → Option NameId → Bool
    is_of NoLinkage name = false
    is_of External (Some y) = same_name y x
    is_of Internal (Some y) = same_name y x
    is_of _ None = false
