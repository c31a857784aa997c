-- Device: what the code knows of a program while it reads, as the reading has it: names with their types, and the types' graph.
use Rattle.std.specs.Prelude.{◌≡◌, ℕ, ◌<◌, ◌≤◌, List, [], ◌∷◌, Option, Some, None, map, length, IfSome}
use Rattle.cil_base.specs.declared.numbers.TypeId.{TypeId}
use Rattle.type_graph.specs.declared.nodes.Node.{Node}
use Rattle.type_graph.specs.Shapes.{Shape, shape}
use Rattle.type_graph.specs.Arena.{Graph, EachType}
use Rattle.type_graph.specs.Growth.{Grows, KeepsAggregates}
use Rattle.cil_tree.specs.Tree.{Local}
use Rattle.std.specs.Option.{option_map}
use Rattle.cil_text.specs.ReadExps.{Env, find_named, type_of_named}
use Rattle.cil_reader.specs.declared.names.Names.{Names}
use Rattle.cil_reader.specs.declared.names.Known.{Known}
use Rattle.cil_reader.specs.Pools.{KeepsNames}

-- names with the types that stand at the same places
abbrev pub zipped : List Node → List (List ℕ) → List TypeId → List Local
zipped nodes (n ∷ ns) (t ∷ ts) = record { name = n; type = Some (shape nodes t.0) } ∷ zipped nodes ns ts
zipped nodes [] _ = []
zipped nodes (n ∷ ns) [] = []

abbrev pub locals_of : List Node → Names → List Local
locals_of nodes x = zipped nodes x.numbering x.types.items

unfoldable pub env_of : Graph → Known → Env
env_of g k = record { abi = g.abi; tags = k.tags; members = map (locals_of g.nodes) k.members.items; globals = locals_of g.nodes k.globals; locals = locals_of g.nodes k.locals }

abbrev pub EachNames : ℕ → List Names → Type 0
EachNames n [] = Unit {0}
EachNames n (x ∷ xs) = EachType n x.types.items × EachNames n xs

-- each type that is known is in the graph, and so is each aggregate that has a tag
pub record KnownIn (g : Graph) (k : Known) : Type 0 where
  pub tags : length k.tags ≤ length g.aggs
  pub members : EachNames (length g.nodes) k.members.items
  pub globals : EachType (length g.nodes) k.globals.types.items
  pub locals : EachType (length g.nodes) k.locals.types.items

-- the graph, and what is known
pub record Setting : Type 0 where
  pub graph : Graph
  pub known : Known

unfoldable pub env_in : Setting → Env
env_in s = env_of s.graph s.known

-- what reading leaves: the graph has grown, its aggregates stay, and what is known stays
pub record Onward (old new : Setting) : Type 0 where
  pub grows : Grows old.graph new.graph
  pub keeps : KeepsAggregates old.graph new.graph
  pub env : env_in new ≡ env_in old

-- what is known with other globals, and with other locals
abbrev pub with_globals : Env → List Local → Env
with_globals env xs = record env { globals = xs }

abbrev pub with_locals : Env → List Local → Env
with_locals env xs = record env { locals = xs }

-- what is known outside functions
abbrev pub outside : Env → Env
outside env = record env { locals = [] }

-- what the reading of functions leaves: what is known outside of them stays, and the pool keeps its names
pub record OnwardOutside (old new : Setting) (names later : List (List ℕ)) : Type 0 where
  pub grows : Grows old.graph new.graph
  pub keeps : KeepsAggregates old.graph new.graph
  pub env : outside (env_in new) ≡ outside (env_in old)
  pub pool : KeepsNames names later

-- the shape of a type that may be none
abbrev pub type_in : List Node → Option TypeId → Option Shape
type_in nodes None = None
type_in nodes (Some t) = Some (shape nodes t.0)

abbrev pub TypeBelow : ℕ → Option TypeId → Type 0
TypeBelow n None = Unit {0}
TypeBelow n (Some t) = t.0 < n

-- the place at which a name stands among others, and its type
pub record FoundIn (name : List ℕ) (x : Names) (r : Option (ℕ × TypeId)) : Type 0 where
  pub at : (nodes : List Node) → option_map (λ (p : ℕ × TypeId). p.0) r ≡ find_named name (locals_of nodes x)
  pub typed : (nodes : List Node) → IfSome r (λ (p : ℕ × TypeId). type_of_named (locals_of nodes x) p.0 ≡ Some (shape nodes p.1.0))
  pub below : (n : ℕ) → EachType n x.types.items → IfSome r (λ (p : ℕ × TypeId). p.1.0 < n)

-- the same among the members of an aggregate, which may have none
abbrev pub FoundAmong : List ℕ → Option Names → Option (ℕ × TypeId) → Type 0
FoundAmong name None r = r ≡ None
FoundAmong name (Some x) r = FoundIn name x r
