-- Device: nodes stand in chains by their hashes, so that a node is found in constant time.
use Rattle.std.specs.Prelude.{◌≡◌, ℕ, zero, suc, ◌+◌, ◌*◌, ◌-◌, ◌%◌, ◌<◌, ◌≤◌, cond, eqb, Bool, List, [], ◌∷◌, ◌++◌, Option, Some, None, length, slice_get, ◌⊎◌}
use Rattle.cil_base.specs.Integer.{rank_of, is_signed}
use Rattle.cil_base.specs.declared.numbers.TypeId.{TypeId}
use Rattle.type_graph.specs.declared.nodes.Node.{Node}
use Rattle.type_graph.specs.declared.nodes.Quals.{Quals}
use Rattle.type_graph.specs.declared.nodes.Node.TheVariants.{Void, Int, Ptr, Array, Func, Agg}
use Rattle.type_graph.specs.declared.chains.Chains.{Chains}

-- a hash with one number more, in 64 bits
abbrev pub mixed : ℕ → ℕ → ℕ
mixed h x = h % 4294967296 * 2654435769 + x

-- a hash with the numbers of types
abbrev pub mixed_all : ℕ → List TypeId → ℕ
mixed_all h [] = h
mixed_all h (t ∷ ts) = mixed_all (mixed h t.0) ts

abbrev pub flag : Bool → ℕ
flag b = cond b 1 0

abbrev pub quals_hash : Quals → ℕ
quals_hash q = 2 * flag q.constant + flag q.restricted

abbrev pub bound_hash : Option ℕ → ℕ
bound_hash None = 4294967295
bound_hash (Some n) = n % 4294967296

-- the hash of a node
unfoldable pub node_hash : Node → ℕ
node_hash Void = 0
node_hash (Int kind) = mixed 1 (2 * rank_of kind + flag (is_signed kind))
node_hash (Ptr q) = mixed (2 + 8 * quals_hash q.quals) q.of.0
node_hash (Array q bound) = mixed (mixed (3 + 8 * quals_hash q.quals) q.of.0) (bound_hash bound)
node_hash (Func proto variadic ret params) = mixed_all (mixed 4 ret.0) params
node_hash (Agg a) = mixed 5 a.0

-- which of so many chains the node at a place belongs to
abbrev pub chain_at : ℕ → List Node → ℕ → ℕ
chain_at count nodes t = elim (slice_get nodes t) [ None ↦ 0 | Some n ↦ node_hash n % count ]

-- among the first k places, how many there are up to the last one of a chain; 0 where the chain has none
abbrev pub chain_end : (ℕ → ℕ) → ℕ → ℕ → ℕ
chain_end at b zero = 0
chain_end at b (suc k) = cond (eqb (at k) b) (suc k) (chain_end at b k)

-- the chains of the first k nodes: each chain's end, and what stands before each node in its chain
pub record IsLinked (nodes : List Node) (before ends : List ℕ) (k : ℕ) : Type 0 where
  pub last : (b : ℕ) → b < length ends → slice_get ends b ≡ Some (chain_end (chain_at (length ends) nodes) b k)
  pub each : (t : ℕ) → t < k → slice_get before t ≡ Some (chain_end (chain_at (length ends) nodes) (chain_at (length ends) nodes t) t)

-- all nodes are in chains, of which there are enough
pub record IsChained (c : Chains) (nodes : List Node) : Type 0 where
  pub linked : IsLinked nodes c.before.items c.ends.items (length nodes)
  pub room : length nodes ≤ length c.before.items
  pub load : length nodes ≤ 4 * length c.ends.items

-- one more node has its place
pub record HasRoom (c : Chains) (nodes : List Node) : Type 0 where
  pub chained : IsChained c nodes
  pub room : length nodes < length c.before.items
  pub load : length nodes < 4 * length c.ends.items

-- there was room for the last node
pub record HadRoom (c : Chains) (nodes : List Node) : Type 0 where
  pub others : List Node
  pub last : Node
  pub are : nodes ≡ others ++ last ∷ []
  pub room : HasRoom c others

-- where a node is looked for: it stands at none of the places from there on, and those before are of its chain
pub record IsAhead (nodes : List Node) (count b : ℕ) (n : Node) (end : ℕ) : Type 0 where
  pub within : end ≤ length nodes
  pub chain : (end ≡ 0) ⊎ (chain_at count nodes (end - 1) ≡ b)
  pub rest : (s : ℕ) → slice_get nodes s ≡ Some n → s < end
