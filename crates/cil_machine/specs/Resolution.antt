-- Device: what it means that terms and places are those of expressions and lvalues: with the function's types and the run's numbers of entities they give in each memory what these mean there.
use Rattle.std.specs.Prelude.{◌≡◌, ℕ, List, Option, Some}
use Rattle.byte_mem.specs.declared.values.Scalar.{Scalar}
use Rattle.byte_mem.specs.Steps.{◌>>=◌}
use Rattle.byte_mem.specs.Memory.{Memory}
use Rattle.type_graph.specs.Shapes.{Shape}
use Rattle.cil_tree.specs.Tree.{Exp, Host, Offsets, Lval}
use Rattle.cil_tree.specs.Typing.{Scope, type_of, place_type, host_type, part_type}
use Rattle.cil_semantics.specs.Values.{Activation, scalar_in, scalar_value, host_place, place, part_place}
use Rattle.cil_machine.specs.declared.terms.Term.{Term}
use Rattle.cil_machine.specs.declared.terms.Spot.{Spot}
use Rattle.cil_machine.specs.Terms.{term_value, spot_place}

-- an activation of the function
abbrev pub activation : Scope → List ℕ → ℕ → Activation
activation c entities act = record { scope = c; entities = entities; number = act }

-- the scalar of an expression's type
abbrev pub scalar_type : Scope → Exp → Option Scalar
scalar_type c e = type_of c e >>= scalar_in c.program.graph

-- where the expression is of scalar type, the term has its value
pub record Means (c : Scope) (entities : List ℕ) (e : Exp) (t : Term) : Type 0 where
  pub at : (s : Scalar) → scalar_type c e ≡ Some s → (m : Memory) (act : ℕ) → term_value c.program.graph.abi m act s t ≡ scalar_value (activation c entities act) m e

-- where the lvalue has a type, the place is its place
pub record MeansPlace (c : Scope) (entities : List ℕ) (p : Lval) (x : Spot) : Type 0 where
  pub at : (s : Shape) → place_type c p ≡ Some s → (m : Memory) (act : ℕ) → spot_place c.program.graph.abi m act x ≡ place (activation c entities act) m p

-- where the host has a type, the place is its place
pub record MeansHost (c : Scope) (entities : List ℕ) (h : Host) (x : Spot) : Type 0 where
  pub at : (s : Shape) → host_type c h ≡ Some s → (m : Memory) (act : ℕ) → spot_place c.program.graph.abi m act x ≡ host_place (activation c entities act) m h

-- so much of the way of an lvalue is left at a place of that type
pub record IsPart (c : Scope) (entities : List ℕ) (whole : Lval) (rest : Offsets) (x : Spot) (s : Shape) : Type 0 where
  pub types : place_type c whole ≡ part_type c rest s
  pub places : (m : Memory) (act : ℕ) → place (activation c entities act) m whole ≡ (spot_place c.program.graph.abi m act x >>= part_place (activation c entities act) m rest s)
