-- Device: what resolved instructions change is what the instructions mean.
use Rattle.std.specs.Prelude.{◌≡◌, ℕ, List, Some}
use Rattle.byte_mem.specs.declared.values.Scalar.{Scalar}
use Rattle.byte_mem.specs.Steps.{◌>>=◌}
use Rattle.byte_mem.specs.Memory.{Memory}
use Rattle.type_graph.specs.Shapes.{Shape}
use Rattle.execution.specs.Data.{OfAggregate, store_datum, zero_from}
use Rattle.cil_tree.specs.Tree.{Exp, Value as ValueOf, Lval}
use Rattle.cil_tree.specs.Typing.{Scope, type_of, place_type}
use Rattle.cil_semantics.specs.Values.{kind_in, scalar_in, size_in, value, place}
use Rattle.cil_semantics.specs.Statements.{kind_of_place}
use Rattle.cil_machine.specs.declared.terms.Term.{Term}
use Rattle.cil_machine.specs.declared.terms.Spot.{Spot}
use Rattle.cil_machine.specs.Resolution.{activation, Means, MeansPlace}
use Rattle.cil_machine.specs.Instructions.{scalar_set, zeroed, copied}

-- an assignment of a scalar, to a place of the value's type
abbrev pub SetsAreMeant : Type 0
SetsAreMeant =
    (c : Scope) (es : List ℕ) (p : Lval) (e : Exp) (x : Spot) (u : Term) (t : Shape) (s : Scalar) → place_type c p ≡ Some t → type_of c e ≡ Some t → scalar_in c.program.graph t ≡ Some s → MeansPlace c es p x → Means c es e u
    → (m : Memory) (act : ℕ) → scalar_set c.program.graph.abi m act s x u
    ≡ (kind_of_place (activation c es act) p >>= λ k. place (activation c es act) m p >>= λ at. value (activation c es act) m e >>= store_datum c.program.graph.abi m k at)

-- a zero fill
abbrev pub ZerosAreMeant : Type 0
ZerosAreMeant =
    (c : Scope) (es : List ℕ) (p : Lval) (x : Spot) (t : Shape) (n : ℕ) → place_type c p ≡ Some t → size_in c.program.graph t ≡ Some n → MeansPlace c es p x
    → (m : Memory) (act : ℕ) → zeroed c.program.graph.abi m act n x ≡ (place_type c p >>= size_in c.program.graph >>= λ n. place (activation c es act) m p >>= zero_from m n)

-- an assignment of a struct or union, whose value is that of a place of the same type
abbrev pub CopiesAreMeant : Type 0
CopiesAreMeant =
    (c : Scope) (es : List ℕ) (p q : Lval) (x y : Spot) (t : Shape) (n : ℕ) → place_type c p ≡ Some t → place_type c q ≡ Some t → kind_in c.program.graph t ≡ Some (OfAggregate n) → MeansPlace c es p x → MeansPlace c es q y
    → (m : Memory) (act : ℕ) → copied c.program.graph.abi m act n x y
    ≡ (kind_of_place (activation c es act) p >>= λ k. place (activation c es act) m p >>= λ at. value (activation c es act) m (ValueOf q) >>= store_datum c.program.graph.abi m k at)
