-- Device: a table that gives the types of one graph their numbers in another says of each tree what mapping shapes says.
use Rattle.std.proofs.Common.{◌≡◌, ℕ, zero, suc, ◌<◌, Bool, true, false, cond, nat_lt, List, [], ◌∷◌, Option, Some, None, length, slice_get, sym, ap, ◌∙◌, arith}
use Rattle.std.specs.Option.{option_map}
use Rattle.cil_base.specs.declared.numbers.TypeId.{TypeId}
use Rattle.type_graph.specs.declared.nodes.Node.{Node}
use Rattle.type_graph.specs.Shapes.{Shape, shape}
use Rattle.type_graph.specs.Arena.{Graph}
use Rattle.cil_tree.specs.View.{type_at}
use Rattle.map_graph.specs.Mapped.{mapped_shape, Maps}
use Rattle.cil_bodies.specs.declared.mapping.Mapping.{Mapping as Table}
use Rattle.cil_bodies.specs.declared.mapping.Use.{Use as Entry}
use Rattle.cil_bodies.specs.Mapped.{Use, Mapping}
use Rattle.cil_bodies.specs.Maps.{use_at, Tables}

type_there : (nodes : List Node) (t : TypeId) → t.0 < length nodes → type_at nodes t ≡ Some (shape nodes t.0)
type_there nodes t there = ap (λ b. cond b (Some (shape nodes t.0)) None) (less t.0 (length nodes) there)
  where
    less : (m n : ℕ) → m < n → nat_lt m n ≡ true
    less m n h = grind (arith, h)

get_below : {K : Type 0} (xs : List K) (i : ℕ) (x : K) → slice_get xs i ≡ Some x → i < length xs
get_below [] i x e = cc
get_below (y ∷ xs) zero x e = omega arith
get_below (y ∷ xs) (suc i) x e = omega (arith, get_below xs i x e)

pub tables_of : (g h : Graph) (f : ℕ → ℕ) (keep : Bool) (t : Table) (uses : ℕ → Use) → Maps g h f keep t.types.now → length t.types.now ≡ length g.nodes → ((n : ℕ) (u : Entry) → slice_get t.uses.now n ≡ Some u → use_at h.nodes u ≡ uses n)
    → Tables t (record { type = option_map (mapped_shape f keep); use_of = uses }) g.nodes h.nodes
tables_of g h f keep t uses maps count are = record { types = type; uses = are }
  where
    type : (n u : TypeId) → slice_get t.types.now n.0 ≡ Some u → type_at h.nodes u ≡ option_map (mapped_shape f keep) (type_at g.nodes n)
    type n u e =
        let one = maps.each n.0 u e in
        type_there h.nodes u one.0 ∙ ap Some one.1 ∙ sym (ap (option_map (mapped_shape f keep)) (type_there g.nodes n (omega (arith, count, get_below t.types.now n.0 u e))))
