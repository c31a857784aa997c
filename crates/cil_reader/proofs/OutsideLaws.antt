-- Device: what the reading of functions leaves, step by step.
use Rattle.std.proofs.Common.{◌≡◌, ℕ, List, refl, sym, ap, ◌∙◌, subst}
use Rattle.type_graph.specs.Arena.{Graph}
use Rattle.type_graph.specs.Growth.{Grows, KeepsAggregates}
use Rattle.type_graph.proofs.GrowthLaws.{grows_none, grows_twice}
use Rattle.cil_tree.specs.Tree.{Local}
use Rattle.cil_declarators.specs.Extends.{Extends}
use Rattle.cil_reader.specs.Settings.{Setting, env_in, with_locals, outside, Onward, OnwardOutside}
use Rattle.cil_reader.specs.Pools.{KeepsNames}
use Rattle.cil_reader.proofs.PoolLaws.{pool_same, pool_twice}

pub outside_names : (s : Setting) (p q : List (List ℕ)) → KeepsNames p q → OnwardOutside s s p q
outside_names s p q k = record { grows = grows_none s.graph; keeps = (refl, refl); env = refl; pool = k }

pub outside_same : (s : Setting) (p : List (List ℕ)) → OnwardOutside s s p p
outside_same s p = outside_names s p p (pool_same p)

pub outside_from : (s t : Setting) (p q : List (List ℕ)) → Onward s t → KeepsNames p q → OnwardOutside s t p q
outside_from s t p q a k = record { grows = a.grows; keeps = a.keeps; env = ap outside a.env; pool = k }

pub outside_twice : (s t u : Setting) (p q r : List (List ℕ)) → OnwardOutside s t p q → OnwardOutside t u q r → OnwardOutside s u p r
outside_twice s t u p q r a b = record {
  grows = grows_twice s.graph t.graph u.graph a.grows b.grows;
  keeps = (b.keeps.0 ∙ a.keeps.0, b.keeps.1 ∙ a.keeps.1);
  env = b.env ∙ a.env;
  pool = pool_twice p q r a.pool b.pool;
}

-- behind what is read with the names outside
pub outside_after : (s t u : Setting) (p q r : List (List ℕ)) → Onward s t → KeepsNames p q → OnwardOutside t u q r → OnwardOutside s u p r
outside_after s t u p q r a k b = outside_twice s t u p q r (outside_from s t p q a k) b

-- with locals of a function
pub outside_locals : (s t u : Setting) (ls : List Local) (p q : List (List ℕ)) → Onward s t → u.graph ≡ t.graph → env_in u ≡ with_locals (env_in t) ls → KeepsNames p q → OnwardOutside s u p q
outside_locals s t u ls p q a same env k = record {
  grows = subst (λ (g : Graph). Grows s.graph g) (sym same) a.grows;
  keeps = subst (λ (g : Graph). KeepsAggregates s.graph g) (sym same) a.keeps;
  env = ap outside env ∙ ap outside a.env;
  pool = k;
}

pub outside_body : (s t u v : Setting) (ls : List Local) (p q r : List (List ℕ)) → Onward s t → u.graph ≡ t.graph → env_in u ≡ with_locals (env_in t) ls → KeepsNames p q → Onward u v → KeepsNames q r → OnwardOutside s v p r
outside_body s t u v ls p q r a same env k b l = outside_twice s u v p q r (outside_locals s t u ls p q a same env k) (outside_from u v q r b l)

pub outside_grows : (s t : Setting) (p q : List (List ℕ)) → OnwardOutside s t p q → Grows s.graph t.graph
outside_grows s t p q a = a.grows

-- the graph alone

pub extends_by : (s t : Setting) → Onward s t → Extends s.graph t.graph
extends_by s t a = record { grows = a.grows; keeps = a.keeps }

pub extends_over : (s t u v : Setting) (p q : List (List ℕ)) → Onward s t → u.graph ≡ t.graph → OnwardOutside u v p q → Extends s.graph v.graph
extends_over s t u v p q a same b =
    let grows = subst (λ (g : Graph). Grows g v.graph) same b.grows in
    let keeps = subst (λ (g : Graph). KeepsAggregates g v.graph) same b.keeps in
    record { grows = grows_twice s.graph t.graph v.graph a.grows grows; keeps = (keeps.0 ∙ a.keeps.0, keeps.1 ∙ a.keeps.1) }
