-- Device: nodes whose parts are mapped are mapped.
use Rattle.std.proofs.Common.{◌≡◌, ℕ, zero, suc, ◌≤◌, List, [], ◌∷◌, Option, Some, None, length, refl, sym, ap, ◌∙◌, arith}
use Rattle.cil_base.specs.declared.numbers.TypeId.{TypeId}
use Rattle.type_graph.specs.declared.nodes.Node.{Node}
use Rattle.cil_tree.specs.declared.expressions.Exp.TheViews as exps
use Rattle.cil_tree.specs.declared.expressions.Host.{Host, Global}
use Rattle.cil_tree.specs.declared.expressions.Offset.{Offset, Field, Index'}
use Rattle.cil_tree.specs.declared.expressions.Lval.{Lval}
use Rattle.cil_tree.specs.Tree as tree
use Rattle.cil_tree.specs.View.{offsets_of}
use Rattle.cil_tree.proofs.Views.{at_value, at_address, at_start}
use Rattle.cil_nodes.specs.Built.{joined}
use Rattle.cil_bodies.specs.declared.mapping.Mapping.{Mapping as Table}
use Rattle.cil_bodies.specs.declared.mapping.Use.{Use as Entry}
use Rattle.cil_bodies.specs.Mapped.{Mapping, used, mapped_exp, mapped_offsets}
use Rattle.cil_bodies.specs.Maps.{use_at, IsUse, MapsExp, MapsLval, MapsOffset, MapsOffsets}
use Rattle.cil_bodies.specs.Retyped.{IsRetyped}
use Rattle.cil_bodies.proofs.Replaced.{Replaced}

pub used_itself : (u : Entry) → u.through ≡ None → IsUse u (Global u.entity)
used_itself u none = record { at = λ nodes. ap (λ (o : Option TypeId). used (use_at nodes (record u { through = o }))) (sym none) }

pub used_through : (u : Entry) (to : TypeId) (h : Host) → u.through ≡ Some to → IsRetyped to u.entity.0 h → IsUse u h
used_through u to h some is = record { at = λ nodes. is.at nodes ∙ ap (λ (o : Option TypeId). used (use_at nodes (record u { through = o }))) (sym some) }

-- expressions that hold a place

pub value_maps : (t : Table) (k l : Lval) → MapsLval t k l → MapsExp t (exps.Lval k) (exps.Lval l)
value_maps t k l is = record { at = λ m from to tables. at_value to (exps.Lval l) l refl ∙ ap tree.Value (is.at m from to tables) ∙ sym (ap (mapped_exp m) (at_value from (exps.Lval k) k refl)) }

pub address_maps : (t : Table) (k l : Lval) → MapsLval t k l → MapsExp t (exps.AddrOf k) (exps.AddrOf l)
address_maps t k l is = record { at = λ m from to tables. at_address to (exps.AddrOf l) l refl ∙ ap tree.AddrOf (is.at m from to tables) ∙ sym (ap (mapped_exp m) (at_address from (exps.AddrOf k) k refl)) }

pub start_maps : (t : Table) (k l : Lval) → MapsLval t k l → MapsExp t (exps.StartOf k) (exps.StartOf l)
start_maps t k l is = record { at = λ m from to tables. at_start to (exps.StartOf l) l refl ∙ ap tree.StartOf (is.at m from to tables) ∙ sym (ap (mapped_exp m) (at_start from (exps.StartOf k) k refl)) }

-- steps

apart : (nodes : List Node) (o : Offset) (os : List Offset) → offsets_of nodes (o ∷ os) ≡ joined (offsets_of nodes (o ∷ [])) (offsets_of nodes os)
apart nodes (Field n) os = refl
apart nodes (Index' p e) os = refl

both : (m : Mapping) (os ps : tree.Offsets) → mapped_offsets m (joined os ps) ≡ joined (mapped_offsets m os) (mapped_offsets m ps)
both m tree.Here ps = refl
both m (tree.Field n os) ps = ap (tree.Field n) (both m os ps)
both m (tree.Index e os) ps = ap (tree.Index (mapped_exp m e)) (both m os ps)

more_offsets : (t : Table) (o p : Offset) (os ps : List Offset) → MapsOffset t o p → MapsOffsets t os ps → MapsOffsets t (o ∷ os) (p ∷ ps)
more_offsets t o p os ps one rest = record {
  at = λ m from to tables.
      apart to p ps ∙ ap (λ x. joined x (offsets_of to ps)) (one.at m from to tables) ∙ ap (joined (mapped_offsets m (offsets_of from (o ∷ [])))) (rest.at m from to tables)
      ∙ sym (both m (offsets_of from (o ∷ [])) (offsets_of from os)) ∙ sym (ap (mapped_offsets m) (apart from o os));
}

pub offsets_map : (t : Table) (i : ℕ) (os ps : List Offset) → length os ≤ i → Replaced (MapsOffset t) i os ps → MapsOffsets t os ps
offsets_map t i [] [] past all = record { at = λ m from to tables. refl }
offsets_map t i [] (p ∷ ps) past all = absurd all
offsets_map t i (o ∷ os) [] past all = absurd all
offsets_map t zero (o ∷ os) (p ∷ ps) past all = absurd (omega arith)
offsets_map t (suc i) (o ∷ os) (p ∷ ps) past all = more_offsets t o p os ps all.0 (offsets_map t i os ps (omega arith) all.1)
