-- Device: nodes of a use at another type, put together.
use Rattle.std.proofs.Common.{◌≡◌, ℕ, [], ap, ◌∙◌}
use Rattle.cil_base.specs.declared.numbers.EntityId.{EntityId}
use Rattle.cil_base.specs.declared.numbers.TypeId.{TypeId}
use Rattle.cil_tree.specs.declared.expressions.Exp.{Exp as SeenExp}
use Rattle.cil_tree.specs.declared.expressions.Host.{Host as SeenHost, Global}
use Rattle.cil_tree.specs.declared.expressions.Lval.{Lval as SeenLval}
use Rattle.cil_tree.specs.Tree as plain
use Rattle.cil_tree.specs.View.{exp_of, host_of, offsets_of, type_at}
use Rattle.cil_nodes.specs.Built.{IsAddress, IsCast, IsAt}
use Rattle.cil_bodies.specs.Retyped.{IsRetypedPointer, IsRetyped}

pub pointer_is : (to : TypeId) (entity : EntityId) (l : SeenLval) (a b e r : SeenExp) → l.host ≡ Global entity → l.offsets.items ≡ [] → IsAddress l a → b ≡ a → IsCast to b e → r ≡ e → IsRetypedPointer to entity.0 r
pointer_is to entity l a b e r host none address same cast is = record {
  at = λ nodes.
      ap (exp_of nodes) is ∙ cast.at nodes ∙ ap (plain.Cast (type_at nodes to)) (ap (exp_of nodes) same ∙ address.at nodes
      ∙ ap (λ h. plain.AddrOf (plain.Place (host_of nodes h) (offsets_of nodes l.offsets.items))) host ∙ ap (λ xs. plain.AddrOf (plain.Place (plain.Global entity.0) (offsets_of nodes xs))) none);
}

pub retyped_is : (to : TypeId) (n : ℕ) (e : SeenExp) (h : SeenHost) → IsRetypedPointer to n e → IsAt e h → IsRetyped to n h
retyped_is to n e h pointer at = record { at = λ nodes. at.at nodes ∙ ap plain.At (pointer.at nodes) }
