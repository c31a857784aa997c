-- Device: members of complete types may complete an aggregate.
use Rattle.std.proofs.Common.{◌≡◌, Bool, true, ◌&&◌, ◌||◌, List, [], ◌∷◌, refl, ap, ◌∙◌}
use Rattle.type_graph.specs.declared.aggregates.AggKind.{AggKind}
use Rattle.type_graph.specs.declared.aggregates.Member.{Member}
use Rattle.type_graph.specs.Shapes.{shape}
use Rattle.type_graph.specs.Arena.{Graph, members_fit, complete, is_struct, is_last, flexible_shape}

pub no_members : (g : Graph) (kind : AggKind) (behind : Bool) → members_fit g kind behind [] ≡ true
no_members g kind behind = refl

pub more_members : (g : Graph) (kind : AggKind) (behind : Bool) (m : Member) (ms : List Member) → complete g m.ty.of.0 ≡ true → members_fit g kind true ms ≡ true → members_fit g kind behind (m ∷ ms) ≡ true
more_members g kind behind m ms h e =
    ap (λ b. (b || (is_struct kind && (behind && (is_last ms && flexible_shape g.aggs (shape g.nodes m.ty.of.0))))) && members_fit g kind true ms) h ∙ e
