use Rattle.type_graph.specs.Shapes.{shape}
use Rattle.init_expand.specs.Images.{HasNoZero, AreScalars}
use Rattle.init_expand.specs.Spots.{RisesTo}
use Rattle.init_expand.proofs.images.add_characters.Given as goal

abbrev pub invariant-loop-i : goal.invariant-loop-i
invariant-loop-i l =
    (HasNoZero l.fn.image.items.items → HasNoZero l.image.items.items)
    × (RisesTo l.types (shape l.types.nodes l.ty.0) 0 l.fn.image.items.items l.fn.image.least → RisesTo l.types (shape l.types.nodes l.ty.0) 0 l.image.items.items l.image.least)
    × (AreScalars l.types (shape l.types.nodes l.ty.0) l.fn.image.items.items → AreScalars l.types (shape l.types.nodes l.ty.0) l.image.items.items)
