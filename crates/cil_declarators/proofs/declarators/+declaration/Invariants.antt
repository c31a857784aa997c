use Rattle.std.proofs.Common.{◌≡◌, length, ◌+◌, ◌*◌}
use Rattle.type_graph.specs.Arena.{EachType}
use Rattle.type_graph.specs.Shapes.{shape, shapes_of}
use Rattle.cil_text.specs.ReadTypes.{read_params}
use Rattle.cil_text.specs.TypesOf.{AddsParts}
use Rattle.cil_scan.specs.Said.{all_said}
use Rattle.cil_declarators.specs.Extends.{Extends}
use Rattle.cil_declarators.specs.Bases.{bases_in}
use Rattle.cil_declarators.specs.Layers.{listed, read_parameter}
use Rattle.cil_declarators.proofs.LayersLaws.{params_left}
use Rattle.cil_declarators.proofs.declarators.+declaration.Given as goal

abbrev pub decreases-read_decl : goal.decreases-read_decl
decreases-read_decl l = l.left * 68719476736

abbrev pub decreases-declared_as : goal.decreases-declared_as
decreases-declared_as l = l.left * 68719476736 + 51539607552

abbrev pub decreases-tails : goal.decreases-tails
decreases-tails l = l.left * 68719476736 + (l.steps * 8 + 8)

abbrev pub decreases-behind_suffix : goal.decreases-behind_suffix
decreases-behind_suffix l = l.left * 68719476736 + (l.steps * 8 + 9)

abbrev pub decreases-popped : goal.decreases-popped
decreases-popped l = l.left * 68719476736 + (l.steps * 8 + 9)

abbrev pub decreases-read_suffix : goal.decreases-read_suffix
decreases-read_suffix l = l.left * 68719476736 + (l.steps * 8 + 4)

abbrev pub decreases-read_called : goal.decreases-read_called
decreases-read_called l = l.left * 68719476736 + (l.steps * 8 + 3)

abbrev pub decreases-read_params : goal.decreases-read_params
decreases-read_params l = l.left * 68719476736 + (l.steps * 8 + 2)

abbrev pub decreases-one_param : goal.decreases-one_param
decreases-one_param l = l.left * 68719476736 + 1

abbrev pub invariant-read_params-loop-turns : goal.invariant-read_params-loop-turns
invariant-read_params-loop-turns l =
    Extends l.fn.graph l.graph
    × (params_left (read_parameter (bases_in l.abi l.tags) l.left) l.turns l.params.follows (shapes_of (shape l.graph.nodes) l.params.types.items) (all_said l.params.rest.now) ≡ read_params (read_parameter (bases_in l.abi l.tags) l.left) l.steps (all_said l.words))
    × EachType (length l.graph.nodes) l.params.types.items
    × AddsParts l.fn.graph l.graph (listed (shapes_of (shape l.graph.nodes) l.params.types.items))

abbrev pub decreases-read_params-loop-turns : goal.decreases-read_params-loop-turns
decreases-read_params-loop-turns l = l.turns
