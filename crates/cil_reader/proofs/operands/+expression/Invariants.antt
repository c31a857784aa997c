use Rattle.std.proofs.Common.{◌≡◌, ◌+◌, ◌*◌}
use Rattle.type_graph.specs.Arena.{Graph}
use Rattle.cil_tree.specs.View.{lval_of}
use Rattle.cil_text.specs.ReadExps.{read_exp}
use Rattle.cil_text.specs.TypesOf.{AddsParts, types_in_place}
use Rattle.cil_scan.specs.Said.{all_said}
use Rattle.cil_reader.specs.Settings.{Onward, env_in, type_in}
use Rattle.cil_reader.specs.Parts.{PlaceKnown, offsets_left}
use Rattle.cil_reader.proofs.operands.+expression.Given as goal

abbrev pub decreases-read_exp : goal.decreases-read_exp
decreases-read_exp l = l.left * 32

abbrev pub decreases-exp_within : goal.decreases-exp_within
decreases-exp_within l = l.left * 32 + 24

abbrev pub decreases-read_formed : goal.decreases-read_formed
decreases-read_formed l = l.left * 32 + 23

abbrev pub decreases-one_operand : goal.decreases-one_operand
decreases-one_operand l = l.left * 32 + 1

abbrev pub decreases-read_address : goal.decreases-read_address
decreases-read_address l = l.left * 32 + 22

abbrev pub decreases-read_chosen : goal.decreases-read_chosen
decreases-read_chosen l = l.left * 32 + 22

abbrev pub decreases-read_cast : goal.decreases-read_cast
decreases-read_cast l = l.left * 32 + 2

abbrev pub decreases-cast_operand : goal.decreases-cast_operand
decreases-cast_operand l = l.left * 32 + 1

abbrev pub decreases-read_binary : goal.decreases-read_binary
decreases-read_binary l = l.left * 32 + 3

abbrev pub decreases-read_right : goal.decreases-read_right
decreases-read_right l = l.left * 32 + 2

abbrev pub decreases-right_operand : goal.decreases-right_operand
decreases-right_operand l = l.left * 32 + 1

abbrev pub decreases-read_place : goal.decreases-read_place
decreases-read_place l = l.left * 32 + 21

abbrev pub decreases-behind_host : goal.decreases-behind_host
decreases-behind_host l = l.left * 32 + 20

abbrev pub decreases-read_host : goal.decreases-read_host
decreases-read_host l = l.left * 32 + 2

abbrev pub decreases-pointed_host : goal.decreases-pointed_host
decreases-pointed_host l = l.left * 32 + 1

abbrev pub decreases-read_offsets : goal.decreases-read_offsets
decreases-read_offsets l = l.left * 32 + 19

abbrev pub decreases-one_step : goal.decreases-one_step
decreases-one_step l = l.left * 32 + 2

abbrev pub decreases-one_element : goal.decreases-one_element
decreases-one_element l = l.left * 32 + 1

abbrev pub invariant-read_offsets-loop-steps : goal.invariant-read_offsets-loop-steps
invariant-read_offsets-loop-steps l =
    let before = lval_of l.fn.r.graph.nodes l.fn.walk.located.place in
    let place = lval_of l.r.graph.nodes l.at.located.place in
    let env = env_in l.fn.r in
    Onward l.fn.r l.r
    × (offsets_left env (read_exp env l.left) l.steps place (type_in l.r.graph.nodes l.at.located.ty) (all_said l.at.rest.now) ≡ offsets_left env (read_exp env l.left) l.left before (type_in l.fn.r.graph.nodes l.fn.walk.located.ty) (all_said l.fn.walk.rest.now))
    × PlaceKnown l.r.graph (env_in l.r) l.at.located.place l.at.located.ty
    × ((f : Graph) → AddsParts f l.fn.r.graph (types_in_place before) → AddsParts f l.r.graph (types_in_place place))

abbrev pub decreases-read_offsets-loop-steps : goal.decreases-read_offsets-loop-steps
decreases-read_offsets-loop-steps l = l.steps
