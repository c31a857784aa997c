use Rattle.cast_rules.proofs.BuiltTypes.{shape_built}
use Rattle.cast_rules.proofs.Extending.{extends_twice, element_given}
use Rattle.cast_rules.proofs.places.subscript_node.Goals as goal

pub returns : goal.returns
returns c there =
    element_given c.args.t.now c.indexed.new.t c.args.pairing c.in-Some.ty c.in_ok-subscript.field-0
    (extends_twice c.args.t.now c.both_values.new.t c.indexed.new.t c.in_ok-pair.ensures c.in_ok-left.ensures)
    there
    (c.in-Some.ensures c.indexed.new.t.nodes)
    (shape_built _ _ _ _ c.in_ok-subscript.field-0 c.indexed.new.t.nodes c.in_ok-subscript.ensures)
