use Rattle.std.proofs.Common.{◌≡◌, Bool, drop}
use Rattle.type_graph.specs.Shapes.{Shape, Shapes, FuncType, shape}
use Rattle.cast_rules.specs.Calls.{first_from}
use Rattle.cast_rules.proofs.calls.first_from.Given as goal

abbrev pub invariant-loop-i : goal.invariant-loop-i
invariant-loop-i l = (ret : Shape) (params : Shapes) (proto variadic : Bool) → shape l.t.nodes l.of.0 ≡ FuncType ret params proto variadic → first_from l.t params l.i (drop l.i l.arguments) ≡ first_from l.t params 0 l.arguments
