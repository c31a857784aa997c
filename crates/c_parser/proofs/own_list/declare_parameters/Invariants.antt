use Rattle.c_tree.specs.View.{parameter_of}
use Rattle.c_tree.specs.Scoped.{after_parameter}
use Rattle.c_parser.specs.OwnList.{Reaches}
use Rattle.c_parser.proofs.own_list.declare_parameters.Given as goal

abbrev pub invariant-loop-x : goal.invariant-loop-x
invariant-loop-x l = Reaches (λ ds x. after_parameter ds (parameter_of x)) l.fn.s l.xs l.x-index l.s
