use Rattle.std.specs.Prelude.{false}
use Rattle.typedef_scopes.specs.Scopes.{declared}
use Rattle.c_parser.specs.OwnList.{Reaches}
use Rattle.c_parser.proofs.own_list.declare_names.Given as goal

abbrev pub invariant-loop-x : goal.invariant-loop-x
invariant-loop-x l = Reaches (λ ds n. declared n false ds) l.fn.s l.xs l.x-index l.s
