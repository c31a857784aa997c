use Rattle.std.proofs.Common.{◌≡◌}
use Rattle.cil_text.specs.ReadExps.{read_exp}
use Rattle.cil_text.specs.ReadStmts.{read_list}
use Rattle.cil_text.specs.TypesOf.{AddsParts, types_in_args}
use Rattle.cil_scan.specs.Said.{all_said}
use Rattle.cil_reader.specs.Settings.{Onward, env_in}
use Rattle.cil_reader.specs.Instructions.{args_of, ArgsKnown, list_from}
use Rattle.cil_reader.proofs.arguments.read_list.Given as goal

abbrev pub invariant-loop-steps : goal.invariant-loop-steps
invariant-loop-steps l =
    Onward l.fn.r l.r
    × (list_from (read_exp (env_in l.fn.r) l.left) l.steps l.args.closed (args_of l.r.graph.nodes l.args.all.items) (all_said l.args.rest.now) ≡ read_list (read_exp (env_in l.fn.r) l.left) l.left (all_said l.words))
    × ArgsKnown l.r.graph l.args.all.items
    × AddsParts l.fn.r.graph l.r.graph (types_in_args (args_of l.r.graph.nodes l.args.all.items))

abbrev pub decreases-loop-steps : goal.decreases-loop-steps
decreases-loop-steps l = l.steps
