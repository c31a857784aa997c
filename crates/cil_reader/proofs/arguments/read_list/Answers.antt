use Rattle.std.proofs.Common.{◌≡◌, ◌<◌, false, Err, rules}
use Rattle.cil_scan.specs.Said.{all_said}
use Rattle.cil_reader.specs.Settings.{env_in}
use Rattle.cil_reader.specs.Instructions.{args_of}
use Rattle.cil_reader.proofs.OnwardLaws.{onward_twice}
use Rattle.cil_reader.proofs.InstructionLaws.{list_next, list_stop}
use Rattle.cil_reader.proofs.arguments.read_list.Goals as goal

pub loop-steps-preserved : goal.loop-steps-preserved
loop-steps-preserved c =
    let inv = c.loop-steps.invariant in
    let old = c.loop-steps.r in
    let new = c.one_argument.new.r in
    let some : 0 < c.loop-steps.steps = search rules in
    let open_ : c.loop-steps.args.closed ≡ false = search rules in (
      onward_twice c.args.r.now old new inv.0 c.one_argument.ensures.on,
      list_next (env_in c.args.r.now) (env_in old) c.args.left c.loop-steps.steps (args_of old.graph.nodes c.loop-steps.args.all.items) (args_of new.graph.nodes c.in_ok-args.args.all.items) c.in_ok-args.args.closed c.loop-steps.args.closed
          (all_said c.loop-steps.args.rest.now) (all_said c.in_ok-args.args.rest.now) _ some inv.0.env c.in_ok-args.ensures.gives open_ inv.1,
      c.in_ok-args.ensures.known,
      c.in_ok-args.ensures.adds c.args.r.now.graph inv.3,
    )

pub returns-in_err-args-clause-gives : goal.returns-in_err-args-clause-gives
returns-in_err-args-clause-gives c =
    let inv = c.loop-steps.invariant in
    let old = c.loop-steps.r in
    let some : 0 < c.loop-steps.steps = search rules in
    let open_ : c.loop-steps.args.closed ≡ false = search rules in
    let stops = list_stop (env_in c.args.r.now) (env_in old) c.args.left c.loop-steps.steps (args_of old.graph.nodes c.loop-steps.args.all.items) c.loop-steps.args.closed (all_said c.loop-steps.args.rest.now) _ c.in_err-args.field-0.0 some inv.0.env open_
    c.in_err-args.ensures.gives inv.1 in
    let err : c.from_residual.result ≡ Err c.in_err-args.field-0.0 = search rules in
    rw err stops
