use Rattle.std.proofs.Common.{◌∙◌, arith}
use Rattle.cil_scan.specs.Said.{all_lines}
use Rattle.cil_reader.specs.Settings.{env_in}
use Rattle.cil_reader.specs.Globals.{declaration_of, next_definition}
use Rattle.cil_reader.proofs.GlobalLaws.{own_seen, line_fails}
use Rattle.cil_reader.proofs.globals.own_global.Goals as goal

pub returns-in_err-global-clause-gives : goal.returns-in_err-global-clause-gives
returns-in_err-global-clause-gives c = grind (arith, line_fails)

pub returns-clause-gives : goal.returns-clause-gives
returns-clause-gives c =
    let x = declaration_of c.args.r.now.graph.nodes c.args.x.now in
    own_seen c.defined_global.new.r.graph c.defined_global.new.pool x c.in_ok-global.global (next_definition (env_in c.args.r.now) c.args.left x (all_lines c.args.lines.now)) (all_lines c.args.lines.now) (all_lines c.waiting_at-waiting.result.lines.now) c.in_ok-global.ensures.gives
    (c.waiting_at-waiting.ensures.lines ∙ c.behind_line.ensures.is)
