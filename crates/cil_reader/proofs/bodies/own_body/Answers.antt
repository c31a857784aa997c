use Rattle.std.proofs.Common.{◌≡◌, true, rules}
use Rattle.cil_text.specs.ReadGlobals.{begins_with}
use Rattle.cil_reader.specs.Settings.{env_in, outside}
use Rattle.cil_reader.specs.Globals.{declaration_of}
use Rattle.cil_reader.specs.Bodies.{texts_of}
use Rattle.cil_reader.proofs.FunctionLaws.{own_step}
use Rattle.cil_reader.proofs.bodies.own_body.Goals as goal

pub returns-clause-gives : goal.returns-clause-gives
returns-clause-gives c =
    let own : begins_with (texts_of c.args.header.now) c.args.declaration.now.name.now ≡ true = search rules in
    own_step (outside (env_in c.args.r.now)) c.args.left (declaration_of c.args.r.now.graph.nodes c.args.declaration.now) (texts_of c.args.header.now) (texts_of c.behind_first-params.result.now) c.args.lines.now c.behind_line-inner.result.now c.block_length-count.result _ own
    c.behind_line-inner.ensures.is c.behind_line-inner.ensures.list c.block_length-count.ensures.is c.behind_first-params.ensures c.in_ok-body.ensures.gives
