use Rattle.cil_scan.specs.Said.{all_lines}
use Rattle.cil_reader.specs.Settings.{env_in}
use Rattle.cil_reader.specs.Globals.{declaration_of, next_definition}
use Rattle.cil_reader.proofs.GlobalLaws.{defined_seen, defined_known}
use Rattle.cil_reader.proofs.globals.defined_global.Goals as goal

pub returns-clause-gives : goal.returns-clause-gives
returns-clause-gives c =
    defined_seen c.args.r.now.graph c.next_definition.new.r.graph c.global.new.pool c.args.x.now c.in_ok-def.def c.in_ok-global.field-0 (next_definition (env_in c.args.r.now) c.args.left (declaration_of c.args.r.now.graph.nodes c.args.x.now) (all_lines c.args.lines.now))
    c.in_ok-global.ensures.is c.in_ok-def.ensures.flat c.in_ok-def.ensures.gives c.next_definition.ensures.on.grows c.requires

pub returns-clause-known : goal.returns-clause-known
returns-clause-known c =
    defined_known c.args.r.now.graph c.next_definition.new.r.graph c.global.new.pool c.args.x.now c.in_ok-def.def c.in_ok-global.field-0 c.in_ok-global.ensures.is c.in_ok-def.ensures.flat c.next_definition.ensures.on.grows c.requires
