use Rattle.cil_reader.proofs.BodyLaws.{local_known}
use Rattle.cil_reader.proofs.bodies.with_local.Goals as goal

pub returns-clause-known : goal.returns-clause-known
returns-clause-known c =
    local_known c.args.r.now.graph c.args.pool.now c.intern.new.self c.args.locals (record { names = c.in_ok-names.names; all = c.push.new.self }) c.args.text.now c.in_ok-name.name c.args.ty c.requires.known c.requires.there c.in_ok-name.ensures.ok
    c.in_ok-names.ensures.numbering c.in_ok-names.ensures.types c.in_ok-push.ensures.items
