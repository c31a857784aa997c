use Rattle.static_rename.proofs.LocalLaws.{local_made}
use Rattle.static_rename.proofs.locals.FunctionNames.make.Goals as goal

pub returns-clause-gives : goal.returns-clause-gives
returns-clause-gives c =
    local_made c.args.file.now.names.taken.keys c.args.self.now.given.taken.keys c.take_suffixed.new.self.taken.keys c.args.self.now.given.next.entries c.take_suffixed.new.self.next.entries c.args.names.now c.free.new.names c.args.base c.in_ok-name.name c.in_ok-name.number c.requires.ready c.in_ok-name.ensures.stays c.in_ok-name.ensures.least c.in_ok-take_suffixed.ensures.taken c.in_ok-take_suffixed.ensures.next
