use Rattle.static_rename.proofs.LocalLaws.{found_in}
use Rattle.static_rename.proofs.locals.FileNames.free_from.Goals as goal

pub returns-in-Some-clause-least : goal.returns-in-Some-clause-least
returns-in-Some-clause-least c =
    found_in c.args.self.now.names.taken.keys c.args.names.now c.args.self.now.free.entries (record { base = c.args.base; from = c.args.from }) c.in-Some.found.now c.requires.table c.in-Some.ensures.value
