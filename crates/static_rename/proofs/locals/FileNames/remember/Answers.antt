use Rattle.static_rename.proofs.LocalLaws.{table_next}
use Rattle.static_rename.proofs.locals.FileNames.remember.Goals as goal

pub returns-clause-table : goal.returns-clause-table
returns-clause-table c =
    table_next c.args.self.now.names.taken.keys c.args.names.now c.args.self.now.free.entries c.insert.new.self.entries c.args.start c.args.name c.args.number c.requires.table c.requires.found c.in_ok-insert.ensures.entries
