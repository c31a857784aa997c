use Rattle.cil_reader.proofs.SettingsLaws.{local_known, global_known}
use Rattle.cil_reader.proofs.reader.Reader.host_named.Goals as goal

pub returns-in-Some-clause-known : goal.returns-in-Some-clause-known
returns-in-Some-clause-known c = local_known c.self.inside.graph c.self.inside.known c.args.self.now c.args.name.now c.in-Some.found c.self.view_is c.self.invariant c.in-Some.ensures

pub returns-in-Some-find-clause-known : goal.returns-in-Some-find-clause-known
returns-in-Some-find-clause-known c = global_known c.self.inside.graph c.self.inside.known c.args.self.now c.args.name.now c.in-Some-find.found c.self.view_is c.self.invariant c.in-Some-find.ensures
