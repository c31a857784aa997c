use Rattle.std.proofs.Common.{refl}
use Rattle.cil_reader.proofs.EnvLaws.{globals_env}
use Rattle.cil_reader.proofs.reader.Reader.set_globals.Goals as goal

pub returns-clause-env : goal.returns-clause-env
returns-clause-env c = globals_env c.self.inside.graph c.self.inside.known c.args.self.now _ c.args.globals c.new-locals.result c.self.view_is c.new-locals.ensures.numbering refl
