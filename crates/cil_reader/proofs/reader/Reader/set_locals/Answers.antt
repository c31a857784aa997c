use Rattle.std.proofs.Common.{refl}
use Rattle.cil_reader.proofs.EnvLaws.{locals_env}
use Rattle.cil_reader.proofs.reader.Reader.set_locals.Goals as goal

pub returns-clause-env : goal.returns-clause-env
returns-clause-env c = locals_env c.self.inside.graph c.self.inside.known c.args.self.now _ c.args.locals c.self.view_is refl
