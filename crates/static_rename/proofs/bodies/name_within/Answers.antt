use Rattle.static_rename.proofs.BodyLaws.{within_body}
use Rattle.static_rename.proofs.bodies.name_within.Goals as goal

pub returns-in-Body-clause-named : goal.returns-in-Body-clause-named
returns-in-Body-clause-named c = within_body c.name_body.result c.args.file.now.names.taken.keys c.name_body.new.names c.args.bases c.args.global.now c.in-Body.body c.name_body.new.body c.in-Body.is c.name_body.ensures.named
