use Rattle.type_things.specs.Webs.{things_of}
use Rattle.type_things.proofs.WovenSteps.{parts_full, parts_none}
use Rattle.type_things.proofs.web.Web.parts.Goals as goal

pub returns-in-Some : goal.returns-in-Some
returns-in-Some c = parts_full (things_of c.args.self.now) c.args.x c.in_ok-parts.field-0 c.in-Some.parts c.in_ok-parts.ensures c.in-Some.is

pub returns-in-None : goal.returns-in-None
returns-in-None c = parts_none (things_of c.args.self.now) c.args.x c.in_ok-parts.field-0 c.in_ok-parts.ensures c.in-None.is
