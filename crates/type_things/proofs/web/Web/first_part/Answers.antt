use Rattle.type_things.specs.Heads.{parts_of}
use Rattle.type_things.specs.Webs.{things_of}
use Rattle.type_things.proofs.WebLaws.{first_of_parts}
use Rattle.type_things.proofs.web.Web.first_part.Goals as goal

pub returns-in-len1-up : goal.returns-in-len1-up
returns-in-len1-up c = first_of_parts (parts_of (things_of c.args.self.now) c.args.x) c.in_ok-parts.field-0.now _ c.in_ok-parts.ensures c.in-len1-up.len_at_least
