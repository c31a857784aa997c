use Rattle.type_things.proofs.WebLaws.{first_type_at}
use Rattle.type_things.proofs.web.Web.ty.Goals as goal

pub returns : goal.returns
returns c = first_type_at c.sum.result c.args.self.now.firsts.items c.args.u.0 c.args.t.0 c.in_ok-first.field-0 c.in_ok-first.ensures c.sum.ensures
