use Rattle.type_things.specs.Heads.{parts_of}
use Rattle.type_things.specs.Webs.{things_of}
use Rattle.type_links.proofs.LinkSteps.{fits_some, fits_none}
use Rattle.type_links.proofs.linking.prototype_fits.Goals as goal

pub returns-in-len1-up : goal.returns-in-len1-up
returns-in-len1-up c = fits_some (things_of c.args.web.now) c.parameters_fit.result c.args.bare (parts_of (things_of c.args.web.now) c.args.x) c.in_ok-parts.field-0.now c.in_ok-parts.ensures c.in-len1-up.len_at_least c.parameters_fit.ensures

pub returns-in-empty : goal.returns-in-empty
returns-in-empty c = fits_none (things_of c.args.web.now) c.args.bare (parts_of (things_of c.args.web.now) c.args.x) c.in_ok-parts.field-0.now c.in_ok-parts.ensures c.in-empty.len_below
