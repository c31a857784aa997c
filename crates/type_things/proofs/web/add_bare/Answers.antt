use Rattle.std.proofs.Common.{[], arith, refl, sym, append-nil}
use Rattle.type_things.proofs.WeaveLaws.{closes_adds}
use Rattle.type_things.proofs.web.add_bare.Goals as goal

pub returns : goal.returns
returns c = closes_adds c.add_thing.result c.args.web.now c.args.web.now c.add_thing.new.web c.args.head c.in_ok-first.first [] c.requires (omega (arith, c.in_ok-first.ensures, c.len.ensures)) (sym (append-nil c.args.web.now.parts.items)) refl refl refl c.add_thing.ensures
