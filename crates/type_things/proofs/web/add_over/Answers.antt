use Rattle.std.proofs.Common.{[], ◌∷◌, ◌+◌, arith, refl}
use Rattle.type_things.specs.Units.{plain}
use Rattle.type_things.proofs.WeaveLaws.{closes_adds}
use Rattle.type_things.proofs.web.add_over.Goals as goal

pub returns : goal.returns
returns c = closes_adds c.add_thing.result c.args.web.now _ c.add_thing.new.web c.args.head c.in_ok-first.first ((plain, c.args.base + c.args.part) ∷ []) c.requires (omega (arith, c.in_ok-first.ensures, c.len.ensures)) c.in_ok-push_part.ensures refl refl refl c.add_thing.ensures
