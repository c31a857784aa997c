use Rattle.std.proofs.Common.{arith, map, refl}
use Rattle.type_things.specs.Units.{member_part}
use Rattle.type_things.proofs.WeaveLaws.{closes_adds}
use Rattle.type_things.proofs.web.Weaving.add_complete.Goals as goal

pub returns : goal.returns
returns c = λ names h. closes_adds c.add_thing.result c.args.web.now _ c.add_thing.new.web c.args.head c.in_ok-first.first (map (member_part names c.args.kind c.args.self.now.first.ty) c.args.members.now) c.requires (omega (arith, c.in_ok-first.ensures, c.len.ensures)) (c.in_ok-push_members.ensures names h) refl refl refl c.add_thing.ensures
