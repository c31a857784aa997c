use Rattle.std.proofs.Common.{None, refl}
use Rattle.type_things.proofs.WeaveLaws.{adds_none}
use Rattle.type_things.proofs.web.add_incomplete.Goals as goal

pub returns : goal.returns
returns c = adds_none c.args.web.now _ (record { head = c.args.head; inside = None }) c.requires refl c.in_ok-push.ensures.items refl refl refl
