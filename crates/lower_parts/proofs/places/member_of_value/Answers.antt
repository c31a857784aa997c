use Rattle.lower_parts.proofs.CodeLaws.{member_read}
use Rattle.lower_parts.proofs.places.member_of_value.Goals as goal

-- src/places.rt:304:1
pub returns-in-Lval : goal.returns-in-Lval
returns-in-Lval c = member_read c.args.x c.read.result c.in-Lval.place c.in_ok-place-in-Lval.place c.args.i c.in-Lval.is c.in_ok-place-in-Lval.ensures c.read.ensures
