use Rattle.std.proofs.Common.{refl, arith}
use Rattle.type_things.proofs.web.add_thing.Goals as goal

pub returns : goal.returns
returns c = record {
  span = record { first = c.args.first; count = c.in-Some.count };
  things = c.in_ok-push.ensures.items;
  begin = refl;
  end = omega (arith, c.in_ok-end.ensures, c.in-Some.ensures, c.len.ensures);
  parts = refl;
  firsts = refl;
  aggregates = refl;
}
