use Rattle.std.proofs.Common.{inl, inr, refl, arith}
use Rattle.type_order.proofs.ComingLaws.{insert_added, push_added}
use Rattle.type_order.proofs.coming.Coming.free.Goals as goal

pub returns-then-x-listed-clause-frees : goal.returns-then-x-listed-clause-frees
returns-then-x-listed-clause-frees c = record {
  firsts = refl;
  all = refl;
  where_to = inl (c.if-x-listed.true, insert_added c.args.self.now.ready.keys c.insert.new.self.keys c.args.x c.in_ok-insert.ensures.keys, refl);
}

pub returns-clause-frees : goal.returns-clause-frees
returns-clause-frees c = record {
  firsts = refl;
  all = refl;
  where_to = inr (omega (arith, c.if-x-listed.false), push_added c.args.self.now.silent.items c.push.new.self.items c.args.x c.in_ok-push.ensures.items, refl);
}
