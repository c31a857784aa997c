use Rattle.std.proofs.Common.{arith}
use Rattle.std.proofs.lemmas.Grind.{common_steps}
use Rattle.cil_reader.proofs.MemberLaws.{line_closed, line_read, line_fails}
use Rattle.cil_reader.proofs.AddedMembers.{fields_same}
use Rattle.cil_reader.proofs.OnwardLaws.{onward_none}
use Rattle.cil_reader.proofs.PoolLaws.{pool_same}
use Rattle.cil_reader.proofs.aggregates.next_member.Goals as goal

pub returns-then-is_close-clause-gives : goal.returns-then-is_close-clause-gives
returns-then-is_close-clause-gives c = grind (arith, common_steps, line_closed)

pub returns-then-is_close-clause-adds : goal.returns-then-is_close-clause-adds
returns-then-is_close-clause-adds c = fields_same c.args.r.now.graph c.args.fields.names.types.items

pub returns-then-is_close-clause-on : goal.returns-then-is_close-clause-on
returns-then-is_close-clause-on c = onward_none c.args.r.now

pub returns-then-is_close-clause-pool : goal.returns-then-is_close-clause-pool
returns-then-is_close-clause-pool c = pool_same c.args.pool.now

pub returns-in_err-more-in-len1-up-clause-gives : goal.returns-in_err-more-in-len1-up-clause-gives
returns-in_err-more-in-len1-up-clause-gives c = grind (arith, line_fails)

pub returns-in-empty-clause-on : goal.returns-in-empty-clause-on
returns-in-empty-clause-on c = onward_none c.args.r.now

pub returns-in-empty-clause-pool : goal.returns-in-empty-clause-pool
returns-in-empty-clause-pool c = pool_same c.args.pool.now

pub returns-in_ok-more-in-len1-up-clause-gives : goal.returns-in_ok-more-in-len1-up-clause-gives
returns-in_ok-more-in-len1-up-clause-gives c = grind (arith, common_steps, line_read)

pub returns-then-is_close-clause-less : goal.returns-then-is_close-clause-less
returns-then-is_close-clause-less c = grind (arith, common_steps)

pub returns-in_ok-more-in-len1-up-clause-less : goal.returns-in_ok-more-in-len1-up-clause-less
returns-in_ok-more-in-len1-up-clause-less c = grind (arith, common_steps)

pub one_member-requires : goal.one_member-requires
one_member-requires c = c.requires

pub returns-in_ok-more-in-len1-up-clause-known : goal.returns-in_ok-more-in-len1-up-clause-known
returns-in_ok-more-in-len1-up-clause-known c = c.in_ok-more-in-len1-up.ensures.known

pub returns-in_ok-more-in-len1-up-clause-adds : goal.returns-in_ok-more-in-len1-up-clause-adds
returns-in_ok-more-in-len1-up-clause-adds c = c.in_ok-more-in-len1-up.ensures.adds

pub returns-in-empty-clause-gives : goal.returns-in-empty-clause-gives
returns-in-empty-clause-gives c = grind (arith, common_steps)
