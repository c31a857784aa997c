use Rattle.cil_turns.proofs.Courses.{before_call, only_calls}
use Rattle.cil_turns.proofs.calls.call_at.Goals as goal

pub call_with-requires : goal.call_with-requires
call_with-requires g c = before_call c.args.table.now c.args.run.now c.args.x c.behind.result c.args.f.now c.in-Call.k c.index.result.now c.requires.stands c.requires.running c.requires.there c.index.ensures c.in-Call.is c.behind.ensures

pub unreachable-requires : goal.unreachable-requires
unreachable-requires g c = only_calls c.args.f.now.code.items c.args.x.place c.index.result.now c.requires.there c.index.ensures (λ k e. c.in_default.not-Call k e)
