use Rattle.std.proofs.Common.{subst}
use Rattle.type_graph.specs.Arena.{IsArena}
use Rattle.cast_rules.proofs.ArgumentLists.{wrong_here, right_here, all_right, tested}
use Rattle.cast_rules.proofs.calls.first_from.Goals as goal

pub returns-then-is_unassignable : goal.returns-then-is_unassignable
returns-then-is_unassignable c ret params proto variadic is =
    let test = tested c.args.t.now c.args.of.0 c.loop-i.i ret params proto variadic _ _ c.args.arguments.now _ (subst IsArena c.graph.ensures.arena c.len-types.ensures.arena) is c.param.ensures c.index-arguments-i.is c.is_unassignable.ensures in
    wrong_here c.args.t.now params c.args.arguments.now c.loop-i.i _ _ c.loop-i-test.true test c.if-is_unassignable.true (c.loop-i.invariant ret params proto variadic is)

pub loop-i-preserved : goal.loop-i-preserved
loop-i-preserved c ret params proto variadic is =
    let test = tested c.args.t.now c.args.of.0 c.loop-i.i ret params proto variadic _ _ c.args.arguments.now _ (subst IsArena c.graph.ensures.arena c.len-types.ensures.arena) is c.param.ensures c.index-arguments-i.is c.is_unassignable.ensures in
    right_here c.args.t.now params c.args.arguments.now c.loop-i.i _ _ c.loop-i-test.true test c.if-is_unassignable.false (c.loop-i.invariant ret params proto variadic is)

pub returns : goal.returns
returns c ret params proto variadic is = all_right c.args.t.now params c.args.arguments.now c.loop-i.i c.loop-i-test.false (c.loop-i.invariant ret params proto variadic is)
