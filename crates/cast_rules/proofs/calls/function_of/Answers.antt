use Rattle.cast_rules.proofs.ArgumentLists.{callee_told}
use Rattle.cast_rules.proofs.calls.function_of.Goals as goal

pub returns-in-Func : goal.returns-in-Func
returns-in-Func c = callee_told c.args.t.now _ c.in-Func.ensures
