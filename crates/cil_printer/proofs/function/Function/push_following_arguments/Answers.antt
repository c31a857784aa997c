use Rattle.std.proofs.Common.{◌≡◌, ◌∙◌, ◌+◌, drop, arith}
use Rattle.cil_printer.specs.Output.{puts}
use Rattle.cil_printer.specs.Sides.{following}
use Rattle.cil_printer.specs.Seen.{scope_in, nodes_in, exp_parts}
use Rattle.cil_printer.proofs.Calls.{typed_at, arguments_from, arguments_end}
use Rattle.cil_printer.proofs.function.Function.push_following_arguments.Goals as goal

pub push_expression-requires : goal.push_expression-requires
push_expression-requires c = typed_at (scope_in c.args.self.now) (nodes_in c.args.self.now) c.args.arguments.now c.loop-i.i _ c.loop-i-test.true c.index-arguments-i.is c.requires

pub loop-i-preserved : goal.loop-i-preserved
loop-i-preserved c =
    let s = scope_in c.args.self.now in
    let n = nodes_in c.args.self.now in
    let e : puts c.push_expression.new.out (following (exp_parts s n (drop (c.loop-i.i + 1) c.args.arguments.now))) ≡ puts c.loop-i.out (following (exp_parts s n (drop c.loop-i.i c.args.arguments.now))) =
    arguments_from _ _ _ s n c.args.arguments.now c.loop-i.i _ _ (omega arith) c.loop-i-test.true c.index-arguments-i.is c.token.ensures c.push_expression.ensures.text in
    e ∙ c.loop-i.invariant

pub returns : goal.returns
returns c = arguments_end _ _ (scope_in c.args.self.now) (nodes_in c.args.self.now) c.args.arguments.now c.loop-i.i c.loop-i-test.false c.loop-i.invariant
