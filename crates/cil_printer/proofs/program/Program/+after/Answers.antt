use Rattle.std.proofs.Common.{◌<◌, ◌+◌, ◌*◌, ◌∙◌, ◌≡◌, drop, get_or, arith}
use Rattle.cil_base.specs.declared.numbers.TypeId.{TypeId}
use Rattle.type_graph.specs.Shapes.{shape}
use Rattle.cil_printer.specs.Output.{puts}
use Rattle.cil_printer.specs.Sides.{following, type_parts}
use Rattle.cil_printer.specs.Seen.{tree_of}
use Rattle.cil_printer.proofs.Declarations.{entry_added_after, each_at, following_from, following_end, no_prototype, parameters_pushed, array_after, function_after}
use Rattle.cil_printer.proofs.program.Program.+after.Goals as goal

pub push_after-returns-in-Some : goal.push_after-returns-in-Some
push_after-returns-in-Some t c = entry_added_after _ _ (tree_of c.args.self.now) c.args.t.0 c.in-Some.entry c.in-Some.ensures c.add.ensures

pub push_following-push_type-requires : goal.push_following-push_type-requires
push_following-push_type-requires t c =
    let d : TypeId = record { 0 = 0 } in
    let below : (get_or c.args.rest.now c.loop-i.i d).0 < c.args.of.0 = each_at c.args.of.0 c.args.rest.now c.loop-i.i d c.requires.below c.loop-i-test.true in
    let falls : 8 * (get_or c.args.rest.now c.loop-i.i d).0 + 6 < t = omega (arith, c.decreases, below) in
    (falls, omega (arith, c.requires.there, below))

pub push_following-loop-i-preserved : goal.push_following-loop-i-preserved
push_following-loop-i-preserved t c =
    let e : puts c.push_type.new.out (following (type_parts (tree_of c.args.self.now) (drop (c.loop-i.i + 1) c.args.rest.now))) ≡ puts c.loop-i.out (following (type_parts (tree_of c.args.self.now) (drop c.loop-i.i c.args.rest.now))) =
    following_from _ _ _ (tree_of c.args.self.now) c.args.rest.now c.loop-i.i _ (record { 0 = 0 }) (omega arith) c.loop-i-test.true c.token.ensures c.push_type.ensures in
    e ∙ c.loop-i.invariant

pub push_following-returns : goal.push_following-returns
push_following-returns t c = following_end _ _ (tree_of c.args.self.now) c.args.rest.now c.loop-i.i c.loop-i-test.false c.loop-i.invariant

pub push_listed-returns-then-not-list : goal.push_listed-returns-then-not-list
push_listed-returns-then-not-list t c = no_prototype _ c.args.list.proto c.args.list.variadic _ c.if-not-list.true

pub push_types-returns : goal.push_types-returns
push_types-returns t c =
    let p = tree_of c.args.self.now in
    parameters_pushed _ _ _ _ p (rw c.graph.ensures at c.len-types.ensures.arena) c.args.of.0 c.args.first c.args.rest.now c.args.variadic c.requires.there c.requires.below c.requires.first
    c.push_type.ensures c.push_following.ensures c.push_end.ensures

pub write_after-returns-in-Array : goal.write_after-returns-in-Array
write_after-returns-in-Array t c =
    let p = tree_of c.args.self.now in
    array_after _ _ _ p (shape p.graph.nodes) _ c.node.result.now c.in-Array.q c.in-Array.bound (rw c.graph.ensures at c.node.ensures.shape) c.in-Array.is
    c.push_brackets.ensures c.push_after-in-Array.ensures

pub write_after-returns-in-Func : goal.write_after-returns-in-Func
write_after-returns-in-Func t c =
    let p = tree_of c.args.self.now in
    function_after _ _ _ p (shape p.graph.nodes) _ c.node.result.now c.in-Func.ret c.in-Func.params c.in-Func.proto c.in-Func.variadic (rw c.graph.ensures at c.node.ensures.shape) c.in-Func.is
    (rw c.as_slice.ensures at c.push_parameters.ensures) c.push_after-in-Func.ensures
