use Rattle.std.proofs.Common.{◌≡◌, ◌+◌, ◌<◌, get_or, length, arith, rules}
use Rattle.cil_tree.specs.View.{local_of, body_of}
use Rattle.cil_semantics.specs.Runs.{body_objects}
use Rattle.cil_table.proofs.PartLaws.{objects_next}
use Rattle.cil_table.proofs.functions.body_objects.Goals as goal

pub loop-i-preserved : goal.loop-i-preserved
loop-i-preserved c =
    let g = c.args.s.now.scope.unit.now.graph in
    let names = c.args.s.now.scope.names.now in
    let b = c.args.s.now.scope.body.now in
    let is : c.index.result.now ≡ get_or b.locals.items c.loop-i.i c.index.result.now = search rules in
    let there : c.loop-i.i < length b.locals.items = omega arith in
    objects_next g (local_of g.nodes names) b.locals.items c.loop-i.i (c.loop-i.i + 1) c.index.result.now c.loop-i.objects.items c.push_object.new.objects.items (body_objects g (body_of g.nodes names b)) there is (omega arith) c.loop-i.invariant
    c.in_ok-push_object.ensures
