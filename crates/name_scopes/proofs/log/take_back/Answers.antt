use Rattle.std.proofs.Common.{rules, ◌≡◌, ◌<◌, refl, length, Some, slice_get, ◌-◌, arith}
use Rattle.std.proofs.lemmas.Option.{slice_get_read}
use Rattle.name_scopes.proofs.UndoLemmas.{step_back}
use Rattle.name_scopes.proofs.log.take_back.Goals as goal

pub loop-i-preserved : goal.loop-i-preserved
loop-i-preserved g c =
    let inside : c.loop-i.i < length c.args.scope.now = search rules in
    let place : length c.args.scope.now - 1 - c.loop-i.i < length c.args.scope.now = omega (arith, inside) in
    let got : slice_get c.args.scope.now (length c.args.scope.now - 1 - c.loop-i.i) ≡ Some c.index-scope-scope.result =
    slice_get_read c.args.scope.now (length c.args.scope.now) (length c.args.scope.now - 1 - c.loop-i.i) c.index-scope-scope.result refl place c.index-scope-scope.is in (
      λ before a. step_back before c.loop-i.latest.items c.put_back.new.latest.items c.args.scope.now c.loop-i.i c.index-scope-scope.result inside got c.put_back.ensures (c.loop-i.invariant.0 before a),
      search rules,
    )
