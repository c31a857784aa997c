use Rattle.std.proofs.Common.{ap, ◌∙◌}
use Rattle.static_rename.specs.Tags.{given_in}
use Rattle.static_rename.specs.Tagging.{lists, with_things}
use Rattle.static_rename.proofs.TagLaws.{units_next}
use Rattle.static_rename.proofs.tags.put_all_things.Goals as goal

pub loop-u-preserved : goal.loop-u-preserved
loop-u-preserved c =
    units_next c.args.classes.now c.args.filed.now c.loop-u.u c.index-filed-u.result (lists c.loop-u.all.items) (lists c.put_things.new.all.items) _ c.loop-u-test.true c.index-filed-u.is
    (c.in_ok-put_things.ensures ∙ ap (λ v. with_things c.args.classes.now (given_in v c.index-filed-u.result.things.items c.index-filed-u.result.names.items) (lists c.loop-u.all.items)) c.in_ok-unit_number.ensures.is) c.loop-u.invariant
