use Rattle.link_names.specs.Grouping.{found}
use Rattle.link_names.proofs.GroupingLaws.{put_new, step_new, put_known, step_known}
use Rattle.link_names.proofs.grouping.add.Goals as goal

pub returns-then-new-clause-step : goal.returns-then-new-clause-step
returns-then-new-clause-step c =
    step_new c.push_name.result c.args.name c.args.site (found c.args.f.now) _ c.args.f.now.numbers.keys _ c.in_ok-i.new c.requires.step c.in_ok-i.ensures.added c.if-new.true c.in_ok-i.ensures.keys c.push_name.ensures

pub returns-then-new-clause-added : goal.returns-then-new-clause-added
returns-then-new-clause-added c =
    put_new c.push_name.result c.args.name c.args.site (found c.args.f.now) _ c.args.f.now.numbers.keys c.in_ok-i.new c.requires.step c.in_ok-i.ensures.added c.if-new.true c.push_name.ensures

pub returns-clause-step : goal.returns-clause-step
returns-clause-step c =
    step_known c.push_at.result c.args.name c.args.site (found c.args.f.now) _ c.args.f.now.numbers.keys _ c.in_ok-i.new c.in_ok-i.i c.requires.step c.in_ok-i.ensures.added c.if-new.false c.in_ok-i.ensures.index c.in_ok-i.ensures.keys c.push_at.ensures

pub returns-clause-added : goal.returns-clause-added
returns-clause-added c =
    put_known c.push_at.result c.args.name c.args.site (found c.args.f.now) _ c.args.f.now.numbers.keys c.in_ok-i.new c.in_ok-i.i c.requires.step c.in_ok-i.ensures.added c.if-new.false c.in_ok-i.ensures.index c.push_at.ensures
