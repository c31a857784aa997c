use Rattle.type_joins.specs.Forests.{root}
use Rattle.type_things.specs.Webs.{things_of}
use Rattle.type_joins.proofs.StepLaws.{clash_read, step_read}
use Rattle.type_joins.proofs.joining.Joining.join.Goals as goal

pub returns-then-not-branch-clause-joins : goal.returns-then-not-branch-clause-joins
returns-then-not-branch-clause-joins c = λ done j.
    clash_read (things_of c.args.web.now) done (root c.args.self.now.forest.parents.items) c.args.self.now.stand.items c.deref.result.now c.deref-2.result.now c.args.self.now.work.items c.args.low c.args.high c.in_ok-s.s c.in_ok-t.t c.in_ok-agree.field-0
    c.deref.ensures.value c.deref-2.ensures.value c.requires.low c.requires.high c.in_ok-s.ensures.is c.in_ok-t.ensures.is c.in_ok-agree.ensures c.if-not-branch.true j

pub returns-clause-joins : goal.returns-clause-joins
returns-clause-joins c = λ done j.
    step_read (things_of c.args.web.now) done (root c.args.self.now.forest.parents.items) (root c.join.new.self.parents.items) c.args.self.now.stand.items c.deref.result.now c.deref-2.result.now c.put.new.table.items c.args.self.now.work.items c.push_parts.new.work.items
    c.args.low c.args.high c.in_ok-s.s c.in_ok-t.t c.in_ok-choose.field-0 c.in_ok-agree.field-0 c.deref.ensures.value c.deref-2.ensures.value c.requires.low c.requires.high c.requires.less c.in_ok-s.ensures.within c.in_ok-s.ensures.is c.in_ok-t.ensures.is
    c.in_ok-agree.ensures c.if-not-branch.false c.in_ok-join.ensures.joined c.in_ok-choose.ensures c.in_ok-put.ensures.set c.in_ok-push_parts.ensures j
