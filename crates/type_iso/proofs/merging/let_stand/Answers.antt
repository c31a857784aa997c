use Rattle.type_things.specs.Webs.{things_of}
use Rattle.type_iso.proofs.StandingLaws.{let_full, let_none, let_new}
use Rattle.type_iso.proofs.merging.let_stand.Goals as goal

pub returns-then-branch : goal.returns-then-branch
returns-then-branch c = let_full (things_of c.args.web.now) c.args.standing.now.items c.deref.result.now c.args.class c.args.x c.in_ok-before.before c.in_ok-is_complete.field-0 c.deref.ensures.value c.in_ok-before.ensures.within c.in_ok-before.ensures.is c.in_ok-is_complete.ensures c.if-branch.true

pub returns-then-not-branch : goal.returns-then-not-branch
returns-then-not-branch c = let_none (things_of c.args.web.now) c.args.standing.now.items c.deref.result.now c.args.class c.args.x c.in_ok-before.before c.in_ok-is_complete-2.field-0 c.deref.ensures.value c.in_ok-before.ensures.within c.in_ok-is_complete-2.ensures c.if-not-branch.true

pub returns : goal.returns
returns c = let_new (things_of c.args.web.now) c.put.result c.args.standing.now.items c.deref.result.now c.put.new.table.items c.args.class c.args.x c.in_ok-before.before c.in_ok-is_complete.field-0 c.in_ok-is_complete-2.field-0 c.deref.ensures.value c.in_ok-before.ensures.within c.in_ok-before.ensures.is
    c.in_ok-is_complete.ensures c.if-branch.false c.in_ok-is_complete-2.ensures c.if-not-branch.false c.put.ensures.set
