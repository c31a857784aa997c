use Rattle.std.proofs.Common.{◌++◌, sym, ◌∙◌, subst}
use Rattle.fresh_names.specs.Giving.{AreTakenBelow}
use Rattle.static_rename.proofs.LocalLaws.{locals_next}
use Rattle.static_rename.proofs.locals.local_names.Goals as goal

pub give-requires-clause-ready : goal.give-requires-clause-ready
give-requires-clause-ready c =
    subst (λ f. AreTakenBelow (f ++ c.loop-i.function.given.taken.keys) c.loop-i.names c.loop-i.function.given.next.entries) (sym c.loop-i.invariant.0) c.loop-i.invariant.2.below

pub loop-i-preserved : goal.loop-i-preserved
loop-i-preserved c = (
  c.in_ok-give.ensures.kept ∙ c.loop-i.invariant.0,
  c.in_ok-give.ensures.table,
  locals_next c.args.file.now.names.taken.keys c.loop-i.file.names.taken.keys c.loop-i.function.given.taken.keys c.give.new.self.given.taken.keys c.loop-i.function.given.next.entries c.give.new.self.given.next.entries c.args.names.now c.loop-i.names c.give.new.names c.args.wishes.now c.loop-i.i _ c.loop-i.all.items c.push.new.self.items c.in_ok-give.field-0
      c.loop-i-test.true c.loop-i.invariant.0 c.loop-i.invariant.2 c.in_ok-give.ensures.gives c.in_ok-push.ensures.items,
)
