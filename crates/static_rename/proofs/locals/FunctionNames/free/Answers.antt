use Rattle.std.proofs.Common.{◌≡◌, ◌+◌, ◌<◌, sym, ◌∙◌, subst, rules}
use Rattle.fresh_names.specs.Giving.{IsLeastFrom}
use Rattle.fresh_names.proofs.NamingLaws.{stays_twice}
use Rattle.static_rename.proofs.LocalLaws.{free_found, free_next}
use Rattle.static_rename.proofs.locals.FunctionNames.free.Goals as goal

pub returns-then-not-has-clause-least : goal.returns-then-not-has-clause-least
returns-then-not-has-clause-least c =
    free_found c.args.file.now.names.taken.keys c.args.self.now.given.taken.keys c.loop-step.names c.free_from.new.names c.args.base c.in_ok-name.name c.loop-step.from c.in_ok-name.number c.in_ok-name.ensures.stays c.loop-step.invariant.3
    (subst (λ f. IsLeastFrom f c.free_from.new.names c.args.base c.loop-step.from c.in_ok-name.name c.in_ok-name.number) c.loop-step.invariant.0 c.in_ok-name.ensures.least) (sym c.has.ensures ∙ c.if-not-has.true)

pub loop-step-preserved : goal.loop-step-preserved
loop-step-preserved c =
    let same : c.in-Some.after ≡ c.in_ok-name.number + 1 = search rules in (
      c.in_ok-name.ensures.kept ∙ c.loop-step.invariant.0,
      stays_twice c.args.names.now c.loop-step.names c.free_from.new.names c.loop-step.invariant.1 c.in_ok-name.ensures.stays,
      c.in_ok-name.ensures.table,
      λ j less. free_next c.args.file.now.names.taken.keys c.args.self.now.given.taken.keys c.loop-step.names c.free_from.new.names c.args.base c.in_ok-name.name c.loop-step.from c.in_ok-name.number c.in_ok-name.ensures.stays c.loop-step.invariant.3
          (subst (λ f. IsLeastFrom f c.free_from.new.names c.args.base c.loop-step.from c.in_ok-name.name c.in_ok-name.number) c.loop-step.invariant.0 c.in_ok-name.ensures.least) (sym c.has.ensures ∙ c.if-not-has.false) j (subst (λ k. j < k) same less),
    )
