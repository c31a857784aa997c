use Rattle.std.proofs.Common.{OnOk, ◌∷◌, [], ◌∙◌, subst, sym, ap, Some}
use Rattle.type_things.specs.Weaving.{Adds}
use Rattle.type_things.proofs.WovenSteps.{full_aggregate, bare_aggregate}
use Rattle.type_things.proofs.web.Weaving.add_aggregate.Goals as goal

pub returns-in-None : goal.returns-in-None
returns-in-None c = λ names h. subst (λ t. OnOk c.add_incomplete.result (Adds c.args.web.now c.add_incomplete.new.web (t ∷ []))) (bare_aggregate names c.args.self.now.first.ty c.args.aggregate.now c.in_ok-of_tag.field-0 (c.in_ok-of_tag.ensures names h) c.in-None.is) c.add_incomplete.ensures

pub returns-in-Some : goal.returns-in-Some
returns-in-Some c = λ names h. subst (λ t. OnOk c.add_complete.result (Adds c.args.web.now c.add_complete.new.web (t ∷ []))) (full_aggregate names c.args.self.now.first.ty c.args.aggregate.now c.in_ok-of_tag.field-0 _ (c.in_ok-of_tag.ensures names h) (c.in-Some.is ∙ ap Some (sym c.as_slice.ensures))) (c.add_complete.ensures names h)
