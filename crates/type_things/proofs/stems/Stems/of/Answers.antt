use Rattle.type_things.proofs.StemLaws.{stem_at}
use Rattle.std.proofs.Common.{◌<◌, sym, ap, ◌∙◌, get_or, subst, length}
use Rattle.type_things.proofs.stems.Stems.of.Goals as goal

pub returns : goal.returns
returns c = λ names h. stem_at names c.args.self.now c.args.n c.in_ok-at.field-0 h (subst (λ l. c.args.n.0 < length l) c.deref.ensures.value c.in_ok-at.ensures.within) (λ d. ap (λ l. get_or l c.args.n.0 d) (sym c.deref.ensures.value) ∙ c.in_ok-at.ensures.is d)
