use Rattle.std.proofs.Common.{sym, ap}
use Rattle.c_semantics.specs.Operations.{Action, Seen}
use Rattle.c_elaboration.proofs.Expressions.{exp_is}
use Rattle.c_elaboration.proofs.laws.typed_expressions_mean_their_syntax.Goals as goal

pub returns : goal.returns
returns c = λ a enter e h x behind f s. sym (ap (λ (go : Action Seen). go s) (exp_is a enter e h (x, behind) f))
