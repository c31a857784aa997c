use Rattle.std.proofs.Common.{[], ◌∷◌, codes, decimal}
use Rattle.cil_printer.proofs.Puts.{enclosed}
use Rattle.cil_printer.proofs.images.push_subscript.Goals as goal

pub returns : goal.returns
returns c = enclosed _ _ _ _ (codes "[") (codes "]") (decimal c.args.n ∷ []) c.token.ensures c.push_decimal.ensures c.token-2.ensures
