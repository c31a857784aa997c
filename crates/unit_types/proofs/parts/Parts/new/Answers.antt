use Rattle.std.proofs.Common.{sym, subst}
use Rattle.type_graph.specs.Arena.{Graph}
use Rattle.layout_lp64.specs.Tables.{InStep}
use Rattle.unit_types.proofs.parts.Parts.new.Goals as goal

pub returns-clause-step : goal.returns-clause-step
returns-clause-step c = subst (λ (g : Graph). InStep c.new.result g) (sym c.new_for.ensures.empty) (c.new.ensures c.args.abi)
