use Rattle.std.proofs.Common.{rules, ◌≡◌, false}
use Rattle.cil_check.proofs.TypeRules.{types_unfit}
use Rattle.cil_check.proofs.types.well_formed_layouts.Goals as goal

pub returns-then-not-keep_rules-clause-exact : goal.returns-then-not-keep_rules-clause-exact
returns-then-not-keep_rules-clause-exact c =
    let e : c.keep_rules.result ≡ false = search rules in
    types_unfit c.args.g.now c.keep_rules.result c.keep_rules.ensures e
