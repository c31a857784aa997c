use Rattle.std.proofs.Common.{sym, subst}
use Rattle.cil_tree.specs.declared.expressions.Exp.{Exp}
use Rattle.cil_reader.specs.Settings.{env_in}
use Rattle.cil_reader.specs.Parts.{ExpKnown}
use Rattle.cil_reader.proofs.PartsLaws.{known_bin}
use Rattle.cil_reader.proofs.parts.with_binary.Goals as goal

pub returns-clause-known : goal.returns-clause-known
returns-clause-known c =
    subst (λ (e : Exp). ExpKnown c.args.r.now.graph (env_in c.args.r.now) e c.moved-to.result) (sym c.in_ok-exp.ensures)
    (known_bin c.args.r.now.graph (env_in c.args.r.now) c.args.op c.args.x.exp.value c.args.y.exp.value c.binary.result c.args.x.to c.args.y.to c.moved-to.result c.binary.ensures c.moved-to.ensures c.requires.left c.requires.right)
