use Rattle.std.proofs.Common.{sym, subst}
use Rattle.cil_tree.specs.declared.expressions.Exp.{Exp}
use Rattle.cil_reader.specs.Settings.{env_in}
use Rattle.cil_reader.specs.Parts.{ExpKnown}
use Rattle.cil_reader.proofs.PartsLaws.{known_cast}
use Rattle.cil_reader.proofs.parts.with_cast.Goals as goal

pub returns-clause-known : goal.returns-clause-known
returns-clause-known c =
    subst (λ (e : Exp). ExpKnown c.args.r.now.graph (env_in c.args.r.now) e c.pointed-pointee.result) (sym c.in_ok-exp.ensures)
    (known_cast c.args.r.now.graph (env_in c.args.r.now) c.args.to c.args.x.exp.value c.cast.result c.args.x.to c.pointed-pointee.result c.cast.ensures c.requires.there c.pointed-pointee.ensures.is c.pointed-pointee.ensures.below c.requires.operand)
