use Rattle.std.proofs.Common.{List, sym, subst}
use Rattle.cil_base.specs.declared.numbers.NameId.{NameId}
use Rattle.cil_reader.specs.Bodies.{TextsKnown}
use Rattle.cil_reader.proofs.FunctionLaws.{texts_added}
use Rattle.cil_reader.proofs.bodies.with_label.Goals as goal

pub returns-clause-known : goal.returns-clause-known
returns-clause-known c =
    subst (λ (ns : List NameId). TextsKnown c.intern.new.self ns c.add.new.self) (sym c.in_ok-push.ensures.items)
    (texts_added c.args.pool.now c.intern.new.self c.args.labels.names.items c.args.labels.texts c.add.new.self c.args.text.now c.in_ok-name.name c.requires c.in_ok-name.ensures.ok c.in_ok-add.ensures.gives)
