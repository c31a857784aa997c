use Rattle.std.proofs.Common.{sym, ◌∙◌, subst}
use Rattle.cil_base.specs.declared.kinds.Abi.{Abi}
use Rattle.cil_semantics.specs.Modes.{HaveModel}
use Rattle.cil_link.specs.Units.{programs_in}
use Rattle.cil_start.proofs.StartLaws.{starts}
use Rattle.cil_start.proofs.starting.start.Goals as goal

pub make_entities-requires-clause-model : goal.make_entities-requires-clause-model
make_entities-requires-clause-model c =
    subst (λ (a : Abi). HaveModel a (programs_in c.args.l.now.linked)) (sym c.new_for-mem.ensures.model) (c.abi_of-abi.ensures c.args.l.now.linked.names.now c.requires.model)

pub returns : goal.returns
returns c =
    starts (programs_in c.args.l.now.linked) c.args.l.now.linked.entities.now.definers.items c.args.words.now c.abi_of-abi.result c.make_entities.new.mem c.make_arguments.new.mem c.requires.linked.table
    (c.abi_of-abi.ensures c.args.l.now.linked.names.now c.requires.model) (c.in_ok-make_arguments.ensures.model ∙ (c.in_ok-make_entities.ensures.1 ∙ c.new_for-mem.ensures.model))
    c.in_ok-make_entities.ensures.0 c.in_ok-make_arguments.ensures.filled
