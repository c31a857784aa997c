use Rattle.std.proofs.Common.{arith, sym, subst}
use Rattle.std.proofs.lemmas.List.Elements.{All-get_or}
use Rattle.cil_semantics.specs.Modes.{HaveModel}
use Rattle.cil_link.specs.declared.entities.Definer.TheVariants.{Nothing}
use Rattle.cil_link.specs.Entities.{IsOne}
use Rattle.cil_base.specs.declared.kinds.Abi.{Abi}
use Rattle.cil_link.specs.Units.{programs_in, units_in}
use Rattle.cil_start.proofs.ObjectLaws.{entities_begin, entities_end, entities_next, next_absent}
use Rattle.cil_start.proofs.objects.make_entities.Goals as goal

pub loop-i-init : goal.loop-i-init
loop-i-init c = entities_begin (units_in c.args.l.now.linked) c.args.mem.now c.args.l.now.linked.entities.now.definers.items c.requires.empty

pub make_entity-requires-clause-model : goal.make_entity-requires-clause-model
make_entity-requires-clause-model c = subst (λ (a : Abi). HaveModel a (programs_in c.args.l.now.linked)) (sym c.loop-i.invariant.1) c.requires.model

pub make_entity-requires-clause-one : goal.make_entity-requires-clause-one
make_entity-requires-clause-one c =
    subst (IsOne (units_in c.args.l.now.linked)) (sym c.index.ensures) (All-get_or (IsOne (units_in c.args.l.now.linked)) c.args.l.now.linked.entities.now.definers.items c.loop-i.i c.index.result.now (omega (arith, c.loop-i-test.true, c.len-i-end.ensures, c.args.l.now.linked.entities.now.definers.ok.0)) c.requires.ready.linked.table.all)

pub make_entity-requires-clause-absent : goal.make_entity-requires-clause-absent
make_entity-requires-clause-absent c = next_absent (units_in c.args.l.now.linked) c.args.l.now.linked.entities.now.definers.items c.loop-i.i Nothing c.args.mem.now c.loop-i.mem (omega arith) c.loop-i.invariant

pub loop-i-preserved : goal.loop-i-preserved
loop-i-preserved c =
    entities_next (units_in c.args.l.now.linked) c.args.l.now.linked.entities.now.definers.items c.loop-i.i c.index.result.now c.loop-i.mem c.make_entity.new.mem c.args.mem.now (omega (arith, c.loop-i-test.true, c.len-i-end.ensures, c.args.l.now.linked.entities.now.definers.ok.0)) c.index.ensures c.loop-i.invariant c.in_ok-make_entity.ensures

pub returns : goal.returns
returns c = entities_end (units_in c.args.l.now.linked) c.args.mem.now c.loop-i.mem c.args.l.now.linked.entities.now.definers.items c.loop-i.i (omega arith) c.loop-i.invariant
