use Rattle.std.proofs.Common.{◌+◌, get_or, arith, sym, subst}
use Rattle.std.proofs.lemmas.List.Elements.{All-get_or}
use Rattle.cil_link.specs.declared.entities.Definer.{Definer}
use Rattle.cil_link.specs.Entities.{IsOne}
use Rattle.cil_link.specs.Units.{programs_in, units_in}
use Rattle.cil_table.specs.Entries.{IsEntry}
use Rattle.cil_table.proofs.Tables.{entries_next, entries_end, table_is, all_lead}
use Rattle.cil_table.proofs.table.load_table.Goals as goal

pub load_entity-requires-clause-one : goal.load_entity-requires-clause-one
load_entity-requires-clause-one c =
    let l = c.args.l.now.linked in
    let ds = l.entities.now.definers in
    subst (IsOne (units_in l)) (sym c.index.ensures) (All-get_or (IsOne (units_in l)) ds.items c.loop-i.i c.index.result.now (omega (arith, c.loop-i-test.true, c.len-i-end.ensures, ds.ok.0)) c.requires.linked.table.all)

pub loop-i-preserved : goal.loop-i-preserved
loop-i-preserved c =
    let l = c.args.l.now.linked in
    let ds = l.entities.now.definers in
    let entry : IsEntry (programs_in l) (get_or ds.items c.loop-i.i c.index.result.now) c.in_ok-load_entity.field-0 = subst (λ (d : Definer). IsEntry (programs_in l) d c.in_ok-load_entity.field-0) c.index.ensures c.in_ok-load_entity.ensures in
    entries_next (programs_in l) ds.items c.loop-i.i (c.loop-i.i + 1) c.index.result.now c.loop-i.table.items c.push.new.self.items c.in_ok-load_entity.field-0 (omega (arith, c.loop-i-test.true, c.len-i-end.ensures, ds.ok.0)) (omega arith) c.loop-i.invariant
    entry c.in_ok-push.ensures.items

pub returns-clause-machine : goal.returns-clause-machine
returns-clause-machine c =
    table_is (programs_in c.args.l.now.linked) c.args.l.now.linked.entities.now.definers.items c.loop-i.table.items c.requires.linked.table (entries_end (programs_in c.args.l.now.linked) c.args.l.now.linked.entities.now.definers.items c.loop-i.i c.loop-i.table.items (omega arith) c.loop-i.invariant)

pub returns-clause-leads : goal.returns-clause-leads
returns-clause-leads c = all_lead (programs_in c.args.l.now.linked) c.args.l.now.linked.entities.now.definers.items c.loop-i.table.items c.requires.model (entries_end (programs_in c.args.l.now.linked) c.args.l.now.linked.entities.now.definers.items c.loop-i.i c.loop-i.table.items (omega arith) c.loop-i.invariant)
