use Rattle.std.proofs.Common.{map}
use Rattle.cil_base.proofs.PoolLemmas.{stays_then}
use Rattle.static_rename.specs.Tagging.{lists}
use Rattle.static_rename.proofs.UnitLaws.{renamed_read}
use Rattle.static_rename.proofs.renaming.rename.Goals as goal

pub returns-clause-renamed : goal.returns-clause-renamed
returns-clause-renamed c =
    renamed_read c.args.classes.now (map (λ l. l.name) c.args.links.now.names.items) c.bases.new.self c.kept_names.new.names c.file_units.new.names c.name_tags.new.names c.name_units.new.names c.in_ok-bases.bases c.in_ok-fresh.fresh.taken.keys c.file_units.new.fresh.taken.keys c.new-file.result.names.taken.keys c.file_units.new.fresh.next.entries
    c.in_ok-stands.stands.items c.deref-2.result.now c.in_ok-filed.filed.items c.deref-6.result.now c.deref-9.result.now c.in_ok-standing.standing.items c.deref-5.result.now c.deref-8.result.now c.in_ok-tags.tags.items (lists c.in_ok-enumerators.enumerators.items) c.args.units.now.items c.deref.result.now c.deref-3.result.now c.deref-4.result.now c.deref-7.result.now c.name_units.new.units.items
    c.deref.ensures.value c.deref-3.ensures.value c.deref-4.ensures.value c.deref-7.ensures.value c.deref-2.ensures.value c.deref-6.ensures.value c.deref-9.ensures.value c.deref-5.ensures.value c.deref-8.ensures.value
    c.in_ok-bases.ensures.numbers c.in_ok-fresh.ensures.stays c.in_ok-fresh.ensures.kept c.in_ok-stands.ensures c.in_ok-filed.ensures.filed c.in_ok-standing.ensures c.in_ok-enumerators.ensures c.in_ok-tags.ensures.stays c.in_ok-tags.ensures.named c.new-file.ensures.taken c.in_ok-name_units.ensures.stays c.in_ok-name_units.ensures.named

pub returns-in_err-filed-clause-stays : goal.returns-in_err-filed-clause-stays
returns-in_err-filed-clause-stays c = stays_then _ _ _ c.in_ok-bases.ensures.stays (stays_then _ _ _ c.in_ok-fresh.ensures.stays c.in_err-filed.ensures.stays)

pub returns-in_err-standing-clause-stays : goal.returns-in_err-standing-clause-stays
returns-in_err-standing-clause-stays c = stays_then _ _ _ c.in_ok-bases.ensures.stays (stays_then _ _ _ c.in_ok-fresh.ensures.stays c.in_ok-filed.ensures.stays)

pub returns-in_err-enumerators-clause-stays : goal.returns-in_err-enumerators-clause-stays
returns-in_err-enumerators-clause-stays c = stays_then _ _ _ c.in_ok-bases.ensures.stays (stays_then _ _ _ c.in_ok-fresh.ensures.stays c.in_ok-filed.ensures.stays)

pub returns-in_err-tags-clause-stays : goal.returns-in_err-tags-clause-stays
returns-in_err-tags-clause-stays c = stays_then _ _ _ c.in_ok-bases.ensures.stays (stays_then _ _ _ c.in_ok-fresh.ensures.stays (stays_then _ _ _ c.in_ok-filed.ensures.stays c.in_err-tags.ensures.stays))

pub returns-in_err-name_units-clause-stays : goal.returns-in_err-name_units-clause-stays
returns-in_err-name_units-clause-stays c = stays_then _ _ _ c.in_ok-bases.ensures.stays (stays_then _ _ _ c.in_ok-fresh.ensures.stays (stays_then _ _ _ c.in_ok-filed.ensures.stays (stays_then _ _ _ c.in_ok-tags.ensures.stays c.in_err-name_units.ensures.stays)))

pub returns-clause-stays : goal.returns-clause-stays
returns-clause-stays c = stays_then _ _ _ c.in_ok-bases.ensures.stays (stays_then _ _ _ c.in_ok-fresh.ensures.stays (stays_then _ _ _ c.in_ok-filed.ensures.stays (stays_then _ _ _ c.in_ok-tags.ensures.stays c.in_ok-name_units.ensures.stays)))
