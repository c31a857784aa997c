use Rattle.std.proofs.Common.{Some, map, sym, ap, ◌∙◌}
use Rattle.cil_merge.proofs.ClassLaws.{completes_none, completes_members}
use Rattle.cil_merge.proofs.arena.complete_class.Goals as goal

pub returns-in_default : goal.returns-in_default
returns-in_default c = completes_none c.args.units.now (map (λ v. v.items) c.args.types.now) c.args.stands c.args.k c.args.graph.now c.in_ok-x.x.now c.in_ok-x.ensures c.in_default.is

pub returns : goal.returns
returns c =
    completes_members c.args.units.now (map (λ v. v.items) c.args.types.now) c.args.stands c.args.k (record { 0 = c.in_ok-narrow.field-0 }) c.args.graph.now c.complete.new.graph c.in_ok-x.x.now c.in_ok-table_of.field-0.now c.as_slice.result.now c.in_ok-mapped.mapped
    c.in_ok-x.ensures (c.in-Some.is ∙ ap Some (sym c.as_slice.ensures)) c.in_ok-table_of.ensures c.in_ok-mapped.ensures c.in_ok-narrow.ensures.is c.in_ok-complete.ensures.there c.in_ok-complete.ensures.members c.in_ok-complete.ensures.grows
