use Rattle.std.proofs.Common.{List, nat_eq, ap, ◌∙◌}
use Rattle.indexmap.specs.IndexMap.{insert_entry}
use Rattle.cil_base.specs.declared.numbers.EntityId.{EntityId}
use Rattle.cil_base.specs.declared.numbers.NameId.{NameId}
use Rattle.cil_merge.specs.Listing.{mark}
use Rattle.cil_merge.proofs.ListingLaws.{known_next}
use Rattle.cil_merge.proofs.globals.Globals.append_external.Goals as goal

pub returns-clause-known : goal.returns-clause-known
returns-clause-known c =
    known_next c.args.self.now _ (mark c.args.global.now) c.in_ok-number.number c.requires.known c.requires.external
    (c.in_ok-insert.ensures.entries ∙ ap (λ (xs : List (NameId × EntityId)). insert_entry (λ (a b : NameId). nat_eq a.0 b.0) xs c.args.global.now.name c.in_ok-number.number) c.in_ok-number.ensures.known)
    c.in_ok-number.ensures.marks
