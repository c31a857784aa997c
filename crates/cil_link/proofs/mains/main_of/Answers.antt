use Rattle.std.proofs.Common.{◌≡◌, Option, Some, None, inl, inr, get_or, refl, arith, sym, ap, subst, ◌∙◌}
use Rattle.std.proofs.lemmas.Option.{slice_get-get_or}
use Rattle.std.proofs.lemmas.List.Elements.{All-get_or}
use Rattle.cil_link.specs.declared.entities.Definer.{Definer}
use Rattle.cil_link.specs.declared.mains.Main.{Main}
use Rattle.cil_link.specs.declared.entities.Definer.TheVariants.{Global}
use Rattle.cil_link.specs.Entities.{meant, IsOne}
use Rattle.cil_link.specs.MainGlobals.{Begun}
use Rattle.cil_link.specs.Mains.{BeginsWith}
use Rattle.cil_link.specs.Units.{programs_in, units_in}
use Rattle.cil_link.proofs.MainLaws.{begins_nothing, begins, entity_low}
use Rattle.cil_link.proofs.mains.main_of.Goals as goal

pub returns-in_err-entity : goal.returns-in_err-entity
returns-in_err-entity c = subst (λ (o : Option Main). BeginsWith (programs_in c.args.l.now) o) (sym c.from_residual.ensures) (begins_nothing (programs_in c.args.l.now) (sym c.main_entity.ensures ∙ c.in_err-entity.was))

pub index-requires : goal.index-requires
index-requires c =
    omega (arith, entity_low (programs_in c.args.l.now) c.args.l.now.entities.now.definers.items c.in_ok-entity.entity c.requires.table (sym c.main_entity.ensures ∙ c.in_ok-entity.was), c.args.l.now.entities.now.definers.ok.0)

pub begun_at-requires : goal.begun_at-requires
begun_at-requires c =
    let l = c.args.l.now in
    let low = entity_low (programs_in l) l.entities.now.definers.items c.in_ok-entity.entity c.requires.table (sym c.main_entity.ensures ∙ c.in_ok-entity.was) in
    let one : IsOne (units_in l) (get_or l.entities.now.definers.items c.in_ok-entity.entity c.index.result.now) = All-get_or (IsOne (units_in l)) l.entities.now.definers.items c.in_ok-entity.entity c.index.result.now low c.requires.table.all in
    let is : get_or l.entities.now.definers.items c.in_ok-entity.entity c.index.result.now ≡ Global c.in-Global.unit c.in-Global.global = sym c.index.ensures ∙ c.in-Global.is in
    record { there = subst (IsOne (units_in l)) is one }

pub returns-in-Nothing : goal.returns-in-Nothing
returns-in-Nothing c =
    let l = c.args.l.now in
    let among = sym c.main_entity.ensures ∙ c.in_ok-entity.was in
    let low = entity_low (programs_in l) l.entities.now.definers.items c.in_ok-entity.entity c.requires.table among in
    let none = λ (d : Definer). Begun (meant (units_in l) d) c.in_ok-entity.entity None in
    let begun : none c.index.result.now = elim c.in-Nothing.is [ inl e ↦ subst none (sym e) (λ words. refl) | inr e ↦ subst none (sym e.1) (λ words. refl) ] in
    begins (programs_in l) l.entities.now.definers.items c.in_ok-entity.entity c.index.result.now None c.requires.table among (slice_get-get_or l.entities.now.definers.items c.in_ok-entity.entity c.index.result.now low ∙ ap Some (sym c.index.ensures)) begun

pub returns-in-Global : goal.returns-in-Global
returns-in-Global c =
    let l = c.args.l.now in
    let among = sym c.main_entity.ensures ∙ c.in_ok-entity.was in
    let low = entity_low (programs_in l) l.entities.now.definers.items c.in_ok-entity.entity c.requires.table among in
    let begun : Begun (meant (units_in l) c.index.result.now) c.in_ok-entity.entity c.begun_at.result = subst (λ (d : Definer). Begun (meant (units_in l) d) c.in_ok-entity.entity c.begun_at.result) (sym c.in-Global.is) c.begun_at.ensures in
    begins (programs_in l) l.entities.now.definers.items c.in_ok-entity.entity c.index.result.now c.begun_at.result c.requires.table among (slice_get-get_or l.entities.now.definers.items c.in_ok-entity.entity c.index.result.now low ∙ ap Some (sym c.index.ensures)) begun
