use Rattle.std.proofs.Common.{rules, ◌≡◌, ◌++◌, ◌∷◌, [], Some, map, slice_get, ap, sym, ◌∙◌}
use Rattle.std.specs.String.{string_bytes}
use Rattle.std.proofs.lemmas.Option.{slice_get-get_or}
use Rattle.c_lexer.specs.Lexed.{IfRefused}
use Rattle.unit_merger.specs.Units.{IsRefusedAmong}
use Rattle.cil_base.proofs.PoolLemmas.{stays_then}
use Rattle.unit_merger.proofs.InOrder.{here, one_more, fronted_at}
use Rattle.unit_merger.proofs.Links.{fronted_next}
use Rattle.unit_merger.proofs.merger.add_front.Goals as goal

pub returns-in_err-fronted-clause-cause : goal.returns-in_err-fronted-clause-cause
returns-in_err-fronted-clause-cause c =
    let there : slice_get c.args.units.now c.args.i ≡ Some c.as_slice.result.now = slice_get-get_or c.args.units.now c.args.i c.index-units-i.result c.requires.within ∙ ap (λ b. Some b) (sym (c.as_slice.ensures ∙ c.index-units-i.is)) in
    let says : IfRefused c.front.result (IsRefusedAmong c.args.units.now c.args.over (map string_bytes c.args.files.now) c.front.new.names) =
    here c.front.result c.args.units.now (map string_bytes c.args.files.now) c.args.over c.args.i c.as_slice.result.now c.in_ok-unit.unit c.in_ok-unit.file c.named.new.names c.front.new.names there c.in_ok-unit.ensures.named c.requires.before c.front.ensures.refused in
    search rules

pub returns-clause-grammatical : goal.returns-clause-grammatical
returns-clause-grammatical c =
    let there : slice_get c.args.units.now c.args.i ≡ Some c.as_slice.result.now = slice_get-get_or c.args.units.now c.args.i c.index-units-i.result c.requires.within ∙ ap (λ b. Some b) (sym (c.as_slice.ensures ∙ c.index-units-i.is)) in
    one_more c.args.units.now (map string_bytes c.args.files.now) c.args.i c.as_slice.result.now c.in_ok-unit.unit c.in_ok-unit.file c.named.new.names there c.in_ok-unit.ensures.named c.in_ok-fronted.ensures.grammatical c.requires.before

pub returns-clause-fronted : goal.returns-clause-fronted
returns-clause-fronted c = λ before.
    (let there : slice_get c.args.units.now c.args.i ≡ Some c.as_slice.result.now = slice_get-get_or c.args.units.now c.args.i c.index-units-i.result c.requires.within ∙ ap (λ b. Some b) (sym (c.as_slice.ensures ∙ c.index-units-i.is)) in
    let put : c.push.new.self.items ≡ c.args.done.now.items ++ c.in_ok-fronted.fronted ∷ [] = search rules in
    let at = fronted_at c.args.units.now (map string_bytes c.args.files.now) c.args.i c.as_slice.result.now c.in_ok-unit.unit c.in_ok-unit.file c.named.new.names c.front.new.names c.in_ok-fronted.fronted there c.in_ok-unit.ensures.named c.in_ok-fronted.ensures.externals c.in_ok-fronted.ensures.declared in
    fronted_next c.args.units.now (map string_bytes c.args.files.now) c.args.names.now c.front.new.names c.args.done.now.items c.push.new.self.items c.in_ok-fronted.fronted c.args.i before (stays_then c.args.names.now c.named.new.names c.front.new.names c.named.ensures.stays c.front.ensures.stays) at put)

pub returns-in_err-push-clause-stays : goal.returns-in_err-push-clause-stays
returns-in_err-push-clause-stays c = stays_then c.args.names.now c.named.new.names c.front.new.names c.in_ok-unit.ensures.stays c.in_ok-fronted.ensures.stays

pub returns-clause-stays : goal.returns-clause-stays
returns-clause-stays c = stays_then c.args.names.now c.named.new.names c.front.new.names c.in_ok-unit.ensures.stays c.in_ok-fronted.ensures.stays
