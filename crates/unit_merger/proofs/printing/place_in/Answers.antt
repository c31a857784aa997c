use Rattle.std.proofs.Common.{rules, ◌≡◌, ◌<◌, ◌≤◌, Some, map, length, slice_get, ap, sym, ◌∙◌, arith}
use Rattle.std.specs.String.{string_bytes}
use Rattle.std.proofs.lemmas.Option.{slice_get-get_or}
use Rattle.unit_merger.proofs.Places.{first_among}
use Rattle.unit_merger.proofs.printing.place_in.Goals as goal

pub returns-in-Ok-clause-placed : goal.returns-in-Ok-clause-placed
returns-in-Ok-clause-placed c =
    let some : 0 < length c.args.units.now = search rules in
    let small : length c.as_slice-bytes.result.now ≤ 4194304 = omega arith in
    let there : slice_get c.args.units.now 0 ≡ Some c.as_slice-bytes.result.now = slice_get-get_or c.args.units.now 0 c.index-units-0.result some ∙ ap (λ b. Some b) (sym (c.as_slice-bytes.ensures ∙ c.index-units-0.is)) in
    first_among c.first_place.result c.args.units.now (map string_bytes c.args.files.now) c.as_slice-bytes.result.now c.in_ok-unit.unit c.in_ok-unit.file c.named.new.names c.lex.new.names c.in-Ok.tokens there c.in_ok-unit.ensures.named small c.in-Ok.ensures.tokens c.in-Ok.ensures.files c.first_place.ensures.at
