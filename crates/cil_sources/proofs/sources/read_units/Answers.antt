use Rattle.std.proofs.Common.{arith, ◌≡◌, ◌∷◌, Ok, map, drop, List, ℕ, subst, sym, ◌∙◌, ap, ◌+◌}
use Rattle.std.proofs.lemmas.List.{drop_more}
use Rattle.std.specs.String.{string_bytes}
use Rattle.cil_sources.specs.Steps.{state_of}
use Rattle.cil_sources.proofs.Reading.{Reading, reading_next, strays_next, was_there}
use Rattle.cil_sources.proofs.sources.read_units.Goals as goal

pub loop-name-preserved : goal.loop-name-preserved
loop-name-preserved g c =
    let told = g.F.Files.told c.args.files.now in
    let now = g.F.Files.told c.loop-name.files in
    let all : List (List ℕ) = map string_bytes c.args.names.now in
    let rest : List (List ℕ) = map string_bytes (drop (c.loop-name.name-index + 1) c.args.names.now) in
    let name = c.as_str.result.now in
    let left : map string_bytes (drop c.loop-name.name-index c.args.names.now) ≡ name ∷ rest =
    ap (map string_bytes) (drop_more c.args.names.now c.loop-name.name-index c.name-item.result (omega (arith, c.loop-name-test.true, c.loop-name.auto.name-index-end)) ∙ ap (λ x. x ∷ drop (c.loop-name.name-index + 1) c.args.names.now) (sym c.name-item.is))
    ∙ ap (λ x. x ∷ rest) (sym c.as_str.ensures.value) in
    let before : Reading told all (name ∷ rest) (state_of c.loop-name.sources) = subst (λ r. Reading told all r (state_of c.loop-name.sources)) left c.loop-name.invariant.reading in
    record {
      within = c.in_ok-add.ensures.within;
      names = c.read_file.ensures.names ∙ c.loop-name.invariant.names;
      calm = c.read_file.ensures.calm (λ e. (let clash : c.read_file.result ≡ Ok c.in_ok-unit.unit = c.in_ok-unit.was in cc)) ∙ c.loop-name.invariant.calm;
      same_strays = strays_next told now all rest name (state_of c.loop-name.sources) (g.F.Files.strays c.args.files.now) (g.F.Files.strays c.loop-name.files) (g.F.Files.strays c.read_file.new.files) c.loop-name.invariant.names before c.loop-name.invariant.same_strays c.read_file.ensures.strays;
      reading = reading_next told now all rest name c.in_ok-unit.unit.items (state_of c.loop-name.sources) (state_of c.add.new.self) c.loop-name.invariant.names before c.in_ok-unit.ensures.ok (was_there now name c.read_file.result c.in_ok-unit.unit c.read_file.ensures.missing c.in_ok-unit.was) c.in_ok-add.ensures.ok;
    }
