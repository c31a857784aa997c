use Rattle.std.proofs.Common.{◌≡◌, true, sym, ◌∙◌, ap, get_or}
use Rattle.std.specs.Str.{bytes_eq}
use Rattle.std.specs.String.{string_bytes}
use Rattle.outside.proofs.Places.{found_here}
use Rattle.outside.proofs.mem_files.place_of.Goals as goal

pub returns-then-eq : goal.returns-then-eq
returns-then-eq c =
    let file = get_or c.args.files.now c.loop-i.i c.index-files-i.result in
    let same : bytes_eq (string_bytes file.0) c.args.name.now ≡ true =
    ap (λ f. bytes_eq (string_bytes f.0) c.args.name.now) (sym c.index-files-i.is) ∙ (ap (λ t. bytes_eq t c.args.name.now) (sym c.as_str.ensures.value) ∙ (sym c.eq.ensures ∙ c.if-eq.true)) in
    (c.loop-i-test.true, c.loop-i.invariant ∙ found_here c.args.name.now c.args.files.now c.loop-i.i c.index-files-i.result c.loop-i-test.true same)
