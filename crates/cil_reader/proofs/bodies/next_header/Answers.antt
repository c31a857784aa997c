use Rattle.std.proofs.Common.{◌≡◌, ◌∷◌, ◌∙◌, true, false, drop, sym, refl, arith}
use Rattle.std.proofs.lemmas.Grind.{common_steps}
use Rattle.cil_text.specs.ReadGlobals.{ends_open}
use Rattle.cil_scan.specs.Said.{all_said}
use Rattle.cil_reader.proofs.BodyLaws.{header_open, header_shut}
use Rattle.cil_reader.proofs.bodies.next_header.Goals as goal

pub returns-then-not-ends_open : goal.returns-then-not-ends_open
returns-then-not-ends_open c =
    let line = c.line-item.result in
    let is : c.args.lines.now ≡ line ∷ drop 1 c.args.lines.now = grind (arith, common_steps) in
    let read = rw c.deref.ensures.value at c.ends_open.ensures in
    let shut : ends_open (all_said line.items) ≡ false = sym read ∙ c.if-not-ends_open.true in
    rw (header_shut c.args.lines.now (drop 1 c.args.lines.now) line is shut, c.new-then-not-ends_open.ensures.items) refl

pub returns : goal.returns
returns c =
    let line = c.line-item.result in
    let is : c.args.lines.now ≡ line ∷ drop 1 c.args.lines.now = grind (arith, common_steps) in
    let read = rw c.deref.ensures.value at c.ends_open.ensures in
    let begun : ends_open (all_said line.items) ≡ true = sym read ∙ c.if-not-ends_open.false in
    let names = rw c.deref-2.ensures.value at c.plain_names.ensures in
    rw (header_open c.args.lines.now (drop 1 c.args.lines.now) line is begun) names
