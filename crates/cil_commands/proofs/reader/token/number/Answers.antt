use Rattle.std.proofs.Common.{◌≡◌, ◌≢◌, ◌<◌, ◌^◌, ℕ, sym, ap, ◌∙◌, decimal, None, option_map, rules}
use Rattle.c_meaning.specs.Reading.{Number}
use Rattle.cil_commands.proofs.Numbers.{is_number, no_number, other_text}
use Rattle.cil_commands.proofs.reader.token.number.Goals as goal

pub returns-in_err-value : goal.returns-in_err-value
returns-in_err-value c =
    let none : (n : ℕ) → n < 2 ^ 31 → c.args.text.now ≢ decimal n = c.in_err-value.ensures in
    let is : c.from_residual.result ≡ None = search rules in
    ap (option_map Number) is ∙ sym (no_number c.args.text.now none)

pub returns-then-eq : goal.returns-then-eq
returns-then-eq c =
    let same : decimal c.in_ok-value.value ≡ c.args.text.now = search rules in
    sym (is_number c.args.text.now c.in_ok-value.value c.in_ok-value.ensures.0 c.in_ok-value.ensures.1 same)

pub returns-else-eq : goal.returns-else-eq
returns-else-eq c =
    let other : decimal c.in_ok-value.value ≢ c.args.text.now = search rules in
    sym (other_text c.args.text.now c.in_ok-value.value c.in_ok-value.ensures.1 other)
