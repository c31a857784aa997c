use Rattle.std.proofs.Common.{◌≡◌, ◌<◌, ◌≤◌, ◌^◌, ◌+◌, length, take, get_or, true, false, rules, arith}
use Rattle.std.specs.Char.{is_ascii_digit}
use Rattle.std.specs.Str.Parse.{digits_value}
use Rattle.cil_commands.proofs.Numbers.{no_digit, too_great, digit_more}
use Rattle.cil_commands.proofs.reader.token.digits.Goals as goal

pub returns-then-not-is_ascii_digit : goal.returns-then-not-is_ascii_digit
returns-then-not-is_ascii_digit c = λ n small same.
    let less : c.loop-b.b-index < length c.args.text.now = omega arith in
    let is : is_ascii_digit (get_or c.args.text.now c.loop-b.b-index 0) ≡ false = search rules in
    no_digit _ c.loop-b.b-index n less is small same

pub returns-then-value-ge-INT_END : goal.returns-then-value-ge-INT_END
returns-then-value-ge-INT_END c = λ n small same.
    let less : c.loop-b.b-index < length c.args.text.now = omega arith in
    let is : is_ascii_digit (get_or c.args.text.now c.loop-b.b-index 0) ≡ true = search rules in
    let step = digit_more c.args.text.now c.loop-b.b-index less is in
    let great : 2 ^ 31 ≤ digits_value 10 (take (c.loop-b.b-index + 1) c.args.text.now) = omega (arith, step) in
    too_great _ (c.loop-b.b-index + 1) n great small same

pub loop-b-preserved : goal.loop-b-preserved
loop-b-preserved c =
    let less : c.loop-b.b-index < length c.args.text.now = omega arith in
    let is : is_ascii_digit (get_or c.args.text.now c.loop-b.b-index 0) ≡ true = search rules in
    let step = digit_more c.args.text.now c.loop-b.b-index less is in
    (omega arith, omega (arith, step))
