use Rattle.std.proofs.Common.{◌≡◌, Some, None, rules}
use Rattle.cil_text.specs.ReadStmts.{Numbered, read_number}
use Rattle.cil_scan.specs.Said.{all_said}
use Rattle.cil_forms.specs.Forms.{closing}
use Rattle.cil_reader.specs.Settings.{env_in}
use Rattle.cil_reader.proofs.ImageLaws.{address_open}
use Rattle.cil_reader.proofs.images.address_in.Goals as goal

pub returns-in_err-behind : goal.returns-in_err-behind
returns-in_err-behind c =
    let number : Numbered = (c.in_ok-number.number.kind, c.in_ok-number.number.value) in
    let rest = all_said c.in_ok-number.rest.now in
    let read : Some (number, rest) ≡ read_number (all_said c.args.words.now) = search rules in
    let shut : None ≡ closing rest = search rules in
    let none : c.from_residual-in_err-behind.result ≡ None = search rules in
    rw none (address_open (env_in c.args.r.now).abi c.args.object (read_number (all_said c.args.words.now)) number rest read shut)
