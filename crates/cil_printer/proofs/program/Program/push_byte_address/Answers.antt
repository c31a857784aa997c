use Rattle.std.proofs.Common.{◌≡◌, ◌∙◌, ap, rules, FitsSigned, w64}
use Rattle.std.specs.Int.{w128}
use Rattle.std.proofs.lemmas.Int.{to_z-of_z}
use Rattle.cil_base.specs.Integer.{long_of}
use Rattle.cil_tree.specs.Declarators.{number}
use Rattle.cil_printer.specs.Output.{puts}
use Rattle.cil_printer.specs.Seen.{tree_of}
use Rattle.cil_printer.proofs.ImageTokens.{address_pushed}
use Rattle.cil_printer.proofs.program.Program.push_byte_address.Goals as goal

pub returns : goal.returns
returns c =
    let p = tree_of c.args.self.now in
    let fits : FitsSigned w64 c.args.offset = search rules in
    let wide : FitsSigned w128 c.args.offset = search rules in
    let k : c.long.result ≡ long_of p.graph.abi = c.long.ensures ∙ ap long_of (rw c.graph.ensures at c.abi.ensures) in
    let e : c.push_number.new.out ≡ puts c.token-2.new.self (number (long_of p.graph.abi) c.args.offset) = rw (to_z-of_z w64 c.args.offset fits, to_z-of_z w128 c.args.offset wide, k) at c.push_number.ensures in
    address_pushed _ _ _ _ _ _ _ p c.args.e.0 c.args.offset c.token.ensures c.push_char_pointer.ensures c.push_reference.ensures c.token-2.ensures e c.token-3.ensures
