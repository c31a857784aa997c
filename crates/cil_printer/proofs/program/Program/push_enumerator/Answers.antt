use Rattle.std.proofs.Common.{◌≡◌, rules, FitsSigned, w32}
use Rattle.std.specs.Int.{w128}
use Rattle.std.proofs.lemmas.Int.{to_z-of_z}
use Rattle.cil_base.specs.declared.kinds.IntKind.TheVariants.{Int as int}
use Rattle.cil_tree.specs.Declarators.{number}
use Rattle.cil_printer.specs.Output.{puts}
use Rattle.cil_printer.specs.Seen.{tree_of}
use Rattle.cil_printer.proofs.AggregateLines.{enumerator_printed}
use Rattle.cil_printer.proofs.program.Program.push_enumerator.Goals as goal

pub returns : goal.returns
returns c =
    let fits : FitsSigned w32 c.args.m.value = search rules in
    let wide : FitsSigned w128 c.args.m.value = search rules in
    let e : c.push_number.new.out ≡ puts c.token-2.new.self (number int c.args.m.value) = rw (to_z-of_z w32 c.args.m.value fits, to_z-of_z w128 c.args.m.value wide) at c.push_number.ensures in
    enumerator_printed _ _ _ _ _ _ (tree_of c.args.self.now) c.args.m c.requires c.indent.ensures (rw c.name.ensures at c.token.ensures) c.token-2.ensures e c.end.ensures
