use Rattle.std.proofs.Common.{rules, ◌<◌, ℕ, List, length}
use Rattle.cil_base.specs.Limits.{text_bytes}
use Rattle.cil_tree.specs.View.{program_of}
use Rattle.cil_tree.specs.Text.{Text}
use Rattle.cil_tree.specs.Programs.{IsProgram}
use Rattle.merge_refusals.specs.Refusals.{IsTooLong}
use Rattle.unit_merger.proofs.InOrder.{of_length}
use Rattle.unit_merger.proofs.printing.unit_printed.Goals as goal

pub returns-in_ok-first_place-in-None-clause-cause : goal.returns-in_ok-first_place-in-None-clause-cause
returns-in_ok-first_place-in-None-clause-cause c =
    let formed : IsProgram (program_of c.args.names.now c.args.program.now) = search rules in
    let longer : text_bytes < length (Text (program_of c.args.names.now c.args.program.now)) = search rules in
    let long : IsTooLong c.in_ok-first_place-in-None.field-0 = search rules in
    λ before of. of_length (List ℕ) c.too_long.result c.args.tokens.now before c.in_ok-first_place-in-None.field-0 (record { pool = c.args.names.now; program = c.args.program.now; of = of; formed = formed; long = longer }) long c.in_ok-first_place-in-None.ensures.at c.too_long.ensures.long c.too_long.ensures.place
    c.too_long.ensures.alone
