use Rattle.std.proofs.Common.{rules, ◌<◌, ℕ, List, length, map}
use Rattle.std.specs.String.{string_bytes}
use Rattle.cil_base.specs.Limits.{text_bytes}
use Rattle.cil_tree.specs.View.{program_of}
use Rattle.cil_tree.specs.Text.{Text}
use Rattle.cil_tree.specs.Programs.{IsProgram}
use Rattle.unit_merger.proofs.Texts.{are_long}
use Rattle.unit_merger.proofs.printing.units_printed.Goals as goal

pub returns-in_ok-place-in-None-clause-are_long : goal.returns-in_ok-place-in-None-clause-are_long
returns-in_ok-place-in-None-clause-are_long c =
    let formed : IsProgram (program_of c.args.names.now c.args.program.now) = search rules in
    let longer : text_bytes < length (Text (program_of c.args.names.now c.args.program.now)) = search rules in
    λ common of. are_long (List ℕ) c.too_long.result common c.args.units.now (map string_bytes c.args.files.now) c.args.names.now c.place_in.new.names c.args.program.now of c.place_in.ensures.stays formed longer
