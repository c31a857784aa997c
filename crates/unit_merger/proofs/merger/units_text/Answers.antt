use Rattle.std.proofs.Common.{map, subst}
use Rattle.std.specs.String.{string_bytes}
use Rattle.unit_merger.specs.Linking.{IsProgramOf}
use Rattle.unit_merger.proofs.Texts.{text_of_units}
use Rattle.unit_merger.proofs.merger.units_text.Goals as goal

pub returns-clause-text : goal.returns-clause-text
returns-clause-text c =
    text_of_units c.units_printed.result c.args.common c.args.sources.now.units.items (map string_bytes c.args.files.now) c.merged.new.names c.units_printed.new.names c.in_ok-program.program c.units_printed.ensures.text
    (subst (λ us. IsProgramOf c.args.common us (map string_bytes c.args.files.now) c.merged.new.names c.in_ok-program.program) c.deref.ensures.value c.in_ok-program.ensures.program) c.units_printed.ensures.stays
