use Rattle.cil_sources.specs.Files.{bytes_under}
use Rattle.cil_commands.proofs.Units.{begun_names, merge_refused}
use Rattle.cil_commands.proofs.merge.merge.Goals as goal

pub returns-in-Ok-read_file-clause-names : goal.returns-in-Ok-read_file-clause-names
returns-in-Ok-read_file-clause-names g c = λ known.
    begun_names c.args.names.now c.intern.new.self c.merge_unit.new.names c.args.name.now c.as_bytes.result.now _ c.requires c.as_bytes.ensures.value c.in-Ok.ensures.ok c.merge_unit.ensures.stays

pub returns-in-Ok-read_file-clause-refused : goal.returns-in-Ok-read_file-clause-refused
returns-in-Ok-read_file-clause-refused g c =
    merge_refused (bytes_under (g.F.Files.told c.args.files.now) c.args.name.now) c.args.names.now c.intern.new.self c.merge_unit.new.names c.args.name.now c.as_bytes.result.now c.in-Ok-read_file.unit.items c.deref.result.now _ c.merge_unit.result
    c.requires c.as_bytes.ensures.value c.in-Ok.ensures.ok c.deref.ensures.value c.in-Ok-read_file.ensures.ok c.merge_unit.ensures.refused
