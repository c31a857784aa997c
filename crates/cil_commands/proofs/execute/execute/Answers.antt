use Rattle.std.proofs.Common.{◌≡◌, ◌≢◌, Ok, Err, map, sym, subst, IfSome}
use Rattle.std.specs.String.{string_bytes}
use Rattle.outside.specs.Counts.{Rose}
use Rattle.outside.specs.declared.transfer.ReadStop.TheVariants.{Failed}
use Rattle.cil_sources.specs.Files.{bytes_under, IsFrontOf}
use Rattle.cil_commands.proofs.LongTexts.{says_file}
use Rattle.cil_commands.proofs.execute.execute.Goals as goal

pub returns-in-Ok-clause-says : goal.returns-in-Ok-clause-says
returns-in-Ok-clause-says g c =
    let read : Ok c.in-Ok.bytes ≢ Err Failed = λ e. cc in
    says_file ((c.run_text.new.input ≡ c.args.input.now) × (c.run_text.new.out ≡ c.args.out.now)) (Rose (g.F.Files.faults c.args.files.now) (g.F.Files.faults c.read_file.new.files))
    (Rose (g.I.Source.faults c.args.input.now) (g.I.Source.faults c.run_text.new.input)) ((g.F.Files.faults c.read_file.new.files ≡ g.F.Files.faults c.args.files.now) × Rose (g.I.Source.faults c.args.input.now) (g.I.Source.faults c.run_text.new.input))
    (bytes_under (g.F.Files.told c.args.files.now) c.args.name.now) c.deref.result.now (map string_bytes c.args.words.now) c.args.steps c.run_text.result
    (g.I.Source.left c.args.input.now) (g.I.Source.left c.run_text.new.input) (g.O.Sink.taken c.args.out.now) (g.O.Sink.taken c.run_text.new.out)
    (subst (λ bytes. IfSome (bytes_under (g.F.Files.told c.args.files.now) c.args.name.now) (IsFrontOf 268435457 bytes)) (sym c.deref.ensures.value) c.in-Ok.ensures.ok)
    (λ rose. (c.in-Ok.ensures.calm read, rose))
    c.run_text.ensures.says
