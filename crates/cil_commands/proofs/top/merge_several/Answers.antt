use Rattle.std.proofs.Common.{◌<◌, ◌∙◌, ap, sym, subst, map, length, arith, rules, IfSome, None}
use Rattle.std.specs.String.{string_bytes}
use Rattle.std.proofs.lemmas.List.{take_rest, length-drop}
use Rattle.cil_words.specs.Command.{merged_files}
use Rattle.cil_sources.specs.Files.{all_under}
use Rattle.cil_sources.specs.Units.{kept}
use Rattle.cil_commands.specs.Merge.{unit_asked}
use Rattle.cil_commands.specs.Calls.{LeavesFiles}
use Rattle.cil_commands.specs.Written.{WritesProgram}
use Rattle.cil_commands.specs.Several.{SaysOfUnits, SaysOfLinks}
use Rattle.cil_commands.proofs.Words.{merge_within, merge_files_are, merged_several, common_is, several_asked, several_begin, if_some_by}
use Rattle.cil_commands.proofs.Written.{none_answered}
use Rattle.cil_commands.proofs.top.merge_several.Goals as goal

pub slice_bounds-merge_all-count : goal.slice_bounds-merge_all-count
slice_bounds-merge_all-count g c = omega (arith, merge_within c.args.words.now c.args.common c.args.first c.requires.command)

pub slice_bounds-merge_all-start : goal.slice_bounds-merge_all-start
slice_bounds-merge_all-start g c =
    let within = merge_within c.args.words.now c.args.common c.args.first c.requires.command in
    search rules

pub merge_all-requires-clause-some : goal.merge_all-requires-clause-some
merge_all-requires-clause-some g c =
    subst (λ ws. 0 < length ws) (sym (take_rest c.args.words.now c.args.first)) (omega (arith, length-drop c.args.first c.args.words.now, merge_within c.args.words.now c.args.common c.args.first c.requires.command))

pub returns-clause-names : goal.returns-clause-names
returns-clause-names g c = λ known. record {
  files = c.merge_all.ensures.files;
  begin = several_begin c.args.words.now c.args.common c.args.first c.merge_all.new.names c.requires.command (λ file more is. c.merge_all.ensures.names known file more (ap (map string_bytes) (take_rest c.args.words.now c.args.first) ∙ is));
  refused = if_some_by (unit_asked (g.F.Files.told c.args.files.now) (map string_bytes c.args.words.now)) None _ (several_asked (g.F.Files.told c.args.files.now) c.args.words.now c.args.common c.args.first c.requires.command c.requires.several) tt;
}

pub returns-clause-units : goal.returns-clause-units
returns-clause-units g c =
    subst (λ ns. IfSome (all_under (g.F.Files.told c.args.files.now) ns) (λ units. SaysOfUnits units ns c.merge_all.new.names c.merge_all.result))
    (ap (map string_bytes) (take_rest c.args.words.now c.args.first) ∙ sym (merged_several c.args.words.now c.args.common c.args.first c.requires.command)) c.merge_all.ensures.units

pub returns-clause-links : goal.returns-clause-links
returns-clause-links g c = λ several.
    (subst (λ common. IfSome (all_under (g.F.Files.told c.args.files.now) (merged_files (map string_bytes c.args.words.now))) (λ units. SaysOfLinks common (kept 0 units).units (merged_files (map string_bytes c.args.words.now)) c.merge_all.new.names c.merge_all.result (g.O.Sink.taken c.args.out.now) (g.O.Sink.taken c.merge_all.new.out)))
    (sym (common_is c.args.words.now c.args.common c.args.first c.requires.command))
    (subst (λ ns. IfSome (all_under (g.F.Files.told c.args.files.now) ns) (λ units. SaysOfLinks c.args.common (kept 0 units).units ns c.merge_all.new.names c.merge_all.result (g.O.Sink.taken c.args.out.now) (g.O.Sink.taken c.merge_all.new.out)))
    (ap (map string_bytes) (take_rest c.args.words.now c.args.first) ∙ sym (merged_several c.args.words.now c.args.common c.args.first c.requires.command)) c.merge_all.ensures.links))

pub returns-clause-unit : goal.returns-clause-unit
returns-clause-unit g c = none_answered (unit_asked (g.F.Files.told c.args.files.now) (map string_bytes c.args.words.now)) c.merge_all.result _ _ (several_asked (g.F.Files.told c.args.files.now) c.args.words.now c.args.common c.args.first c.requires.command c.requires.several)

pub returns-clause-written : goal.returns-clause-written
returns-clause-written g c =
    subst (λ asked. WritesProgram asked c.merge_all.result (g.O.Sink.taken c.args.out.now) (g.O.Sink.taken c.merge_all.new.out))
    (sym (several_asked (g.F.Files.told c.args.files.now) c.args.words.now c.args.common c.args.first c.requires.command c.requires.several)) c.merge_all.ensures.written

pub returns-clause-leaves : goal.returns-clause-leaves
returns-clause-leaves g c =
    subst (λ ns. LeavesFiles c.merge_all.result ns (g.F.Files.told c.args.files.now) (g.F.Files.told c.merge_all.new.files) (g.F.Files.strays c.args.files.now) (g.F.Files.strays c.merge_all.new.files))
    (ap (map string_bytes) (take_rest c.args.words.now c.args.first) ∙ sym (merge_files_are c.args.words.now c.args.common c.args.first c.requires.command)) c.merge_all.ensures.leaves
