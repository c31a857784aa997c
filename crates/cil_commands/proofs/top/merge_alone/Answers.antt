use Rattle.std.proofs.Common.{◌≡◌, ◌∷◌, [], ◌∙◌, ap, sym, subst, map, get_or, length, ◌⊎◌, arith}
use Rattle.std.specs.String.{string_bytes}
use Rattle.cil_words.specs.Command.{files_of, merged_files}
use Rattle.cil_lines.specs.declared.status.Status.TheVariants.{ReadFault, Memory}
use Rattle.cil_commands.specs.Merge.{unit_asked, file_under, IsMergeAnswer}
use Rattle.cil_commands.proofs.Answered.{unit_of_merged}
use Rattle.cil_commands.proofs.Written.{program_written, unit_answered}
use Rattle.cil_commands.proofs.Several.{says_alone, few_links}
use Rattle.cil_commands.proofs.Words.{unit_asked_is, merge_file_is, merge_file_alone, merged_alone, one_missing, one_stray, if_some_by, names_begin}
use Rattle.cil_commands.proofs.top.merge_alone.Goals as goal

pub returns-clause-names : goal.returns-clause-names
returns-clause-names g c = λ known. record {
  files = c.merge.ensures.files;
  begin = names_begin c.merge.new.names (map string_bytes c.args.words.now) c.as_str.result.now (string_bytes (get_or c.args.words.now c.args.first c.index-words-first.result))
      (c.merge.ensures.names known) (merge_file_is c.args.words.now c.args._common c.args.first c.index-words-first.result c.requires.command) (c.as_str.ensures.value ∙ ap string_bytes c.index-words-first.is);
  refused = if_some_by (unit_asked (g.F.Files.told c.args.files.now) (map string_bytes c.args.words.now)) (file_under (g.F.Files.told c.args.files.now) c.as_str.result.now) _
      (unit_asked_is (g.F.Files.told c.args.files.now) c.args.words.now c.args._common c.args.first c.index-words-first.result c.requires.command c.requires.last
      ∙ ap (λ name. file_under (g.F.Files.told c.args.files.now) name) (sym (c.as_str.ensures.value ∙ ap string_bytes c.index-words-first.is)))
      c.merge.ensures.refused;
}

pub returns-clause-kind : goal.returns-clause-kind
returns-clause-kind g c =
    subst (λ n. IsMergeAnswer n c.merge.result) (sym (ap length (merge_file_alone c.args.words.now c.args._common c.args.first c.index-words-first.result c.requires.command c.requires.last))) c.merge.ensures.kind

pub returns-clause-units : goal.returns-clause-units
returns-clause-units g c =
    says_alone (g.F.Files.told c.args.files.now) c.as_str.result.now (merged_files (map string_bytes c.args.words.now)) c.merge.result c.merge.new.names
    (merged_alone c.args.words.now c.args._common c.args.first c.index-words-first.result c.requires.command c.requires.last ∙ ap (λ name. name ∷ []) (sym (c.as_str.ensures.value ∙ ap string_bytes c.index-words-first.is)))
    c.merge.ensures.names c.merge.ensures.files
    (λ s. unit_of_merged (file_under (g.F.Files.told c.args.files.now) c.as_str.result.now) (c.merge.ensures.done s).0 (c.merge.ensures.done s).3)
    (λ s. unit_of_merged (file_under (g.F.Files.told c.args.files.now) c.as_str.result.now) (c.merge.ensures.part s).0 (c.merge.ensures.part s).3)
    c.merge.ensures.refused

pub returns-clause-links : goal.returns-clause-links
returns-clause-links g c =
    few_links (g.F.Files.told c.args.files.now) (map string_bytes c.args.words.now) (string_bytes (get_or c.args.words.now c.args.first c.index-words-first.result) ∷ []) c.merge.new.names c.merge.result _ _
    (merged_alone c.args.words.now c.args._common c.args.first c.index-words-first.result c.requires.command c.requires.last) (omega arith)

pub returns-clause-written : goal.returns-clause-written
returns-clause-written g c =
    program_written (unit_asked (g.F.Files.told c.args.files.now) (map string_bytes c.args.words.now)) (file_under (g.F.Files.told c.args.files.now) c.as_str.result.now) c.merge.result (g.O.Sink.taken c.args.out.now) (g.O.Sink.taken c.merge.new.out)
    (unit_asked_is (g.F.Files.told c.args.files.now) c.args.words.now c.args._common c.args.first c.index-words-first.result c.requires.command c.requires.last
    ∙ ap (λ name. file_under (g.F.Files.told c.args.files.now) name) (sym (c.as_str.ensures.value ∙ ap string_bytes c.index-words-first.is)))
    c.merge.ensures.done c.merge.ensures.part

pub returns-clause-unit : goal.returns-clause-unit
returns-clause-unit g c =
    unit_answered 1 (unit_asked (g.F.Files.told c.args.files.now) (map string_bytes c.args.words.now)) (file_under (g.F.Files.told c.args.files.now) c.as_str.result.now) c.merge.result c.merge.new.names _ _ (g.O.Sink.taken c.args.out.now) (g.O.Sink.taken c.merge.new.out)
    (unit_asked_is (g.F.Files.told c.args.files.now) c.args.words.now c.args._common c.args.first c.index-words-first.result c.requires.command c.requires.last
    ∙ ap (λ name. file_under (g.F.Files.told c.args.files.now) name) (sym (c.as_str.ensures.value ∙ ap string_bytes c.index-words-first.is)))
    c.merge.ensures.kind c.merge.ensures.reads.failed c.merge.ensures.writes.failed c.merge.ensures.done c.merge.ensures.part c.merge.ensures.refused

pub returns-clause-leaves : goal.returns-clause-leaves
returns-clause-leaves g c =
    let alone = merge_file_alone c.args.words.now c.args._common c.args.first c.index-words-first.result c.requires.command c.requires.last ∙ ap (λ name. name ∷ []) (sym (c.as_str.ensures.value ∙ ap string_bytes c.index-words-first.is)) in
    record {
      missing = one_missing (g.F.Files.told c.args.files.now) (files_of (map string_bytes c.args.words.now)) c.as_str.result.now ((c.merge.result ≡ ReadFault) ⊎ (c.merge.result ≡ Memory)) alone c.merge.ensures.missing;
      names_stay = c.merge.ensures.names_stay;
      strays_stay = one_stray (g.F.Files.told c.args.files.now) (files_of (map string_bytes c.args.words.now)) c.as_str.result.now (g.F.Files.strays c.merge.new.files ≡ g.F.Files.strays c.args.files.now) alone c.merge.ensures.strays;
    }
