use Rattle.std.proofs.Common.{◌≡◌, ◌∷◌, [], ◌⊎◌, ◌∙◌, ap, sym, map, get_or, length, arith, rules}
use Rattle.std.proofs.lemmas.List.{take_rest}
use Rattle.std.specs.String.{string_bytes}
use Rattle.cil_words.specs.Command.{files_of}
use Rattle.cil_lines.specs.declared.status.Status.TheVariants.{ReadFault, Memory}
use Rattle.cil_commands.proofs.Ran.{run_kind, run_files, read_failed}
use Rattle.cil_commands.proofs.Words.{run_within, run_file_is, run_files_are, run_is_asked, no_unit_asked, asked_run, one_missing, one_stray, run_names}
use Rattle.cil_commands.proofs.Several.{says_other, run_not_refused, few_links}
use Rattle.cil_commands.proofs.Words.{merged_by_run}
use Rattle.cil_commands.proofs.top.run_words.Goals as goal

pub returns-clause-kind : goal.returns-clause-kind
returns-clause-kind g c = run_kind _ _ _ _ _ _ c.execute.result _ _ _ _ c.execute.ensures.says

pub returns-clause-names : goal.returns-clause-names
returns-clause-names g c = λ known.
    run_names (g.F.Files.told c.args.files.now) (map string_bytes c.args.words.now) c.execute.new.names c.execute.result c.args.steps c.args.file c.as_str.result.now (string_bytes (get_or c.args.words.now c.args.file c.index-words-file.result))
    c.requires.command (c.execute.ensures.names known) (run_file_is c.args.words.now c.args.steps c.args.file c.index-words-file.result c.requires.command)
    (c.as_str.ensures.value ∙ ap string_bytes c.index-words-file.is) (run_files c.execute.result (length c.execute.new.names) (run_kind _ _ _ _ _ _ c.execute.result _ _ _ _ c.execute.ensures.says))

pub returns-clause-files : goal.returns-clause-files
returns-clause-files g c = run_files c.execute.result (length c.execute.new.names) (run_kind _ _ _ _ _ _ c.execute.result _ _ _ _ c.execute.ensures.says)

pub returns-clause-ran : goal.returns-clause-ran
returns-clause-ran g c =
    asked_run _ _ _ (g.F.Files.told c.args.files.now) c.args.words.now _ c.args.steps c.args.file c.index-words-file.result c.as_str.result.now c.execute.result _ _ _ _
    c.requires.command (c.as_str.ensures.value ∙ ap string_bytes c.index-words-file.is) (take_rest c.args.words.now c.args.file) c.execute.ensures.says

pub returns-clause-named : goal.returns-clause-named
returns-clause-named g c = run_is_asked c.args.words.now c.args.steps c.args.file c.index-words-file.result c.requires.command

pub returns-clause-read : goal.returns-clause-read
returns-clause-read g c = read_failed _ _ _ _ _ _ _ _ c.execute.result _ _ _ _ c.execute.ensures.says (returns-clause-named g c)

pub slice_bounds-args-count : goal.slice_bounds-args-count
slice_bounds-args-count g c = omega (arith, run_within c.args.words.now c.args.steps c.args.file c.requires.command)

pub slice_bounds-args-start : goal.slice_bounds-args-start
slice_bounds-args-start g c =
    let within = run_within c.args.words.now c.args.steps c.args.file c.requires.command in
    search rules

pub bounds-words-file : goal.bounds-words-file
bounds-words-file g c = run_within c.args.words.now c.args.steps c.args.file c.requires.command

pub returns-clause-units : goal.returns-clause-units
returns-clause-units g c =
    says_other (g.F.Files.told c.args.files.now) (map string_bytes c.args.words.now) c.execute.new.names c.execute.result (merged_by_run (map string_bytes c.args.words.now) c.args.steps c.args.file c.requires.command) (run_not_refused c.execute.result (returns-clause-kind g c))

pub returns-clause-links : goal.returns-clause-links
returns-clause-links g c =
    few_links (g.F.Files.told c.args.files.now) (map string_bytes c.args.words.now) [] c.execute.new.names c.execute.result _ _ (merged_by_run (map string_bytes c.args.words.now) c.args.steps c.args.file c.requires.command) (omega arith)

pub returns-clause-leaves : goal.returns-clause-leaves
returns-clause-leaves g c = record {
  missing =
      one_missing (g.F.Files.told c.args.files.now) (files_of (map string_bytes c.args.words.now)) c.as_str.result.now ((c.execute.result ≡ ReadFault) ⊎ (c.execute.result ≡ Memory))
      (run_files_are c.args.words.now c.args.steps c.args.file c.index-words-file.result c.requires.command ∙ ap (λ name. name ∷ []) (sym (c.as_str.ensures.value ∙ ap string_bytes c.index-words-file.is)))
      c.execute.ensures.missing;
  names_stay = c.execute.ensures.names_stay;
  strays_stay =
      one_stray (g.F.Files.told c.args.files.now) (files_of (map string_bytes c.args.words.now)) c.as_str.result.now (g.F.Files.strays c.execute.new.files ≡ g.F.Files.strays c.args.files.now)
      (run_files_are c.args.words.now c.args.steps c.args.file c.index-words-file.result c.requires.command ∙ ap (λ name. name ∷ []) (sym (c.as_str.ensures.value ∙ ap string_bytes c.index-words-file.is)))
      c.execute.ensures.strays;
}

pub returns-clause-no_unit : goal.returns-clause-no_unit
returns-clause-no_unit g c = no_unit_asked (g.F.Files.told c.args.files.now) (map string_bytes c.args.words.now) c.args.steps c.args.file c.requires.command
