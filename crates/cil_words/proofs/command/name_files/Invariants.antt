use Rattle.std.proofs.Common.{◌≡◌, map, drop}
use Rattle.std.specs.List.{list_all}
use Rattle.std.specs.String.{string_bytes}
use Rattle.cil_words.specs.Command.{names_file}
use Rattle.cil_words.proofs.command.name_files.Given as goal

-- what is left to test decides
abbrev pub invariant-loop-word : goal.invariant-loop-word
invariant-loop-word l = list_all names_file (map string_bytes (drop l.word-index l.words)) ≡ list_all names_file (map string_bytes l.words)
