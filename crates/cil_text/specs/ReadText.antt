-- Device: the executable reading of bytes: lines, the words of each, and the program that they say.
use Rattle.std.specs.Prelude.{ℕ, List, [], Option, map}
use Rattle.cil_base.specs.declared.kinds.Abi.{Abi}
use Rattle.cil_tree.specs.LaidOut.{lines_from, pieces_of}
use Rattle.cil_text.specs.Words.{Word, onto}
use Rattle.cil_text.specs.ReadAggregates.{Lines}
use Rattle.cil_text.specs.ReadGlobals.{Seen, read_lines}

-- the words of a line, by its bytes
abbrev pub line_words : List ℕ → List Word
line_words line = onto (pieces_of line) []

abbrev pub words_in : List ℕ → Lines
words_in bytes = map line_words (lines_from [] bytes)

-- what the text says of a program of the data model: its aggregates and its globals; n bounds the depth of what is read
abbrev pub read_text : Abi → ℕ → List ℕ → Option Seen
read_text abi n bytes = read_lines abi n (words_in bytes)
