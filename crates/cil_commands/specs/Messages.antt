-- Definition: the names whose numbers stand in an answer (own).
use Rattle.std.specs.Prelude.{◌≡◌, ℕ, List, ◌++◌, length, Option, IfSome}
use Rattle.std.specs.Option.{option_to_list}
use Rattle.outside.specs.Named.{Told}
use Rattle.cil_words.specs.Command.{file_of}
use Rattle.cil_lines.specs.declared.status.Status.{Status}
use Rattle.cil_lines.specs.Messages.{HasFiles}
use Rattle.cil_commands.specs.Several.{UnitsSay, LinksSay, SampledSays}
use Rattle.cil_commands.specs.Merge.{unit_asked, IsRefused, IfRefused}

-- the first name: that of the file
abbrev pub names_asked : List (List ℕ) → List (List ℕ)
names_asked words = option_to_list (file_of words)

-- names that begin with some
pub record Begins (first names : List (List ℕ)) : Type 0 where
  pub more : List (List ℕ)
  pub is : names ≡ first ++ more

-- the names whose numbers stand in a status: that of the file, and those that were asked for until a token was refused
pub record AreNames (told : Option Told) (words : List (List ℕ)) (status : Status) (names : List (List ℕ)) : Type 0 where
  pub begin : Begins (names_asked words) names
  pub files : HasFiles (length names) status
  pub refused : IfSome (unit_asked told words) (λ unit. IfRefused status (λ refusal. IsRefused unit refusal names))

-- what a status says of the units and of their program with the names whose numbers stand in it, where out had taken `taken` and has taken `taken'`: the file of each place is named as the tokens of its unit have it
pub record SaysWith (told : Option Told) (words : List (List ℕ)) (status : Status) (names : List (List ℕ)) (taken taken' : Option (List ℕ)) : Type 0 where
  pub units : UnitsSay told words names status
  pub links : LinksSay told words names status taken taken'
  pub sampled : SampledSays words names status taken taken'
